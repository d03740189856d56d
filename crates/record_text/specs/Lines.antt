-- The lines of a record's text, and how each is spelled.
use Rattle.std.specs.Prelude.{◌≡◌, ℕ, ◌==◌, Bool, true, false, not, ◌<◌, ◌^◌, List, [], ◌∷◌, ◌++◌, codes, decimal, unsigned_abs, ℤ, ⊤}
use Rattle.std.specs.List.{list_all}
use Rattle.std.specs.Fmt.{signed_decimal}
use Rattle.box_eval.specs.declared.cut.Side.{Side}
use Rattle.box_eval.specs.declared.cut.Side.TheVariants.{Low, High}
use Rattle.linear_sums.specs.declared.pick.Pick.{Pick}
use Rattle.record_trees.specs.Record.{may_stand}
use Rattle.record_text.specs.declared.line.Form.{Form}
use Rattle.record_text.specs.declared.line.Form.TheVariants.{One, Two}
use Rattle.record_text.specs.TextLines.{TextLine}
use Rattle.record_text.specs.TextLines.{Head, Slots, Rules, Room, Cut, Close, Sum, Open, End}

-- a cut's slot and value, with a space between them
abbrev pub slot_and_value : ℕ → ℤ → List ℕ
slot_and_value slot v = decimal slot ++ 32 ∷ signed_decimal v

-- the word that a cut's line begins with
abbrev pub word_of : Side → List ℕ
word_of Low = codes "low "
word_of High = codes "high "

abbrev pub is_two : Form → Bool
is_two One = false
is_two Two = true

-- the heading of a form
abbrev pub heading_of : Bool → Form → List ℕ
heading_of true One = codes "osc-undecided 1"
heading_of true Two = codes "osc-undecided 2"
heading_of false One = codes "osc-refutation 1"
heading_of false Two = codes "osc-refutation 2"

-- a rule of a sum: how often it is taken, and its number
abbrev pub spelled_pick : Pick → List ℕ
spelled_pick p = 32 ∷ (decimal p.times ++ 32 ∷ decimal p.rule)

abbrev pub spelled_picks : List Pick → List ℕ
spelled_picks [] = []
spelled_picks (p ∷ ps) = spelled_pick p ++ spelled_picks ps

-- the bytes of a line, without the line feed at its end
abbrev pub spelled : TextLine → List ℕ
spelled (Head undecided form) = heading_of undecided form
spelled (Slots n) = codes "slots " ++ decimal n
spelled (Rules n) = codes "rules " ++ decimal n
spelled (Room n) = codes "room " ++ decimal n
spelled (Cut side slot v) = word_of side ++ slot_and_value slot v
spelled (Close rule) = codes "close " ++ decimal rule
spelled (Sum picks) = codes "sum" ++ spelled_picks picks
spelled Open = codes "open"
spelled End = codes "end"

-- a number of at most 18 digits
abbrev pub IsFewDigits : ℕ → Type 0
IsFewDigits n = n < 10 ^ 18

-- each rule's number has at most 18 digits
abbrev pub HaveFewDigits : List Pick → Type 0
HaveFewDigits [] = ⊤
HaveFewDigits (p ∷ ps) = IsFewDigits p.rule × HaveFewDigits ps

-- each number of the line has at most 18 digits, and the rules of a sum may stand in a line
abbrev pub IsShort : TextLine → Type 0
IsShort (Head undecided form) = ⊤
IsShort (Slots n) = IsFewDigits n
IsShort (Rules n) = IsFewDigits n
IsShort (Room n) = IsFewDigits n
IsShort (Cut side slot v) = IsFewDigits slot × IsFewDigits (unsigned_abs v)
IsShort (Close rule) = IsFewDigits rule
IsShort (Sum picks) = (may_stand picks ≡ true) × HaveFewDigits picks
IsShort Open = ⊤
IsShort End = ⊤

-- a text of lines: each of them and a line feed
abbrev pub text_of : List TextLine → List ℕ
text_of [] = []
text_of (line ∷ lines) = spelled line ++ 10 ∷ text_of lines

-- no byte is a line feed
abbrev pub is_no_feed : ℕ → Bool
is_no_feed byte = not (byte == 10)

abbrev pub NoFeed : List ℕ → Type 0
NoFeed text = list_all is_no_feed text ≡ true

-- each line of a text is short
abbrev pub AllShort : List TextLine → Type 0
AllShort [] = ⊤
AllShort (line ∷ lines) = IsShort line × AllShort lines
