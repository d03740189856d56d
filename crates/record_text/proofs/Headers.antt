-- The first four lines of a text.
use Rattle.std.proofs.Common.{◌≡◌, refl, sym, ap, ◌∙◌, subst, ℕ, ◌^◌, ◌<◌, Bool, true, List, [], ◌∷◌, ◌++◌, Option, Result, IfErr, arith, append_assoc}
use Rattle.std.specs.Result.{IsErrAnd}
use Rattle.std.proofs.lemmas.Bool.{false≢true}
use Rattle.record_text.specs.declared.line.Form.{Form}
use Rattle.record_text.specs.declared.line.Form.TheVariants.{One}
use Rattle.record_text.specs.TextLines.{TextLine}
use Rattle.record_text.specs.TextLines as T
use Rattle.record_text.specs.declared.found.Wanted.{Wanted}
use Rattle.record_text.specs.declared.found.Wanted.TheVariants as W
use Rattle.record_text.specs.declared.stop.VerifyStop.{VerifyStop}
use Rattle.record_text.specs.declared.header.Header.{Header}
use Rattle.record_text.specs.Header.{undecided_of, form_told, number_of}
use Rattle.record_text.specs.Lines.{AllShort}
use Rattle.record_text.specs.Reader.{wants, NoneWanted, Reading, GivesLine, Stops}
use Rattle.record_text.specs.Text.{MayBegin}
use Rattle.record_text.specs.Nodes.{no_nodes, lines_so_far}
use Rattle.record_text.specs.Progress.{fresh, HasRead, Stopped}
use Rattle.record_text.proofs.Grammar.{none_read}
use Rattle.record_text.proofs.Refusing.{so_far_begins}
use Rattle.record_text.proofs.Progress.{has_read_none, has_read_more, stopped_exit}

-- ---- which line it is

pub is_head : (l : TextLine) → wants W.Head l ≡ true → l ≡ T.Head (undecided_of l) (form_told l)
is_head (T.Head u f) h = refl
is_head (T.Slots n) h = absurd (false≢true h)
is_head (T.Rules n) h = absurd (false≢true h)
is_head (T.Room n) h = absurd (false≢true h)
is_head (T.Cut side slot v) h = absurd (false≢true h)
is_head (T.Close rule) h = absurd (false≢true h)
is_head (T.Sum picks) h = absurd (false≢true h)
is_head T.Open h = absurd (false≢true h)
is_head T.End h = absurd (false≢true h)

pub is_slots : (l : TextLine) → wants W.Slots l ≡ true → l ≡ T.Slots (number_of l)
is_slots (T.Head u f) h = absurd (false≢true h)
is_slots (T.Slots n) h = refl
is_slots (T.Rules n) h = absurd (false≢true h)
is_slots (T.Room n) h = absurd (false≢true h)
is_slots (T.Cut side slot v) h = absurd (false≢true h)
is_slots (T.Close rule) h = absurd (false≢true h)
is_slots (T.Sum picks) h = absurd (false≢true h)
is_slots T.Open h = absurd (false≢true h)
is_slots T.End h = absurd (false≢true h)

pub is_rules : (l : TextLine) → wants W.Rules l ≡ true → l ≡ T.Rules (number_of l)
is_rules (T.Head u f) h = absurd (false≢true h)
is_rules (T.Slots n) h = absurd (false≢true h)
is_rules (T.Rules n) h = refl
is_rules (T.Room n) h = absurd (false≢true h)
is_rules (T.Cut side slot v) h = absurd (false≢true h)
is_rules (T.Close rule) h = absurd (false≢true h)
is_rules (T.Sum picks) h = absurd (false≢true h)
is_rules T.Open h = absurd (false≢true h)
is_rules T.End h = absurd (false≢true h)

pub is_room : (l : TextLine) → wants W.Room l ≡ true → l ≡ T.Room (number_of l)
is_room (T.Head u f) h = absurd (false≢true h)
is_room (T.Slots n) h = absurd (false≢true h)
is_room (T.Rules n) h = absurd (false≢true h)
is_room (T.Room n) h = refl
is_room (T.Cut side slot v) h = absurd (false≢true h)
is_room (T.Close rule) h = absurd (false≢true h)
is_room (T.Sum picks) h = absurd (false≢true h)
is_room T.Open h = absurd (false≢true h)
is_room T.End h = absurd (false≢true h)

-- a line of a kind was read
pub as_line : (l m : TextLine) (wanted : Wanted) (y z : Reading) (a b : Option (List ℕ)) → l ≡ m → GivesLine l wanted y z a b → GivesLine m wanted y z a b
as_line l m wanted y z a b same g = subst (λ (k : TextLine). GivesLine k wanted y z a b) same g

-- ---- what may come

pub begins_shorter : (ls : List TextLine) (l : TextLine) → MayBegin (ls ++ l ∷ []) → MayBegin ls
begins_shorter ls l b = record {
  claim = b.claim;
  tree = b.tree;
  form = b.form;
  before_end = b.before_end;
  later = l ∷ b.later;
  whole = b.whole ∙ append_assoc ls (l ∷ []) b.later;
  at_end = λ e. let never : l ∷ b.later ≡ [] = e in absurd (cc);
}

pub header_begins : (h : Header) → AllShort (lines_so_far h []) → MayBegin (lines_so_far h [])
header_begins h short = so_far_begins h [] (no_nodes h.undecided h.form) (none_read h.undecided h.form) (record { undecided = refl; form = refl }) short

pub rules_begin : (u : Bool) (f : Form) (s c : ℕ) → AllShort (T.Head u f ∷ T.Slots s ∷ T.Rules c ∷ []) → MayBegin (T.Head u f ∷ T.Slots s ∷ T.Rules c ∷ [])
rules_begin u f s c short = begins_shorter (T.Head u f ∷ T.Slots s ∷ T.Rules c ∷ []) (T.Room 0)
    (header_begins (record { undecided = u; form = f; slots = s; rules = c; room = 0 }) (short.0, (short.1.0, (short.1.1.0, (few, tt)))))
  where
    few : 0 < 10 ^ 18
    few = omega arith

pub slots_begin : (u : Bool) (f : Form) (s : ℕ) → AllShort (T.Head u f ∷ T.Slots s ∷ []) → MayBegin (T.Head u f ∷ T.Slots s ∷ [])
slots_begin u f s short = begins_shorter (T.Head u f ∷ T.Slots s ∷ []) (T.Rules 0) (rules_begin u f s 0 (short.0, (short.1.0, (few, tt))))
  where
    few : 0 < 10 ^ 18
    few = omega arith

pub head_begins : (u : Bool) (f : Form) → MayBegin (T.Head u f ∷ [])
head_begins u f = begins_shorter (T.Head u f ∷ []) (T.Slots 0) (slots_begin u f 0 (tt, (few, tt)))
  where
    few : 0 < 10 ^ 18
    few = omega arith

pub nothing_begins : MayBegin []
nothing_begins = begins_shorter [] (T.Head true One) (head_begins true One)

pub head_next : (l : TextLine) → MayBegin (l ∷ []) → wants W.Head l ≡ true
head_next l b = let is : l ≡ T.Head b.claim.undecided b.form = cc in ap (wants W.Head) is

pub slots_next : (u : Bool) (f : Form) (l : TextLine) → MayBegin (T.Head u f ∷ l ∷ []) → wants W.Slots l ≡ true
slots_next u f l b = let is : l ≡ T.Slots b.claim.slots = cc in ap (wants W.Slots) is

pub rules_next : (u : Bool) (f : Form) (s : ℕ) (l : TextLine) → MayBegin (T.Head u f ∷ T.Slots s ∷ l ∷ []) → wants W.Rules l ≡ true
rules_next u f s l b = let is : l ≡ T.Rules b.claim.rules = cc in ap (wants W.Rules) is

pub room_next : (u : Bool) (f : Form) (s c : ℕ) (l : TextLine) → MayBegin (T.Head u f ∷ T.Slots s ∷ T.Rules c ∷ l ∷ []) → wants W.Room l ≡ true
room_next u f s c l b = let is : l ≡ T.Room b.claim.room = cc in ap (wants W.Room) is

-- ---- step by step

pub read_head : (head : TextLine) (x y : Reading) (l m : Option (List ℕ)) → GivesLine head W.Head x y l m → HasRead (T.Head (undecided_of head) (form_told head) ∷ []) x y l m
read_head head x y l m g = has_read_more [] (T.Head (undecided_of head) (form_told head)) W.Head x x y l l m (has_read_none x l) (as_line head _ W.Head x y l m (is_head head g.is_wanted) g)

module _ (u : Bool) (f : Form) (x y z : Reading) (l m n : Option (List ℕ)) where
  pub read_slots : (line : TextLine) → HasRead (T.Head u f ∷ []) x y l m → GivesLine line W.Slots y z m n → HasRead (T.Head u f ∷ T.Slots (number_of line) ∷ []) x z l n
  read_slots line r g = has_read_more (T.Head u f ∷ []) (T.Slots (number_of line)) W.Slots x y z l m n r (as_line line _ W.Slots y z m n (is_slots line g.is_wanted) g)

  pub read_rules : (s : ℕ) (line : TextLine) → HasRead (T.Head u f ∷ T.Slots s ∷ []) x y l m → GivesLine line W.Rules y z m n
      → HasRead (T.Head u f ∷ T.Slots s ∷ T.Rules (number_of line) ∷ []) x z l n
  read_rules s line r g = has_read_more (T.Head u f ∷ T.Slots s ∷ []) (T.Rules (number_of line)) W.Rules x y z l m n r (as_line line _ W.Rules y z m n (is_rules line g.is_wanted) g)

  pub read_room : (s c : ℕ) (line : TextLine) → HasRead (T.Head u f ∷ T.Slots s ∷ T.Rules c ∷ []) x y l m → GivesLine line W.Room y z m n
      → HasRead (T.Head u f ∷ T.Slots s ∷ T.Rules c ∷ T.Room (number_of line) ∷ []) x z l n
  read_room s c line r g = has_read_more (T.Head u f ∷ T.Slots s ∷ T.Rules c ∷ []) (T.Room (number_of line)) W.Room x y z l m n r (as_line line _ W.Room y z m n (is_room line g.is_wanted) g)

no_head_end : (u : Bool) (f : Form) → T.Head u f ≡ T.End → ⊥
no_head_end u f e = cc

no_slots_end : (s : ℕ) → T.Slots s ≡ T.End → ⊥
no_slots_end s e = cc

no_rules_end : (c : ℕ) → T.Rules c ≡ T.End → ⊥
no_rules_end c e = cc

module _ {A : Type 0} (r : Result A VerifyStop) (stop : VerifyStop) (x y : Reading) (l m n : Option (List ℕ)) (is : x ≡ fresh) (same : IsErrAnd r (λ e. e ≡ stop)) where
  pub stop_head : y ≡ x → l ≡ m → Stops stop (NoneWanted W.Head) y m n → IfErr r (λ e. Stopped e l n)
  stop_head at_ left s = stopped_exit r stop [] W.Head x x l l n is (has_read_none x l) nothing_begins tt head_next same
      (subst (λ (a : Reading). Stops stop (NoneWanted W.Head) a l n) at_ (subst (λ (k : Option (List ℕ)). Stops stop (NoneWanted W.Head) y k n) (sym left) s))

  pub stop_slots : (u : Bool) (f : Form) → HasRead (T.Head u f ∷ []) x y l m → Stops stop (NoneWanted W.Slots) y m n → IfErr r (λ e. Stopped e l n)
  stop_slots u f read s = stopped_exit r stop (T.Head u f ∷ []) W.Slots x y l m n is read (head_begins u f) (no_head_end u f, tt) (slots_next u f) same s

  pub stop_rules : (u : Bool) (f : Form) (k : ℕ) → HasRead (T.Head u f ∷ T.Slots k ∷ []) x y l m → Stops stop (NoneWanted W.Rules) y m n → IfErr r (λ e. Stopped e l n)
  stop_rules u f k read s = stopped_exit r stop (T.Head u f ∷ T.Slots k ∷ []) W.Rules x y l m n is read (slots_begin u f k read.short) (no_head_end u f, (no_slots_end k, tt)) (rules_next u f k) same s

  pub stop_room : (u : Bool) (f : Form) (k c : ℕ) → HasRead (T.Head u f ∷ T.Slots k ∷ T.Rules c ∷ []) x y l m → Stops stop (NoneWanted W.Room) y m n → IfErr r (λ e. Stopped e l n)
  stop_room u f k c read s = stopped_exit r stop (T.Head u f ∷ T.Slots k ∷ T.Rules c ∷ []) W.Room x y l m n is read (rules_begin u f k c read.short)
      (no_head_end u f, (no_slots_end k, (no_rules_end c, tt))) (room_next u f k c) same s
