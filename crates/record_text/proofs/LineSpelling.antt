-- What `line_at` reads of a text is the line that is spelled so, and a spelled line has no line feed.
use Rattle.std.proofs.Common.{◌≡◌, refl, sym, ap, subst, ◌∙◌, ℕ, true, false, ◌||◌, List, [], ◌∷◌, ◌++◌, length, drop, Option, Some, None, ℤ, pos, negsuc, suc, arith}
use Rattle.std.specs.Prelude.{codes, decimal, nat_eq, unsigned_abs}
use Rattle.std.specs.Fmt.{signed_decimal}
use Rattle.std.specs.List.{list_all, starts_with}
use Rattle.std.specs.Option.{option_map}
use Rattle.std.specs.Str.{bytes_eq}
use Rattle.std.proofs.lemmas.Bool.Decides.{Decides-eqb}
use Rattle.std.proofs.lemmas.Slice.Eq.{starts_is, bytes_eq-Decides}
use Rattle.std.proofs.lemmas.Fmt.{digits_decimal}
use Rattle.box_eval.specs.declared.cut.Side.{Side}
use Rattle.record_text.specs.TextLines.{TextLine}
use Rattle.record_text.specs.TextLines.{Head, Slots, Rules, Room, Cut, Close, Sum, Open, End}
use Rattle.record_text.specs.declared.line.Form.TheVariants.{One, Two}
use Rattle.linear_sums.specs.declared.pick.Pick.{Pick}
use Rattle.record_text.specs.Scan.{is_digit, natural_at, cut_at, sum_at, word_at, heading_at, line_at}
use Rattle.record_text.specs.Lines.{IsFewDigits, HaveFewDigits, IsShort, slot_and_value, spelled_pick, spelled_picks, word_of, spelled, is_no_feed, NoFeed}
use Rattle.record_text.proofs.Numerals.{own}
use Rattle.record_text.proofs.SumSpelling.{AreFewTimes, few_stand, IsSumText, sum_takes, sum_again}
use Rattle.record_text.proofs.Spelling.{chosen, natural_takes, natural_again, IsCutText, cut_takes, cut_again}

-- ---- what is read is spelled so

abbrev pub IsLine : List ℕ → TextLine → Type 0
IsLine text line = IsShort line × (text ≡ spelled line)

starts : (text word : List ℕ) → starts_with nat_eq text word ≡ true → text ≡ word ++ drop (length word) text
starts text word h = (starts_is Decides-eqb text word (starts_with nat_eq text word) refl).0 h

is_text : (text word : List ℕ) → bytes_eq text word ≡ true → text ≡ word
is_text text word h = (bytes_eq-Decides text word).0 h

-- a word and a number
numbered : (text word : List ℕ) (make : ℕ → TextLine) (line : TextLine) → ((n : ℕ) → IsFewDigits n → IsLine (word ++ decimal n) (make n))
    → starts_with nat_eq text word ≡ true → option_map make (natural_at (drop (length word) text)) ≡ Some line → IsLine text line
numbered text word make line is first read = number (natural_at (drop (length word) text)) refl read
  where
    number : (o : Option ℕ) → natural_at (drop (length word) text) ≡ o → option_map make o ≡ Some line → IsLine text line
    number None n e = let never : ⊥ = cc in absurd never
    number (Some m) n e =
        let t : IsFewDigits m × (drop (length word) text ≡ decimal m) = natural_takes (drop (length word) text) m n in
        let same : make m ≡ line = cc in
        let whole : text ≡ word ++ decimal m = starts text word first ∙ ap (λ (ds : List ℕ). word ++ ds) t.1 in
        subst (λ (l : TextLine). IsLine text l) same (subst (λ (bs : List ℕ). IsLine bs (make m)) (sym whole) (is m t.0))

cut_line : (side : Side) (text : List ℕ) (line : TextLine) → starts_with nat_eq text (word_of side) ≡ true → cut_at side (drop (length (word_of side)) text) ≡ Some line → IsLine text line
cut_line side text line first read =
    let c : IsCutText side (drop (length (word_of side)) text) line = cut_takes side (drop (length (word_of side)) text) line read in
    subst (λ (l : TextLine). IsLine text l) (sym c.2)
    ((c.3, c.4), starts text (word_of side) first ∙ ap (λ (bs : List ℕ). word_of side ++ bs) c.5)

sum_line : (text : List ℕ) (line : TextLine) → starts_with nat_eq text (codes "sum") ≡ true → sum_at (drop 3 text) ≡ Some line → IsLine text line
sum_line text line first read =
    let s : IsSumText (drop 3 text) line = sum_takes (drop 3 text) line read in
    subst (λ (l : TextLine). IsLine text l) (sym s.1)
    ((s.2, s.3), starts text (codes "sum") first ∙ ap (λ (bs : List ℕ). codes "sum" ++ bs) s.4)

word_takes : (text : List ℕ) (line : TextLine) → word_at text ≡ Some line → IsLine text line
word_takes text line e = chosen (bytes_eq text (codes "open")) _ _ _ e
    (λ is value. subst (λ (l : TextLine). IsLine text l) (let same : Open ≡ line = cc in same) (tt, is_text text (codes "open") is))
    (λ _ e. chosen (bytes_eq text (codes "end")) _ _ _ e
    (λ is value. subst (λ (l : TextLine). IsLine text l) (let same : End ≡ line = cc in same) (tt, is_text text (codes "end") is))
    (λ _ e. chosen (bytes_eq text (codes "osc-refutation 1")) _ _ _ e
    (λ is value. subst (λ (l : TextLine). IsLine text l) (let same : Head false One ≡ line = cc in same) (tt, is_text text (codes "osc-refutation 1") is))
    (λ _ e. chosen (bytes_eq text (codes "osc-refutation 2")) _ _ _ e
    (λ is value. subst (λ (l : TextLine). IsLine text l) (let same : Head false Two ≡ line = cc in same) (tt, is_text text (codes "osc-refutation 2") is))
    (λ _ e. chosen (bytes_eq text (codes "osc-undecided 1")) _ _ _ e
    (λ is value. subst (λ (l : TextLine). IsLine text l) (let same : Head true One ≡ line = cc in same) (tt, is_text text (codes "osc-undecided 1") is))
    (λ _ e. chosen (bytes_eq text (codes "osc-undecided 2")) _ _ _ e
    (λ is value. subst (λ (l : TextLine). IsLine text l) (let same : Head true Two ≡ line = cc in same) (tt, is_text text (codes "osc-undecided 2") is))
    (λ _ e. let never : ⊥ = cc in absurd never))))))

heading_takes : (text : List ℕ) (line : TextLine) → heading_at text ≡ Some line → IsLine text line
heading_takes text line e = chosen (starts_with nat_eq text (codes "slots ")) _ _ _ e
    (λ is value. numbered text (codes "slots ") Slots line (λ n few. (few, refl)) is value)
    (λ _ e. chosen (starts_with nat_eq text (codes "rules ")) _ _ _ e
    (λ is value. numbered text (codes "rules ") Rules line (λ n few. (few, refl)) is value)
    (λ _ e. chosen (starts_with nat_eq text (codes "room ")) _ _ _ e
    (λ is value. numbered text (codes "room ") Room line (λ n few. (few, refl)) is value)
    (λ _ e. let never : ⊥ = cc in absurd never)))

pub line_takes : (text : List ℕ) (line : TextLine) → line_at text ≡ Some line → IsLine text line
line_takes text line e = chosen (starts_with nat_eq text (codes "low ")) _ _ _ e
    (λ is value. cut_line Side.Low text line is value)
    (λ _ e. chosen (starts_with nat_eq text (codes "high ")) _ _ _ e
    (λ is value. cut_line Side.High text line is value)
    (λ _ e. chosen (starts_with nat_eq text (codes "close ")) _ _ _ e
    (λ is value. numbered text (codes "close ") Close line (λ n few. (few, refl)) is value)
    (λ _ e. chosen (starts_with nat_eq text (codes "sum")) _ _ _ e
    (λ is value. sum_line text line is value)
    (λ _ e. chosen (starts_with nat_eq text (codes "o") || starts_with nat_eq text (codes "e")) _ _ _ e
    (λ is value. word_takes text line value)
    (λ _ e. heading_takes text line e)))))

-- ---- what is spelled is read

pub line_again : (line : TextLine) → IsShort line → line_at (spelled line) ≡ Some line
line_again (Head true One) few = refl
line_again (Head true Two) few = refl
line_again (Head false One) few = refl
line_again (Head false Two) few = refl
line_again (Slots n) few = ap (option_map Slots) (natural_again n few)
line_again (Rules n) few = ap (option_map Rules) (natural_again n few)
line_again (Room n) few = ap (option_map Room) (natural_again n few)
line_again (Cut Side.Low slot v) few = cut_again Side.Low slot v few.0 few.1
line_again (Cut Side.High slot v) few = cut_again Side.High slot v few.0 few.1
line_again (Close rule) few = ap (option_map Close) (natural_again rule few)
line_again (Sum picks) few = sum_again picks few.0 few.1
line_again Open few = refl
line_again End few = refl

-- ---- no line feed within a line

no_feed_both : (a b : List ℕ) → NoFeed a → NoFeed b → NoFeed (a ++ b)
no_feed_both [] b p q = q
no_feed_both (c ∷ a) b p q =
    let first : is_no_feed c ≡ true = grind (arith) in
    let more : NoFeed a = grind (arith) in
    rw (first, no_feed_both a b more q) refl

digit_no_feed : (c : ℕ) → is_digit c ≡ true → is_no_feed c ≡ true
digit_no_feed c h = grind (arith)

digits_no_feed : (ds : List ℕ) → list_all is_digit ds ≡ true → NoFeed ds
digits_no_feed [] h = refl
digits_no_feed (c ∷ ds) h =
    let first : is_digit c ≡ true = grind (arith) in
    let more : list_all is_digit ds ≡ true = grind (arith) in
    rw (digit_no_feed c first, digits_no_feed ds more) refl

decimal_no_feed : (n : ℕ) → IsFewDigits n → NoFeed (decimal n)
decimal_no_feed n few = digits_no_feed (decimal n) (digits_decimal own n (omega (arith, few)))

signed_no_feed : (v : ℤ) → IsFewDigits (unsigned_abs v) → NoFeed (signed_decimal v)
signed_no_feed (pos n) few = decimal_no_feed n few
signed_no_feed (negsuc n) few = decimal_no_feed (suc n) few

cut_no_feed : (slot : ℕ) (v : ℤ) → IsFewDigits slot → IsFewDigits (unsigned_abs v) → NoFeed (slot_and_value slot v)
cut_no_feed slot v few small = no_feed_both (decimal slot) (32 ∷ signed_decimal v) (decimal_no_feed slot few) (signed_no_feed v small)

picks_no_feed : (ps : List Pick) → HaveFewDigits ps → AreFewTimes ps → NoFeed (spelled_picks ps)
picks_no_feed [] few times = refl
picks_no_feed (p ∷ ps) few times =
    let number : IsFewDigits p.times = omega (arith, times.0) in
    let one : NoFeed (spelled_pick p) = no_feed_both (decimal p.times) (32 ∷ decimal p.rule) (decimal_no_feed p.times number) (decimal_no_feed p.rule few.0) in
    no_feed_both (spelled_pick p) (spelled_picks ps) one (picks_no_feed ps few.1 times.1)

pub spelled_no_feed : (line : TextLine) → IsShort line → NoFeed (spelled line)
spelled_no_feed (Head true One) few = refl
spelled_no_feed (Head true Two) few = refl
spelled_no_feed (Head false One) few = refl
spelled_no_feed (Head false Two) few = refl
spelled_no_feed (Slots n) few = decimal_no_feed n few
spelled_no_feed (Rules n) few = decimal_no_feed n few
spelled_no_feed (Room n) few = decimal_no_feed n few
spelled_no_feed (Cut Side.Low slot v) few = cut_no_feed slot v few.0 few.1
spelled_no_feed (Cut Side.High slot v) few = cut_no_feed slot v few.0 few.1
spelled_no_feed (Close rule) few = decimal_no_feed rule few
spelled_no_feed (Sum picks) few = picks_no_feed picks few.1 (few_stand picks few.0).1
spelled_no_feed Open few = refl
spelled_no_feed End few = refl

-- two texts that begin with a line each begin with the same line
pub same_line : (a b xs ys : List ℕ) → NoFeed a → NoFeed b → a ++ 10 ∷ xs ≡ b ++ 10 ∷ ys → (a ≡ b) × (xs ≡ ys)
same_line [] [] xs ys p q e = (refl, (let same : xs ≡ ys = cc in same))
same_line [] (c ∷ b) xs ys p q e = let first : 10 ≡ c = cc in let never : ⊥ = grind (arith) in absurd never
same_line (c ∷ a) [] xs ys p q e = let first : c ≡ 10 = cc in let never : ⊥ = grind (arith) in absurd never
same_line (c ∷ a) (d ∷ b) xs ys p q e =
    let first : c ≡ d = cc in
    let more : a ++ 10 ∷ xs ≡ b ++ 10 ∷ ys = cc in
    let r : (a ≡ b) × (xs ≡ ys) = same_line a b xs ys (let m : NoFeed a = grind (arith) in m) (let m : NoFeed b = grind (arith) in m) more in
    ((let whole : c ∷ a ≡ d ∷ b = let s : a ≡ b = r.0 in cc in whole), r.1)

-- and that line is the one that is spelled so
pub line_unique : (l m : TextLine) (xs ys : List ℕ) → IsShort l → IsShort m → spelled l ++ 10 ∷ xs ≡ spelled m ++ 10 ∷ ys → (l ≡ m) × (xs ≡ ys)
line_unique l m xs ys few small e =
    let r : (spelled l ≡ spelled m) × (xs ≡ ys) = same_line (spelled l) (spelled m) xs ys (spelled_no_feed l few) (spelled_no_feed m small) e in
    let read : Some l ≡ Some m = sym (line_again l few) ∙ ap line_at r.0 ∙ line_again m small in
    ((let same : l ≡ m = cc in same), r.1)
