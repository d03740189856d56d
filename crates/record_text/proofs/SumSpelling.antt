-- What `sum_at` reads of a text is what has that spelling.
use Rattle.std.proofs.Common.{◌≡◌, refl, sym, ap, ap₂, subst, ◌∙◌, ℕ, zero, suc, ◌+◌, ◌*◌, ◌^◌, ◌<◌, ◌≤◌, Bool, true, false, ◌&&◌, if◌then◌else◌, List, [], ◌∷◌, ◌++◌, length, take, drop, Option, Some, None, arith, append_assoc}
use Rattle.std.specs.Prelude.{decimal, nat_eq, nat_le, ◌==◌}
use Rattle.std.specs.List.{list_all, prefix_len}
use Rattle.std.specs.Option.{option_and_then}
use Rattle.std.proofs.lemmas.Bool.{false≢true}
use Rattle.std.proofs.lemmas.List.{append-nil, take-append-drop}
use Rattle.std.proofs.Math.Seq.{take-append_seam}
use Rattle.std.proofs.lemmas.Fmt.{digits_decimal}
use Rattle.linear_sums.specs.declared.pick.Pick.{Pick}
use Rattle.record_trees.specs.Record.{are_in_order, may_stand}
use Rattle.record_text.specs.TextLines.{TextLine}
use Rattle.record_text.specs.TextLines.{Sum}
use Rattle.record_text.specs.Scan.{is_no_space, natural_at, number_after, after_number, pick_with, pick_at, after_pick, picks_then, picks_at, sum_of, sum_at}
use Rattle.record_text.specs.Lines.{IsFewDigits, HaveFewDigits, spelled_pick, spelled_picks}
use Rattle.record_text.proofs.Numerals.{own}
use Rattle.record_text.proofs.Spelling.{chosen, natural_takes, natural_again, NoSpace, digits_no_space}

-- ---- one number

-- nothing, or what begins with a space
abbrev IsSpaced : List ℕ → Type 0
IsSpaced [] = Unit {0}
IsSpaced (c ∷ text) = c ≡ 32

space_ends : (ds rest : List ℕ) → NoSpace ds → IsSpaced rest → prefix_len is_no_space (ds ++ rest) ≡ length ds
space_ends [] [] h s = refl
space_ends [] (c ∷ rest) h s = let stop : is_no_space c ≡ false = grind (arith) in rw stop refl
space_ends (c ∷ ds) rest h s =
    let first : is_no_space c ≡ true = grind (arith) in
    let more : NoSpace ds = grind (arith) in
    rw (first, space_ends ds rest more s) (omega arith)

drop_seam : (ds rest : List ℕ) → drop (length ds) (ds ++ rest) ≡ rest
drop_seam [] rest = refl
drop_seam (d ∷ ds) rest = drop_seam ds rest

digits_end : (n : ℕ) (rest : List ℕ) → IsFewDigits n → IsSpaced rest → prefix_len is_no_space (decimal n ++ rest) ≡ length (decimal n)
digits_end n rest few s = space_ends (decimal n) rest (digits_no_space (decimal n) (digits_decimal own n (omega (arith, few)))) s

number_again : (n : ℕ) (rest : List ℕ) → IsFewDigits n → IsSpaced rest → number_after (32 ∷ (decimal n ++ rest)) ≡ Some n
number_again n rest few s = ap (λ (k : ℕ). natural_at (take k (decimal n ++ rest))) (digits_end n rest few s)
    ∙ (ap natural_at (take-append_seam (decimal n) rest) ∙ natural_again n few)

after_again : (n : ℕ) (rest : List ℕ) → IsFewDigits n → IsSpaced rest → after_number (32 ∷ (decimal n ++ rest)) ≡ rest
after_again n rest few s = ap (λ (k : ℕ). drop k (decimal n ++ rest)) (digits_end n rest few s) ∙ drop_seam (decimal n) rest

number_takes : (text : List ℕ) (n : ℕ) → number_after text ≡ Some n → IsFewDigits n × (text ≡ 32 ∷ (decimal n ++ after_number text))
number_takes [] n e = let never : ⊥ = cc in absurd never
number_takes (b ∷ text) n e =
    chosen (b == 32) (natural_at (take (prefix_len is_no_space text) text)) None (Some n) e
    (λ is value.
    let space : b ≡ 32 = grind (arith) in
    let t : IsFewDigits n × (take (prefix_len is_no_space text) text ≡ decimal n) = natural_takes (take (prefix_len is_no_space text) text) n value in (
      t.0,
      ap₂ (λ (c : ℕ) (bs : List ℕ). c ∷ bs) space
          (sym (take-append-drop (prefix_len is_no_space text) text) ∙ ap (λ (ds : List ℕ). ds ++ drop (prefix_len is_no_space text) text) t.1),
    ))
    (λ _ none. let never : ⊥ = cc in absurd never)

-- ---- one pick

split_pick : (p : Pick) (rest : List ℕ) → spelled_pick p ++ rest ≡ 32 ∷ (decimal p.times ++ 32 ∷ (decimal p.rule ++ rest))
split_pick p rest = ap (λ (bs : List ℕ). 32 ∷ bs) (append_assoc (decimal p.times) (32 ∷ decimal p.rule) rest)

pick_made : (p : Pick) → p.times ≤ 1000000 → pick_with (Some p.times) (Some p.rule) ≡ Some p
pick_made p few = let test : nat_le p.times 1000000 ≡ true = grind (arith) in ap (λ (b : Bool). if b then Some p else None) test

module _ (p : Pick) (rest : List ℕ) (times : p.times ≤ 1000000) (rule : IsFewDigits p.rule) (spaced : IsSpaced rest) where
  few_times : IsFewDigits p.times
  few_times = omega (arith, times)

  rule_left : after_number (32 ∷ (decimal p.times ++ 32 ∷ (decimal p.rule ++ rest))) ≡ 32 ∷ (decimal p.rule ++ rest)
  rule_left = after_again p.times (32 ∷ (decimal p.rule ++ rest)) few_times refl

  pick_again : pick_at (32 ∷ (decimal p.times ++ 32 ∷ (decimal p.rule ++ rest))) ≡ Some p
  pick_again = ap₂ pick_with (number_again p.times (32 ∷ (decimal p.rule ++ rest)) few_times refl) (ap number_after rule_left ∙ number_again p.rule rest rule spaced)
      ∙ pick_made p times

  rest_again : after_pick (32 ∷ (decimal p.times ++ 32 ∷ (decimal p.rule ++ rest))) ≡ rest
  rest_again = ap after_number rule_left ∙ after_again p.rule rest rule spaced

pick_takes : (text : List ℕ) (p : Pick) → pick_at text ≡ Some p → IsFewDigits p.rule × (text ≡ spelled_pick p ++ after_pick text)
pick_takes text p e = by_numbers (number_after text) (number_after (after_number text)) refl refl e
  where
    by_numbers : (o q : Option ℕ) → number_after text ≡ o → number_after (after_number text) ≡ q → pick_with o q ≡ Some p
        → IsFewDigits p.rule × (text ≡ spelled_pick p ++ after_pick text)
    by_numbers None q n m is = let never : ⊥ = cc in absurd never
    by_numbers (Some t) None n m is = let never : ⊥ = cc in absurd never
    by_numbers (Some t) (Some r) n m is = chosen (nat_le t 1000000) (Some (record { times = t; rule = r })) None (Some p) is
        (λ _ value.
        let same : record { times = t; rule = r } ≡ p = cc in
        let first = number_takes text t n in
        let second = number_takes (after_number text) r m in
        subst (λ (k : Pick). IsFewDigits k.rule × (text ≡ spelled_pick k ++ after_pick text)) same
        (second.0, first.1 ∙ (ap (λ (bs : List ℕ). 32 ∷ (decimal t ++ bs)) second.1 ∙ sym (split_pick (record { times = t; rule = r }) (after_pick text)))))
        (λ _ none. let never : ⊥ = cc in absurd never)

-- ---- all picks

abbrev pub AreFewTimes : List Pick → Type 0
AreFewTimes [] = Unit {0}
AreFewTimes (p ∷ ps) = (p.times ≤ 1000000) × AreFewTimes ps

few_if : (a b c d : Bool) → a && b && c && d ≡ true → (c ≡ true) × (d ≡ true)
few_if true true true d e = (refl, e)
few_if true true false d e = absurd (false≢true e)
few_if true false c d e = absurd (false≢true e)
few_if false b c d e = absurd (false≢true e)

pub few_times_in : (from : ℕ) (ps : List Pick) → are_in_order from ps ≡ true → AreFewTimes ps
few_times_in from [] e = tt
few_times_in from (p ∷ ps) e =
    let t = few_if (nat_le from p.rule) (nat_le 1 p.times) (nat_le p.times 1000000) (are_in_order (p.rule + 1) ps) e in
    ((let test : nat_le p.times 1000000 ≡ true = t.0 in let few : p.times ≤ 1000000 = grind (arith) in few), few_times_in (p.rule + 1) ps t.1)

spaced_picks : (ps : List Pick) → IsSpaced (spelled_picks ps)
spaced_picks [] = tt
spaced_picks (p ∷ ps) = refl

picks_again : (most : ℕ) (ps : List Pick) → length ps ≤ most → HaveFewDigits ps → AreFewTimes ps → picks_at most (spelled_picks ps) ≡ Some ps
picks_again most [] few rules times = refl
picks_again zero (p ∷ ps) few rules times = absurd (let never : ⊥ = omega (arith, few) in never)
picks_again (suc most) (p ∷ ps) few rules times =
    ap (picks_at (suc most)) (split_pick p (spelled_picks ps))
    ∙ ap₂ picks_then (pick_again p (spelled_picks ps) times.0 rules.0 (spaced_picks ps))
    (ap (picks_at most) (rest_again p (spelled_picks ps) times.0 rules.0 (spaced_picks ps)) ∙ picks_again most ps (omega (arith, few)) rules.1 times.1)

abbrev pub ArePicks : List ℕ → List Pick → Type 0
ArePicks text ps = HaveFewDigits ps × (text ≡ spelled_picks ps)

picks_joined : (text : List ℕ) (ps : List Pick) (o : Option Pick) (q : Option (List Pick)) → pick_at text ≡ o
    → ((qs : List Pick) → q ≡ Some qs → ArePicks (after_pick text) qs) → picks_then o q ≡ Some ps → ArePicks text ps
picks_joined text ps None q is rest e = let never : ⊥ = cc in absurd never
picks_joined text ps (Some p) None is rest e = let never : ⊥ = cc in absurd never
picks_joined text ps (Some p) (Some qs) is rest e =
    let same : p ∷ qs ≡ ps = cc in
    let first = pick_takes text p is in
    let later : ArePicks (after_pick text) qs = rest qs refl in
    subst (ArePicks text) same ((first.0, later.0), first.1 ∙ ap (λ (bs : List ℕ). spelled_pick p ++ bs) later.1)

picks_takes : (most : ℕ) (text : List ℕ) (ps : List Pick) → picks_at most text ≡ Some ps → ArePicks text ps
picks_takes most [] ps e = let same : [] ≡ ps = cc in subst (ArePicks []) same (tt, refl)
picks_takes zero (b ∷ text) ps e = let never : ⊥ = cc in absurd never
picks_takes (suc most) (b ∷ text) ps e =
    picks_joined (b ∷ text) ps (pick_at (b ∷ text)) (picks_at most (after_pick (b ∷ text))) refl (λ qs is. picks_takes most (after_pick (b ∷ text)) qs is) e

-- ---- the line

stand_parts : (a b c : Bool) → a && b && c ≡ true → (a ≡ true) × (b ≡ true) × (c ≡ true)
stand_parts true true c e = (refl, refl, e)
stand_parts true false c e = absurd (false≢true e)
stand_parts false b c e = absurd (false≢true e)

pub few_stand : (ps : List Pick) → may_stand ps ≡ true → (length ps ≤ 64) × AreFewTimes ps
few_stand ps e =
    let t = stand_parts (nat_le 1 (length ps)) (nat_le (length ps) 64) (are_in_order 0 ps) e in
    let test : nat_le (length ps) 64 ≡ true = t.1 in
    ((let few : length ps ≤ 64 = grind (arith) in few), few_times_in 0 ps t.2)

pub sum_again : (ps : List Pick) → may_stand ps ≡ true → HaveFewDigits ps → sum_at (spelled_picks ps) ≡ Some (Sum ps)
sum_again ps stands rules =
    let t = few_stand ps stands in
    ap (option_and_then sum_of) (picks_again 64 ps t.0 rules t.1) ∙ ap (λ (b : Bool). if b then Some (Sum ps) else None) stands

abbrev pub IsSumText : List ℕ → TextLine → Type 0
IsSumText text line = (ps : List Pick) × (line ≡ Sum ps) × (may_stand ps ≡ true) × HaveFewDigits ps × (text ≡ spelled_picks ps)

pub sum_takes : (text : List ℕ) (line : TextLine) → sum_at text ≡ Some line → IsSumText text line
sum_takes text line e = by_picks (picks_at 64 text) refl e
  where
    by_picks : (o : Option (List Pick)) → picks_at 64 text ≡ o → option_and_then sum_of o ≡ Some line → IsSumText text line
    by_picks None is h = let never : ⊥ = cc in absurd never
    by_picks (Some ps) is h = chosen (may_stand ps) (Some (Sum ps)) None (Some line) h
        (λ stands value. let t = picks_takes 64 text ps is in (ps, (let same : line ≡ Sum ps = cc in same), stands, t.0, t.1))
        (λ _ none. let never : ⊥ = cc in absurd never)
