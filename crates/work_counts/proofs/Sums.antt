-- Sums of amounts as the program keeps them.
use Rattle.std.proofs.Common.{◌≡◌, ◌∙◌, refl, sym, ap, ap₂, ℕ, zero, suc, ◌+◌, ◌*◌, ◌-◌, ◌<◌, ◌≤◌, ◌⊎◌, inl, inr, List, [], ◌∷◌, ◌++◌, Option, Some, None, length, take, map, get_or, arith}
use Rattle.std.proofs.lemmas.List.{take_more, map-append}
use Rattle.std.proofs.lemmas.Bool.{cases_lt}
use Rattle.program_texts.specs.scene_texts.Capped.{capped, greatest_count}
use Rattle.program_texts.proofs.of_scene_texts.Caps.{capped_left, capped_right, capped_twice}
use Rattle.program_texts.specs.expansion_laws.Counts.{total}
use Rattle.program_texts.specs.type_heads.Table.{TypeHead, base, line_within}
use Rattle.work_counts.specs.declared.tally.Tally.{Tally}
use Rattle.work_counts.specs.Amounts.{Amount, kept, no_amount, plus, sum_of}
use Rattle.work_counts.specs.TextAmounts.{times_amount}

pub total_append : {X : Type 0} (f : X → ℕ) (xs ys : List X) → total f (xs ++ ys) ≡ total f xs + total f ys
total_append f [] ys = omega arith
total_append f (x ∷ xs) ys = let more : total f (xs ++ ys) ≡ total f xs + total f ys = total_append f xs ys in omega (arith, more)

pub one_kept : 1 ≡ capped 1
unfolding capped
one_kept = refl

pub zero_kept : 0 ≡ capped 0
unfolding capped
zero_kept = refl

-- both, as the program adds them
abbrev pub joined : Tally → Tally → Tally
joined a b = record { rules = capped (a.rules + b.rules); tokens = capped (a.tokens + b.tokens) }

pub kept_plus : (a b : Amount) → joined (kept a) (kept b) ≡ kept (plus a b)
kept_plus a b = λ i. record { rules = capped_twice a.rules b.rules i; tokens = capped_twice a.tokens b.tokens i }

-- a number of times, as the program takes them
abbrev pub times_joined : ℕ → Tally → Tally
times_joined n a = record { rules = capped (n * a.rules); tokens = capped (n * a.tokens) }

abbrev none : Tally
none = record { rules = 0; tokens = 0 }

pub kept_none : none ≡ kept no_amount
unfolding capped
kept_none = refl

-- ---- a number of times

under_cap : (y : ℕ) → y ≤ greatest_count → capped y ≡ y
unfolding capped
under_cap y l = omega (arith, l)

over_cap : (y a b : ℕ) → greatest_count < y → capped (capped y + a) ≡ capped (y + b)
unfolding capped
over_cap y a b l = omega (arith, l)

times_capped : (n x : ℕ) → capped (n * capped x) ≡ capped (n * x)
times_capped zero x = ap capped (omega arith)
times_capped (suc n) x =
    let one : suc n * capped x ≡ capped x + n * capped x = omega arith in
    let two : suc n * x ≡ x + n * x = omega arith in
    ap capped one ∙ by (cases_lt greatest_count x) ∙ ap capped (sym two)
  where
    by : (greatest_count < x) ⊎ (x ≤ greatest_count) → capped (capped x + n * capped x) ≡ capped (x + n * x)
    by (inl l) = over_cap x (n * capped x) (n * x) l
    by (inr l) = ap (λ y. capped (y + n * y)) (under_cap x l)

pub kept_times : (n : ℕ) (a : Amount) → times_joined n (kept a) ≡ kept (times_amount n a)
kept_times n a = λ i. record { rules = times_capped n a.rules i; tokens = times_capped n a.tokens i }

sum_append : {X : Type 0} (f : X → Amount) (xs ys : List X) → sum_of f (xs ++ ys) ≡ plus (sum_of f xs) (sum_of f ys)
sum_append f xs ys = λ i. record { rules = total_append (λ x. (f x).rules) xs ys i; tokens = total_append (λ x. (f x).tokens) xs ys i }

sum_one : {X : Type 0} (f : X → Amount) (x : X) → sum_of f (x ∷ []) ≡ f x
sum_one f x =
    let one : (f x).rules + 0 ≡ (f x).rules = omega arith in
    let two : (f x).tokens + 0 ≡ (f x).tokens = omega arith in
    λ i. record { rules = one i; tokens = two i }

-- one more
pub kept_more : {X Y : Type 0} (amount : Y → Amount) (see : X → Y) (xs : List X) (i : ℕ) (x : X) (all one new : Tally)
    → all ≡ kept (sum_of amount (map see (take i xs))) → one ≡ kept (amount (see x)) → new ≡ joined all one → i < length xs → x ≡ get_or xs i x
    → new ≡ kept (sum_of amount (map see (take (i + 1) xs)))
kept_more amount see xs i x all one new before own sum lt is =
    sum ∙ ap₂ joined before own ∙ kept_plus (sum_of amount (map see (take i xs))) (amount (see x))
    ∙ ap kept (ap (plus (sum_of amount (map see (take i xs)))) (sym (sum_one amount (see x))) ∙ sym (sum_append amount (map see (take i xs)) (see x ∷ []))
    ∙ ap (sum_of amount) (sym (map-append see (take i xs) (x ∷ [])) ∙ ap (map see) (sym (take_more xs i x lt ∙ ap (λ y. take i xs ++ y ∷ []) (sym is)))))

-- ---- a count, and what is left

none_added : (n : ℕ) → capped n ≡ capped (n + capped 0)
unfolding capped
none_added n = omega arith

none_capped : capped 0 ≡ 0
unfolding capped
none_capped = refl

plus_left : (a : Amount) → plus no_amount a ≡ a
plus_left a =
    let one : 0 + a.rules ≡ a.rules = omega arith in
    let two : 0 + a.tokens ≡ a.tokens = omega arith in
    λ i. record { rules = one i; tokens = two i }

-- what is counted and what is left come to all
pub record Counted (done left all : Tally) : Type 0 where
  pub rules : capped done.rules ≡ done.rules
  pub tokens : capped done.tokens ≡ done.tokens
  pub both : joined done left ≡ all

capped_again : (n : ℕ) → capped (capped n) ≡ capped n
unfolding capped
capped_again n = omega arith

capped_grouped : (a b c : ℕ) → capped (capped (a + b) + c) ≡ capped (a + capped (b + c))
capped_grouped a b c = capped_left (a + b) c ∙ ap capped (omega arith) ∙ sym (capped_right a (b + c))

joined_grouped : (a b c : Tally) → joined (joined a b) c ≡ joined a (joined b c)
joined_grouped a b c = λ i. record { rules = capped_grouped a.rules b.rules c.rules i; tokens = capped_grouped a.tokens b.tokens c.tokens i }

-- one of what is left
pub counted_more : (done one new left rest all : Tally) → Counted done left all → new ≡ joined done one → left ≡ joined one rest → Counted new rest all
counted_more done one new left rest all before is split = record {
  rules = ap (λ (t : Tally). capped t.rules) is ∙ capped_again (done.rules + one.rules) ∙ ap (λ (t : Tally). t.rules) (sym is);
  tokens = ap (λ (t : Tally). capped t.tokens) is ∙ capped_again (done.tokens + one.tokens) ∙ ap (λ (t : Tally). t.tokens) (sym is);
  both = ap (λ t. joined t rest) is ∙ joined_grouped done one rest ∙ ap (joined done) (sym split) ∙ before.both;
}

-- nothing is left
pub counted_all : (done left all : Tally) → Counted done left all → left ≡ kept no_amount → done ≡ all
counted_all done left all before is =
    (λ i. record { rules = sym before.rules i; tokens = sym before.tokens i }) ∙ none_joined done ∙ ap (joined done) (sym is) ∙ before.both
  where
    none_joined : (t : Tally) → (record { rules = capped t.rules; tokens = capped t.tokens }) ≡ joined t (kept no_amount)
    none_joined t = λ i. record { rules = none_added t.rules i; tokens = none_added t.tokens i }

-- those of one list, and then those of another
pub counted_split : {X : Type 0} (f : X → Amount) (all xs ys : List X) (one : Tally) → all ≡ xs ++ ys → one ≡ kept (sum_of f xs) →
    kept (sum_of f all) ≡ joined one (kept (sum_of f ys))
counted_split f all xs ys one is own =
    ap (λ zs. kept (sum_of f zs)) is ∙ ap kept (sum_append f xs ys) ∙ sym (kept_plus (sum_of f xs) (sum_of f ys)) ∙ ap (λ t. joined t (kept (sum_of f ys))) (sym own)

-- the last of what is left
pub counted_last : (done one new left all : Tally) → Counted done left all → new ≡ joined done one → one ≡ left → new ≡ all
counted_last done one new left all before is own = is ∙ ap (joined done) own ∙ before.both

-- a count of none, at first
pub counted_first : (left : Amount) → Counted none (kept left) (kept left)
counted_first left = record { rules = none_capped; tokens = none_capped; both = ap (λ t. joined t (kept left)) kept_none ∙ kept_plus no_amount left ∙ ap kept (plus_left left) }

pub counted_init : (done : Tally) (left all : Amount) → done ≡ kept no_amount → left ≡ all → Counted done (kept left) (kept all)
counted_init done left all is same = record {
  rules = ap (λ (t : Tally). capped t.rules) is ∙ capped_again 0 ∙ ap (λ (t : Tally). t.rules) (sym is);
  tokens = ap (λ (t : Tally). capped t.tokens) is ∙ capped_again 0 ∙ ap (λ (t : Tally). t.tokens) (sym is);
  both = ap (λ t. joined t (kept left)) is ∙ kept_plus no_amount left ∙ ap kept (plus_left left ∙ same);
}

-- ---- lines of types

module _ (f : ℕ → Amount) (heads : List TypeHead) where
  abbrev pub on_line : ℕ → Option ℕ → Amount
  on_line steps at = sum_of f (line_within steps heads at)

  pub line_split : (steps : ℕ) (at : Option ℕ) (t : ℕ) (next : Option ℕ) (one : Tally) → 0 < steps → at ≡ Some t → next ≡ base heads t → one ≡ kept (f t)
      → kept (on_line steps at) ≡ joined one (kept (on_line (steps - 1) next))
  line_split zero at t next one some is then own = absurd (omega (arith, some))
  line_split (suc n) at t next one some is then own =
      let less : n ≡ suc n - 1 = omega arith in
      ap (λ o. kept (on_line (suc n) o)) is ∙ sym (kept_plus (f t) (on_line n (base heads t))) ∙ ap₂ joined (sym own) (λ i. kept (on_line (less i) (sym then i)))

  pub line_none : (steps : ℕ) (at : Option ℕ) → at ≡ None → kept (on_line steps at) ≡ kept no_amount
  line_none zero at is = refl
  line_none (suc n) at is = ap (λ o. kept (on_line (suc n) o)) is

  pub line_end : (steps : ℕ) (at : Option ℕ) → steps ≤ 0 → kept (on_line steps at) ≡ kept no_amount
  line_end zero at h = refl
  line_end (suc n) at h = absurd (omega (arith, h))
