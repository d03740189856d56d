-- Where each default stands among the marks with its target.
use Rattle.std.proofs.Common.{◌≡◌, ◌∙◌, refl, sym, ap, ℕ, ◌+◌, ◌<◌, List, [], ◌∷◌, ◌++◌, Bool, true, false, cond, Option, Some, None, length, take, drop, get_or, arith, append_assoc, length-append, length-take}
use Prim.Native.Nat.{zero, suc}
use Rattle.std.specs.Prelude.{slice_get}
use Rattle.std.proofs.lemmas.List.{take_more}
use Rattle.path_index.specs.osc_base.declared.path.Path.{Path}
use Rattle.path_index.specs.osc_base.declared.mark.Mark.{Mark}
use Rattle.path_index.specs.osc_base.declared.mark.Strength.{Strength}
use Rattle.path_index.proofs.of_osc_base.PathEquality.{own_path, path_flip}
use Rattle.keep_rules.specs.declared.rows.TargetRows.{TargetRows}
use Rattle.keep_rules.specs.declared.targets.Own.{Own}
use Rattle.keep_rules.specs.declared.targets.Targets.{Targets}
use Rattle.keep_rules.specs.Overriding.{is_default, same_target, with_target, overriders_from, overriders}
use Rattle.keep_rules.specs.TargetRows.{row_at, own_with, own_at, added}
use Rattle.keep_rules.specs.TargetLists.{after_own, later_of}

-- ---- numbers of the marks with one target

with_more : (target : Option Path) (n : ℕ) (xs ys : List Mark) → with_target target n (xs ++ ys) ≡ with_target target n xs ++ with_target target (n + length xs) ys
with_more target n [] ys = let e : n ≡ n + 0 = omega arith in ap (λ k. with_target target k ys) e
with_more target n (x ∷ xs) ys = by (same_target target x.target) (with_more target (n + 1) xs ys ∙ ap (λ k. with_target target (n + 1) xs ++ with_target target k ys) later)
  where
    later : n + 1 + length xs ≡ n + length (x ∷ xs)
    later = omega arith

    by : (b : Bool) → with_target target (n + 1) (xs ++ ys) ≡ with_target target (n + 1) xs ++ with_target target (n + length (x ∷ xs)) ys
        → cond b (n ∷ with_target target (n + 1) (xs ++ ys)) (with_target target (n + 1) (xs ++ ys)) ≡ cond b (n ∷ with_target target (n + 1) xs) (with_target target (n + 1) xs) ++ with_target target (n + length (x ∷ xs)) ys
    by true h = ap (λ l. n ∷ l) h
    by false h = h

one_added : (path : Path) (target : Option Path) (n : ℕ) → cond (same_target (Some path) target) (n ∷ []) [] ≡ added path target n
one_added path None n = refl
one_added path (Some target) n = ap (λ b. cond b (n ∷ []) []) (path_flip path target)

-- a row that is right for some marks is right for one more
pub row_more : (path : Path) (marks : List Mark) (i : ℕ) (m : Mark) (old new : List ℕ) (number : ℕ) → i < length marks → m ≡ get_or marks i m → number ≡ i
    → old ≡ with_target (Some path) 0 (take i marks) → new ≡ old ++ added path m.target number → new ≡ with_target (Some path) 0 (take (i + 1) marks)
row_more path marks i m old new number lt at counted before after =
    after ∙ (λ k. before k ++ added path m.target (counted k))
    ∙ ap (λ l. with_target (Some path) 0 (take i marks) ++ l) (sym (one_added path m.target i) ∙ ap (λ n. with_target (Some path) n (m ∷ [])) long)
    ∙ sym (with_more (Some path) 0 (take i marks) (m ∷ []))
    ∙ ap (λ (x : Mark). with_target (Some path) 0 (take i marks ++ x ∷ [])) at
    ∙ ap (with_target (Some path) 0) (sym (take_more marks i m lt))
  where
    long : i ≡ 0 + length (take i marks)
    long = grind (arith, length-take)

-- ---- places of defaults

-- the place of a mark with this strength and target after some marks
abbrev pub own_before : List Mark → Strength → Option Path → Option Own
own_before before Strength.Default (Some target) = Some (record { target = target; skip = length (with_target (Some target) 0 before) + 1 })
own_before before Strength.Default None = None
own_before before Strength.Hard target = None
own_before before Strength.Remove target = None

abbrev pub owns_from : List Mark → List Mark → List (Option Own)
owns_from before [] = []
owns_from before (m ∷ ms) = own_before before m.strength m.target ∷ owns_from (before ++ m ∷ []) ms

same_own : (t : TargetRows) (before : List Mark) → ((path : Path) → row_at t path ≡ with_target (Some path) 0 before) → (s : Strength) (target : Option Path) → own_with t s target ≡ own_before before s target
same_own t before is Strength.Default (Some target) = ap (λ (row : List ℕ). Some (let own : Own = record { target = target; skip = length row + 1 } in own)) (is target)
same_own t before is Strength.Default None = refl
same_own t before is Strength.Hard target = refl
same_own t before is Strength.Remove target = refl

no_more : (ms : List Mark) → ms ≡ ms ++ []
no_more [] = refl
no_more (m ∷ ms) = ap (λ l. m ∷ l) (no_more ms)

owns_end : (before xs : List Mark) (x : Mark) → owns_from before (xs ++ x ∷ []) ≡ owns_from before xs ++ own_before (before ++ xs) x.strength x.target ∷ []
owns_end before [] x = ap (λ b. own_before b x.strength x.target ∷ []) (no_more before)
owns_end before (y ∷ ys) x =
    ap (λ l. own_before before y.strength y.target ∷ l) (owns_end (before ++ y ∷ []) ys x
    ∙ ap (λ b. owns_from (before ++ y ∷ []) ys ++ own_before b x.strength x.target ∷ []) (append_assoc before (y ∷ []) ys))

pub owns_more : (t : TargetRows) (marks : List Mark) (i : ℕ) (m : Mark) (old new : List (Option Own)) (own : Option Own) → i < length marks → m ≡ get_or marks i m
    → ((path : Path) → row_at t path ≡ with_target (Some path) 0 (take i marks)) → old ≡ owns_from [] (take i marks) → own ≡ own_at t m → new ≡ old ++ own ∷ []
    → new ≡ owns_from [] (take (i + 1) marks)
owns_more t marks i m old new own lt at rows before is after =
    after ∙ (λ k. before k ++ is k ∷ [])
    ∙ ap (λ o. owns_from [] (take i marks) ++ o ∷ []) (same_own t (take i marks) rows m.strength m.target)
    ∙ sym (owns_end [] (take i marks) m)
    ∙ ap (λ (x : Mark). owns_from [] (take i marks ++ x ∷ [])) at
    ∙ ap (owns_from []) (sym (take_more marks i m lt))

-- ---- what stands after the place of a default

no_target : (n : ℕ) (ms : List Mark) → with_target None n ms ≡ []
no_target n [] = refl
no_target n (m ∷ ms) = by m.target (no_target (n + 1) ms)
  where
    by : (o : Option Path) → with_target None (n + 1) ms ≡ [] → cond (same_target None o) (n ∷ with_target None (n + 1) ms) (with_target None (n + 1) ms) ≡ []
    by None h = h
    by (Some p) h = h

past : (xs : List ℕ) (y : ℕ) (ys : List ℕ) → drop (length xs + 1) (xs ++ y ∷ ys) ≡ ys
past [] y ys = refl
past (x ∷ xs) y ys = let e : length (x ∷ xs) + 1 ≡ suc (length xs + 1) = omega arith in ap (λ n. drop n (x ∷ xs ++ y ∷ ys)) e ∙ past xs y ys

module _ (t : TargetRows) (whole : List Mark) (rows : (path : Path) → row_at t path ≡ with_target (Some path) 0 whole) where
  first_later : (before ms : List Mark) (s : Strength) (target : Option Path)
      → ((path : Path) → target ≡ Some path → row_at t path ≡ with_target (Some path) 0 before ++ length before ∷ with_target (Some path) (length before + 1) ms)
      → after_own t (Some (own_before before s target)) ≡ cond (is_default s) (with_target target (length before + 1) ms) []
  first_later before ms Strength.Default (Some path) is =
      ap (drop (length (with_target (Some path) 0 before) + 1)) (is path refl) ∙ past (with_target (Some path) 0 before) (length before) (with_target (Some path) (length before + 1) ms)
  first_later before ms Strength.Default None is = sym (no_target (length before + 1) ms)
  first_later before ms Strength.Hard target is = refl
  first_later before ms Strength.Remove target is = refl

  row_split : (before : List Mark) (m : Mark) (ms : List Mark) → whole ≡ before ++ m ∷ ms → (path : Path) → m.target ≡ Some path
      → row_at t path ≡ with_target (Some path) 0 before ++ length before ∷ with_target (Some path) (length before + 1) ms
  row_split before m ms split path target =
      rows path ∙ ap (with_target (Some path) 0) split ∙ with_more (Some path) 0 before (m ∷ ms)
      ∙ (let e : 0 + length before ≡ length before = omega arith in ap (λ n. with_target (Some path) 0 before ++ with_target (Some path) n (m ∷ ms)) e)
      ∙ ap (λ o. with_target (Some path) 0 before ++ cond (same_target (Some path) o) (length before ∷ with_target (Some path) (length before + 1) ms) (with_target (Some path) (length before + 1) ms)) target
      ∙ ap (λ b. with_target (Some path) 0 before ++ cond b (length before ∷ with_target (Some path) (length before + 1) ms) (with_target (Some path) (length before + 1) ms)) (own_path path)

  later_from : (before ms : List Mark) → whole ≡ before ++ ms → (i : ℕ) → after_own t (slice_get (owns_from before ms) i) ≡ overriders_from (slice_get ms i) (length before + i + 1) (drop (i + 1) ms)
  later_from before [] split i = refl
  later_from before (m ∷ ms) split zero =
      first_later before ms m.strength m.target (row_split before m ms split)
      ∙ (let e : length before + 1 ≡ length before + 0 + 1 = omega arith in ap (λ n. cond (is_default m.strength) (with_target m.target n ms) []) e)
  later_from before (m ∷ ms) split (suc i) =
      later_from (before ++ m ∷ []) ms (split ∙ sym (append_assoc before (m ∷ []) ms)) i
      ∙ (let e : length (before ++ m ∷ []) + i + 1 ≡ length before + suc i + 1 = grind (arith, length-append) in ap (λ n. overriders_from (slice_get ms i) n (drop (i + 1) ms)) e)
      ∙ (let e : suc (i + 1) ≡ suc i + 1 = omega arith in ap (λ n. overriders_from (slice_get ms i) (length before + suc i + 1) (drop n (m ∷ ms))) e)

-- grouped marks tell of each mark which override it
pub later_is : (t : Targets) (marks : List Mark) → ((path : Path) → row_at t.rows path ≡ with_target (Some path) 0 marks) → t.owns ≡ owns_from [] marks → (i : ℕ) → later_of t i ≡ overriders marks i
later_is t marks rows owns i =
    ap (λ l. after_own t.rows (slice_get l i)) owns ∙ later_from t.rows marks rows [] marks refl i
    ∙ (let e : 0 + i + 1 ≡ i + 1 = omega arith in ap (λ n. overriders_from (slice_get marks i) n (drop (i + 1) marks)) e)
