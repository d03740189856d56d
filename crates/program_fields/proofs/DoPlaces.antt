-- The first `do` of a part of a row, by the places of the `do`s of the row.
use Rattle.std.proofs.Common.{◌≡◌, ◌∙◌, refl, sym, ap, ℕ, zero, suc, ◌+◌, Bool, true, false, cond, List, [], ◌∷◌, ◌++◌, Option, Some, None, arith, length, take, drop, append_assoc, length-append}
use Rattle.std.specs.Prelude.{find, filter_map, option_and_then, slice_get}
use Rattle.std.specs.List.{cons_option}
use Rattle.std.proofs.Math.Seq.{drop-nil}
use Rattle.std.proofs.lemmas.Bool.Decides.{nat_tests}
use Rattle.dsl_tree.specs.FileTree.{MemberTree}
use Rattle.type_heads.specs.Members.{do_declared}
use Rattle.type_heads.specs.Types.{Do, Member}
use Rattle.program_fields.specs.Parts.{do_tree, dos_from, is_between, is_do, the_do_in}
use Rattle.program_fields.specs.SeenFields.{first_do_in}

do_step : (m : Member) (tree : MemberTree) (rest : List Do) (o : Option Member) → m.written.member ≡ tree → find (λ d. true) rest ≡ option_and_then the_do_in o →
    find (λ d. true) (cons_option (do_declared m tree) rest) ≡ option_and_then the_do_in (cond (do_tree tree) (Some m) o)
do_step m (MemberTree.Field f) rest o is h = h
do_step m (MemberTree.Rule r) rest o is h = h
do_step m (MemberTree.Do place phase) rest o is h = sym (ap (do_declared m) is)

do_found : (ms : List Member) → first_do_in ms ≡ option_and_then the_do_in (find is_do ms)
do_found [] = refl
do_found (m ∷ ms) = do_step m m.written.member (filter_map the_do_in ms) (find is_do ms) refl (do_found ms)

at_end : {X : Type 0} (before : List X) (x : X) (xs : List X) → slice_get (before ++ x ∷ xs) (length before) ≡ Some x
at_end [] x xs = refl
at_end (b ∷ bs) x xs = at_end bs x xs

-- places from n on pass the test, where they stand from place k to place j
abbrev Passes : (ℕ → Bool) → ℕ → ℕ → ℕ → Type 0
Passes test n k j = (i : ℕ) → test (n + i) ≡ is_between k j i

-- the steps of places
nothing_before : (k i : ℕ) → is_between k 0 i ≡ false
nothing_before k i = grind (arith, nat_tests)

first_out : (k j : ℕ) → is_between (suc k) j 0 ≡ false
first_out k j = grind (arith, nat_tests)

first_in : (j : ℕ) → is_between 0 (suc j) 0 ≡ true
first_in j = grind (arith, nat_tests)

from_start : (j i : ℕ) → is_between 0 (suc j) (1 + i) ≡ is_between 0 j i
from_start j i = grind (arith, nat_tests)

one_on : (k j i : ℕ) → is_between (suc k) (suc j) (1 + i) ≡ is_between k j i
one_on k j i = grind (arith, nat_tests)

module _ (test : ℕ → Bool) where
  -- the test of the first place
  at_first : (n : ℕ) (b : Bool) → test (n + 0) ≡ b → test n ≡ b
  at_first n b h = let e : n ≡ n + 0 = omega arith in ap test e ∙ h

  -- the test of the places after it
  after_first : (n i : ℕ) (b : Bool) → test (n + (1 + i)) ≡ b → test (n + 1 + i) ≡ b
  after_first n i b h = let e : n + 1 + i ≡ n + (1 + i) = omega arith in ap test e ∙ h

  passed_over : (n : ℕ) (b : Bool) (rest : List ℕ) → test n ≡ false → find test (cond b (n ∷ []) [] ++ rest) ≡ find test rest
  passed_over n true rest out = ap (λ c. cond c (Some n) (find test rest)) out
  passed_over n false rest out = refl

  none_passes : (n : ℕ) (ms : List Member) → ((i : ℕ) → test (n + i) ≡ false) → find test (dos_from n ms) ≡ None
  none_passes n [] out = refl
  none_passes n (m ∷ ms) out =
      passed_over n (is_do m) (dos_from (n + 1) ms) (at_first n false (out 0)) ∙ none_passes (n + 1) ms (λ i. after_first n i false (out (1 + i)))

  here : (n : ℕ) (before ms : List Member) (m : Member) (b : Bool) → length before ≡ n → test n ≡ true → (o : Option Member) →
      o ≡ option_and_then (slice_get (before ++ m ∷ ms)) (find test (dos_from (n + 1) ms)) →
      cond b (Some m) o ≡ option_and_then (slice_get (before ++ m ∷ ms)) (find test (cond b (n ∷ []) [] ++ dos_from (n + 1) ms))
  here n before ms m true at passed o rest =
      sym
      (ap (λ c. option_and_then (slice_get (before ++ m ∷ ms)) (cond c (Some n) (find test (dos_from (n + 1) ms)))) passed
      ∙ ap (slice_get (before ++ m ∷ ms)) (sym at)
      ∙ at_end before m ms)
  here n before ms m false at passed o rest = rest

  found_from : (n k j : ℕ) (before ms : List Member) → length before ≡ n → Passes test n k j →
      find is_do (drop k (take j ms)) ≡ option_and_then (slice_get (before ++ ms)) (find test (dos_from n ms))
  found_from n k zero before ms at passes =
      ap (find is_do) (drop-nil k) ∙ sym (ap (option_and_then (slice_get (before ++ ms))) (none_passes n ms (λ i. passes i ∙ nothing_before k i)))
  found_from n k (suc j) before [] at passes = ap (find is_do) (drop-nil k)
  found_from n zero (suc j) before (m ∷ ms) at passes =
      here n before ms m (is_do m) at (at_first n true (passes 0 ∙ first_in j)) (find is_do (take j ms))
      (found_from (n + 1) zero j (before ++ m ∷ []) ms (length-append before (m ∷ []) ∙ ap (λ c. c + 1) at)
      (λ i. after_first n i (is_between 0 j i) (passes (1 + i) ∙ from_start j i))
      ∙ ap (λ all. option_and_then (slice_get all) (find test (dos_from (n + 1) ms))) (append_assoc before (m ∷ []) ms))
  found_from n (suc k) (suc j) before (m ∷ ms) at passes =
      found_from (n + 1) k j (before ++ m ∷ []) ms (length-append before (m ∷ []) ∙ ap (λ c. c + 1) at)
      (λ i. after_first n i (is_between k j i) (passes (1 + i) ∙ one_on k j i))
      ∙ ap (λ all. option_and_then (slice_get all) (find test (dos_from (n + 1) ms))) (append_assoc before (m ∷ []) ms)
      ∙ ap (option_and_then (slice_get (before ++ m ∷ ms)))
      (sym (passed_over n (is_do m) (dos_from (n + 1) ms) (at_first n false (passes 0 ∙ first_out k (suc j)))))

nothing_added : (from to i : ℕ) → is_between from to (0 + i) ≡ is_between from to i
nothing_added from to i = let e : 0 + i ≡ i = omega arith in ap (is_between from to) e

-- the first `do` of a part
pub do_law : (from to : ℕ) (ms : List Member) →
    option_and_then the_do_in (option_and_then (slice_get ms) (find (is_between from to) (dos_from 0 ms))) ≡ first_do_in (drop from (take to ms))
do_law from to ms =
    sym (do_found (drop from (take to ms)) ∙ ap (option_and_then the_do_in) (found_from (is_between from to) 0 from to [] ms refl (nothing_added from to)))
