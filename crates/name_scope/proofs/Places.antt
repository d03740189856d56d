-- Whether a name is declared, by the place of its first declaration.
use Rattle.std.proofs.Common.{◌≡◌, ◌∙◌, refl, sym, ap, ℕ, zero, suc, ◌+◌, ◌≤◌, Bool, true, false, cond, ◌||◌, List, [], ◌∷◌, Option, Some, None, nat_lt, take, arith}
use Rattle.std.specs.Option.{is_some}
use Rattle.std.specs.List.{list_any}
use Rattle.std.proofs.lemmas.Bool.Decides.{nat_tests}
use Rattle.std.proofs.lemmas.List.Folds.{list_any-append}
use Rattle.dsl_tree.specs.declared.file.Declaration.{Declaration}
use Rattle.name_scope.specs.declared.ids.NameKind.{NameKind}
use Rattle.name_scope.specs.FileNumbers.{AddedFile}
use Rattle.name_scope.specs.Declaring.{declares, first_place}
use Rattle.name_scope.specs.Headings.{declarations, takes}

-- there is a first place exactly if one passes
pub any_of_place : {X : Type 0} (test : X → Bool) (n : ℕ) (xs : List X) → is_some (first_place test n xs) ≡ list_any test xs
any_of_place test n [] = refl
any_of_place test n (x ∷ xs) = by (test x) (any_of_place test (n + 1) xs)
  where
    by : (b : Bool) → is_some (first_place test (n + 1) xs) ≡ list_any test xs → is_some (cond b (Some n) (first_place test (n + 1) xs)) ≡ (b || list_any test xs)
    by true h = refl
    by false h = h

-- it is below a number exactly if one of so many passes
abbrev pub is_below : Option ℕ → ℕ → Bool
is_below None k = false
is_below (Some i) k = nat_lt i k

not_below : {X : Type 0} (test : X → Bool) (n : ℕ) (xs : List X) (k : ℕ) → k ≤ n → is_below (first_place test n xs) k ≡ false
not_below test n [] k le = refl
not_below test n (x ∷ xs) k le = by (test x) (not_below test (n + 1) xs k (omega arith))
  where
    by : (b : Bool) → is_below (first_place test (n + 1) xs) k ≡ false → is_below (cond b (Some n) (first_place test (n + 1) xs)) k ≡ false
    by true h = grind (arith, nat_tests)
    by false h = h

front_from : {X : Type 0} (test : X → Bool) (n : ℕ) (xs : List X) (k : ℕ) → is_below (first_place test n xs) (n + k) ≡ list_any test (take k xs)
front_from test n [] zero = refl
front_from test n [] (suc k) = refl
front_from test n (x ∷ xs) zero = not_below test n (x ∷ xs) (n + 0) (omega arith)
front_from test n (x ∷ xs) (suc k) = by (test x) (front_from test (n + 1) xs k)
  where
    by : (b : Bool) → is_below (first_place test (n + 1) xs) (n + 1 + k) ≡ list_any test (take k xs) → is_below (cond b (Some n) (first_place test (n + 1) xs)) (n + suc k) ≡ (b || list_any test (take k xs))
    by true h = grind (arith, nat_tests)
    by false h = let e : n + suc k ≡ n + 1 + k = omega arith in ap (is_below (first_place test (n + 1) xs)) e ∙ h

pub front_of_place : {X : Type 0} (test : X → Bool) (xs : List X) (k : ℕ) → is_below (first_place test 0 xs) k ≡ list_any test (take k xs)
front_of_place test xs k = let e : k ≡ 0 + k = omega arith in ap (is_below (first_place test 0 xs)) e ∙ front_from test 0 xs k

-- one of all declarations passes exactly if one of some file does
pub any_of_files : (test : Declaration → Bool) (fs : List AddedFile) → list_any test (declarations fs) ≡ list_any (λ f. list_any test f.file.decls) fs
any_of_files test [] = refl
any_of_files test (f ∷ fs) = list_any-append test f.file.decls (declarations fs) ∙ ap (λ b. list_any test f.file.decls || b) (any_of_files test fs)

swapped : (a b c d : Bool) → ((a || b) || (c || d)) ≡ ((a || c) || (b || d))
swapped true b c d = refl
swapped false true true d = refl
swapped false true false d = refl
swapped false false c d = refl

any_of_either : {X : Type 0} (p q : X → Bool) (xs : List X) → list_any (λ x. p x || q x) xs ≡ (list_any p xs || list_any q xs)
any_of_either p q [] = refl
any_of_either p q (x ∷ xs) = ap (λ b. (p x || q x) || b) (any_of_either p q xs) ∙ swapped (p x) (q x) (list_any p xs) (list_any q xs)

pub takes_first : (name : List ℕ) (ds : List Declaration) (a : Bool) → a ≡ list_any (declares NameKind.TypeName None name) ds → a ≡ true → a ≡ list_any (takes name) ds
takes_first name ds a is holds =
    holds ∙ ap (λ b. b || list_any (declares NameKind.BehaviourName None name) ds) (sym holds ∙ is)
    ∙ sym (any_of_either (declares NameKind.TypeName None name) (declares NameKind.BehaviourName None name) ds)

pub takes_second : (name : List ℕ) (ds : List Declaration) (a b : Bool) → a ≡ list_any (declares NameKind.TypeName None name) ds → a ≡ false →
    b ≡ list_any (declares NameKind.BehaviourName None name) ds → b ≡ list_any (takes name) ds
takes_second name ds a b is fails second =
    second ∙ ap (λ x. x || list_any (declares NameKind.BehaviourName None name) ds) (sym fails ∙ is)
    ∙ sym (any_of_either (declares NameKind.TypeName None name) (declares NameKind.BehaviourName None name) ds)
