-- The program's `==` on steps and paths is the definitions' `same_step` and `same_path`.
use Rattle.std.proofs.Common.{◌≡◌, ◌&&◌, ℕ, Bool, true, false, refl, sym, ap, ◌∙◌, true≢false, arith, eqb-true, List, [], ◌∷◌}
use Rattle.std.specs.Prelude.{nat_eq}
use Rattle.std.proofs.lemmas.Slice.Eq.{bytes_eq-Decides}
use Rattle.std.specs.Cmp.Lexicographic.{pointwise}
use Rattle.osc_base.specs.declared.path.Step.{Step}
use Rattle.osc_base.specs.declared.path.Step.TheVariants.{Name, Index, Member}
use Rattle.osc_base.specs.declared.path.Path.{Path}
use Rattle.osc_base.specs.contracts.path.StepPartialEq.TheImpl as steps
use Rattle.osc_base.specs.Paths.{same_step, same_steps, same_path}

pub step_eq : (a b : Step) → steps.eq-value.it a b ≡ same_step a b
step_eq (Name a) (Name b) = refl
step_eq (Name a) (Index b) = refl
step_eq (Name a) (Member b) = refl
step_eq (Index a) (Name b) = refl
step_eq (Index a) (Index b) = refl
step_eq (Index a) (Member b) = refl
step_eq (Member a) (Name b) = refl
step_eq (Member a) (Index b) = refl
step_eq (Member a) (Member b) = refl

pub steps_eq : (xs ys : List Step) → pointwise steps.eq-value.it xs ys ≡ same_steps xs ys
steps_eq [] [] = refl
steps_eq [] (y ∷ ys) = refl
steps_eq (x ∷ xs) [] = refl
steps_eq (x ∷ xs) (y ∷ ys) = λ i. step_eq x y i && steps_eq xs ys i

pub path_eq : (a b : Path) → pointwise steps.eq-value.it a.steps b.steps ≡ same_path a b
path_eq a b = steps_eq a.steps b.steps

-- ---- equal by the test, and equal

same_number : (n m : ℕ) → nat_eq n m ≡ true → n ≡ m
same_number n m h = eqb-true n m h

step_is : (a b : Step) → same_step a b ≡ true → a ≡ b
step_is (Name a) (Name b) h = ap (λ (n : List ℕ). Name n) ((bytes_eq-Decides a b).0 h)
step_is (Index a) (Index b) h = ap (λ n. Index n) (same_number a b h)
step_is (Member a) (Member b) h = ap (λ n. Member n) (same_number a b h)
step_is (Name a) (Index b) h = absurd (true≢false (sym h))
step_is (Name a) (Member b) h = absurd (true≢false (sym h))
step_is (Index a) (Name b) h = absurd (true≢false (sym h))
step_is (Index a) (Member b) h = absurd (true≢false (sym h))
step_is (Member a) (Name b) h = absurd (true≢false (sym h))
step_is (Member a) (Index b) h = absurd (true≢false (sym h))

own_number : (n : ℕ) → nat_eq n n ≡ true
own_number n = grind arith

own_step : (a : Step) → same_step a a ≡ true
own_step (Name a) = (bytes_eq-Decides a a).1 refl
own_step (Index n) = own_number n
own_step (Member n) = own_number n

left_of : (a b : Bool) → a && b ≡ true → a ≡ true
left_of true b h = refl
left_of false b h = h

right_of : (a b : Bool) → a && b ≡ true → b ≡ true
right_of true b h = h
right_of false b h = absurd (true≢false (sym h))

pub steps_are : (xs ys : List Step) → same_steps xs ys ≡ true → xs ≡ ys
steps_are [] [] h = refl
steps_are [] (y ∷ ys) h = absurd (true≢false (sym h))
steps_are (x ∷ xs) [] h = absurd (true≢false (sym h))
steps_are (x ∷ xs) (y ∷ ys) h = λ i. step_is x y (left_of (same_step x y) (same_steps xs ys) h) i ∷ steps_are xs ys (right_of (same_step x y) (same_steps xs ys) h) i

pub own_steps : (xs : List Step) → same_steps xs xs ≡ true
own_steps [] = refl
own_steps (x ∷ xs) = rw (own_step x, own_steps xs) refl

-- paths that the test finds equal are equal
pub path_is : (a b : Path) → same_path a b ≡ true → a ≡ b
path_is a b h = λ i. record { steps = steps_are a.steps b.steps h i }

-- each path is equal to itself
pub own_path : (a : Path) → same_path a a ≡ true
own_path a = own_steps a.steps

-- the test doesn't depend on the order
pub path_flip : (a b : Path) → same_path a b ≡ same_path b a
path_flip a b = by (same_path a b) (same_path b a) refl refl
  where
    by : (s t : Bool) → same_path a b ≡ s → same_path b a ≡ t → s ≡ t
    by true true e f = refl
    by false false e f = refl
    by true false e f = sym (own_path a) ∙ ap (λ c. same_path c a) (path_is a b e) ∙ f
    by false true e f = sym e ∙ ap (λ c. same_path c b) (sym (path_is b a f)) ∙ own_path b
