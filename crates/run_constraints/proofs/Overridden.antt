-- Which constraints are overridden.
use Rattle.std.proofs.Common.{◌≡◌, ◌∙◌, refl, sym, ap, ap₂, ℕ, zero, suc, ◌+◌, ◌≤◌, Bool, true, false, ◌||◌, cond, List, [], ◌∷◌, length, get_or, take, Option, Some, None, map}
use Rattle.std.proofs.lemmas.List.{take_all}
use Rattle.std.specs.Prelude.{slice_get, unwrap_or, option_map}
use Rattle.std.specs.Option.{option_map_or}
use Rattle.std.specs.List.{list_any}
use Rattle.scene_conditions.specs.composition.declared.part.Occurrence as part
use Rattle.scene_conditions.specs.composition.declared.run.Run.{Run}
use Rattle.scene_conditions.specs.composition.Scenes.{Scene}
use Rattle.scene_conditions.specs.composition.SeenParts.{seen_occurrence}
use Rattle.run_values.proofs.Rows.{later, mapped}
use Rattle.run_constraints.specs.FirstConstraints.{fails_default, first_default}

flag_at : {A : Type 0} (t : A → Bool) (o : Option A) → unwrap_or (option_map t o) false ≡ option_map_or t o false
flag_at t None = refl
flag_at t (Some x) = refl

flag_is : {A : Type 0} (t : A → Bool) (xs : List A) (i : ℕ) → unwrap_or (slice_get (map t xs) i) false ≡ option_map_or t (slice_get xs i) false
flag_is t [] i = refl
flag_is t (x ∷ xs) zero = refl
flag_is t (x ∷ xs) (suc i) = flag_is t xs i

any_same : (s t : ℕ → Bool) → ((i : ℕ) → s i ≡ t i) → (is : List ℕ) → list_any s is ≡ list_any t is
any_same s t e [] = refl
any_same s t e (i ∷ is) = ap₂ (λ a b. a || b) (e i) (any_same s t e is)

pub any_flagged : {A : Type 0} (t : A → Bool) (xs : List A) (flags : List Bool) (numbers : List ℕ) → flags ≡ map t xs
    → list_any (λ i. unwrap_or (slice_get flags i) false) numbers ≡ list_any (λ i. option_map_or t (slice_get xs i) false) numbers
any_flagged t xs flags numbers e =
    ap (λ fs. list_any (λ i. unwrap_or (slice_get fs i) false) numbers) e
    ∙ any_same (λ i. unwrap_or (slice_get (map t xs) i) false) (λ i. option_map_or t (slice_get xs i) false) (flag_is t xs) numbers

-- ---- the first default, step by step

module _ (scene : Scene) (run : Run) (i : ℕ) (xs : List part.Occurrence) (x : part.Occurrence) (h : 1 ≤ length xs) (at : x ≡ get_or xs 0 x) where
  pub default_later : fails_default scene run i (seen_occurrence x) ≡ false
      → first_default scene run (i + 1) (map seen_occurrence (later xs)) ≡ first_default scene run i (map seen_occurrence xs)
  default_later e =
      sym (ap (first_default scene run i) (mapped seen_occurrence xs x h at)
      ∙ ap (λ b. cond b (Some (seen_occurrence x)) (first_default scene run (i + 1) (map seen_occurrence (later xs)))) e)

  pub default_first : fails_default scene run i (seen_occurrence x) ≡ true → Some (seen_occurrence x) ≡ first_default scene run i (map seen_occurrence xs)
  default_first e =
      sym (ap (first_default scene run i) (mapped seen_occurrence xs x h at)
      ∙ ap (λ b. cond b (Some (seen_occurrence x)) (first_default scene run (i + 1) (map seen_occurrence (later xs)))) e)

-- ---- what is gathered of a whole list

composed : {A B D : Type 0} (f : A → B) (t : B → D) (xs : List A) → map (λ x. t (f x)) xs ≡ map t (map f xs)
composed f t [] = refl
composed f t (x ∷ xs) = ap (λ ys. t (f x) ∷ ys) (composed f t xs)

pub all_taken : {A B D : Type 0} (f : A → B) (t : B → D) (n : ℕ) (xs : List A) (whole : List B) → length xs ≤ n → (ys : List D) → ys ≡ map (λ x. t (f x)) (take n xs) → map f xs ≡ whole
    → ys ≡ map t whole
all_taken f t n xs whole h ys e w = e ∙ ap (map (λ x. t (f x))) (take_all n xs h) ∙ composed f t xs ∙ ap (map t) w
