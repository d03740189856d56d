-- Rows of items of which some hard constraints are kept.
use Rattle.std.proofs.Common.{◌≡◌, ◌∙◌, ℕ, ◌+◌, refl, sym, ap, List, [], ◌∷◌, Bool, true, false, not, ◌&&◌, ◌||◌, cond, map}
use Rattle.std.specs.Prelude.{ℤ}
use Rattle.std.specs.List.{list_all}
use Rattle.box_eval.specs.FlatRules.{FlatRule, Always, holds_at}
use Rattle.field_flatten.specs.composition.declared.run.Run.{Run}
use Rattle.field_flatten.specs.composition.Scenes.{Scene}
use Rattle.field_flatten.specs.composition.Items.{Item, item_holds, is_hard}
use Rattle.field_flatten.specs.Rules.{layout, item_rule}
use Rattle.field_flatten.proofs.Tests.{left_of, right_of, both}
use Rattle.asked_forms.specs.AskedForms.{kept_rule, kept_from, all_kept, keeps_hold}

-- a rule that may be left out
left_out : (point : List ℤ) (b : Bool) (rule : FlatRule) → holds_at point (cond b Always rule) ≡ b || holds_at point rule
left_out point true rule = refl
left_out point false rule = refl

module _ (scene : Scene) (keeps : ℕ → Bool) (point : List ℤ) where
  abbrev holds : Item → Bool
  holds i = holds_at point (item_rule scene (layout scene) i)

  kept_truth : (n : ℕ) (i : Item) → holds_at point (kept_rule scene keeps n i) ≡ (is_hard i && not (keeps n)) || holds i
  kept_truth n i = left_out point (is_hard i && not (keeps n)) (item_rule scene (layout scene) i)

  -- where the kept rules hold, so do all that aren't of hard constraints
  pub soft_of_kept : (n : ℕ) (items : List Item) → list_all (holds_at point) (kept_from scene keeps n items) ≡ true → list_all (λ i. is_hard i || holds i) items ≡ true
  soft_of_kept n [] h = refl
  soft_of_kept n (i ∷ is) h =
      let first = left_of (holds_at point (kept_rule scene keeps n i)) (list_all (holds_at point) (kept_from scene keeps (n + 1) is)) h in
      let rest = right_of (holds_at point (kept_rule scene keeps n i)) (list_all (holds_at point) (kept_from scene keeps (n + 1) is)) h in
      both (is_hard i || holds i) (list_all (λ j. is_hard j || holds j) is) (soft (is_hard i) (not (keeps n)) (holds i) (sym (kept_truth n i) ∙ first)) (soft_of_kept (n + 1) is rest)
    where
      soft : (hard left holds : Bool) → (hard && left) || holds ≡ true → hard || holds ≡ true
      soft true left holds e = refl
      soft false left holds e = e

  -- where rules and items agree, the kept rules hold exactly if the soft ones do, and each hard constraint that is kept
  pub kept_says : (run : Run) (n : ℕ) (items : List Item) → map holds items ≡ map (item_holds scene run) items
      → list_all (holds_at point) (kept_from scene keeps n items) ≡ list_all (λ i. is_hard i || holds i) items && keeps_hold scene keeps run n items
  kept_says run n [] e = refl
  kept_says run n (i ∷ is) e =
      ap (λ b. b && list_all (holds_at point) (kept_from scene keeps (n + 1) is)) (kept_truth n i)
      ∙ step (is_hard i) (keeps n) (holds i) (item_holds scene run i) (list_all (holds_at point) (kept_from scene keeps (n + 1) is)) (list_all (λ j. is_hard j || holds j) is)
      (keeps_hold scene keeps run (n + 1) is) (head_is e) (kept_says run (n + 1) is (tail_is e))
    where
      head_is : map holds (i ∷ is) ≡ map (item_holds scene run) (i ∷ is) → holds i ≡ item_holds scene run i
      head_is f = cc

      tail_is : map holds (i ∷ is) ≡ map (item_holds scene run) (i ∷ is) → map holds is ≡ map (item_holds scene run) is
      tail_is f = cc

      step : (hard kept holds item rest soft later : Bool) → holds ≡ item → rest ≡ soft && later
          → ((hard && not kept) || holds) && rest ≡ ((hard || holds) && soft) && ((not (hard && kept) || item) && later)
      step hard kept holds item rest soft later f g = rw (g, sym f) (by hard kept holds soft later)
        where
          by : (hard kept holds soft later : Bool)
              → ((hard && not kept) || holds) && (soft && later) ≡ ((hard || holds) && soft) && ((not (hard && kept) || holds) && later)
          by true true true true l = refl
          by true true true false l = refl
          by true true false true l = refl
          by true true false false l = refl
          by true false true true l = refl
          by true false true false l = refl
          by true false false true l = refl
          by true false false false l = refl
          by false true true true l = refl
          by false true true false l = refl
          by false true false true l = refl
          by false true false false l = refl
          by false false true true l = refl
          by false false true false l = refl
          by false false false true l = refl
          by false false false false l = refl

-- with all hard constraints kept, each holds
pub all_held : (scene : Scene) (run : Run) (n : ℕ) (items : List Item) → keeps_hold scene all_kept run n items ≡ list_all (λ i. not (is_hard i) || item_holds scene run i) items
all_held scene run n [] = refl
all_held scene run n (i ∷ is) = ap (λ b. (not b || item_holds scene run i) && keeps_hold scene all_kept run (n + 1) is) (with_true (is_hard i))
    ∙ ap (λ b. (not (is_hard i) || item_holds scene run i) && b) (all_held scene run (n + 1) is)
  where
    with_true : (b : Bool) → b && true ≡ b
    with_true true = refl
    with_true false = refl

-- what holds of more hard constraints holds of fewer
pub fewer_hold : (scene : Scene) (fewer more : ℕ → Bool) (run : Run) → ((n : ℕ) → fewer n ≡ true → more n ≡ true) → (n : ℕ) (items : List Item)
    → keeps_hold scene more run n items ≡ true → keeps_hold scene fewer run n items ≡ true
fewer_hold scene fewer more run f n [] h = refl
fewer_hold scene fewer more run f n (i ∷ is) h =
    let first = left_of (not (is_hard i && more n) || item_holds scene run i) (keeps_hold scene more run (n + 1) is) h in
    let rest = right_of (not (is_hard i && more n) || item_holds scene run i) (keeps_hold scene more run (n + 1) is) h in
    both (not (is_hard i && fewer n) || item_holds scene run i) (keeps_hold scene fewer run (n + 1) is) (by (is_hard i) (fewer n) (more n) (item_holds scene run i) (f n) first)
    (fewer_hold scene fewer more run f (n + 1) is rest)
  where
    by : (hard few many item : Bool) → (few ≡ true → many ≡ true) → not (hard && many) || item ≡ true → not (hard && few) || item ≡ true
    by false few many item g e = refl
    by true false many item g e = refl
    by true true many item g e = rw (g refl) at e
