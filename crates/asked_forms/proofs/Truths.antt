-- What rules of presence and of the run's end say at a point of the box.
use Rattle.std.proofs.Common.{◌≡◌, ◌∙◌, ℕ, ◌≤◌, sym, ap, arith, List}
use Rattle.std.specs.Prelude.{ℤ, pos, nat_eq, unsigned_abs, ◌≤ℤ◌}
use Rattle.std.proofs.lemmas.Int.{ints}
use Rattle.osc_base.specs.declared.path.Path.{Path}
use Rattle.osc_base.specs.declared.listing.SlotName.{SlotName}
use Rattle.osc_base.specs.Comparisons.{same_number}
use Rattle.box_eval.specs.Truth.{is_same}
use Rattle.box_eval.specs.FlatRules.{Equal, Whole, holds_at, all_of}
use Rattle.field_flatten.specs.composition.declared.guard.Guard.{Guard}
use Rattle.field_flatten.specs.composition.Scenes.{Scene, guards, root_do, has_root_do}
use Rattle.field_flatten.specs.composition.Slots.{slot_names}
use Rattle.field_flatten.specs.Ends.{slot_in}
use Rattle.field_flatten.specs.Points.{slot_value, is_held, stands, end_named}
use Rattle.field_flatten.specs.Rules.{layout, guard_rule, presence_rules}
use Rattle.field_flatten.proofs.Tests.{two_ways, all_map, all_same}
use Rattle.field_flatten.proofs.JoinedRows.{all_holds}
use Rattle.field_flatten.proofs.SlotLaw.{Inside, end_between}
use Rattle.field_flatten.proofs.NumberLaw.{end_back}

pub same_is : (a b : ℤ) → is_same a b ≡ same_number a b
same_is a b = grind (arith, ints)

module _ (scene : Scene) (point : List ℤ) where
  abbrev at : SlotName → ℤ
  at = slot_value scene point

  guard_truth : (g : Guard) → holds_at point (guard_rule (layout scene) g) ≡ is_held at g
  guard_truth (Guard.Choice phase member) = same_is (at (SlotName.Choice phase)) (pos member)
  guard_truth (Guard.Value path value) = same_is (at (SlotName.Value path)) value

  -- the rule of what stands at a path holds exactly if it is there
  pub there_truth : (path : Path) → holds_at point (all_of (presence_rules (layout scene) (guards scene path))) ≡ stands scene at path
  there_truth path =
      all_holds point (presence_rules (layout scene) (guards scene path))
      ∙ all_map (holds_at point) (guard_rule (layout scene)) (guards scene path)
      ∙ all_same (λ g. holds_at point (guard_rule (layout scene) g)) (is_held at) (guards scene path) (λ g i. guard_truth g)

  module _ (inside : Inside scene (slot_value scene point)) where
    -- the rule of an end holds exactly if the point's run ends there
    pub end_truth : (end : ℕ) → holds_at point (Equal (layout scene).end (Whole (pos end))) ≡ nat_eq (end_named scene at) end
    end_truth end = ap (λ z. is_same z (pos end)) (sym (end_back scene point (slot_in (slot_names scene)) inside)) ∙ numbers (end_named scene at) end
      where
        numbers : (a b : ℕ) → is_same (pos a) (pos b) ≡ nat_eq a b
        numbers a b = grind (arith, ints)

    -- a point's run ends by the last tick
    pub end_small : end_named scene at ≤ scene.setting.ticks
    end_small = two_ways (has_root_do scene)
        (λ e. rw e (let b = end_between scene at inside root_do in small (at (SlotName.End root_do)) scene.setting.ticks b.0 b.1))
        (λ e. rw e (omega arith))
      where
        small : (z : ℤ) (n : ℕ) → pos 0 ≤ℤ z → z ≤ℤ pos n → unsigned_abs z ≤ n
        small z n a b = omega (arith, ints, a, b)
