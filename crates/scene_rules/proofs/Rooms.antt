-- Sound constraints have room.
use Rattle.std.proofs.Common.{◌≡◌, ℕ, ◌*◌, ◌≤◌, ◌<◌, refl, sym, Bool, true, false, ◌&&◌, Option, Some, None, arith, true≢false}
use Rattle.std.specs.Prelude.{is_none}
use Rattle.std.specs.Option.{option_map_or}
use Rattle.osc_base.specs.declared.mark.Strength.{Strength}
use Rattle.osc_base.specs.declared.path.Path.{Path}
use Rattle.osc_base.specs.Comparisons.{greatest_part}
use Rattle.expr_nodes.specs.Kinds.{is_truth}
use Rattle.expr_nodes.specs.Typed.{Typed, kind, scale, reach}
use Rattle.rule_parts.specs.composition.Scenes.{Scene, Occurrence, source}
use Rattle.rule_parts.specs.composition.Invariants.{is_expression, is_occurrence, is_target}
use Rattle.rule_parts.specs.field_flatten.Seen.{has_values}
use Rattle.rule_parts.proofs.of_field_flatten.Tests.{left_of, right_of}
use Rattle.rule_parts.specs.flat_shapes.Room.{has_room}
use Rattle.rule_parts.specs.Rooms.{has_rule, are_values}
use Rattle.rule_parts.proofs.Values.{known}

module _ (scene : Scene) where
  truth_room : (t : Typed) → is_truth (kind t) && is_expression scene t ≡ true → has_values t ≡ true → has_room 1 t ≡ true
  truth_room t h v =
      let k = known scene t (right_of (is_truth (kind t)) (is_expression scene t) h) v in
      let unit : scale t ≡ 1 = k.unit (left_of (is_truth (kind t)) (is_expression scene t) h) in
      let once : 1 ≡ scale t * 1 = omega (arith, unit) in
      k.room 1 1 once (omega arith) (same (reach t) greatest_part k.small) (omega arith)
    where
      same : (n m : ℕ) → n ≤ m → n * 1 ≤ m
      same n m less = omega (arith, less)

  truth_part : (typed : Option Typed) → option_map_or (λ (t : Typed). is_truth (kind t) && is_expression scene t) typed false ≡ true → are_values typed ≡ true → has_rule typed ≡ true
  truth_part None h v = refl
  truth_part (Some t) h v = truth_room t h v

  none_part : (typed : Option Typed) → is_none typed ≡ true → has_rule typed ≡ true
  none_part None h = refl
  none_part (Some t) h = absurd (true≢false (sym h))

  -- the rule of a sound constraint has room
  pub occurrence_room : (o : Occurrence) (strength : Strength) → is_occurrence scene o strength ≡ true → are_values o.typed ≡ true → has_rule o.typed ≡ true
  occurrence_room o Strength.Hard h v = truth_part o.typed h v
  occurrence_room o Strength.Default h v = truth_part o.typed h v
  occurrence_room o Strength.Remove h v = none_part o.typed (left_of (is_none o.typed) (option_map_or (λ (p : Path). is_target scene p (source scene p)) o.mark.target false) h)
