use Rattle.std.proofs.Common.{◌≡◌, map, take}
use Rattle.scene_rules.specs.composition.SeenParts.{seen_occurrence}
use Rattle.flat_forms.proofs.marks.marks_of.Given as goal

abbrev pub invariant-constraints : goal.invariant-constraints
invariant-constraints l = l.marks ≡ map (λ o. o.mark) (map seen_occurrence (take l.constraint-index l.constraints))
