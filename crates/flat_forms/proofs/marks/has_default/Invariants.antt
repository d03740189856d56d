use Rattle.std.proofs.Common.{◌≡◌, map, drop}
use Rattle.std.specs.List.{list_any}
use Rattle.scene_rules.specs.composition.SeenParts.{seen_occurrence}
use Rattle.flat_forms.proofs.Defaults.{marks_default}
use Rattle.flat_forms.proofs.marks.has_default.Given as goal

abbrev pub invariant-constraints : goal.invariant-constraints
invariant-constraints l =
    list_any marks_default (map (λ o. o.mark) (map seen_occurrence l.constraints)) ≡ list_any marks_default (map (λ o. o.mark) (map seen_occurrence (drop l.constraint-index l.constraints)))
