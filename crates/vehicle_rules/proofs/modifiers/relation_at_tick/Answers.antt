use Rattle.std.proofs.Common.{◌∙◌, ap, ap₂}
use Rattle.rule_parts.specs.modifier_rules.Relations.{relation_at}
use Rattle.rule_parts.specs.field_flatten.Rules.{sample_slots}
use Rattle.rule_parts.specs.scene_slots.SeenSlots.{layout_of}
use Rattle.vehicle_rules.proofs.modifiers.relation_at_tick.Goals as goal

pub returns-clause-rule : goal.returns-clause-rule
returns-clause-rule c low high scale =
    c.relation_of.ensures.rule low high scale
    ∙ ap₂ (λ o p. relation_at c.args.modifier.now.kind o p low high scale) c.slots_at-own.ensures
    (c.slots_at-other.ensures ∙ ap (λ p. sample_slots (layout_of c.args.slots.now) p c.args.tick) c.other_of.ensures)
