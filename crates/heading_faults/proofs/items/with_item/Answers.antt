use Rattle.std.proofs.Common.{◌∙◌, ap, ◌||◌}
use Rattle.type_members.specs.type_heads.HeadingFaults.{shares_item}
use Rattle.heading_faults.specs.ItemSets.{has_item}
use Rattle.heading_faults.proofs.ItemSteps.{one_item}
use Rattle.heading_faults.proofs.items.with_item.Goals as goal

pub returns : goal.returns
returns c = one_item c.args.first c.with_member.result c.args.met.now (record { names = c.meet.new.self.names; numbers = c.meet.new.self.numbers; next = c.in_ok-met.field-0 })
    c.args.item.now c.number_of-number.result c.in_ok-is_met.is_met c.number_of-number.ensures
    (c.in_ok-is_met.ensures.before ∙ ap (λ n. has_item c.args.met.now (record { name = n; number = c.number_of-number.result })) c.as_str.ensures)
    (λ other. c.in_ok-is_met.ensures.more other ∙ ap (λ n. shares_item other (record { name = n; number = c.number_of-number.result }) || has_item c.args.met.now other) c.as_str.ensures)
    c.in_ok-met.ensures c.with_member.ensures
