use Rattle.std.proofs.Common.{◌∙◌, ap, ◌||◌, bytes_eq}
use Rattle.std.specs.List.{list_any}
use Rattle.member_faults.proofs.RepeatedNames.{one_name}
use Rattle.member_faults.proofs.names.with_name.Goals as goal

pub returns : goal.returns
returns c = one_name c.args.first c.with_fault.result c.args.met.now c.meet.new.self c.args.name.now c.in_ok-is_met.is_met
    (c.in_ok-is_met.ensures.before ∙ ap (λ t. list_any (bytes_eq t) c.args.met.now) c.as_str.ensures)
    (λ other. c.in_ok-is_met.ensures.more other ∙ ap (λ t. bytes_eq other t || list_any (bytes_eq other) c.args.met.now) c.as_str.ensures)
    c.with_fault.ensures
