use Rattle.std.proofs.Common.{◌∙◌, ◌+◌, ◌++◌, ap, drop, map}
use Rattle.type_members.specs.dsl_tree.Views.{member_tree}
use Rattle.type_members.specs.type_heads.Bodied.{seen_written}
use Rattle.type_members.specs.type_heads.HeadingFaults.{field_types}
use Rattle.heading_faults.specs.Holding.{fields_of}
use Rattle.fault_sets.proofs.RowSteps.{left_is, more_put}
use Rattle.heading_faults.proofs.held.push_fields.Goals as goal

pub loop-written-preserved : goal.loop-written-preserved
loop-written-preserved c =
    let x = c.written-item.result in
    more_put (c.args.into.now.items ++ fields_of c.args.heads.now (map seen_written c.args.members.now)) c.loop-written.into.items c.push_field.new.into.items
    (field_types c.args.heads.now (seen_written x) (member_tree x.member.now)) (fields_of c.args.heads.now (map seen_written (drop (c.loop-written.written-index + 1) c.args.members.now)))
    (c.in_ok-push_field.ensures (seen_written x))
    (c.loop-written.invariant ∙ ap (λ ws. c.loop-written.into.items ++ fields_of c.args.heads.now (map seen_written ws))
    (left_is c.args.members.now c.loop-written.written-index x c.loop-written-test.true c.written-item.is))
