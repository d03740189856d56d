use Rattle.std.proofs.Common.{◌∙◌, ap, map}
use Rattle.type_members.specs.osc_base.FaultRows.{first_from}
use Rattle.type_members.specs.type_heads.Bodied.{seen_body}
use Rattle.type_members.specs.Listed.{lists_of}
use Rattle.member_faults.specs.ListedRows.{types_with}
use Rattle.member_faults.proofs.ConditionSteps.{no_condition, some_condition}
use Rattle.member_faults.proofs.declared.with_condition.Goals as goal

pub returns-in_ok-found-in-Some : goal.returns-in_ok-found-in-Some
returns-in_ok-found-in-Some c =
    let d = c.args.depends.now in
    let ts = types_with d.heads.now (map seen_body d.bodies.now) (lists_of d.lists.now) in
    c.in_ok-found-in-Some.ensures ∙ ap (first_from c.args.first) (some_condition ts c.args.of c.in-Some.condition.now c.in-Some.ensures)

pub returns-in-None : goal.returns-in-None
returns-in-None c =
    let d = c.args.depends.now in
    let ts = types_with d.heads.now (map seen_body d.bodies.now) (lists_of d.lists.now) in
    ap (first_from c.args.first) (no_condition ts c.args.of c.in-None.ensures)
