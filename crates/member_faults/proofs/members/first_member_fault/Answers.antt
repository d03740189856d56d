use Rattle.std.proofs.Common.{◌∙◌, ap, sym, map}
use Rattle.type_members.specs.osc_base.FaultRows.{first_fault}
use Rattle.type_members.specs.type_heads.Bodied.{seen_body}
use Rattle.type_members.specs.type_heads.MemberFaults.{member_fault_rows}
use Rattle.type_members.specs.Listed.{lists_of}
use Rattle.member_faults.specs.ListedRows.{types_with}
use Rattle.member_faults.proofs.members.first_member_fault.Goals as goal

pub returns : goal.returns
returns c = λ ts heads_are bodies_are members_are.
    c.in_ok-found.ensures
    ∙ ap (λ hs. first_fault (member_fault_rows (types_with hs (map seen_body c.args.bodies.now) (lists_of c.args.lists.now)))) (sym heads_are)
    ∙ ap (λ bs. first_fault (member_fault_rows (types_with ts.table.heads bs (lists_of c.args.lists.now)))) (sym bodies_are)
    ∙ ap (λ ms. first_fault (member_fault_rows (types_with ts.table.heads ts.bodies ms))) (sym members_are)
