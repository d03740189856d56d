use Rattle.std.proofs.Common.{◌≡◌, ◌∙◌, ◌||◌, ap, sym, length}
use Rattle.type_members.specs.type_heads.Table.{bases}
use Rattle.type_members.specs.type_heads.Members.{has}
use Rattle.type_members.specs.type_heads.Cycles.{returns as leads}
use Rattle.fault_sets.proofs.RowSteps.{if_ok}
use Rattle.heading_faults.proofs.cycles.depends_on_itself.Goals as goal

pub returns : goal.returns
returns g c =
    if_ok (λ b. b ≡ leads c.count.result (g.S.Steps.next c.args.steps.now) c.args.of)
    (λ b. b ≡ (has c.args.of (bases c.args.heads.now c.args.of) || leads (length c.args.heads.now) (g.S.Steps.next c.args.steps.now) c.args.of))
    (λ b is. is ∙ ap (λ n. leads n (g.S.Steps.next c.args.steps.now) c.args.of) c.count.ensures
    ∙ ap (λ t. t || leads (length c.args.heads.now) (g.S.Steps.next c.args.steps.now) c.args.of) (sym (sym c.has_base.ensures ∙ c.if-has_base.false)))
    c.leads_back.result c.leads_back.ensures
