use Rattle.std.proofs.Common.{◌∙◌, ap, flat_map}
use Rattle.dsl_tree.specs.osc_base.FaultRows.{first_from}
use Rattle.name_scope.specs.Headings.{declarations, owner_rows, heir_rows, member_rows}
use Rattle.name_scope.proofs.HeadingRows.{three}
use Rattle.name_scope.proofs.headings.with_compound.Goals as goal

pub returns : goal.returns
returns c =
    let rows = flat_map (member_rows (declarations c.args.all.now)) c.args.compound.now.members in
    c.with_members.ensures
    ∙ ap (λ ms. first_from c.with_heir-first.result (flat_map (member_rows (declarations c.args.all.now)) ms)) c.as_slice.ensures
    ∙ ap (λ f. first_from f rows) c.with_heir-first.ensures
    ∙ ap (λ f. first_from (first_from f (heir_rows (declarations c.args.all.now) c.args.compound.now.heir)) rows) c.with_owner-first.ensures
    ∙ three c.args.first (owner_rows (declarations c.args.all.now) c.args.compound.now.name.first c.args.compound.now.name.second)
    (heir_rows (declarations c.args.all.now) c.args.compound.now.heir) rows
