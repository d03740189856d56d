use Rattle.std.proofs.Common.{◌∙◌, ap, Some}
use Rattle.expr_nodes.specs.type_heads.Shown.{kind_form}
use Rattle.expr_nodes.specs.Seen.{seen_kind, seen_size}
use Rattle.expr_typing.proofs.Forms.{list_made}
use Rattle.typed_parts.proofs.Results.{if_ok_more}
use Rattle.expr_typing.proofs.held.list_of.Goals as goal

pub returns : goal.returns
returns c = if_ok_more c.listed.result _ _
    (λ t h. ap Some h ∙ list_made c.args.place c.args.path.now c.args.of (kind_form c.args.kind) c.args.count (seen_kind c.kind_value.result) (seen_kind c.kind_value-2.result)
    (seen_size c.field.result) (seen_size c.unit.result) c.per_of-per.result _ c.kind_value.ensures c.kind_value-2.ensures c.field.ensures c.unit.ensures c.per_of-per.ensures.per c.in_ok-items.ensures)
    c.listed.ensures
