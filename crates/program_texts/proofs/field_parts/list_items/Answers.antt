use Rattle.std.proofs.Common.{◌∙◌, Some, ap, map, sym}
use Rattle.dsl_tree.specs.Views.{expr_tree}
use Rattle.dsl_tree.proofs.Seen.{seen_listed}
use Rattle.program_texts.specs.Ranges.{listed_items}
use Rattle.program_texts.proofs.ExprKinds.{items_back, no_list}
use Rattle.program_texts.proofs.field_parts.list_items.Goals as goal

pub returns-in-Listed : goal.returns-in-Listed
returns-in-Listed c =
    ap (λ xs. Some (map expr_tree xs)) c.as_slice.ensures ∙ ap Some (sym (items_back (map expr_tree c.in-Listed.items)))
    ∙ sym (ap listed_items (seen_listed c.in-Listed.place c.in-Listed.items)) ∙ ap (λ e. listed_items (expr_tree e)) (sym c.in-Listed.is)

pub returns-in_default : goal.returns-in_default
returns-in_default c = sym (no_list c.args.expr.now c.in_default.not-Listed)
