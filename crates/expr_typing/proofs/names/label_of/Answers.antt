use Rattle.std.proofs.Common.{◌∙◌, ap, sym, bytes_eq, map, option_copied, option_map}
use Rattle.std.specs.Prelude.{find}
use Rattle.expr_nodes.specs.Scope.{Label}
use Rattle.expr_nodes.specs.SeenNames.{labels_in, seen_label}
use Rattle.expr_nodes.proofs.LabelPlaces.{found_seen}
use Rattle.expr_typing.proofs.names.label_of.Goals as goal

pub returns-in-Some : goal.returns-in-Some
returns-in-Some c =
    let way = c.args.scope.now.way.now in
    ap (option_map (seen_label way)) c.named.ensures
    ∙ found_seen way c.args.name.now c.in-Some.table.now.labels.items
    ∙ ap (λ o. find (λ (l : Label). bytes_eq l.name c.args.name.now) (map (seen_label way) (labels_in (option_copied o)))) (sym c.in-Some.is)
