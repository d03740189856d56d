use Rattle.std.proofs.Common.{◌∙◌, ap, Some, None}
use Rattle.std.specs.Prelude.{slice_get}
use Rattle.expr_nodes.proofs.LabelPlaces.{found_at, label_at}
use Rattle.expr_nodes.proofs.labels.LabelTable.named.Goals as goal

pub returns-in-Some : goal.returns-in-Some
returns-in-Some c =
    label_at c.deref.result.now c.in-Some.place c.get.result c.get.ensures.lookup
    ∙ ap (λ xs. slice_get xs c.in-Some.place) c.deref.ensures.value
    ∙ found_at c.args.name.now c.args.self.now.labels.items c.args.self.now.names (Some c.in-Some.place) c.args.self.now.names_are c.in-Some.ensures

pub returns-in-None : goal.returns-in-None
returns-in-None c = found_at c.args.name.now c.args.self.now.labels.items c.args.self.now.names None c.args.self.now.names_are c.in-None.ensures
