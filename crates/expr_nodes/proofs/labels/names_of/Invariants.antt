use Rattle.std.proofs.Common.{◌≡◌, map, take}
use Rattle.expr_nodes.specs.declared.labels.Label.{Label}
use Rattle.expr_nodes.proofs.labels.names_of.Given as goal

abbrev pub invariant-loop-label : goal.invariant-loop-label
invariant-loop-label l = l.names.items ≡ map (λ (x : Label). x.name) (take l.label-index l.labels)
