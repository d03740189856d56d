use Rattle.std.proofs.Common.{◌≡◌, ◌++◌, ◌∷◌}
use Rattle.expr_nodes.specs.type_heads.Table.{bases, line_within}
use Rattle.program_texts.specs.SeenTexts.{types_in}
use Rattle.text_constraints.proofs.conditions.line_of.Given as goal

abbrev pub invariant-loop-steps : goal.invariant-loop-steps
invariant-loop-steps l = l.line ++ line_within l.steps (types_in l.texts).table.heads l.at ≡ l.fn.of ∷ bases (types_in l.texts).table.heads l.fn.of

abbrev pub decreases-loop-steps : goal.decreases-loop-steps
decreases-loop-steps l = l.steps
