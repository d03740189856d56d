use Rattle.std.proofs.Common.{List, [], ◌∷◌, length}
use Rattle.dsl_cursor.specs.Words.{Token, Forest, Part}
use Rattle.dsl_headings.specs.Words.{BasePart, unit_tail}
use Rattle.dsl_cursor.proofs.Loops.{Along}
use Rattle.dsl_headings.proofs.units.unit_rest.Given as goal

-- whatever the declaration ends with
abbrev pub AlongUnit : List BasePart → List BasePart → List Token → List Token → Type 0
AlongUnit begun so_far old now = (end : Forest) → Along Part.UnitTail (λ bases. unit_tail bases end) begun so_far old now

abbrev pub invariant-bases : goal.invariant-bases
invariant-bases l = AlongUnit (l.fn.first ∷ []) l.bases l.fn.tokens l.tokens

abbrev pub decreases-bases : goal.decreases-bases
decreases-bases l = length l.tokens
