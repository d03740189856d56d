use Rattle.dsl_spell.proofs.Places.{Left}
use Rattle.dsl_spell.proofs.rows.push_rest.Given as goal

abbrev pub invariant-items : goal.invariant-items
invariant-items g l = Left g.T.Next.tail l.items l.item-index l.fn.w l.w
