use Rattle.dsl_spell.proofs.Places.{one_more, all_done}
use Rattle.dsl_spell.proofs.rows.push_rest.Goals as goal

pub items-preserved : goal.items-preserved
items-preserved g c =
    one_more g.T.Next.tail c.args.items.now c.items.item-index c.item-item.result c.args.w.now c.items.w c.next.new.w c.items.invariant c.in_ok-next.ensures c.items-test.true c.item-item.is

pub returns : goal.returns
returns g c = all_done g.T.Next.tail c.args.items.now c.items.item-index c.args.w.now c.items.w c.items.invariant c.items-test.false g.met.T.Next.ends
