use Rattle.std.proofs.Common.{◌≢◌, ◌<◌, ◌≤◌, length, All, AllPairs, sym, ap, subst, ◌∙◌, arith}
use Rattle.wake_ring.specs.Links.{next_at}
use Rattle.wake_ring.specs.Order.{items_of}
use Rattle.wake_ring.specs.Queue.{Queue}
use Rattle.wake_ring.proofs.Members.{all_below, few_below, pairs_differ}
use Rattle.wake_ring.proofs.Rings.{length-walk}
use Rattle.wake_ring.proofs.queue.NumberQueue.len.Goals as goal

pub returns-clause-len : goal.returns-clause-len
returns-clause-len c =
    let r = c.self.inside in
    sym (length-walk r.len (next_at r.chain r.end) r.chain.nexts) ∙ ap (λ (q : Queue). length q.items) c.self.view_is

pub returns-clause-fits : goal.returns-clause-fits
returns-clause-fits c =
    let r = c.self.inside in let ring = c.self.invariant in
    let few = few_below r.end (items_of r.end r.len r.chain) ring.distinct ring.below in
    let fits : r.len ≤ r.end = omega (arith, few, length-walk r.len (next_at r.chain r.end) r.chain.nexts) in
    subst (λ (q : Queue). r.len ≤ q.bound) c.self.view_is fits

pub returns-clause-distinct : goal.returns-clause-distinct
returns-clause-distinct c =
    let r = c.self.inside in
    subst (λ (q : Queue). AllPairs (λ x y. x ≢ y) q.items) c.self.view_is (pairs_differ (items_of r.end r.len r.chain) c.self.invariant.distinct)

pub returns-clause-below : goal.returns-clause-below
returns-clause-below c =
    let r = c.self.inside in
    subst (λ (q : Queue). All (λ x. x < q.bound) q.items) c.self.view_is (all_below r.end (items_of r.end r.len r.chain) c.self.invariant.below)
