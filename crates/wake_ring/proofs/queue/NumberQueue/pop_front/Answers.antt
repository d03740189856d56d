use Rattle.std.proofs.Common.{◌-◌, ◌<◌, sym, ap, subst, ◌∙◌, arith}
use Rattle.wake_ring.specs.Order.{items_of}
use Rattle.wake_ring.specs.Queue.{Queue, rest, queue}
use Rattle.wake_ring.proofs.Rings.{Stands, taken, ring_of, queue_is, prev_there, next_there}
use Rattle.wake_ring.proofs.queue.NumberQueue.pop_front.Goals as goal

pub unlink-requires : goal.unlink-requires
unlink-requires c =
    let r = c.self.inside in let xs = items_of r.end r.len r.chain in let ring = c.self.invariant in
    let below = (taken r.end r.len c.next-i.result r.chain ring c.next-i.ensures c.if-i-self.false).below in
    record {
      long = omega (arith, ring.nexts, ring.prevs);
      before = prev_there r.end c.next-i.result r.chain xs (omega (arith, below)) ring;
      after = next_there r.end c.next-i.result r.chain xs (omega (arith, below)) ring;
      i = omega (arith, ring.nexts, below);
    }

pub invariant_of-self : goal.invariant_of-self
invariant_of-self c =
    let r = c.self.inside in let xs = items_of r.end r.len r.chain in
    let t = taken r.end r.len c.next-i.result r.chain c.self.invariant c.next-i.ensures c.if-i-self.false in
    ring_of r.end (r.len - 1) c.unlink.new.self (rest xs) (subst (λ k. Stands r.end (r.len - 1) k (rest xs)) (sym c.unlink.ensures) t.stands)

pub returns-clause-below : goal.returns-clause-below
returns-clause-below c =
    let r = c.self.inside in
    let t = taken r.end r.len c.next-i.result r.chain c.self.invariant c.next-i.ensures c.if-i-self.false in
    subst (λ (q : Queue). c.next-i.result < q.bound) c.self.view_is t.below

pub returns-clause-rest : goal.returns-clause-rest
returns-clause-rest c =
    let r = c.self.inside in let xs = items_of r.end r.len r.chain in
    let t = taken r.end r.len c.next-i.result r.chain c.self.invariant c.next-i.ensures c.if-i-self.false in
    queue_is r.end (r.len - 1) c.unlink.new.self (rest xs) (subst (λ k. Stands r.end (r.len - 1) k (rest xs)) (sym c.unlink.ensures) t.stands)
    ∙ ap (λ (q : Queue). queue q.bound (rest q.items)) c.self.view_is
