use Rattle.std.proofs.Common.{◌+◌, not, [], ◌∷◌, ◌++◌, sym, ap, ◌∙◌, arith}
use Rattle.wake_ring.specs.Order.{items_of}
use Rattle.wake_ring.specs.Queue.{Queue, is_in, queue}
use Rattle.wake_ring.proofs.Members.{few_below}
use Rattle.wake_ring.proofs.Rings.{in_bound, has_when, lacks_when, pushed_stands, ring_of, queue_is, prev_there}
use Rattle.wake_ring.proofs.queue.NumberQueue.push_back.Goals as goal

pub returns-then-next-i-clause-there : goal.returns-then-next-i-clause-there
returns-then-next-i-clause-there c =
    let r = c.self.inside in let i = c.args.i in
    let lt = in_bound c.args.self.now r.end r.len i r.chain c.self.view_is c.requires in
    let here = has_when r.end i r.chain (items_of r.end r.len r.chain) lt c.self.invariant (λ e. c.if-next-i.true (c.next.ensures ∙ e)) in
    sym (ap not (ap (λ (q : Queue). is_in i q.items) (sym c.self.view_is) ∙ here))

pub link_before-requires-clause-last : goal.link_before-requires-clause-last
link_before-requires-clause-last c =
    let r = c.self.inside in
    prev_there r.end r.end r.chain (items_of r.end r.len r.chain) (omega arith) c.self.invariant

pub overflow_add-self : goal.overflow_add-self
overflow_add-self c =
    let r = c.self.inside in let i = c.args.i in let ring = c.self.invariant in
    let lt = in_bound c.args.self.now r.end r.len i r.chain c.self.view_is c.requires in
    let stands = pushed_stands r.end i r.len r.chain c.link_before.new.self lt ring (sym c.next.ensures ∙ c.if-next-i.false) c.link_before.ensures in
    omega (arith, ring.few, stands.count, few_below r.end (items_of r.end r.len r.chain ++ i ∷ []) stands.ring.distinct stands.ring.below)

pub invariant_of-self : goal.invariant_of-self
invariant_of-self c =
    let r = c.self.inside in let i = c.args.i in
    let lt = in_bound c.args.self.now r.end r.len i r.chain c.self.view_is c.requires in
    ring_of r.end (r.len + 1) c.link_before.new.self (items_of r.end r.len r.chain ++ i ∷ [])
    (pushed_stands r.end i r.len r.chain c.link_before.new.self lt c.self.invariant (sym c.next.ensures ∙ c.if-next-i.false) c.link_before.ensures)

pub returns-clause-there : goal.returns-clause-there
returns-clause-there c =
    let r = c.self.inside in let i = c.args.i in
    let lt = in_bound c.args.self.now r.end r.len i r.chain c.self.view_is c.requires in
    let gone = lacks_when r.end i r.chain (items_of r.end r.len r.chain) lt c.self.invariant (sym c.next.ensures ∙ c.if-next-i.false) in
    sym (ap not (ap (λ (q : Queue). is_in i q.items) (sym c.self.view_is) ∙ gone))

pub returns-clause-added : goal.returns-clause-added
returns-clause-added c =
    let r = c.self.inside in let i = c.args.i in
    let lt = in_bound c.args.self.now r.end r.len i r.chain c.self.view_is c.requires in
    queue_is r.end (r.len + 1) c.link_before.new.self (items_of r.end r.len r.chain ++ i ∷ [])
    (pushed_stands r.end i r.len r.chain c.link_before.new.self lt c.self.invariant (sym c.next.ensures ∙ c.if-next-i.false) c.link_before.ensures)
    ∙ ap (λ (q : Queue). queue q.bound (q.items ++ i ∷ [])) c.self.view_is
