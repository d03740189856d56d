use Rattle.std.proofs.Common.{◌-◌, sym, ap, ◌∙◌, arith}
use Rattle.wake_ring.specs.Order.{items_of}
use Rattle.wake_ring.specs.Queue.{Queue, is_in, without, queue}
use Rattle.wake_ring.proofs.Members.{lacks_from}
use Rattle.wake_ring.proofs.Order.{without_absent}
use Rattle.wake_ring.proofs.Rings.{in_bound, has_when, lacks_when, removed_stands, ring_of, queue_is, prev_there, next_there}
use Rattle.wake_ring.proofs.queue.NumberQueue.remove.Goals as goal

pub returns-then-next-i-clause-there : goal.returns-then-next-i-clause-there
returns-then-next-i-clause-there c =
    let r = c.self.inside in let i = c.args.i in
    let lt = in_bound c.args.self.now r.end r.len i r.chain c.self.view_is c.requires in
    let gone = lacks_when r.end i r.chain (items_of r.end r.len r.chain) lt c.self.invariant (sym c.next.ensures ∙ c.if-next-i.true) in
    sym (ap (λ (q : Queue). is_in i q.items) (sym c.self.view_is) ∙ gone)

pub returns-then-next-i-clause-removed : goal.returns-then-next-i-clause-removed
returns-then-next-i-clause-removed c =
    let r = c.self.inside in let i = c.args.i in
    let lt = in_bound c.args.self.now r.end r.len i r.chain c.self.view_is c.requires in
    let xs = items_of r.end r.len r.chain in
    let gone = lacks_when r.end i r.chain xs lt c.self.invariant (sym c.next.ensures ∙ c.if-next-i.true) in
    sym c.self.view_is ∙ ap (λ l. queue r.end l) (sym (without_absent i xs (lacks_from i xs gone)))
    ∙ ap (λ (q : Queue). queue q.bound (without i q.items)) c.self.view_is

pub unlink-requires-clause-before : goal.unlink-requires-clause-before
unlink-requires-clause-before c =
    let r = c.self.inside in let i = c.args.i in
    let lt = in_bound c.args.self.now r.end r.len i r.chain c.self.view_is c.requires in
    prev_there r.end i r.chain (items_of r.end r.len r.chain) (omega (arith, lt)) c.self.invariant

pub unlink-requires-clause-after : goal.unlink-requires-clause-after
unlink-requires-clause-after c =
    let r = c.self.inside in let i = c.args.i in
    let lt = in_bound c.args.self.now r.end r.len i r.chain c.self.view_is c.requires in
    next_there r.end i r.chain (items_of r.end r.len r.chain) (omega (arith, lt)) c.self.invariant

pub invariant_of-self : goal.invariant_of-self
invariant_of-self c =
    let r = c.self.inside in let i = c.args.i in
    let lt = in_bound c.args.self.now r.end r.len i r.chain c.self.view_is c.requires in
    ring_of r.end (r.len - 1) c.unlink.new.self (without i (items_of r.end r.len r.chain))
    (removed_stands r.end i r.len r.chain c.unlink.new.self lt c.self.invariant (λ e. c.if-next-i.false (c.next.ensures ∙ e)) c.unlink.ensures)

pub returns-clause-there : goal.returns-clause-there
returns-clause-there c =
    let r = c.self.inside in let i = c.args.i in
    let lt = in_bound c.args.self.now r.end r.len i r.chain c.self.view_is c.requires in
    let here = has_when r.end i r.chain (items_of r.end r.len r.chain) lt c.self.invariant (λ e. c.if-next-i.false (c.next.ensures ∙ e)) in
    sym (ap (λ (q : Queue). is_in i q.items) (sym c.self.view_is) ∙ here)

pub returns-clause-removed : goal.returns-clause-removed
returns-clause-removed c =
    let r = c.self.inside in let i = c.args.i in
    let lt = in_bound c.args.self.now r.end r.len i r.chain c.self.view_is c.requires in
    queue_is r.end (r.len - 1) c.unlink.new.self (without i (items_of r.end r.len r.chain))
    (removed_stands r.end i r.len r.chain c.unlink.new.self lt c.self.invariant (λ e. c.if-next-i.false (c.next.ensures ∙ e)) c.unlink.ensures)
    ∙ ap (λ (q : Queue). queue q.bound (without i q.items)) c.self.view_is
