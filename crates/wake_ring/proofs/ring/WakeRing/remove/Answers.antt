use Rattle.std.proofs.Common.{rules, ◌≡◌, false, ap, arith}
use Rattle.wake_ring.specs.Queue.{Queue}
use Rattle.wake_ring.specs.Flags.{flag_at}
use Rattle.wake_ring.proofs.Flags.{has_flag, is_flagged, one_less, fewer_wait, left_out, as_before}
use Rattle.wake_ring.proofs.ring.WakeRing.remove.Goals as goal

pub returns-then-not-index-clause-removed : goal.returns-then-not-index-clause-removed
returns-then-not-index-clause-removed c =
    let r = c.self.inside in let i = c.args.i in
    let out : flag_at r.flags.items i ≡ false = search rules in
    as_before c.args.self.now r.flags.items i c.self.view_is out

pub overflow_sub-self : goal.overflow_sub-self
overflow_sub-self c =
    let r = c.self.inside in let i = c.args.i in
    let less = has_flag c.args.self.now r.flags.items i c.self.view_is c.requires in
    let here = is_flagged r.flags.items i c.index.result.now less c.index.ensures c.if-not-index.false in
    omega (arith, c.self.invariant.count, one_less r.flags.items i here)

pub invariant_of-self : goal.invariant_of-self
invariant_of-self c =
    let r = c.self.inside in let i = c.args.i in
    let less = has_flag c.args.self.now r.flags.items i c.self.view_is c.requires in
    let here = is_flagged r.flags.items i c.index.result.now less c.index.ensures c.if-not-index.false in
    fewer_wait r.flags.items r.count i r.queue c.remove.new.self c.self.invariant here (ap (λ (q : Queue). q.bound) c.remove.ensures.removed)

pub returns-clause-removed : goal.returns-clause-removed
returns-clause-removed c = left_out c.args.self.now c.self.inside.flags.items c.args.i c.self.view_is
