use Rattle.std.proofs.Common.{rules, ◌≡◌, false, arith}
use Rattle.wake_ring.specs.Flags.{flag_at}
use Rattle.wake_ring.proofs.Flags.{has_flag, one_free, more_waits}
use Rattle.wake_ring.proofs.ring.WakeRing.add.Goals as goal

pub overflow_add-self : goal.overflow_add-self
overflow_add-self c =
    let r = c.self.inside in let i = c.args.i in
    let less = has_flag c.args.self.now r.flags.items i c.self.view_is c.requires in
    let out : flag_at r.flags.items i ≡ false = search rules in
    omega (arith, c.self.invariant.few, c.self.invariant.count, one_free r.flags.items i less out)

pub invariant_of-self : goal.invariant_of-self
invariant_of-self c =
    let r = c.self.inside in let i = c.args.i in
    let less = has_flag c.args.self.now r.flags.items i c.self.view_is c.requires in
    let out : flag_at r.flags.items i ≡ false = search rules in
    more_waits r.flags.items r.count i r.queue c.queue_below.new.queue c.self.invariant less out c.queue_below.ensures
