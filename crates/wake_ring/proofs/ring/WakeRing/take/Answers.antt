use Rattle.std.proofs.Common.{rules, ◌≡◌, true}
use Rattle.wake_ring.specs.Flags.{flag_at}
use Rattle.wake_ring.proofs.Flags.{fewer_wait, left_out}
use Rattle.wake_ring.proofs.ring.WakeRing.take.Goals as goal

pub invariant_of-self-2 : goal.invariant_of-self-2
invariant_of-self-2 c =
    let r = c.self.inside in let i = c.in_ok-i.i in
    let here : flag_at r.flags.items i ≡ true = search rules in
    fewer_wait r.flags.items r.count i r.queue c.guessed-guess.new.queue c.self.invariant here c.guessed-guess.ensures

pub returns-clause-taken : goal.returns-clause-taken
returns-clause-taken c = left_out c.args.self.now c.self.inside.flags.items c.in_ok-i.i c.self.view_is
