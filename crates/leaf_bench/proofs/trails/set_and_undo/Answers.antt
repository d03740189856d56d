use Rattle.std.proofs.Common.{◌∙◌, sym, subst, ◌+◌, arith}
use Rattle.bound_trail.specs.History.{History}
use Rattle.leaf_bench.proofs.Undone.{IsAbove, above_self, lowered_above, all_undone}
use Rattle.leaf_bench.proofs.trails.set_and_undo.Goals as goal

pub lower-requires : goal.lower-requires
lower-requires c = omega (arith, c.requires.slots, c.loop-slot.invariant.long)

pub loop-slot-init : goal.loop-slot-init
loop-slot-init c = above_self c.args.trail.now c.requires

pub loop-slot-preserved : goal.loop-slot-preserved
loop-slot-preserved c =
    subst (λ (now : History). IsAbove c.args.trail.now now (c.loop-slot.slot + 1)) (sym c.lower.ensures)
    (lowered_above c.args.trail.now c.loop-slot.trail c.loop-slot.slot c.requires (omega arith) c.loop-slot.invariant)

pub returns : goal.returns
returns c = record {
  sets = omega (arith, c.mark-sets.ensures.mark, c.loop-slot.invariant.sets);
  back = c.undo_to.ensures ∙ all_undone c.args.trail.now c.loop-slot.trail c.loop-slot.slot c.loop-slot.invariant;
}
