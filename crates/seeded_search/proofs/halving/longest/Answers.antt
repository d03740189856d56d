use Rattle.std.proofs.Common.{sym, ap, ◌∙◌, arith}
use Rattle.std.proofs.lemmas.Int.{ints}
use Rattle.box_eval.specs.declared.bounds.Pair.{Pair}
use Rattle.bound_trail.specs.History.{present}
use Rattle.search_laws.proofs.Halves.{no_dead_end}
use Rattle.seeded_search.proofs.halving.longest.Goals as goal
use Rattle.seeded_search.proofs.halving.longest.Goals.{then-ends-via-then-ends, then-ends-via-else-ends+then-not-is_false_on}

pub returns-then-ends : goal.returns-then-ends
returns-then-ends c = elim c.then-ends.branch [
  | then-ends-via-then-ends w ↦ λ d. let wide = d.wide in absurd (omega (arith, ints, w.if-ends.true, ap (λ (p : Pair). p.low) c.ends_of-ends.ensures, ap (λ (p : Pair). p.high) c.ends_of-ends.ensures))
  | then-ends-via-else-ends+then-not-is_false_on w ↦ no_dead_end (present c.args.trail.now) c.args.rule.now c.args.slot c.args.side (sym w.is_false_on.ensures ∙ w.if-not-is_false_on.true)
]
