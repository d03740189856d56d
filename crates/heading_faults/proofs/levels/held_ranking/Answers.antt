use Rattle.std.proofs.Common.{◌≡◌, ◌∙◌, IfOk, ap, map, subst, sym, true}
use Rattle.type_members.specs.type_heads.Bodied.{seen_body}
use Rattle.type_members.specs.type_heads.HeadingFaults.{held_types}
use Rattle.heading_faults.specs.HeldRanks.{types_fit}
use Rattle.fault_sets.specs.Ranking.{IsShown}
use Rattle.heading_faults.proofs.HeldFall.{none_held}
use Rattle.heading_faults.proofs.levels.held_ranking.Goals as goal

pub returns-then-is_fit : goal.returns-then-is_fit
returns-then-is_fit c =
    let heads = c.args.held.now.heads.now in
    let bodies = map seen_body c.args.held.now.bodies.now in
    let fit : types_fit heads bodies c.in_ok-ranks.ranks.items ≡ true =
    ap (types_fit heads bodies) (sym c.as_slice.ensures.value) ∙ sym c.in_ok-is_fit.ensures ∙ c.if-is_fit.true in
    none_held heads bodies c.in_ok-ranks.ranks.items fit c.without_steps.result

pub returns : goal.returns
returns c =
    let heads = c.args.held.now.heads.now in
    let bodies = map seen_body c.args.held.now.bodies.now in
    subst (λ n. IfOk c.of.result (IsShown n (held_types heads bodies))) c.count-2.ensures c.of.ensures.shown
