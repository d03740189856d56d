use Rattle.std.proofs.Common.{◌≡◌, ◌∙◌, ap, List, ◌++◌, length, take, arith, length-append}
use Rattle.std.proofs.Math.Seq.{take-length}
use Rattle.std.proofs.lemmas.List.{length-take-le}
use Rattle.search_laws.specs.linear_sums.declared.pick.Pick.{Pick}
use Rattle.seeded_search.specs.Rooms.{Picked}
use Rattle.seeded_search.proofs.Tries.{picks_more}
use Rattle.seeded_search.proofs.picks.Picks.add.Goals as goal

pub push-requires : goal.push-requires
push-requires c = omega (
  arith,
  c.has_room.ensures c.if-not-has_room.false,
  c.loop-pick-test.true,
  ap (λ (p : Picked). length p.items) c.loop-pick.invariant,
  ap (λ (p : Picked). p.room) c.loop-pick.invariant,
  length-append c.args.self.now.items (take c.loop-pick.pick-index c.args.picks.now),
  length-take-le c.loop-pick.pick-index c.args.picks.now (omega (arith, c.loop-pick-test.true)),
)

pub loop-pick-preserved : goal.loop-pick-preserved
loop-pick-preserved c = c.push.ensures ∙ picks_more c.args.self.now c.loop-pick.self c.args.picks.now c.loop-pick.pick-index _ c.loop-pick-test.true c.loop-pick.invariant

pub returns-clause-added : goal.returns-clause-added
returns-clause-added c =
    let index : c.loop-pick.pick-index ≡ length c.args.picks.now = omega (arith, c.loop-pick-test.false, c.loop-pick.auto.pick-index-end) in
    c.loop-pick.invariant ∙ ap (λ (ps : List Pick). record c.args.self.now { items = c.args.self.now.items ++ ps }) (ap (λ n. take n c.args.picks.now) index ∙ take-length c.args.picks.now)
