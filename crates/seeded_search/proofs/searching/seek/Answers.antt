use Rattle.std.proofs.Common.{◌+◌, ap, arith, refl, length}
use Rattle.seeded_search.proofs.Searches.{none_faced, started, point_answer, undecided_answer, refuted_answer}
use Rattle.seeded_search.proofs.searching.seek.Goals as goal

pub go-requires : goal.go-requires
go-requires c = started _ _ c.args.desk.script c.args.desk.decisions c.args.desk.marks c.new.result c.args.desk.picks c.args.desk.sums c.args.trail.now c.args.ring.now c.fill.new.ring (none_faced c.args.flat.now c.args.desk.sum c.requires.desk.faced c.requires.none)
    c.requires.flat c.requires.desk.listed c.requires.cuts
    c.requires.desk.script c.requires.desk.decisions c.requires.desk.marks c.new.ensures c.requires.desk.picks refl c.requires.desk.few_picks c.requires.desk.sums c.requires.trail c.requires.ring c.fill.ensures.bound
    (λ k less. c.fill.ensures.all k (omega (arith, less, ap length c.as_slice.ensures)))

pub returns-in-Point-clause-point : goal.returns-in-Point-clause-point
returns-in-Point-clause-point c = point_answer _ c.go.new.work c.go.new.trail c.go.new.ring c.in-Point.ensures.0 c.point_of.result.values c.point_of.ensures c.in-Point.ensures.1 c.in-Point.ensures.2

pub returns-in-Refuted-clause-refuted : goal.returns-in-Refuted-clause-refuted
returns-in-Refuted-clause-refuted c =
    refuted_answer _ _ _ c.go.new.work.deepest c.go.new.work.script.lines c.go.new.trail.boxes c.finish.result _ c.record.result c.finish.ensures c.record.ensures c.in-Refuted.ensures

pub returns-clause-undecided : goal.returns-clause-undecided
returns-clause-undecided c = undecided_answer _ c.go.new.work c.go.new.trail c.go.new.ring c.in-Undecided.ensures.0 (1 + c.len-open.result) c.push_unknowns.new.self c.finish-in-Undecided.result c.record-in-Undecided.result (ap (λ n. 1 + n) c.len-open.ensures) c.push_unknowns.ensures
    c.finish-in-Undecided.ensures c.record-in-Undecided.ensures c.in-Undecided.ensures.1 c.in-Undecided.ensures.2 c.in-Undecided.ensures.3
