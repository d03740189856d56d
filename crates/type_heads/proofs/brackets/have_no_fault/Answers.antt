use Rattle.std.proofs.Common.{◌∙◌, ◌+◌, ap, take, drop, []}
use Rattle.type_heads.specs.Units.{are_bases}
use Rattle.type_heads.proofs.Bases.{names_before, bases_next, bases_fresh, bases_end, bases_on}
use Rattle.type_heads.proofs.brackets.have_no_fault.Goals as goal

pub returns-then-not-is_fresh_base : goal.returns-then-not-is_fresh_base
returns-then-not-is_fresh_base c =
    let i = c.loop-part.part-index in
    let p = c.part-item.result in
    bases_end (are_bases [] c.args.bases.now) c.is_fresh_base.result (are_bases (names_before (take (i + 1) c.args.bases.now)) (drop (i + 1) c.args.bases.now))
    (c.loop-part.invariant.rest ∙ bases_next c.args.bases.now i p c.is_fresh_base.result c.loop-part-test.true c.part-item.is
    (bases_fresh c.args.bases.now i c.loop-part.index p c.as_str.result.now c.is_fresh_base.result c.as_str.ensures c.loop-part.invariant.count c.is_fresh_base.ensures))
    c.if-not-is_fresh_base.true

pub loop-part-preserved : goal.loop-part-preserved
loop-part-preserved c =
    let i = c.loop-part.part-index in
    let p = c.part-item.result in
    record {
      count = ap (λ n. n + 1) c.loop-part.invariant.count;
      rest = bases_on (are_bases [] c.args.bases.now) c.is_fresh_base.result (are_bases (names_before (take (i + 1) c.args.bases.now)) (drop (i + 1) c.args.bases.now))
          (c.loop-part.invariant.rest ∙ bases_next c.args.bases.now i p c.is_fresh_base.result c.loop-part-test.true c.part-item.is
          (bases_fresh c.args.bases.now i c.loop-part.index p c.as_str.result.now c.is_fresh_base.result c.as_str.ensures c.loop-part.invariant.count c.is_fresh_base.ensures))
          c.if-not-is_fresh_base.false;
    }
