use Rattle.box_eval.proofs.Reading.{sum_small, less_small, times_small, parts_span}
use Rattle.box_eval.proofs.judgement.+looks.Goals as goal

pub span-combined-requires-clause-sum : goal.span-combined-requires-clause-sum
span-combined-requires-clause-sum g t c = sum_small (g.E.Ends.ends c.args.ends.now) c.args.term.now c.in-Sum.a c.in-Sum.b c.part_span.result c.part_span-in-Sum.result _ record {
  is = c.in-Sum.is;
  read_a = c.get-in-Sum.result.now;
  a_is = c.get-in-Sum.ensures;
  first = c.part_span.ensures;
  read_b = c.get-in-Sum-2.result.now;
  b_is = c.get-in-Sum-2.ensures;
  second = c.part_span-in-Sum.ensures;
  small = c.requires.reach;
}

pub span-combined-requires-clause-less : goal.span-combined-requires-clause-less
span-combined-requires-clause-less g t c = less_small (g.E.Ends.ends c.args.ends.now) c.args.term.now c.in-Sum.a c.in-Sum.b c.part_span.result c.part_span-in-Sum.result _ record {
  is = c.in-Sum.is;
  read_a = c.get-in-Sum.result.now;
  a_is = c.get-in-Sum.ensures;
  first = c.part_span.ensures;
  read_b = c.get-in-Sum-2.result.now;
  b_is = c.get-in-Sum-2.ensures;
  second = c.part_span-in-Sum.ensures;
  small = c.requires.reach;
}

pub span-combined-requires-clause-times : goal.span-combined-requires-clause-times
span-combined-requires-clause-times g t c = times_small (g.E.Ends.ends c.args.ends.now) c.args.term.now c.in-Sum.a c.in-Sum.b c.part_span.result c.part_span-in-Sum.result _ record {
  is = c.in-Sum.is;
  read_a = c.get-in-Sum.result.now;
  a_is = c.get-in-Sum.ensures;
  first = c.part_span.ensures;
  read_b = c.get-in-Sum-2.result.now;
  b_is = c.get-in-Sum-2.ensures;
  second = c.part_span-in-Sum.ensures;
  small = c.requires.reach;
}

pub span-returns-in-Sum : goal.span-returns-in-Sum
span-returns-in-Sum g t c = parts_span (g.E.Ends.ends c.args.ends.now) c.args.term.now c.in-Sum.a c.in-Sum.b c.part_span.result c.part_span-in-Sum.result _ record {
  is = c.in-Sum.is;
  read_a = c.get-in-Sum.result.now;
  a_is = c.get-in-Sum.ensures;
  first = c.part_span.ensures;
  read_b = c.get-in-Sum-2.result.now;
  b_is = c.get-in-Sum-2.ensures;
  second = c.part_span-in-Sum.ensures;
  small = c.requires.reach;
} c.combined.result c.combined.ensures.sum c.combined.ensures.less c.combined.ensures.times
