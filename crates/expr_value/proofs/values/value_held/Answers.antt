use Rattle.expr_value.proofs.ValueLaws.{ready, scale_is, worth_is, reach_is}
use Rattle.expr_value.proofs.values.value_held.Goals as goal

pub count_of-requires : goal.count_of-requires
count_of-requires g c = ready (g.R.Reading.told c.args.reading.now) c.args.typed.now c.requires.sound c.requires.within

pub returns-clause-value : goal.returns-clause-value
returns-clause-value g c = worth_is (g.R.Reading.told c.args.reading.now) c.args.typed.now c.count_of.result c.count_of.ensures c.over_scale.result c.over_scale.ensures.num c.over_scale.ensures.den c.requires.sound

pub returns-clause-scale : goal.returns-clause-scale
returns-clause-scale g c = scale_is (g.R.Reading.told c.args.reading.now) c.args.typed.now c.count_of.result c.count_of.ensures c.over_scale.result c.over_scale.ensures.num c.over_scale.ensures.den

pub returns-clause-reach : goal.returns-clause-reach
returns-clause-reach g c = reach_is (g.R.Reading.told c.args.reading.now) c.args.typed.now c.count_of.result c.count_of.ensures c.over_scale.result c.over_scale.ensures.num c.over_scale.ensures.den
