use Rattle.osc_base.specs.Fraction.{value}
use Rattle.expr_eval.proofs.ConstantValues.{top_small, bottom_small, constant_lowest}
use Rattle.expr_eval.proofs.quotients.constant_value.Goals as goal

pub lowest-requires : goal.lowest-requires
lowest-requires c = record {
  top = top_small c.args.divisor.now c.constant.result.num c.constant.ensures.reach;
  bottom = bottom_small c.args.divisor.now c.constant.result.den c.constant.ensures.scale;
}

pub returns : goal.returns
returns c = constant_lowest c.args.divisor.now c.constant.result (value c.lowest.result.number) c.requires c.constant.ensures.value c.constant.ensures.scale c.lowest.ensures
