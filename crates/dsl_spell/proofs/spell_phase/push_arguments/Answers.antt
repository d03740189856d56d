use Rattle.std.proofs.lemmas.Result.{on_ok_weaker}
use Rattle.dsl_spell.proofs.Places.{one_more, all_left, others_of, argument_steps, arguments_write}
use Rattle.dsl_spell.proofs.spell_phase.push_arguments.Goals as goal

pub others-preserved : goal.others-preserved
others-preserved c =
    one_more others_of c.in-Some.others.now c.others.argument-index c.argument-item.result c.push_argument.new.w c.others.w c.push_argument-in-others.new.w c.others.invariant
    (argument_steps c.argument-item.result c.others.w c.bare_mark-in-others.new.self c.push_argument-in-others.new.w c.in_ok-bare_mark-in-Some.ensures c.in_ok-push_argument-in-Some-2.ensures) c.others-test.true c.argument-item.is

pub returns-after-others : goal.returns-after-others
returns-after-others c =
    on_ok_weaker c.bare_mark-in-Some.result
    (λ e. arguments_write c.args.w.now c.push_argument.new.w c.bare_mark-in-Some.new.self c.args.arguments.now c.in-Some.first.now c.in-Some.others.now c.in-Some.ensures.cases.0 c.in_ok-push_argument-in-Some.ensures
    (all_left others_of c.in-Some.others.now c.others.argument-index c.push_argument.new.w c.others.w c.bare_mark-in-Some.new.self c.others.invariant c.others-test.false (λ whole. e)))
    c.bare_mark-in-Some.ensures
