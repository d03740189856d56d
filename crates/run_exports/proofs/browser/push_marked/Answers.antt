use Rattle.std.proofs.Common.{arith, rules}
use Rattle.std.specs.Prelude.{flat_map}
use Rattle.std.specs.String.{string_bytes}
use Rattle.run_exports.specs.PageText.{marked}
use Rattle.run_exports.proofs.Marked.{step_marked, whole_marked}
use Rattle.run_exports.proofs.browser.push_marked.Goals as goal

pub loop-front-preserved : goal.loop-front-preserved
loop-front-preserved c =
    let split = c.in-Some.ensures.byte (omega arith) (λ w o is. is) in (
      search rules,
      step_marked c.loop-front.rest.now _ _ (string_bytes c.args.text.now) c.in-Some.front.now c.in-Some.back.now (flat_map marked c.args.of.now) split.2 split.0 split.1 c.in_ok-push_piece.ensures c.loop-front.invariant.1,
    )

pub returns : goal.returns
returns c =
    let none = c.in_default.ensures.byte (omega arith) (λ w o is. is) in
    whole_marked c.loop-front.rest.now _ _ (string_bytes c.args.text.now) (flat_map marked c.args.of.now) c.push_str.result none c.push_str.ensures.bytes c.loop-front.invariant.1
