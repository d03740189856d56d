use Rattle.std.proofs.Common.{◌≡◌, ◌≢◌, Err, refl, sym, ◌∙◌, arith}
use Rattle.dsl_cursor.specs.Words.{Memory, Part, read}
use Rattle.dsl_expressions.specs.Words.{item_level, tail_of, tail_part, suffixes_of}
use Rattle.dsl_cursor.proofs.{Loops.step, Loops.finish, Loops.whole, Loops.raise, Loops.raise_gives, RowSteps.optional_none, RowSteps.part_grows, RowSteps.part_stops}
use Rattle.dsl_expressions.proofs.ExprSteps.{tail_grows, operator_stops, operators_end, list_grows, list_stops, list_ends}
use Rattle.dsl_expressions.proofs.expressions.+expressions.Goals as goal

pub tail-returns-in_err-part-clause-gives : goal.tail-returns-in_err-part-clause-gives
tail-returns-in_err-part-clause-gives t c =
    raise_gives (tail_of (item_level c.args.level)) (read (tail_part c.args.level) c.args.tokens.now) c.from_residual.result _ _ c.from_residual.ensures
    (λ some. c.items.invariant.0.fails _ (operator_stops c.args.level _ _ _ _ _ c.in-Some.ensures.0 c.in-Some.ensures.1 (c.in_err-part.ensures.gives some)))

pub tail-items-preserved : goal.tail-items-preserved
tail-items-preserved t c =
    let (less, reads, fails) = tail_grows c.args.level _ _ _ _ _ _ c.in-Some.ensures.0 c.in-Some.ensures.1 c.in_ok-part.ensures.gives in
    (step _ _ _ _ _ _ _ _ _ c.items.invariant.0 (less, reads, fails) c.in_ok-push.ensures.ok, omega (arith, less, c.items.invariant.1))

pub tail-returns-clause-gives : goal.tail-returns-clause-gives
tail-returns-clause-gives t c = whole _ _ _ _ _ _ c.items.invariant.0 (operators_end c.args.level _ _ c.in_default.ensures.0 c.in_default.ensures.1)

pub suffixes-returns-in_err-item-clause-gives : goal.suffixes-returns-in_err-item-clause-gives
suffixes-returns-in_err-item-clause-gives t c =
    raise_gives suffixes_of (read Part.SuffixesTail c.args.tokens.now) c.from_residual.result _ _ c.from_residual.ensures
    (λ some. c.suffixes.invariant.0.fails _ (part_stops Part.SuffixesTail Part.Suffix _ _ refl refl refl (sym c.begins_suffix.ensures ∙ c.suffixes-test.true) (c.in_err-item.ensures.gives some)))

pub suffixes-suffixes-preserved : goal.suffixes-suffixes-preserved
suffixes-suffixes-preserved t c =
    let (less, reads, fails) = part_grows Part.SuffixesTail Part.Suffix suffixes_of _ _ _ _ refl refl refl refl (λ others. refl) (sym c.begins_suffix.ensures ∙ c.suffixes-test.true) c.in_ok-item.ensures.gives in
    (step _ _ _ _ _ _ _ _ _ c.suffixes.invariant.0 (less, reads, fails) c.in_ok-push.ensures.ok, omega (arith, less, c.suffixes.invariant.1))

pub suffixes-returns-clause-gives : goal.suffixes-returns-clause-gives
suffixes-returns-clause-gives t c = whole _ _ _ _ _ _ c.suffixes.invariant.0 (optional_none Part.SuffixesTail _ refl refl (sym c.begins_suffix.ensures ∙ c.suffixes-test.false))

pub listed-returns-in_err-item-clause-err : goal.listed-returns-in_err-item-clause-err
listed-returns-in_err-item-clause-err t c =
    raise _ _ (λ e. e ≢ Memory → read Part.ListedTail c.args.tokens.now ≡ Err e) c.from_residual-in_err-item.ensures
    (λ some. c.items.invariant.0.fails _ (list_stops _ _ _ _ c.in-Some.ensures.0 c.in-Some.ensures.1 (c.in_err-item.ensures.gives some)))

pub listed-items-preserved : goal.listed-items-preserved
listed-items-preserved t c =
    let (less, reads, fails) = list_grows _ _ _ _ _ c.in-Some.ensures.0 c.in-Some.ensures.1 c.in_ok-item.ensures.gives in
    (step _ _ _ _ _ _ _ _ _ c.items.invariant.0 (less, reads, fails) c.in_ok-push-2.ensures.ok, omega (arith, less, c.items.invariant.1))

pub listed-returns-clause-ok : goal.listed-returns-clause-ok
listed-returns-clause-ok t c = finish _ _ _ _ _ _ _ c.items.invariant.0 (list_ends _ _ c.in_default.ensures.0 c.in_default.ensures.1)
