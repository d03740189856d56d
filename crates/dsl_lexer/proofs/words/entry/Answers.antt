use Rattle.std.proofs.Common.{◌≡◌, ◌∙◌, sym, false, get_or}
use Rattle.std.specs.Str.{bytes_eq}
use Rattle.dsl_lexer.proofs.WordTables.{other_first, other_next}
use Rattle.dsl_lexer.proofs.words.entry.Goals as goal
use Rattle.dsl_lexer.proofs.words.entry.Goals.{else-eq-via-then-eq+else-eq-2, else-eq-via-else-eq}

pub loop-word-preserved : goal.loop-word-preserved
loop-word-preserved c =
    let other : bytes_eq c.args.text.now (get_or c.args.words.now c.loop-word.word-index _).0.now ≡ false = elim c.else-eq.branch [
      | else-eq-via-then-eq+else-eq-2 w ↦ sym w.eq-then-eq.ensures ∙ w.if-eq-2.false
      | else-eq-via-else-eq w ↦ other_first c.args.text.now (get_or c.args.words.now c.loop-word.word-index _).0.now c.first.result c.first-in-loop-word.result
          c.first.ensures.value c.first-in-loop-word.ensures.value (sym c.eq.ensures ∙ w.if-eq.false)
    ] in
    other_next c.args.text.now c.args.words.now c.loop-word.word-index _ c.loop-word-test.true other ∙ c.loop-word.invariant
