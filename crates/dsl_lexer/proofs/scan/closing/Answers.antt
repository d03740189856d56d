use Rattle.std.proofs.Common.{arith, sym, ◌∙◌}
use Rattle.std.proofs.lemmas.Bool.{eq-eqb, ne_eqb}
use Rattle.dsl_lexer.proofs.Walks.{escape_read, escape_unknown, backslash_read, quote_read, line_feed_read, plain_read, unclosed}
use Rattle.dsl_lexer.proofs.scan.closing.Goals as goal
use Rattle.dsl_lexer.proofs.scan.closing.Goals.{then-escaped+else-not-is_escapable, else-escaped+then-b-eq92, else-escaped+else-b-eq92+else-b-quote+else-b-eq10}

pub returns-then-not-is_escapable-clause-value : goal.returns-then-not-is_escapable-clause-value
returns-then-not-is_escapable-clause-value c =
    let known = rw c.if-escaped.true at c.loop-i.invariant in
    escape_unknown c.args.quote c.args.rest.now c.loop-i.i _ known (omega arith) (sym c.is_escapable.ensures ∙ c.if-not-is_escapable.true)

pub returns-then-b-quote-clause-value : goal.returns-then-b-quote-clause-value
returns-then-b-quote-clause-value c =
    let known = rw c.if-escaped.false at c.loop-i.invariant in
    quote_read c.args.quote c.args.rest.now c.loop-i.i _ known (omega arith) (ne_eqb _ _ c.if-b-eq92.false) (eq-eqb _ _ c.if-b-quote.true)

pub returns-then-b-eq10-clause-value : goal.returns-then-b-eq10-clause-value
returns-then-b-eq10-clause-value c =
    let known = rw c.if-escaped.false at c.loop-i.invariant in
    line_feed_read c.args.quote c.args.rest.now c.loop-i.i _ known (omega arith) (ne_eqb _ _ c.if-b-eq92.false) (ne_eqb _ _ c.if-b-quote.false) (eq-eqb _ _ c.if-b-eq10.true)

pub loop-i-preserved : goal.loop-i-preserved
loop-i-preserved c =
    elim c.if-escaped.branch [
      | then-escaped+else-not-is_escapable w ↦
          let known = rw w.if-escaped.true at c.loop-i.invariant in
          rw w.escaped-is (escape_read c.args.quote c.args.rest.now c.loop-i.i _ known (omega arith) (sym w.is_escapable.ensures ∙ w.if-not-is_escapable.false))
      | else-escaped+then-b-eq92 w ↦
          let known = rw w.if-escaped.false at c.loop-i.invariant in
          rw w.escaped-is (backslash_read c.args.quote c.args.rest.now c.loop-i.i _ known (omega arith) (eq-eqb _ _ w.if-b-eq92.true))
      | else-escaped+else-b-eq92+else-b-quote+else-b-eq10 w ↦
          let known = rw w.if-escaped.false at c.loop-i.invariant in
          rw (w.escaped-is, w.if-escaped.false) (plain_read c.args.quote c.args.rest.now c.loop-i.i _ known (omega arith) (ne_eqb _ _ w.if-b-eq92.false) (ne_eqb _ _ w.if-b-quote.false) (ne_eqb _ _ w.if-b-eq10.false))
    ]

pub returns-clause-value : goal.returns-clause-value
returns-clause-value c = unclosed c.args.quote c.args.rest.now c.loop-i.i _ c.loop-i.escaped c.loop-i.invariant (omega arith)
