use Rattle.std.proofs.Common.{◌∙◌, refl, rules}
use Rattle.record_text.proofs.Writing.{end_written, end_fails, exit_part, last_part, on_ok}
use Rattle.record_text.proofs.Recording.{record_begun, line_kept, line_stops, may_write, has_own}
use Rattle.record_text.proofs.write.write_record.Goals as goal

pub loop-lines-init : goal.loop-lines-init
loop-lines-init g c = record {
  left = record_begun c.args.claim.now _ _ _ _ c.as_slice-lines.ensures c.as_slice-picks.ensures c.spell_header.ensures.items c.spell_header.ensures.short c.requires.values c.requires.sums;
  counted = refl;
  telling = refl;
}

pub returns-in_err-put_line-clause-part : goal.returns-in_err-put_line-clause-part
returns-in_err-put_line-clause-part g c = exit_part c.from_residual.result _ _ _ (line_stops c.args.claim.now c.loop-lines.lines.now _ c.loop-lines.picks.now _ _ _ c.loop-lines.invariant.left
    c.in-len1-up.len_at_least c.taken-count.result c.taken-count.ensures _ _ c.in_err-put_line.ensures.part (search rules))

pub loop-lines-preserved : goal.loop-lines-preserved
loop-lines-preserved g c = record {
  left = line_kept c.args.claim.now c.loop-lines.lines.now _ c.loop-lines.picks.now _ _ _ c.loop-lines.invariant.left c.in-len1-up.len_at_least c.taken-count.result c.taken-count.ensures _ _ _
      c.in_ok-put_line.ensures.short c.in_ok-put_line.ensures.puts (search rules);
  counted = c.in_ok-put_line.ensures.steady ∙ c.loop-lines.invariant.counted;
  telling = c.in_ok-put_line.ensures.telling_kept ∙ c.loop-lines.invariant.telling;
}

pub returns-in_err-put-clause-part : goal.returns-in_err-put-clause-part
returns-in_err-put-clause-part g c = exit_part c.from_residual-in_err-put.result _ _ _
    (end_fails c.args.claim.now c.loop-lines.lines.now c.loop-lines.picks.now _ _ _ c.loop-lines.invariant.left c.in_default.len_below _ c.in_err-put.ensures.part)

pub returns-clause-writable : goal.returns-clause-writable
returns-clause-writable g c = on_ok c.write_all.result _ (may_write c.args.claim.now c.loop-lines.lines.now c.loop-lines.picks.now _ _ _ c.loop-lines.invariant.left c.in_default.len_below c.requires.sums)

pub returns-clause-own : goal.returns-clause-own
returns-clause-own g c = on_ok c.write_all.result _ (has_own c.args.claim.now c.loop-lines.lines.now c.loop-lines.picks.now _ _ _ c.loop-lines.invariant.left c.in_default.len_below c.requires.sums)

pub returns-clause-part : goal.returns-clause-part
returns-clause-part g c = last_part c.args.claim.now c.write_all.result _ _ _ _ _
    (end_written c.args.claim.now c.loop-lines.lines.now c.loop-lines.picks.now _ _ _ c.loop-lines.invariant.left c.in_default.len_below _ _ c.in_ok-put.ensures.puts)
    c.as_slice.ensures.value c.write_all.ensures.part
