-- The picks of a text's line as those of a record.
use Rattle.linear_sums.specs.declared.pick.Pick.{Pick}
use Rattle.record_text.specs.declared.picks.TextPick.{TextPick}

abbrev pub seen_pick : TextPick → Pick
seen_pick p = record { times = p.times; rule = p.rule }
