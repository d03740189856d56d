-- What the fields of picks stand for.
use Rattle.std.specs.Prelude.{List, map}
use Rattle.linear_sums.specs.declared.pick.Pick.{Pick}
use Rattle.record_text.specs.declared.picks.TextPick.{TextPick}
use Rattle.record_text.specs.declared.picks.Picks.TheInside.{Inside}
use Rattle.record_text.specs.Picked.{seen_pick}

abbrev pub seen_picks : Inside → List Pick
seen_picks p = map seen_pick p.picks.items
