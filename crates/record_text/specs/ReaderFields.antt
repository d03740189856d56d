-- What the fields of a reader stand for.
use Rattle.std.specs.Prelude.{◌≤◌}
use Rattle.record_text.specs.declared.reader.Reader.TheInside.{Inside}
use Rattle.record_text.specs.Source.{limit}
use Rattle.record_text.specs.Reader.{Reading}

abbrev pub reading : Inside → Reading
reading r = record { unread = r.source; picks = r.picks; lines = r.lines }

-- each line has a byte at least
pub record IsReader (r : Inside) : Type 0 where
  pub few : r.lines ≤ r.source.given
  pub within : r.source.given ≤ limit
