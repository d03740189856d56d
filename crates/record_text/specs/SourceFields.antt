-- What the fields of a source stand for: a piece of the file, of which the bytes between two places weren't read yet.
use Rattle.std.specs.Prelude.{◌+◌, ◌-◌, ◌≤◌, take, drop}
use Rattle.record_text.specs.declared.source.Source.TheInside.{Inside}
use Rattle.record_text.specs.Source.{Unread, limit}

abbrev pub unread : Inside → Unread
unread s = record { bytes = drop s.at (take s.filled s.piece); given = s.given }

pub record IsSource (s : Inside) : Type 0 where
  pub within : s.at ≤ s.filled
  pub filled : s.filled ≤ 4096
  pub few : s.given + (s.filled - s.at) ≤ limit
