-- The shelf and the sink in memory. Their calls are numbered from 0.
use Rattle.std.specs.Prelude.{ℕ, ◌-◌, ◌≤◌, ◌⊎◌, min, List, [], ◌++◌, length, Contains}
use Rattle.outside_io.specs.declared.shelf.NamedBytes.{NamedBytes}
use Rattle.outside_io.specs.Counts.{following}

-- a shelf in memory: its files, how many bytes a call passes at most, the numbers of the calls that fail, what is
-- left of the fetched file, the number of the next call, and the count of faults
pub record ShelfState : Type 0 where
  pub files : List NamedBytes
  pub most : ℕ
  pub failing : List ℕ
  pub left : List ℕ
  pub calls : ℕ
  pub faults : ℕ

-- a shelf after a call that left these bytes
abbrev pub after_call : ShelfState → List ℕ → ShelfState
after_call shelf left = record shelf { left = left; calls = following shelf.calls }

-- a shelf after a call that failed: nothing is left, and the fault is counted
abbrev pub after_fault : ShelfState → ShelfState
after_fault shelf = record shelf { left = []; calls = following shelf.calls; faults = following shelf.faults }

-- how many bytes a read passes
abbrev pub read_count : ShelfState → ℕ → ℕ
read_count shelf room = min room (min shelf.most (length shelf.left))

-- a sink in memory: what it took, how many bytes it has room for, how many a call passes at most, the numbers of the
-- calls that fail, the number of the next call, and the count of faults
pub record SinkState : Type 0 where
  pub contents : List ℕ
  pub room : ℕ
  pub most : ℕ
  pub failing : List ℕ
  pub calls : ℕ
  pub faults : ℕ

-- a write fails: its number is among those that fail, or the room is full
abbrev pub FailsWrite : SinkState → Type 0
FailsWrite sink = Contains sink.failing sink.calls ⊎ (sink.room ≤ length sink.contents)

-- how many bytes a write takes of a piece
abbrev pub write_count : SinkState → List ℕ → ℕ
write_count sink piece = min (length piece) (min sink.most (sink.room - length sink.contents))

-- a sink after a write that took these bytes
abbrev pub after_write : SinkState → List ℕ → SinkState
after_write sink bytes = record sink { contents = sink.contents ++ bytes; calls = following sink.calls }

-- a sink after a write that failed: the fault is counted
abbrev pub after_write_fault : SinkState → SinkState
after_write_fault sink = record sink { calls = following sink.calls; faults = following sink.faults }
