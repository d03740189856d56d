-- The memory sink's fields: its buffer has memory for all of its room from the start.
use Rattle.std.specs.Prelude.{◌≤◌}
use Rattle.std.specs.Vec.{vec_capacity, vec_len}
use Rattle.outside_io.specs.declared.memory_sink.MemorySink.TheInside.{Inside}
use Rattle.outside_io.specs.Memory.{SinkState}

abbrev pub state_of : Inside → SinkState
state_of s = record {
  contents = s.taken.items;
  room = s.room;
  most = s.most;
  failing = s.failing;
  calls = s.calls;
  faults = s.faults;
}

pub record IsConsistent (s : Inside) : Type 0 where
  pub advances : 1 ≤ s.most
  pub within : vec_len s.taken ≤ s.room
  pub reserved : s.room ≤ vec_capacity s.taken
