use Rattle.std.proofs.Common.{◌≡◌, ◌++◌, take}
use Rattle.std.specs.Prelude.{flat_map}
use Rattle.std.specs.String.{string_bytes}
use Rattle.fault_texts.specs.Explained.{status_line}
use Rattle.fault_texts.proofs.explain.put_statuses.Given as goal

abbrev pub invariant-loop-status : goal.invariant-loop-status
invariant-loop-status l = string_bytes l.text ≡ string_bytes l.fn.text ++ flat_map status_line (take l.status-index l.statuses)
