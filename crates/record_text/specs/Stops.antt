-- Why reading stops.
use Rattle.std.specs.Prelude.{Bool, true, false, Result, Ok, Err}
use Rattle.record_text.specs.declared.stop.VerifyStop.{VerifyStop}
use Rattle.record_text.specs.declared.stop.VerifyStop.TheVariants as V
use Rattle.record_text.specs.declared.stop.SourceStop.{SourceStop}
use Rattle.record_text.specs.declared.stop.SourceStop.TheVariants as S

-- a stop of the source as the caller is told it
abbrev pub told : SourceStop → VerifyStop
told S.Shelf = V.Shelf
told S.TooLong = V.TooLong

-- whether the shelf failed
abbrev pub source_failed : {A : Type 0} → Result A SourceStop → Bool
source_failed (Ok a) = false
source_failed (Err S.Shelf) = true
source_failed (Err S.TooLong) = false

abbrev pub shelf_failed : {A : Type 0} → Result A VerifyStop → Bool
shelf_failed (Ok a) = false
shelf_failed (Err V.Shelf) = true
shelf_failed (Err V.TooLong) = false
shelf_failed (Err (V.BadLine line)) = false
shelf_failed (Err V.Memory) = false
