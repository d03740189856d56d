-- The text of a file: all its bytes, if it is there and not too long.
use Rattle.std.specs.Prelude.{◌≡◌, ◌≤◌, ◌<◌, ℕ, List, Option, Some, None, Result, Ok, Err, IfSome, length}
use Rattle.outside_io.specs.declared.shelf.NamedBytes.{NamedBytes}
use Rattle.outside_io.specs.Counts.{Rises}
use Rattle.outside_io.specs.Files.{file_named}
use Rattle.text_load.specs.declared.loading.TextStop.{TextStop}

-- the file has more bytes than the limit
pub record IsLong (files : List NamedBytes) (name : List ℕ) (limit : ℕ) : Type 0 where
  pub bytes : List ℕ
  pub there : file_named files name ≡ Some bytes
  pub beyond : limit < length bytes

-- the answer that files allow
abbrev pub Allows : List NamedBytes → List ℕ → ℕ → Result (List ℕ) TextStop → Type 0
Allows files name limit (Ok bytes) = (file_named files name ≡ Some bytes) × (length bytes ≤ limit)
Allows files name limit (Err TextStop.Missing) = file_named files name ≡ None
Allows files name limit (Err TextStop.Long) = IsLong files name limit
Allows files name limit (Err TextStop.Shelf) = Unit {0}
Allows files name limit (Err TextStop.Memory) = Unit {0}

-- the shelf's count of faults rose, by one, exactly if the shelf is blamed
abbrev pub Counts : {A : Type 0} → Result A TextStop → ℕ → ℕ → Type 0
Counts (Err TextStop.Shelf) before after = Rises before after
Counts _ before after = after ≡ before

-- why what is left of a fetched file isn't read to its end
abbrev pub IsCut : Option (List ℕ) → ℕ → TextStop → Type 0
IsCut left limit TextStop.Missing = ⊥
IsCut left limit TextStop.Long = IfSome left (λ bytes. limit < length bytes)
IsCut left limit TextStop.Shelf = Unit {0}
IsCut left limit TextStop.Memory = Unit {0}
