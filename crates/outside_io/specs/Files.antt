-- The files of a shelf, and what a call leaves of the fetched one. What a shelf doesn't tell is `None`.
use Rattle.std.specs.Borrow.{Bor}
use Rattle.std.specs.Prelude.{◌≡◌, ℕ, ◌<◌, ◌≤◌, ◌↔◌, Bool, List, [], Option, Some, IsSome, IfSome, is_some, unwrap_or, length, take, drop, find, slice_get}
use Rattle.std.specs.Option.{option_map, option_map_or, option_and_then}
use Rattle.std.specs.Str.{bytes_eq}
use Rattle.outside_io.specs.declared.shelf.NamedBytes.{NamedBytes}

-- the fact holds of the files that are told; when none are told, of some files
abbrev pub SomeFiles : Option (List NamedBytes) → (List NamedBytes → Type 0) → Type 0
SomeFiles told Fact = (files : List NamedBytes) × IfSome told (λ all. all ≡ files) × Fact files

-- a file from its name and its bytes
abbrev pub file_of : Bor (List ℕ) × Bor (List ℕ) → NamedBytes
file_of file = record { name = file.0.now; bytes = file.1.now }

-- the bytes of the first file of a name, if there is one
abbrev pub file_named : List NamedBytes → List ℕ → Option (List ℕ)
file_named files name = option_map (λ (file : NamedBytes). file.bytes) (find (λ (file : NamedBytes). bytes_eq file.name name) files)

-- the bytes of the file at a place
abbrev pub bytes_at : List NamedBytes → Option ℕ → List ℕ
bytes_at files place = option_map_or (λ (file : NamedBytes). file.bytes) (option_and_then (slice_get files) place) []

-- a shelf that tells its files tells what is left too
abbrev pub TellsAll : Option (List NamedBytes) → Option (List ℕ) → Type 0
TellsAll files left = IsSome files → IsSome left

-- nothing is left, if that is told
abbrev pub NothingLeft : Option (List ℕ) → Type 0
NothingLeft left = IfSome left (λ bytes. bytes ≡ [])

-- a fetch finds a name exactly when there is such a file; then all of the first of them is left, else nothing
pub record Finds (files : List NamedBytes) (name : List ℕ) (found : Bool) (left : Option (List ℕ)) : Type 0 where
  pub exactly : found ≡ is_some (file_named files name)
  pub whole : left ≡ Some (unwrap_or (file_named files name) [])

-- a read moves a prefix of what was left, `count` bytes, to the beginning of a piece, and none of a piece with
-- room exactly at the end
pub record Takes (before : List ℕ) (count : ℕ) (piece : List ℕ) (after : Option (List ℕ)) : Type 0 where
  pub within : count ≤ length before
  pub front : take count piece ≡ take count before
  pub rest : after ≡ Some (drop count before)
  pub ends : 0 < length piece → ((count ≡ 0) ↔ (before ≡ []))
