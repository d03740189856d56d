-- What is read of a shelf, byte by byte. What a shelf doesn't tell is `None`.
use Rattle.std.specs.Prelude.{◌≡◌, ℕ, ◌+◌, ◌<◌, ◌≤◌, Bool, true, false, List, [], length, Option, Some, is_some}
use Rattle.std.specs.Io.KnownBytes.{prepend_known}
use Rattle.outside_io.specs.declared.shelf.NamedBytes.{NamedBytes}
use Rattle.outside_io.specs.Counts.{Rises}
use Rattle.outside_io.specs.Files.{NothingLeft}

-- the most bytes that a record's text may have: 256 MiB
abbrev pub limit : ℕ
limit = 268435456

-- the bytes that the shelf gave and that weren't read yet, and the number of those that were read
pub record Unread : Type 0 where
  pub bytes : List ℕ
  pub given : ℕ

-- what is left to be read
abbrev pub rest_of : Unread → Option (List ℕ) → Option (List ℕ)
rest_of unread left = prepend_known unread.bytes left

-- these bytes were read
pub record Gives (bytes : List ℕ) (before after : Unread) (left_before left_after : Option (List ℕ)) : Type 0 where
  pub rest : rest_of before left_before ≡ prepend_known bytes (rest_of after left_after)
  pub given : after.given ≡ before.given + length bytes

-- no byte is read twice, and no more than the limit allows
pub record IsFurther (before after : Unread) : Type 0 where
  pub grows : before.given ≤ after.given
  pub few : after.given ≤ limit

-- nothing is left
pub record IsAtEnd (unread : Unread) (left : Option (List ℕ)) : Type 0 where
  pub no_bytes : unread.bytes ≡ []
  pub nothing : NothingLeft left

-- more bytes were left than the limit allows
abbrev pub IsTooLong : Unread → Option (List ℕ) → Type 0
IsTooLong unread left = (rest : List ℕ) → rest_of unread left ≡ Some rest → limit < unread.given + length rest

-- as many bytes were left as the limit allows
abbrev pub IsWithin : Unread → Option (List ℕ) → Type 0
IsWithin unread left = (rest : List ℕ) → rest_of unread left ≡ Some rest → unread.given + length rest ≤ limit

-- what reading leaves of a shelf: its count of faults rises exactly where it failed, and then nothing is left
pub record ReadsOn (files files_after : Option (List NamedBytes)) (left left_after : Option (List ℕ)) (faults faults_after : ℕ) (failed : Bool) : Type 0 where
  pub files_kept : files_after ≡ files
  pub telling_kept : is_some left_after ≡ is_some left
  pub never_falls : faults ≤ faults_after
  pub steady : failed ≡ false → faults_after ≡ faults
  pub cause : failed ≡ true → Rises faults faults_after
  pub nothing : failed ≡ true → NothingLeft left_after
