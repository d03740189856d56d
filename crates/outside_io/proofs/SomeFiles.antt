-- What holds of the files that are told, or of some files.
use Rattle.std.proofs.Common.{refl, List, [], Option, Some, None}
use Rattle.outside_io.specs.declared.shelf.NamedBytes.{NamedBytes}
use Rattle.outside_io.specs.Files.{SomeFiles}

module _ (told : Option (List NamedBytes)) where
  -- what holds of all files
  pub of_all : (Fact : List NamedBytes → Type 0) → ((files : List NamedBytes) → Fact files) → SomeFiles told Fact
  of_all Fact holds = by told
    where
      by : (told : Option (List NamedBytes)) → SomeFiles told Fact
      by None = ([], tt, holds [])
      by (Some files) = (files, refl, holds files)

  -- a fact that follows from another
  pub onward : (Fact Other : List NamedBytes → Type 0) → SomeFiles told Fact → ((files : List NamedBytes) → Fact files → Other files) → SomeFiles told Other
  onward Fact Other some step = (some.0, some.1, step some.0 some.2)
