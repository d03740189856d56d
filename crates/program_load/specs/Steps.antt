-- The steps of a load, of a shelf that may tell its files or not.
use Rattle.std.specs.Prelude.{◌≡◌, ◌≤◌, ◌<◌, ℕ, List, [], ◌∷◌, ◌++◌, Option, Some, None, IfSome, Result, Err, length}
use Rattle.osc_base.specs.declared.fault.Place.{Place}
use Rattle.osc_base.specs.declared.fault.FaultCode.{FaultCode}
use Rattle.osc_base.specs.declared.fault.Fault.{Fault}
use Rattle.dsl_tree.specs.declared.token.Token.{Token}
use Rattle.dsl_tree.specs.declared.file.File.{File}
use Rattle.dsl_tree.specs.Views.{file_tree}
use Rattle.outside_io.specs.declared.shelf.NamedBytes.{NamedBytes}
use Rattle.outside_io.specs.Files.{file_named}
use Rattle.outside_io.specs.Counts.{Rises}
use Rattle.name_scope.specs.declared.names.FileName.{FileName}
use Rattle.name_scope.specs.FileNumbers.{AddedFile, adding_fault}
use Rattle.name_scope.specs.Library.{library_source}
use Rattle.program_load.specs.declared.source.FileStop.{FileStop}
use Rattle.program_load.specs.declared.stop.LoadStop.{LoadStop}
use Rattle.program_load.specs.SourceReading.{IsRead, IsRefused}
use Rattle.program_load.specs.declared.stop.Refusal.{Refusal}
use Rattle.program_load.specs.Loading.{IsTaken, StopsAt, source_of, source_limit, name_at}

-- what is found of a name: of the shelf's names it is what the files have that the shelf tells
abbrev pub IsFound : Option (List NamedBytes) → FileName → Option (List ℕ) → Type 0
IsFound told FileName.Library found = found ≡ Some library_source
IsFound told (FileName.Named name) found = IfSome told (λ all. file_named all name ≡ found)

-- ---- One file

-- the source spells the tree of the file
pub record HasTree (number : ℕ) (source : List ℕ) (file : File) : Type 0 where
  pub tokens : List Token
  pub read : IsRead number source tokens (file_tree file)

-- the file of this name and number has a source that spells its tree
pub record HasFile (told : Option (List NamedBytes)) (name : FileName) (number : ℕ) (file : File) : Type 0 where
  pub source : List ℕ
  pub found : IsFound told name (Some source)
  pub within : length source ≤ source_limit
  pub tree : HasTree number source file

-- the source of this name is too long
pub record HasLongSource (told : Option (List NamedBytes)) (name : FileName) : Type 0 where
  pub source : List ℕ
  pub found : IsFound told name (Some source)
  pub beyond : source_limit < length source

-- the source of this name has the fault
pub record HasFault (told : Option (List NamedBytes)) (name : FileName) (number : ℕ) (fault : Fault) : Type 0 where
  pub source : List ℕ
  pub found : IsFound told name (Some source)
  pub within : length source ≤ source_limit
  pub refused : IsRefused number source fault

pub record IsShelfName (name : FileName) : Type 0 where
  pub text : List ℕ
  pub named : name ≡ FileName.Named text

-- why what is left of a fetched file isn't read to its end
abbrev pub IsCut : Option (List ℕ) → FileStop → Type 0
IsCut left FileStop.Long = IfSome left (λ bytes. source_limit < length bytes)
IsCut left FileStop.Shelf = Unit {0}
IsCut left FileStop.Memory = Unit {0}
IsCut left _ = ⊥

-- why no source comes from the shelf
abbrev pub HasNoSource : Option (List NamedBytes) → FileName → FileStop → Type 0
HasNoSource told name FileStop.Missing = IsFound told name None
HasNoSource told name FileStop.Long = HasLongSource told name
HasNoSource told name (FileStop.At fault) = ⊥
HasNoSource told name FileStop.Shelf = IsShelfName name
HasNoSource told name FileStop.Memory = Unit {0}

-- why a source gives no tree
abbrev pub HasNoTree : ℕ → List ℕ → FileStop → Type 0
HasNoTree number source (FileStop.At fault) = IsRefused number source fault
HasNoTree number source FileStop.Memory = Unit {0}
HasNoTree number source _ = ⊥

-- why a name gives no tree
abbrev pub HasNoFile : Option (List NamedBytes) → FileName → ℕ → FileStop → Type 0
HasNoFile told name number (FileStop.At fault) = HasFault told name number fault
HasNoFile told name number stop = HasNoSource told name stop

-- the shelf's count of faults rose exactly if the shelf is blamed
abbrev pub CountsFile : {A : Type 0} → Result A FileStop → ℕ → ℕ → Type 0
CountsFile (Err FileStop.Shelf) before after = Rises before after
CountsFile _ before after = after ≡ before

-- ---- One turn

-- a fact of all files in which the name has the source that was found
abbrev pub Given : Option (List NamedBytes) → FileName → (List NamedBytes → Type 0) → Type 0
Given told name Fact = (found : Option (List ℕ)) × IsFound told name found × ((files : List NamedBytes) → source_of files name ≡ found → Fact files)

-- the file of this name is taken after others
pub record Takes (told : Option (List NamedBytes)) (before : List AddedFile) (name : FileName) (after : List AddedFile) : Type 0 where
  pub added : AddedFile
  pub grown : after ≡ before ++ added ∷ []
  pub taken : Given told name (λ files. IsTaken files before name added)

-- the load stops at the file of this name
abbrev pub Stops : Option (List NamedBytes) → List AddedFile → FileName → LoadStop → Type 0
Stops told before name (LoadStop.At refusal) = Given told name (λ files. StopsAt files before name refusal)
Stops told before name (LoadStop.Shelf text) = name ≡ FileName.Named text
Stops told before name LoadStop.Memory = Unit {0}

-- why a file isn't added to those before it
abbrev pub IsUnadded : List AddedFile → AddedFile → LoadStop → Type 0
IsUnadded before added (LoadStop.At (Refusal.Faulty file fault)) = (file ≡ added.name) × (adding_fault before added ≡ Some fault)
IsUnadded before added LoadStop.Memory = Unit {0}
IsUnadded before added _ = ⊥

-- why no program is loaded when the file whose turn it is isn't there
abbrev pub missing_refusal : List AddedFile → Option Place → Refusal
missing_refusal taken None = Refusal.Missing
missing_refusal taken (Some place) = Refusal.Faulty (name_at taken place.file) (record { place = place; code = FaultCode.MissingImport })
