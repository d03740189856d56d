-- Which files a program has: the names that its files mention, numbered in order, and the imports that stop the load.
use Rattle.std.specs.Prelude.{ℕ, ◌||◌, Bool, true, false, cond, List, [], ◌∷◌, ◌++◌, Option, Some, None, length, slice_get, nat_lt, codes, bytes_eq}
use Rattle.std.specs.Option.{option_or, option_map_or}
use Rattle.std.specs.List.{list_any}
use Rattle.dsl_tree.specs.osc_base.declared.fault.Place.{Place}
use Rattle.dsl_tree.specs.osc_base.declared.fault.FaultCode.{FaultCode}
use Rattle.dsl_tree.specs.osc_base.declared.fault.Fault.{Fault}
use Rattle.dsl_tree.specs.declared.parts.Ident.{Ident}
use Rattle.dsl_tree.specs.declared.file.Import.{Import}
use Rattle.dsl_tree.specs.declared.file.File.{File}
use Rattle.name_scope.specs.declared.names.FileName.{FileName}

-- A file of a program, and the text of the name by which it was fetched; the library's is `osc`.
pub record AddedFile : Type 0 where
  pub name : List ℕ
  pub file : File

-- The name of a file is `Library` or `Named text`. A file of the shelf that is called `osc` isn't the library.
abbrev pub name_text : FileName → List ℕ
name_text FileName.Library = codes "osc"
name_text (FileName.Named text) = text

abbrev pub same_name : FileName → FileName → Bool
same_name FileName.Library FileName.Library = true
same_name FileName.Library (FileName.Named b) = false
same_name (FileName.Named a) FileName.Library = false
same_name (FileName.Named a) (FileName.Named b) = bytes_eq a b

-- What an import asks for. A dotted one asks for the library if its first name is `osc`, and else for nothing.
abbrev pub dotted_name : List Ident → Option FileName
dotted_name [] = None
dotted_name (first ∷ others) = cond (bytes_eq first.text (codes "osc")) (Some FileName.Library) None

abbrev pub meant_name : Import → Option FileName
meant_name (Import.Named place name) = Some (FileName.Named name)
meant_name (Import.Dotted names) = dotted_name names

-- The place of the token after the word `import`. Each dotted import of a source has a first name.
abbrev pub dotted_place : List Ident → Option Place
dotted_place [] = None
dotted_place (first ∷ others) = Some first.place

abbrev pub import_place : Import → Option Place
import_place (Import.Named place name) = Some place
import_place (Import.Dotted names) = dotted_place names

-- Numbers: a name's number is its place in this list. The main file's name has number 0; then, file after file and
-- import after import, each name that has no number yet gets the next one.
abbrev pub is_numbered : FileName → List FileName → Bool
is_numbered name names = list_any (same_name name) names

abbrev pub with_name : List FileName → Option FileName → List FileName
with_name names None = names
with_name names (Some name) = cond (is_numbered name names) names (names ++ name ∷ [])

abbrev pub with_imports : List FileName → List Import → List FileName
with_imports names [] = names
with_imports names (i ∷ is) = with_imports (with_name names (meant_name i)) is

abbrev pub with_files : List FileName → List AddedFile → List FileName
with_files names [] = names
with_files names (f ∷ fs) = with_files (with_imports names f.file.imports) fs

abbrev pub numbered_names : List AddedFile → List FileName
numbered_names [] = []
numbered_names (main ∷ others) = with_files (FileName.Named main.name ∷ []) (main ∷ others)

-- Faults of imports: `MissingImport` when an import asks for nothing, `TooManyFiles` when it asks for one file more than 64.
abbrev pub name_fault : List FileName → Place → Option FileName → Option Fault
name_fault names place None = Some (record { place = place; code = FaultCode.MissingImport })
name_fault names place (Some name) = cond (is_numbered name names || nat_lt (length names) 64) None (Some (record { place = place; code = FaultCode.TooManyFiles }))

abbrev pub fault_at : List FileName → Option Place → Option FileName → Option Fault
fault_at names None name = None
fault_at names (Some place) name = name_fault names place name

abbrev pub import_fault : List FileName → Import → Option Fault
import_fault names i = fault_at names (import_place i) (meant_name i)

-- the fault of the first import that has one, given the names that are numbered before
abbrev pub first_import_fault : List FileName → List Import → Option Fault
first_import_fault names [] = None
first_import_fault names (i ∷ is) = option_or (import_fault names i) (first_import_fault (with_name names (meant_name i)) is)

-- the names that are numbered when the imports of one more file are taken
abbrev pub names_before : List AddedFile → List ℕ → List FileName
names_before [] name = FileName.Named name ∷ []
names_before (main ∷ others) name = numbered_names (main ∷ others)

-- the fault for which a file isn't added
abbrev pub adding_fault : List AddedFile → AddedFile → Option Fault
adding_fault files added = first_import_fault (names_before files added.name) added.file.imports

-- whether the file of that number is the library
abbrev pub is_library : FileName → Bool
is_library FileName.Library = true
is_library (FileName.Named text) = false

abbrev pub is_library_at : List AddedFile → ℕ → Bool
is_library_at files number = option_map_or is_library (slice_get (numbered_names files) number) false

-- The name of the next file: the one whose number is the count of the added files.
abbrev pub wanted_name : List AddedFile → Option FileName
wanted_name files = slice_get (numbered_names files) (length files)

-- the place of the import that mentions a name first
abbrev pub is_meant : FileName → Option FileName → Bool
is_meant name None = false
is_meant name (Some other) = same_name name other

abbrev pub first_mention_in : FileName → List Import → Option Place
first_mention_in name [] = None
first_mention_in name (i ∷ is) = cond (is_meant name (meant_name i)) (import_place i) (first_mention_in name is)

abbrev pub first_mention : FileName → List AddedFile → Option Place
first_mention name [] = None
first_mention name (f ∷ fs) = option_or (first_mention_in name f.file.imports) (first_mention name fs)

abbrev pub mention_of : Option FileName → List AddedFile → Option Place
mention_of None files = None
mention_of (Some name) files = first_mention name files

abbrev pub wanted_mention : List AddedFile → Option Place
wanted_mention files = mention_of (wanted_name files) files
