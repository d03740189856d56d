-- What was taken stays so when files are appended.
use Rattle.std.proofs.Common.{◌≡◌, ◌∙◌, refl, sym, ap, subst, ℕ, Bool, true, false, cond, List, [], ◌∷◌, ◌++◌, Option, Some, None, append_assoc}
use Rattle.std.specs.Option.{option_map, option_or}
use Rattle.std.specs.List.{find}
use Rattle.std.specs.Str.{bytes_eq}
use Rattle.std.proofs.lemmas.List.{append-nil}
use Rattle.std.proofs.lemmas.List.Folds.{find-append}
use Rattle.std.proofs.lemmas.Slice.Eq.{bytes_eq-Decides}
use Rattle.outside_io.specs.declared.shelf.NamedBytes.{NamedBytes}
use Rattle.outside_io.specs.Files.{file_named}
use Rattle.name_scope.specs.declared.names.FileName.{FileName}
use Rattle.name_scope.specs.FileNumbers.{AddedFile}
use Rattle.program_load.specs.Loading.{source_of, next_name, IsTaken, AreTakenAfter}

-- ---- More files

abbrev pub Keeps : List NamedBytes → List NamedBytes → Type 0
Keeps files more = (name source : List ℕ) → file_named files name ≡ Some source → file_named more name ≡ Some source

first_bytes : (o p : Option NamedBytes) (source : List ℕ) → option_map (λ (f : NamedBytes). f.bytes) o ≡ Some source → option_map (λ (f : NamedBytes). f.bytes) (option_or o p) ≡ Some source
first_bytes None p source h = absurd cc
first_bytes (Some f) p source h = h

pub keeps : (files more : List NamedBytes) → Keeps files (files ++ more)
keeps files more name source h =
    ap (option_map (λ (f : NamedBytes). f.bytes)) (find-append (λ (f : NamedBytes). bytes_eq f.name name) files more)
    ∙ first_bytes (find (λ (f : NamedBytes). bytes_eq f.name name) files) (find (λ (f : NamedBytes). bytes_eq f.name name) more) source h

source_stays : (files more : List NamedBytes) (name : FileName) (source : List ℕ) → Keeps files more → source_of files name ≡ Some source → source_of more name ≡ Some source
source_stays files more FileName.Library source kept h = h
source_stays files more (FileName.Named name) source kept h = kept name source h

taken_stays : (files more : List NamedBytes) (before : List AddedFile) (name : FileName) (added : AddedFile) → Keeps files more → IsTaken files before name added → IsTaken more before name added
taken_stays files more before name added kept t = record {
  source = t.source;
  there = source_stays files more name t.source kept t.there;
  within = t.within;
  tokens = t.tokens;
  read = t.read;
  called = t.called;
  imports = t.imports;
}

pub all_stay : (files more : List NamedBytes) (main : List ℕ) (before taken : List AddedFile) → Keeps files more → AreTakenAfter files main before taken → AreTakenAfter more main before taken
all_stay files more main before [] kept t = tt
all_stay files more main before (added ∷ later) kept t =
    ((t.0.0, t.0.1, taken_stays files more before t.0.0 added kept t.0.2), all_stay files more main (before ++ added ∷ []) later kept t.1)

-- one file more is taken
pub one_more : (files : List NamedBytes) (main : List ℕ) (start taken : List AddedFile) (name : FileName) (added : AddedFile) → AreTakenAfter files main start taken →
    next_name main (start ++ taken) ≡ Some name → IsTaken files (start ++ taken) name added → AreTakenAfter files main start (taken ++ added ∷ [])
one_more files main start [] name added t next is =
    ((name, subst (λ xs. next_name main xs ≡ Some name) (append-nil start) next, subst (λ xs. IsTaken files xs name added) (append-nil start) is), tt)
one_more files main start (first ∷ later) name added t next is = (
  t.0,
  one_more files main (start ++ first ∷ []) later name added t.1
      (subst (λ xs. next_name main xs ≡ Some name) (sym (append_assoc start (first ∷ []) later)) next)
      (subst (λ xs. IsTaken files xs name added) (sym (append_assoc start (first ∷ []) later)) is),
)

-- ---- A file of a new name

abbrev pub called : List ℕ → List ℕ → NamedBytes
called name source = record { name = name; bytes = source }

-- a file after others is found if none of them has its name
found_last : (b : Bool) (o : Option NamedBytes) (f : NamedBytes) → b ≡ true → option_map (λ (g : NamedBytes). g.bytes) o ≡ None → option_map (λ (g : NamedBytes). g.bytes) (option_or o (cond b (Some f) None)) ≡ Some f.bytes
found_last true None f is none = refl
found_last false None f is none = absurd cc
found_last b (Some g) f is none = absurd cc

pub last_found : (files : List NamedBytes) (name source : List ℕ) → file_named files name ≡ None → file_named (files ++ called name source ∷ []) name ≡ Some source
last_found files name source none =
    ap (option_map (λ (f : NamedBytes). f.bytes)) (find-append (λ (f : NamedBytes). bytes_eq f.name name) files (called name source ∷ []))
    ∙ found_last (bytes_eq name name) (find (λ (f : NamedBytes). bytes_eq f.name name) files) (called name source) ((bytes_eq-Decides name name).1 refl) none

-- of which file the bytes are
pub data Which (files : List NamedBytes) (new name source : List ℕ) : Type 0 where
  old : file_named files name ≡ Some source → Which files new name source
  last : new ≡ name → Which files new name source

which_of : (files : List NamedBytes) (new name source : List ℕ) (b : Bool) (o : Option NamedBytes) (f : NamedBytes) → (b ≡ true → new ≡ name) → (option_map (λ (g : NamedBytes). g.bytes) o ≡ Some source → file_named files name ≡ Some source) →
    option_map (λ (g : NamedBytes). g.bytes) (option_or o (cond b (Some f) None)) ≡ Some source → Which files new name source
which_of files new name source true None f same is h = last (same refl)
which_of files new name source false None f same is h = absurd cc
which_of files new name source b (Some g) f same is h = old (is h)

pub which_file : (files : List NamedBytes) (new bytes name source : List ℕ) → file_named (files ++ called new bytes ∷ []) name ≡ Some source → Which files new name source
which_file files new bytes name source h =
    which_of files new name source (bytes_eq new name) (find (λ (f : NamedBytes). bytes_eq f.name name) files) (called new bytes) ((bytes_eq-Decides new name).0) (λ is. is)
    (sym (ap (option_map (λ (f : NamedBytes). f.bytes)) (find-append (λ (f : NamedBytes). bytes_eq f.name name) files (called new bytes ∷ []))) ∙ h)
