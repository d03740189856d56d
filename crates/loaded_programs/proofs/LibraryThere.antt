-- If a loaded program has the library, its tree stands among the program's trees.
use Rattle.std.proofs.Common.{◌≡◌, ◌∙◌, inl, inr, refl, sym, ap, subst, ℕ, zero, suc, ◌+◌, ◌<◌, ◌≤◌, Bool, true, false, cond, List, [], ◌∷◌, ◌++◌, length, slice_get, Option, Some, None, arith, true≢false, length-append}
use Rattle.std.proofs.lemmas.Bool.{cases_eq}
use Rattle.std.proofs.lemmas.List.{append_assoc, map-append}
use Rattle.name_scope.specs.dsl_tree.FileTree.{FileTree}
use Rattle.name_scope.specs.dsl_tree.Views.{file_tree}
use Rattle.outside_io.specs.declared.shelf.NamedBytes.{NamedBytes}
use Rattle.name_scope.specs.declared.names.FileName.{FileName}
use Rattle.name_scope.specs.FileNumbers.{AddedFile, name_text, with_imports, with_files, numbered_names, is_library}
use Rattle.name_scope.specs.Declaring.{first_place}
use Rattle.name_scope.specs.Library.{library_source}
use Rattle.name_scope.proofs.Numbering.{below, files_stay}
use Rattle.program_load.specs.Loading.{IsTaken, AreTakenAfter, IsLoaded, next_name}
use Rattle.loaded_programs.proofs.LibraryTree.{library_tree, library_read}
use Rattle.loaded_programs.proofs.LoadedFiles.{trees}

-- ---- numbers of names

files_append : (names : List FileName) (xs ys : List AddedFile) → with_files names (xs ++ ys) ≡ with_files (with_files names xs) ys
files_append names [] ys = refl
files_append names (x ∷ xs) ys = files_append (with_imports names x.file.imports) xs ys

-- the number of a file that is taken is that of its name
name_at_turn : (main : List ℕ) (before : List AddedFile) (added : AddedFile) (later : List AddedFile) (name : FileName) → next_name main before ≡ Some name → added.name ≡ name_text name
    → slice_get (numbered_names (before ++ added ∷ later)) (length before) ≡ Some name
name_at_turn main [] added later name next called =
    let same : FileName.Named main ≡ name = cc in
    files_stay (FileName.Named added.name ∷ []) (added ∷ later) 0 name (ap (λ t. Some (FileName.Named t)) (called ∙ sym (ap name_text same)) ∙ ap (λ n. Some n) same)
name_at_turn main (g ∷ gs) added later name next called =
    ap (λ names. slice_get names (length (g ∷ gs))) (files_append (FileName.Named g.name ∷ []) (g ∷ gs) (added ∷ later))
    ∙ files_stay (numbered_names (g ∷ gs)) (added ∷ later) (length (g ∷ gs)) name next

some_same : {X : Type 0} (x y : X) (o : Option X) → o ≡ Some x → o ≡ Some y → x ≡ y
some_same x y o h k = let e : Some x ≡ Some y = sym h ∙ k in cc

-- the file of a name among those that are loaded
record TakenAt (files : List NamedBytes) (program : List AddedFile) (name : FileName) : Type 0 where
  before : List AddedFile
  added : AddedFile
  later : List AddedFile
  split : program ≡ before ++ added ∷ later
  taken : IsTaken files before name added

module _ (files : List NamedBytes) (main : List ℕ) where
  taken_at : (before later : List AddedFile) (k : ℕ) (name : FileName) → AreTakenAfter files main before later → slice_get (numbered_names (before ++ later)) k ≡ Some name
      → length before ≤ k → k < length before + length later → TakenAt files (before ++ later) name
  taken_at before [] k name t h low high = absurd (omega (arith, low, high))
  taken_at before (added ∷ later) k name t h low high = elim (cases_eq k (length before)) [
    | inl e ↦
        let here = name_at_turn main before added later t.0.0 t.0.1 t.0.2.called in
        let there : slice_get (numbered_names (before ++ added ∷ later)) (length before) ≡ Some name = subst (λ n. slice_get (numbered_names (before ++ added ∷ later)) n ≡ Some name) e h in
        let same : t.0.0 ≡ name = some_same t.0.0 name (slice_get (numbered_names (before ++ added ∷ later)) (length before)) here there in
        record { before = before; added = added; later = later; split = refl; taken = subst (λ n. IsTaken files before n added) same t.0.2 }
    | inr ne ↦
        let joined = append_assoc before (added ∷ []) later in
        let more = length-append before (added ∷ []) in
        subst (λ p. TakenAt files p name) joined
        (taken_at (before ++ added ∷ []) later k name t.1 (subst (λ p. slice_get (numbered_names p) k ≡ Some name) (sym joined) h) (omega (arith, more, low, ne)) (omega (arith, more, high)))
  ]

-- ---- the library's name

record FoundAt {X : Type 0} (test : X → Bool) (xs : List X) (n k : ℕ) : Type 0 where
  at : ℕ
  item : X
  stands : slice_get xs at ≡ Some item
  passes : test item ≡ true
  number : k ≡ n + at

found_first : {X : Type 0} (test : X → Bool) (n : ℕ) (xs : List X) (k : ℕ) → first_place test n xs ≡ Some k → FoundAt test xs n k
found_first test n [] k h = absurd (let e : None ≡ Some k = h in cc)
found_first test n (x ∷ xs) k h = by (test x) refl h (λ e. found_first test (n + 1) xs k e)
  where
    by : (b : Bool) → test x ≡ b → cond b (Some n) (first_place test (n + 1) xs) ≡ Some k → (first_place test (n + 1) xs ≡ Some k → FoundAt test xs (n + 1) k) → FoundAt test (x ∷ xs) n k
    by true passes e later = let same : n ≡ k = cc in record { at = 0; item = x; stands = refl; passes = passes; number = omega (arith, same) }
    by false passes e later =
        let f = later e in
        let number = f.number in
        record { at = suc f.at; item = f.item; stands = f.stands; passes = f.passes; number = omega (arith, number) }

beyond : {X : Type 0} (xs : List X) (n : ℕ) → slice_get xs n ≡ None → length xs ≤ n
beyond [] n h = omega arith
beyond (x ∷ xs) zero h = absurd (let e : Some x ≡ None = h in cc)
beyond (x ∷ xs) (suc n) h = let l = beyond xs n h in omega (arith, l)

library_name : (name : FileName) → is_library name ≡ true → name ≡ FileName.Library
library_name FileName.Library h = refl
library_name (FileName.Named text) h = absurd (true≢false (sym h))

-- all names have files
all_taken : (main : List ℕ) (program : List AddedFile) → next_name main program ≡ None → length (numbered_names program) ≤ length program
all_taken main [] h = absurd (let e : Some (FileName.Named main) ≡ None = h in cc)
all_taken main (f ∷ fs) h = beyond (numbered_names (f ∷ fs)) (length (f ∷ fs)) h

-- the library's tree among the trees of a program
pub record HasLibrary (all : List FileTree) : Type 0 where
  pub front : List FileTree
  pub back : List FileTree
  pub number : ℕ
  pub split : all ≡ front ++ library_tree number ∷ back

library_file : (files : List NamedBytes) (program : List AddedFile) → TakenAt files program FileName.Library → HasLibrary (trees program)
library_file files program t =
    let there : Some library_source ≡ Some t.taken.source = t.taken.there in
    let source : t.taken.source ≡ library_source = cc in
    let tree = library_read (length t.before) t.taken.source t.taken.tokens (file_tree t.added.file) source t.taken.read in
    record {
      front = trees t.before;
      back = trees t.later;
      number = length t.before;
      split = ap trees t.split ∙ (map-append (λ (f : AddedFile). file_tree f.file) t.before (t.added ∷ t.later) ∙ ap (λ (x : FileTree). trees t.before ++ x ∷ trees t.later) tree);
    }

pub library_there : (files : List NamedBytes) (main : List ℕ) (program : List AddedFile) (k : ℕ) → IsLoaded files main program
    → first_place is_library 0 (numbered_names program) ≡ Some k → HasLibrary (trees program)
library_there files main program k loaded h =
    let f = found_first is_library 0 (numbered_names program) k h in
    let name = library_name f.item f.passes in
    let under = below (numbered_names program) f.at f.item f.stands in
    let whole = all_taken main program loaded.whole in
    library_file files program
    (taken_at files main [] program f.at FileName.Library loaded.taken (f.stands ∙ ap (λ n. Some n) name) (omega arith) (omega (arith, under, whole)))
