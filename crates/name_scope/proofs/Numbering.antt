-- The numbers of names stay when more files are added.
use Rattle.std.proofs.Common.{◌≡◌, ◌∙◌, refl, sym, ap, ℕ, zero, suc, ◌<◌, ◌≤◌, ◌⊎◌, inl, inr, Bool, true, false, cond, List, [], ◌∷◌, ◌++◌, Option, Some, None, length, slice_get, option_map, arith, length-append}
use Rattle.dsl_tree.specs.declared.file.Import.{Import}
use Rattle.name_scope.specs.declared.names.FileName.{FileName}
use Rattle.name_scope.specs.FileNumbers.{AddedFile, name_text, meant_name, is_numbered, with_name, with_imports, with_files, numbered_names, names_before, wanted_name}
use Rattle.name_scope.specs.Sources.{IsProgram}

-- a place of a list stays when the list grows
stays : {X : Type 0} (xs ys : List X) (k : ℕ) (x : X) → slice_get xs k ≡ Some x → slice_get (xs ++ ys) k ≡ Some x
stays [] ys k x h = absurd (cc)
stays (y ∷ xs) ys zero x h = h
stays (y ∷ xs) ys (suc k) x h = stays xs ys k x h

name_stays : (names : List FileName) (o : Option FileName) (k : ℕ) (x : FileName) → slice_get names k ≡ Some x → slice_get (with_name names o) k ≡ Some x
name_stays names None k x h = h
name_stays names (Some name) k x h = by (is_numbered name names)
  where
    by : (b : Bool) → slice_get (cond b names (names ++ name ∷ [])) k ≡ Some x
    by true = h
    by false = stays names (name ∷ []) k x h

pub imports_stay : (names : List FileName) (is : List Import) (k : ℕ) (x : FileName) → slice_get names k ≡ Some x → slice_get (with_imports names is) k ≡ Some x
imports_stay names [] k x h = h
imports_stay names (i ∷ is) k x h = imports_stay (with_name names (meant_name i)) is k x (name_stays names (meant_name i) k x h)

pub files_stay : (names : List FileName) (fs : List AddedFile) (k : ℕ) (x : FileName) → slice_get names k ≡ Some x → slice_get (with_files names fs) k ≡ Some x
files_stay names [] k x h = h
files_stay names (f ∷ fs) k x h = files_stay (with_imports names f.file.imports) fs k x (imports_stay names f.file.imports k x h)

-- one file more
with_files-push : (names : List FileName) (fs : List AddedFile) (f : AddedFile) → with_files names (fs ++ f ∷ []) ≡ with_imports (with_files names fs) f.file.imports
with_files-push names [] f = refl
with_files-push names (g ∷ fs) f = with_files-push (with_imports names g.file.imports) fs f

pub numbered_more : (fs : List AddedFile) (f : AddedFile) → numbered_names (fs ++ f ∷ []) ≡ with_imports (names_before fs f.name) f.file.imports
numbered_more [] f = refl
numbered_more (g ∷ fs) f = with_files-push (FileName.Named g.name ∷ []) (g ∷ fs) f

-- what stands at a place of a list with one more
pushed_at : {X : Type 0} (xs : List X) (y : X) (k : ℕ) (x : X) → slice_get (xs ++ y ∷ []) k ≡ Some x → (slice_get xs k ≡ Some x) ⊎ ((k ≡ length xs) × (x ≡ y))
pushed_at [] y zero x h = inr (refl, cc)
pushed_at [] y (suc k) x h = absurd (cc)
pushed_at (z ∷ xs) y zero x h = inl h
pushed_at (z ∷ xs) y (suc k) x h = elim (pushed_at xs y k x h) [ inl e ↦ inl e | inr e ↦ inr (omega (arith, e.0), e.1) ]

-- a place that holds something is below the length
pub below : {X : Type 0} (xs : List X) (k : ℕ) (x : X) → slice_get xs k ≡ Some x → k < length xs
below [] k x h = absurd (cc)
below (y ∷ xs) zero x h = omega arith
below (y ∷ xs) (suc k) x h = let l = below xs k x h in omega arith

named_stays : (names : List FileName) (is : List Import) (k : ℕ) (t : List ℕ) → option_map name_text (slice_get names k) ≡ Some t → option_map name_text (slice_get (with_imports names is) k) ≡ Some t
named_stays names is k t h = by (slice_get names k) refl h
  where
    by : (o : Option FileName) → slice_get names k ≡ o → option_map name_text o ≡ Some t → option_map name_text (slice_get (with_imports names is) k) ≡ Some t
    by None e h = absurd (cc)
    by (Some x) e h = ap (option_map name_text) (imports_stay names is k x e) ∙ h

named_below : (names : List FileName) (k : ℕ) (t : List ℕ) → option_map name_text (slice_get names k) ≡ Some t → k < length names
named_below names k t h = by (slice_get names k) refl h
  where
    by : (o : Option FileName) → slice_get names k ≡ o → option_map name_text o ≡ Some t → k < length names
    by None e h = absurd (cc)
    by (Some x) e h = below names k x e

-- the program with one file more, given the names before its imports
grown_by : (files : List AddedFile) (before : List FileName) (added : AddedFile) →
    ((k : ℕ) (f : AddedFile) → slice_get files k ≡ Some f → option_map name_text (slice_get before k) ≡ Some f.name) →
    option_map name_text (slice_get before (length files)) ≡ Some added.name →
    with_imports before added.file.imports ≡ numbered_names (files ++ added ∷ []) →
    length (with_imports before added.file.imports) ≤ 64 →
    IsProgram (files ++ added ∷ []) (with_imports before added.file.imports)
grown_by files before added called next numbered few = record {
  numbered = numbered;
  few = few;
  enough =
      (let l = named_below (with_imports before added.file.imports) (length files) added.name (named_stays before added.file.imports (length files) added.name next) in
      let e = length-append files (added ∷ []) in omega arith);
  called = λ k f h. elim (pushed_at files added k f h) [
    | inl e ↦ named_stays before added.file.imports k f.name (called k f e)
    | inr e ↦ ap (λ n. option_map name_text (slice_get (with_imports before added.file.imports) n)) e.0
        ∙ named_stays before added.file.imports (length files) added.name next ∙ ap (λ g. Some g.name) (sym e.1)
  ];
}

pub grown : (files : List AddedFile) (names : List FileName) (added : AddedFile) → IsProgram files names →
    (files ≡ []) ⊎ (option_map name_text (wanted_name files) ≡ Some added.name) →
    length (with_imports (names_before files added.name) added.file.imports) ≤ 64 →
    IsProgram (files ++ added ∷ []) (with_imports (names_before files added.name) added.file.imports)
grown [] names added program next few = grown_by [] (FileName.Named added.name ∷ []) added (λ k f h. absurd (cc)) refl (sym (numbered_more [] added)) few
grown (g ∷ fs) names added program next few = elim next [
  | inl e ↦ absurd (cc)
  | inr e ↦ grown_by (g ∷ fs) (numbered_names (g ∷ fs)) added
      (λ k f h. ap (λ ns. option_map name_text (slice_get ns k)) (sym program.numbered) ∙ program.called k f h)
      e (sym (numbered_more (g ∷ fs) added)) few
]
