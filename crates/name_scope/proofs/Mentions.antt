-- Each numbered name but the main file's is mentioned by an import.
use Rattle.std.proofs.Common.{◌≡◌, ◌∙◌, refl, sym, ap, ℕ, zero, suc, ◌<◌, ◌≤◌, ◌⊎◌, inl, inr, Bool, true, false, cond, List, [], ◌∷◌, ◌++◌, Option, Some, None, length, slice_get, arith, true≢false, length-append}
use Rattle.std.specs.Option.{is_some, option_or}
use Rattle.std.proofs.lemmas.Bool.{cases_lt}
use Rattle.std.proofs.lemmas.Slice.Eq.{bytes_eq-Decides}
use Rattle.dsl_tree.specs.osc_base.declared.fault.Place.{Place}
use Rattle.dsl_tree.specs.declared.parts.Ident.{Ident}
use Rattle.dsl_tree.specs.declared.file.Import.{Import}
use Rattle.name_scope.specs.declared.names.FileName.{FileName}
use Rattle.name_scope.specs.FileNumbers.{AddedFile, meant_name, dotted_name, import_place, is_meant, same_name, is_numbered, with_name, with_imports, with_files, wanted_name, wanted_mention, first_mention_in, first_mention, mention_of}
use Rattle.name_scope.proofs.Numbering.{below, imports_stay, files_stay}

same_itself : (n : FileName) → same_name n n ≡ true
same_itself FileName.Library = refl
same_itself (FileName.Named t) = (bytes_eq-Decides t t).1 refl

-- an import that asks for something has a place
dotted_there : (names : List Ident) (n : FileName) → dotted_name names ≡ Some n → is_some (import_place (Import.Dotted names)) ≡ true
dotted_there [] n h = absurd (cc)
dotted_there (i ∷ is) n h = refl

pub there : (i : Import) (n : FileName) → meant_name i ≡ Some n → is_some (import_place i) ≡ true
there (Import.Named place name) n h = refl
there (Import.Dotted names) n h = dotted_there names n h

either : (b : Bool) (o p : Option Place) → is_some o ≡ true → is_some p ≡ true → is_some (cond b o p) ≡ true
either true o p h k = h
either false o p h k = k

some_or : (o p : Option Place) → (is_some o ≡ true) ⊎ (is_some p ≡ true) → is_some (option_or o p) ≡ true
some_or None p (inl h) = absurd (true≢false (sym h))
some_or None p (inr h) = h
some_or (Some x) p h = refl

last_at : (names : List FileName) (m : FileName) → slice_get (names ++ m ∷ []) (length names) ≡ Some m
last_at [] m = refl
last_at (n ∷ ns) m = last_at ns m

-- a new name of imports is mentioned by one of them
module _ (i : Import) (is : List Import) (k : ℕ) (n : FileName)
    (rest : (names : List FileName) → length names ≤ k → slice_get (with_imports names is) k ≡ Some n → is_some (first_mention_in n is) ≡ true) where
  numbered : (names : List FileName) (m : FileName) → meant_name i ≡ Some m → length names ≤ k → (b : Bool) → slice_get (with_imports (cond b names (names ++ m ∷ [])) is) k ≡ Some n →
      is_some (cond (same_name n m) (import_place i) (first_mention_in n is)) ≡ true
  numbered names m e le true s = either (same_name n m) (import_place i) (first_mention_in n is) (there i m e) (rest names le s)
  numbered names m e le false s = elim (cases_lt (length names) k) [
    | inl l ↦ either (same_name n m) (import_place i) (first_mention_in n is) (there i m e) (rest (names ++ m ∷ []) (let p = length-append names (m ∷ []) in omega arith) s)
    | inr l ↦
        (let same : k ≡ length names = omega arith in
        let found : Some n ≡ Some m = sym s ∙ ap (slice_get (with_imports (names ++ m ∷ []) is)) same ∙ imports_stay (names ++ m ∷ []) is (length names) m (last_at names m) in
        let equal : n ≡ m = cc in
        ap (λ x. is_some (cond (same_name n x) (import_place i) (first_mention_in n is))) (sym equal)
        ∙ ap (λ b. is_some (cond b (import_place i) (first_mention_in n is))) (same_itself n) ∙ there i m e)
  ]

  step : (names : List FileName) → length names ≤ k → (o : Option FileName) → meant_name i ≡ o → slice_get (with_imports (with_name names o) is) k ≡ Some n →
      is_some (cond (is_meant n o) (import_place i) (first_mention_in n is)) ≡ true
  step names le None e s = rest names le s
  step names le (Some m) e s = numbered names m e le (is_numbered m names) s

pub mentioned_in : (is : List Import) (k : ℕ) (n : FileName) (names : List FileName) → length names ≤ k → slice_get (with_imports names is) k ≡ Some n → is_some (first_mention_in n is) ≡ true
mentioned_in [] k n names le h = let l = below names k n h in absurd (omega arith)
mentioned_in (i ∷ is) k n names le h = step i is k n (mentioned_in is k n) names le (meant_name i) refl h

-- The place stays if more files follow. If it is new in one of them, it is there in that one.
within : (xs : List FileName) (k : ℕ) → k < length xs → (x : FileName) × (slice_get xs k ≡ Some x)
within [] k l = absurd (omega arith)
within (x ∷ xs) zero l = (x, refl)
within (x ∷ xs) (suc k) l = within xs k (omega arith)

pub mentioned : (fs : List AddedFile) (names : List FileName) (k : ℕ) (n : FileName) → length names ≤ k → slice_get (with_files names fs) k ≡ Some n → is_some (first_mention n fs) ≡ true
mentioned [] names k n le h = let l = below names k n h in absurd (omega arith)
mentioned (f ∷ fs) names k n le h = some_or (first_mention_in n f.file.imports) (first_mention n fs) (elim (cases_lt k (length (with_imports names f.file.imports))) [
  | inl l ↦
      (let found = within (with_imports names f.file.imports) k l in
      let same : Some n ≡ Some found.0 = sym h ∙ files_stay (with_imports names f.file.imports) fs k found.0 found.1 in
      inl (mentioned_in f.file.imports k n names le (found.1 ∙ sym same)))
  | inr l ↦ inr (mentioned fs (with_imports names f.file.imports) k n l h)
])

-- a wanted file is mentioned
wanted_there : (fs : List AddedFile) (o : Option FileName) → wanted_name fs ≡ o → is_some (mention_of o fs) ≡ is_some o
wanted_there fs None h = refl
wanted_there [] (Some n) h = absurd (cc)
wanted_there (f ∷ fs) (Some n) h = mentioned (f ∷ fs) (FileName.Named f.name ∷ []) (length (f ∷ fs)) n (omega arith) h

pub wanted_mentioned : (fs : List AddedFile) → is_some (wanted_mention fs) ≡ is_some (wanted_name fs)
wanted_mentioned fs = wanted_there fs (wanted_name fs) refl
