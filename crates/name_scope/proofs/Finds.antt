-- What is found is a declaration of the name.
use Rattle.std.proofs.Common.{◌≡◌, ◌∙◌, refl, ap, ℕ, suc, ◌+◌, Bool, true, false, cond, List, [], ◌∷◌, Option, Some, None, slice_get, option_map, arith}
use Rattle.std.specs.Option.{option_or, IfSome}
use Rattle.name_scope.specs.declared.ids.DeclId.{DeclId}
use Rattle.name_scope.specs.declared.ids.NameKind.{NameKind}
use Rattle.name_scope.specs.FileNumbers.{AddedFile}
use Rattle.dsl_tree.specs.declared.file.File.{File}
use Rattle.name_scope.specs.Declaring.{declares, first_place, is_called, place_in_file, found_from, found, StandsAt, HasName, IsDeclared}

record PlaceOf {X : Type 0} (test : X → Bool) (n : ℕ) (xs : List X) (i : ℕ) : Type 0 where
  behind : ℕ
  item : X
  count : i ≡ n + behind
  stands : slice_get xs behind ≡ Some item
  passes : test item ≡ true

place_of : {X : Type 0} (test : X → Bool) (n : ℕ) (xs : List X) (i : ℕ) → first_place test n xs ≡ Some i → PlaceOf test n xs i
place_of test n [] i h = absurd (cc)
place_of test n (x ∷ xs) i h = by (test x) refl h (place_of test (n + 1) xs i)
  where
    by : (b : Bool) → test x ≡ b → cond b (Some n) (first_place test (n + 1) xs) ≡ Some i → (first_place test (n + 1) xs ≡ Some i → PlaceOf test (n + 1) xs i) → PlaceOf test n (x ∷ xs) i
    by true e s rest =
        let same : n ≡ i = cc in
        record { behind = 0; item = x; count = omega arith; stands = refl; passes = e }
    by false e s rest =
        let p = rest s in
        let count : i ≡ n + 1 + p.behind = p.count in
        record { behind = suc p.behind; item = p.item; count = omega arith; stands = p.stands; passes = p.passes }

stands_at : {X : Type 0} (test : X → Bool) (xs : List X) (i : ℕ) → first_place test 0 xs ≡ Some i → StandsAt test xs i
stands_at test xs i h =
    let p = place_of test 0 xs i h in
    let index : i ≡ p.behind = (let e = p.count in omega arith) in
    record { item = p.item; stands = ap (slice_get xs) index ∙ p.stands; passes = p.passes }

named_at : (kind : NameKind) (owner : Option (List ℕ)) (name : List ℕ) (f : File) (i : ℕ) → place_in_file kind owner name f ≡ Some i → HasName kind owner name f i
named_at NameKind.ModifierName None name f i h = stands_at (is_called name) f.modifiers i h
named_at NameKind.ModifierName (Some owner) name f i h = absurd (cc)
named_at NameKind.TypeName owner name f i h = stands_at (declares NameKind.TypeName owner name) f.decls i h
named_at NameKind.UnitName owner name f i h = stands_at (declares NameKind.UnitName owner name) f.decls i h
named_at NameKind.BehaviourName owner name f i h = stands_at (declares NameKind.BehaviourName owner name) f.decls i h

record FileOf (n : ℕ) (kind : NameKind) (owner : Option (List ℕ)) (name : List ℕ) (fs : List AddedFile) (id : DeclId) : Type 0 where
  behind : ℕ
  file : AddedFile
  count : id.file ≡ n + behind
  stands : slice_get fs behind ≡ Some file
  first : place_in_file kind owner name file.file ≡ Some id.index

file_of : (n : ℕ) (kind : NameKind) (owner : Option (List ℕ)) (name : List ℕ) (fs : List AddedFile) (id : DeclId) → found_from n kind owner name fs ≡ Some id → FileOf n kind owner name fs id
file_of n kind owner name [] id h = absurd (cc)
file_of n kind owner name (f ∷ fs) id h = by (place_in_file kind owner name f.file) refl h (file_of (n + 1) kind owner name fs id)
  where
    by : (o : Option ℕ) → place_in_file kind owner name f.file ≡ o →
        option_or (option_map (λ i. record { file = n; index = i }) o) (found_from (n + 1) kind owner name fs) ≡ Some id →
        (found_from (n + 1) kind owner name fs ≡ Some id → FileOf (n + 1) kind owner name fs id) → FileOf n kind owner name (f ∷ fs) id
    by (Some i) e s rest =
        let Here : DeclId = record { file = n; index = i } in
        let same : Some Here ≡ Some id = s in
        let equal : Here ≡ id = cc in
        let count : n ≡ id.file = ap (λ d. d.file) equal in
        record { behind = 0; file = f; count = omega arith; stands = refl; first = e ∙ ap (λ d. Some d.index) equal }
    by None e s rest =
        let p = rest s in
        let count : id.file ≡ n + 1 + p.behind = p.count in
        record { behind = suc p.behind; file = p.file; count = omega arith; stands = p.stands; first = p.first }

pub found_is_declared : (kind : NameKind) (owner : Option (List ℕ)) (name : List ℕ) (fs : List AddedFile) (id : DeclId) → found kind owner name fs ≡ Some id → IsDeclared kind owner name fs id
found_is_declared kind owner name fs id h =
    let f = file_of 0 kind owner name fs id h in
    let file : id.file ≡ f.behind = (let e = f.count in omega arith) in
    record { file = f.file; file_stands = ap (slice_get fs) file ∙ f.stands; has_name = named_at kind owner name f.file.file id.index f.first }

pub found_there : (kind : NameKind) (owner : Option (List ℕ)) (name : List ℕ) (fs : List AddedFile) (o : Option DeclId) → found kind owner name fs ≡ o → IfSome o (IsDeclared kind owner name fs)
found_there kind owner name fs None h = tt
found_there kind owner name fs (Some id) h = found_is_declared kind owner name fs id h
