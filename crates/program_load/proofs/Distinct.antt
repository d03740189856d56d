-- Each name has one number.
use Rattle.std.proofs.Common.{◌≡◌, ◌∙◌, refl, sym, ap, ℕ, zero, suc, ◌||◌, Bool, true, false, cond, List, [], ◌∷◌, ◌++◌, Option, Some, None, length, slice_get, arith, true≢false}
use Rattle.std.proofs.lemmas.Slice.Eq.{bytes_eq-Decides}
use Rattle.dsl_tree.specs.declared.file.Import.{Import}
use Rattle.name_scope.specs.declared.names.FileName.{FileName}
use Rattle.name_scope.specs.FileNumbers.{AddedFile, meant_name, same_name, is_numbered, with_name, with_imports, with_files, numbered_names}

abbrev pub AreDistinct : List FileName → Type 0
AreDistinct names = (k l : ℕ) (name : FileName) → slice_get names k ≡ Some name → slice_get names l ≡ Some name → k ≡ l

same_itself : (name : FileName) → same_name name name ≡ true
same_itself FileName.Library = refl
same_itself (FileName.Named text) = (bytes_eq-Decides text text).1 refl

either : (a b : Bool) → b ≡ true → (a || b) ≡ true
either true b h = refl
either false b h = h

-- a name that has a place is numbered
has_number : (names : List FileName) (k : ℕ) (name : FileName) → slice_get names k ≡ Some name → is_numbered name names ≡ true
has_number [] k name h = absurd cc
has_number (first ∷ names) zero name h =
    let same : first ≡ name = cc in
    ap (λ n. same_name name n || is_numbered name names) same ∙ ap (λ b. b || is_numbered name names) (same_itself name)
has_number (first ∷ names) (suc k) name h = either (same_name name first) (is_numbered name names) (has_number names k name h)

-- what stands at a place of a list with one more
data At {X : Type 0} (xs : List X) (y : X) (k : ℕ) (x : X) : Type 0 where
  before : slice_get xs k ≡ Some x → At xs y k x
  behind : k ≡ length xs → x ≡ y → At xs y k x

at : {X : Type 0} (xs : List X) (y : X) (k : ℕ) (x : X) → slice_get (xs ++ y ∷ []) k ≡ Some x → At xs y k x
at [] y zero x h = behind refl cc
at [] y (suc k) x h = absurd cc
at (z ∷ xs) y zero x h = before h
at (z ∷ xs) y (suc k) x h = later (at xs y k x h)
  where
    later : At xs y k x → At (z ∷ xs) y (suc k) x
    later (before e) = before e
    later (behind e f) = behind (omega (arith, e)) f

module _ (names : List FileName) (new : FileName) (distinct : AreDistinct names) (fresh : is_numbered new names ≡ false) where
  never : (k : ℕ) (name : FileName) → slice_get names k ≡ Some name → name ≡ new → ⊥
  never k name h same = true≢false (sym (has_number names k name h) ∙ ap (λ n. is_numbered n names) same ∙ fresh)

  both : (k l : ℕ) (name : FileName) → At names new k name → At names new l name → k ≡ l
  both k l name (before h) (before h') = distinct k l name h h'
  both k l name (before h) (behind e' f') = absurd (never k name h f')
  both k l name (behind e f) (before h') = absurd (never l name h' f)
  both k l name (behind e f) (behind e' f') = e ∙ sym e'

  distinct_more : AreDistinct (names ++ new ∷ [])
  distinct_more k l name h h' = both k l name (at names new k name h) (at names new l name h')

distinct_name : (names : List FileName) (o : Option FileName) → AreDistinct names → AreDistinct (with_name names o)
distinct_name names None distinct = distinct
distinct_name names (Some new) distinct = by (is_numbered new names) refl
  where
    by : (b : Bool) → is_numbered new names ≡ b → AreDistinct (cond b names (names ++ new ∷ []))
    by true is = distinct
    by false is = distinct_more names new distinct is

distinct_imports : (names : List FileName) (imports : List Import) → AreDistinct names → AreDistinct (with_imports names imports)
distinct_imports names [] distinct = distinct
distinct_imports names (i ∷ is) distinct = distinct_imports (with_name names (meant_name i)) is (distinct_name names (meant_name i) distinct)

distinct_files : (names : List FileName) (files : List AddedFile) → AreDistinct names → AreDistinct (with_files names files)
distinct_files names [] distinct = distinct
distinct_files names (f ∷ fs) distinct = distinct_files (with_imports names f.file.imports) fs (distinct_imports names f.file.imports distinct)

one_name : (name : FileName) → AreDistinct (name ∷ [])
one_name name zero zero n h h' = refl
one_name name zero (suc l) n h h' = absurd cc
one_name name (suc k) l n h h' = absurd cc

pub numbered_distinct : (files : List AddedFile) → AreDistinct (numbered_names files)
numbered_distinct [] = λ k l name h h'. absurd cc
numbered_distinct (main ∷ others) = distinct_files (FileName.Named main.name ∷ []) (main ∷ others) (one_name (FileName.Named main.name))
