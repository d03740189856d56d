-- Rows of numbers by target, as functions of the target.
use Rattle.std.proofs.Common.{◌≡◌, ◌∙◌, refl, sym, ap, ℕ, List, [], ◌∷◌, ◌++◌, Bool, true, false, cond, Option, Some, None}
use Rattle.std.proofs.Common.{Result, Ok, Err, IfOk, OnOk}
use Rattle.std.specs.Option.{option_map_or}
use Rattle.std.specs.declared.alloc.AllocError.{AllocError}
use Rattle.keep_rules.specs.declared.rows.Taken.{Taken}
use Rattle.path_index.specs.osc_base.declared.path.Path.{Path}
use Rattle.path_index.specs.osc_base.Paths.{same_path}
use Rattle.std.specs.Map.{lookup_key}
use Rattle.indexmap.specs.IndexMap.{IndexMap, get_key_by}
use Rattle.path_index.specs.osc_base.contracts.path.PathPartialEq.TheImpl as paths
use Rattle.path_index.proofs.of_osc_base.PathEquality.{path_eq, path_is}

abbrev pub row_of : Option (List ℕ) → List ℕ
row_of found = option_map_or (λ row. row) found []

pub row_gone : (b : Bool) (o : Option (List ℕ)) → row_of (cond b None o) ≡ cond b [] (row_of o)
row_gone true o = refl
row_gone false o = refl

pub row_put : (b : Bool) (row : List ℕ) (o : Option (List ℕ)) → row_of (cond b (Some row) o) ≡ cond b row (row_of o)
row_put true row o = refl
row_put false row o = refl

pub and_nothing : (xs : List ℕ) → xs ≡ xs ++ []
and_nothing [] = refl
and_nothing (x ∷ xs) = ap (λ ys. x ∷ ys) (and_nothing xs)

-- a row that is taken out and put back with a number more
pub pushed : (old : Path → List ℕ) (target key path : Path) (row : List ℕ) (number : ℕ) → key ≡ target → row ≡ old target ++ number ∷ []
    → cond (same_path key path) row (cond (same_path target path) [] (old path)) ≡ old path ++ cond (same_path target path) (number ∷ []) []
pushed old target key path row number same is = ap (λ k. cond (same_path k path) row (cond (same_path target path) [] (old path))) same ∙ by (same_path target path) refl
  where
    by : (b : Bool) → same_path target path ≡ b → cond b row (cond b [] (old path)) ≡ old path ++ cond b (number ∷ []) []
    by true e = is ∙ ap (λ p. old p ++ number ∷ []) (path_is target path e)
    by false e = and_nothing (old path)

by_test : {X : Type 0} (test : Path → Bool) (entry : Path × X) (rest : Option Path) (key : Path) → (Some key ≡ rest → test key ≡ true)
    → (b : Bool) → test entry.0 ≡ b → Some key ≡ cond b (Some entry.0) rest → test key ≡ true
by_test test entry rest key later true is h = let same : key ≡ entry.0 = cc in ap test same ∙ is
by_test test entry rest key later false is h = later h

passing : {X : Type 0} (test : Path → Bool) (entries : List (Path × X)) (key : Path) → Some key ≡ lookup_key test entries → test key ≡ true
passing test [] key h = cc
passing test (e ∷ es) key h = by_test test e (lookup_key test es) key (passing test es key) (test e.0) refl h

-- the key that a map has for a path is the path
pub key_is : {X S : Type 0} (m : IndexMap Path X S) (target key : Path) → Some key ≡ get_key_by (paths.eq-value.it target) m → key ≡ target
key_is m target key h = sym (path_is target key (sym (path_eq target key) ∙ passing (paths.eq-value.it target) m.entries key h))

pub numbers_are : (r : Result Taken AllocError) (row : List ℕ) → IfOk r (λ t. t.numbers ≡ []) → [] ≡ row → IfOk r (λ t. t.numbers ≡ row)
numbers_are (Ok t) row none is = none ∙ is
numbers_are (Err e) row none is = tt

pub always_on : (r : Result Taken AllocError) (P : Type 0) → P → OnOk r P
always_on (Ok t) P p = p
always_on (Err e) P p = tt
