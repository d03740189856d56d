-- The place of the first file of a name, and its bytes.
use Rattle.std.proofs.Common.{◌≡◌, ℕ, Bool, true, false, cond, List, [], length, Some, None, Option, refl, sym, ap, ◌∙◌, arith}
use Rattle.std.specs.Prelude.{is_some, unwrap_or, find, position, slice_get, nat_lt}
use Rattle.std.specs.Option.{option_map, option_map_or, option_and_then}
use Rattle.std.specs.List.{position_or_len}
use Rattle.std.specs.Str.{bytes_eq}
use Rattle.std.proofs.lemmas.List.Folds.{find_at}
use Rattle.std.proofs.lemmas.Option.{slice_get_past, gets}
use Rattle.std.proofs.lemmas.Bool.Decides.{nat_tests}
use Rattle.outside_io.specs.declared.shelf.NamedBytes.{NamedBytes}
use Rattle.outside_io.specs.Files.{file_named}
use Rattle.outside_io.specs.Files.{bytes_at}

module _ {X : Type 0} (xs : List X) (i : ℕ) where
  at_or_none : (b : Bool) → b ≡ nat_lt i (length xs) → option_and_then (slice_get xs) (cond b (Some i) None) ≡ slice_get xs i
  at_or_none true e = refl
  at_or_none false e = sym (slice_get_past xs i (grind (arith, nat_tests)))

  some_or_none : (b : Bool) → b ≡ nat_lt i (length xs) → is_some (cond b (Some i) None) ≡ is_some (slice_get xs i)
  some_or_none true e = grind (arith, nat_tests, gets)
  some_or_none false e = rw (slice_get_past xs i (grind (arith, nat_tests))) refl

pub item_found : {X : Type 0} (p : X → Bool) (xs : List X) → option_and_then (slice_get xs) (position p xs) ≡ find p xs
item_found p xs = at_or_none xs (position_or_len p xs) _ refl ∙ sym (find_at p xs)

pub is_found : {X : Type 0} (p : X → Bool) (xs : List X) → is_some (position p xs) ≡ is_some (find p xs)
is_found p xs = some_or_none xs (position_or_len p xs) _ refl ∙ ap is_some (sym (find_at p xs))

bytes_or : (file : Option NamedBytes) → option_map_or (λ (f : NamedBytes). f.bytes) file [] ≡ unwrap_or (option_map (λ (f : NamedBytes). f.bytes) file) []
bytes_or None = refl
bytes_or (Some file) = refl

some_bytes : (file : Option NamedBytes) → is_some file ≡ is_some (option_map (λ (f : NamedBytes). f.bytes) file)
some_bytes None = refl
some_bytes (Some file) = refl

pub bytes_found : (files : List NamedBytes) (name : List ℕ) → bytes_at files (position (λ (f : NamedBytes). bytes_eq f.name name) files) ≡ unwrap_or (file_named files name) []
bytes_found files name =
    ap (λ (file : Option NamedBytes). option_map_or (λ (f : NamedBytes). f.bytes) file []) (item_found (λ (f : NamedBytes). bytes_eq f.name name) files) ∙ bytes_or (find (λ (f : NamedBytes). bytes_eq f.name name) files)

pub name_found : (files : List NamedBytes) (name : List ℕ) → is_some (position (λ (f : NamedBytes). bytes_eq f.name name) files) ≡ is_some (file_named files name)
name_found files name = is_found (λ (f : NamedBytes). bytes_eq f.name name) files ∙ some_bytes (find (λ (f : NamedBytes). bytes_eq f.name name) files)
