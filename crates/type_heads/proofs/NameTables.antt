-- Tables of names, as functions from names to places.
use Rattle.std.proofs.Common.{◌≡◌, ◌∙◌, refl, ap, ℕ, ◌+◌, List, [], ◌∷◌, Bool, true, false, cond, ◌&&◌, Option, Some, None, bytes_eq, map}
use Rattle.std.specs.Option.{option_or}
use Rattle.std.specs.HashMap.{get_by_text}
use Rattle.std.proofs.lemmas.Slice.Eq.{bytes_eq-Decides}
use Rattle.name_scope.specs.Declaring.{first_place, same_owner}
use Rattle.name_scope.proofs.Tables.{or_nothing}
use Rattle.type_heads.specs.declared.names.NameTable.{NameTable}
use Rattle.type_heads.specs.declared.names.NameIndex.{NameIndex}
use Rattle.type_heads.specs.Names.{place_in, place_within, place_of}

-- an owner's table is taken out and put back with one name more
module _ (f g h : List ℕ → Option NameTable) (owner name : List ℕ) (place : ℕ) (before after : NameTable)
    (without : (w : List ℕ) → g w ≡ cond (bytes_eq owner w) None (f w))
    (with : (w : List ℕ) → h w ≡ cond (bytes_eq owner w) (Some after) (g w))
    (was : (text : List ℕ) → place_in before text ≡ place_within (f owner) text)
    (more : (text : List ℕ) → place_in after text ≡ option_or (place_in before text) (cond (bytes_eq name text) (Some place) None)) where
  pub owned_more : (w text : List ℕ) → place_within (h w) text ≡ option_or (place_within (f w) text) (cond (bytes_eq owner w && bytes_eq name text) (Some place) None)
  owned_more w text = ap (λ t. place_within t text) (with w ∙ ap (cond (bytes_eq owner w) (Some after)) (without w)) ∙ by (bytes_eq owner w) refl
    where
      by : (b : Bool) → bytes_eq owner w ≡ b → place_within (cond b (Some after) (cond b None (f w))) text ≡ option_or (place_within (f w) text) (cond (b && bytes_eq name text) (Some place) None)
      by true e = more text ∙ ap (λ o. option_or o (cond (bytes_eq name text) (Some place) None)) (was text ∙ ap (λ v. place_within (f v) text) ((bytes_eq-Decides owner w).0 e))
      by false e = or_nothing (place_within (f w) text)

-- nothing changes for the names without an owner
pub owned_all : (old new : NameIndex) (owner name : List ℕ) (place : ℕ) → new.plain ≡ old.plain →
    ((w text : List ℕ) → place_within (get_by_text new.owned w) text ≡ option_or (place_within (get_by_text old.owned w) text) (cond (bytes_eq owner w && bytes_eq name text) (Some place) None)) →
    (other : Option (List ℕ)) (text : List ℕ) → place_of new other text ≡ option_or (place_of old other text) (cond (same_owner (Some owner) other && bytes_eq name text) (Some place) None)
owned_all old new owner name place plain more None text = ap (λ t. place_in t text) plain ∙ or_nothing (place_in old.plain text)
owned_all old new owner name place plain more (Some w) text = more w text

-- the first place among images
pub place_of_map : {X Y : Type 0} (f : X → Y) (test : Y → Bool) (n : ℕ) (xs : List X) → first_place test n (map f xs) ≡ first_place (λ x. test (f x)) n xs
place_of_map f test n [] = refl
place_of_map f test n (x ∷ xs) = ap (cond (test (f x)) (Some n)) (place_of_map f test (n + 1) xs)
