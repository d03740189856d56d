-- How it is told where the members stand that come down through a conditional subtype: by the members around them.
use Rattle.std.specs.Prelude.{◌≡◌, ℕ, ◌+◌, ◌⊎◌, Bool, true, false, List, [], ◌∷◌, Some, drop, length, nat_eq, slice_get, slice_index_or, take}
use Rattle.std.specs.Option.{option_map_or}
use Rattle.std.specs.List.{list_all, list_any}
use Rattle.type_heads.specs.Types.{TypeBody, Member}
use Rattle.type_heads.specs.Members.{body}
use Rattle.type_members.specs.Shared.{has_places, lies_in, members_in_part}
use Rattle.type_members.specs.declared.places.Part.{Part}
use Rattle.type_members.specs.declared.rows.Cut.{Cut}

-- type c is the first of the conditional subtypes that a member is under
abbrev pub is_within : ℕ → Member → Bool
is_within c m = option_map_or (nat_eq c) (slice_get m.under 0) false

-- a list has a first item, which passes the test
abbrev pub begins : {X : Type 0} → (X → Bool) → List X → Bool
begins p [] = false
begins p (x ∷ xs) = p x

-- a list has a last item, which passes the test
abbrev pub ends : {X : Type 0} → (X → Bool) → List X → Bool
ends p [] = false
ends p (x ∷ []) = p x
ends p (x ∷ y ∷ ys) = ends p (y ∷ ys)

-- one of some parts begins with a member that passes the test
abbrev pub one_begins : (Member → Bool) → List (List Member) → List Part → Bool
one_begins p rows parts = list_any (λ (q : Part). begins p (members_in_part rows q)) parts

-- one of some parts ends with such a member
abbrev pub one_ends : (Member → Bool) → List (List Member) → List Part → Bool
one_ends p rows parts = list_any (λ (q : Part). ends p (members_in_part rows q)) parts

-- what is cut out, seen from where the part is seen from
abbrev pub cut_out : Part → Cut → Part
cut_out p cut = record { row = p.row; from = cut.from; to = cut.to; inside = p.inside }

-- What is cut out of a part begins and ends with members under type c. No part before it ends with one, and none after it begins with one.
pub record IsToldApart (rows : List (List Member)) (parts : List Part) (c : ℕ) (cut : Cut) : Type 0 where
  pub of : Part
  pub there : slice_get parts cut.part ≡ Some of
  pub within : lies_in cut of ≡ true
  pub first : begins (is_within c) (members_in_part rows (cut_out of cut)) ≡ true
  pub last : ends (is_within c) (members_in_part rows (cut_out of cut)) ≡ true
  pub before : one_ends (is_within c) rows (take cut.part parts) ≡ false
  pub just_before : ends (is_within c) (members_in_part rows (record of { to = cut.from })) ≡ false
  pub just_after : begins (is_within c) (members_in_part rows (record of { from = cut.to })) ≡ false
  pub after : one_begins (is_within c) rows (drop (cut.part + 1) parts) ≡ false

-- a member is under no conditional subtype
abbrev pub is_free : Member → Bool
is_free m = nat_eq (length m.under) 0

-- A cut begins where its part begins, and ends with all parts. Beside what another takes out, it takes out members that are under nothing: it is
-- the same from where these are seen.
pub record IsWidened (rows : List (List Member)) (parts : List Part) (told cut : Cut) : Type 0 where
  pub of : Part
  pub there : slice_get parts told.part ≡ Some of
  pub part : cut.part ≡ told.part
  pub from : cut.from ≡ of.from
  pub to : cut.to ≡ told.to
  pub end : told.to ≡ of.to
  pub free : list_all is_free (members_in_part rows (record of { to = told.from })) ≡ true
  pub none_after : list_any has_places (drop (told.part + 1) parts) ≡ false

-- a cut takes out what comes down through type c, and what is the same from there
pub record IsCutFor (rows : List (List Member)) (parts : List Part) (c : ℕ) (cut : Cut) : Type 0 where
  pub told : Cut
  pub apart : IsToldApart rows parts c told
  pub same : (cut ≡ told) ⊎ IsWidened rows parts told cut

-- a type has no members of its own, and all its conditional subtypes are flagged
pub record IsBare (bodies : List TypeBody) (subtypes : List (List ℕ)) (flags : List Bool) (t : ℕ) : Type 0 where
  pub own : (body bodies t).own ≡ []
  pub more : (body bodies t).more ≡ []
  pub below : list_all (λ c. slice_index_or flags c false) (slice_index_or subtypes t []) ≡ true

-- each type that is flagged is so
abbrev pub AreBare : List TypeBody → List (List ℕ) → List Bool → Type 0
AreBare bodies subtypes flags = (t : ℕ) → slice_index_or flags t false ≡ true → IsBare bodies subtypes flags t
