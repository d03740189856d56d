-- The numbers that are kept for names.
use Rattle.std.proofs.Common.{◌≡◌, ◌∙◌, refl, sym, ap, subst, ℕ, zero, suc, ◌+◌, ◌<◌, ◌||◌, Bool, true, false, cond, List, [], ◌∷◌, ◌++◌, Option, Some, None, get_or, length, map, arith}
use Rattle.std.specs.Prelude.{slice_get, slice_index_or}
use Rattle.std.specs.Option.{option_map_or, option_or}
use Rattle.type_members.specs.name_scope.Declaring.{first_place}
use Rattle.type_members.specs.Listed.{seen_row}
use Rattle.type_members.specs.declared.rows.MemberRow.{MemberRow}
use Rattle.member_faults.specs.NamePlaces.{ArePlaces, AreRowPlaces}
use Rattle.member_faults.specs.declared.name_places.NamePlaces.{NamePlaces}

pub or_nothing : (o : Option ℕ) → option_or o None ≡ o
or_nothing None = refl
or_nothing (Some n) = refl

-- one name, and then others
pub noted : (o : Option ℕ) (n : ℕ) (one others : Bool) → option_or o (cond (one || others) (Some n) None) ≡ option_or (option_or o (cond one (Some n) None)) (cond others (Some n) None)
noted (Some m) n true others = refl
noted (Some m) n false others = refl
noted None n true others = refl
noted None n false others = refl

pub place_mapped : {X Y : Type 0} (test : Y → Bool) (h : X → Y) (n : ℕ) (xs : List X) → first_place (λ x. test (h x)) n xs ≡ first_place test n (map h xs)
place_mapped test h n [] = refl
place_mapped test h n (x ∷ xs) = ap (cond (test (h x)) (Some n)) (place_mapped test h (n + 1) xs)

same_some : {X : Type 0} (x y : X) → Some x ≡ Some y → x ≡ y
same_some x y e = ap (λ o. option_map_or (λ z. z) o x) e

pub index_mapped : {X Y : Type 0} (h : X → Y) (d : Y) (xs : List X) (n : ℕ) (x : X) → n < length xs → slice_index_or (map h xs) n d ≡ h (slice_index_or xs n x)
index_mapped h d [] n x less = absurd (omega (arith, less))
index_mapped h d (y ∷ xs) zero x less = refl
index_mapped h d (y ∷ xs) (suc n) x less = let less' : n < length xs = omega (arith, less) in index_mapped h d xs n x less'

-- what holds of each is so after one more
pub each_pushed : (P : ℕ → NamePlaces → Type 0) (all : List NamePlaces) (q : NamePlaces) → ((n : ℕ) (p : NamePlaces) → slice_get all n ≡ Some p → P n p) → P (length all) q →
    (n : ℕ) (p : NamePlaces) → slice_get (all ++ q ∷ []) n ≡ Some p → P n p
each_pushed P [] q each last zero p is = subst (P zero) (same_some q p is) last
each_pushed P [] q each last (suc n) p is = each (suc n) p is
each_pushed P (r ∷ all) q each last zero p is = each zero p is
each_pushed P (r ∷ all) q each last (suc n) p is = each_pushed (λ m. P (suc m)) all q (λ m. each (suc m)) last n p is

-- the places of the names of one row more
pub row_placed : (rs : List MemberRow) (all : List NamePlaces) (q : NamePlaces) (r : MemberRow) (n : ℕ) → n < length rs → r ≡ get_or rs n r → ArePlaces q (seen_row r) → length all ≡ n →
    AreRowPlaces all (map seen_row rs) → AreRowPlaces (all ++ q ∷ []) (map seen_row rs)
row_placed rs all q r n less is are count so =
    each_pushed (λ m p. ArePlaces p (slice_index_or (map seen_row rs) m [])) all q so
    (subst (ArePlaces q) (ap seen_row is ∙ sym (index_mapped seen_row [] rs n r less) ∙ ap (λ m. slice_index_or (map seen_row rs) m []) (sym count)) are)
