-- Rows of which none holds.
use Rattle.std.proofs.Common.{◌≡◌, refl, sym, subst, inl, inr, map, List, [], ◌∷◌, ◌++◌, Bool, true, false, ◌||◌, not, cond, Option, Some, None, true≢false}
use Rattle.std.specs.Prelude.{flat_map}
use Rattle.std.specs.Option.{option_or}
use Rattle.field_flatten.specs.osc_base.declared.fault.Fault.{Fault}
use Rattle.field_flatten.specs.osc_base.FaultRows.{FaultRow, is_before, first_of, row_fault, first_from, first_fault}
use Rattle.expansion_laws.specs.type_heads.Types.{Program, Types}
use Rattle.expansion_laws.specs.type_heads.HeadingFaults.{heading_rows}
use Rattle.expansion_laws.specs.type_heads.MemberFaults.{member_fault_rows}
use Rattle.expansion_laws.specs.expr_nodes.Typed.{Typed}
use Rattle.expansion_laws.specs.expr_nodes.Parts.{any_holds, on_one, on_two, unless}
use Rattle.expansion_laws.specs.composition.Uses.{use_rows}
use Rattle.expansion_laws.specs.composition.StaticFaults.{declaration_fault}
use Rattle.field_flatten.proofs.Tests.{In}

pub no_left : (a b : Bool) → a || b ≡ false → a ≡ false
no_left true b h = h
no_left false b h = refl

pub no_right : (a b : Bool) → a || b ≡ false → b ≡ false
no_right true b h = absurd (true≢false h)
no_right false b h = h

pub holds_not : (a : Bool) → not a ≡ false → a ≡ true
holds_not true h = refl
holds_not false h = absurd (true≢false h)

pub not_so : (a : Bool) → a ≡ false → not a ≡ true
not_so true h = absurd (true≢false h)
not_so false h = refl

pub not_from : (a : Bool) → not a ≡ true → a ≡ false
not_from true h = absurd (true≢false (sym h))
not_from false h = refl

-- what is made of one part, if no row holds
pub one_made : (P : Typed → Type 0) (rows : Option Typed → List FaultRow) (make : Typed → Typed) (a : Option Typed)
    → ((x : Typed) → a ≡ Some x → any_holds (rows (Some x)) ≡ false → P (make x)) → (t : Typed) → unless (rows a) (on_one a make) ≡ Some t → P t
one_made P rows make None f t h = by (any_holds (rows None)) h
  where
    by : (b : Bool) → cond b None None ≡ Some t → P t
    by true e = cc
    by false e = cc
one_made P rows make (Some x) f t h = by (any_holds (rows (Some x))) refl h
  where
    by : (b : Bool) → any_holds (rows (Some x)) ≡ b → cond b None (Some (make x)) ≡ Some t → P t
    by true n e = cc
    by false n e = let same : make x ≡ t = cc in subst P same (f x refl n)

-- what is made of two parts, if no row holds
pub two_made : (P : Typed → Type 0) (rows : Option Typed → Option Typed → List FaultRow) (make : Typed → Typed → Typed) (a b : Option Typed)
    → ((x y : Typed) → a ≡ Some x → b ≡ Some y → any_holds (rows (Some x) (Some y)) ≡ false → P (make x y)) → (t : Typed) → unless (rows a b) (on_two a b make) ≡ Some t → P t
two_made P rows make None b f t h = by (any_holds (rows None b)) h
  where
    by : (c : Bool) → cond c None None ≡ Some t → P t
    by true e = cc
    by false e = cc
two_made P rows make (Some x) None f t h = by (any_holds (rows (Some x) None)) h
  where
    by : (c : Bool) → cond c None None ≡ Some t → P t
    by true e = cc
    by false e = cc
two_made P rows make (Some x) (Some y) f t h = by (any_holds (rows (Some x) (Some y))) refl h
  where
    by : (c : Bool) → any_holds (rows (Some x) (Some y)) ≡ c → cond c None (Some (make x y)) ≡ Some t → P t
    by true n e = cc
    by false n e = let same : make x y ≡ t = cc in subst P same (f x y refl refl n)

-- ---- rows of which none holds

pub rows_left : (rs qs : List FaultRow) → any_holds (rs ++ qs) ≡ false → any_holds rs ≡ false
rows_left [] qs h = refl
rows_left (r ∷ rs) qs h = rw (no_left r.holds (any_holds (rs ++ qs)) h) (rows_left rs qs (no_right r.holds (any_holds (rs ++ qs)) h))

pub rows_right : (rs qs : List FaultRow) → any_holds (rs ++ qs) ≡ false → any_holds qs ≡ false
rows_right [] qs h = h
rows_right (r ∷ rs) qs h = rows_right rs qs (no_right r.holds (any_holds (rs ++ qs)) h)

pub rows_among : {A : Type 0} (f : A → List FaultRow) (xs : List A) → any_holds (flat_map f xs) ≡ false → (x : A) → In x xs → any_holds (f x) ≡ false
rows_among f [] h x i = absurd i
rows_among f (y ∷ ys) h x (inl e) = rw e (rows_left (f y) (flat_map f ys) h)
rows_among f (y ∷ ys) h x (inr i) = rows_among f ys (rows_right (f y) (flat_map f ys) h) x i

pub row_among : {A : Type 0} (f : A → FaultRow) (xs : List A) → any_holds (map f xs) ≡ false → (x : A) → In x xs → (f x).holds ≡ false
row_among f [] h x i = absurd i
row_among f (y ∷ ys) h x (inl e) = rw e (no_left (f y).holds (any_holds (map f ys)) h)
row_among f (y ∷ ys) h x (inr i) = row_among f ys (no_right (f y).holds (any_holds (map f ys)) h) x i

some_first : (f : Fault) (rows : List FaultRow) → first_from (Some f) rows ≡ None → {A : Type 0} → A
some_first f [] h = cc
some_first f (r ∷ rs) h {A} = by (row_fault r) h (λ g e. some_first g rs e)
  where
    by : (o : Option Fault) → first_from (first_of (Some f) o) rs ≡ None → ((g : Fault) → first_from (Some g) rs ≡ None → A) → A
    by None e rest = rest f e
    by (Some g) e rest = or (is_before g f) e rest
      where
        or : (b : Bool) → first_from (cond b (Some g) (Some f)) rs ≡ None → ((g : Fault) → first_from (Some g) rs ≡ None → A) → A
        or true k more = more g k
        or false k more = more f k

pub no_row : (rows : List FaultRow) → first_fault rows ≡ None → any_holds rows ≡ false
no_row [] h = refl
no_row (r ∷ rs) h = by r.holds refl h (no_row rs)
  where
    by : (b : Bool) → r.holds ≡ b → first_from (first_of None (cond b (Some r.fault) None)) rs ≡ None → (first_fault rs ≡ None → any_holds rs ≡ false) → (b || any_holds rs) ≡ false
    by true e k f = some_first r.fault rs k
    by false e k f = f k

-- the program has no fault of headings, members and uses
pub record NoFaults (p : Program) (ts : Types) : Type 0 where
  pub headings : any_holds (heading_rows p ts) ≡ false
  pub members : any_holds (member_fault_rows ts) ≡ false
  pub uses : any_holds (use_rows ts) ≡ false

pub no_faults : (p : Program) (ts : Types) → declaration_fault p ts ≡ None → NoFaults p ts
no_faults p ts h = by (first_fault (heading_rows p ts)) (first_fault (member_fault_rows ts)) (first_fault (use_rows ts)) refl refl refl h
  where
    by : (a b c : Option Fault) → first_fault (heading_rows p ts) ≡ a → first_fault (member_fault_rows ts) ≡ b → first_fault (use_rows ts) ≡ c → option_or a (option_or b c) ≡ None → NoFaults p ts
    by None None None x y z e = record { headings = no_row (heading_rows p ts) x; members = no_row (member_fault_rows ts) y; uses = no_row (use_rows ts) z }
    by (Some a) b c x y z e = cc
    by None (Some b) c x y z e = cc
    by None None (Some c) x y z e = cc
