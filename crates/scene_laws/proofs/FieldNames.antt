-- The names of a type's fields are distinct, and no field of an action or scenario is called `duration`.
use Rattle.std.proofs.Common.{◌≡◌, ℕ, zero, suc, ◌+◌, ◌≤◌, ◌<◌, refl, sym, ap, ◌∙◌, subst, inl, inr, List, [], ◌∷◌, ◌++◌, Bool, true, false, ◌||◌, cond, Some, map, length, arith, true≢false}
use Rattle.std.specs.Prelude.{⊤, flat_map, find, nat_lt, bytes_eq, codes, slice_index_or}
use Rattle.std.specs.List.{list_any}
use Rattle.std.proofs.lemmas.Slice.Eq.{bytes_eq-Decides}
use Rattle.expansion_laws.specs.dsl_tree.declared.parts.Ident.{Ident}
use Rattle.expansion_laws.specs.dsl_tree.FileTree.{FieldTree, MemberTree}
use Rattle.expansion_laws.specs.type_heads.Table.{TypeHead, form, is_behaviour, all_types, numbers_from}
use Rattle.expansion_laws.specs.type_heads.Types.{Program, Types, Member, Field}
use Rattle.expansion_laws.specs.type_heads.Members.{members, fields_declared, fields_among, fields, field, dos, members_of}
use Rattle.expansion_laws.specs.type_heads.MemberFaults.{labels_in, member_names, names_among, repeated_rows, names_given, do_rows, initial_rows, condition_rows, type_rows, member_fault_rows}
use Rattle.expansion_laws.specs.type_heads.DeclaredTypes.{types_of, placed, heads_from, bodies_from, all_declared, declared_heads}
use Rattle.expansion_laws.specs.expr_nodes.Parts.{any_holds}
use Rattle.field_flatten.proofs.Tests.{two_ways, In}
use Rattle.scene_laws.proofs.FaultRows.{no_left, no_right, rows_left, rows_among}

-- ---- pairs

-- no two of a list agree
abbrev pub Pairs : {A : Type 0} → (A → A → Type 0) → List A → Type 0
Pairs apart [] = ⊤
Pairs apart (x ∷ xs) = ((y : _) → In y xs → apart x y) × Pairs apart xs

-- ---- names

-- each name is new
abbrev Fresh : List (List ℕ) → List Ident → Type 0
Fresh earlier [] = ⊤
Fresh earlier (i ∷ is) = (list_any (bytes_eq i.text) earlier ≡ false) × Fresh (i.text ∷ earlier) is

fresh_rows : (earlier : List (List ℕ)) (is : List Ident) → any_holds (repeated_rows earlier is) ≡ false → Fresh earlier is
fresh_rows earlier [] h = tt
fresh_rows earlier (i ∷ is) h = (no_left (list_any (bytes_eq i.text) earlier) _ h, fresh_rows (i.text ∷ earlier) is (no_right (list_any (bytes_eq i.text) earlier) _ h))

abbrev Fewer : List (List ℕ) → List (List ℕ) → Type 0
Fewer some more = (name : List ℕ) → list_any (bytes_eq name) more ≡ false → list_any (bytes_eq name) some ≡ false

fewer_next : (n : List ℕ) (some more : List (List ℕ)) → Fewer some more → Fewer (n ∷ some) (n ∷ more)
fewer_next n some more f name h = rw (no_left (bytes_eq name n) (list_any (bytes_eq name) more) h) (f name (no_right (bytes_eq name n) (list_any (bytes_eq name) more) h))

fewer_more : (n : List ℕ) (some more : List (List ℕ)) → Fewer some more → Fewer some (n ∷ more)
fewer_more n some more f name h = f name (no_right (bytes_eq name n) (list_any (bytes_eq name) more) h)

-- ---- fields

-- each field has a new name
abbrev FreshFields : List (List ℕ) → List Field → Type 0
FreshFields earlier [] = ⊤
FreshFields earlier (f ∷ fs) = (list_any (bytes_eq f.name.text) earlier ≡ false) × FreshFields (f.name.text ∷ earlier) fs

-- the fields of one member, and those after them
one_member : (m : Member) (tree : FieldTree) (names : List Ident) (rest : List Field) (later : List Ident) (some more : List (List ℕ)) → Fewer some more → Fresh more (names ++ later)
    → ((s : List (List ℕ)) (t : List (List ℕ)) → Fewer s t → Fresh t later → FreshFields s rest)
    → FreshFields some (map (λ i. record { name = i; tree = tree; holder = m.holder; under = m.under }) names ++ rest)
one_member m tree [] rest later some more f h k = k some more f h
one_member m tree (i ∷ is) rest later some more f h k =
    (f i.text h.0, one_member m tree is rest later (i.text ∷ some) (i.text ∷ more) (fewer_next i.text some more f) h.1 k)

skipped : (labels : List Ident) (rest : List Field) (later : List Ident) (some more : List (List ℕ)) → Fewer some more → Fresh more (labels ++ later)
    → ((s : List (List ℕ)) (t : List (List ℕ)) → Fewer s t → Fresh t later → FreshFields s rest) → FreshFields some rest
skipped [] rest later some more f h k = k some more f h
skipped (i ∷ is) rest later some more f h k = skipped is rest later some (i.text ∷ more) (fewer_more i.text some more f) h.1 k

fresh_fields : (ms : List Member) (some more : List (List ℕ)) → Fewer some more → Fresh more (names_among ms) → FreshFields some (fields_among ms)
fresh_fields [] some more f h = tt
fresh_fields (m ∷ ms) some more f h = by m.written.member h (λ s t g k. fresh_fields ms s t g k)
  where
    by : (tree : MemberTree) → Fresh more (member_names tree ++ names_among ms) → ((s : List (List ℕ)) (t : List (List ℕ)) → Fewer s t → Fresh t (names_among ms) → FreshFields s (fields_among ms))
        → FreshFields some (fields_declared m tree ++ fields_among ms)
    by (MemberTree.Field x) k rest = one_member m x x.names (fields_among ms) (names_among ms) some more f k rest
    by (MemberTree.Rule r) k rest = rest some more f k
    by (MemberTree.Do place phase) k rest = skipped (labels_in phase) (fields_among ms) (names_among ms) some more f k rest

-- two fields have two names
abbrev pub NamesDiffer : Field → Field → Type 0
NamesDiffer f g = f.name.text ≡ g.name.text → ⊥

same_text : (a : List ℕ) → bytes_eq a a ≡ true
same_text a = (bytes_eq-Decides a a).1 refl

-- no field has an earlier name
fresh_apart : (earlier : List (List ℕ)) (fs : List Field) → FreshFields earlier fs → (name : List ℕ) → list_any (bytes_eq name) earlier ≡ true → (f : Field) → In f fs → f.name.text ≡ name → ⊥
fresh_apart earlier [] h name e f i same = i
fresh_apart earlier (x ∷ xs) h name e f (inl is) same =
    let there : list_any (bytes_eq x.name.text) earlier ≡ true = subst (λ z. list_any (bytes_eq z) earlier ≡ true) (sym same ∙ ap (λ (z : Field). z.name.text) is) e in
    true≢false (sym there ∙ h.0)
fresh_apart earlier (x ∷ xs) h name e f (inr i) same = fresh_apart (x.name.text ∷ earlier) xs h.1 name (by (bytes_eq name x.name.text)) f i same
  where
    by : (b : Bool) → b || list_any (bytes_eq name) earlier ≡ true
    by true = refl
    by false = e

names_apart : (earlier : List (List ℕ)) (fs : List Field) → FreshFields earlier fs → Pairs NamesDiffer fs
names_apart earlier [] h = tt
names_apart earlier (x ∷ xs) h =
    (λ g i same. fresh_apart (x.name.text ∷ earlier) xs h.1 x.name.text (rw (same_text x.name.text) refl) g i (sym same), names_apart (x.name.text ∷ earlier) xs h.1)

-- ---- a program without faults of members

in_all_types : {A : Type 0} (n : ℕ) (hs : List A) (t : ℕ) → n + t < n + length hs → In (n + t) (numbers_from n hs)
in_all_types n [] t h = absurd (omega (arith, h))
in_all_types n (x ∷ xs) zero h = inl (omega arith)
in_all_types n (x ∷ xs) (suc t) h =
    let same : n + suc t ≡ (n + 1) + t = omega arith in
    inr (subst (λ k. In k (numbers_from (n + 1) xs)) (sym same) (in_all_types (n + 1) xs t (omega (arith, h))))

pub number_in : (heads : List TypeHead) (t : ℕ) → t < length heads → In t (all_types heads)
number_in heads t h = let same : 0 + t ≡ t = omega arith in subst (λ k. In k (all_types heads)) same (in_all_types 0 heads t (omega (arith, h)))

beyond : {A B : Type 0} (f : ℕ → List B) (n : ℕ) (hs : List A) (t : ℕ) → length hs ≤ t → slice_index_or (map f (numbers_from n hs)) t [] ≡ []
beyond f n [] t h = refl
beyond f n (x ∷ xs) zero h = absurd (omega (arith, h))
beyond f n (x ∷ xs) (suc t) h = beyond f (n + 1) xs t (omega (arith, h))

-- types that aren't declared have no members
abbrev pub AreCounted : Types → Type 0
AreCounted ts = (t : ℕ) → length ts.table.heads ≤ t → members ts t ≡ []

pub program_counted : (p : Program) → AreCounted (types_of p)
unfolding types_of
program_counted p t h =
    let all = placed p in
    let names = declared_heads all in
    let heads = heads_from names all 0 (all_declared all) in
    beyond (members_of heads (bodies_from names all 0 (all_declared all))) 0 heads t h

pub less : (a b : ℕ) → nat_lt a b ≡ true → a < b
less a b h = grind arith

pub more : (a b : ℕ) → nat_lt a b ≡ false → b ≤ a
more a b h = grind arith

module _ (ts : Types) (counted : AreCounted ts) (rows : any_holds (member_fault_rows ts) ≡ false) where
  pub type_no_fault : (t : ℕ) → t < length ts.table.heads → any_holds (type_rows ts t) ≡ false
  type_no_fault t h = rows_among (type_rows ts) (all_types ts.table.heads) rows t (number_in ts.table.heads t h)

  two_ways_at : {A : Type 0} (t : ℕ) → (t < length ts.table.heads → A) → (length ts.table.heads ≤ t → A) → A
  two_ways_at t f g = two_ways (nat_lt t (length ts.table.heads)) (λ e. f (less t (length ts.table.heads) e)) (λ e. g (more t (length ts.table.heads) e))

  names_fresh : (t : ℕ) → t < length ts.table.heads → Fresh (names_given (form ts.table.heads t)) (names_among (members ts t))
  names_fresh t h =
      let f = form ts.table.heads t in
      let first = repeated_rows (names_given f) (names_among (members ts t)) in
      let second = do_rows f false (dos ts t) in
      let third = flat_map (λ (m : Member). initial_rows ts.table.heads m.written.member) (members ts t) in
      fresh_rows (names_given f) (names_among (members ts t)) (rows_left first second (rows_left (first ++ second) third (rows_left (first ++ second ++ third) (condition_rows ts t) (type_no_fault t h))))

  fresh_at : (t : ℕ) → (earlier : List (List ℕ)) × FreshFields earlier (fields ts t)
  fresh_at t = two_ways_at t
      (λ h. (names_given (form ts.table.heads t), fresh_fields (members ts t) (names_given (form ts.table.heads t)) (names_given (form ts.table.heads t)) (λ n e. e) (names_fresh t h)))
      (λ h. ([], subst (λ ms. FreshFields [] (fields_among ms)) (sym (counted t h)) tt))

  -- the names of fields are distinct
  pub fields_apart : (t : ℕ) → Pairs NamesDiffer (fields ts t)
  fields_apart t = let f = fresh_at t in names_apart f.0 (fields ts t) f.1

  -- a field is the one that is found by its name
  pub field_found : (t : ℕ) (f : Field) → In f (fields ts t) → field ts t f.name.text ≡ Some f
  field_found t f i = by (fields ts t) (fields_apart t) i
    where
      by : (fs : List Field) → Pairs NamesDiffer fs → In f fs → find (λ (g : Field). bytes_eq g.name.text f.name.text) fs ≡ Some f
      by [] p j = absurd j
      by (g ∷ gs) p (inl e) = subst (λ (z : Field). find (λ (g : Field). bytes_eq g.name.text z.name.text) (g ∷ gs) ≡ Some z) (sym e) (rw (same_text g.name.text) refl)
      by (g ∷ gs) p (inr j) = step (bytes_eq g.name.text f.name.text) refl (by gs p.1 j)
        where
          step : (b : Bool) → bytes_eq g.name.text f.name.text ≡ b → find (λ (g : Field). bytes_eq g.name.text f.name.text) gs ≡ Some f → cond b (Some g) (find (λ (g : Field). bytes_eq g.name.text f.name.text) gs) ≡ Some f
          step true e rest = absurd (p.0 f j ((bytes_eq-Decides g.name.text f.name.text).0 e))
          step false e rest = rest

  -- an action or scenario has no field `duration`
  pub no_duration : (t : ℕ) → is_behaviour (form ts.table.heads t) ≡ true → (f : Field) → In f (fields ts t) → f.name.text ≡ codes "duration" → ⊥
  no_duration t b f i = two_ways_at t
      (λ h. fresh_apart (names_given (form ts.table.heads t)) (fields ts t) (fresh_fields (members ts t) (names_given (form ts.table.heads t)) (names_given (form ts.table.heads t)) (λ n e. e) (names_fresh t h))
      (codes "duration") (given (is_behaviour (form ts.table.heads t)) b) f i)
      (λ h. absurd (subst (λ ms. In f (fields_among ms)) (counted t h) i))
    where
      given : (c : Bool) → c ≡ true → list_any (bytes_eq (codes "duration")) (cond c (codes "duration" ∷ []) []) ≡ true
      given true e = refl
      given false e = absurd (true≢false (sym e))
