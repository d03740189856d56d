-- The types of an object's fields are among those that its type holds, and the types that a scenario invokes among its invocations.
use Rattle.std.proofs.Common.{◌≡◌, ℕ, zero, suc, ◌+◌, ◌<◌, refl, sym, ap, ◌∙◌, subst, inl, inr, List, [], ◌∷◌, ◌++◌, Bool, true, false, ◌&&◌, ◌||◌, not, cond, Option, Some, None, map, length, arith, true≢false}
use Rattle.std.specs.Prelude.{filter, flat_map, filter_map, slice_index_or, option_to_list, option_and_then, bytes_eq, nat_eq}
use Rattle.std.specs.Option.{option_map_or}
use Rattle.expansion_laws.specs.dsl_tree.declared.parts.Ident.{Ident}
use Rattle.expansion_laws.specs.dsl_tree.declared.parts.QName.{QName}
use Rattle.expansion_laws.specs.dsl_tree.declared.phases.InvokeHead.{InvokeHead}
use Rattle.expansion_laws.specs.dsl_tree.declared.compounds.Heir.{Heir}
use Rattle.expansion_laws.specs.dsl_tree.PhaseTree.{ArgumentTree, PartTree, PhaseTree, Comp, Invoke, Wait}
use Rattle.expansion_laws.specs.dsl_tree.FileTree.{MemberTree}
use Rattle.expansion_laws.specs.name_scope.Declaring.{same_owner, first_place}
use Rattle.expansion_laws.specs.type_heads.Table.{TypeHead, int_head, head, form, base, bases, line_within, named, numbers_from, all_types, is_scenario, has_members, is_behaviour}
use Rattle.expansion_laws.specs.type_heads.Types.{Program, Types, TypeBody, Written, Member, Field, Do}
use Rattle.expansion_laws.specs.type_heads.Members.{has, body, subtypes, is_conditional, Line, line_of, through, down_within, down, lines_within, member_of, members_of, members, fields_declared, fields, field_type, the_do}
use Rattle.expansion_laws.specs.type_heads.Cycles.{reached, returns}
use Rattle.expansion_laws.specs.type_heads.HeadingFaults.{field_types, family, held_types, cycle_row, heading_rows, twice_rows, basic_names, name_declared, declaration_rows, enum_rows_from}
use Rattle.expansion_laws.specs.type_heads.DeclaredTypes.{Placed, placed, Declared, all_declared, meant, declared_heads, heads_from, bodies_from, types_of}
use Rattle.expansion_laws.specs.expr_nodes.Parts.{any_holds}
use Rattle.expansion_laws.specs.expr_nodes.Typing.{typed}
use Rattle.expansion_laws.specs.composition.Calls.{PhaseHere, phases_in, Callee, callee, actor_type, owned_behaviour, called, without_labels, invoked}
use Rattle.expansion_laws.specs.composition.Uses.{text_rows, invoked_by, invocations, invocation_row, use_rows}
use Rattle.field_flatten.proofs.Tests.{In, in_left, in_right, in_either, map_in, in_flat_map, flat_map_in, in_filter, found_in}
use Rattle.scene_laws.proofs.FaultRows.{no_right, rows_right, row_among}
use Rattle.scene_laws.proofs.Picked.{of_option, filter_map_in}
use Rattle.scene_laws.proofs.FieldNames.{number_in}
use Rattle.scene_laws.proofs.WrittenMembers.{IsWrittenIn, members_written}
use Rattle.scene_laws.proofs.Acyclic.{Closed, reached_closed}

-- ---- bounds

first_below : (test : TypeHead → Bool) (n : ℕ) (hs : List TypeHead) (t : ℕ) → first_place test n hs ≡ Some t → t < n + length hs
first_below test n [] t h = cc
first_below test n (x ∷ xs) t h = by (test x) h (first_below test (n + 1) xs t)
  where
    here : (m k : ℕ) → m ≡ t → t < m + suc k
    here m k e = omega (arith, e)

    more : (m k : ℕ) → t < (m + 1) + k → t < m + suc k
    more m k e = omega (arith, e)

    by : (b : Bool) → cond b (Some n) (first_place test (n + 1) xs) ≡ Some t → (first_place test (n + 1) xs ≡ Some t → t < (n + 1) + length xs) → t < n + length (x ∷ xs)
    by true e f = here n (length xs) cc
    by false e f = more n (length xs) (f e)

pub named_below : (heads : List TypeHead) (owner : Option (List ℕ)) (name : List ℕ) (t : ℕ) → named heads owner name ≡ Some t → t < length heads
named_below heads owner name t h = zero_less t (length heads) (first_below (λ h. same_owner h.owner owner && bytes_eq h.name name) 0 heads t h)
  where
    zero_less : (a b : ℕ) → a < 0 + b → a < b
    zero_less a b e = omega (arith, e)

number_below : {A : Type 0} (n : ℕ) (hs : List A) (t : ℕ) → In t (numbers_from n hs) → t < n + length hs
number_below n [] t i = absurd i
number_below n (x ∷ xs) t (inl e) = here n (length xs) e
  where
    here : (m k : ℕ) → t ≡ m → t < m + suc k
    here m k e = omega (arith, e)
number_below n (x ∷ xs) t (inr i) = more n (length xs) (number_below (n + 1) xs t i)
  where
    more : (m k : ℕ) → t < (m + 1) + k → t < m + suc k
    more m k e = omega (arith, e)

pub types_below : (heads : List TypeHead) (t : ℕ) → In t (all_types heads) → t < length heads
types_below heads t i = zero_less t (length heads) (number_below 0 heads t i)
  where
    zero_less : (a b : ℕ) → a < 0 + b → a < b
    zero_less a b e = omega (arith, e)

-- a base is a type
abbrev pub AreBased : List TypeHead → Type 0
AreBased heads = (t b : ℕ) → base heads t ≡ Some b → b < length heads

-- ---- families

module _ (heads : List TypeHead) (bodies : List TypeBody) (based : AreBased heads) where
  line_below : (n : ℕ) (o : Option ℕ) → ((b : ℕ) → o ≡ Some b → b < length heads) → (x : ℕ) → In x (line_within n heads o) → x < length heads
  line_below zero o f x i = absurd i
  line_below (suc n) None f x i = absurd i
  line_below (suc n) (Some t) f x (inl e) = subst (λ k. k < length heads) (sym e) (f t refl)
  line_below (suc n) (Some t) f x (inr i) = line_below n (base heads t) (based t) x i

  subtypes_below : (x y : ℕ) → In y (subtypes heads bodies x) → y < length heads
  subtypes_below x y i = types_below heads y (in_filter (λ c. is_conditional bodies c && option_map_or (nat_eq x) (base heads c) false) (all_types heads) y i).0

  module _ (t : ℕ) (below : t < length heads) where
    abbrev of_family : List ℕ
    of_family = family heads bodies t

    family_closed : Closed (length heads) (subtypes heads bodies) subtypes_below (t ∷ bases heads t) (family heads bodies t)
    family_closed = reached_closed (length heads) (subtypes heads bodies) subtypes_below (t ∷ bases heads t) (λ x i. start x i)
      where
        start : (x : ℕ) → In x (t ∷ bases heads t) → x < length heads
        start x (inl e) = subst (λ k. k < length heads) (sym e) below
        start x (inr i) = line_below (length heads) (base heads t) (based t) x i

    down_family : (n u : ℕ) → In u of_family → (l : Line) → In l (down_within n heads bodies u) → In l.holder of_family
    down_family zero u h l i = absurd i
    down_family (suc n) u h l i =
        elim (in_either l (map (line_of u) (body bodies u).own ++ flat_map (λ c. map (through c) (down_within n heads bodies c)) (subtypes heads bodies u)) (map (line_of u) (body bodies u).more) i) as (λ _. In l.holder of_family) [
          | inl j ↦ elim (in_either l (map (line_of u) (body bodies u).own) (flat_map (λ c. map (through c) (down_within n heads bodies c)) (subtypes heads bodies u)) j) as (λ _. In l.holder of_family) [
            | inl k ↦ let g = map_in (line_of u) (body bodies u).own l k in subst (λ (z : Line). In z.holder of_family) (sym g.2) h
            | inr k ↦
                let g = flat_map_in (λ c. map (through c) (down_within n heads bodies c)) (subtypes heads bodies u) l k in
                let m = map_in (through g.0) (down_within n heads bodies g.0) l g.2 in
                subst (λ (z : Line). In z.holder of_family) (sym m.2) (down_family n g.0 (family_closed.steps u g.0 h g.1) m.0 m.1)
          ]
          | inr j ↦ let g = map_in (line_of u) (body bodies u).more l j in subst (λ (z : Line). In z.holder of_family) (sym g.2) h
        ]

    lines_family : (n u : ℕ) → ((v : ℕ) → In v (u ∷ line_within n heads (base heads u)) → In v of_family) → (l : Line) → In l (lines_within n heads bodies u) → In l.holder of_family
    lines_family zero u f l i = absurd i
    lines_family (suc n) u f l i =
        elim (in_either l (flat_map (λ b. filter (λ l. not (has u l.through)) (lines_within n heads bodies b)) (option_to_list (base heads u))) (down heads bodies u) i) as (λ _. In l.holder of_family) [
          | inl j ↦
              let g = flat_map_in (λ b. filter (λ l. not (has u l.through)) (lines_within n heads bodies b)) (option_to_list (base heads u)) l j in
              let is = of_option (base heads u) g.0 g.1 in
              lines_family n g.0 (λ v k. f v (inr (subst (λ o. In v (line_within (suc n) heads o)) (sym is) k))) l (in_filter (λ (l : Line). not (has u l.through)) (lines_within n heads bodies g.0) l g.2).0
          | inr j ↦ down_family (length heads) u (f u (inl refl)) l j
        ]

    pub members_family : (m : Member) → In m (members_of heads bodies t) → In m.holder of_family
    members_family m i =
        let g = map_in (member_of (t ∷ bases heads t)) (lines_within (length heads) heads bodies t) m i in
        subst (λ (z : Member). In z.holder of_family) (sym g.2) (lines_family (length heads) t (λ v j. family_closed.starts v j) g.0 g.1)

-- ---- fields and invocations

abbrev pub AreMembersOf : Types → Type 0
AreMembersOf ts = (t : ℕ) → t < length ts.table.heads → members ts t ≡ members_of ts.table.heads ts.bodies t

some_list : {A : Type 0} (o : Option A) (x : A) → o ≡ Some x → In x (option_map_or (λ y. y ∷ []) o [])
some_list None x e = cc
some_list (Some y) x e = let same : y ≡ x = cc in inl (sym same)

-- the types of the fields that a type itself declares
abbrev own_types : List TypeHead → List TypeBody → ℕ → List ℕ
own_types heads bodies u = flat_map (λ (w : Written). field_types heads w w.member) ((body bodies u).own ++ (body bodies u).more)

pub field_held : (ts : Types) → AreBased ts.table.heads → AreMembersOf ts → (t : ℕ) → t < length ts.table.heads → has_members (form ts.table.heads t) ≡ true → (f : Field) → In f (fields ts t) → (of : ℕ) → field_type ts f ≡ Some of → In of (held_types ts.table.heads ts.bodies t)
field_held ts based are t below full f i of typed =
    let heads = ts.table.heads in
    let g = flat_map_in (λ (m : Member). fields_declared m m.written.member) (members ts t) f i in
    let m = subst (λ l. In g.0 l) (are t below) g.1 in
    let w = members_written heads ts.bodies t g.0 m in
    subst (λ b. In of (cond b (flat_map (own_types heads ts.bodies) (family heads ts.bodies t)) [])) (sym full)
    (in_flat_map (own_types heads ts.bodies) (family heads ts.bodies t) g.0.holder of (members_family heads ts.bodies based t below g.0 m)
    (in_flat_map (λ (w : Written). field_types heads w w.member) ((body ts.bodies g.0.holder).own ++ (body ts.bodies g.0.holder).more) g.0.written of (written g.0 w) (by g.0 g.0.written.member g.2)))
  where
    written : (m : Member) → IsWrittenIn ts.table.heads ts.bodies m.holder m.written → In m.written ((body ts.bodies m.holder).own ++ (body ts.bodies m.holder).more)
    written m (inl j) = in_left m.written (body ts.bodies m.holder).own (body ts.bodies m.holder).more j
    written m (inr j) = in_right m.written (body ts.bodies m.holder).own (body ts.bodies m.holder).more j

    by : (m : Member) (tree : MemberTree) → In f (fields_declared m tree) → In of (field_types ts.table.heads m.written tree)
    by m (MemberTree.Field x) j =
        let g = map_in (λ (i : Ident). record { name = i; tree = x; holder = m.holder; under = m.under }) x.names f j in
        some_list (named ts.table.heads None x.of.text) of (subst (λ (z : Field). field_type ts z ≡ Some of) g.2 typed)
    by m (MemberTree.Rule r) j = absurd j
    by m (MemberTree.Do place phase) j = absurd j

pub held_below : (ts : Types) (x y : ℕ) → In y (held_types ts.table.heads ts.bodies x) → y < length ts.table.heads
held_below ts x y i = held (has_members (form ts.table.heads x)) i
  where
    one : (o : Option ℕ) → ((t : ℕ) → o ≡ Some t → t < length ts.table.heads) → In y (option_map_or (λ t. t ∷ []) o []) → y < length ts.table.heads
    one None f j = absurd j
    one (Some t) f (inl e) = subst (λ k. k < length ts.table.heads) (sym e) (f t refl)
    one (Some t) f (inr j) = absurd j

    by : (w : Written) (tree : MemberTree) → In y (field_types ts.table.heads w tree) → y < length ts.table.heads
    by w (MemberTree.Field f) j = one (named ts.table.heads None f.of.text) (named_below ts.table.heads None f.of.text) j
    by w (MemberTree.Rule r) j = absurd j
    by w (MemberTree.Do place phase) j = absurd j

    held : (b : Bool) → In y (cond b (flat_map (own_types ts.table.heads ts.bodies) (family ts.table.heads ts.bodies x)) []) → y < length ts.table.heads
    held true j =
        let g = flat_map_in (own_types ts.table.heads ts.bodies) (family ts.table.heads ts.bodies x) y j in
        let w = flat_map_in (λ (w : Written). field_types ts.table.heads w w.member) ((body ts.bodies g.0).own ++ (body ts.bodies g.0).more) y g.2 in
        by w.0 w.0.member w.2
    held false j = absurd j

pub called_below : (ts : Types) (t : ℕ) (c : Callee) (of : ℕ) → called ts t c ≡ Some of → of < length ts.table.heads
called_below ts t (Callee.Alone name) of h = by (named ts.table.heads None name.text) refl h
  where
    test : (u : ℕ) (b : Bool) → u < length ts.table.heads → cond b (Some u) None ≡ Some of → of < length ts.table.heads
    test u true l is = let same : u ≡ of = cc in subst (λ k. k < length ts.table.heads) same l
    test u false l is = cc

    by : (o : Option ℕ) → named ts.table.heads None name.text ≡ o → option_and_then (λ u. cond (is_behaviour (form ts.table.heads u)) (Some u) None) o ≡ Some of → of < length ts.table.heads
    by None e is = cc
    by (Some u) e is = test u (is_behaviour (form ts.table.heads u)) (named_below ts.table.heads None name.text u e) is
called_below ts t (Callee.Owned actor name) of h = by (actor_type ts.table.heads (typed ts.table (without_labels t) actor)) h
  where
    by : (o : Option ℕ) → option_and_then (owned_behaviour ts.table.heads name.text) o ≡ Some of → of < length ts.table.heads
    by None e = cc
    by (Some a) e =
        let found = found_in (λ b. true) (filter_map (λ o. named ts.table.heads (Some (head ts.table.heads o).name) name.text) (a ∷ bases ts.table.heads a)) of e in
        let g = filter_map_in (λ o. named ts.table.heads (Some (head ts.table.heads o).name) name.text) (a ∷ bases ts.table.heads a) of found.0 in
        named_below ts.table.heads (Some (head ts.table.heads g.0).name) name.text of g.2
called_below ts t (Callee.NoName place) of h = cc

pub invocations_below : (ts : Types) (x y : ℕ) → In y (invocations ts x) → y < length ts.table.heads
invocations_below ts x y i =
    let g = flat_map_in (λ (d : Do). flat_map (λ (p : PhaseHere). invoked_by ts d p.phase) (phases_in d.phase)) (option_to_list (the_do ts x)) y i in
    let p = flat_map_in (λ (p : PhaseHere). invoked_by ts g.0 p.phase) (phases_in g.0.phase) y g.2 in
    by g.0 p.0.phase p.2
  where
    by : (d : Do) (phase : PhaseTree) → In y (invoked_by ts d phase) → y < length ts.table.heads
    by d (Invoke label head names arguments parts) j = called_below ts d.holder (callee head names) y (of_option (invoked ts d.holder head names) y j)
    by d (Comp label place kind arguments members) j = absurd j
    by d (Wait label place elapsed) j = absurd j

option_in : {A : Type 0} (o : Option A) (x : A) → o ≡ Some x → In x (option_to_list o)
option_in None x e = cc
option_in (Some y) x e = let same : y ≡ x = cc in inl (sym same)

pub call_invoked : (ts : Types) (t : ℕ) (d : Do) → the_do ts t ≡ Some d → (p : PhaseHere) → In p (phases_in d.phase) → (label : Option Ident) (head : InvokeHead) (names : List Ident) (arguments : List ArgumentTree) (parts : List PartTree)
    → p.phase ≡ Invoke label head names arguments parts → (of : ℕ) → invoked ts d.holder head names ≡ Some of → In of (invocations ts t)
call_invoked ts t d is p i label head names arguments parts e of to =
    in_flat_map (λ (d : Do). flat_map (λ (p : PhaseHere). invoked_by ts d p.phase) (phases_in d.phase)) (option_to_list (the_do ts t)) d of (option_in (the_do ts t) d is)
    (in_flat_map (λ (p : PhaseHere). invoked_by ts d p.phase) (phases_in d.phase) p of i (subst (λ z. In of (invoked_by ts d z)) (sym e) (option_in (invoked ts d.holder head names) of to)))

-- ---- a program without faults

meant_below : (heads : List TypeHead) (q : QName) (t : ℕ) → meant heads q ≡ Some t → t < length heads
meant_below heads q t h = by q.second h
  where
    by : (o : Option Ident) → option_map_or (λ (second : Ident). named heads (Some q.first.text) second.text) o (named heads None q.first.text) ≡ Some t → t < length heads
    by None e = named_below heads None q.first.text t e
    by (Some second) e = named_below heads (Some q.first.text) second.text t e

length_heads : (names : List TypeHead) (all : List Placed) (t : ℕ) (ds : List Declared) → length (heads_from names all t ds) ≡ length ds
length_heads names all t [] = refl
length_heads names all t (d ∷ ds) = ap suc (length_heads names all (t + 1) ds)

length_map : {A B : Type 0} (f : A → B) (xs : List A) → length (map f xs) ≡ length xs
length_map f [] = refl
length_map f (x ∷ xs) = ap suc (length_map f xs)

base_at : (names : List TypeHead) (all : List Placed) (t : ℕ) (ds : List Declared) (k b : ℕ) → (slice_index_or (heads_from names all t ds) k int_head).base ≡ Some b → b < length names
base_at names all t [] k b h = cc
base_at names all t (d ∷ ds) zero b h = by d.body.heir h
  where
    by : (o : Option Heir) → option_and_then (λ (h : Heir). meant names h.base) o ≡ Some b → b < length names
    by None e = cc
    by (Some x) e = meant_below names x.base b e
base_at names all t (d ∷ ds) (suc k) b h = base_at names all (t + 1) ds k b h

pub program_based : (p : Program) → AreBased (types_of p).table.heads
unfolding types_of
program_based p t b h =
    let all = placed p in
    let names = declared_heads all in
    let same : length names ≡ length (heads_from names all 0 (all_declared all)) = length_map (λ (d : Declared). d.head) (all_declared all) ∙ sym (length_heads names all 0 (all_declared all)) in
    subst (λ n. b < n) same (base_at names all 0 (all_declared all) t b h)

at_number : {A B : Type 0} (f : ℕ → List B) (n : ℕ) (hs : List A) (k : ℕ) → k < length hs → slice_index_or (map f (numbers_from n hs)) k [] ≡ f (n + k)
at_number f n [] k h = absurd (none k h)
  where
    none : (k : ℕ) → k < 0 → ⊥
    none k h = absurd (omega (arith, h))
at_number f n (x ∷ xs) zero h = ap f (zero_after n)
  where
    zero_after : (n : ℕ) → n ≡ n + 0
    zero_after n = omega arith
at_number f n (x ∷ xs) (suc k) h = at_number f (n + 1) xs k (less k (length xs) h) ∙ ap f (moved n k)
  where
    less : (k m : ℕ) → suc k < suc m → k < m
    less k m h = omega (arith, h)

    moved : (n k : ℕ) → (n + 1) + k ≡ n + suc k
    moved n k = omega arith

pub program_members : (p : Program) → AreMembersOf (types_of p)
unfolding types_of
program_members p t h =
    let all = placed p in
    let names = declared_heads all in
    let heads = heads_from names all 0 (all_declared all) in
    let bodies = bodies_from names all 0 (all_declared all) in
    at_number (members_of heads bodies) 0 heads t h ∙ ap (members_of heads bodies) (zero_more t)
  where
    zero_more : (k : ℕ) → 0 + k ≡ k
    zero_more k = omega arith

-- an object's type doesn't hold itself, and a scenario doesn't invoke itself
pub held_acyclic : (p : Program) (ts : Types) → any_holds (heading_rows p ts) ≡ false → (t : ℕ) → t < length ts.table.heads → has_members (form ts.table.heads t) ≡ true → returns (length ts.table.heads) (held_types ts.table.heads ts.bodies) t ≡ false
held_acyclic p ts rows t below members =
    let heads = ts.table.heads in
    let all = placed p in
    let twice = twice_rows basic_names (filter_map (λ (d : Placed). name_declared d.declaration) all) in
    let used = flat_map (λ (d : Placed). declaration_rows heads d.declaration) all in
    let enums = enum_rows_from heads all 0 (all_declared all) in
    let cycles = map (cycle_row heads ts.bodies) (all_types heads) in
    let row = row_among (cycle_row heads ts.bodies) (all_types heads) (rows_right (twice ++ used ++ enums) cycles rows) t (number_in heads t below) in
    no_right (has t (bases heads t)) _ (given (has_members (form heads t)) (has t (bases heads t) || returns (length heads) (held_types heads ts.bodies) t) members row)
  where
    given : (a b : Bool) → a ≡ true → a && b ≡ false → b ≡ false
    given true b e f = f
    given false b e f = absurd (true≢false (sym e))

pub calls_acyclic : (ts : Types) → any_holds (use_rows ts) ≡ false → (t : ℕ) → t < length ts.table.heads → is_scenario (form ts.table.heads t) ≡ true → returns (length ts.table.heads) (invocations ts) t ≡ false
calls_acyclic ts rows t below scenario =
    let heads = ts.table.heads in
    let row = row_among (invocation_row ts) (all_types heads) (rows_right (flat_map (text_rows ts) (all_types heads)) (map (invocation_row ts) (all_types heads)) rows) t (number_in heads t below) in
    given (is_scenario (form heads t)) (returns (length heads) (invocations ts) t) scenario row
  where
    given : (a b : Bool) → a ≡ true → a && b ≡ false → b ≡ false
    given true b e f = f
    given false b e f = absurd (true≢false (sym e))
