-- What has an owner is an action or a scenario, and so is what is invoked. Only a scenario has a `do`.
use Rattle.std.proofs.Common.{◌≡◌, ℕ, zero, suc, ◌+◌, ◌<◌, ◌≤◌, refl, sym, ap, ◌∙◌, subst, inl, inr, List, [], ◌∷◌, ◌++◌, Bool, true, false, ◌&&◌, ◌||◌, not, cond, Option, Some, None, map, length, arith, true≢false}
use Rattle.std.specs.Prelude.{is_none, flat_map, filter_map, find, slice_index_or, bytes_eq, nat_lt, option_and_then}
use Rattle.expansion_laws.specs.dsl_tree.declared.parts.Ident.{Ident}
use Rattle.expansion_laws.specs.dsl_tree.declared.parts.QName.{QName}
use Rattle.expansion_laws.specs.dsl_tree.declared.compounds.CompoundKind.{CompoundKind}
use Rattle.expansion_laws.specs.dsl_tree.declared.enums.EnumItem.{EnumItem}
use Rattle.expansion_laws.specs.dsl_tree.FileTree.{DeclarationTree}
use Rattle.expansion_laws.specs.name_scope.Declaring.{DeclaredName, compound_name, behaviour_name, same_owner, first_place}
use Rattle.expansion_laws.specs.type_heads.Form.{Form}
use Rattle.std.specs.Option.{option_map_or}
use Rattle.expansion_laws.specs.type_heads.Table.{owner, is_actor, TypeHead, int_head, head, form, bases, named, is_behaviour, is_scenario, all_types}
use Rattle.expansion_laws.specs.type_heads.Types.{Program, Types, Do, Member}
use Rattle.expansion_laws.specs.type_heads.Members.{members, do_declared, dos, the_do}
use Rattle.expansion_laws.specs.type_heads.MemberFaults.{names_among, repeated_rows, names_given, do_rows, initial_rows, condition_rows, member_fault_rows}
use Rattle.expansion_laws.specs.type_heads.HeadingFaults.{owner_rows, heir_rows, member_rows, declaration_rows, heading_rows, twice_rows, basic_names, name_declared, enum_rows_from, cycle_row}
use Rattle.expansion_laws.specs.type_heads.DeclaredTypes.{Placed, placed, Declared, declared, compound, basic_types, type_declared, all_declared, items_with, form_with, heads_from, bodies_from, declared_heads, types_of}
use Rattle.expansion_laws.specs.expr_nodes.Parts.{any_holds}
use Rattle.expansion_laws.specs.expr_nodes.Typing.{typed}
use Rattle.expansion_laws.specs.composition.Calls.{Callee, actor_type, owned_behaviour, called, without_labels, invoked}
use Rattle.field_flatten.proofs.Tests.{left_of, two_ways, In, in_either, found_in}
use Rattle.scene_laws.proofs.FaultRows.{no_left, no_right, rows_left, rows_right, rows_among, holds_not}
use Rattle.scene_laws.proofs.Picked.{filter_map_in}
use Rattle.scene_laws.proofs.FieldNames.{AreCounted, type_no_fault, less, more}

-- a head with an owner is a behaviour's
abbrev IsOwned : TypeHead → Type 0
IsOwned h = (x : List ℕ) → h.owner ≡ Some x → is_behaviour h.form ≡ true

abbrev pub AreOwned : List TypeHead → Type 0
AreOwned heads = (t : ℕ) → IsOwned (head heads t)

declared_owned : (all : List Placed) (d : Declared) → In d (all_declared all) → IsOwned d.head
declared_owned all d i = elim (in_either d basic_types (filter_map (λ (d : Placed). type_declared d.file d.index d.declaration) all) i) as (λ _. IsOwned d.head) [
  | inl j ↦ basic j
  | inr j ↦ let g = filter_map_in (λ (d : Placed). type_declared d.file d.index d.declaration) all d j in by g.0.file g.0.index g.0.declaration g.2
]
  where
    none : {e : Declared} → d ≡ e → e.head.owner ≡ None → IsOwned d.head
    none same empty x h = let other : d.head.owner ≡ None = ap (λ (z : Declared). z.head.owner) same ∙ empty in cc

    basic : In d basic_types → IsOwned d.head
    basic (inl e) = none e refl
    basic (inr (inl e)) = none e refl
    basic (inr (inr (inl e))) = none e refl
    basic (inr (inr (inr (inl e)))) = none e refl
    basic (inr (inr (inr (inr (inl e))))) = none e refl
    basic (inr (inr (inr (inr (inr k))))) = absurd k

    some : {e : Declared} → Some e ≡ Some d → d ≡ e
    some is = cc

    kinds : (k : CompoundKind) (q : QName) (x : List ℕ) → (let name : DeclaredName = compound_name k q in name.owner) ≡ Some x → is_behaviour (Form.Compound k) ≡ true
    kinds CompoundKind.Struct q x h = cc
    kinds CompoundKind.Actor q x h = cc
    kinds CompoundKind.Action q x h = refl
    kinds CompoundKind.Scenario q x h = refl

    by : (file index : ℕ) (t : DeclarationTree) → type_declared file index t ≡ Some d → IsOwned d.head
    by file index (DeclarationTree.EnumDeclaration e) is x h = none (some is) refl x h
    by file index (DeclarationTree.TypeDeclaration e) is x h = none (some is) refl x h
    by file index (DeclarationTree.CompoundDeclaration e) is x h =
        let same = some is in
        subst (λ (z : Declared). is_behaviour z.head.form ≡ true) (sym same) (kinds e.kind e.name x (sym (ap (λ (z : Declared). z.head.owner) same) ∙ h))
    by file index (DeclarationTree.UnitDeclaration e) is x h = cc
    by file index (DeclarationTree.MemberExtension e) is x h = cc
    by file index (DeclarationTree.EnumExtension e) is x h = cc

kept_behaviour : (items : List EnumItem) (f : Form) → is_behaviour f ≡ true → is_behaviour (form_with items f) ≡ true
kept_behaviour items (Form.Compound k) h = h
kept_behaviour items (Form.Enum ms) h = refl_of h
  where
    refl_of : false ≡ true → false ≡ true
    refl_of e = e
kept_behaviour items Form.Int h = h
kept_behaviour items Form.Uint h = h
kept_behaviour items Form.Float h = h
kept_behaviour items Form.Truth h = h
kept_behaviour items Form.Chars h = h
kept_behaviour items (Form.Physical x) h = h

heads_owned : (names : List TypeHead) (all : List Placed) (t : ℕ) (ds : List Declared) → ((d : Declared) → In d ds → IsOwned d.head) → (k : ℕ) → IsOwned (slice_index_or (heads_from names all t ds) k int_head)
heads_owned names all t [] f k x h = cc
heads_owned names all t (d ∷ ds) f zero x h = kept_behaviour (items_with names all t d.items) d.head.form (f d (inl refl) x h)
heads_owned names all t (d ∷ ds) f (suc k) x h = heads_owned names all (t + 1) ds (λ e i. f e (inr i)) k x h

pub program_owned : (p : Program) → AreOwned (types_of p).table.heads
unfolding types_of
program_owned p t = let all = placed p in heads_owned (declared_heads all) all 0 (all_declared all) (declared_owned all) t

-- ---- what is invoked

-- a type of a name with an owner has that owner
named_owner : (owner : List ℕ) (name : List ℕ) (n : ℕ) (hs : List TypeHead) (t : ℕ) → first_place (λ h. same_owner h.owner (Some owner) && bytes_eq h.name name) n hs ≡ Some t
    → (k : ℕ) × (t ≡ n + k) × ((x : List ℕ) × ((slice_index_or hs k int_head).owner ≡ Some x))
named_owner owner name n [] t h = cc
named_owner owner name n (x ∷ xs) t h = by (same_owner x.owner (Some owner) && bytes_eq x.name name) refl h (named_owner owner name (n + 1) xs t)
  where
    some : (o : Option (List ℕ)) → same_owner o (Some owner) ≡ true → (y : List ℕ) × (o ≡ Some y)
    some None e = absurd (true≢false (sym e))
    some (Some y) e = (y, refl)

    by : (b : Bool) → (same_owner x.owner (Some owner) && bytes_eq x.name name) ≡ b → cond b (Some n) (first_place (λ h. same_owner h.owner (Some owner) && bytes_eq h.name name) (n + 1) xs) ≡ Some t
        → (first_place (λ h. same_owner h.owner (Some owner) && bytes_eq h.name name) (n + 1) xs ≡ Some t → (k : ℕ) × (t ≡ (n + 1) + k) × ((y : List ℕ) × ((slice_index_or xs k int_head).owner ≡ Some y)))
        → (k : ℕ) × (t ≡ n + k) × ((y : List ℕ) × ((slice_index_or (x ∷ xs) k int_head).owner ≡ Some y))
    by true e is rest = let same : n ≡ t = cc in (0, sym same ∙ (omega arith), some x.owner (left_of (same_owner x.owner (Some owner)) (bytes_eq x.name name) e))
    by false e is rest = let g = rest is in (suc g.0, g.1 ∙ (omega arith), g.2)

pub named_behaviour : (heads : List TypeHead) → AreOwned heads → (owner name : List ℕ) (t : ℕ) → named heads (Some owner) name ≡ Some t → is_behaviour (form heads t) ≡ true
named_behaviour heads owned owner name t h =
    let g = named_owner owner name 0 heads t h in
    let same : t ≡ g.0 = g.1 ∙ zero_more g.0 in
    subst (λ k. is_behaviour (form heads k) ≡ true) (sym same) (owned g.0 g.2.0 g.2.1)
  where
    zero_more : (k : ℕ) → 0 + k ≡ k
    zero_more k = omega arith

pub invoked_behaviour : (ts : Types) → AreOwned ts.table.heads → (t : ℕ) (c : Callee) (of : ℕ) → called ts t c ≡ Some of → is_behaviour (form ts.table.heads of) ≡ true
invoked_behaviour ts owned t (Callee.Alone name) of h = by (named ts.table.heads None name.text) h
  where
    test : (u : ℕ) (b : Bool) → is_behaviour (form ts.table.heads u) ≡ b → cond b (Some u) None ≡ Some of → is_behaviour (form ts.table.heads of) ≡ true
    test u true e is = let same : u ≡ of = cc in subst (λ k. is_behaviour (form ts.table.heads k) ≡ true) same e
    test u false e is = cc

    by : (o : Option ℕ) → option_and_then (λ u. cond (is_behaviour (form ts.table.heads u)) (Some u) None) o ≡ Some of → is_behaviour (form ts.table.heads of) ≡ true
    by None e = cc
    by (Some u) e = test u (is_behaviour (form ts.table.heads u)) refl e
invoked_behaviour ts owned t (Callee.Owned actor name) of h = by (actor_type ts.table.heads (typed ts.table (without_labels t) actor)) h
  where
    by : (o : Option ℕ) → option_and_then (owned_behaviour ts.table.heads name.text) o ≡ Some of → is_behaviour (form ts.table.heads of) ≡ true
    by None e = cc
    by (Some a) e =
        let found = found_in (λ b. true) (filter_map (λ o. named ts.table.heads (Some (head ts.table.heads o).name) name.text) (a ∷ bases ts.table.heads a)) of e in
        let g = filter_map_in (λ o. named ts.table.heads (Some (head ts.table.heads o).name) name.text) (a ∷ bases ts.table.heads a) of found.0 in
        named_behaviour ts.table.heads owned (head ts.table.heads g.0).name name.text of g.2
invoked_behaviour ts owned t (Callee.NoName place) of h = cc

-- ---- only a scenario has a `do`

module _ (ts : Types) (counted : AreCounted ts) (rows : any_holds (member_fault_rows ts) ≡ false) where
  pub do_scenario : (t : ℕ) (d : Do) → the_do ts t ≡ Some d → is_scenario (form ts.table.heads t) ≡ true
  do_scenario t d h = two_ways (nat_lt t (length ts.table.heads)) (λ e. inside (less t (length ts.table.heads) e)) (λ e. outside (more t (length ts.table.heads) e))
    where
      outside : length ts.table.heads ≤ t → is_scenario (form ts.table.heads t) ≡ true
      outside l = by (members ts t) (counted t l) h
        where
          by : (ms : List Member) → ms ≡ [] → find (λ (d : Do). true) (filter_map (λ (m : Member). do_declared m m.written.member) ms) ≡ Some d → is_scenario (form ts.table.heads t) ≡ true
          by [] e is = cc
          by (m ∷ ms) e is = cc

      row_of : (ds : List Do) (b : Bool) → any_holds (do_rows (form ts.table.heads t) b ds) ≡ false → find (λ (d : Do). true) ds ≡ Some d → is_scenario (form ts.table.heads t) ≡ true
      row_of [] b r is = cc
      row_of (x ∷ xs) b r is = holds_not (is_scenario (form ts.table.heads t)) (no_left (not (is_scenario (form ts.table.heads t))) _ (no_left (not (is_scenario (form ts.table.heads t)) || nat_lt 0 (length x.under)) _ r))

      inside : t < length ts.table.heads → is_scenario (form ts.table.heads t) ≡ true
      inside l =
          let f = form ts.table.heads t in
          let first = repeated_rows (names_given f) (names_among (members ts t)) in
          let second = do_rows f false (dos ts t) in
          let third = flat_map (λ (m : Member). initial_rows ts.table.heads m.written.member) (members ts t) in
          row_of (dos ts t) false (rows_right first second (rows_left (first ++ second) third (rows_left (first ++ second ++ third) (condition_rows ts t) (type_no_fault ts counted rows t l)))) h

-- ---- an owner is an actor

-- the owner of a head, if it is declared, is an actor
abbrev HasActor : List TypeHead → TypeHead → Type 0
HasActor heads h = (x : List ℕ) → h.owner ≡ Some x → (t : ℕ) → named heads None x ≡ Some t → is_actor (form heads t) ≡ true

actor_of : (heads : List TypeHead) (k : CompoundKind) (q : QName) → any_holds (option_map_or (λ name. owner_rows heads q.first) q.second []) ≡ false → (x : List ℕ) → (let name : DeclaredName = compound_name k q in name.owner) ≡ Some x
    → (t : ℕ) → named heads None x ≡ Some t → is_actor (form heads t) ≡ true
actor_of heads k q rows x h t is = by k q.second rows h
  where
    fits : any_holds (owner_rows heads q.first) ≡ false → q.first.text ≡ x → is_actor (form heads t) ≡ true
    fits r same =
        let found : named heads None q.first.text ≡ Some t = subst (λ z. named heads None z ≡ Some t) (sym same) is in
        let row = no_left (option_map_or (λ u. not (is_actor (form heads u))) (named heads None q.first.text) false) false (no_right (is_none (named heads None q.first.text)) _ r) in
        holds_not (is_actor (form heads t)) (sym (ap (λ o. option_map_or (λ u. not (is_actor (form heads u))) o false) found) ∙ row)

    behaves : (o : Option Ident) → any_holds (option_map_or (λ name. owner_rows heads q.first) o []) ≡ false → (let name : DeclaredName = behaviour_name q.first o in name.owner) ≡ Some x → is_actor (form heads t) ≡ true
    behaves None r e = cc
    behaves (Some i) r e = let same : q.first.text ≡ x = cc in fits r same

    by : (k : CompoundKind) (o : Option Ident) → any_holds (option_map_or (λ name. owner_rows heads q.first) o []) ≡ false
        → (let name : DeclaredName = compound_name k (record { first = q.first; second = o }) in name.owner) ≡ Some x → is_actor (form heads t) ≡ true
    by CompoundKind.Struct o r e = cc
    by CompoundKind.Actor o r e = cc
    by CompoundKind.Action o r e = behaves o r e
    by CompoundKind.Scenario o r e = behaves o r e

declared_actor : (heads : List TypeHead) (all : List Placed) → any_holds (flat_map (λ (d : Placed). declaration_rows heads d.declaration) all) ≡ false → (d : Declared) → In d (all_declared all) → HasActor heads d.head
declared_actor heads all rows d i = elim (in_either d basic_types (filter_map (λ (d : Placed). type_declared d.file d.index d.declaration) all) i) as (λ _. HasActor heads d.head) [
  | inl j ↦ basic j
  | inr j ↦
      let g = filter_map_in (λ (d : Placed). type_declared d.file d.index d.declaration) all d j in
      by g.0.file g.0.index g.0.declaration (rows_among (λ (d : Placed). declaration_rows heads d.declaration) all rows g.0 g.1) g.2
]
  where
    none : {e : Declared} → d ≡ e → e.head.owner ≡ None → HasActor heads d.head
    none same empty x h = let other : d.head.owner ≡ None = ap (λ (z : Declared). z.head.owner) same ∙ empty in cc

    basic : In d basic_types → HasActor heads d.head
    basic (inl e) = none e refl
    basic (inr (inl e)) = none e refl
    basic (inr (inr (inl e))) = none e refl
    basic (inr (inr (inr (inl e)))) = none e refl
    basic (inr (inr (inr (inr (inl e))))) = none e refl
    basic (inr (inr (inr (inr (inr k))))) = absurd k

    some : {e : Declared} → Some e ≡ Some d → d ≡ e
    some is = cc

    by : (file index : ℕ) (t : DeclarationTree) → any_holds (declaration_rows heads t) ≡ false → type_declared file index t ≡ Some d → HasActor heads d.head
    by file index (DeclarationTree.EnumDeclaration e) r is x h = none (some is) refl x h
    by file index (DeclarationTree.TypeDeclaration e) r is x h = none (some is) refl x h
    by file index (DeclarationTree.CompoundDeclaration e) r is x h =
        let same = some is in
        let first = option_map_or (λ name. owner_rows heads e.name.first) e.name.second [] in
        let second = option_map_or (heir_rows heads e) e.heir [] in
        actor_of heads e.kind e.name (rows_left first second (rows_left (first ++ second) (flat_map (member_rows heads) e.members) r)) x (sym (ap (λ (z : Declared). z.head.owner) same) ∙ h)
    by file index (DeclarationTree.UnitDeclaration e) r is x h = cc
    by file index (DeclarationTree.MemberExtension e) r is x h = cc
    by file index (DeclarationTree.EnumExtension e) r is x h = cc

heads_actor : (heads names : List TypeHead) (all : List Placed) (t : ℕ) (ds : List Declared) → ((d : Declared) → In d ds → HasActor heads d.head) → (k : ℕ) → HasActor heads (slice_index_or (heads_from names all t ds) k int_head)
heads_actor heads names all t [] f k x h = cc
heads_actor heads names all t (d ∷ ds) f zero x h = f d (inl refl) x h
heads_actor heads names all t (d ∷ ds) f (suc k) x h = heads_actor heads names all (t + 1) ds (λ e i. f e (inr i)) k x h

-- an owner is an actor
abbrev pub HaveActors : List TypeHead → Type 0
HaveActors heads = (t a : ℕ) → owner heads t ≡ Some a → is_actor (form heads a) ≡ true

owner_is : (heads : List TypeHead) → ((t : ℕ) → HasActor heads (head heads t)) → HaveActors heads
owner_is heads f t a h = by (head heads t).owner refl h
  where
    by : (o : Option (List ℕ)) → (head heads t).owner ≡ o → option_and_then (named heads None) o ≡ Some a → is_actor (form heads a) ≡ true
    by None e is = cc
    by (Some x) e is = f t x e a is

pub program_actors : (p : Program) → any_holds (heading_rows p (types_of p)) ≡ false → HaveActors (types_of p).table.heads
unfolding types_of
program_actors p rows =
    let all = placed p in
    let names = declared_heads all in
    let heads = heads_from names all 0 (all_declared all) in
    let bodies = bodies_from names all 0 (all_declared all) in
    let twice = twice_rows basic_names (filter_map (λ (d : Placed). name_declared d.declaration) all) in
    let used = flat_map (λ (d : Placed). declaration_rows heads d.declaration) all in
    let enums = enum_rows_from heads all 0 (all_declared all) in
    let cycles = map (cycle_row heads bodies) (all_types heads) in
    owner_is heads (λ t. heads_actor heads names all 0 (all_declared all) (declared_actor heads all (rows_right twice used (rows_left (twice ++ used) enums (rows_left (twice ++ used ++ enums) cycles rows)))) t)
