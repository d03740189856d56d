-- What holds of each spot that an expansion has. An object, the values of its fields, its phases and what they invoke are one case each.
use Rattle.std.proofs.Common.{◌≡◌, ℕ, zero, suc, refl, sym, subst, inl, inr, List, [], ◌∷◌, ◌++◌, Bool, true, ◌&&◌, not, cond, Option, Some, None, map, length}
use Rattle.std.specs.Prelude.{filter, flat_map, filter_map, option_to_list, is_some, codes}
use Rattle.std.specs.List.{range_with_len}
use Rattle.field_flatten.specs.osc_base.declared.fault.Place.{Place}
use Rattle.field_flatten.specs.osc_base.declared.path.Path.{Path}
use Rattle.field_flatten.specs.osc_base.Paths.{root, then_name, then_index, then_member, then_do}
use Rattle.expansion_laws.specs.dsl_tree.declared.parts.Ident.{Ident}
use Rattle.expansion_laws.specs.dsl_tree.declared.phases.CompKind.{CompKind}
use Rattle.expansion_laws.specs.dsl_tree.declared.phases.InvokeHead.{InvokeHead}
use Rattle.expansion_laws.specs.dsl_tree.PhaseTree.{ArgumentTree, PartTree, PhaseTree, Comp, Invoke, Wait, PhaseRow, phases_of}
use Rattle.expansion_laws.specs.type_heads.Table.{form, owner, is_object}
use Rattle.expansion_laws.specs.type_heads.Types.{Types, Field, Do}
use Rattle.expansion_laws.specs.type_heads.Members.{fields, field_type, list_length, the_do}
use Rattle.expansion_laws.specs.composition.declared.guard.Guard.{Guard}
use Rattle.expansion_laws.specs.composition.declared.spot.ValueRange.{ValueRange}
use Rattle.expansion_laws.specs.composition.declared.spot.PhaseKind.{PhaseKind}
use Rattle.expansion_laws.specs.expr_nodes.Scope.{It}
use Rattle.expansion_laws.specs.composition.Calls.{PhaseHere, phases_in, callee, invoked}
use Rattle.expansion_laws.specs.composition.Scenes.{Content, Spot, Binding}
use Rattle.expansion_laws.specs.composition.Ranges.{range_of}
use Rattle.expansion_laws.specs.composition.Homes.{is_bound}
use Rattle.expansion_laws.specs.composition.Givens.{guards_under}
use Rattle.expansion_laws.specs.composition.Expansion.{Expansion, Value, in_row, Maker, value_parts, field_parts, Calling, calling, here_in, composition_kind, argument_binding, actor_binding, of_arguments, invocation, phase_part, do_parts, expand_within, own_actor, expansion}
use Rattle.expansion_laws.specs.composition.Expanded.{is_vehicle, spot, spots_of, spots_in}
use Rattle.scene_laws.proofs.Picked.{of_option, filter_map_in}
use Rattle.field_flatten.proofs.Tests.{In, in_either, in_map, map_in, flat_map_in, in_filter}

module _ (ts : Types) where
  -- the spots of parts in a row
  pub spots_in_row : (parts : List Expansion) (s : Spot) → In s (spots_in ts (in_row parts)) → (part : Expansion) × In part parts × In s (spots_of ts part)
  spots_in_row [] s i = absurd i
  spots_in_row (part ∷ others) s i = elim (in_either s (spots_of ts part) (spots_in ts (in_row others)) i) as (λ _. (p : Expansion) × In p (part ∷ others) × In s (spots_of ts p)) [
    | inl j ↦ (part, inl refl, j)
    | inr j ↦ let g = spots_in_row others s j in (g.0, inr g.1, g.2)
  ]

  -- the paths of the values that a field holds
  abbrev pub value_paths : Path → Option ℕ → List Path
  value_paths path None = path ∷ []
  value_paths path (Some length) = map (then_index path) (range_with_len 0 length)

  pub value_spots : (path : Path) (guards : List Guard) (count : Option ℕ) (range : ValueRange) (part : Expansion) → In part (value_parts path guards count range)
      → (q : Path) × In q (value_paths path count) × (part ≡ Value q guards range)
  value_spots path guards None range part (inl e) = (path, inl refl, e)
  value_spots path guards None range part (inr i) = absurd i
  value_spots path guards (Some count) range part i =
      let g = map_in (λ n. Value (then_index path n) guards range) (range_with_len 0 count) part i in (then_index path g.0, in_map (then_index path) (range_with_len 0 count) g.0 g.1, g.2)

  -- what the phase of an invocation is, and its members
  abbrev pub invoked_kind : Bool → PhaseKind
  invoked_kind has_do = cond has_do PhaseKind.Scenario PhaseKind.Action

  abbrev pub invoked_members : Path → Bool → List Path
  invoked_members path has_do = cond has_do (then_do path ∷ []) []

  -- the bindings that a call makes
  abbrev pub call_bindings : Calling → InvokeHead → List Ident → List ArgumentTree → ℕ → List Binding
  call_bindings call head names arguments of = actor_binding ts call (callee head names) ++ of_arguments ts of (argument_binding ts call (here_in ts call (Some (It.Of of None)))) 0 arguments

  module _ (Inv : Path → ℕ → List Guard → List Binding → Type 0) (P : Spot → Type 0)
      (on_object : (path : Path) (t : ℕ) (guards : List Guard) (bindings : List Binding) → Inv path t guards bindings → P (spot path guards (Content.Object (is_vehicle ts t))))
      (on_value : (path : Path) (t : ℕ) (guards : List Guard) (bindings : List Binding) → Inv path t guards bindings → (f : Field) → In f (fields ts t)
      → (of : ℕ) → field_type ts f ≡ Some of → (range : ValueRange) → range_of (form ts.table.heads of) ≡ Some range
      → (q : Path) → In q (value_paths (then_name path f.name.text) (list_length f.tree)) → P (spot q (guards ++ guards_under ts path t f.under) (Content.Value range)))
      (on_composition : (path : Path) (t : ℕ) (guards : List Guard) (bindings : List Binding) → Inv path t guards bindings → (d : Do) → the_do ts t ≡ Some d → (p : PhaseHere) → In p (phases_in d.phase)
      → (label : Option Ident) (place : Place) (kind : CompKind) (arguments : List ArgumentTree) (members : PhaseRow) → p.phase ≡ Comp label place kind arguments members
      → P (spot (calling bindings path guards d p).path (calling bindings path guards d p).guards (Content.Phase (composition_kind kind arguments) (map (then_member (calling bindings path guards d p).path) (range_with_len 0 (length (phases_of members)))))))
      (on_invocation : (path : Path) (t : ℕ) (guards : List Guard) (bindings : List Binding) → Inv path t guards bindings → (d : Do) → the_do ts t ≡ Some d → (p : PhaseHere) → In p (phases_in d.phase)
      → (label : Option Ident) (head : InvokeHead) (names : List Ident) (arguments : List ArgumentTree) (parts : List PartTree) → p.phase ≡ Invoke label head names arguments parts
      → (of : ℕ) → invoked ts d.holder head names ≡ Some of
      → P (spot (calling bindings path guards d p).path (calling bindings path guards d p).guards (Content.Phase (invoked_kind (is_some (the_do ts of))) (invoked_members (calling bindings path guards d p).path (is_some (the_do ts of))))))
      (on_wait : (path : Path) (t : ℕ) (guards : List Guard) (bindings : List Binding) → Inv path t guards bindings → (d : Do) → the_do ts t ≡ Some d → (p : PhaseHere) → In p (phases_in d.phase)
      → P (spot (calling bindings path guards d p).path (calling bindings path guards d p).guards (Content.Phase PhaseKind.Wait [])))
      (to_field : (path : Path) (t : ℕ) (guards : List Guard) (bindings : List Binding) → Inv path t guards bindings → (f : Field) → In f (fields ts t) → (of : ℕ) → field_type ts f ≡ Some of
      → is_object (form ts.table.heads of) && not (is_bound bindings (then_name path f.name.text)) ≡ true → Inv (then_name path f.name.text) of (guards ++ guards_under ts path t f.under) [])
      (to_call : (path : Path) (t : ℕ) (guards : List Guard) (bindings : List Binding) → Inv path t guards bindings → (d : Do) → the_do ts t ≡ Some d → (p : PhaseHere) → In p (phases_in d.phase)
      → (label : Option Ident) (head : InvokeHead) (names : List Ident) (arguments : List ArgumentTree) (parts : List PartTree) → p.phase ≡ Invoke label head names arguments parts
      → (of : ℕ) → invoked ts d.holder head names ≡ Some of
      → Inv (calling bindings path guards d p).path of (calling bindings path guards d p).guards (call_bindings (calling bindings path guards d p) head names arguments of)) where
    abbrev Makes : Maker → Type 0
    Makes make = (q : Path) (of : ℕ) (conditions : List Guard) (bound : List Binding) → Inv q of conditions bound → (s : Spot) → In s (spots_of ts (make q of conditions bound)) → P s

    module _ (make : Maker) (makes : Makes make) (path : Path) (t : ℕ) (guards : List Guard) (bindings : List Binding) (inv : Inv path t guards bindings) where
      field_spots : (f : Field) → In f (fields ts t) → (part : Expansion) → In part (field_parts make ts bindings path t guards f) → (s : Spot) → In s (spots_of ts part) → P s
      field_spots f i part j s k =
          let q = then_name path f.name.text in
          let conditions = guards ++ guards_under ts path t f.under in
          let types = option_to_list (field_type ts f) in
          elim (in_either part (map (λ of. make q of conditions []) (filter (λ of. is_object (form ts.table.heads of) && not (is_bound bindings q)) types))
          (flat_map (value_parts q conditions (list_length f.tree)) (filter_map (λ of. range_of (form ts.table.heads of)) types)) j) as (λ _. P s) [
            | inl l ↦
                let m = map_in (λ of. make q of conditions []) (filter (λ of. is_object (form ts.table.heads of) && not (is_bound bindings q)) types) part l in
                let n = in_filter (λ of. is_object (form ts.table.heads of) && not (is_bound bindings q)) types m.0 m.1 in
                makes q m.0 conditions [] (to_field path t guards bindings inv f i m.0 (of_option (field_type ts f) m.0 n.0) n.1) s (subst (λ z. In s (spots_of ts z)) m.2 k)
            | inr l ↦
                let m = flat_map_in (value_parts q conditions (list_length f.tree)) (filter_map (λ of. range_of (form ts.table.heads of)) types) part l in
                let n = filter_map_in (λ of. range_of (form ts.table.heads of)) types m.0 m.1 in
                let v = value_spots q conditions (list_length f.tree) m.0 part m.2 in
                value_is v.0 conditions m.0 s (subst (λ z. In s (spots_of ts z)) v.2 k) (on_value path t guards bindings inv f i n.0 (of_option (field_type ts f) n.0 n.1) m.0 n.2 v.0 v.1)
          ]
        where
          value_is : (v : Path) (conditions : List Guard) (range : ValueRange) (s : Spot) → In s (spots_of ts (Value v conditions range)) → P (spot v conditions (Content.Value range)) → P s
          value_is v conditions range s (inl e) p = subst P (sym e) p
          value_is v conditions range s (inr i) p = absurd i

      module _ (d : Do) (is : the_do ts t ≡ Some d) (p : PhaseHere) (at : In p (phases_in d.phase)) where
        abbrev call : Calling
        call = calling bindings path guards d p

        phase_spots : (phase : PhaseTree) → p.phase ≡ phase → (part : Expansion) → In part (phase_part make ts call phase) → (s : Spot) → In s (spots_of ts part) → P s
        phase_spots (Comp label place kind arguments members) e part (inl same) s k = by (subst (λ z. In s (spots_of ts z)) same k)
          where
            by : In s (spot call.path call.guards (Content.Phase (composition_kind kind arguments) (map (then_member call.path) (range_with_len 0 (length (phases_of members))))) ∷ []) → P s
            by (inl is_spot) = subst P (sym is_spot) (on_composition path t guards bindings inv d is p at label place kind arguments members e)
            by (inr i) = absurd i
        phase_spots (Comp label place kind arguments members) e part (inr i) s k = absurd i
        phase_spots (Wait label place elapsed) e part (inl same) s k = by (subst (λ z. In s (spots_of ts z)) same k)
          where
            by : In s (spot call.path call.guards (Content.Phase PhaseKind.Wait []) ∷ []) → P s
            by (inl is_spot) = subst P (sym is_spot) (on_wait path t guards bindings inv d is p at)
            by (inr i) = absurd i
        phase_spots (Wait label place elapsed) e part (inr i) s k = absurd i
        phase_spots (Invoke label head names arguments parts) e part i s k =
            let m = map_in (invocation make ts call head names arguments parts) (option_to_list (invoked ts call.holder head names)) part i in
            let to = of_option (invoked ts call.holder head names) m.0 m.1 in
            by m.0 to (subst (λ z. In s (spots_of ts z)) m.2 k)
          where
            by : (of : ℕ) → invoked ts d.holder head names ≡ Some of → In s (spots_of ts (invocation make ts call head names arguments parts of)) → P s
            by of to (inl is_spot) = subst P (sym is_spot) (on_invocation path t guards bindings inv d is p at label head names arguments parts e of to)
            by of to (inr j) = elim (in_either s (spots_of ts (make call.path of call.guards (call_bindings call head names arguments of))) [] j) as (λ _. P s) [
              | inl l ↦ makes call.path of call.guards (call_bindings call head names arguments of) (to_call path t guards bindings inv d is p at label head names arguments parts e of to) s l
              | inr l ↦ absurd l
            ]

    pub each_within : (n : ℕ) (path : Path) (t : ℕ) (guards : List Guard) (bindings : List Binding) (actor : List Expansion) → Inv path t guards bindings
        → ((part : Expansion) → In part actor → (s : Spot) → In s (spots_of ts part) → P s) → (s : Spot) → In s (spots_of ts (expand_within n ts path t guards bindings actor)) → P s
    each_within zero path t guards bindings actor inv f s (inl e) = subst P (sym e) (on_object path t guards bindings inv)
    each_within zero path t guards bindings actor inv f s (inr i) = absurd i
    each_within (suc n) path t guards bindings actor inv f s (inl e) = subst P (sym e) (on_object path t guards bindings inv)
    each_within (suc n) path t guards bindings actor inv f s (inr i) =
        by (λ q of conditions bound. expand_within n ts q of conditions bound []) (λ q of conditions bound j. each_within n q of conditions bound [] j (λ part k. absurd k)) i
      where
        by : (make : Maker) → Makes make
            → In s (spots_in ts (in_row (actor ++ flat_map (field_parts make ts bindings path t guards) (fields ts t) ++ flat_map (do_parts make ts bindings path guards) (option_to_list (the_do ts t))))) → P s
        by make makes j =
            let g = spots_in_row (actor ++ flat_map (field_parts make ts bindings path t guards) (fields ts t) ++ flat_map (do_parts make ts bindings path guards) (option_to_list (the_do ts t))) s j in
            elim (in_either g.0 (actor ++ flat_map (field_parts make ts bindings path t guards) (fields ts t)) (flat_map (do_parts make ts bindings path guards) (option_to_list (the_do ts t))) g.1) as (λ _. P s) [
              | inl k ↦ elim (in_either g.0 actor (flat_map (field_parts make ts bindings path t guards) (fields ts t)) k) as (λ _. P s) [
                | inl l ↦ f g.0 l s g.2
                | inr l ↦
                    let m = flat_map_in (field_parts make ts bindings path t guards) (fields ts t) g.0 l in
                    field_spots make makes path t guards bindings inv m.0 m.1 g.0 m.2 s g.2
              ]
              | inr k ↦
                  let m = flat_map_in (do_parts make ts bindings path guards) (option_to_list (the_do ts t)) g.0 k in
                  let n = flat_map_in (λ (p : PhaseHere). phase_part make ts (calling bindings path guards m.0 p) p.phase) (phases_in m.0.phase) g.0 m.2 in
                  phase_spots make makes path t guards bindings inv m.0 (of_option (the_do ts t) m.0 m.1) n.0 n.1 n.0.phase refl g.0 n.2 s g.2
            ]

    -- of the expansion of a scenario
    pub each_spot : (t : ℕ) → Inv root t [] [] → ((a : ℕ) → owner ts.table.heads t ≡ Some a → Inv (then_name root (codes "actor")) a [] []) → (s : Spot) → In s (spots_of ts (expansion ts t)) → P s
    each_spot t inv actor s i = each_within (length ts.table.heads) root t [] [] (own_actor ts t) inv
        (λ part j u k. let m = map_in (λ a. expand_within (length ts.table.heads) ts (then_name root (codes "actor")) a [] [] []) (option_to_list (owner ts.table.heads t)) part j in
        each_within (length ts.table.heads) (then_name root (codes "actor")) m.0 [] [] [] (actor m.0 (of_option (owner ts.table.heads t) m.0 m.1)) (λ p l. absurd l) u (subst (λ z. In u (spots_of ts z)) m.2 k)) s i
