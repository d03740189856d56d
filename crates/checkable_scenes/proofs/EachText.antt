-- What holds of each constraint, modifier and binding that an expansion has, by the object in whose text it is written.
use Rattle.std.proofs.Common.{◌≡◌, ℕ, zero, suc, refl, sym, subst, inl, inr, List, [], ◌∷◌, ◌++◌, true, ◌&&◌, not, Option, Some, None, map, length}
use Rattle.std.specs.Prelude.{filter, flat_map, filter_map, option_to_list, codes}
use Rattle.osc_base.specs.declared.fault.Place.{Place}
use Rattle.osc_base.specs.declared.path.Path.{Path}
use Rattle.osc_base.specs.Paths.{root, then_name}
use Rattle.expr_eval.specs.dsl_tree.declared.parts.Ident.{Ident}
use Rattle.expr_eval.specs.dsl_tree.declared.phases.CompKind.{CompKind}
use Rattle.expr_eval.specs.dsl_tree.declared.phases.InvokeHead.{InvokeHead}
use Rattle.expr_eval.specs.dsl_tree.ExprTree.{ExprTree}
use Rattle.expr_eval.specs.dsl_tree.PhaseTree.{ArgumentTree, PartTree, PhaseTree, Comp, Invoke, Wait, PhaseRow}
use Rattle.expr_eval.specs.type_heads.Table.{form, owner, is_object}
use Rattle.expr_eval.specs.type_heads.Types.{Types, Field, Do}
use Rattle.expr_eval.specs.type_heads.Members.{fields, field_type, list_length, the_do}
use Rattle.expr_eval.specs.expr_nodes.Scope.{It}
use Rattle.run_values.specs.composition.declared.guard.Guard.{Guard}
use Rattle.run_values.specs.composition.declared.spot.ValueRange.{ValueRange}
use Rattle.run_values.specs.composition.Calls.{PhaseHere, phases_in, invoked}
use Rattle.run_values.specs.composition.Scenes.{Binding}
use Rattle.run_values.specs.composition.Ranges.{range_of}
use Rattle.run_values.specs.composition.Homes.{is_bound}
use Rattle.run_values.specs.composition.Givens.{Given, guards_under, own_givens}
use Rattle.run_values.specs.composition.Expansion.{GivenModifier, Expansion, Value, in_row, Maker, value_parts, field_parts, Calling, calling, here_in, argument_named, given_duration, given_argument, part_rule, part_modifier, of_arguments, invocation, phase_part, do_parts, expand_within, own_actor, expansion}
use Rattle.run_values.specs.composition.Expanded.{givens_of, givens_in, modifiers_of, modifiers_in, bindings_of, bindings_in}
use Rattle.run_values.proofs.of_field_flatten.Tests.{In, in_either, map_in, flat_map_in, in_filter}
use Rattle.scene_laws.proofs.Picked.{of_option}
use Rattle.scene_laws.proofs.EachSpot.{value_spots, call_bindings}

module _ (ts : Types) where
  givens_row : (parts : List Expansion) (g : Given) → In g (givens_in (in_row parts)) → (part : Expansion) × In part parts × In g (givens_of part)
  givens_row [] g i = absurd i
  givens_row (part ∷ others) g i = elim (in_either g (givens_of part) (givens_in (in_row others)) i) as (λ _. (p : Expansion) × In p (part ∷ others) × In g (givens_of p)) [
    | inl j ↦ (part, inl refl, j)
    | inr j ↦ let h = givens_row others g j in (h.0, inr h.1, h.2)
  ]

  modifiers_row : (parts : List Expansion) (m : GivenModifier) → In m (modifiers_in (in_row parts)) → (part : Expansion) × In part parts × In m (modifiers_of part)
  modifiers_row [] m i = absurd i
  modifiers_row (part ∷ others) m i = elim (in_either m (modifiers_of part) (modifiers_in (in_row others)) i) as (λ _. (p : Expansion) × In p (part ∷ others) × In m (modifiers_of p)) [
    | inl j ↦ (part, inl refl, j)
    | inr j ↦ let h = modifiers_row others m j in (h.0, inr h.1, h.2)
  ]

  bindings_row : (parts : List Expansion) (b : Binding) → In b (bindings_in (in_row parts)) → (part : Expansion) × In part parts × In b (bindings_of part)
  bindings_row [] b i = absurd i
  bindings_row (part ∷ others) b i = elim (in_either b (bindings_of part) (bindings_in (in_row others)) i) as (λ _. (p : Expansion) × In p (part ∷ others) × In b (bindings_of p)) [
    | inl j ↦ (part, inl refl, j)
    | inr j ↦ let h = bindings_row others b j in (h.0, inr h.1, h.2)
  ]

  -- the constraints of an invocation
  abbrev pub call_givens : Calling → ℕ → List ArgumentTree → List PartTree → List Given
  call_givens call of arguments parts = of_arguments ts of (given_argument ts call (here_in ts call (Some (It.Of of None)))) 0 arguments ++ flat_map (part_rule ts call (here_in ts call (Some (It.Of of None)))) parts

  -- the modifiers of an invocation
  abbrev pub call_modifiers : Calling → ℕ → List PartTree → List GivenModifier
  call_modifiers call of parts = flat_map (part_modifier ts call (here_in ts call (Some (It.Of of None)))) parts

  -- the constraint of the duration of a composition
  abbrev pub comp_givens : Calling → List ArgumentTree → List Given
  comp_givens call arguments = map (given_duration ts call) (option_to_list (argument_named (codes "duration") arguments))

  module _ (Inv : Path → ℕ → List Guard → List Binding → Type 0) (P : Given → Type 0) (M : GivenModifier → Type 0) (B : Binding → Type 0)
      (on_own : (path : Path) (t : ℕ) (guards : List Guard) (bindings : List Binding) → Inv path t guards bindings → (g : Given) → In g (own_givens ts path t) → P g)
      (on_comp : (path : Path) (t : ℕ) (guards : List Guard) (bindings : List Binding) → Inv path t guards bindings → (d : Do) → the_do ts t ≡ Some d → (p : PhaseHere) → In p (phases_in d.phase)
      → (label : Option Ident) (place : Place) (kind : CompKind) (arguments : List ArgumentTree) (members : PhaseRow) → p.phase ≡ Comp label place kind arguments members
      → (g : Given) → In g (comp_givens (calling bindings path guards d p) arguments) → P g)
      (on_wait : (path : Path) (t : ℕ) (guards : List Guard) (bindings : List Binding) → Inv path t guards bindings → (d : Do) → the_do ts t ≡ Some d → (p : PhaseHere) → In p (phases_in d.phase)
      → (label : Option Ident) (place : Place) (elapsed : ExprTree) → p.phase ≡ Wait label place elapsed → P (given_duration ts (calling bindings path guards d p) elapsed))
      (on_call : (path : Path) (t : ℕ) (guards : List Guard) (bindings : List Binding) → Inv path t guards bindings → (d : Do) → the_do ts t ≡ Some d → (p : PhaseHere) → In p (phases_in d.phase)
      → (label : Option Ident) (head : InvokeHead) (names : List Ident) (arguments : List ArgumentTree) (parts : List PartTree) → p.phase ≡ Invoke label head names arguments parts
      → (of : ℕ) → invoked ts d.holder head names ≡ Some of → (g : Given) → In g (call_givens (calling bindings path guards d p) of arguments parts) → P g)
      (on_modifier : (path : Path) (t : ℕ) (guards : List Guard) (bindings : List Binding) → Inv path t guards bindings → (d : Do) → the_do ts t ≡ Some d → (p : PhaseHere) → In p (phases_in d.phase)
      → (label : Option Ident) (head : InvokeHead) (names : List Ident) (arguments : List ArgumentTree) (parts : List PartTree) → p.phase ≡ Invoke label head names arguments parts
      → (of : ℕ) → invoked ts d.holder head names ≡ Some of → (m : GivenModifier) → In m (call_modifiers (calling bindings path guards d p) of parts) → M m)
      (on_binding : (path : Path) (t : ℕ) (guards : List Guard) (bindings : List Binding) → Inv path t guards bindings → (d : Do) → the_do ts t ≡ Some d → (p : PhaseHere) → In p (phases_in d.phase)
      → (label : Option Ident) (head : InvokeHead) (names : List Ident) (arguments : List ArgumentTree) (parts : List PartTree) → p.phase ≡ Invoke label head names arguments parts
      → (of : ℕ) → invoked ts d.holder head names ≡ Some of → (b : Binding) → In b (call_bindings ts (calling bindings path guards d p) head names arguments of) → B b)
      (to_field : (path : Path) (t : ℕ) (guards : List Guard) (bindings : List Binding) → Inv path t guards bindings → (f : Field) → In f (fields ts t) → (of : ℕ) → field_type ts f ≡ Some of
      → is_object (form ts.table.heads of) && not (is_bound bindings (then_name path f.name.text)) ≡ true → Inv (then_name path f.name.text) of (guards ++ guards_under ts path t f.under) [])
      (to_call : (path : Path) (t : ℕ) (guards : List Guard) (bindings : List Binding) → Inv path t guards bindings → (d : Do) → the_do ts t ≡ Some d → (p : PhaseHere) → In p (phases_in d.phase)
      → (label : Option Ident) (head : InvokeHead) (names : List Ident) (arguments : List ArgumentTree) (parts : List PartTree) → p.phase ≡ Invoke label head names arguments parts
      → (of : ℕ) → invoked ts d.holder head names ≡ Some of
      → Inv (calling bindings path guards d p).path of (calling bindings path guards d p).guards (call_bindings ts (calling bindings path guards d p) head names arguments of)) where
    -- all constraints, modifiers and bindings of an expansion
    pub record Every (e : Expansion) : Type 0 where
      pub givens : (g : Given) → In g (givens_of e) → P g
      pub modifiers : (m : GivenModifier) → In m (modifiers_of e) → M m
      pub bindings : (b : Binding) → In b (bindings_of e) → B b

    abbrev Makes : Maker → Type 0
    Makes make = (q : Path) (of : ℕ) (conditions : List Guard) (bound : List Binding) → Inv q of conditions bound → Every (make q of conditions bound)

    no_texts : (q : Path) (conditions : List Guard) (range : ValueRange) → Every (Value q conditions range)
    no_texts q conditions range = record { givens = λ g i. absurd i; modifiers = λ m i. absurd i; bindings = λ b i. absurd i }

    module _ (make : Maker) (makes : Makes make) (path : Path) (t : ℕ) (guards : List Guard) (bindings : List Binding) (inv : Inv path t guards bindings) where
      field_every : (f : Field) → In f (fields ts t) → (part : Expansion) → In part (field_parts make ts bindings path t guards f) → Every part
      field_every f i part j =
          let q = then_name path f.name.text in
          let conditions = guards ++ guards_under ts path t f.under in
          let types = option_to_list (field_type ts f) in
          elim (in_either part (map (λ of. make q of conditions []) (filter (λ of. is_object (form ts.table.heads of) && not (is_bound bindings q)) types))
          (flat_map (value_parts q conditions (list_length f.tree)) (filter_map (λ of. range_of (form ts.table.heads of)) types)) j) as (λ _. Every part) [
            | inl l ↦
                let m = map_in (λ of. make q of conditions []) (filter (λ of. is_object (form ts.table.heads of) && not (is_bound bindings q)) types) part l in
                let n = in_filter (λ of. is_object (form ts.table.heads of) && not (is_bound bindings q)) types m.0 m.1 in
                subst Every (sym m.2) (makes q m.0 conditions [] (to_field path t guards bindings inv f i m.0 (of_option (field_type ts f) m.0 n.0) n.1))
            | inr l ↦
                let m = flat_map_in (value_parts q conditions (list_length f.tree)) (filter_map (λ of. range_of (form ts.table.heads of)) types) part l in
                let v = value_spots ts q conditions (list_length f.tree) m.0 part m.2 in
                subst Every (sym v.2) (no_texts v.0 conditions m.0)
          ]

      module _ (d : Do) (is : the_do ts t ≡ Some d) (p : PhaseHere) (at : In p (phases_in d.phase)) where
        abbrev call : Calling
        call = calling bindings path guards d p

        phase_every : (phase : PhaseTree) → p.phase ≡ phase → (part : Expansion) → In part (phase_part make ts call phase) → Every part
        phase_every (Comp label place kind arguments members) e part (inl same) = subst Every (sym same) (record {
          givens = λ g i. on_comp path t guards bindings inv d is p at label place kind arguments members e g i;
          modifiers = λ m i. absurd i;
          bindings = λ b i. absurd i;
        })
        phase_every (Comp label place kind arguments members) e part (inr i) = absurd i
        phase_every (Wait label place elapsed) e part (inl same) = subst Every (sym same) (record { givens = λ g i. one g i; modifiers = λ m i. absurd i; bindings = λ b i. absurd i })
          where
            one : (g : Given) → In g (given_duration ts call elapsed ∷ []) → P g
            one g (inl f) = subst P (sym f) (on_wait path t guards bindings inv d is p at label place elapsed e)
            one g (inr i) = absurd i
        phase_every (Wait label place elapsed) e part (inr i) = absurd i
        phase_every (Invoke label head names arguments parts) e part i =
            let m = map_in (invocation make ts call head names arguments parts) (option_to_list (invoked ts call.holder head names)) part i in
            let to = of_option (invoked ts call.holder head names) m.0 m.1 in
            subst Every (sym m.2) (by m.0 to (makes call.path m.0 call.guards (call_bindings ts call head names arguments m.0) (to_call path t guards bindings inv d is p at label head names arguments parts e m.0 to)))
          where
            by : (of : ℕ) → invoked ts d.holder head names ≡ Some of → Every (make call.path of call.guards (call_bindings ts call head names arguments of)) → Every (invocation make ts call head names arguments parts of)
            by of to inner = record { givens = λ g j. givens g j; modifiers = λ m j. modifiers m j; bindings = λ b j. bound b j }
              where
                object : Expansion
                object = make call.path of call.guards (call_bindings ts call head names arguments of)

                givens : (g : Given) → In g (givens_in (in_row (make call.path of call.guards (call_bindings ts call head names arguments of) ∷ [])) ++ call_givens call of arguments parts) → P g
                givens g j = elim (in_either g (givens_in (in_row (make call.path of call.guards (call_bindings ts call head names arguments of) ∷ []))) (call_givens call of arguments parts) j) as (λ _. P g) [
                  | inl l ↦ elim (in_either g (givens_of (make call.path of call.guards (call_bindings ts call head names arguments of))) [] l) as (λ _. P g) [ inl n ↦ inner.givens g n | inr n ↦ absurd n ]
                  | inr l ↦ on_call path t guards bindings inv d is p at label head names arguments parts e of to g l
                ]

                modifiers : (m : GivenModifier) → In m (call_modifiers call of parts ++ modifiers_in (in_row (make call.path of call.guards (call_bindings ts call head names arguments of) ∷ []))) → M m
                modifiers m j = elim (in_either m (call_modifiers call of parts) (modifiers_in (in_row (make call.path of call.guards (call_bindings ts call head names arguments of) ∷ []))) j) as (λ _. M m) [
                  | inl l ↦ on_modifier path t guards bindings inv d is p at label head names arguments parts e of to m l
                  | inr l ↦ elim (in_either m (modifiers_of (make call.path of call.guards (call_bindings ts call head names arguments of))) [] l) as (λ _. M m) [ inl n ↦ inner.modifiers m n | inr n ↦ absurd n ]
                ]

                bound : (b : Binding) → In b (call_bindings ts call head names arguments of ++ bindings_in (in_row (make call.path of call.guards (call_bindings ts call head names arguments of) ∷ []))) → B b
                bound b j = elim (in_either b (call_bindings ts call head names arguments of) (bindings_in (in_row (make call.path of call.guards (call_bindings ts call head names arguments of) ∷ []))) j) as (λ _. B b) [
                  | inl l ↦ on_binding path t guards bindings inv d is p at label head names arguments parts e of to b l
                  | inr l ↦ elim (in_either b (bindings_of (make call.path of call.guards (call_bindings ts call head names arguments of))) [] l) as (λ _. B b) [ inl n ↦ inner.bindings b n | inr n ↦ absurd n ]
                ]

    parts_every : (path : Path) (t : ℕ) (guards : List Guard) (parts : List Expansion) (own : List Given) → ((part : Expansion) → In part parts → Every part) → ((g : Given) → In g own → P g) → Every (Expansion.Object path t guards (in_row parts) own)
    parts_every path t guards parts own f h = record {
      givens = λ g i. elim (in_either g (givens_in (in_row parts)) own i) as (λ _. P g) [
        | inl j ↦ let r = givens_row parts g j in (f r.0 r.1).givens g r.2
        | inr j ↦ h g j
      ];
      modifiers = λ m i. let r = modifiers_row parts m i in (f r.0 r.1).modifiers m r.2;
      bindings = λ b i. let r = bindings_row parts b i in (f r.0 r.1).bindings b r.2;
    }

    every_within : (n : ℕ) (path : Path) (t : ℕ) (guards : List Guard) (bindings : List Binding) (actor : List Expansion) → Inv path t guards bindings
        → ((part : Expansion) → In part actor → Every part) → Every (expand_within n ts path t guards bindings actor)
    every_within zero path t guards bindings actor inv f = record { givens = λ g i. absurd i; modifiers = λ m i. absurd i; bindings = λ b i. absurd i }
    every_within (suc n) path t guards bindings actor inv f =
        by (λ q of conditions bound. expand_within n ts q of conditions bound []) (λ q of conditions bound j. every_within n q of conditions bound [] j (λ part l. absurd l))
      where
        by : (make : Maker) → Makes make
            → Every (Expansion.Object path t guards (in_row (actor ++ flat_map (field_parts make ts bindings path t guards) (fields ts t) ++ flat_map (do_parts make ts bindings path guards) (option_to_list (the_do ts t)))) (own_givens ts path t))
        by make makes =
            parts_every path t guards (actor ++ flat_map (field_parts make ts bindings path t guards) (fields ts t) ++ flat_map (do_parts make ts bindings path guards) (option_to_list (the_do ts t))) (own_givens ts path t)
            (λ part i. elim (in_either part (actor ++ flat_map (field_parts make ts bindings path t guards) (fields ts t)) (flat_map (do_parts make ts bindings path guards) (option_to_list (the_do ts t))) i) as (λ _. Every part) [
              | inl j ↦ elim (in_either part actor (flat_map (field_parts make ts bindings path t guards) (fields ts t)) j) as (λ _. Every part) [
                | inl l ↦ f part l
                | inr l ↦ let m = flat_map_in (field_parts make ts bindings path t guards) (fields ts t) part l in field_every make makes path t guards bindings inv m.0 m.1 part m.2
              ]
              | inr j ↦
                  let m = flat_map_in (do_parts make ts bindings path guards) (option_to_list (the_do ts t)) part j in
                  let n = flat_map_in (λ (p : PhaseHere). phase_part make ts (calling bindings path guards m.0 p) p.phase) (phases_in m.0.phase) part m.2 in
                  phase_every make makes path t guards bindings inv m.0 (of_option (the_do ts t) m.0 m.1) n.0 n.1 n.0.phase refl part n.2
            ])
            (λ g i. on_own path t guards bindings inv g i)

    -- of the expansion of a scenario
    pub each_text : (t : ℕ) → Inv root t [] [] → ((a : ℕ) → owner ts.table.heads t ≡ Some a → Inv (then_name root (codes "actor")) a [] []) → Every (expansion ts t)
    each_text t inv actor = every_within (length ts.table.heads) root t [] [] (own_actor ts t) inv
        (λ part j. let m = map_in (λ a. expand_within (length ts.table.heads) ts (then_name root (codes "actor")) a [] [] []) (option_to_list (owner ts.table.heads t)) part j in
        subst Every (sym m.2) (every_within (length ts.table.heads) (then_name root (codes "actor")) m.0 [] [] [] (actor m.0 (of_option (owner ts.table.heads t) m.0 m.1)) (λ p l. absurd l)))
