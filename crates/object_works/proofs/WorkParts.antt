-- The works of phases and fields, one by one.
use Rattle.std.proofs.Common.{◌≡◌, ◌∙◌, refl, sym, ap, ap₂, ℕ, zero, suc, ◌+◌, ◌-◌, ◌<◌, ◌&&◌, Bool, true, false, cond, not, List, [], ◌∷◌, ◌++◌, Option, Some, None, length, map, filter, filter_map, flat_map, option_to_list, arith, append-nil, append_assoc, Result, Ok, Err, drop, get_or}
use Rattle.std.specs.List.{cons_option}
use Rattle.std.proofs.lemmas.List.{drop_more}
use Rattle.std.specs.Result.{OnOk}
use Rattle.osc_base.specs.declared.path.Path.{Path}
use Rattle.osc_base.specs.Paths.{root, then_name}
use Rattle.dsl_tree.specs.declared.phases.CompNode.{CompNode}
use Rattle.dsl_tree.specs.declared.phases.InvokeNode.{InvokeNode}
use Rattle.dsl_tree.specs.declared.phases.WaitNode.{WaitNode}
use Rattle.dsl_tree.specs.declared.phases.Phase.{Phase}
use Rattle.dsl_tree.specs.declared.phases.Phase.TheViews
use Rattle.dsl_tree.specs.PhaseTree.{PhaseTree, phases_of, row_of}
use Rattle.dsl_tree.specs.Views.{argument_tree, expr_tree, part_tree, phase_tree}
use Rattle.dsl_tree.proofs.SeenPhases.{seen_comp, seen_invoke, seen_wait}
use Rattle.expr_nodes.specs.type_heads.Table.{form, is_object}
use Rattle.expr_nodes.specs.type_heads.Types.{Field, Types}
use Rattle.expr_nodes.specs.type_heads.Members.{field_type, list_length}
use Rattle.scene_expansion.specs.composition.declared.guard.Guard.{Guard}
use Rattle.scene_expansion.specs.composition.declared.spot.ValueRange.{ValueRange}
use Rattle.scene_expansion.specs.composition.Expansion.{Calling}
use Rattle.scene_expansion.specs.composition.Givens.{guards_under}
use Rattle.scene_expansion.specs.composition.Homes.{is_bound}
use Rattle.scene_expansion.specs.composition.Ranges.{range_of}
use Rattle.scene_expansion.specs.composition.Scenes.{Binding}
use Rattle.scene_expansion.specs.composition.Calls.{Callee, callee, called, invoked}
use Rattle.scene_expansion.specs.program_calls.SeenCallees.{called_in}
use Rattle.scene_expansion.specs.expansion_laws.Works as Works
use Rattle.scene_expansion.specs.expansion_laws.Works.{Work, Comp, Wait, actor_works, bindings_made, field_works, object_works, parts_of, phase_works, root_works, root_works_within, value_works}
use Rattle.object_works.specs.Held.{held_works}
use Rattle.object_works.specs.Phases.{invocation_works}

-- as many phases as there are
row_length : (ps : List PhaseTree) → length (phases_of (row_of ps)) ≡ length ps
row_length [] = refl
row_length (p ∷ ps) = ap (λ n. suc n) (row_length ps)

map_length : (ps : List Phase) → length (map phase_tree ps) ≡ length ps
map_length [] = refl
map_length (p ∷ ps) = ap (λ n. suc n) (map_length ps)

-- a composition
pub comp_works : (steps : ℕ) (ts : Types) (call : Calling) (c : CompNode)
    → Comp call c.kind (map argument_tree c.arguments) (length c.members) ∷ [] ≡ phase_works steps ts call (phase_tree (TheViews.Comp c))
comp_works steps ts call c =
    ap (λ n. Comp call c.kind (map argument_tree c.arguments) n ∷ []) (sym (row_length (map phase_tree c.members) ∙ map_length c.members))
    ∙ sym (ap (phase_works steps ts call) (seen_comp c))

-- a `wait`
pub wait_works : (steps : ℕ) (ts : Types) (call : Calling) (w : WaitNode) → Wait call (expr_tree w.elapsed) ∷ [] ≡ phase_works steps ts call (phase_tree (Phase.Wait w))
wait_works steps ts call w = sym (ap (phase_works steps ts call) (seen_wait w))

-- an invocation
pub invoke_works : (steps : ℕ) (ts : Types) (call : Calling) (i : InvokeNode) → invocation_works steps ts call i ≡ phase_works steps ts call (phase_tree (Phase.Invoke i))
invoke_works steps ts call i = sym (ap (phase_works steps ts call) (seen_invoke i))

-- what is called is told by the table
pub called_same : (ts : Types) (t : ℕ) (c : Callee) → called_in ts.table t c ≡ called ts t c
called_same ts t (Callee.Alone name) = refl
called_same ts t (Callee.Owned actor name) = refl
called_same ts t (Callee.NoName place) = refl

-- ---- fields

-- a field of a declared type
pub field_held : (steps : ℕ) (ts : Types) (bindings : List Binding) (object : Path) (t : ℕ) (guards : List Guard) (f : Field) (of : ℕ) → Some of ≡ field_type ts f
    → held_works steps ts bindings (then_name object f.name.text) (guards ++ guards_under ts object t f.under) f.tree of ≡ field_works steps ts bindings object t guards f
field_held steps ts bindings object t guards f of is =
    ap₂ (λ xs ys. xs ++ ys) (by (is_object (form ts.table.heads of) && not (is_bound bindings path))) (values (range_of (form ts.table.heads of)))
    ∙ ap made is
  where
    path : Path
    path = then_name object f.name.text

    conditions : List Guard
    conditions = guards ++ guards_under ts object t f.under

    made : Option ℕ → List Work
    made types = map (λ o. Works.Object steps path o conditions []) (filter (λ o. is_object (form ts.table.heads o) && not (is_bound bindings path)) (option_to_list types))
        ++ flat_map (value_works path conditions (list_length f.tree)) (filter_map (λ o. range_of (form ts.table.heads o)) (option_to_list types))

    by : (b : Bool) → cond b (Works.Object steps path of conditions [] ∷ []) [] ≡ map (λ o. Works.Object steps path o conditions []) (cond b (of ∷ []) [])
    by true = refl
    by false = refl

    values : (o : Option ValueRange) → flat_map (value_works path conditions (list_length f.tree)) (option_to_list o) ≡ flat_map (value_works path conditions (list_length f.tree)) (cons_option o [])
    values None = refl
    values (Some r) = refl

-- one of an undeclared type
pub field_none : (steps : ℕ) (ts : Types) (bindings : List Binding) (object : Path) (t : ℕ) (guards : List Guard) (f : Field) → None ≡ field_type ts f
    → [] ≡ field_works steps ts bindings object t guards f
field_none steps ts bindings object t guards f is = ap made is
  where
    path : Path
    path = then_name object f.name.text

    conditions : List Guard
    conditions = guards ++ guards_under ts object t f.under

    made : Option ℕ → List Work
    made types = map (λ o. Works.Object steps path o conditions []) (filter (λ o. is_object (form ts.table.heads o) && not (is_bound bindings path)) (option_to_list types))
        ++ flat_map (value_works path conditions (list_length f.tree)) (filter_map (λ o. range_of (form ts.table.heads o)) (option_to_list types))

-- ---- objects

-- one step fewer
pub object_held : (steps : ℕ) (ts : Types) (path : Path) (t : ℕ) (guards : List Guard) (bindings : List Binding) → 0 < steps
    → object_works (steps - 1) ts path t guards bindings ≡ parts_of ts (Works.Object steps path t guards bindings)
object_held zero ts path t guards bindings h = absurd (omega (arith, h))
object_held (suc steps) ts path t guards bindings h = let one : suc steps - 1 ≡ steps = omega arith in ap (λ n. object_works n ts path t guards bindings) one

pub object_bare : (steps : ℕ) (ts : Types) (path : Path) (t : ℕ) (guards : List Guard) (bindings : List Binding) → steps ≡ 0
    → [] ≡ parts_of ts (Works.Object steps path t guards bindings)
object_bare steps ts path t guards bindings h = sym (ap (λ n. parts_of ts (Works.Object n path t guards bindings)) h)

pub root_held : (steps : ℕ) (ts : Types) (t : ℕ) → 0 < steps → actor_works ts t ++ object_works (steps - 1) ts root t [] [] ≡ root_works_within steps ts t
root_held zero ts t h = absurd (omega (arith, h))
root_held (suc steps) ts t h = let one : suc steps - 1 ≡ steps = omega arith in ap (λ n. actor_works ts t ++ object_works n ts root t [] []) one

pub root_bare : (steps : ℕ) (ts : Types) (t : ℕ) → steps ≡ 0 → [] ≡ root_works_within steps ts t
root_bare steps ts t h = sym (ap (λ n. root_works_within n ts t) h)

-- ---- results

pub on_ok : {X E : Type 0} (P Q : Type 0) → (P → Q) → (r : Result X E) → OnOk r P → OnOk r Q
on_ok P Q more (Ok x) h = more h
on_ok P Q more (Err e) h = tt

-- two rows that are put at the end, one after the other
pub after_two : {X : Type 0} (old mid new a b : List X) → mid ≡ old ++ a → new ≡ mid ++ b → new ≡ old ++ (a ++ b)
after_two old mid new a b one two = two ∙ ap (λ xs. xs ++ b) one ∙ append_assoc old a b

-- nothing is put at the end
pub put_none : {X : Type 0} (old a : List X) → [] ≡ a → old ≡ old ++ a
put_none old a h = sym (append-nil old) ∙ ap (λ xs. old ++ xs) h

-- what is put at the end is another row
pub put_same : {X : Type 0} (old new a b : List X) → a ≡ b → new ≡ old ++ a → new ≡ old ++ b
put_same old new a b h is = is ∙ ap (λ xs. old ++ xs) h

-- what is made of a part that is there, or isn't
pub of_some : {X Y : Type 0} (f : X → List Y) (o : Option X) (x : X) → o ≡ Some x → f x ≡ flat_map f (option_to_list o)
of_some f o x h = sym (append-nil (f x)) ∙ sym (ap (λ p. flat_map f (option_to_list p)) h)

pub of_none : {X Y : Type 0} (f : X → List Y) (o : Option X) → o ≡ None → [] ≡ flat_map f (option_to_list o)
of_none f o h = sym (ap (λ p. flat_map f (option_to_list p)) h)

-- something is invoked, or nothing is
pub invoked_some : (ts : Types) (steps : ℕ) (call : Calling) (i : InvokeNode) (of : ℕ) → Some of ≡ called_in ts.table call.holder (callee i.head i.names)
    → Works.Invoke steps call i.head i.names (map argument_tree i.arguments) (map part_tree i.parts) of (bindings_made ts call i.head i.names (map argument_tree i.arguments) of) ∷ [] ≡ invocation_works steps ts call i
invoked_some ts steps call i of h =
    ap (λ o. map (λ t. Works.Invoke steps call i.head i.names (map argument_tree i.arguments) (map part_tree i.parts) t (bindings_made ts call i.head i.names (map argument_tree i.arguments) t)) (option_to_list o))
    (h ∙ called_same ts call.holder (callee i.head i.names))

pub invoked_none : (ts : Types) (steps : ℕ) (call : Calling) (i : InvokeNode) → None ≡ called_in ts.table call.holder (callee i.head i.names) → [] ≡ invocation_works steps ts call i
invoked_none ts steps call i h =
    ap (λ o. map (λ t. Works.Invoke steps call i.head i.names (map argument_tree i.arguments) (map part_tree i.parts) t (bindings_made ts call i.head i.names (map argument_tree i.arguments) t)) (option_to_list o))
    (h ∙ called_same ts call.holder (callee i.head i.names))

-- what each of some things gives, one thing further
pub each_more : {X Y Z : Type 0} (f : X → List Z) (see : Y → X) (items : List Y) (i : ℕ) (x : Y) (old new all : List Z) → i < length items → x ≡ get_or items i x → new ≡ old ++ f (see x)
    → old ++ flat_map f (map see (drop i items)) ≡ all → new ++ flat_map f (map see (drop (i + 1) items)) ≡ all
each_more f see items i x old new all lt at is before =
    ap (λ ws. ws ++ flat_map f (map see (drop (i + 1) items))) is ∙ append_assoc old (f (see x)) (flat_map f (map see (drop (i + 1) items)))
    ∙ ap (λ ys. old ++ flat_map f (map see ys)) (sym (drop_more items i x lt ∙ ap (λ y. y ∷ drop (i + 1) items) (sym at))) ∙ before
