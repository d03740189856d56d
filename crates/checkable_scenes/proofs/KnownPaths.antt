-- The paths of each text of an object: what is known of them from the place of the object.
use Rattle.std.proofs.Common.{◌≡◌, ℕ, refl, sym, ap, ap₂, ◌∙◌, subst, ◌⊎◌, inl, inr, List, [], ◌∷◌, ◌++◌, Bool, true, false, not, cond, Option, Some, None, true≢false}
use Rattle.std.specs.Prelude.{option_to_list, option_map, bytes_eq, codes, is_none}
use Rattle.std.proofs.lemmas.Slice.Eq.{bytes_eq-Decides}
use Rattle.osc_base.specs.declared.path.Path.{Path}
use Rattle.osc_base.specs.declared.path.Step.{Step}
use Rattle.osc_base.specs.declared.path.Step.TheVariants.{Name, Index, Member}
use Rattle.osc_base.specs.FaultRows.{FaultRow}
use Rattle.osc_base.specs.Paths.{path_of, same_step}
use Rattle.expr_eval.specs.dsl_tree.declared.parts.Ident.{Ident}
use Rattle.expr_eval.specs.dsl_tree.ExprTree as Tree
use Rattle.expr_eval.specs.dsl_tree.ExprTree.{ExprTree, ExprRow}
use Rattle.expr_eval.specs.dsl_tree.declared.compounds.CompoundKind.{CompoundKind}
use Rattle.expr_eval.specs.type_heads.Form.{Form}
use Rattle.expr_eval.specs.type_heads.Table.{Table, TableField, form, field_of, is_actor, is_scenario, is_behaviour}
use Rattle.expr_eval.specs.type_heads.Types.{Types, Do}
use Rattle.expr_eval.specs.type_heads.Members.{the_do}
use Rattle.expr_eval.specs.expr_nodes.Scope.{It, Label, Scope}
use Rattle.expr_eval.specs.expr_nodes.Parts.{any_holds}
use Rattle.expr_eval.specs.expr_nodes.Names.{dot_rows, dot_typed}
use Rattle.expr_eval.specs.expr_nodes.Operators.{not_rows, not_typed, logic_rows, and_typed, or_typed, implies_typed, minus_rows, minus_typed, sum_rows, sum_typed, factor_rows, factor_typed, relation_rows, relation_typed, part_rows, span_rows, span_typed, item_typed, list_typed, index_rows, index_typed, group_typed}
use Rattle.expr_eval.specs.expr_nodes.Typing.{typed, typed_row, expr_rows, items_rows}
use Rattle.run_values.specs.composition.Calls.{Turn, PhaseHere, phases_in, made, labels_at, leads_into, label_of, scope_at}
use Rattle.run_values.specs.composition.Givens.{steps_from, from_root}
use Rattle.run_values.proofs.of_field_flatten.Tests.{In, flat_map_in}
use Rattle.scene_laws.specs.Premises.{is_free}
use Rattle.scene_laws.proofs.FaultRows.{no_left, rows_left, rows_right}
use Rattle.scene_laws.proofs.Picked.{of_option, filter_map_in}
use Rattle.scene_laws.proofs.OwnedHeads.{HaveActors}
use Rattle.scene_laws.proofs.PhasePaths.{do_within}
use Rattle.scene_laws.proofs.Steps.{joined_again, AreMembers}
use Rattle.scene_laws.proofs.PlacedObjects.{scenario_behaves}
use Rattle.checkable_scenes.proofs.PhaseSteps.{OnlyPhases, IsThing, named_thing, only_both}
use Rattle.checkable_scenes.proofs.TypedShapes.{HasStep, FieldsKnown, IsObjectAt, PathsKnown}
use Rattle.checkable_scenes.proofs.ReadFacts.{not_it}

-- what is known of types, for the paths of their texts
pub record ReadsKnown (ts : Types) : Type 0 where
  pub fields : FieldsKnown ts.table
  pub free : (t : ℕ) (name : List ℕ) (x : TableField) → field_of ts.table t name ≡ Some x → is_free name ≡ true
  pub scenarios : (t : ℕ) (d : Do) → the_do ts t ≡ Some d → is_scenario (form ts.table.heads t) ≡ true
  pub actors : HaveActors ts.table.heads

pub actor_still : (f : Form) → is_actor f ≡ true → is_behaviour f ≡ false
actor_still (Form.Compound CompoundKind.Struct) h = refl
actor_still (Form.Compound CompoundKind.Actor) h = refl
actor_still (Form.Compound CompoundKind.Action) h = absurd (true≢false (sym h))
actor_still (Form.Compound CompoundKind.Scenario) h = absurd (true≢false (sym h))
actor_still Form.Int h = refl
actor_still Form.Uint h = refl
actor_still Form.Float h = refl
actor_still Form.Truth h = refl
actor_still Form.Chars h = refl
actor_still (Form.Physical x) h = refl
actor_still (Form.Enum x) h = refl

pub words_apart : (a b : List ℕ) → bytes_eq a b ≡ false → a ≡ b → ⊥
words_apart a b h e = true≢false (sym ((bytes_eq-Decides a b).1 e) ∙ h)

pub members_only : (ms : List Step) → AreMembers ms → OnlyPhases ms
members_only [] h = tt
members_only (Member k ∷ ms) h = members_only ms h
members_only (Name n ∷ ms) h = absurd h
members_only (Index k ∷ ms) h = absurd h

-- a label's path begins at the `do`
abbrev pub LabelKnown : Types → ℕ → Label → Type 0
LabelKnown ts holder l = (is_behaviour (form ts.table.heads holder) ≡ true) × ((ms : List Step) × AreMembers ms × (l.path.steps ≡ Name (codes "do") ∷ ms))

pub labels_known : (ts : Types) → ReadsKnown ts → (holder : ℕ) (it : Option It) (way : List Turn) (l : Label) → In l (scope_at ts holder it way).labels → LabelKnown ts holder l
labels_known ts k holder it way l i =
    let d = flat_map_in (labels_at ts way) (option_to_list (the_do ts holder)) l i in
    let p = filter_map_in (λ (p : PhaseHere). option_map (λ (i : Ident). record { name = i.text; path = p.path; made = made ts d.0.holder p.phase; hidden = not (leads_into way p.way) }) (label_of p.phase)) (phases_in d.0.phase) l d.2 in
    let w = do_within d.0.phase p.0 p.1 in
    (scenario_behaves (form ts.table.heads holder) (k.scenarios holder d.0 (of_option (the_do ts holder) d.0 d.1)), (w.0, w.1, by d.0 p.0 (label_of p.0.phase) p.2 ∙ w.2))
  where
    by : (d : Do) (p : PhaseHere) (o : Option Ident) → option_map (λ (i : Ident). record { name = i.text; path = p.path; made = made ts d.holder p.phase; hidden = not (leads_into way p.way) }) o ≡ Some l → l.path.steps ≡ p.path.steps
    by d p None e = cc
    by d p (Some i) e =
        let same : record { name = i.text; path = p.path; made = made ts d.holder p.phase; hidden = not (leads_into way p.way) } ≡ l = cc in
        sym (ap (λ (z : Label). z.path.steps) same)

nil_after : (xs : List Step) → xs ++ [] ≡ xs
nil_after [] = refl
nil_after (x ∷ xs) = ap (λ l. x ∷ l) (nil_after xs)

-- the paths of a text of an object of type t, whose holder behaves as t does
pub known_paths : (ts : Types) → ReadsKnown ts → (t : ℕ) (ob itp : Path) (sc : Scope) → is_behaviour (form ts.table.heads t) ≡ is_behaviour (form ts.table.heads sc.holder) → IsObjectAt ts.table t ob
    → ((l : Label) → In l sc.labels → LabelKnown ts sc.holder l)
    → ((u : ℕ) (n : Option ℕ) → sc.it ≡ Some (It.Of u n) → IsObjectAt ts.table u itp × ((n ≡ None) ⊎ IsThing itp.steps))
    → PathsKnown ts.table sc (from_root (record { object = ob; it = itp; scope = sc }))
known_paths ts k t ob itp sc alike place labels its = record {
  later = λ p h s. by_later p.steps h.0 h.1 h.2 s;
  field = λ name f e. subst IsThing (sym (ap (λ b. cond b (itp.steps ++ []) (ob.steps ++ Name name ∷ [])) (not_it name (k.free sc.holder name f e)))) (named_thing ob.steps name (k.fields.free sc.holder name f e) (λ same only. apart (alike ∙ k.fields.untimed sc.holder name f e same) place only));
  actor = λ o e. (actor_still (form ts.table.heads o) (k.actors sc.holder o e), named_thing ob.steps (codes "actor") (words_apart (codes "actor") (codes "do") refl) (λ same. absurd (words_apart (codes "actor") (codes "duration") refl same)));
  duration = λ b. (ob.steps, behaves (alike ∙ b) place, refl);
  label = λ l i. by_label l (labels l i);
  it = λ u n e. let g = its u n e in (subst (λ z. IsObjectAt ts.table u (path_of z)) (sym (nil_after itp.steps)) g.0, elim g.1 as (λ _. (n ≡ None) ⊎ IsThing (itp.steps ++ [])) [ inl none ↦ inl none | inr thing ↦ inr (subst IsThing (sym (nil_after itp.steps)) thing) ]);
}
  where
    apart : is_behaviour (form ts.table.heads t) ≡ false → IsObjectAt ts.table t ob → OnlyPhases ob.steps → ⊥
    apart h (inl b) only = true≢false (sym b.0 ∙ h)
    apart h (inr b) only = b.1.0 only

    behaves : is_behaviour (form ts.table.heads t) ≡ true → IsObjectAt ts.table t ob → OnlyPhases ob.steps
    behaves h (inl b) = b.1
    behaves h (inr b) = absurd (true≢false (sym h ∙ b.0))

    by_later : (l : List Step) (x : Step) (xs : List Step) → l ≡ x ∷ xs → (s : Step) → steps_from (record { object = ob; it = itp; scope = sc }) (l ++ s ∷ []) ≡ steps_from (record { object = ob; it = itp; scope = sc }) l ++ s ∷ []
    by_later [] x xs e s = cc
    by_later (y ∷ ys) x xs e s = by (same_step y (Name (codes "it")))
      where
        by : (b : Bool) → cond b (itp.steps ++ (ys ++ s ∷ [])) (ob.steps ++ (y ∷ (ys ++ s ∷ []))) ≡ cond b (itp.steps ++ ys) (ob.steps ++ y ∷ ys) ++ s ∷ []
        by true = sym (joined_again itp.steps ys (s ∷ []))
        by false = sym (joined_again ob.steps (y ∷ ys) (s ∷ []))

    by_label : (l : Label) → LabelKnown ts sc.holder l → HasStep l.path × OnlyPhases (from_root (record { object = ob; it = itp; scope = sc }) l.path).steps
    by_label l h = (
      (Name (codes "do"), h.1.0, h.1.2),
      subst (λ z. OnlyPhases (steps_from (record { object = ob; it = itp; scope = sc }) z)) (sym h.1.2) (only_both ob.steps (Name (codes "do") ∷ h.1.0) (behaves (alike ∙ h.0) place) (refl, members_only h.1.0 h.1.1)),
    )

-- ---- an expression without `it` means the same whatever `it` is

module _ (table : Table) (sc : Scope) (it : Option It) (none : sc.it ≡ None) where
  abbrev other : Scope
  other = record sc { it = it }

  two_parts : (rows ra rb : List FaultRow) → any_holds (rows ++ ra ++ rb) ≡ false → (any_holds ra ≡ false) × (any_holds rb ≡ false)
  two_parts rows ra rb h = (rows_right rows ra (rows_left (rows ++ ra) rb h), rows_right (rows ++ ra) rb h)

  mutual
    pub it_free : (e : ExprTree) → any_holds (expr_rows table sc e) ≡ false → typed table sc e ≡ typed table (record sc { it = it }) e
    it_free (Tree.Implies p a b) h = let r = two_parts (logic_rows p (typed table sc a) (typed table sc b)) (expr_rows table sc a) (expr_rows table sc b) h in ap₂ (implies_typed p) (it_free a r.0) (it_free b r.1)
    it_free (Tree.Or p op a b) h = let r = two_parts (logic_rows p (typed table sc a) (typed table sc b)) (expr_rows table sc a) (expr_rows table sc b) h in ap₂ (or_typed p) (it_free a r.0) (it_free b r.1)
    it_free (Tree.And p op a b) h = let r = two_parts (logic_rows p (typed table sc a) (typed table sc b)) (expr_rows table sc a) (expr_rows table sc b) h in ap₂ (and_typed p) (it_free a r.0) (it_free b r.1)
    it_free (Tree.Not p a) h = ap (not_typed p) (it_free a (rows_right (not_rows p (typed table sc a)) (expr_rows table sc a) h))
    it_free (Tree.Relation p sign a b) h = let r = two_parts (relation_rows p sign (typed table sc a) (typed table sc b)) (expr_rows table sc a) (expr_rows table sc b) h in ap₂ (relation_typed p sign) (it_free a r.0) (it_free b r.1)
    it_free (Tree.Sum p op a b) h = let r = two_parts (sum_rows p (typed table sc a) (typed table sc b)) (expr_rows table sc a) (expr_rows table sc b) h in ap₂ (sum_typed p op) (it_free a r.0) (it_free b r.1)
    it_free (Tree.Product p op a b) h = let r = two_parts (factor_rows p op (typed table sc a) (typed table sc b)) (expr_rows table sc a) (expr_rows table sc b) h in ap₂ (factor_typed p op) (it_free a r.0) (it_free b r.1)
    it_free (Tree.Minus p a) h = ap (minus_typed p) (it_free a (rows_right (minus_rows p (typed table sc a)) (expr_rows table sc a) h))
    it_free (Tree.Dot head i) h = ap (λ o. dot_typed table o i) (it_free head (rows_right (dot_rows table (typed table sc head) i) (expr_rows table sc head) h))
    it_free (Tree.Index p head index) h = let r = two_parts (index_rows p (typed table sc head) index) (expr_rows table sc head) (expr_rows table sc index) h in ap (λ o. index_typed o index) (it_free head r.0)
    it_free (Tree.Number d) h = refl
    it_free (Tree.Physical d unit) h = refl
    it_free (Tree.Chars p text) h = refl
    it_free (Tree.Truth p value) h = refl
    it_free (Tree.It p) h = absurd (true≢false (sym (ap is_none none) ∙ no_left (is_none sc.it) false h))
    it_free (Tree.Actor p) h = refl
    it_free (Tree.Name i) h = refl
    it_free (Tree.EnumName of member) h = refl
    it_free (Tree.Group p a) h = ap (group_typed p) (it_free a h)
    it_free (Tree.Span p a b) h = let r = two_parts (span_rows (typed table sc a) (typed table sc b)) (expr_rows table sc a) (expr_rows table sc b) h in ap₂ (span_typed p) (it_free a r.0) (it_free b r.1)
    it_free (Tree.Listed p items) h = ap (list_typed p) (row_free items h)
    it_free (Tree.RangeCall p a b) h = let r = two_parts (span_rows (typed table sc a) (typed table sc b)) (expr_rows table sc a) (expr_rows table sc b) h in ap₂ (span_typed p) (it_free a r.0) (it_free b r.1)
    it_free (Tree.Start a) h = it_free a h

    row_free : (row : ExprRow) → any_holds (items_rows table sc row) ≡ false → typed_row table sc row ≡ typed_row table (record sc { it = it }) row
    row_free Tree.End h = refl
    row_free (Tree.Item a others) h = let r = two_parts (part_rows (typed table sc a)) (expr_rows table sc a) (items_rows table sc others) h in ap₂ item_typed (it_free a r.0) (row_free others r.1)
