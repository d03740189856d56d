-- Phases, labels and scopes of types in which each `do` is unfolded.
use Rattle.std.proofs.Common.{◌≡◌, refl, sym, ap, ap₂, ◌∙◌, ℕ, ◌+◌, List, [], ◌∷◌, ◌++◌, map, length, not, Option, Some, None}
use Rattle.std.specs.Prelude.{flat_map, filter_map, option_map, option_and_then, option_to_list, zero, suc, find, bytes_eq}
use Rattle.std.specs.List.{cons_option}
use Rattle.std.proofs.lemmas.List.{map-append}
use Rattle.composition.specs.osc_base.declared.path.Path.{Path}
use Rattle.composition.specs.osc_base.Paths.{root, then_name, then_member, then_do}
use Rattle.composition.specs.dsl_tree.declared.parts.Ident.{Ident}
use Rattle.composition.specs.dsl_tree.declared.compounds.HeirCondition.{HeirCondition}
use Rattle.composition.specs.dsl_tree.declared.phases.CompKind.{CompKind}
use Rattle.composition.specs.dsl_tree.PhaseTree as Phases
use Rattle.composition.specs.dsl_tree.PhaseTree.{PhaseTree, PhaseRow, phases_of}
use Rattle.composition.specs.dsl_tree.FileTree.{ModifierDeclTree}
use Rattle.composition.specs.type_heads.Table.{base, form}
use Rattle.composition.specs.type_heads.Types.{Field, Do, Types}
use Rattle.composition.specs.type_heads.Members.{field, field_type, the_do, heir_condition}
use Rattle.composition.specs.type_heads.Conditions.{Condition, condition, condition_on, condition_value}
use Rattle.composition.specs.cond_inherit.Conditions.{once_after, conditions_within}
use Rattle.composition.specs.expr_nodes.Scope.{It, Label}
use Rattle.composition.specs.declared.guard.Guard.{Guard}
use Rattle.composition.specs.Calls.{Turn, PhaseHere, turns, phases_at, phases_among, phases_in, label_of, made, leads_into, labels_at, scope_at}
use Rattle.composition.specs.Givens.{guards_under}
use Rattle.modifier_meaning.specs.Unfolded.{unfolded_phase, unfolded_row}
use Rattle.modifier_meaning.specs.UnfoldedTypes.{unfolded_types}
use Rattle.modifier_meaning.proofs.Lists.{flat_alike}
use Rattle.modifier_meaning.proofs.Members.{same_fields, unfolded_do, do_mapped, condition_same}

-- what is there of each item, by two functions that agree
pub there_alike : {X Y : Type 0} (f g : X → Option Y) → ((x : X) → f x ≡ g x) → (xs : List X) → filter_map f xs ≡ filter_map g xs
there_alike f g same [] = refl
there_alike f g same (x ∷ xs) = λ i. cons_option (same x i) (there_alike f g same xs i)

there_through : {X Y Z : Type 0} (f : Y → Option Z) (g : X → Y) (xs : List X) → filter_map f (map g xs) ≡ filter_map (λ x. f (g x)) xs
there_through f g [] = refl
there_through f g (x ∷ xs) = ap (λ ys. cons_option (f (g x)) ys) (there_through f g xs)

module _ (mods : List ModifierDeclTree) where
  -- ---- phases

  abbrev pub phase_new : PhaseHere → PhaseHere
  phase_new p = record p { phase = unfolded_phase mods p.phase }

  mutual
    phases_mapped : (path : Path) (way : List Turn) (phase : PhaseTree) → phases_at path way (unfolded_phase mods phase) ≡ map phase_new (phases_at path way phase)
    phases_mapped path way (Phases.Comp label place kind arguments members) =
        ap (λ ps. phase_new (record { path = path; way = way; phase = Phases.Comp label place kind arguments members }) ∷ ps) (among_mapped kind path way 0 members)
    phases_mapped path way (Phases.Invoke label head names arguments parts) = refl
    phases_mapped path way (Phases.Wait label place elapsed) = refl

    among_mapped : (kind : CompKind) (path : Path) (way : List Turn) (n : ℕ) (row : PhaseRow) →
        phases_among kind path way n (unfolded_row mods row) ≡ map phase_new (phases_among kind path way n row)
    among_mapped kind path way n Phases.End = refl
    among_mapped kind path way n (Phases.Phase phase others) =
        ap₂ (λ a b. a ++ b) (phases_mapped (then_member path n) (way ++ turns kind path n) phase) (among_mapped kind path way (n + 1) others)
        ∙ sym (map-append phase_new (phases_at (then_member path n) (way ++ turns kind path n) phase) (phases_among kind path way (n + 1) others))

  pub phases_in_mapped : (phase : PhaseTree) → phases_in (unfolded_phase mods phase) ≡ map phase_new (phases_in phase)
  phases_in_mapped phase = phases_mapped (then_do root) [] phase

  pub phases_of_mapped : (row : PhaseRow) → phases_of (unfolded_row mods row) ≡ map (unfolded_phase mods) (phases_of row)
  phases_of_mapped Phases.End = refl
  phases_of_mapped (Phases.Phase phase others) = ap (λ ps. unfolded_phase mods phase ∷ ps) (phases_of_mapped others)

  -- ---- labels

  label_same : (phase : PhaseTree) → label_of (unfolded_phase mods phase) ≡ label_of phase
  label_same (Phases.Comp label place kind arguments members) = refl
  label_same (Phases.Invoke label head names arguments parts) = refl
  label_same (Phases.Wait label place elapsed) = refl

  module _ (ts : Types) where
    abbrev new : Types
    new = unfolded_types mods ts

    made_same : (t : ℕ) (phase : PhaseTree) → made (unfolded_types mods ts) t (unfolded_phase mods phase) ≡ made ts t phase
    made_same t (Phases.Comp label place kind arguments members) = refl
    made_same t (Phases.Invoke label head names arguments parts) = refl
    made_same t (Phases.Wait label place elapsed) = refl

    abbrev labelled : List Turn → Do → PhaseHere → Option Label
    labelled way d p = option_map (λ (i : Ident). record { name = i.text; path = p.path; made = made ts d.holder p.phase; hidden = not (leads_into way p.way) }) (label_of p.phase)

    abbrev labelled_new : List Turn → Do → PhaseHere → Option Label
    labelled_new way d p = option_map (λ (i : Ident). record { name = i.text; path = p.path; made = made (unfolded_types mods ts) d.holder p.phase; hidden = not (leads_into way p.way) }) (label_of p.phase)

    label_one : (way : List Turn) (d : Do) (p : PhaseHere) → labelled_new way (unfolded_do mods d) (phase_new p) ≡ labelled way d p
    label_one way d p = ap₂ (λ m o. option_map (λ (i : Ident). record { name = i.text; path = p.path; made = m; hidden = not (leads_into way p.way) }) o) (made_same d.holder p.phase) (label_same p.phase)

    labels_same : (way : List Turn) (d : Do) → labels_at (unfolded_types mods ts) way (unfolded_do mods d) ≡ labels_at ts way d
    labels_same way d =
        ap (filter_map (labelled_new way (unfolded_do mods d))) (phases_in_mapped d.phase)
        ∙ there_through (labelled_new way (unfolded_do mods d)) phase_new (phases_in d.phase)
        ∙ there_alike (λ p. labelled_new way (unfolded_do mods d) (phase_new p)) (labelled way d) (label_one way d) (phases_in d.phase)

    labels_of : (way : List Turn) (o : Option Do) → flat_map (labels_at (unfolded_types mods ts) way) (option_to_list (option_map (unfolded_do mods) o)) ≡ flat_map (labels_at ts way) (option_to_list o)
    labels_of way None = refl
    labels_of way (Some d) = ap (λ ls. ls ++ []) (labels_same way d)

    pub scope_same : (t : ℕ) (it : Option It) (way : List Turn) → scope_at (unfolded_types mods ts) t it way ≡ scope_at ts t it way
    scope_same t it way =
        ap (λ labels. record { holder = t; it = it; labels = labels })
        (ap (λ o. flat_map (labels_at (unfolded_types mods ts) way) (option_to_list o)) (do_mapped mods ts t) ∙ labels_of way (the_do ts t))

    -- ---- conditions

    pub field_same : (t : ℕ) (name : List ℕ) → field (unfolded_types mods ts) t name ≡ field ts t name
    field_same t name = ap (find (λ (f : Field). bytes_eq f.name.text name)) (same_fields mods ts t)

    condition_is : (t : ℕ) → condition (unfolded_types mods ts) t ≡ condition ts t
    condition_is t = by (base ts.table.heads t)
      where
        on : (b : ℕ) (c : HeirCondition) → condition_on (unfolded_types mods ts) t b c ≡ condition_on ts t b c
        on b c = ap (λ f. option_and_then (λ form. option_map (λ n. record { field = c.field.text; value = n; subtype = t }) (condition_value form c.value)) (option_map (form ts.table.heads) (option_and_then (field_type ts) f))) (field_same b c.field.text)

        on_option : (b : ℕ) (o : Option HeirCondition) → option_and_then (condition_on (unfolded_types mods ts) t b) o ≡ option_and_then (condition_on ts t b) o
        on_option b None = refl
        on_option b (Some c) = on b c

        by : (o : Option ℕ) → option_and_then (λ b. option_and_then (condition_on (unfolded_types mods ts) t b) (heir_condition (unfolded_types mods ts).bodies t)) o
            ≡ option_and_then (λ b. option_and_then (condition_on ts t b) (heir_condition ts.bodies t)) o
        by None = refl
        by (Some b) = ap (option_and_then (condition_on (unfolded_types mods ts) t b)) (condition_same mods ts.table.heads ts.bodies t) ∙ on_option b (heir_condition ts.bodies t)

    within_step : (steps t : ℕ) → ((under : List ℕ) → conditions_within steps (unfolded_types mods ts) t under ≡ conditions_within steps ts t under) → (c : Condition) →
        flat_map (λ (f : Field). conditions_within steps (unfolded_types mods ts) t f.under) (option_to_list (field (unfolded_types mods ts) t c.field)) ++ c ∷ []
        ≡ flat_map (λ (f : Field). conditions_within steps ts t f.under) (option_to_list (field ts t c.field)) ++ c ∷ []
    within_step steps t rec c =
        ap (λ xs. xs ++ c ∷ [])
        (ap (λ o. flat_map (λ (f : Field). conditions_within steps (unfolded_types mods ts) t f.under) (option_to_list o)) (field_same t c.field)
        ∙ flat_alike (λ (f : Field). conditions_within steps (unfolded_types mods ts) t f.under) (λ (f : Field). conditions_within steps ts t f.under) (λ f. rec f.under) (option_to_list (field ts t c.field)))

    within_same : (steps t : ℕ) (under : List ℕ) → conditions_within steps (unfolded_types mods ts) t under ≡ conditions_within steps ts t under
    within_same zero t under = refl
    within_same (suc steps) t under =
        ap (flat_map (λ (c : Condition). flat_map (λ (f : Field). conditions_within steps (unfolded_types mods ts) t f.under) (option_to_list (field (unfolded_types mods ts) t c.field)) ++ c ∷ []))
        (there_alike (condition (unfolded_types mods ts)) (condition ts) condition_is under)
        ∙ flat_alike (λ (c : Condition). flat_map (λ (f : Field). conditions_within steps (unfolded_types mods ts) t f.under) (option_to_list (field (unfolded_types mods ts) t c.field)) ++ c ∷ [])
        (λ (c : Condition). flat_map (λ (f : Field). conditions_within steps ts t f.under) (option_to_list (field ts t c.field)) ++ c ∷ [])
        (within_step steps t (within_same steps t)) (filter_map (condition ts) under)

    pub guards_same : (object : Path) (t : ℕ) (under : List ℕ) → guards_under (unfolded_types mods ts) object t under ≡ guards_under ts object t under
    guards_same object t under =
        ap (λ cs. map (λ (c : Condition). Guard.Value (then_name object c.field) c.value) (once_after [] cs)) (within_same (length ts.table.heads) t under)
