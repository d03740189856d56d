-- The scopes of a program whose invocations are each of something leave nothing open.
use Rattle.std.proofs.Common.{◌≡◌, ℕ, refl, sym, ap, ◌∙◌, List, true, false, Option, Some, None, true≢false}
use Rattle.std.specs.Prelude.{is_none, is_some, not, option_map, option_to_list}
use Rattle.std.specs.Option.{option_map_or}
use Rattle.expr_eval.specs.units_si.declared.units.Exponents.{Exponents}
use Rattle.expr_eval.specs.dsl_tree.declared.parts.Ident.{Ident}
use Rattle.expr_eval.specs.dsl_tree.PhaseTree.{PhaseTree, Comp, Invoke, Wait}
use Rattle.expr_eval.specs.type_heads.Table.{Table, TableUnit, form, unit}
use Rattle.expr_eval.specs.type_heads.Types.{Types, Do}
use Rattle.expr_eval.specs.type_heads.Members.{the_do}
use Rattle.expr_eval.specs.expr_nodes.Kinds.{Made, ValueKind, kind_of}
use Rattle.expr_eval.specs.expr_nodes.Scope.{It, Label}
use Rattle.expr_eval.specs.Resolved.{is_told, is_told_it, IsResolved}
use Rattle.run_values.specs.composition.Calls.{Turn, PhaseHere, phases_in, label_of, made, leads_into, labels_at, without_labels, scope_at}
use Rattle.run_values.proofs.of_field_flatten.Tests.{In, all_from, flat_map_in}
use Rattle.scene_laws.proofs.Picked.{of_option, filter_map_in}
use Rattle.scene_laws.proofs.MemberPhases.{Resolves}

-- what fields hold has a kind, and each unit has exponents
pub record HasKinds (table : Table) : Type 0 where
  pub kinds : (t : ℕ) → (k : ValueKind) × (kind_of t (form table.heads t) ≡ Some k)
  pub units : (name : List ℕ) (u : TableUnit) → unit table name ≡ Some u → (x : Exponents) × (u.exponents ≡ Some x)

pub any_some : {A : Type 0} (o : Option A) → is_none o ≡ false → (x : A) × (o ≡ Some x)
any_some None h = absurd (true≢false h)
any_some (Some x) h = (x, refl)

-- what stands outside all labels
pub bare_resolved : (table : Table) → HasKinds table → (t : ℕ) → IsResolved table (without_labels t)
bare_resolved table has t = record { labels = refl; it = refl; kinds = λ t. ap is_some (has.kinds t).1; units = λ name u e. ap is_some (has.units name u e).1 }

-- a field's `it`
pub field_it_told : (of : Option ℕ) (length : Option ℕ) → is_told_it (option_map (λ t. It.Of t length) of) ≡ true
field_it_told None length = refl
field_it_told (Some t) length = refl

module _ (ts : Types) (has : HasKinds ts.table) (resolves : Resolves ts) where
  label_told : (holder : ℕ) (way : List Turn) (it : Option It) (l : Label) → In l (scope_at ts holder it way).labels → is_told l.made ≡ true
  label_told holder way it l i =
      let d = flat_map_in (labels_at ts way) (option_to_list (the_do ts holder)) l i in
      let p = filter_map_in (λ (p : PhaseHere). option_map (λ (i : Ident). record { name = i.text; path = p.path; made = made ts d.0.holder p.phase; hidden = not (leads_into way p.way) }) (label_of p.phase)) (phases_in d.0.phase) l d.2 in
      ap is_told (is d.0 p.0 (label_of p.0.phase) p.2) ∙ by d.0 (of_option (the_do ts holder) d.0 d.1) p.0 p.1 p.0.phase refl
    where
      is : (d : Do) (p : PhaseHere) (o : Option Ident) → option_map (λ (i : Ident). record { name = i.text; path = p.path; made = made ts d.holder p.phase; hidden = not (leads_into way p.way) }) o ≡ Some l → l.made ≡ made ts d.holder p.phase
      is d p None g = cc
      is d p (Some j) g = let same : record { name = j.text; path = p.path; made = made ts d.holder p.phase; hidden = not (leads_into way p.way) } ≡ l = cc in sym (ap (λ (z : Label). z.made) same)

      by : (d : Do) → the_do ts holder ≡ Some d → (p : PhaseHere) → In p (phases_in d.phase) → (phase : PhaseTree) → p.phase ≡ phase → is_told (made ts d.holder p.phase) ≡ true
      by d at p j (Comp label place kind arguments members) g = ap (λ z. is_told (made ts d.holder z)) g
      by d at p j (Wait label place elapsed) g = ap (λ z. is_told (made ts d.holder z)) g
      by d at p j (Invoke label head names arguments parts) g = ap (λ z. is_told (made ts d.holder z)) g ∙ ap (λ o. is_told (option_map_or Made.Makes o Made.Unknown)) (resolves holder d at p j label head names arguments parts g).1

  pub scope_resolved : (holder : ℕ) (it : Option It) (way : List Turn) → is_told_it it ≡ true → IsResolved ts.table (scope_at ts holder it way)
  scope_resolved holder it way told =
      let bare = bare_resolved ts.table has holder in
      record { labels = all_from (λ (l : Label). is_told l.made) (scope_at ts holder it way).labels (label_told holder way it); it = told; kinds = bare.kinds; units = bare.units }
