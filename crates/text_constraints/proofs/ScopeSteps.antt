-- Scopes of texts, but for `it`.
use Rattle.std.proofs.Common.{◌≡◌, ◌∙◌, sym, ap, ap₂, ℕ, List, [], ◌∷◌, None, flat_map}
use Rattle.std.proofs.lemmas.List.Folds.{flat_map-map}
use Rattle.osc_base.specs.declared.path.Path.{Path}
use Rattle.dsl_tree.specs.declared.parts.Ident.{Ident}
use Rattle.dsl_tree.specs.FileTree.{FieldTree, MemberTree}
use Rattle.dsl_tree.specs.PhaseTree.{RuleTree}
use Rattle.expr_nodes.specs.type_heads.Types.{Field, Member, Types}
use Rattle.expr_nodes.specs.Scope.{Scope}
use Rattle.program_texts.specs.composition.declared.guard.Guard.{Guard}
use Rattle.program_texts.specs.composition.Calls.{scope_at}
use Rattle.program_texts.specs.composition.Givens.{guards_under}
use Rattle.program_texts.specs.composition.Scenes.{Binding}
use Rattle.text_constraints.specs.OwnTexts.{IsTextScope, field_kept, it_given, member_kept, name_kept, own_rule_kept, without_it}

-- a scope that is made for a text
pub made_for : (ts : Types) (holder : ℕ) (s : Scope) → s ≡ scope_at ts holder None [] → IsTextScope ts holder s
unfolding IsTextScope
made_for ts holder s is = ap without_it is

module _ (ts : Types) (bindings : List Binding) (object : Path) (t : ℕ) (m : Member) (before now : Scope) (under : List Guard) where
  -- the names of a field
  pub names_are : (f : FieldTree) → IsTextScope ts m.holder before → now ≡ record before { it = it_given ts f } → under ≡ guards_under ts object t m.under
      → flat_map (λ (i : Ident). name_kept ts bindings object now under i f) f.names ≡ member_kept ts bindings object t m (MemberTree.Field f)
  unfolding IsTextScope
  names_are f is at conditions =
      ap₂ (λ sc us. flat_map (λ (i : Ident). name_kept ts bindings object sc us i f) f.names) (at ∙ ap (λ (sc : Scope). record sc { it = it_given ts f }) is) conditions
      ∙ sym (flat_map-map (field_kept ts bindings object t) (λ (i : Ident). record { name = i; tree = f; holder = m.holder; under = m.under }) f.names)

  -- a rule
  pub rule_here : (r : RuleTree) → IsTextScope ts m.holder before → now ≡ record before { it = None } → under ≡ guards_under ts object t m.under
      → own_rule_kept ts.table bindings object now under r ∷ [] ≡ member_kept ts bindings object t m (MemberTree.Rule r)
  unfolding IsTextScope
  rule_here r is at conditions = ap₂ (λ sc us. own_rule_kept ts.table bindings object sc us r ∷ []) (at ∙ is) conditions
