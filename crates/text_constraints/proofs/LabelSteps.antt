-- Scopes of texts, by the labels of the texts.
use Rattle.std.proofs.Common.{◌≡◌, ◌∙◌, refl, sym, ap, subst, ℕ, List, [], None}
use Rattle.expr_nodes.specs.type_heads.Types.{Types}
use Rattle.expr_nodes.specs.Scope.{Scope}
use Rattle.program_texts.specs.composition.Calls.{scope_at}
use Rattle.program_texts.specs.program_calls.SeenLabels.{LabelHere, do_labels}
use Rattle.program_texts.specs.OwnLabels.{seen_type_labels}
use Rattle.text_constraints.specs.Labelled.{IsLabelled}
use Rattle.text_constraints.specs.OwnTexts.{IsTextScope}
use Rattle.text_constraints.specs.declared.members.TextLabels.{TextLabels}
use Rattle.text_constraints.proofs.ScopeSteps.{made_for}

-- labels that were asked for
pub labelled : (ts : Types) (holder : ℕ) (l : TextLabels) → l.holder ≡ holder → seen_type_labels l.labels ≡ do_labels ts holder → IsLabelled ts holder l
unfolding IsLabelled
labelled ts holder l same is = (same, is)

-- labels are those of the text that they name
pub self_labelled : (ts : Types) (holder : ℕ) (l : TextLabels) → IsLabelled ts holder l → IsLabelled ts l.holder l
unfolding IsLabelled
self_labelled ts holder l is = (refl, is.1 ∙ ap (do_labels ts) (sym is.0))

-- a scope that is made with the labels of a text
pub scope_of_labels : (ts : Types) (holder : ℕ) (l : TextLabels) (table : List LabelHere) (s : Scope) → IsLabelled ts holder l → table ≡ seen_type_labels l.labels
    → (table ≡ do_labels ts l.holder → s ≡ scope_at ts l.holder None []) → IsTextScope ts holder s
unfolding IsLabelled
scope_of_labels ts holder l table s is shown made =
    subst (λ t. IsTextScope ts t s) is.0 (made_for ts l.holder s (made (shown ∙ is.1 ∙ ap (do_labels ts) (sym is.0))))
