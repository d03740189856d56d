-- The faults of a path whose defaults are removed.
use Rattle.std.proofs.Common.{◌≡◌, ◌∙◌, sym, ap, ap₂, ◌||◌, not, Bool, Option}
use Rattle.osc_base.specs.declared.fault.Place.{Place}
use Rattle.osc_base.specs.declared.fault.Fault.{Fault}
use Rattle.osc_base.specs.declared.fault.FaultCode.{FaultCode}
use Rattle.osc_base.specs.FaultRows.{row, row_fault, first_of, first_from}
use Rattle.dsl_tree.specs.declared.rules.PathNode.{PathNode}
use Rattle.dsl_tree.specs.Views.{path_tree}
use Rattle.expr_nodes.specs.type_heads.Table.{Table}
use Rattle.expr_nodes.specs.Checks.{IsChecked}
use Rattle.expr_nodes.specs.Fits.{is_read}
use Rattle.expr_nodes.specs.Parts.{of_one}
use Rattle.expr_nodes.specs.Scope.{Scope}
use Rattle.expr_nodes.specs.Seen.{seen_part}
use Rattle.expr_nodes.specs.Typing.{expr_rows, first, typed}
use Rattle.expr_nodes.specs.declared.parts.Checked.{Checked}
use Rattle.program_uses.specs.RuleRows.{remove_rows}
use Rattle.expr_eval.proofs.PathSteps.{path_is_path}

pub removed : (before own last : Option Fault) (place : Place) (known : Checked) (table : Table) (sc : Scope) (p : PathNode) (wrong : Bool) →
    wrong ≡ of_one (seen_part known.typed) (λ t. not (is_read t)) → own ≡ first_of before (row_fault (row place FaultCode.WrongKind wrong)) → place ≡ first (path_tree p) →
    IsChecked table sc (path_tree p) known → last ≡ first_from own (expr_rows table sc (path_tree p)) → last ≡ first_from before (remove_rows table sc (path_tree p))
removed before own last place known table sc p wrong is one at h more =
    more ∙ ap (λ f. first_from f (expr_rows table sc (path_tree p)))
    (one ∙ ap₂ (λ q b. first_of before (row_fault (row q FaultCode.WrongKind b))) at
    (is ∙ ap (λ t. of_one t (λ x. not (is_read x))) h.1 ∙ sym (ap (λ b. not b || of_one (typed table sc (path_tree p)) (λ x. not (is_read x))) (path_is_path p))))
