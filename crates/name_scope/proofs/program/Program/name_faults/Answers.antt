use Rattle.std.proofs.Common.{◌≡◌, ◌∙◌, sym, ap, subst}
use Rattle.dsl_tree.specs.osc_base.FaultRows.{IsFault, IsFirst, first_fault}
use Rattle.name_scope.specs.Headings.{heading_rows}
use Rattle.dsl_tree.proofs.of_osc_base.FaultRows.{is_first}
use Rattle.name_scope.proofs.program.Program.name_faults.Goals as goal

pub returns-clause-least : goal.returns-clause-least
returns-clause-least c =
    let seen : c.as_slice.result.now ≡ c.args.self.now = c.as_slice.ensures.value ∙ c.self.view_is in
    subst (IsFirst (IsFault (heading_rows c.args.self.now))) (sym (c.first_heading_fault.ensures ∙ ap (λ fs. first_fault (heading_rows fs)) seen)) (is_first (heading_rows c.args.self.now))
