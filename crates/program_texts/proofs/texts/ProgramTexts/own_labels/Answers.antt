use Rattle.std.proofs.Common.{◌≡◌, Some, subst}
use Rattle.std.specs.Prelude.{IfSome}
use Rattle.std.specs.Slice.{IsItemAt}
use Rattle.program_calls.specs.SeenLabels.{do_labels, seen_labels}
use Rattle.program_texts.specs.SeenTexts.{types_in}
use Rattle.program_texts.proofs.HeldLabels.{own_found}
use Rattle.program_texts.proofs.texts.ProgramTexts.own_labels.Goals as goal

pub returns-in-Some : goal.returns-in-Some
returns-in-Some c =
    let ts = types_in c.args.self.now in
    subst (λ t. IfSome c.as_ref.result (λ table. seen_labels table.now ≡ do_labels ts t)) c.of.view_is
    (own_found ts c.of.inside.0 c.args.self.now.labels.items c.in-Some.table c.as_ref.result c.args.self.now.labels_are
    (subst (λ xs. IsItemAt xs c.of.inside.0 (Some c.in-Some.table)) c.deref.ensures.value (rw c.in-Some.is at c.get.ensures.lookup)) c.as_ref.ensures.value)
