use Rattle.std.proofs.Common.{◌∙◌, ◌+◌, None, Some, ap, bytes_eq, cond, drop, sym}
use Rattle.std.proofs.lemmas.List.{drop_all}
use Rattle.std.specs.Option.{option_or}
use Rattle.member_faults.specs.NamePlaces.{has_text, lent_names, number_in}
use Rattle.member_faults.proofs.NameNotes.{noted, or_nothing}
use Rattle.fault_sets.proofs.RowSteps.{left_is}
use Rattle.member_faults.proofs.name_places.FirstMembers.note_all.Goals as goal

pub loop-name-preserved : goal.loop-name-preserved
loop-name-preserved c = λ other.
    let number = c.args.number in
    let old = number_in c.loop-name.self other in
    let rest = has_text other (lent_names (drop (c.loop-name.name-index + 1) c.args.names.now)) in
    c.loop-name.invariant other
    ∙ ap (λ ns. option_or old (cond (has_text other (lent_names ns)) (Some number) None)) (left_is c.args.names.now c.loop-name.name-index c.name-item.result c.loop-name-test.true c.name-item.is)
    ∙ noted old number (bytes_eq c.name-item.result.now.text other) rest
    ∙ ap (λ o. option_or o (cond rest (Some number) None)) (ap (λ t. option_or old (cond (bytes_eq t other) (Some number) None)) (sym c.as_str.ensures) ∙ sym (c.in_ok-note.ensures other))

pub returns : goal.returns
returns c = λ other.
    sym (c.loop-name.invariant other
    ∙ ap (λ ns. option_or (number_in c.loop-name.self other) (cond (has_text other (lent_names ns)) (Some c.args.number) None)) (drop_all c.loop-name.name-index c.args.names.now c.loop-name-test.false)
    ∙ or_nothing (number_in c.loop-name.self other))
