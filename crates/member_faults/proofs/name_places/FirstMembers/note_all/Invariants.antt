use Rattle.std.proofs.Common.{◌≡◌, ℕ, List, None, Some, cond, drop}
use Rattle.std.specs.Option.{option_or}
use Rattle.member_faults.specs.NamePlaces.{has_text, lent_names, number_in}
use Rattle.member_faults.proofs.name_places.FirstMembers.note_all.Given as goal

abbrev pub invariant-loop-name : goal.invariant-loop-name
invariant-loop-name l =
    (other : List ℕ) → option_or (number_in l.fn.self other) (cond (has_text other (lent_names l.names)) (Some l.number) None)
    ≡ option_or (number_in l.self other) (cond (has_text other (lent_names (drop l.name-index l.names))) (Some l.number) None)
