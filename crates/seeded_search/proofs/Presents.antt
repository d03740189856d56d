-- What the present box says of its slots and rules.
use Rattle.std.proofs.Common.{◌≡◌, sym, ap, ◌∙◌, ⊎_elim, ℕ, ◌<◌, false, List, length, Option}
use Rattle.std.proofs.lemmas.Bool.{false≢true, cases_lt}
use Rattle.std.specs.Option.{option_map_or}
use Rattle.box_eval.specs.declared.rule.Rule.{Rule}
use Rattle.box_eval.specs.declared.bounds.Pair.{Pair}
use Rattle.box_eval.specs.Box.{low_at, high_at, IsOnePoint}
use Rattle.box_eval.specs.Verdict.{verdict_of}
use Rattle.search_laws.specs.record_trees.Record.{is_false, may_close}
use Rattle.search_laws.specs.record_trees.Guided.{NoneFalse}
use Rattle.box_eval.proofs.Parts.{low_past}
use Rattle.search_laws.proofs.of_record_trees.Settled.{none_false_from}
use Rattle.seeded_search.proofs.Working.{below_length}

-- where no slot below the number of slots is wide, the box has one point
pub one_point : (ends : List Pair) → ((slot : ℕ) → slot < length ends → low_at ends slot ≡ high_at ends slot) → IsOnePoint ends
one_point ends each = record { same = λ slot. ⊎_elim (λ less. each slot less) (λ past. low_past ends slot past) (cases_lt slot (length ends)) }

-- where no rule closes the box, none is false
pub none_close : (ends : List Pair) (rules : List Rule) → ((k : ℕ) → k < length rules → may_close rules ends k ≡ false) → NoneFalse ends rules
none_close ends rules each = none_false_from rules ends (λ k rule is says.
    false≢true (sym (each k (below_length rules k rule is)) ∙ (ap (λ (o : Option Rule). option_map_or (λ r. is_false (verdict_of ends r)) o false) is ∙ ap is_false says)))
