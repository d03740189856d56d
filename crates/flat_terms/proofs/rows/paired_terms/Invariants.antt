use Rattle.std.proofs.Common.{◌≡◌, ◌++◌, map}
use Rattle.std.specs.Prelude.{option_to_list}
use Rattle.box_eval.specs.FlatRules.{flat_term, paired}
use Rattle.flat_terms.specs.Joins.{term_join}
use Rattle.flat_terms.proofs.rows.paired_terms.Given as goal

abbrev pub invariant-terms : goal.invariant-terms
invariant-terms l =
    map flat_term l.pairs.items ++ paired (term_join l.by) (map flat_term (option_to_list l.waiting ++ l.term-iterator.rest.items))
    ≡ paired (term_join l.by) (map flat_term l.fn.row.items)
