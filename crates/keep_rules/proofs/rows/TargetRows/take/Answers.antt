use Rattle.std.proofs.Common.{◌∙◌, sym, ap, cond, None}
use Rattle.indexmap.specs.IndexMap.{get_by}
use Rattle.path_index.specs.osc_base.Paths.{same_path}
use Rattle.path_index.proofs.of_osc_base.PathEquality.{path_eq}
use Rattle.path_index.proofs.Keys.{found_by}
use Rattle.keep_rules.specs.TargetRows.{row_at}
use Rattle.keep_rules.proofs.RowLaws.{row_of, row_gone, key_is, numbers_are, always_on}
use Rattle.keep_rules.proofs.rows.TargetRows.take.Goals as goal

pub returns-in-Some-clause-target : goal.returns-in-Some-clause-target
returns-in-Some-clause-target c = key_is c.args.self.now.rows c.args.target.now c.in-Some.target c.in-Some.ensures.key

pub returns-in-Some-clause-was : goal.returns-in-Some-clause-was
returns-in-Some-clause-was c = ap row_of (c.in-Some.ensures.value ∙ found_by c.args.self.now.rows c.args.target.now)

pub returns-in-Some-clause-others : goal.returns-in-Some-clause-others
returns-in-Some-clause-others c = λ path. ap row_of (sym (found_by c.swap_remove_entry.new.self path) ∙ c.swap_remove_entry.ensures.updates.0 path ∙ (λ k. cond (path_eq c.args.target.now path k) None (found_by c.args.self.now.rows path k)))
    ∙ row_gone (same_path c.args.target.now path) (get_by (same_path path) c.args.self.now.rows)

pub returns-in-None-clause-was : goal.returns-in-None-clause-was
returns-in-None-clause-was c = numbers_are c.no_numbers.result (row_at c.args.self.now c.args.target.now) c.no_numbers.ensures.numbers
    (ap row_of (c.in-None.ensures.value ∙ found_by c.args.self.now.rows c.args.target.now))

pub returns-in-None-clause-others : goal.returns-in-None-clause-others
returns-in-None-clause-others c = always_on c.no_numbers.result _ (λ path. ap row_of (sym (found_by c.swap_remove_entry.new.self path) ∙ c.swap_remove_entry.ensures.updates.0 path ∙ (λ k. cond (path_eq c.args.target.now path k) None (found_by c.args.self.now.rows path k)))
    ∙ row_gone (same_path c.args.target.now path) (get_by (same_path path) c.args.self.now.rows))
