use Rattle.std.proofs.Common.{◌∙◌, ◌++◌, ◌∷◌, [], sym, ap, cond, Some}
use Rattle.indexmap.specs.IndexMap.{get_by}
use Rattle.path_index.specs.osc_base.Paths.{same_path}
use Rattle.path_index.proofs.of_osc_base.PathEquality.{path_eq}
use Rattle.path_index.proofs.Keys.{found_by}
use Rattle.keep_rules.specs.TargetRows.{row_at}
use Rattle.keep_rules.proofs.RowLaws.{row_of, row_put, pushed}
use Rattle.keep_rules.proofs.rows.TargetRows.push.Goals as goal

pub returns : goal.returns
returns c = λ path.
    ap row_of (sym (found_by c.insert.new.self path) ∙ c.in_ok-insert.ensures.updates.0 path
    ∙ (λ k. cond (path_eq c.in_ok-taken.taken.target path k) (Some c.push.new.self) (found_by c.take.new.self.rows path k)))
    ∙ row_put (same_path c.in_ok-taken.taken.target path) c.push.new.self (get_by (same_path path) c.take.new.self.rows)
    ∙ ap (cond (same_path c.in_ok-taken.taken.target path) c.push.new.self) (c.in_ok-taken.ensures.others path)
    ∙ pushed (row_at c.args.self.now) c.args.target.now c.in_ok-taken.taken.target path c.push.new.self c.args.number c.in_ok-taken.ensures.target
    (c.in_ok-push.ensures.ok ∙ ap (λ row. row ++ c.args.number ∷ []) c.in_ok-taken.ensures.was)
