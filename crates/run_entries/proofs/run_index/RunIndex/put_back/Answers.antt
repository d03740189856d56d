use Rattle.std.proofs.Common.{◌∙◌, sym, Some, cond}
use Rattle.osc_base.proofs.PathEquality.{path_eq}
use Rattle.run_entries.proofs.Keys.{found_by}
use Rattle.run_entries.proofs.run_index.RunIndex.put_back.Goals as goal

pub returns : goal.returns
returns c =
    λ other. sym (found_by c.insert.new.self other) ∙ c.in_ok-insert.ensures.updates.0 (record { ref_ptr = c.args.path.ref_ptr; now = other })
    ∙ (λ k. cond (path_eq c.args.path.now other k) (Some c.args.place) (found_by c.args.self.now.places other k))
