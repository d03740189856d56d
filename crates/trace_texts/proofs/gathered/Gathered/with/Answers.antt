use Rattle.std.proofs.Common.{◌∙◌, sym, Some, cond, length}
use Rattle.indexmap.specs.IndexMap.{get_by}
use Rattle.osc_base.specs.Paths.{same_path}
use Rattle.osc_base.proofs.PathEquality.{path_eq}
use Rattle.trace_texts.proofs.Seen.{found_by, seen_more}
use Rattle.trace_texts.proofs.gathered.Gathered.with.Goals as goal

pub invariant_of-result : goal.invariant_of-result
invariant_of-result c = record {
  are_seen = seen_more (λ p. get_by (same_path p) c.args.self.seen) (λ p. get_by (same_path p) c.insert.new.self) c.args.self.traces c.push.new.self c.args.trace c.in_ok-copy.field-0 (length c.as_slice-place.result.now)
      c.in_ok-copy.ensures c.in_ok-push.ensures.ok c.args.self.are_seen
      (λ p. sym (found_by c.insert.new.self p) ∙ c.in_ok-insert.ensures.updates.0 p ∙ (λ k. cond (path_eq c.in_ok-copy.field-0 p k) (Some (length c.as_slice-place.result.now)) (found_by c.args.self.seen p k)));
}
