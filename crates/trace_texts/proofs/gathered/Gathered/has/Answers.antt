use Rattle.std.proofs.Common.{◌∙◌, ap}
use Rattle.std.specs.Option.{is_some}
use Rattle.trace_texts.proofs.Seen.{found_by}
use Rattle.trace_texts.proofs.gathered.Gathered.has.Goals as goal

pub returns : goal.returns
returns c = c.contains_key.ensures ∙ ap is_some (found_by c.args.self.now.seen c.args.path.now) ∙ c.args.self.now.are_seen c.args.path.now
