-- A reply without a run is right whatever the text of runs is.
use Rattle.std.proofs.Common.{ℕ, List, inl, inr}
use Rattle.instance_check.specs.composition.declared.run.Run.{Run}
use Rattle.instance_check.specs.composition.Scenes.{Scene}
use Rattle.command_replies.specs.Reply.{Answer}
use Rattle.search_answers.specs.SearchAnswers.{IsSearchReply, refuted, undecided}
use Rattle.search_answers.specs.Searches.{IsNoRun}

pub no_run : (text : Run → List ℕ) (scene : Scene) (seed cuts : ℕ) (reply : Answer) → IsNoRun scene seed cuts reply → IsSearchReply text scene seed cuts reply
no_run text scene seed cuts reply (inl found) = refuted found.0 found.1 found.2
no_run text scene seed cuts reply (inr found) = undecided found.0 found.1 found.2
