use Rattle.std.proofs.Common.{◌∙◌, sym, map, string_bytes}
use Rattle.clap.specs.Words.{app_of, fault_of}
use Rattle.clap.proofs.WalkLemmas.{both}
use Rattle.command_words.proofs.FaultAnswers.{help_found, refusal_found}
use Rattle.command_words.proofs.OneFault.{one_fault}
use Rattle.command_words.proofs.parse.parse.Goals as goal

pub returns-in-Ok : goal.returns-in-Ok
returns-in-Ok c = (
  c.in-Ok.ensures.kinds c.requires.simple,
  c.in-Ok.ensures.parsed,
  (c.in-Ok.ensures.matches (both _ _ c.requires.simple).0).0,
)

pub returns-in-DisplayHelp : goal.returns-in-DisplayHelp
returns-in-DisplayHelp c =
    let words = map string_bytes c.args.words.now in
    help_found _ (fault_of (app_of c.args.command) words) (one_fault (app_of c.args.command) words c.requires.leaf)
    (c.in-Err.ensures.kinds c.requires.simple) (sym c.kind.ensures ∙ c.in-DisplayHelp.is)

pub returns : goal.returns
returns c =
    let words = map string_bytes c.args.words.now in
    refusal_found _ (fault_of (app_of c.args.command) words) (one_fault (app_of c.args.command) words c.requires.leaf)
    (c.in-Err.ensures.kinds c.requires.simple) (λ e. c.in_default.not-OutOfMemory (c.kind.ensures ∙ e)) (λ e. c.in_default.not-DisplayHelp (c.kind.ensures ∙ e))
