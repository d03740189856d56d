use Rattle.std.proofs.Common.{◌∙◌, sym, ap, true, option_copied}
use Rattle.std.specs.Option.{option_map_or}
use Rattle.run_entries.specs.composition.Arrangement.{same_span}
use Rattle.run_entries.specs.composition.Items.{times_of}
use Rattle.run_entries.proofs.of_path_index.Firsts.{item_is}
use Rattle.run_entries.specs.SeenRuns.{seen_run}
use Rattle.run_clauses.proofs.Ticks.{chosen_span}
use Rattle.run_clauses.proofs.arrangement.chose_span.Goals as goal

pub returns-in-Some : goal.returns-in-Some
returns-in-Some c =
    c.same_span.ensures
    ∙ ap (λ o. option_map_or (λ m. same_span (times_of (seen_run c.args.run.now)) m c.args.whole.now) o true)
    (sym (ap option_copied c.in-Some.is) ∙ item_is c.args.phases.now c.chosen.result c.get.result c.get.ensures.lookup)
    ∙ chosen_span (times_of (seen_run c.args.run.now)) c.args.whole.now c.chosen.result c.args.phases.now c.chosen.ensures

pub returns-in-None : goal.returns-in-None
returns-in-None c =
    ap (λ o. option_map_or (λ m. same_span (times_of (seen_run c.args.run.now)) m c.args.whole.now) o true)
    (sym (ap option_copied c.in-None.is) ∙ item_is c.args.phases.now c.chosen.result c.get.result c.get.ensures.lookup)
    ∙ chosen_span (times_of (seen_run c.args.run.now)) c.args.whole.now c.chosen.result c.args.phases.now c.chosen.ensures
