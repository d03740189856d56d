use Rattle.std.proofs.Common.{◌∙◌, sym, ap, option_and_then, slice_get}
use Rattle.osc_base.specs.Paths.{same_path}
use Rattle.composition.proofs.of_path_index.Firsts.{find_is, item_is}
use Rattle.run_entries.proofs.run_index.found.Goals as goal

pub returns-in-Some : goal.returns-in-Some
returns-in-Some g c =
    item_is c.args.things.now c.in-Some.place c.get-in-Some.result c.get-in-Some.ensures.lookup
    ∙ ap (option_and_then (slice_get c.args.things.now)) (c.in-Some.ensures ∙ c.requires c.args.path.now)
    ∙ sym (find_is (λ x. same_path (g.T.HasPath.path_of x) c.args.path.now) c.args.things.now)

pub returns-in-None : goal.returns-in-None
returns-in-None g c =
    ap (option_and_then (slice_get c.args.things.now)) (c.in-None.ensures ∙ c.requires c.args.path.now)
    ∙ sym (find_is (λ x. same_path (g.T.HasPath.path_of x) c.args.path.now) c.args.things.now)
