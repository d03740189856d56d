use Rattle.std.proofs.Common.{◌∙◌, sym, ap, ◌+◌}
use Rattle.std.specs.List.{list_all, range_with_len}
use Rattle.scene_conditions.specs.composition.SeenParts.{seen_modifier}
use Rattle.scene_conditions.specs.composition.Slots.{ticks_of}
use Rattle.run_values.specs.SeenNumbers.{scene_in, run_in}
use Rattle.run_constraints.specs.Watched.{watch_holds}
use Rattle.run_constraints.proofs.Watches.{there_holds, absent_holds}
use Rattle.run_constraints.proofs.modifiers.holds.Goals as goal

pub returns-then-is_there : goal.returns-then-is_there
returns-then-is_there c =
    c.always_holds.ensures ∙ ap (λ n. list_all (watch_holds c.watching.result) (range_with_len 0 (n + 1))) c.ticks_in.ensures
    ∙ there_holds (scene_in c.args.numbers.now) (run_in c.args.numbers.now) (seen_modifier c.args.modifier.now) (ticks_of (scene_in c.args.numbers.now).setting) c.watching.result
    (sym c.in_ok-is_there.ensures ∙ c.if-is_there.true) c.watching.ensures.same

pub returns-else-is_there : goal.returns-else-is_there
returns-else-is_there c =
    absent_holds (scene_in c.args.numbers.now) (run_in c.args.numbers.now) (seen_modifier c.args.modifier.now) (ticks_of (scene_in c.args.numbers.now).setting)
    (sym c.in_ok-is_there.ensures ∙ c.if-is_there.false)

pub always_holds-requires : goal.always_holds-requires
always_holds-requires c = c.watching.ensures.comparable
