use Rattle.std.proofs.Common.{◌+◌, ◌*◌, ◌-◌, flat_map, take}
use Rattle.program_texts.specs.Asked.{IsGathered}
use Rattle.program_texts.specs.SeenConditions.{conditions_after}
use Rattle.program_texts.specs.SeenTexts.{types_in}
use Rattle.program_texts.proofs.texts.ProgramTexts.+conditions.Given as goal

abbrev pub decreases-gather : goal.decreases-gather
decreases-gather l = 3 * l.steps

abbrev pub decreases-gather_subtype : goal.decreases-gather_subtype
decreases-gather_subtype l = 3 * l.steps + 2

abbrev pub decreases-gather_field : goal.decreases-gather_field
decreases-gather_field l = 3 * l.steps + 1

abbrev pub invariant-gather-loop-subtype : goal.invariant-gather-loop-subtype
invariant-gather-loop-subtype l = IsGathered (types_in l.self) l.of l.fn.into l.into (flat_map (conditions_after (l.steps - 1) (types_in l.self) l.of) (take l.subtype-index l.under))
