-- The parts of an OpenSCENARIO XML file that are the same in each.
use Rattle.std.specs.Prelude.{ℕ, List}
use Rattle.run_exports.specs.declared.xosc_parts.Part.{Part}
use Rattle.run_exports.specs.declared.xosc_parts.TheConstants.{HEAD, VEHICLE, STORYBOARD, TELEPORT, SPEED, STARTED, STORY, EVENT, SHAPE, CORNER, FOLLOWED, STOP, END}

unfoldable pub part_text : Part → List ℕ
part_text Part.Head = HEAD.now
part_text Part.Vehicle = VEHICLE.now
part_text Part.Storyboard = STORYBOARD.now
part_text Part.Teleport = TELEPORT.now
part_text Part.Speed = SPEED.now
part_text Part.Started = STARTED.now
part_text Part.Story = STORY.now
part_text Part.Event = EVENT.now
part_text Part.Shape = SHAPE.now
part_text Part.Corner = CORNER.now
part_text Part.Followed = FOLLOWED.now
part_text Part.Stop = STOP.now
part_text Part.End = END.now
