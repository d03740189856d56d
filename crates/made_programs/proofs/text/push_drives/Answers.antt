use Rattle.made_programs.specs.MadeText.{drive_lines}
use Rattle.made_programs.proofs.Rows.{one_more}
use Rattle.made_programs.proofs.text.push_drives.Goals as goal

pub loop-vehicle-preserved : goal.loop-vehicle-preserved
loop-vehicle-preserved c = one_more (drive_lines c.args.phase) _ _ _ c.loop-vehicle.vehicle c.loop-vehicle.invariant c.in_ok-push_driving.ensures
