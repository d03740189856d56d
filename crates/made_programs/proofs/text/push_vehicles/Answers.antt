use Rattle.made_programs.specs.MadeText.{vehicle_line}
use Rattle.made_programs.proofs.Rows.{one_more}
use Rattle.made_programs.proofs.text.push_vehicles.Goals as goal

pub loop-vehicle-preserved : goal.loop-vehicle-preserved
loop-vehicle-preserved c = one_more vehicle_line _ _ _ c.loop-vehicle.vehicle c.loop-vehicle.invariant c.in_ok-push_vehicle.ensures
