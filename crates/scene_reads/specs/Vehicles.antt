-- The vehicles of a scene, as the program lists them.
use Rattle.osc_base.specs.declared.path.Path.{Path}
use Rattle.scene_reads.specs.declared.driven.Vehicle.{Vehicle}

-- where a vehicle stands
abbrev pub vehicle_path : Vehicle → Path
vehicle_path v = v.path.now
