-- What the courses of the program stand for in the definitions.
use Rattle.std.specs.Prelude.{ℕ, List, pos, slice_get, unwrap_or}
use Rattle.osc_base.specs.declared.sample.Sample.{Sample}
use Rattle.field_flatten.specs.composition.Items.{still}
use Rattle.field_flatten.specs.composition.Movement as Movement
use Rattle.run_values.specs.declared.motion.Course.{Course}

-- the sample at a tick, of those that are listed
abbrev pub sample_at : List Sample → ℕ → Sample
sample_at samples tick = unwrap_or (slice_get samples tick) still

-- a course
abbrev pub seen_course : Course → Movement.Course
seen_course c = record {
  tick = c.tick;
  ticks = c.ticks;
  end = pos c.end;
  max_speed = c.max_speed;
  max_acceleration = c.max_acceleration;
  sample = sample_at c.samples.now;
}
