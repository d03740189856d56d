-- What is made of each sample of a vehicle and of its time.
use Rattle.std.specs.Prelude.{ℕ, ◌+◌, List, [], ◌∷◌}
use Rattle.osc_base.specs.declared.sample.Sample.{Sample}

-- f of each time and sample, one a tick, from a time on
abbrev pub timed : {T : Type 0} → (ℕ → Sample → T) → ℕ → ℕ → List Sample → List T
timed f tick time [] = []
timed f tick time (sample ∷ later) = f time sample ∷ timed f tick (time + tick) later
