-- What a run holds at a path.
use Rattle.std.specs.Prelude.{ℕ, List, Option, find, option_map, option_and_then, slice_get}
use Rattle.expr_nodes.specs.osc_base.declared.path.Path.{Path}
use Rattle.expr_nodes.specs.osc_base.declared.sample.Sample.{Sample}
use Rattle.expr_nodes.specs.osc_base.Paths.{same_path}
use Rattle.composition.specs.declared.run.Run.{Run}
use Rattle.composition.specs.declared.run.Held.{Held}
use Rattle.composition.specs.declared.run.Span.{Span}

-- What a run holds at a path is what the first entry with that path says.

-- the member that a `one_of` chose
abbrev pub choice_in : Run → Path → Option ℕ
choice_in run path = option_map (λ c. c.member) (find (λ c. same_path c.path path) run.choices)

-- the ticks of a phase
abbrev pub span_in : Run → Path → Option Span
span_in run path = find (λ s. same_path s.path path) run.phases

-- what a field holds
abbrev pub held_in : Run → Path → Option Held
held_in run path = option_map (λ v. v.held) (find (λ v. same_path v.path path) run.values)

-- the samples of a vehicle
abbrev pub samples_in : Run → Path → Option (List Sample)
samples_in run path = option_map (λ t. t.samples) (find (λ t. same_path t.path path) run.traces)

-- the sample of a vehicle at a tick
abbrev pub sample_in : Run → Path → ℕ → Option Sample
sample_in run path tick = option_and_then (λ samples. slice_get samples tick) (samples_in run path)
