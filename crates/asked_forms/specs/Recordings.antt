-- The rules that ask a run for the traces of a recording.
use Rattle.std.specs.Prelude.{◌≡◌, ℕ, ◌+◌, ◌&&◌, Bool, true, false, cond, nat_eq, List, [], ◌∷◌, length, take, flat_map, pos}
use Rattle.std.specs.List.{list_any, list_all}
use Rattle.osc_base.specs.declared.path.Path.{Path}
use Rattle.osc_base.specs.declared.sample.Sample.{Sample}
use Rattle.osc_base.specs.Comparisons.{same_number}
use Rattle.osc_base.specs.Paths.{same_path}
use Rattle.box_eval.specs.FlatRules.{FlatRule, Slot, Whole, Equal, Always, Not, all_of}
use Rattle.field_flatten.specs.composition.declared.run.Run.{Run}
use Rattle.field_flatten.specs.composition.declared.run.Trace.{Trace}
use Rattle.field_flatten.specs.composition.Scenes.{Scene, vehicles, guards}
use Rattle.field_flatten.specs.Shapes.{Layout}
use Rattle.field_flatten.specs.Rules.{layout, presence_rules, sample_slots}
use Rattle.asked_forms.specs.declared.traces.Traces.{Traces}
use Rattle.asked_forms.specs.AskedForms.{Say}

-- ---- a run has the traces of a recording

abbrev pub same_sample : Sample → Sample → Bool
same_sample a b = same_number a.lane b.lane && (same_number a.position b.position && same_number a.speed b.speed)

abbrev pub same_samples : List Sample → List Sample → Bool
same_samples [] [] = true
same_samples (a ∷ others) (b ∷ more) = same_sample a b && same_samples others more
same_samples _ _ = false

abbrev pub same_trace : Trace → Trace → Bool
same_trace a b = same_path a.path b.path && same_samples a.samples b.samples

-- a run ends when the recording does, and each trace of the recording is one of the run's
abbrev pub has_traces : Traces → Run → Bool
has_traces t run = nat_eq run.end t.end && list_all (λ x. list_any (same_trace x) run.traces) t.traces

-- each trace of a recording has a sample for each tick from 0 to the end
abbrev pub are_counted : Traces → Bool
are_counted t = list_all (λ (x : Trace). nat_eq (length x.samples) (t.end + 1)) t.traces

-- ---- the rules

-- a vehicle has this sample at a tick
abbrev pub sample_rule : Layout → Path → ℕ → Sample → FlatRule
sample_rule at vehicle tick s =
    let slots = sample_slots at vehicle tick in
    all_of (Equal (Slot slots.lane) (Whole s.lane) ∷ Equal (Slot slots.position) (Whole s.position) ∷ Equal (Slot slots.speed) (Whole s.speed) ∷ [])

-- a vehicle has these samples from a tick on
abbrev pub sample_rules : Layout → Path → ℕ → List Sample → List FlatRule
sample_rules at vehicle tick [] = []
sample_rules at vehicle tick (s ∷ ss) = sample_rule at vehicle tick s ∷ sample_rules at vehicle (tick + 1) ss

-- A vehicle of the scene is there, and has the samples of a trace. Samples past the last tick have no slots, and no run has them. A trace of
-- another path is met by no run.
abbrev pub trace_rules : Scene → Layout → Trace → List FlatRule
trace_rules scene at t =
    cond (list_any (same_path t.path) (vehicles scene))
    (all_of (presence_rules at (guards scene t.path)) ∷ sample_rules at t.path 0 (take (scene.setting.ticks + 1) t.samples))
    (Not Always ∷ [])

-- the rules that pin a form of a scene to a recording: that of the end, and those of each trace
abbrev pub pins : Scene → Traces → List FlatRule
pins scene t = Equal (layout scene).end (Whole (pos t.end)) ∷ flat_map (trace_rules scene (layout scene)) t.traces

-- the rules of a recording say that a run has its traces
abbrev pub PinsSay : Type 0
PinsSay = (scene : Scene) (t : Traces) → are_counted t ≡ true → Say scene (pins scene t) (has_traces t)
