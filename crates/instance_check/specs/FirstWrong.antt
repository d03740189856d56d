-- What is wrong with a run, clause by clause.
use Rattle.std.specs.Prelude.{◌+◌, false, cond, not, List, [], ◌∷◌, Option, find, length, nat_eq, option_map}
use Rattle.std.specs.Option.{option_or}
use Rattle.std.specs.List.{list_all}
use Rattle.osc_base.specs.declared.path.Path.{Path}
use Rattle.run_check.specs.composition.declared.clause.Clause.{Clause}
use Rattle.run_check.specs.composition.declared.run.Choice.{Choice}
use Rattle.run_check.specs.composition.declared.run.Value.{Value}
use Rattle.run_check.specs.composition.declared.run.Span.{Span}
use Rattle.run_check.specs.composition.declared.run.Trace.{Trace}
use Rattle.run_check.specs.composition.declared.spot.ChoiceSpot.{ChoiceSpot}
use Rattle.run_check.specs.composition.declared.spot.ValueSpot.{ValueSpot}
use Rattle.run_check.specs.composition.declared.spot.PhaseSpot.{PhaseSpot}
use Rattle.osc_base.specs.Paths.{root}
use Rattle.run_check.specs.composition.declared.run.Run.{Run}
use Rattle.run_check.specs.composition.Scenes.{Scene, Occurrence, ModifierSpot, choices, values, phases, vehicles, root_do, has_root_do}
use Rattle.run_check.specs.composition.There.{is_there}
use Rattle.run_check.specs.composition.Slots.{ticks_of}
use Rattle.run_check.specs.composition.Claims.{Claim, end_claim, claim, claim_at, choice_in_range, value_in_range, span_in_range, sample_in_range}
use Rattle.run_check.specs.composition.Items.{arranged_holds, modifier_holds, motion_holds}
use Rattle.run_check.specs.declared.wrong.Wrong.{Wrong}
use Rattle.run_check.specs.Answers.{wrong_of}
use Rattle.run_constraints.specs.run_clauses.Listing.{first_unlisted}
use Rattle.run_constraints.specs.FirstConstraints.{first_hard, first_default}

-- the first claim that fails, as the answer tells it
abbrev pub first_of : List Claim → Option Wrong
first_of claims = option_map wrong_of (find (λ (c : Claim). not c.holds) claims)

-- a clause fails at a path
abbrev pub wrong_at : Clause → Path → Wrong
wrong_at clause path = wrong_of (claim clause path false)

-- the path of the first trace that is too long or too short
abbrev pub first_uneven : Run → Option Path
first_uneven run = option_map (λ (t : Trace). t.path) (find (λ (t : Trace). not (nat_eq (length t.samples) (run.end + 1))) run.traces)

-- the first path at which a list isn't what is there, or whose trace is too long or too short
abbrev pub first_path_unlisted : Scene → Run → Option Path
first_path_unlisted scene run =
    option_or (option_or (option_or (option_or
    (first_unlisted (is_there scene run) (λ (c : ChoiceSpot). c.path) (λ (c : Choice). c.path) (choices scene) run.choices)
    (first_unlisted (is_there scene run) (λ (v : ValueSpot). v.path) (λ (v : Value). v.path) (values scene) run.values))
    (first_unlisted (is_there scene run) (λ (p : PhaseSpot). p.path) (λ (p : Span). p.path) (phases scene) run.phases))
    (first_unlisted (is_there scene run) (λ (v : Path). v) (λ (t : Trace). t.path) (vehicles scene) run.traces))
    (first_uneven run)

-- the paths of the first choice, value, phase and trace that are out of range
abbrev pub first_choice_out : Scene → Run → Option Path
first_choice_out scene run = option_map (λ (c : Choice). c.path) (find (λ (c : Choice). not (choice_in_range scene c)) run.choices)

abbrev pub first_value_out : Scene → Run → Option Path
first_value_out scene run = option_map (λ (v : Value). v.path) (find (λ (v : Value). not (value_in_range scene v)) run.values)

abbrev pub first_span_out : Scene → Run → Option Path
first_span_out scene run = option_map (λ (s : Span). s.path) (find (λ (s : Span). not (span_in_range scene.setting s)) run.phases)

abbrev pub first_trace_out : Scene → Run → Option Path
first_trace_out scene run = option_map (λ (t : Trace). t.path) (find (λ (t : Trace). not (list_all (sample_in_range scene.setting) t.samples)) run.traces)

-- the first path of something out of range
abbrev pub first_path_out : Scene → Run → Option Path
first_path_out scene run =
    option_or (option_or (option_or (first_choice_out scene run) (first_value_out scene run)) (first_span_out scene run)) (first_trace_out scene run)

-- where the end of a run is told: at the `do`, or at the root
abbrev pub end_path : Scene → Path
end_path scene = cond (has_root_do scene) root_do root

-- what the lists tell
abbrev pub listed_wrong : Scene → Run → Option Wrong
listed_wrong scene run = option_map (wrong_at Clause.Listed) (first_path_unlisted scene run)

-- what the end tells
abbrev pub end_wrong : Scene → Run → Option Wrong
end_wrong scene run = first_of (end_claim scene run ∷ [])

-- what the bounds tell
abbrev pub bounds_wrong : Scene → Run → Option Wrong
bounds_wrong scene run = option_map (wrong_at Clause.Bounds) (first_path_out scene run)

-- what the first hard constraint that fails tells
abbrev pub hard_wrong : Scene → Run → Option Wrong
hard_wrong scene run = option_map (λ (o : Occurrence). wrong_of (claim_at Clause.Hard o.holder o.place false)) (first_hard scene run scene.occurrences)

-- what the first default that fails tells
abbrev pub default_wrong : Scene → Run → Option Wrong
default_wrong scene run = option_map (λ (o : Occurrence). wrong_of (claim_at Clause.Default o.holder o.place false)) (first_default scene run 0 scene.occurrences)

-- what the first phase that isn't arranged tells
abbrev pub phase_wrong : Scene → Run → Option Wrong
phase_wrong scene run = option_map (λ (p : PhaseSpot). wrong_of (claim Clause.Arranged p.path false)) (find (λ (p : PhaseSpot). not (arranged_holds scene run p)) (phases scene))

-- what the first modifier that fails tells
abbrev pub modifier_wrong : Scene → Run → Option Wrong
modifier_wrong scene run =
    option_map (λ (m : ModifierSpot). wrong_of (claim_at Clause.Modifier m.phase m.place false))
    (find (λ (m : ModifierSpot). not (list_all (modifier_holds scene run m) (ticks_of scene.setting))) scene.modifiers)

-- what the first vehicle that doesn't move as it may tells
abbrev pub motion_wrong : Scene → Run → Option Wrong
motion_wrong scene run =
    option_map (λ (v : Path). wrong_of (claim Clause.Motion v false)) (find (λ (v : Path). not (list_all (motion_holds scene run v) (ticks_of scene.setting))) (vehicles scene))

-- what the constraints, the phases, the modifiers and the vehicles tell, in this order
abbrev pub inner_wrong : Scene → Run → Option Wrong
inner_wrong scene run =
    option_or (hard_wrong scene run) (option_or (default_wrong scene run) (option_or (phase_wrong scene run) (option_or (modifier_wrong scene run) (motion_wrong scene run))))
