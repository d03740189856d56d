-- What makes a run an instance of a scene: a list of claims, clause after clause, all of which hold.
use Rattle.std.specs.Prelude.{◌≡◌, ◌+◌, ◌*◌, ◌&&◌, Bool, true, false, cond, not, List, [], ◌∷◌, ◌++◌, Option, Some, None, length, map, filter, flat_map, find, nat_eq, nat_le, nat_lt, ℤ, pos}
use Rattle.std.specs.Option.{option_map_or}
use Rattle.std.specs.List.{list_all}
use Rattle.expr_nodes.specs.osc_base.declared.fault.Place.{Place}
use Rattle.expr_nodes.specs.osc_base.declared.path.Path.{Path}
use Rattle.expr_nodes.specs.osc_base.declared.sample.Sample.{Sample}
use Rattle.expr_nodes.specs.osc_base.Paths.{root, same_path}
use Rattle.composition.specs.declared.clause.Clause.{Clause}
use Rattle.composition.specs.declared.setting.Setting.{Setting}
use Rattle.composition.specs.declared.run.Choice.{Choice}
use Rattle.composition.specs.declared.run.Span.{Span}
use Rattle.composition.specs.declared.run.Value.{Value}
use Rattle.composition.specs.declared.run.Run.{Run}
use Rattle.composition.specs.RunParts.{span_in}
use Rattle.composition.specs.Scenes.{Scene, choices, values, phases, vehicles, root_do, has_root_do}
use Rattle.composition.specs.There.{is_there}
use Rattle.composition.specs.Ranges.{lies_between, in_range}
use Rattle.composition.specs.Items.{Item, OfHard, OfDefault, OfTyped, OfPhase, OfModifier, OfMotion, items, item_holds, is_hard}

-- what a clause says at a path, at a place of the source if it is about one, and whether it is so
pub record Claim : Type 0 where
  pub clause : Clause
  pub path : Path
  pub place : Option Place
  pub holds : Bool

-- a claim about a path alone
abbrev pub claim : Clause → Path → Bool → Claim
claim clause path holds = record { clause = clause; path = path; place = None; holds = holds }

-- a claim about a path and a place of the source
abbrev pub claim_at : Clause → Path → Place → Bool → Claim
claim_at clause path place holds = record { clause = clause; path = path; place = Some place; holds = holds }

-- ---- listed: the run lists exactly what is there, in the order of expansion, and each trace has a sample for each tick up to the end

-- A claim for each place of two lists, of which the first is what is to be listed. It is at what is to stand there, or at what the run has past
-- the end.
abbrev pub listed : List Path → List Path → List Claim
listed [] [] = []
listed [] (extra ∷ more) = claim Clause.Listed extra false ∷ []
listed (wanted ∷ others) [] = claim Clause.Listed wanted false ∷ []
listed (wanted ∷ others) (given ∷ more) = claim Clause.Listed wanted (same_path wanted given) ∷ listed others more

-- those of some paths that are there
abbrev pub those_there : Scene → Run → List Path → List Path
those_there scene run paths = filter (is_there scene run) paths

-- the paths of all four lists, then the lengths of the traces
abbrev pub listed_claims : Scene → Run → List Claim
listed_claims scene run =
    listed (those_there scene run (map (λ c. c.path) (choices scene))) (map (λ c. c.path) run.choices)
    ++ listed (those_there scene run (map (λ v. v.path) (values scene))) (map (λ v. v.path) run.values)
    ++ listed (those_there scene run (map (λ p. p.path) (phases scene))) (map (λ p. p.path) run.phases)
    ++ listed (those_there scene run (vehicles scene)) (map (λ t. t.path) run.traces)
    ++ map (λ t. claim Clause.Listed t.path (nat_eq (length t.samples) (run.end + 1))) run.traces

-- ---- end: the run has the setting's tick, ends within its ticks and together with `do`, or at once without one

-- the run ends when the `do` of the named scenario does, or at tick 0 without one
abbrev pub ends_with_root_do : Scene → Run → Bool
ends_with_root_do scene run = cond (has_root_do scene) (option_map_or (λ s. nat_eq run.end s.end) (span_in run root_do) false) (nat_eq run.end 0)

-- what is claimed of the end, at the `do` or at the root
abbrev pub end_claim : Scene → Run → Claim
end_claim scene run =
    claim Clause.End (cond (has_root_do scene) root_do root)
    (nat_eq run.tick scene.setting.tick && (nat_le run.end scene.setting.ticks && ends_with_root_do scene run))

-- ---- bounds: everything is in its type or range

-- the greatest position on the road, in micrometres
abbrev pub road_end : Setting → ℤ
road_end setting = pos (setting.road * 1000000)

-- the greatest speed, in millimetres a second
abbrev pub top_speed : ℤ
top_speed = pos 1000000000

-- a sample is on a lane and on the road, and not too fast
abbrev pub sample_in_range : Setting → Sample → Bool
sample_in_range setting s =
    lies_between (pos 1) (pos setting.lanes) s.lane && (lies_between (pos 0) (road_end setting) s.position && lies_between (pos 0) top_speed s.speed)

-- a choice is one of the members
abbrev pub choice_in_range : Scene → Choice → Bool
choice_in_range scene c = option_map_or (λ spot. nat_lt c.member spot.members) (find (λ spot. same_path spot.path c.path) (choices scene)) false

-- a value is what its field may hold
abbrev pub value_in_range : Scene → Value → Bool
value_in_range scene v = option_map_or (λ spot. in_range scene.texts spot.range v.held) (find (λ spot. same_path spot.path v.path) (values scene)) false

-- a phase doesn't end before it starts, and ends within the ticks
abbrev pub span_in_range : Setting → Span → Bool
span_in_range setting s = nat_le s.start s.end && nat_le s.end setting.ticks

-- choices, values, phases and samples, in this order
abbrev pub bounds_claims : Scene → Run → List Claim
bounds_claims scene run =
    map (λ c. claim Clause.Bounds c.path (choice_in_range scene c)) run.choices
    ++ map (λ v. claim Clause.Bounds v.path (value_in_range scene v)) run.values
    ++ map (λ s. claim Clause.Bounds s.path (span_in_range scene.setting s)) run.phases
    ++ map (λ t. claim Clause.Bounds t.path (list_all (sample_in_range scene.setting) t.samples)) run.traces

-- ---- hard, default, arranged, modifier, motion: each item holds

-- the claim of an item; that a value is a number of its enum is a claim of bounds already
abbrev pub item_claim : Item → Bool → List Claim
item_claim (OfHard o) holds = claim_at Clause.Hard o.holder o.place holds ∷ []
item_claim (OfDefault later o) holds = claim_at Clause.Default o.holder o.place holds ∷ []
item_claim (OfTyped path numbers) holds = []
item_claim (OfPhase phase) holds = claim Clause.Arranged phase.path holds ∷ []
item_claim (OfModifier m tick) holds = claim_at Clause.Modifier m.phase m.place holds ∷ []
item_claim (OfMotion vehicle tick) holds = claim Clause.Motion vehicle holds ∷ []

-- the claims of some items
abbrev pub item_claims : Scene → Run → List Item → List Claim
item_claims scene run these = flat_map (λ i. item_claim i (item_holds scene run i)) these

-- ---- all claims

-- the lists, the end and the bounds come first, then the hard constraints, then all other items
abbrev pub claims : Scene → Run → List Claim
claims scene run =
    listed_claims scene run
    ++ end_claim scene run ∷ []
    ++ bounds_claims scene run
    ++ item_claims scene run (filter is_hard (items scene))
    ++ item_claims scene run (filter (λ i. not (is_hard i)) (items scene))

-- a run is an instance of a scene if every claim holds
abbrev pub is_instance : Scene → Run → Bool
is_instance scene run = list_all (λ c. c.holds) (claims scene run)

-- the run is an instance of the scene
abbrev pub IsInstance : Scene → Run → Type 0
IsInstance scene run = is_instance scene run ≡ true
