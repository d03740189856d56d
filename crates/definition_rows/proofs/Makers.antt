-- Shorthands for trees, settings, runs and answers.
use Rattle.std.specs.Prelude.{ℕ, Bool, List, [], ◌∷◌, Option, Some, None, codes, option_map, pos}
use Rattle.osc_base.specs.declared.fault.Place.{Place}
use Rattle.osc_base.specs.declared.path.Path.{Path}
use Rattle.osc_base.specs.declared.path.Step.{Step}
use Rattle.osc_base.specs.declared.sample.Sample.{Sample}
use Rattle.osc_base.specs.Paths.{path_of}
use Rattle.dsl_tree.specs.declared.parts.Ident.{Ident}
use Rattle.dsl_tree.specs.declared.parts.Digits.{Digits}
use Rattle.dsl_tree.specs.declared.parts.Signed.{Signed}
use Rattle.type_heads.specs.Types.{Program}
use Rattle.type_heads.specs.DeclaredTypes.{types_of}
use Rattle.field_flatten.specs.composition.declared.clause.Clause.{Clause}
use Rattle.field_flatten.specs.composition.declared.setting.Setting.{Setting}
use Rattle.field_flatten.specs.composition.declared.run.Choice.{Choice}
use Rattle.field_flatten.specs.composition.declared.run.Held.{Held}
use Rattle.field_flatten.specs.composition.declared.run.Value.{Value}
use Rattle.field_flatten.specs.composition.declared.run.Span.{Span}
use Rattle.field_flatten.specs.composition.declared.run.Trace.{Trace}
use Rattle.field_flatten.specs.composition.declared.run.Run.{Run}
use Rattle.field_flatten.specs.composition.Scenes.{Scene}
use Rattle.field_flatten.specs.composition.Expanded.{scene}
use Rattle.field_flatten.specs.composition.SceneFaults.{named_scenario}
use Rattle.run_check.specs.declared.wrong.Wrong.{Wrong}
use Rattle.run_check.specs.Answers.{first_wrong}

-- ---- trees

-- the place of a token: its file, its line and column, and its number
abbrev pub at : ℕ → ℕ → ℕ → ℕ → Place
at file line column token = record { file = file; line = line; column = column; token = token }

abbrev pub name_at : Place → List ℕ → Ident
name_at place text = record { place = place; text = text }

abbrev pub digits_at : Place → ℕ → ℕ → Digits
digits_at place digits places = record { place = place; digits = digits; places = places }

abbrev pub signed_at : Place → Bool → ℕ → ℕ → Signed
signed_at place minus digits places = record { place = place; minus = minus; number = digits_at place digits places }

-- ---- scenes

-- the setting with so many ticks of 100 milliseconds, and otherwise as the words have it by themselves
abbrev pub within : ℕ → Setting
within ticks = record { ticks = ticks; lanes = 3; road = 1000; tick = 100 }

-- what is found in the scene of the scenario `top`
abbrev pub of_top : {X : Type 0} → Program → Setting → (Scene → X) → Option X
of_top p setting find = let ts = types_of p in option_map (λ t. find (scene ts t setting)) (named_scenario ts None (codes "top"))

-- ---- paths

abbrev pub name : List ℕ → Step
name text = Step.Name text

abbrev pub member : ℕ → Step
member number = Step.Member number

abbrev pub index : ℕ → Step
index number = Step.Index number

abbrev pub root : Path
root = path_of []

abbrev pub ego : Path
ego = path_of (name (codes "ego") ∷ [])

-- the `do` of the named scenario, and a member of it
abbrev pub whole : Path
whole = path_of (name (codes "do") ∷ [])

abbrev pub part : ℕ → Path
part number = path_of (name (codes "do") ∷ member number ∷ [])

-- ---- runs

abbrev pub chose : Path → ℕ → Choice
chose path number = record { path = path; member = number }

abbrev pub number : List Step → ℕ → Value
number steps n = record { path = path_of steps; held = Held.Number (pos n) }

abbrev pub span : Path → ℕ → ℕ → Span
span path start end = record { path = path; start = start; end = end }

abbrev pub sample : ℕ → ℕ → ℕ → Sample
sample lane position speed = record { lane = pos lane; position = pos position; speed = pos speed }

abbrev pub trace : Path → List Sample → Trace
trace path samples = record { path = path; samples = samples }

-- the limits of a vehicle, in thousandths
abbrev pub limits : List ℕ → ℕ → ℕ → List Value
limits vehicle speed acceleration =
    number (name vehicle ∷ name (codes "max_speed") ∷ []) speed
    ∷ number (name vehicle ∷ name (codes "max_acceleration") ∷ []) acceleration
    ∷ []

-- a run at tick 0 with values alone
abbrev pub values_only : List Value → Run
values_only values = record { choices = []; end = 0; phases = []; tick = 100; traces = []; values = values }

-- ---- answers

-- what a check of the scenario `top` says of a run
abbrev pub checked : Program → Setting → Run → Option (Option Wrong)
checked p setting run = of_top p setting (λ sc. first_wrong sc run)

abbrev pub is_instance : Option (Option Wrong)
is_instance = Some None

abbrev pub fails : Clause → Path → Option (Option Wrong)
fails clause path = Some (Some (record { clause = clause; path = path; place = None }))

abbrev pub fails_at : Clause → Path → Place → Option (Option Wrong)
fails_at clause path place = Some (Some (record { clause = clause; path = path; place = Some place }))
