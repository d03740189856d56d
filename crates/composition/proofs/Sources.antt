-- What a scene tells of a path, by the first spots that stand there.
use Rattle.std.proofs.Common.{◌≡◌, ◌∙◌, refl, sym, ap, ap₂, List, [], ◌∷◌, ◌||◌, Bool, true, false, cond, Option, Some, None, map, codes}
use Rattle.std.specs.Prelude.{find, option_and_then, option_map, bytes_eq}
use Rattle.std.specs.Option.{option_or, option_map_or}
use Rattle.std.specs.List.{list_any}
use Rattle.expr_nodes.specs.osc_base.declared.path.Path.{Path}
use Rattle.expr_nodes.specs.osc_base.declared.path.Step.{Step}
use Rattle.expr_nodes.specs.osc_base.declared.path.Step.TheVariants.{Name, Index, Member}
use Rattle.expr_nodes.specs.osc_base.Paths.{path_of, same_path, then_duration, timed_part}
use Rattle.expr_nodes.proofs.of_osc_base.PathEquality.{path_is}
use Rattle.keep_rules.proofs.of_path_index.Durations.{timed_find}
use Rattle.composition.specs.declared.part.Spot.{Spot}
use Rattle.composition.specs.declared.spot.PhaseSpot.{PhaseSpot}
use Rattle.composition.specs.SeenParts.{seen_spot}
use Rattle.composition.specs.SeenSources.{first_read, is_root_timed}
use Rattle.composition.specs.Scenes as Scenes
use Rattle.composition.specs.Scenes.{Scene, Source, OfRun, OfPhase, OfValue, source, source_timed, guards, phases, spot_at}

-- ---- guards

pub found_map : {A B : Type 0} (f : A → B) (test : B → Bool) (xs : List A) → find test (map f xs) ≡ option_map f (find (λ x. test (f x)) xs)
found_map f test [] = refl
found_map {A} {B} f test (x ∷ xs) = by (test (f x)) (found_map f test xs)
  where
    by : (b : Bool) → find test (map f xs) ≡ option_map f (find (λ y. test (f y)) xs) → cond b (Some (f x)) (find test (map f xs)) ≡ option_map f (cond b (Some x) (find (λ y. test (f y)) xs))
    by true h = refl
    by false h = h

module _ (scene : Scene) (spots : List Spot) (seen : scene.spots ≡ map seen_spot spots) (path : Path) where
  at_path : (p : Path) → spot_at scene p ≡ option_map seen_spot (find (λ (s : Spot). same_path s.path p) spots)
  at_path p = ap (find (λ (s : Scenes.Spot). same_path s.path p)) seen ∙ found_map seen_spot (λ (s : Scenes.Spot). same_path s.path p) spots

  before : (o : Option (List Step)) → option_and_then (λ steps. spot_at scene (path_of steps)) o
      ≡ option_map seen_spot (option_and_then (λ steps. find (λ (s : Spot). same_path s.path (path_of steps)) spots) o)
  before None = refl
  before (Some steps) = at_path (path_of steps)

  either : (a b : Option Spot) → option_map_or (λ (s : Scenes.Spot). s.guards) (option_or (option_map seen_spot a) (option_map seen_spot b)) []
      ≡ option_map_or (λ (s : Spot). s.guards) (option_or a b) []
  either None None = refl
  either None (Some b) = refl
  either (Some a) b = refl

  -- the conditions are those of the spot that is read
  pub guards_of : guards scene path ≡ option_map_or (λ (s : Spot). s.guards) (first_read spots path) []
  guards_of =
      ap₂ (λ a b. option_map_or (λ (s : Scenes.Spot). s.guards) (option_or a b) []) (at_path path)
      (before (timed_part path.steps) ∙ ap (option_map seen_spot) (sym (timed_find (λ (s : Spot). s.path) path spots)))
      ∙ either (find (λ (s : Spot). same_path s.path path) spots) (find (λ (s : Spot). same_path (then_duration s.path) path) spots)

-- ---- sources

-- the root's duration is read where `duration` stands alone
abbrev of_root : Option (List Step) → Bool
of_root None = false
of_root (Some []) = true
of_root (Some (step ∷ later)) = false

root_timed : (steps : List Step) → is_root_timed steps ≡ of_root (timed_part steps)
root_timed [] = refl
root_timed (Name name ∷ []) = by (bytes_eq name (codes "duration"))
  where
    by : (b : Bool) → b ≡ of_root (cond b (Some []) None)
    by true = refl
    by false = refl
root_timed (Index number ∷ []) = refl
root_timed (Member number ∷ []) = refl
root_timed (Name n ∷ next ∷ later) = by (timed_part (next ∷ later)) refl
  where
    by : (o : Option (List Step)) → timed_part (next ∷ later) ≡ o → false ≡ of_root (timed_part (Name n ∷ next ∷ later))
    by None e = rw e refl
    by (Some steps) e = rw e refl
root_timed (Index n ∷ next ∷ later) = by (timed_part (next ∷ later)) refl
  where
    by : (o : Option (List Step)) → timed_part (next ∷ later) ≡ o → false ≡ of_root (timed_part (Index n ∷ next ∷ later))
    by None e = rw e refl
    by (Some steps) e = rw e refl
root_timed (Member n ∷ next ∷ later) = by (timed_part (next ∷ later)) refl
  where
    by : (o : Option (List Step)) → timed_part (next ∷ later) ≡ o → false ≡ of_root (timed_part (Member n ∷ next ∷ later))
    by None e = rw e refl
    by (Some steps) e = rw e refl

-- the phase whose duration is read
abbrev pub phase_read : Option PhaseSpot → Source
phase_read found = option_map_or (λ (p : PhaseSpot). OfPhase p.path) found OfValue

phase_found : (whole : Path) (ps : List PhaseSpot) → cond (list_any (λ (p : PhaseSpot). same_path p.path whole) ps) (OfPhase whole) OfValue
    ≡ phase_read (find (λ (p : PhaseSpot). same_path p.path whole) ps)
phase_found whole [] = refl
phase_found whole (p ∷ ps) = by (same_path p.path whole) refl (phase_found whole ps)
  where
    by : (b : Bool) → same_path p.path whole ≡ b → cond (list_any (λ (q : PhaseSpot). same_path q.path whole) ps) (OfPhase whole) OfValue ≡ phase_read (find (λ (q : PhaseSpot). same_path q.path whole) ps)
        → cond (b || list_any (λ (q : PhaseSpot). same_path q.path whole) ps) (OfPhase whole) OfValue ≡ phase_read (cond b (Some p) (find (λ (q : PhaseSpot). same_path q.path whole) ps))
    by true e h = ap (λ q. OfPhase q) (sym (path_is p.path whole e))
    by false e h = h

-- what is read at a path is the root's duration, that of the first phase that has it, or a value
pub source_of : (scene : Scene) (path : Path) → source scene path
    ≡ cond (is_root_timed path.steps) OfRun (phase_read (find (λ (p : PhaseSpot). same_path (then_duration p.path) path) (phases scene)))
source_of scene path =
    by (timed_part path.steps)
    ∙ ap₂ (λ b o. cond b OfRun (phase_read o)) (sym (root_timed path.steps)) (sym (timed_find (λ (p : PhaseSpot). p.path) path (phases scene)))
  where
    by : (o : Option (List Step)) → option_map_or (λ steps. source_timed scene (path_of steps)) o OfValue
        ≡ cond (of_root o) OfRun (phase_read (option_and_then (λ steps. find (λ (p : PhaseSpot). same_path p.path (path_of steps)) (phases scene)) o))
    by None = refl
    by (Some []) = refl
    by (Some (step ∷ later)) = phase_found (path_of (step ∷ later)) (phases scene)

pub read_as : (scene : Scene) (path : Path) (found : Option PhaseSpot) → is_root_timed path.steps ≡ false
    → found ≡ find (λ (p : PhaseSpot). same_path (then_duration p.path) path) (phases scene) → phase_read found ≡ source scene path
read_as scene path found no_root is =
    ap phase_read is
    ∙ sym (ap (λ b. cond b OfRun (phase_read (find (λ (p : PhaseSpot). same_path (then_duration p.path) path) (phases scene)))) no_root)
    ∙ sym (source_of scene path)
