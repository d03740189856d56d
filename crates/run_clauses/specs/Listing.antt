-- Whether a run lists what is there, in order.
use Rattle.std.specs.Prelude.{Bool, false, cond, List, [], ◌∷◌, Option, Some, None, bytes_eq, codes}
use Rattle.std.specs.Option.{option_map_or}
use Rattle.osc_base.specs.declared.path.Path.{Path}
use Rattle.osc_base.specs.declared.path.Step.{Step}
use Rattle.osc_base.specs.declared.path.Step.TheVariants.{Name, Index, Member}
use Rattle.osc_base.specs.Paths.{same_path}

-- the path of the first thing of a list
abbrev pub first_path : {U : Type 0} → (U → Path) → List U → Option Path
first_path path [] = None
first_path path (x ∷ xs) = Some (path x)

-- a list without its first thing
abbrev pub later : {U : Type 0} → List U → List U
later [] = []
later (x ∷ xs) = xs

-- a list begins with something at a path
abbrev pub begins_at : {U : Type 0} → (U → Path) → Path → List U → Bool
begins_at path wanted [] = false
begins_at path wanted (x ∷ xs) = same_path wanted (path x)

-- what is left of a list after something at a path, if the list has to begin with it; none if it doesn't
abbrev pub left_after : {U : Type 0} → (Path → Bool) → (U → Path) → Path → List U → Option (List U)
left_after there path wanted given = cond (there wanted) (cond (begins_at path wanted given) (Some (later given)) None) (Some given)

-- The first path at which a list isn't the part of another that is there: the path that is to stand there, or the one that stands past the end.
abbrev pub first_unlisted : {T U : Type 0} → (Path → Bool) → (T → Path) → (U → Path) → List T → List U → Option Path
first_unlisted there wanted_path given_path [] given = first_path given_path given
first_unlisted there wanted_path given_path (x ∷ xs) given =
    option_map_or (λ left. first_unlisted there wanted_path given_path xs left) (left_after there given_path (wanted_path x) given) (Some (wanted_path x))

-- the steps are `do` alone
abbrev pub is_do : List Step → Bool
is_do [] = false
is_do (Name name ∷ []) = bytes_eq name (codes "do")
is_do (Index number ∷ []) = false
is_do (Member number ∷ []) = false
is_do (step ∷ next ∷ later) = false
