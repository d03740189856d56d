-- The text of a path, as run texts and listings print it.
use Rattle.std.specs.Prelude.{List, [], ◌∷◌, ◌++◌, ℕ, codes, flat_map}
use Rattle.std.specs.Fmt.{decimal}
use Rattle.osc_base.specs.declared.path.Step.{Step}
use Rattle.osc_base.specs.declared.path.Step.TheVariants.{Name, Index, Member}

-- a number in square brackets
abbrev pub bracketed : ℕ → List ℕ
bracketed number = codes "[" ++ decimal number ++ codes "]"

-- the first step: a name as it is, a number in square brackets
abbrev pub first_step_text : Step → List ℕ
first_step_text (Name name) = name
first_step_text (Index number) = bracketed number
first_step_text (Member number) = bracketed number

-- each later step: a name has a point before it
abbrev pub later_step_text : Step → List ℕ
later_step_text (Name name) = codes "." ++ name
later_step_text (Index number) = bracketed number
later_step_text (Member number) = bracketed number

-- a path's text: the root is a point, and any other path its steps one after another
abbrev pub path_text : List Step → List ℕ
path_text [] = codes "."
path_text (first ∷ later) = first_step_text first ++ flat_map later_step_text later
