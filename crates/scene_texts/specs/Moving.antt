-- Expressions whose paths lead from a text, with their paths from the named scenario on and at their homes.
use Rattle.std.specs.Prelude.{List, [], ◌∷◌, ◌++◌, cond, codes, map}
use Rattle.dsl_tree.specs.osc_base.declared.path.Path.{Path}
use Rattle.dsl_tree.specs.osc_base.declared.path.Step.{Step}
use Rattle.dsl_tree.specs.osc_base.declared.path.Step.TheVariants.{Name}
use Rattle.dsl_tree.specs.osc_base.Paths.{path_of, same_step}
use Rattle.expansion_laws.specs.expr_nodes.Typed.{moved}
use Rattle.expansion_laws.specs.expr_nodes.Seen.{Reached}
use Rattle.expansion_laws.specs.composition.Scenes.{Binding}
use Rattle.expansion_laws.specs.composition.Homes.{home}
use Rattle.scene_texts.specs.declared.homes.Bound.{Bound}
use Rattle.scene_texts.specs.declared.homes.Moves.{Moves}

-- the steps of a text's path, given the object in which the text stands and what `it` is
abbrev pub steps_under : Path → Path → List Step → List Step
steps_under object it [] = object.steps
steps_under object it (first ∷ later) = cond (same_step first (Name (codes "it"))) (it.steps ++ later) (object.steps ++ first ∷ later)

-- a path of the text, from the named scenario on
abbrev pub path_under : Path → Path → Path → Path
path_under object it path = path_of (steps_under object it path.steps)

-- a binding of the program as the definitions have it
abbrev pub seen_bound : Bound → Binding
seen_bound b = record { at = b.at; home = b.home }

-- the home of a path of the text
abbrev pub moved_path : Moves → Path → Path
moved_path m path = home (map seen_bound m.homes.now) (path_under m.object.now m.it.now path)

-- a part of a row with each path that it reads changed
abbrev pub moved_part : (Path → Path) → Reached → Reached
moved_part to r = record { info = r.info; part = moved to r.part }
