-- Constraints of texts, by the homes of what they read.
use Rattle.std.specs.Prelude.{List, Option, None}
use Rattle.osc_base.specs.declared.fault.Place.{Place}
use Rattle.osc_base.specs.declared.path.Path.{Path}
use Rattle.osc_base.specs.declared.mark.Strength.{Strength}
use Rattle.dsl_tree.specs.ExprTree.{ExprTree}
use Rattle.dsl_tree.specs.PhaseTree.{RuleTree}
use Rattle.expr_nodes.specs.type_heads.Table.{Table}
use Rattle.expr_nodes.specs.Typed.{Typed}
use Rattle.expr_nodes.specs.Typing.{typed}
use Rattle.program_texts.specs.composition.declared.guard.Guard.{Guard}
use Rattle.program_texts.specs.composition.Givens.{equals, strength_of}
use Rattle.program_texts.specs.composition.Scenes.{Occurrence}
use Rattle.text_constraints.specs.Sites.{Site, left_home, path_home, read_home, typed_home, whole_home}
use Rattle.text_constraints.specs.declared.rules.Owner.{Owner}

-- whose constraint it is: an object or a phase, and conditions
pub record Holder : Type 0 where
  pub holder : Path
  pub under : List Guard

-- by the program's own
abbrev pub seen_owner : Owner → Holder
seen_owner o = record { holder = o.holder.now; under = o.under.now }

-- a constraint with its target and its expression at their homes
abbrev pub constraint : Holder → Place → Strength → Option Path → Option Typed → Occurrence
constraint h place strength target t = record { place = place; holder = h.holder; under = h.under; mark = record { target = target; strength = strength }; typed = t }

-- what a constraint is about
abbrev pub mark_home : Table → Site → Strength → ExprTree → Option Path
mark_home table s Strength.Hard e = left_home table s e
mark_home table s Strength.Default e = whole_home table s e
mark_home table s Strength.Remove e = path_home table s e

-- an expression that is kept
abbrev pub kept : Table → Site → Holder → Place → Strength → ExprTree → Occurrence
kept table s h place strength e = constraint h place strength (mark_home table s strength e) (typed_home table s e)

-- a default that is removed
abbrev pub removed : Table → Site → Holder → Place → ExprTree → Occurrence
removed table s h place path = constraint h place Strength.Remove (path_home table s path) None

-- a rule
abbrev pub rule_kept : Table → Site → Holder → RuleTree → Occurrence
rule_kept table s h (RuleTree.Keep place kind e) = kept table s h place (strength_of kind) e
rule_kept table s h (RuleTree.Remove place path) = removed table s h place path

-- a field that equals a value
abbrev pub equal_kept : Table → Site → Holder → Place → Strength → ExprTree → ExprTree → Occurrence
equal_kept table s h place strength left value = constraint h place strength (read_home s (typed table s.scope left)) (typed_home table s (equals left value))
