use Rattle.std.proofs.Common.{sym, ◌∙◌}
use Rattle.dsl_expressions.proofs.ExprForests.{last_named}
use Rattle.dsl_expressions.proofs.levels.ends_in_name.Goals as goal

pub returns-in-Some : goal.returns-in-Some
returns-in-Some c = c.is_name.ensures ∙ last_named c.args.suffixes.now c.in-Some.suffix.now (sym c.in-Some.ensures.value)
