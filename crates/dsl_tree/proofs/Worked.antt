-- The worked trees are spelled by their tokens.
use Rattle.std.proofs.Common.{◌≡◌, ℕ, [], ◌∷◌, ◌++◌, refl, arith}
use Rattle.dsl_tree.specs.declared.expr.Operator.{Operator}
use Rattle.dsl_tree.specs.declared.expr.Expr.{Expr}
use Rattle.dsl_tree.specs.declared.expr.Further.{Further}
use Rattle.dsl_tree.specs.declared.expr.Expr.TheViews
use Rattle.dsl_tree.specs.Grammar.{Part}
use Rattle.dsl_tree.specs.Forest.{IsOf, Spells}
use Rattle.dsl_tree.specs.Views.{expr_tree}
use Rattle.dsl_tree.specs.Written.{expr}
use Rattle.dsl_tree.specs.WrittenPhases.{phase}
use Rattle.dsl_tree.specs.WrittenFile.{file, base, signed}
use Rattle.dsl_tree.specs.Language.{Spelled, IsViable}
use Rattle.dsl_tree.specs.Examples.{at, tokens_from, scenario_front, scenario_back, scenario_tree, levels_tokens, levels_tree, sum_tokens, sum_tree, units_tokens, units_tree, modifier_tokens, modifier_file, phase_tokens, phase_tree, empty_sum, sum_in_product, large_exponent, two_places}
use Rattle.dsl_tree.proofs.Tests.{Is-follows, Spells-tokens_of}
use Rattle.dsl_tree.proofs.Seen.{seen_sum, seen_number, seen_further}

scenario : Spelled scenario_tree (tokens_from 0 (scenario_front ++ scenario_back))
scenario = record { follows = Is-follows Part.File (file scenario_tree) refl; spells = Spells-tokens_of at (file scenario_tree) 0 [] refl }

-- what stands before the bracket that closes the range
scenario_begun : IsViable (tokens_from 0 scenario_front)
scenario_begun = record { tree = scenario_tree; back = tokens_from 17 scenario_back; spelled = scenario }

levels : IsOf Part.Expr (expr levels_tree)
levels = Is-follows Part.Expr (expr levels_tree) refl

levels_spelled : Spells (expr levels_tree) (tokens_from 0 levels_tokens) []
levels_spelled = Spells-tokens_of at (expr levels_tree) 0 [] refl

sum_is : IsOf Part.Expr (expr sum_tree)
sum_is = Is-follows Part.Expr (expr sum_tree) refl

sum_spelled : Spells (expr sum_tree) (tokens_from 0 sum_tokens) []
sum_spelled = Spells-tokens_of at (expr sum_tree) 0 [] refl

units : Spelled units_tree (tokens_from 0 units_tokens)
units = record { follows = Is-follows Part.File (file units_tree) refl; spells = Spells-tokens_of at (file units_tree) 0 [] refl }

modifier : Spelled modifier_file (tokens_from 0 modifier_tokens)
modifier = record { follows = Is-follows Part.File (file modifier_file) refl; spells = Spells-tokens_of at (file modifier_file) 0 [] refl }

phase_is : IsOf Part.Phase (phase phase_tree)
phase_is = Is-follows Part.Phase (phase phase_tree) refl

phase_spelled : Spells (phase phase_tree) (tokens_from 0 phase_tokens) []
phase_spelled = Spells-tokens_of at (phase phase_tree) 0 [] refl

-- what breaks the grammar

no_empty_sum : IsOf Part.Expr (expr empty_sum) → ⊥
no_empty_sum is = grind arith

no_sum_in_product : IsOf Part.Expr (expr sum_in_product) → ⊥
no_sum_in_product is = grind arith

no_large_exponent : IsOf Part.Base (base large_exponent) → ⊥
no_large_exponent is = grind arith

no_two_places : IsOf Part.Signed (signed two_places) → ⊥
no_two_places is = grind arith

-- the tree of `1 + 2 - 3` as the program holds it

number : ℕ → ℕ → Expr
number n digits = Expr.Number (record { place = at n; digits = digits; places = 0 })

next : ℕ → Operator → Expr → Further
next n operator part = record { place = at n; operator = operator; part = part }

sum_seen : expr_tree (TheViews.Sum (number 0 1) (next 1 Operator.Plus (number 2 2) ∷ next 3 Operator.Dash (number 4 3) ∷ [])) ≡ sum_tree
unfolding number next
sum_seen = simp (seen_sum, seen_further, seen_number)
