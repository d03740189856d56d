-- Programs at the limit of what a scale or a reach may be, 2 to the power 120. A field holds up to 1000000000.
use Rattle.std.specs.Prelude.{◌≡◌, refl, ℕ, ◌+◌, List, [], ◌∷◌, Some, None, codes}
use Rattle.osc_base.specs.declared.fault.FaultCode.{FaultCode}
use Rattle.osc_base.specs.LowestTerms.{gcd, lcm}
use Rattle.dsl_tree.specs.declared.expr.Operator.{Operator}
use Rattle.dsl_tree.specs.declared.expr.RelationSign.{RelationSign}
use Rattle.dsl_tree.specs.declared.rules.KeepKind.{KeepKind}
use Rattle.dsl_tree.specs.declared.phases.InvokeHead.{InvokeHead}
use Rattle.dsl_tree.specs.declared.compounds.CompoundKind.{CompoundKind}
use Rattle.dsl_tree.specs.ExprTree.{ExprTree, row_of}
use Rattle.dsl_tree.specs.PhaseTree.{RuleTree, ArgumentTree, PhaseTree}
use Rattle.dsl_tree.specs.FileTree.{MemberTree, DeclarationTree}
use Rattle.type_heads.specs.DeclaredTypes.{types_of}
use Rattle.definition_rows.proofs.Terms.{p, name, digits, alone, field, list_field, compound, argument, fault, judged}

-- `x`, in that line and column, with that number of a token
abbrev x_at : ℕ → ℕ → ℕ → ExprTree
x_at line column token = ExprTree.Name (name line column token (codes "x"))

-- `x * x * x * x`, which reaches 10 to the power 36
abbrev fourth_power : ℕ → ℕ → ℕ → ExprTree
fourth_power line column token =
    ExprTree.Product (p line (column + 10) (token + 5)) Operator.Star
    (ExprTree.Product (p line (column + 6) (token + 3)) Operator.Star
    (ExprTree.Product (p line (column + 2) (token + 1)) Operator.Star (ExprTree.Start (x_at line column token)) (x_at line (column + 4) (token + 2)))
    (x_at line (column + 8) (token + 4)))
    (x_at line (column + 12) (token + 6))

-- An invocation of `go` with an argument.
--     action go:
--         w: TYPE
--     scenario top:
--         x: int
--         do go(ARGUMENT)
abbrev with_argument : List ℕ → ArgumentTree → List DeclarationTree
with_argument type given =
    compound (p 1 1 0) CompoundKind.Action (alone (name 1 8 1 (codes "go"))) None
    (field (name 2 5 5 (codes "w") ∷ []) (name 2 8 7 type) None [] ∷ [])
    ∷
    compound (p 3 1 10) CompoundKind.Scenario (alone (name 3 10 11 (codes "top"))) None
    (field (name 4 5 15 (codes "x") ∷ []) (name 4 8 17 (codes "int")) None []
    ∷ MemberTree.Do (p 5 5 19) (PhaseTree.Invoke None (InvokeHead.Name (name 5 8 20 (codes "go"))) [] (given ∷ []) [])
    ∷ [])
    ∷ []

-- `do go(x * x * x * x)`: a `float` counts thousandths, and 1000 times that reach passes the limit
argument_is : judged (with_argument (codes "float") (argument None (fourth_power 5 11 22))) ≡ Some (fault 5 11 22 FaultCode.Wide)
unfolding types_of gcd lcm
argument_is = refl

-- an `int` doesn't
whole_argument_is : judged (with_argument (codes "int") (argument None (fourth_power 5 11 22))) ≡ None
unfolding types_of gcd lcm
whole_argument_is = refl

-- `do go(w: x * x * x * x)`: the fault is at the value, and not at its name
named_argument_is : judged (with_argument (codes "float") (argument (Some (name 5 11 22 (codes "w"))) (fourth_power 5 14 24))) ≡ Some (fault 5 14 24 FaultCode.Wide)
unfolding types_of gcd lcm
named_argument_is = refl

-- A scenario with `x: int` and another member.
--     scenario top:
--         x: int
--         MEMBER
abbrev with_member : MemberTree → List DeclarationTree
with_member member =
    compound (p 1 1 0) CompoundKind.Scenario (alone (name 1 10 1 (codes "top"))) None
    (field (name 2 5 5 (codes "x") ∷ []) (name 2 8 7 (codes "int")) None [] ∷ member ∷ [])
    ∷ []

-- `y: float = x * x * x * x`
initial_value_is : judged (with_member (field (name 3 5 9 (codes "y") ∷ []) (name 3 8 11 (codes "float")) (Some (fourth_power 3 16 13)) [])) ≡ Some (fault 3 16 13 FaultCode.Wide)
unfolding types_of gcd lcm
initial_value_is = refl

-- `y: list of float = [0, x * x * x * x]`
element_is :
    judged (with_member (list_field (name 3 5 9 (codes "y") ∷ []) (p 3 8 11) (name 3 16 13 (codes "float"))
    (Some (ExprTree.Listed (p 3 24 15) (row_of (ExprTree.Number (digits 3 25 16 0) ∷ fourth_power 3 28 18 ∷ [])))) []))
    ≡ Some (fault 3 28 18 FaultCode.Wide)
unfolding types_of gcd lcm
element_is = refl

-- `576460752303423488 * 576460752303423488 * N` from that column and token on: 2 to the power 118, N times
abbrev power_times : ℕ → ℕ → ℕ → ExprTree
power_times n column token =
    ExprTree.Product (p 2 (column + 40) (token + 3)) Operator.Star
    (ExprTree.Product (p 2 (column + 19) (token + 1)) Operator.Star
    (ExprTree.Start (ExprTree.Number (digits 2 column token 576460752303423488))) (ExprTree.Number (digits 2 (column + 21) (token + 2) 576460752303423488)))
    (ExprTree.Number (digits 2 (column + 42) (token + 4) n))

-- A scenario with one constraint, that two numbers are equal.
--     scenario top:
--         keep(LEFT == RIGHT)
abbrev with_equal : ExprTree → ExprTree → List DeclarationTree
with_equal left right =
    compound (p 1 1 0) CompoundKind.Scenario (alone (name 1 10 1 (codes "top"))) None
    (MemberTree.Rule (RuleTree.Keep (p 2 5 5) KeepKind.Plain (ExprTree.Relation (p 2 54 12) RelationSign.Equal left right)) ∷ [])
    ∷ []

-- both sides together reach the limit, and don't pass it
at_the_limit_is : judged (with_equal (power_times 2 10 7) (power_times 2 57 13)) ≡ None
unfolding types_of gcd lcm
at_the_limit_is = refl

-- one side reaches it, and the 1 on the other side passes it
past_the_limit_is : judged (with_equal (power_times 4 10 7) (ExprTree.Number (digits 2 57 13 1))) ≡ Some (fault 2 54 12 FaultCode.Wide)
unfolding types_of gcd lcm
past_the_limit_is = refl

-- a product that passes it
product_past_the_limit_is : judged (with_equal (power_times 5 10 7) (ExprTree.Number (digits 2 57 13 1))) ≡ Some (fault 2 50 10 FaultCode.Wide)
unfolding types_of gcd lcm
product_past_the_limit_is = refl
