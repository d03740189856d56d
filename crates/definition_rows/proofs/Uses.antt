-- Faults of uses, each code once.
use Rattle.std.specs.Prelude.{◌≡◌, refl, false, List, [], ◌∷◌, Some, None, codes}
use Rattle.osc_base.specs.declared.fault.FaultCode.{FaultCode}
use Rattle.osc_base.specs.LowestTerms.{gcd, lcm}
use Rattle.dsl_tree.specs.declared.expr.Operator.{Operator}
use Rattle.dsl_tree.specs.declared.expr.RelationSign.{RelationSign}
use Rattle.dsl_tree.specs.declared.rules.KeepKind.{KeepKind}
use Rattle.dsl_tree.specs.declared.phases.CompKind.{CompKind}
use Rattle.dsl_tree.specs.declared.phases.InvokeHead.{InvokeHead}
use Rattle.dsl_tree.specs.declared.compounds.CompoundKind.{CompoundKind}
use Rattle.dsl_tree.specs.ExprTree.{ExprTree, row_of}
use Rattle.dsl_tree.specs.PhaseTree.{RuleTree, PhaseTree, PhaseRow}
use Rattle.dsl_tree.specs.FileTree.{MemberTree, DeclarationTree}
use Rattle.type_heads.specs.DeclaredTypes.{types_of}
use Rattle.definition_rows.proofs.Terms.{p, name, digits, signed, alone, owned, inherits, field, list_field, compound, item, enum, argument, fault, judged}

-- Names are those of the type in whose text they stand, so a struct doesn't see the fields of a scenario.
--     struct s:
--         n: int with:
--             keep(it == x)
--     scenario top:
--         x: int
abbrev names_of_another_text : List DeclarationTree
names_of_another_text =
    compound (p 1 1 0) CompoundKind.Struct (alone (name 1 8 1 (codes "s"))) None
    (field (name 2 5 5 (codes "n") ∷ []) (name 2 8 7 (codes "int")) None (RuleTree.Keep (p 3 9 12) KeepKind.Plain (ExprTree.Relation (p 3 17 15) RelationSign.Equal (ExprTree.It (p 3 14 14)) (ExprTree.Name (name 3 20 16 (codes "x")))) ∷ []) ∷ [])
    ∷
    compound (p 4 1 21) CompoundKind.Scenario (alone (name 4 10 22 (codes "top"))) None
    (field (name 5 5 26 (codes "x") ∷ []) (name 5 8 28 (codes "int")) None [] ∷ [])
    ∷ []

names_of_another_text_is : judged names_of_another_text ≡ Some (fault 3 20 16 FaultCode.Unknown)
unfolding types_of gcd lcm
names_of_another_text_is = refl

-- `b` inherits the `do` that invokes `b`.
--     scenario a:
--         do b()
--     scenario b inherits a
abbrev invokes_itself : List DeclarationTree
invokes_itself =
    compound (p 1 1 0) CompoundKind.Scenario (alone (name 1 10 1 (codes "a"))) None
    (MemberTree.Do (p 2 5 5) (PhaseTree.Invoke None (InvokeHead.Name (name 2 8 6 (codes "b"))) [] [] []) ∷ [])
    ∷
    compound (p 3 1 11) CompoundKind.Scenario (alone (name 3 10 12 (codes "b"))) (Some (inherits (alone (name 3 21 14 (codes "a"))))) []
    ∷ []

invokes_itself_is : judged invokes_itself ≡ Some (fault 3 10 12 FaultCode.Cycle)
unfolding types_of gcd lcm
invokes_itself_is = refl

-- The path to the actor of an invocation begins with no label.
--     actor r
--     action r.go
--     scenario use:
--         p: r
--     scenario top:
--         do serial:
--             u: use()
--             u.p.go()
abbrev actor_after_a_label : List DeclarationTree
actor_after_a_label =
    compound (p 1 1 0) CompoundKind.Actor (alone (name 1 7 1 (codes "r"))) None []
    ∷
    compound (p 2 1 3) CompoundKind.Action (owned (name 2 8 4 (codes "r")) (name 2 10 6 (codes "go"))) None []
    ∷
    compound (p 3 1 8) CompoundKind.Scenario (alone (name 3 10 9 (codes "use"))) None
    (field (name 4 5 13 (codes "p") ∷ []) (name 4 8 15 (codes "r")) None [] ∷ [])
    ∷
    compound (p 5 1 18) CompoundKind.Scenario (alone (name 5 10 19 (codes "top"))) None
    (MemberTree.Do (p 6 5 23) (PhaseTree.Comp None (p 6 8 24) CompKind.Serial [] (PhaseRow.Phase (PhaseTree.Invoke (Some (name 7 9 28 (codes "u"))) (InvokeHead.Name (name 7 12 30 (codes "use"))) [] [] []) (PhaseRow.Phase (PhaseTree.Invoke None (InvokeHead.Name (name 8 9 34 (codes "u"))) (name 8 11 36 (codes "p") ∷ name 8 13 38 (codes "go") ∷ []) [] []) PhaseRow.End))) ∷ [])
    ∷ []

actor_after_a_label_is : judged actor_after_a_label ≡ Some (fault 8 9 34 FaultCode.WrongKind)
unfolding types_of gcd lcm
actor_after_a_label_is = refl

-- The second `and` has all of the row before it on its left, and a number on its right.
--     scenario top:
--         x: int
--         y: int
--         b: bool
--         f: float
--         keep(b and b and x and b)
abbrev no_truth_value : List DeclarationTree
no_truth_value =
    compound (p 1 1 0) CompoundKind.Scenario (alone (name 1 10 1 (codes "top"))) None
    (field (name 2 5 5 (codes "x") ∷ []) (name 2 8 7 (codes "int")) None [] ∷
    field (name 3 5 9 (codes "y") ∷ []) (name 3 8 11 (codes "int")) None [] ∷
    field (name 4 5 13 (codes "b") ∷ []) (name 4 8 15 (codes "bool")) None [] ∷
    field (name 5 5 17 (codes "f") ∷ []) (name 5 8 19 (codes "float")) None [] ∷
    MemberTree.Rule (RuleTree.Keep (p 6 5 21) KeepKind.Plain (ExprTree.And (p 6 24 28) Operator.And (ExprTree.And (p 6 18 26) Operator.And (ExprTree.And (p 6 12 24) Operator.And (ExprTree.Start (ExprTree.Name (name 6 10 23 (codes "b")))) (ExprTree.Name (name 6 16 25 (codes "b")))) (ExprTree.Name (name 6 22 27 (codes "x")))) (ExprTree.Name (name 6 28 29 (codes "b"))))) ∷ [])
    ∷ []

no_truth_value_is : judged no_truth_value ≡ Some (fault 6 18 26 FaultCode.Clash)
unfolding types_of gcd lcm
no_truth_value_is = refl

-- A duration is a number of seconds.
--     action go
--     scenario top:
--         do go(duration: 3)
abbrev duration_without_unit : List DeclarationTree
duration_without_unit =
    compound (p 1 1 0) CompoundKind.Action (alone (name 1 8 1 (codes "go"))) None []
    ∷
    compound (p 2 1 3) CompoundKind.Scenario (alone (name 2 10 4 (codes "top"))) None
    (MemberTree.Do (p 3 5 8) (PhaseTree.Invoke None (InvokeHead.Name (name 3 8 9 (codes "go"))) [] (argument (Some (name 3 11 11 (codes "duration"))) (ExprTree.Number (digits 3 21 13 3)) ∷ []) []) ∷ [])
    ∷ []

duration_without_unit_is : judged duration_without_unit ≡ Some (fault 3 21 13 FaultCode.UnitClash)
unfolding types_of gcd lcm
duration_without_unit_is = refl

-- A divisor is constant. This one reads a path, whatever its value would be.
--     scenario top:
--         x: int
--         y: int
--         b: bool
--         f: float
--         keep(x / (y - y + 1) == 1)
abbrev divisor_reads : List DeclarationTree
divisor_reads =
    compound (p 1 1 0) CompoundKind.Scenario (alone (name 1 10 1 (codes "top"))) None
    (field (name 2 5 5 (codes "x") ∷ []) (name 2 8 7 (codes "int")) None [] ∷
    field (name 3 5 9 (codes "y") ∷ []) (name 3 8 11 (codes "int")) None [] ∷
    field (name 4 5 13 (codes "b") ∷ []) (name 4 8 15 (codes "bool")) None [] ∷
    field (name 5 5 17 (codes "f") ∷ []) (name 5 8 19 (codes "float")) None [] ∷
    MemberTree.Rule (RuleTree.Keep (p 6 5 21) KeepKind.Plain (ExprTree.Relation (p 6 26 32) RelationSign.Equal (ExprTree.Product (p 6 12 24) Operator.Slash (ExprTree.Start (ExprTree.Name (name 6 10 23 (codes "x")))) (ExprTree.Group (p 6 14 25) (ExprTree.Sum (p 6 21 29) Operator.Plus (ExprTree.Sum (p 6 17 27) Operator.Dash (ExprTree.Start (ExprTree.Name (name 6 15 26 (codes "y")))) (ExprTree.Name (name 6 19 28 (codes "y")))) (ExprTree.Number (digits 6 23 30 1))))) (ExprTree.Number (digits 6 29 33 1)))) ∷ [])
    ∷ []

divisor_reads_is : judged divisor_reads ≡ Some (fault 6 12 24 FaultCode.NotConstant)
unfolding types_of gcd lcm
divisor_reads_is = refl

-- A divisor isn't 0.
--     scenario top:
--         x: int
--         keep(x / 0 == 1)
abbrev divided_by_zero : List DeclarationTree
divided_by_zero =
    compound (p 1 1 0) CompoundKind.Scenario (alone (name 1 10 1 (codes "top"))) None
    (field (name 2 5 5 (codes "x") ∷ []) (name 2 8 7 (codes "int")) None [] ∷
    MemberTree.Rule (RuleTree.Keep (p 3 5 9) KeepKind.Plain (ExprTree.Relation (p 3 16 14) RelationSign.Equal (ExprTree.Product (p 3 12 12) Operator.Slash (ExprTree.Start (ExprTree.Name (name 3 10 11 (codes "x")))) (ExprTree.Number (digits 3 14 13 0))) (ExprTree.Number (digits 3 19 15 1)))) ∷ [])
    ∷ []

divided_by_zero_is : judged divided_by_zero ≡ Some (fault 3 12 12 FaultCode.ZeroDivisor)
unfolding types_of gcd lcm
divided_by_zero_is = refl

-- The first argument is given by its place, and once more by its name.
--     action go:
--         w: int
--         u: int
--         v: list of int = [1]
--     scenario top:
--         do go(1, w: 2)
abbrev given_twice : List DeclarationTree
given_twice =
    compound (p 1 1 0) CompoundKind.Action (alone (name 1 8 1 (codes "go"))) None
    (field (name 2 5 5 (codes "w") ∷ []) (name 2 8 7 (codes "int")) None [] ∷
    field (name 3 5 9 (codes "u") ∷ []) (name 3 8 11 (codes "int")) None [] ∷
    list_field (name 4 5 13 (codes "v") ∷ []) (p 4 8 15) (name 4 16 17 (codes "int")) (Some (ExprTree.Listed (p 4 22 19) (row_of (ExprTree.Number (digits 4 23 20 1) ∷ [])))) [] ∷ [])
    ∷
    compound (p 5 1 24) CompoundKind.Scenario (alone (name 5 10 25 (codes "top"))) None
    (MemberTree.Do (p 6 5 29) (PhaseTree.Invoke None (InvokeHead.Name (name 6 8 30 (codes "go"))) [] (argument None (ExprTree.Number (digits 6 11 32 1)) ∷ argument (Some (name 6 14 34 (codes "w"))) (ExprTree.Number (digits 6 17 36 2)) ∷ []) []) ∷ [])
    ∷ []

given_twice_is : judged given_twice ≡ Some (fault 6 14 34 FaultCode.BadArgument)
unfolding types_of gcd lcm
given_twice_is = refl

-- A label inside a member of `one_of` is read in that member alone.
--     scenario top:
--         do one_of:
--             a: serial:
--                 b: x()
--                 x(b.n)
--             x(b.n)
--     action x:
--         n: int
abbrev label_hidden : List DeclarationTree
label_hidden =
    compound (p 1 1 0) CompoundKind.Scenario (alone (name 1 10 1 (codes "top"))) None
    (MemberTree.Do (p 2 5 5) (PhaseTree.Comp None (p 2 8 6) CompKind.OneOf [] (PhaseRow.Phase (PhaseTree.Comp (Some (name 3 9 10 (codes "a"))) (p 3 12 12) CompKind.Serial [] (PhaseRow.Phase (PhaseTree.Invoke (Some (name 4 13 16 (codes "b"))) (InvokeHead.Name (name 4 16 18 (codes "x"))) [] [] []) (PhaseRow.Phase (PhaseTree.Invoke None (InvokeHead.Name (name 5 13 22 (codes "x"))) [] (argument None (ExprTree.Dot (ExprTree.Start (ExprTree.Name (name 5 15 24 (codes "b")))) (name 5 17 26 (codes "n"))) ∷ []) []) PhaseRow.End))) (PhaseRow.Phase (PhaseTree.Invoke None (InvokeHead.Name (name 6 9 30 (codes "x"))) [] (argument None (ExprTree.Dot (ExprTree.Start (ExprTree.Name (name 6 11 32 (codes "b")))) (name 6 13 34 (codes "n"))) ∷ []) []) PhaseRow.End))) ∷ [])
    ∷
    compound (p 7 1 39) CompoundKind.Action (alone (name 7 8 40 (codes "x"))) None
    (field (name 8 5 44 (codes "n") ∷ []) (name 8 8 46 (codes "int")) None [] ∷ [])
    ∷ []

label_hidden_is : judged label_hidden ≡ Some (fault 6 11 32 FaultCode.ChoiceLabel)
unfolding types_of gcd lcm
label_hidden_is = refl

-- Five factors of up to 1000000000 pass 2 to the power 120.
--     scenario top:
--         x: int
--         y: int
--         b: bool
--         f: float
--         keep(x * x * x * x * x == 1)
abbrev product_too_wide : List DeclarationTree
product_too_wide =
    compound (p 1 1 0) CompoundKind.Scenario (alone (name 1 10 1 (codes "top"))) None
    (field (name 2 5 5 (codes "x") ∷ []) (name 2 8 7 (codes "int")) None [] ∷
    field (name 3 5 9 (codes "y") ∷ []) (name 3 8 11 (codes "int")) None [] ∷
    field (name 4 5 13 (codes "b") ∷ []) (name 4 8 15 (codes "bool")) None [] ∷
    field (name 5 5 17 (codes "f") ∷ []) (name 5 8 19 (codes "float")) None [] ∷
    MemberTree.Rule (RuleTree.Keep (p 6 5 21) KeepKind.Plain (ExprTree.Relation (p 6 28 32) RelationSign.Equal (ExprTree.Product (p 6 24 30) Operator.Star (ExprTree.Product (p 6 20 28) Operator.Star (ExprTree.Product (p 6 16 26) Operator.Star (ExprTree.Product (p 6 12 24) Operator.Star (ExprTree.Start (ExprTree.Name (name 6 10 23 (codes "x")))) (ExprTree.Name (name 6 14 25 (codes "x")))) (ExprTree.Name (name 6 18 27 (codes "x")))) (ExprTree.Name (name 6 22 29 (codes "x")))) (ExprTree.Name (name 6 26 31 (codes "x")))) (ExprTree.Number (digits 6 31 33 1)))) ∷ [])
    ∷ []

product_too_wide_is : judged product_too_wide ≡ Some (fault 6 24 30 FaultCode.Wide)
unfolding types_of gcd lcm
product_too_wide_is = refl

-- A length is at most 1000000 metres.
--     type length is SI(m: 1)
--     unit m of length is SI(m: 1)
--     scenario top:
--         d: length
--         keep(d == 1000001m)
abbrev literal_too_large : List DeclarationTree
literal_too_large =
    DeclarationTree.TypeDeclaration (record { place = p 1 1 0; name = name 1 6 1 (codes "length"); bases = record { name = name 1 19 5 (codes "m"); exponent = signed 1 22 7 false 1 } ∷ [] })
    ∷
    DeclarationTree.UnitDeclaration (record { place = p 2 1 10; name = name 2 6 11 (codes "m"); of = name 2 11 13 (codes "length"); bases = record { name = name 2 24 17 (codes "m"); exponent = signed 2 27 19 false 1 } ∷ []; factor = None; offset = None })
    ∷
    compound (p 3 1 22) CompoundKind.Scenario (alone (name 3 10 23 (codes "top"))) None
    (field (name 4 5 27 (codes "d") ∷ []) (name 4 8 29 (codes "length")) None [] ∷
    MemberTree.Rule (RuleTree.Keep (p 5 5 31) KeepKind.Plain (ExprTree.Relation (p 5 12 34) RelationSign.Equal (ExprTree.Name (name 5 10 33 (codes "d"))) (ExprTree.Physical (digits 5 15 35 1000001) (codes "m")))) ∷ [])
    ∷ []

literal_too_large_is : judged literal_too_large ≡ Some (fault 5 15 35 FaultCode.TooLarge)
unfolding types_of gcd lcm
literal_too_large_is = refl

-- Two enums have a member of that name, so it needs its enum before it.
--     enum e: [a]
--     enum f: [a]
--     struct s:
--         x: e = a
abbrev in_two_enums : List DeclarationTree
in_two_enums =
    enum (p 1 1 0) (name 1 6 1 (codes "e")) (item (name 1 10 4 (codes "a")) None ∷ [])
    ∷
    enum (p 2 1 7) (name 2 6 8 (codes "f")) (item (name 2 10 11 (codes "a")) None ∷ [])
    ∷
    compound (p 3 1 14) CompoundKind.Struct (alone (name 3 8 15 (codes "s"))) None
    (field (name 4 5 19 (codes "x") ∷ []) (name 4 8 21 (codes "e")) (Some (ExprTree.Name (name 4 12 23 (codes "a")))) [] ∷ [])
    ∷ []

in_two_enums_is : judged in_two_enums ≡ Some (fault 4 12 23 FaultCode.Ambiguous)
unfolding types_of gcd lcm
in_two_enums_is = refl

-- The elements of a list are counted from 0.
--     scenario top:
--         v: list of int = [4, 5]
--         keep(v[2] == 6)
abbrev no_such_element : List DeclarationTree
no_such_element =
    compound (p 1 1 0) CompoundKind.Scenario (alone (name 1 10 1 (codes "top"))) None
    (list_field (name 2 5 5 (codes "v") ∷ []) (p 2 8 7) (name 2 16 9 (codes "int")) (Some (ExprTree.Listed (p 2 22 11) (row_of (ExprTree.Number (digits 2 23 12 4) ∷ ExprTree.Number (digits 2 26 14 5) ∷ [])))) [] ∷
    MemberTree.Rule (RuleTree.Keep (p 3 5 17) KeepKind.Plain (ExprTree.Relation (p 3 15 23) RelationSign.Equal (ExprTree.Index (p 3 11 20) (ExprTree.Start (ExprTree.Name (name 3 10 19 (codes "v")))) (ExprTree.Number (digits 3 12 21 2))) (ExprTree.Number (digits 3 18 24 6)))) ∷ [])
    ∷ []

no_such_element_is : judged no_such_element ≡ Some (fault 3 11 20 FaultCode.Index)
unfolding types_of gcd lcm
no_such_element_is = refl
