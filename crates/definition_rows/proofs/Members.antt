-- Faults of members, each code once.
use Rattle.std.specs.Prelude.{◌≡◌, refl, true, List, [], ◌∷◌, Some, None, codes}
use Rattle.osc_base.specs.declared.fault.FaultCode.{FaultCode}
use Rattle.osc_base.specs.LowestTerms.{gcd, lcm}
use Rattle.dsl_tree.specs.declared.compounds.CompoundKind.{CompoundKind}
use Rattle.dsl_tree.specs.declared.compounds.ConditionValue.{ConditionValue}
use Rattle.dsl_tree.specs.ExprTree.{ExprTree}
use Rattle.dsl_tree.specs.PhaseTree.{PhaseTree}
use Rattle.dsl_tree.specs.FileTree.{MemberTree, DeclarationTree}
use Rattle.type_heads.specs.DeclaredTypes.{types_of}
use Rattle.definition_rows.proofs.Terms.{p, name, digits, alone, inherits, inherits_if, field, list_field, compound, item, enum, fault, judged}

-- A member list has each name once.
--     struct s:
--         x, y, x: int
abbrev name_twice : List DeclarationTree
name_twice =
    compound (p 1 1 0) CompoundKind.Struct (alone (name 1 8 1 (codes "s"))) None
    (field (name 2 5 5 (codes "x") ∷ name 2 8 7 (codes "y") ∷ name 2 11 9 (codes "x") ∷ []) (name 2 14 11 (codes "int")) None [] ∷ [])
    ∷ []

name_twice_is : judged name_twice ≡ Some (fault 2 11 9 FaultCode.Twice)
unfolding types_of gcd lcm
name_twice_is = refl

-- A condition asks for a member that the enum of its field has.
--     enum e: [a]
--     struct b:
--         f: e
--     struct c inherits b(f == zz)
abbrev no_such_member : List DeclarationTree
no_such_member =
    enum (p 1 1 0) (name 1 6 1 (codes "e")) (item (name 1 10 4 (codes "a")) None ∷ [])
    ∷
    compound (p 2 1 7) CompoundKind.Struct (alone (name 2 8 8 (codes "b"))) None
    (field (name 3 5 12 (codes "f") ∷ []) (name 3 8 14 (codes "e")) None [] ∷ [])
    ∷
    compound (p 4 1 17) CompoundKind.Struct (alone (name 4 8 18 (codes "c"))) (Some (inherits_if (alone (name 4 19 20 (codes "b"))) (name 4 21 22 (codes "f")) (ConditionValue.Name (name 4 26 24 (codes "zz"))))) []
    ∷ []

no_such_member_is : judged no_such_member ≡ Some (fault 4 26 24 FaultCode.Unknown)
unfolding types_of gcd lcm
no_such_member_is = refl

-- Whether an `s` is a `t` depends on a member of `u`, and whether it is a `u` on a member of `t`.
--     struct s:
--         k: bool
--     struct t inherits s(j == true):
--         i: bool
--     struct u inherits s(i == true):
--         j: bool
abbrev conditions_in_a_circle : List DeclarationTree
conditions_in_a_circle =
    compound (p 1 1 0) CompoundKind.Struct (alone (name 1 8 1 (codes "s"))) None
    (field (name 2 5 5 (codes "k") ∷ []) (name 2 8 7 (codes "bool")) None [] ∷ [])
    ∷
    compound (p 3 1 10) CompoundKind.Struct (alone (name 3 8 11 (codes "t"))) (Some (inherits_if (alone (name 3 19 13 (codes "s"))) (name 3 21 15 (codes "j")) (ConditionValue.Truth (p 3 26 17) true)))
    (field (name 4 5 22 (codes "i") ∷ []) (name 4 8 24 (codes "bool")) None [] ∷ [])
    ∷
    compound (p 5 1 27) CompoundKind.Struct (alone (name 5 8 28 (codes "u"))) (Some (inherits_if (alone (name 5 19 30 (codes "s"))) (name 5 21 32 (codes "i")) (ConditionValue.Truth (p 5 26 34) true)))
    (field (name 6 5 39 (codes "j") ∷ []) (name 6 8 41 (codes "bool")) None [] ∷ [])
    ∷ []

conditions_in_a_circle_is : judged conditions_in_a_circle ≡ Some (fault 3 21 15 FaultCode.Cycle)
unfolding types_of gcd lcm
conditions_in_a_circle_is = refl

-- Whether a scenario has a `do` depends on no value, so none stands under a conditional subtype.
--     scenario b:
--         f: bool
--     scenario c inherits b(f == true):
--         do wait elapsed(1)
abbrev do_under_a_condition : List DeclarationTree
do_under_a_condition =
    compound (p 1 1 0) CompoundKind.Scenario (alone (name 1 10 1 (codes "b"))) None
    (field (name 2 5 5 (codes "f") ∷ []) (name 2 8 7 (codes "bool")) None [] ∷ [])
    ∷
    compound (p 3 1 10) CompoundKind.Scenario (alone (name 3 10 11 (codes "c"))) (Some (inherits_if (alone (name 3 21 13 (codes "b"))) (name 3 23 15 (codes "f")) (ConditionValue.Truth (p 3 28 17) true)))
    (MemberTree.Do (p 4 5 22) (PhaseTree.Wait None (p 4 8 23) (ExprTree.Number (digits 4 21 26 1))) ∷ [])
    ∷ []

do_under_a_condition_is : judged do_under_a_condition ≡ Some (fault 4 5 22 FaultCode.WrongKind)
unfolding types_of gcd lcm
do_under_a_condition_is = refl

-- A list needs a list constructor, which says how many elements it has.
--     scenario top:
--         v: list of int
abbrev list_without_elements : List DeclarationTree
list_without_elements =
    compound (p 1 1 0) CompoundKind.Scenario (alone (name 1 10 1 (codes "top"))) None
    (list_field (name 2 5 5 (codes "v") ∷ []) (p 2 8 7) (name 2 16 9 (codes "int")) None [] ∷ [])
    ∷ []

list_without_elements_is : judged list_without_elements ≡ Some (fault 2 16 9 FaultCode.BadArgument)
unfolding types_of gcd lcm
list_without_elements_is = refl

-- A scenario that inherits a `do` has no other.
--     scenario s:
--         k: bool
--         do wait elapsed(1)
--     scenario t inherits s:
--         do wait elapsed(1)
abbrev do_inherited : List DeclarationTree
do_inherited =
    compound (p 1 1 0) CompoundKind.Scenario (alone (name 1 10 1 (codes "s"))) None
    (field (name 2 5 5 (codes "k") ∷ []) (name 2 8 7 (codes "bool")) None [] ∷
    MemberTree.Do (p 3 5 9) (PhaseTree.Wait None (p 3 8 10) (ExprTree.Number (digits 3 21 13 1))) ∷ [])
    ∷
    compound (p 4 1 17) CompoundKind.Scenario (alone (name 4 10 18 (codes "t"))) (Some (inherits (alone (name 4 21 20 (codes "s")))))
    (MemberTree.Do (p 5 5 24) (PhaseTree.Wait None (p 5 8 25) (ExprTree.Number (digits 5 21 28 1))) ∷ [])
    ∷ []

do_inherited_is : judged do_inherited ≡ Some (fault 5 5 24 FaultCode.TwoDo)
unfolding types_of gcd lcm
do_inherited_is = refl
