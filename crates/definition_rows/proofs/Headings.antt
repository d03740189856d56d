-- Faults of headings, each code once.
use Rattle.std.specs.Prelude.{◌≡◌, refl, true, false, List, [], ◌∷◌, Some, None, codes}
use Rattle.osc_base.specs.declared.fault.FaultCode.{FaultCode}
use Rattle.osc_base.specs.LowestTerms.{gcd, lcm}
use Rattle.dsl_tree.specs.declared.compounds.CompoundKind.{CompoundKind}
use Rattle.dsl_tree.specs.declared.compounds.ConditionValue.{ConditionValue}
use Rattle.dsl_tree.specs.FileTree.{DeclarationTree}
use Rattle.type_heads.specs.DeclaredTypes.{types_of}
use Rattle.definition_rows.proofs.Terms.{p, name, digits, signed, alone, owned, inherits_if, field, compound, item, enum, fault, judged}

-- A member of an enum has the number after the one before it, which its enum has already.
--     enum e: [a = 5, b = 4, c]
abbrev number_twice : List DeclarationTree
number_twice =
    enum (p 1 1 0) (name 1 6 1 (codes "e")) (item (name 1 10 4 (codes "a")) (Some (digits 1 14 6 5)) ∷ item (name 1 17 8 (codes "b")) (Some (digits 1 21 10 4)) ∷ item (name 1 24 12 (codes "c")) None ∷ [])
    ∷ []

number_twice_is : judged number_twice ≡ Some (fault 1 24 12 FaultCode.Twice)
unfolding types_of gcd lcm
number_twice_is = refl

-- The owner is declared, and owns nothing of that name.
--     actor s
--     extend s.x: [a]
abbrev no_such_behaviour : List DeclarationTree
no_such_behaviour =
    compound (p 1 1 0) CompoundKind.Actor (alone (name 1 7 1 (codes "s"))) None []
    ∷
    DeclarationTree.EnumExtension (record { place = p 2 1 3; name = owned (name 2 8 4 (codes "s")) (name 2 10 6 (codes "x")); items = item (name 2 14 9 (codes "a")) None ∷ [] })
    ∷ []

no_such_behaviour_is : judged no_such_behaviour ≡ Some (fault 2 10 6 FaultCode.Unknown)
unfolding types_of gcd lcm
no_such_behaviour_is = refl

-- A `t` is an `s`, so it has the field `x`, which holds a `t`.
--     struct s:
--         k: bool
--         x: t
--     struct t inherits s(k == true)
abbrev holds_itself : List DeclarationTree
holds_itself =
    compound (p 1 1 0) CompoundKind.Struct (alone (name 1 8 1 (codes "s"))) None
    (field (name 2 5 5 (codes "k") ∷ []) (name 2 8 7 (codes "bool")) None [] ∷
    field (name 3 5 9 (codes "x") ∷ []) (name 3 8 11 (codes "t")) None [] ∷ [])
    ∷
    compound (p 4 1 14) CompoundKind.Struct (alone (name 4 8 15 (codes "t"))) (Some (inherits_if (alone (name 4 19 17 (codes "s"))) (name 4 21 19 (codes "k")) (ConditionValue.Truth (p 4 26 21) true))) []
    ∷ []

holds_itself_is : judged holds_itself ≡ Some (fault 4 8 15 FaultCode.Cycle)
unfolding types_of gcd lcm
holds_itself_is = refl

-- Only an actor owns behaviours.
--     struct c
--     action c.s
abbrev struct_as_owner : List DeclarationTree
struct_as_owner =
    compound (p 1 1 0) CompoundKind.Struct (alone (name 1 8 1 (codes "c"))) None []
    ∷
    compound (p 2 1 3) CompoundKind.Action (owned (name 2 8 4 (codes "c")) (name 2 10 6 (codes "s"))) None []
    ∷ []

struct_as_owner_is : judged struct_as_owner ≡ Some (fault 2 8 4 FaultCode.WrongKind)
unfolding types_of gcd lcm
struct_as_owner_is = refl

-- The exponents of a unit are those of its type.
--     type t is SI(m: 1)
--     unit u of t is SI(m: 1, kg: 1)
abbrev other_exponents : List DeclarationTree
other_exponents =
    DeclarationTree.TypeDeclaration (record { place = p 1 1 0; name = name 1 6 1 (codes "t"); bases = record { name = name 1 14 5 (codes "m"); exponent = signed 1 17 7 false 1 } ∷ [] })
    ∷
    DeclarationTree.UnitDeclaration (record { place = p 2 1 10; name = name 2 6 11 (codes "u"); of = name 2 11 13 (codes "t"); bases = record { name = name 2 19 17 (codes "m"); exponent = signed 2 22 19 false 1 } ∷ record { name = name 2 25 21 (codes "kg"); exponent = signed 2 29 23 false 1 } ∷ []; factor = None; offset = None })
    ∷ []

other_exponents_is : judged other_exponents ≡ Some (fault 2 6 11 FaultCode.UnitClash)
unfolding types_of gcd lcm
other_exponents_is = refl

-- The extension goes on after the greatest number that a member may have.
--     enum e: [a = 1000000000]
--     extend e: [b]
abbrev number_too_large : List DeclarationTree
number_too_large =
    enum (p 1 1 0) (name 1 6 1 (codes "e")) (item (name 1 10 4 (codes "a")) (Some (digits 1 14 6 1000000000)) ∷ [])
    ∷
    DeclarationTree.EnumExtension (record { place = p 2 1 9; name = alone (name 2 8 10 (codes "e")); items = item (name 2 12 13 (codes "b")) None ∷ [] })
    ∷ []

number_too_large_is : judged number_too_large ≡ Some (fault 2 12 13 FaultCode.TooLarge)
unfolding types_of gcd lcm
number_too_large_is = refl
