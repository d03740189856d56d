-- Small programs with modifiers: what stands in the place of applications, which runs are instances, and each fault once.
use Rattle.std.specs.Prelude.{◌≡◌, refl, ℕ, ◌+◌, Bool, true, false, List, [], ◌∷◌, Option, Some, None, codes, pos, option_map, map, sum_by}
use Rattle.composition.specs.osc_base.declared.fault.Place.{Place}
use Rattle.composition.specs.osc_base.declared.fault.FaultCode.{FaultCode}
use Rattle.composition.specs.osc_base.declared.fault.Fault.{Fault}
use Rattle.composition.specs.osc_base.declared.path.Step.{Step}
use Rattle.composition.specs.osc_base.FaultRows.{first_fault}
use Rattle.composition.specs.osc_base.LowestTerms.{gcd, lcm}
use Rattle.composition.specs.osc_base.Paths.{path_of}
use Rattle.composition.specs.dsl_tree.declared.parts.Ident.{Ident}
use Rattle.composition.specs.dsl_tree.declared.expr.Operator.{Operator}
use Rattle.composition.specs.dsl_tree.declared.expr.RelationSign.{RelationSign}
use Rattle.composition.specs.dsl_tree.declared.rules.KeepKind.{KeepKind}
use Rattle.composition.specs.dsl_tree.declared.phases.InvokeHead.{InvokeHead}
use Rattle.composition.specs.dsl_tree.declared.compounds.CompoundKind.{CompoundKind}
use Rattle.composition.specs.dsl_tree.ExprTree.{ExprTree}
use Rattle.composition.specs.dsl_tree.PhaseTree.{RuleTree, ArgumentTree, ModifierTree, PartTree, PhaseTree}
use Rattle.composition.specs.dsl_tree.FileTree.{MemberTree, DeclarationTree, ModifierPartTree, ModifierDeclTree}
use Rattle.composition.specs.type_heads.Types.{Program}
use Rattle.composition.specs.type_heads.DeclaredTypes.{types_of}
use Rattle.composition.specs.declared.run.Held.{Held}
use Rattle.composition.specs.declared.run.Run.{Run}
use Rattle.composition.specs.declared.setting.Setting.{Setting}
use Rattle.composition.specs.SceneFaults.{named_scenario}
use Rattle.composition.specs.Claims.{is_instance}
use Rattle.modifier_meaning.specs.Unfolded.{unfolded_parts}
use Rattle.modifier_meaning.specs.WrittenScene.{written_scene}
use Rattle.modifier_meaning.specs.ModifierFaults.{modifier_rows}
use Rattle.modifier_meaning.specs.UnfoldedLength.{part_tokens, part_brackets, parts_of, length_rows}

-- ---- shorthands: each token stands at its number, in one line

abbrev p : ℕ → Place
p n = record { file = 0; line = 1; column = n; token = n }

abbrev name : ℕ → List ℕ → Ident
name n text = record { place = p n; text = text }

abbrev word : ℕ → List ℕ → ExprTree
word n text = ExprTree.Name (name n text)

abbrev number : ℕ → ℕ → ExprTree
number n value = ExprTree.Number (record { place = p n; digits = value; places = 0 })

-- `a + b` and `a * b`, with the sign at token n
abbrev sum : ExprTree → ℕ → ExprTree → ExprTree
sum a n b = ExprTree.Sum (p n) Operator.Plus (ExprTree.Start a) b

abbrev times : ExprTree → ℕ → ExprTree → ExprTree
times a n b = ExprTree.Product (p n) Operator.Star (ExprTree.Start a) b

-- `a.name`, with the point at token n
abbrev dot : ExprTree → ℕ → List ℕ → ExprTree
dot a n text = ExprTree.Dot (ExprTree.Start a) (name n text)

-- `keep(it.w == e)` from token n on
abbrev keep_w : ℕ → ExprTree → RuleTree
keep_w n e = RuleTree.Keep (p n) KeepKind.Plain (ExprTree.Relation (p (n + 5)) RelationSign.Equal (dot (ExprTree.It (p (n + 2))) (n + 4) (codes "w")) e)

abbrev rule : ℕ → ExprTree → ModifierPartTree
rule n e = ModifierPartTree.ModifierRule (keep_w n e)

abbrev parameter : ℕ → List ℕ → List ℕ → ModifierPartTree
parameter n text of = ModifierPartTree.Parameter (name n text) (name (n + 2) of)

abbrev given : ExprTree → ArgumentTree
given e = record { name = None; value = e }

abbrev given_as : ℕ → List ℕ → ExprTree → ArgumentTree
given_as n text e = record { name = Some (name n text); value = e }

abbrev apply : ℕ → List ℕ → List ArgumentTree → ModifierTree
apply n text arguments = record { name = name n text; arguments = arguments }

abbrev modifier : ℕ → List ℕ → List ModifierPartTree → ModifierDeclTree
modifier n text parts = record { place = p n; name = name (n + 1) text; parts = parts }

abbrev kept : ℕ → ExprTree → PartTree
kept n e = PartTree.RulePart (keep_w n e)

abbrev applied : ℕ → List ℕ → List ArgumentTree → PartTree
applied n text arguments = PartTree.ModifierPart (apply n text arguments)

-- an expression in brackets that begin at token n
abbrev group : ℕ → ExprTree → ExprTree
group n e = ExprTree.Group (p n) e

abbrev field : ℕ → List ℕ → List ℕ → MemberTree
field n text of = MemberTree.Field (record { names = name n text ∷ []; list = None; of = name (n + 2) of; initial = None; rules = [] })

abbrev compound : ℕ → CompoundKind → List ℕ → List MemberTree → DeclarationTree
compound n kind text members =
    DeclarationTree.CompoundDeclaration (record { place = p n; kind = kind; name = record { first = name (n + 1) text; second = None }; heir = None; members = members })

-- The program of these modifiers, in which `go` is invoked with these parts.
--     actor robot:
--         size: int
--     action go:
--         w: int
--     scenario top:
--         r: robot
--         do go() with:
abbrev program : List ModifierDeclTree → List PartTree → Program
program mods parts = record {
  files = record {
    imports = [];
    modifiers = mods;
    decls =
        compound 500 CompoundKind.Actor (codes "robot") (field 502 (codes "size") (codes "int") ∷ [])
        ∷ compound 510 CompoundKind.Action (codes "go") (field 512 (codes "w") (codes "int") ∷ [])
        ∷ compound 520 CompoundKind.Scenario (codes "top")
        (field 522 (codes "r") (codes "robot") ∷ MemberTree.Do (p 530) (PhaseTree.Invoke None (InvokeHead.Name (name 531 (codes "go"))) [] [] parts) ∷ [])
        ∷ [];
    end = p 999;
  } ∷ [];
  library = None;
}

-- the run in which the robot has that size, and `w` that value
abbrev run : ℕ → ℕ → Run
run size w = record {
  choices = [];
  end = 1;
  phases = record { path = path_of (Step.Name (codes "do") ∷ []); start = 0; end = 1 } ∷ [];
  tick = 100;
  traces = [];
  values =
      record { path = path_of (Step.Name (codes "r") ∷ Step.Name (codes "size") ∷ []); held = Held.Number (pos size) }
      ∷ record { path = path_of (Step.Name (codes "do") ∷ Step.Name (codes "w") ∷ []); held = Held.Number (pos w) }
      ∷ [];
}

abbrev one_tick : Setting
one_tick = record { ticks = 1; lanes = 3; road = 1000; tick = 100 }

-- whether that run is an instance of the program as written
abbrev has_run : Program → ℕ → ℕ → Option Bool
has_run program size w = option_map (λ t. is_instance (written_scene program t one_tick) (run size w)) (named_scenario (types_of program) None (codes "top"))

abbrev fault : ℕ → FaultCode → Option Fault
fault n code = Some (record { place = p n; code = code })

-- the first fault of modifiers in the program
abbrev judged : List ModifierDeclTree → List PartTree → Option Fault
judged mods parts = first_fault (modifier_rows (program mods parts))

-- ---- what stands in the place of applications

-- modifier pinned:
--     n: int
--     keep(it.w == n + 1)
abbrev pinned : ModifierDeclTree
pinned = modifier 10 (codes "pinned") (parameter 14 (codes "n") (codes "int") ∷ rule 18 (sum (word 24 (codes "n")) 25 (number 26 1)) ∷ [])

-- `pinned(3)`: a number stands in brackets
number_in_brackets : unfolded_parts (pinned ∷ []) (applied 540 (codes "pinned") (given (number 542 3) ∷ []) ∷ []) ≡ kept 18 (sum (group 542 (number 542 3)) 25 (number 26 1)) ∷ []
number_in_brackets = refl

number_four : has_run (program (pinned ∷ []) (applied 540 (codes "pinned") (given (number 542 3) ∷ []) ∷ [])) 0 4 ≡ Some true
unfolding types_of gcd lcm
number_four = refl

number_three : has_run (program (pinned ∷ []) (applied 540 (codes "pinned") (given (number 542 3) ∷ []) ∷ [])) 0 3 ≡ Some false
unfolding types_of gcd lcm
number_three = refl

-- modifier doubled:
--     n: int
--     keep(it.w == n * 2)
abbrev doubled : ModifierDeclTree
doubled = modifier 30 (codes "doubled") (parameter 34 (codes "n") (codes "int") ∷ rule 38 (times (word 44 (codes "n")) 45 (number 46 2)) ∷ [])

-- `doubled(1 + 2)` is twice the sum, and not twice its last part
abbrev sum_doubled : Program
sum_doubled = program (pinned ∷ doubled ∷ []) (applied 540 (codes "doubled") (given (sum (number 542 1) 543 (number 544 2)) ∷ []) ∷ [])

sum_six : has_run sum_doubled 0 6 ≡ Some true
unfolding types_of gcd lcm
sum_six = refl

sum_five : has_run sum_doubled 0 5 ≡ Some false
unfolding types_of gcd lcm
sum_five = refl

-- modifier sized:
--     v: robot
--     keep(it.w == v.size)
abbrev sized : ModifierDeclTree
sized = modifier 50 (codes "sized") (parameter 54 (codes "v") (codes "robot") ∷ rule 58 (dot (word 64 (codes "v")) 66 (codes "size")) ∷ [])

-- `sized(r)`: a path goes on
abbrev path_given : Program
path_given = program (sized ∷ []) (applied 540 (codes "sized") (given (word 542 (codes "r")) ∷ []) ∷ [])

path_same : has_run path_given 7 7 ≡ Some true
unfolding types_of gcd lcm
path_same = refl

path_other : has_run path_given 7 8 ≡ Some false
unfolding types_of gcd lcm
path_other = refl

-- `sized(a.b)`: the path of an argument goes on as one path
path_goes_on : unfolded_parts (sized ∷ []) (applied 540 (codes "sized") (given (dot (word 542 (codes "a")) 544 (codes "b")) ∷ []) ∷ [])
    ≡ kept 58 (ExprTree.Dot (dot (word 542 (codes "a")) 544 (codes "b")) (name 66 (codes "size"))) ∷ []
path_goes_on = refl

-- modifier nested:
--     k: int
--     pinned(k + 1)
abbrev nested : ModifierDeclTree
nested = modifier 70 (codes "nested") (parameter 74 (codes "k") (codes "int") ∷ ModifierPartTree.Application (apply 78 (codes "pinned") (given (sum (word 80 (codes "k")) 81 (number 82 1)) ∷ [])) ∷ [])

-- `nested(2)`: the argument of the inner application has that of the outer one in it
nested_brackets : unfolded_parts (pinned ∷ nested ∷ []) (applied 540 (codes "nested") (given (number 542 2) ∷ []) ∷ [])
    ≡ kept 18 (sum (group 542 (sum (group 542 (number 542 2)) 81 (number 82 1))) 25 (number 26 1)) ∷ []
nested_brackets = refl

nested_four : has_run (program (pinned ∷ nested ∷ []) (applied 540 (codes "nested") (given (number 542 2) ∷ []) ∷ [])) 0 4 ≡ Some true
unfolding types_of gcd lcm
nested_four = refl

-- modifier outer:
--     n: int
--     m: int
--     pinned(m)
abbrev outer : ModifierDeclTree
outer = modifier 90 (codes "outer") (parameter 94 (codes "n") (codes "int") ∷ parameter 98 (codes "m") (codes "int") ∷ ModifierPartTree.Application (apply 102 (codes "pinned") (given (word 104 (codes "m")) ∷ [])) ∷ [])

-- `outer(1, 5)`: the parameter `n` of `pinned` isn't that of `outer`
abbrev captured : Program
captured = program (pinned ∷ outer ∷ []) (applied 540 (codes "outer") (given (number 542 1) ∷ given (number 544 5) ∷ []) ∷ [])

captured_six : has_run captured 0 6 ≡ Some true
unfolding types_of gcd lcm
captured_six = refl

captured_two : has_run captured 0 2 ≡ Some false
unfolding types_of gcd lcm
captured_two = refl

-- `outer(m: 5, n: 1)`: arguments with names, in any order
named_six : has_run (program (pinned ∷ outer ∷ []) (applied 540 (codes "outer") (given_as 542 (codes "m") (number 544 5) ∷ given_as 546 (codes "n") (number 548 1) ∷ []) ∷ [])) 0 6 ≡ Some true
unfolding types_of gcd lcm
named_six = refl

-- modifier empty:
--     n: int
abbrev empty : ModifierDeclTree
empty = modifier 110 (codes "empty") (parameter 114 (codes "n") (codes "int") ∷ [])

empty_is_nothing : unfolded_parts (empty ∷ []) (applied 540 (codes "empty") (given (number 542 3) ∷ []) ∷ kept 550 (number 556 1) ∷ []) ≡ kept 550 (number 556 1) ∷ []
empty_is_nothing = refl

-- modifier begun:
--     start: int
--     speed(start, at: start)
abbrev begun : ModifierDeclTree
begun = modifier 120 (codes "begun") (parameter 124 (codes "start") (codes "int") ∷ ModifierPartTree.Application (apply 128 (codes "speed") (given (word 130 (codes "start")) ∷ given_as 132 (codes "at") (word 134 (codes "start")) ∷ [])) ∷ [])

-- the word after `at:` of a modifier of the table is no parameter
word_stays : unfolded_parts (begun ∷ []) (applied 540 (codes "begun") (given (number 542 3) ∷ []) ∷ [])
    ≡ applied 128 (codes "speed") (given (group 542 (number 542 3)) ∷ given_as 132 (codes "at") (word 134 (codes "start")) ∷ []) ∷ []
word_stays = refl

-- ---- faults

no_fault : judged (pinned ∷ doubled ∷ sized ∷ nested ∷ outer ∷ empty ∷ []) (applied 540 (codes "pinned") (given (number 542 3) ∷ []) ∷ []) ≡ None
no_fault = refl

-- `pinned(3, 4)`, `pinned()` and `pinned(3, n: 4)`
one_too_many : judged (pinned ∷ []) (applied 540 (codes "pinned") (given (number 542 3) ∷ given (number 544 4) ∷ []) ∷ []) ≡ fault 544 FaultCode.BadArgument
one_too_many = refl

one_missing : judged (pinned ∷ []) (applied 540 (codes "pinned") [] ∷ []) ≡ fault 540 FaultCode.BadArgument
one_missing = refl

given_twice : judged (pinned ∷ []) (applied 540 (codes "pinned") (given (number 542 3) ∷ given_as 544 (codes "n") (number 546 4) ∷ []) ∷ []) ≡ fault 544 FaultCode.BadArgument
given_twice = refl

-- `pinned(m: 3)`
no_parameter : judged (pinned ∷ []) (applied 540 (codes "pinned") (given_as 542 (codes "m") (number 544 3) ∷ []) ∷ []) ≡ fault 540 FaultCode.BadArgument
no_parameter = refl

-- `pinned(3, m: 4)`
no_second_parameter : judged (pinned ∷ []) (applied 540 (codes "pinned") (given (number 542 3) ∷ given_as 544 (codes "m") (number 546 4) ∷ []) ∷ []) ≡ fault 544 FaultCode.Unknown
no_second_parameter = refl

-- `keep(it.w == m)` where `m` is no parameter, and `actor`
unknown_name : judged (modifier 10 (codes "odd") (rule 14 (word 20 (codes "m")) ∷ []) ∷ []) [] ≡ fault 20 FaultCode.Unknown
unknown_name = refl

actor_in_modifier : judged (modifier 10 (codes "odd") (rule 14 (dot (ExprTree.Actor (p 20)) 22 (codes "size")) ∷ []) ∷ []) [] ≡ fault 20 FaultCode.Unknown
actor_in_modifier = refl

-- two modifiers that apply each other
cycle : judged (modifier 10 (codes "a") (ModifierPartTree.Application (apply 14 (codes "b") []) ∷ []) ∷ modifier 20 (codes "b") (ModifierPartTree.Application (apply 24 (codes "a") []) ∷ []) ∷ []) [] ≡ fault 11 FaultCode.Cycle
cycle = refl

-- `sized(3)`: a number has no parts
no_path : judged (sized ∷ []) (applied 540 (codes "sized") (given (number 542 3) ∷ []) ∷ []) ≡ fault 64 FaultCode.WrongKind
no_path = refl

-- modifier passed:
--     k: int
--     sized(k)
abbrev passed : ModifierDeclTree
passed = modifier 140 (codes "passed") (parameter 144 (codes "k") (codes "int") ∷ ModifierPartTree.Application (apply 148 (codes "sized") (given (word 150 (codes "k")) ∷ [])) ∷ [])

-- a path as written may arrive as none
arrives_as_path : judged (sized ∷ passed ∷ []) (applied 540 (codes "passed") (given (word 542 (codes "r")) ∷ []) ∷ []) ≡ None
arrives_as_path = refl

arrives_as_number : judged (sized ∷ passed ∷ []) (applied 540 (codes "passed") (given (number 542 3) ∷ []) ∷ []) ≡ fault 64 FaultCode.WrongKind
arrives_as_number = refl

-- a second modifier of a name, one of a name of the table, and a second parameter of a name
second_modifier : judged (pinned ∷ modifier 20 (codes "pinned") [] ∷ []) [] ≡ fault 21 FaultCode.Twice
second_modifier = refl

table_modifier : judged (modifier 20 (codes "speed") [] ∷ []) [] ≡ fault 21 FaultCode.Twice
table_modifier = refl

second_parameter : judged (modifier 20 (codes "two") (parameter 24 (codes "n") (codes "int") ∷ parameter 28 (codes "n") (codes "int") ∷ []) ∷ []) [] ≡ fault 28 FaultCode.Twice
second_parameter = refl

-- types of parameters: one that isn't declared, and an action
unknown_type : judged (modifier 20 (codes "typed") (parameter 24 (codes "n") (codes "none") ∷ []) ∷ []) [] ≡ fault 26 FaultCode.Unknown
unknown_type = refl

action_as_type : judged (modifier 20 (codes "typed") (parameter 24 (codes "n") (codes "go") ∷ []) ∷ []) [] ≡ fault 26 FaultCode.WrongKind
action_as_type = refl

-- a modifier that nobody applies may apply one that isn't declared
nobody_applies : judged (modifier 20 (codes "lost") (ModifierPartTree.Application (apply 24 (codes "none") []) ∷ []) ∷ []) [] ≡ None
nobody_applies = refl

-- ---- lengths

-- the parts of an application
abbrev parts : List ModifierDeclTree → ModifierTree → List PartTree
parts mods m = parts_of mods m

-- `keep(it.w == (3) + 1)` has twelve tokens and a line's end, and at most two open brackets
length_counted : sum_by part_tokens (parts (pinned ∷ []) (apply 540 (codes "pinned") (given (number 542 3) ∷ []))) ≡ 13
length_counted = refl

brackets_counted : map part_brackets (parts (pinned ∷ nested ∷ []) (apply 540 (codes "nested") (given (number 542 3) ∷ []))) ≡ 3 ∷ []
brackets_counted = refl

short_enough : first_fault (length_rows FaultCode.TooLarge (program (pinned ∷ []) (applied 540 (codes "pinned") (given (number 542 3) ∷ []) ∷ [])).files) ≡ None
short_enough = refl
