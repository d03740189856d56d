-- The faults of modifiers and their applications, in the program as it is written: rows of a table.
use Rattle.std.specs.Prelude.{ℕ, zero, suc, ◌+◌, ◌&&◌, ◌||◌, Bool, true, false, not, cond, List, [], ◌∷◌, ◌++◌, None, length, map, flat_map, bytes_eq, find, slice_get, is_none, option_to_list}
use Rattle.std.specs.Option.{option_map_or}
use Rattle.std.specs.List.{list_any}
use Rattle.composition.specs.osc_base.declared.fault.Place.{Place}
use Rattle.composition.specs.osc_base.declared.fault.FaultCode.{FaultCode}
use Rattle.composition.specs.osc_base.FaultRows.{FaultRow, row}
use Rattle.composition.specs.dsl_tree.declared.parts.Ident.{Ident}
use Rattle.composition.specs.dsl_tree.ExprTree.{ExprTree, Implies, Or, And, Not, Relation, Sum, Product, Minus, Dot, Index, Number, Physical, Chars, Truth, It, Actor, Name, EnumName, Group, Span, Listed, RangeCall, Start, ExprRow, End, Item}
use Rattle.composition.specs.dsl_tree.PhaseTree.{RuleTree, ArgumentTree, ModifierTree, PartTree, Invoke}
use Rattle.composition.specs.dsl_tree.FileTree.{MemberTree, DeclarationTree, ModifierPartTree, ModifierDeclTree, FileTree}
use Rattle.composition.specs.dsl_tree.PhaseTree.{PhaseTree}
use Rattle.composition.specs.type_heads.Table.{TypeHead, form, named, is_actor, has_members}
use Rattle.composition.specs.type_heads.Cycles.{returns}
use Rattle.composition.specs.type_heads.DeclaredTypes.{placed, declared_heads}
use Rattle.composition.specs.type_heads.Types.{Program}
use Rattle.composition.specs.name_scope.Declaring.{first_place}
use Rattle.composition.specs.expr_nodes.Typing.{first, is_path}
use Rattle.composition.specs.ModifierLines.{is_modifier}
use Rattle.composition.specs.Calls.{PhaseHere, phases_in}
use Rattle.composition.specs.Uses.{is_at, among, argument_place}
use Rattle.modifier_meaning.specs.Application.{declared_modifiers, modifier_applied, parameters, parameter_given}

-- ---- names that are declared twice

-- each name that is among those before it, or among some others
abbrev pub twice_among : List (List ℕ) → List Ident → List FaultRow
twice_among earlier [] = []
twice_among earlier (i ∷ names) = row i.place FaultCode.Twice (among i.text earlier) ∷ twice_among (i.text ∷ earlier) names

-- a modifier that the table has is declared before all others
abbrev pub twice_modifiers : List (List ℕ) → List ModifierDeclTree → List FaultRow
twice_modifiers earlier [] = []
twice_modifiers earlier (d ∷ mods) = row d.name.place FaultCode.Twice (is_modifier d.name.text || among d.name.text earlier) ∷ twice_modifiers (d.name.text ∷ earlier) mods

-- a modifier or a parameter of a modifier whose name is declared before
abbrev pub twice_rows : List ModifierDeclTree → List FaultRow
twice_rows mods = twice_modifiers [] mods ++ flat_map (λ d. twice_among [] (parameters d)) mods

-- ---- types of parameters

-- a scalar or an actor
abbrev pub can_be_given : List TypeHead → ℕ → Bool
can_be_given heads t = not (has_members (form heads t)) || is_actor (form heads t)

-- the type of a parameter, if the part is one
abbrev pub type_rows : List TypeHead → ModifierPartTree → List FaultRow
type_rows heads (ModifierPartTree.Parameter name of) =
    row of.place FaultCode.Unknown (is_none (named heads None of.text))
    ∷ row of.place FaultCode.WrongKind (option_map_or (λ t. not (can_be_given heads t)) (named heads None of.text) false)
    ∷ []
type_rows heads (ModifierPartTree.ModifierRule rule) = []
type_rows heads (ModifierPartTree.Application modifier) = []

-- a parameter whose type isn't declared, or is neither scalar nor an actor
abbrev pub parameter_rows : List TypeHead → List ModifierDeclTree → List FaultRow
parameter_rows heads mods = flat_map (λ (d : ModifierDeclTree). flat_map (type_rows heads) d.parts) mods

-- ---- expressions of parts

abbrev mutual
  -- something of each name by itself, each `actor`, and each path that begins with a name and goes on
  pub each_name : {X : Type 0} → (Ident → List X) → (Place → List X) → (Ident → List X) → ExprTree → List X
  each_name alone actor onward (Implies p a b) = each_name alone actor onward a ++ each_name alone actor onward b
  each_name alone actor onward (Or p op a b) = each_name alone actor onward a ++ each_name alone actor onward b
  each_name alone actor onward (And p op a b) = each_name alone actor onward a ++ each_name alone actor onward b
  each_name alone actor onward (Not p a) = each_name alone actor onward a
  each_name alone actor onward (Relation p sign a b) = each_name alone actor onward a ++ each_name alone actor onward b
  each_name alone actor onward (Sum p op a b) = each_name alone actor onward a ++ each_name alone actor onward b
  each_name alone actor onward (Product p op a b) = each_name alone actor onward a ++ each_name alone actor onward b
  each_name alone actor onward (Minus p a) = each_name alone actor onward a
  each_name alone actor onward (Dot head i) = each_name onward actor onward head
  each_name alone actor onward (Index p head index) = each_name onward actor onward head ++ each_name alone actor onward index
  each_name alone actor onward (Number d) = []
  each_name alone actor onward (Physical d unit) = []
  each_name alone actor onward (Chars p text) = []
  each_name alone actor onward (Truth p value) = []
  each_name alone actor onward (It p) = []
  each_name alone actor onward (Actor p) = actor p
  each_name alone actor onward (Name i) = alone i
  each_name alone actor onward (EnumName of member) = []
  each_name alone actor onward (Group p a) = each_name alone actor onward a
  each_name alone actor onward (Span p a b) = each_name alone actor onward a ++ each_name alone actor onward b
  each_name alone actor onward (Listed p items) = each_name_among alone actor onward items
  each_name alone actor onward (RangeCall p a b) = each_name alone actor onward a ++ each_name alone actor onward b
  each_name alone actor onward (Start a) = each_name alone actor onward a

  -- the items of a list
  pub each_name_among : {X : Type 0} → (Ident → List X) → (Place → List X) → (Ident → List X) → ExprRow → List X
  each_name_among alone actor onward End = []
  each_name_among alone actor onward (Item a others) = each_name alone actor onward a ++ each_name_among alone actor onward others

-- a name by itself
abbrev pub is_name : ExprTree → Bool
is_name (Name i) = true
is_name _ = false

-- the word after `at:`, which is no expression
abbrev pub is_word : ArgumentTree → Bool
is_word a = is_at a && is_name a.value

-- the expressions among arguments
abbrev pub values_of : List ArgumentTree → List ExprTree
values_of arguments = flat_map (λ (a : ArgumentTree). cond (is_word a) [] (a.value ∷ [])) arguments

-- the expressions of a part
abbrev pub part_values : ModifierPartTree → List ExprTree
part_values (ModifierPartTree.Parameter name of) = []
part_values (ModifierPartTree.ModifierRule (RuleTree.Keep place kind e)) = e ∷ []
part_values (ModifierPartTree.ModifierRule (RuleTree.Remove place path)) = path ∷ []
part_values (ModifierPartTree.Application modifier) = values_of modifier.arguments

-- the texts of names
abbrev pub texts_of_names : List Ident → List (List ℕ)
texts_of_names names = map (λ (i : Ident). i.text) names

-- a name that is no parameter
abbrev pub free_name : List (List ℕ) → Ident → List FaultRow
free_name params i = row i.place FaultCode.Unknown (not (among i.text params)) ∷ []

-- `actor` in a modifier, which is no part of a type
abbrev pub free_actor : Place → List FaultRow
free_actor p = row p FaultCode.Unknown true ∷ []

-- a name in a modifier that is no parameter, and `actor`
abbrev pub free_rows : List ModifierDeclTree → List FaultRow
free_rows mods =
    flat_map (λ (d : ModifierDeclTree).
    flat_map (λ e. each_name (free_name (texts_of_names (parameters d))) free_actor (free_name (texts_of_names (parameters d))) e)
    (flat_map part_values d.parts)) mods

-- ---- cycles

-- the number of the modifier that a part applies
abbrev pub number_applied : List ModifierDeclTree → ModifierPartTree → List ℕ
number_applied mods (ModifierPartTree.Parameter name of) = []
number_applied mods (ModifierPartTree.ModifierRule rule) = []
number_applied mods (ModifierPartTree.Application m) =
    cond (is_modifier m.name.text) [] (option_to_list (first_place (λ (d : ModifierDeclTree). bytes_eq d.name.text m.name.text) 0 mods))

-- the numbers of the modifiers that modifier n applies
abbrev pub numbers_applied : List ModifierDeclTree → ℕ → List ℕ
numbers_applied mods n = flat_map (λ (d : ModifierDeclTree). flat_map (number_applied mods) d.parts) (option_to_list (slice_get mods n))

-- modifiers from number n on, each of which applies itself through others or not
abbrev pub cycles_from : List ModifierDeclTree → ℕ → List ModifierDeclTree → List FaultRow
cycles_from mods n [] = []
cycles_from mods n (d ∷ others) = row d.name.place FaultCode.Cycle (returns (length mods) (numbers_applied mods) n) ∷ cycles_from mods (n + 1) others

-- a modifier that applies itself through others
abbrev pub cycle_rows : List ModifierDeclTree → List FaultRow
cycle_rows mods = cycles_from mods 0 mods

-- ---- applications

-- the applications in a part of a modifier
abbrev pub part_applications : ModifierPartTree → List ModifierTree
part_applications (ModifierPartTree.Parameter name of) = []
part_applications (ModifierPartTree.ModifierRule rule) = []
part_applications (ModifierPartTree.Application modifier) = modifier ∷ []

-- the application that a part of a `with:` is
abbrev pub part_modifiers : PartTree → List ModifierTree
part_modifiers (PartTree.RulePart rule) = []
part_modifiers (PartTree.ModifierPart modifier) = modifier ∷ []

-- the applications in a `with:`
abbrev pub with_applications : PhaseTree → List ModifierTree
with_applications (Invoke label head names arguments parts) = flat_map part_modifiers parts
with_applications _ = []

-- the applications in a member
abbrev pub member_applications : MemberTree → List ModifierTree
member_applications (MemberTree.Field field) = []
member_applications (MemberTree.Rule rule) = []
member_applications (MemberTree.Do place phase) = flat_map (λ (p : PhaseHere). with_applications p.phase) (phases_in phase)

-- the applications in a declaration
abbrev pub declared_applications : DeclarationTree → List ModifierTree
declared_applications (DeclarationTree.CompoundDeclaration d) = flat_map member_applications d.members
declared_applications (DeclarationTree.MemberExtension d) = flat_map member_applications d.members
declared_applications _ = []

-- the applications in invocations of a program
abbrev pub invoked_applications : List FileTree → List ModifierTree
invoked_applications files = flat_map (λ (f : FileTree). flat_map declared_applications f.decls) files

-- all applications of a program
abbrev pub all_applications : List FileTree → List ModifierTree
all_applications files =
    flat_map (λ (d : ModifierDeclTree). flat_map part_applications d.parts) (declared_modifiers files) ++ invoked_applications files

-- argument n with a name: it is a parameter, and isn't given before; without: there is a parameter for it, which isn't given before
abbrev pub argument_rows : List Ident → List (List ℕ) → ℕ → ArgumentTree → List FaultRow
argument_rows params earlier n a =
    option_map_or (λ (i : Ident). row i.place FaultCode.Unknown (not (among i.text (texts_of_names params)))) a.name
    (row (first a.value) FaultCode.BadArgument (is_none (slice_get params n)))
    ∷ row (argument_place a) FaultCode.BadArgument (option_map_or (λ name. among name earlier) (parameter_given params n a) false)
    ∷ []

-- the arguments from number n on, given the parameters to which those before were given
abbrev pub arguments_rows : List Ident → List (List ℕ) → ℕ → List ArgumentTree → List FaultRow
arguments_rows params earlier n [] = []
arguments_rows params earlier n (a ∷ others) =
    argument_rows params earlier n a ++ arguments_rows params (option_to_list (parameter_given params n a) ++ earlier) (n + 1) others

-- the parameters to which arguments are given, the first of which is argument n
abbrev pub names_given : List Ident → ℕ → List ArgumentTree → List (List ℕ)
names_given params n [] = []
names_given params n (a ∷ others) = option_to_list (parameter_given params n a) ++ names_given params (n + 1) others

-- the arguments of an application, and a parameter to which none is given
abbrev pub application_row : List ModifierDeclTree → ModifierTree → List FaultRow
application_row mods m =
    option_map_or (λ (d : ModifierDeclTree).
    row m.name.place FaultCode.BadArgument (list_any (λ (i : Ident). not (among i.text (names_given (parameters d) 0 m.arguments))) (parameters d))
    ∷ arguments_rows (parameters d) [] 0 m.arguments)
    (modifier_applied mods m) []

-- the applications of user modifiers
abbrev pub application_rows : List ModifierDeclTree → List ModifierTree → List FaultRow
application_rows mods applications = flat_map (application_row mods) applications

-- ---- paths

-- a parameter, and whether its argument is a path
pub record Given : Type 0 where
  pub name : List ℕ
  pub is_path : Bool

-- a name stands for an argument that is no path
abbrev pub is_no_path : List Given → Ident → Bool
is_no_path env i = option_map_or (λ (g : Given). not g.is_path) (find (λ (g : Given). bytes_eq g.name i.text) env) false

-- a parameter that a path begins with, whose argument is no path
abbrev pub path_row : List Given → Ident → List FaultRow
path_row env i = row i.place FaultCode.WrongKind (is_no_path env i) ∷ []

-- the paths in an expression that begin with a parameter and go on
abbrev pub onward_rows : List Given → ExprTree → List FaultRow
onward_rows env e = each_name (λ i. []) (λ p. []) (path_row env) e

-- the name with which a path begins
abbrev pub front_name : ExprTree → List Ident
front_name (Name i) = i ∷ []
front_name (Dot head i) = front_name head
front_name (Index p head index) = front_name head
front_name (Start a) = front_name a
front_name _ = []

-- the paths in a part; a `remove_default` takes a path alone
abbrev pub part_path_rows : List Given → ModifierPartTree → List FaultRow
part_path_rows env (ModifierPartTree.Parameter name of) = []
part_path_rows env (ModifierPartTree.ModifierRule (RuleTree.Keep place kind e)) = onward_rows env e
part_path_rows env (ModifierPartTree.ModifierRule (RuleTree.Remove place path)) = flat_map (path_row env) (front_name path) ++ onward_rows env path
part_path_rows env (ModifierPartTree.Application modifier) = flat_map (onward_rows env) (values_of modifier.arguments)

-- a value is a path where parameters are, whose arguments are paths or not
abbrev pub is_path_given : List Given → ExprTree → Bool
is_path_given env (Name i) = not (is_no_path env i)
is_path_given env e = is_path e

-- which arguments of an application are paths, the first of which is argument n
abbrev pub paths_given : List Given → List Ident → ℕ → List ArgumentTree → List Given
paths_given env params n [] = []
paths_given env params n (a ∷ others) =
    map (λ name. record { name = name; is_path = is_path_given env a.value }) (option_to_list (parameter_given params n a)) ++ paths_given env params (n + 1) others

-- an application as written: a path in the modifier's parts that begins with a parameter whose argument is no path
abbrev pub written_path_rows : List ModifierDeclTree → ModifierTree → List FaultRow
written_path_rows mods m =
    option_map_or (λ (d : ModifierDeclTree). flat_map (part_path_rows (paths_given [] (parameters d) 0 m.arguments)) d.parts) (modifier_applied mods m) []

-- the rows of applications in a part
abbrev pub part_arrivals : (List Given → ModifierTree → List FaultRow) → List Given → ModifierPartTree → List FaultRow
part_arrivals arrive env (ModifierPartTree.Parameter name of) = []
part_arrivals arrive env (ModifierPartTree.ModifierRule rule) = []
part_arrivals arrive env (ModifierPartTree.Application modifier) = arrive env modifier

-- the same of an application in an invocation and of those in the modifier, with the arguments that arrive there; a modifier that is applied
-- within itself isn't gone into
abbrev pub arriving_rows : ℕ → List ModifierDeclTree → List (List ℕ) → List Given → ModifierTree → List FaultRow
arriving_rows zero mods within env m = []
arriving_rows (suc steps) mods within env m =
    cond (among m.name.text within) []
    (option_map_or (λ (d : ModifierDeclTree).
    let given = paths_given env (parameters d) 0 m.arguments in
    flat_map (part_path_rows given) d.parts ++ flat_map (part_arrivals (arriving_rows steps mods (m.name.text ∷ within)) given) d.parts)
    (modifier_applied mods m) [])

-- a path that begins with a parameter whose argument is no path
abbrev pub path_rows : List FileTree → List FaultRow
path_rows files =
    let mods = declared_modifiers files in
    flat_map (written_path_rows mods) (all_applications files) ++ flat_map (arriving_rows (length mods) mods [] []) (invoked_applications files)

-- ---- all

-- the faults of modifiers and of their applications, but for parts that are too long
abbrev pub modifier_rows : Program → List FaultRow
modifier_rows p =
    let mods = declared_modifiers p.files in
    twice_rows mods
    ++ (parameter_rows (declared_heads (placed p)) mods
    ++ (free_rows mods
    ++ (cycle_rows mods
    ++ (application_rows mods (all_applications p.files)
    ++ path_rows p.files))))
