-- What an application of a user modifier comes to: rules and modifiers of the table, each with what the parameters stand for there.
use Rattle.std.specs.Prelude.{ℕ, zero, suc, ◌+◌, cond, List, [], ◌∷◌, ◌++◌, Option, None, length, map, flat_map, bytes_eq, find, slice_get, option_map, option_to_list}
use Rattle.std.specs.Option.{option_map_or, option_or}
use Rattle.composition.specs.dsl_tree.declared.parts.Ident.{Ident}
use Rattle.composition.specs.dsl_tree.PhaseTree.{RuleTree, ArgumentTree, ModifierTree, PartTree}
use Rattle.composition.specs.dsl_tree.FileTree.{ModifierPartTree, ModifierDeclTree, FileTree}
use Rattle.composition.specs.ModifierLines.{NamedValue, is_modifier}

-- ---- modifiers

-- the modifiers of a program, in load order
abbrev pub declared_modifiers : List FileTree → List ModifierDeclTree
declared_modifiers files = flat_map (λ (f : FileTree). f.modifiers) files

-- the modifier of that name: the first that is declared
abbrev pub modifier_named : List ModifierDeclTree → List ℕ → Option ModifierDeclTree
modifier_named mods name = find (λ (d : ModifierDeclTree). bytes_eq d.name.text name) mods

-- the user modifier that is applied; a name of the table is never looked up
abbrev pub modifier_applied : List ModifierDeclTree → ModifierTree → Option ModifierDeclTree
modifier_applied mods m = cond (is_modifier m.name.text) None (modifier_named mods m.name.text)

-- ---- arguments

-- the parameter that a part declares
abbrev pub parameter : ModifierPartTree → List Ident
parameter (ModifierPartTree.Parameter name of) = name ∷ []
parameter (ModifierPartTree.ModifierRule rule) = []
parameter (ModifierPartTree.Application modifier) = []

-- the parameters of a modifier, in order
abbrev pub parameters : ModifierDeclTree → List Ident
parameters d = flat_map parameter d.parts

-- the name of the parameter to which argument n is given: its own, or that of parameter n
abbrev pub parameter_given : List Ident → ℕ → ArgumentTree → Option (List ℕ)
parameter_given params n a = option_map (λ (i : Ident). i.text) (option_or a.name (slice_get params n))

-- the values that are given to parameters, the first of which is argument n
abbrev pub values_given : List Ident → ℕ → List ArgumentTree → List NamedValue
values_given params n [] = []
values_given params n (a ∷ others) =
    map (λ name. record { name = name; value = a.value }) (option_to_list (parameter_given params n a)) ++ values_given params (n + 1) others

-- ---- applications

-- A rule, or a modifier of the table, and what the parameters stand for in it. What that is differs: an expression, its typed form or its strings.
pub data Reading (A : Type 0) : Type 0 where
  RuleIn : (env : List A) (rule : RuleTree) → Reading A
  ModifierIn : (env : List A) (modifier : ModifierTree) → Reading A

-- what a part of a modifier comes to, where its parameters stand for that
abbrev pub part_applied : {A : Type 0} → (List A → ModifierTree → List (Reading A)) → List A → ModifierPartTree → List (Reading A)
part_applied apply env (ModifierPartTree.Parameter name of) = []
part_applied apply env (ModifierPartTree.ModifierRule rule) = Reading.RuleIn env rule ∷ []
part_applied apply env (ModifierPartTree.Application modifier) = apply env modifier

-- What an application comes to. Its arguments are read where it stands, and the parts of the modifier with what they come to there. No modifier
-- applies itself, so there are at most as many steps as modifiers.
abbrev pub applied_within : {A : Type 0} → ℕ → (List A → NamedValue → A) → List ModifierDeclTree → List A → ModifierTree → List (Reading A)
applied_within zero read mods env m = Reading.ModifierIn env m ∷ []
applied_within (suc steps) read mods env m =
    option_map_or (λ (d : ModifierDeclTree). flat_map (part_applied (applied_within steps read mods) (map (read env) (values_given (parameters d) 0 m.arguments))) d.parts)
    (modifier_applied mods m) (Reading.ModifierIn env m ∷ [])

-- what a part of a `with:` comes to; outside of modifiers there are no parameters
abbrev pub readings : {A : Type 0} → (List A → NamedValue → A) → List ModifierDeclTree → PartTree → List (Reading A)
readings read mods (PartTree.RulePart rule) = Reading.RuleIn [] rule ∷ []
readings read mods (PartTree.ModifierPart modifier) = applied_within (length mods) read mods [] modifier
