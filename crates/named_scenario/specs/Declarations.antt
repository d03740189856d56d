-- The declaration in which the code finds a scenario. This is no part of the meaning of a name.
use Rattle.std.specs.Prelude.{◌≡◌, ℕ, List, Option, Some, None, option_and_then, slice_get}
use Rattle.dsl_tree.specs.declared.compounds.CompoundKind.{CompoundKind}
use Rattle.dsl_tree.specs.FileTree.{CompoundTree, DeclarationTree}
use Rattle.dsl_tree.specs.Views.{file_tree}
use Rattle.name_scope.specs.declared.ids.DeclId.{DeclId}
use Rattle.name_scope.specs.declared.ids.NameKind.{NameKind}
use Rattle.name_scope.specs.FileNumbers.{AddedFile}
use Rattle.name_scope.specs.Declaring.{behaviour_name, found}
use Rattle.program_uses.specs.type_heads.Table.{head}
use Rattle.program_uses.specs.type_heads.Types.{Types}
use Rattle.program_uses.specs.type_heads.Members.{body}
use Rattle.named_scenario.specs.Own.{own_members}

-- the declaration of that number in its file
abbrev pub declaration_at : List AddedFile → DeclId → Option DeclarationTree
declaration_at program id = option_and_then (λ (added : AddedFile). slice_get (file_tree added.file).decls id.index) (slice_get program id.file)

abbrev pub if_scenario : CompoundKind → CompoundTree → Option CompoundTree
if_scenario CompoundKind.Scenario c = Some c
if_scenario _ c = None

-- a scenario, and nothing else
abbrev pub as_scenario : DeclarationTree → Option CompoundTree
as_scenario (DeclarationTree.CompoundDeclaration c) = if_scenario c.kind c
as_scenario _ = None

-- the first action or scenario of that owner and name, if it is a scenario
abbrev pub scenario_declared : List AddedFile → Option (List ℕ) → List ℕ → Option CompoundTree
scenario_declared program owner name = option_and_then as_scenario (option_and_then (declaration_at program) (found NameKind.BehaviourName owner name program))

-- the type is the one that the scenario declares
pub record IsDeclaredBy (ts : Types) (t : ℕ) (c : CompoundTree) : Type 0 where
  pub owner : (head ts.table.heads t).owner ≡ (behaviour_name c.name.first c.name.second).owner
  pub place : (body ts.bodies t).place ≡ (behaviour_name c.name.first c.name.second).place
  pub heir : (body ts.bodies t).heir ≡ c.heir
  pub members : own_members ts t ≡ c.members
