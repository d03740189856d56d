-- What a field of a type holds.
use Rattle.std.specs.Prelude.{ℕ, ◌&&◌, not, List, [], ◌++◌, ◌∷◌, cond, flat_map, option_to_list}
use Rattle.osc_base.specs.declared.path.Path.{Path}
use Rattle.dsl_tree.specs.FileTree.{FieldTree}
use Rattle.expr_nodes.specs.type_heads.Table.{form, is_object}
use Rattle.expr_nodes.specs.type_heads.Types.{Types}
use Rattle.expr_nodes.specs.type_heads.Members.{list_length}
use Rattle.scene_expansion.specs.composition.declared.guard.Guard.{Guard}
use Rattle.scene_expansion.specs.composition.Homes.{is_bound}
use Rattle.scene_expansion.specs.composition.Ranges.{range_of}
use Rattle.scene_expansion.specs.composition.Scenes.{Binding}
use Rattle.scene_expansion.specs.expansion_laws.Works.{Work, Object, value_works}

-- its object, unless it is bound
abbrev pub held_objects : ℕ → Types → List Binding → Path → List Guard → ℕ → List Work
held_objects steps ts bindings path guards of = cond (is_object (form ts.table.heads of) && not (is_bound bindings path)) (Object steps path of guards [] ∷ []) []

-- its values
abbrev pub held_values : Types → Path → List Guard → FieldTree → ℕ → List Work
held_values ts path guards f of = flat_map (value_works path guards (list_length f)) (option_to_list (range_of (form ts.table.heads of)))

-- both
abbrev pub held_works : ℕ → Types → List Binding → Path → List Guard → FieldTree → ℕ → List Work
held_works steps ts bindings path guards f of = held_objects steps ts bindings path guards of ++ held_values ts path guards f of
