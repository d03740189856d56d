use Rattle.std.proofs.Common.{◌≡◌, ◌++◌, List, drop}
use Rattle.std.specs.Prelude.{flat_map}
use Rattle.name_scope.specs.dsl_tree.declared.enums.EnumItem.{EnumItem}
use Rattle.type_heads.specs.Numbering.{with_items, items_placed}
use Rattle.type_heads.proofs.numbering.Numbering.push_extensions.Given as goal

abbrev pub invariant-loop-placed : goal.invariant-loop-placed
invariant-loop-placed l = (more : List EnumItem) →
    with_items l.self (flat_map items_placed (drop l.placed-index l.extensions) ++ more) ≡ with_items l.fn.self (flat_map items_placed l.extensions ++ more)
