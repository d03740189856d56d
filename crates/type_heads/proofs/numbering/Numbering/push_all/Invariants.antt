use Rattle.std.proofs.Common.{◌≡◌, ◌++◌, List, drop}
use Rattle.name_scope.specs.dsl_tree.declared.enums.EnumItem.{EnumItem}
use Rattle.type_heads.specs.Numbering.{with_items}
use Rattle.type_heads.proofs.numbering.Numbering.push_all.Given as goal

abbrev pub invariant-loop-item : goal.invariant-loop-item
invariant-loop-item l = (more : List EnumItem) → with_items l.self (drop l.item-index l.items ++ more) ≡ with_items l.fn.self (l.items ++ more)
