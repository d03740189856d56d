use Rattle.std.proofs.Common.{◌≡◌, ◌++◌, map, drop}
use Rattle.name_scope.specs.dsl_tree.Views.{declaration_tree}
use Rattle.type_heads.specs.DeclaredTypes.{placed_in}
use Rattle.type_heads.specs.Placing.{seen_placed}
use Rattle.type_heads.proofs.placed.push_decls.Given as goal

abbrev pub invariant-loop-declaration : goal.invariant-loop-declaration
invariant-loop-declaration l = record {
  count : l.index ≡ l.declaration-index;
  rest : map seen_placed l.all.items ++ placed_in l.file l.index (map declaration_tree (drop l.declaration-index l.decls))
      ≡ map seen_placed l.fn.all.items ++ placed_in l.file 0 (map declaration_tree l.decls);
}
