use Rattle.std.proofs.Common.{◌≡◌, ◌++◌, take, drop}
use Rattle.dsl_tree.specs.osc_base.FaultRows.{first_from}
use Rattle.name_scope.specs.Headings.{declarations, rows_behind}
use Rattle.name_scope.proofs.headings.with_file.Given as goal

abbrev pub invariant-loop-declaration : goal.invariant-loop-declaration
invariant-loop-declaration l = record {
  count : l.index ≡ l.declaration-index;
  rest : first_from l.fn.first (rows_behind (declarations l.all) (declarations l.files) l.file.file.decls)
      ≡ first_from l.found (rows_behind (declarations l.all) (declarations l.files ++ take l.index l.file.file.decls) (drop l.index l.file.file.decls));
}
