use Rattle.std.proofs.Common.{◌≡◌, ◌≤◌, drop, take, length}
use Rattle.name_scope.specs.FileNumbers.{first_import_fault, with_imports}
use Rattle.name_scope.proofs.names.number_imports.Given as goal

abbrev pub invariant-loop-import : goal.invariant-loop-import
invariant-loop-import l = record {
  few : length l.names.items ≤ 64;
  fault : first_import_fault l.initial.names.items l.imports ≡ first_import_fault l.names.items (drop l.import-index l.imports);
  named : with_imports l.initial.names.items l.imports ≡ with_imports l.names.items (drop l.import-index l.imports);
  front : take (length l.initial.names.items) l.names.items ≡ l.initial.names.items;
}
