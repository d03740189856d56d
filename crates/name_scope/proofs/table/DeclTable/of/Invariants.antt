use Rattle.std.proofs.Common.{◌≡◌, ◌<◌, ◌^◌, ℕ, List, Option, take}
use Rattle.name_scope.specs.declared.ids.NameKind.{NameKind}
use Rattle.name_scope.specs.Declaring.{declares, first_place}
use Rattle.name_scope.specs.Tables.{place_of}
use Rattle.name_scope.proofs.table.DeclTable.of.Given as goal

abbrev pub invariant-loop-declaration : goal.invariant-loop-declaration
invariant-loop-declaration l = record {
  count : l.place ≡ l.declaration-index;
  small : l.place < 2 ^ 32;
  first : (kind : NameKind) (owner : Option (List ℕ)) (name : List ℕ) → place_of l.table kind owner name ≡ first_place (declares kind owner name) 0 (take l.declaration-index l.decls);
}
