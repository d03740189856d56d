use Rattle.std.proofs.Common.{◌≡◌, ◌<◌, ◌^◌, ℕ, List, take}
use Rattle.name_scope.specs.Declaring.{first_place, is_called}
use Rattle.name_scope.specs.Tables.{place_in}
use Rattle.name_scope.proofs.table.NameTable.of.Given as goal

abbrev pub invariant-loop-modifier : goal.invariant-loop-modifier
invariant-loop-modifier l = record {
  count : l.place ≡ l.modifier-index;
  small : l.place < 2 ^ 32;
  first : (name : List ℕ) → place_in l.table name ≡ first_place (is_called name) 0 (take l.modifier-index l.modifiers);
}
