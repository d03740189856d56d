use Rattle.std.proofs.Common.{◌≡◌, ◌<◌, ◌^◌, ◌&&◌, ℕ, List, Option, take, bytes_eq}
use Rattle.name_scope.specs.Declaring.{same_owner, first_place}
use Rattle.type_heads.specs.Names.{place_of}
use Rattle.type_heads.specs.Placing.{seen_type}
use Rattle.type_heads.proofs.names.NameIndex.of.Given as goal

abbrev pub invariant-loop-own : goal.invariant-loop-own
invariant-loop-own l = record {
  count : l.place ≡ l.own-index;
  small : l.place < 2 ^ 32;
  first : (owner : Option (List ℕ)) (name : List ℕ) → place_of l.index owner name
      ≡ first_place (λ o. same_owner (seen_type o).head.owner owner && bytes_eq (seen_type o).head.name name) 0 (take l.own-index l.types);
}
