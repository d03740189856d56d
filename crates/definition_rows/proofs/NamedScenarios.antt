-- Faults of the named scenario, each code once.
use Rattle.std.specs.Prelude.{◌≡◌, refl, ℕ, ◌+◌, [], ◌∷◌, Option, Some, None, codes, map}
use Rattle.std.specs.List.{range_with_len}
use Rattle.osc_base.specs.declared.fault.Fault.{Fault}
use Rattle.osc_base.specs.declared.fault.FaultCode.{FaultCode}
use Rattle.osc_base.specs.LowestTerms.{gcd, lcm}
use Rattle.dsl_tree.specs.declared.compounds.CompoundKind.{CompoundKind}
use Rattle.dsl_tree.specs.FileTree.{MemberTree, DeclarationTree, FileTree}
use Rattle.type_heads.specs.Types.{Program}
use Rattle.type_heads.specs.DeclaredTypes.{types_of}
use Rattle.field_flatten.specs.composition.StaticFaults.{static_fault}
use Rattle.definition_rows.proofs.Makers.{at, name_at, within}
use Rattle.definition_rows.proofs.Sources.{single_value}
use Rattle.definition_rows.proofs.VehicleSources.{library}

-- the file of `single_value` has no scenario of that name
other_name_asked : static_fault single_value (types_of single_value) (at 0 4 1 21) None (codes "tip") (within 100) ≡ Some (record { place = at 0 4 1 21; code = FaultCode.NoScenario })
unfolding types_of gcd lcm
other_name_asked = refl

-- so many vehicles, whose names are `v` and a byte
abbrev fleet_file : ℕ → FileTree
fleet_file count = record {
  imports = [];
  modifiers = [];
  decls =
      DeclarationTree.CompoundDeclaration (record {
        place = at 0 2 1 4;
        kind = CompoundKind.Scenario;
        name = record { first = name_at (at 0 2 10 5) (codes "top"); second = None };
        heir = None;
        members =
            MemberTree.Field (record {
              names = map (λ n. name_at (at 0 3 5 9) (118 ∷ (n + 48) ∷ [])) (range_with_len 0 count);
              list = None;
              of = name_at (at 0 3 8 11) (codes "vehicle");
              initial = None;
              rules = [];
            })
            ∷ [];
      })
      ∷ [];
  end = at 0 4 1 14;
}

abbrev fleet : ℕ → Program
fleet count = record { files = fleet_file count ∷ library ∷ []; library = Some 1 }

abbrev fleet_fault : ℕ → Option Fault
fleet_fault count = static_fault (fleet count) (types_of (fleet count)) (at 0 4 1 14) None (codes "top") (within 600)

-- each vehicle has two values, and three slots at each of 601 ticks
fleet_of_36 : fleet_fault 36 ≡ None
unfolding types_of gcd lcm
fleet_of_36 = refl

fleet_of_37 : fleet_fault 37 ≡ Some (record { place = at 0 2 10 5; code = FaultCode.TooMany })
unfolding types_of gcd lcm
fleet_of_37 = refl
