use Rattle.std.proofs.Common.{◌≡◌, ◌++◌, map, drop}
use Rattle.type_heads.specs.DeclaredTypes.{basic_types, declared}
use Rattle.type_heads.specs.Members.{nowhere}
use Rattle.type_heads.specs.Placing.{seen_type, basic_name, basic_form}
use Rattle.type_heads.proofs.own_type.push_basic.Given as goal

abbrev pub invariant-loop-basic : goal.invariant-loop-basic
invariant-loop-basic l =
    map seen_type l.all.items ++ map (λ b. declared (basic_name b) (basic_form b) nowhere) (drop l.basic-index l.basic-items)
    ≡ map seen_type l.fn.all.items ++ basic_types
