use Rattle.std.proofs.Common.{◌≡◌, drop, map}
use Rattle.std.specs.List.{list_all}
use Rattle.type_members.specs.Cutting.{is_free}
use Rattle.type_members.specs.Listed.{seen_listed}
use Rattle.type_members.specs.Shared.{under_inside}
use Rattle.type_members.proofs.cutting.all_free_in.Given as goal

abbrev pub invariant-loop-member : goal.invariant-loop-member
invariant-loop-member l =
    list_all is_free (map (under_inside l.inside) (map seen_listed (drop l.member-index l.members))) ≡ list_all is_free (map (under_inside l.inside) (map seen_listed l.members))
