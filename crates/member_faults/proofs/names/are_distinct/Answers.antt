use Rattle.std.proofs.Common.{◌∙◌, [], ap, bytes_eq, map}
use Rattle.std.specs.Prelude.{is_none, None}
use Rattle.std.specs.List.{list_any}
use Rattle.type_members.specs.type_heads.MemberFaults.{names_among}
use Rattle.type_members.specs.Listed.{seen_listed}
use Rattle.member_faults.proofs.Quiet.{told_none}
use Rattle.member_faults.proofs.RepeatedNames.{all_names}
use Rattle.member_faults.proofs.names.are_distinct.Goals as goal

pub returns : goal.returns
returns c = told_none c.in_ok-found.found c.is_none.result c.is_none.ensures
    ∙ ap is_none (all_names None c.in_ok-found.found c.new-met.result c.with_members.new.met [] (names_among (map seen_listed c.args.members.now)) (λ other. ap (list_any (bytes_eq other)) c.new-met.ensures) c.in_ok-found.ensures)
