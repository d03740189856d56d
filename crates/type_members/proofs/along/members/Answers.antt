use Rattle.std.proofs.Common.{◌∙◌, map}
use Rattle.type_heads.specs.Bodied.{seen_body}
use Rattle.type_members.proofs.Listings.{members_listed}
use Rattle.type_members.proofs.along.members.Goals as goal

pub returns : goal.returns
returns c =
    c.in_ok-members.ensures
    ∙ members_listed c.args.heads.now (map seen_body c.args.bodies.now) c.args.subtypes.now c.args.of c.count-steps.result c.as_slice.result.now c.as_slice-2.result.now c.requires
    c.count-steps.ensures (c.as_slice.ensures.value ∙ c.in_ok-whole.ensures) (c.as_slice-2.ensures.value ∙ c.in_ok-way.ensures)
