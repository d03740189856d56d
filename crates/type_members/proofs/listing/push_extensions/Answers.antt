use Rattle.std.proofs.Common.{◌∙◌, ◌++◌, ap, map}
use Rattle.type_heads.specs.Members.{body}
use Rattle.type_members.specs.Listing.{member_in, pending}
use Rattle.type_members.specs.declared.listing.Stage.{Stage}
use Rattle.type_members.proofs.Tasks.{pending_more}
use Rattle.type_members.proofs.listing.push_extensions.Goals as goal

pub returns : goal.returns
returns c = λ w.
    ap (pending w) c.in_ok-push.ensures.items
    ∙ pending_more w c.args.tasks.now.items (record { of = c.args.of; under = c.of-under.result; stage = Stage.Extensions })
    ∙ ap (λ under. map (member_in c.args.of under) (body w.bodies c.args.of).more ++ pending w c.args.tasks.now.items) (c.of-under.ensures ∙ c.in_ok-from_slice.ensures.items)
