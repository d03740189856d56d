use Rattle.std.proofs.Common.{rules, ◌≡◌, ◌∙◌, ◌-◌, ◌<◌, ap, length, slice_index_or}
use Rattle.type_members.specs.Cutting.{is_within}
use Rattle.type_members.specs.Listed.{seen_listed}
use Rattle.type_members.specs.Shared.{under_inside}
use Rattle.type_members.proofs.Cuts.{ends_mapped}
use Rattle.type_members.proofs.cutting.has_last.Goals as goal

pub returns : goal.returns
returns c =
    let some : 0 < length c.args.members.now = search rules in
    let is : c.index-members-members.result ≡ slice_index_or c.args.members.now (length c.args.members.now - 1) c.index-members-members.result = search rules in
    c.is_within_type.ensures ∙ ap (λ m. is_within c.args.of (under_inside c.args.inside (seen_listed m))) is
    ∙ ends_mapped (is_within c.args.of) (under_inside c.args.inside) seen_listed c.args.members.now c.index-members-members.result some
