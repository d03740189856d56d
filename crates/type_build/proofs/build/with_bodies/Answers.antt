use Rattle.std.proofs.Common.{◌∙◌, ap, map}
use Rattle.type_model.specs.type_heads.Bodied.{seen_body}
use Rattle.type_model.specs.type_heads.DeclaredTypes.{types_of}
use Rattle.type_model.specs.type_heads.Gathered.{all_of}
use Rattle.type_model.specs.type_heads.Members.{members_of}
use Rattle.type_model.specs.type_heads.Table.{all_types}
use Rattle.type_model.specs.type_members.Listed.{lists_of}
use Rattle.type_build.specs.Sound.{IsFirstFault, IsMemberFault}
use Rattle.type_build.proofs.Stops.{exit, member_first}
use Rattle.type_model.proofs.TypeParts.{have_parts, list_count}
use Rattle.type_build.proofs.build.with_bodies.Goals as goal

pub refuse_members-requires : goal.refuse_members-requires
refuse_members-requires c = list_count c.args.heads (map seen_body c.as_slice-entries.result.now) (lists_of c.in_ok-lists.lists) c.in_ok-lists.ensures

pub returns-in_err-refuse_members-clause-fault : goal.returns-in_err-refuse_members-clause-fault
returns-in_err-refuse_members-clause-fault c =
    let all = all_of c.args.declarations.now in
    let bodies = map seen_body c.as_slice-entries.result.now in
    let lists = lists_of c.in_ok-lists.lists in
    exit (IsMemberFault c.args.heads bodies lists) (IsFirstFault all) c.from_residual-in_err-refuse_members.result c.in_err-refuse_members.field-0.0
    (member_first all c.args.heads bodies lists c.requires.sound
    (λ p same. have_parts p all same c.args.heads c.requires.same_heads bodies (ap (map seen_body) c.as_slice-entries.ensures.value ∙ c.requires.same_bodies.0) lists c.in_ok-lists.ensures))
    c.in_err-refuse_members.ensures.fault c.from_residual-in_err-refuse_members.ensures.1

pub with_members-requires-clause-same_members : goal.with_members-requires-clause-same_members
with_members-requires-clause-same_members c =
    c.in_ok-lists.ensures ∙ ap (λ bs. map (members_of c.args.heads (map seen_body bs)) (all_types c.args.heads)) c.as_slice-entries.ensures.value

pub returns-clause-types : goal.returns-clause-types
returns-clause-types c =
    let all = all_of c.args.declarations.now in
    let bodies = map seen_body c.as_slice-entries.result.now in
    λ p same. (
      c.in_ok-types.ensures p same,
      c.requires.sound p same,
      c.in_ok-refuse_members.ensures.sound (types_of p)
          (have_parts p all same c.args.heads c.requires.same_heads bodies (ap (map seen_body) c.as_slice-entries.ensures.value ∙ c.requires.same_bodies.0) (lists_of c.in_ok-lists.lists) c.in_ok-lists.ensures),
    )
