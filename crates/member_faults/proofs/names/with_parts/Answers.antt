use Rattle.std.proofs.Common.{◌∙◌, ap, map, refl, subst, sym, take_all}
use Rattle.type_members.specs.type_heads.Types.{Member}
use Rattle.type_members.specs.type_heads.MemberFaults.{member_names, names_among}
use Rattle.type_members.specs.Listed.{seen_row}
use Rattle.type_members.specs.Shared.{members_in_parts}
use Rattle.type_members.proofs.SeenInside.{flat_in_part}
use Rattle.fault_sets.specs.NameRows.{ContinuesNames}
use Rattle.member_faults.proofs.RepeatedNames.{next_part}
use Rattle.member_faults.proofs.names.with_parts.Goals as goal

pub loop-part-preserved : goal.loop-part-preserved
loop-part-preserved c =
    next_part c.args.first c.loop-part.found c.in_ok-found.found c.args.met.now c.loop-part.met c.with_members.new.met (map seen_row c.args.lists.now.rows.items) c.args.parts.now c.loop-part.part-index _ c.loop-part-test.true
    (subst (ContinuesNames c.loop-part.found c.loop-part.met c.in_ok-found.found c.with_members.new.met)
    (ap names_among c.part.ensures ∙ sym (flat_in_part (λ (m : Member). member_names m.written.member) (λ k m. refl) (map seen_row c.args.lists.now.rows.items) _)) c.in_ok-found.ensures)
    c.loop-part.invariant

pub returns : goal.returns
returns c = subst (λ ps. ContinuesNames c.args.first c.args.met.now c.loop-part.found c.loop-part.met (names_among (members_in_parts (map seen_row c.args.lists.now.rows.items) ps)))
    (take_all c.loop-part.part-index c.args.parts.now c.loop-part-test.false) c.loop-part.invariant
