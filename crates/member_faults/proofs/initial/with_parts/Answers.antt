use Rattle.std.proofs.Common.{◌∙◌, ◌+◌, ap, drop, map, refl, sym}
use Rattle.std.proofs.lemmas.List.{drop_more}
use Rattle.std.proofs.lemmas.List.Concat.{flat_map-append}
use Rattle.type_members.specs.osc_base.FaultRows.{first_from}
use Rattle.type_members.specs.type_heads.Types.{Member}
use Rattle.type_members.specs.type_heads.MemberFaults.{initial_rows}
use Rattle.type_members.specs.Listed.{seen_row}
use Rattle.type_members.specs.Shared.{members_in_part, members_in_parts}
use Rattle.type_members.proofs.SeenInside.{flat_in_part}
use Rattle.member_faults.specs.RowFacts.{initials_among}
use Rattle.fault_sets.proofs.RowSteps.{done}
use Rattle.member_faults.proofs.initial.with_parts.Goals as goal

pub loop-part-preserved : goal.loop-part-preserved
loop-part-preserved c =
    let heads = c.args.heads.now in
    let rows = map seen_row c.args.lists.now.rows.items in
    let rest = members_in_parts rows (drop (c.loop-part.part-index + 1) c.args.parts.now) in
    done (initials_among heads (members_in_part rows _)) (initials_among heads rest) c.loop-part.found c.with_initials-found.result
    (first_from c.args.first (initials_among heads (members_in_parts rows c.args.parts.now)))
    (c.with_initials-found.ensures ∙ ap (first_from c.loop-part.found)
    (ap (initials_among heads) c.part.ensures ∙ sym (flat_in_part (λ (m : Member). initial_rows heads m.written.member) (λ k m. refl) rows _)))
    (c.loop-part.invariant ∙ ap (λ ps. first_from c.loop-part.found (initials_among heads (members_in_parts rows ps)))
    (drop_more c.args.parts.now c.loop-part.part-index _ c.loop-part-test.true)
    ∙ ap (first_from c.loop-part.found) (flat_map-append (λ (m : Member). initial_rows heads m.written.member) (members_in_part rows _) rest))
