use Rattle.std.proofs.Common.{◌∙◌, ◌+◌, None, Some, ap, cond, take, take_all}
use Rattle.std.specs.Option.{option_or}
use Rattle.type_members.specs.name_scope.Declaring.{first_place}
use Rattle.type_members.proofs.of_name_scope.Tables.{place_next}
use Rattle.type_members.specs.declared.listed.ListedMember.{ListedMember}
use Rattle.type_members.specs.Listed.{seen_listed}
use Rattle.member_faults.specs.NamePlaces.{declares_name, has_text, lent_names}
use Rattle.member_faults.proofs.NameNotes.{place_mapped}
use Rattle.member_faults.proofs.name_places.FirstMembers.of.Goals as goal

pub loop-listed-preserved : goal.loop-listed-preserved
loop-listed-preserved c = record {
  count = ap (λ n. n + 1) c.loop-listed.invariant.count;
  first = λ name. c.in_ok-note_all.ensures name
      ∙ ap (λ o. option_or o (cond (has_text name (lent_names c.as_slice.result.now)) (Some c.loop-listed.number) None)) (c.loop-listed.invariant.first name)
      ∙ ap (λ is. option_or (first_place (λ (m : ListedMember). declares_name name (seen_listed m)) 0 (take c.loop-listed.listed-index c.args.members.now)) (cond (has_text name is) (Some c.loop-listed.number) None))
      (ap lent_names c.as_slice.ensures.value ∙ c.in_ok-names.ensures)
      ∙ place_next (λ (m : ListedMember). declares_name name (seen_listed m)) c.args.members.now c.loop-listed.listed-index c.loop-listed.number c.listed-item.result
      c.loop-listed-test.true c.loop-listed.invariant.count c.listed-item.is;
}

pub returns : goal.returns
returns c = λ name. c.loop-listed.invariant.first name
    ∙ ap (first_place (λ (m : ListedMember). declares_name name (seen_listed m)) 0) (take_all c.loop-listed.listed-index c.args.members.now c.loop-listed-test.false)
    ∙ place_mapped (declares_name name) seen_listed 0 c.args.members.now
