use Rattle.std.proofs.Common.{◌∙◌, sym}
use Rattle.type_members.proofs.of_name_scope.Tables.{placed, present}
use Rattle.member_faults.specs.NamePlaces.{number_in}
use Rattle.member_faults.proofs.name_places.FirstMembers.note.Goals as goal

pub returns : goal.returns
returns c = placed (number_in c.args.self.now) (number_in (record { numbers = c.insert.new.self })) c.args.name.now c.args.number (sym c.contains_key.ensures ∙ c.if-contains_key.false)
    (λ other. c.in_ok-insert.ensures.updates.0 (record { ref_ptr = c.args.name.ref_ptr; now = other }))

pub returns-then-contains_key : goal.returns-then-contains_key
returns-then-contains_key c = present (number_in c.args.self.now) c.args.name.now c.args.number (sym c.contains_key.ensures ∙ c.if-contains_key.true)
