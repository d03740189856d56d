use Rattle.type_model.proofs.parts.MemberTables.of.Goals as goal

pub returns : goal.returns
returns c = record { fields = c.in_ok-fields.ensures; members = c.in_ok-members.ensures; conditions = c.in_ok-conditions.ensures }
