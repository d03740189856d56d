use Rattle.std.proofs.Common.{sym}
use Rattle.expr_nodes.specs.type_heads.Table.{enums_with}
use Rattle.expr_typing.proofs.Forms.{hit_absent, hit_several, hit_one}
use Rattle.expr_typing.proofs.names.member_meant.Goals as goal

pub returns-in-Absent : goal.returns-in-Absent
returns-in-Absent c = hit_absent c.args.types.now.table c.args.name.now (enums_with c.args.types.now.table.heads c.args.name.now.text) (sym (rw c.as_str.ensures at c.in-Absent.ensures))

pub returns-in-Several : goal.returns-in-Several
returns-in-Several c = hit_several c.args.types.now.table c.args.name.now (enums_with c.args.types.now.table.heads c.args.name.now.text) (sym (rw c.as_str.ensures at c.in-Several.ensures))

pub returns-in_ok-member_of-in-One : goal.returns-in_ok-member_of-in-One
returns-in_ok-member_of-in-One c = hit_one c.args.types.now.table c.args.name.now (enums_with c.args.types.now.table.heads c.args.name.now.text) c.in-One.of _ (sym (rw c.as_str.ensures at c.in-One.ensures)) c.in_ok-member_of-in-One.ensures
