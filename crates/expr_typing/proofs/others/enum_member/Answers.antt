use Rattle.expr_nodes.specs.type_heads.Table.{enum_number}
use Rattle.expr_nodes.specs.Names.{member_at}
use Rattle.expr_typing.proofs.Forms.{member_none}
use Rattle.expr_typing.proofs.others.enum_member.Goals as goal

pub returns-in-None : goal.returns-in-None
returns-in-None c = member_none (member_at c.args.place c.args.of) (enum_number c.args.types.now.table.heads c.args.of c.args.name.now) c.in-None.ensures
