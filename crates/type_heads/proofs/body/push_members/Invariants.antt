use Rattle.std.proofs.Common.{◌≡◌, ◌++◌, map, drop}
use Rattle.name_scope.specs.dsl_tree.Views.{member_tree}
use Rattle.type_heads.specs.DeclaredTypes.{written_from}
use Rattle.type_heads.specs.Bodied.{seen_written}
use Rattle.type_heads.proofs.body.push_members.Given as goal

abbrev pub invariant-loop-member : goal.invariant-loop-member
invariant-loop-member l = record {
  count : l.index ≡ l.member-index;
  rest : map seen_written l.written.items ++ written_from l.file l.declaration l.index (map member_tree (drop l.member-index l.members))
      ≡ map seen_written l.fn.written.items ++ written_from l.file l.declaration 0 (map member_tree l.members);
}
