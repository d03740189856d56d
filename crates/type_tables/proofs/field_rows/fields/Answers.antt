use Rattle.std.proofs.Common.{map}
use Rattle.type_members.specs.type_heads.Members.{table_fields}
use Rattle.type_members.specs.Listed.{seen_listed}
use Rattle.type_tables.specs.FieldEnds.{all_ends}
use Rattle.type_tables.proofs.MemberFields.{fields_more}
use Rattle.type_tables.proofs.FieldSpans.{ends_more}
use Rattle.type_tables.proofs.field_rows.fields.Goals as goal

pub loop-member-preserved : goal.loop-member-preserved
loop-member-preserved c = record {
  entries = fields_more c.args.heads.now c.args.members.now c.loop-member.member-index c.member-item.result c.loop-member.fields.entries.items c.push.new.self.entries.items
      (table_fields c.args.heads.now (map seen_listed c.args.members.now)) c.loop-member-test.true c.member-item.is c.loop-member.invariant.entries c.in_ok-push.ensures.entries;
  ends = ends_more c.args.heads.now c.args.members.now c.loop-member.member-index c.member-item.result c.loop-member.fields.entries.items c.push.new.self.entries.items
      c.loop-member.fields.ends.items c.push.new.self.ends.items (all_ends c.args.heads.now (map seen_listed c.args.members.now))
      c.loop-member-test.true c.member-item.is c.loop-member.invariant.ends c.in_ok-push.ensures.entries c.in_ok-push.ensures.ends;
}
