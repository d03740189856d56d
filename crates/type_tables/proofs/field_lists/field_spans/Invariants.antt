use Rattle.std.proofs.Common.{◌≡◌, ◌++◌, drop, map}
use Rattle.type_tables.specs.FieldEnds.{span_of_fields}
use Rattle.type_tables.proofs.field_lists.field_spans.Given as goal

abbrev pub invariant-loop-span : goal.invariant-loop-span
invariant-loop-span l = l.all.items ++ map (span_of_fields l.rows) (drop l.span-index l.spans) ≡ map (span_of_fields l.rows) l.spans
