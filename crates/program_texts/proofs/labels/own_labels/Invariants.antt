use Rattle.std.proofs.Common.{◌≡◌, ◌++◌, drop, map, option_map}
use Rattle.program_calls.specs.SeenLabels.{seen_labels}
use Rattle.program_fields.specs.Tables.{lists_in, members_at}
use Rattle.program_texts.specs.OwnLabels.{labels_from}
use Rattle.program_texts.proofs.labels.own_labels.Given as goal

abbrev pub invariant-loop-span : goal.invariant-loop-span
invariant-loop-span l =
    map (option_map seen_labels) l.tables.items ++ labels_from l.types.table l.number (map (members_at l.fields) (drop l.span-index l.span-items))
    ≡ labels_from l.types.table 0 (lists_in l.fields)
