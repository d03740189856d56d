-- How long the text of a record of the search is.
use Rattle.std.proofs.Common.{◌≤◌, length, arith}
use Rattle.scene_search.specs.record_trees.declared.record.Record.{Record}
use Rattle.scene_search.specs.record_trees.Record.{Tree, cuts_of, IsRecordOf}
use Rattle.command_replies.specs.record_text.Lines.{AllShort}
use Rattle.command_replies.specs.record_text.Source.{limit}
use Rattle.command_replies.specs.record_text.Text.{record_lines, record_text}
use Rattle.command_replies.proofs.of_record_text.TextLengths.{record_length}
use Rattle.scene_search.specs.seeded_search.search_laws.State.{most_picks}
use Rattle.scene_search.proofs.of_record_laws.Accepting.{lines_count}

pub within_limit : (claim : Record) (tree : Tree) → IsRecordOf claim tree → length claim.picks ≤ most_picks → AllShort (record_lines claim) → cuts_of tree ≤ 1000000 → length (record_text claim) ≤ limit
within_limit claim tree is picks short few = omega (arith, record_length claim tree is short, lines_count claim tree is, picks, few)
