-- What is known of a row while its parts are walked.
use Rattle.std.proofs.Common.{◌≡◌, List}
use Rattle.std.specs.Prelude.{ℤ, Option}
use Rattle.expr_nodes.specs.osc_base.declared.path.Path.{Path}
use Rattle.expr_nodes.specs.declared.node.Join.{Join}
use Rattle.expr_nodes.specs.Typed.{Typed, row_of}
use Rattle.expr_nodes.specs.Seen.{Reached, grouped, seen_size}
use Rattle.expr_value.specs.declared.count.Count.{Count}
use Rattle.expr_value.specs.Held.{known}
use Rattle.expr_value.specs.Counted.{counts_item}
use Rattle.expr_value.specs.Rows.{IsCount}
use Rattle.expr_value.specs.Words.{ReadyItems}

-- the row up to a part has this count, and goes on to the whole row
pub record InRow (told : Path → Option ℤ) (join : Join) (whole : Typed) (left : List Reached) (row : Count) : Type 0 where
  pub so_far : Typed
  pub counts : IsCount (known told) so_far row
  pub goes_on : grouped join so_far left ≡ whole

-- items that are left of a list, none of which before them is the value
pub record ItemsLeft (told : Path → Option ℤ) (c : Count) (items left : List Typed) : Type 0 where
  pub same : counts_item (known told) c.size.scale c.count (row_of items) ≡ counts_item (known told) c.size.scale c.count (row_of left)
  pub ready : ReadyItems told (seen_size c.size) left
