-- What the walks ask and promise, as one word each. They are opaque, so that no search opens the tree of an expression.
use Rattle.std.specs.Prelude.{◌≡◌, ℤ, Bool, true, not, List, map, Option}
use Rattle.std.specs.List.{list_all}
use Rattle.expr_nodes.specs.osc_base.declared.path.Path.{Path}
use Rattle.expr_nodes.specs.declared.node.Join.{Join}
use Rattle.expr_nodes.specs.declared.node.Earlier.{Earlier}
use Rattle.expr_nodes.specs.declared.node.Typed.{Typed}
use Rattle.expr_nodes.specs.Typed as Nodes
use Rattle.expr_nodes.specs.Typed.{row_of}
use Rattle.expr_nodes.specs.Sizes.{Size, size, is_wide, joined as joined_size}
use Rattle.expr_nodes.specs.Parts.{parts_of}
use Rattle.expr_nodes.specs.Sound.{is_sound, are_sound, each_read, each_read_of}
use Rattle.expr_nodes.specs.Seen.{seen, reached, grouped, seen_size}
use Rattle.expr_value.specs.declared.count.Count.{Count}
use Rattle.expr_value.specs.Held.{in_reach, known}
use Rattle.expr_value.specs.Counted.{counts_in, counts_item}
use Rattle.expr_value.specs.Rows.{IsCount}

-- it is sound, and what is held is within reach
pub record Ready (told : Path → Option ℤ) (t : Nodes.Typed) : Type 0 where
  pub sound : is_sound t ≡ true
  pub within : each_read (in_reach told) t ≡ true

-- a size can be joined with those of all parts
abbrev pub can_join_all : Size → List Nodes.Typed → Bool
can_join_all s parts = list_all (λ z. not (is_wide (joined_size s (size z)))) parts

-- the items of a list are sound, what is held is within reach, and each can be compared with a count
pub record ReadyItems (told : Path → Option ℤ) (s : Size) (items : List Nodes.Typed) : Type 0 where
  pub sound : are_sound (row_of items) ≡ true
  pub within : each_read_of (in_reach told) (row_of items) ≡ true
  pub joins : can_join_all s items ≡ true

unfoldable pub IsReady : (Path → Option ℤ) → Typed → Type 0
IsReady told t = Ready told (seen t)

unfoldable pub IsCounted : (Path → Option ℤ) → Typed → Count → Type 0
IsCounted told t c = IsCount (known told) (seen t) c

unfoldable pub IsReadyRow : (Path → Option ℤ) → Join → Typed → List Earlier → Type 0
IsReadyRow told join first earlier = Ready told (grouped join (seen first) (map reached earlier))

unfoldable pub IsCountedRow : (Path → Option ℤ) → Join → Typed → List Earlier → Count → Type 0
IsCountedRow told join first earlier c = IsCount (known told) (grouped join (seen first) (map reached earlier)) c

unfoldable pub CanJoinParts : Count → Typed → Type 0
CanJoinParts c t = can_join_all (seen_size c.size) (parts_of (seen t)) ≡ true

unfoldable pub IsFound : (Path → Option ℤ) → Count → Typed → Bool → Type 0
IsFound told c t found = found ≡ counts_in (known told) c.size.scale c.count (seen t)

unfoldable pub AreReady : (Path → Option ℤ) → Count → List Typed → Type 0
AreReady told c items = ReadyItems told (seen_size c.size) (map seen items)

unfoldable pub IsFoundAmong : (Path → Option ℤ) → Count → List Typed → Bool → Type 0
IsFoundAmong told c items found = found ≡ counts_item (known told) c.size.scale c.count (row_of (map seen items))
