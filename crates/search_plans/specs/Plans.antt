-- Plans: which slot of a box is decided next, and by which cut. Each list of entries is a plan. A slot may stand in it twice
-- or not at all, and one that isn't there has no second value.
use Rattle.std.specs.Prelude.{ℕ, ◌++◌, List, length, map, find, Option, option_map}
use Rattle.std.specs.List.{range_with_len}
use Rattle.box_eval.specs.declared.bounds.Pair.{Pair}
use Rattle.box_eval.specs.declared.cut.Cut.{Cut}
use Rattle.search_plans.specs.declared.wish.Wish.TheVariants.{Free}
use Rattle.search_plans.specs.declared.wish.Entry.{Entry}
use Rattle.search_plans.specs.Wishes.{is_wide, wished}

-- a slot of which nothing is wished
abbrev pub free : ℕ → Entry
free slot = record { slot = slot; wish = Free }

-- all slots of a box, ascending: what follows each plan
abbrev pub all_free : List Pair → List Entry
all_free ends = map free (range_with_len 0 (length ends))

-- the first entry whose slot has two values or more
abbrev pub open_entry : List Entry → List Pair → Option Entry
open_entry plan ends = find (λ e. is_wide ends e.slot) plan

-- the entry that is decided next: one of the plan, or the first slot of the box that is open
abbrev pub next_entry : List Entry → List Pair → Option Entry
next_entry plan ends = open_entry (plan ++ all_free ends) ends

-- the cut that a number gives, if a slot is open
abbrev pub chosen : List Entry → ℕ → List Pair → Option Cut
chosen plan number ends = option_map (λ e. wished e.wish ends e.slot number) (next_entry plan ends)
