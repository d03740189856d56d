-- Which slot a plan decides next, and the cut that it chooses.
use Rattle.std.proofs.Common.{◌≡◌, sym, ap, ◌∙◌, ℕ, false, List, Option, Some, None, ℤ, ◌<ℤ◌, ◌≤ℤ◌, int_lt, arith}
use Rattle.std.proofs.lemmas.Int.{ints}
use Rattle.std.specs.Prelude.{MatchOption, IfSome, IfNone, option_map}
use Rattle.box_eval.specs.declared.bounds.Pair.{Pair}
use Rattle.box_eval.specs.declared.cut.Cut.{Cut}
use Rattle.box_eval.specs.Box.{low_at, high_at, IsBox, IsOnePoint}
use Rattle.search_plans.specs.declared.wish.Entry.{Entry}
use Rattle.search_plans.specs.Plans.{next_entry}
use Rattle.search_plans.specs.Wishes.{is_wide, wished}
use Rattle.seeded_search.specs.Draws.{number_of, cut_or_any, chosen_by}

only_one : (low high : ℤ) → low ≤ℤ high → int_lt low high ≡ false → low ≡ high
only_one low high ordered h = let past : high ≤ℤ low = grind (arith, ints) in omega (arith, ints)

-- where no slot is decided next, the box has one point
pub next_told : (ends : List Pair) (o : Option Entry) → IsBox ends → IfSome o (λ e. low_at ends e.slot <ℤ high_at ends e.slot) → IfNone o ((slot : ℕ) → is_wide ends slot ≡ false)
    → MatchOption o (IsOnePoint ends) (λ e. low_at ends e.slot <ℤ high_at ends e.slot)
next_told ends None box wide none = record { same = λ slot. only_one (low_at ends slot) (high_at ends slot) (box.ordered slot) (none slot) }
next_told ends (Some e) box wide none = wide

-- what the wish of that slot and the seed's number give is what the plan chooses
pub chosen_is : (plan : List Entry) (ends : List Pair) (seed k number : ℕ) (e : Entry) (cut : Cut) → next_entry plan ends ≡ Some e → number ≡ number_of seed k → cut ≡ wished e.wish ends e.slot number
    → cut ≡ chosen_by plan seed k ends
chosen_is plan ends seed k number e cut next numbered is =
    is ∙ (ap (λ (n : ℕ). wished e.wish ends e.slot n) numbered
    ∙ sym (ap (λ (o : Option Entry). cut_or_any (option_map (λ f. wished f.wish ends f.slot (number_of seed k)) o)) next))
