-- How phases are arranged. It is said of any times: of those that a run lists, and of those that the slots of a point hold.
use Rattle.std.specs.Prelude.{ℕ, ◌+◌, ◌&&◌, ◌||◌, Bool, true, not, List, [], ◌∷◌, map, ℤ, pos, int_lt, int_le}
use Rattle.std.specs.List.{list_any, list_all}
use Rattle.expr_nodes.specs.osc_base.declared.path.Path.{Path}
use Rattle.expr_nodes.specs.osc_base.Comparisons.{same_number}
use Rattle.composition.specs.declared.spot.PhaseSpot.{PhaseSpot}
use Rattle.composition.specs.declared.spot.PhaseKind.{PhaseKind}

-- when the phase at a path starts and ends, and which member the `one_of` there chose
pub record Times : Type 0 where
  pub start : Path → ℤ
  pub end : Path → ℤ
  pub member : Path → ℤ

-- both start together and end together
abbrev pub same_span : Times → Path → Path → Bool
same_span times a b = same_number (times.start a) (times.start b) && same_number (times.end a) (times.end b)

-- the first starts at a tick, each next when the one before ends, and the last ends at another tick
abbrev pub follow : Times → ℤ → ℤ → List Path → Bool
follow times from to [] = same_number from to
follow times from to (m ∷ ms) = same_number from (times.start m) && follow times (times.end m) to ms

-- a tick is the least of a list
abbrev pub is_least : ℤ → List ℤ → Bool
is_least tick ticks = list_all (int_le tick) ticks && list_any (λ t. same_number t tick) ticks

-- a tick is the greatest of a list
abbrev pub is_greatest : ℤ → List ℤ → Bool
is_greatest tick ticks = list_all (λ t. int_le t tick) ticks && list_any (λ t. same_number t tick) ticks

-- all are the same as the first
abbrev pub all_same : List ℤ → Bool
all_same [] = true
all_same (first ∷ others) = list_all (same_number first) others

-- each of one list is at most each of another: some moment is shared
abbrev pub overlap : List ℤ → List ℤ → Bool
overlap starts ends = list_all (λ s. list_all (int_le s) ends) starts

-- when the members start
abbrev pub starts_of : Times → List Path → List ℤ
starts_of times members = map times.start members

-- when the members end
abbrev pub ends_of : Times → List Path → List ℤ
ends_of times members = map times.end members

-- a whole covers its members: it starts with the first that starts and ends with the last that ends
abbrev pub covers : Times → Path → List Path → Bool
covers times whole members = is_least (times.start whole) (starts_of times members) && is_greatest (times.end whole) (ends_of times members)

-- the chosen member has the span of the whole; the members are counted from k
abbrev pub chosen_spans : Times → Path → ℕ → List Path → Bool
chosen_spans times whole k [] = true
chosen_spans times whole k (m ∷ ms) = (not (same_number (times.member whole) (pos k)) || same_span times m whole) && chosen_spans times whole (k + 1) ms

-- the line of a phase's kind
abbrev pub by_kind : PhaseKind → Times → Path → List Path → Bool
by_kind PhaseKind.Serial times path members = follow times (times.start path) (times.end path) members
by_kind PhaseKind.Start times path members = covers times path members && all_same (starts_of times members)
by_kind PhaseKind.End times path members = covers times path members && all_same (ends_of times members)
by_kind PhaseKind.Equal times path members = covers times path members && (all_same (starts_of times members) && all_same (ends_of times members))
by_kind PhaseKind.Any times path members = covers times path members && overlap (starts_of times members) (ends_of times members)
by_kind PhaseKind.OneOf times path members = chosen_spans times path 0 members
by_kind PhaseKind.Scenario times path members = list_all (λ m. same_span times m path) members
by_kind PhaseKind.Action times path members = int_lt (times.start path) (times.end path)
by_kind PhaseKind.Wait times path members = true

-- A phase is arranged: it doesn't end before it starts, and is as its kind says. The `do` of the named scenario also starts at tick 0.
abbrev pub arranged : Times → Bool → PhaseSpot → Bool
arranged times is_root_do phase =
    int_le (times.start phase.path) (times.end phase.path)
    && by_kind phase.kind times phase.path phase.members
    && (not is_root_do || same_number (times.start phase.path) (pos 0))
