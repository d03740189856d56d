-- The counts of a part with its constraints.
use Rattle.std.specs.Prelude.{ℕ, ◌+◌}
use Rattle.object_works.specs.scene_expansion.declared.counts.Counts.{Counts}
use Rattle.object_works.specs.scene_expansion.scene_texts.Capped.{capped}
use Rattle.work_counts.specs.declared.tally.Tally.{Tally}

-- so many objects, slots and rules, and what its constraints have
abbrev pub counts_with : ℕ → ℕ → ℕ → Tally → Counts
counts_with objects slots rules own = record { objects = objects; slots = slots; rules = capped (rules + own.rules); tokens = own.tokens }
