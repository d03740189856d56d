-- The members of a type, listed without those that would be left out again.
use Rattle.std.specs.Prelude.{ℕ, zero, suc, not, cond, List, [], ◌∷◌, ◌++◌, map, flat_map, filter, slice_index_or}
use Rattle.type_heads.specs.Types.{Written, TypeBody, Member}
use Rattle.type_heads.specs.Members.{has, body}
use Rattle.type_heads.specs.Bodied.{seen_body}
use Rattle.type_members.specs.declared.listing.Descent.{Descent}
use Rattle.type_members.specs.declared.listing.Stage.{Stage}
use Rattle.type_members.specs.declared.listing.Task.{Task}

-- a member that is written in the text of type t, under these conditional subtypes
abbrev pub member_in : ℕ → List ℕ → Written → Member
member_in t under w = record { written = w; holder = t; under = under }

-- What members that come down are listed by: the bodies, the conditional subtypes of each type, the type itself with those that it inherits
-- from, and the conditional subtypes that are skipped.
pub record Way : Type 0 where
  pub bodies : List TypeBody
  pub subtypes : List (List ℕ)
  pub line : List ℕ
  pub skipped : List ℕ

-- what members are under that come from a conditional subtype; the type itself and those that it inherits from don't count
abbrev pub deeper : Way → List ℕ → ℕ → List ℕ
deeper w under c = under ++ cond (has c w.line) [] (c ∷ [])

-- those that aren't skipped
abbrev pub kept : Way → List ℕ → List ℕ
kept w types = filter (λ c. not (has c w.skipped)) types

-- the members that come down from type t
abbrev pub listed_within : ℕ → Way → List ℕ → ℕ → List Member
listed_within zero w under t = []
listed_within (suc steps) w under t =
    map (member_in t under) (body w.bodies t).own
    ++ flat_map (λ c. listed_within steps w (deeper w under c) c) (kept w (slice_index_or w.subtypes t []))
    ++ map (member_in t under) (body w.bodies t).more

-- the members that come down from a type and from those that it inherits from, farthest first; each skips the types below it
abbrev pub listed_along : ℕ → List TypeBody → List (List ℕ) → List ℕ → List ℕ → List ℕ → List Member
listed_along steps bodies subtypes line skipped [] = []
listed_along steps bodies subtypes line skipped (b ∷ bs) =
    listed_along steps bodies subtypes line (skipped ++ b ∷ []) bs
    ++ listed_within steps (record { bodies = bodies; subtypes = subtypes; line = line; skipped = skipped }) [] b

-- what a descent lists members by
abbrev pub way_of : Descent → Way
way_of d = record { bodies = map seen_body d.bodies.now; subtypes = d.subtypes.now; line = d.line.now; skipped = d.skipped.now }

-- what is to be listed of a type at a stage
abbrev pub stage_members : Way → ℕ → List ℕ → Stage → List Member
stage_members w of under (Stage.All steps) = listed_within steps w under of
stage_members w of under Stage.Extensions = map (member_in of under) (body w.bodies of).more

-- what a task is to list
abbrev pub task_members : Way → Task → List Member
task_members w task = stage_members w task.of task.under task.stage

-- what tasks are to list, the last first
abbrev pub pending : Way → List Task → List Member
pending w [] = []
pending w (task ∷ tasks) = pending w tasks ++ task_members w task
