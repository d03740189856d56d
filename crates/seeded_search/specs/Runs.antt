-- What holds of the search at the start of each turn and of each decision, and what comes of its steps.
use Rattle.std.specs.Prelude.{◌≡◌, ◌≢◌, ℕ, ◌+◌, ◌*◌, ◌<◌, ◌≤◌, true, false, take, List, [], ◌∷◌, length, slice_get, Some, Option, None}
use Rattle.wake_ring.specs.Queue.{Queue, is_in}
use Rattle.bound_trail.specs.History.{History, present}
use Rattle.box_eval.specs.declared.rule.Rule.{Rule}
use Rattle.box_eval.specs.declared.bounds.Pair.{Pair}
use Rattle.box_eval.specs.declared.cut.Cut.{Cut}
use Rattle.box_eval.specs.declared.cut.Side.{Side}
use Rattle.box_eval.specs.Box.{IsOnePoint}
use Rattle.box_eval.specs.Rules.{IsFlat}
use Rattle.search_laws.specs.record_trees.Record.{may_close}
use Rattle.search_laws.specs.record_trees.Guided.{IsDeadEnd, HasTwoPoints, NoneFalse}
use Rattle.search_laws.specs.declared.decision.Decision.{Decision}
use Rattle.search_laws.specs.State.{State, most_picks, IsSearching, IsClosed}
use Rattle.search_laws.specs.Answers.{IsRefutedAnswer, claim_of}
use Rattle.seeded_search.specs.declared.task.Task.{Task}
use Rattle.seeded_search.specs.declared.work.Work.{Work}
use Rattle.seeded_search.specs.declared.turns.Step.{Step}
use Rattle.seeded_search.specs.declared.turns.Turned.{Turned}
use Rattle.seeded_search.specs.declared.course.Ran.{Ran}
use Rattle.seeded_search.specs.declared.course.End.{End}
use Rattle.seeded_search.specs.Draws.{chosen_by}
use Rattle.seeded_search.specs.Listed.{IsListed, slots_at}

-- ---- the choice

-- how the search chooses its cuts: by its plan and its seed
abbrev pub choice : Task → ℕ → List Pair → Cut
choice task = chosen_by task.plan.now task.seed

-- ---- the state

-- the state of the search, where these rules wait
abbrev pub state_of : Work → History → List ℕ → State
state_of w t waiting = record {
  boxes = t.boxes;
  queue = waiting;
  out = w.script.lines;
  picked = w.picks.items;
  decisions = w.decisions.items;
  marks = w.marks.listed;
  made = w.made;
  drawn = w.draws.count;
  deepest = w.deepest;
}

-- everything was made for the task
pub record IsRoomy (task : Task) (w : Work) (t : History) (q : Queue) : Type 0 where
  pub flat : IsFlat task.flat.now
  pub listed : IsListed task.flat.now task.lists.now
  pub small : task.cuts ≤ 1000000
  pub trail : t.room ≡ task.cuts
  pub ring : q.bound ≡ length task.flat.now.rules
  pub script : w.script.room ≡ 2 * task.cuts + 1
  pub decisions : w.decisions.room ≡ task.cuts
  pub marks : w.marks.bound ≡ length task.flat.now.rules
  pub seed : w.draws.seed ≡ task.seed
  pub picks : w.picks.room ≤ most_picks
  pub sums : w.sums ≡ length task.flat.now.bounds.pairs

-- the search goes on, and these rules wait. A rule in its turn is one of them, in front
pub record Runs (task : Task) (w : Work) (t : History) (q : Queue) (waiting : List ℕ) : Type 0 where
  pub roomy : IsRoomy task w t q
  pub searching : IsSearching (choice task) task.flat.now task.cuts (state_of w t waiting)

-- the present box is closed
pub record IsShut (task : Task) (w : Work) (t : History) (q : Queue) : Type 0 where
  pub roomy : IsRoomy task w t q
  pub closed : IsClosed (choice task) task.flat.now task.cuts (state_of w t [])

-- the present box is closed, and this decision was the newest
pub record IsLeft (task : Task) (d : Decision) (w : Work) (t : History) (q : Queue) : Type 0 where
  pub roomy : IsRoomy task w t q
  pub closed : IsClosed (choice task) task.flat.now task.cuts (record (state_of w t []) { decisions = d ∷ w.decisions.items })

-- rules were marked, or the search went back, without a cut
pub record IsRetired (task : Task) (w : Work) (t' : History) (w' : Work) (q' : Queue) : Type 0 where
  pub runs : Runs task w' t' q' q'.items
  pub decisions : w'.decisions ≡ w.decisions
  pub made : w'.made ≡ w.made

-- ---- what comes of a rule at a slot, and of its turn

-- cuts were made, after which the rule waits anew or is settled
pub record IsCutBy (task : Task) (w : Work) (w' : Work) (t' : History) (q' : Queue) : Type 0 where
  pub runs : Runs task w' t' q' q'.items
  pub decisions : w'.decisions ≡ w.decisions
  pub made : w.made < w'.made

-- all cuts are made, and another is wanted
pub record IsStuck (task : Task) (w : Work) (w' : Work) (t' : History) (q' : Queue) (waiting : List ℕ) : Type 0 where
  pub runs : Runs task w' t' q' waiting
  pub decisions : w'.decisions ≡ w.decisions
  pub made : w.made ≤ w'.made
  pub all : w'.made ≡ task.cuts
  pub wide : HasTwoPoints (present t')

-- nothing has changed
pub record IsSame (w : Work) (t : History) (q : Queue) (w' : Work) (t' : History) (q' : Queue) : Type 0 where
  pub work : w' ≡ w
  pub trail : t' ≡ t
  pub ring : q' ≡ q

-- the rule has no dead end at these ends of these slots
abbrev pub NoDeadEnd : Task → History → ℕ → (Side → ℕ → Type 0) → Type 0
NoDeadEnd task t number At = (rule : Rule) (side : Side) (slot : ℕ) → slice_get task.flat.now.rules number ≡ Some rule → At side slot → ¬ IsDeadEnd (present t) rule side slot

-- what comes of looking at these ends of slots in the turn of a rule
abbrev pub Stepped : Task → ℕ → (Side → ℕ → Type 0) → Step → Work → History → Queue → Work → History → Queue → Type 0
Stepped task number At Step.None w t q w' t' q' = IsSame w t q w' t' q' × NoDeadEnd task t number At
Stepped task number At Step.Cut w t q w' t' q' = IsCutBy task w w' t' q'
Stepped task number At Step.Spent w t q w' t' q' = IsStuck task w w' t' q' (number ∷ q'.items)

-- what comes of looking at the first so many slots of a rule
abbrev pub Swept : Task → ℕ → ℕ → Step → Work → History → Queue → Work → History → Queue → Type 0
Swept task number count step w t q w' t' q' =
    Stepped task number (λ side slot. is_in slot (take count (slots_at task.lists.now number)) ≡ true) step w t q w' t' q' × (step ≢ Step.Spent)

-- what comes of the turn of a rule
abbrev pub TurnedTo : Task → ℕ → Turned → Work → History → Queue → Work → History → Queue → Type 0
TurnedTo task number Turned.Over w t q w' t' q' = Runs task w' t' q' q'.items × (q' ≡ q) × (w'.decisions ≡ w.decisions) × (w'.made ≡ w.made)
TurnedTo task number Turned.Cut w t q w' t' q' = Runs task w' t' q' q'.items × (w'.decisions ≡ w.decisions) × (w.made < w'.made)
TurnedTo task number Turned.Closed w t q w' t' q' = Runs task w' t' q' (number ∷ q'.items) × (w' ≡ w) × (may_close task.flat.now.rules (present t') number ≡ true)
TurnedTo task number Turned.Spent w t q w' t' q' = IsStuck task w w' t' q' q'.items

-- ---- what comes of a queue

-- what comes of taking turns until no rule waits, a cut is made, the box closes or all cuts are made
abbrev pub RanTo : Task → Ran → Work → Work → History → Queue → Type 0
RanTo task Ran.Settled w w' t' q' = Runs task w' t' q' q'.items × (q'.items ≡ []) × (w'.decisions ≡ w.decisions) × (w'.made ≡ w.made)
RanTo task Ran.Cut w w' t' q' = Runs task w' t' q' q'.items × (w'.decisions ≡ w.decisions) × (w.made < w'.made)
RanTo task (Ran.Closed number) w w' t' q' = Runs task w' t' q' (number ∷ q'.items) × (w'.decisions ≡ w.decisions) × (w.made ≤ w'.made) × (may_close task.flat.now.rules (present t') number ≡ true)
RanTo task Ran.Spent w w' t' q' = IsStuck task w w' t' q' q'.items

-- ---- what comes of a stage

-- a stage ends nearer to the end of the search: more cuts are made, or fewer decisions are untried
abbrev pub IsNearer : Work → Work → Type 0
IsNearer w w' = 2 * w.made + length w'.decisions.items < 2 * w'.made + length w.decisions.items

-- what the search has found at its end
abbrev pub Found : Task → End → Work → History → Queue → Type 0
Found task End.Point w t q = Runs task w t q q.items × (q.items ≡ []) × IsOnePoint (present t)
Found task End.Refuted w t q = IsRefutedAnswer (choice task) task.cuts task.flat.now (claim_of task.flat.now false w.deepest w.script.lines w.picks.items) t.boxes
Found task End.Undecided w t q = Runs task w t q q.items × (w.made ≡ task.cuts) × HasTwoPoints (present t) × NoneFalse (present t) task.flat.now.rules

-- the search goes on, nearer to its end
abbrev pub GoesOn : Task → Work → Work → History → Queue → Type 0
GoesOn task w w' t' q' = Runs task w' t' q' q'.items × IsNearer w w'

-- it has ended, or it goes on
abbrev pub Staged : Task → Option End → Work → Work → History → Queue → Type 0
Staged task None w w' t' q' = GoesOn task w w' t' q'
Staged task (Some end) w w' t' q' = Found task end w' t' q'

-- a sum may have closed the present box: the search is no farther from its end
abbrev pub Tried : Task → Option End → Work → Work → History → Queue → Type 0
Tried task None w w' t' q' = Runs task w' t' q' q'.items × (2 * w.made + length w'.decisions.items ≤ 2 * w'.made + length w.decisions.items)
Tried task (Some end) w w' t' q' = Found task end w' t' q'
