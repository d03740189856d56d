-- Where a search begins, and what it answers at its end.
use Rattle.std.proofs.Common.{◌≡◌, ◌≢◌, refl, sym, ap, ap₂, ◌∙◌, subst, ℕ, zero, suc, ◌+◌, ◌*◌, ◌<◌, ◌≤◌, true, false, List, [], ◌∷◌, ◌++◌, length, get_or, ℤ, pos, arith}
use Rattle.std.proofs.lemmas.Bool.{false≢true}
use Rattle.std.proofs.lemmas.List.{ext_get_or}
use Rattle.std.specs.Prelude.{Bool, nat_eq, Option, Some, None, MatchOption}
use Rattle.wake_ring.specs.Queue.{Queue, is_in}
use Rattle.bound_trail.specs.History.{History, present}
use Rattle.box_eval.specs.declared.bounds.Pair.{Pair}
use Rattle.box_eval.specs.declared.cut.Cut.{Cut}
use Rattle.box_eval.specs.declared.flat.Flat.{Flat}
use Rattle.search_laws.specs.record_trees.declared.record.Record.{Record}
use Rattle.search_laws.specs.record_trees.declared.record.Line.{Line}
use Rattle.box_eval.specs.Box.{low_at, IsOnePoint}
use Rattle.box_eval.specs.Rules.{IsFlat}
use Rattle.search_laws.specs.record_trees.Guided.{HasTwoPoints, NoneFalse}
use Rattle.search_laws.specs.linear_sums.declared.pick.Facing.{Facing}
use Rattle.search_laws.specs.linear_sums.declared.pick.Pick.{Pick}
use Rattle.search_laws.specs.linear_sums.FacingPairs.{NoneFacing, IsFirstFacing}
use Rattle.search_laws.specs.Answers.{IsPointAnswer, IsRefutedAnswer, IsUndecidedAnswer, unknown_lines, claim_of, sum_of_two}
use Rattle.search_laws.specs.State.{most_picks}
use Rattle.search_laws.proofs.Ends.{point, undecided}
use Rattle.search_laws.proofs.Faced.{faced}
use Rattle.search_laws.proofs.Steps.{starts}
use Rattle.seeded_search.specs.declared.task.Task.{Task}
use Rattle.seeded_search.specs.declared.work.Work.{Work}
use Rattle.seeded_search.specs.Desks.{facing_picks, IsFaced}
use Rattle.seeded_search.specs.Listed.{IsListed}
use Rattle.seeded_search.specs.Lows.{lows_of}
use Rattle.seeded_search.specs.Rooms.{Page, Pile, Marked, Drawing, Picked}
use Rattle.seeded_search.specs.Runs.{choice, state_of, Runs}

-- ---- false facing pairs

-- without picks there is no false facing pair
pub none_faced : (flat : Flat) (picks : List Pick) → IsFaced flat picks → picks ≡ [] → NoneFacing flat
none_faced flat picks f none = by_case f.facing f.first (sym f.picks_are ∙ none)
  where
    by_case : (o : Option Facing) → MatchOption o (NoneFacing flat) (IsFirstFacing flat) → facing_picks o ≡ [] → NoneFacing flat
    by_case None first is = first
    by_case (Some p) first is = cc

-- a list that isn't empty
pub some_picks : (items picks : List Pick) (empty : Bool) → empty ≡ nat_eq (length items) 0 → empty ≡ false → items ≡ picks → picks ≢ []
some_picks items picks empty test is same none =
    let e : nat_eq (length items) 0 ≡ true = ap (λ (xs : List Pick). nat_eq (length xs) 0) (same ∙ none) in
    false≢true (sym is ∙ (test ∙ e))

-- with picks their sum refutes the flat form
pub faced_answer : (choose : ℕ → List Pair → Cut) (cuts : ℕ) (flat : Flat) (picks : List Pick) (claim : Record) (t : History) → IsFaced flat picks → picks ≢ [] → claim ≡ claim_of flat false 0 sum_of_two picks
    → t ≡ record { boxes = flat.bounds.pairs ∷ []; room = cuts } → IsRefutedAnswer choose cuts flat claim t.boxes
faced_answer choose cuts flat picks claim t f some is at =
    subst (λ (h : History). IsRefutedAnswer choose cuts flat claim h.boxes) (sym at) (subst (λ (r : Record). IsRefutedAnswer choose cuts flat r (flat.bounds.pairs ∷ []))
    (sym (is ∙ ap (claim_of flat false 0 sum_of_two) f.picks_are)) (by_case f.facing f.first (λ none. some (f.picks_are ∙ none))))
  where
    by_case : (o : Option Facing) → MatchOption o (NoneFacing flat) (IsFirstFacing flat) → facing_picks o ≢ [] → IsRefutedAnswer choose cuts flat (claim_of flat false 0 sum_of_two (facing_picks o)) (flat.bounds.pairs ∷ [])
    by_case None first most = absurd (most refl)
    by_case (Some p) first most = faced choose cuts flat p.first.times p.first.rule p.second.times p.second.rule first.facing

-- ---- the start

abbrev work_of : Page → Pile → Marked → Drawing → Picked → ℕ → Work
work_of script decisions marks draws picks sums =
    record { script = script; decisions = decisions; marks = marks; draws = draws; picks = picks; sums = sums; reasons = tt; made = 0; deepest = 0 }

module _ (task : Task) (room : ℕ) where
  abbrev first_page : Page
  first_page = record { lines = []; room = 2 * task.cuts + 1 }

  abbrev first_pile : Pile
  first_pile = record { items = []; room = task.cuts }

  abbrev first_marks : Marked
  first_marks = record { listed = []; bound = length task.flat.now.rules }

  abbrev first_draws : Drawing
  first_draws = record { seed = task.seed; count = 0 }

  abbrev first_picks : Picked
  first_picks = record { items = []; room = room }

  abbrev first_trail : History
  first_trail = record { boxes = task.flat.now.bounds.pairs ∷ []; room = task.cuts }

  abbrev slots : ℕ
  slots = length task.flat.now.bounds.pairs

  started_at : (q : Queue) → NoneFacing task.flat.now → IsFlat task.flat.now → IsListed task.flat.now task.lists.now → task.cuts ≤ 1000000 → room ≤ most_picks → q.bound ≡ length task.flat.now.rules
      → ((k : ℕ) → k < length task.flat.now.rules → is_in k q.items ≡ true)
      → Runs task (work_of first_page first_pile first_marks first_draws first_picks slots) first_trail q q.items
  started_at q none flat listed small few ring all = record {
    roomy = record { flat = flat; listed = listed; small = small; trail = refl; ring = ring; script = refl; decisions = refl; marks = refl; seed = refl; picks = few; sums = refl };
    searching = starts (choice task) task.flat.now task.cuts q.items none flat.box all;
  }

  pub started : (script : Page) (decisions : Pile) (marks : Marked) (draws : Drawing) (picks : Picked) (sums : ℕ) (t : History) (q0 q : Queue) → NoneFacing task.flat.now → IsFlat task.flat.now → IsListed task.flat.now task.lists.now → task.cuts ≤ 1000000
      → script ≡ first_page → decisions ≡ first_pile → marks ≡ first_marks → draws ≡ first_draws → picks.items ≡ [] → picks.room ≡ room → room ≤ most_picks → sums ≡ slots
      → t ≡ first_trail → q0 ≡ record { bound = length task.flat.now.rules; items = [] } → q.bound ≡ q0.bound
      → ((k : ℕ) → k < length task.flat.now.rules → is_in k q.items ≡ true) → Runs task (work_of script decisions marks draws picks sums) t q q.items
  started script decisions marks draws picks sums t q0 q none flat listed small script_is decisions_are marks_are draws_are no_picks picks_room few sums_are trail empty bound all =
      let picks_are : picks ≡ first_picks = ap₂ (λ (ps : List Pick) (n : ℕ). record { items = ps; room = n }) no_picks picks_room in
      subst (λ (x : Page). Runs task (work_of x decisions marks draws picks sums) t q q.items) (sym script_is)
      (subst (λ (x : Pile). Runs task (work_of first_page x marks draws picks sums) t q q.items) (sym decisions_are)
      (subst (λ (x : Marked). Runs task (work_of first_page first_pile x draws picks sums) t q q.items) (sym marks_are)
      (subst (λ (x : Drawing). Runs task (work_of first_page first_pile first_marks x picks sums) t q q.items) (sym draws_are)
      (subst (λ (x : Picked). Runs task (work_of first_page first_pile first_marks first_draws x sums) t q q.items) (sym picks_are)
      (subst (λ (x : ℕ). Runs task (work_of first_page first_pile first_marks first_draws first_picks x) t q q.items) (sym sums_are)
      (subst (λ (x : History). Runs task (work_of first_page first_pile first_marks first_draws first_picks slots) x q q.items) (sym trail)
      (started_at q none flat listed small few (bound ∙ ap (λ (r : Queue). r.bound) empty) all)))))))

-- ---- the end

pub low_values : (ends : List Pair) (values : List ℤ) → length values ≡ length ends → ((k : ℕ) → k < length ends → get_or values k (pos 0) ≡ low_at ends k) → values ≡ lows_of ends
low_values ends values long each = ext_get_or (pos 0) values (lows_of ends) (long ∙ sym (length_lows ends)) (λ k less. each k (omega (arith, less, long)) ∙ sym (lows_get ends k))
  where
    length_lows : (es : List Pair) → length (lows_of es) ≡ length es
    length_lows [] = refl
    length_lows (e ∷ es) = omega (arith, length_lows es)

    lows_get : (es : List Pair) (k : ℕ) → get_or (lows_of es) k (pos 0) ≡ low_at es k
    lows_get [] k = refl
    lows_get (e ∷ es) k = by_number e es k (lows_get es)
      where
        by_number : (f : Pair) (fs : List Pair) (j : ℕ) → ((i : ℕ) → get_or (lows_of fs) i (pos 0) ≡ low_at fs i) → get_or (lows_of (f ∷ fs)) j (pos 0) ≡ low_at (f ∷ fs) j
        by_number f fs zero h = refl
        by_number f fs (suc j) h = h j

module _ (task : Task) (w : Work) (t : History) (q : Queue) (runs : Runs task w t q q.items) where
  pub point_answer : (values : List ℤ) → values ≡ lows_of (present t) → q.items ≡ [] → IsOnePoint (present t) → IsPointAnswer (choice task) task.cuts task.flat.now values t.boxes q.items
  point_answer values is empty one = subst (λ (v : List ℤ). IsPointAnswer (choice task) task.cuts task.flat.now v t.boxes q.items) (sym is)
      (point (choice task) task.cuts task.flat.now (state_of w t q.items) runs.roomy.small runs.searching empty one)

  pub undecided_answer : (left : ℕ) (script : Page) (picks : List Pick) (claim : Record) → left ≡ 1 + length w.decisions.items → script ≡ record w.script { lines = w.script.lines ++ unknown_lines left } → picks ≡ w.picks.items → claim ≡ claim_of task.flat.now true w.deepest script.lines picks
      → w.made ≡ task.cuts → HasTwoPoints (present t) → NoneFalse (present t) task.flat.now.rules → IsUndecidedAnswer (choice task) task.cuts task.flat.now claim t.boxes q.items
  undecided_answer left script picks claim count more picked is all wide none =
      let lines : script.lines ≡ w.script.lines ++ unknown_lines (1 + length w.decisions.items) = ap (λ (p : Page). p.lines) more ∙ ap (λ n. w.script.lines ++ unknown_lines n) count in
      subst (λ (r : Record). IsUndecidedAnswer (choice task) task.cuts task.flat.now r t.boxes q.items) (sym (is ∙ ap₂ (λ (ls : List Line) (ps : List Pick). claim_of task.flat.now true w.deepest ls ps) lines picked))
      (undecided (choice task) task.cuts task.flat.now (state_of w t q.items) runs.roomy.small runs.searching all wide.0 wide.1 none)

-- a refutation, by its parts
pub refuted_answer : (choose : ℕ → List Pair → Cut) (cuts : ℕ) (flat : Flat) (room : ℕ) (lines : List Line) (boxes : List (List Pair)) (picks picked : List Pick) (claim : Record) → picks ≡ picked
    → claim ≡ claim_of flat false room lines picks → IsRefutedAnswer choose cuts flat (claim_of flat false room lines picked) boxes → IsRefutedAnswer choose cuts flat claim boxes
refuted_answer choose cuts flat room lines boxes picks picked claim same is h =
    subst (λ (r : Record). IsRefutedAnswer choose cuts flat r boxes) (sym (is ∙ ap (claim_of flat false room lines) same)) h
