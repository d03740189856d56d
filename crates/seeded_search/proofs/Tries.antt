-- What comes of a sum that is tried on the present box.
use Rattle.std.proofs.Common.{◌≡◌, sym, ap, ◌∙◌, subst, ℕ, ◌+◌, ◌<◌, ◌≤◌, Bool, true, false, ◌&&◌, List, [], ◌∷◌, ◌++◌, length, take, get_or, append_assoc}
use Rattle.std.specs.Prelude.{nat_lt}
use Rattle.std.specs.Bool.{OnTrue}
use Rattle.std.proofs.lemmas.Bool.{and_parts, ltb-true}
use Rattle.std.proofs.lemmas.List.{take_more}
use Rattle.wake_ring.specs.Queue.{Queue}
use Rattle.bound_trail.specs.History.{History, present}
use Rattle.box_eval.specs.declared.rule.Rule.{Rule}
use Rattle.box_eval.specs.declared.bounds.Pair.{Pair}
use Rattle.box_eval.specs.declared.flat.Flat.{Flat}
use Rattle.search_laws.specs.linear_sums.declared.pick.Pick.{Pick}
use Rattle.search_laws.specs.linear_sums.Linear.{is_false_sum}
use Rattle.search_laws.specs.linear_sums.Sums.{are_there, AllThere}
use Rattle.search_laws.specs.record_trees.Record.{may_stand, may_add}
use Rattle.seeded_search.specs.declared.task.Task.{Task}
use Rattle.seeded_search.specs.declared.work.Work.{Work}
use Rattle.seeded_search.specs.Added.{added}
use Rattle.seeded_search.specs.Rooms.{Picked}
use Rattle.seeded_search.specs.Runs.{Runs, IsShut}
use Rattle.seeded_search.proofs.Decidings.{shut_by_sum}

-- one rule of a sum more
pub picks_more : (first now : Picked) (picks : List Pick) (i : ℕ) (d : Pick) → i < length picks → now ≡ record first { items = first.items ++ take i picks }
    → record now { items = now.items ++ get_or picks i d ∷ [] } ≡ record first { items = first.items ++ take (i + 1) picks }
picks_more first now picks i d less is =
    ap (λ (p : Picked). record p { items = p.items ++ get_or picks i d ∷ [] }) is
    ∙ ap (λ (ps : List Pick). record first { items = ps }) (append_assoc first.items (take i picks) (get_or picks i d ∷ []) ∙ ap (λ (ps : List Pick). first.items ++ ps) (sym (take_more picks i d less)))

-- each rule of a sum is there
pub all_there : (rules : List Rule) (picks : List Pick) → are_there rules picks ≡ true → AllThere rules picks
all_there rules [] h = tt
all_there rules (p ∷ ps) h =
    let both = and_parts (nat_lt p.rule (length rules)) (are_there rules ps) h in (ltb-true p.rule (length rules) both.0, all_there rules ps both.1)

-- a sum that may stand in a line and is false may close the box
pub may_be_added : (flat : Flat) (ends : List Pair) (picks : List Pick) (a b : Bool) → a ≡ may_stand picks → a ≡ true → b ≡ is_false_sum flat picks ends → b ≡ true → may_add flat ends picks ≡ true
may_be_added flat ends picks a b stands stand falls fall = ap (λ s. s && is_false_sum flat picks ends) (sym stands ∙ stand) ∙ (sym falls ∙ fall)

-- the sum was written, and the present box is closed
pub shut_after : (task : Task) (w : Work) (t : History) (q : Queue) → Runs task w t q q.items → (picks : List Pick) (w1 w2 : Work) → w1 ≡ w → (b : Bool) → b ≡ true → OnTrue b (w2 ≡ added w1 picks)
    → may_add task.flat.now (present t) picks ≡ true → OnTrue b (length w1.picks.items + length picks ≤ w1.picks.room) → IsShut task w2 t q
shut_after task w t q runs picks w1 w2 same true is written may few =
    subst (λ (v : Work). IsShut task v t q) (sym (written ∙ ap (λ (v : Work). added v picks) same))
    (shut_by_sum task w t q q.items runs picks may (subst (λ (v : Work). length v.picks.items + length picks ≤ v.picks.room) same few))
shut_after task w t q runs picks w1 w2 same false is written may few = cc
