-- What is left of a trail after sets and their undoing.
use Rattle.std.proofs.Common.{◌≡◌, refl, sym, subst, ap, ap₂, ◌∙◌, ℕ, ◌+◌, ◌<◌, ◌≤◌, ◌&&◌, true, List, [], ◌∷◌, ◌++◌, length, get_or, take, pos, ◌<ℤ◌, arith, length-append}
use Rattle.std.specs.Prelude.{nat_lt, int_lt, ◌-ℤ◌, if◌then◌else◌}
use Rattle.std.proofs.Math.Seq.{get_or-append_seam}
use Rattle.std.proofs.lemmas.Int.{ints}
use Rattle.std.proofs.lemmas.List.{length-set}
use Rattle.box_eval.specs.declared.bounds.Pair.{Pair}
use Rattle.box_eval.specs.Box.{low_at, high_at, up_to, pair}
use Rattle.box_eval.proofs.Parts.{low_set_other, high_set_other}
use Rattle.bound_trail.specs.History.{History, mark_of, present, with_box, back_to}
use Rattle.leaf_bench.specs.Rounds.{lowered, IsReady}

-- a history that comes from a ready one by a set of each slot before this one
pub record IsAbove (base now : History) (slot : ℕ) : Type 0 where
  pub room : now.room ≡ base.room
  pub first : take 1 now.boxes ≡ base.boxes
  pub long : length (present now) ≡ length (present base)
  pub sets : length now.boxes ≡ slot + 1
  pub wide : (k : ℕ) → slot ≤ k → k < 32 → low_at (present now) k <ℤ high_at (present now) k

pub above_self : (h : History) → IsReady h → IsAbove h h 0
above_self h ready = record { room = refl; first = all h.boxes ready.fresh; long = refl; sets = ready.fresh; wide = λ k from less. ready.wide k less }
  where
    all : (boxes : List (List Pair)) → length boxes ≡ 1 → take 1 boxes ≡ boxes
    all [] e = refl
    all (b ∷ []) e = refl
    all (b ∷ c ∷ bs) e = absurd (omega arith)

-- a box more at the end
present_last : (h : History) (ends : List Pair) → present (with_box h ends) ≡ ends
present_last h ends =
    let mark : mark_of (with_box h ends) ≡ length h.boxes = omega (arith, length-append h.boxes (ends ∷ [])) in
    ap (λ k. get_or (h.boxes ++ ends ∷ []) k []) mark ∙ get_or-append_seam h.boxes ends [] []

take_front : (boxes : List (List Pair)) (ends : List Pair) → 0 < length boxes → take 1 (boxes ++ ends ∷ []) ≡ take 1 boxes
take_front [] ends h = absurd (omega arith)
take_front (b ∷ bs) ends h = refl

-- a slot's end lowered
module _ (base h : History) (slot : ℕ) (ready : IsReady base) (less : slot < 32) (above : IsAbove base h slot) where
  abbrev after : List Pair
  after = up_to (present h) slot (high_at (present h) slot -ℤ pos 1)

  -- there is room for a set, and the slot has more than one value
  may : nat_lt (mark_of h) h.room && int_lt (low_at (present h) slot) (high_at (present h) slot) ≡ true
  may = told (mark_of h) h.room (omega (arith, above.sets, above.room, ready.room)) (above.wide slot (omega arith) less)
    where
      told : (m n : ℕ) → m < n → low_at (present h) slot <ℤ high_at (present h) slot → nat_lt m n && int_lt (low_at (present h) slot) (high_at (present h) slot) ≡ true
      told m n few more = grind (arith, ints)

  set_made : lowered h slot ≡ with_box h after
  set_made = ap (λ b. if b then with_box h after else h) may

  wide_after : (k : ℕ) → slot + 1 ≤ k → k < 32 → low_at after k <ℤ high_at after k
  wide_after k from last =
      let other : k ≡ slot → ⊥ = λ same. omega (arith, same) in
      let p = pair (low_at (present h) slot) (high_at (present h) slot -ℤ pos 1) in
      rw (low_set_other (present h) slot k p other, high_set_other (present h) slot k p other) (above.wide k (omega arith) last)

  with_box_above : IsAbove base (with_box h after) (slot + 1)
  with_box_above = record {
    room = above.room;
    first = take_front h.boxes after (omega (arith, above.sets)) ∙ above.first;
    long = ap length (present_last h after) ∙ length-set (present h) slot (pair (low_at (present h) slot) (high_at (present h) slot -ℤ pos 1)) ∙ above.long;
    sets = omega (arith, above.sets, length-append h.boxes (after ∷ []));
    wide = λ k from last. subst (λ (ends : List Pair). low_at ends k <ℤ high_at ends k) (sym (present_last h after)) (wide_after k from last);
  }

  pub lowered_above : IsAbove base (lowered h slot) (slot + 1)
  lowered_above = subst (λ (now : History). IsAbove base now (slot + 1)) (sym set_made) with_box_above

-- back at the first box
pub all_undone : (base h : History) (slot : ℕ) → IsAbove base h slot → back_to h 0 ≡ base
all_undone base h slot above = ap₂ made above.first above.room
  where
    made : List (List Pair) → ℕ → History
    made boxes room = record { boxes = boxes; room = room }
