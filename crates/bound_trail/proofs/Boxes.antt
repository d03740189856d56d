-- The boxes of a trail, as its changes come and go.
use Rattle.std.proofs.Common.{◌≡◌, ◌≢◌, refl, sym, subst, ap, ap₂, ◌∙◌, ⊎_elim, ℕ, zero, suc, ◌+◌, ◌-◌, ◌<◌, ◌≤◌, ◌^◌, List, [], ◌∷◌, ◌++◌, length, get_or, set, slice_set, take, ◌≤ℤ◌, arith, length-append}
use Rattle.std.proofs.Math.Seq.{get_or-append_seam, take-append_seam}
use Rattle.std.proofs.lemmas.List.{length-set, get_or-set_same, get_or-set_other}
use Rattle.std.proofs.lemmas.Bool.{cases_eq}
use Rattle.box_eval.specs.declared.bounds.Pair.{Pair}
use Rattle.box_eval.specs.Box.{low_at, high_at, IsBox}
use Rattle.box_eval.proofs.Parts.{box_set}
use Rattle.bound_trail.specs.declared.trail.Change.{Change}
use Rattle.bound_trail.specs.History.{History, mark_of, present, with_box, back_to, AllBoxes}
use Rattle.bound_trail.specs.Trail.{no_change, undone, boxes_of, IsTrail}

-- ---- lists of boxes

AllBoxes-front : (xs ys : List (List Pair)) → AllBoxes (xs ++ ys) → AllBoxes xs
AllBoxes-front [] ys h = tt
AllBoxes-front (x ∷ xs) ys h = (h.0, AllBoxes-front xs ys h.1)

AllBoxes-back : (xs ys : List (List Pair)) → AllBoxes (xs ++ ys) → AllBoxes ys
AllBoxes-back [] ys h = h
AllBoxes-back (x ∷ xs) ys h = AllBoxes-back xs ys h.1

AllBoxes-push : (xs : List (List Pair)) (ends : List Pair) → AllBoxes xs → IsBox ends → AllBoxes (xs ++ ends ∷ [])
AllBoxes-push [] ends h box = (box, tt)
AllBoxes-push (x ∷ xs) ends h box = (h.0, AllBoxes-push xs ends h.1 box)

-- ---- the boxes of some changes

pub length_boxes : (m : ℕ) (changes : List Change) (ends : List Pair) → length (boxes_of m changes ends) ≡ suc m
length_boxes zero changes ends = refl
length_boxes (suc m) changes ends =
    let before = boxes_of m changes (undone (get_or changes m no_change) ends) in
    omega (arith, length-append before (ends ∷ []), length_boxes m changes (undone (get_or changes m no_change) ends))

last_box : (m : ℕ) (changes : List Change) (ends : List Pair) → get_or (boxes_of m changes ends) m [] ≡ ends
last_box zero changes ends = refl
last_box (suc m) changes ends =
    let before = boxes_of m changes (undone (get_or changes m no_change) ends) in
    subst (λ k. get_or (before ++ ends ∷ []) k [] ≡ ends) (length_boxes m changes (undone (get_or changes m no_change) ends)) (get_or-append_seam before ends [] [])

last_is_box : (m : ℕ) (changes : List Change) (ends : List Pair) → AllBoxes (boxes_of m changes ends) → IsBox ends
last_is_box zero changes ends h = h.0
last_is_box (suc m) changes ends h = (AllBoxes-back (boxes_of m changes (undone (get_or changes m no_change) ends)) (ends ∷ []) h).0

-- a change at a place past the first m says nothing of them
boxes_set : (m k : ℕ) (changes : List Change) (c : Change) (ends : List Pair) → m ≤ k → boxes_of m (set changes k c) ends ≡ boxes_of m changes ends
boxes_set zero k changes c ends h = refl
boxes_set (suc m) k changes c ends h =
    let apart : m ≢ k = λ e. omega arith in
    ap (λ g. boxes_of m (set changes k c) (undone g ends) ++ ends ∷ []) (get_or-set_other changes k m c no_change apart)
    ∙ ap (λ bs. bs ++ ends ∷ []) (boxes_set m k changes c (undone (get_or changes m no_change) ends) (omega arith))

-- a slot that is given its old ends back
set_back : (ends : List Pair) (slot : ℕ) (p q d : Pair) → slot < length ends → q ≡ get_or ends slot d → slice_set (slice_set ends slot p) slot q ≡ ends
set_back [] slot p q d h is = absurd (omega arith)
set_back (e ∷ es) zero p q d h is = ap (λ x. x ∷ es) is
set_back (e ∷ es) (suc slot) p q d h is = ap (λ xs. e ∷ xs) (set_back es slot p q d (omega arith) is)

-- one set more
module _ (m : ℕ) (changes : List Change) (ends : List Pair) (slot : ℕ) (p q : Pair) (room : m < length changes) (there : slot < length ends) (was : q ≡ get_or ends slot q) where
  abbrev now : Change
  now = record { slot = slot; was = q }

  boxes_after : boxes_of (suc m) (set changes m now) (slice_set ends slot p) ≡ boxes_of m changes ends ++ slice_set ends slot p ∷ []
  boxes_after =
      ap (λ g. boxes_of m (set changes m now) (undone g (slice_set ends slot p)) ++ slice_set ends slot p ∷ []) (get_or-set_same changes m now no_change room)
      ∙ ap (λ bs. bs ++ slice_set ends slot p ∷ []) (ap (boxes_of m (set changes m now)) (set_back ends slot p q q there was) ∙ boxes_set m m changes now ends (omega arith))

  slots_after : ((k : ℕ) → k < m → (get_or changes k no_change).slot < length ends)
      → (k : ℕ) → k < suc m → (get_or (set changes m now) k no_change).slot < length (slice_set ends slot p)
  slots_after h k less =
      let long : length (slice_set ends slot p) ≡ length ends = length-set ends slot p in
      ⊎_elim
      (λ same.
      let at : get_or (set changes m now) k no_change ≡ now = subst (λ j. get_or (set changes m now) j no_change ≡ now) (sym same) (get_or-set_same changes m now no_change room) in
      omega (arith, long, ap (λ (x : Change). x.slot) at))
      (λ differs. omega (arith, long, h k (omega arith), ap (λ (x : Change). x.slot) (get_or-set_other changes m k now no_change differs)))
      (cases_eq k m)

  pub trail_after : IsTrail m changes ends → IsBox (slice_set ends slot p) → IsTrail (suc m) (set changes m now) (slice_set ends slot p)
  trail_after t box = record {
    within = omega (arith, length-set changes m now);
    few_changes = omega (arith, t.few_changes, length-set changes m now);
    few_slots = omega (arith, t.few_slots, length-set ends slot p);
    slots = slots_after t.slots;
    boxes = rw boxes_after (AllBoxes-push (boxes_of m changes ends) (slice_set ends slot p) t.boxes box);
  }

-- one set less
module _ (m : ℕ) (changes : List Change) (ends : List Pair) where
  abbrev before : List Pair
  before = undone (get_or changes m no_change) ends

  pub boxes_undone : boxes_of m changes before ≡ take (suc m) (boxes_of (suc m) changes ends)
  boxes_undone = sym (subst (λ k. take k (boxes_of m changes before ++ ends ∷ []) ≡ boxes_of m changes before) (length_boxes m changes before) (take-append_seam (boxes_of m changes before) (ends ∷ [])))

  pub trail_undone : IsTrail (suc m) changes ends → IsTrail m changes before
  trail_undone t =
      let same : length before ≡ length ends = length-set ends (get_or changes m no_change).slot (get_or changes m no_change).was in
      record {
        within = omega (arith, t.within);
        few_changes = t.few_changes;
        few_slots = omega (arith, t.few_slots, same);
        slots = λ k less. omega (arith, same, t.slots k (omega arith));
        boxes = AllBoxes-front (boxes_of m changes before) (ends ∷ []) t.boxes;
      }

-- ---- from the fields to the value

-- the fields of a trail, and the value that they stand for
pub record Opened (m : ℕ) (changes : List Change) (ends : List Pair) (h : History) : Type 0 where
  pub boxes_are : boxes_of m changes ends ≡ h.boxes
  pub room_is : length changes ≡ h.room
  pub trail : IsTrail m changes ends

module _ (m : ℕ) (changes : List Change) (ends : List Pair) (h : History) (o : Opened m changes ends h) where
  pub mark_is : mark_of h ≡ m
  mark_is = omega (arith, length_boxes m changes ends, ap length o.boxes_are)

  pub present_is : present h ≡ ends
  present_is =
      let last : get_or h.boxes m [] ≡ ends = subst (λ (bs : List (List Pair)). get_or bs m [] ≡ ends) o.boxes_are (last_box m changes ends) in
      ap (λ k. get_or h.boxes k []) mark_is ∙ last

  pub present_box : IsBox (present h)
  present_box = subst IsBox (sym present_is) (last_is_box m changes ends o.trail.boxes)

  pub present_few : length (present h) < 2 ^ 32
  present_few = omega (arith, o.trail.few_slots, ap length present_is)

abbrev pub history : List (List Pair) → ℕ → History
history boxes room = record { boxes = boxes; room = room }

pub opened : (m : ℕ) (changes : List Change) (ends : List Pair) (h : History) → history (boxes_of m changes ends) (length changes) ≡ h → IsTrail m changes ends → Opened m changes ends h
opened m changes ends h is t = record { boxes_are = ap (λ (x : History). x.boxes) is; room_is = ap (λ (x : History). x.room) is; trail = t }

-- ---- a set

module _ (m : ℕ) (changes : List Change) (ends : List Pair) (h : History) (o : Opened m changes ends h) (slot : ℕ) (p q : Pair) where
  pub slot_there : slot < length (present h) → slot < length ends
  slot_there less = omega (arith, ap length (present_is m changes ends h o))

  pub room_there : mark_of h < h.room → m < length changes
  room_there less = omega (arith, mark_is m changes ends h o, o.room_is)

  pub changed_trail : mark_of h < h.room → slot < length (present h) → q ≡ get_or ends slot q → p.low ≤ℤ p.high
      → IsTrail (m + 1) (set changes m (record { slot = slot; was = q })) (slice_set ends slot p)
  changed_trail room there was ordered =
      let box = box_set ends slot p (slot_there there) (last_is_box m changes ends o.trail.boxes) ordered in
      subst (λ k. IsTrail k (set changes m (record { slot = slot; was = q })) (slice_set ends slot p)) (omega arith)
      (trail_after m changes ends slot p q (room_there room) (slot_there there) was o.trail box)

  pub changed_value : mark_of h < h.room → slot < length (present h) → q ≡ get_or ends slot q
      → history (boxes_of (m + 1) (set changes m (record { slot = slot; was = q })) (slice_set ends slot p)) (length (set changes m (record { slot = slot; was = q }))) ≡ with_box h (slice_set (present h) slot p)
  changed_value room there was = ap₂ history
      (ap (λ k. boxes_of k (set changes m (record { slot = slot; was = q })) (slice_set ends slot p)) {x = m + 1} {y = suc m} (omega arith)
      ∙ (boxes_after m changes ends slot p q (room_there room) (slot_there there) was
      ∙ ap₂ (λ (bs : List (List Pair)) (e : List Pair). bs ++ slice_set e slot p ∷ []) o.boxes_are (sym (present_is m changes ends h o))))
      (length-set changes m (record { slot = slot; was = q }) ∙ o.room_is)

-- ---- its undoing

get_or_default : {A : Type 0} (xs : List A) (i : ℕ) (d e : A) → i < length xs → get_or xs i d ≡ get_or xs i e
get_or_default [] i d e h = absurd (omega arith)
get_or_default (x ∷ xs) zero d e h = refl
get_or_default (x ∷ xs) (suc i) d e h = get_or_default xs i d e (omega arith)

module _ (m : ℕ) (changes : List Change) (ends : List Pair) (h : History) (o : Opened m changes ends h) (g : Change) where
  more : 0 < mark_of h → m ≡ suc (m - 1)
  more less = omega (arith, mark_is m changes ends h o)

  change_is : 0 < mark_of h → g ≡ get_or changes (m - 1) g → undone (get_or changes (m - 1) no_change) ends ≡ undone g ends
  change_is less was = ap (λ (x : Change). undone x ends)
      (get_or_default changes (m - 1) no_change g (omega (arith, more less, o.trail.within)) ∙ sym was)

  pub undone_there : 0 < mark_of h → g ≡ get_or changes (m - 1) g → g.slot < length ends
  undone_there less was =
      let same = get_or_default changes (m - 1) no_change g (omega (arith, more less, o.trail.within)) ∙ sym was in
      omega (arith, ap (λ (x : Change). x.slot) same, o.trail.slots (m - 1) (omega (arith, more less)))

  pub undone_trail : 0 < mark_of h → g ≡ get_or changes (m - 1) g → IsTrail (m - 1) changes (undone g ends)
  undone_trail less was = subst (IsTrail (m - 1) changes) (change_is less was)
      (trail_undone (m - 1) changes ends (subst (λ k. IsTrail k changes ends) (more less) o.trail))

  pub undone_value : 0 < mark_of h → g ≡ get_or changes (m - 1) g → history (boxes_of (m - 1) changes (undone g ends)) (length changes) ≡ back_to h (mark_of h - 1)
  undone_value less was = ap₂ history
      (sym (ap (boxes_of (m - 1) changes) (change_is less was))
      ∙ (boxes_undone (m - 1) changes ends
      ∙ (ap (λ k. take k (boxes_of (suc (m - 1)) changes ends)) {x = suc (m - 1)} {y = mark_of h - 1 + 1} (omega (arith, more less, mark_is m changes ends h o))
      ∙ ap (take (mark_of h - 1 + 1)) (ap (λ k. boxes_of k changes ends) (sym (more less)) ∙ o.boxes_are))))
      o.room_is

-- ---- ends as the code reads them

pub low_read : (ends : List Pair) (slot : ℕ) (p : Pair) → slot < length ends → p ≡ get_or ends slot p → p.low ≡ low_at ends slot
low_read [] slot p h is = absurd (omega arith)
low_read (e ∷ es) zero p h is = ap (λ (x : Pair). x.low) is
low_read (e ∷ es) (suc slot) p h is = low_read es slot p (omega arith) is

pub high_read : (ends : List Pair) (slot : ℕ) (p : Pair) → slot < length ends → p ≡ get_or ends slot p → p.high ≡ high_at ends slot
high_read [] slot p h is = absurd (omega arith)
high_read (e ∷ es) zero p h is = ap (λ (x : Pair). x.high) is
high_read (e ∷ es) (suc slot) p h is = high_read es slot p (omega arith) is
