-- The trail and the stack stand for the places that are left.
use Rattle.std.proofs.Common.{◌≡◌, refl, sym, ap, ap₂, ◌∙◌, subst, ℕ, ◌+◌, ◌<◌, ◌≤◌, Bool, true, false, List, [], ◌∷◌, ◌++◌, length, get_or, take, Some, ℤ, arith, append_assoc}
use Rattle.std.specs.Prelude.{nat_lt}
use Rattle.std.proofs.lemmas.Bool.{ltb-true}
use Rattle.std.proofs.lemmas.List.{length-append, length-take, get_or-take}
use Rattle.std.proofs.Math.ListN.{get_or-append}
use Rattle.std.proofs.Math.Seq.{get_or-append_seam}
use Rattle.record_trees.proofs.Empty.{cut_facts}
use Rattle.box_eval.proofs.Parts.{inside_trans, first_part_inside, second_part_inside}
use Rattle.box_eval.specs.declared.flat.Flat.{Flat}
use Rattle.box_eval.specs.declared.bounds.Pair.{Pair}
use Rattle.box_eval.specs.declared.cut.Cut.{Cut}
use Rattle.box_eval.specs.declared.cut.Side.{Side}
use Rattle.record_trees.specs.declared.record.Line.{Line}
use Rattle.record_trees.specs.declared.record.Line.TheVariants as L
use Rattle.box_eval.specs.Box.{cut_at, first_part, second_part, IsInside, IsCutOf}
use Rattle.linear_sums.specs.declared.pick.Pick.{Pick}
use Rattle.record_trees.specs.Record.{Tree, branch, leaf, close, added, unknown, line_at, FullLine, full_lines, may_cut, accepts}
use Rattle.bound_trail.specs.History.{History, mark_of, present, with_box, back_to}
use Rattle.refute_check.specs.declared.stack.Pending.{Pending}
use Rattle.refute_check.specs.Stack.{popped, rest}
use Rattle.refute_check.specs.Walk.{Place, place, mark, mark_line, parts, next, marks_at, places_after, untried, places_now, AllWait, IsStanding, trail_cut, trail_leaf, trail_after, waiting, stack_after}

-- ---- the cuts that wait

-- fewer cuts wait than stand above the present box
pub wait_few : (boxes : List (List Pair)) (m : ℕ) (ds : List Pending) → AllWait boxes m ds → length ds ≤ m
wait_few boxes m [] w = omega arith
wait_few boxes m (d ∷ ds) w = omega (arith, w.0, wait_few boxes d.mark ds w.2)

pub few_above : (room : ℕ) (ends : List Pair) (above : ℕ) (side : Side) (slot : ℕ) (value : ℤ) → true ≡ may_cut room ends above (cut_at side slot value) → above < room
few_above room ends above side slot value e = (cut_facts room ends above (cut_at side slot value) (sym e)).few

-- ---- the boxes of a trail that goes on or back

back_mark : (h : History) (k : ℕ) → k < length h.boxes → mark_of (back_to h k) ≡ k
back_mark h k less = omega (arith, length-take (k + 1) h.boxes)

pub left_room : (h back : History) (ds : List Pending) (d : Pending) → back ≡ back_to h d.mark → AllWait h.boxes (mark_of h) ds → mark_of h ≤ h.room → popped ds ≡ Some d
    → mark_of back < back.room
left_room h back [] d is w few top = let never : ⊥ = cc in absurd never
left_room h back (e ∷ ds) d is w few top =
    let same : e ≡ d = cc in
    let less : d.mark < mark_of h = subst (λ (p : Pending). p.mark < mark_of h) same w.0 in
    subst (λ (b : History). mark_of b < b.room) (sym is) (omega (arith, less, few, length-take (d.mark + 1) h.boxes))

-- the same boxes as far as the cuts that wait
module _ (boxes others : List (List Pair)) (n : ℕ) (same : (k : ℕ) → k < n → get_or others k [] ≡ get_or boxes k []) where
  wait_same : (m : ℕ) (ds : List Pending) → m ≤ n → AllWait boxes m ds → AllWait others m ds
  wait_same m [] less w = tt
  wait_same m (d ∷ ds) less w =
      (w.0, subst (λ (ends : List Pair). IsCutOf ends d.cut) (sym (same d.mark (omega (arith, w.0, less)))) w.1, wait_same d.mark ds (omega (arith, w.0, less)) w.2)

  untried_same : (m : ℕ) (ds : List Pending) → m ≤ n → AllWait boxes m ds → untried others ds ≡ untried boxes ds
  untried_same m [] less w = refl
  untried_same m (d ∷ ds) less w = ap₂ (λ (ends : List Pair) (ps : List Place). place (second_part d.cut ends) (d.mark + 1) ∷ ps)
      (same d.mark (omega (arith, w.0, less))) (untried_same d.mark ds (omega (arith, w.0, less)) w.2)

-- one box more
module _ (root : List Pair) (h : History) (ds : List Pending) (s : IsStanding root h ds) (b : List Pair) where
  more_mark : mark_of (with_box h b) ≡ mark_of h + 1
  more_mark = omega (arith, s.some, length-append h.boxes (b ∷ []))

  more_present : present (with_box h b) ≡ b
  more_present = ap (λ (k : ℕ). get_or (h.boxes ++ b ∷ []) k []) (omega (arith, length-append h.boxes (b ∷ []))) ∙ get_or-append_seam h.boxes b [] []

  more_same : (k : ℕ) → k < length h.boxes → get_or (h.boxes ++ b ∷ []) k [] ≡ get_or h.boxes k []
  more_same k less = get_or-append h.boxes (b ∷ []) [] k less

  more_inside : IsInside b root → (k : ℕ) → k < length (h.boxes ++ b ∷ []) → IsInside (get_or (h.boxes ++ b ∷ []) k []) root
  more_inside inside k less = by_place (nat_lt k (length h.boxes)) refl
    where
      by_place : (t : Bool) → nat_lt k (length h.boxes) ≡ t → IsInside (get_or (h.boxes ++ b ∷ []) k []) root
      by_place true e = let early : k < length h.boxes = ltb-true k (length h.boxes) e in
          subst (λ (ends : List Pair). IsInside ends root) (sym (more_same k early)) (s.inside k early)
      by_place false e =
          let late : k ≡ length h.boxes = let m : length h.boxes ≤ k = grind (arith) in omega (arith, m, less, length-append h.boxes (b ∷ [])) in
          subst (λ (ends : List Pair). IsInside ends root) (sym (ap (λ (j : ℕ). get_or (h.boxes ++ b ∷ []) j []) late ∙ get_or-append_seam h.boxes b [] [])) inside

-- ---- a cut

module _ (root : List Pair) (h : History) (ds : List Pending) (s : IsStanding root h ds) (cut : Cut) (few : mark_of h < h.room) (cuts : IsCutOf (present h) cut) where
  abbrev first : List Pair
  first = first_part cut (present h)

  here : IsInside (present h) root
  here = s.inside (mark_of h) (omega (arith, s.some))

  cut_standing : IsStanding root (trail_cut h cut) (waiting h cut ∷ ds)
  cut_standing = record {
    some = omega (arith, length-append h.boxes (first ∷ []));
    few = omega (arith, few, more_mark root h ds s first);
    inside = more_inside root h ds s first (inside_trans first (present h) root (first_part_inside (present h) cut cuts) here);
    wait = (
      omega (arith, more_mark root h ds s first),
      subst (λ (ends : List Pair). IsCutOf ends cut) (sym (more_same root h ds s first (mark_of h) (omega (arith, s.some)))) cuts,
      wait_same h.boxes (h.boxes ++ first ∷ []) (length h.boxes) (more_same root h ds s first) (mark_of h) ds (omega arith) s.wait,
    );
  }

  cut_places : places_now (trail_cut h cut) (waiting h cut ∷ ds) ≡ parts cut (place (present h) (mark_of h)) ++ untried h.boxes ds
  cut_places = ap₂ (λ (p : Place) (ps : List Place). p ∷ ps)
      (ap₂ place (more_present root h ds s first) (more_mark root h ds s first))
      (ap₂ (λ (ends : List Pair) (ps : List Place). place (second_part cut ends) (mark_of h + 1) ∷ ps)
      (more_same root h ds s first (mark_of h) (omega (arith, s.some)))
      (untried_same h.boxes (h.boxes ++ first ∷ []) (length h.boxes) (more_same root h ds s first) (mark_of h) ds (omega arith) s.wait))

-- ---- a leaf

module _ (root : List Pair) (h : History) (d : Pending) (ds : List Pending) (s : IsStanding root h (d ∷ ds)) where
  less : d.mark < length h.boxes
  less = omega (arith, s.wait.0, s.some)

  back_same : (k : ℕ) → k < d.mark + 1 → get_or (take (d.mark + 1) h.boxes) k [] ≡ get_or h.boxes k []
  back_same k early = get_or-take (d.mark + 1) h.boxes k [] early

  back_present : present (back_to h d.mark) ≡ get_or h.boxes d.mark []
  back_present = ap (λ (k : ℕ). get_or (take (d.mark + 1) h.boxes) k []) (back_mark h d.mark less) ∙ back_same d.mark (omega arith)

  back_standing : IsStanding root (back_to h d.mark) ds
  back_standing = record {
    some = omega (arith, length-take (d.mark + 1) h.boxes, less);
    few = omega (arith, back_mark h d.mark less, s.wait.0, s.few);
    inside = λ k early. subst (λ (ends : List Pair). IsInside ends root) (sym (back_same k (omega (arith, early, length-take (d.mark + 1) h.boxes))))
        (s.inside k (omega (arith, early, length-take (d.mark + 1) h.boxes)));
    wait = subst (λ (m : ℕ). AllWait (take (d.mark + 1) h.boxes) m ds) (sym (back_mark h d.mark less))
        (wait_same h.boxes (take (d.mark + 1) h.boxes) (d.mark + 1) back_same d.mark ds (omega arith) s.wait.2);
  }

  back_cuts : IsCutOf (present (back_to h d.mark)) d.cut
  back_cuts = subst (λ (ends : List Pair). IsCutOf ends d.cut) (sym back_present) s.wait.1

  abbrev second : List Pair
  second = second_part d.cut (present (back_to h d.mark))

  leaf_standing : IsStanding root (trail_leaf h (d ∷ ds)) ds
  leaf_standing = record {
    some = omega (arith, length-append (take (d.mark + 1) h.boxes) (second ∷ []));
    few = omega (arith, more_mark root (back_to h d.mark) ds back_standing second, back_mark h d.mark less, s.wait.0, s.few);
    inside = more_inside root (back_to h d.mark) ds back_standing second
        (inside_trans second (present (back_to h d.mark)) root (second_part_inside (present (back_to h d.mark)) d.cut back_cuts)
        (back_standing.inside (mark_of (back_to h d.mark)) (omega (arith, back_standing.some))));
    wait = wait_deeper (take (d.mark + 1) h.boxes ++ second ∷ []) (mark_of (back_to h d.mark)) (mark_of (with_box (back_to h d.mark) second)) ds
        (omega (arith, more_mark root (back_to h d.mark) ds back_standing second))
        (wait_same (take (d.mark + 1) h.boxes) (take (d.mark + 1) h.boxes ++ second ∷ []) (length (take (d.mark + 1) h.boxes)) (more_same root (back_to h d.mark) ds back_standing second)
        (mark_of (back_to h d.mark)) ds (omega arith) back_standing.wait);
  }
    where
      wait_deeper : (boxes : List (List Pair)) (m n : ℕ) (es : List Pending) → m ≤ n → AllWait boxes m es → AllWait boxes n es
      wait_deeper boxes m n [] more w = tt
      wait_deeper boxes m n (e ∷ es) more w = (omega (arith, w.0, more), w.1, w.2)

  leaf_places : places_now (trail_leaf h (d ∷ ds)) ds ≡ untried h.boxes (d ∷ ds)
  leaf_places = ap₂ (λ (p : Place) (ps : List Place). p ∷ ps)
      (ap₂ place (more_present root (back_to h d.mark) ds back_standing second ∙ ap (second_part d.cut) back_present)
      (more_mark root (back_to h d.mark) ds back_standing second ∙ ap (λ (k : ℕ). k + 1) (back_mark h d.mark less)))
      (untried_same (take (d.mark + 1) h.boxes) (take (d.mark + 1) h.boxes ++ second ∷ []) (length (take (d.mark + 1) h.boxes)) (more_same root (back_to h d.mark) ds back_standing second)
      (mark_of (back_to h d.mark)) ds (omega arith) back_standing.wait
      ∙ untried_same h.boxes (take (d.mark + 1) h.boxes) (d.mark + 1) back_same d.mark ds (omega arith) s.wait.2)

-- ---- a line's step

pub record Stepped (root : List Pair) (h : History) (ds : List Pending) (l : Line) (ps : List Place) : Type 0 where
  pub standing : IsStanding root (trail_after h ds l) (stack_after h ds l)
  pub places : 0 < length ps → places_now (trail_after h ds l) (stack_after h ds l) ≡ ps
  pub room : (trail_after h ds l).room ≡ h.room

cut_step : (root : List Pair) (h : History) (ds : List Pending) (s : IsStanding root h ds) (cut : Cut) → may_cut h.room (present h) (mark_of h) cut ≡ true
    → IsStanding root (trail_cut h cut) (waiting h cut ∷ ds) × (places_now (trail_cut h cut) (waiting h cut ∷ ds) ≡ parts cut (place (present h) (mark_of h)) ++ untried h.boxes ds)
cut_step root h ds s cut m =
    let f = cut_facts h.room (present h) (mark_of h) cut m in
    (cut_standing root h ds s cut f.few f.parts, cut_places root h ds s cut f.few f.parts)

leaf_step : (root : List Pair) (h : History) (ds : List Pending) (s : IsStanding root h ds) → IsStanding root (trail_leaf h ds) (rest ds)
    × (0 < length (untried h.boxes ds) → places_now (trail_leaf h ds) (rest ds) ≡ untried h.boxes ds)
leaf_step root h [] s = (s, λ some_. let never : ⊥ = omega (arith, some_) in absurd never)
leaf_step root h (d ∷ ds) s = (leaf_standing root h d ds s, λ _. leaf_places root h d ds s)

leaf_room : (h : History) (ds : List Pending) → (trail_leaf h ds).room ≡ h.room
leaf_room h [] = refl
leaf_room h (d ∷ ds) = refl

pub stepped : (root : List Pair) (flat : Flat) (h : History) (ds : List Pending) (picks : List Pick) (l : Line) → IsStanding root h ds
    → mark_line flat h.room (place (present h) (mark_of h)) picks l ≡ true → Stepped root h ds l (next (place (present h) (mark_of h)) l ++ untried h.boxes ds)
stepped root flat h ds picks (L.Low slot value) s m =
    let c = cut_step root h ds s (cut_at Side.Low slot value) m in record { standing = c.0; places = λ _. c.1; room = refl }
stepped root flat h ds picks (L.High slot value) s m =
    let c = cut_step root h ds s (cut_at Side.High slot value) m in record { standing = c.0; places = λ _. c.1; room = refl }
stepped root flat h ds picks (L.Close rule) s m = let c = leaf_step root h ds s in record { standing = c.0; places = c.1; room = leaf_room h ds }
stepped root flat h ds picks (L.Sum count) s m = let c = leaf_step root h ds s in record { standing = c.0; places = c.1; room = leaf_room h ds }
stepped root flat h ds picks L.Unknown s m = let c = leaf_step root h ds s in record { standing = c.0; places = c.1; room = leaf_room h ds }

-- ---- lists of marks

pub marks_more : (flat : Flat) (room : ℕ) (ps : List Place) (ls : List FullLine) (l : FullLine) → marks_at flat room ps (ls ++ l ∷ []) ≡ marks_at flat room ps ls ++ marks_at flat room (places_after ps ls) (l ∷ [])
marks_more flat room [] [] l = refl
marks_more flat room (p ∷ ps) [] l = refl
marks_more flat room [] (k ∷ ls) l = refl
marks_more flat room (p ∷ ps) (k ∷ ls) l = ap (λ (bs : List Bool). mark flat room p k ∷ bs) (marks_more flat room (next p k.line ++ ps) ls l)

pub places_more : (ps : List Place) (ls : List FullLine) (l : FullLine) → places_after ps (ls ++ l ∷ []) ≡ places_after (places_after ps ls) (l ∷ [])
places_more [] [] l = refl
places_more (p ∷ ps) [] l = refl
places_more [] (k ∷ ls) l = refl
places_more (p ∷ ps) (k ∷ ls) l = places_more (next p k.line ++ ps) ls l

pub marks_both : (flat : Flat) (room : ℕ) (ps : List Place) (ls ms : List FullLine) → marks_at flat room ps (ls ++ ms) ≡ marks_at flat room ps ls ++ marks_at flat room (places_after ps ls) ms
marks_both flat room [] [] ms = refl
marks_both flat room (p ∷ ps) [] ms = refl
marks_both flat room [] (k ∷ ls) [] = refl
marks_both flat room [] (k ∷ ls) (m ∷ ms) = refl
marks_both flat room (p ∷ ps) (k ∷ ls) ms = ap (λ (bs : List Bool). mark flat room p k ∷ bs) (marks_both flat room (next p k.line ++ ps) ls ms)

mark_cut : (flat : Flat) (room : ℕ) (p : Place) (side : Side) (slot : ℕ) (value : ℤ) → mark_line flat room p [] (line_at side slot value) ≡ may_cut room p.ends p.above (cut_at side slot value)
mark_cut flat room p Side.Low slot value = refl
mark_cut flat room p Side.High slot value = refl

next_cut : (p : Place) (side : Side) (slot : ℕ) (value : ℤ) → next p (line_at side slot value) ≡ parts (cut_at side slot value) p
next_cut p Side.Low slot value = refl
next_cut p Side.High slot value = refl

-- a tree's lines are accepted at the first place that is left as the tree is
pub tree_marks : (flat : Flat) (room : ℕ) (t : Tree) (p : Place) (ps : List Place) (ls : List FullLine)
    → marks_at flat room (p ∷ ps) (full_lines t ++ ls) ≡ accepts flat room p.ends p.above t ++ marks_at flat room ps ls
tree_marks flat room (leaf (close rule)) p ps ls = refl
tree_marks flat room (leaf (added picks)) p ps ls = refl
tree_marks flat room (leaf unknown) p ps ls = refl
tree_marks flat room (branch cut a b) p ps ls =
    let here = mark_cut flat room p cut.side cut.slot cut.value in
    let after = next_cut p cut.side cut.slot cut.value in
    let one = place (first_part cut p.ends) (p.above + 1) in
    let two = place (second_part cut p.ends) (p.above + 1) in
    ap₂ (λ (m : Bool) (qs : List Place). m ∷ marks_at flat room (qs ++ ps) (full_lines a ++ full_lines b ++ ls)) here after
    ∙ ap (λ (bs : List Bool). may_cut room p.ends p.above cut ∷ bs)
    (ap (marks_at flat room (one ∷ two ∷ ps)) (append_assoc (full_lines a) (full_lines b) ls)
    ∙ (tree_marks flat room a one (two ∷ ps) (full_lines b ++ ls)
    ∙ (ap (λ (bs : List Bool). accepts flat room one.ends one.above a ++ bs) (tree_marks flat room b two ps ls)
    ∙ sym (append_assoc (accepts flat room one.ends one.above a) (accepts flat room two.ends two.above b) (marks_at flat room ps ls)))))
