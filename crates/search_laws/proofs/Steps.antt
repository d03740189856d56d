-- Each step of the search keeps its invariant.
use Rattle.std.proofs.Common.{◌≡◌, refl, sym, ap, ap₂, ◌∙◌, subst, ℕ, suc, zero, ◌+◌, ◌-◌, ◌<◌, ◌≤◌, max, true, false, List, [], ◌∷◌, ◌++◌, length, get_or, take, slice_get, Some, arith, length-append}
use Rattle.std.proofs.lemmas.Bool.{false≢true}
use Rattle.std.proofs.Math.Seq.{take-length}
use Rattle.std.proofs.Math.ListN.{get_or-append}
use Rattle.std.proofs.lemmas.List.{append-nil, take-append-le, length-take-le, get_or-take}
use Rattle.wake_ring.specs.Queue.{is_in}
use Rattle.box_eval.specs.declared.rule.Rule.{Rule}
use Rattle.box_eval.specs.declared.bounds.Pair.{Pair}
use Rattle.box_eval.specs.declared.cut.Cut.{Cut}
use Rattle.box_eval.specs.declared.flat.Flat.{Flat}
use Rattle.linear_sums.specs.declared.pick.Pick.{Pick}
use Rattle.record_trees.specs.declared.record.Line.{Line}
use Rattle.record_trees.specs.declared.record.Line.TheVariants as L
use Rattle.box_eval.specs.declared.verdict.Verdict.TheVariants.{True}
use Rattle.box_eval.specs.Box.{IsBox, IsInside, IsCutOf, first_part, second_part}
use Rattle.record_trees.specs.Record.{Leaf, close, added, cut_line, leaf_line, leaf_picks, is_open, may_close, may_add, may_leave}
use Rattle.box_eval.specs.Verdict.{verdict_of}
use Rattle.linear_sums.specs.FacingPairs.{NoneFacing}
use Rattle.record_trees.specs.Guided.{is_longest, IsSettledFor, IsSettled}
use Rattle.box_eval.proofs.Parts.{inside_self, inside_trans, first_part_box, second_part_box, first_part_inside, second_part_inside}
use Rattle.search_laws.specs.declared.decision.Decision.{Decision}
use Rattle.search_laws.specs.Forest.{Place, place, Grown}
use Rattle.search_laws.specs.State.{State, most_picks, last_of, last_place, IsLively, AllDone, decided_box, IsStanding, AllStanding, untried, IsSearching, IsClosed, IsWoken}
use Rattle.search_laws.proofs.Forests.{started, closed, narrowed, decided}
use Rattle.search_laws.proofs.Lists.{length_push, last_push, front_push, front_last, length_front}
use Rattle.search_laws.proofs.Lively.{first_part_set, second_part_set, done_inside, done_push, lively_without, lively_all, lively_after}

-- ---- boxes and marks at the end say nothing of the decisions before

module _ (rules : List Rule) (root : List Pair) where
  untried_push : (boxes more : List (List Pair)) (marks : List ℕ) (ds : List Decision) → AllStanding rules root boxes marks ds → untried (boxes ++ more) ds ≡ untried boxes ds
  untried_push boxes more marks [] standing = refl
  untried_push boxes more marks (d ∷ ds) standing =
      let mark = standing.0.mark in
      ap₂ (λ (front : List (List Pair)) (b : List Pair). place front (second_part d.cut b) ∷ untried front ds)
      (take-append-le (d.mark + 1) boxes more (omega arith)) (get_or-append boxes more [] d.mark (omega arith))

  standing_one : (boxes boxes' : List (List Pair)) (marks marks' : List ℕ) (d : Decision) → d.mark + 1 < length boxes' → d.marked ≤ length marks'
      → decided_box boxes d ≡ decided_box boxes' d → take d.marked marks ≡ take d.marked marks' → IsStanding rules root boxes marks d → IsStanding rules root boxes' marks' d
  standing_one boxes boxes' marks marks' d mark marked box front s = record {
    mark = mark;
    marked = marked;
    is_box = subst IsBox box s.is_box;
    inside = subst (λ (b : List Pair). IsInside b root) box s.inside;
    settled = subst (IsSettled rules) box s.settled;
    done = subst (λ (b : List Pair). AllDone rules b (take d.marked marks')) box (subst (AllDone rules (decided_box boxes d)) front s.done);
    cuts = subst (λ (b : List Pair). IsCutOf b d.cut) box s.cuts;
  }

  standing_push : (boxes more : List (List Pair)) (marks : List ℕ) (ds : List Decision) → AllStanding rules root boxes marks ds → AllStanding rules root (boxes ++ more) marks ds
  standing_push boxes more marks [] standing = tt
  standing_push boxes more marks (d ∷ ds) standing =
      let mark = standing.0.mark in (
        standing_one boxes (boxes ++ more) marks marks d (omega (arith, length-append boxes more)) standing.0.marked (sym (get_or-append boxes more [] d.mark (omega arith))) refl standing.0,
        subst (λ (front : List (List Pair)). AllStanding rules root front (take d.marked marks) ds) (sym (take-append-le (d.mark + 1) boxes more (omega arith))) standing.1,
      )

  standing_marks : (boxes : List (List Pair)) (marks more : List ℕ) (ds : List Decision) → AllStanding rules root boxes marks ds → AllStanding rules root boxes (marks ++ more) ds
  standing_marks boxes marks more [] standing = tt
  standing_marks boxes marks more (d ∷ ds) standing =
      let marked = standing.0.marked in
      let front : take d.marked marks ≡ take d.marked (marks ++ more) = sym (take-append-le d.marked marks more marked) in (
        standing_one boxes boxes marks (marks ++ more) d standing.0.mark (omega (arith, length-append marks more)) refl front standing.0,
        subst (λ (ms : List ℕ). AllStanding rules root (take (d.mark + 1) boxes) ms ds) front standing.1,
      )

  root_push : (boxes more : List (List Pair)) → 0 < length boxes → get_or boxes 0 [] ≡ root → get_or (boxes ++ more) 0 [] ≡ root
  root_push boxes more some is = get_or-append boxes more [] 0 some ∙ is

-- ---- the steps

abbrev pub state : List (List Pair) → List ℕ → List Line → List Pick → List Decision → List ℕ → ℕ → ℕ → ℕ → State
state boxes queue out picked ds marks made drawn deepest = record { boxes = boxes; queue = queue; out = out; picked = picked; decisions = ds; marks = marks; made = made; drawn = drawn; deepest = deepest }

module _ (choose : ℕ → List Pair → Cut) (flat : Flat) (cuts : ℕ) where
  abbrev rules : List Rule
  rules = flat.rules

  abbrev root : List Pair
  root = flat.bounds.pairs

  abbrev Searching : State → Type 0
  Searching = IsSearching choose flat cuts

  -- at first every rule waits
  pub starts : (queue : List ℕ) → NoneFacing flat → IsBox root → ((k : ℕ) → k < length rules → is_in k queue ≡ true) → Searching (state (root ∷ []) queue [] [] [] [] 0 0 0)
  starts queue none box all = record {
    none_facing = none;
    grown = started choose flat;
    standing = tt;
    done = λ k rule is in_it. absurd (false≢true in_it);
    lively = λ k rule is out. absurd (false≢true (sym out ∙ all k (there rules k rule is)));
    is_box = box;
    inside = inside_self root;
    root_is = refl;
    some = omega arith;
    lines = refl;
    few_cuts = omega arith;
    few_drawn = omega arith;
    few_open = omega arith;
    deep = omega arith;
    few_deep = omega arith;
    few_picks = omega arith;
  }
    where
      there : (rs : List Rule) (k : ℕ) (rule : Rule) → slice_get rs k ≡ Some rule → k < length rs
      there [] k rule is = cc
      there (r ∷ rs) zero rule is = omega arith
      there (r ∷ rs) (suc k) rule is = omega (arith, there rs k rule is)

  module _ (s : State) (h : Searching s) where
    abbrev box : List Pair
    box = last_of s.boxes

    abbrev above : List (List Pair)
    above = take (length s.boxes - 1) s.boxes

    above_box : above ++ box ∷ [] ≡ s.boxes
    above_box = front_last s.boxes [] h.some

    long : length above + 1 ≡ length s.boxes
    long = omega (arith, length_front s.boxes, h.some)

    last_place_push : (b : List Pair) → place s.boxes b ≡ last_place (s.boxes ++ b ∷ [])
    last_place_push b = ap₂ place (sym (front_push s.boxes b)) (sym (last_push s.boxes b []))

    -- the queue may grow
    pub requeued : (later : List ℕ) → ((k : ℕ) → is_in k later ≡ false → is_in k s.queue ≡ false) → Searching (record s { queue = later })
    requeued later kept = record {
      none_facing = h.none_facing;
      grown = h.grown;
      standing = h.standing;
      done = h.done;
      lively = λ k rule is out. h.lively k rule is (kept k out);
      is_box = h.is_box;
      inside = h.inside;
      root_is = h.root_is;
      some = h.some;
      lines = h.lines;
      few_cuts = h.few_cuts;
      few_drawn = h.few_drawn;
      few_open = h.few_open;
      deep = h.deep;
      few_deep = h.few_deep;
      few_picks = h.few_picks;
    }

    -- a rule that is settled leaves the queue
    pub passed : (c : ℕ) (rule : Rule) (queue : List ℕ) → s.queue ≡ c ∷ queue → slice_get rules c ≡ Some rule → IsSettledFor box rule → Searching (record s { queue = queue })
    passed c rule queue is there settled = record {
      none_facing = h.none_facing;
      grown = h.grown;
      standing = h.standing;
      done = h.done;
      lively = lively_without rules box c rule queue there settled (subst (IsLively rules box) is h.lively);
      is_box = h.is_box;
      inside = h.inside;
      root_is = h.root_is;
      some = h.some;
      lines = h.lines;
      few_cuts = h.few_cuts;
      few_drawn = h.few_drawn;
      few_open = h.few_open;
      deep = h.deep;
      few_deep = h.few_deep;
      few_picks = h.few_picks;
    }

    -- a rule that is true is marked
    pub marked : (c : ℕ) (rule : Rule) → slice_get rules c ≡ Some rule → verdict_of box rule ≡ True → Searching (record s { marks = s.marks ++ c ∷ [] })
    marked c rule is says = record {
      none_facing = h.none_facing;
      grown = h.grown;
      standing = standing_marks rules root s.boxes s.marks (c ∷ []) s.decisions h.standing;
      done = done_push rules box s.marks c rule h.done is says;
      lively = h.lively;
      is_box = h.is_box;
      inside = h.inside;
      root_is = h.root_is;
      some = h.some;
      lines = h.lines;
      few_cuts = h.few_cuts;
      few_drawn = h.few_drawn;
      few_open = h.few_open;
      deep = h.deep;
      few_deep = h.few_deep;
      few_picks = h.few_picks;
    }

    -- a cut whose first part is closed by a rule that is false on no longer one
    pub narrows_by : (cut : Cut) (k : ℕ) (later : List ℕ) → IsCutOf box cut → s.made < cuts → may_close rules (first_part cut box) k ≡ true → is_longest rules box cut k ≡ true
        → IsWoken rules cut.slot s.marks s.queue later
        → Searching (state (s.boxes ++ second_part cut box ∷ []) later (s.out ++ cut_line cut ∷ L.Close k ∷ []) s.picked s.decisions s.marks (s.made + 1) s.drawn (max s.deepest (length s.boxes)))
    narrows_by cut k later is room may longest woken =
        let part = second_part cut box in
        let part_box = second_part_box box cut is h.is_box in
        let part_inside = second_part_inside box cut is in
        let boxes = s.boxes ++ part ∷ [] in
        let last : last_of boxes ≡ part = last_push s.boxes part [] in
        let places : place (above ++ box ∷ []) part ∷ untried s.boxes s.decisions ≡ last_place boxes ∷ untried boxes s.decisions
        = ap₂ (λ (p : Place) (ps : List Place). p ∷ ps) (ap (λ (bs : List (List Pair)). place bs part) above_box ∙ last_place_push part) (sym (untried_push rules root s.boxes (part ∷ []) s.marks s.decisions h.standing)) in
        let grown = narrowed choose flat s.out s.picked s.made s.drawn s.deepest (last_place s.boxes) (untried s.boxes s.decisions) h.grown cut k is may longest in
        record {
          none_facing = h.none_facing;
          grown = subst (λ (n : ℕ). Grown choose flat (s.out ++ cut_line cut ∷ L.Close k ∷ []) s.picked (s.made + 1) s.drawn n (last_place boxes ∷ untried boxes s.decisions)) (ap (max s.deepest) long)
              (subst (Grown choose flat (s.out ++ cut_line cut ∷ L.Close k ∷ []) s.picked (s.made + 1) s.drawn (max s.deepest (length above + 1))) places grown);
          standing = standing_push rules root s.boxes (part ∷ []) s.marks s.decisions h.standing;
          done = subst (λ (b : List Pair). AllDone rules b s.marks) (sym last) (done_inside rules part box s.marks part_box part_inside h.done);
          lively = subst (λ (b : List Pair). IsLively rules b later) (sym last) (lively_after rules box cut.slot part s.marks s.queue later (second_part_set box cut) part_box part_inside h.done h.lively woken);
          is_box = subst IsBox (sym last) part_box;
          inside = subst (λ (b : List Pair). IsInside b root) (sym last) (inside_trans part box root part_inside h.inside);
          root_is = root_push rules root s.boxes (part ∷ []) h.some h.root_is;
          some = omega (arith, length_push s.boxes part);
          lines = omega (arith, length-append s.out (cut_line cut ∷ L.Close k ∷ []), h.lines);
          few_cuts = omega arith;
          few_drawn = omega (arith, h.few_drawn);
          few_open = omega (arith, h.few_open);
          deep = omega (arith, h.deep, length_push s.boxes part);
          few_deep = omega (arith, h.few_deep, h.deep);
          few_picks = h.few_picks;
        }

    abbrev decision : Cut → Decision
    decision cut = record { cut = cut; mark = length s.boxes - 1; marked = length s.marks }

    -- a cut of a settled box that is the one chosen
    pub decides : (cut : Cut) (later : List ℕ) → IsCutOf box cut → s.made < cuts → IsSettled rules box → cut ≡ choose s.drawn box → IsWoken rules cut.slot s.marks s.queue later
        → Searching (state (s.boxes ++ first_part cut box ∷ []) later (s.out ++ cut_line cut ∷ []) s.picked (decision cut ∷ s.decisions) s.marks (s.made + 1) (s.drawn + 1) (max s.deepest (length s.boxes)))
    decides cut later is room settled chosen woken =
        let part = first_part cut box in
        let part_box = first_part_box box cut is h.is_box in
        let part_inside = first_part_inside box cut is in
        let boxes = s.boxes ++ part ∷ [] in
        let last : last_of boxes ≡ part = last_push s.boxes part [] in
        let front : take (length s.boxes - 1 + 1) boxes ≡ s.boxes = ap (λ k. take k boxes) {x = length s.boxes - 1 + 1} {y = length boxes - 1} (omega (arith, h.some, length_push s.boxes part)) ∙ front_push s.boxes part in
        let at : decided_box boxes (decision cut) ≡ box = get_or-append s.boxes (part ∷ []) [] (length s.boxes - 1) (omega (arith, h.some)) in
        let places : place (above ++ box ∷ []) part ∷ place (above ++ box ∷ []) (second_part cut box) ∷ untried s.boxes s.decisions ≡ last_place boxes ∷ untried boxes (decision cut ∷ s.decisions)
        = ap₂ (λ (p : Place) (ps : List Place). p ∷ ps) (ap (λ (bs : List (List Pair)). place bs part) above_box ∙ last_place_push part)
        (ap (λ (bs : List (List Pair)). place bs (second_part cut box) ∷ untried s.boxes s.decisions) (above_box)
        ∙ ap₂ (λ (bs : List (List Pair)) (b : List Pair). place bs (second_part cut b) ∷ untried bs s.decisions) (sym front) (sym at)) in
        let grown = decided choose flat s.out s.picked s.made s.drawn s.deepest (last_place s.boxes) (untried s.boxes s.decisions) h.grown cut h.is_box is (record { settled = settled; none_facing = h.none_facing; cut_chosen = chosen }) in
        let all : take (length s.marks) s.marks ≡ s.marks = take-length s.marks in
        record {
          none_facing = h.none_facing;
          grown = subst (λ (n : ℕ). Grown choose flat (s.out ++ cut_line cut ∷ []) s.picked (s.made + 1) (s.drawn + 1) n (last_place boxes ∷ untried boxes (decision cut ∷ s.decisions))) (ap (max s.deepest) long)
              (subst (Grown choose flat (s.out ++ cut_line cut ∷ []) s.picked (s.made + 1) (s.drawn + 1) (max s.deepest (length above + 1))) places grown);
          standing = (
            record {
              mark = omega (arith, h.some, length_push s.boxes part);
              marked = omega arith;
              is_box = subst IsBox (sym at) h.is_box;
              inside = subst (λ (b : List Pair). IsInside b root) (sym at) h.inside;
              settled = subst (IsSettled rules) (sym at) settled;
              done = subst (λ (b : List Pair). AllDone rules b (take (length s.marks) s.marks)) (sym at) (subst (AllDone rules box) (sym all) h.done);
              cuts = subst (λ (b : List Pair). IsCutOf b cut) (sym at) is;
            },
            subst (λ (ms : List ℕ). AllStanding rules root (take (length s.boxes - 1 + 1) boxes) ms s.decisions) (sym all) (subst (λ (bs : List (List Pair)). AllStanding rules root bs s.marks s.decisions) (sym front) h.standing),
          );
          done = subst (λ (b : List Pair). AllDone rules b s.marks) (sym last) (done_inside rules part box s.marks part_box part_inside h.done);
          lively = subst (λ (b : List Pair). IsLively rules b later) (sym last) (lively_after rules box cut.slot part s.marks s.queue later (first_part_set box cut) part_box part_inside h.done h.lively woken);
          is_box = subst IsBox (sym last) part_box;
          inside = subst (λ (b : List Pair). IsInside b root) (sym last) (inside_trans part box root part_inside h.inside);
          root_is = root_push rules root s.boxes (part ∷ []) h.some h.root_is;
          some = omega (arith, length_push s.boxes part);
          lines = omega (arith, length-append s.out (cut_line cut ∷ []), h.lines);
          few_cuts = omega arith;
          few_drawn = omega (arith, h.few_drawn);
          few_open = omega (arith, h.few_open);
          deep = omega (arith, h.deep, length_push s.boxes part);
          few_deep = omega (arith, h.few_deep, h.deep);
          few_picks = h.few_picks;
        }

    -- the present box is closed by a leaf
    pub closes_by : (l : Leaf) → is_open l ≡ false → may_leave flat box l ≡ true → length (s.picked ++ leaf_picks l) ≤ most_picks
        → IsClosed choose flat cuts (record s { out = s.out ++ leaf_line l ∷ []; picked = s.picked ++ leaf_picks l })
    closes_by l shut may few = record {
      none_facing = h.none_facing;
      grown = closed choose flat s.out s.picked s.made s.drawn s.deepest (last_place s.boxes) (untried s.boxes s.decisions) h.grown l shut may (omega (arith, length_front s.boxes, h.deep));
      standing = h.standing;
      root_is = h.root_is;
      some = h.some;
      lines = omega (arith, length_push s.out (leaf_line l), h.lines);
      few_cuts = h.few_cuts;
      few_drawn = h.few_drawn;
      few_open = h.few_open;
      deep = h.deep;
      few_deep = h.few_deep;
      few_picks = few;
    }

    -- by a rule that is false on it
    pub closes : (k : ℕ) → may_close rules box k ≡ true → IsClosed choose flat cuts (record s { out = s.out ++ L.Close k ∷ [] })
    closes k may = subst (λ (ps : List Pick). IsClosed choose flat cuts (record s { out = s.out ++ L.Close k ∷ []; picked = ps })) same
        (closes_by (close k) refl may (omega (arith, ap (λ (ps : List Pick). length ps) same, h.few_picks)))
      where
        same : s.picked ++ [] ≡ s.picked
        same = append-nil s.picked

    -- by a sum that is false on it
    pub closes_sum : (picks : List Pick) → may_add flat box picks ≡ true → length s.picked + length picks ≤ most_picks
        → IsClosed choose flat cuts (record s { out = s.out ++ L.Sum (length picks) ∷ []; picked = s.picked ++ picks })
    closes_sum picks may few = closes_by (added picks) refl may (omega (arith, length-append s.picked picks, few))

  -- back to the newest decision, and into its second part
  pub returns_to : (s : State) → IsClosed choose flat cuts s → (d : Decision) (ds : List Decision) (later : List ℕ) → s.decisions ≡ d ∷ ds
      → IsWoken rules d.cut.slot (take d.marked s.marks) [] later
      → Searching (state (take (d.mark + 1) s.boxes ++ second_part d.cut (decided_box s.boxes d) ∷ []) later s.out s.picked ds (take d.marked s.marks) s.made s.drawn s.deepest)
  returns_to s h d ds later is woken =
      let standing : AllStanding rules root s.boxes s.marks (d ∷ ds) = subst (AllStanding rules root s.boxes s.marks) is h.standing in
      let one = standing.0 in
      let deeper = one.mark in
      let front = take (d.mark + 1) s.boxes in
      let marks = take d.marked s.marks in
      let box = decided_box s.boxes d in
      let part = second_part d.cut box in
      let part_box = second_part_box box d.cut one.cuts one.is_box in
      let part_inside = second_part_inside box d.cut one.cuts in
      let boxes = front ++ part ∷ [] in
      let last : last_of boxes ≡ part = last_push front part [] in
      let long : length front ≡ d.mark + 1 = length-take-le (d.mark + 1) s.boxes (omega arith) in
      let some : 0 < length front = omega arith in
      let places : place front part ∷ untried front ds ≡ last_place boxes ∷ untried boxes ds
      = ap₂ (λ (p : Place) (ps : List Place). p ∷ ps) (ap₂ place (sym (front_push front part)) (sym last)) (sym (untried_push rules root front (part ∷ []) marks ds standing.1)) in
      let grown : Grown choose flat s.out s.picked s.made s.drawn s.deepest (place front part ∷ untried front ds) = subst (λ (l : List Decision). Grown choose flat s.out s.picked s.made s.drawn s.deepest (untried s.boxes l)) is h.grown in
      let count : length s.decisions ≡ length ds + 1 = ap (λ (l : List Decision). length l) is ∙ omega arith in
      record {
        none_facing = h.none_facing;
        grown = subst (Grown choose flat s.out s.picked s.made s.drawn s.deepest) places grown;
        standing = standing_push rules root front (part ∷ []) marks ds standing.1;
        done = subst (λ (b : List Pair). AllDone rules b marks) (sym last) (done_inside rules part box marks part_box part_inside one.done);
        lively = subst (λ (b : List Pair). IsLively rules b later) (sym last) (lively_after rules box d.cut.slot part marks [] later (second_part_set box d.cut) part_box part_inside one.done (lively_all rules box [] one.settled) woken);
        is_box = subst IsBox (sym last) part_box;
        inside = subst (λ (b : List Pair). IsInside b root) (sym last) (inside_trans part box root part_inside one.inside);
        root_is = root_push rules root front (part ∷ []) some (get_or-take (d.mark + 1) s.boxes 0 [] (omega arith) ∙ h.root_is);
        some = omega (arith, length_push front part);
        lines = omega (arith, h.lines, count);
        few_cuts = h.few_cuts;
        few_drawn = h.few_drawn;
        few_open = omega (arith, h.few_open, count);
        deep = omega (arith, h.deep, length_push front part);
        few_deep = h.few_deep;
        few_picks = h.few_picks;
      }
