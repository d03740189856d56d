-- What the lines so far become as places are closed and cut.
use Rattle.std.proofs.Common.{◌≡◌, refl, sym, ap, ◌∙◌, subst, inl, inr, ℕ, ◌+◌, ◌<◌, ◌≤◌, max, Bool, true, false, ◌||◌, cond, List, [], ◌∷◌, ◌++◌, length, arith, append_assoc, length-append, add-zero}
use Rattle.std.proofs.lemmas.List.{append-nil}
use Rattle.std.proofs.Math.Bool.{or_assoc}
use Rattle.std.specs.Prelude.{MatchBool}
use Rattle.box_eval.specs.declared.bounds.Pair.{Pair}
use Rattle.box_eval.specs.declared.cut.Cut.{Cut}
use Rattle.box_eval.specs.declared.flat.Flat.{Flat}
use Rattle.linear_sums.specs.declared.pick.Pick.{Pick}
use Rattle.record_trees.specs.declared.record.Line.{Line}
use Rattle.record_trees.specs.declared.record.Line.TheVariants as L
use Rattle.box_eval.specs.Box.{IsBox, IsCutOf, first_part, second_part}
use Rattle.record_trees.specs.Record.{Leaf, close, Tree, branch, leaf, cut_line, leaf_line, leaf_picks, lines_of, picks_of, is_open, has_open, may_close, may_leave, accepts, AllTrue, Accepted}
use Rattle.record_trees.specs.Guided.{is_longest, narrows, decisions, IsChosen, Guided, EndsAt, way_down}
use Rattle.record_trees.proofs.Empty.{cut_from_facts}
use Rattle.record_trees.proofs.Settled.{settled_cut}
use Rattle.record_trees.specs.Trees.{lines_all, picks_all, any_open}
use Rattle.search_laws.specs.Forest.{Place, place, way_all, AcceptedAll, GuidedAll, AllUnknown, EndsAll, Grown}

AllTrue-append : (bs cs : List Bool) → AllTrue bs → AllTrue cs → AllTrue (bs ++ cs)
AllTrue-append [] cs h k = k
AllTrue-append (b ∷ bs) cs h k = (h.0, AllTrue-append bs cs h.1 k)

or_no_open : (a b : Bool) → a ≡ false → b ≡ false → a || b ≡ false
or_no_open true b h k = h
or_no_open false b h k = k

or_nil : (a : Bool) → a || false ≡ true → a ≡ true
or_nil true h = refl
or_nil false h = h

-- the way through a cut box whose two parts have places of their own
way_parts : (ha hb : Bool) (above wa wb rest : List (List Pair)) (box : List Pair)
    → cond (ha || hb) (above ++ box ∷ cond ha wa wb) rest ≡ cond ha (above ++ box ∷ [] ++ wa) (cond hb (above ++ box ∷ [] ++ wb) rest)
way_parts true hb above wa wb rest box = sym (append_assoc above (box ∷ []) wa)
way_parts false true above wa wb rest box = sym (append_assoc above (box ∷ []) wb)
way_parts false false above wa wb rest box = refl

module _ (choose : ℕ → List Pair → Cut) (flat : Flat) where
  -- nothing is written, and the flat form's box is the one place
  pub started : Grown choose flat [] [] 0 0 0 (place [] flat.bounds.pairs ∷ [])
  started room [] le acc guided = absurd acc
  started room (t ∷ []) le acc guided = record {
    tree = t;
    lines = sym (append-nil (lines_of t));
    picks = sym (append-nil (picks_of t));
    cuts = omega arith;
    opens = or_end (has_open t);
    depth = omega arith;
    way = λ h. sym (ap (λ b. cond b (way_down flat.bounds.pairs t) []) (or_nil (has_open t) h));
    accepted = acc.0;
    guided = guided.0;
    ends = λ box h. only box t h;
  }
    where
      or_end : (a : Bool) → a ≡ a || false
      or_end true = refl
      or_end false = refl

      only : (box : List Pair) (u : Tree) → EndsAll box (place [] flat.bounds.pairs ∷ []) (u ∷ []) → EndsAt box flat.bounds.pairs u
      only box u (inl later) = absurd later.1
      only box u (inr here) = here.0
  started room (t ∷ u ∷ us) le acc guided = absurd acc.1

  module _ (out : List Line) (picked : List Pick) (made drawn deepest : ℕ) (p : Place) (ps : List Place) (grown : Grown choose flat out picked made drawn deepest (p ∷ ps)) where
    -- the first place is closed by a leaf
    pub closed : (l : Leaf) → is_open l ≡ false → may_leave flat p.box l ≡ true → length p.above ≤ deepest
        → Grown choose flat (out ++ leaf_line l ∷ []) (picked ++ leaf_picks l) made drawn deepest ps
    closed l shut may deep room ts le acc guided =
        let w = grown room (leaf l ∷ ts) le ((may, tt), acc) (tt, subst (λ n. GuidedAll choose flat n ps ts) (sym (add-zero drawn)) guided) in
        record {
          tree = w.tree;
          lines = w.lines ∙ sym (append_assoc out (leaf_line l ∷ []) (lines_all ts));
          picks = w.picks ∙ sym (append_assoc picked (leaf_picks l) (picks_all ts));
          cuts = omega (arith, w.cuts);
          opens = w.opens ∙ ap (λ b. b || any_open ts) shut;
          depth = omega (arith, w.depth);
          way = λ h. w.way (ap (λ b. b || any_open ts) shut ∙ h) ∙ ap (λ b. cond b (p.above ++ way_down p.box (leaf l)) (way_all ps ts)) shut;
          accepted = w.accepted;
          guided = w.guided;
          ends = λ box h. w.ends box (inl (shut, h));
        }

    abbrev below : List (List Pair)
    below = p.above ++ p.box ∷ []

    deeper : length below ≡ length p.above + 1
    deeper = length-append p.above (p.box ∷ [])

    -- the first place is cut, and the first part is closed by a rule that is false on no longer one
    pub narrowed : (cut : Cut) (k : ℕ) → IsCutOf p.box cut → may_close flat.rules (first_part cut p.box) k ≡ true → is_longest flat.rules p.box cut k ≡ true
        → Grown choose flat (out ++ cut_line cut ∷ L.Close k ∷ []) picked (made + 1) drawn (max deepest (length p.above + 1)) (place below (second_part cut p.box) ∷ ps)
    narrowed cut k is may longest room [] le acc guided = absurd acc
    narrowed cut k is may longest room (t ∷ ts) le acc guided =
        let whole = branch cut (leaf (close k)) t in
        let second : Accepted flat room (second_part cut p.box) (length p.above + 1) t = subst (λ n. Accepted flat room (second_part cut p.box) n t) deeper acc.0 in
        let few : length p.above < room = omega arith in
        let accepted : Accepted flat room p.box (length p.above) whole = (cut_from_facts room p.box (length p.above) cut few is, (may, second)) in
        let guided_here : Guided choose flat p.box drawn whole = subst (λ b. MatchBool b (Guided choose flat (second_part cut p.box) drawn t)
        (IsChosen choose drawn flat p.box cut × Guided choose flat (first_part cut p.box) (drawn + 1) (leaf (close k)) × Guided choose flat (second_part cut p.box) (drawn + 1 + decisions flat.rules (first_part cut p.box) (leaf (close k))) t)) (sym longest) guided.0 in
        let count : decisions flat.rules p.box whole ≡ decisions flat.rules (second_part cut p.box) t = ap (λ b. cond b 0 1 + (0 + decisions flat.rules (second_part cut p.box) t)) longest ∙ omega arith in
        let w = grown room (whole ∷ ts) (omega arith) (accepted, acc.1) (guided_here, subst (λ n. GuidedAll choose flat (drawn + n) ps ts) (sym count) guided.1) in
        record {
          tree = w.tree;
          lines = w.lines ∙ sym (append_assoc out (cut_line cut ∷ L.Close k ∷ []) (lines_of t ++ lines_all ts));
          picks = w.picks;
          cuts = omega (arith, w.cuts);
          opens = w.opens;
          depth = omega (arith, w.depth, deeper);
          way = λ h. w.way h ∙ ap (λ (boxes : List (List Pair)). cond (has_open t) boxes (way_all ps ts)) (sym (append_assoc p.above (p.box ∷ []) (way_down (second_part cut p.box) t)));
          accepted = w.accepted;
          guided = w.guided;
          ends = λ box h. w.ends box (to_whole box h);
        }
      where
        to_whole : (box : List Pair) → EndsAll box (place below (second_part cut p.box) ∷ ps) (t ∷ ts) → EndsAll box (p ∷ ps) (branch cut (leaf (close k)) t ∷ ts)
        to_whole box (inl later) = inl later
        to_whole box (inr here) = inr (inl (refl, here.0), here.1)

    -- the first place is settled and is cut by a decision that is chosen
    pub decided : (cut : Cut) → IsBox p.box → IsCutOf p.box cut → IsChosen choose drawn flat p.box cut
        → Grown choose flat (out ++ cut_line cut ∷ []) picked (made + 1) (drawn + 1) (max deepest (length p.above + 1)) (place below (first_part cut p.box) ∷ place below (second_part cut p.box) ∷ ps)
    decided cut box is d room [] le acc guided = absurd acc
    decided cut box is d room (a ∷ []) le acc guided = absurd acc.1
    decided cut box is d room (a ∷ b ∷ ts) le acc guided =
        let whole = branch cut a b in
        let first : Accepted flat room (first_part cut p.box) (length p.above + 1) a = subst (λ n. Accepted flat room (first_part cut p.box) n a) deeper acc.0 in
        let second : Accepted flat room (second_part cut p.box) (length p.above + 1) b = subst (λ n. Accepted flat room (second_part cut p.box) n b) deeper acc.1.0 in
        let few : length p.above < room = omega arith in
        let none : narrows flat.rules p.box cut a ≡ false = settled_cut flat room p.box (length p.above + 1) cut a box is d.settled first in
        let accepted : Accepted flat room p.box (length p.above) whole = (
          cut_from_facts room p.box (length p.above) cut few is,
          AllTrue-append (accepts flat room (first_part cut p.box) (length p.above + 1) a) (accepts flat room (second_part cut p.box) (length p.above + 1) b) first second,
        ) in
        let n = decisions flat.rules (first_part cut p.box) a in
        let m = decisions flat.rules (second_part cut p.box) b in
        let guided_here : Guided choose flat p.box drawn whole = subst (λ (c : Bool). MatchBool c (Guided choose flat (second_part cut p.box) drawn b) (IsChosen choose drawn flat p.box cut × Guided choose flat (first_part cut p.box) (drawn + 1) a × Guided choose flat (second_part cut p.box) (drawn + 1 + n) b)) (sym none) (d, guided.0, guided.1.0) in
        let count : drawn + decisions flat.rules p.box whole ≡ drawn + 1 + n + m = ap (λ c. drawn + (cond c 0 1 + (n + m))) none ∙ omega arith in
        let w = grown room (whole ∷ ts) (omega arith) (accepted, acc.1.1) (guided_here, subst (λ i. GuidedAll choose flat i ps ts) (sym count) guided.1.1) in
        record {
          tree = w.tree;
          lines = w.lines ∙ (ap (λ (ls : List Line). out ++ cut_line cut ∷ ls) (append_assoc (lines_of a) (lines_of b) (lines_all ts)) ∙ sym (append_assoc out (cut_line cut ∷ []) (lines_of a ++ (lines_of b ++ lines_all ts))));
          picks = w.picks ∙ ap (λ (qs : List Pick). picked ++ qs) (append_assoc (picks_of a) (picks_of b) (picks_all ts));
          cuts = omega (arith, w.cuts);
          opens = w.opens ∙ or_assoc (has_open a) (has_open b) (any_open ts);
          depth = omega (arith, w.depth, deeper);
          way = λ h. w.way (or_assoc (has_open a) (has_open b) (any_open ts) ∙ h)
              ∙ way_parts (has_open a) (has_open b) p.above (way_down (first_part cut p.box) a) (way_down (second_part cut p.box) b) (way_all ps ts) p.box;
          accepted = w.accepted;
          guided = w.guided;
          ends = λ at h. w.ends at (to_whole at h);
        }
      where
        to_whole : (at : List Pair) → EndsAll at (place below (first_part cut p.box) ∷ place below (second_part cut p.box) ∷ ps) (a ∷ b ∷ ts) → EndsAll at (p ∷ ps) (branch cut a b ∷ ts)
        to_whole at (inl (ca, inl (cb, later))) = inl (or_no_open (has_open a) (has_open b) ca cb, later)
        to_whole at (inl (ca, inr (here, all))) = inr (inl (ca, here), all)
        to_whole at (inr (here, (is_b, all))) = inr (inr (here, is_b), all)

  -- ---- the end

  pub unknowns_accepted : (room : ℕ) (ps : List Place) (ts : List Tree) → length ts ≡ length ps → AllUnknown ts → AcceptedAll flat room ps ts
  unknowns_accepted room [] [] e all = tt
  unknowns_accepted room [] (t ∷ ts) e all = absurd (omega (arith, e))
  unknowns_accepted room (p ∷ ps) [] e all = absurd (omega (arith, e))
  unknowns_accepted room (p ∷ ps) (t ∷ ts) e all = (subst (λ (u : Tree). Accepted flat room p.box (length p.above) u) (sym all.0) (refl, tt), unknowns_accepted room ps ts (omega (arith, e)) all.1)

  pub unknowns_guided : (k : ℕ) (ps : List Place) (ts : List Tree) → AllUnknown ts → GuidedAll choose flat k ps ts
  unknowns_guided k [] ts all = tt
  unknowns_guided k (p ∷ ps) [] all = tt
  unknowns_guided k (p ∷ ps) (t ∷ ts) all = (subst (λ (u : Tree). Guided choose flat p.box k u) (sym all.0) tt, unknowns_guided (k + decisions flat.rules p.box t) ps ts all.1)
