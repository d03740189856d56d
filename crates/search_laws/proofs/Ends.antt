-- What the search answers, by its invariant: a refutation, a record that is spent, or a point that is reached.
use Rattle.std.proofs.Common.{◌≡◌, ◌≢◌, refl, sym, ap, ◌∙◌, subst, inr, ℕ, suc, zero, ◌+◌, ◌<◌, ◌≤◌, Bool, true, false, List, [], ◌∷◌, ◌++◌, length, get_or, take, map, slice_get, Some, ℤ, ◌<ℤ◌, arith}
use Rattle.std.proofs.lemmas.Bool.{eq-eqb}
use Rattle.std.proofs.lemmas.Bool.Decides.{nat_tests}
use Rattle.std.proofs.lemmas.List.{append-nil, length-take-le}
use Rattle.std.proofs.lemmas.Int.{ints}
use Rattle.std.specs.Prelude.{nat_le}
use Rattle.wake_ring.specs.Queue.{is_in}
use Rattle.box_eval.specs.declared.rule.Rule.{Rule}
use Rattle.box_eval.specs.declared.bounds.Pair.{Pair}
use Rattle.box_eval.specs.declared.cut.Cut.{Cut}
use Rattle.box_eval.specs.declared.flat.Flat.{Flat}
use Rattle.linear_sums.specs.declared.pick.Pick.{Pick}
use Rattle.record_trees.specs.declared.record.Line.{Line}
use Rattle.record_trees.specs.declared.record.Line.TheVariants as L
use Rattle.box_eval.specs.declared.verdict.Verdict.{Verdict}
use Rattle.box_eval.specs.declared.verdict.Verdict.TheVariants.{True, False, Open}
use Rattle.box_eval.specs.Box.{low_at, high_at, IsPointOf, IsOnePoint}
use Rattle.box_eval.specs.Truth.{true_at}
use Rattle.box_eval.specs.Rules.{Meets}
use Rattle.box_eval.specs.Verdict.{verdict_of}
use Rattle.record_trees.specs.Record.{Tree, leaf, unknown, lines_of, has_open, cuts_of, depth_of, marks}
use Rattle.record_trees.specs.Guided.{NoneFalse, EndsAt, way_down, IsGuided}
use Rattle.box_eval.proofs.Points.{lows, value_lows, length_lows, true_everywhere, one_point_settles, one_point_box}
use Rattle.box_eval.proofs.Parts.{point_around}
use Rattle.search_laws.specs.declared.decision.Decision.{Decision}
use Rattle.search_laws.specs.Answers.{IsPointAnswer, IsRefutedAnswer, IsUndecidedAnswer, unknown_lines, claim_of}
use Rattle.record_trees.specs.Trees.{lines_all, picks_all, cuts_all}
use Rattle.search_laws.specs.Forest.{Place, depth_all, AllUnknown, Whole, Grown}
use Rattle.search_laws.specs.State.{State, last_of, last_place, IsLively, DeadEndsWait, AllStanding, untried, IsSearching, IsClosed}
use Rattle.search_laws.proofs.Forests.{unknowns_accepted, unknowns_guided}
use Rattle.search_laws.proofs.Lists.{front_last, length_front}

-- ---- whole records

-- the record of a tree that the lines have become
accepted_as : (choose : ℕ → List Pair → Cut) (flat : Flat) (out : List Line) (picked : List Pick) (made drawn deepest : ℕ) (places : List Place) (ts : List Tree) (undecided : Bool) (lines : List Line)
    → (w : Whole choose flat out picked made drawn deepest deepest places ts) → lines ≡ lines_of w.tree → picks_all ts ≡ [] → undecided ≡ has_open w.tree → deepest ≤ 1000000
    → IsGuided choose flat (claim_of flat undecided deepest lines picked) w.tree
accepted_as choose flat out picked made drawn deepest places ts undecided lines w is none opens small = record {
  accepted = record {
    record_of = record { lines = is; picks = sym (w.picks ∙ (ap (λ (ps : List Pick). picked ++ ps) none ∙ append-nil picked)); undecided = opens };
    accepted = (refl, (eq-eqb (length flat.bounds.pairs) (length flat.bounds.pairs) refl, (eq-eqb (length flat.rules) (length flat.rules) refl, (at_most deepest small, w.accepted))));
  };
  guided = w.guided;
}
  where
    at_most : (n : ℕ) → n ≤ 1000000 → nat_le n 1000000 ≡ true
    at_most n le = grind (arith, nat_tests)

-- an unknown leaf for each place
abbrev unknown_trees : List Place → List Tree
unknown_trees places = map (λ p. leaf unknown) places

unknown_all : (places : List Place) → AllUnknown (unknown_trees places)
unknown_all [] = tt
unknown_all (p ∷ ps) = (refl, unknown_all ps)

unknown_long : (places : List Place) → length (unknown_trees places) ≡ length places
unknown_long [] = refl
unknown_long (p ∷ ps) = ap suc (unknown_long ps)

unknown_text : (places : List Place) (n : ℕ) → length places ≡ n → lines_all (unknown_trees places) ≡ unknown_lines n
unknown_text [] zero is = refl
unknown_text [] (suc n) is = absurd (omega (arith, is))
unknown_text (p ∷ ps) zero is = absurd (omega (arith, is))
unknown_text (p ∷ ps) (suc n) is = ap (λ (ls : List Line). L.Unknown ∷ ls) (unknown_text ps n (omega (arith, is)))

unknown_picks : (places : List Place) → picks_all (unknown_trees places) ≡ []
unknown_picks [] = refl
unknown_picks (p ∷ ps) = unknown_picks ps

unknown_cuts : (places : List Place) → cuts_all (unknown_trees places) ≡ 0
unknown_cuts [] = refl
unknown_cuts (p ∷ ps) = omega (arith, unknown_cuts ps)

-- the places are no deeper than the cuts so far
abbrev AllShallow : ℕ → List Place → Type 0
AllShallow n [] = Unit {0}
AllShallow n (p ∷ ps) = (length p.above ≤ n) × AllShallow n ps

unknown_depth : (n : ℕ) (places : List Place) → AllShallow n places → depth_all places (unknown_trees places) ≤ n
unknown_depth n [] h = omega arith
unknown_depth n (p ∷ ps) h = omega (arith, h.0, unknown_depth n ps h.1)

module _ (choose : ℕ → List Pair → Cut) (cuts : ℕ) (flat : Flat) (s : State) (small : cuts ≤ 1000000) where
  abbrev rules : List Rule
  rules = flat.rules

  abbrev root : List Pair
  root = flat.bounds.pairs

  untried_long : (boxes : List (List Pair)) (ds : List Decision) → length (untried boxes ds) ≡ length ds
  untried_long boxes [] = refl
  untried_long boxes (d ∷ ds) = ap suc (untried_long (take (d.mark + 1) boxes) ds)

  untried_shallow : (n : ℕ) (boxes : List (List Pair)) (marks : List ℕ) (ds : List Decision) → length boxes ≤ n + 1 → AllStanding rules root boxes marks ds → AllShallow n (untried boxes ds)
  untried_shallow n boxes marks [] h standing = tt
  untried_shallow n boxes marks (d ∷ ds) h standing =
      let mark = standing.0.mark in
      let long : length (take (d.mark + 1) boxes) ≡ d.mark + 1 = length-take-le (d.mark + 1) boxes (omega arith) in
      (omega arith, untried_shallow n (take (d.mark + 1) boxes) (take d.marked marks) ds (omega arith) standing.1)

  -- ---- the present box and all parts that are left are open

  pub record Stopped : Type 0 where
    pub tree : Tree
    pub guided : IsGuided choose flat (claim_of flat true s.deepest (s.out ++ unknown_lines (1 + length s.decisions)) s.picked) tree
    pub cuts_are : cuts_of tree ≡ s.made
    pub room : s.deepest ≡ depth_of tree
    pub ends_at : EndsAt (last_of s.boxes) root tree
    pub way : s.boxes ≡ way_down root tree

  module _ (h : IsSearching choose flat cuts s) where
    abbrev box : List Pair
    box = last_of s.boxes

    pub stopped : Stopped
    stopped =
        let rest = untried s.boxes s.decisions in
        let places = last_place s.boxes ∷ rest in
        let ts = unknown_trees places in
        let deep = h.deep in
        let shallow : AllShallow s.deepest places = (omega (arith, length_front s.boxes), untried_shallow s.deepest s.boxes s.marks s.decisions h.deep h.standing) in
        let w = h.grown s.deepest ts (omega arith) (unknowns_accepted choose flat s.deepest places ts (unknown_long places) (unknown_all places)) (unknowns_guided choose flat s.drawn places ts (unknown_all places)) in
        let long : length places ≡ 1 + length s.decisions = omega (arith, untried_long s.boxes s.decisions) in
        let text : s.out ++ unknown_lines (1 + length s.decisions) ≡ lines_of w.tree = ap (λ (ls : List Line). s.out ++ ls) (sym (unknown_text places (1 + length s.decisions) long)) ∙ sym w.lines in
        record {
          tree = w.tree;
          guided = accepted_as choose flat s.out s.picked s.made s.drawn s.deepest places ts true (s.out ++ unknown_lines (1 + length s.decisions)) w text (unknown_picks places) (sym w.opens) (omega (arith, h.few_deep, h.few_cuts));
          cuts_are = omega (arith, w.cuts, unknown_cuts places);
          room = omega (arith, w.depth, unknown_depth s.deepest places shallow);
          ends_at = w.ends box (inr ((refl, refl), unknown_all rest));
          way = sym (w.way refl ∙ front_last s.boxes [] h.some);
        }

    -- each rule with a dead end waits
    pub dead_ends_wait : DeadEndsWait rules box s.queue
    dead_ends_wait k rule is side slot d = by_test (is_in k s.queue) refl
      where
        by_test : (b : Bool) → is_in k s.queue ≡ b → b ≡ true
        by_test true e = refl
        by_test false e = absurd ((h.lively k rule is e).no_dead_end side slot d)

    -- all cuts are made, and some are wanted
    pub undecided : s.made ≡ cuts → (slot : ℕ) → low_at box slot <ℤ high_at box slot → NoneFalse box rules
        → IsUndecidedAnswer choose cuts flat (claim_of flat true s.deepest (s.out ++ unknown_lines (1 + length s.decisions)) s.picked) s.boxes s.queue
    undecided all slot wide none = let t = stopped in record {
      tree = t.tree;
      spent = record { guided = t.guided; cuts_are = t.cuts_are ∙ all; ends_at = t.ends_at; two_points = (slot, wide); none_false = none };
      room = t.room;
      few_picks = h.few_picks;
      trail = t.way;
      ring = dead_ends_wait;
    }

    -- no rule waits, and the present box has one point
    module _ (empty : s.queue ≡ []) (one : IsOnePoint box) where
      abbrev values : List ℤ
      values = lows box

      of_present : IsPointOf box values
      of_present = record {
        as_long = length_lows box;
        above = λ slot. omega (arith, ints, value_lows box slot);
        below = λ slot. omega (arith, ints, value_lows box slot, one.same slot);
      }

      lively : IsLively rules box []
      lively = subst (IsLively rules box) empty h.lively

      says_true : (rule : Rule) (v : Verdict) → verdict_of box rule ≡ v → v ≢ False → v ≢ Open → verdict_of box rule ≡ True
      says_true rule True is f o = is
      says_true rule False is f o = absurd (f refl)
      says_true rule Open is f o = absurd (o refl)

      met_here : (k : ℕ) (rule : Rule) → slice_get rules k ≡ Some rule → true_at values rule ≡ true
      met_here k rule is =
          true_everywhere box rule (says_true rule (verdict_of box rule) refl (lively k rule is refl).not_false (one_point_settles box rule one)) values of_present

      met_all : (rs : List Rule) → ((k : ℕ) (rule : Rule) → slice_get rs k ≡ Some rule → true_at values rule ≡ true) → Meets values rs
      met_all [] each = tt
      met_all (r ∷ rs) each = (each zero r refl, met_all rs (λ k rule is. each (suc k) rule is))

      pub point : IsPointAnswer choose cuts flat values s.boxes s.queue
      point = let t = stopped in record {
        of_box = point_around box root values h.inside of_present;
        meets = met_all rules met_here;
        claim = claim_of flat true s.deepest (s.out ++ unknown_lines (1 + length s.decisions)) s.picked;
        tree = t.tree;
        reached = record {
          guided = t.guided;
          cuts_are = omega (arith, t.cuts_are, h.few_cuts);
          ends_at = subst (λ (b : List Pair). EndsAt b root t.tree) (one_point_box box one) t.ends_at;
        };
        trail = t.way;
        ring = empty;
      }

  -- ---- the present box is closed, and no part is left

  root_alone : (boxes : List (List Pair)) → 0 < length boxes → get_or boxes 0 [] ≡ root → take 1 boxes ≡ root ∷ []
  root_alone [] some is = absurd (omega arith)
  root_alone (b ∷ bs) some is = ap (λ (e : List Pair). e ∷ []) is

  pub refuted : IsClosed choose flat cuts s → s.decisions ≡ [] → IsRefutedAnswer choose cuts flat (claim_of flat false s.deepest s.out s.picked) (take 1 s.boxes)
  refuted h none =
      let grown : Grown choose flat s.out s.picked s.made s.drawn s.deepest [] = subst (λ (ds : List Decision). Grown choose flat s.out s.picked s.made s.drawn s.deepest (untried s.boxes ds)) none h.grown in
      let w = grown s.deepest [] (omega arith) tt tt in
      record {
        tree = w.tree;
        refutation = record {
          guided = accepted_as choose flat s.out s.picked s.made s.drawn s.deepest [] [] false s.out w (sym (w.lines ∙ append-nil s.out)) refl (sym w.opens) (omega (arith, h.few_deep, h.few_cuts));
          closed = w.opens;
        };
        cuts_are = omega (arith, w.cuts, h.few_cuts);
        room = omega (arith, w.depth);
        few_picks = h.few_picks;
        trail = root_alone s.boxes h.some h.root_is;
      }
