-- The rules of runs that were found say that a run has other choices.
use Rattle.std.proofs.Common.{◌≡◌, ◌∙◌, ℕ, refl, sym, ap, ap₂, subst, arith, List, [], ◌∷◌, Bool, true, false, not, ◌&&◌, ◌||◌, Option, Some, None, map, true≢false}
use Rattle.std.specs.Prelude.{ℤ, pos, nat_eq, filter, option_map, unsigned_abs, ◌≤ℤ◌}
use Rattle.std.specs.Option.{option_map_or}
use Rattle.std.specs.List.{list_any, list_all}
use Rattle.std.proofs.lemmas.Int.{ints}
use Rattle.osc_base.specs.declared.path.Path.{Path}
use Rattle.osc_base.specs.declared.listing.SlotName.{SlotName}
use Rattle.osc_base.specs.Paths.{same_path}
use Rattle.box_eval.specs.Truth.{is_same}
use Rattle.box_eval.specs.FlatRules.{FlatRule, Slot, Whole, Equal, Always, Not, holds_at, all_of}
use Rattle.field_flatten.specs.composition.declared.run.Choice.{Choice}
use Rattle.field_flatten.specs.composition.declared.spot.ChoiceSpot.{ChoiceSpot}
use Rattle.field_flatten.specs.composition.Scenes.{Scene, choices}
use Rattle.field_flatten.specs.composition.Invariants.{are_distinct}
use Rattle.field_flatten.specs.Points.{slot_value, stands, choice_of, run_named}
use Rattle.field_flatten.specs.Rules.{layout}
use Rattle.field_flatten.proofs.Tests.{left_of, right_of, two_ways, path_is, path_self, all_map, all_same}
use Rattle.field_flatten.proofs.JoinedRows.{all_holds}
use Rattle.field_flatten.proofs.SlotLaw.{Inside, point_inside, choice_above}
use Rattle.asked_forms.specs.Suites.{same_choices, has_other, there, choice_parts, other_rule, PastRulesSay}
use Rattle.asked_forms.proofs.Truths.{there_truth}

not_false : (b : Bool) → not b ≡ true → b ≡ false
not_false true h = absurd (true≢false (sym h))
not_false false h = refl

and_false : (a : Bool) → a && false ≡ false
and_false true = refl
and_false false = refl

-- paths are the same either way
path_swap : (p q : Path) (b : Bool) → same_path p q ≡ b → same_path q p ≡ b
path_swap p q true h = subst (λ r. same_path r p ≡ true) (path_is p q h) (path_self p)
path_swap p q false h = two_ways (same_path q p) (λ e. absurd (true≢false (sym (subst (λ r. same_path r q ≡ true) (path_is q p e) (path_self q)) ∙ h))) (λ e. e)

module _ (scene : Scene) (point : List ℤ) (inside : Inside scene (slot_value scene point)) where
  abbrev at : SlotName → ℤ
  at = slot_value scene point

  -- the parts are there, and each holds
  abbrev all_hold : Option (List FlatRule) → Bool
  all_hold parts = option_map_or (list_all (holds_at point)) parts false

  abbrev here : List ChoiceSpot → List Choice
  here ss = map (λ (c : ChoiceSpot). choice_of at c.path) (filter (λ (c : ChoiceSpot). stands scene at c.path) ss)

  abbrev paths_of : List ChoiceSpot → List Path
  paths_of ss = map (λ (s : ChoiceSpot). s.path) ss

  -- the rule of a chosen member
  abbrev member_rule : Path → ℕ → FlatRule
  member_rule path member = Equal (Slot ((layout scene).slot (SlotName.Choice path))) (Whole (pos member))

  member_truth : (path : Path) (member : ℕ) → holds_at point (member_rule path member) ≡ nat_eq (unsigned_abs (at (SlotName.Choice path))) member
  member_truth path member = numbers (at (SlotName.Choice path)) member (choice_above scene at inside path)
    where
      numbers : (z : ℤ) (n : ℕ) → pos 0 ≤ℤ z → is_same z (pos n) ≡ nat_eq (unsigned_abs z) n
      numbers z n h = grind (arith, ints, h)

  one_more : (rule : FlatRule) (truth : Bool) (o : Option (List FlatRule)) → holds_at point rule ≡ truth → all_hold (option_map (λ later. rule ∷ later) o) ≡ truth && all_hold o
  one_more rule truth None e = sym (and_false truth)
  one_more rule truth (Some ps) e = ap (λ b. b && list_all (holds_at point) ps) e

  two_more : (rule other : FlatRule) (truth next : Bool) (o : Option (List FlatRule)) → holds_at point rule ≡ truth → holds_at point other ≡ next
      → all_hold (option_map (λ later. rule ∷ other ∷ later) o) ≡ truth && (next && all_hold o)
  two_more rule other truth next None e f = sym (ap (λ b. truth && b) (and_false next) ∙ and_false truth)
  two_more rule other truth next (Some ps) e f = ap₂ (λ b c. b && (c && list_all (holds_at point) ps)) e f

  -- a path that no choice has begins no list of those that are there
  absent : (ss : List ChoiceSpot) (c : Choice) (cs : List Choice) → list_any (same_path c.path) (paths_of ss) ≡ false → same_choices (here ss) (c ∷ cs) ≡ false
  absent [] c cs h = refl
  absent (s ∷ ss) c cs h = two_ways (stands scene at s.path)
      (λ e. rw (e, path_swap c.path s.path false first, and_false (nat_eq (unsigned_abs (at (SlotName.Choice s.path))) c.member)) refl)
      (λ e. rw e (absent ss c cs rest))
    where
      first_of : (a b : Bool) → a || b ≡ false → a ≡ false
      first_of true b k = absurd (true≢false k)
      first_of false b k = refl

      rest_of : (a b : Bool) → a || b ≡ false → b ≡ false
      rest_of true b k = absurd (true≢false k)
      rest_of false b k = k

      first : same_path c.path s.path ≡ false
      first = first_of (same_path c.path s.path) (list_any (same_path c.path) (paths_of ss)) h

      rest : list_any (same_path c.path) (paths_of ss) ≡ false
      rest = rest_of (same_path c.path s.path) (list_any (same_path c.path) (paths_of ss)) h

  -- the parts hold exactly if the choices that are there are those
  walk : (ss : List ChoiceSpot) (cs : List Choice) → are_distinct (paths_of ss) ≡ true → all_hold (choice_parts scene (layout scene) ss cs) ≡ same_choices (here ss) cs
  walk [] [] d = refl
  walk [] (c ∷ cs) d = refl
  walk (s ∷ ss) [] d =
      one_more (Not (there scene (layout scene) s.path)) (not (stands scene at s.path)) (choice_parts scene (layout scene) ss []) (ap not (there_truth scene point s.path))
      ∙ two_ways (stands scene at s.path)
      (λ e. rw e refl)
      (λ e. rw e (walk ss [] (right_of (not (list_any (same_path s.path) (paths_of ss))) (are_distinct (paths_of ss)) d)))
  walk (s ∷ ss) (c ∷ cs) d = two_ways (same_path s.path c.path)
      (λ e. rw e (two_more (there scene (layout scene) s.path) (member_rule s.path c.member) (stands scene at s.path) (nat_eq (unsigned_abs (at (SlotName.Choice s.path))) c.member) (choice_parts scene (layout scene) ss cs)
      (there_truth scene point s.path) (member_truth s.path c.member)
      ∙ two_ways (stands scene at s.path)
      (λ f. rw (f, e, walk ss cs later) (one (nat_eq (unsigned_abs (at (SlotName.Choice s.path))) c.member) (same_choices (here ss) cs)))
      (λ f. rw f (sym (absent ss c cs (subst (λ p. list_any (same_path p) (paths_of ss) ≡ false) (path_is s.path c.path e) fresh))))))
      (λ e. rw e (one_more (Not (there scene (layout scene) s.path)) (not (stands scene at s.path)) (choice_parts scene (layout scene) ss (c ∷ cs)) (ap not (there_truth scene point s.path))
      ∙ two_ways (stands scene at s.path)
      (λ f. rw (f, e, and_false (nat_eq (unsigned_abs (at (SlotName.Choice s.path))) c.member)) refl)
      (λ f. rw f (walk ss (c ∷ cs) later))))
    where
      later : are_distinct (paths_of ss) ≡ true
      later = right_of (not (list_any (same_path s.path) (paths_of ss))) (are_distinct (paths_of ss)) d

      fresh : list_any (same_path s.path) (paths_of ss) ≡ false
      fresh = not_false (list_any (same_path s.path) (paths_of ss)) (left_of (not (list_any (same_path s.path) (paths_of ss))) (are_distinct (paths_of ss)) d)

      one : (a b : Bool) → a && b ≡ (a && true) && b
      one true b = refl
      one false b = refl

  other_truth : (cs : List Choice) → are_distinct (map (λ (s : ChoiceSpot). s.path) (choices scene)) ≡ true
      → holds_at point (other_rule scene (layout scene) cs) ≡ has_other cs (run_named scene at)
  other_truth cs d = by (choice_parts scene (layout scene) (choices scene) cs) ∙ ap not (walk (choices scene) cs d)
    where
      by : (o : Option (List FlatRule)) → holds_at point (option_map_or (λ parts. Not (all_of parts)) o Always) ≡ not (all_hold o)
      by None = refl
      by (Some parts) = ap not (all_holds point parts)

pub past_say : PastRulesSay
past_say scene past expanded point p soft =
    all_map (holds_at point) (other_rule scene (layout scene)) past
    ∙ all_same (λ cs. holds_at point (other_rule scene (layout scene) cs)) (λ cs. has_other cs (run_named scene (slot_value scene point))) past
    (λ cs i. other_truth scene point (point_inside scene point p) cs expanded.is_scene.choices_distinct)
