-- Phases: the rule is true at a point exactly if the phase is arranged in the point's run.
use Rattle.std.proofs.Common.{◌≡◌, ℕ, ◌+◌, refl, sym, ap, ap₂, ◌∙◌, subst, inl, inr, List, [], ◌∷◌, ◌++◌, Bool, true, false, ◌&&◌, ◌||◌, not, map, arith, true≢false}
use Rattle.std.specs.Prelude.{ℤ, pos, int_le, int_lt}
use Rattle.std.specs.List.{list_any, list_all}
use Rattle.std.proofs.lemmas.Int.{ints}
use Rattle.osc_base.specs.declared.path.Path.{Path}
use Rattle.osc_base.specs.declared.listing.SlotName.{SlotName}
use Rattle.osc_base.specs.Comparisons.{same_number}
use Rattle.osc_base.specs.Paths.{same_path}
use Rattle.box_eval.specs.Box.{value_of}
use Rattle.box_eval.specs.FlatRules.{FlatTerm, FlatRule, Equal, AtMost, Slot, Whole, worth_at, holds_at, any_of}
use Rattle.composition.specs.declared.guard.Guard.{Guard}
use Rattle.composition.specs.declared.spot.PhaseSpot.{PhaseSpot}
use Rattle.composition.specs.declared.spot.PhaseKind.{PhaseKind}
use Rattle.composition.specs.Scenes.{root_do}
use Rattle.composition.specs.There.{same_guard}
use Rattle.composition.specs.Arrangement.{Times, same_span, follow, is_least, is_greatest, all_same, overlap, starts_of, ends_of, covers, chosen_spans, by_kind, arranged}
use Rattle.composition.specs.Invariants.{same_guards}
use Rattle.field_flatten.specs.Shapes.{Layout, phase_start, phase_end}
use Rattle.field_flatten.specs.Rules.{follow_rules, least_rules, greatest_rules, together_rules, overlap_rules, starts, ends, cover_rules, span_rule, chosen_rules, kind_rules, root_do_rules}
use Rattle.field_flatten.proofs.Tests.{left_of, right_of, both, same_truth, two_ways, under_one, In, all_at, all_from, any_at, any_from, all_append, all_map, any_map, map_same}
use Rattle.field_flatten.proofs.Tests as T
use Rattle.field_flatten.proofs.JoinedRows.{any_holds, under_holds}
use Rattle.field_flatten.proofs.Presence.{same_number_is, same_number_self, guard_is}

pub and_unit : (b : Bool) → (b && true) ≡ b
and_unit true = refl
and_unit false = refl

pub and_assoc : (a b c : Bool) → ((a && b) && c) ≡ (a && (b && c))
and_assoc true b c = refl
and_assoc false b c = refl

and_swap : (a b c : Bool) → ((a && b) && c) ≡ ((a && c) && b)
and_swap false b c = refl
and_swap true true c = sym (and_unit c)
and_swap true false true = refl
and_swap true false false = refl

and_cross : (a b c d : Bool) → ((a && b) && (c && d)) ≡ ((a && c) && (b && d))
and_cross false b c d = refl
and_cross true true c d = refl
and_cross true false true d = refl
and_cross true false false d = refl

pub under_each : {A : Type 0} (b : Bool) (f : A → Bool) (xs : List A) → list_all (λ x. not b || f x) xs ≡ not b || list_all f xs
under_each true f xs = refl
under_each false f [] = refl
under_each false f (x ∷ xs) = under_each false f xs

pub guards_are : (xs ys : List Guard) → same_guards xs ys ≡ true → xs ≡ ys
guards_are [] [] h = refl
guards_are [] (y ∷ ys) h = absurd (true≢false (sym h))
guards_are (x ∷ xs) [] h = absurd (true≢false (sym h))
guards_are (x ∷ xs) (y ∷ ys) h = ap₂ (◌∷◌) (guard_is x y (left_of (same_guard x y) (same_guards xs ys) h)) (guards_are xs ys (right_of (same_guard x y) (same_guards xs ys) h))

-- ---- rows of ticks

-- there are ticks in a row, and each is one tick
abbrev is_together : ℤ → List ℤ → Bool
is_together tick [] = false
is_together tick (t ∷ ts) = list_all (λ u. same_number u tick) (t ∷ ts)

le_self : (z : ℤ) → int_le z z ≡ true
le_self z = grind (arith, ints)

-- if some of a row is a tick, and all are the first, each is that tick
each_is : (tick t : ℤ) (ts : List ℤ) → list_any (λ u. same_number u tick) (t ∷ ts) ≡ true → list_all (same_number t) ts ≡ true → (v : ℤ) → In v (t ∷ ts) → v ≡ tick
each_is tick t ts some same v i =
    let a = any_at (λ u. same_number u tick) (t ∷ ts) some in
    is_first v i ∙ sym (is_first a.0 a.1) ∙ same_number_is a.0 tick a.2
  where
    is_first : (w : ℤ) → In w (t ∷ ts) → w ≡ t
    is_first w (inl e) = e
    is_first w (inr j) = sym (same_number_is t w (all_at (same_number t) ts same w j))

-- each of a row is a tick exactly if that tick is an end of the row and all are the same
module _ (test : ℤ → Bool) (tick : ℤ) (own : test tick ≡ true) where
  abbrev is_tick : ℤ → Bool
  is_tick u = same_number u tick

  from_each : (t : ℤ) (ts : List ℤ) → list_all is_tick (t ∷ ts) ≡ true → (list_all test (t ∷ ts) && list_any is_tick (t ∷ ts)) && list_all (same_number t) ts ≡ true
  from_each t ts h =
      both (list_all test (t ∷ ts) && list_any is_tick (t ∷ ts)) (list_all (same_number t) ts)
      (both (list_all test (t ∷ ts)) (list_any is_tick (t ∷ ts)) (all_from test (t ∷ ts) (λ u i. subst (λ z. test z ≡ true) (sym (each u i)) own))
      (any_from is_tick (t ∷ ts) t (inl refl) (all_at is_tick (t ∷ ts) h t (inl refl))))
      (all_from (same_number t) ts (λ u i. subst (λ z. same_number t z ≡ true) (each t (inl refl) ∙ sym (each u (inr i))) (same_number_self t)))
    where
      each : (u : ℤ) → In u (t ∷ ts) → u ≡ tick
      each u i = same_number_is u tick (all_at is_tick (t ∷ ts) h u i)

  to_each : (t : ℤ) (ts : List ℤ) → (list_all test (t ∷ ts) && list_any is_tick (t ∷ ts)) && list_all (same_number t) ts ≡ true → list_all is_tick (t ∷ ts) ≡ true
  to_each t ts h =
      let end = left_of (list_all test (t ∷ ts) && list_any is_tick (t ∷ ts)) (list_all (same_number t) ts) h in
      let same = right_of (list_all test (t ∷ ts) && list_any is_tick (t ∷ ts)) (list_all (same_number t) ts) h in
      let some = right_of (list_all test (t ∷ ts)) (list_any is_tick (t ∷ ts)) end in
      all_from is_tick (t ∷ ts) (λ u i. subst (λ z. is_tick z ≡ true) (sym (each_is tick t ts some same u i)) (same_number_self tick))

  together_is : (ticks : List ℤ) → is_together tick ticks ≡ ((list_all test ticks && list_any is_tick ticks) && all_same ticks)
  together_is [] = refl
  together_is (t ∷ ts) =
      same_truth (list_all is_tick (t ∷ ts)) ((list_all test (t ∷ ts) && list_any is_tick (t ∷ ts)) && list_all (same_number t) ts) (from_each t ts) (to_each t ts)

-- ---- the parts of a phase's rule, and the times that a point gives

module _ (point : List ℤ) (at : Layout) where
  abbrev pub times_at : Times
  times_at = record {
    start = λ path. value_of point (at.slot (SlotName.Start path));
    end = λ path. value_of point (at.slot (SlotName.End path));
    member = λ path. value_of point (at.slot (SlotName.Choice path));
  }

  abbrev All : List FlatRule → Bool
  All rules = list_all (holds_at point) rules

  follow_holds : (from to : FlatTerm) (members : List Path) → All (follow_rules at from to members) ≡ follow times_at (worth_at point from) (worth_at point to) members
  follow_holds from to [] = and_unit (same_number (worth_at point from) (worth_at point to))
  follow_holds from to (m ∷ ms) = ap (λ b. same_number (worth_at point from) (times_at.start m) && b) (follow_holds (phase_end at m) to ms)

  least_holds : (tick : FlatTerm) (ticks : List FlatTerm) → All (least_rules tick ticks) ≡ is_least (worth_at point tick) (map (worth_at point) ticks)
  least_holds tick ticks =
      all_append (holds_at point) (map (λ t. AtMost tick t) ticks) (any_of (map (λ t. Equal t tick) ticks) ∷ [])
      ∙ ap₂ (◌&&◌) (all_map (holds_at point) (λ t. AtMost tick t) ticks ∙ sym (all_map (int_le (worth_at point tick)) (worth_at point) ticks))
      (and_unit (holds_at point (any_of (map (λ t. Equal t tick) ticks))) ∙ any_holds point (map (λ t. Equal t tick) ticks) ∙ any_map (holds_at point) (λ t. Equal t tick) ticks
      ∙ sym (any_map (λ t. same_number t (worth_at point tick)) (worth_at point) ticks))

  greatest_holds : (tick : FlatTerm) (ticks : List FlatTerm) → All (greatest_rules tick ticks) ≡ is_greatest (worth_at point tick) (map (worth_at point) ticks)
  greatest_holds tick ticks =
      all_append (holds_at point) (map (λ t. AtMost t tick) ticks) (any_of (map (λ t. Equal t tick) ticks) ∷ [])
      ∙ ap₂ (◌&&◌) (all_map (holds_at point) (λ t. AtMost t tick) ticks ∙ sym (all_map (λ t. int_le t (worth_at point tick)) (worth_at point) ticks))
      (and_unit (holds_at point (any_of (map (λ t. Equal t tick) ticks))) ∙ any_holds point (map (λ t. Equal t tick) ticks) ∙ any_map (holds_at point) (λ t. Equal t tick) ticks
      ∙ sym (any_map (λ t. same_number t (worth_at point tick)) (worth_at point) ticks))

  together_holds : (tick : FlatTerm) (ticks : List FlatTerm) → All (together_rules tick ticks) ≡ is_together (worth_at point tick) (map (worth_at point) ticks)
  together_holds tick [] = refl
  together_holds tick (t ∷ ts) = all_map (holds_at point) (λ u. Equal u tick) (t ∷ ts) ∙ sym (all_map (λ u. same_number u (worth_at point tick)) (worth_at point) (t ∷ ts))

  overlap_holds : (from to : List FlatTerm) → All (overlap_rules from to) ≡ overlap (map (worth_at point) from) (map (worth_at point) to)
  overlap_holds [] to = refl
  overlap_holds (s ∷ ss) to =
      all_append (holds_at point) (map (λ e. AtMost s e) to) (overlap_rules ss to)
      ∙ ap₂ (◌&&◌) (all_map (holds_at point) (λ e. AtMost s e) to ∙ sym (all_map (int_le (worth_at point s)) (worth_at point) to)) (overlap_holds ss to)

  starts_at : (members : List Path) → map (worth_at point) (starts at members) ≡ starts_of times_at members
  starts_at [] = refl
  starts_at (m ∷ ms) = ap (λ xs. times_at.start m ∷ xs) (starts_at ms)

  ends_at : (members : List Path) → map (worth_at point) (ends at members) ≡ ends_of times_at members
  ends_at [] = refl
  ends_at (m ∷ ms) = ap (λ xs. times_at.end m ∷ xs) (ends_at ms)

  abbrev first_start : Path → List Path → Bool
  first_start path members = is_least (times_at.start path) (starts_of times_at members)

  abbrev last_end : Path → List Path → Bool
  last_end path members = is_greatest (times_at.end path) (ends_of times_at members)

  first_holds : (path : Path) (members : List Path) → All (least_rules (phase_start at path) (starts at members)) ≡ first_start path members
  first_holds path members = least_holds (phase_start at path) (starts at members) ∙ ap (is_least (times_at.start path)) (starts_at members)

  last_holds : (path : Path) (members : List Path) → All (greatest_rules (phase_end at path) (ends at members)) ≡ last_end path members
  last_holds path members = greatest_holds (phase_end at path) (ends at members) ∙ ap (is_greatest (times_at.end path)) (ends_at members)

  cover_holds : (path : Path) (members : List Path) → All (cover_rules at path members) ≡ covers times_at path members
  cover_holds path members =
      all_append (holds_at point) (least_rules (phase_start at path) (starts at members)) (greatest_rules (phase_end at path) (ends at members))
      ∙ ap₂ (◌&&◌) (first_holds path members) (last_holds path members)

  chosen_holds : (path : Path) (k : ℕ) (members : List Path) → All (chosen_rules at path k members) ≡ chosen_spans times_at path k members
  chosen_holds path k [] = refl
  chosen_holds path k (m ∷ ms) = ap₂ (◌&&◌)
      (under_holds point (Equal (Slot (at.slot (SlotName.Choice path))) (Whole (pos k)) ∷ []) (span_rule at m path)
      ∙ ap (λ b. not b || same_span times_at m path) (and_unit (same_number (times_at.member path) (pos k))))
      (chosen_holds path (k + 1) ms)

  -- all members start with the whole
  starts_hold : (path : Path) (members : List Path) → All (together_rules (phase_start at path) (starts at members)) ≡ (first_start path members && all_same (starts_of times_at members))
  starts_hold path members =
      together_holds (phase_start at path) (starts at members) ∙ ap (is_together (times_at.start path)) (starts_at members)
      ∙ together_is (int_le (times_at.start path)) (times_at.start path) (le_self (times_at.start path)) (starts_of times_at members)

  -- all members end with the whole
  ends_hold : (path : Path) (members : List Path) → All (together_rules (phase_end at path) (ends at members)) ≡ (last_end path members && all_same (ends_of times_at members))
  ends_hold path members =
      together_holds (phase_end at path) (ends at members) ∙ ap (is_together (times_at.end path)) (ends_at members)
      ∙ together_is (λ t. int_le t (times_at.end path)) (times_at.end path) (le_self (times_at.end path)) (ends_of times_at members)

  kind_holds : (kind : PhaseKind) (path : Path) (members : List Path) → All (kind_rules kind at path members) ≡ by_kind kind times_at path members
  kind_holds PhaseKind.Serial path members = follow_holds (phase_start at path) (phase_end at path) members
  kind_holds PhaseKind.Start path members =
      all_append (holds_at point) (together_rules (phase_start at path) (starts at members)) (greatest_rules (phase_end at path) (ends at members))
      ∙ ap₂ (◌&&◌) (starts_hold path members) (last_holds path members)
      ∙ and_swap (first_start path members) (all_same (starts_of times_at members)) (last_end path members)
  kind_holds PhaseKind.End path members =
      all_append (holds_at point) (least_rules (phase_start at path) (starts at members)) (together_rules (phase_end at path) (ends at members))
      ∙ ap₂ (◌&&◌) (first_holds path members) (ends_hold path members)
      ∙ sym (and_assoc (first_start path members) (last_end path members) (all_same (ends_of times_at members)))
  kind_holds PhaseKind.Equal path members =
      all_append (holds_at point) (together_rules (phase_start at path) (starts at members)) (together_rules (phase_end at path) (ends at members))
      ∙ ap₂ (◌&&◌) (starts_hold path members) (ends_hold path members)
      ∙ and_cross (first_start path members) (all_same (starts_of times_at members)) (last_end path members) (all_same (ends_of times_at members))
  kind_holds PhaseKind.Any path members =
      all_append (holds_at point) (cover_rules at path members) (overlap_rules (starts at members) (ends at members))
      ∙ ap₂ (◌&&◌) (cover_holds path members) (overlap_holds (starts at members) (ends at members) ∙ ap₂ overlap (starts_at members) (ends_at members))
  kind_holds PhaseKind.OneOf path members = chosen_holds path 0 members
  kind_holds PhaseKind.Scenario path members = all_map (holds_at point) (λ m. span_rule at m path) members
  kind_holds PhaseKind.Action path members = and_unit (int_lt (times_at.start path) (times_at.end path))
  kind_holds PhaseKind.Wait path members = refl

  root_do_holds : (path : Path) → All (root_do_rules at path) ≡ not (same_path path root_do) || same_number (times_at.start path) (pos 0)
  root_do_holds path = two_ways (same_path path root_do) (λ e. rw e (and_unit (same_number (times_at.start path) (pos 0)))) (λ e. rw e refl)

  pub parts_hold : (phase : PhaseSpot)
      → All (AtMost (phase_start at phase.path) (phase_end at phase.path) ∷ kind_rules phase.kind at phase.path phase.members ++ root_do_rules at phase.path)
      ≡ arranged times_at (same_path phase.path root_do) phase
  parts_hold phase =
      let first = int_le (times_at.start phase.path) (times_at.end phase.path) in
      ap (λ b. first && b) (all_append (holds_at point) (kind_rules phase.kind at phase.path phase.members) (root_do_rules at phase.path)
      ∙ ap₂ (◌&&◌) (kind_holds phase.kind phase.path phase.members) (root_do_holds phase.path))
      ∙ sym (and_assoc first (by_kind phase.kind times_at phase.path phase.members) (not (same_path phase.path root_do) || same_number (times_at.start phase.path) (pos 0)))

-- ---- times that agree

module _ (one other : Times) where
  pub record SameTimes (path : Path) : Type 0 where
    pub start : one.start path ≡ other.start path
    pub end : one.end path ≡ other.end path

  pub span_same : (a b : Path) → SameTimes a → SameTimes b → same_span one a b ≡ same_span other a b
  span_same a b s t = ap₂ (◌&&◌) (ap₂ same_number s.start t.start) (ap₂ same_number s.end t.end)

  abbrev pub AllSame : List Path → Type 0
  AllSame members = (m : Path) → In m members → SameTimes m

  pub follow_same : (from to from' to' : ℤ) (members : List Path) → from ≡ from' → to ≡ to' → AllSame members → follow one from to members ≡ follow other from' to' members
  follow_same from to from' to' [] p q f = ap₂ same_number p q
  follow_same from to from' to' (m ∷ ms) p q f = ap₂ (◌&&◌) (ap₂ same_number p (f m (inl refl)).start)
      (follow_same (one.end m) to (other.end m) to' ms (f m (inl refl)).end q (λ n i. f n (inr i)))

  pub starts_same : (members : List Path) → AllSame members → starts_of one members ≡ starts_of other members
  starts_same members f = map_same one.start other.start members (λ m i. (f m i).start)

  pub ends_same : (members : List Path) → AllSame members → ends_of one members ≡ ends_of other members
  ends_same members f = map_same one.end other.end members (λ m i. (f m i).end)

  pub covers_same : (path : Path) (members : List Path) → SameTimes path → AllSame members → covers one path members ≡ covers other path members
  covers_same path members s f = ap₂ (◌&&◌) (ap₂ is_least s.start (starts_same members f)) (ap₂ is_greatest s.end (ends_same members f))

  -- the members of which a `one_of` asks the span
  abbrev pub ChosenSame : Path → ℕ → List Path → Type 0
  ChosenSame path k [] = Unit {0}
  ChosenSame path k (m ∷ ms) = (same_number (one.member path) (pos k) ≡ true → SameTimes m) × ChosenSame path (k + 1) ms

  pub chosen_same : (path : Path) (k : ℕ) (members : List Path) → one.member path ≡ other.member path → SameTimes path → ChosenSame path k members → chosen_spans one path k members ≡ chosen_spans other path k members
  chosen_same path k [] e s f = refl
  chosen_same path k (m ∷ ms) e s f = ap₂ (◌&&◌)
      (under_one (same_number (one.member path) (pos k)) (same_number (other.member path) (pos k)) (same_span one m path) (same_span other m path) (ap (λ z. same_number z (pos k)) e)
      (λ h. span_same m path (f.0 h) s))
      (chosen_same path (k + 1) ms e s f.1)

  pub all_span_same : (path : Path) (members : List Path) → SameTimes path → AllSame members → list_all (λ m. same_span one m path) members ≡ list_all (λ m. same_span other m path) members
  all_span_same path members s f = T.all_same (λ m. same_span one m path) (λ m. same_span other m path) members (λ m i. span_same m path (f m i) s)
