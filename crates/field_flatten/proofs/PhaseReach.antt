-- The rule of a phase fits.
use Rattle.std.proofs.Common.{◌≡◌, ℕ, suc, ◌+◌, ◌≤◌, refl, sym, subst, inl, inr, List, [], ◌∷◌, ◌++◌, length, map, true, arith}
use Rattle.std.specs.Prelude.{pos, nat_eq}
use Rattle.std.specs.List.{list_all}
use Rattle.std.proofs.lemmas.Int.{ints}
use Rattle.osc_base.specs.declared.path.Path.{Path}
use Rattle.osc_base.specs.declared.listing.SlotName.{SlotName}
use Rattle.osc_base.specs.Paths.{same_path}
use Rattle.box_eval.specs.declared.bounds.Pair.{Pair}
use Rattle.box_eval.specs.FlatRules.{FlatTerm, FlatRule, Whole, Slot, Equal, AtMost, Below, any_of}
use Rattle.composition.specs.declared.guard.Guard.{Guard}
use Rattle.composition.specs.declared.spot.PhaseSpot.{PhaseSpot}
use Rattle.composition.specs.declared.spot.PhaseKind.{PhaseKind}
use Rattle.composition.specs.Scenes.{Scene, guards, has_phase, root_do}
use Rattle.composition.specs.Invariants.{same_guards, is_member, are_choices, are_members}
use Rattle.field_flatten.specs.Shapes.{Layout, phase_start, phase_end}
use Rattle.field_flatten.specs.Rules.{follow_rules, least_rules, greatest_rules, together_rules, overlap_rules, starts, ends, cover_rules, span_rule, chosen_rules, kind_rules, root_do_rules}
use Rattle.field_flatten.proofs.Tests.{left_of, right_of, two_ways, number_is, In, in_either, map_in, flat_map_in, all_at}
use Rattle.field_flatten.proofs.Fitting.{Fits, RuleFits, AllRules, whole_fits, equal_fits, at_most_fits, below_fits, both_fits, any_fits, under_fits}

-- each member of a phase is a phase
module _ (scene : Scene) where
  choice_known : (whole : Path) (conditions : List Guard) (k : ℕ) (members : List Path) → are_choices scene whole conditions k members ≡ true → (m : Path) → In m members → has_phase scene m ≡ true
  choice_known whole conditions k [] h m i = absurd i
  choice_known whole conditions k (n ∷ ns) h m (inl e) =
      let is = left_of (is_member scene (conditions ++ Guard.Choice whole k ∷ []) n) (are_choices scene whole conditions (k + 1) ns) h in
      subst (λ p. has_phase scene p ≡ true) (sym e) (left_of (has_phase scene n) (same_guards (guards scene n) (conditions ++ Guard.Choice whole k ∷ [])) is)
  choice_known whole conditions k (n ∷ ns) h m (inr i) = choice_known whole conditions (k + 1) ns (right_of (is_member scene (conditions ++ Guard.Choice whole k ∷ []) n) (are_choices scene whole conditions (k + 1) ns) h) m i

  no_members : (xs : List Path) → nat_eq (length xs) 0 ≡ true → (m : Path) → In m xs → ⊥
  no_members [] h m i = i
  no_members (x ∷ xs) h m i = let e : suc (length xs) ≡ 0 = number_is (suc (length xs)) 0 h in absurd (omega arith)

  pub member_known : (kind : PhaseKind) (p : PhaseSpot) → are_members scene p kind ≡ true → (m : Path) → In m p.members → has_phase scene m ≡ true
  member_known kind p h m i = by kind h
    where
      all : list_all (is_member scene (guards scene p.path)) p.members ≡ true → has_phase scene m ≡ true
      all f = left_of (has_phase scene m) (same_guards (guards scene m) (guards scene p.path)) (all_at (is_member scene (guards scene p.path)) p.members f m i)

      by : (k : PhaseKind) → are_members scene p k ≡ true → has_phase scene m ≡ true
      by PhaseKind.Serial f = all f
      by PhaseKind.Start f = all f
      by PhaseKind.End f = all f
      by PhaseKind.Equal f = all f
      by PhaseKind.Any f = all f
      by PhaseKind.OneOf f = choice_known p.path (guards scene p.path) 0 p.members f m i
      by PhaseKind.Scenario f = all f
      by PhaseKind.Action f = absurd (no_members p.members f m i)
      by PhaseKind.Wait f = absurd (no_members p.members f m i)

module _ (box : List Pair) (most t : ℕ) (at : Layout) where
  abbrev Fit : FlatRule → Type 0
  Fit rule = RuleFits box most rule

  abbrev AllFit : List FlatRule → Type 0
  AllFit rules = AllRules box most rules

  abbrev AllTerms : List FlatTerm → Type 0
  AllTerms terms = (x : FlatTerm) → In x terms → Fits box most x t

  pub appended : (xs ys : List FlatRule) → AllFit xs → AllFit ys → AllFit (xs ++ ys)
  appended xs ys f g r i = elim (in_either r xs ys i) as (λ _. Fit r) [ inl j ↦ f r j | inr j ↦ g r j ]

  pub single : (r : FlatRule) → Fit r → AllFit (r ∷ [])
  single r f s (inl e) = subst Fit (sym e) f
  single r f s (inr i) = absurd i

  pub mapped : {A : Type 0} (make : A → FlatRule) (xs : List A) → ((x : A) → In x xs → Fit (make x)) → AllFit (map make xs)
  mapped make xs f r i = let m = map_in make xs r i in subst Fit (sym m.2) (f m.0 m.1)

  -- a path whose ticks fit
  pub record Timed (path : Path) : Type 0 where
    pub start : Fits box most (phase_start at path) t
    pub end : Fits box most (phase_end at path) t

  abbrev pub AllTimed : List Path → Type 0
  AllTimed members = (m : Path) → In m members → Timed m

  follow_fit : (from to : FlatTerm) (members : List Path) → Fits box most from t → Fits box most to t → AllTimed members → AllFit (follow_rules at from to members)
  follow_fit from to [] f g h r i = single (Equal from to) (equal_fits box most from to t t f g) r i
  follow_fit from to (m ∷ ms) f g h r (inl e) = subst Fit (sym e) (equal_fits box most from (phase_start at m) t t f (h m (inl refl)).start)
  follow_fit from to (m ∷ ms) f g h r (inr i) = follow_fit (phase_end at m) to ms (h m (inl refl)).end g (λ n j. h n (inr j)) r i

  least_fit : (tick : FlatTerm) (ticks : List FlatTerm) → Fits box most tick t → AllTerms ticks → AllFit (least_rules tick ticks)
  least_fit tick ticks f g = appended (map (λ x. AtMost tick x) ticks) (any_of (map (λ x. Equal x tick) ticks) ∷ [])
      (mapped (λ x. AtMost tick x) ticks (λ x i. at_most_fits box most tick x t t f (g x i)))
      (single (any_of (map (λ x. Equal x tick) ticks)) (any_fits box most (map (λ x. Equal x tick) ticks) (mapped (λ x. Equal x tick) ticks (λ x i. equal_fits box most x tick t t (g x i) f))))

  greatest_fit : (tick : FlatTerm) (ticks : List FlatTerm) → Fits box most tick t → AllTerms ticks → AllFit (greatest_rules tick ticks)
  greatest_fit tick ticks f g = appended (map (λ x. AtMost x tick) ticks) (any_of (map (λ x. Equal x tick) ticks) ∷ [])
      (mapped (λ x. AtMost x tick) ticks (λ x i. at_most_fits box most x tick t t (g x i) f))
      (single (any_of (map (λ x. Equal x tick) ticks)) (any_fits box most (map (λ x. Equal x tick) ticks) (mapped (λ x. Equal x tick) ticks (λ x i. equal_fits box most x tick t t (g x i) f))))

  together_fit : (tick : FlatTerm) (ticks : List FlatTerm) → Fits box most tick t → AllTerms ticks → AllFit (together_rules tick ticks)
  together_fit tick [] f g = single (any_of []) (any_fits box most [] (λ r i. absurd i))
  together_fit tick (x ∷ xs) f g = mapped (λ y. Equal y tick) (x ∷ xs) (λ y i. equal_fits box most y tick t t (g y i) f)

  overlap_fit : (from to : List FlatTerm) → AllTerms from → AllTerms to → AllFit (overlap_rules from to)
  overlap_fit from to f g r i = let s = flat_map_in (λ s. map (λ e. AtMost s e) to) from r i in mapped (λ e. AtMost s.0 e) to (λ e j. at_most_fits box most s.0 e t t (f s.0 s.1) (g e j)) r s.2

  starts_fit : (members : List Path) → AllTimed members → AllTerms (starts at members)
  starts_fit members h x i = let m = map_in (phase_start at) members x i in subst (λ y. Fits box most y t) (sym m.2) (h m.0 m.1).start

  ends_fit : (members : List Path) → AllTimed members → AllTerms (ends at members)
  ends_fit members h x i = let m = map_in (phase_end at) members x i in subst (λ y. Fits box most y t) (sym m.2) (h m.0 m.1).end

  first_fit : (path : Path) (members : List Path) → Timed path → AllTimed members → AllFit (least_rules (phase_start at path) (starts at members))
  first_fit path members w h = least_fit (phase_start at path) (starts at members) w.start (starts_fit members h)

  last_fit : (path : Path) (members : List Path) → Timed path → AllTimed members → AllFit (greatest_rules (phase_end at path) (ends at members))
  last_fit path members w h = greatest_fit (phase_end at path) (ends at members) w.end (ends_fit members h)

  same_start_fit : (path : Path) (members : List Path) → Timed path → AllTimed members → AllFit (together_rules (phase_start at path) (starts at members))
  same_start_fit path members w h = together_fit (phase_start at path) (starts at members) w.start (starts_fit members h)

  same_end_fit : (path : Path) (members : List Path) → Timed path → AllTimed members → AllFit (together_rules (phase_end at path) (ends at members))
  same_end_fit path members w h = together_fit (phase_end at path) (ends at members) w.end (ends_fit members h)

  cover_fit : (path : Path) (members : List Path) → Timed path → AllTimed members → AllFit (cover_rules at path members)
  cover_fit path members w h =
      appended (least_rules (phase_start at path) (starts at members)) (greatest_rules (phase_end at path) (ends at members)) (first_fit path members w h) (last_fit path members w h)

  span_fits : (a b : Path) → Timed a → Timed b → Fit (span_rule at a b)
  span_fits a b f g = both_fits box most (Equal (phase_start at a) (phase_start at b)) (Equal (phase_end at a) (phase_end at b))
      (equal_fits box most (phase_start at a) (phase_start at b) t t f.start g.start) (equal_fits box most (phase_end at a) (phase_end at b) t t f.end g.end)

  module _ (n : ℕ) (small : n ≤ most) where
    chosen_fit : (path : Path) (k : ℕ) (members : List Path) → k + length members ≤ n → Fits box most (Slot (at.slot (SlotName.Choice path))) n → Timed path → AllTimed members → AllFit (chosen_rules at path k members)
    chosen_fit path k [] few c w h r i = absurd i
    chosen_fit path k (m ∷ ms) few c w h r (inl e) = subst Fit (sym e)
        (under_fits box most (Equal (Slot (at.slot (SlotName.Choice path))) (Whole (pos k)) ∷ []) (span_rule at m path)
        (single (Equal (Slot (at.slot (SlotName.Choice path))) (Whole (pos k))) (equal_fits box most (Slot (at.slot (SlotName.Choice path))) (Whole (pos k)) n n c (whole_fits box most (pos k) n (omega (arith, ints)) small)))
        (span_fits m path (h m (inl refl)) w))
    chosen_fit path k (m ∷ ms) few c w h r (inr i) = chosen_fit path (k + 1) ms (omega arith) c w (λ x j. h x (inr j)) r i

    pub kind_fit : (kind : PhaseKind) (path : Path) (members : List Path) → length members ≤ n → (kind ≡ PhaseKind.OneOf → Fits box most (Slot (at.slot (SlotName.Choice path))) n) → Timed path → AllTimed members → AllFit (kind_rules kind at path members)
    kind_fit PhaseKind.Serial path members few c w h = follow_fit (phase_start at path) (phase_end at path) members w.start w.end h
    kind_fit PhaseKind.Start path members few c w h =
        appended (together_rules (phase_start at path) (starts at members)) (greatest_rules (phase_end at path) (ends at members)) (same_start_fit path members w h) (last_fit path members w h)
    kind_fit PhaseKind.End path members few c w h =
        appended (least_rules (phase_start at path) (starts at members)) (together_rules (phase_end at path) (ends at members)) (first_fit path members w h) (same_end_fit path members w h)
    kind_fit PhaseKind.Equal path members few c w h =
        appended (together_rules (phase_start at path) (starts at members)) (together_rules (phase_end at path) (ends at members)) (same_start_fit path members w h) (same_end_fit path members w h)
    kind_fit PhaseKind.Any path members few c w h = appended (cover_rules at path members) (overlap_rules (starts at members) (ends at members)) (cover_fit path members w h)
        (overlap_fit (starts at members) (ends at members) (starts_fit members h) (ends_fit members h))
    kind_fit PhaseKind.OneOf path members few c w h = chosen_fit path 0 members (omega arith) (c refl) w h
    kind_fit PhaseKind.Scenario path members few c w h = mapped (λ m. span_rule at m path) members (λ m i. span_fits m path (h m i) w)
    kind_fit PhaseKind.Action path members few c w h = single (Below (phase_start at path) (phase_end at path)) (below_fits box most (phase_start at path) (phase_end at path) t t w.start w.end)
    kind_fit PhaseKind.Wait path members few c w h = λ r i. absurd i

  pub root_do_fit : (path : Path) → Timed path → AllFit (root_do_rules at path)
  root_do_fit path w = two_ways (same_path path root_do)
      (λ e. rw e (single (Equal (phase_start at path) (Whole (pos 0))) (equal_fits box most (phase_start at path) (Whole (pos 0)) t 0 w.start (whole_fits box most (pos 0) 0 (omega (arith, ints)) (omega arith)))))
      (λ e. rw e (λ r i. absurd i))
