-- A phase's rule is true at a point exactly if the phase is arranged in the point's run.
use Rattle.std.proofs.Common.{◌≡◌, ℕ, ◌+◌, refl, sym, ap, ap₂, ◌∙◌, subst, List, [], ◌∷◌, ◌++◌, true, ◌&&◌, ◌||◌, not, Some, map, length, arith}
use Rattle.std.specs.Prelude.{ℤ, pos, ◌≤ℤ◌, int_le, int_lt, unsigned_abs}
use Rattle.std.specs.Option.{option_map_or}
use Rattle.std.specs.List.{list_all}
use Rattle.std.proofs.lemmas.Int.{ints}
use Rattle.osc_base.specs.declared.path.Path.{Path}
use Rattle.osc_base.specs.declared.listing.SlotName.{SlotName}
use Rattle.osc_base.specs.Comparisons.{same_number}
use Rattle.osc_base.specs.Paths.{same_path}
use Rattle.box_eval.specs.FlatRules.{FlatRule, AtMost, holds_at, under}
use Rattle.composition.specs.declared.guard.Guard.{Guard}
use Rattle.composition.specs.declared.spot.ChoiceSpot.{ChoiceSpot}
use Rattle.composition.specs.declared.spot.PhaseSpot.{PhaseSpot}
use Rattle.composition.specs.declared.spot.PhaseKind.{PhaseKind}
use Rattle.composition.specs.declared.run.Span.{Span}
use Rattle.composition.specs.declared.run.Run.{Run}
use Rattle.composition.specs.Scenes.{Scene, Spot, Content, Object, Value, Phase, phase_spot, choice_spot, phases, choices, guards, has_phase, root_do}
use Rattle.composition.specs.There.{is_there}
use Rattle.composition.specs.Arrangement.{Times, by_kind, arranged, all_same, overlap}
use Rattle.composition.specs.Items.{times_of, arranged_holds}
use Rattle.composition.specs.Invariants.{same_guards, is_member, are_choices, are_members}
use Rattle.field_flatten.specs.Shapes.{Layout, phase_start, phase_end}
use Rattle.field_flatten.specs.Points.{is_held, stands}
use Rattle.field_flatten.specs.Rules.{presence_rules, kind_rules, root_do_rules, arranged_rule}
use Rattle.field_flatten.specs.Exactness.{IsExpanded}
use Rattle.field_flatten.proofs.Tests.{left_of, right_of, under_one, path_self, In, all_at, all_append, all_map, any_from}
use Rattle.field_flatten.proofs.Tests as T
use Rattle.field_flatten.proofs.JoinedRows.{all_holds, under_holds}
use Rattle.field_flatten.proofs.NamedRun.{span_there, choice_there}
use Rattle.field_flatten.proofs.SlotLaw.{Inside, choice_above, start_between, end_between}
use Rattle.field_flatten.proofs.NumberLaw.{at, lay, made_from, making}
use Rattle.field_flatten.proofs.ConstraintLaw.{run, rules_held, there_stands}
use Rattle.field_flatten.proofs.ArrangedLaw.{times_at, parts_hold, under_each, guards_are, and_unit, SameTimes, AllSame, ChosenSame, follow_same, starts_same, ends_same, covers_same, chosen_same, all_span_same}

pub one_of_choice : (path : Path) (content : Content) (p : PhaseSpot) → phase_spot path content ≡ Some p → p.kind ≡ PhaseKind.OneOf → (c : ChoiceSpot) × (choice_spot path content ≡ Some c) × (c.path ≡ p.path)
one_of_choice path (Object vehicle) p e k = cc
one_of_choice path (Value range) p e k = cc
one_of_choice path (Phase kind members) p e k =
    let Same : PhaseSpot = record { path = path; kind = kind; members = members } in
    let same : Same ≡ p = cc in
    let is : kind ≡ PhaseKind.OneOf = ap (λ (q : PhaseSpot). q.kind) same ∙ k in
    (record { path = path; members = length members }, rw is refl, ap (λ (q : PhaseSpot). q.path) same)

pub phase_known : (scene : Scene) (p : PhaseSpot) → In p (phases scene) → has_phase scene p.path ≡ true
phase_known scene p i = any_from (λ (q : PhaseSpot). same_path q.path p.path) (phases scene) p i (path_self p.path)

module _ (scene : Scene) (point : List ℤ) (slot : SlotName → ℕ) (expanded : IsExpanded scene) (inside : Inside scene (at scene point slot)) where
  abbrev named : SlotName → ℤ
  named = at scene point slot

  abbrev layed : Layout
  layed = lay scene point slot

  abbrev runs : Run
  runs = run scene point slot expanded inside

  abbrev one : Times
  one = times_at point layed

  abbrev other : Times
  other = times_of runs

  back : (z : ℤ) → pos 0 ≤ℤ z → z ≡ pos (unsigned_abs z)
  back z h = omega (arith, ints)

  pub phase_times : (p : Path) → has_phase scene p ≡ true → stands scene named p ≡ true → SameTimes one other p
  phase_times p known there = record {
    start = back (named (SlotName.Start p)) (start_between scene named inside p).0 ∙ sym (ap (λ o. option_map_or (λ (s : Span). pos s.start) o (pos 0)) (span_there scene named p there known));
    end = back (named (SlotName.End p)) (end_between scene named inside p).0 ∙ sym (ap (λ o. option_map_or (λ (s : Span). pos s.end) o (pos 0)) (span_there scene named p there known));
  }

  choice_member : (p : PhaseSpot) → In p (phases scene) → p.kind ≡ PhaseKind.OneOf → stands scene named p.path ≡ true → one.member p.path ≡ other.member p.path
  choice_member p i k there =
      let m = made_from (λ (s : Spot). phase_spot s.path s.content) scene.spots p i in
      let c = one_of_choice m.0.path m.0.content p m.2 k in
      let known : In c.0 (choices scene) = making (λ (s : Spot). choice_spot s.path s.content) scene.spots m.0 c.0 m.1 c.1 in
      let found = any_from (λ (d : ChoiceSpot). same_path d.path p.path) (choices scene) c.0 known (subst (λ q. same_path q p.path ≡ true) (sym c.2) (path_self p.path)) in
      back (named (SlotName.Choice p.path)) (choice_above scene named inside p.path) ∙ sym (ap (λ o. option_map_or pos o (pos 0)) (choice_there scene named p.path there found))

  member_times : (conditions : List Guard) (m : Path) → is_member scene conditions m ≡ true → list_all (is_held named) conditions ≡ true → SameTimes one other m
  member_times conditions m h held = phase_times m (left_of (has_phase scene m) (same_guards (guards scene m) conditions) h)
      (ap (list_all (is_held named)) (guards_are (guards scene m) conditions (right_of (has_phase scene m) (same_guards (guards scene m) conditions) h)) ∙ held)

  members_times : (conditions : List Guard) (members : List Path) → list_all (is_member scene conditions) members ≡ true → list_all (is_held named) conditions ≡ true → AllSame one other members
  members_times conditions members h held m i = member_times conditions m (all_at (is_member scene conditions) members h m i) held

  choices_times : (whole : Path) (conditions : List Guard) (k : ℕ) (members : List Path) → are_choices scene whole conditions k members ≡ true → list_all (is_held named) conditions ≡ true
      → ChosenSame one other whole k members
  choices_times whole conditions k [] h held = tt
  choices_times whole conditions k (m ∷ ms) h held = (
    λ chosen. member_times (conditions ++ Guard.Choice whole k ∷ []) m (left_of (is_member scene (conditions ++ Guard.Choice whole k ∷ []) m) (are_choices scene whole conditions (k + 1) ms) h)
        (all_append (is_held named) conditions (Guard.Choice whole k ∷ []) ∙ ap₂ (◌&&◌) held (and_unit (same_number (named (SlotName.Choice whole)) (pos k)) ∙ chosen)),
    choices_times whole conditions (k + 1) ms (right_of (is_member scene (conditions ++ Guard.Choice whole k ∷ []) m) (are_choices scene whole conditions (k + 1) ms) h) held,
  )

  kind_same : (kind : PhaseKind) (p : PhaseSpot) → p.kind ≡ kind → In p (phases scene) → are_members scene p kind ≡ true → stands scene named p.path ≡ true
      → by_kind kind one p.path p.members ≡ by_kind kind other p.path p.members
  kind_same kind p k i h there = by kind k h
    where
      conditions : List Guard
      conditions = guards scene p.path

      own : SameTimes one other p.path
      own = phase_times p.path (phase_known scene p i) there

      all : list_all (is_member scene (guards scene p.path)) p.members ≡ true → AllSame one other p.members
      all f = members_times (guards scene p.path) p.members f there

      by : (kind : PhaseKind) → p.kind ≡ kind → are_members scene p kind ≡ true → by_kind kind one p.path p.members ≡ by_kind kind other p.path p.members
      by PhaseKind.Serial e f = follow_same one other (one.start p.path) (one.end p.path) (other.start p.path) (other.end p.path) p.members own.start own.end (all f)
      by PhaseKind.Start e f = ap₂ (◌&&◌) (covers_same one other p.path p.members own (all f)) (ap all_same (starts_same one other p.members (all f)))
      by PhaseKind.End e f = ap₂ (◌&&◌) (covers_same one other p.path p.members own (all f)) (ap all_same (ends_same one other p.members (all f)))
      by PhaseKind.Equal e f = ap₂ (◌&&◌) (covers_same one other p.path p.members own (all f))
          (ap₂ (λ x y. all_same x && all_same y) (starts_same one other p.members (all f)) (ends_same one other p.members (all f)))
      by PhaseKind.Any e f = ap₂ (◌&&◌) (covers_same one other p.path p.members own (all f)) (ap₂ overlap (starts_same one other p.members (all f)) (ends_same one other p.members (all f)))
      by PhaseKind.OneOf e f = chosen_same one other p.path 0 p.members (choice_member p i e there) own (choices_times p.path (guards scene p.path) 0 p.members f there)
      by PhaseKind.Scenario e f = all_span_same one other p.path p.members own (all f)
      by PhaseKind.Action e f = ap₂ int_lt own.start own.end
      by PhaseKind.Wait e f = refl

  pub arranged_same : (p : PhaseSpot) → In p (phases scene) → stands scene named p.path ≡ true → arranged one (same_path p.path root_do) p ≡ arranged other (same_path p.path root_do) p
  arranged_same p i there =
      let own = phase_times p.path (phase_known scene p i) there in
      let kinds = kind_same p.kind p refl i (all_at (λ (q : PhaseSpot). are_members scene q q.kind) (phases scene) expanded.is_scene.members p i) there in
      ap₂ (λ a b. a && (not (same_path p.path root_do) || b)) (ap₂ (◌&&◌) (ap₂ int_le own.start own.end) kinds) (ap (λ z. same_number z (pos 0)) own.start)

  pub arranged_law : (p : PhaseSpot) → In p (phases scene) → holds_at point (arranged_rule scene layed p) ≡ arranged_holds scene runs p
  arranged_law p i =
      let pres : List FlatRule = presence_rules layed (guards scene p.path) in
      let parts : List FlatRule = AtMost (phase_start layed p.path) (phase_end layed p.path) ∷ kind_rules p.kind layed p.path p.members ++ root_do_rules layed p.path in
      let met = list_all (holds_at point) pres in
      all_holds point (map (under pres) parts) ∙ all_map (holds_at point) (under pres) parts
      ∙ T.all_same (λ r. holds_at point (under pres r)) (λ r. not met || holds_at point r) parts (λ r j. under_holds point pres r)
      ∙ under_each met (holds_at point) parts
      ∙ under_one met (is_there scene runs p.path) (list_all (holds_at point) parts) (arranged other (same_path p.path root_do) p)
      (rules_held scene point slot expanded inside (guards scene p.path) ∙ sym (there_stands scene point slot expanded inside p.path))
      (λ h. parts_hold point layed p ∙ arranged_same p i (sym (rules_held scene point slot expanded inside (guards scene p.path)) ∙ h))
