-- The rules of a recording say that a run has its traces.
use Rattle.std.proofs.Common.{◌≡◌, ◌∙◌, ℕ, ◌+◌, ◌≤◌, refl, sym, ap, ap₂, arith, List, [], ◌∷◌, Bool, true, false, ◌&&◌, ◌||◌, cond, map, length, take, take_all}
use Rattle.std.specs.Prelude.{ℤ, nat_eq, filter, flat_map}
use Rattle.std.specs.List.{list_any, list_all, range_with_len}
use Rattle.std.proofs.lemmas.Int.{ints}
use Rattle.osc_base.specs.declared.path.Path.{Path}
use Rattle.osc_base.specs.declared.sample.Sample.{Sample}
use Rattle.osc_base.specs.declared.listing.SlotName.{SlotName}
use Rattle.osc_base.specs.Comparisons.{same_number}
use Rattle.osc_base.specs.Paths.{same_path}
use Rattle.box_eval.specs.Truth.{is_same}
use Rattle.box_eval.specs.FlatRules.{FlatRule, Slot, Whole, Equal, Always, Not, holds_at, all_of}
use Rattle.field_flatten.specs.composition.declared.run.Trace.{Trace}
use Rattle.field_flatten.specs.composition.Scenes.{Scene, vehicles, guards}
use Rattle.field_flatten.specs.Points.{slot_value, stands, sample_named, end_named, run_named}
use Rattle.field_flatten.specs.Rules.{layout, presence_rules, sample_slots}
use Rattle.field_flatten.proofs.Tests.{two_ways, number_is, path_is, all_at, all_same, all_append}
use Rattle.field_flatten.proofs.JoinedRows.{all_holds}
use Rattle.field_flatten.proofs.SlotLaw.{Inside, point_inside}
use Rattle.field_flatten.proofs.NamedRun.{trace_named}
use Rattle.asked_forms.specs.declared.traces.Traces.{Traces}
use Rattle.asked_forms.specs.Recordings.{same_sample, same_samples, same_trace, has_traces, are_counted, sample_rule, sample_rules, trace_rules, pins, PinsSay}
use Rattle.asked_forms.proofs.Truths.{there_truth, end_truth, end_small}

swapped : (a b : ℤ) → is_same a b ≡ same_number b a
swapped a b = grind (arith, ints)

three : (a b c x y z : Bool) → a ≡ x → b ≡ y → c ≡ z → a && (b && (c && true)) ≡ x && (y && z)
three a b c x y z e f g = rw (e, f, g) (by x y z)
  where
    by : (x y z : Bool) → x && (y && (z && true)) ≡ x && (y && z)
    by true true true = refl
    by true true false = refl
    by true false z = refl
    by false y z = refl

flat_all : {A : Type 0} (test : FlatRule → Bool) (rules : A → List FlatRule) (xs : List A) → list_all test (flat_map rules xs) ≡ list_all (λ x. list_all test (rules x)) xs
flat_all test rules [] = refl
flat_all test rules (x ∷ xs) = all_append test (rules x) (flat_map rules xs) ∙ ap (λ b. list_all test (rules x) && b) (flat_all test rules xs)

module _ (scene : Scene) (point : List ℤ) where
  abbrev at : SlotName → ℤ
  at = slot_value scene point

  -- ---- samples

  sample_truth : (vehicle : Path) (tick : ℕ) (s : Sample) → holds_at point (sample_rule (layout scene) vehicle tick s) ≡ same_sample s (sample_named at vehicle tick)
  sample_truth vehicle tick s =
      let slots = sample_slots (layout scene) vehicle tick in
      all_holds point (Equal (Slot slots.lane) (Whole s.lane) ∷ Equal (Slot slots.position) (Whole s.position) ∷ Equal (Slot slots.speed) (Whole s.speed) ∷ [])
      ∙ three (is_same (at (SlotName.Lane vehicle tick)) s.lane) (is_same (at (SlotName.Position vehicle tick)) s.position) (is_same (at (SlotName.Speed vehicle tick)) s.speed)
      (same_number s.lane (at (SlotName.Lane vehicle tick))) (same_number s.position (at (SlotName.Position vehicle tick))) (same_number s.speed (at (SlotName.Speed vehicle tick)))
      (swapped (at (SlotName.Lane vehicle tick)) s.lane) (swapped (at (SlotName.Position vehicle tick)) s.position) (swapped (at (SlotName.Speed vehicle tick)) s.speed)

  samples_truth : (vehicle : Path) (tick : ℕ) (ss : List Sample)
      → list_all (holds_at point) (sample_rules (layout scene) vehicle tick ss) ≡ same_samples ss (map (sample_named at vehicle) (range_with_len tick (length ss)))
  samples_truth vehicle tick [] = refl
  samples_truth vehicle tick (s ∷ ss) = ap₂ (◌&&◌) (sample_truth vehicle tick s) (samples_truth vehicle (tick + 1) ss)

  -- ---- traces

  abbrev samples_of : Path → List Sample
  samples_of vehicle = map (sample_named at vehicle) (range_with_len 0 (end_named scene at + 1))

  -- a trace is one of those of vehicles exactly if its path is one's, that is there, and has its samples
  among : (t : Trace) (vs : List Path)
      → list_any (same_trace t) (map (trace_named scene at) (filter (stands scene at) vs)) ≡ list_any (same_path t.path) vs && (stands scene at t.path && same_samples t.samples (samples_of t.path))
  among t [] = refl
  among t (v ∷ vs) = two_ways (same_path t.path v)
      (λ e. let is : t.path ≡ v = path_is t.path v e in
      two_ways (stands scene at v)
      (λ f. rw (f, e, among t vs, is, f) (first (same_samples t.samples (samples_of v)) (list_any (same_path v) vs)))
      (λ f. rw (f, e, among t vs, is, f) (gone (list_any (same_path v) vs))))
      (λ e. two_ways (stands scene at v)
      (λ f. rw (f, e) (among t vs))
      (λ f. rw (f, e) (among t vs)))
    where
      first : (same any : Bool) → same || (any && same) ≡ same
      first true any = refl
      first false true = refl
      first false false = refl

      gone : (any : Bool) → any && false ≡ false
      gone true = refl
      gone false = refl

  module _ (inside : Inside scene (slot_value scene point)) where
    trace_truth : (t : Trace) → length t.samples ≡ end_named scene at + 1
        → list_all (holds_at point) (trace_rules scene (layout scene) t) ≡ list_any (same_trace t) (run_named scene at).traces
    trace_truth t e =
        by (list_any (same_path t.path) (vehicles scene)) ∙ sym (among t (vehicles scene))
      where
        few : length t.samples ≤ scene.setting.ticks + 1
        few = let small = end_small scene point inside in omega (arith, small, e)

        rows : list_all (holds_at point) (sample_rules (layout scene) t.path 0 (take (scene.setting.ticks + 1) t.samples)) ≡ same_samples t.samples (samples_of t.path)
        rows =
            ap (λ ss. list_all (holds_at point) (sample_rules (layout scene) t.path 0 ss)) (take_all (scene.setting.ticks + 1) t.samples few)
            ∙ samples_truth t.path 0 t.samples
            ∙ ap (λ n. same_samples t.samples (map (sample_named at t.path) (range_with_len 0 n))) e

        by : (b : Bool)
            → list_all (holds_at point) (cond b (all_of (presence_rules (layout scene) (guards scene t.path)) ∷ sample_rules (layout scene) t.path 0 (take (scene.setting.ticks + 1) t.samples)) (Not Always ∷ []))
            ≡ b && (stands scene at t.path && same_samples t.samples (samples_of t.path))
        by true = ap₂ (◌&&◌) (there_truth scene point t.path) rows
        by false = refl

    pins_truth : (t : Traces) → are_counted t ≡ true → list_all (holds_at point) (pins scene t) ≡ has_traces t (run_named scene at)
    pins_truth t counted =
        ap₂ (◌&&◌) (end_truth scene point inside t.end) (flat_all (holds_at point) (trace_rules scene (layout scene)) t.traces)
        ∙ under (nat_eq (end_named scene at) t.end) (list_all (λ x. list_all (holds_at point) (trace_rules scene (layout scene) x)) t.traces) (list_all (λ x. list_any (same_trace x) (run_named scene at).traces) t.traces)
        (λ e. all_same (λ x. list_all (holds_at point) (trace_rules scene (layout scene) x)) (λ x. list_any (same_trace x) (run_named scene at).traces) t.traces
        (λ x i. trace_truth x (number_is (length x.samples) (t.end + 1) (all_at (λ (y : Trace). nat_eq (length y.samples) (t.end + 1)) t.traces counted x i) ∙ ap (λ n. n + 1) (sym (number_is (end_named scene at) t.end e)))))
      where
        under : (a b c : Bool) → (a ≡ true → b ≡ c) → a && b ≡ a && c
        under true b c f = f refl
        under false b c f = refl

pub pins_say : PinsSay
pins_say scene t counted point p soft = pins_truth scene point (point_inside scene point p) t counted
