-- A modifier's rule at a tick is true at a point exactly if the modifier holds there in the point's run, if its moments lie within the run.
use Rattle.std.proofs.Common.{◌≡◌, ℕ, ◌*◌, ◌<◌, ◌≤◌, refl, sym, ap, ap₂, ◌∙◌, subst, inl, inr, List, [], ◌∷◌, ◌++◌, Bool, true, false, ◌&&◌, ◌||◌, not, Option, Some, None, arith, true≢false}
use Rattle.std.specs.Prelude.{ℤ, pos, flat_map, unwrap_or, option_to_list}
use Rattle.std.specs.Option.{option_map_or}
use Rattle.std.specs.List.{list_any, list_all}
use Rattle.std.proofs.Math.Nat.{mul_assoc}
use Rattle.osc_base.specs.declared.path.Path.{Path}
use Rattle.osc_base.specs.declared.listing.SlotName.{SlotName}
use Rattle.osc_base.specs.Number.{whole}
use Rattle.osc_base.specs.LowestTerms.{lcm}
use Rattle.osc_base.specs.Paths.{same_path}
use Rattle.osc_base.specs.Modifiers.{holds_of, is_moment}
use Rattle.box_eval.specs.FlatRules.{FlatRule, worth_at, holds_at}
use Rattle.modifier_rules.specs.Relations.{position_scale, relation_at, moment_at}
use Rattle.composition.specs.expr_nodes.Kinds.{is_number}
use Rattle.composition.specs.expr_nodes.Typed.{Typed, reads, kind, scale}
use Rattle.composition.specs.expr_nodes.Value.{worth}
use Rattle.composition.specs.expr_nodes.Parts.{is_scalar}
use Rattle.composition.specs.expr_nodes.Sound.{is_sound, each_read}
use Rattle.composition.specs.declared.run.Run.{Run}
use Rattle.composition.specs.Scenes.{Scene, Occurrence, ModifierSpot, guards, vehicles, has_phase}
use Rattle.composition.specs.There.{are_met, read_by, modifier_presence}
use Rattle.composition.specs.Items.{times_of, sample_of, end_value, other_of, modifier_holds}
use Rattle.composition.specs.Invariants.{are_grounded, is_expression, is_end, has_range, has_other, is_modifier}
use Rattle.field_flatten.specs.Shapes.{Layout, shape, phase_start, phase_end}
use Rattle.field_flatten.specs.Points.{is_held, stands, sample_named, end_named}
use Rattle.field_flatten.specs.Rules.{presence_rules, sample_slots, scale_of, end_of, modifier_rule}
use Rattle.field_flatten.specs.Seen.{has_values, seen}
use Rattle.field_flatten.specs.Exactness.{expressions, IsExpanded}
use Rattle.field_flatten.proofs.Tests.{left_of, right_of, two_ways, under_one, path_is, In, in_left, in_right, in_flat_map, all_at, all_from, all_append, any_at}
use Rattle.field_flatten.proofs.JoinedRows.{under_holds}
use Rattle.field_flatten.proofs.Multiples.{common}
use Rattle.field_flatten.proofs.Times.{IsTimes}
use Rattle.field_flatten.proofs.ShapeLaw.{Law, law}
use Rattle.field_flatten.proofs.Presence.{once_same}
use Rattle.field_flatten.proofs.SlotLaw.{Inside}
use Rattle.field_flatten.proofs.NumberLaw.{at, lay}
use Rattle.field_flatten.proofs.ConstraintLaw.{run, reading, rules_held, met_held, value_law}
use Rattle.field_flatten.proofs.PhaseLaw.{phase_times}
use Rattle.field_flatten.proofs.MotionLaw.{sample_is}
use Rattle.field_flatten.proofs.RelationLaw.{relation_law, moment_law, without_other}

pub and_under : (a b x y : Bool) → a ≡ b → (a ≡ true → x ≡ y) → a && x ≡ b && y
and_under true b x y e f = rw (← e) (f refl)
and_under false b x y e f = rw (← e) refl

module _ (scene : Scene) (point : List ℤ) (slot : SlotName → ℕ) (expanded : IsExpanded scene) (inside : Inside scene (at scene point slot)) where
  abbrev named : SlotName → ℤ
  named = at scene point slot

  abbrev layed : Layout
  layed = lay scene point slot

  abbrev runs : Run
  runs = run scene point slot expanded inside

  abbrev paths : ModifierSpot → List Path
  paths m = m.phase ∷ m.own ∷ option_to_list m.other ++ read_by m.low ++ read_by m.high

  abbrev Asked : ModifierSpot → Type 0
  Asked m = list_all (is_held named) (modifier_presence scene m) ≡ true

  -- what a modifier names and reads is there
  pub path_stands : (m : ModifierSpot) → Asked m → (p : Path) → In p (paths m) → stands scene named p ≡ true
  path_stands m h p i =
      let held : list_all (is_held named) (flat_map (guards scene) (paths m)) ≡ true = sym (once_same (is_held named) (flat_map (guards scene) (paths m))) ∙ h in
      all_from (is_held named) (guards scene p) (λ g j. all_at (is_held named) (flat_map (guards scene) (paths m)) held g (in_flat_map (guards scene) (paths m) p g i j))

  other_path : (m : ModifierSpot) (v : Path) → m.other ≡ Some v → In v (paths m)
  other_path m v e = inr (inr (in_left v (option_to_list m.other ++ read_by m.low) (read_by m.high) (in_left v (option_to_list m.other) (read_by m.low) (subst (λ o. In v (option_to_list o)) (sym e) (inl refl)))))

  low_path : (m : ModifierSpot) (t : Typed) → m.low ≡ Some t → (p : Path) → In p (reads t) → In p (paths m)
  low_path m t e p i = inr (inr (in_left p (option_to_list m.other ++ read_by m.low) (read_by m.high) (in_right p (option_to_list m.other) (read_by m.low)
      (subst (λ o. In p (read_by o)) (sym e) (in_left p (reads t) [] i)))))

  high_path : (m : ModifierSpot) (t : Typed) → m.high ≡ Some t → (p : Path) → In p (reads t) → In p (paths m)
  high_path m t e p i = inr (inr (in_right p (option_to_list m.other ++ read_by m.low) (read_by m.high) (subst (λ o. In p (read_by o)) (sym e) (in_left p (reads t) [] i))))

  -- ---- ends

  ends_listed : (m : ModifierSpot) → In m scene.modifiers → (t : Typed) → In t (option_to_list m.low ++ option_to_list m.high) → has_values t ≡ true
  ends_listed m i t j = all_at has_values (expressions scene) expanded.all_values t
      (in_right t (flat_map (λ (o : Occurrence). option_to_list o.typed) scene.occurrences) (flat_map (λ (n : ModifierSpot). option_to_list n.low ++ option_to_list n.high) scene.modifiers)
      (in_flat_map (λ (n : ModifierSpot). option_to_list n.low ++ option_to_list n.high) scene.modifiers m t i j))

  -- an end that is there: its expression, its law, and its value in the run
  record End (typed : Option Typed) : Type 0 where
    term : Typed
    is : typed ≡ Some term
    shaped : Law point layed term
    valued : end_value scene runs typed ≡ worth (seen layed point) term

  end_there : (typed : Option Typed) → option_map_or (is_end scene) typed false ≡ true → ((t : Typed) → typed ≡ Some t → has_values t ≡ true)
      → ((t : Typed) → typed ≡ Some t → (p : Path) → In p (reads t) → stands scene named p ≡ true) → End typed
  end_there None h v there = absurd (true≢false (sym h))
  end_there (Some t) h v there =
      let expression = right_of (is_number (kind t)) (is_expression scene t) h in
      let rest : is_sound t && each_read (reading scene point slot expanded inside) t ≡ true = right_of (is_scalar t) (is_sound t && each_read (reading scene point slot expanded inside) t) expression in
      record {
        term = t;
        is = refl;
        shaped = law point layed t (left_of (is_sound t) (each_read (reading scene point slot expanded inside) t) rest) (v t refl);
        valued = ap (λ o. unwrap_or o (whole (pos 0))) (value_law scene point slot expanded inside t expression (v t refl) (there t refl));
      }

  end_times : (typed : Option Typed) (n : End typed) (e k : ℕ) → e ≡ scale n.term * k → IsTimes (end_value scene runs typed) e (worth_at point (end_of layed typed e))
  end_times typed n e k is =
      subst (λ o. IsTimes (end_value scene runs typed) e (worth_at point (end_of layed o e))) (sym n.is)
      (subst (λ x. IsTimes x e (worth_at point ((shape layed n.term).term e))) (sym n.valued) (n.shaped.term e k is))

  scale_is : (typed : Option Typed) (n : End typed) → scale_of typed ≡ scale n.term
  scale_is typed n = ap scale_of n.is

  -- ---- vehicles

  vehicle_in : (v : Path) → list_any (same_path v) (vehicles scene) ≡ true → In v (vehicles scene)
  vehicle_in v h = let f = any_at (same_path v) (vehicles scene) h in subst (λ p. In p (vehicles scene)) (sym (path_is v f.0 f.2)) f.1

  -- ---- the relation

  abbrev Fits : ModifierSpot → Bool
  Fits m = not (has_range m.kind) || (option_map_or (is_end scene) m.low false && option_map_or (is_end scene) m.high false)

  abbrev Others : ModifierSpot → Bool
  Others m = not (has_other m.kind) || option_map_or (λ (v : Path). list_any (same_path v) (vehicles scene)) m.other false

  implied : (a b : Bool) → not a || b ≡ true → a ≡ true → b ≡ true
  implied true b h e = h
  implied false b h e = absurd (true≢false (sym e))

  abbrev scaled : ModifierSpot → ℕ
  scaled m = lcm position_scale (lcm (scale_of m.low) (scale_of m.high))

  range_times : (m : ModifierSpot) → In m scene.modifiers → is_modifier scene m ≡ true → Asked m → has_range m.kind ≡ true
      → (0 < scaled m) × IsTimes (end_value scene runs m.low) (scaled m) (worth_at point (end_of layed m.low (scaled m))) × IsTimes (end_value scene runs m.high) (scaled m) (worth_at point (end_of layed m.high (scaled m)))
  range_times m i sound asked ranged =
      let rest = right_of (has_phase scene m.phase && list_any (same_path m.own) (vehicles scene)) (Others m && Fits m) sound in
      let ends = implied (has_range m.kind) (option_map_or (is_end scene) m.low false && option_map_or (is_end scene) m.high false) (right_of (Others m) (Fits m) rest) ranged in
      let low = end_there m.low (left_of (option_map_or (is_end scene) m.low false) (option_map_or (is_end scene) m.high false) ends)
      (λ t e. ends_listed m i t (in_left t (option_to_list m.low) (option_to_list m.high) (subst (λ o. In t (option_to_list o)) (sym e) (inl refl))))
      (λ t e p j. path_stands m asked p (low_path m t e p j)) in
      let high = end_there m.high (right_of (option_map_or (is_end scene) m.low false) (option_map_or (is_end scene) m.high false) ends)
      (λ t e. ends_listed m i t (in_right t (option_to_list m.low) (option_to_list m.high) (subst (λ o. In t (option_to_list o)) (sym e) (inl refl))))
      (λ t e p j. path_stands m asked p (high_path m t e p j)) in
      let a = scale_of m.low in
      let b = scale_of m.high in
      let inner = common a b (subst (λ n. 0 < n) (sym (scale_is m.low low)) low.shaped.above) (subst (λ n. 0 < n) (sym (scale_is m.high high)) high.shaped.above) in
      let outer = common position_scale (lcm a b) (omega arith) inner.above in (
        outer.above,
        end_times m.low low (scaled m) (inner.left * outer.right) (outer.right_is ∙ ap (λ n. n * outer.right) inner.left_is ∙ mul_assoc a inner.left outer.right ∙ ap (λ n. n * (inner.left * outer.right)) (scale_is m.low low)),
        end_times m.high high (scaled m) (inner.right * outer.right) (outer.right_is ∙ ap (λ n. n * outer.right) inner.right_is ∙ mul_assoc b inner.right outer.right ∙ ap (λ n. n * (inner.right * outer.right)) (scale_is m.high high)),
      )

  others_same : (m : ModifierSpot) (tick : ℕ) → In m scene.modifiers → is_modifier scene m ≡ true → Asked m → tick ≤ end_named scene named
      → holds_of m.kind (end_value scene runs m.low) (end_value scene runs m.high) (sample_named named m.own tick) (sample_named named (other_of m) tick)
      ≡ holds_of m.kind (end_value scene runs m.low) (end_value scene runs m.high) (sample_of runs m.own tick) (sample_of runs (other_of m) tick)
  others_same m tick i sound asked small =
      let rest = right_of (has_phase scene m.phase && list_any (same_path m.own) (vehicles scene)) (Others m && Fits m) sound in
      let own = vehicle_in m.own (right_of (has_phase scene m.phase) (list_any (same_path m.own) (vehicles scene)) (left_of (has_phase scene m.phase && list_any (same_path m.own) (vehicles scene)) (Others m && Fits m) sound)) in
      let here = sample_is scene point slot expanded inside m.own tick own (path_stands m asked m.own (inr (inl refl))) small in
      ap (λ s. holds_of m.kind (end_value scene runs m.low) (end_value scene runs m.high) s (sample_named named (other_of m) tick)) (sym here)
      ∙ two_ways (has_other m.kind)
      (λ e. ap (holds_of m.kind (end_value scene runs m.low) (end_value scene runs m.high) (sample_of runs m.own tick)) (sym (there (implied (has_other m.kind) (option_map_or (λ (v : Path). list_any (same_path v) (vehicles scene)) m.other false) (left_of (Others m) (Fits m) rest) e))))
      (λ e. without_other m.kind (end_value scene runs m.low) (end_value scene runs m.high) (sample_of runs m.own tick) (sample_named named (other_of m) tick) (sample_of runs (other_of m) tick) e)
    where
      there : option_map_or (λ (v : Path). list_any (same_path v) (vehicles scene)) m.other false ≡ true → sample_of runs (other_of m) tick ≡ sample_named named (other_of m) tick
      there h = by m.other refl h
        where
          by : (o : Option Path) → m.other ≡ o → option_map_or (λ (v : Path). list_any (same_path v) (vehicles scene)) o false ≡ true → sample_of runs (unwrap_or o m.own) tick ≡ sample_named named (unwrap_or o m.own) tick
          by None e g = absurd (true≢false (sym g))
          by (Some v) e g = sample_is scene point slot expanded inside v tick (vehicle_in v g) (path_stands m asked v (other_path m v e)) small

  pub modifier_law : (m : ModifierSpot) (tick : ℕ) → In m scene.modifiers
      → (stands scene named m.phase ≡ true → is_moment m.moment (named (SlotName.Start m.phase)) (named (SlotName.End m.phase)) (pos tick) ≡ true → tick ≤ end_named scene named)
      → holds_at point (modifier_rule scene layed m tick) ≡ modifier_holds scene runs m tick
  modifier_law m tick i before =
      let sound = all_at (is_modifier scene) scene.modifiers expanded.is_scene.modifiers m i in
      let grounded = all_at (λ (n : ModifierSpot). are_grounded scene [] (modifier_presence scene n)) scene.modifiers expanded.is_scene.modifiers_grounded m i in
      let pres : List FlatRule = presence_rules layed (modifier_presence scene m) in
      let moments : List FlatRule = moment_at m.moment (phase_start layed m.phase) (phase_end layed m.phase) tick in
      let relation : FlatRule = relation_at m.kind (sample_slots layed m.own tick) (sample_slots layed (other_of m) tick) (end_of layed m.low (scaled m)) (end_of layed m.high (scaled m)) (scaled m) in
      let held = list_all (is_held named) (modifier_presence scene m) in
      let moment = is_moment m.moment (named (SlotName.Start m.phase)) (named (SlotName.End m.phase)) (pos tick) in
      let moment' = is_moment m.moment ((times_of runs).start m.phase) ((times_of runs).end m.phase) (pos tick) in
      let known : has_phase scene m.phase ≡ true = left_of (has_phase scene m.phase) (list_any (same_path m.own) (vehicles scene)) (left_of (has_phase scene m.phase && list_any (same_path m.own) (vehicles scene)) (Others m && Fits m) sound) in
      under_holds point (pres ++ moments) relation
      ∙ ap (λ b. not b || holds_at point relation) (all_append (holds_at point) pres moments
      ∙ ap₂ (◌&&◌) (rules_held scene point slot expanded inside (modifier_presence scene m)) (moment_law point m.moment (phase_start layed m.phase) (phase_end layed m.phase) tick))
      ∙ under_one (held && moment) (are_met runs (modifier_presence scene m) && moment') (holds_at point relation)
      (holds_of m.kind (end_value scene runs m.low) (end_value scene runs m.high) (sample_of runs m.own tick) (sample_of runs (other_of m) tick))
      (and_under held (are_met runs (modifier_presence scene m)) moment moment' (sym (met_held scene point slot expanded inside (modifier_presence scene m) grounded))
      (λ h. let s = phase_times scene point slot expanded inside m.phase known (path_stands m h m.phase (inl refl)) in ap₂ (λ a b. is_moment m.moment a b (pos tick)) s.start s.end))
      (λ h. let asked : Asked m = left_of held moment h in
      relation_law point m.kind (sample_slots layed m.own tick) (sample_slots layed (other_of m) tick) (end_of layed m.low (scaled m)) (end_of layed m.high (scaled m)) (scaled m)
      (end_value scene runs m.low) (end_value scene runs m.high) (range_times m i sound asked)
      ∙ others_same m tick i sound asked (before (path_stands m asked m.phase (inl refl)) (right_of held moment h)))
