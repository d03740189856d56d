-- Each object of an expansion has steps left for what it holds, since no type holds or invokes itself.
use Rattle.std.proofs.Common.{◌≡◌, ℕ, zero, suc, ◌+◌, ◌≤◌, ◌<◌, refl, sym, ap, ◌∙◌, subst, ◌⊎◌, inl, inr, List, [], ◌∷◌, ◌++◌, Bool, true, false, ◌&&◌, ◌||◌, not, cond, Option, Some, None, map, length, arith, true≢false}
use Rattle.std.specs.Prelude.{filter, flat_map, filter_map, option_to_list}
use Rattle.std.specs.List.{range_with_len, cons_option}
use Rattle.field_flatten.specs.osc_base.declared.path.Path.{Path}
use Rattle.field_flatten.specs.osc_base.Paths.{then_name, then_index}
use Rattle.expansion_laws.specs.dsl_tree.declared.parts.Ident.{Ident}
use Rattle.expansion_laws.specs.dsl_tree.declared.phases.InvokeHead.{InvokeHead}
use Rattle.expansion_laws.specs.dsl_tree.declared.compounds.CompoundKind.{CompoundKind}
use Rattle.expansion_laws.specs.dsl_tree.PhaseTree.{ArgumentTree, PartTree, Comp, Invoke}
use Rattle.expansion_laws.specs.type_heads.Form.{Form}
use Rattle.expansion_laws.specs.type_heads.Table.{form, is_object, is_scenario, is_behaviour, has_members}
use Rattle.expansion_laws.specs.type_heads.Types.{Types, Field, Do}
use Rattle.expansion_laws.specs.type_heads.Members.{fields, field_type, list_length, the_do}
use Rattle.expansion_laws.specs.type_heads.Cycles.{returns}
use Rattle.expansion_laws.specs.type_heads.HeadingFaults.{held_types}
use Rattle.expansion_laws.specs.composition.declared.guard.Guard.{Guard}
use Rattle.expansion_laws.specs.composition.declared.spot.ValueRange.{ValueRange}
use Rattle.expansion_laws.specs.composition.Calls.{PhaseHere, phases_in, callee, invoked}
use Rattle.expansion_laws.specs.composition.Uses.{invocations}
use Rattle.expansion_laws.specs.composition.Scenes.{Content, Spot, Binding}
use Rattle.expansion_laws.specs.composition.Ranges.{range_of}
use Rattle.expansion_laws.specs.composition.Homes.{is_bound}
use Rattle.expansion_laws.specs.composition.Givens.{guards_under}
use Rattle.expansion_laws.specs.composition.Expansion.{Expansion, Value, in_row, Maker, value_parts, field_parts, calling, invocation, phase_part, do_parts, expand_within, expansion}
use Rattle.expansion_laws.specs.composition.Expanded.{spot, spots_of, spots_in}
use Rattle.field_flatten.proofs.Tests.{left_of, In, in_left, in_right, in_map, map_in, in_flat_map, filter_in}
use Rattle.scene_laws.proofs.EachSpot.{value_paths, call_bindings}
use Rattle.scene_laws.proofs.FieldNames.{Pairs}
use Rattle.scene_laws.proofs.OwnedHeads.{AreOwned, invoked_behaviour}
use Rattle.scene_laws.proofs.Acyclic.{Differ, few_below, Reach, reach_more, no_return}
use Rattle.scene_laws.proofs.HeldTypes.{AreBased, AreMembersOf, named_below, called_below, field_held, held_below, invocations_below, call_invoked}

-- ---- forms

object_behaves : (f : Form) → is_object f ≡ true → is_behaviour f ≡ true → ⊥
object_behaves (Form.Compound CompoundKind.Struct) p q = true≢false (sym q)
object_behaves (Form.Compound CompoundKind.Actor) p q = true≢false (sym q)
object_behaves (Form.Compound CompoundKind.Action) p q = true≢false (sym p)
object_behaves (Form.Compound CompoundKind.Scenario) p q = true≢false (sym p)
object_behaves Form.Int p q = true≢false (sym p)
object_behaves Form.Uint p q = true≢false (sym p)
object_behaves Form.Float p q = true≢false (sym p)
object_behaves Form.Truth p q = true≢false (sym p)
object_behaves Form.Chars p q = true≢false (sym p)
object_behaves (Form.Physical x) p q = true≢false (sym p)
object_behaves (Form.Enum x) p q = true≢false (sym p)

pub scenario_behaves : (f : Form) → is_scenario f ≡ true → is_behaviour f ≡ true
scenario_behaves (Form.Compound CompoundKind.Scenario) p = refl
scenario_behaves (Form.Compound CompoundKind.Action) p = refl
scenario_behaves (Form.Compound CompoundKind.Struct) p = p
scenario_behaves (Form.Compound CompoundKind.Actor) p = p
scenario_behaves Form.Int p = p
scenario_behaves Form.Uint p = p
scenario_behaves Form.Float p = p
scenario_behaves Form.Truth p = p
scenario_behaves Form.Chars p = p
scenario_behaves (Form.Physical x) p = p
scenario_behaves (Form.Enum x) p = p

object_members : (f : Form) → is_object f ≡ true → has_members f ≡ true
object_members f h = by (is_object f) h
  where
    by : (b : Bool) → b ≡ true → b || is_behaviour f ≡ true
    by true e = refl
    by false e = absurd (true≢false (sym e))

kind_members : (f : Form) → ((is_object f ≡ true) ⊎ (is_behaviour f ≡ true)) → has_members f ≡ true
kind_members f (inl h) = object_members f h
kind_members f (inr h) = by (is_object f) h
  where
    by : (b : Bool) → is_behaviour f ≡ true → b || is_behaviour f ≡ true
    by true e = refl
    by false e = e

-- what is known of a program's types
pub record IsAcyclic (ts : Types) : Type 0 where
  pub owned : AreOwned ts.table.heads
  pub based : AreBased ts.table.heads
  pub listed : AreMembersOf ts
  pub scenarios : (t : ℕ) (d : Do) → the_do ts t ≡ Some d → is_scenario (form ts.table.heads t) ≡ true
  pub held : (t : ℕ) → t < length ts.table.heads → has_members (form ts.table.heads t) ≡ true → returns (length ts.table.heads) (held_types ts.table.heads ts.bodies) t ≡ false
  pub calls : (t : ℕ) → t < length ts.table.heads → is_scenario (form ts.table.heads t) ≡ true → returns (length ts.table.heads) (invocations ts) t ≡ false

module _ (ts : Types) (a : IsAcyclic ts) where
  abbrev Count : ℕ
  Count = length ts.table.heads

  abbrev IsObject : ℕ → Type 0
  IsObject t = is_object (form ts.table.heads t) ≡ true

  abbrev IsScenario : ℕ → Type 0
  IsScenario t = is_scenario (form ts.table.heads t) ≡ true

  abbrev Behaves : ℕ → Type 0
  Behaves t = is_behaviour (form ts.table.heads t) ≡ true

  abbrev Holds : ℕ → ℕ → ℕ → Type 0
  Holds k x y = Reach (length ts.table.heads) (held_types ts.table.heads ts.bodies) (held_below ts) k x y

  abbrev Calls : ℕ → ℕ → ℕ → Type 0
  Calls k x y = Reach (length ts.table.heads) (invocations ts) (invocations_below ts) k x y

  -- a type in whose object another's stands
  abbrev Edge : ℕ → ℕ → Type 0
  Edge x t = (IsObject t × (Behaves x ⊎ (IsObject x × ((k : ℕ) × Holds k x t)))) ⊎ (Behaves t × (IsScenario x × ((k : ℕ) × Calls k x t)))

  -- the types of the objects around one are distinct, and there are as many steps left as other types
  pub record Fuel (n t : ℕ) : Type 0 where
    pub around : List ℕ
    pub below : t < length ts.table.heads
    pub others : (x : ℕ) → In x around → x < length ts.table.heads
    pub distinct : Pairs Differ (t ∷ around)
    pub room : length around + n ≡ length ts.table.heads
    pub kind : IsObject t ⊎ Behaves t
    pub edges : (x : ℕ) → In x around → Edge x t

  pub some_fuel : (n t : ℕ) → Fuel n t → (m : ℕ) × (n ≡ suc m)
  some_fuel zero t f = absurd (full (length f.around) (length ts.table.heads) f.room (few_below (length ts.table.heads) (t ∷ f.around) f.distinct (λ x i. all x i)))
    where
      full : (k c : ℕ) → k + 0 ≡ c → suc k ≤ c → ⊥
      full k c e l = omega (arith, e, l)

      all : (x : ℕ) → In x (t ∷ f.around) → x < length ts.table.heads
      all x (inl e) = subst (λ k. k < length ts.table.heads) (sym e) f.below
      all x (inr i) = f.others x i
  some_fuel (suc m) t f = (m, refl)

  no_hold : (x : ℕ) → x < length ts.table.heads → IsObject x → (k : ℕ) → Holds k x x → ⊥
  no_hold x below o k r = no_return (length ts.table.heads) (held_types ts.table.heads ts.bodies) (held_below ts) x (a.held x below (object_members (form ts.table.heads x) o)) k r

  no_call : (x : ℕ) → x < length ts.table.heads → IsScenario x → (k : ℕ) → Calls k x x → ⊥
  no_call x below s k r = no_return (length ts.table.heads) (invocations ts) (invocations_below ts) x (a.calls x below s) k r

  moved_room : (k m c : ℕ) → k + suc m ≡ c → suc k + m ≡ c
  moved_room k m c e = omega (arith, e)

  extended : (m t of : ℕ) (f : Fuel (suc m) t) → of < length ts.table.heads → (of ≡ t → ⊥) → ((x : ℕ) → In x f.around → of ≡ x → ⊥) → IsObject of ⊎ Behaves of → ((x : ℕ) → In x (t ∷ f.around) → Edge x of) → Fuel m of
  extended m t of f below differ apart kind edges = record {
    around = t ∷ f.around;
    below = below;
    others = λ x i. others x i;
    distinct = (λ x i. new x i, f.distinct);
    room = moved_room (length f.around) m (length ts.table.heads) f.room;
    kind = kind;
    edges = edges;
  }
    where
      others : (x : ℕ) → In x (t ∷ f.around) → x < length ts.table.heads
      others x (inl e) = subst (λ k. k < length ts.table.heads) (sym e) f.below
      others x (inr i) = f.others x i

      new : (x : ℕ) → In x (t ∷ f.around) → of ≡ x → ⊥
      new x (inl e) same = differ (same ∙ e)
      new x (inr i) same = apart x i same

  field_fuel : (m t : ℕ) → Fuel (suc m) t → (f : Field) → In f (fields ts t) → (of : ℕ) → field_type ts f ≡ Some of → IsObject of → Fuel m of
  field_fuel m t fuel f i of typed o =
      extended m t of fuel (named_below ts.table.heads None f.tree.of.text of typed) (λ same. self same) (λ x j same. other x j (fuel.edges x j) same) (inl o) (λ x j. edge x j)
    where
      holds : In of (held_types ts.table.heads ts.bodies t)
      holds = field_held ts a.based a.listed t fuel.below (kind_members (form ts.table.heads t) fuel.kind) f i of typed

      self : of ≡ t → ⊥
      self same = no_hold t fuel.below (subst (λ k. IsObject k) same o) zero (subst (λ k. In k (held_types ts.table.heads ts.bodies t)) same holds)

      other : (x : ℕ) → In x fuel.around → Edge x t → of ≡ x → ⊥
      other x j (inl (q, inl b)) same = object_behaves (form ts.table.heads x) (subst (λ k. IsObject k) same o) b
      other x j (inl (q, inr (p, (k, r)))) same =
          no_hold x (fuel.others x j) p (suc k) (subst (λ y. Holds (suc k) x y) same (reach_more (length ts.table.heads) (held_types ts.table.heads ts.bodies) (held_below ts) k x t of r holds))
      other x j (inr (b, (s, r))) same = object_behaves (form ts.table.heads x) (subst (λ k. IsObject k) same o) (scenario_behaves (form ts.table.heads x) s)

      edge : (x : ℕ) → In x (t ∷ fuel.around) → Edge x of
      edge x (inl e) = subst (λ k. Edge k of) (sym e) (own fuel.kind)
        where
          own : IsObject t ⊎ Behaves t → Edge t of
          own (inl p) = inl (o, inr (p, (zero, holds)))
          own (inr b) = inl (o, inl b)
      edge x (inr j) = by (fuel.edges x j)
        where
          by : Edge x t → Edge x of
          by (inl (q, inl b)) = inl (o, inl b)
          by (inl (q, inr (p, (k, r)))) = inl (o, inr (p, (suc k, reach_more (length ts.table.heads) (held_types ts.table.heads ts.bodies) (held_below ts) k x t of r holds)))
          by (inr (b, (s, r))) = inl (o, inl (scenario_behaves (form ts.table.heads x) s))

  call_fuel : (m t : ℕ) → Fuel (suc m) t → (d : Do) → the_do ts t ≡ Some d → (p : PhaseHere) → In p (phases_in d.phase) → (label : Option Ident) (head : InvokeHead) (names : List Ident) (arguments : List ArgumentTree) (parts : List PartTree)
      → p.phase ≡ Invoke label head names arguments parts → (of : ℕ) → invoked ts d.holder head names ≡ Some of → Fuel m of
  call_fuel m t fuel d is p i label head names arguments parts e of to =
      extended m t of fuel (called_below ts d.holder (callee head names) of to) (λ same. self same) (λ x j same. other x j (fuel.edges x j) same) (inr behaves) (λ x j. edge x j)
    where
      behaves : Behaves of
      behaves = invoked_behaviour ts a.owned d.holder (callee head names) of to

      scenario : IsScenario t
      scenario = a.scenarios t d is

      calls : In of (invocations ts t)
      calls = call_invoked ts t d is p i label head names arguments parts e of to

      self : of ≡ t → ⊥
      self same = no_call t fuel.below scenario zero (subst (λ k. In k (invocations ts t)) same calls)

      other : (x : ℕ) → In x fuel.around → Edge x t → of ≡ x → ⊥
      other x j (inl (q, r)) same = object_behaves (form ts.table.heads t) q (scenario_behaves (form ts.table.heads t) scenario)
      other x j (inr (b, (s, (k, r)))) same = no_call x (fuel.others x j) s (suc k) (subst (λ y. Calls (suc k) x y) same (reach_more (length ts.table.heads) (invocations ts) (invocations_below ts) k x t of r calls))

      edge : (x : ℕ) → In x (t ∷ fuel.around) → Edge x of
      edge x (inl e) = subst (λ k. Edge k of) (sym e) (inr (behaves, (scenario, (zero, calls))))
      edge x (inr j) = by (fuel.edges x j)
        where
          by : Edge x t → Edge x of
          by (inl (q, r)) = absurd (object_behaves (form ts.table.heads t) q (scenario_behaves (form ts.table.heads t) scenario))
          by (inr (b, (s, (k, r)))) = inr (behaves, (s, (suc k, reach_more (length ts.table.heads) (invocations ts) (invocations_below ts) k x t of r calls)))

  pub first_fuel : (t : ℕ) → t < length ts.table.heads → IsObject t ⊎ Behaves t → Fuel (length ts.table.heads) t
  first_fuel t below kind = record {
    around = [];
    below = below;
    others = λ x i. absurd i;
    distinct = (λ x i. absurd i, tt);
    room = zero_more (length ts.table.heads);
    kind = kind;
    edges = λ x i. absurd i;
  }
    where
      zero_more : (n : ℕ) → 0 + n ≡ n
      zero_more n = omega arith

  -- ---- places

  pub spots_row : (parts : List Expansion) (part : Expansion) (s : Spot) → In part parts → In s (spots_of ts part) → In s (spots_in ts (in_row parts))
  spots_row [] part s i j = absurd i
  spots_row (x ∷ xs) part s (inl e) j = in_left s (spots_of ts x) (spots_in ts (in_row xs)) (subst (λ z. In s (spots_of ts z)) e j)
  spots_row (x ∷ xs) part s (inr i) j = in_right s (spots_of ts x) (spots_in ts (in_row xs)) (spots_row xs part s i j)

  -- an object of which all spots are among some, with steps left
  pub record Placed (all : List Spot) (path : Path) (t : ℕ) (guards : List Guard) (bindings : List Binding) : Type 0 where
    pub steps : ℕ
    pub fuel : Fuel (suc steps) t
    pub actor : List Expansion
    pub inside : (s : Spot) → In s (spots_of ts (expand_within (suc steps) ts path t guards bindings actor)) → In s all

  pub placed_from : (all : List Spot) (path : Path) (t : ℕ) (guards : List Guard) (bindings : List Binding) (n : ℕ) → Fuel n t → (actor : List Expansion)
      → ((s : Spot) → In s (spots_of ts (expand_within n ts path t guards bindings actor)) → In s all) → Placed all path t guards bindings
  placed_from all path t guards bindings zero fuel actor f = let g = some_fuel zero t fuel in absurd (never g.0 g.1)
    where
      never : (m : ℕ) → zero ≡ suc m → ⊥
      never m e = cc
  placed_from all path t guards bindings (suc m) fuel actor f = record { steps = m; fuel = fuel; actor = actor; inside = f }

  option_in : {A : Type 0} (o : Option A) (x : A) → o ≡ Some x → In x (option_to_list o)
  option_in None x e = cc
  option_in (Some y) x e = let same : y ≡ x = cc in inl (sym same)

  module _ (all : List Spot) (path : Path) (t : ℕ) (guards : List Guard) (bindings : List Binding) (placed : Placed all path t guards bindings) where
    abbrev make : Maker
    make = λ q of conditions bound. expand_within placed.steps ts q of conditions bound []

    part_in : (part : Expansion) → In part (placed.actor ++ flat_map (field_parts make ts bindings path t guards) (fields ts t) ++ flat_map (do_parts make ts bindings path guards) (option_to_list (the_do ts t)))
        → (s : Spot) → In s (spots_of ts part) → In s all
    part_in part i s j = placed.inside s (inr (spots_row (placed.actor ++ flat_map (field_parts make ts bindings path t guards) (fields ts t) ++ flat_map (do_parts make ts bindings path guards) (option_to_list (the_do ts t))) part s i j))

    field_in : (f : Field) → In f (fields ts t) → (part : Expansion) → In part (field_parts make ts bindings path t guards f) → (s : Spot) → In s (spots_of ts part) → In s all
    field_in f i part j s k =
        let all_fields = flat_map (field_parts make ts bindings path t guards) (fields ts t) in
        part_in part (in_left part (placed.actor ++ all_fields) (flat_map (do_parts make ts bindings path guards) (option_to_list (the_do ts t)))
        (in_right part placed.actor all_fields (in_flat_map (field_parts make ts bindings path t guards) (fields ts t) f part i j))) s k

    -- the parts of each phase
    pub phase_in : (d : Do) → the_do ts t ≡ Some d → (p : PhaseHere) → In p (phases_in d.phase) → (part : Expansion) → In part (phase_part make ts (calling bindings path guards d p) p.phase) → (s : Spot) → In s (spots_of ts part) → In s all
    phase_in d is p i part j s k =
        let all_fields = flat_map (field_parts make ts bindings path t guards) (fields ts t) in
        let dos = flat_map (do_parts make ts bindings path guards) (option_to_list (the_do ts t)) in
        part_in part (in_right part (placed.actor ++ all_fields) dos (in_flat_map (do_parts make ts bindings path guards) (option_to_list (the_do ts t)) d part (option_in (the_do ts t) d is)
        (in_flat_map (λ (p : PhaseHere). phase_part make ts (calling bindings path guards d p) p.phase) (phases_in d.phase) p part i j))) s k

    -- the values of each field
    pub value_in : (f : Field) → In f (fields ts t) → (of : ℕ) → field_type ts f ≡ Some of → (range : ValueRange) → range_of (form ts.table.heads of) ≡ Some range
        → (q : Path) → In q (value_paths ts (then_name path f.name.text) (list_length f.tree)) → In (spot q (guards ++ guards_under ts path t f.under) (Content.Value range)) all
    value_in f i of typed range is q j =
        let at = then_name path f.name.text in
        let conditions = guards ++ guards_under ts path t f.under in
        let types = option_to_list (field_type ts f) in
        let objects = map (λ of. make at of conditions []) (filter (λ of. is_object (form ts.table.heads of) && not (is_bound bindings at)) types) in
        let values = flat_map (value_parts at conditions (list_length f.tree)) (filter_map (λ of. range_of (form ts.table.heads of)) types) in
        let ranged : In range (filter_map (λ of. range_of (form ts.table.heads of)) types) =
        subst (λ o. In range (filter_map (λ of. range_of (form ts.table.heads of)) (option_to_list o))) (sym typed) (subst (λ o. In range (cons_option o [])) (sym is) (inl refl)) in
        field_in f i (Value q conditions range) (in_right (Value q conditions range) objects values (in_flat_map (value_parts at conditions (list_length f.tree)) (filter_map (λ of. range_of (form ts.table.heads of)) types) range (Value q conditions range) ranged (value_part at conditions (list_length f.tree) range q j)))
        (spot q conditions (Content.Value range)) (inl refl)
      where
        value_part : (at : Path) (conditions : List Guard) (count : Option ℕ) (range : ValueRange) (q : Path) → In q (value_paths ts at count) → In (Value q conditions range) (value_parts at conditions count range)
        value_part at conditions None range q (inl e) = inl (ap (λ z. Value z conditions range) e)
        value_part at conditions None range q (inr k) = absurd k
        value_part at conditions (Some count) range q k =
            let g = map_in (then_index at) (range_with_len 0 count) q k in
            subst (λ z. In (Value z conditions range) (map (λ n. Value (then_index at n) conditions range) (range_with_len 0 count))) (sym g.2) (in_map (λ n. Value (then_index at n) conditions range) (range_with_len 0 count) g.0 g.1)

    -- the object of each field that isn't bound
    pub field_placed : (f : Field) → In f (fields ts t) → (of : ℕ) → field_type ts f ≡ Some of → is_object (form ts.table.heads of) && not (is_bound bindings (then_name path f.name.text)) ≡ true
        → Placed all (then_name path f.name.text) of (guards ++ guards_under ts path t f.under) []
    field_placed f i of typed test =
        let at = then_name path f.name.text in
        let conditions = guards ++ guards_under ts path t f.under in
        let types = option_to_list (field_type ts f) in
        let kept = filter_in (λ of. is_object (form ts.table.heads of) && not (is_bound bindings at)) types of (option_in (field_type ts f) of typed) test in
        let objects = map (λ of. make at of conditions []) (filter (λ of. is_object (form ts.table.heads of) && not (is_bound bindings at)) types) in
        let values = flat_map (value_parts at conditions (list_length f.tree)) (filter_map (λ of. range_of (form ts.table.heads of)) types) in
        placed_from all at of conditions [] placed.steps (field_fuel placed.steps t placed.fuel f i of typed (left_of (is_object (form ts.table.heads of)) _ test)) []
        (λ s j. field_in f i (make at of conditions []) (in_left (make at of conditions []) objects values (in_map (λ of. make at of conditions []) (filter (λ of. is_object (form ts.table.heads of) && not (is_bound bindings at)) types) of kept)) s j)

    -- the object of each invocation
    pub call_placed : (d : Do) → the_do ts t ≡ Some d → (p : PhaseHere) → In p (phases_in d.phase) → (label : Option Ident) (head : InvokeHead) (names : List Ident) (arguments : List ArgumentTree) (parts : List PartTree)
        → p.phase ≡ Invoke label head names arguments parts → (of : ℕ) → invoked ts d.holder head names ≡ Some of
        → Placed all (calling bindings path guards d p).path of (calling bindings path guards d p).guards (call_bindings ts (calling bindings path guards d p) head names arguments of)
    call_placed d is p i label head names arguments parts e of to =
        let call = calling bindings path guards d p in
        let part = invocation make ts call head names arguments parts of in
        let bound = call_bindings ts call head names arguments of in
        placed_from all call.path of call.guards bound placed.steps (call_fuel placed.steps t placed.fuel d is p i label head names arguments parts e of to) []
        (λ s j. phase_in d is p i part (subst (λ z. In part (phase_part make ts call z)) (sym e) (in_map (invocation make ts call head names arguments parts) (option_to_list (invoked ts d.holder head names)) of (option_in (invoked ts d.holder head names) of to)))
        s (inr (in_left s (spots_of ts (make call.path of call.guards bound)) [] j)))
