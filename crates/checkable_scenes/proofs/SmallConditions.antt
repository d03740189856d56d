-- The conditions of spots and constraints ask for small numbers.
use Rattle.std.proofs.Common.{◌≡◌, ℕ, ◌+◌, ◌≤◌, ◌<◌, refl, sym, ap, ◌∙◌, subst, List, [], ◌∷◌, ◌++◌, Bool, true, false, ◌&&◌, not, cond, zero, suc, Option, Some, None, map, length, arith}
use Rattle.std.specs.Prelude.{codes, nat_le, option_map, ℤ, pos, neg_ℤ, int_le}
use Rattle.std.specs.List.{list_all, range_with_len}
use Rattle.std.proofs.lemmas.Int.{ints}
use Rattle.osc_base.specs.declared.path.Path.{Path}
use Rattle.osc_base.specs.Paths.{root, then_name, then_member}
use Rattle.expr_eval.specs.dsl_tree.declared.parts.Ident.{Ident}
use Rattle.expr_eval.specs.dsl_tree.declared.compounds.ConditionValue.{ConditionValue}
use Rattle.expr_eval.specs.dsl_tree.declared.phases.InvokeHead.{InvokeHead}
use Rattle.expr_eval.specs.dsl_tree.PhaseTree.{ArgumentTree, PartTree, Invoke, phases_of}
use Rattle.expr_eval.specs.type_heads.Form.{Form}
use Rattle.expr_eval.specs.type_heads.Table.{form, owner, is_object, number_of, enum_members}
use Rattle.expr_eval.specs.type_heads.Types.{Types, Field, Do}
use Rattle.expr_eval.specs.type_heads.Members.{fields, field_type, the_do}
use Rattle.expr_eval.specs.type_heads.Conditions.{condition_value}
use Rattle.run_values.specs.cond_inherit.Conditions.{conditions}
use Rattle.expr_eval.specs.expr_nodes.Sizes.{field_reach}
use Rattle.run_values.specs.composition.declared.guard.Guard.{Guard}
use Rattle.run_values.specs.composition.declared.setting.Setting.{Setting}
use Rattle.run_values.specs.composition.declared.spot.PhaseKind.{PhaseKind}
use Rattle.run_values.specs.composition.Calls.{Turn, PhaseHere, phases_in, invoked}
use Rattle.run_values.specs.composition.Scenes.{Spot, Occurrence, Binding}
use Rattle.run_values.specs.composition.Homes.{is_bound}
use Rattle.run_values.specs.composition.Givens.{Given, guards_under}
use Rattle.run_values.specs.composition.Expansion.{from_object, calling, given_duration, expansion}
use Rattle.run_values.specs.composition.Expanded.{spots_of, givens_of, bindings_of, occurrence_of, can_be_asked, scene_from, scene}
use Rattle.run_values.specs.composition.SceneFaults.{is_too_large, most_slots}
use Rattle.run_values.specs.composition.Invariants.{is_small}
use Rattle.run_values.specs.field_flatten.Exactness.{is_small_guard, are_small_guards}
use Rattle.run_values.proofs.of_field_flatten.Tests.{both, In, in_filter, map_in, all_from, all_append}
use Rattle.scene_laws.specs.Premises.{is_free, IsSmallTable}
use Rattle.scene_laws.proofs.EachSpot.{call_bindings, each_spot}
use Rattle.scene_laws.proofs.FieldNames.{Pairs, NamesDiffer}
use Rattle.scene_laws.proofs.MemberPhases.{Resolves}
use Rattle.scene_laws.proofs.PlacedObjects.{IsAcyclic, Placed, field_placed, call_placed}
use Rattle.checkable_scenes.proofs.ConditionFields.{IsInherited}
use Rattle.checkable_scenes.proofs.ConditionLists.{IsUnder, field_under, asks, conditions_sought}
use Rattle.checkable_scenes.proofs.PhaseWays.{WayFrom, do_ways}
use Rattle.checkable_scenes.proofs.GroundedSpots.{turn_guard, turned_there}
use Rattle.checkable_scenes.proofs.EachText.{each_text}
use Rattle.checkable_scenes.proofs.HeldConstraints.{own_given_of, call_under, comp_under}
use Rattle.checkable_scenes.proofs.FewMembers.{few_members}

small_pos : (n : ℕ) → n ≤ field_reach → is_small (pos n) ≡ true
small_pos n h = both (int_le (neg_ℤ (pos field_reach)) (pos n)) (int_le (pos n) (pos field_reach)) (above n) (under n h)
  where
    above : (n : ℕ) → int_le (neg_ℤ (pos field_reach)) (pos n) ≡ true
    above n = grind (arith, ints)

    under : (n : ℕ) → n ≤ field_reach → int_le (pos n) (pos field_reach) ≡ true
    under n h = grind (arith, ints)

-- the value of a condition is small
small_value : (f : Form) → ((name : List ℕ) (n : ℕ) → number_of (enum_members f) name ≡ Some n → n ≤ field_reach) → (v : ConditionValue) (n : ℤ) → condition_value f v ≡ Some n → is_small n ≡ true
small_value Form.Truth small (ConditionValue.Truth place value) n e = by value e
  where
    by : (b : Bool) → Some (cond b (pos 1) (pos 0)) ≡ Some n → is_small n ≡ true
    by true h = let same : pos 1 ≡ n = cc in subst (λ z. is_small z ≡ true) same refl
    by false h = let same : pos 0 ≡ n = cc in subst (λ z. is_small z ≡ true) same refl
small_value Form.Truth small (ConditionValue.Name name) n e = cc
small_value Form.Truth small (ConditionValue.EnumName of member) n e = cc
small_value (Form.Enum ms) small (ConditionValue.Truth place value) n e = cc
small_value (Form.Enum ms) small (ConditionValue.Name name) n e = by (number_of ms name.text) refl e
  where
    by : (o : Option ℕ) → number_of ms name.text ≡ o → option_map pos o ≡ Some n → is_small n ≡ true
    by None f h = cc
    by (Some k) f h = let same : pos k ≡ n = cc in subst (λ z. is_small z ≡ true) same (small_pos k (small name.text k f))
small_value (Form.Enum ms) small (ConditionValue.EnumName of member) n e = by (number_of ms member.text) refl e
  where
    by : (o : Option ℕ) → number_of ms member.text ≡ o → option_map pos o ≡ Some n → is_small n ≡ true
    by None f h = cc
    by (Some k) f h = let same : pos k ≡ n = cc in subst (λ z. is_small z ≡ true) same (small_pos k (small member.text k f))
small_value Form.Int small v n e = cc
small_value Form.Uint small v n e = cc
small_value Form.Float small v n e = cc
small_value Form.Chars small v n e = cc
small_value (Form.Physical x) small v n e = cc
small_value (Form.Compound x) small v n e = cc

beside : (gs hs : List Guard) → are_small_guards gs ≡ true → are_small_guards hs ≡ true → are_small_guards (gs ++ hs) ≡ true
beside gs hs h i = all_append is_small_guard gs hs ∙ both (are_small_guards gs) (are_small_guards hs) h i

-- the conditions of a member
pub under_small : (ts : Types) (k : IsInherited ts) (small : IsSmallTable ts.table) (path : Path) (t : ℕ) (under : List ℕ) → IsUnder ts k t under → are_small_guards (guards_under ts path t under) ≡ true
under_small ts k small path t under u = all_from is_small_guard (guards_under ts path t under) (λ g i.
    let c = map_in (asks ts k t path) (conditions ts t under) g i in
    let s = conditions_sought ts k t under u c.0 c.1 in
    subst (λ z. is_small_guard z ≡ true) (sym c.2) (small_value (form ts.table.heads s.1.of) (small.members s.1.of) s.1.written.value c.0.value s.1.value))

module _ (ts : Types) (a : IsAcyclic ts) (k : IsInherited ts) (names : (t : ℕ) → Pairs NamesDiffer (fields ts t)) (free : (t : ℕ) (f : Field) → In f (fields ts t) → is_free f.name.text ≡ true) (resolves : Resolves ts) (small : IsSmallTable ts.table)
    (whole : ℕ) (setting : Setting)
    (first : Placed ts a (spots_of ts (expansion ts whole)) root whole [] []) (actor : (x : ℕ) → owner ts.table.heads whole ≡ Some x → Placed ts a (spots_of ts (expansion ts whole)) (then_name root (codes "actor")) x [] [])
    (few : is_too_large ts whole setting ≡ false) where
  abbrev spots : List Spot
  spots = spots_of ts (expansion ts whole)

  length_map : {A B : Type 0} (f : A → B) (xs : List A) → length (map f xs) ≡ length xs
  length_map f [] = refl
  length_map f (x ∷ xs) = ap suc (length_map f xs)

  length_range : (n m : ℕ) → length (range_with_len n m) ≡ m
  length_range n zero = refl
  length_range n (suc m) = ap suc (length_range (n + 1) m)

  module _ (path : Path) (t : ℕ) (gs : List Guard) (bindings : List Binding) (placed : Placed ts a spots path t gs bindings) (d : Do) (is : the_do ts t ≡ Some d) where
    turns_small : (rest before : List Turn) → WayFrom (phases_in d.phase) before rest → are_small_guards (map (turn_guard ts a k names free whole setting path t gs bindings placed d is) rest) ≡ true
    turns_small [] before w = refl
    turns_small (turn ∷ rest) before w =
        let there = turned_there ts a k names free whole setting path t gs bindings placed d is before turn w.0 in
        let members = map (then_member (from_object path turn.phase)) (range_with_len 0 (length (phases_of w.0.one.members))) in
        let count = few_members ts a names free resolves whole setting first actor few _ there PhaseKind.OneOf members refl in
        both (nat_le turn.member field_reach) _ (fits turn.member (length (phases_of w.0.one.members)) (length members) w.0.few (length_map (then_member (from_object path turn.phase)) (range_with_len 0 (length (phases_of w.0.one.members))) ∙ length_range 0 (length (phases_of w.0.one.members))) count)
        (turns_small rest (before ++ turn ∷ []) w.1)
      where
        fits : (m n c : ℕ) → m < n → c ≡ n → c ≤ most_slots → nat_le m field_reach ≡ true
        fits m n c p e q = by m (less m n c p e q)
          where
            less : (m n c : ℕ) → m < n → c ≡ n → c ≤ most_slots → m ≤ field_reach
            less m n c p e q = omega (arith, p, e, q)

            by : (m : ℕ) → m ≤ field_reach → nat_le m field_reach ≡ true
            by m h = grind arith

    phase_small : (p : PhaseHere) → In p (phases_in d.phase) → are_small_guards gs ≡ true → are_small_guards (calling bindings path gs d p).guards ≡ true
    phase_small p i h = beside gs (map (turn_guard ts a k names free whole setting path t gs bindings placed d is) p.way) h (turns_small p.way [] (do_ways d.phase p i))

  -- an object with small conditions
  abbrev Smalls : Path → ℕ → List Guard → List Binding → Type 0
  Smalls path t gs bindings = Placed ts a spots path t gs bindings × (are_small_guards gs ≡ true)

  to_field : (path : Path) (t : ℕ) (gs : List Guard) (bindings : List Binding) → Smalls path t gs bindings → (f : Field) → In f (fields ts t) → (of : ℕ) → field_type ts f ≡ Some of
      → is_object (form ts.table.heads of) && not (is_bound bindings (then_name path f.name.text)) ≡ true → Smalls (then_name path f.name.text) of (gs ++ guards_under ts path t f.under) []
  to_field path t gs bindings q f i of typed test =
      (field_placed ts a spots path t gs bindings q.0 f i of typed test, beside gs (guards_under ts path t f.under) q.1 (under_small ts k small path t f.under (field_under ts k t f i)))

  to_call : (path : Path) (t : ℕ) (gs : List Guard) (bindings : List Binding) → Smalls path t gs bindings → (d : Do) → the_do ts t ≡ Some d → (p : PhaseHere) → In p (phases_in d.phase)
      → (label : Option Ident) (head : InvokeHead) (ns : List Ident) (arguments : List ArgumentTree) (parts : List PartTree) → p.phase ≡ Invoke label head ns arguments parts → (of : ℕ) → invoked ts d.holder head ns ≡ Some of
      → Smalls (calling bindings path gs d p).path of (calling bindings path gs d p).guards (call_bindings ts (calling bindings path gs d p) head ns arguments of)
  to_call path t gs bindings q d is p i label head ns arguments parts e of to =
      (call_placed ts a spots path t gs bindings q.0 d is p i label head ns arguments parts e of to, phase_small path t gs bindings q.0 d is p i q.1)

  pub spots_small : list_all (λ (s : Spot). are_small_guards s.guards) spots ≡ true
  spots_small = all_from (λ (s : Spot). are_small_guards s.guards) spots (λ s i.
      each_spot ts Smalls (λ (s : Spot). are_small_guards s.guards ≡ true)
      (λ path t gs bindings q. q.1)
      (λ path t gs bindings q f j of typed range is l m. beside gs (guards_under ts path t f.under) q.1 (under_small ts k small path t f.under (field_under ts k t f j)))
      (λ path t gs bindings q d is p j label place kind arguments members e. phase_small path t gs bindings q.0 d is p j q.1)
      (λ path t gs bindings q d is p j label head ns arguments parts e of to. phase_small path t gs bindings q.0 d is p j q.1)
      (λ path t gs bindings q d is p j. phase_small path t gs bindings q.0 d is p j q.1)
      (λ path t gs bindings q f j of typed test. to_field path t gs bindings q f j of typed test)
      (λ path t gs bindings q d is p j label head ns arguments parts e of to. to_call path t gs bindings q d is p j label head ns arguments parts e of to)
      whole (first, refl) (λ x e. (actor x e, refl)) s i)

  abbrev IsSmallGiven : Given → Type 0
  IsSmallGiven g = are_small_guards g.under ≡ true

  free_small : (g : Given) → g.under ≡ [] → IsSmallGiven g
  free_small g e = subst (λ l. are_small_guards l ≡ true) (sym e) refl

  givens_small : (g : Given) → In g (givens_of (expansion ts whole)) → IsSmallGiven g
  givens_small = (each_text ts (λ path t gs bindings. Unit {0}) IsSmallGiven (λ m. Unit {0}) (λ b. Unit {0})
      (λ path t gs bindings q g i. let o = own_given_of ts k path t g i in subst (λ l. are_small_guards l ≡ true) (sym o.2.conditions) (under_small ts k small path t o.0 o.1))
      (λ path t gs bindings q d is p i label place kind arguments members e g j. free_small g (comp_under ts (calling bindings path gs d p) arguments g j))
      (λ path t gs bindings q d is p i label place elapsed e. free_small (given_duration ts (calling bindings path gs d p) elapsed) refl)
      (λ path t gs bindings q d is p i label head ns arguments parts e of to g j. free_small g (call_under ts (calling bindings path gs d p) of arguments parts g j))
      (λ path t gs bindings q d is p i label head ns arguments parts e of to m j. tt)
      (λ path t gs bindings q d is p i label head ns arguments parts e of to b j. tt)
      (λ path t gs bindings q f i of typed test. tt)
      (λ path t gs bindings q d is p i label head ns arguments parts e of to. tt)
      whole tt (λ x e. tt)).givens

  pub unders_small : list_all (λ (o : Occurrence). are_small_guards o.under) (scene ts whole setting).occurrences ≡ true
  unders_small = all_from (λ (o : Occurrence). are_small_guards o.under) (scene ts whole setting).occurrences (λ o i.
      let f = in_filter (can_be_asked (scene_from ts setting (expansion ts whole))) (map (occurrence_of (bindings_of (expansion ts whole))) (givens_of (expansion ts whole))) o i in
      let m = map_in (occurrence_of (bindings_of (expansion ts whole))) (givens_of (expansion ts whole)) o f.0 in
      subst (λ (z : Occurrence). are_small_guards z.under ≡ true) (sym m.2) (givens_small m.0 m.1))
