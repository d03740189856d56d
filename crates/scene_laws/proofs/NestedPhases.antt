-- Phases stand in phases, all of them in the `do` of the named scenario.
use Rattle.std.proofs.Common.{◌≡◌, ℕ, zero, suc, ◌+◌, ◌≤◌, ◌<◌, refl, sym, ap, ◌∙◌, subst, ◌⊎◌, inl, inr, List, [], ◌∷◌, ◌++◌, Bool, true, false, ◌&&◌, ◌||◌, not, cond, Option, Some, None, map, length, arith, true≢false}
use Rattle.std.specs.Prelude.{⊤, filter, flat_map, filter_map, option_to_list, is_some, nat_eq, codes}
use Rattle.std.specs.List.{list_any, range_with_len, cons_option}
use Rattle.field_flatten.specs.osc_base.declared.path.Path.{Path}
use Rattle.field_flatten.specs.osc_base.declared.path.Step.TheVariants.{Member}
use Rattle.field_flatten.specs.osc_base.Paths.{path_of, root, same_path, then_name, then_member, then_do}
use Rattle.expansion_laws.specs.dsl_tree.declared.phases.CompKind.{CompKind}
use Rattle.expansion_laws.specs.dsl_tree.declared.compounds.CompoundKind.{CompoundKind}
use Rattle.expansion_laws.specs.dsl_tree.PhaseTree as Tree
use Rattle.expansion_laws.specs.dsl_tree.PhaseTree.{PhaseTree, Comp, Invoke, Wait, PhaseRow, phases_of}
use Rattle.expansion_laws.specs.type_heads.Form.{Form}
use Rattle.expansion_laws.specs.type_heads.Table.{form, owner, is_object, is_actor, is_scenario}
use Rattle.expansion_laws.specs.type_heads.Types.{Types, Field, Do}
use Rattle.expansion_laws.specs.type_heads.Members.{fields, field_type, list_length, the_do}
use Rattle.expansion_laws.specs.composition.declared.guard.Guard.{Guard}
use Rattle.expansion_laws.specs.composition.declared.setting.Setting.{Setting}
use Rattle.expansion_laws.specs.composition.declared.spot.PhaseKind.{PhaseKind}
use Rattle.expansion_laws.specs.composition.declared.spot.PhaseSpot.{PhaseSpot}
use Rattle.expansion_laws.specs.composition.declared.spot.ValueRange.{ValueRange}
use Rattle.expansion_laws.specs.composition.Calls.{Turn, turns, PhaseHere, phases_at, phases_among, phases_in, invoked}
use Rattle.expansion_laws.specs.composition.Scenes.{Content, Spot, Binding, phase_spot, phases, root_do}
use Rattle.expansion_laws.specs.composition.Ranges.{range_of}
use Rattle.expansion_laws.specs.composition.Homes.{is_bound}
use Rattle.expansion_laws.specs.composition.Givens.{guards_under}
use Rattle.expansion_laws.specs.composition.Expansion.{Expansion, Object, Value, in_row, Maker, value_parts, field_parts, Calling, from_object, calling, composition_kind, invocation, phase_part, do_parts, expand_within, own_actor, expansion}
use Rattle.expansion_laws.specs.composition.Expanded.{is_vehicle, spot, spots_of, spots_in, scene}
use Rattle.expansion_laws.specs.composition.Invariants.{are_nested}
use Rattle.field_flatten.proofs.Tests.{left_of, both, two_ways, In, in_either, in_filter, in_map, map_in, flat_map_in, any_from, path_self}
use Rattle.scene_laws.proofs.Picked.{of_option}
use Rattle.scene_laws.proofs.EachSpot.{spots_in_row, value_spots, invoked_kind, invoked_members, call_bindings, each_within}
use Rattle.scene_laws.proofs.OwnedHeads.{HaveActors}
use Rattle.scene_laws.proofs.Steps.{joined_again}

-- ---- nesting

abbrev IsMember : Spot → Path → Type 0
IsMember s q = (k : PhaseKind) × (ms : List Path) × (s.content ≡ Content.Phase k ms) × In q ms

-- each phase is allowed, or a member of one before it
abbrev Nested : (Path → Type 0) → List Spot → Type 0
Nested ok [] = ⊤
Nested ok (s ∷ ss) = ((k : PhaseKind) (ms : List Path) → s.content ≡ Content.Phase k ms → ok s.path) × Nested (λ q. ok q ⊎ IsMember s q) ss

nested_more : (ok more : Path → Type 0) → ((q : Path) → ok q → more q) → (ss : List Spot) → Nested ok ss → Nested more ss
nested_more ok more f [] n = tt
nested_more ok more f (s ∷ ss) n = (λ k ms e. f s.path (n.0 k ms e), nested_more (λ q. ok q ⊎ IsMember s q) (λ q. more q ⊎ IsMember s q) (λ q o. by q o) ss n.1)
  where
    by : (q : Path) → ok q ⊎ IsMember s q → more q ⊎ IsMember s q
    by q (inl o) = inl (f q o)
    by q (inr m) = inr m

nested_append : (ok : Path → Type 0) (xs ys : List Spot) → Nested ok xs → Nested ok ys → Nested ok (xs ++ ys)
nested_append ok [] ys m n = n
nested_append ok (x ∷ xs) ys m n = (m.0, nested_append (λ q. ok q ⊎ IsMember x q) xs ys m.1 (nested_more ok (λ q. ok q ⊎ IsMember x q) (λ q o. inl o) ys n))

-- no phase is among the spots
abbrev pub NoPhases : List Spot → Type 0
NoPhases ss = (s : Spot) → In s ss → (k : PhaseKind) (ms : List Path) → s.content ≡ Content.Phase k ms → ⊥

none_nested : (ok : Path → Type 0) (ss : List Spot) → NoPhases ss → Nested ok ss
none_nested ok [] f = tt
none_nested ok (s ∷ ss) f = (λ k ms e. absurd (f s (inl refl) k ms e), none_nested (λ q. ok q ⊎ IsMember s q) ss (λ u i. f u (inr i)))

-- the same as a test
tested : (ok : Path → Type 0) (before : List PhaseSpot) → ((q : Path) → ok q → (same_path q root_do || list_any (λ (p : PhaseSpot). list_any (same_path q) p.members) before) ≡ true) → (ss : List Spot) → Nested ok ss
    → are_nested before (filter_map (λ (s : Spot). phase_spot s.path s.content) ss) ≡ true
tested ok before f [] n = refl
tested ok before f (s ∷ ss) n = by s.content refl (λ b g. tested (λ q. ok q ⊎ IsMember s q) b g ss n.1)
  where
    apart : (q : Path) → ((k : PhaseKind) (ms : List Path) → s.content ≡ Content.Phase k ms → ⊥) → ok q ⊎ IsMember s q → ok q
    apart q never (inl o) = o
    apart q never (inr m) = absurd (never m.0 m.1 m.2)

    or_true : (a b c : Bool) → (a || b) ≡ true → (a || (c || b)) ≡ true
    or_true true b c h = refl
    or_true false b true h = refl
    or_true false b false h = h

    or_first : (a b c : Bool) → b ≡ true → (a || (b || c)) ≡ true
    or_first true b c h = refl
    or_first false b c h = rw h refl

    by : (c : Content) → s.content ≡ c → ((b : List PhaseSpot) → ((q : Path) → ok q ⊎ IsMember s q → (same_path q root_do || list_any (λ (p : PhaseSpot). list_any (same_path q) p.members) b) ≡ true)
        → are_nested b (filter_map (λ (u : Spot). phase_spot u.path u.content) ss) ≡ true)
        → are_nested before (cons_option (phase_spot s.path c) (filter_map (λ (u : Spot). phase_spot u.path u.content) ss)) ≡ true
    by (Content.Object v) e rest = rest before (λ q o. f q (apart q (λ k ms g. differ v k ms (sym e ∙ g)) o))
      where
        differ : (v : Bool) (k : PhaseKind) (ms : List Path) → Content.Object v ≡ Content.Phase k ms → ⊥
        differ v k ms g = cc
    by (Content.Value r) e rest = rest before (λ q o. f q (apart q (λ k ms g. differ r k ms (sym e ∙ g)) o))
      where
        differ : (r : ValueRange) (k : PhaseKind) (ms : List Path) → Content.Value r ≡ Content.Phase k ms → ⊥
        differ r k ms g = cc
    by (Content.Phase k ms) e rest =
        both (same_path s.path root_do || list_any (λ (p : PhaseSpot). list_any (same_path s.path) p.members) before) (are_nested (record { path = s.path; kind = k; members = ms } ∷ before) (filter_map (λ (u : Spot). phase_spot u.path u.content) ss))
        (f s.path (n.0 k ms e)) (rest (record { path = s.path; kind = k; members = ms } ∷ before) (λ q o. kept q o))
      where
        same : (l : PhaseKind) (ns : List Path) → Content.Phase k ms ≡ Content.Phase l ns → ms ≡ ns
        same l ns g = cc

        kept : (q : Path) → ok q ⊎ IsMember s q → (same_path q root_do || list_any (λ (p : PhaseSpot). list_any (same_path q) p.members) (record { path = s.path; kind = k; members = ms } ∷ before)) ≡ true
        kept q (inl o) = or_true (same_path q root_do) (list_any (λ (p : PhaseSpot). list_any (same_path q) p.members) before) (list_any (same_path q) ms) (f q o)
        kept q (inr m) =
            let there = any_from (same_path q) m.1 q m.3 (path_self q) in
            or_first (same_path q root_do) (list_any (same_path q) ms) (list_any (λ (p : PhaseSpot). list_any (same_path q) p.members) before) (subst (λ l. list_any (same_path q) l ≡ true) (sym (same m.0 m.1 (sym e ∙ m.2))) there)

-- ---- expansions

pub row_append : (ts : Types) (xs ys : List Expansion) → spots_in ts (in_row (xs ++ ys)) ≡ spots_in ts (in_row xs) ++ spots_in ts (in_row ys)
row_append ts [] ys = refl
row_append ts (x ∷ xs) ys = ap (λ l. spots_of ts x ++ l) (row_append ts xs ys) ∙ sym (joined_again (spots_of ts x) (spots_in ts (in_row xs)) (spots_in ts (in_row ys)))

pub row_flat : {A : Type 0} (ts : Types) (f : A → List Expansion) (xs : List A) → spots_in ts (in_row (flat_map f xs)) ≡ flat_map (λ x. spots_in ts (in_row (f x))) xs
row_flat ts f [] = refl
row_flat ts f (x ∷ xs) = row_append ts (f x) (flat_map f xs) ∙ ap (λ l. spots_in ts (in_row (f x)) ++ l) (row_flat ts f xs)

flat_append : {A B : Type 0} (f : A → List B) (xs ys : List A) → flat_map f (xs ++ ys) ≡ flat_map f xs ++ flat_map f ys
flat_append f [] ys = refl
flat_append f (x ∷ xs) ys = ap (λ l. f x ++ l) (flat_append f xs ys) ∙ sym (joined_again (f x) (flat_map f xs) (flat_map f ys))

same_number_of : (a k : ℕ) → nat_eq a k ≡ true → k ≡ a
same_number_of a k e = grind arith

next_number : (a k : ℕ) → a ≤ k → nat_eq a k ≡ false → a + 1 ≤ k
next_number a k p e = grind arith

range_has : (a n k : ℕ) → a ≤ k → k < a + n → In k (range_with_len a n)
range_has a zero k p q = absurd (omega (arith, p, q))
range_has a (suc n) k p q = two_ways (nat_eq a k) (λ e. inl (same_number_of a k e)) (λ e. inr (range_has (a + 1) n k (next_number a k p e) (omega (arith, q))))

first : (n m : ℕ) → n < n + suc m
first n m = omega arith

later : (n k : ℕ) → n + 1 ≤ k → n ≤ k
later n k h = omega (arith, h)

more_of : (n k m : ℕ) → k < (n + 1) + m → k < n + suc m
more_of n k m h = omega (arith, h)

module _ (ts : Types) (scenarios : (t : ℕ) (d : Do) → the_do ts t ≡ Some d → is_scenario (form ts.table.heads t) ≡ true) where
  object_no_do : (t : ℕ) → is_object (form ts.table.heads t) ≡ true → the_do ts t ≡ None
  object_no_do t o = by (the_do ts t) refl
    where
      clash : (f : Form) → is_object f ≡ true → is_scenario f ≡ true → ⊥
      clash (Form.Compound CompoundKind.Struct) p q = true≢false (sym q)
      clash (Form.Compound CompoundKind.Actor) p q = true≢false (sym q)
      clash (Form.Compound CompoundKind.Action) p q = true≢false (sym p)
      clash (Form.Compound CompoundKind.Scenario) p q = true≢false (sym p)
      clash Form.Int p q = true≢false (sym p)
      clash Form.Uint p q = true≢false (sym p)
      clash Form.Float p q = true≢false (sym p)
      clash Form.Truth p q = true≢false (sym p)
      clash Form.Chars p q = true≢false (sym p)
      clash (Form.Physical x) p q = true≢false (sym p)
      clash (Form.Enum x) p q = true≢false (sym p)

      by : (d : Option Do) → the_do ts t ≡ d → d ≡ None
      by None e = refl
      by (Some d) e = absurd (clash (form ts.table.heads t) o (scenarios t d e))

  differ_some : {A : Type 0} {d : Do} → None ≡ Some d → A
  differ_some e = cc

  -- an object without a `do` has no phases
  pub none_within : (n : ℕ) (path : Path) (t : ℕ) (guards : List Guard) (bindings : List Binding) (actor : List Expansion) → the_do ts t ≡ None
      → ((part : Expansion) → In part actor → NoPhases (spots_of ts part)) → NoPhases (spots_of ts (expand_within n ts path t guards bindings actor))
  none_within n path t guards bindings actor h f s i =
      each_within ts (λ path t guards bindings. the_do ts t ≡ None) (λ s. (k : PhaseKind) (ms : List Path) → s.content ≡ Content.Phase k ms → ⊥)
      (λ path t guards bindings h k ms e. object_is k ms e)
      (λ path t guards bindings h f j of typed range is q l k ms e. value_is range k ms e)
      (λ path t guards bindings h d is p j label place kind arguments members e k ms g. differ_some (sym h ∙ is))
      (λ path t guards bindings h d is p j label head names arguments parts e of to k ms g. differ_some (sym h ∙ is))
      (λ path t guards bindings h d is p j k ms g. differ_some (sym h ∙ is))
      (λ path t guards bindings h f j of typed k. object_no_do of (left_of (is_object (form ts.table.heads of)) _ k))
      (λ path t guards bindings h d is p j label head names arguments parts e of to. differ_some (sym h ∙ is))
      n path t guards bindings actor h f s i
    where
      object_is : {v : Bool} (k : PhaseKind) (ms : List Path) → Content.Object v ≡ Content.Phase k ms → ⊥
      object_is k ms e = cc

      value_is : (r : ValueRange) (k : PhaseKind) (ms : List Path) → Content.Value r ≡ Content.Phase k ms → ⊥
      value_is r k ms e = cc

  abbrev pub Made : Maker → Type 0
  Made make = (q : Path) (of : ℕ) (c : List Guard) (b : List Binding) → (the_do ts of ≡ None → NoPhases (spots_of ts (make q of c b))) × Nested (λ r. r ≡ then_do q) (spots_of ts (make q of c b))

  module _ (make : Maker) (made : Made make) (bindings : List Binding) (base : Path) (guards : List Guard) (d : Do) where
    abbrev spots_for : List PhaseHere → List Spot
    spots_for ps = flat_map (λ (p : PhaseHere). spots_in ts (in_row (phase_part make ts (calling bindings base guards d p) p.phase))) ps

    abbrev Here : Path → Path → Type 0
    Here q r = r ≡ from_object base q

    -- a member of a composition, from a number on
    abbrev Among : Path → ℕ → PhaseRow → Path → Type 0
    Among q n row r = (k : ℕ) × (n ≤ k) × (k < n + length (phases_of row)) × (r ≡ from_object base (then_member q k))

    member_at : (q : Path) (k : ℕ) → from_object base (then_member q k) ≡ then_member (from_object base q) k
    member_at q k = ap path_of (sym (joined_again base.steps q.steps (Member k ∷ [])))

    mutual
      nested_at : (q : Path) (way : List Turn) (phase : PhaseTree) → Nested (Here q) (spots_for (phases_at q way phase))
      nested_at q way (Comp label place kind arguments members) = (
        λ k ms e. refl,
        (nested_more (Among q 0 members) (λ r. Here q r ⊎ IsMember (spot (from_object base q) (calling bindings base guards d (record { path = q; way = way; phase = Comp label place kind arguments members })).guards
            (Content.Phase (composition_kind kind arguments) (map (then_member (from_object base q)) (range_with_len 0 (length (phases_of members)))))) r)
            (λ r m. inr (
              composition_kind kind arguments,
              map (then_member (from_object base q)) (range_with_len 0 (length (phases_of members))),
              refl,
              subst (λ z. In z (map (then_member (from_object base q)) (range_with_len 0 (length (phases_of members))))) (sym (m.3 ∙ member_at q m.0)) (in_map (then_member (from_object base q)) (range_with_len 0 (length (phases_of members))) m.0 (range_has 0 (length (phases_of members)) m.0 m.1 m.2)),
            ))
            (spots_for (phases_among kind q way 0 members)) (nested_among kind q way 0 members)),
      )
      nested_at q way (Wait label place elapsed) = (λ k ms e. refl, tt)
      nested_at q way (Invoke label head names arguments parts) = by (invoked ts d.holder head names)
        where
          abbrev_call : Calling
          abbrev_call = calling bindings base guards d (record { path = q; way = way; phase = Invoke label head names arguments parts })

          by : (o : Option ℕ) → Nested (Here q) (spots_in ts (in_row (map (invocation make ts (calling bindings base guards d (record { path = q; way = way; phase = Invoke label head names arguments parts })) head names arguments parts) (option_to_list o))) ++ [])
          by None = tt
          by (Some of) = (λ k ms e. refl, nested_append _ _ [] (nested_append _ _ [] (nested_append _ _ [] (object (the_do ts of) refl) tt) tt) tt)
            where
              abbrev_object : Expansion
              abbrev_object = make (from_object base q) of (calling bindings base guards d (record { path = q; way = way; phase = Invoke label head names arguments parts })).guards
                  (call_bindings ts (calling bindings base guards d (record { path = q; way = way; phase = Invoke label head names arguments parts })) head names arguments of)

              object : (o : Option Do) → the_do ts of ≡ o
                  → Nested (λ r. Here q r ⊎ IsMember (spot (from_object base q) (calling bindings base guards d (record { path = q; way = way; phase = Invoke label head names arguments parts })).guards (Content.Phase (invoked_kind ts (is_some (the_do ts of))) (invoked_members ts (from_object base q) (is_some (the_do ts of))))) r)
                  (spots_of ts (make (from_object base q) of (calling bindings base guards d (record { path = q; way = way; phase = Invoke label head names arguments parts })).guards
                  (call_bindings ts (calling bindings base guards d (record { path = q; way = way; phase = Invoke label head names arguments parts })) head names arguments of)))
              object None e = none_nested _ _ ((made (from_object base q) of _ _).0 e)
              object (Some x) e = nested_more (λ r. r ≡ then_do (from_object base q)) _ (λ r same. inr (invoked_kind ts (is_some (the_do ts of)), invoked_members ts (from_object base q) (is_some (the_do ts of)), refl, subst (λ o. In r (invoked_members ts (from_object base q) (is_some o))) (sym e) (inl same))) _ (made (from_object base q) of _ _).1

      nested_among : (kind : CompKind) (q : Path) (way : List Turn) (n : ℕ) (row : PhaseRow) → Nested (Among q n row) (spots_for (phases_among kind q way n row))
      nested_among kind q way n Tree.End = tt
      nested_among kind q way n (Tree.Phase phase others) =
          subst (Nested (Among q n (Tree.Phase phase others))) (sym (flat_append (λ (p : PhaseHere). spots_in ts (in_row (phase_part make ts (calling bindings base guards d p) p.phase))) (phases_at (then_member q n) (way ++ turns kind q n) phase) (phases_among kind q way (n + 1) others)))
          (nested_append (Among q n (Tree.Phase phase others)) (spots_for (phases_at (then_member q n) (way ++ turns kind q n) phase)) (spots_for (phases_among kind q way (n + 1) others))
          (nested_more (Here (then_member q n)) (Among q n (Tree.Phase phase others)) (λ r same. (n, omega arith, first n (length (phases_of others)), same)) (spots_for (phases_at (then_member q n) (way ++ turns kind q n) phase)) (nested_at (then_member q n) (way ++ turns kind q n) phase))
          (nested_more (Among q (n + 1) others) (Among q n (Tree.Phase phase others)) (λ r m. (m.0, later n m.0 m.1, more_of n m.0 (length (phases_of others)) m.2, m.3)) (spots_for (phases_among kind q way (n + 1) others)) (nested_among kind q way (n + 1) others)))

  -- ---- objects

  pub field_none : (make : Maker) → Made make → (bindings : List Binding) (base : Path) (t : ℕ) (guards : List Guard) (f : Field) (part : Expansion) → In part (field_parts make ts bindings base t guards f) → NoPhases (spots_of ts part)
  field_none make made bindings base t guards f part i =
      let q = then_name base f.name.text in
      let conditions = guards ++ guards_under ts base t f.under in
      let types = option_to_list (field_type ts f) in
      elim (in_either part (map (λ of. make q of conditions []) (filter (λ of. is_object (form ts.table.heads of) && not (is_bound bindings q)) types))
      (flat_map (value_parts q conditions (list_length f.tree)) (filter_map (λ of. range_of (form ts.table.heads of)) types)) i) as (λ _. NoPhases (spots_of ts part)) [
        | inl l ↦
            let m = map_in (λ of. make q of conditions []) (filter (λ of. is_object (form ts.table.heads of) && not (is_bound bindings q)) types) part l in
            let n = in_filter (λ of. is_object (form ts.table.heads of) && not (is_bound bindings q)) types m.0 m.1 in
            subst (λ z. NoPhases (spots_of ts z)) (sym m.2) ((made q m.0 conditions []).0 (object_no_do m.0 (left_of (is_object (form ts.table.heads m.0)) _ n.1)))
        | inr l ↦
            let m = flat_map_in (value_parts q conditions (list_length f.tree)) (filter_map (λ of. range_of (form ts.table.heads of)) types) part l in
            let v = value_spots ts q conditions (list_length f.tree) m.0 part m.2 in
            subst (λ z. NoPhases (spots_of ts z)) (sym v.2) (value_none v.0 conditions m.0)
      ]
    where
      differ : (r : ValueRange) (k : PhaseKind) (ms : List Path) → Content.Value r ≡ Content.Phase k ms → ⊥
      differ r k ms e = cc

      value_none : (v : Path) (conditions : List Guard) (r : ValueRange) → NoPhases (spots_of ts (Value v conditions r))
      value_none v conditions r s (inl e) k ms g = differ r k ms (sym (ap (λ (z : Spot). z.content) e) ∙ g)
      value_none v conditions r s (inr j) k ms g = j

  pub row_none : (parts : List Expansion) → ((part : Expansion) → In part parts → NoPhases (spots_of ts part)) → NoPhases (spots_in ts (in_row parts))
  row_none parts f s i = let g = spots_in_row ts parts s i in f g.0 g.1 s g.2

  pub object_phase : {v : Bool} (k : PhaseKind) (ms : List Path) → Content.Object v ≡ Content.Phase k ms → ⊥
  object_phase k ms e = cc

  module _ (make : Maker) (made : Made make) (path : Path) (t : ℕ) (guards : List Guard) (bindings : List Binding) (actor : List Expansion) (f : (part : Expansion) → In part actor → NoPhases (spots_of ts part)) where
    dos_nested : (o : Option Do) → Nested (λ r. r ≡ then_do path) (spots_in ts (in_row (flat_map (do_parts make ts bindings path guards) (option_to_list o))))
    dos_nested None = tt
    dos_nested (Some d) =
        let parts = do_parts make ts bindings path guards d in
        subst (Nested (λ r. r ≡ then_do path)) (sym (row_append ts parts []))
        (nested_append (λ r. r ≡ then_do path) (spots_in ts (in_row parts)) []
        (subst (Nested (λ r. r ≡ then_do path)) (sym (row_flat ts (λ (p : PhaseHere). phase_part make ts (calling bindings path guards d p) p.phase) (phases_in d.phase)))
        (nested_at make made bindings path guards d (then_do root) [] d.phase)) tt)

    parts_nested : Nested (λ r. r ≡ then_do path) (spots_in ts (in_row (actor ++ flat_map (field_parts make ts bindings path t guards) (fields ts t) ++ flat_map (do_parts make ts bindings path guards) (option_to_list (the_do ts t)))))
    parts_nested =
        let all_fields = flat_map (field_parts make ts bindings path t guards) (fields ts t) in
        let dos = flat_map (do_parts make ts bindings path guards) (option_to_list (the_do ts t)) in
        let before = row_none (actor ++ all_fields) (λ part i. elim (in_either part actor all_fields i) as (λ _. NoPhases (spots_of ts part)) [
          | inl j ↦ f part j
          | inr j ↦ let m = flat_map_in (field_parts make ts bindings path t guards) (fields ts t) part j in field_none make made bindings path t guards m.0 part m.2
        ]) in
        subst (Nested (λ r. r ≡ then_do path)) (sym (row_append ts (actor ++ all_fields) dos))
        (nested_append (λ r. r ≡ then_do path) (spots_in ts (in_row (actor ++ all_fields))) (spots_in ts (in_row dos))
        (none_nested (λ r. r ≡ then_do path) (spots_in ts (in_row (actor ++ all_fields))) before) (dos_nested (the_do ts t)))

  pub nested_within : (n : ℕ) (path : Path) (t : ℕ) (guards : List Guard) (bindings : List Binding) (actor : List Expansion) → ((part : Expansion) → In part actor → NoPhases (spots_of ts part))
      → Nested (λ r. r ≡ then_do path) (spots_of ts (expand_within n ts path t guards bindings actor))
  nested_within zero path t guards bindings actor f = (λ k ms e. absurd (object_phase k ms e), tt)
  nested_within (suc n) path t guards bindings actor f = (
    λ k ms e. absurd (object_phase k ms e),
    nested_more (λ r. r ≡ then_do path) (λ r. (r ≡ then_do path) ⊎ IsMember (spot path guards (Content.Object (is_vehicle ts t))) r) (λ r o. inl o)
        (spots_in ts (in_row (actor ++ flat_map (field_parts (λ q of conditions bound. expand_within n ts q of conditions bound []) ts bindings path t guards) (fields ts t)
        ++ flat_map (do_parts (λ q of conditions bound. expand_within n ts q of conditions bound []) ts bindings path guards) (option_to_list (the_do ts t)))))
        (parts_nested (λ q of conditions bound. expand_within n ts q of conditions bound [])
        (λ q of c b. (λ e. none_within n q of c b [] e (λ part j. absurd j), nested_within n q of c b [] (λ part j. absurd j))) path t guards bindings actor f),
  )

  module _ (actors : HaveActors ts.table.heads) (t : ℕ) (setting : Setting) where
    actor_object : (f : Form) → is_actor f ≡ true → is_object f ≡ true
    actor_object (Form.Compound CompoundKind.Struct) h = refl
    actor_object (Form.Compound CompoundKind.Actor) h = refl
    actor_object (Form.Compound CompoundKind.Action) h = absurd (true≢false (sym h))
    actor_object (Form.Compound CompoundKind.Scenario) h = absurd (true≢false (sym h))
    actor_object Form.Int h = absurd (true≢false (sym h))
    actor_object Form.Uint h = absurd (true≢false (sym h))
    actor_object Form.Float h = absurd (true≢false (sym h))
    actor_object Form.Truth h = absurd (true≢false (sym h))
    actor_object Form.Chars h = absurd (true≢false (sym h))
    actor_object (Form.Physical x) h = absurd (true≢false (sym h))
    actor_object (Form.Enum x) h = absurd (true≢false (sym h))

    pub own_actor_none : (part : Expansion) → In part (own_actor ts t) → NoPhases (spots_of ts part)
    own_actor_none part i =
        let m = map_in (λ a. expand_within (length ts.table.heads) ts (then_name root (codes "actor")) a [] [] []) (option_to_list (owner ts.table.heads t)) part i in
        let no_do = object_no_do m.0 (actor_object (form ts.table.heads m.0) (actors t m.0 (of_option (owner ts.table.heads t) m.0 m.1))) in
        subst (λ z. NoPhases (spots_of ts z)) (sym m.2) (none_within (length ts.table.heads) (then_name root (codes "actor")) m.0 [] [] [] no_do (λ p j. absurd j))

    pub all_nested : are_nested [] (phases (scene ts t setting)) ≡ true
    all_nested = tested (λ r. r ≡ then_do root) [] (λ q same. subst (λ z. (same_path z root_do || false) ≡ true) (sym same) refl) (spots_of ts (expansion ts t)) (nested_within (length ts.table.heads) root t [] [] (own_actor ts t) own_actor_none)
