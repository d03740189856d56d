-- The members of a phase are phases, under the conditions that its kind says.
use Rattle.std.proofs.Common.{◌≡◌, ℕ, zero, suc, ◌+◌, ◌≤◌, ◌<◌, refl, sym, ap, ◌∙◌, subst, inl, inr, List, [], ◌∷◌, ◌++◌, Bool, true, false, cond, Option, Some, None, map, length, arith, true≢false}
use Rattle.std.specs.Prelude.{filter_map, option_to_list, is_some, bytes_eq, codes, nat_eq}
use Rattle.std.specs.List.{list_all, range_with_len}
use Rattle.field_flatten.specs.osc_base.declared.fault.Place.{Place}
use Rattle.field_flatten.specs.osc_base.declared.path.Path.{Path}
use Rattle.field_flatten.specs.osc_base.declared.path.Step.TheVariants.{Member}
use Rattle.field_flatten.specs.osc_base.Comparisons.{same_number}
use Rattle.field_flatten.specs.osc_base.Paths.{path_of, root, same_path, then_name, then_member, then_do}
use Rattle.expansion_laws.specs.dsl_tree.declared.parts.Ident.{Ident}
use Rattle.expansion_laws.specs.dsl_tree.declared.phases.CompKind.{CompKind}
use Rattle.expansion_laws.specs.dsl_tree.declared.phases.InvokeHead.{InvokeHead}
use Rattle.expansion_laws.specs.dsl_tree.ExprTree.{ExprTree}
use Rattle.expansion_laws.specs.dsl_tree.PhaseTree as Tree
use Rattle.expansion_laws.specs.dsl_tree.PhaseTree.{ArgumentTree, PartTree, PhaseTree, Comp, Invoke, Wait, PhaseRow, phases_of}
use Rattle.expansion_laws.specs.type_heads.Table.{owner}
use Rattle.expansion_laws.specs.type_heads.Types.{Types, Field, Do}
use Rattle.expansion_laws.specs.type_heads.Members.{fields, the_do}
use Rattle.expansion_laws.specs.composition.declared.guard.Guard.{Guard}
use Rattle.expansion_laws.specs.composition.declared.setting.Setting.{Setting}
use Rattle.expansion_laws.specs.composition.declared.spot.PhaseKind.{PhaseKind}
use Rattle.expansion_laws.specs.composition.declared.spot.PhaseSpot.{PhaseSpot}
use Rattle.expansion_laws.specs.composition.declared.spot.ValueRange.{ValueRange}
use Rattle.expansion_laws.specs.composition.Calls.{Turn, turns, PhaseHere, phases_at, phases_among, phases_in, invoked}
use Rattle.expansion_laws.specs.composition.Scenes.{Content, Spot, Scene, Binding, phase_spot, phases, has_phase, guards}
use Rattle.expansion_laws.specs.composition.There.{same_guard}
use Rattle.expansion_laws.specs.composition.Expansion.{Expansion, Maker, Calling, from_object, calling, argument_named, overlap_kind, composition_kind, invocation, phase_part, expand_within, expansion}
use Rattle.expansion_laws.specs.composition.Expanded.{spot, spots_of, scene}
use Rattle.expansion_laws.specs.composition.Invariants.{same_guards, is_member, are_choices, are_members}
use Rattle.field_flatten.proofs.Tests.{both, In, in_left, in_right, in_either, in_map, map_in, all_from, any_from, path_self, number_self}
use Rattle.field_flatten.proofs.Presence.{same_number_self}
use Rattle.scene_laws.specs.Premises.{is_free}
use Rattle.scene_laws.proofs.Picked.{filter_map_in}
use Rattle.scene_laws.proofs.EachSpot.{invoked_kind, invoked_members, call_bindings, each_spot}
use Rattle.scene_laws.proofs.FieldNames.{Pairs, NamesDiffer}
use Rattle.scene_laws.proofs.Steps.{joined_again}
use Rattle.scene_laws.proofs.DistinctPaths.{spot_guards}
use Rattle.scene_laws.proofs.WholeRun.{filter_in}
use Rattle.scene_laws.proofs.PlacedObjects.{IsAcyclic, Placed, phase_in, field_placed, call_placed}

-- ---- phases among phases

first_at : (path : Path) (way : List Turn) (phase : PhaseTree) → In (record { path = path; way = way; phase = phase }) (phases_at path way phase)
first_at path way (Comp label place kind arguments members) = inl refl
first_at path way (Invoke label head names arguments parts) = inl refl
first_at path way (Wait label place elapsed) = inl refl

-- a phase that stands at a path by a way
abbrev IsAt : Path → List Turn → List PhaseHere → Type 0
IsAt path way ps = (phase : PhaseTree) × In (record { path = path; way = way; phase = phase }) ps

less_row : (k m : ℕ) → suc k < suc m → k < m
less_row k m h = omega (arith, h)

among_at : (kind : CompKind) (path : Path) (way : List Turn) (n : ℕ) (row : PhaseRow) (k : ℕ) → k < length (phases_of row) → IsAt (then_member path (n + k)) (way ++ turns kind path (n + k)) (phases_among kind path way n row)
among_at kind path way n Tree.End k h = absurd (none k h)
  where
    none : (k : ℕ) → k < 0 → ⊥
    none k h = absurd (omega (arith, h))
among_at kind path way n (Tree.Phase phase others) zero h =
    subst (λ m. IsAt (then_member path m) (way ++ turns kind path m) (phases_among kind path way n (Tree.Phase phase others))) (zero_after n)
    (phase, in_left (record { path = then_member path n; way = way ++ turns kind path n; phase = phase }) (phases_at (then_member path n) (way ++ turns kind path n) phase) (phases_among kind path way (n + 1) others) (first_at (then_member path n) (way ++ turns kind path n) phase))
  where
    zero_after : (n : ℕ) → n ≡ n + 0
    zero_after n = omega arith
among_at kind path way n (Tree.Phase phase others) (suc k) h =
    let g = among_at kind path way (n + 1) others k (less_row k (length (phases_of others)) h) in
    subst (λ m. IsAt (then_member path m) (way ++ turns kind path m) (phases_among kind path way n (Tree.Phase phase others))) (moved n k)
    (g.0, in_right (record { path = then_member path ((n + 1) + k); way = way ++ turns kind path ((n + 1) + k); phase = g.0 }) (phases_at (then_member path n) (way ++ turns kind path n) phase) (phases_among kind path way (n + 1) others) g.1)
  where
    moved : (n k : ℕ) → (n + 1) + k ≡ n + suc k
    moved n k = omega arith

module _ (label : Option Ident) (place : Place) (kind : CompKind) (arguments : List ArgumentTree) (members : PhaseRow) (k : ℕ) (few : k < length (phases_of members)) where
  mutual
    member_at : (path : Path) (way : List Turn) (phase : PhaseTree) (p : PhaseHere) → In p (phases_at path way phase) → p.phase ≡ Comp label place kind arguments members
        → IsAt (then_member p.path k) (p.way ++ turns kind p.path k) (phases_at path way phase)
    member_at path way (Comp l q c args ms) p (inl e) h = by c ms (kinds (sym (ap (λ (z : PhaseHere). z.phase) e) ∙ h)) (rows (sym (ap (λ (z : PhaseHere). z.phase) e) ∙ h)) e
      where
        kinds : Comp l q c args ms ≡ Comp label place kind arguments members → c ≡ kind
        kinds g = cc

        rows : Comp l q c args ms ≡ Comp label place kind arguments members → ms ≡ members
        rows g = cc

        zero_less : (n : ℕ) → 0 + n ≡ n
        zero_less n = omega arith

        by : (d : CompKind) (ns : PhaseRow) → d ≡ kind → ns ≡ members → p ≡ record { path = path; way = way; phase = Comp l q d args ns }
            → IsAt (then_member p.path k) (p.way ++ turns kind p.path k) (record { path = path; way = way; phase = Comp l q d args ns } ∷ phases_among d path way 0 ns)
        by d ns f g same =
            let found = among_at d path way 0 ns k (subst (λ z. k < length (phases_of z)) (sym g) few) in
            let here : IsAt (then_member path k) (way ++ turns d path k) (phases_among d path way 0 ns) = subst (λ m. IsAt (then_member path m) (way ++ turns d path m) (phases_among d path way 0 ns)) (zero_less k) found in
            let kind_is : IsAt (then_member path k) (way ++ turns kind path k) (phases_among d path way 0 ns) = subst (λ z. IsAt (then_member path k) (way ++ turns z path k) (phases_among d path way 0 ns)) f here in
            subst (λ (z : PhaseHere). IsAt (then_member z.path k) (z.way ++ turns kind z.path k) (record { path = path; way = way; phase = Comp l q d args ns } ∷ phases_among d path way 0 ns)) (sym same) (kind_is.0, inr kind_is.1)
    member_at path way (Comp l q c args ms) p (inr i) h = let g = member_among c path way 0 ms p i h in (g.0, inr g.1)
    member_at path way (Invoke l hd ns args ps) p (inl e) h = absurd (differ (sym (ap (λ (z : PhaseHere). z.phase) e) ∙ h))
      where
        differ : Invoke l hd ns args ps ≡ Comp label place kind arguments members → ⊥
        differ g = cc
    member_at path way (Invoke l hd ns args ps) p (inr i) h = absurd i
    member_at path way (Wait l q x) p (inl e) h = absurd (differ (sym (ap (λ (z : PhaseHere). z.phase) e) ∙ h))
      where
        differ : Wait l q x ≡ Comp label place kind arguments members → ⊥
        differ g = cc
    member_at path way (Wait l q x) p (inr i) h = absurd i

    member_among : (c : CompKind) (path : Path) (way : List Turn) (n : ℕ) (row : PhaseRow) (p : PhaseHere) → In p (phases_among c path way n row) → p.phase ≡ Comp label place kind arguments members
        → IsAt (then_member p.path k) (p.way ++ turns kind p.path k) (phases_among c path way n row)
    member_among c path way n Tree.End p i h = absurd i
    member_among c path way n (Tree.Phase phase others) p i h =
        elim (in_either p (phases_at (then_member path n) (way ++ turns c path n) phase) (phases_among c path way (n + 1) others) i) as (λ _. IsAt (then_member p.path k) (p.way ++ turns kind p.path k) (phases_among c path way n (Tree.Phase phase others))) [
          | inl j ↦ let g = member_at (then_member path n) (way ++ turns c path n) phase p j h in (g.0, in_left _ (phases_at (then_member path n) (way ++ turns c path n) phase) (phases_among c path way (n + 1) others) g.1)
          | inr j ↦ let g = member_among c path way (n + 1) others p j h in (g.0, in_right _ (phases_at (then_member path n) (way ++ turns c path n) phase) (phases_among c path way (n + 1) others) g.1)
        ]

-- ---- conditions

guard_same : (g : Guard) → same_guard g g ≡ true
guard_same (Guard.Choice phase member) = both (nat_eq member member) (same_path phase phase) (number_self member) (path_self phase)
guard_same (Guard.Value path value) = both (same_number value value) (same_path path path) (same_number_self value) (path_self path)

guards_same : (gs : List Guard) → same_guards gs gs ≡ true
guards_same [] = refl
guards_same (g ∷ gs) = both (same_guard g g) (same_guards gs gs) (guard_same g) (guards_same gs)

map_append : {A B : Type 0} (f : A → B) (xs ys : List A) → map f (xs ++ ys) ≡ map f xs ++ map f ys
map_append f [] ys = refl
map_append f (x ∷ xs) ys = ap (λ l. f x ∷ l) (map_append f xs ys)

nil_after : {A : Type 0} (xs : List A) → xs ++ [] ≡ xs
nil_after [] = refl
nil_after (x ∷ xs) = ap (λ l. x ∷ l) (nil_after xs)

-- a kind of which all members stand under the conditions of the whole
abbrev is_plain : PhaseKind → Bool
is_plain PhaseKind.OneOf = false
is_plain PhaseKind.Action = false
is_plain PhaseKind.Wait = false
is_plain _ = true

overlap_plain : (o : Option ExprTree) → is_plain (overlap_kind o) ≡ true
overlap_plain None = refl
overlap_plain (Some (ExprTree.Name i)) = by (bytes_eq i.text (codes "end")) (bytes_eq i.text (codes "equal")) (bytes_eq i.text (codes "any"))
  where
    by : (a b c : Bool) → is_plain (cond a PhaseKind.End (cond b PhaseKind.Equal (cond c PhaseKind.Any PhaseKind.Start))) ≡ true
    by true b c = refl
    by false true c = refl
    by false false true = refl
    by false false false = refl
overlap_plain (Some (ExprTree.Implies p l r)) = refl
overlap_plain (Some (ExprTree.Or p o l r)) = refl
overlap_plain (Some (ExprTree.And p o l r)) = refl
overlap_plain (Some (ExprTree.Not p x)) = refl
overlap_plain (Some (ExprTree.Relation p s l r)) = refl
overlap_plain (Some (ExprTree.Sum p o l r)) = refl
overlap_plain (Some (ExprTree.Product p o l r)) = refl
overlap_plain (Some (ExprTree.Minus p x)) = refl
overlap_plain (Some (ExprTree.Dot h n)) = refl
overlap_plain (Some (ExprTree.Index p h i)) = refl
overlap_plain (Some (ExprTree.Number d)) = refl
overlap_plain (Some (ExprTree.Physical d u)) = refl
overlap_plain (Some (ExprTree.Chars p t)) = refl
overlap_plain (Some (ExprTree.Truth p v)) = refl
overlap_plain (Some (ExprTree.It p)) = refl
overlap_plain (Some (ExprTree.Actor p)) = refl
overlap_plain (Some (ExprTree.EnumName e m)) = refl
overlap_plain (Some (ExprTree.Group p x)) = refl
overlap_plain (Some (ExprTree.Span p l h)) = refl
overlap_plain (Some (ExprTree.Listed p xs)) = refl
overlap_plain (Some (ExprTree.RangeCall p l h)) = refl
overlap_plain (Some (ExprTree.Start f)) = refl

range_within : (a n k : ℕ) → In k (range_with_len a n) → (a ≤ k) × (k < a + n)
range_within a zero k i = absurd i
range_within a (suc n) k (inl e) = (at_least a k e, at_most a n k e)
  where
    at_least : (a k : ℕ) → k ≡ a → a ≤ k
    at_least a k e = omega (arith, e)

    at_most : (a n k : ℕ) → k ≡ a → k < a + suc n
    at_most a n k e = omega (arith, e)
range_within a (suc n) k (inr i) = let r = range_within (a + 1) n k i in (less a k r.0, more a n k r.1)
  where
    less : (a k : ℕ) → a + 1 ≤ k → a ≤ k
    less a k h = omega (arith, h)

    more : (a n k : ℕ) → k < (a + 1) + n → k < a + suc n
    more a n k h = omega (arith, h)

-- each invocation of a program is of something
abbrev pub Resolves : Types → Type 0
Resolves ts = (t : ℕ) (d : Do) → the_do ts t ≡ Some d → (p : PhaseHere) → In p (phases_in d.phase) → (label : Option Ident) (head : InvokeHead) (names : List Ident) (arguments : List ArgumentTree) (parts : List PartTree)
    → p.phase ≡ Invoke label head names arguments parts → (of : ℕ) × (invoked ts d.holder head names ≡ Some of)

module _ (ts : Types) (a : IsAcyclic ts) (names : (t : ℕ) → Pairs NamesDiffer (fields ts t)) (free : (t : ℕ) (f : Field) → In f (fields ts t) → is_free f.name.text ≡ true) (resolves : Resolves ts) (whole : ℕ) (setting : Setting) where
  abbrev all : List Spot
  all = spots_of ts (expansion ts whole)

  abbrev here : Scene
  here = scene ts whole setting

  comp_part : (make : Maker) (call : Calling) (label : Option Ident) (place : Place) (kind : CompKind) (arguments : List ArgumentTree) (members : PhaseRow)
      → (part : Expansion) × In part (phase_part make ts call (Comp label place kind arguments members)) × In (spot call.path call.guards (Content.Phase (composition_kind kind arguments) (map (then_member call.path) (range_with_len 0 (length (phases_of members)))))) (spots_of ts part)
  comp_part make call label place kind arguments members = (_, inl refl, inl refl)

  wait_part : (make : Maker) (call : Calling) (label : Option Ident) (place : Place) (elapsed : ExprTree)
      → (part : Expansion) × In part (phase_part make ts call (Wait label place elapsed)) × In (spot call.path call.guards (Content.Phase PhaseKind.Wait [])) (spots_of ts part)
  wait_part make call label place elapsed = (_, inl refl, inl refl)

  -- a phase is at a path under conditions
  phase_member : (path : Path) (conditions : List Guard) (k : PhaseKind) (ms : List Path) → In (spot path conditions (Content.Phase k ms)) all → (wanted : List Guard) → conditions ≡ wanted → is_member here wanted path ≡ true
  phase_member path conditions k ms i wanted same =
      both (has_phase here path) (same_guards (guards here path) wanted)
      (any_from (λ (p : PhaseSpot). same_path p.path path) (phases here) (record { path = path; kind = k; members = ms }) (filter_in (λ (s : Spot). phase_spot s.path s.content) all (spot path conditions (Content.Phase k ms)) (record { path = path; kind = k; members = ms }) i refl) (path_self path))
      (subst (λ gs. same_guards gs wanted ≡ true) (sym (spot_guards ts names free whole setting (spot path conditions (Content.Phase k ms)) i ∙ same)) (guards_same wanted))

  module _ (path : Path) (t : ℕ) (conditions : List Guard) (bindings : List Binding) (placed : Placed ts a all path t conditions bindings) (d : Do) (is : the_do ts t ≡ Some d) where
    -- each phase of the object's `do` is among the spots
    phase_there : (p : PhaseHere) → In p (phases_in d.phase) → (k : PhaseKind) × (ms : List Path) × In (spot (calling bindings path conditions d p).path (calling bindings path conditions d p).guards (Content.Phase k ms)) all
    phase_there p i = by p.phase refl
      where
        make : Maker
        make = λ q of c b. expand_within placed.steps ts q of c b []

        by : (phase : PhaseTree) → p.phase ≡ phase → (k : PhaseKind) × (ms : List Path) × In (spot (calling bindings path conditions d p).path (calling bindings path conditions d p).guards (Content.Phase k ms)) all
        by (Comp label place kind arguments members) e =
            let part = comp_part (λ q of c b. expand_within placed.steps ts q of c b []) (calling bindings path conditions d p) label place kind arguments members in (
              composition_kind kind arguments,
              map (then_member (calling bindings path conditions d p).path) (range_with_len 0 (length (phases_of members))),
              phase_in ts a all path t conditions bindings placed d is p i part.0 (subst (λ z. In part.0 (phase_part (λ q of c b. expand_within placed.steps ts q of c b []) ts (calling bindings path conditions d p) z)) (sym e) part.1)
                  (spot (calling bindings path conditions d p).path (calling bindings path conditions d p).guards (Content.Phase (composition_kind kind arguments) (map (then_member (calling bindings path conditions d p).path) (range_with_len 0 (length (phases_of members)))))) part.2,
            )
        by (Wait label place elapsed) e =
            let part = wait_part (λ q of c b. expand_within placed.steps ts q of c b []) (calling bindings path conditions d p) label place elapsed in (
              PhaseKind.Wait,
              [],
              phase_in ts a all path t conditions bindings placed d is p i part.0 (subst (λ z. In part.0 (phase_part (λ q of c b. expand_within placed.steps ts q of c b []) ts (calling bindings path conditions d p) z)) (sym e) part.1)
                  (spot (calling bindings path conditions d p).path (calling bindings path conditions d p).guards (Content.Phase PhaseKind.Wait [])) part.2,
            )
        by (Invoke label head names arguments parts) e =
            let r = resolves t d is p i label head names arguments parts e in (
              invoked_kind ts (is_some (the_do ts r.0)),
              invoked_members ts (calling bindings path conditions d p).path (is_some (the_do ts r.0)),
              phase_in ts a all path t conditions bindings placed d is p i (invocation (λ q of c b. expand_within placed.steps ts q of c b []) ts (calling bindings path conditions d p) head names arguments parts r.0)
                  (subst (λ z. In (invocation (λ q of c b. expand_within placed.steps ts q of c b []) ts (calling bindings path conditions d p) head names arguments parts r.0) (phase_part (λ q of c b. expand_within placed.steps ts q of c b []) ts (calling bindings path conditions d p) z)) (sym e)
                  (in_map (invocation (λ q of c b. expand_within placed.steps ts q of c b []) ts (calling bindings path conditions d p) head names arguments parts) (option_to_list (invoked ts d.holder head names)) r.0 (option_in (invoked ts d.holder head names) r.0 r.1)))
                  (spot (calling bindings path conditions d p).path (calling bindings path conditions d p).guards (Content.Phase (invoked_kind ts (is_some (the_do ts r.0))) (invoked_members ts (calling bindings path conditions d p).path (is_some (the_do ts r.0))))) (inl refl),
            )
          where
            option_in : (o : Option ℕ) (x : ℕ) → o ≡ Some x → In x (option_to_list o)
            option_in None x f = cc
            option_in (Some y) x f = let same : y ≡ x = cc in inl (sym same)

    -- a phase of the `do` at a path and by a way is a member under the conditions of that way
    at_member : (q : Path) (way : List Turn) → IsAt q way (phases_in d.phase) → (wanted : List Guard) → (conditions ++ map (λ (turn : Turn). Guard.Choice (from_object path turn.phase) turn.member) way) ≡ wanted → is_member here wanted (from_object path q) ≡ true
    at_member q way i wanted same =
        let g = phase_there (record { path = q; way = way; phase = i.0 }) i.1 in
        phase_member (from_object path q) (conditions ++ map (λ (turn : Turn). Guard.Choice (from_object path turn.phase) turn.member) way) g.0 g.1 g.2 wanted same

    module _ (p : PhaseHere) (i : In p (phases_in d.phase)) (label : Option Ident) (place : Place) (kind : CompKind) (arguments : List ArgumentTree) (members : PhaseRow) (e : p.phase ≡ Comp label place kind arguments members) where
      abbrev at : Path
      at = from_object path p.path

      abbrev choices_of : List Turn → List Guard
      choices_of way = map (λ (turn : Turn). Guard.Choice (from_object path turn.phase) turn.member) way

      own_guards : guards here at ≡ conditions ++ choices_of p.way
      own_guards = let g = phase_there p i in spot_guards ts names free whole setting (spot at (conditions ++ choices_of p.way) (Content.Phase g.0 g.1)) g.2

      member_path : (k : ℕ) → from_object path (then_member p.path k) ≡ then_member at k
      member_path k = ap path_of (sym (joined_again path.steps p.path.steps (Member k ∷ [])))

      member_of : (k : ℕ) → k < length (phases_of members) → (wanted : List Guard) → (conditions ++ choices_of (p.way ++ turns kind p.path k)) ≡ wanted → is_member here wanted (then_member at k) ≡ true
      member_of k few wanted same =
          subst (λ z. is_member here wanted z ≡ true) (member_path k)
          (at_member (then_member p.path k) (p.way ++ turns kind p.path k) (member_at label place kind arguments members k few (then_do root) [] d.phase p i e) wanted same)

      plain_all : ((k : ℕ) → turns kind p.path k ≡ []) → list_all (is_member here (guards here at)) (map (then_member at) (range_with_len 0 (length (phases_of members)))) ≡ true
      plain_all none = all_from (is_member here (guards here at)) (map (then_member at) (range_with_len 0 (length (phases_of members)))) (λ m j.
          let g = map_in (then_member at) (range_with_len 0 (length (phases_of members))) m j in
          subst (λ z. is_member here (guards here at) z ≡ true) (sym g.2)
          (member_of g.0 (few g.0 (range_within 0 (length (phases_of members)) g.0 g.1).1) (guards here at)
          (ap (λ l. conditions ++ choices_of l) (ap (λ l. p.way ++ l) (none g.0) ∙ nil_after p.way) ∙ sym own_guards)))
        where
          few : (k : ℕ) → k < 0 + length (phases_of members) → k < length (phases_of members)
          few k h = omega (arith, h)

      plain_members : (k : PhaseKind) → is_plain k ≡ true → list_all (is_member here (guards here at)) (map (then_member at) (range_with_len 0 (length (phases_of members)))) ≡ true
          → are_members here (record { path = at; kind = k; members = map (then_member at) (range_with_len 0 (length (phases_of members))) }) k ≡ true
      plain_members PhaseKind.Serial h g = g
      plain_members PhaseKind.Start h g = g
      plain_members PhaseKind.End h g = g
      plain_members PhaseKind.Equal h g = g
      plain_members PhaseKind.Any h g = g
      plain_members PhaseKind.Scenario h g = g
      plain_members PhaseKind.OneOf h g = absurd (true≢false (sym h))
      plain_members PhaseKind.Action h g = absurd (true≢false (sym h))
      plain_members PhaseKind.Wait h g = absurd (true≢false (sym h))

      chosen : ((k : ℕ) → turns kind p.path k ≡ record { phase = p.path; member = k } ∷ []) → (n k : ℕ) → k + n ≤ length (phases_of members) → are_choices here at (guards here at) k (map (then_member at) (range_with_len k n)) ≡ true
      chosen one zero k h = refl
      chosen one (suc n) k h =
          both (is_member here (guards here at ++ Guard.Choice at k ∷ []) (then_member at k)) (are_choices here at (guards here at) (k + 1) (map (then_member at) (range_with_len (k + 1) n)))
          (member_of k (few k n (length (phases_of members)) h) (guards here at ++ Guard.Choice at k ∷ [])
          (ap (λ l. conditions ++ choices_of (p.way ++ l)) (one k) ∙ ap (λ l. conditions ++ l) (map_append (λ (turn : Turn). Guard.Choice (from_object path turn.phase) turn.member) p.way (record { phase = p.path; member = k } ∷ []))
          ∙ sym (joined_again conditions (choices_of p.way) (Guard.Choice at k ∷ [])) ∙ ap (λ l. l ++ Guard.Choice at k ∷ []) (sym own_guards)))
          (chosen one n (k + 1) (next k n (length (phases_of members)) h))
        where
          few : (k n m : ℕ) → k + suc n ≤ m → k < m
          few k n m h = omega (arith, h)

          next : (k n m : ℕ) → k + suc n ≤ m → (k + 1) + n ≤ m
          next k n m h = omega (arith, h)

      composed : are_members here (record { path = at; kind = composition_kind kind arguments; members = map (then_member at) (range_with_len 0 (length (phases_of members))) }) (composition_kind kind arguments) ≡ true
      composed = by kind refl
        where
          all_of : (n : ℕ) → 0 + n ≤ n
          all_of n = omega arith

          by : (c : CompKind) → c ≡ kind → are_members here (record { path = at; kind = composition_kind c arguments; members = map (then_member at) (range_with_len 0 (length (phases_of members))) }) (composition_kind c arguments) ≡ true
          by CompKind.Serial f = plain_members PhaseKind.Serial refl (plain_all (λ k. ap (λ c. turns c p.path k) (sym f)))
          by CompKind.Parallel f = plain_members (overlap_kind (argument_named (codes "overlap") arguments)) (overlap_plain (argument_named (codes "overlap") arguments)) (plain_all (λ k. ap (λ c. turns c p.path k) (sym f)))
          by CompKind.OneOf f = chosen (λ k. ap (λ c. turns c p.path k) (sym f)) (length (phases_of members)) 0 (all_of (length (phases_of members)))

  abbrev HasMembers : Spot → Type 0
  HasMembers s = (k : PhaseKind) (ms : List Path) → s.content ≡ Content.Phase k ms → are_members here (record { path = s.path; kind = k; members = ms }) k ≡ true

  same_phase : (path : Path) (k l : PhaseKind) (ms ns : List Path) → Content.Phase k ms ≡ Content.Phase l ns → are_members here (record { path = path; kind = k; members = ms }) k ≡ true → are_members here (record { path = path; kind = l; members = ns }) l ≡ true
  same_phase path k l ms ns e h =
      let kinds : k ≡ l = cc in
      let rows : ms ≡ ns = cc in
      subst (λ z. are_members here (record { path = path; kind = z; members = ns }) z ≡ true) kinds (subst (λ z. are_members here (record { path = path; kind = k; members = z }) k ≡ true) rows h)

  module _ (first : Placed ts a all root whole [] []) (actor : (x : ℕ) → owner ts.table.heads whole ≡ Some x → Placed ts a all (then_name root (codes "actor")) x [] []) where
    invoked_ok : (path : Path) (t : ℕ) (conditions : List Guard) (bindings : List Binding) → Placed ts a all path t conditions bindings → (d : Do) → the_do ts t ≡ Some d → (p : PhaseHere) → In p (phases_in d.phase)
        → (label : Option Ident) (head : InvokeHead) (ns : List Ident) (arguments : List ArgumentTree) (parts : List PartTree) → p.phase ≡ Invoke label head ns arguments parts → (of : ℕ) → invoked ts d.holder head ns ≡ Some of
        → are_members here (record { path = (calling bindings path conditions d p).path; kind = invoked_kind ts (is_some (the_do ts of)); members = invoked_members ts (calling bindings path conditions d p).path (is_some (the_do ts of)) }) (invoked_kind ts (is_some (the_do ts of))) ≡ true
    invoked_ok path t conditions bindings placed d is p i label head ns arguments parts e of to = by (the_do ts of) refl
      where
        by : (o : Option Do) → the_do ts of ≡ o
            → are_members here (record { path = (calling bindings path conditions d p).path; kind = invoked_kind ts (is_some o); members = invoked_members ts (calling bindings path conditions d p).path (is_some o) }) (invoked_kind ts (is_some o)) ≡ true
        by None f = refl
        by (Some inner) f =
            let call = calling bindings path conditions d p in
            let child = call_placed ts a all path t conditions bindings placed d is p i label head ns arguments parts e of to in
            let bound = call_bindings ts call head ns arguments of in
            let there = phase_there path t conditions bindings placed d is p i in
            let own = spot_guards ts names free whole setting (spot call.path call.guards (Content.Phase there.0 there.1)) there.2 in
            both (is_member here (guards here call.path) (then_do call.path)) true
            (at_member call.path of call.guards bound child inner f (then_do root) [] (inner.phase, first_at (then_do root) [] inner.phase) (guards here call.path) (nil_after call.guards ∙ sym own)) refl

    pub all_members_of : (s : Spot) → In s all → HasMembers s
    all_members_of s i =
        each_spot ts (λ path t conditions bindings. Placed ts a all path t conditions bindings) HasMembers
        (λ path t conditions bindings h k ms e. absurd (object_is k ms e))
        (λ path t conditions bindings h f j of typed range is q l k ms e. absurd (value_is range k ms e))
        (λ path t conditions bindings h d is p j label place kind arguments members e k ms g. same_phase _ _ k _ ms g (composed path t conditions bindings h d is p j label place kind arguments members e))
        (λ path t conditions bindings h d is p j label head ns arguments parts e of to k ms g. same_phase _ _ k _ ms g (invoked_ok path t conditions bindings h d is p j label head ns arguments parts e of to))
        (λ path t conditions bindings h d is p j k ms g. same_phase _ PhaseKind.Wait k [] ms g refl)
        (λ path t conditions bindings h f j of typed k. field_placed ts a all path t conditions bindings h f j of typed k)
        (λ path t conditions bindings h d is p j label head ns arguments parts e of to. call_placed ts a all path t conditions bindings h d is p j label head ns arguments parts e of to)
        whole first actor s i
      where
        object_is : {v : Bool} (k : PhaseKind) (ms : List Path) → Content.Object v ≡ Content.Phase k ms → ⊥
        object_is k ms e = cc

        value_is : (r : ValueRange) (k : PhaseKind) (ms : List Path) → Content.Value r ≡ Content.Phase k ms → ⊥
        value_is r k ms e = cc

    pub all_members_hold : list_all (λ (p : PhaseSpot). are_members here p p.kind) (phases here) ≡ true
    all_members_hold = all_from (λ (p : PhaseSpot). are_members here p p.kind) (phases here) (λ p i.
        let g = filter_map_in (λ (s : Spot). phase_spot s.path s.content) all p i in
        of_spot g.0.path g.0.content p g.2 (all_members_of g.0 g.1))
      where
        of_spot : (path : Path) (content : Content) (p : PhaseSpot) → phase_spot path content ≡ Some p → ((k : PhaseKind) (ms : List Path) → content ≡ Content.Phase k ms → are_members here (record { path = path; kind = k; members = ms }) k ≡ true) → are_members here p p.kind ≡ true
        of_spot path (Content.Phase k ms) p e f = let same : record { path = path; kind = k; members = ms } ≡ p = cc in subst (λ (z : PhaseSpot). are_members here z z.kind ≡ true) same (f k ms refl)
        of_spot path (Content.Object v) p e f = cc
        of_spot path (Content.Value r) p e f = cc
