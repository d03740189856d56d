-- The paths of a scene whose fields have names of letters, digits and `_` have texts.
use Rattle.std.proofs.Common.{◌≡◌, ◌∙◌, refl, sym, ap, subst, inl, inr, ◌⊎◌, ℕ, suc, ◌+◌, ◌^◌, ◌<◌, ◌≤◌, Bool, true, false, cond, ◌&&◌, ◌||◌, not, List, [], ◌∷◌, ◌++◌, map, length, Option, Some, None, arith, true≢false}
use Rattle.std.specs.Prelude.{⊤, bytes_eq, codes, is_some, nat_le, nat_lt, option_to_list}
use Rattle.std.specs.List.{list_all, list_any, range_with_len}
use Rattle.std.proofs.lemmas.Bool.{and_parts, false≢true, leb-true, lt-ltb}
use Rattle.std.proofs.lemmas.List.FromFn.{length-range_with_len}
use Rattle.osc_base.specs.PathTexts.{are_steps, before_member, is_name, is_step, is_written}
use Rattle.osc_base.specs.Paths.{root, same_path, then_name, then_index, then_member, then_do}
use Rattle.osc_base.specs.declared.path.Path.{Path}
use Rattle.osc_base.specs.declared.path.Step.{Step}
use Rattle.osc_base.specs.declared.path.Step.TheVariants.{Name, Index, Member}
use Rattle.source_scenes.specs.dsl_tree.declared.parts.Ident.{Ident}
use Rattle.source_scenes.specs.dsl_tree.declared.phases.InvokeHead.{InvokeHead}
use Rattle.source_scenes.specs.dsl_tree.PhaseTree.{ArgumentTree, PartTree, Invoke, phases_of}
use Rattle.run_tests.specs.type_heads.Table.{owner, form}
use Rattle.run_tests.specs.type_heads.Types.{Types, Field, Do}
use Rattle.run_tests.specs.type_heads.Members.{fields, field_type, list_length, the_do}
use Rattle.run_tests.specs.expr_nodes.Sizes.{field_reach}
use Rattle.run_tests.specs.composition.declared.guard.Guard.{Guard}
use Rattle.run_tests.specs.composition.declared.setting.Setting.{Setting}
use Rattle.run_tests.specs.composition.declared.spot.PhaseKind.{PhaseKind}
use Rattle.run_tests.specs.composition.declared.spot.PhaseSpot.{PhaseSpot}
use Rattle.run_tests.specs.composition.declared.spot.ValueRange.{ValueRange}
use Rattle.run_tests.specs.composition.declared.spot.ValueSpot.{ValueSpot}
use Rattle.run_tests.specs.composition.Calls.{PhaseHere, phases_in, invoked}
use Rattle.run_tests.specs.composition.Expanded.{is_vehicle, scene, spot, spots_of}
use Rattle.run_tests.specs.composition.Expansion.{Maker, calling, composition_kind, expand_within, expansion, invocation, phase_part}
use Rattle.run_tests.specs.composition.Givens.{guards_under}
use Rattle.run_tests.specs.composition.Invariants.{are_nested}
use Rattle.run_tests.specs.composition.Ranges.{range_of}
use Rattle.run_tests.specs.composition.Scenes.{Content, Spot, Scene, Binding, phase_spot, phases, root_do, value_spot, values}
use Rattle.source_scenes.proofs.of_field_flatten.ItemLaw.{counted_in}
use Rattle.source_scenes.proofs.of_field_flatten.NumberLaw.{made_from, making}
use Rattle.source_scenes.proofs.of_field_flatten.Tests.{In, all_at, any_at, in_map, map_in, path_is, two_ways}
use Rattle.source_scenes.specs.scene_laws.Premises.{is_free}
use Rattle.source_scenes.proofs.of_scene_laws.EachSpot.{each_spot, invoked_kind, invoked_members, value_paths}
use Rattle.source_scenes.proofs.of_scene_laws.PlacedObjects.{IsAcyclic, Placed, call_placed, field_placed, phase_in, value_in}
use Rattle.source_scenes.proofs.of_scene_laws.Steps.{cancelled, pairs_map, range_apart}
use Rattle.source_scenes.proofs.of_scene_laws.FieldNames.{Pairs}
use Rattle.source_scenes.proofs.of_checkable_scenes.FewMembers.{no_more}
use Rattle.source_scenes.proofs.of_checkable_scenes.Inherited.{option_in}
use Rattle.readable_runs.proofs.RunParts.{IsReadable}

both : (a b : Bool) → a ≡ true → b ≡ true → a && b ≡ true
both true b p q = q
both false b p q = p

-- ---- one step more

-- whether a number behind these steps is that of a member
abbrev pub after : Bool → List Step → Bool
after of_member [] = of_member
after of_member (s ∷ later) = after (before_member s) later

after_last : (of_member : Bool) (xs : List Step) (y : Step) → after of_member (xs ++ y ∷ []) ≡ before_member y
after_last of_member [] y = refl
after_last of_member (x ∷ xs) y = after_last (before_member x) xs y

more_steps : (of_member : Bool) (xs : List Step) (y : Step) → are_steps of_member xs ≡ true → is_step (after of_member xs) y ≡ true → are_steps of_member (xs ++ y ∷ []) ≡ true
more_steps of_member [] y h k = both (is_step of_member y) true k refl
more_steps of_member (x ∷ xs) y h k =
    let parts = and_parts (is_step of_member x) (are_steps (before_member x) xs) h in
    both (is_step of_member x) _ parts.0 (more_steps (before_member x) xs y parts.1 k)

-- no steps, or those of a path with a text
abbrev IsBegun : List Step → Type 0
IsBegun steps = (steps ≡ []) ⊎ (is_written steps ≡ true)

name_more : (xs : List Step) (name : List ℕ) → IsBegun xs → is_name name ≡ true → is_written (xs ++ Name name ∷ []) ≡ true
name_more [] name b h = both (is_name name) true h refl
name_more (Name first ∷ later) name (inl e) h = cc
name_more (Name first ∷ later) name (inr w) h =
    let parts = and_parts (is_name first) (are_steps (before_member (Name first)) later) w in
    both (is_name first) _ parts.0 (more_steps (before_member (Name first)) later (Name name) parts.1 h)
name_more (Index n ∷ later) name (inl e) h = cc
name_more (Index n ∷ later) name (inr w) h = absurd (false≢true w)
name_more (Member n ∷ later) name (inl e) h = cc
name_more (Member n ∷ later) name (inr w) h = absurd (false≢true w)

number_more : (xs : List Step) (y : Step) → is_written xs ≡ true → is_step (after false xs) y ≡ true → is_written (xs ++ y ∷ []) ≡ true
number_more [] y w h = absurd (false≢true w)
number_more (Name first ∷ later) y w h =
    let parts = and_parts (is_name first) (are_steps (before_member (Name first)) later) w in
    both (is_name first) _ parts.0 (more_steps (before_member (Name first)) later y parts.1 h)
number_more (Index n ∷ later) y w h = absurd (false≢true w)
number_more (Member n ∷ later) y w h = absurd (false≢true w)

member_more : (path : Path) (n : ℕ) → is_written path.steps ≡ true → after false path.steps ≡ true → n < 2 ^ 32 → is_written (then_member path n).steps ≡ true
member_more path n w last h = number_more path.steps (Member n) w (subst (λ b. b && nat_lt n (2 ^ 32) ≡ true) (sym last) (lt-ltb n (2 ^ 32) h))

index_more : (path : Path) (n : ℕ) → is_written path.steps ≡ true → after false path.steps ≡ false → n < 2 ^ 32 → is_written (then_index path n).steps ≡ true
index_more path n w last h = number_more path.steps (Index n) w (subst (λ b. not b && nat_lt n (2 ^ 32) ≡ true) (sym last) (lt-ltb n (2 ^ 32) h))

-- ---- phases

-- the path of a phase: it has a text, and a number behind it is that of a member
abbrev IsPhasePath : Path → Type 0
IsPhasePath path = (is_written path.steps ≡ true) × (after false path.steps ≡ true)

-- a member of the phase at a path
abbrev IsMemberOf : Path → Path → Type 0
IsMemberOf path m = ((n : ℕ) × (n < 2 ^ 32) × (m ≡ then_member path n)) ⊎ (m ≡ then_do path)

member_path : (path m : Path) → IsPhasePath path → IsMemberOf path m → IsPhasePath m
member_path path m w (inl (n, h, e)) =
    subst IsPhasePath (sym e) (member_more path n w.0 w.1 h, after_last false path.steps (Member n))
member_path path m w (inr e) =
    subst IsPhasePath (sym e) (name_more path.steps (codes "do") (inr w.0) refl, after_last false path.steps (Name (codes "do")))

abbrev HasMembers : PhaseSpot → Type 0
HasMembers p = (m : Path) → In m p.members → IsMemberOf p.path m

-- whether a phase is the root's, or a member of one of these
abbrev is_below : List PhaseSpot → PhaseSpot → Bool
is_below before x = same_path x.path root_do || list_any (λ (q : PhaseSpot). list_any (same_path x.path) q.members) before

-- phases whose paths and members are known
abbrev AreKnown : List PhaseSpot → Type 0
AreKnown before = (q : PhaseSpot) → In q before → IsPhasePath q.path × HasMembers q

below_path : (before : List PhaseSpot) (x : PhaseSpot) → AreKnown before → is_below before x ≡ true → IsPhasePath x.path
below_path before x known h =
    two_ways (same_path x.path root_do) (λ e. subst IsPhasePath (sym (path_is x.path root_do e)) (refl, refl))
    (λ e. by (subst (λ b. b || list_any (λ (q : PhaseSpot). list_any (same_path x.path) q.members) before ≡ true) e h))
  where
    by : list_any (λ (q : PhaseSpot). list_any (same_path x.path) q.members) before ≡ true → IsPhasePath x.path
    by e =
        let q = any_at (λ (q : PhaseSpot). list_any (same_path x.path) q.members) before e in
        let m = any_at (same_path x.path) q.0.members q.2 in
        let k = known q.0 q.1 in
        subst IsPhasePath (sym (path_is x.path m.0 m.2)) (member_path q.0.path m.0 k.0 (k.1 m.0 m.1))

one_more : (before : List PhaseSpot) (x : PhaseSpot) → AreKnown before → IsPhasePath x.path × HasMembers x → AreKnown (x ∷ before)
one_more before x known here q (inl e) = subst (λ (z : PhaseSpot). IsPhasePath z.path × HasMembers z) (sym e) here
one_more before x known here q (inr j) = known q j

nested_paths : (before ps : List PhaseSpot) → AreKnown before → ((p : PhaseSpot) → In p ps → HasMembers p) → are_nested before ps ≡ true → (p : PhaseSpot) → In p ps → IsPhasePath p.path
nested_paths before [] known all h p i = absurd i
nested_paths before (x ∷ ps) known all h p (inl e) =
    let parts = and_parts (is_below before x) (are_nested (x ∷ before) ps) h in
    subst (λ (z : PhaseSpot). IsPhasePath z.path) (sym e) (below_path before x known parts.0)
nested_paths before (x ∷ ps) known all h p (inr j) =
    let parts = and_parts (is_below before x) (are_nested (x ∷ before) ps) h in
    nested_paths (x ∷ before) ps (one_more before x known (below_path before x known parts.0, all x (inl refl))) (λ q k. all q (inr k)) parts.1 p j

-- ---- members of phases

length_range : (a n : ℕ) → length (range_with_len a n) ≡ n
length_range a n = length-range_with_len a n

length_map : {A B : Type 0} (f : A → B) (xs : List A) → length (map f xs) ≡ length xs
length_map f [] = refl
length_map f (x ∷ xs) = ap suc (length_map f xs)

rows : (k l : PhaseKind) (ms ns : List Path) → Content.Phase k ms ≡ Content.Phase l ns → ms ≡ ns
rows k l ms ns e = cc

not_object : (v : Bool) (k : PhaseKind) (ms : List Path) → Content.Object v ≡ Content.Phase k ms → ⊥
not_object v k ms e = cc

not_value : (r : ValueRange) (k : PhaseKind) (ms : List Path) → Content.Value r ≡ Content.Phase k ms → ⊥
not_value r k ms e = cc

nothing : (n : ℕ) → None ≡ Some n → ⊥
nothing n e = cc

same_number : (k n : ℕ) → Some k ≡ Some n → k ≡ n
same_number k n e = cc

within_reach : (n : ℕ) → nat_le n field_reach ≡ true → n ≤ field_reach
within_reach n h = leb-true n field_reach h

small_member : (x l n : ℕ) → l ≡ n → l ≤ field_reach → x < 0 + n → x < 2 ^ 32
small_member x l n e few h = omega (arith, e, few, h)

small_index : (x n : ℕ) → n < 2 ^ 32 → x < 0 + n → x < 2 ^ 32
small_index x n p h = omega (arith, p, h)

small_count : (k a b c : ℕ) → a ≡ k → a ≤ b → b ≡ c → c < 2 ^ 32 → k < 2 ^ 32
small_count k a b c e p f q = omega (arith, e, p, f, q)

last_false : (x y z : Bool) → not (x || (y || z)) ≡ true → z ≡ false
last_false true y z e = absurd (false≢true e)
last_false false true z e = absurd (false≢true e)
last_false false false true e = absurd (false≢true e)
last_false false false false e = refl

-- what is known of a phase that has no more members than a field has values
abbrev KnowsMembers : Path → Content → Type 0
KnowsMembers path content = (k : PhaseKind) (ms : List Path) → content ≡ Content.Phase k ms → length ms ≤ field_reach → (m : Path) → In m ms → IsMemberOf path m

listed : (q : Path) (kind : PhaseKind) (n : ℕ) → KnowsMembers q (Content.Phase kind (map (then_member q) (range_with_len 0 n)))
listed q kind n k ms e few m i =
    let same = rows kind k (map (then_member q) (range_with_len 0 n)) ms e in
    let g = map_in (then_member q) (range_with_len 0 n) m (subst (λ l. In m l) (sym same) i) in
    let long : length ms ≡ n = sym (ap length same) ∙ length_map (then_member q) (range_with_len 0 n) ∙ length_range 0 n in
    inl (g.0, small_member g.0 (length ms) n long few (counted_in 0 n g.0 g.1), g.2)

called : (q : Path) (b : Bool) (kind : PhaseKind) → KnowsMembers q (Content.Phase kind (cond b (then_do q ∷ []) []))
called q true kind k ms e few m i = by (subst (λ l. In m l) (sym (rows kind k (then_do q ∷ []) ms e)) i)
  where
    by : In m (then_do q ∷ []) → IsMemberOf q m
    by (inl same) = inr same
    by (inr j) = absurd j
called q false kind k ms e few m i = absurd (subst (λ l. In m l) (sym (rows kind k [] ms e)) i)

phase_is : (path : Path) (k : PhaseKind) (ms : List Path) (p : PhaseSpot) → phase_spot path (Content.Phase k ms) ≡ Some p → record { path = path; kind = k; members = ms } ≡ p
phase_is path k ms p e = cc

no_phase : (path : Path) (content : Content) (p : PhaseSpot) → phase_spot path content ≡ Some p → phase_spot path content ≡ None → ⊥
no_phase path content p e f = cc

members_of : (path : Path) (content : Content) (p : PhaseSpot) → KnowsMembers path content → phase_spot path content ≡ Some p → length p.members ≤ field_reach → HasMembers p
members_of path (Content.Object v) p f e short = absurd (no_phase path (Content.Object v) p e refl)
members_of path (Content.Value r) p f e short = absurd (no_phase path (Content.Value r) p e refl)
members_of path (Content.Phase k ms) p f e short =
    let same = phase_is path k ms p e in
    subst HasMembers same (f k ms refl (subst (λ (z : PhaseSpot). length z.members ≤ field_reach) (sym same) short))

module _ (ts : Types) (whole : ℕ) (setting : Setting) where
  abbrev spots : List Spot
  spots = spots_of ts (expansion ts whole)

  abbrev here : Scene
  here = scene ts whole setting

  abbrev SpotKnows : Spot → Type 0
  SpotKnows s = KnowsMembers s.path s.content

  spot_members : (s : Spot) → In s spots → SpotKnows s
  spot_members s i =
      each_spot ts (λ path t guards bindings. Unit {0}) SpotKnows
      (λ path t guards bindings h k ms e. absurd (not_object (is_vehicle ts t) k ms e))
      (λ path t guards bindings h f j of typed range is q l k ms e. absurd (not_value range k ms e))
      (λ path t guards bindings h d is p j label place kind arguments members e. listed (calling bindings path guards d p).path (composition_kind kind arguments) (length (phases_of members)))
      (λ path t guards bindings h d is p j label head ns arguments parts e of to. called (calling bindings path guards d p).path (is_some (the_do ts of)) (invoked_kind ts (is_some (the_do ts of))))
      (λ path t guards bindings h d is p j. called (calling bindings path guards d p).path false PhaseKind.Wait)
      (λ path t guards bindings h f j of typed test. tt)
      (λ path t guards bindings h d is p j label head ns arguments parts e of to. tt)
      whole tt (λ x e. tt) s i

  phase_members : list_all (λ (p : PhaseSpot). nat_le (length p.members) field_reach) (phases here) ≡ true → (p : PhaseSpot) → In p (phases here) → HasMembers p
  phase_members few p i =
      let s = made_from (λ (s : Spot). phase_spot s.path s.content) spots p i in
      members_of s.0.path s.0.content p (spot_members s.0 s.1) s.2 (within_reach (length p.members) (all_at (λ (p : PhaseSpot). nat_le (length p.members) field_reach) (phases here) few p i))

  pub phase_paths : list_all (λ (p : PhaseSpot). nat_le (length p.members) field_reach) (phases here) ≡ true → are_nested [] (phases here) ≡ true
      → (p : PhaseSpot) → In p (phases here) → (is_written p.path.steps ≡ true) × (after false p.path.steps ≡ true)
  phase_paths few nested = nested_paths [] (phases here) (λ q i. absurd i) (phase_members few) nested

  -- ---- values

  abbrev value_places : List Path
  value_places = map (λ (v : ValueSpot). v.path) (values here)

  abbrev Apart : Path → Path → Type 0
  Apart a b = a ≡ b → ⊥

  abbrev number_of : List Step → ℕ
  number_of (Index n ∷ rest) = n
  number_of _ = 0

  indexes_apart : (base : Path) (k : ℕ) → Pairs Apart (map (then_index base) (range_with_len 0 k))
  indexes_apart base k =
      pairs_map Apart (λ (x y : ℕ). x ≡ y → ⊥) (then_index base) (range_with_len 0 k) (range_apart 0 k)
      (λ b c i j differ same. differ (ap number_of (cancelled base.steps (Index b ∷ []) (Index c ∷ []) (ap (λ (z : Path). z.steps) same))))

  count_small : length (values here) < 2 ^ 32 → (base : Path) (count : Option ℕ) → ((q : Path) → In q (value_paths ts base count) → In q value_places) → (n : ℕ) → count ≡ Some n → n < 2 ^ 32
  count_small few base None all n e = absurd (nothing n e)
  count_small few base (Some k) all n e =
      let same = same_number k n e in
      let indexes = map (then_index base) (range_with_len 0 k) in
      subst (λ z. z < 2 ^ 32) same
      (small_count k (length indexes) (length value_places) (length (values here))
      (length_map (then_index base) (range_with_len 0 k) ∙ length_range 0 k) (no_more indexes value_places (indexes_apart base k) all)
      (length_map (λ (v : ValueSpot). v.path) (values here)) few)

  value_written : (base : Path) (count : Option ℕ) → is_written base.steps ≡ true → after false base.steps ≡ false → ((n : ℕ) → count ≡ Some n → n < 2 ^ 32)
      → (q : Path) → In q (value_paths ts base count) → is_written q.steps ≡ true
  value_written base None w last few q (inl e) = subst (λ (z : Path). is_written z.steps ≡ true) (sym e) w
  value_written base None w last few q (inr i) = absurd i
  value_written base (Some k) w last few q i =
      let g = map_in (then_index base) (range_with_len 0 k) q i in
      subst (λ (z : Path). is_written z.steps ≡ true) (sym g.2) (index_more base g.0 w last (small_index g.0 k (few k refl) (counted_in 0 k g.0 g.1)))

  -- ---- all spots

  free_do : (name : List ℕ) → is_free name ≡ true → bytes_eq name (codes "do") ≡ false
  free_do name h = last_false (bytes_eq name (codes "it")) (bytes_eq name (codes "actor")) (bytes_eq name (codes "do")) h

  module _ (a : IsAcyclic ts) (named : (t : ℕ) (f : Field) → In f (fields ts t) → is_name f.name.text ≡ true) (free : (t : ℕ) (f : Field) → In f (fields ts t) → is_free f.name.text ≡ true)
      (few_values : length (values here) < 2 ^ 32) (phases_known : (p : PhaseSpot) → In p (phases here) → (is_written p.path.steps ≡ true) × (after false p.path.steps ≡ true)) (no_vehicle : is_vehicle ts whole ≡ false) where
    -- the named scenario, or an object at a path with a text
    abbrev Begins : Path → ℕ → Type 0
    Begins path t = ((path.steps ≡ []) × (t ≡ whole)) ⊎ (is_written path.steps ≡ true)

    abbrev Inv : Path → ℕ → List Guard → List Binding → Type 0
    Inv path t guards bindings = Placed ts a spots path t guards bindings × Begins path t

    abbrev Fits : Path → Content → Type 0
    Fits path (Content.Object v) = (is_written path.steps ≡ true) ⊎ (v ≡ false)
    Fits path (Content.Value r) = is_written path.steps ≡ true
    Fits path (Content.Phase k ms) = ⊤

    abbrev SpotFits : Spot → Type 0
    SpotFits s = Fits s.path s.content

    begun : (path : Path) (t : ℕ) → Begins path t → IsBegun path.steps
    begun path t (inl b) = inl b.0
    begun path t (inr w) = inr w

    object_fits : (path : Path) (t : ℕ) → Begins path t → (is_written path.steps ≡ true) ⊎ (is_vehicle ts t ≡ false)
    object_fits path t (inl b) = inr (ap (is_vehicle ts) b.1 ∙ no_vehicle)
    object_fits path t (inr w) = inl w

    field_written : (path : Path) (t : ℕ) → Begins path t → (f : Field) → In f (fields ts t) → is_written (then_name path f.name.text).steps ≡ true
    field_written path t b f i = name_more path.steps f.name.text (begun path t b) (named t f i)

    field_last : (path : Path) (t : ℕ) (f : Field) → In f (fields ts t) → after false (then_name path f.name.text).steps ≡ false
    field_last path t f i = after_last false path.steps (Name f.name.text) ∙ free_do f.name.text (free t f i)

    value_place : (q : Path) (guards : List Guard) (range : ValueRange) → In (spot q guards (Content.Value range)) spots → In q value_places
    value_place q guards range i =
        in_map (λ (v : ValueSpot). v.path) (values here) (record { path = q; range = range })
        (making (λ (s : Spot). value_spot s.path s.content) spots (spot q guards (Content.Value range)) (record { path = q; range = range }) i refl)

    value_fits : (path : Path) (t : ℕ) (guards : List Guard) (bindings : List Binding) → Inv path t guards bindings → (f : Field) → In f (fields ts t) → (of : ℕ) → field_type ts f ≡ Some of
        → (range : ValueRange) → range_of (form ts.table.heads of) ≡ Some range → (q : Path) → In q (value_paths ts (then_name path f.name.text) (list_length f.tree)) → is_written q.steps ≡ true
    value_fits path t guards bindings inv f i of typed range is q j =
        let base = then_name path f.name.text in
        value_written base (list_length f.tree) (field_written path t inv.1 f i) (field_last path t f i)
        (count_small few_values base (list_length f.tree)
        (λ r k. value_place r (guards ++ guards_under ts path t f.under) range (value_in ts a spots path t guards bindings inv.0 f i of typed range is r k))) q j

    call_written : (path : Path) (t : ℕ) (guards : List Guard) (bindings : List Binding) → Placed ts a spots path t guards bindings → (d : Do) → the_do ts t ≡ Some d → (p : PhaseHere) → In p (phases_in d.phase)
        → (label : Option Ident) (head : InvokeHead) (names : List Ident) (arguments : List ArgumentTree) (parts : List PartTree) → p.phase ≡ Invoke label head names arguments parts
        → (of : ℕ) → invoked ts d.holder head names ≡ Some of → is_written (calling bindings path guards d p).path.steps ≡ true
    call_written path t guards bindings placed d is p at label head names arguments parts e of to =
        let make : Maker = λ q of conditions bound. expand_within placed.steps ts q of conditions bound [] in
        let call = calling bindings path guards d p in
        let part = invocation make ts call head names arguments parts of in
        let kind = invoked_kind ts (is_some (the_do ts of)) in
        let members = invoked_members ts call.path (is_some (the_do ts of)) in
        let s = spot call.path call.guards (Content.Phase kind members) in
        let inside = phase_in ts a spots path t guards bindings placed d is p at part
        (subst (λ z. In part (phase_part make ts call z)) (sym e) (in_map (invocation make ts call head names arguments parts) (option_to_list (invoked ts d.holder head names)) of (option_in (invoked ts d.holder head names) of to)))
        s (inl refl) in
        let there = making (λ (s : Spot). phase_spot s.path s.content) spots s (record { path = call.path; kind = kind; members = members }) inside refl in
        (phases_known (record { path = call.path; kind = kind; members = members }) there).0

    spot_fits : Placed ts a spots root whole [] [] → ((x : ℕ) → owner ts.table.heads whole ≡ Some x → Placed ts a spots (then_name root (codes "actor")) x [] []) → (s : Spot) → In s spots → SpotFits s
    spot_fits first actor s i =
        each_spot ts Inv SpotFits
        (λ path t guards bindings inv. object_fits path t inv.1)
        (λ path t guards bindings inv f j of typed range is q l. value_fits path t guards bindings inv f j of typed range is q l)
        (λ path t guards bindings inv d is p j label place kind arguments members e. tt)
        (λ path t guards bindings inv d is p j label head ns arguments parts e of to. tt)
        (λ path t guards bindings inv d is p j. tt)
        (λ path t guards bindings inv f j of typed test. (field_placed ts a spots path t guards bindings inv.0 f j of typed test, inr (field_written path t inv.1 f j)))
        (λ path t guards bindings inv d is p j label head ns arguments parts e of to.
        (call_placed ts a spots path t guards bindings inv.0 d is p j label head ns arguments parts e of to, inr (call_written path t guards bindings inv.0 d is p j label head ns arguments parts e of to)))
        whole (first, inl (refl, refl)) (λ x e. (actor x e, inr refl)) s i

    pub all_readable : Placed ts a spots root whole [] [] → ((x : ℕ) → owner ts.table.heads whole ≡ Some x → Placed ts a spots (then_name root (codes "actor")) x [] [])
        → (s : Spot) → In s here.spots → IsReadable s.path s.content
    all_readable first actor s i = by s.path s.content (spot_fits first actor s i) (λ p e. making (λ (s : Spot). phase_spot s.path s.content) spots s p i e)
      where
        by : (path : Path) (content : Content) → Fits path content → ((p : PhaseSpot) → phase_spot path content ≡ Some p → In p (phases here)) → IsReadable path content
        by path (Content.Object true) (inl w) f = w
        by path (Content.Object true) (inr e) f = absurd (true≢false e)
        by path (Content.Object false) h f = tt
        by path (Content.Value r) h f = h
        by path (Content.Phase k ms) h f = (phases_known (record { path = path; kind = k; members = ms }) (f (record { path = path; kind = k; members = ms }) refl)).0
