-- Each path that an expression of a scene reads leads to a duration or to a value, as the read's size says.
use Rattle.std.proofs.Common.{◌≡◌, ℕ, refl, sym, ap, ◌∙◌, subst, ◌⊎◌, inl, inr, List, [], ◌∷◌, ◌++◌, Bool, true, false, cond, Option, Some, None, map, true≢false}
use Rattle.std.specs.Prelude.{flat_map, option_to_list, option_map, option_and_then, is_some, bytes_eq, codes}
use Rattle.std.specs.Option.{option_map_or}
use Rattle.std.specs.List.{list_all, range_with_len}
use Rattle.std.proofs.lemmas.Slice.Eq.{bytes_eq-Decides}
use Rattle.osc_base.specs.declared.path.Path.{Path}
use Rattle.osc_base.specs.declared.path.Step.{Step}
use Rattle.osc_base.specs.declared.path.Step.TheVariants.{Name, Index, Member as AMember}
use Rattle.osc_base.specs.Paths.{path_of, root, same_path, timed_part, then_name, then_index}
use Rattle.expr_eval.specs.dsl_tree.ExprTree.{ExprTree}
use Rattle.expr_eval.specs.type_heads.Table.{form, owner, is_behaviour}
use Rattle.expr_eval.specs.type_heads.Types.{Types, Member, Field}
use Rattle.expr_eval.specs.type_heads.Members.{members, fields_declared, fields, field_type, list_length}
use Rattle.expr_eval.specs.expr_nodes.Typed as Typing
use Rattle.expr_eval.specs.expr_nodes.Typed.{Typed, TypedRow, Info, reads, reads_of, moved, moved_row}
use Rattle.expr_eval.specs.expr_nodes.Sizes.{field_size}
use Rattle.expr_eval.specs.expr_nodes.Sound.{has_size, each_read, each_read_of}
use Rattle.run_values.specs.composition.declared.guard.Guard.{Guard}
use Rattle.run_values.specs.composition.declared.setting.Setting.{Setting}
use Rattle.run_values.specs.composition.declared.spot.ValueSpot.{ValueSpot}
use Rattle.run_values.specs.composition.declared.spot.ValueRange.{ValueRange}
use Rattle.run_values.specs.composition.declared.spot.PhaseSpot.{PhaseSpot}
use Rattle.run_values.specs.composition.declared.spot.PhaseKind.{PhaseKind}
use Rattle.run_values.specs.composition.Scenes.{Content, Spot, Scene, Binding, Occurrence, ModifierSpot, Source, OfRun, OfPhase, OfValue, value_spot, phase_spot, values, phases, has_phase, source, source_timed}
use Rattle.run_values.specs.composition.There.{read_by, removed}
use Rattle.run_values.specs.composition.Homes.{home}
use Rattle.run_values.specs.composition.Givens.{Given, from_root, typed_here, it_of, field_here, own_givens}
use Rattle.run_values.specs.composition.Calls.{scope_at}
use Rattle.run_values.specs.composition.Expansion.{GivenModifier, Calling, calling, here_in, low_end, high_end, expansion}
use Rattle.run_values.specs.composition.Expanded.{spots_of, givens_of, modifiers_of, bindings_of, occurrence_of, modifier_of, scene_from, is_readable, is_driven, can_be_asked, can_apply, scene}
use Rattle.run_values.specs.composition.Invariants.{value_at, is_read, is_target}
use Rattle.run_values.specs.field_flatten.Exactness.{expressions}
use Rattle.run_values.proofs.of_field_flatten.Tests.{left_of, right_of, both, In, in_either, in_filter, map_in, in_flat_map, flat_map_in, all_from, all_append, any_at, path_is, found_in}
use Rattle.scene_laws.proofs.Picked.{of_option, filter_map_in}
use Rattle.scene_laws.proofs.EachSpot.{value_paths, each_spot}
use Rattle.expr_eval.specs.expr_nodes.Scope.{It}
use Rattle.checkable_scenes.proofs.ShortTexts.{AreShort}
use Rattle.checkable_scenes.proofs.EachText.{each_text}
use Rattle.checkable_scenes.proofs.NarrowModifiers.{given_by}
use Rattle.checkable_scenes.proofs.PhaseSteps.{OnlyPhases, IsTimed, IsThing, index_untimed, AreBindings, IsBinding, timed_home, untimed_home}
use Rattle.checkable_scenes.proofs.TypedShapes.{FitRead, IsObjectAt, PathsKnown}
use Rattle.checkable_scenes.proofs.ReadTexts.{ReadsFit, RowFits, here_fits, TypedBy, own_given_typed, duration_fits, comp_fits, call_fits}
use Rattle.checkable_scenes.proofs.KnownPaths.{labels_known, known_paths}
use Rattle.checkable_scenes.proofs.ReadFacts.{holder_alike}
use Rattle.checkable_scenes.proofs.ReadObjects.{AllKnown, At, field_thing, field_at, call_phases, bare_paths, call_paths, call_bound, call_at}

-- a path of which a part is timed ends so
timed_joined : (steps w : List Step) → timed_part steps ≡ Some w → steps ≡ w ++ Name (codes "duration") ∷ []
timed_joined [] w h = cc
timed_joined (Name n ∷ []) w h = by (bytes_eq n (codes "duration")) refl h
  where
    by : (b : Bool) → bytes_eq n (codes "duration") ≡ b → cond b (Some []) None ≡ Some w → Name n ∷ [] ≡ w ++ Name (codes "duration") ∷ []
    by true e g = let same : [] ≡ w = cc in ap (λ m. Name m ∷ []) ((bytes_eq-Decides n (codes "duration")).0 e) ∙ ap (λ l. l ++ Name (codes "duration") ∷ []) same
    by false e g = cc
timed_joined (Index k ∷ []) w h = cc
timed_joined (AMember k ∷ []) w h = cc
timed_joined (Name n ∷ x ∷ xs) w h = by (timed_part (x ∷ xs)) refl (timed_joined (x ∷ xs))
  where
    by : (o : Option (List Step)) → timed_part (x ∷ xs) ≡ o → ((v : List Step) → timed_part (x ∷ xs) ≡ Some v → x ∷ xs ≡ v ++ Name (codes "duration") ∷ []) → Name n ∷ x ∷ xs ≡ w ++ Name (codes "duration") ∷ []
    by None e f = let g = rw e at h in cc
    by (Some v) e f = let g = rw e at h in let same : Name n ∷ v ≡ w = cc in ap (λ l. Name n ∷ l) (f v e) ∙ ap (λ l. l ++ Name (codes "duration") ∷ []) same
timed_joined (Index n ∷ x ∷ xs) w h = by (timed_part (x ∷ xs)) refl (timed_joined (x ∷ xs))
  where
    by : (o : Option (List Step)) → timed_part (x ∷ xs) ≡ o → ((v : List Step) → timed_part (x ∷ xs) ≡ Some v → x ∷ xs ≡ v ++ Name (codes "duration") ∷ []) → Index n ∷ x ∷ xs ≡ w ++ Name (codes "duration") ∷ []
    by None e f = let g = rw e at h in cc
    by (Some v) e f = let g = rw e at h in let same : Index n ∷ v ≡ w = cc in ap (λ l. Index n ∷ l) (f v e) ∙ ap (λ l. l ++ Name (codes "duration") ∷ []) same
timed_joined (AMember n ∷ x ∷ xs) w h = by (timed_part (x ∷ xs)) refl (timed_joined (x ∷ xs))
  where
    by : (o : Option (List Step)) → timed_part (x ∷ xs) ≡ o → ((v : List Step) → timed_part (x ∷ xs) ≡ Some v → x ∷ xs ≡ v ++ Name (codes "duration") ∷ []) → AMember n ∷ x ∷ xs ≡ w ++ Name (codes "duration") ∷ []
    by None e f = let g = rw e at h in cc
    by (Some v) e f = let g = rw e at h in let same : AMember n ∷ v ≡ w = cc in ap (λ l. AMember n ∷ l) (f v e) ∙ ap (λ l. l ++ Name (codes "duration") ∷ []) same

module _ (ts : Types) (k : AllKnown ts) (short : AreShort ts) (whole : ℕ) (setting : Setting) (first : At ts root whole []) (actor : (x : ℕ) → owner ts.table.heads whole ≡ Some x → At ts (then_name root (codes "actor")) x []) where
  abbrev spots : List Spot
  spots = spots_of ts (expansion ts whole)

  abbrev here : Scene
  here = scene ts whole setting

  -- ---- spots

  abbrev IsRight : Spot → Type 0
  IsRight s = ((r : ValueRange) → s.content ≡ Content.Value r → IsTimed s.path.steps → ⊥) × ((q : PhaseKind) (ms : List Path) → s.content ≡ Content.Phase q ms → OnlyPhases s.path.steps)

  spots_right : (s : Spot) → In s spots → IsRight s
  spots_right s i =
      each_spot ts (λ path t gs bindings. At ts path t bindings) IsRight
      (λ path t gs bindings a. (λ r e. absurd (object_value r e), λ q ms e. absurd (object_phase q ms e)))
      (λ path t gs bindings a f j of typed range is q l. (λ r e. value_untimed path t bindings a f j (list_length f.tree) q l, λ p ms e. absurd (value_phase range p ms e)))
      (λ path t gs bindings a d is p j label place kind arguments members e. (λ r g. absurd (phase_value _ _ r g), λ q ms g. call_phases ts k path t gs bindings a d is p j))
      (λ path t gs bindings a d is p j label head names arguments parts e of to. (λ r g. absurd (phase_value _ _ r g), λ q ms g. call_phases ts k path t gs bindings a d is p j))
      (λ path t gs bindings a d is p j. (λ r g. absurd (phase_value _ _ r g), λ q ms g. call_phases ts k path t gs bindings a d is p j))
      (λ path t gs bindings a f j of typed test. field_at ts k path t bindings a f j of typed)
      (λ path t gs bindings a d is p j label head names arguments parts e of to. call_at ts k path t gs bindings a d is p j label head names arguments parts e of to)
      whole first actor s i
    where
      object_value : {v : Bool} (r : ValueRange) → Content.Object v ≡ Content.Value r → ⊥
      object_value r e = cc

      object_phase : {v : Bool} (q : PhaseKind) (ms : List Path) → Content.Object v ≡ Content.Phase q ms → ⊥
      object_phase q ms e = cc

      value_phase : (r : ValueRange) (q : PhaseKind) (ms : List Path) → Content.Value r ≡ Content.Phase q ms → ⊥
      value_phase r q ms e = cc

      phase_value : (q : PhaseKind) (ms : List Path) (r : ValueRange) → Content.Phase q ms ≡ Content.Value r → ⊥
      phase_value q ms r e = cc

      value_untimed : (path : Path) (t : ℕ) (bindings : List Binding) → At ts path t bindings → (f : Field) → In f (fields ts t) → (count : Option ℕ) (q : Path) → In q (value_paths ts (then_name path f.name.text) count) → IsTimed q.steps → ⊥
      value_untimed path t bindings a f j None q (inl e) = subst (λ (z : Path). IsTimed z.steps → ⊥) (sym e) (field_thing ts k path t bindings a f j).1
      value_untimed path t bindings a f j None q (inr l) = absurd l
      value_untimed path t bindings a f j (Some count) q l =
          let g = map_in (then_index (then_name path f.name.text)) (range_with_len 0 count) q l in
          subst (λ (z : Path). IsTimed z.steps → ⊥) (sym g.2) (index_untimed (then_name path f.name.text).steps g.0)

  value_there : (p : Path) → is_some (value_at here p) ≡ true → IsTimed p.steps → ⊥
  value_there p h timed = by (value_at here p) refl h
    where
      of_spot : (s : Spot) → In s spots → (v : ValueSpot) → value_spot s.path s.content ≡ Some v → v.path ≡ p → ⊥
      of_spot s i v e same = content s.content refl e
        where
          content : (c : Content) → s.content ≡ c → value_spot s.path c ≡ Some v → ⊥
          content (Content.Object b) g q = cc
          content (Content.Phase b ms) g q = cc
          content (Content.Value r) g q =
              let is : record { path = s.path; range = r } ≡ v = cc in
              (spots_right s i).0 r g (subst (λ (z : Path). IsTimed z.steps) (sym (ap (λ (z : ValueSpot). z.path) is ∙ same)) timed)

      by : (o : Option ValueSpot) → value_at here p ≡ o → is_some o ≡ true → ⊥
      by None e q = true≢false (sym q)
      by (Some v) e q =
          let f = found_in (λ (v : ValueSpot). same_path v.path p) (values here) v e in
          let s = filter_map_in (λ (s : Spot). value_spot s.path s.content) spots v f.0 in
          of_spot s.0 s.1 v s.2 (path_is v.path p f.1)

  phase_there : (w : Path) → has_phase here w ≡ true → OnlyPhases w.steps
  phase_there w h =
      let g = any_at (λ (p : PhaseSpot). same_path p.path w) (phases here) h in
      let s = filter_map_in (λ (s : Spot). phase_spot s.path s.content) spots g.0 g.1 in
      of_spot s.0 s.1 g.0 s.2 (path_is g.0.path w g.2)
    where
      of_spot : (s : Spot) → In s spots → (v : PhaseSpot) → phase_spot s.path s.content ≡ Some v → v.path ≡ w → OnlyPhases w.steps
      of_spot s i v e same = content s.content refl e
        where
          content : (c : Content) → s.content ≡ c → phase_spot s.path c ≡ Some v → OnlyPhases w.steps
          content (Content.Object b) g q = cc
          content (Content.Value b) g q = cc
          content (Content.Phase b ms) g q =
              let is : record { path = s.path; kind = b; members = ms } ≡ v = cc in
              subst (λ (z : Path). OnlyPhases z.steps) (ap (λ (z : PhaseSpot). z.path) is ∙ same) ((spots_right s i).1 b ms g)

  -- ---- one read

  untimed_source : (p : Path) → (IsTimed p.steps → ⊥) → source here p ≡ OfValue
  untimed_source p f = by (timed_part p.steps) refl
    where
      timed : (w : List Step) → timed_part p.steps ≡ Some w → OnlyPhases w → IsTimed p.steps
      timed w e o = (w, o, timed_joined p.steps w e)

      phase : (w : List Step) → timed_part p.steps ≡ Some w → (b : Bool) → has_phase here (path_of w) ≡ b → cond b (OfPhase (path_of w)) OfValue ≡ OfValue
      phase w e true h = absurd (f (timed w e (phase_there (path_of w) h)))
      phase w e false h = refl

      run : (w : List Step) → timed_part p.steps ≡ Some w → (b : Bool) → same_path (path_of w) root ≡ b → cond b OfRun (cond (has_phase here (path_of w)) (OfPhase (path_of w)) OfValue) ≡ OfValue
      run w e true h = absurd (f (timed w e (subst (λ (z : Path). OnlyPhases z.steps) (sym (path_is (path_of w) root h)) tt)))
      run w e false h = phase w e (has_phase here (path_of w)) refl

      by : (o : Option (List Step)) → timed_part p.steps ≡ o → option_map_or (λ steps. source_timed here (path_of steps)) o OfValue ≡ OfValue
      by None e = refl
      by (Some w) e = run w e (same_path (path_of w) root) refl

  module _ (bs : List Binding) (bound : AreBindings bs) where
    abbrev test : Info → Path → ℕ → Bool
    test i path per = is_read here i path per (source here path)

    read_right : (i : Info) (p : Path) (per : ℕ) → FitRead i p per → is_readable here (home bs p) ≡ true → is_read here i (home bs p) per (source here (home bs p)) ≡ true
    read_right i p per (inl d) h = by (source here (home bs p)) h
      where
        by : (o : Source) → is_target here (home bs p) o ≡ true → is_read here i (home bs p) per o ≡ true
        by OfRun g = d.0
        by (OfPhase w) g = d.0
        by OfValue g = absurd (value_there (home bs p) g (subst (λ (z : Path). IsTimed z.steps) (sym (timed_home bs bound p d.1)) d.1))
    read_right i p per (inr f) h =
        let value = untimed_source (home bs p) (untimed_home bs bound p f.1) in
        subst (λ o. is_read here i (home bs p) per o ≡ true) (sym value)
        (both (is_some (value_at here (home bs p))) (has_size i (field_size per)) (subst (λ o. is_target here (home bs p) o ≡ true) value h) f.0)

    split : (xs ys : List Path) → list_all (is_readable here) (xs ++ ys) ≡ true → (list_all (is_readable here) xs ≡ true) × (list_all (is_readable here) ys ≡ true)
    split xs ys h = let e = sym (all_append (is_readable here) xs ys) ∙ h in (left_of (list_all (is_readable here) xs) _ e, right_of (list_all (is_readable here) xs) _ e)

    mutual
      pub all_right : (x : Typed) → ReadsFit x → list_all (is_readable here) (reads (moved (home bs) x)) ≡ true → each_read (λ i path per. is_read here i path per (source here path)) (moved (home bs) x) ≡ true
      all_right (Typing.Constant i n) f h = refl
      all_right (Typing.Whole i p) f h = refl
      all_right (Typing.Read i p per) f h = read_right i p per f (left_of (is_readable here (home bs p)) true h)
      all_right (Typing.Listed i g items) f h = row_right items f h
      all_right (Typing.Minus i a) f h = all_right a f h
      all_right (Typing.Not i a) f h = all_right a f h
      all_right (Typing.Span i l r) f h = let s = split (reads (moved (home bs) l)) (reads (moved (home bs) r)) h in both _ _ (all_right l f.0 s.0) (all_right r f.1 s.1)
      all_right (Typing.Sum i l r) f h = let s = split (reads (moved (home bs) l)) (reads (moved (home bs) r)) h in both _ _ (all_right l f.0 s.0) (all_right r f.1 s.1)
      all_right (Typing.Times i l r) f h = let s = split (reads (moved (home bs) l)) (reads (moved (home bs) r)) h in both _ _ (all_right l f.0 s.0) (all_right r f.1 s.1)
      all_right (Typing.And i l r) f h = let s = split (reads (moved (home bs) l)) (reads (moved (home bs) r)) h in both _ _ (all_right l f.0 s.0) (all_right r f.1 s.1)
      all_right (Typing.Or i l r) f h = let s = split (reads (moved (home bs) l)) (reads (moved (home bs) r)) h in both _ _ (all_right l f.0 s.0) (all_right r f.1 s.1)
      all_right (Typing.Implies i l r) f h = let s = split (reads (moved (home bs) l)) (reads (moved (home bs) r)) h in both _ _ (all_right l f.0 s.0) (all_right r f.1 s.1)
      all_right (Typing.Relation i g l r) f h = let s = split (reads (moved (home bs) l)) (reads (moved (home bs) r)) h in both _ _ (all_right l f.0 s.0) (all_right r f.1 s.1)
      all_right (Typing.Within i l r) f h = let s = split (reads (moved (home bs) l)) (reads (moved (home bs) r)) h in both _ _ (all_right l f.0 s.0) (all_right r f.1 s.1)

      row_right : (r : TypedRow) → RowFits r → list_all (is_readable here) (reads_of (moved_row (home bs) r)) ≡ true → each_read_of (λ i path per. is_read here i path per (source here path)) (moved_row (home bs) r) ≡ true
      row_right Typing.End f h = refl
      row_right (Typing.Item a others) f h = let s = split (reads (moved (home bs) a)) (reads_of (moved_row (home bs) others)) h in both _ _ (all_right a f.0 s.0) (row_right others f.1 s.1)

  -- ---- all texts

  abbrev GivenRight : Given → Type 0
  GivenRight g = (y : Typed) → g.typed ≡ Some y → ReadsFit y

  abbrev ModifierRight : GivenModifier → Type 0
  ModifierRight m = ((y : Typed) → m.modifier.low ≡ Some y → ReadsFit y) × ((y : Typed) → m.modifier.high ≡ Some y → ReadsFit y)

  own_right : (path : Path) (t : ℕ) (gs : List Guard) (bindings : List Binding) → At ts path t bindings → (g : Given) → In g (own_givens ts path t) → GivenRight g
  own_right path t gs bindings a g i = let m = own_given_typed ts path t g i in by m.0 m.1 m.2
    where
      never : {x : It} → None ≡ Some x → ⊥
      never e = cc

      by : (m : Member) → In m (members ts t)
          → ((f : Field) × (f.holder ≡ m.holder) × In f (fields_declared m m.written.member) × TypedBy ts (field_here ts path t f).here g) ⊎ TypedBy ts (record { object = path; it = path; scope = scope_at ts m.holder None [] }) g → GivenRight g
      by m j (inr typed) y e =
          let h = typed y e in
          here_fits ts k.reads.fields (record { object = path; it = path; scope = scope_at ts m.holder None [] })
          (known_paths ts k.reads t path path (scope_at ts m.holder None []) (holder_alike ts k.inherited k.alike t m j) a.place (labels_known ts k.reads m.holder None []) (λ u n q. absurd (never q))) h.0 y h.1
      by m j (inl f) y e =
          let h = f.3 y e in
          let inside : In f.0 (fields ts t) = in_flat_map (λ (m : Member). fields_declared m m.written.member) (members ts t) m f.0 j f.2 in
          let thing = field_thing ts k path t bindings a f.0 inside in
          here_fits ts k.reads.fields (field_here ts path t f.0).here
          (known_paths ts k.reads t path (then_name path f.0.name.text) (scope_at ts f.0.holder (it_of ts f.0) []) (holder_alike ts k.inherited k.alike t m j ∙ ap (λ z. is_behaviour (form ts.table.heads z)) (sym f.1)) a.place (labels_known ts k.reads f.0.holder (it_of ts f.0) [])
          (λ u n q. its f.0 inside thing u n (field_type ts f.0) refl q)) h.0 y h.1
        where
          its : (f : Field) → In f (fields ts t) → IsThing (then_name path f.name.text).steps → (u : ℕ) (n : Option ℕ) (o : Option ℕ) → field_type ts f ≡ o → option_map (λ t. It.Of t (list_length f.tree)) o ≡ Some (It.Of u n)
              → IsObjectAt ts.table u (then_name path f.name.text) × ((n ≡ None) ⊎ IsThing (then_name path f.name.text).steps)
          its f inside thing u n None q r = cc
          its f inside thing u n (Some v) q r = let same : v ≡ u = cc in (inr (k.holds t f inside u (q ∙ ap Some same), thing), inr thing)

  low_fits : (z : Typed) → ReadsFit z → ReadsFit (low_end z) × ReadsFit (high_end z)
  low_fits (Typing.Span i l h) f = f
  low_fits (Typing.Constant i n) f = (f, f)
  low_fits (Typing.Read i p per) f = (f, f)
  low_fits (Typing.Whole i p) f = (f, f)
  low_fits (Typing.Listed i g items) f = (f, f)
  low_fits (Typing.Minus i a) f = (f, f)
  low_fits (Typing.Not i a) f = (f, f)
  low_fits (Typing.Sum i l r) f = (f, f)
  low_fits (Typing.Times i l r) f = (f, f)
  low_fits (Typing.And i l r) f = (f, f)
  low_fits (Typing.Or i l r) f = (f, f)
  low_fits (Typing.Implies i l r) f = (f, f)
  low_fits (Typing.Relation i s l r) f = (f, f)
  low_fits (Typing.Within i l r) f = (f, f)

  ends_right : (o : Option Typed) → ((z : Typed) → o ≡ Some z → ReadsFit z) → ((y : Typed) → option_map low_end o ≡ Some y → ReadsFit y) × ((y : Typed) → option_map high_end o ≡ Some y → ReadsFit y)
  ends_right None f = (λ y e. cc, λ y e. cc)
  ends_right (Some z) f = (λ y e. let same : low_end z ≡ y = cc in subst ReadsFit same (low_fits z (f z refl)).0, λ y e. let same : high_end z ≡ y = cc in subst ReadsFit same (low_fits z (f z refl)).1)

  range_right : (call : Calling) (of : ℕ) → PathsKnown ts.table (here_in ts call (Some (It.Of of None))).scope (from_root (here_in ts call (Some (It.Of of None)))) → (r : Option ExprTree) (z : Typed)
      → option_and_then (typed_here ts (here_in ts call (Some (It.Of of None)))) r ≡ Some z → ReadsFit z
  range_right call of known None z e = cc
  range_right call of known (Some x) z e = here_fits ts k.reads.fields (here_in ts call (Some (It.Of of None))) known x z e

  record AllRight : Type 0 where
    givens : (g : Given) → In g (givens_of (expansion ts whole)) → GivenRight g
    modifiers : (m : GivenModifier) → In m (modifiers_of (expansion ts whole)) → ModifierRight m
    bindings : AreBindings (bindings_of (expansion ts whole))

  every_right : AllRight
  every_right =
      let every = each_text ts (λ path t gs bindings. At ts path t bindings) GivenRight ModifierRight IsBinding
      (λ path t gs bindings a g i. own_right path t gs bindings a g i)
      (λ path t gs bindings a d is p i label place kind arguments members e g j. comp_fits ts k.reads.fields (calling bindings path gs d p) (call_phases ts k path t gs bindings a d is p i) (bare_paths ts k path t gs bindings a d is p i) arguments g j)
      (λ path t gs bindings a d is p i label place elapsed e. duration_fits ts k.reads.fields (calling bindings path gs d p) (call_phases ts k path t gs bindings a d is p i) (bare_paths ts k path t gs bindings a d is p i) elapsed)
      (λ path t gs bindings a d is p i label head names arguments parts e of to g j.
      call_fits ts k.reads.fields (calling bindings path gs d p) (call_phases ts k path t gs bindings a d is p i) (bare_paths ts k path t gs bindings a d is p i) of (call_paths ts k path t gs bindings a d is p i label head names arguments parts e of to) arguments parts g j)
      (λ path t gs bindings a d is p i label head names arguments parts e of to m j.
      let g = given_by ts k.inherited k.uses short path t gs bindings d is p i label head names arguments parts e of to m j in
      subst ModifierRight (sym g.is)
      (ends_right (option_and_then (typed_here ts (here_in ts (calling bindings path gs d p) (Some (It.Of of None)))) g.shape.range)
      (λ z h. range_right (calling bindings path gs d p) of (call_paths ts k path t gs bindings a d is p i label head names arguments parts e of to) g.shape.range z h)))
      (λ path t gs bindings a d is p i label head names arguments parts e of to b j. call_bound ts k path t gs bindings a d is p i label head names arguments parts e of to b j)
      (λ path t gs bindings a f i of typed test. field_at ts k path t bindings a f i of typed)
      (λ path t gs bindings a d is p i label head names arguments parts e of to. call_at ts k path t gs bindings a d is p i label head names arguments parts e of to)
      whole first actor in
      record { givens = every.givens; modifiers = every.modifiers; bindings = every.bindings }

  abbrev bound : List Binding
  bound = bindings_of (expansion ts whole)

  part_right : (o : Option Typed) → ((y : Typed) → o ≡ Some y → ReadsFit y) → list_all (is_readable here) (read_by (option_map (moved (home bound)) o)) ≡ true → (x : Typed) → option_map (moved (home bound)) o ≡ Some x → each_read (λ i path per. is_read here i path per (source here path)) x ≡ true
  part_right None f h x e = cc
  part_right (Some y) f h x e =
      let same : moved (home bound) y ≡ x = cc in
      subst (λ z. each_read (λ i path per. is_read here i path per (source here path)) z ≡ true) same
      (all_right bound every_right.bindings y (f y refl) (split bound every_right.bindings (reads (moved (home bound) y)) [] h).0)

  -- each expression reads what the scene has
  pub expressions_right : list_all (λ (x : Typed). each_read (λ i path per. is_read here i path per (source here path)) x) (expressions here) ≡ true
  expressions_right = all_from (λ (x : Typed). each_read (λ i path per. is_read here i path per (source here path)) x) (expressions here) (λ x i.
      elim (in_either x (flat_map (λ (o : Occurrence). option_to_list o.typed) here.occurrences) (flat_map (λ (m : ModifierSpot). option_to_list m.low ++ option_to_list m.high) here.modifiers) i)
      as (λ _. each_read (λ i path per. is_read here i path per (source here path)) x ≡ true) [
        | inl j ↦ let o = flat_map_in (λ (o : Occurrence). option_to_list o.typed) here.occurrences x j in of_occurrence o.0 o.1 x (of_option o.0.typed x o.2)
        | inr j ↦ let m = flat_map_in (λ (m : ModifierSpot). option_to_list m.low ++ option_to_list m.high) here.modifiers x j in of_modifier m.0 m.1 x m.2
      ])
    where
      of_occurrence : (o : Occurrence) → In o here.occurrences → (x : Typed) → o.typed ≡ Some x → each_read (λ i path per. is_read here i path per (source here path)) x ≡ true
      of_occurrence o j x e =
          let f = in_filter (can_be_asked (scene_from ts setting (expansion ts whole))) (map (occurrence_of bound) (givens_of (expansion ts whole))) o j in
          let m = map_in (occurrence_of bound) (givens_of (expansion ts whole)) o f.0 in
          let asked = subst (λ (z : Occurrence). can_be_asked (scene_from ts setting (expansion ts whole)) z ≡ true) m.2 f.1 in
          part_right m.0.typed (every_right.givens m.0 m.1) (split bound every_right.bindings (read_by (option_map (moved (home bound)) m.0.typed)) (removed (occurrence_of bound m.0).mark) asked).0 x (sym (ap (λ (z : Occurrence). z.typed) m.2) ∙ e)

      of_modifier : (m : ModifierSpot) → In m here.modifiers → (x : Typed) → In x (option_to_list m.low ++ option_to_list m.high) → each_read (λ i path per. is_read here i path per (source here path)) x ≡ true
      of_modifier m j x l =
          let f = in_filter (can_apply (scene_from ts setting (expansion ts whole))) (map (λ (g : GivenModifier). modifier_of bound g.modifier) (modifiers_of (expansion ts whole))) m j in
          let n = map_in (λ (g : GivenModifier). modifier_of bound g.modifier) (modifiers_of (expansion ts whole)) m f.0 in
          let applied = subst (λ (z : ModifierSpot). can_apply (scene_from ts setting (expansion ts whole)) z ≡ true) n.2 f.1 in
          let readable = split bound every_right.bindings (read_by (option_map (moved (home bound)) n.0.modifier.low)) (read_by (option_map (moved (home bound)) n.0.modifier.high)) (right_of (list_all (is_driven (scene_from ts setting (expansion ts whole))) ((modifier_of bound n.0.modifier).own ∷ option_to_list (modifier_of bound n.0.modifier).other)) (list_all (is_readable here) (read_by (option_map (moved (home bound)) n.0.modifier.low) ++ read_by (option_map (moved (home bound)) n.0.modifier.high))) applied) in
          let right = every_right.modifiers n.0 n.1 in
          elim (in_either x (option_to_list m.low) (option_to_list m.high) l) as (λ _. each_read (λ i path per. is_read here i path per (source here path)) x ≡ true) [
            | inl q ↦ part_right n.0.modifier.low right.0 readable.0 x (sym (ap (λ (z : ModifierSpot). z.low) n.2) ∙ of_option m.low x q)
            | inr q ↦ part_right n.0.modifier.high right.1 readable.1 x (sym (ap (λ (z : ModifierSpot). z.high) n.2) ∙ of_option m.high x q)
          ]
