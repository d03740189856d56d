-- No spot stands where a duration is read.
use Rattle.std.proofs.Common.{◌≡◌, ℕ, ◌+◌, refl, sym, ap, ◌∙◌, subst, ◌⊎◌, inl, inr, List, [], ◌∷◌, ◌++◌, Bool, true, false, ◌||◌, not, Option, Some, None, map, length, true≢false}
use Rattle.std.specs.Prelude.{⊤, bytes_eq, codes}
use Rattle.std.specs.Option.{option_map_or}
use Rattle.std.specs.List.{list_all, range_with_len}
use Rattle.std.proofs.lemmas.Slice.Eq.{bytes_eq-Decides}
use Rattle.field_flatten.specs.osc_base.declared.path.Path.{Path}
use Rattle.field_flatten.specs.osc_base.declared.path.Step.{Step}
use Rattle.field_flatten.specs.osc_base.declared.path.Step.TheVariants.{Name, Index, Member}
use Rattle.field_flatten.specs.osc_base.Paths.{path_of, root, same_path, then_name, then_index, timed_part}
use Rattle.expansion_laws.specs.type_heads.Table.{form, is_behaviour}
use Rattle.expansion_laws.specs.type_heads.Types.{Types, Field, Do}
use Rattle.expansion_laws.specs.type_heads.Members.{fields, list_length}
use Rattle.expansion_laws.specs.composition.declared.guard.Guard.{Guard}
use Rattle.expansion_laws.specs.composition.declared.setting.Setting.{Setting}
use Rattle.expansion_laws.specs.composition.declared.spot.PhaseSpot.{PhaseSpot}
use Rattle.expansion_laws.specs.composition.Calls.{PhaseHere, phases_in, callee, invoked}
use Rattle.expansion_laws.specs.composition.Scenes.{Spot, OfValue, Binding, phase_spot, phases, has_phase, source, source_timed}
use Rattle.expansion_laws.specs.composition.Expansion.{calling, expansion}
use Rattle.expansion_laws.specs.composition.Expanded.{scene, spot, spots_of}
use Rattle.field_flatten.specs.Exactness.{is_value_source}
use Rattle.field_flatten.proofs.Tests.{two_ways, In, map_in, any_at, all_from, path_is}
use Rattle.scene_laws.specs.Premises.{is_free}
use Rattle.scene_laws.proofs.FaultRows.{no_right, not_from}
use Rattle.scene_laws.proofs.Picked.{filter_map_in}
use Rattle.scene_laws.proofs.EachSpot.{each_spot, value_paths}
use Rattle.scene_laws.proofs.OwnedHeads.{AreOwned, invoked_behaviour}
use Rattle.scene_laws.proofs.PhasePaths.{do_within}
use Rattle.scene_laws.proofs.Steps.{joined_again, AreMembers}

-- ---- last steps

-- the last step is a member or `do`, as that of each phase
abbrev pub ends_phase : List Step → Bool
ends_phase [] = false
ends_phase (Name name ∷ []) = bytes_eq name (codes "do")
ends_phase (Index n ∷ []) = false
ends_phase (Member n ∷ []) = true
ends_phase (step ∷ next ∷ later) = ends_phase (next ∷ later)

pub ends_after : (xs : List Step) (y : Step) (ys : List Step) → ends_phase (xs ++ y ∷ ys) ≡ ends_phase (y ∷ ys)
ends_after [] y ys = refl
ends_after (Name n ∷ []) y ys = refl
ends_after (Index n ∷ []) y ys = refl
ends_after (Member n ∷ []) y ys = refl
ends_after (Name n ∷ x ∷ xs) y ys = ends_after (x ∷ xs) y ys
ends_after (Index n ∷ x ∷ xs) y ys = ends_after (x ∷ xs) y ys
ends_after (Member n ∷ x ∷ xs) y ys = ends_after (x ∷ xs) y ys

members_end : (n : ℕ) (ms : List Step) → AreMembers ms → ends_phase (Member n ∷ ms) ≡ true
members_end n [] m = refl
members_end n (Member k ∷ ms) m = members_end k ms m
members_end n (Name k ∷ ms) m = absurd m
members_end n (Index k ∷ ms) m = absurd m

do_end : (ms : List Step) → AreMembers ms → ends_phase (Name (codes "do") ∷ ms) ≡ true
do_end [] m = refl
do_end (Member k ∷ ms) m = members_end k ms m
do_end (Name k ∷ ms) m = absurd m
do_end (Index k ∷ ms) m = absurd m

pub timed_name : (xs : List Step) (n : List ℕ) → bytes_eq n (codes "duration") ≡ true → timed_part (xs ++ Name n ∷ []) ≡ Some xs
timed_name [] n h = rw h refl
timed_name (Name m ∷ []) n h = rw h refl
timed_name (Index m ∷ []) n h = rw h refl
timed_name (Member m ∷ []) n h = rw h refl
timed_name (Name m ∷ x ∷ xs) n h = rw (timed_name (x ∷ xs) n h) refl
timed_name (Index m ∷ x ∷ xs) n h = rw (timed_name (x ∷ xs) n h) refl
timed_name (Member m ∷ x ∷ xs) n h = rw (timed_name (x ∷ xs) n h) refl

pub untimed_name : (xs : List Step) (n : List ℕ) → bytes_eq n (codes "duration") ≡ false → timed_part (xs ++ Name n ∷ []) ≡ None
untimed_name [] n h = rw h refl
untimed_name (Name m ∷ []) n h = rw h refl
untimed_name (Index m ∷ []) n h = rw h refl
untimed_name (Member m ∷ []) n h = rw h refl
untimed_name (Name m ∷ x ∷ xs) n h = rw (untimed_name (x ∷ xs) n h) refl
untimed_name (Index m ∷ x ∷ xs) n h = rw (untimed_name (x ∷ xs) n h) refl
untimed_name (Member m ∷ x ∷ xs) n h = rw (untimed_name (x ∷ xs) n h) refl

pub untimed_index : (xs : List Step) (n : ℕ) → timed_part (xs ++ Index n ∷ []) ≡ None
untimed_index [] n = refl
untimed_index (Name m ∷ []) n = refl
untimed_index (Index m ∷ []) n = refl
untimed_index (Member m ∷ []) n = refl
untimed_index (Name m ∷ x ∷ xs) n = rw (untimed_index (x ∷ xs) n) refl
untimed_index (Index m ∷ x ∷ xs) n = rw (untimed_index (x ∷ xs) n) refl
untimed_index (Member m ∷ x ∷ xs) n = rw (untimed_index (x ∷ xs) n) refl

pub untimed_member : (xs : List Step) (n : ℕ) → timed_part (xs ++ Member n ∷ []) ≡ None
untimed_member [] n = refl
untimed_member (Name m ∷ []) n = refl
untimed_member (Index m ∷ []) n = refl
untimed_member (Member m ∷ []) n = refl
untimed_member (Name m ∷ x ∷ xs) n = rw (untimed_member (x ∷ xs) n) refl
untimed_member (Index m ∷ x ∷ xs) n = rw (untimed_member (x ∷ xs) n) refl
untimed_member (Member m ∷ x ∷ xs) n = rw (untimed_member (x ∷ xs) n) refl

-- the path of a phase is no duration's
untimed_run : (xs : List Step) (n : ℕ) (ms : List Step) → AreMembers ms → timed_part (xs ++ Member n ∷ ms) ≡ None
untimed_run xs n [] m = untimed_member xs n
untimed_run xs n (Member k ∷ ms) m = ap timed_part (sym (joined_again xs (Member n ∷ []) (Member k ∷ ms))) ∙ untimed_run (xs ++ Member n ∷ []) k ms m
untimed_run xs n (Name k ∷ ms) m = absurd m
untimed_run xs n (Index k ∷ ms) m = absurd m

untimed_do : (xs : List Step) (ms : List Step) → AreMembers ms → timed_part (xs ++ Name (codes "do") ∷ ms) ≡ None
untimed_do xs [] m = untimed_name xs (codes "do") refl
untimed_do xs (Member k ∷ ms) m = ap timed_part (sym (joined_again xs (Name (codes "do") ∷ []) (Member k ∷ ms))) ∙ untimed_run (xs ++ Name (codes "do") ∷ []) k ms m
untimed_do xs (Name k ∷ ms) m = absurd m
untimed_do xs (Index k ∷ ms) m = absurd m

-- ---- paths

-- neither the named scenario nor a phase
abbrev IsPlain : List Step → Type 0
IsPlain steps = (ends_phase steps ≡ false) × (steps ≡ [] → ⊥)

-- if a duration is read at the path, it is that of no phase and not of the named scenario
abbrev Untimed : Path → Type 0
Untimed path = (init : List Step) → timed_part path.steps ≡ Some init → IsPlain init

never_timed : (path : Path) → timed_part path.steps ≡ None → Untimed path
never_timed path h init e = absurd (differ (sym h ∙ e))
  where
    differ : None ≡ Some init → ⊥
    differ f = cc

not_empty : (xs : List Step) (y : Step) → xs ++ y ∷ [] ≡ [] → ⊥
not_empty [] y h = cc
not_empty (x ∷ xs) y h = cc

module _ (ts : Types) (owned : AreOwned ts.table.heads) (free : (t : ℕ) (f : Field) → In f (fields ts t) → is_free f.name.text ≡ true)
    (no_duration : (t : ℕ) → is_behaviour (form ts.table.heads t) ≡ true → (f : Field) → In f (fields ts t) → f.name.text ≡ codes "duration" → ⊥) where
  abbrev Inv : Path → ℕ → List Guard → List Binding → Type 0
  Inv path t guards bindings = ((is_behaviour (form ts.table.heads t) ≡ true) ⊎ IsPlain path.steps) × Untimed path

  field_untimed : (path : Path) (t : ℕ) → (is_behaviour (form ts.table.heads t) ≡ true) ⊎ IsPlain path.steps → (f : Field) → In f (fields ts t) → Untimed (then_name path f.name.text)
  field_untimed path t kind f i = two_ways (bytes_eq f.name.text (codes "duration"))
      (λ e init h. plain kind ((bytes_eq-Decides f.name.text (codes "duration")).0 e) init (sym (timed_name path.steps f.name.text e) ∙ h))
      (λ e. never_timed (then_name path f.name.text) (untimed_name path.steps f.name.text e))
    where
      plain : (is_behaviour (form ts.table.heads t) ≡ true) ⊎ IsPlain path.steps → f.name.text ≡ codes "duration" → (init : List Step) → Some path.steps ≡ Some init → IsPlain init
      plain (inl b) named init h = absurd (no_duration t b f i named)
      plain (inr p) named init h = let same : path.steps ≡ init = cc in subst IsPlain same p

  free_do : (name : List ℕ) → is_free name ≡ true → bytes_eq name (codes "do") ≡ false
  free_do name h =
      let row = not_from (bytes_eq name (codes "it") || (bytes_eq name (codes "actor") || bytes_eq name (codes "do"))) h in
      no_right (bytes_eq name (codes "actor")) _ (no_right (bytes_eq name (codes "it")) _ row)

  value_untimed : (path : Path) (count : Option ℕ) → Untimed path → (q : Path) → In q (value_paths ts path count) → Untimed q
  value_untimed path None h q (inl e) = subst Untimed (sym e) h
  value_untimed path None h q (inr k) = absurd k
  value_untimed path (Some count) h q i = let m = map_in (then_index path) (range_with_len 0 count) q i in subst Untimed (sym m.2) (never_timed (then_index path m.0) (untimed_index path.steps m.0))

  phase_untimed : (bindings : List Binding) (path : Path) (guards : List Guard) (d : Do) (p : PhaseHere) → In p (phases_in d.phase) → Untimed (calling bindings path guards d p).path
  phase_untimed bindings path guards d p i =
      let w = do_within d.phase p i in
      never_timed (calling bindings path guards d p).path (ap (λ l. timed_part (path.steps ++ l)) w.2 ∙ untimed_do path.steps w.0 w.1)

  actor_plain : IsPlain (Name (codes "actor") ∷ [])
  actor_plain = (refl, λ h. not_empty [] (Name (codes "actor")) h)

  pub spots_untimed : (t : ℕ) → is_behaviour (form ts.table.heads t) ≡ true → (s : Spot) → In s (spots_of ts (expansion ts t)) → Untimed s.path
  spots_untimed t behaves s i =
      each_spot ts Inv (λ s. Untimed s.path)
      (λ path t guards bindings h. h.1)
      (λ path t guards bindings h f j of typed range is q k. value_untimed (then_name path f.name.text) (list_length f.tree) (field_untimed path t h.0 f j) q k)
      (λ path t guards bindings h d is p j label place kind arguments members e. phase_untimed bindings path guards d p j)
      (λ path t guards bindings h d is p j label head names arguments parts e of to. phase_untimed bindings path guards d p j)
      (λ path t guards bindings h d is p j. phase_untimed bindings path guards d p j)
      (λ path t guards bindings h f j of typed k. (inr (ends_after path.steps (Name f.name.text) [] ∙ free_do f.name.text (free t f j), not_empty path.steps (Name f.name.text)), field_untimed path t h.0 f j))
      (λ path t guards bindings h d is p j label head names arguments parts e of to. (inl (invoked_behaviour ts owned d.holder (callee head names) of to), phase_untimed bindings path guards d p j))
      t (inl behaves, never_timed root refl) (λ a e. (inr actor_plain, never_timed (then_name root (codes "actor")) refl)) s i

  abbrev EndsPhase : Spot → Type 0
  EndsPhase s = (p : PhaseSpot) → phase_spot s.path s.content ≡ Some p → ends_phase p.path.steps ≡ true

  phase_ends : (bindings : List Binding) (path : Path) (guards : List Guard) (d : Do) (p : PhaseHere) → In p (phases_in d.phase) → ends_phase (calling bindings path guards d p).path.steps ≡ true
  phase_ends bindings path guards d p i =
      let w = do_within d.phase p i in
      ap (λ l. ends_phase (path.steps ++ l)) w.2 ∙ ends_after path.steps (Name (codes "do")) w.0 ∙ do_end w.0 w.1

  spot_ends : (t : ℕ) (s : Spot) → In s (spots_of ts (expansion ts t)) → EndsPhase s
  spot_ends t s i =
      each_spot ts (λ path t guards bindings. ⊤) EndsPhase
      (λ path t guards bindings h p e. none e)
      (λ path t guards bindings h f j of typed range is q k p e. none e)
      (λ path t guards bindings h d is p j label place kind arguments members e q k. some _ _ _ (phase_ends bindings path guards d p j) q k)
      (λ path t guards bindings h d is p j label head names arguments parts e of to q k. some _ _ _ (phase_ends bindings path guards d p j) q k)
      (λ path t guards bindings h d is p j q k. some _ _ _ (phase_ends bindings path guards d p j) q k)
      (λ path t guards bindings h f j of typed k. tt)
      (λ path t guards bindings h d is p j label head names arguments parts e of to. tt)
      t tt (λ a e. tt) s i
    where
      none : {p : PhaseSpot} → None ≡ Some p → ends_phase p.path.steps ≡ true
      none e = cc

      some : (path : Path) (kind : _) (members : List Path) → ends_phase path.steps ≡ true → (p : PhaseSpot) → Some (record { path = path; kind = kind; members = members }) ≡ Some p → ends_phase p.path.steps ≡ true
      some path kind members h p e = let same : record { path = path; kind = kind; members = members } ≡ p = cc in subst (λ (z : PhaseSpot). ends_phase z.path.steps ≡ true) same h

  -- the path of each phase ends as a phase's does
  pub has_ends : (t : ℕ) (setting : Setting) (path : Path) → has_phase (scene ts t setting) path ≡ true → ends_phase path.steps ≡ true
  has_ends t setting path h =
      let a = any_at (λ (p : PhaseSpot). same_path p.path path) (phases (scene ts t setting)) h in
      let g = filter_map_in (λ (s : Spot). phase_spot s.path s.content) (spots_of ts (expansion ts t)) a.0 a.1 in
      subst (λ z. ends_phase z.steps ≡ true) (path_is a.0.path path a.2) (spot_ends t g.0 g.1 a.0 g.2)

  value_source : (t : ℕ) (setting : Setting) (path : Path) → Untimed path → is_value_source (source (scene ts t setting) path) ≡ true
  value_source t setting path h = by (timed_part path.steps) refl
    where
      whole_is : (init : List Step) → (init ≡ [] → ⊥) → same_path (path_of init) root ≡ false
      whole_is [] f = absurd (f refl)
      whole_is (x ∷ xs) f = refl

      no_phase : (init : List Step) → ends_phase init ≡ false → has_phase (scene ts t setting) (path_of init) ≡ false
      no_phase init e = two_ways (has_phase (scene ts t setting) (path_of init)) (λ k. absurd (true≢false (sym (has_ends t setting (path_of init) k) ∙ e))) (λ k. k)

      timed : (init : List Step) → IsPlain init → is_value_source (source_timed (scene ts t setting) (path_of init)) ≡ true
      timed init p = rw (whole_is init p.1, no_phase init p.0) refl

      by : (o : Option (List Step)) → timed_part path.steps ≡ o → is_value_source (option_map_or (λ steps. source_timed (scene ts t setting) (path_of steps)) o OfValue) ≡ true
      by None e = refl
      by (Some init) e = timed init (h init e)

  pub no_durations : (t : ℕ) (setting : Setting) → is_behaviour (form ts.table.heads t) ≡ true → list_all (λ (s : Spot). is_value_source (source (scene ts t setting) s.path)) (spots_of ts (expansion ts t)) ≡ true
  no_durations t setting behaves = all_from (λ (s : Spot). is_value_source (source (scene ts t setting) s.path)) (spots_of ts (expansion ts t)) (λ s i. value_source t setting s.path (spots_untimed t behaves s i))
