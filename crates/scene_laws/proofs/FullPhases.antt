-- Each `one_of` of a scene has a member.
use Rattle.std.proofs.Common.{◌≡◌, ℕ, zero, suc, ◌+◌, refl, sym, ap, subst, inl, inr, List, [], ◌∷◌, ◌++◌, Bool, true, false, cond, Option, Some, None, map, length, arith, true≢false}
use Rattle.std.specs.Prelude.{⊤, nat_lt, is_some}
use Rattle.std.specs.List.{list_all, range_with_len}
use Rattle.field_flatten.specs.osc_base.declared.path.Path.{Path}
use Rattle.field_flatten.specs.osc_base.Paths.{root, then_do, then_member}
use Rattle.expansion_laws.specs.dsl_tree.declared.parts.Ident.{Ident}
use Rattle.expansion_laws.specs.dsl_tree.declared.phases.CompKind.{CompKind}
use Rattle.expansion_laws.specs.dsl_tree.PhaseTree.{ArgumentTree, PhaseTree, Comp, Invoke, Wait, PhaseRow, End, Phase, phases_of}
use Rattle.expansion_laws.specs.dsl_tree.FileTree.{MemberTree}
use Rattle.expansion_laws.specs.type_heads.Types.{Types, Member, Do}
use Rattle.expansion_laws.specs.type_heads.Members.{members, do_declared, dos, the_do}
use Rattle.expansion_laws.specs.composition.declared.setting.Setting.{Setting}
use Rattle.expansion_laws.specs.composition.declared.spot.ChoiceSpot.{ChoiceSpot}
use Rattle.expansion_laws.specs.composition.Calls.{Turn, turns, PhaseHere, phases_at, phases_among}
use Rattle.expansion_laws.specs.composition.Scenes.{Content, Spot, choice_spot, choices}
use Rattle.expansion_laws.specs.composition.Expansion.{expansion}
use Rattle.expansion_laws.specs.composition.Expanded.{scene, spots_of}
use Rattle.field_flatten.proofs.Tests.{left_of, right_of, In, in_either, all_from, found_in}
use Rattle.scene_laws.specs.Premises.{is_full, row_is_full, is_formed}
use Rattle.scene_laws.proofs.Picked.{filter_map_in}
use Rattle.scene_laws.proofs.EachSpot.{each_spot, invoked_kind, invoked_members}
use Rattle.scene_laws.proofs.WrittenMembers.{AllMembers}

mutual
  pub phases_full : (path : Path) (way : List Turn) (phase : PhaseTree) → is_full phase ≡ true → (p : PhaseHere) → In p (phases_at path way phase) → is_full p.phase ≡ true
  phases_full path way (Comp label place kind arguments members) h p (inl e) = subst (λ (z : PhaseHere). is_full z.phase ≡ true) (sym e) h
  phases_full path way (Comp label place kind arguments members) h p (inr i) = row_full kind path way 0 members (right_of (nat_lt 0 (length (phases_of members))) (row_is_full members) h) p i
  phases_full path way (Invoke label head names arguments parts) h p (inl e) = subst (λ (z : PhaseHere). is_full z.phase ≡ true) (sym e) h
  phases_full path way (Invoke label head names arguments parts) h p (inr i) = absurd i
  phases_full path way (Wait label place elapsed) h p (inl e) = subst (λ (z : PhaseHere). is_full z.phase ≡ true) (sym e) h
  phases_full path way (Wait label place elapsed) h p (inr i) = absurd i

  row_full : (kind : CompKind) (path : Path) (way : List Turn) (n : ℕ) (row : PhaseRow) → row_is_full row ≡ true → (p : PhaseHere) → In p (phases_among kind path way n row) → is_full p.phase ≡ true
  row_full kind path way n End h p i = absurd i
  row_full kind path way n (Phase phase others) h p i =
      elim (in_either p (phases_at (then_member path n) (way ++ turns kind path n) phase) (phases_among kind path way (n + 1) others) i) as (λ _. is_full p.phase ≡ true) [
        | inl j ↦ phases_full (then_member path n) (way ++ turns kind path n) phase (left_of (is_full phase) (row_is_full others) h) p j
        | inr j ↦ row_full kind path way (n + 1) others (right_of (is_full phase) (row_is_full others) h) p j
      ]

-- the `do` of a type is a member of it
pub do_is : (ts : Types) (t : ℕ) (d : Do) → the_do ts t ≡ Some d → (m : Member) × In m (members ts t) × (do_declared m m.written.member ≡ Some d)
do_is ts t d h = filter_map_in (λ (m : Member). do_declared m m.written.member) (members ts t) d (found_in (λ d. true) (dos ts t) d h).0

module _ (ts : Types) (formed : AllMembers is_formed ts) where
  pub do_full : (t : ℕ) (d : Do) → the_do ts t ≡ Some d → is_full d.phase ≡ true
  do_full t d h = let m = do_is ts t d h in by m.0 m.0.written.member (formed.members t m.0 m.1) m.2
    where
      by : (m : Member) (tree : MemberTree) → is_formed tree ≡ true → do_declared m tree ≡ Some d → is_full d.phase ≡ true
      by m (MemberTree.Do place phase) f e = let same : phase ≡ d.phase = ap (λ o. phase_or phase o) e in subst (λ z. is_full z ≡ true) same f
        where
          phase_or : PhaseTree → Option Do → PhaseTree
          phase_or p None = p
          phase_or p (Some d) = d.phase
      by m (MemberTree.Field x) f e = cc
      by m (MemberTree.Rule r) f e = cc

  abbrev HasMembers : Spot → Type 0
  HasMembers s = (c : ChoiceSpot) → choice_spot s.path s.content ≡ Some c → nat_lt 0 c.members ≡ true

  some_members : (make : ℕ → Path) (n : ℕ) → nat_lt 0 n ≡ true → nat_lt 0 (length (map make (range_with_len 0 n))) ≡ true
  some_members make zero h = absurd (true≢false (sym h))
  some_members make (suc n) h = filled (make 0) (map make (range_with_len 1 n))
    where
      filled : (x : Path) (xs : List Path) → nat_lt 0 (length (x ∷ xs)) ≡ true
      filled x xs = grind arith

  choice_is : (b : Bool) (path : Path) (members : List Path) → (b ≡ true → nat_lt 0 (length members) ≡ true) → (c : ChoiceSpot) → cond b (Some (record { path = path; members = length members })) None ≡ Some c → nat_lt 0 c.members ≡ true
  choice_is true path members h c e = let same : record { path = path; members = length members } ≡ c = cc in subst (λ (z : ChoiceSpot). nat_lt 0 z.members ≡ true) same (h refl)
  choice_is false path members h c e = cc

  full_members : (p : PhaseTree) (label : Option Ident) (place : _) (kind : CompKind) (arguments : List ArgumentTree) (members : PhaseRow) → p ≡ Comp label place kind arguments members → is_full p ≡ true → nat_lt 0 (length (phases_of members)) ≡ true
  full_members p label place kind arguments members e h = left_of (nat_lt 0 (length (phases_of members))) (row_is_full members) (subst (λ z. is_full z ≡ true) e h)

  spot_members : (t : ℕ) (s : Spot) → In s (spots_of ts (expansion ts t)) → HasMembers s
  spot_members t s i =
      each_spot ts (λ path t guards bindings. ⊤) HasMembers
      (λ path t guards bindings h c e. none e)
      (λ path t guards bindings h f j of typed range is q k c e. none e)
      (λ path t guards bindings h d is p j label place kind arguments members e c k.
      choice_is _ _ _ (λ b. some_members (then_member _) (length (phases_of members)) (full_members p.phase label place kind arguments members e (phases_full (then_do root) [] d.phase (do_full t d is) p j))) c k)
      (λ path t guards bindings h d is p j label head names arguments parts e of to c k. never (is_some (the_do ts of)) _ k)
      (λ path t guards bindings h d is p j c k. none k)
      (λ path t guards bindings h f j of typed k. tt)
      (λ path t guards bindings h d is p j label head names arguments parts e of to. tt)
      t tt (λ a e. tt) s i
    where
      none : {c : ChoiceSpot} → None ≡ Some c → nat_lt 0 c.members ≡ true
      none e = cc

      never : (b : Bool) (path : Path) {c : ChoiceSpot} → choice_spot path (Content.Phase (invoked_kind ts b) (invoked_members ts path b)) ≡ Some c → nat_lt 0 c.members ≡ true
      never true path e = cc
      never false path e = cc

  pub choices_full : (t : ℕ) (setting : Setting) → list_all (λ (c : ChoiceSpot). nat_lt 0 c.members) (choices (scene ts t setting)) ≡ true
  choices_full t setting = all_from (λ (c : ChoiceSpot). nat_lt 0 c.members) (choices (scene ts t setting)) (λ c i.
      let g = filter_map_in (λ (s : Spot). choice_spot s.path s.content) (spots_of ts (expansion ts t)) c i in
      spot_members t g.0 g.1 c g.2)
