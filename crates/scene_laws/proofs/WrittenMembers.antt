-- Each member of a type is written in the text of the type that holds it, and each text is of the program.
use Rattle.std.proofs.Common.{◌≡◌, ℕ, zero, suc, ◌+◌, refl, sym, ap, ◌∙◌, subst, ◌⊎◌, inl, inr, List, [], ◌∷◌, ◌++◌, Bool, true, false, not, cond, Some, map, length}
use Rattle.std.specs.Prelude.{filter, flat_map, filter_map, slice_index_or, option_to_list}
use Rattle.std.specs.List.{list_all}
use Rattle.expansion_laws.specs.dsl_tree.FileTree.{MemberTree, DeclarationTree}
use Rattle.expansion_laws.specs.type_heads.Table.{TypeHead, base, bases, all_types}
use Rattle.expansion_laws.specs.type_heads.Types.{Program, Types, Written, TypeBody, Member}
use Rattle.expansion_laws.specs.type_heads.Members.{has, body, subtypes, Line, line_of, through, down_within, down, lines_within, member_of, members_of, members}
use Rattle.expansion_laws.specs.type_heads.DeclaredTypes.{Placed, placed, Declared, written_from, basic_types, type_declared, all_declared, means, members_added, bodies_from, heads_from, declared_heads, types_of}
use Rattle.field_flatten.proofs.Tests.{left_of, right_of, In, in_either, map_in, flat_map_in, in_filter, all_at}
use Rattle.scene_laws.proofs.Picked.{filter_map_in}

-- ---- lists

pub index_in : {A B : Type 0} (f : A → List B) (xs : List A) (n : ℕ) (y : B) → In y (slice_index_or (map f xs) n []) → (x : A) × In x xs × In y (f x)
index_in f [] n y i = absurd i
index_in f (x ∷ xs) zero y i = (x, inl refl, i)
index_in f (x ∷ xs) (suc n) y i = let g = index_in f xs n y i in (g.0, inr g.1, g.2)

-- ---- lines

module _ (heads : List TypeHead) (bodies : List TypeBody) where
  -- a member is written in the text of a type
  abbrev pub IsWrittenIn : ℕ → Written → Type 0
  IsWrittenIn t w = In w (body bodies t).own ⊎ In w (body bodies t).more

  pub down_written : (steps t : ℕ) (l : Line) → In l (down_within steps heads bodies t) → IsWrittenIn l.holder l.written
  down_written zero t l i = absurd i
  down_written (suc steps) t l i =
      elim (in_either l (map (line_of t) (body bodies t).own ++ flat_map (λ c. map (through c) (down_within steps heads bodies c)) (subtypes heads bodies t)) (map (line_of t) (body bodies t).more) i) as (λ _. IsWrittenIn l.holder l.written) [
        | inl j ↦ elim (in_either l (map (line_of t) (body bodies t).own) (flat_map (λ c. map (through c) (down_within steps heads bodies c)) (subtypes heads bodies t)) j) as (λ _. IsWrittenIn l.holder l.written) [
          | inl k ↦ let g = map_in (line_of t) (body bodies t).own l k in subst (λ (z : Line). IsWrittenIn z.holder z.written) (sym g.2) (inl g.1)
          | inr k ↦
              let g = flat_map_in (λ c. map (through c) (down_within steps heads bodies c)) (subtypes heads bodies t) l k in
              let h = map_in (through g.0) (down_within steps heads bodies g.0) l g.2 in
              subst (λ (z : Line). IsWrittenIn z.holder z.written) (sym h.2) (down_written steps g.0 h.0 h.1)
        ]
        | inr j ↦ let g = map_in (line_of t) (body bodies t).more l j in subst (λ (z : Line). IsWrittenIn z.holder z.written) (sym g.2) (inr g.1)
      ]

  pub lines_written : (steps t : ℕ) (l : Line) → In l (lines_within steps heads bodies t) → IsWrittenIn l.holder l.written
  lines_written zero t l i = absurd i
  lines_written (suc steps) t l i =
      elim (in_either l (flat_map (λ b. filter (λ l. not (has t l.through)) (lines_within steps heads bodies b)) (option_to_list (base heads t))) (down heads bodies t) i) as (λ _. IsWrittenIn l.holder l.written) [
        | inl j ↦
            let g = flat_map_in (λ b. filter (λ l. not (has t l.through)) (lines_within steps heads bodies b)) (option_to_list (base heads t)) l j in
            lines_written steps g.0 l (in_filter (λ (l : Line). not (has t l.through)) (lines_within steps heads bodies g.0) l g.2).0
        | inr j ↦ down_written (length heads) t l j
      ]

  pub members_written : (t : ℕ) (m : Member) → In m (members_of heads bodies t) → IsWrittenIn m.holder m.written
  members_written t m i =
      let g = map_in (member_of (t ∷ bases heads t)) (lines_within (length heads) heads bodies t) m i in
      subst (λ (z : Member). IsWrittenIn z.holder z.written) (sym g.2) (lines_written (length heads) t g.0 g.1)

-- ---- texts of the program

module _ (test : MemberTree → Bool) where
  abbrev AllPass : List Written → Type 0
  AllPass ws = (w : Written) → In w ws → test w.member ≡ true

  written_pass : (file index n : ℕ) (ms : List MemberTree) → list_all test ms ≡ true → AllPass (written_from file index n ms)
  written_pass file index n [] h w i = absurd i
  written_pass file index n (m ∷ ms) h w (inl e) = subst (λ (z : Written). test z.member ≡ true) (sym e) (left_of (test m) (list_all test ms) h)
  written_pass file index n (m ∷ ms) h w (inr i) = written_pass file index (n + 1) ms (right_of (test m) (list_all test ms) h) w i

  -- the members of a declaration pass
  abbrev pub members_pass : DeclarationTree → Bool
  members_pass (DeclarationTree.CompoundDeclaration d) = list_all test d.members
  members_pass (DeclarationTree.MemberExtension d) = list_all test d.members
  members_pass (DeclarationTree.TypeDeclaration d) = true
  members_pass (DeclarationTree.UnitDeclaration d) = true
  members_pass (DeclarationTree.EnumDeclaration d) = true
  members_pass (DeclarationTree.EnumExtension d) = true

  module _ (all : List Placed) (pass : (d : Placed) → In d all → members_pass d.declaration ≡ true) where
    own_pass : (d : Declared) → In d (all_declared all) → AllPass d.body.own
    own_pass d i = elim (in_either d basic_types (filter_map (λ (d : Placed). type_declared d.file d.index d.declaration) all) i) as (λ _. AllPass d.body.own) [
      | inl j ↦ basic j
      | inr j ↦
          let g = filter_map_in (λ (d : Placed). type_declared d.file d.index d.declaration) all d j in
          by g.0.file g.0.index g.0.declaration (pass g.0 g.1) g.2
    ]
      where
        none : {e : Declared} → d ≡ e → e.body.own ≡ [] → AllPass d.body.own
        none same empty = let all_empty : d.body.own ≡ [] = ap (λ (z : Declared). z.body.own) same ∙ empty in subst AllPass (sym all_empty) (λ w k. absurd k)

        basic : In d basic_types → AllPass d.body.own
        basic (inl e) = none e refl
        basic (inr (inl e)) = none e refl
        basic (inr (inr (inl e))) = none e refl
        basic (inr (inr (inr (inl e)))) = none e refl
        basic (inr (inr (inr (inr (inl e))))) = none e refl
        basic (inr (inr (inr (inr (inr k))))) = absurd k

        some : {e : Declared} → Some e ≡ Some d → d ≡ e
        some is = cc

        by : (file index : ℕ) (t : DeclarationTree) → members_pass t ≡ true → type_declared file index t ≡ Some d → AllPass d.body.own
        by file index (DeclarationTree.EnumDeclaration e) s is = none (some is) refl
        by file index (DeclarationTree.TypeDeclaration e) s is = none (some is) refl
        by file index (DeclarationTree.CompoundDeclaration e) s is = subst (λ (z : Declared). AllPass z.body.own) (sym (some is)) (written_pass file index 0 e.members s)
        by file index (DeclarationTree.UnitDeclaration e) s is = cc
        by file index (DeclarationTree.MemberExtension e) s is = cc
        by file index (DeclarationTree.EnumExtension e) s is = cc

    added_pass : (names : List TypeHead) (t : ℕ) → AllPass (flat_map (λ (p : Placed). members_added names t p p.declaration) all)
    added_pass names t w i = let g = flat_map_in (λ (p : Placed). members_added names t p p.declaration) all w i in by g.0 g.0.declaration (pass g.0 g.1) g.2
      where
        if : (b : Bool) (ws : List Written) → AllPass ws → In w (cond b ws []) → test w.member ≡ true
        if true ws f j = f w j
        if false ws f j = absurd j

        by : (p : Placed) (t' : DeclarationTree) → members_pass t' ≡ true → In w (members_added names t p t') → test w.member ≡ true
        by p (DeclarationTree.MemberExtension d) s j = if (means names d.name t) (written_from p.file p.index 0 d.members) (written_pass p.file p.index 0 d.members s) j
        by p (DeclarationTree.TypeDeclaration d) s j = absurd j
        by p (DeclarationTree.UnitDeclaration d) s j = absurd j
        by p (DeclarationTree.EnumDeclaration d) s j = absurd j
        by p (DeclarationTree.CompoundDeclaration d) s j = absurd j
        by p (DeclarationTree.EnumExtension d) s j = absurd j

    body_pass : (names : List TypeHead) (t : ℕ) (ds : List Declared) → ((d : Declared) → In d ds → AllPass d.body.own) → (k : ℕ)
        → AllPass (body (bodies_from names all t ds) k).own × AllPass (body (bodies_from names all t ds) k).more
    body_pass names t [] f k = (λ w i. absurd i, λ w i. absurd i)
    body_pass names t (d ∷ ds) f zero = (f d (inl refl), added_pass names t)
    body_pass names t (d ∷ ds) f (suc k) = body_pass names (t + 1) ds (λ e i. f e (inr i)) k

-- a test that each member of the program's declarations passes is passed by each text and by each member of each type
pub record AllMembers (test : MemberTree → Bool) (ts : Types) : Type 0 where
  pub texts : (t : ℕ) (w : Written) → IsWrittenIn [] ts.bodies t w → test w.member ≡ true
  pub members : (t : ℕ) (m : Member) → In m (members ts t) → test m.written.member ≡ true

pub all_members : (test : MemberTree → Bool) (p : Program) → list_all (λ (d : Placed). members_pass test d.declaration) (placed p) ≡ true → AllMembers test (types_of p)
unfolding types_of
all_members test p h =
    let all = placed p in
    let names = declared_heads all in
    let heads = heads_from names all 0 (all_declared all) in
    let bodies = bodies_from names all 0 (all_declared all) in
    let pass = all_at (λ (d : Placed). members_pass test d.declaration) all h in
    record {
      texts = λ t w i. text names bodies (λ k. body_pass test all pass names 0 (all_declared all) (own_pass test all pass) k) t w i;
      members = λ t m i.
          let g = index_in (members_of heads bodies) (all_types heads) t m i in
          text names bodies (λ k. body_pass test all pass names 0 (all_declared all) (own_pass test all pass) k) m.holder m.written (members_written heads bodies g.0 m g.2);
    }
  where
    text : (names : List TypeHead) (bodies : List TypeBody) → ((k : ℕ) → AllPass test (body bodies k).own × AllPass test (body bodies k).more) → (t : ℕ) (w : Written) → IsWrittenIn names bodies t w → test w.member ≡ true
    text names bodies f t w (inl i) = (f t).0 w i
    text names bodies f t w (inr i) = (f t).1 w i
