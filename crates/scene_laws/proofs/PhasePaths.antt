-- The paths of the phases of a `do`.
use Rattle.std.proofs.Common.{◌≡◌, ℕ, ◌+◌, ◌≤◌, refl, sym, ap, ◌∙◌, subst, inl, inr, List, [], ◌∷◌, ◌++◌, arith}
use Rattle.field_flatten.specs.osc_base.declared.path.Path.{Path}
use Rattle.field_flatten.specs.osc_base.declared.path.Step.{Step}
use Rattle.field_flatten.specs.osc_base.declared.path.Step.TheVariants.{Member}
use Rattle.field_flatten.specs.osc_base.Paths.{root, then_member, then_do}
use Rattle.expansion_laws.specs.dsl_tree.declared.phases.CompKind.{CompKind}
use Rattle.expansion_laws.specs.dsl_tree.PhaseTree.{PhaseTree, Comp, Invoke, Wait, PhaseRow, End, Phase}
use Rattle.expansion_laws.specs.composition.Calls.{Turn, turns, PhaseHere, phases_at, phases_among, phases_in}
use Rattle.field_flatten.proofs.Tests.{In, in_either}
use Rattle.scene_laws.proofs.FieldNames.{Pairs}
use Rattle.scene_laws.proofs.Steps.{joined_again, cancelled, nothing_after, pairs_append, AreMembers}

-- member steps after a path
abbrev pub Within : Path → Path → Type 0
Within base path = (ms : List Step) × AreMembers ms × (path.steps ≡ base.steps ++ ms)

-- member steps after a path, the first of which has at least that number
abbrev From : Path → ℕ → Path → Type 0
From base n path = (k : ℕ) × (ms : List Step) × (n ≤ k) × AreMembers ms × (path.steps ≡ base.steps ++ Member k ∷ ms)

nil_after : (xs : List Step) → xs ++ [] ≡ xs
nil_after [] = refl
nil_after (x ∷ xs) = ap (λ l. x ∷ l) (nil_after xs)

less : (a b : ℕ) → a + 1 ≤ b → a ≤ b
less a b h = omega (arith, h)

not_more : (a b : ℕ) → a ≡ b → a + 1 ≤ b → ⊥
not_more a b e h = omega (arith, e, h)

mutual
  pub phases_within : (path : Path) (way : List Turn) (phase : PhaseTree) (p : PhaseHere) → In p (phases_at path way phase) → Within path p.path
  phases_within path way (Comp label place kind arguments members) p (inl e) = subst (λ (z : PhaseHere). Within path z.path) (sym e) ([], tt, sym (nil_after path.steps))
  phases_within path way (Comp label place kind arguments members) p (inr i) = let f = among_from kind path way 0 members p i in (Member f.0 ∷ f.1, f.3, f.4)
  phases_within path way (Invoke label head names arguments parts) p (inl e) = subst (λ (z : PhaseHere). Within path z.path) (sym e) ([], tt, sym (nil_after path.steps))
  phases_within path way (Invoke label head names arguments parts) p (inr i) = absurd i
  phases_within path way (Wait label place elapsed) p (inl e) = subst (λ (z : PhaseHere). Within path z.path) (sym e) ([], tt, sym (nil_after path.steps))
  phases_within path way (Wait label place elapsed) p (inr i) = absurd i

  among_from : (kind : CompKind) (path : Path) (way : List Turn) (n : ℕ) (row : PhaseRow) (p : PhaseHere) → In p (phases_among kind path way n row) → From path n p.path
  among_from kind path way n End p i = absurd i
  among_from kind path way n (Phase phase others) p i =
      elim (in_either p (phases_at (then_member path n) (way ++ turns kind path n) phase) (phases_among kind path way (n + 1) others) i) as (λ _. From path n p.path) [
        | inl j ↦ let w = phases_within (then_member path n) (way ++ turns kind path n) phase p j in (n, w.0, omega arith, w.1, w.2 ∙ joined_again path.steps (Member n ∷ []) w.0)
        | inr j ↦ let f = among_from kind path way (n + 1) others p j in (f.0, f.1, less n f.0 f.2, f.3, f.4)
      ]

abbrev member_number : List Step → ℕ
member_number (Member n ∷ rest) = n
member_number _ = 0

abbrev pub PathsDiffer : PhaseHere → PhaseHere → Type 0
PathsDiffer p q = p.path ≡ q.path → ⊥

mutual
  pub phases_apart : (path : Path) (way : List Turn) (phase : PhaseTree) → Pairs PathsDiffer (phases_at path way phase)
  phases_apart path way (Comp label place kind arguments members) = (λ p i same. apart p i same, among_apart kind path way 0 members)
    where
      apart : (p : PhaseHere) → In p (phases_among kind path way 0 members) → path ≡ p.path → ⊥
      apart p i same = let f = among_from kind path way 0 members p i in nothing_after path.steps (Member f.0) f.1 (ap (λ z. z.steps) same ∙ f.4)
  phases_apart path way (Invoke label head names arguments parts) = (λ p i same. i, tt)
  phases_apart path way (Wait label place elapsed) = (λ p i same. i, tt)

  among_apart : (kind : CompKind) (path : Path) (way : List Turn) (n : ℕ) (row : PhaseRow) → Pairs PathsDiffer (phases_among kind path way n row)
  among_apart kind path way n End = tt
  among_apart kind path way n (Phase phase others) =
      pairs_append PathsDiffer (phases_at (then_member path n) (way ++ turns kind path n) phase) (phases_among kind path way (n + 1) others)
      (phases_apart (then_member path n) (way ++ turns kind path n) phase) (among_apart kind path way (n + 1) others)
      (λ p q i j same.
      let w = phases_within (then_member path n) (way ++ turns kind path n) phase p i in
      let f = among_from kind path way (n + 1) others q j in
      let steps : path.steps ++ Member n ∷ w.0 ≡ path.steps ++ Member f.0 ∷ f.1 = sym (joined_again path.steps (Member n ∷ []) w.0) ∙ sym w.2 ∙ ap (λ z. z.steps) same ∙ f.4 in
      let number : n ≡ f.0 = ap member_number (cancelled path.steps (Member n ∷ w.0) (Member f.0 ∷ f.1) steps) in
      absurd (not_more n f.0 number f.2))

-- the phases of a `do` are at member steps after it, and no two at one path
pub do_within : (phase : PhaseTree) (p : PhaseHere) → In p (phases_in phase) → Within (then_do root) p.path
do_within phase p i = phases_within (then_do root) [] phase p i

pub do_apart : (phase : PhaseTree) → Pairs PathsDiffer (phases_in phase)
do_apart phase = phases_apart (then_do root) [] phase
