-- Each turn on the way to a phase is at a `one_of` that stands there, by the turns before it.
use Rattle.std.proofs.Common.{◌≡◌, ℕ, suc, ◌+◌, ◌<◌, refl, sym, ap, subst, inl, inr, List, [], ◌∷◌, ◌++◌, Option, length, arith}
use Rattle.std.specs.Prelude.{⊤}
use Rattle.osc_base.specs.declared.fault.Place.{Place}
use Rattle.osc_base.specs.declared.path.Path.{Path}
use Rattle.osc_base.specs.Paths.{root, then_do, then_member}
use Rattle.expr_eval.specs.dsl_tree.declared.parts.Ident.{Ident}
use Rattle.expr_eval.specs.dsl_tree.declared.phases.CompKind.{CompKind}
use Rattle.expr_eval.specs.dsl_tree.PhaseTree as Tree
use Rattle.expr_eval.specs.dsl_tree.PhaseTree.{ArgumentTree, PhaseTree, Comp, Invoke, Wait, PhaseRow, phases_of}
use Rattle.run_values.specs.composition.Calls.{Turn, turns, PhaseHere, phases_at, phases_among, phases_in}
use Rattle.run_values.proofs.of_field_flatten.Tests.{In, in_left, in_right, in_either}
use Rattle.scene_laws.proofs.Steps.{joined_again}

-- a `one_of` with its members
pub record OneOf (phase : PhaseTree) : Type 0 where
  pub label : Option Ident
  pub place : Place
  pub arguments : List ArgumentTree
  pub members : PhaseRow
  pub is : phase ≡ Comp label place CompKind.OneOf arguments members

-- a turn is at a `one_of` among these, to which the turns before it lead, and takes one of its members
pub record Turned (ps : List PhaseHere) (before : List Turn) (turn : Turn) : Type 0 where
  pub at : PhaseHere
  pub inside : In at ps
  pub path : at.path ≡ turn.phase
  pub way : at.way ≡ before
  pub one : OneOf at.phase
  pub few : turn.member < length (phases_of one.members)

-- so for each turn of a way, after some
abbrev pub WayFrom : List PhaseHere → List Turn → List Turn → Type 0
WayFrom ps before [] = ⊤
WayFrom ps before (turn ∷ rest) = Turned ps before turn × WayFrom ps (before ++ turn ∷ []) rest

nil_after : {A : Type 0} (xs : List A) → xs ++ [] ≡ xs
nil_after [] = refl
nil_after (x ∷ xs) = ap (λ l. x ∷ l) (nil_after xs)

way_append : (ps : List PhaseHere) (xs before ys : List Turn) → WayFrom ps before xs → WayFrom ps (before ++ xs) ys → WayFrom ps before (xs ++ ys)
way_append ps [] before ys p q = subst (λ l. WayFrom ps l ys) (nil_after before) q
way_append ps (x ∷ xs) before ys p q = (p.0, way_append ps xs (before ++ x ∷ []) ys p.1 (subst (λ l. WayFrom ps l ys) (sym (joined_again before (x ∷ []) xs)) q))

module _ (ps : List PhaseHere) where
  -- the members of a composition, of which the next has the number n
  record Members (kind : CompKind) (path : Path) (way : List Turn) (n : ℕ) (row : PhaseRow) : Type 0 where
    total : PhaseRow
    count : n + length (phases_of row) ≡ length (phases_of total)
    one : kind ≡ CompKind.OneOf → (at : PhaseHere) × In at ps × (at.path ≡ path) × (at.way ≡ way) × ((o : OneOf at.phase) × (o.members ≡ total))

  taken : (kind : CompKind) (path : Path) (way : List Turn) (n : ℕ) (phase : PhaseTree) (others : PhaseRow) → Members kind path way n (Tree.Phase phase others) → WayFrom ps [] way → WayFrom ps [] (way ++ turns kind path n)
  taken CompKind.Serial path way n phase others m w = subst (WayFrom ps []) (sym (nil_after way)) w
  taken CompKind.Parallel path way n phase others m w = subst (WayFrom ps []) (sym (nil_after way)) w
  taken CompKind.OneOf path way n phase others m w =
      let g = m.one refl in
      way_append ps way [] (record { phase = path; member = n } ∷ []) w
      (record { at = g.0; inside = g.1; path = g.2; way = g.3; one = g.4.0; few = subst (λ r. n < length (phases_of r)) (sym g.4.1) (less n (length (phases_of others)) (length (phases_of m.total)) m.count) }, tt)
    where
      less : (n k t : ℕ) → n + suc k ≡ t → n < t
      less n k t e = omega (arith, e)

  next : (kind : CompKind) (path : Path) (way : List Turn) (n : ℕ) (phase : PhaseTree) (others : PhaseRow) → Members kind path way n (Tree.Phase phase others) → Members kind path way (n + 1) others
  next kind path way n phase others m = record { total = m.total; count = moved n (length (phases_of others)) (length (phases_of m.total)) m.count; one = m.one }
    where
      moved : (n k t : ℕ) → n + suc k ≡ t → (n + 1) + k ≡ t
      moved n k t e = omega (arith, e)

  mutual
    ways_at : (path : Path) (way : List Turn) (phase : PhaseTree) → ((p : PhaseHere) → In p (phases_at path way phase) → In p ps) → WayFrom ps [] way → (p : PhaseHere) → In p (phases_at path way phase) → WayFrom ps [] p.way
    ways_at path way (Comp label place kind arguments members) inside w p (inl e) = subst (λ (z : PhaseHere). WayFrom ps [] z.way) (sym e) w
    ways_at path way (Comp label place kind arguments members) inside w p (inr i) =
        ways_among kind path way 0 members (λ q j. inside q (inr j)) w
        (record {
          total = members;
          count = zero_more (length (phases_of members));
          one = λ same. (
            record { path = path; way = way; phase = Comp label place kind arguments members },
            inside (record { path = path; way = way; phase = Comp label place kind arguments members }) (inl refl),
            refl,
            refl,
            (record { label = label; place = place; arguments = arguments; members = members; is = ap (λ z. Comp label place z arguments members) same }, refl),
          );
        }) p i
      where
        zero_more : (n : ℕ) → 0 + n ≡ n
        zero_more n = omega arith
    ways_at path way (Invoke label head names arguments parts) inside w p (inl e) = subst (λ (z : PhaseHere). WayFrom ps [] z.way) (sym e) w
    ways_at path way (Invoke label head names arguments parts) inside w p (inr i) = absurd i
    ways_at path way (Wait label place elapsed) inside w p (inl e) = subst (λ (z : PhaseHere). WayFrom ps [] z.way) (sym e) w
    ways_at path way (Wait label place elapsed) inside w p (inr i) = absurd i

    ways_among : (kind : CompKind) (path : Path) (way : List Turn) (n : ℕ) (row : PhaseRow) → ((p : PhaseHere) → In p (phases_among kind path way n row) → In p ps) → WayFrom ps [] way → Members kind path way n row
        → (p : PhaseHere) → In p (phases_among kind path way n row) → WayFrom ps [] p.way
    ways_among kind path way n Tree.End inside w m p i = absurd i
    ways_among kind path way n (Tree.Phase phase others) inside w m p i =
        elim (in_either p (phases_at (then_member path n) (way ++ turns kind path n) phase) (phases_among kind path way (n + 1) others) i) as (λ _. WayFrom ps [] p.way) [
          | inl j ↦ ways_at (then_member path n) (way ++ turns kind path n) phase (λ q l. inside q (in_left q (phases_at (then_member path n) (way ++ turns kind path n) phase) (phases_among kind path way (n + 1) others) l)) (taken kind path way n phase others m w) p j
          | inr j ↦ ways_among kind path way (n + 1) others (λ q l. inside q (in_right q (phases_at (then_member path n) (way ++ turns kind path n) phase) (phases_among kind path way (n + 1) others) l)) w (next kind path way n phase others m) p j
        ]

-- the way to each phase of a `do`
pub do_ways : (phase : PhaseTree) (p : PhaseHere) → In p (phases_in phase) → WayFrom (phases_in phase) [] p.way
do_ways phase p i = ways_at (phases_in phase) (then_do root) [] phase (λ q j. j) tt p i
