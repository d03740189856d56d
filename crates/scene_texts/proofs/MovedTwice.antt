-- Paths that are changed twice are changed once.
use Rattle.std.proofs.Common.{◌≡◌, List, [], ◌∷◌, ◌∙◌, refl, ap, ap₂}
use Rattle.dsl_tree.specs.osc_base.declared.path.Path.{Path}
use Rattle.dsl_tree.specs.osc_base.declared.path.Step.{Step}
use Rattle.dsl_tree.specs.osc_base.Paths.{path_of}
use Rattle.expansion_laws.specs.expr_nodes.Typed as Nodes
use Rattle.expansion_laws.specs.expr_nodes.Typed.{Typed, TypedRow, moved, moved_row}
use Rattle.expansion_laws.specs.composition.Givens.{Here, steps_from, from_root}
use Rattle.scene_texts.specs.Moving.{steps_under, path_under}

mutual
  pub moved_twice : (to then : Path → Path) (t : Typed) → moved then (moved to t) ≡ moved (λ p. then (to p)) t
  moved_twice to then (Nodes.Constant i number) = refl
  moved_twice to then (Nodes.Read i path per) = refl
  moved_twice to then (Nodes.Whole i path) = refl
  moved_twice to then (Nodes.Listed i is_field items) = ap (λ (r : TypedRow). Nodes.Listed i is_field r) (moved_row_twice to then items)
  moved_twice to then (Nodes.Span i low high) = ap₂ (λ (x y : Typed). Nodes.Span i x y) (moved_twice to then low) (moved_twice to then high)
  moved_twice to then (Nodes.Minus i part) = ap (λ (x : Typed). Nodes.Minus i x) (moved_twice to then part)
  moved_twice to then (Nodes.Not i part) = ap (λ (x : Typed). Nodes.Not i x) (moved_twice to then part)
  moved_twice to then (Nodes.Sum i left right) = ap₂ (λ (x y : Typed). Nodes.Sum i x y) (moved_twice to then left) (moved_twice to then right)
  moved_twice to then (Nodes.Times i left right) = ap₂ (λ (x y : Typed). Nodes.Times i x y) (moved_twice to then left) (moved_twice to then right)
  moved_twice to then (Nodes.And i left right) = ap₂ (λ (x y : Typed). Nodes.And i x y) (moved_twice to then left) (moved_twice to then right)
  moved_twice to then (Nodes.Or i left right) = ap₂ (λ (x y : Typed). Nodes.Or i x y) (moved_twice to then left) (moved_twice to then right)
  moved_twice to then (Nodes.Implies i left right) = ap₂ (λ (x y : Typed). Nodes.Implies i x y) (moved_twice to then left) (moved_twice to then right)
  moved_twice to then (Nodes.Relation i sign left right) = ap₂ (λ (x y : Typed). Nodes.Relation i sign x y) (moved_twice to then left) (moved_twice to then right)
  moved_twice to then (Nodes.Within i left right) = ap₂ (λ (x y : Typed). Nodes.Within i x y) (moved_twice to then left) (moved_twice to then right)

  pub moved_row_twice : (to then : Path → Path) (r : TypedRow) → moved_row then (moved_row to r) ≡ moved_row (λ p. then (to p)) r
  moved_row_twice to then Nodes.End = refl
  moved_row_twice to then (Nodes.Item item others) = ap₂ (λ (x : Typed) (r : TypedRow). Nodes.Item x r) (moved_twice to then item) (moved_row_twice to then others)

mutual
  -- paths that go to the same places
  pub moved_alike : (to other : Path → Path) → ((p : Path) → to p ≡ other p) → (t : Typed) → moved to t ≡ moved other t
  moved_alike to other same (Nodes.Constant i number) = refl
  moved_alike to other same (Nodes.Read i path per) = ap (λ (p : Path). Nodes.Read i p per) (same path)
  moved_alike to other same (Nodes.Whole i path) = ap (λ (p : Path). Nodes.Whole i p) (same path)
  moved_alike to other same (Nodes.Listed i is_field items) = ap (λ (r : TypedRow). Nodes.Listed i is_field r) (moved_row_alike to other same items)
  moved_alike to other same (Nodes.Span i low high) = ap₂ (λ (x y : Typed). Nodes.Span i x y) (moved_alike to other same low) (moved_alike to other same high)
  moved_alike to other same (Nodes.Minus i part) = ap (λ (x : Typed). Nodes.Minus i x) (moved_alike to other same part)
  moved_alike to other same (Nodes.Not i part) = ap (λ (x : Typed). Nodes.Not i x) (moved_alike to other same part)
  moved_alike to other same (Nodes.Sum i left right) = ap₂ (λ (x y : Typed). Nodes.Sum i x y) (moved_alike to other same left) (moved_alike to other same right)
  moved_alike to other same (Nodes.Times i left right) = ap₂ (λ (x y : Typed). Nodes.Times i x y) (moved_alike to other same left) (moved_alike to other same right)
  moved_alike to other same (Nodes.And i left right) = ap₂ (λ (x y : Typed). Nodes.And i x y) (moved_alike to other same left) (moved_alike to other same right)
  moved_alike to other same (Nodes.Or i left right) = ap₂ (λ (x y : Typed). Nodes.Or i x y) (moved_alike to other same left) (moved_alike to other same right)
  moved_alike to other same (Nodes.Implies i left right) = ap₂ (λ (x y : Typed). Nodes.Implies i x y) (moved_alike to other same left) (moved_alike to other same right)
  moved_alike to other same (Nodes.Relation i sign left right) = ap₂ (λ (x y : Typed). Nodes.Relation i sign x y) (moved_alike to other same left) (moved_alike to other same right)
  moved_alike to other same (Nodes.Within i left right) = ap₂ (λ (x y : Typed). Nodes.Within i x y) (moved_alike to other same left) (moved_alike to other same right)

  pub moved_row_alike : (to other : Path → Path) → ((p : Path) → to p ≡ other p) → (r : TypedRow) → moved_row to r ≡ moved_row other r
  moved_row_alike to other same Nodes.End = refl
  moved_row_alike to other same (Nodes.Item item others) = ap₂ (λ (x : Typed) (r : TypedRow). Nodes.Item x r) (moved_alike to other same item) (moved_row_alike to other same others)

steps_are : (here : Here) (steps : List Step) → steps_from here steps ≡ steps_under here.object here.it steps
steps_are here [] = refl
steps_are here (first ∷ later) = refl

-- what a text's path leads to depends on the object and on `it` alone
pub from_root_is : (here : Here) (p : Path) → from_root here p ≡ path_under here.object here.it p
from_root_is here p = ap path_of (steps_are here p.steps)

-- a path of a text at its home
pub moved_home : (here : Here) (then : Path → Path) (t : Typed)
    → moved then (moved (from_root here) t) ≡ moved (λ p. then (path_under here.object here.it p)) t
moved_home here then t =
    moved_twice (from_root here) then t
    ∙ moved_alike (λ p. then (from_root here p)) (λ p. then (path_under here.object here.it p)) (λ p. ap then (from_root_is here p)) t
