-- Expressions and targets of texts at their homes.
use Rattle.std.proofs.Common.{◌≡◌, ◌∙◌, refl, ap, Bool, true, false, cond, List, Option, Some, None, option_and_then, option_map}
use Rattle.osc_base.specs.declared.path.Path.{Path}
use Rattle.dsl_tree.specs.ExprTree.{ExprTree}
use Rattle.expr_nodes.specs.type_heads.Types.{Types}
use Rattle.expr_nodes.specs.Typed as Nodes
use Rattle.expr_nodes.specs.Typed.{Typed, moved}
use Rattle.expr_nodes.specs.Typing.{is_path, typed}
use Rattle.program_texts.specs.composition.Givens.{from_root, left_target, read_at, target_at, typed_here}
use Rattle.program_texts.specs.composition.Homes.{home}
use Rattle.program_texts.specs.composition.Scenes.{Binding}
use Rattle.scene_places.specs.scene_texts.Moving.{path_under}
use Rattle.scene_places.proofs.of_scene_texts.MovedTwice.{from_root_is, moved_home}
use Rattle.text_constraints.specs.Sites.{Site, at_home, here_of, left_home, path_home, read_home, typed_home}
use Rattle.scene_places.specs.Placed.{home_under}

-- ---- reads

pub read_moved : (to : Path → Path) (t : Typed) → read_at (moved to t) ≡ option_map to (read_at t)
read_moved to (Nodes.Constant i number) = refl
read_moved to (Nodes.Read i path per) = refl
read_moved to (Nodes.Whole i path) = refl
read_moved to (Nodes.Listed i is_field items) = refl
read_moved to (Nodes.Span i low high) = refl
read_moved to (Nodes.Minus i part) = refl
read_moved to (Nodes.Not i part) = refl
read_moved to (Nodes.Sum i left right) = refl
read_moved to (Nodes.Times i left right) = refl
read_moved to (Nodes.And i left right) = refl
read_moved to (Nodes.Or i left right) = refl
read_moved to (Nodes.Implies i left right) = refl
read_moved to (Nodes.Relation i sign left right) = refl
read_moved to (Nodes.Within i left right) = refl

-- what a path of a text leads to, by the path from the named scenario on
pub whole_is : (bindings : List Binding) (object it path whole : Path) → whole ≡ path_under object it path → home bindings whole ≡ home_under bindings object it path
unfolding home_under
whole_is bindings object it path whole is = ap (home bindings) is

module _ (s : Site) where
  -- a path of a text
  pub path_is : (p : Path) → home s.bindings (from_root (here_of s) p) ≡ at_home s p
  unfolding home_under
  path_is p = ap (home s.bindings) (from_root_is (here_of s) p)

  -- an expression of a text
  pub moved_is : (t : Typed) → moved (home s.bindings) (moved (from_root (here_of s)) t) ≡ moved (at_home s) t
  unfolding home_under
  moved_is t = moved_home (here_of s) (home s.bindings) t

  pub part_is : (o : Option Typed) → option_map (moved (home s.bindings)) (option_map (moved (from_root (here_of s))) o) ≡ option_map (moved (at_home s)) o
  part_is None = refl
  part_is (Some t) = ap (λ x. Some x) (moved_is t)

  paths_are : (o : Option Path) → option_map (home s.bindings) (option_map (from_root (here_of s)) o) ≡ option_map (at_home s) o
  paths_are None = refl
  paths_are (Some p) = ap (λ x. Some x) (path_is p)

  -- what is read
  pub read_is : (o : Option Typed) → option_map (home s.bindings) (option_and_then read_at (option_map (moved (from_root (here_of s))) o)) ≡ read_home s o
  read_is None = refl
  read_is (Some t) = ap (option_map (home s.bindings)) (read_moved (from_root (here_of s)) t) ∙ paths_are (read_at t)

  module _ (ts : Types) where
    pub typed_is : (e : ExprTree) → option_map (moved (home s.bindings)) (typed_here ts (here_of s) e) ≡ typed_home ts.table s e
    typed_is e = part_is (typed ts.table s.scope e)

    -- targets
    pub target_is : (e : ExprTree) → option_map (home s.bindings) (target_at ts (here_of s) e) ≡ path_home ts.table s e
    target_is e = by (is_path e)
      where
        by : (b : Bool) → option_map (home s.bindings) (cond b (option_and_then read_at (option_map (moved (from_root (here_of s))) (typed ts.table s.scope e))) None) ≡ cond b (read_home s (typed ts.table s.scope e)) None
        by true = read_is (typed ts.table s.scope e)
        by false = refl

    pub left_is : (e : ExprTree) → option_map (home s.bindings) (left_target ts (here_of s) e) ≡ left_home ts.table s e
    left_is (ExprTree.Relation place sign left right) = target_is left
    left_is (ExprTree.Implies place left right) = refl
    left_is (ExprTree.Or place operator left right) = refl
    left_is (ExprTree.And place operator left right) = refl
    left_is (ExprTree.Not place part) = refl
    left_is (ExprTree.Sum place operator left right) = refl
    left_is (ExprTree.Product place operator left right) = refl
    left_is (ExprTree.Minus place part) = refl
    left_is (ExprTree.Dot head name) = refl
    left_is (ExprTree.Index place head index) = refl
    left_is (ExprTree.Number number) = refl
    left_is (ExprTree.Physical number unit) = refl
    left_is (ExprTree.Chars place text) = refl
    left_is (ExprTree.Truth place value) = refl
    left_is (ExprTree.It place) = refl
    left_is (ExprTree.Actor place) = refl
    left_is (ExprTree.Name name) = refl
    left_is (ExprTree.EnumName of member) = refl
    left_is (ExprTree.Group place inner) = refl
    left_is (ExprTree.Listed place items) = refl
    left_is (ExprTree.Span place low high) = refl
    left_is (ExprTree.RangeCall place low high) = refl
    left_is (ExprTree.Start part) = refl
