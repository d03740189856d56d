-- Where a text stands, and the homes of what its expressions read.
use Rattle.std.specs.Prelude.{List, Option, Some, None, cond, map, option_and_then, option_map}
use Rattle.std.specs.Borrow.{Bor}
use Rattle.std.specs.Option.{option_or}
use Rattle.osc_base.specs.declared.path.Path.{Path}
use Rattle.dsl_tree.specs.declared.expr.Expr.{Expr}
use Rattle.dsl_tree.specs.ExprTree.{ExprTree}
use Rattle.dsl_tree.specs.Views.{expr_tree}
use Rattle.expr_nodes.specs.type_heads.Table.{Table}
use Rattle.expr_nodes.specs.Scope.{Scope}
use Rattle.expr_nodes.specs.SeenNames.{seen_scope}
use Rattle.expr_nodes.specs.Typed.{Typed, moved}
use Rattle.expr_nodes.specs.Typing.{typed, is_path}
use Rattle.program_texts.specs.composition.Givens.{Here, read_at}
use Rattle.program_texts.specs.composition.Scenes.{Binding}
use Rattle.program_texts.specs.composition.SeenScenes.{seen_scene}
use Rattle.scene_places.specs.Placed.{home_under}
use Rattle.scene_places.specs.declared.places.Places.{Places}
use Rattle.text_constraints.specs.declared.targets.TextSite.{TextSite}

-- the object in whose members a text stands, what `it` is, the scope of its names, and the bindings that tell homes
pub record Site : Type 0 where
  pub object : Path
  pub it : Path
  pub scope : Scope
  pub bindings : List Binding

-- where it stands in the definitions
abbrev pub here_of : Site → Here
here_of s = record { object = s.object; it = s.it; scope = s.scope }

-- a path of the text of a site
abbrev pub at_home : Site → Path → Path
at_home s = home_under s.bindings s.object s.it

-- the site that the program's own one is seen as
abbrev pub seen_site : TextSite → Site
seen_site t = record { object = t.places.object.now; it = t.places.it.now; scope = seen_scope t.scope.now; bindings = (seen_scene t.places.scene.now).bindings }

-- a site of some homes and names
abbrev pub site_of : Places → Scope → Site
site_of h sc = record { object = h.object.now; it = h.it.now; scope = sc; bindings = (seen_scene h.scene.now).bindings }

-- an expression whose paths are at their homes
abbrev pub typed_home : Table → Site → ExprTree → Option Typed
typed_home table s e = option_map (moved (at_home s)) (typed table s.scope e)

-- the home of what is read, if the expression is one read
abbrev pub read_home : Site → Option Typed → Option Path
read_home s t = option_map (at_home s) (option_and_then read_at t)

-- the home of the field or duration to which a path leads
abbrev pub path_home : Table → Site → ExprTree → Option Path
path_home table s e = cond (is_path e) (read_home s (typed table s.scope e)) None

-- what stands on the left of a relation
abbrev pub left_in : ExprTree → Option ExprTree
left_in (ExprTree.Relation place sign left right) = Some left
left_in _ = None

-- the home of what a relation is about
abbrev pub left_home : Table → Site → ExprTree → Option Path
left_home table s e = option_and_then (path_home table s) (left_in e)

-- a default without a relation is about the field that is the whole of it
abbrev pub whole_home : Table → Site → ExprTree → Option Path
whole_home table s e = option_or (left_home table s e) (path_home table s e)

-- the tree of an expression
abbrev pub seen_expr : Bor Expr → ExprTree
seen_expr e = expr_tree e.now
