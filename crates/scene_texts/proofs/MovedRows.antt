-- Rows of expressions with their paths changed.
use Rattle.std.proofs.Common.{◌≡◌, List, [], ◌∷◌, ◌∙◌, map, refl, ap}
use Rattle.dsl_tree.specs.osc_base.declared.path.Path.{Path}
use Rattle.expansion_laws.specs.expr_nodes.declared.node.Join.{Join}
use Rattle.expansion_laws.specs.expr_nodes.Typed as Nodes
use Rattle.expansion_laws.specs.expr_nodes.Typed.{Typed, TypedRow, moved, moved_row, row_of}
use Rattle.expansion_laws.specs.expr_nodes.Seen.{Reached, joined, grouped}
use Rattle.scene_texts.specs.Moving.{moved_part}

pub moved_joined : (to : Path → Path) (join : Join) (i : Nodes.Info) (left right : Typed) → moved to (joined join i left right) ≡ joined join i (moved to left) (moved to right)
moved_joined to Join.Sum i left right = refl
moved_joined to Join.Times i left right = refl
moved_joined to Join.And i left right = refl
moved_joined to Join.Or i left right = refl

pub moved_grouped : (to : Path → Path) (join : Join) (left : Typed) (rest : List Reached)
    → moved to (grouped join left rest) ≡ grouped join (moved to left) (map (moved_part to) rest)
moved_grouped to join left [] = refl
moved_grouped to join left (r ∷ rest) =
    moved_grouped to join (joined join r.info left r.part) rest
    ∙ ap (λ (t : Typed). grouped join t (map (moved_part to) rest)) (moved_joined to join r.info left r.part)

pub moved_listed : (to : Path → Path) (items : List Typed) → moved_row to (row_of items) ≡ row_of (map (moved to) items)
moved_listed to [] = refl
moved_listed to (t ∷ items) = ap (λ (r : TypedRow). Nodes.Item (moved to t) r) (moved_listed to items)

pub moved_row_of_joined : (to : Path → Path) (join : Join) (i : Nodes.Info) (first : Typed) (earlier : List Reached) (last : Typed)
    → moved to (joined join i (grouped join first earlier) last) ≡ joined join i (grouped join (moved to first) (map (moved_part to) earlier)) (moved to last)
moved_row_of_joined to join i first earlier last =
    moved_joined to join i (grouped join first earlier) last ∙ ap (λ (t : Typed). joined join i t (moved to last)) (moved_grouped to join first earlier)
