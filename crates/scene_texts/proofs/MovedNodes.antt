-- Lists and rows of the program's own expressions with their paths changed.
use Rattle.std.proofs.Common.{◌≡◌, List, ◌∙◌, map, ap, sym}
use Rattle.std.specs.Prelude.{Bool}
use Rattle.dsl_tree.specs.osc_base.declared.path.Path.{Path}
use Rattle.expansion_laws.specs.expr_nodes.declared.node.Info.{Info}
use Rattle.expansion_laws.specs.expr_nodes.declared.node.Join.{Join}
use Rattle.expansion_laws.specs.expr_nodes.declared.node.Earlier.{Earlier}
use Rattle.expansion_laws.specs.expr_nodes.declared.node.Typed.{Typed}
use Rattle.expansion_laws.specs.expr_nodes.declared.node.Typed.TheViews
use Rattle.expansion_laws.specs.expr_nodes.Typed as Nodes
use Rattle.expansion_laws.specs.expr_nodes.Typed.{moved, row_of}
use Rattle.expansion_laws.specs.expr_nodes.Seen.{Reached, seen, reached, seen_info, joined, grouped}
use Rattle.expansion_laws.proofs.of_expr_nodes.SeenNodes.{seen_listed, seen_joined}
use Rattle.scene_texts.specs.Moving.{moved_part}
use Rattle.scene_texts.proofs.MovedRows.{moved_listed, moved_row_of_joined}

pub moved_list : (to : Path → Path) (typed : Typed) (info : Info) (is_field : Bool) (items own new : List Typed)
    → typed ≡ TheViews.Listed info is_field items → own ≡ items → map seen new ≡ map (moved to) (map seen own)
    → seen (TheViews.Listed info is_field new) ≡ moved to (seen typed)
moved_list to typed info is_field items own new is same made =
    seen_listed info is_field new
    ∙ ap (λ (ts : List Nodes.Typed). Nodes.Listed (seen_info info) is_field (row_of ts)) (made ∙ ap (λ (ts : List Typed). map (moved to) (map seen ts)) same)
    ∙ ap (λ (r : Nodes.TypedRow). Nodes.Listed (seen_info info) is_field r) (sym (moved_listed to (map seen items)))
    ∙ ap (moved to) (sym (ap seen is ∙ seen_listed info is_field items))

pub moved_joining : (to : Path → Path) (typed : Typed) (info : Info) (join : Join) (first : Typed) (earlier : List Earlier) (last one : Typed) (own : List Earlier) (other : Typed) (before : Typed) (between : List Earlier) (behind : Typed)
    → typed ≡ TheViews.Joined info join first earlier last → one ≡ first → own ≡ earlier → other ≡ last
    → seen before ≡ moved to (seen one) → map reached between ≡ map (moved_part to) (map reached own) → seen behind ≡ moved to (seen other)
    → seen (TheViews.Joined info join before between behind) ≡ moved to (seen typed)
moved_joining to typed info join first earlier last one own other before between behind is same_first same_own same_last made_first made_own made_last =
    seen_joined info join before between behind
    ∙ ap (λ (t : Nodes.Typed). joined join (seen_info info) (grouped join t (map reached between)) (seen behind)) (made_first ∙ ap (λ (t : Typed). moved to (seen t)) same_first)
    ∙ ap (λ (rs : List Reached). joined join (seen_info info) (grouped join (moved to (seen first)) rs) (seen behind)) (made_own ∙ ap (λ (es : List Earlier). map (moved_part to) (map reached es)) same_own)
    ∙ ap (λ (t : Nodes.Typed). joined join (seen_info info) (grouped join (moved to (seen first)) (map (moved_part to) (map reached earlier))) t) (made_last ∙ ap (λ (t : Typed). moved to (seen t)) same_last)
    ∙ sym (moved_row_of_joined to join (seen_info info) (seen first) (map reached earlier) (seen last))
    ∙ ap (moved to) (sym (ap seen is ∙ seen_joined info join first earlier last))
