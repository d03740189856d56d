use Rattle.std.proofs.Common.{◌≡◌, ap, option_map, ◌∙◌}
use Rattle.dsl_tree.specs.declared.expr.RelationSign.{RelationSign}
use Rattle.dsl_tree.specs.ExprTree.{ExprTree}
use Rattle.expr_nodes.specs.Checks.{IsChecked}
use Rattle.expr_nodes.specs.Seen.{seen_part}
use Rattle.expr_nodes.specs.Typed.{moved}
use Rattle.expr_nodes.specs.Typing.{first}
use Rattle.expr_nodes.specs.type_heads.Table.{Table}
use Rattle.text_constraints.specs.Sites.{seen_site, typed_home}
use Rattle.scene_places.specs.Placed.{place_in}
use Rattle.text_constraints.proofs.EqualSteps.{if_ok}
use Rattle.text_constraints.proofs.rules.equal_typed.Goals as goal

pub returns : goal.returns
returns c =
    let to = place_in c.args.text.now.places in
    if_ok (λ t. seen_part t ≡ option_map (moved to) (seen_part c.in_ok-known.known.typed))
    (λ t. (table : Table) (l v : ExprTree) → c.args.place ≡ first v → IsChecked table (seen_site c.args.text.now).scope l c.args.left → IsChecked table (seen_site c.args.text.now).scope v c.args.right → seen_part t ≡ typed_home table (seen_site c.args.text.now) (ExprTree.Relation c.args.place RelationSign.Equal l v))
    (λ t is table l v at one other. is ∙ ap (option_map (moved to)) (c.in_ok-known.ensures table (seen_site c.args.text.now).scope l v one other).1)
    c.moved_part.result c.moved_part.ensures
