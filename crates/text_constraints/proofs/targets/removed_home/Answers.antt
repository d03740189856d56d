use Rattle.std.proofs.Common.{◌≡◌, ◌∙◌, option_and_then, option_map}
use Rattle.program_texts.specs.composition.Givens.{read_at}
use Rattle.dsl_tree.specs.Views.{path_tree}
use Rattle.expr_nodes.specs.Seen.{seen_part}
use Rattle.text_constraints.specs.Sites.{path_home, seen_site}
use Rattle.scene_places.specs.Placed.{place_in}
use Rattle.text_constraints.proofs.EqualSteps.{if_ok}
use Rattle.expr_eval.proofs.PathSteps.{path_is_path}
use Rattle.text_constraints.proofs.Relations.{one_path}
use Rattle.text_constraints.proofs.targets.removed_home.Goals as goal

pub returns : goal.returns
returns c =
    let table = c.args.types.now.table in
    if_ok (λ p. p ≡ option_map (place_in c.args.text.now.places) (option_and_then read_at (seen_part c.in_ok-known.known.typed)))
    (λ p. p ≡ path_home table (seen_site c.args.text.now) (path_tree c.args.path.now))
    (λ p is. is ∙ one_path table (seen_site c.args.text.now) (path_tree c.args.path.now) (seen_part c.in_ok-known.known.typed) (path_is_path c.args.path.now) c.in_ok-known.ensures.1)
    c.read_home.result c.read_home.ensures
