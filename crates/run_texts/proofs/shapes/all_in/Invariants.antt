use Rattle.std.proofs.Common.{◌≡◌, drop}
use Rattle.serde_json.specs.View.{items_view}
use Rattle.run_texts.specs.RunShape.{all_from}
use Rattle.run_texts.proofs.Told.{after}
use Rattle.run_texts.proofs.shapes.all_in.Given as goal

abbrev pub invariant-loop-place : goal.invariant-loop-place
invariant-loop-place g l =
    after l.parts (all_from g.T.FromJson.from_data l.place (items_view (drop l.place l.items))) ≡ all_from g.T.FromJson.from_data 0 (items_view l.items)
