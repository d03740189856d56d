-- How few cuts a search makes that stays undecided.
use Rattle.std.specs.Prelude.{ℕ, ◌<◌}
use Rattle.scene_search.specs.record_trees.declared.record.Record.{Record}
use Rattle.scene_search.specs.record_laws.Points.{points_of}
use Rattle.instance_check.specs.composition.Scenes.{Scene}
use Rattle.instance_check.specs.field_flatten.Ends.{bounds}
use Rattle.scene_search.specs.Findings.{IsSpentRecord}

-- a record of a scene is spent only if the scene's flat form has more points than the record has cuts
abbrev pub SpentBoxesHaveMorePoints : Type 0
SpentBoxesHaveMorePoints =
    (scene : Scene) (seed cuts : ℕ) (claim : Record) → IsSpentRecord scene seed cuts claim → cuts < points_of (bounds scene)
