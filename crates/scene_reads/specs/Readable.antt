-- Whether a scene has what is read.
use Rattle.std.specs.Prelude.{Bool}
use Rattle.std.specs.List.{list_all}
use Rattle.osc_base.specs.declared.path.Path.{Path}
use Rattle.expr_nodes.specs.Typed.{Typed, TypedRow, reads, reads_of}
use Rattle.expr_nodes.specs.Seen.{Reached}
use Rattle.composition.specs.declared.scene.Scene.{Scene}
use Rattle.composition.specs.SeenScenes.{seen_scene}
use Rattle.composition.specs.Expanded.{is_readable}

-- the program's own scene has what a path leads to
unfoldable pub has : Scene → Path → Bool
has scene path = is_readable (seen_scene scene) path

-- all that an expression reads
abbrev pub has_reads : Scene → Typed → Bool
has_reads scene t = list_all (has scene) (reads t)

-- all that the items of a list read
abbrev pub has_row : Scene → TypedRow → Bool
has_row scene items = list_all (has scene) (reads_of items)

-- all that a part of a row reads
abbrev pub has_part : Scene → Reached → Bool
has_part scene r = has_reads scene r.part
