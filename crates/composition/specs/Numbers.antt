-- Which numbers a run holds at the paths of a scene, and whether an expression is true in it.
use Rattle.std.specs.Prelude.{ℕ, Bool, false, List, Option, Some, option_map, option_and_then, position, bytes_eq, ℤ, pos, ◌-ℤ◌, ◌*ℤ◌}
use Rattle.std.specs.Option.{option_map_or}
use Rattle.expr_nodes.specs.osc_base.declared.path.Path.{Path}
use Rattle.expr_nodes.specs.Typed.{Typed}
use Rattle.expr_nodes.specs.Value.{value, is_one}
use Rattle.composition.specs.declared.run.Held.{Held}
use Rattle.composition.specs.declared.run.Run.{Run}
use Rattle.composition.specs.RunParts.{held_in, span_in}
use Rattle.composition.specs.Scenes.{Scene, Source, OfRun, OfPhase, OfValue, source}

-- the number of a text is its place among the texts
abbrev pub text_number : List (List ℕ) → List ℕ → Option ℕ
text_number texts text = position (bytes_eq text) texts

-- the number that stands for what a field holds
abbrev pub number_of : List (List ℕ) → Held → Option ℤ
number_of texts (Held.Number n) = Some n
number_of texts (Held.Chars text) = option_map pos (text_number texts text)

-- how long it is from one tick to another, in thousandths of a second, if a tick has so many milliseconds
abbrev pub thousandths : ℕ → ℤ → ℤ → ℤ
thousandths tick start end = pos tick *ℤ (end -ℤ start)

-- the number that a run holds at a path, given what is read there
abbrev pub number_from : Scene → Run → Path → Source → Option ℤ
number_from scene run path OfRun = Some (thousandths run.tick (pos 0) (pos run.end))
number_from scene run path (OfPhase phase) = option_map (λ s. thousandths run.tick (pos s.start) (pos s.end)) (span_in run phase)
number_from scene run path OfValue = option_and_then (number_of scene.texts) (held_in run path)

-- the number that a run holds at a path: the value of the field there, or a duration in thousandths of a second
abbrev pub number_at : Scene → Run → Path → Option ℤ
number_at scene run path = number_from scene run path (source scene path)

-- an expression is true in a run: every path that it reads is held, and its value is 1
abbrev pub is_true : Scene → Run → Typed → Bool
is_true scene run typed = option_map_or is_one (value (number_at scene run) typed) false
