-- The text of a run: a compact JSON object and a line feed.
use Rattle.std.specs.Prelude.{ℕ, ℤ, List, [], ◌∷◌, ◌++◌, codes, map}
use Rattle.serde_json.specs.Data.{Data, number, string, array, object, unsigned, member, no_members}
use Rattle.serde_json.specs.Find.{of_integer}
use Rattle.serde_json.specs.View.{items_of}
use Rattle.serde_json.specs.Written.{compact_text}
use Rattle.osc_base.specs.Path.{path_text}
use Rattle.osc_base.specs.declared.path.Path.{Path}
use Rattle.osc_base.specs.declared.sample.Sample.{Sample}
use Rattle.composition.specs.declared.run.Choice.{Choice}
use Rattle.composition.specs.declared.run.Span.{Span}
use Rattle.composition.specs.declared.run.Trace.{Trace}
use Rattle.composition.specs.declared.run.Value.{Value}
use Rattle.composition.specs.declared.run.Run.{Run}
use Rattle.composition.specs.declared.run.Held.{Held}
use Rattle.composition.specs.declared.run.Held.TheVariants.{Number, Chars}

abbrev pub path_data : Path → Data
path_data path = string (path_text path.steps)

abbrev pub count_data : ℕ → Data
count_data n = number (unsigned n)

abbrev pub integer_data : ℤ → Data
integer_data z = number (of_integer z)

-- a choice is [path, member]
abbrev pub choice_data : Choice → Data
choice_data choice = array (items_of (path_data choice.path ∷ count_data choice.member ∷ []))

-- a phase is [path, start, end]
abbrev pub span_data : Span → Data
span_data span = array (items_of (path_data span.path ∷ count_data span.start ∷ count_data span.end ∷ []))

-- a sample is [lane, position, speed]
abbrev pub sample_data : Sample → Data
sample_data sample =
    array (items_of (integer_data sample.lane ∷ integer_data sample.position ∷ integer_data sample.speed ∷ []))

-- a trace is [path, samples]
abbrev pub trace_data : Trace → Data
trace_data trace = array (items_of (path_data trace.path ∷ array (items_of (map sample_data trace.samples)) ∷ []))

abbrev pub held_data : Held → Data
held_data (Number z) = integer_data z
held_data (Chars text) = string text

-- a value is [path, number] or [path, text]
abbrev pub value_data : Value → Data
value_data value = array (items_of (path_data value.path ∷ held_data value.held ∷ []))

-- a run is an object with these seven keys, in byte order
abbrev pub run_data : Run → Data
run_data run =
    object (member (codes "choices") (array (items_of (map choice_data run.choices)))
    (member (codes "end") (count_data run.end)
    (member (codes "form") (count_data 2)
    (member (codes "phases") (array (items_of (map span_data run.phases)))
    (member (codes "tick") (count_data run.tick)
    (member (codes "traces") (array (items_of (map trace_data run.traces)))
    (member (codes "values") (array (items_of (map value_data run.values)))
    no_members)))))))

-- the text, to the byte
unfoldable pub run_text : Run → List ℕ
run_text run = compact_text (run_data run) ++ codes "\n"
