-- The elements of a list field that is `it`.
use Rattle.std.specs.Prelude.{◌≡◌, ℕ, ◌<◌, Option, Some, None, codes, option_and_then, option_map}
use Rattle.osc_base.specs.declared.fault.Place.{Place}
use Rattle.osc_base.specs.declared.path.Path.{Path}
use Rattle.osc_base.specs.Paths.{root, then_index, then_name}
use Rattle.osc_base.specs.FaultRows.{first_fault}
use Rattle.expr_nodes.specs.type_heads.Table.{Table, form}
use Rattle.expr_nodes.specs.Kinds.{kind_of}
use Rattle.expr_nodes.specs.Names.{per_of}
use Rattle.expr_nodes.specs.Seen.{seen_info}
use Rattle.expr_nodes.specs.Scope.{Scope}
use Rattle.expr_nodes.specs.Typing.{expr_rows, typed}
use Rattle.program_texts.specs.composition.Givens.{element}
use Rattle.expr_nodes.specs.Sizes.{field_size, info_at}
use Rattle.expr_nodes.specs.Typed.{Info, Typed, Listed, Read, TypedRow, End, Item}
use Rattle.text_constraints.specs.declared.elements.Sample.{Sample as OwnSample}

-- what an element holds of itself, and over what it is counted
pub record Sample : Type 0 where
  pub info : Info
  pub per : ℕ

-- the program's own
abbrev pub seen_sample : OwnSample → Sample
seen_sample s = record { info = seen_info s.info; per = s.per }

-- a value that is read
abbrev pub sample_read : Typed → Option Sample
sample_read (Read i path per) = Some (record { info = i; per = per })
sample_read _ = None

-- the first item
abbrev pub first_item : TypedRow → Option Typed
first_item End = None
first_item (Item item others) = Some item

-- the first item of a list
abbrev pub first_of : Typed → Option Typed
first_of (Listed i is_field items) = first_item items
first_of _ = None

-- a sample of the items of a list
abbrev pub sample_in : Option Typed → Option Sample
sample_in t = option_and_then sample_read (option_and_then first_of t)

-- an element of a field of that type
abbrev pub sample_at : Table → Place → ℕ → Option Sample
sample_at table place t =
    let f = form table.heads t in
    option_map (λ k. record { info = info_at place k (field_size (per_of f)); per = per_of f }) (kind_of t f)

-- where element n of `it` is read
abbrev pub element_path : ℕ → Path
element_path n = then_index (then_name root (codes "it")) n

-- element n of `it`, at another place
abbrev pub element_read : Place → ℕ → Sample → Typed
element_read place n s = Read (record s.info { place = place }) (element_path n) s.per

-- element n is known by the sample
unfoldable pub SampleFor : Table → Scope → ℕ → Option Sample → Type 0
SampleFor table sc n None = (place : Place) → typed table sc (element place n) ≡ None
SampleFor table sc n (Some s) = (place : Place) → (first_fault (expr_rows table sc (element place n)) ≡ None) × (typed table sc (element place n) ≡ Some (element_read place n s))

-- so many elements are
unfoldable pub AreSampled : Table → Scope → ℕ → Option Sample → Type 0
AreSampled table sc count s = (n : ℕ) → n < count → SampleFor table sc n s
