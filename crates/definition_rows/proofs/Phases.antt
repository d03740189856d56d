-- Shorthands for modifiers on phases of a few ticks: the form that the table gives them, their truth on a run, and that of their rules at its point.
use Rattle.std.specs.Prelude.{◌≡◌, ℕ, ◌+◌, Bool, true, false, List, [], ◌∷◌, ◌++◌, Option, Some, None, flat_map, map, option_and_then, option_map, slice_get, unwrap_or, ℤ, pos, neg_ℤ}
use Rattle.std.specs.Option.{option_map_or}
use Rattle.std.specs.List.{list_all, range_with_len}
use Rattle.osc_base.specs.declared.fault.Place.{Place}
use Rattle.osc_base.specs.declared.sample.Sample.{Sample}
use Rattle.osc_base.specs.declared.sample.SampleSlots.{SampleSlots}
use Rattle.osc_base.specs.Number.{whole}
use Rattle.osc_base.specs.Relations.{Sight, asks}
use Rattle.dsl_tree.specs.declared.parts.Ident.{Ident}
use Rattle.dsl_tree.specs.ExprTree.{ExprTree}
use Rattle.dsl_tree.specs.PhaseTree.{ArgumentTree, ModifierTree}
use Rattle.box_eval.specs.FlatRules.{Whole, Slot, holds_at}
use Rattle.field_flatten.specs.modifier_rules.RelationRules.{SlotSight, asks_rule}
use Rattle.field_flatten.specs.composition.ModifierRows.{ModifierForm, modifier_form}

-- ---- modifiers as trees; places don't matter here

abbrev pub here : Place
here = record { file = 0; line = 1; column = 1; token = 0 }

abbrev pub word : List ℕ → Ident
word text = record { place = here; text = text }

abbrev pub count : ℕ → ExprTree
count n = ExprTree.Number (record { place = here; digits = n; places = 0 })

-- a number with a unit; the units here have factor 1
abbrev pub physical : ℕ → List ℕ → ExprTree
physical n unit = ExprTree.Physical (record { place = here; digits = n; places = 0 }) unit

abbrev pub minus : ExprTree → ExprTree
minus e = ExprTree.Minus here e

abbrev pub range : ExprTree → ExprTree → ExprTree
range low high = ExprTree.Span here low high

abbrev pub value : ExprTree → ArgumentTree
value e = record { name = None; value = e }

abbrev pub named : List ℕ → ExprTree → ArgumentTree
named name e = record { name = Some (word name); value = e }

-- an argument that is a name, as `at: start` and `behind: c`
abbrev pub naming : List ℕ → List ℕ → ArgumentTree
naming name text = named name (ExprTree.Name (word text))

abbrev pub modifier : List ℕ → List ArgumentTree → ModifierTree
modifier name arguments = record { name = word name; arguments = arguments }

-- ---- what a literal is worth

abbrev pub literal : ExprTree → Option ℤ
literal (ExprTree.Number d) = Some (pos d.digits)
literal (ExprTree.Physical d unit) = Some (pos d.digits)
literal (ExprTree.Minus place (ExprTree.Number d)) = Some (neg_ℤ (pos d.digits))
literal (ExprTree.Minus place (ExprTree.Physical d unit)) = Some (neg_ℤ (pos d.digits))
literal _ = None

abbrev pub low_of : ExprTree → Option ℤ
low_of (ExprTree.Span place low high) = literal low
low_of e = literal e

abbrev pub high_of : ExprTree → Option ℤ
high_of (ExprTree.Span place low high) = literal high
high_of e = literal e

-- ---- runs

abbrev pub sample : ℕ → ℕ → ℕ → Sample
sample lane position speed = record { lane = pos lane; position = pos position; speed = pos speed }

-- samples that have a lane alone, or a speed alone
abbrev pub lanes : List ℕ → List Sample
lanes = map (λ n. sample n 0 0)

abbrev pub speeds : List ℕ → List Sample
speeds = map (λ n. sample 1 0 n)

abbrev pub tick_of : List Sample → ℕ → Sample
tick_of samples t = unwrap_or (slice_get samples t) (sample 0 0 0)

-- a phase of a run: the length of a tick in milliseconds, the last tick, the ticks of its start and its end, and the samples of its own vehicle
-- and of the other one
pub record Phase : Type 0 where
  pub length : ℕ
  pub ticks : ℕ
  pub start : ℕ
  pub end : ℕ
  pub own : List Sample
  pub other : List Sample

-- a phase of a run of ticks of 100 milliseconds, in which no other vehicle counts
abbrev pub phase : ℕ → ℕ → ℕ → List Sample → Phase
phase ticks start end own = record { length = 100; ticks = ticks; start = start; end = end; own = own; other = [] }

abbrev pub sight : Phase → Sight
sight p = record { length = p.length; ticks = p.ticks; start = pos p.start; end = pos p.end; own = tick_of p.own; other = tick_of p.other }

-- the point of a phase: its start, its end, and the own and the other samples
abbrev pub numbers : Sample → List ℤ
numbers s = s.lane ∷ s.position ∷ s.speed ∷ []

abbrev pub point : Phase → List ℤ
point p = pos p.start ∷ pos p.end ∷ flat_map numbers p.own ++ flat_map numbers p.other

abbrev pub three : ℕ → SampleSlots
three first = record { lane = first; position = first + 1; speed = first + 2 }

abbrev pub slots : Phase → SlotSight
slots p = record {
  length = p.length;
  ticks = p.ticks;
  start = Slot 0;
  end = Slot 1;
  own = λ t. three (2 + (t + (t + t)));
  other = λ t. three (2 + (p.ticks + 1 + (p.ticks + 1 + (p.ticks + 1))) + (t + (t + t)));
}

-- ---- answers

-- what is so on a run, and what is so at its point
pub record Said : Type 0 where
  pub run : Bool
  pub point : Bool

abbrev pub held : Phase → ModifierForm → ℤ → ℤ → Said
held p f low high =
    let ticks = range_with_len 0 (p.ticks + 1) in
    record {
      run = list_all (asks f.relation f.moment (whole low) (whole high) (sight p)) ticks;
      point = list_all (λ t. holds_at (point p) (asks_rule [] f.relation f.moment (slots p) (Whole low) (Whole high) 1 t)) ticks;
    }

-- the ends of a range; a modifier without one has no use for them
abbrev pub end_of : (ExprTree → Option ℤ) → Option ExprTree → Option ℤ
end_of end range = option_map_or end range (Some (pos 0))

-- what is said of a modifier; nothing if the table has no row for it
abbrev pub says : ModifierTree → Phase → Option Said
says m p =
    option_and_then (λ f. option_and_then (λ low. option_map (λ high. held p f low high) (end_of high_of f.range)) (end_of low_of f.range)) (modifier_form m)

abbrev pub holds : Option Said
holds = Some (record { run = true; point = true })

abbrev pub fails : Option Said
fails = Some (record { run = false; point = false })

-- there is no such modifier with these arguments
abbrev pub no_form : ModifierTree → Type 0
no_form m = modifier_form m ≡ None
