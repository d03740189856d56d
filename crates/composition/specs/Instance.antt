-- When a run is an instance of a scenario whose members are whole numbers, each held in a range.
use Rattle.std.specs.Prelude.{◌≡◌, ◌≤◌, ℕ, pos, List, [], ◌∷◌}
use Rattle.expr_nodes.specs.osc_base.declared.path.Step.TheVariants.{Name}
use Rattle.composition.specs.declared.run.Run.{Run}
use Rattle.composition.specs.declared.run.Value.{Value}
use Rattle.composition.specs.declared.run.Held.TheVariants.{Number}

-- a field, and the least and the greatest number that its constraint lets it hold
pub record RangedField : Type 0 where
  pub name : List ℕ
  pub least : ℕ
  pub greatest : ℕ

-- the value is that of the field, and it is in the field's range
pub record HoldsField (field : RangedField) (value : Value) : Type 0 where
  pub named : value.path.steps ≡ Name field.name ∷ []
  pub number : ℕ
  pub held : value.held ≡ Number (pos number)
  pub above : field.least ≤ number
  pub below : number ≤ field.greatest

-- one value for each field, in order
abbrev pub HoldFields : List RangedField → List Value → Type 0
HoldFields [] [] = Unit {0}
HoldFields [] (value ∷ values) = ⊥
HoldFields (field ∷ fields) [] = ⊥
HoldFields (field ∷ fields) (value ∷ values) = HoldsField field value × HoldFields fields values

-- an instance of the first form of source: a run of a scenario with these fields alone, which ends at tick 0 and has nothing
-- else in it
pub record IsRangedInstance (fields : List RangedField) (run : Run) : Type 0 where
  pub choices : run.choices ≡ []
  pub ends : run.end ≡ 0
  pub phases : run.phases ≡ []
  pub traces : run.traces ≡ []
  pub values : HoldFields fields run.values
