-- What comes of two looks at ends of slots, one after the other, where the first left cuts to make.
use Rattle.seeded_search.specs.declared.turns.Step.{Step}

abbrev pub joined : Step → Step → Step
joined first Step.None = first
joined first Step.Cut = Step.Cut
joined first Step.Spent = Step.Spent
