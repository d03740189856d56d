-- None, one or several of something.
use Rattle.std.specs.Prelude.{List, [], ◌∷◌, Option, Some, None}
use Rattle.program_calls.specs.declared.few.Few.{Few}

-- what there is, with one more
abbrev pub few_more : {X : Type 0} → Few X → X → Few X
few_more Few.Absent x = Few.One x
few_more (Few.One y) x = Few.Several
few_more Few.Several x = Few.Several

-- what there is, with those of a list
abbrev pub few_from : {X : Type 0} → Few X → List X → Few X
few_from few [] = few
few_from few (x ∷ xs) = few_from (few_more few x) xs

-- what is made of each
abbrev pub few_map : {X Y : Type 0} → (X → Y) → Few X → Few Y
few_map f Few.Absent = Few.Absent
few_map f (Few.One x) = Few.One (f x)
few_map f Few.Several = Few.Several

-- the one, if there is one; none of several
abbrev pub at_most_one : {X : Type 0} → Few X → Option (Option X)
at_most_one Few.Absent = Some None
at_most_one (Few.One x) = Some (Some x)
at_most_one Few.Several = None
