-- Laws on flat forms with rules put behind theirs, and with rules left out.
use Rattle.std.specs.Prelude.{◌≡◌, ◌+◌, ◌<◌, ◌^◌, ◌++◌, ⊤, ◌⊎◌, List, [], ◌∷◌, length}
use Rattle.box_eval.specs.declared.rule.Rule.{Rule}
use Rattle.box_eval.specs.declared.rule.Rule.TheOpen as O
use Rattle.box_eval.specs.declared.rule.Rule.TheViews.{roll-Rule}
use Rattle.box_eval.specs.declared.flat.Flat.{Flat}
use Rattle.box_eval.specs.Rules.{AllFit, IsFlat}

-- the rule that asks nothing
abbrev pub no_rule : Rule
no_rule = roll-Rule O.Always

-- the same rules, some of which are exchanged for ones that ask nothing
abbrev pub AreLess : List Rule → List Rule → Type 0
AreLess [] [] = ⊤
AreLess [] (r ∷ rs) = ⊥
AreLess (r ∷ rs) [] = ⊥
AreLess (r ∷ rs) (s ∷ ss) = ((s ≡ r) ⊎ (s ≡ no_rule)) × AreLess rs ss

-- a flat form stays one with further rules behind, each of which may be judged on its box, while they are fewer than 2^32
abbrev pub AddedIsFlat : Type 0
AddedIsFlat =
    (flat : Flat) (more : List Rule) → IsFlat flat → AllFit flat.bounds.pairs more → length flat.rules + length more < 2 ^ 32
    → IsFlat (record { bounds = flat.bounds; rules = flat.rules ++ more })

-- a flat form stays one if rules of it ask nothing
abbrev pub DroppedIsFlat : Type 0
DroppedIsFlat = (flat : Flat) (less : List Rule) → IsFlat flat → AreLess flat.rules less → IsFlat (record { bounds = flat.bounds; rules = less })
