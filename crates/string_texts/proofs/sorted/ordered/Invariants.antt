use Rattle.std.proofs.Common.{◌≡◌, [], ◌∷◌, fold, map, take}
use Rattle.type_heads.specs.Texts.{with_text}
use Rattle.string_texts.specs.Ordered.{shown}
use Rattle.string_texts.proofs.sorted.ordered.Given as goal

abbrev pub invariant-loop-text : goal.invariant-loop-text
invariant-loop-text l = shown l.texts ≡ fold with_text ([] ∷ []) (map (λ t. t.now) (take l.text-index l.found))
