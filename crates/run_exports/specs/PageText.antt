-- A run as a page: what stands before the run's text, that text, and what stands behind it.
use Rattle.std.specs.Prelude.{ℕ, cond, nat_eq, List, [], ◌∷◌, ◌++◌, codes, flat_map}
use Rattle.run_check.specs.composition.declared.run.Run.{Run}
use Rattle.run_check.specs.RunText.{run_text}
use Rattle.run_exports.specs.declared.page_parts.TheConstants.{HEAD, TAIL}

-- `<` stands only in strings of a run's text. In a page it would end the text, so JSON's other form of it is written.
abbrev pub marked : ℕ → List ℕ
marked b = cond (nat_eq b 60) (codes "\\u003c") (b ∷ [])

unfoldable pub head : List ℕ
head = HEAD.now

unfoldable pub tail : List ℕ
tail = TAIL.now

abbrev pub page_text : Run → List ℕ
page_text run = head ++ flat_map marked (run_text run) ++ tail
