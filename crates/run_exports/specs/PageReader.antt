-- The text of a run, read from a page.
use Rattle.std.specs.Prelude.{ℕ, zero, suc, Bool, true, false, cond, nat_eq, List, [], ◌∷◌, codes}
use Rattle.run_exports.specs.Reading.{before, begins, behind_text}

-- what is done with the bytes to come: they are read, the next one is taken as it is, or it and so many more are passed over
pub data Turn : Type 0 where
  reading : Turn
  taking : Turn
  passing : ℕ → Turn

abbrev pub after_passing : ℕ → Turn
after_passing zero = reading
after_passing (suc more) = passing more

-- a byte behind a backslash is taken as it is
abbrev pub after_byte : ℕ → Turn
after_byte b = cond (nat_eq b 92) taking reading

-- a text with `<` for each `\u003c` whose backslash isn't that of another backslash
abbrev pub unmarked : Turn → List ℕ → List ℕ
unmarked turn [] = []
unmarked reading (b ∷ bs) = cond (begins (codes "\\u003c") (b ∷ bs)) (60 ∷ unmarked (passing 4) bs) (b ∷ unmarked (after_byte b) bs)
unmarked taking (b ∷ bs) = b ∷ unmarked reading bs
unmarked (passing more) (b ∷ bs) = unmarked (after_passing more) bs

-- what stands in the element whose id is `run`
abbrev pub read_page : List ℕ → List ℕ
read_page page = unmarked reading (before 60 (behind_text (codes " id=\"run\">\n") page))
