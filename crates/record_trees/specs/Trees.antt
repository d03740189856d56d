-- What is counted of a list of trees.
use Rattle.std.specs.Prelude.{ℕ, ◌+◌, Bool, false, ◌||◌, List, [], ◌∷◌, ◌++◌}
use Rattle.record_trees.specs.declared.record.Line.{Line}
use Rattle.linear_sums.specs.declared.pick.Pick.{Pick}
use Rattle.record_trees.specs.Record.{Tree, FullLine, lines_of, picks_of, full_lines, has_open, has_sum, cuts_of}

-- the lines of all, tree by tree
abbrev pub lines_all : List Tree → List Line
lines_all [] = []
lines_all (t ∷ ts) = lines_of t ++ lines_all ts

-- the rules of the sums of all
abbrev pub picks_all : List Tree → List Pick
picks_all [] = []
picks_all (t ∷ ts) = picks_of t ++ picks_all ts

-- the lines of all, each with the rules of its sum
abbrev pub full_lines_all : List Tree → List FullLine
full_lines_all [] = []
full_lines_all (t ∷ ts) = full_lines t ++ full_lines_all ts

abbrev pub cuts_all : List Tree → ℕ
cuts_all [] = 0
cuts_all (t ∷ ts) = cuts_of t + cuts_all ts

-- whether some leaf is open
abbrev pub any_open : List Tree → Bool
any_open [] = false
any_open (t ∷ ts) = has_open t || any_open ts

-- whether some leaf closes its box by a sum
abbrev pub any_sum : List Tree → Bool
any_sum [] = false
any_sum (t ∷ ts) = has_sum t || any_sum ts
