-- Records that may be written, as tests: their cuts have values of at most 18 digits, and their sums take all their rules.
use Rattle.std.specs.Prelude.{nat_eq, nat_lt, ◌^◌, Bool, true, false, ◌&&◌, List, [], ◌∷◌, length, take, drop, unsigned_abs}
use Rattle.record_text.specs.linear_sums.declared.pick.Pick.{Pick}
use Rattle.record_text.specs.record_trees.declared.record.Line.{Line}
use Rattle.record_text.specs.record_trees.declared.record.Line.TheVariants as L
use Rattle.record_text.specs.record_trees.Record.{may_stand}
use Rattle.record_text.specs.Text.{taken}

abbrev pub is_short : Line → Bool
is_short (L.Low slot value) = nat_lt (unsigned_abs value) (10 ^ 18)
is_short (L.High slot value) = nat_lt (unsigned_abs value) (10 ^ 18)
is_short (L.Close rule) = true
is_short (L.Sum count) = true
is_short L.Unknown = true

abbrev pub are_short : List Line → Bool
are_short [] = true
are_short (line ∷ lines) = is_short line && are_short lines

-- a sum has as many rules as it says, and they may stand in a line
abbrev pub has_sum : Line → List Pick → Bool
has_sum (L.Low slot value) picks = true
has_sum (L.High slot value) picks = true
has_sum (L.Close rule) picks = true
has_sum (L.Sum count) picks = nat_eq (length picks) count && may_stand picks
has_sum L.Unknown picks = true

abbrev pub have_sums : List Line → List Pick → Bool
have_sums [] picks = nat_eq (length picks) 0
have_sums (line ∷ lines) picks = has_sum line (take (taken line) picks) && have_sums lines (drop (taken line) picks)
