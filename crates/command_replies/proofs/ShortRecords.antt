-- The tests that a record may be written say just that.
use Rattle.std.specs.Prelude.{◌≡◌, ℕ, ◌^◌, Bool, true, false, ◌&&◌, List, [], ◌∷◌, length, take, drop, nat_eq, unsigned_abs}
use Rattle.std.proofs.Common.{refl, ap, arith}
use Rattle.std.proofs.lemmas.Bool.{and_parts, ltb-true, lt-ltb}
use Rattle.record_text.specs.record_trees.declared.record.Line.{Line}
use Rattle.record_text.specs.record_trees.declared.record.Line.TheVariants as L
use Rattle.record_text.specs.linear_sums.declared.pick.Pick.{Pick}
use Rattle.record_text.specs.record_trees.Record.{may_stand}
use Rattle.record_text.specs.Text.{taken}
use Rattle.record_text.specs.Written.{HasShortValue, HaveShortValues, HasSum, HaveSums}
use Rattle.command_replies.specs.ShortRecords.{are_short, is_short, has_sum, have_sums}

both : (a b : Bool) → a ≡ true → b ≡ true → (a && b) ≡ true
both true b a_true b_true = b_true
both false b a_true b_true = a_true

short_line : (line : Line) → is_short line ≡ true → HasShortValue line
short_line (L.Low slot value) test = ltb-true (unsigned_abs value) (10 ^ 18) test
short_line (L.High slot value) test = ltb-true (unsigned_abs value) (10 ^ 18) test
short_line (L.Close rule) test = tt
short_line (L.Sum count) test = tt
short_line L.Unknown test = tt

pub short_lines : (lines : List Line) → are_short lines ≡ true → HaveShortValues lines
short_lines [] test = tt
short_lines (line ∷ lines) test =
    let parts : (is_short line ≡ true) × (are_short lines ≡ true) = and_parts (is_short line) (are_short lines) test in
    (short_line line parts.0, short_lines lines parts.1)

tested_line : (line : Line) → HasShortValue line → is_short line ≡ true
tested_line (L.Low slot value) short = lt-ltb (unsigned_abs value) (10 ^ 18) short
tested_line (L.High slot value) short = lt-ltb (unsigned_abs value) (10 ^ 18) short
tested_line (L.Close rule) short = refl
tested_line (L.Sum count) short = refl
tested_line L.Unknown short = refl

pub tested_lines : (lines : List Line) → HaveShortValues lines → are_short lines ≡ true
tested_lines [] short = refl
tested_lines (line ∷ lines) short = both (is_short line) (are_short lines) (tested_line line short.0) (tested_lines lines short.1)

same_number : (a b : ℕ) → nat_eq a b ≡ true → a ≡ b
same_number a b test = grind (arith)

equal_test : (a b : ℕ) → a ≡ b → nat_eq a b ≡ true
equal_test a b same = grind (arith)

none_if : (picks : List Pick) → length picks ≡ 0 → picks ≡ []
none_if [] none = refl
none_if (pick ∷ picks) none = absurd (let never : ⊥ = omega (arith, none) in never)

sum_line : (line : Line) (picks : List Pick) → has_sum line picks ≡ true → HasSum line picks
sum_line (L.Low slot value) picks test = tt
sum_line (L.High slot value) picks test = tt
sum_line (L.Close rule) picks test = tt
sum_line (L.Sum count) picks test =
    let parts : (nat_eq (length picks) count ≡ true) × (may_stand picks ≡ true) = and_parts (nat_eq (length picks) count) (may_stand picks) test in
    (same_number (length picks) count parts.0, parts.1)
sum_line L.Unknown picks test = tt

pub sum_lines : (lines : List Line) (picks : List Pick) → have_sums lines picks ≡ true → HaveSums lines picks
sum_lines [] picks test = none_if picks (same_number (length picks) 0 test)
sum_lines (line ∷ lines) picks test =
    let parts : (has_sum line (take (taken line) picks) ≡ true) × (have_sums lines (drop (taken line) picks) ≡ true) =
    and_parts (has_sum line (take (taken line) picks)) (have_sums lines (drop (taken line) picks)) test in
    (sum_line line (take (taken line) picks) parts.0, sum_lines lines (drop (taken line) picks) parts.1)

tested_sum : (line : Line) (picks : List Pick) → HasSum line picks → has_sum line picks ≡ true
tested_sum (L.Low slot value) picks sum = refl
tested_sum (L.High slot value) picks sum = refl
tested_sum (L.Close rule) picks sum = refl
tested_sum (L.Sum count) picks sum = both (nat_eq (length picks) count) (may_stand picks) (equal_test (length picks) count sum.0) sum.1
tested_sum L.Unknown picks sum = refl

pub tested_sums : (lines : List Line) (picks : List Pick) → HaveSums lines picks → have_sums lines picks ≡ true
tested_sums [] picks sums = equal_test (length picks) 0 (ap (λ (ps : List Pick). length ps) sums)
tested_sums (line ∷ lines) picks sums = both (has_sum line (take (taken line) picks)) (have_sums lines (drop (taken line) picks))
    (tested_sum line (take (taken line) picks) sums.0) (tested_sums lines (drop (taken line) picks) sums.1)
