-- The cut that a number draws of a slot of which nothing is wished.
use Rattle.std.specs.Prelude.{ℕ, ◌/◌, ◌%◌, if◌then◌else◌, unsigned_abs, nat_eq, ℤ, pos, ◌+ℤ◌, ◌-ℤ◌}
use Rattle.box_eval.specs.declared.cut.Cut.{Cut}
use Rattle.box_eval.specs.declared.cut.Side.TheVariants.{Low, High}
use Rattle.box_eval.specs.Box.{cut_at}

-- the value from the low end on that a number picks, below the high end
abbrev pub picked : ℕ → ℤ → ℤ → ℤ
picked number low high = low +ℤ pos (number / 4 % unsigned_abs (high -ℤ low))

-- by the number's remainder by 4, a cut at the low end, at the high end, or somewhere between
abbrev pub drawn : ℕ → ℕ → ℤ → ℤ → Cut
drawn number slot low high =
    if nat_eq (number % 4) 0 then cut_at Low slot low
    else if nat_eq (number % 4) 1 then cut_at High slot (high -ℤ pos 1)
    else if nat_eq (number % 4) 2 then cut_at Low slot (picked number low high)
    else cut_at High slot (picked number low high)
