-- Rows of parts that read no path.
use Rattle.std.specs.Prelude.{Bool, length, nat_eq}
use Rattle.expr_nodes.specs.Typed.{TypedRow, reads_of}
use Rattle.expr_nodes.specs.Operators.{is_constant}
use Rattle.expr_nodes.specs.Seen.{Reached}

-- the items of a list read no path
abbrev pub constant_row : TypedRow → Bool
constant_row items = nat_eq (length (reads_of items)) 0

-- a part of a row reads no path
abbrev pub constant_part : Reached → Bool
constant_part r = is_constant r.part
