-- How long the piece at the start of a source is, as the functions of `scan` compute it. This is no part of the
-- meaning. The lemmas of proofs/Fitting.antt and proofs/Fronts.antt tie it to `IsShape`: the piece has its shape, and no longer prefix has any.
use Rattle.std.specs.Prelude.{ℕ, suc, ◌+◌, ◌==◌, Bool, true, false, ◌||◌, ◌&&◌, not, if◌then◌else◌, is_some, List, [], ◌∷◌, length, take, drop, Option, Some, None}
use Rattle.std.specs.List.{prefix_len}
use Rattle.std.specs.Option.{option_map}
use Rattle.dsl_lexer.specs.declared.shape.Shape.{Shape}
use Rattle.dsl_lexer.specs.Bytes.{is_digit, is_name_start, is_name_byte, is_line_feed, is_backslash, is_quote, is_escapable, begins_control}
use Rattle.dsl_lexer.specs.Shapes.{Space, Tab, Comment, LineEnd, Joint, MarkShape, NameShape, NumberShape, StringShape, entry, marks}

-- the shape of the pieces that begin with a byte
abbrev pub first_shape : ℕ → Shape
first_shape b = if is_name_start b then NameShape else (if b == 32 then Space else (if is_digit b then NumberShape
    else (if b == 10 || b == 13 then LineEnd else (if is_quote b then StringShape else (if b == 35 then Comment
    else (if b == 9 then Tab else (if is_backslash b then Joint else MarkShape)))))))

abbrev pub begins_line_feed : List ℕ → Bool
begins_line_feed [] = false
begins_line_feed (b ∷ more) = is_line_feed b

unfoldable pub line_end_len : List ℕ → Option ℕ
line_end_len [] = None
line_end_len (b ∷ more) = if is_line_feed b then Some 1 else (if b == 13 && begins_line_feed more then Some 2 else None)

-- a point and a digit
abbrev pub begins_fraction : List ℕ → Bool
begins_fraction [] = false
begins_fraction (b ∷ []) = false
begins_fraction (b ∷ c ∷ more) = b == 46 && is_digit c

abbrev pub name_run : List ℕ → ℕ
name_run rest = prefix_len is_name_byte rest

unfoldable pub number_len : List ℕ → ℕ
number_len rest = if prefix_len is_digit rest == name_run rest && begins_fraction (drop (name_run rest) rest)
    then name_run rest + 1 + name_run (drop (name_run rest + 1) rest) else name_run rest

-- whether a string may go on so after its opening quote, up to the closing one: `escaped` says whether a backslash
-- stands directly before
abbrev pub is_inside : ℕ → Bool → List ℕ → Bool
is_inside quote escaped [] = not escaped
is_inside quote true (b ∷ more) = is_escapable b && is_inside quote false more
is_inside quote false (b ∷ more) = if is_backslash b then is_inside quote true more
    else not (b == quote) && not (is_line_feed b) && is_inside quote false more

-- up to the closing quote and with it
unfoldable pub closing : ℕ → Bool → List ℕ → Option ℕ
closing quote escaped [] = None
closing quote true (b ∷ more) = if is_escapable b then option_map suc (closing quote false more) else None
closing quote false (b ∷ more) = if is_backslash b then option_map suc (closing quote true more)
    else (if b == quote then Some 1 else (if is_line_feed b then None else option_map suc (closing quote false more)))

unfoldable pub mark_len : List ℕ → Option ℕ
mark_len rest = if is_some (entry (take 2 rest) marks) then Some (length (take 2 rest))
    else (if is_some (entry (take 1 rest) marks) then Some (length (take 1 rest)) else None)

abbrev pub joint_len : List ℕ → Option ℕ
joint_len rest = option_map suc (line_end_len (drop 1 rest))

abbrev pub string_len : List ℕ → Option ℕ
string_len [] = None
string_len (quote ∷ more) = option_map suc (closing quote false more)

-- the length of the piece of this shape at the start of rest, whose first byte is of the shape
abbrev pub piece_len : Shape → List ℕ → Option ℕ
piece_len Space rest = Some 1
piece_len Tab rest = Some 1
piece_len Comment rest = Some (prefix_len (λ b. not (is_line_feed b)) rest)
piece_len LineEnd rest = line_end_len rest
piece_len Joint rest = joint_len rest
piece_len MarkShape rest = mark_len rest
piece_len NameShape rest = Some (name_run rest)
piece_len NumberShape rest = Some (number_len rest)
piece_len StringShape rest = string_len rest

-- where the first control character stands
unfoldable pub control_at : List ℕ → Option ℕ
control_at [] = None
control_at (b ∷ more) = if begins_control b more then Some 0 else option_map suc (control_at more)
