-- The path that has a text, worked out from the text.
use Rattle.std.specs.Prelude.{ℕ, zero, suc, ◌^◌, ◌&&◌, Bool, cond, List, [], ◌∷◌, Option, Some, None, option_map, option_and_then, take, drop, length, nat_eq, nat_lt, bytes_eq}
use Rattle.std.specs.List.{prefix_len}
use Rattle.std.specs.Fmt.{decimal}
use Rattle.std.specs.Str.Parse.{digits_value}
use Rattle.osc_base.specs.declared.path.Path.{Path}
use Rattle.osc_base.specs.declared.path.Step.{Step}
use Rattle.osc_base.specs.declared.path.Step.TheVariants.{Name}
use Rattle.osc_base.specs.Paths.{path_of}
use Rattle.osc_base.specs.PathTexts.{is_digit, continues_name, is_name, before_member, number_step}

-- the number of 32 bits that digits are the decimal of
abbrev pub number_in : List ℕ → Option ℕ
number_in digits =
    cond (bytes_eq (decimal (digits_value 10 digits)) digits && nat_lt (digits_value 10 digits) (2 ^ 32)) (Some (digits_value 10 digits)) None

-- the name that a text begins with, and what is left of the text
abbrev pub name_front : List ℕ → Option (Step × List ℕ)
name_front text =
    cond (is_name (take (prefix_len continues_name text) text))
    (Some (Name (take (prefix_len continues_name text) text), drop (prefix_len continues_name text) text)) None

-- a number, before a closing bracket
abbrev pub number_end : Bool → Option ℕ → List ℕ → Option (Step × List ℕ)
number_end of_member None behind = None
number_end of_member (Some number) [] = None
number_end of_member (Some number) (b ∷ left) = cond (nat_eq b 93) (Some (number_step of_member number, left)) None

-- the number that a text begins with, after an opening bracket
abbrev pub number_front : Bool → List ℕ → Option (Step × List ℕ)
number_front of_member text =
    number_end of_member (number_in (take (prefix_len is_digit text) text)) (drop (prefix_len is_digit text) text)

-- the step that a text begins with, after other steps
abbrev pub front : Bool → List ℕ → Option (Step × List ℕ)
front of_member [] = None
front of_member (b ∷ text) = cond (nat_eq b 46) (name_front text) (cond (nat_eq b 91) (number_front of_member text) None)

-- the steps that have a text, after other steps; n is at least the length of the text
abbrev pub steps_in : ℕ → Bool → List ℕ → Option (List Step)
steps_in n of_member [] = Some []
steps_in zero of_member (b ∷ text) = None
steps_in (suc n) of_member (b ∷ text) =
    option_and_then (λ (f : Step × List ℕ). option_map (λ (later : List Step). f.0 ∷ later) (steps_in n (before_member f.0) f.1)) (front of_member (b ∷ text))

-- the path other than the root that has a text
abbrev pub path_from : List ℕ → Option Path
path_from text =
    option_and_then (λ (f : Step × List ℕ). option_map (λ (later : List Step). path_of (f.0 ∷ later)) (steps_in (length text) (before_member f.0) f.1))
    (name_front text)
