-- Which paths have a text that can be read back.
use Rattle.std.specs.Prelude.{◌≡◌, ℕ, ◌^◌, ◌&&◌, ◌||◌, Bool, true, false, not, List, [], ◌∷◌, nat_eq, nat_le, nat_lt, bytes_eq, codes, ◌++◌, flat_map}
use Rattle.std.specs.List.{list_all}
use Rattle.std.specs.Fmt.{decimal}
use Rattle.osc_base.specs.declared.path.Path.{Path}
use Rattle.osc_base.specs.declared.path.Step.{Step}
use Rattle.osc_base.specs.declared.path.Step.TheVariants.{Name, Index, Member}
use Rattle.osc_base.specs.Path.{path_text, later_step_text}

-- a letter or `_`
abbrev pub begins_name : ℕ → Bool
begins_name b = (nat_le 65 b && nat_le b 90) || ((nat_le 97 b && nat_le b 122) || nat_eq b 95)

-- a digit
abbrev pub is_digit : ℕ → Bool
is_digit b = nat_le 48 b && nat_le b 57

-- a letter, a digit or `_`
abbrev pub continues_name : ℕ → Bool
continues_name b = begins_name b || is_digit b

-- a letter or `_`, and then letters, digits and `_`
abbrev pub is_name : List ℕ → Bool
is_name [] = false
is_name (b ∷ bs) = begins_name b && list_all continues_name bs

-- after `do`, and after the number of a member, a number is that of a member
abbrev pub before_member : Step → Bool
before_member (Name name) = bytes_eq name (codes "do")
before_member (Index number) = false
before_member (Member number) = true

-- a step that may stand where a number is that of a member, or where it isn't
abbrev pub is_step : Bool → Step → Bool
is_step of_member (Name name) = is_name name
is_step of_member (Index number) = not of_member && nat_lt number (2 ^ 32)
is_step of_member (Member number) = of_member && nat_lt number (2 ^ 32)

-- steps that may stand after others
abbrev pub are_steps : Bool → List Step → Bool
are_steps of_member [] = true
are_steps of_member (step ∷ later) = is_step of_member step && are_steps (before_member step) later

-- a path other than the root that has a text
abbrev pub is_written : List Step → Bool
is_written (Name name ∷ later) = is_name name && are_steps (before_member (Name name)) later
is_written _ = false

-- a path is the one that a text stands for
pub record HasText (path : Path) (text : List ℕ) : Type 0 where
  pub written : is_written path.steps ≡ true
  pub text_is : path_text path.steps ≡ text

-- what is left of a text after a step doesn't go on with the name of the step
abbrev pub ends_step : Step → List ℕ → Bool
ends_step (Name name) [] = true
ends_step (Name name) (b ∷ bs) = not (continues_name b)
ends_step (Index number) left = true
ends_step (Member number) left = true

-- A text begins with a step, where a number is that of a member or where it isn't. What is left stands after the step.
pub record BeginsWith (of_member : Bool) (text : List ℕ) (step : Step) (left : List ℕ) : Type 0 where
  pub text_is : later_step_text step ++ left ≡ text
  pub fits : is_step of_member step ≡ true
  pub ends : ends_step step left ≡ true

-- a text begins with no step
abbrev pub BeginsWithNone : Bool → List ℕ → Type 0
BeginsWithNone of_member text = (step : Step) (left : List ℕ) → BeginsWith of_member text step left → ⊥

-- steps that may stand where a number is that of a member, or where it isn't, and whose text this is
pub record Spells (of_member : Bool) (text : List ℕ) (steps : List Step) : Type 0 where
  pub fits : are_steps of_member steps ≡ true
  pub text_is : flat_map later_step_text steps ≡ text

-- a path has this first step, and its later steps have this text
pub record Continues (first : Step) (left : List ℕ) (path : Path) : Type 0 where
  pub later : List Step
  pub steps_are : path.steps ≡ first ∷ later
  pub spelled : Spells (before_member first) left later

-- the step with a number, where it is that of a member and where it isn't
abbrev pub number_step : Bool → ℕ → Step
number_step true number = Member number
number_step false number = Index number

-- digits are what a number of 32 bits is written as
abbrev pub IsNumber : List ℕ → ℕ → Type 0
IsNumber digits number = (decimal number ≡ digits) × (nat_lt number (2 ^ 32) ≡ true)

-- they are none's
abbrev pub IsNoNumber : List ℕ → Type 0
IsNoNumber digits = (number : ℕ) → IsNumber digits number → ⊥

-- a zero that more digits follow
abbrev pub has_leading_zero : List ℕ → Bool
has_leading_zero [] = false
has_leading_zero (first ∷ []) = false
has_leading_zero (first ∷ second ∷ more) = nat_eq first 48
