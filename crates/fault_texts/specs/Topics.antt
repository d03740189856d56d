-- What `osc explain` tells of, and the words that name it.
use Rattle.std.specs.Prelude.{ℕ, ◌+◌, ◌-◌, ◌*◌, ◌==◌, Bool, ◌&&◌, nat_le, if◌then◌else◌, List, [], ◌∷◌, Option, Some, None, find}
use Rattle.std.specs.Option.{option_and_then, option_map}
use Rattle.osc_base.specs.FaultCodes.{number_of}
use Rattle.osc_base.specs.declared.fault.FaultCode.{FaultCode}
use Rattle.fault_texts.specs.declared.topics.Status.{Status}
use Rattle.fault_texts.specs.declared.topics.Topic.{Topic}
use Rattle.fault_texts.specs.declared.topics.TheConstants.{CODES, STATUSES}

-- the status with which the program ends
abbrev pub status_number : Status → ℕ
status_number Status.Words = 4
status_number Status.Text = 5
status_number Status.Shelf = 6
status_number Status.Sink = 7
status_number Status.Memory = 8
status_number Status.Arguments = 9

-- the value of a decimal digit
abbrev pub digit : ℕ → Option ℕ
digit byte = if nat_le 48 byte && nat_le byte 57 then Some (byte - 48) else None

-- the number that three digits write
abbrev pub three_digits : ℕ → ℕ → ℕ → Option ℕ
three_digits a b c =
    option_and_then (λ a. option_and_then (λ b. option_map (λ c. 100 * a + 10 * b + c) (digit c)) (digit b)) (digit a)

-- the number that a word names: one digit, three digits, `E` and three digits, or three digits in `error[...]`, as messages have them
abbrev pub number_in : List ℕ → Option ℕ
number_in (a ∷ []) = digit a
number_in (a ∷ b ∷ c ∷ []) = three_digits a b c
number_in (e ∷ a ∷ b ∷ c ∷ []) = if e == 69 then three_digits a b c else None
number_in (e ∷ r ∷ s ∷ o ∷ t ∷ open_mark ∷ a ∷ b ∷ c ∷ close_mark ∷ []) =
    if e == 101 && (r == 114 && (s == 114 && (o == 111 && (t == 114 && (open_mark == 91 && close_mark == 93))))) then three_digits a b c else None
number_in _ = None

-- the code that is printed as this number
abbrev pub code_numbered : ℕ → Option FaultCode
code_numbered number = find (λ code. number_of code == number) CODES

-- the status of this number
abbrev pub status_numbered : ℕ → Option Status
status_numbered number = find (λ status. status_number status == number) STATUSES

-- a code comes before a status; no number is that of both
abbrev pub topic_numbered : ℕ → Option Topic
topic_numbered number = elim (code_numbered number) [
  | Some code ↦ Some (Topic.Fault code)
  | None ↦ option_map Topic.Status (status_numbered number)
]

abbrev pub topic_named : List ℕ → Option Topic
topic_named word = option_and_then topic_numbered (number_in word)
