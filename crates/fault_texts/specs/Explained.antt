-- What `osc explain` writes.
use Rattle.std.specs.Prelude.{ℕ, List, ◌++◌, codes, flat_map}
use Rattle.std.specs.Fmt.{decimal}
use Rattle.osc_base.specs.FaultCodes.{number_of}
use Rattle.osc_base.specs.declared.fault.FaultCode.{FaultCode}
use Rattle.fault_texts.specs.Said.{Said}
use Rattle.fault_texts.specs.Table.{said_of_fault, said_of_status}
use Rattle.fault_texts.specs.Topics.{status_number}
use Rattle.fault_texts.specs.declared.topics.Status.{Status}
use Rattle.fault_texts.specs.declared.topics.Topic.{Topic}
use Rattle.fault_texts.specs.declared.topics.TheConstants.{CODES, STATUSES}
use Rattle.fault_texts.specs.declared.explain.TheConstants.{FAULT_ANSWER, FAULT_EXAMPLE, HEADING, MENDING, STATUS_ANSWER, STATUS_EXAMPLE, STATUS_HEADING}

-- a text, behind it all but the title of what is said, with these headings of the example and the answer
abbrev pub laid_out : List ℕ → Said → List ℕ → List ℕ → List ℕ
laid_out text said example answer =
    text ++ said.meaning ++ example ++ said.example ++ answer ++ said.answer ++ MENDING.now ++ said.mending

-- what is said of a fault's code
abbrev pub fault_explanation : FaultCode → List ℕ
fault_explanation code =
    let said = said_of_fault code in
    laid_out (codes "fault " ++ decimal (number_of code) ++ codes ": " ++ said.title ++ codes "\n\n") said
    FAULT_EXAMPLE.now FAULT_ANSWER.now

-- what is said of a status
abbrev pub status_explanation : Status → List ℕ
status_explanation status =
    let said = said_of_status status in
    laid_out (codes "status " ++ decimal (status_number status) ++ codes ": " ++ said.title ++ codes "\n\n") said
    STATUS_EXAMPLE.now STATUS_ANSWER.now

abbrev pub explanation : Topic → List ℕ
explanation (Topic.Fault code) = fault_explanation code
explanation (Topic.Status status) = status_explanation status

-- a code in the list: its number and its title
abbrev pub code_line : FaultCode → List ℕ
code_line code = codes "  " ++ decimal (number_of code) ++ codes "  " ++ (said_of_fault code).title ++ codes "\n"

abbrev pub status_line : Status → List ℕ
status_line status =
    codes "  " ++ decimal (status_number status) ++ codes "  " ++ (said_of_status status).title ++ codes "\n"

-- all topics, one in each line
abbrev pub topic_list : List ℕ
topic_list = HEADING.now ++ flat_map code_line CODES ++ STATUS_HEADING.now ++ flat_map status_line STATUSES
