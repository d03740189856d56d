-- What a contract sees of a reply: a status, and the text that comes with it.
use Rattle.std.specs.Prelude.{ℕ, List}
use Rattle.record_text.specs.Text.{record_text}
use Rattle.command_replies.specs.declared.body.Body.{Body}
use Rattle.command_replies.specs.declared.body.Body.TheVariants as body
use Rattle.command_replies.specs.declared.status.Status.{Status}

pub record Answer : Type 0 where
  pub status : Status
  pub text : List ℕ

-- the text of what is written
abbrev pub body_text : Body → List ℕ
body_text (body.Text text) = text
body_text (body.Record short) = record_text short.claim

abbrev pub answer_of : Status → Body → Answer
answer_of status what = record { status = status; text = body_text what }
