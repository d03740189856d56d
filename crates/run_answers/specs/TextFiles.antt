-- What any command replies to a file that it reads.
use Rattle.std.specs.Prelude.{◌≡◌, ◌≤◌, ℕ, List, Some, None, length}
use Rattle.outside_io.specs.declared.shelf.NamedBytes.{NamedBytes}
use Rattle.outside_io.specs.Files.{file_named}
use Rattle.text_load.specs.Texts.{IsLong}
use Rattle.command_replies.specs.Reply.{Answer}
use Rattle.command_replies.specs.Replies.{long_file, missing_file, text_refused}

-- What is replied to a file that is read as a T, given the texts that the shelf tells: the file isn't there, or has more bytes than the limit; or
-- its text is no T, with what `IsNo` tells of it; else what is said of the T that its text is.
pub data OnFile {T : Type 0} (limit : ℕ) (IsNo : List ℕ → List ℕ → Type 0) (Is : List ℕ → T → Type 0) (Says : T → Answer → Type 0)
    (texts : List NamedBytes) (file : List ℕ) (reply : Answer) : Type 0 where
  no_file : file_named texts file ≡ None → reply ≡ missing_file file → OnFile limit IsNo Is Says texts file reply
  too_long : IsLong texts file limit → reply ≡ long_file file → OnFile limit IsNo Is Says texts file reply
  bad_text : (bytes what : List ℕ) → file_named texts file ≡ Some bytes → length bytes ≤ limit → IsNo bytes what → reply ≡ text_refused what →
      OnFile limit IsNo Is Says texts file reply
  in_file : (bytes : List ℕ) (x : T) → file_named texts file ≡ Some bytes → length bytes ≤ limit → Is bytes x → Says x reply →
      OnFile limit IsNo Is Says texts file reply
