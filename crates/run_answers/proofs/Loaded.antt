-- What is found in the file of a run, from what is loaded and read of it.
use Rattle.std.proofs.Common.{◌≡◌, refl, sym, subst, ap, ◌∙◌, ℕ, List, Option, Result, Ok, Err, IfOk, inl, inr, codes}
use Rattle.outside_io.specs.declared.shelf.NamedBytes.{NamedBytes}
use Rattle.outside_io.specs.Files.{SomeFiles}
use Rattle.outside_io.proofs.SomeFiles.{of_all, onward}
use Rattle.run_texts.specs.declared.stop.RunStop.{RunStop}
use Rattle.run_texts.specs.RunReading.{IsReading}
use Rattle.text_load.specs.declared.loading.TextStop.{TextStop}
use Rattle.text_load.specs.Texts.{Allows, Counts}
use Rattle.command_replies.specs.Reply.{Answer}
use Rattle.command_replies.specs.Replies.{text_refused}
use Rattle.run_answers.specs.declared.found.FoundRun.{FoundRun}
use Rattle.run_answers.specs.FoundRuns.{IsFoundIn, IsFoundRun, IsReplyToRunStop, IsReplyToTextStop}
use Rattle.run_answers.specs.RunFiles.{no_json, no_run, run_limit}
use Rattle.run_answers.specs.TextFiles.{bad_text, no_file, too_long}

-- ---- the text of a run

-- the place at which a text is no run
pub shape_told : {E : Type 0} (pointer text : List ℕ) (stop : RunStop) (r : Result Answer E) → stop ≡ RunStop.BadShape pointer → text ≡ pointer →
    IfOk r (λ reply. reply ≡ text_refused text) → IfOk r (IsReplyToRunStop stop)
shape_told pointer text stop (Ok reply) is same told = subst (λ s. IsReplyToRunStop s reply) (sym is) (told ∙ ap text_refused same)
shape_told pointer text stop (Err e) is same told = tt

-- a text that is no run
pub none_in : (bytes : List ℕ) (stop : RunStop) (reply : Answer) → IsReading bytes (Err stop) → IsReplyToRunStop stop reply → IsFoundIn bytes (FoundRun.Refused reply)
none_in bytes RunStop.BadJson reply is told = (codes "json", no_json is refl, told)
none_in bytes (RunStop.BadShape pointer) reply is told = (pointer, no_run is, told)
none_in bytes RunStop.Memory reply is told = absurd told

-- ---- the file of a run

module _ (told_files : Option (List NamedBytes)) (file : List ℕ) (before after : ℕ) where
  abbrev Found : FoundRun → List NamedBytes → Type 0
  Found found texts = IsFoundRun texts file before after found

  abbrev Allowed : Result (List ℕ) TextStop → List NamedBytes → Type 0
  Allowed answer texts = Allows texts file run_limit answer

  by_text : (bytes : List ℕ) (found : FoundRun) (texts : List NamedBytes) → Allowed (Ok bytes) texts → IsFoundIn bytes found → after ≡ before → Found found texts
  by_text bytes (FoundRun.Run run) texts its is steady = (record { bytes = bytes; there = its.0; within = its.1; is = is }, steady)
  by_text bytes (FoundRun.Refused reply) texts its is steady = inl (bad_text bytes is.0 its.0 its.1 is.1 is.2, steady)

  -- it has a text
  pub text_found : {E : Type 0} (bytes text : List ℕ) (r : Result FoundRun E) → SomeFiles told_files (λ texts. Allows texts file run_limit (Ok bytes)) → text ≡ bytes →
      IfOk r (IsFoundIn text) → after ≡ before → IfOk r (λ found. SomeFiles told_files (λ texts. IsFoundRun texts file before after found))
  text_found bytes text (Ok found) some same is steady =
      onward told_files (Allowed (Ok bytes)) (Found found) some (λ texts its. by_text bytes found texts its (subst (λ b. IsFoundIn b found) same is) steady)
  text_found bytes text (Err e) some same is steady = tt

  -- it has no text, or the shelf failed
  pub stop_found : (stop : TextStop) (reply : Answer) → SomeFiles told_files (λ texts. Allows texts file run_limit (Err stop)) → Counts {A = List ℕ} (Err stop) before after →
      IsReplyToTextStop file stop reply → SomeFiles told_files (λ texts. IsFoundRun texts file before after (FoundRun.Refused reply))
  stop_found TextStop.Missing reply some steady is =
      onward told_files (Allowed (Err TextStop.Missing)) (Found (FoundRun.Refused reply)) some (λ texts its. inl (no_file its is, steady))
  stop_found TextStop.Long reply some steady is =
      onward told_files (Allowed (Err TextStop.Long)) (Found (FoundRun.Refused reply)) some (λ texts its. inl (too_long its is, steady))
  stop_found TextStop.Shelf reply some rose is = of_all told_files (Found (FoundRun.Refused reply)) (λ texts. inr (rose, is))
  stop_found TextStop.Memory reply some steady is = absurd is
