-- What the file whose turn it is says of the load that stops at it.
use Rattle.std.proofs.Common.{◌≡◌, ◌∙◌, ◌⊎◌, inl, inr, refl, sym, ap, subst, ℕ, List, [], length, Option, Some, None, IfErr, Result, Ok, Err, false, true≢false}
use Rattle.std.specs.Option.{is_some}
use Rattle.osc_base.specs.declared.fault.Place.{Place}
use Rattle.osc_base.specs.declared.fault.Fault.{Fault}
use Rattle.dsl_tree.specs.Views.{file_tree}
use Rattle.outside_io.specs.declared.shelf.NamedBytes.{NamedBytes}
use Rattle.name_scope.specs.declared.names.FileName.{FileName}
use Rattle.name_scope.specs.FileNumbers.{AddedFile, name_text, wanted_name, wanted_mention}
use Rattle.name_scope.proofs.Mentions.{wanted_mentioned}
use Rattle.program_load.specs.declared.stop.LoadStop.{LoadStop}
use Rattle.program_load.specs.SourceReading.{IsRead, IsRefused}
use Rattle.program_load.specs.declared.stop.Refusal.{Refusal}
use Rattle.program_load.specs.Loading.{no_main, no_file, too_long, unread, bad_import}
use Rattle.program_load.specs.Steps.{IsFound, HasFile, HasLongSource, HasFault, Stops, IsUnadded, missing_refusal}

module _ (told : Option (List NamedBytes)) (before : List AddedFile) (name : FileName) where
  -- ---- A bad import

  import_stop : (number : ℕ) (added : AddedFile) (stop : LoadStop) → number ≡ length before → added.name ≡ name_text name →
      HasFile told name number added.file → IsUnadded before added stop → Stops told before name stop
  import_stop number added (LoadStop.At Refusal.Missing) count called has unadded = absurd unadded
  import_stop number added (LoadStop.At (Refusal.Long text)) count called has unadded = absurd unadded
  import_stop number added (LoadStop.Shelf text) count called has unadded = absurd unadded
  import_stop number added LoadStop.Memory count called has unadded = tt
  import_stop number added (LoadStop.At (Refusal.Faulty text fault)) count called has unadded = (
    Some has.source,
    has.found,
    λ files there.
        bad_import has.source has.tree.tokens added fault there has.within
        (subst (λ n. IsRead n has.source has.tree.tokens (file_tree added.file)) count has.tree.read) called unadded.1 (ap (λ t. Refusal.Faulty t fault) (unadded.0 ∙ called)),
  )

  pub import_stops : {A : Type 0} (number : ℕ) (added : AddedFile) (r : Result A LoadStop) → number ≡ length before → added.name ≡ name_text name →
      HasFile told name number added.file → IfErr r (IsUnadded before added) → IfErr r (Stops told before name)
  import_stops number added (Ok done) count called has unadded = tt
  import_stops number added (Err stop) count called has unadded = import_stop number added stop count called has unadded

  -- ---- No tree

  pub long_stops : (text : List ℕ) → text ≡ name_text name → HasLongSource told name → Stops told before name (LoadStop.At (Refusal.Long text))
  long_stops text called has = (Some has.source, has.found, λ files there. too_long has.source there has.beyond (ap Refusal.Long called))

  pub fault_stops : (number : ℕ) (text : List ℕ) (fault : Fault) → number ≡ length before → text ≡ name_text name → HasFault told name number fault →
      Stops told before name (LoadStop.At (Refusal.Faulty text fault))
  fault_stops number text fault count called has = (
    Some has.source,
    has.found,
    λ files there.
        unread has.source fault there has.within (subst (λ n. IsRefused n has.source fault) count has.refused) (ap (λ t. Refusal.Faulty t fault) called),
  )

  first_there : (before ≡ []) ⊎ (wanted_name before ≡ Some name) → is_some (wanted_name before) ≡ false → before ≡ []
  first_there (inl first) none = first
  first_there (inr wanted) none = absurd (true≢false (sym (ap is_some wanted) ∙ none))

  missing_at : (place : Option Place) → wanted_mention before ≡ place → (before ≡ []) ⊎ (wanted_name before ≡ Some name) → IsFound told name None →
      Stops told before name (LoadStop.At (missing_refusal before place))
  missing_at None is turn found = (None, found, λ files there. no_main (first_there turn (sym (wanted_mentioned before) ∙ ap is_some is)) there refl)
  missing_at (Some place) is turn found = (None, found, λ files there. no_file place there is refl)

  pub missing_stops : (refusal : Refusal) → refusal ≡ missing_refusal before (wanted_mention before) → (before ≡ []) ⊎ (wanted_name before ≡ Some name) → IsFound told name None →
      Stops told before name (LoadStop.At refusal)
  missing_stops refusal is turn found = subst (λ r. Stops told before name (LoadStop.At r)) (sym is) (missing_at (wanted_mention before) refl turn found)
