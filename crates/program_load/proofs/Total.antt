-- Files allow a program, or a cause for which none is loaded.
use Rattle.std.proofs.Common.{◌≡◌, ◌∙◌, refl, sym, ap, subst, ℕ, zero, suc, ◌+◌, ◌<◌, ◌≤◌, ◌||◌, Bool, true, false, cond, List, [], ◌∷◌, ◌++◌, length, Option, Some, None, inl, inr, arith, true≢false, length-append, nat_lt}
use Rattle.std.specs.Option.{is_some, option_or}
use Rattle.std.proofs.lemmas.Bool.{ltb-true}
use Rattle.std.proofs.lemmas.Bool.Decides.{leb_tells}
use Rattle.osc_base.specs.declared.fault.Place.{Place}
use Rattle.osc_base.specs.declared.fault.FaultCode.{FaultCode}
use Rattle.osc_base.specs.declared.fault.Fault.{Fault}
use Rattle.dsl_tree.specs.declared.token.Token.{Token}
use Rattle.dsl_tree.specs.declared.file.Import.{Import}
use Rattle.dsl_tree.specs.FileTree.{FileTree}
use Rattle.dsl_tree.specs.Views.{file_tree}
use Rattle.dsl_tree.proofs.Ends.{tree_or_first_fault}
use Rattle.dsl_tree.proofs.TreeFiles.{value_of_tree}
use Rattle.dsl_tree.specs.Language.{Spelled}
use Rattle.dsl_lexer.specs.SourceTokens.{TokensCut}
use Rattle.dsl_lexer.proofs.LawProofs as lexer
use Rattle.dsl_lexer.proofs.Total.{cut_or_first_fault}
use Rattle.outside_io.specs.declared.shelf.NamedBytes.{NamedBytes}
use Rattle.name_scope.specs.declared.names.FileName.{FileName}
use Rattle.name_scope.specs.FileNumbers.{AddedFile, name_text, meant_name, import_place, is_numbered, with_name, with_imports, numbered_names, names_before, fault_at, import_fault, first_import_fault, adding_fault, wanted_mention}
use Rattle.name_scope.proofs.Numbering.{below, numbered_more}
use Rattle.name_scope.proofs.Mentions.{there, wanted_mentioned}
use Rattle.program_load.specs.SourceReading.{IsRead, lexical, syntactic}
use Rattle.program_load.specs.declared.stop.Refusal.{Refusal}
use Rattle.program_load.specs.Loading.{SomeLoad, IsTaken, AreTaken, StopsAt, no_main, no_file, too_long, unread, bad_import, IsLoaded, IsStopped, next_name, name_at, source_of, source_limit}
use Rattle.program_load.proofs.Files.{one_more}
use Rattle.program_load.proofs.SourceReading.{ended}

-- ---- At most 64 names

first_none : (o p : Option Fault) → option_or o p ≡ None → o ≡ None
first_none None p h = refl
first_none (Some x) p h = h

rest_none : (o p : Option Fault) → option_or o p ≡ None → p ≡ None
rest_none None p h = h
rest_none (Some x) p h = absurd (let differ : Some x ≡ None = h in cc)

few_by : (names : List FileName) (name : FileName) (fault : Fault) (numbered room : Bool) → nat_lt (length names) 64 ≡ room → length names ≤ 64 →
    cond (numbered || room) None (Some fault) ≡ None → length (cond numbered names (names ++ name ∷ [])) ≤ 64
few_by names name fault true room is few h = few
few_by names name fault false true is few h =
    let less : length names < 64 = ltb-true (length names) 64 is in
    let more = length-append names (name ∷ []) in
    omega (arith, less, more)
few_by names name fault false false is few h = absurd (let differ : Some fault ≡ None = h in cc)

few_name : (names : List FileName) (at : Option Place) (name : Option FileName) → ((n : FileName) → name ≡ Some n → is_some at ≡ true) → length names ≤ 64 →
    fault_at names at name ≡ None → length (with_name names name) ≤ 64
few_name names at None placed few h = few
few_name names None (Some name) placed few h = absurd (true≢false (sym (placed name refl)))
few_name names (Some place) (Some name) placed few h =
    few_by names name (record { place = place; code = FaultCode.TooManyFiles }) (is_numbered name names) (nat_lt (length names) 64) refl few h

few_imports : (names : List FileName) (imports : List Import) → length names ≤ 64 → first_import_fault names imports ≡ None → length (with_imports names imports) ≤ 64
few_imports names [] few h = few
few_imports names (i ∷ is) few h =
    few_imports (with_name names (meant_name i)) is
    (few_name names (import_place i) (meant_name i) (there i) few (first_none (import_fault names i) (first_import_fault (with_name names (meant_name i)) is) h))
    (rest_none (import_fault names i) (first_import_fault (with_name names (meant_name i)) is) h)

few_before : (before : List AddedFile) (name : List ℕ) → length (numbered_names before) ≤ 64 → length (names_before before name) ≤ 64
few_before [] name few = omega arith
few_before (first ∷ others) name few = few

few_more : (before : List AddedFile) (added : AddedFile) → length (numbered_names before) ≤ 64 → adding_fault before added ≡ None → length (numbered_names (before ++ added ∷ [])) ≤ 64
few_more before added few sound =
    subst (λ names. length names ≤ 64) (sym (numbered_more before added))
    (few_imports (names_before before added.name) added.file.imports (few_before before added.name few) sound)

-- a file whose turn it is has room
room : (main : List ℕ) (before : List AddedFile) (name : FileName) → next_name main before ≡ Some name → length (numbered_names before) ≤ 64 → length before < 64
room main [] name next few = omega arith
room main (first ∷ others) name next few = let less = below (numbered_names (first ∷ others)) (length (first ∷ others)) name next in omega (arith, less, few)

-- ---- One turn

module _ (files : List NamedBytes) (before : List AddedFile) (name : FileName)
    (no_taken : (added : AddedFile) → IsTaken files before name added → ⊥) (no_stop : (stop : Refusal) → StopsAt files before name stop → ⊥) where
  some_added : (source : List ℕ) (tokens : List Token) (added : AddedFile) (o : Option Fault) → source_of files name ≡ Some source → length source ≤ source_limit →
      IsRead (length before) source tokens (file_tree added.file) → added.name ≡ name_text name → adding_fault before added ≡ o → ⊥
  some_added source tokens added None is within read called sound =
      no_taken added (record { source = source; there = is; within = within; tokens = tokens; read = read; called = called; imports = sound })
  some_added source tokens added (Some fault) is within read called sound =
      no_stop (Refusal.Faulty (name_text name) fault) (bad_import source tokens added fault is within read called sound refl)

  some_tree : (source : List ℕ) (tokens : List Token) (tree : FileTree) → source_of files name ≡ Some source → length source ≤ source_limit →
      TokensCut (length before) source tokens → Spelled tree tokens → ⊥
  some_tree source tokens tree is within cut spelled =
      let found = value_of_tree tree spelled.follows in
      let added : AddedFile = record { name = name_text name; file = found.0 } in
      some_added source tokens added (adding_fault before added) is within
      (record { cut = cut; spelled = subst (λ t. Spelled t tokens) (sym found.1) spelled }) refl refl

  some_cut : (source : List ℕ) (tokens : List Token) → source_of files name ≡ Some source → length source ≤ source_limit → TokensCut (length before) source tokens → ⊥
  some_cut source tokens is within cut =
      tree_or_first_fault tokens (ended tokens (lexer.end_is_last (length before) source tokens cut))
      (λ tree spelled. some_tree source tokens tree is within cut spelled)
      (λ fault first. no_stop (Refusal.Faulty (name_text name) fault) (unread source fault is within (syntactic tokens cut first) refl))

  some_source : (source : List ℕ) → source_of files name ≡ Some source → ⊥
  some_source source is =
      elim (leb_tells (length source) source_limit) [
        | inl within ↦ elim (cut_or_first_fault (length before) source) [
          | inl tokens ↦ some_cut source tokens.0 is within.1 tokens.1
          | inr first ↦ no_stop (Refusal.Faulty (name_text name) first.0) (unread source first.0 is within.1 (lexical first.1) refl)
        ]
        | inr beyond ↦ no_stop (Refusal.Long (name_text name)) (too_long source is beyond.1 refl)
      ]

  no_source : (main : List ℕ) (place : Option Place) → next_name main before ≡ Some name → wanted_mention before ≡ place → source_of files name ≡ None → ⊥
  no_source main (Some place) next mention is =
      no_stop (Refusal.Faulty (name_at before place.file) (record { place = place; code = FaultCode.MissingImport })) (no_file place is mention refl)
  no_source main None next mention is = no_stop Refusal.Missing (no_main (unmentioned main before name next mention) is refl)
    where
      unmentioned : (main : List ℕ) (before : List AddedFile) (name : FileName) → next_name main before ≡ Some name → wanted_mention before ≡ None → before ≡ []
      unmentioned main [] name next mention = refl
      unmentioned main (first ∷ others) name next mention =
          absurd (true≢false (sym (sym (ap is_some mention) ∙ wanted_mentioned (first ∷ others) ∙ ap is_some next)))

  some_turn : (main : List ℕ) (found : Option (List ℕ)) → next_name main before ≡ Some name → source_of files name ≡ found → ⊥
  some_turn main None next is = no_source main (wanted_mention before) next refl is
  some_turn main (Some source) next is = some_source source is

-- ---- One turn after another

module _ (files : List NamedBytes) (main : List ℕ) (no_program : (program : List AddedFile) → IsLoaded files main program → ⊥)
    (no_stop : (stop : Refusal) → IsStopped files main stop → ⊥) where
  turns : (left : ℕ) (taken : List AddedFile) (next : Option FileName) → next_name main taken ≡ next → 64 ≤ length taken + left → length (numbered_names taken) ≤ 64 →
      AreTaken files main taken → ⊥
  turns left taken None is enough few t = no_program taken (record { taken = t; whole = is })
  turns zero taken (Some name) is enough few t = let less = room main taken name is few in absurd (omega (arith, less, enough))
  turns (suc left) taken (Some name) is enough few t =
      some_turn files taken name
      (λ added has.
      (let more = length-append taken (added ∷ []) in
      turns left (taken ++ added ∷ []) (next_name main (taken ++ added ∷ [])) refl (omega (arith, more, enough)) (few_more taken added few has.imports)
      (one_more files main [] taken name added t is has)))
      (λ stop stops. no_stop stop (record { taken = taken; are_taken = t; name = name; next = is; stops = stops }))
      main (source_of files name) is refl

pub some_load : SomeLoad
some_load files main no_program no_stop = turns files main no_program no_stop 64 [] (Some (FileName.Named main)) refl (omega arith) (omega arith) tt
