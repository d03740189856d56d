-- Files allow one program, or one cause for which none is loaded.
use Rattle.std.proofs.Common.{◌≡◌, ◌∙◌, refl, sym, ap, ap₂, subst, ℕ, ◌<◌, ◌≤◌, List, [], ◌∷◌, ◌++◌, length, Option, Some, None, arith, append_assoc}
use Rattle.std.proofs.lemmas.List.{append-nil}
use Rattle.osc_base.specs.declared.fault.Place.{Place}
use Rattle.osc_base.specs.declared.fault.FaultCode.{FaultCode}
use Rattle.osc_base.specs.declared.fault.Fault.{Fault}
use Rattle.dsl_tree.specs.declared.token.Token.{Token}
use Rattle.dsl_tree.specs.declared.file.File.{File}
use Rattle.dsl_tree.specs.Views.{file_tree}
use Rattle.dsl_tree.specs.Language.{Spelled}
use Rattle.dsl_tree.proofs.OneTrees.{one_file_spelled}
use Rattle.dsl_lexer.proofs.LawProofs as lexer
use Rattle.outside_io.specs.declared.shelf.NamedBytes.{NamedBytes}
use Rattle.name_scope.specs.declared.names.FileName.{FileName}
use Rattle.name_scope.specs.FileNumbers.{AddedFile, name_text, wanted_mention, adding_fault}
use Rattle.program_load.specs.SourceReading.{IsRead, IsRefused}
use Rattle.program_load.specs.declared.stop.Refusal.{Refusal}
use Rattle.program_load.specs.Loading.{OneLoad, IsTaken, AreTakenAfter, StopsAt, no_main, no_file, too_long, unread, bad_import, IsLoaded, IsStopped, next_name, name_at, source_of, source_limit}
use Rattle.program_load.proofs.Sources.{same_fault, never_both}

some_none : {A : Type 0} (x : A) (o : Option A) → o ≡ Some x → o ≡ None → ⊥
some_none x o one two = let differ : Some x ≡ None = sym one ∙ two in cc

some_some : {A : Type 0} (x y : A) (o : Option A) → o ≡ Some x → o ≡ Some y → x ≡ y
some_some x y o one two = let same : Some x ≡ Some y = sym one ∙ two in cc

not_within : (source source' : List ℕ) → source ≡ source' → source_limit < length source → length source' ≤ source_limit → ⊥
not_within source source' same beyond within = let len = ap length same in omega (arith, len, beyond, within)

-- ---- One file

-- a file of a name that its source spells
record IsOf (number : ℕ) (source : List ℕ) (name : FileName) (added : AddedFile) : Type 0 where
  tokens : List Token
  read : IsRead number source tokens (file_tree added.file)
  named : added.name ≡ name_text name

abbrev made : List ℕ → File → AddedFile
made name file = record { name = name; file = file }

one_added : (a b : AddedFile) → a.name ≡ b.name → a.file ≡ b.file → a ≡ b
one_added a b names files = ap₂ made names files

same_added : (number : ℕ) (source source' : List ℕ) (name : FileName) (a b : AddedFile) → source ≡ source' → IsOf number source name a → IsOf number source' name b → a ≡ b
same_added number source source' name a b same one two =
    let read = subst (λ s. IsRead number s two.tokens (file_tree b.file)) (sym same) two.read in
    let tokens = lexer.one_list number source one.tokens two.tokens one.read.cut read.cut in
    one_added a b (one.named ∙ sym two.named) (one_file_spelled a.file b.file one.tokens one.read.spelled (subst (Spelled (file_tree b.file)) (sym tokens) read.spelled))

-- ---- One cause

-- why the source of a name gives no file that is taken
data Faulty (before : List AddedFile) (name : FileName) (source : List ℕ) (fault : Fault) : Type 0 where
  no_tree : IsRefused (length before) source fault → Faulty before name source fault
  no_import : (added : AddedFile) → IsOf (length before) source name added → adding_fault before added ≡ Some fault → Faulty before name source fault

data Cause (files : List NamedBytes) (before : List AddedFile) (name : FileName) (stop : Refusal) : Type 0 where
  absent : source_of files name ≡ None → wanted_mention before ≡ None → stop ≡ Refusal.Missing → Cause files before name stop
  unbrought : (place : Place) → source_of files name ≡ None → wanted_mention before ≡ Some place →
      stop ≡ Refusal.Faulty (name_at before place.file) (record { place = place; code = FaultCode.MissingImport }) → Cause files before name stop
  beyond : (source : List ℕ) → source_of files name ≡ Some source → source_limit < length source → stop ≡ Refusal.Long (name_text name) → Cause files before name stop
  faulty : (source : List ℕ) (fault : Fault) → source_of files name ≡ Some source → length source ≤ source_limit → Faulty before name source fault →
      stop ≡ Refusal.Faulty (name_text name) fault → Cause files before name stop

module _ (files : List NamedBytes) (before : List AddedFile) (name : FileName) where
  cause : (stop : Refusal) → StopsAt files before name stop → Cause files before name stop
  cause stop (no_main first none is) = absent none (ap wanted_mention first) is
  cause stop (no_file place none mention is) = unbrought place none mention is
  cause stop (too_long source there more is) = beyond source there more is
  cause stop (unread source fault there within refused is) = faulty source fault there within (no_tree refused) is
  cause stop (bad_import source tokens added fault there within read named adding is) =
      faulty source fault there within (no_import added (record { tokens = tokens; read = read; named = named }) adding) is

  one_fault : (source source' : List ℕ) (fault fault' : Fault) → source ≡ source' → Faulty before name source fault → Faulty before name source' fault' → fault ≡ fault'
  one_fault source source' fault fault' same (no_tree refused) (no_tree refused') =
      same_fault (length before) source fault fault' refused (subst (λ s. IsRefused (length before) s fault') (sym same) refused')
  one_fault source source' fault fault' same (no_tree refused) (no_import added of adding) =
      absurd (never_both (length before) source' of.tokens (file_tree added.file) fault of.read (subst (λ s. IsRefused (length before) s fault) same refused))
  one_fault source source' fault fault' same (no_import added of adding) (no_tree refused) =
      absurd (never_both (length before) source of.tokens (file_tree added.file) fault' of.read (subst (λ s. IsRefused (length before) s fault') (sym same) refused))
  one_fault source source' fault fault' same (no_import added of adding) (no_import added' of' adding') =
      some_some fault fault' (adding_fault before added) adding (ap (adding_fault before) (same_added (length before) source source' name added added' same of of') ∙ adding')

  one_cause : (stop other : Refusal) → Cause files before name stop → Cause files before name other → stop ≡ other
  one_cause stop other (absent none mention is) (absent none' mention' is') = is ∙ sym is'
  one_cause stop other (absent none mention is) (unbrought place none' mention' is') = absurd (some_none place (wanted_mention before) mention' mention)
  one_cause stop other (absent none mention is) (beyond source there more is') = absurd (some_none source (source_of files name) there none)
  one_cause stop other (absent none mention is) (faulty source fault there within because is') = absurd (some_none source (source_of files name) there none)
  one_cause stop other (unbrought place none mention is) (absent none' mention' is') = absurd (some_none place (wanted_mention before) mention mention')
  one_cause stop other (unbrought place none mention is) (unbrought place' none' mention' is') =
      is ∙ ap (λ (p : Place). Refusal.Faulty (name_at before p.file) (record { place = p; code = FaultCode.MissingImport })) (some_some place place' (wanted_mention before) mention mention') ∙ sym is'
  one_cause stop other (unbrought place none mention is) (beyond source there more is') = absurd (some_none source (source_of files name) there none)
  one_cause stop other (unbrought place none mention is) (faulty source fault there within because is') = absurd (some_none source (source_of files name) there none)
  one_cause stop other (beyond source there more is) (absent none mention is') = absurd (some_none source (source_of files name) there none)
  one_cause stop other (beyond source there more is) (unbrought place none mention is') = absurd (some_none source (source_of files name) there none)
  one_cause stop other (beyond source there more is) (beyond source' there' more' is') = is ∙ sym is'
  one_cause stop other (beyond source there more is) (faulty source' fault there' within because is') =
      absurd (not_within source source' (some_some source source' (source_of files name) there there') more within)
  one_cause stop other (faulty source fault there within because is) (absent none mention is') = absurd (some_none source (source_of files name) there none)
  one_cause stop other (faulty source fault there within because is) (unbrought place none mention is') = absurd (some_none source (source_of files name) there none)
  one_cause stop other (faulty source fault there within because is) (beyond source' there' more is') =
      absurd (not_within source' source (some_some source' source (source_of files name) there' there) more within)
  one_cause stop other (faulty source fault there within because is) (faulty source' fault' there' within' because' is') =
      is ∙ ap (Refusal.Faulty (name_text name)) (one_fault source source' fault fault' (some_some source source' (source_of files name) there there') because because') ∙ sym is'

  one_stop : (stop other : Refusal) → StopsAt files before name stop → StopsAt files before name other → stop ≡ other
  one_stop stop other one two = one_cause stop other (cause stop one) (cause other two)

  taken_of : (added : AddedFile) (t : IsTaken files before name added) → IsOf (length before) t.source name added
  taken_of added t = record { tokens = t.tokens; read = t.read; named = t.called }

  one_taken : (a b : AddedFile) → IsTaken files before name a → IsTaken files before name b → a ≡ b
  one_taken a b t u = same_added (length before) t.source u.source name a b (some_some t.source u.source (source_of files name) t.there u.there) (taken_of a t) (taken_of b u)

  -- a file that is taken has no fault
  sound : (source : List ℕ) (fault : Fault) (added : AddedFile) (t : IsTaken files before name added) → source ≡ t.source → Faulty before name source fault → ⊥
  sound source fault added t same (no_tree refused) =
      never_both (length before) t.source t.tokens (file_tree added.file) fault t.read (subst (λ s. IsRefused (length before) s fault) same refused)
  sound source fault added t same (no_import added' of adding) =
      some_none fault (adding_fault before added') adding (ap (adding_fault before) (same_added (length before) source t.source name added' added same of (taken_of added t)) ∙ t.imports)

  not_caused : (added : AddedFile) (stop : Refusal) → IsTaken files before name added → Cause files before name stop → ⊥
  not_caused added stop t (absent none mention is) = some_none t.source (source_of files name) t.there none
  not_caused added stop t (unbrought place none mention is) = some_none t.source (source_of files name) t.there none
  not_caused added stop t (beyond source there more is) =
      not_within source t.source (some_some source t.source (source_of files name) there t.there) more t.within
  not_caused added stop t (faulty source fault there within because is) =
      sound source fault added t (some_some source t.source (source_of files name) there t.there) because

  not_both : (added : AddedFile) (stop : Refusal) → IsTaken files before name added → StopsAt files before name stop → ⊥
  not_both added stop t stops = not_caused added stop t (cause stop stops)

-- ---- Two rows of files that are taken

record HasNext (files : List NamedBytes) (main : List ℕ) (taken : List AddedFile) : Type 0 where
  name : FileName
  next : next_name main taken ≡ Some name
  added : AddedFile
  is_taken : IsTaken files taken name added

-- one goes on after the other, or they are one
data Compared (files : List NamedBytes) (main : List ℕ) (one two : List AddedFile) : Type 0 where
  same : one ≡ two → Compared files main one two
  first_goes_on : HasNext files main two → Compared files main one two
  second_goes_on : HasNext files main one → Compared files main one two

goes_on : (files : List NamedBytes) (main : List ℕ) (before : List AddedFile) (added : AddedFile) (later : List AddedFile) →
    AreTakenAfter files main before (added ∷ later) → HasNext files main (before ++ [])
goes_on files main before added later t =
    subst (HasNext files main) (sym (append-nil before)) (record { name = t.0.0; next = t.0.1; added = added; is_taken = t.0.2 })

compared : (files : List NamedBytes) (main : List ℕ) (before one two : List AddedFile) → AreTakenAfter files main before one → AreTakenAfter files main before two →
    Compared files main (before ++ one) (before ++ two)
compared files main before [] [] t u = same refl
compared files main before [] (b ∷ two) t u = second_goes_on (goes_on files main before b two u)
compared files main before (a ∷ one) [] t u = first_goes_on (goes_on files main before a one t)
compared files main before (a ∷ one) (b ∷ two) t u =
    let named : u.0.0 ≡ t.0.0 = some_some u.0.0 t.0.0 (next_name main before) u.0.1 t.0.1 in
    let equal : b ≡ a = one_taken files before t.0.0 b a (subst (λ n. IsTaken files before n b) named u.0.2) t.0.2 in
    let rest = subst (λ x. AreTakenAfter files main (before ++ x ∷ []) two) equal u.1 in
    subst (λ x. Compared files main (before ++ a ∷ one) (before ++ x ∷ two)) (sym equal)
    (subst (λ xs. Compared files main xs (before ++ a ∷ two)) (append_assoc before (a ∷ []) one)
    (subst (λ xs. Compared files main ((before ++ a ∷ []) ++ one) xs) (append_assoc before (a ∷ []) two)
    (compared files main (before ++ a ∷ []) one two t.1 rest)))

module _ (files : List NamedBytes) (main : List ℕ) where
  whole : (program : List AddedFile) → IsLoaded files main program → HasNext files main program → ⊥
  whole program l h = some_none h.name (next_name main program) h.next l.whole

  stopped : (stop : Refusal) (s : IsStopped files main stop) → HasNext files main s.taken → ⊥
  stopped stop s h =
      not_both files s.taken s.name h.added stop
      (subst (λ n. IsTaken files s.taken n h.added) (some_some h.name s.name (next_name main s.taken) h.next s.next) h.is_taken) s.stops

  one_program : (program other : List AddedFile) → IsLoaded files main program → IsLoaded files main other → program ≡ other
  one_program program other l m = by (compared files main [] program other l.taken m.taken)
    where
      by : Compared files main program other → program ≡ other
      by (same e) = e
      by (first_goes_on h) = absurd (whole other m h)
      by (second_goes_on h) = absurd (whole program l h)

  same_stop : (stop other : Refusal) (s : IsStopped files main stop) (t : IsStopped files main other) → s.taken ≡ t.taken → stop ≡ other
  same_stop stop other s t taken =
      let next = subst (λ xs. next_name main xs ≡ Some t.name) (sym taken) t.next in
      let name : t.name ≡ s.name = some_some t.name s.name (next_name main s.taken) next s.next in
      one_stop files s.taken s.name stop other s.stops (subst (λ n. StopsAt files s.taken n other) name (subst (λ xs. StopsAt files xs t.name other) (sym taken) t.stops))

  one_end : (stop other : Refusal) → IsStopped files main stop → IsStopped files main other → stop ≡ other
  one_end stop other s t = by (compared files main [] s.taken t.taken s.are_taken t.are_taken)
    where
      by : Compared files main s.taken t.taken → stop ≡ other
      by (same e) = same_stop stop other s t e
      by (first_goes_on h) = absurd (stopped other t h)
      by (second_goes_on h) = absurd (stopped stop s h)

  never_two : (program : List AddedFile) (stop : Refusal) → IsLoaded files main program → IsStopped files main stop → ⊥
  never_two program stop l s = by (compared files main [] program s.taken l.taken s.are_taken)
    where
      by : Compared files main program s.taken → ⊥
      by (same e) = some_none s.name (next_name main s.taken) s.next (subst (λ xs. next_name main xs ≡ None) e l.whole)
      by (first_goes_on h) = stopped stop s h
      by (second_goes_on h) = whole program l h

pub one_load : OneLoad
one_load files main = (one_program files main, one_end files main, never_two files main)
