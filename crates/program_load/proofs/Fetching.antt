-- What a fetch and the reading after it say of a name.
use Rattle.std.proofs.Common.{◌≡◌, refl, subst, ℕ, ◌+◌, ◌<◌, List, [], length, Option, Some, None, IfSome, IfErr, Result, Ok, Err, true, arith}
use Rattle.std.specs.Option.{is_some, unwrap_or}
use Rattle.std.specs.Prelude.{replicate}
use Rattle.std.proofs.lemmas.List.{length-replicate}
use Rattle.outside_io.specs.declared.shelf.NamedBytes.{NamedBytes}
use Rattle.outside_io.specs.Files.{file_named, Finds}
use Rattle.name_scope.specs.declared.names.FileName.{FileName}
use Rattle.program_load.specs.declared.source.FileStop.{FileStop}
use Rattle.program_load.specs.Loading.{source_limit}
use Rattle.program_load.specs.Steps.{IsCut, HasLongSource, HasNoSource}

there : (o : Option (List ℕ)) → true ≡ is_some o → o ≡ Some (unwrap_or o [])
there None h = absurd cc
there (Some x) h = refl

-- what is left of a file that was found
left_of : (told : Option (List NamedBytes)) (left : Option (List ℕ)) (name : List ℕ) (P : List ℕ → Type 0) →
    IfSome told (λ all. Finds all name true left) → IfSome left P → IfSome told (λ all. (source : List ℕ) × (file_named all name ≡ Some source) × P source)
left_of None left name P finds held = tt
left_of (Some all) left name P finds held =
    (unwrap_or (file_named all name) [], there (file_named all name) finds.exactly, subst (λ o. IfSome o P) finds.whole held)

-- a list can be longer than any limit
longer : (limit : ℕ) → (source : List ℕ) × (limit < length source)
longer limit =
    let source : List ℕ = replicate (limit + 1) 0 in
    let len : length source ≡ limit + 1 = length-replicate (limit + 1) 0 in
    (source, omega (arith, len))

long_of : (told : Option (List NamedBytes)) (name : List ℕ) →
    IfSome told (λ all. (source : List ℕ) × (file_named all name ≡ Some source) × (source_limit < length source)) → HasLongSource told (FileName.Named name)
long_of None name h = let long = longer source_limit in record { source = long.0; found = tt; beyond = long.1 }
long_of (Some all) name h = record { source = h.0; found = h.1; beyond = h.2 }

cut_found : (told : Option (List NamedBytes)) (left : Option (List ℕ)) (name : List ℕ) (stop : FileStop) →
    IfSome told (λ all. Finds all name true left) → IsCut left stop → HasNoSource told (FileName.Named name) stop
cut_found told left name FileStop.Long finds cut = long_of told name (left_of told left name (λ bytes. source_limit < length bytes) finds cut)
cut_found told left name FileStop.Shelf finds cut = record { text = name; named = refl }
cut_found told left name FileStop.Memory finds cut = tt
cut_found told left name FileStop.Missing finds cut = absurd cut
cut_found told left name (FileStop.At fault) finds cut = absurd cut

-- why the source of a file that was found isn't read
pub stops_found : (told : Option (List NamedBytes)) (left : Option (List ℕ)) (name : List ℕ) (r : Result (List ℕ) FileStop) →
    IfSome told (λ all. Finds all name true left) → IfErr r (IsCut left) → IfErr r (HasNoSource told (FileName.Named name))
stops_found told left name (Ok source) finds cut = tt
stops_found told left name (Err stop) finds cut = cut_found told left name stop finds cut
