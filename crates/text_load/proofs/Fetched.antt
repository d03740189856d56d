-- What a fetch and the reading after it say of a name.
use Rattle.std.proofs.Common.{◌≡◌, ◌∙◌, refl, sym, ap, subst, ℕ, ◌+◌, ◌≤◌, ◌<◌, List, [], ◌∷◌, length, Option, Some, None, IfSome, IfOk, IfErr, Result, Ok, Err, true, false, cond, arith}
use Rattle.std.specs.Option.{is_some, unwrap_or, option_map}
use Rattle.std.specs.Prelude.{replicate}
use Rattle.std.specs.Str.{bytes_eq}
use Rattle.std.proofs.lemmas.List.{length-replicate}
use Rattle.std.proofs.lemmas.Slice.Eq.{bytes_eq-Decides}
use Rattle.outside_io.specs.declared.shelf.NamedBytes.{NamedBytes}
use Rattle.outside_io.specs.Files.{file_named, Finds, SomeFiles}
use Rattle.text_load.specs.declared.loading.TextStop.{TextStop}
use Rattle.text_load.specs.Texts.{Allows, IsCut}

-- the files that have this file alone
abbrev alone : List ℕ → List ℕ → List NamedBytes
alone name bytes = record { name = name; bytes = bytes } ∷ []

named_alone : (name bytes : List ℕ) → file_named (alone name bytes) name ≡ Some bytes
named_alone name bytes =
    let same : bytes_eq name name ≡ true = (bytes_eq-Decides name name).1 refl in
    ap (λ b. option_map (λ (file : NamedBytes). file.bytes) (cond b (Some (record { name = name; bytes = bytes })) None)) same

-- a list can be longer than any limit
longer : (limit : ℕ) → (bytes : List ℕ) × (limit < length bytes)
longer limit =
    let bytes : List ℕ = replicate (limit + 1) 0 in
    let len : length bytes ≡ limit + 1 = length-replicate (limit + 1) 0 in
    (bytes, omega (arith, len))

there : (o : Option (List ℕ)) → true ≡ is_some o → o ≡ Some (unwrap_or o [])
there None h = absurd cc
there (Some x) h = refl

absent : (o : Option (List ℕ)) → false ≡ is_some o → o ≡ None
absent None h = refl
absent (Some x) h = absurd cc

-- ---- A file that is there

read_untold : (name : List ℕ) (limit : ℕ) (r : Result (List ℕ) TextStop) (left : Option (List ℕ)) → IfOk r (λ bytes. length bytes ≤ limit) → IfErr r (IsCut left limit) →
    SomeFiles None (λ files. Allows files name limit r)
read_untold name limit (Ok bytes) left within cut = (alone name bytes, tt, (named_alone name bytes, within))
read_untold name limit (Err TextStop.Missing) left within cut = absurd cut
read_untold name limit (Err TextStop.Long) left within cut =
    let long = longer limit in (alone name long.0, tt, record { bytes = long.0; there = named_alone name long.0; beyond = long.1 })
read_untold name limit (Err TextStop.Shelf) left within cut = ([], tt, tt)
read_untold name limit (Err TextStop.Memory) left within cut = ([], tt, tt)

read_told : (all : List NamedBytes) (name : List ℕ) (limit : ℕ) (r : Result (List ℕ) TextStop) (left : Option (List ℕ)) → Finds all name true left →
    IfOk r (λ bytes. length bytes ≤ limit) → IfOk r (λ bytes. IfSome left (λ l. bytes ≡ l)) → IfErr r (IsCut left limit) → Allows all name limit r
read_told all name limit (Ok bytes) left finds within whole cut =
    let same : bytes ≡ unwrap_or (file_named all name) [] = subst (λ o. IfSome o (λ l. bytes ≡ l)) finds.whole whole in
    (there (file_named all name) finds.exactly ∙ ap Some (sym same), within)
read_told all name limit (Err TextStop.Missing) left finds within whole cut = absurd cut
read_told all name limit (Err TextStop.Long) left finds within whole cut = record {
  bytes = unwrap_or (file_named all name) [];
  there = there (file_named all name) finds.exactly;
  beyond = subst (λ o. IfSome o (λ bytes. limit < length bytes)) finds.whole cut;
}
read_told all name limit (Err TextStop.Shelf) left finds within whole cut = tt
read_told all name limit (Err TextStop.Memory) left finds within whole cut = tt

pub text_read : (told : Option (List NamedBytes)) (name : List ℕ) (limit : ℕ) (r : Result (List ℕ) TextStop) (left : Option (List ℕ)) →
    IfSome told (λ all. Finds all name true left) → IfOk r (λ bytes. length bytes ≤ limit) → IfOk r (λ bytes. IfSome left (λ l. bytes ≡ l)) → IfErr r (IsCut left limit) →
    SomeFiles told (λ files. Allows files name limit r)
text_read None name limit r left finds within whole cut = read_untold name limit r left within cut
text_read (Some all) name limit r left finds within whole cut = (all, refl, read_told all name limit r left finds within whole cut)

-- ---- A file that isn't there

pub text_missing : (told : Option (List NamedBytes)) (name : List ℕ) (limit : ℕ) (left : Option (List ℕ)) → IfSome told (λ all. Finds all name false left) →
    SomeFiles told (λ files. Allows files name limit (Err TextStop.Missing))
text_missing None name limit left finds = ([], tt, refl)
text_missing (Some all) name limit left finds = (all, refl, absent (file_named all name) finds.exactly)
