-- What an error of a parse says of the fault that the match definition finds.
use Rattle.std.proofs.Common.{◌≡◌, ◌∙◌, ◌⊎◌, refl, sym, ap, inl, inr, [], ◌∷◌}
use Rattle.clap.specs.Kinds.{IsAmong, Kinds}
use Rattle.clap.specs.Walk.{Text}
use Rattle.clap.specs.declared.error.kind.ErrorKind.{ErrorKind}
use Rattle.clap.specs.declared.error.kind.ErrorKind.TheVariants as kind
use Rattle.command_words.specs.Words.{Help, Refused, Wanted, by_fault}
use Rattle.command_words.proofs.OneFault.{AtMostOne, only_kind}

one_refused : (k : ErrorKind) (help : Text) (taken : Wanted) → (k ≡ kind.DisplayHelp → ⊥) → by_fault (k ∷ []) help taken ≡ Refused
one_refused kind.DisplayHelp help taken other = absurd (other refl)
one_refused _ help taken other = refl

pub help_found : (k : ErrorKind) (kinds : Kinds) → AtMostOne kinds → (k ≡ kind.OutOfMemory) ⊎ IsAmong k kinds → k ≡ kind.DisplayHelp
    → (help : Text) (taken : Wanted) → by_fault kinds help taken ≡ Help help
help_found k kinds few (inl memory) is help taken =
    let never : kind.DisplayHelp ≡ kind.OutOfMemory = sym is ∙ memory in
    cc
help_found k kinds few (inr among) is help taken =
    ap (λ ks. by_fault ks help taken) (only_kind k kinds few among ∙ ap (λ x. x ∷ []) is)

pub refusal_found : (k : ErrorKind) (kinds : Kinds) → AtMostOne kinds → (k ≡ kind.OutOfMemory) ⊎ IsAmong k kinds
    → (k ≡ kind.OutOfMemory → ⊥) → (k ≡ kind.DisplayHelp → ⊥) → (help : Text) (taken : Wanted) → by_fault kinds help taken ≡ Refused
refusal_found k kinds few (inl memory) some other help taken = absurd (some memory)
refusal_found k kinds few (inr among) some other help taken =
    ap (λ ks. by_fault ks help taken) (only_kind k kinds few among) ∙ one_refused k help taken other
