-- What the first word picks.
use Rattle.std.proofs.Common.{◌≡◌, ◌⊎◌, refl, true, false, Bool, inl, inr, List, [], ◌∷◌, codes}
use Rattle.std.specs.Str.{bytes_eq}
use Rattle.std.proofs.lemmas.Slice.Eq.{bytes_eq-Decides}
use Rattle.clap.specs.Walk.{Text}
use Rattle.command_words.specs.Taken.{form_of}
use Rattle.command_words.specs.Texts.{general_help, version_text}
use Rattle.command_words.specs.Words.{Help, Refused, explain_wanted, help_named, request, wanted}
use Rattle.command_words.specs.declared.commands.CommandName.{CommandName}
use Rattle.command_words.specs.declared.commands.CommandName.TheVariants as command

pub other_word : (a b : Text) → (a ≡ b → ⊥) → bytes_eq a b ≡ false
other_word a b differ = go (bytes_eq a b) refl
  where
    go : (t : Bool) → bytes_eq a b ≡ t → bytes_eq a b ≡ false
    go true e = absurd (differ ((bytes_eq-Decides a b).0 e))
    go false e = e

pub no_word : request [] ≡ Refused
unfolding request
no_word = refl

pub help_word : (first : Text) (rest : List Text) → first ≡ codes "help" → request (first ∷ rest) ≡ Help (help_named rest)
unfolding request
help_word first rest e = rw e refl

pub help_option : (first : Text) (rest : List Text) → (first ≡ codes "--help") ⊎ (first ≡ codes "-h") → request (first ∷ rest) ≡ Help general_help
unfolding request
help_option first rest (inl e) = rw e refl
help_option first rest (inr e) = rw e refl

pub version_word : (first : Text) (rest : List Text) → (first ≡ codes "--version") ⊎ (first ≡ codes "-V") → request (first ∷ rest) ≡ Help version_text
unfolding request
version_word first rest (inl e) = rw e refl
version_word first rest (inr e) = rw e refl

-- the word that picks a command
abbrev pub word_of : CommandName → Text
word_of command.Generate = codes "generate"
word_of command.Check = codes "check"
word_of command.Export = codes "export"
word_of command.Verify = codes "verify"
word_of command.Flat = codes "flat"
word_of command.Make = codes "make"
word_of command.Migrate = codes "migrate"

pub command_word : (name : CommandName) (first : Text) (rest : List Text) → first ≡ word_of name → request (first ∷ rest) ≡ wanted (form_of name) rest
unfolding request
command_word command.Generate first rest e = rw e refl
command_word command.Check first rest e = rw e refl
command_word command.Export first rest e = rw e refl
command_word command.Verify first rest e = rw e refl
command_word command.Flat first rest e = rw e refl
command_word command.Make first rest e = rw e refl
command_word command.Migrate first rest e = rw e refl

pub explain_word : (first : Text) (rest : List Text) → first ≡ codes "explain" → request (first ∷ rest) ≡ explain_wanted rest
unfolding request
explain_word first rest e = rw e refl

pub unknown_word : (first : Text) (rest : List Text) → (first ≡ codes "help" → ⊥) → (first ≡ codes "--help" → ⊥) → (first ≡ codes "-h" → ⊥)
    → (first ≡ codes "--version" → ⊥) → (first ≡ codes "-V" → ⊥) → (first ≡ codes "generate" → ⊥) → (first ≡ codes "check" → ⊥) → (first ≡ codes "export" → ⊥) → (first ≡ codes "verify" → ⊥)
    → (first ≡ codes "flat" → ⊥) → (first ≡ codes "make" → ⊥) → (first ≡ codes "migrate" → ⊥) → (first ≡ codes "explain" → ⊥) → request (first ∷ rest) ≡ Refused
unfolding request
unknown_word first rest a b c d e f g o h k l m n =
    rw (other_word _ _ a, other_word _ _ b, other_word _ _ c, other_word _ _ d, other_word _ _ e, other_word _ _ f, other_word _ _ g, other_word _ _ o, other_word _ _ h, other_word _ _ k, other_word _ _ l, other_word _ _ m, other_word _ _ n) refl
