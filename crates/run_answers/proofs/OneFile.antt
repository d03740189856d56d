-- The replies to a file that is read as something: there is one for each text, and one at most.
use Rattle.std.proofs.Common.{◌≡◌, ◌∙◌, refl, sym, ap, subst, ℕ, ◌≤◌, ◌<◌, List, length, Option, Some, None, inl, inr, arith}
use Rattle.std.proofs.lemmas.Bool.Decides.{leb_tells}
use Rattle.outside_io.specs.declared.shelf.NamedBytes.{NamedBytes}
use Rattle.outside_io.specs.Files.{file_named}
use Rattle.command_replies.specs.Reply.{Answer}
use Rattle.command_replies.specs.Replies.{long_file, missing_file, text_refused}
use Rattle.run_answers.specs.TextFiles.{OnFile, no_file, too_long, bad_text, in_file}

-- ---- readings

-- a text is one T, or there is one reason why it is none
pub record IsOneReading {T : Type 0} (IsNo : List ℕ → List ℕ → Type 0) (Is : List ℕ → T → Type 0) : Type 0 where
  pub one_reason : (bytes what other : List ℕ) → IsNo bytes what → IsNo bytes other → what ≡ other
  pub one_thing : (bytes : List ℕ) (x y : T) → Is bytes x → Is bytes y → x ≡ y
  pub never_both : (bytes what : List ℕ) (x : T) → IsNo bytes what → Is bytes x → ⊥

-- a text is some T, or there is some reason why it is none: it can't be that there is neither
abbrev pub IsSomeReading : {T : Type 0} → (List ℕ → List ℕ → Type 0) → (List ℕ → T → Type 0) → Type 0
IsSomeReading {T} IsNo Is = (bytes : List ℕ) → ((what : List ℕ) → IsNo bytes what → ⊥) → ((x : T) → Is bytes x → ⊥) → ⊥

-- ---- options and lengths

some_is : {A : Type 0} (o : Option A) (x y : A) → o ≡ Some x → o ≡ Some y → x ≡ y
some_is o x y one two = let same : Some x ≡ Some y = sym one ∙ two in cc

none_some : {A : Type 0} (o : Option A) (x : A) → o ≡ None → o ≡ Some x → ⊥
none_some o x one two = let same : None ≡ Some x = sym one ∙ two in cc

not_both : (long bytes : List ℕ) (limit : ℕ) → long ≡ bytes → limit < length long → length bytes ≤ limit → ⊥
not_both long bytes limit same beyond within = let below : limit < length bytes = subst (λ b. limit < length b) same beyond in omega (arith, below, within)

module _ {T : Type 0} (limit : ℕ) (IsNo : List ℕ → List ℕ → Type 0) (Is : List ℕ → T → Type 0) where
  -- ---- what follows from what is said

  pub onward_file : (Says Other : T → Answer → Type 0) (texts : List NamedBytes) (file : List ℕ) (reply : Answer) → ((x : T) → Says x reply → Other x reply) →
      OnFile limit IsNo Is Says texts file reply → OnFile limit IsNo Is Other texts file reply
  onward_file Says Other texts file reply step (no_file is told) = no_file is told
  onward_file Says Other texts file reply step (too_long is told) = too_long is told
  onward_file Says Other texts file reply step (bad_text bytes what there within is told) = bad_text bytes what there within is told
  onward_file Says Other texts file reply step (in_file bytes x there within is said) = in_file bytes x there within is (step x said)

  module _ (Says : T → Answer → Type 0) (texts : List NamedBytes) (file : List ℕ) where
    abbrev Replied : Answer → Type 0
    Replied = OnFile limit IsNo Is Says texts file

    -- ---- one reply

    module _ (reads : IsOneReading IsNo Is) (one : (x : T) (reply other : Answer) → Says x reply → Says x other → reply ≡ other) (reply other : Answer) where
      same_text : (bytes bytes' : List ℕ) → file_named texts file ≡ Some bytes → file_named texts file ≡ Some bytes' → bytes' ≡ bytes
      same_text bytes bytes' is is' = some_is (file_named texts file) bytes' bytes is' is

      never_long : (long bytes : List ℕ) → file_named texts file ≡ Some long → limit < length long → file_named texts file ≡ Some bytes → length bytes ≤ limit → ⊥
      never_long long bytes there beyond is within = not_both long bytes limit (some_is (file_named texts file) long bytes there is) beyond within

      pub one_file : Replied reply → Replied other → reply ≡ other
      one_file (no_file is told) (no_file is' told') = told ∙ sym told'
      one_file (no_file is told) (too_long is' told') = absurd (none_some (file_named texts file) is'.bytes is is'.there)
      one_file (no_file is told) (bad_text bytes' what' there' within' is' told') = absurd (none_some (file_named texts file) bytes' is there')
      one_file (no_file is told) (in_file bytes' x' there' within' is' said') = absurd (none_some (file_named texts file) bytes' is there')
      one_file (too_long is told) (no_file is' told') = absurd (none_some (file_named texts file) is.bytes is' is.there)
      one_file (too_long is told) (too_long is' told') = told ∙ sym told'
      one_file (too_long is told) (bad_text bytes' what' there' within' is' told') = absurd (never_long is.bytes bytes' is.there is.beyond there' within')
      one_file (too_long is told) (in_file bytes' x' there' within' is' said') = absurd (never_long is.bytes bytes' is.there is.beyond there' within')
      one_file (bad_text bytes what there within is told) (no_file is' told') = absurd (none_some (file_named texts file) bytes is' there)
      one_file (bad_text bytes what there within is told) (too_long is' told') = absurd (never_long is'.bytes bytes is'.there is'.beyond there within)
      one_file (bad_text bytes what there within is told) (bad_text bytes' what' there' within' is' told') =
          let again : IsNo bytes what' = subst (λ b. IsNo b what') (same_text bytes bytes' there there') is' in
          told ∙ ap text_refused (reads.one_reason bytes what what' is again) ∙ sym told'
      one_file (bad_text bytes what there within is told) (in_file bytes' x' there' within' is' said') =
          absurd (reads.never_both bytes what x' is (subst (λ b. Is b x') (same_text bytes bytes' there there') is'))
      one_file (in_file bytes x there within is said) (no_file is' told') = absurd (none_some (file_named texts file) bytes is' there)
      one_file (in_file bytes x there within is said) (too_long is' told') = absurd (never_long is'.bytes bytes is'.there is'.beyond there within)
      one_file (in_file bytes x there within is said) (bad_text bytes' what' there' within' is' told') =
          absurd (reads.never_both bytes what' x (subst (λ b. IsNo b what') (same_text bytes bytes' there there') is') is)
      one_file (in_file bytes x there within is said) (in_file bytes' x' there' within' is' said') =
          let again : Is bytes x' = subst (λ b. Is b x') (same_text bytes bytes' there there') is' in
          one x reply other said (subst (λ y. Says y other) (sym (reads.one_thing bytes x x' is again)) said')

    -- ---- some reply

    module _ (reads : IsSomeReading IsNo Is) (some : (x : T) → ((reply : Answer) → Says x reply → ⊥) → ⊥) (none : (reply : Answer) → OnFile limit IsNo Is Says texts file reply → ⊥) where
      in_text : (bytes : List ℕ) → file_named texts file ≡ Some bytes → length bytes ≤ limit → ⊥
      in_text bytes there within =
          reads bytes (λ what is. none (text_refused what) (bad_text bytes what there within is refl)) (λ x is. some x (λ reply said. none reply (in_file bytes x there within is said)))

      of_file : (bytes : List ℕ) → file_named texts file ≡ Some bytes → ⊥
      of_file bytes there =
          elim (leb_tells (length bytes) limit) [
            | inl within ↦ in_text bytes there within.1
            | inr beyond ↦ none (long_file file) (too_long (record { bytes = bytes; there = there; beyond = beyond.1 }) refl)
          ]

      by_file : (found : Option (List ℕ)) → file_named texts file ≡ found → ⊥
      by_file (Some bytes) is = of_file bytes is
      by_file None is = none (missing_file file) (no_file is refl)

      pub some_file : ⊥
      some_file = by_file (file_named texts file) refl
