-- Each source has tokens or a first fault.
use Rattle.std.proofs.Common.{◌≡◌, ◌⊎◌, inl, inr, ℕ, zero, suc, ◌+◌, ◌<◌, ◌≤◌, Bool, true, false, List, ◌∷◌, length, take, drop, refl, [], ap, sym, ◌∙◌, subst, arith}
use Rattle.std.specs.Str.{IsUtf8, is_utf8}
use Rattle.std.proofs.lemmas.Bool.{cases_order, cases_lt, false≢true}
use Rattle.std.proofs.Math.Seq.{take-length}
use Rattle.std.proofs.lemmas.Str.{IsUtf8-from_is_utf8, is_utf8-from_IsUtf8, IsUtf8-nil}
use Rattle.osc_base.specs.declared.fault.Fault.{Fault}
use Rattle.dsl_tree.specs.declared.token.Token.{Token}
use Rattle.dsl_lexer.specs.declared.layout.Layout.{Layout}
use Rattle.dsl_lexer.specs.Steps.{place_of, at_start, all_tokens, Outcome, Goes, Stops, step_of}
use Rattle.dsl_lexer.specs.Progress.{Valid, Reached, Follows}
use Rattle.dsl_lexer.specs.SourceTokens.{TokensCut, IsFirstFault}
use Rattle.dsl_lexer.specs.Laws.{CutOrFirstFault}
use Rattle.dsl_lexer.proofs.Matching.{start_matches}
use Rattle.dsl_lexer.proofs.Texts.{valid_all, valid_part}
use Rattle.dsl_lexer.proofs.Taking.{law_at, reached_within}
use Rattle.dsl_lexer.proofs.Ending.{reached_end}

-- The longest prefix that is UTF-8

abbrev NoneLonger : List ℕ → ℕ → Type 0
NoneLonger bytes n = (k : ℕ) → n < k → k ≤ length bytes → IsUtf8 (take k bytes) → ⊥

take_past : (n : ℕ) (xs : List ℕ) → length xs ≤ n → take n xs ≡ xs
take_past zero [] h = refl
take_past zero (x ∷ xs) h = absurd (omega arith)
take_past (suc n) [] h = refl
take_past (suc n) (x ∷ xs) h = ap (λ t. x ∷ t) (take_past n xs (omega arith))

longest : (bytes : List ℕ) (n : ℕ) → n < length bytes → NoneLonger bytes n → (k : ℕ) → n < k → IsUtf8 (take k bytes) → ⊥
longest bytes n short longer k lt utf8 = elim (cases_lt (length bytes) k) [
  | inl past ↦ longer (length bytes) short (omega arith) (subst IsUtf8 (take_past k bytes (omega arith) ∙ sym (take-length bytes)) utf8)
  | inr within ↦ longer k lt (omega arith) utf8
]

valid_at : (bytes : List ℕ) (n : ℕ) → n ≤ length bytes → IsUtf8 (take n bytes) → NoneLonger bytes n → (valid : ℕ) × Valid bytes valid
valid_at bytes n within front longer = elim (cases_lt n (length bytes)) [
  | inl short ↦ (n, valid_part bytes n (record { short = short; front = front; longest = longest bytes n short longer }))
  | inr whole ↦ (length bytes, valid_all bytes (subst IsUtf8 (take_past n bytes (omega arith)) front))
]

none_at : (bytes : List ℕ) (m : ℕ) → (IsUtf8 (take (suc m) bytes) → ⊥) → NoneLonger bytes (suc m) → NoneLonger bytes m
none_at bytes m not_here longer k lt within utf8 = elim (cases_order k (suc m)) [
  | inl same ↦ not_here (subst (λ n. IsUtf8 (take n bytes)) same utf8)
  | inr (inl less) ↦ absurd (omega arith)
  | inr (inr more) ↦ longer k more within utf8
]

-- going down from m
some_front : (bytes : List ℕ) (m : ℕ) → m ≤ length bytes → NoneLonger bytes m → (valid : ℕ) × Valid bytes valid
some_front bytes zero within longer = valid_at bytes zero within IsUtf8-nil longer
some_front bytes (suc m) within longer = go (is_utf8 (take (suc m) bytes)) refl (some_front bytes m (omega arith))
  where
    go : (b : Bool) → is_utf8 (take (suc m) bytes) ≡ b → (NoneLonger bytes m → (valid : ℕ) × Valid bytes valid) → (valid : ℕ) × Valid bytes valid
    go true e below = valid_at bytes (suc m) within (IsUtf8-from_is_utf8 (take (suc m) bytes) e) longer
    go false e below = below (none_at bytes m (λ utf8. false≢true (sym e ∙ is_utf8-from_IsUtf8 (take (suc m) bytes) utf8)) longer)

some_valid : (bytes : List ℕ) → (valid : ℕ) × Valid bytes valid
some_valid bytes = some_front bytes (length bytes) (omega arith) (λ k lt within utf8. absurd (omega arith))

-- The steps one after another

abbrev Found : ℕ → List ℕ → Type 0
Found file bytes = ((found : List Token) × TokensCut file bytes found) ⊎ ((fault : Fault) × IsFirstFault file bytes fault)

from_here : (file valid : ℕ) (bytes : List ℕ) (k : ℕ) (l : Layout) → length bytes < l.spot.at + k → Reached file bytes valid l → Valid bytes valid → Found file bytes
from_here file valid bytes zero l few r v = absurd (omega (arith, reached_within file bytes valid l r))
from_here file valid bytes (suc k) l few r v = elim (cases_lt l.spot.at (length bytes)) [
  | inl more ↦ go (λ next near reached. from_here file valid bytes k next near reached v) (step_of file valid l (drop l.spot.at bytes)) (law_at file bytes valid l r v more)
  | inr done ↦ inl (all_tokens file l, reached_end file bytes valid l (all_tokens file l) r v (omega arith) refl)
]
  where
    go : ((next : Layout) → length bytes < next.spot.at + k → Reached file bytes valid next → Found file bytes) → (o : Outcome) → Follows file bytes valid l o → Found file bytes
    go later (Goes next) (reached, lt) = later next (omega arith) reached
    go later (Stops s code) stop = inr (record { place = place_of file s (length l.tokens); code = code }, stop.first (record { place = place_of file s (length l.tokens); code = code }) refl refl)

-- tokens, or a first fault
tokens_or_fault : (file : ℕ) (bytes : List ℕ) → Found file bytes
tokens_or_fault file bytes =
    let valid = some_valid bytes in
    from_here file valid.0 bytes (suc (length bytes)) at_start (omega arith)
    (record { before = []; rest = bytes; cut = refl; sound = tt; matches = start_matches file bytes; within = omega arith }) valid.1

pub cut_or_first_fault : CutOrFirstFault
cut_or_first_fault file bytes = tokens_or_fault file bytes
