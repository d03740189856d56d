-- The steps of the lexer one after another, as a function: what it gives for a source is what the source has.
use Rattle.std.proofs.Common.{◌≡◌, ℕ, suc, zero, Bool, true, false, List, [], ◌∷◌, length, drop, refl, subst, arith}
use Rattle.std.specs.Prelude.{nat_lt}
use Rattle.std.specs.List.{list_all}
use Rattle.std.specs.Str.{IsAscii}
use Rattle.std.proofs.lemmas.Bool.{and_parts, ltb-true, ltb-false}
use Rattle.std.proofs.lemmas.Str.{IsUtf8-from_ascii}
use Rattle.osc_base.specs.declared.fault.FaultCode.{FaultCode}
use Rattle.dsl_tree.specs.declared.token.Token.{Token}
use Rattle.dsl_lexer.specs.declared.spot.Spot.{Spot}
use Rattle.dsl_lexer.specs.declared.layout.Layout.{Layout}
use Rattle.dsl_lexer.specs.Steps.{place_of, at_start, all_tokens, Outcome, Goes, Stops, step_of}
use Rattle.dsl_lexer.specs.Progress.{Valid, Reached, Follows}
use Rattle.dsl_lexer.specs.SourceTokens.{TokensCut, IsFirstFault}
use Rattle.dsl_lexer.proofs.Matching.{start_matches}
use Rattle.dsl_lexer.proofs.Texts.{valid_all}
use Rattle.dsl_lexer.proofs.Taking.{law_at}
use Rattle.dsl_lexer.proofs.Ending.{reached_end}

pub data Ran : Type 0 where
  Ends : Layout → Ran
  StopsAt : Layout → Spot → (code : FaultCode) → Ran
  Tires : Ran

abbrev pub run : ℕ → ℕ → ℕ → List ℕ → Layout → Ran
run zero file valid bytes l = Tires
run (suc k) file valid bytes l = elim (nat_lt l.spot.at (length bytes)) [ true ↦ elim (step_of file valid l (drop l.spot.at bytes)) [ Goes next ↦ run k file valid bytes next | Stops s code ↦ StopsAt l s code ] | false ↦ Ends l ]

-- what a run says
abbrev pub Says : ℕ → List ℕ → Ran → Type 0
Says file bytes (Ends l) = TokensCut file bytes (all_tokens file l)
Says file bytes (StopsAt l s code) = IsFirstFault file bytes (record { place = place_of file s (length l.tokens); code = code })
Says file bytes Tires = Unit {0}

outcome_says : (file valid : ℕ) (bytes : List ℕ) (l : Layout) (k : ℕ) (o : Outcome) → Follows file bytes valid l o → ((next : Layout) → Reached file bytes valid next → Says file bytes (run k file valid bytes next))
    → Says file bytes (elim o [ Goes next ↦ run k file valid bytes next | Stops s code ↦ StopsAt l s code ])
outcome_says file valid bytes l k (Goes next) follows later = later next follows.0
outcome_says file valid bytes l k (Stops s code) follows later = follows.first (record { place = place_of file s (length l.tokens); code = code }) refl refl

more_says : (file valid : ℕ) (bytes : List ℕ) (l : Layout) (k : ℕ) (t : Bool) → nat_lt l.spot.at (length bytes) ≡ t → Reached file bytes valid l → Valid bytes valid
    → ((next : Layout) → Reached file bytes valid next → Says file bytes (run k file valid bytes next))
    → Says file bytes (elim t [ true ↦ elim (step_of file valid l (drop l.spot.at bytes)) [ Goes next ↦ run k file valid bytes next | Stops s code ↦ StopsAt l s code ] | false ↦ Ends l ])
more_says file valid bytes l k true e r v later = outcome_says file valid bytes l k (step_of file valid l (drop l.spot.at bytes)) (law_at file bytes valid l r v (ltb-true l.spot.at (length bytes) e)) later
more_says file valid bytes l k false e r v later = reached_end file bytes valid l (all_tokens file l) r v (ltb-false l.spot.at (length bytes) e) refl

run_says : (k file valid : ℕ) (bytes : List ℕ) (l : Layout) → Reached file bytes valid l → Valid bytes valid → Says file bytes (run k file valid bytes l)
run_says zero file valid bytes l r v = tt
run_says (suc k) file valid bytes l r v = more_says file valid bytes l k (nat_lt l.spot.at (length bytes)) refl r v (λ next reached. run_says k file valid bytes next reached v)

start : (file valid : ℕ) (bytes : List ℕ) → Reached file bytes valid at_start
start file valid bytes = record { before = []; rest = bytes; cut = refl; sound = tt; matches = start_matches file bytes; within = omega arith }

-- a run over bytes with a valid prefix of this length
pub ran : (file valid : ℕ) (bytes : List ℕ) (r : Ran) → Valid bytes valid → run (suc (length bytes)) file valid bytes at_start ≡ r → Says file bytes r
ran file valid bytes r v e = subst (Says file bytes) e (run_says (suc (length bytes)) file valid bytes at_start (start file valid bytes) v)

all_ascii : (bytes : List ℕ) → list_all (λ b. nat_lt b 128) bytes ≡ true → IsAscii bytes
all_ascii [] h i = omega arith
all_ascii (b ∷ more) h zero = ltb-true b 128 (and_parts (nat_lt b 128) (list_all (λ b. nat_lt b 128) more) h).0
all_ascii (b ∷ more) h (suc i) = all_ascii more (and_parts (nat_lt b 128) (list_all (λ b. nat_lt b 128) more) h).1 i

-- over ASCII
pub ran_ascii : (file : ℕ) (bytes : List ℕ) (r : Ran) → list_all (λ b. nat_lt b 128) bytes ≡ true → run (suc (length bytes)) file (length bytes) bytes at_start ≡ r → Says file bytes r
ran_ascii file bytes r h e = ran file (length bytes) bytes r (valid_all bytes (IsUtf8-from_ascii bytes (all_ascii bytes h))) e

abbrev pub tokens_ran : (file : ℕ) (l : Layout) → List Token
tokens_ran file l = all_tokens file l
