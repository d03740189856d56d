-- The end of the bytes.
use Rattle.std.proofs.Common.{◌≡◌, ℕ, ◌≤◌, List, [], ◌∷◌, length, refl, ◌∙◌, subst, arith}
use Rattle.std.specs.Prelude.{Result, Ok, Err, IfErr}
use Rattle.osc_base.specs.Stops.{OnStop}
use Rattle.dsl_tree.specs.declared.token.Token.{Token}
use Rattle.osc_base.specs.declared.fault.Fault.{Fault}
use Rattle.dsl_lexer.specs.declared.layout.Layout.{Layout}
use Rattle.osc_base.specs.declared.stop.Stop.{Stop}
use Rattle.osc_base.specs.declared.stop.Stop.TheVariants.{At, Memory}
use Rattle.dsl_lexer.specs.Pieces.{Cut}
use Rattle.dsl_lexer.specs.Steps.{all_tokens}
use Rattle.dsl_lexer.specs.Progress.{Valid, Reached}
use Rattle.dsl_lexer.specs.SourceTokens.{TokensCut, IsFirstFault, IsUncut}
use Rattle.dsl_lexer.proofs.Matching.{all_tokens-is}
use Rattle.dsl_lexer.proofs.Cutting.{cut_length}
use Rattle.dsl_lexer.proofs.LawProofs.{cut_or_fault}

end_go : (file : ℕ) (bytes : List ℕ) (valid : ℕ) (l : Layout) (found : List Token) (r : Reached file bytes valid l) → Valid bytes valid → (rest : List ℕ) → r.rest ≡ rest → length bytes ≤ l.spot.at → found ≡ all_tokens file l → TokensCut file bytes found
end_go file bytes valid l found r v (b ∷ more) e h same =
    let at = r.matches.spot.at in
    absurd (omega (arith, cut_length bytes r.before (b ∷ more) (subst (Cut bytes r.before) e r.cut)))
end_go file bytes valid l found r v [] e h same =
    let at = r.matches.spot.at in
    let w = v.within in let low = r.within in
    record {
      pieces = r.before;
      utf8 = v.utf8 (omega arith);
      cut = subst (Cut bytes r.before) e r.cut;
      sound = r.sound;
      tokens = same ∙ all_tokens-is file bytes r.before l l.spot.at [] r.matches;
    }

pub reached_end : (file : ℕ) (bytes : List ℕ) (valid : ℕ) (l : Layout) (found : List Token) → Reached file bytes valid l → Valid bytes valid → length bytes ≤ l.spot.at → found ≡ all_tokens file l → TokensCut file bytes found
reached_end file bytes valid l found r v h same = end_go file bytes valid l found r v r.rest refl h same

-- if there is a first fault, no list cuts the bytes
pub fault_uncut : (file : ℕ) (bytes : List ℕ) (fault : Fault) → IsFirstFault file bytes fault → IsUncut file bytes
fault_uncut file bytes fault first found cut = cut_or_fault file bytes found first.at fault.code first.count cut first.is_fault

pub stop_uncut : (file : ℕ) (bytes : List ℕ) (result : Result (Unit {0}) (Stop Fault)) → IfErr result (λ stop. OnStop stop (IsFirstFault file bytes)) → IfErr result (λ stop. OnStop stop (λ _. IsUncut file bytes))
stop_uncut file bytes (Ok done) h = tt
stop_uncut file bytes (Err Memory) h = tt
stop_uncut file bytes (Err (At fault)) h = fault_uncut file bytes fault h
