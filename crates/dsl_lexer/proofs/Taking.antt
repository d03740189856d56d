-- The lexer can take the piece at the start of what is left.
use Rattle.std.proofs.Common.{◌≡◌, ℕ, ◌+◌, ◌<◌, ◌≤◌, List, [], ◌∷◌, ◌++◌, length, take, drop, refl, ap, sym, ◌∙◌, subst, arith}
use Rattle.std.specs.Str.{IsUtf8}
use Rattle.std.proofs.lemmas.List.{length-append, take_at, length-drop}
use Rattle.osc_base.specs.Stops.{OnStop}
use Rattle.dsl_lexer.specs.declared.layout.Layout.{Layout}
use Rattle.dsl_lexer.specs.Shapes.{IsShape}
use Rattle.dsl_lexer.specs.Kinds.{string_chars}
use Rattle.dsl_lexer.specs.Scan.{first_shape}
use Rattle.dsl_lexer.specs.Pieces.{reach, Cut}
use Rattle.dsl_lexer.specs.Layout.{tokens}
use Rattle.dsl_lexer.specs.Room.{HasRoom}
use Rattle.dsl_lexer.specs.Steps.{step_of}
use Rattle.dsl_lexer.specs.SourceTokens.{IsFirstFault}
use Rattle.osc_base.specs.declared.fault.Fault.{Fault}
use Rattle.osc_base.specs.declared.stop.Stop.{Stop}
use Rattle.osc_base.specs.declared.stop.Stop.TheVariants.{At, Memory}
use Rattle.std.specs.Prelude.{Result, Ok, Err, OnOk, IfErr}
use Rattle.dsl_lexer.proofs.StepLaw.{step_law}
use Rattle.dsl_lexer.specs.Progress.{Valid, Reached, IsStop, Follows, Gives, CanTakeFront}
use Rattle.dsl_lexer.proofs.Fronts.{next_found}
use Rattle.dsl_lexer.proofs.Bounds.{bounded, line_le, column_le}
use Rattle.dsl_lexer.proofs.Matching.{length-placed}
use Rattle.dsl_lexer.proofs.Cutting.{cut_rest, cut_length, some_text}
use Rattle.dsl_lexer.proofs.Texts.{string_utf8}

pub has_room : (file : ℕ) (bytes : List ℕ) (valid : ℕ) (l : Layout) (n : ℕ) → Reached file bytes valid l → l.spot.at + n ≤ length bytes → length bytes ≤ 1048576 → HasRoom l n
has_room file bytes valid l n r fits small =
    let m = r.matches in
    let at = m.spot.at in let line = m.spot.line in let column = m.spot.column in
    let spaces = m.spaces in let brackets = m.brackets in
    let b = bounded bytes r.before r.rest r.cut in
    let w = b.width in let k = b.brackets in let t = b.tokens in
    let x = line_le bytes (reach r.before) in let y = column_le bytes (reach r.before) in
    record {
      bytes = omega arith;
      line = omega arith;
      column = omega arith;
      spaces = omega arith;
      brackets = omega arith;
      tokens = omega (arith, ap length m.tokens, length-placed file bytes 0 (tokens r.before), ap length m.widths);
    }

can_front : (file : ℕ) (bytes : List ℕ) (valid : ℕ) (l : Layout) (rest : List ℕ) (r : Reached file bytes valid l) → Valid bytes valid → length bytes ≤ 1048576 → r.rest ≡ rest → 0 < length rest → CanTakeFront l valid rest
can_front file bytes valid l [] r v small e more = absurd (omega arith)
can_front file bytes valid l (b ∷ more) r v small e some = λ n found.
    let x = next_found b more n found in
    let cut : Cut bytes r.before (x.text ++ x.behind) = subst (Cut bytes r.before) (e ∙ x.split) r.cut in
    let size = x.size in
    let at = r.matches.spot.at in
    let one = some_text (first_shape b) x.text x.shape in
    let whole = cut_length bytes r.before (x.text ++ x.behind) cut in
    let parts = length-append x.text x.behind in
    let taken : take n (b ∷ more) ≡ x.text = ap (take n) x.split ∙ take_at x.text x.behind n x.size in
    let inside : length (b ∷ more) ≡ length (x.text ++ x.behind) = ap length x.split in
    record {
      room = has_room file bytes valid l n r (omega arith) small;
      some = omega arith;
      within = omega arith;
      is_shape = subst (IsShape (first_shape b)) (sym taken) x.shape;
      utf8 = λ string fits. subst (λ t. IsUtf8 (string_chars t)) (sym taken) (string_utf8 bytes r.before x.text x.behind valid cut v (omega arith) (subst (λ s. IsShape s x.text) string x.shape));
    }

pub can_take : (file : ℕ) (bytes : List ℕ) (valid : ℕ) (l : Layout) → Reached file bytes valid l → Valid bytes valid → length bytes ≤ 1048576 → l.spot.at < length bytes → CanTakeFront l valid (drop l.spot.at bytes)
can_take file bytes valid l r v small more =
    let here : r.rest ≡ drop l.spot.at bytes = sym (cut_rest bytes r.before r.rest r.cut) ∙ ap (λ n. drop n bytes) (sym r.matches.spot.at) in
    can_front file bytes valid l (drop l.spot.at bytes) r v small here (omega (arith, length-drop l.spot.at bytes))

-- what a step of the code gave, by the law

law_go : (file : ℕ) (bytes : List ℕ) (valid : ℕ) (l : Layout) (r : Reached file bytes valid l) → Valid bytes valid → (rest : List ℕ) → r.rest ≡ rest → 0 < length rest → Follows file bytes valid l (step_of file valid l rest)
law_go file bytes valid l r v [] e more = absurd (omega arith)
law_go file bytes valid l r v (b ∷ more) e some = step_law file bytes valid l v r.before b more (subst (Cut bytes r.before) e r.cut) r.sound r.matches r.within

pub law_at : (file : ℕ) (bytes : List ℕ) (valid : ℕ) (l : Layout) → Reached file bytes valid l → Valid bytes valid → l.spot.at < length bytes → Follows file bytes valid l (step_of file valid l (drop l.spot.at bytes))
law_at file bytes valid l r v more =
    let here : r.rest ≡ drop l.spot.at bytes = sym (cut_rest bytes r.before r.rest r.cut) ∙ ap (λ n. drop n bytes) (sym r.matches.spot.at) in
    law_go file bytes valid l r v (drop l.spot.at bytes) here (omega (arith, length-drop l.spot.at bytes))

pub step_goes : (file : ℕ) (bytes : List ℕ) (valid : ℕ) (l next : Layout) (result : Result (Unit {0}) (Stop Fault)) → Reached file bytes valid l → Valid bytes valid → l.spot.at < length bytes
    → Gives file l (step_of file valid l (drop l.spot.at bytes)) result next → OnOk result (Reached file bytes valid next × (l.spot.at < next.spot.at))
step_goes file bytes valid l next (Ok done) r v more gives = subst (Follows file bytes valid l) gives (law_at file bytes valid l r v more)
step_goes file bytes valid l next (Err stop) r v more gives = tt

pub step_stops : (file : ℕ) (bytes : List ℕ) (valid : ℕ) (l next : Layout) (result : Result (Unit {0}) (Stop Fault)) → Reached file bytes valid l → Valid bytes valid → l.spot.at < length bytes
    → Gives file l (step_of file valid l (drop l.spot.at bytes)) result next → IfErr result (λ stop. OnStop stop (IsFirstFault file bytes))
step_stops file bytes valid l next (Ok done) r v more gives = tt
step_stops file bytes valid l next (Err Memory) r v more gives = tt
step_stops file bytes valid l next (Err (At fault)) r v more (s, e, place) =
    let stop : IsStop file bytes l s fault.code = subst (Follows file bytes valid l) e (law_at file bytes valid l r v more) in
    stop.first fault place refl

pub reached_within : (file : ℕ) (bytes : List ℕ) (valid : ℕ) (l : Layout) → Reached file bytes valid l → l.spot.at ≤ length bytes
reached_within file bytes valid l r = let at = r.matches.spot.at in omega (arith, cut_length bytes r.before r.rest r.cut)
