use Rattle.std.proofs.Common.{◌∷◌, false, subst}
use Rattle.std.specs.Prelude.{MatchOption}
use Rattle.osc_base.specs.PathTexts.{BeginsWith, BeginsWithNone}
use Rattle.osc_base.proofs.PathReading.{some_of, none_of, later_found, later_none, no_first}
use Rattle.osc_base.proofs.path.Path.read.Goals as goal

pub returns-in-Some-clause-found : goal.returns-in-Some-clause-found
returns-in-Some-clause-found c =
    let text = c.args.text.now in
    later_found c.read_later.result text c.in-Some.first.step c.in-Some.first.left.now
    (some_of (λ x. BeginsWith false (46 ∷ text) x.step x.left.now) (BeginsWithNone false (46 ∷ text)) c.in_ok-first.field-0 c.in-Some.first c.in-Some.is
    (subst (λ t. MatchOption c.in_ok-first.field-0 (BeginsWithNone false (46 ∷ t)) (λ x. BeginsWith false (46 ∷ t) x.step x.left.now)) c.as_bytes.ensures.value (c.in_ok-first.ensures false)))
    c.read_later.ensures.found

pub returns-in-Some-clause-none : goal.returns-in-Some-clause-none
returns-in-Some-clause-none c =
    let text = c.args.text.now in
    later_none c.read_later.result text c.in-Some.first.step c.in-Some.first.left.now
    (some_of (λ x. BeginsWith false (46 ∷ text) x.step x.left.now) (BeginsWithNone false (46 ∷ text)) c.in_ok-first.field-0 c.in-Some.first c.in-Some.is
    (subst (λ t. MatchOption c.in_ok-first.field-0 (BeginsWithNone false (46 ∷ t)) (λ x. BeginsWith false (46 ∷ t) x.step x.left.now)) c.as_bytes.ensures.value (c.in_ok-first.ensures false)))
    c.read_later.ensures.none

pub returns-in-None-clause-none : goal.returns-in-None-clause-none
returns-in-None-clause-none c _ path h =
    let text = c.args.text.now in
    no_first text path
    (none_of (λ x. BeginsWith false (46 ∷ text) x.step x.left.now) (BeginsWithNone false (46 ∷ text)) c.in_ok-first.field-0 c.in-None.is
    (subst (λ t. MatchOption c.in_ok-first.field-0 (BeginsWithNone false (46 ∷ t)) (λ x. BeginsWith false (46 ∷ t) x.step x.left.now)) c.as_bytes.ensures.value (c.in_ok-first.ensures false))) h
