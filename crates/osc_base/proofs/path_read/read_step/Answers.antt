use Rattle.std.proofs.Common.{◌≡◌, ◌∷◌, ◌-◌, take, drop, length, subst, rules}
use Rattle.std.specs.Prelude.{IfOk, MatchOption}
use Rattle.osc_base.specs.PathTexts.{BeginsWith, BeginsWithNone}
use Rattle.osc_base.proofs.PathReading.{for_member, front_text}
use Rattle.osc_base.proofs.path_read.read_step.Goals as goal

pub returns-in-46 : goal.returns-in-46
returns-in-46 c =
    let text = c.args.text.now in
    let e : 46 ∷ take (length text - 1) (drop 1 text) ≡ text = front_text text 46 (search rules) (search rules) in
    subst (λ t. IfOk c.read_name.result (λ o. MatchOption o (BeginsWithNone c.args.of_member t) (λ x. BeginsWith c.args.of_member t x.step x.left.now))) e
    (for_member (λ k o. MatchOption o (BeginsWithNone k (46 ∷ take (length text - 1) (drop 1 text))) (λ x. BeginsWith k (46 ∷ take (length text - 1) (drop 1 text)) x.step x.left.now)) c.args.of_member c.read_name.result c.read_name.ensures)
