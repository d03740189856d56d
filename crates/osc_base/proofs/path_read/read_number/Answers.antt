use Rattle.std.proofs.Common.{ap, ◌∙◌, subst, ◌∷◌, take, drop}
use Rattle.osc_base.specs.PathTexts.{is_digit, BeginsWith, BeginsWithNone, IsNoNumber}
use Rattle.osc_base.proofs.PathReading.{all_taken, gave_none, number_missing, bracket_missing}
use Rattle.osc_base.proofs.path_read.read_number.Goals as goal

pub as_number-requires : goal.as_number-requires
as_number-requires c = rw (c.split_at.ensures.front, c.digits_len.ensures.run) (all_taken is_digit c.args.text.now)

pub returns-in_err-number : goal.returns-in_err-number
returns-in_err-number c =
    let text = c.args.text.now in
    let front = c.split_at.ensures.front ∙ ap (λ n. take n text) c.digits_len.ensures.run in
    gave_none (λ x. BeginsWith c.args.of_member (91 ∷ text) x.step x.left.now) (BeginsWithNone c.args.of_member (91 ∷ text)) c.from_residual.result c.from_residual.ensures
    (number_missing c.args.of_member text (subst IsNoNumber front c.in_err-number.ensures))

pub returns-in_err-left : goal.returns-in_err-left
returns-in_err-left c =
    let text = c.args.text.now in
    let back = c.split_at.ensures.back ∙ ap (λ n. drop n text) c.digits_len.ensures.run in
    gave_none (λ x. BeginsWith c.args.of_member (91 ∷ text) x.step x.left.now) (BeginsWithNone c.args.of_member (91 ∷ text)) c.from_residual-in_err-left.result c.from_residual-in_err-left.ensures
    (bracket_missing c.args.of_member text (λ l e. c.in_err-left.ensures l (back ∙ e)))
