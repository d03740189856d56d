use Rattle.std.proofs.Common.{ap, sym, ◌∙◌, take, drop}
use Rattle.osc_base.specs.PathTexts.{is_name}
use Rattle.osc_base.proofs.PathReading.{name_begins, name_missing}
use Rattle.osc_base.proofs.path_read.read_name.Goals as goal

pub returns-in_ok-copy-in-Some : goal.returns-in_ok-copy-in-Some
returns-in_ok-copy-in-Some c m =
    let text = c.args.text.now in
    let front = c.split_at.ensures.front ∙ ap (λ n. take n text) c.name_len.ensures.run in
    let back = c.split_at.ensures.back ∙ ap (λ n. drop n text) c.name_len.ensures.run in
    let copied = c.in_ok-copy-in-Some.ensures ∙ c.in-Some.ensures.0 in
    rw (copied, back, front) (name_begins m text (ap is_name (sym front) ∙ c.in-Some.ensures.1))

pub returns-in-None : goal.returns-in-None
returns-in-None c m =
    let text = c.args.text.now in
    let front = c.split_at.ensures.front ∙ ap (λ n. take n text) c.name_len.ensures.run in
    name_missing m text (ap is_name (sym front) ∙ c.in-None.ensures)
