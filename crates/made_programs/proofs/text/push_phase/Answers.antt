use Rattle.std.proofs.Common.{ap, ◌∙◌, ◌++◌, List, ℕ, append_assoc}
use Rattle.std.proofs.lemmas.Result.{on_ok_weaker}
use Rattle.made_programs.specs.MadeText.{for_each, drive_lines}
use Rattle.made_programs.proofs.text.push_phase.Goals as goal

pub returns : goal.returns
returns c =
    let drives : List ℕ = for_each c.args.count (drive_lines c.args.phase) in
    on_ok_weaker c.push_drives.result (λ made. made ∙ ap (λ text. text ++ drives) c.in_ok-push_str.ensures.bytes ∙ append_assoc _ _ drives) c.push_drives.ensures
