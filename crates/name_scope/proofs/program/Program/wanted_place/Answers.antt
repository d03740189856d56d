use Rattle.std.proofs.Common.{◌≡◌, ◌∙◌, ap}
use Rattle.std.specs.Option.{is_some}
use Rattle.name_scope.specs.FileNumbers.{first_mention, mention_of, wanted_mention}
use Rattle.name_scope.specs.Wanted.{file_name}
use Rattle.name_scope.proofs.Mentions.{wanted_mentioned}
use Rattle.name_scope.proofs.program.Program.wanted_place.Goals as goal

pub returns-clause-wanted : goal.returns-clause-wanted
returns-clause-wanted c =
    let place : c.place_in.result ≡ wanted_mention c.args.self.now
    = c.place_in.ensures ∙ ap (first_mention (file_name c.in_ok-wanted.wanted)) (c.as_slice.ensures.value ∙ c.self.view_is) ∙ ap (λ o. mention_of o c.args.self.now) c.in_ok-wanted.ensures.name in
    ap is_some place ∙ wanted_mentioned c.args.self.now
