use Rattle.std.proofs.Common.{sym}
use Rattle.type_members.proofs.Ancestry.{end_more}
use Rattle.type_members.proofs.fronts.depth_of.Goals as goal

pub returns-in-Some-known_place : goal.returns-in-Some-known_place
returns-in-Some-known_place c = λ bodies are less.
    end_more c.args.heads.now c.in-Some.base c.args.of c.in-Some-known_place.at.depth (sym c.in-Some.ensures) (c.in-Some-known_place.ensures.place bodies are).end
