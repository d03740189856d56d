-- What a check of a run answers.
use Rattle.std.specs.Prelude.{not, Option, find, option_map}
use Rattle.composition.specs.declared.run.Run.{Run}
use Rattle.composition.specs.Scenes.{Scene}
use Rattle.composition.specs.Claims.{Claim, claims}
use Rattle.run_check.specs.declared.wrong.Wrong.{Wrong}

-- a claim that fails, as the answer tells it
abbrev pub wrong_of : Claim → Wrong
wrong_of c = record { clause = c.clause; path = c.path; place = c.place }

-- the first claim that fails; none exactly when the run is an instance
abbrev pub first_wrong : Scene → Run → Option Wrong
first_wrong scene run = option_map wrong_of (find (λ (c : Claim). not c.holds) (claims scene run))
