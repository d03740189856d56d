use Rattle.std.proofs.Common.{subst, []}
use Rattle.run_texts.specs.RunShape.{Differs}
use Rattle.run_texts.specs.RunReading.{IsTold}
use Rattle.run_texts.proofs.Told.{told_here}
use Rattle.trace_texts.specs.TraceShape.{without}
use Rattle.trace_texts.proofs.read.without_extra.Goals as goal

pub returns-in-Some : goal.returns-in-Some
returns-in-Some c =
    subst (λ o. IsTold (without o c.args.traces) c.in_key.result) c.in-Some.ensures (c.in_key.ensures (Differs []) (told_here _ c.here.result c.here.ensures))
