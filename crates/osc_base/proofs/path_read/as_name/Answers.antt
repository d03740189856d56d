use Rattle.std.proofs.Common.{sym}
use Rattle.std.specs.Str.{IsValidUpTo, valid_up_to}
use Rattle.osc_base.proofs.PathReading.{ok_name}
use Rattle.osc_base.proofs.path_read.as_name.Goals as goal

pub returns-then-is_name : goal.returns-then-is_name
returns-then-is_name c = rw c.ok.ensures.value (ok_name (λ s. s.now) (λ e. IsValidUpTo c.args.text.now (valid_up_to e)) c.args.text.now c.from_utf8.result (sym c.if-is_name.ensures) c.from_utf8.ensures.cases)
