-- Why a call has no answer.
use Rattle.osc_base.specs.declared.stop.Stop.{Stop}
use Rattle.osc_base.specs.declared.stop.Stop.TheVariants.{At, Memory}

-- P of the fault, when there is one
abbrev pub OnStop : {T : Type 0} → Stop T → (T → Type 0) → Type 0
OnStop Memory P = Unit {0}
OnStop (At fault) P = P fault
