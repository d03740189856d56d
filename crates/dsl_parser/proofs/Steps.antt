-- The steps of the parts whose readers read much: which of its rules is read.
use Rattle.std.proofs.Common.{◌≡◌, List}
use Rattle.dsl_cursor.specs.Words.{Token, Part, in_part, read}
use Rattle.dsl_cursor.proofs.ReadSteps.{read_step}

pub step_declaration : (ts : List Token) → read Part.Declaration ts ≡ in_part read Part.Declaration ts
step_declaration ts = read_step Part.Declaration ts

pub step_phase : (ts : List Token) → read Part.Phase ts ≡ in_part read Part.Phase ts
step_phase ts = read_step Part.Phase ts

pub step_phase_after_name : (ts : List Token) → read Part.PhaseAfterName ts ≡ in_part read Part.PhaseAfterName ts
step_phase_after_name ts = read_step Part.PhaseAfterName ts

pub step_labelled_phase : (ts : List Token) → read Part.LabelledPhase ts ≡ in_part read Part.LabelledPhase ts
step_labelled_phase ts = read_step Part.LabelledPhase ts

pub step_composition : (ts : List Token) → read Part.Composition ts ≡ in_part read Part.Composition ts
step_composition ts = read_step Part.Composition ts

pub step_wait : (ts : List Token) → read Part.Wait ts ≡ in_part read Part.Wait ts
step_wait ts = read_step Part.Wait ts

pub step_invocation_rest : (ts : List Token) → read Part.InvocationRest ts ≡ in_part read Part.InvocationRest ts
step_invocation_rest ts = read_step Part.InvocationRest ts

pub step_named_part : (ts : List Token) → read Part.NamedPart ts ≡ in_part read Part.NamedPart ts
step_named_part ts = read_step Part.NamedPart ts

pub step_file : (ts : List Token) → read Part.File ts ≡ in_part read Part.File ts
step_file ts = read_step Part.File ts
