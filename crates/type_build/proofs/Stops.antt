-- The fault of a stop.
use Rattle.std.proofs.Common.{◌≡◌, ◌∙◌, sym, ap, List, Result, Ok, Err, IfErr}
use Rattle.std.specs.Prelude.{IsErrAnd}
use Rattle.std.specs.Option.{option_or}
use Rattle.type_model.specs.osc_base.declared.fault.Fault.{Fault}
use Rattle.type_model.specs.osc_base.declared.stop.Stop.{Stop}
use Rattle.type_model.specs.osc_base.FaultRows.{first_fault}
use Rattle.type_model.specs.type_heads.Table.{TypeHead}
use Rattle.type_model.specs.type_heads.Types.{Program, TypeBody, Member}
use Rattle.type_model.specs.type_heads.DeclaredTypes.{Placed, placed, types_of}
use Rattle.type_model.specs.type_heads.MemberFaults.{member_fault_rows}
use Rattle.type_model.specs.Built.{HaveParts}
use Rattle.type_build.specs.Sound.{HeadingsAreSound, IsHeadingFault, IsMemberFault, IsFirstFault}

-- what is known of the fault is passed on with it
pub exit : {T : Type 0} (P Q : Fault → Type 0) (r : Result T (Stop Fault)) (e : Stop Fault) → ((f : Fault) → P f → Q f) → ((f : Fault) → e ≡ Stop.At f → P f) →
    IsErrAnd r (λ x. x ≡ e) → IfErr r (λ stop. (f : Fault) → stop ≡ Stop.At f → Q f)
exit P Q (Ok x) e to at same = tt
exit P Q (Err x) e to at same = λ f is. to f (at f (sym same ∙ is))

pub heading_first : (all : List Placed) (f : Fault) → IsHeadingFault all f → IsFirstFault all f
heading_first all f is = λ p same. ap (λ o. option_or o (first_fault (member_fault_rows (types_of p)))) (is p same)

pub member_first : (all : List Placed) (heads : List TypeHead) (bodies : List TypeBody) (lists : List (List Member)) →
    HeadingsAreSound all → ((p : Program) → all ≡ placed p → HaveParts heads bodies lists (types_of p)) → (f : Fault) → IsMemberFault heads bodies lists f → IsFirstFault all f
member_first all heads bodies lists sound parts f is =
    λ p same. ap (λ o. option_or o (first_fault (member_fault_rows (types_of p)))) (sound p same) ∙ is (types_of p) (parts p same)
