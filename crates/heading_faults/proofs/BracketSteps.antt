-- Going through the base units in brackets.
use Rattle.std.proofs.Common.{◌≡◌, ◌∙◌, ap, ℕ, Bool, not, List, [], ◌∷◌, Option, ◌||◌, bytes_eq}
use Rattle.std.specs.List.{list_any}
use Rattle.type_members.specs.osc_base.declared.fault.Fault.{Fault}
use Rattle.type_members.specs.osc_base.declared.fault.FaultCode.{FaultCode}
use Rattle.type_members.specs.osc_base.FaultRows.{FaultRow, row, first_from}
use Rattle.type_members.specs.dsl_tree.declared.units.BasePart.{BasePart}
use Rattle.type_members.specs.type_heads.Units.{is_base_unit}
use Rattle.type_members.specs.type_heads.HeadingFaults.{bracket_rows}
use Rattle.fault_sets.specs.NameRows.{HasTexts}
use Rattle.fault_sets.proofs.RowSteps.{done, one_text_more}

-- what is left to find, when a set has the earlier names
pub record Left (goal : Option Fault) (set : List (List ℕ)) (found : Option Fault) (parts : List BasePart) : Type 0 where
  pub earlier : List (List ℕ)
  pub has : HasTexts set earlier
  pub rest : goal ≡ first_from found (bracket_rows earlier parts)

pub next : (goal : Option Fault) (set set' : List (List ℕ)) (found found' : Option Fault) (p : BasePart) (parts later : List BasePart) (is_met : Bool) →
    parts ≡ p ∷ later → is_met ≡ list_any (bytes_eq p.name.text) set →
    ((other : List ℕ) → list_any (bytes_eq other) set' ≡ (bytes_eq other p.name.text || list_any (bytes_eq other) set)) →
    found' ≡ first_from found (row p.name.place FaultCode.Twice is_met ∷ row p.name.place FaultCode.Unknown (not (is_base_unit p.name.text)) ∷ []) →
    Left goal set found parts → Left goal set' found' later
next goal set set' found found' p parts later is_met is met more now l = record {
  earlier = p.name.text ∷ l.earlier;
  has = one_text_more set set' l.earlier p.name.text l.has more;
  rest =
      let rows : Bool → List FaultRow = λ b. row p.name.place FaultCode.Twice b ∷ row p.name.place FaultCode.Unknown (not (is_base_unit p.name.text)) ∷ [] in
      done (rows (list_any (bytes_eq p.name.text) l.earlier)) (bracket_rows (p.name.text ∷ l.earlier) later) found found' goal
      (now ∙ ap (λ b. first_from found (rows b)) (met ∙ l.has p.name.text))
      (l.rest ∙ ap (λ ps. first_from found (bracket_rows l.earlier ps)) is);
}
