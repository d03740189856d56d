-- Going through declarations for names that are declared twice.
use Rattle.std.proofs.Common.{◌≡◌, ◌∙◌, sym, ap, Bool, List, ◌∷◌, Option, Some, None, ◌||◌, filter_map}
use Rattle.std.specs.List.{list_any, cons_option}
use Rattle.type_members.specs.osc_base.declared.fault.Fault.{Fault}
use Rattle.type_members.specs.osc_base.declared.fault.FaultCode.{FaultCode}
use Rattle.type_members.specs.osc_base.FaultRows.{row, row_fault, first_of, first_from}
use Rattle.type_members.specs.dsl_tree.FileTree.{DeclarationTree}
use Rattle.type_members.specs.name_scope.Declaring.{DeclaredName}
use Rattle.type_members.specs.type_heads.HeadingFaults.{name_declared, shares_name, twice_rows}
use Rattle.heading_faults.specs.SeenNames.{shares_key, HasNames}
use Rattle.heading_faults.specs.declared.names.NameKey.{NameKey}

-- what is left to find, when a set has the earlier names
abbrev pub Continues : Option Fault → List NameKey → Option Fault → List NameKey → DeclarationTree → Type 0
Continues first old found new d =
    (earlier : List DeclaredName) (later : List DeclarationTree) → HasNames old earlier →
    (now : List DeclaredName) × HasNames new now × (first_from first (twice_rows earlier (filter_map name_declared (d ∷ later))) ≡ first_from found (twice_rows now (filter_map name_declared later)))

pub unnamed : (first : Option Fault) (keys : List NameKey) (d : DeclarationTree) → None ≡ name_declared d → Continues first keys first keys d
unnamed first keys d is = λ earlier later has. (earlier, has, ap (λ o. first_from first (twice_rows earlier (cons_option o (filter_map name_declared later)))) (sym is))

pub named : (first found : Option Fault) (old new : List NameKey) (d : DeclarationTree) (n : DeclaredName) (is_met : Bool) → Some n ≡ name_declared d →
    is_met ≡ list_any (shares_key n) old → ((other : DeclaredName) → list_any (shares_key other) new ≡ (shares_name other n || list_any (shares_key other) old)) →
    found ≡ first_of first (row_fault (row n.place FaultCode.Twice is_met)) → Continues first old found new d
named first found old new d n is_met is met more now = λ earlier later has. (
  n ∷ earlier,
  (λ other. more other ∙ ap (λ b. shares_name other n || b) (has other)),
  ap (λ o. first_from first (twice_rows earlier (cons_option o (filter_map name_declared later)))) (sym is)
      ∙ ap (λ f. first_from f (twice_rows (n ∷ earlier) (filter_map name_declared later)))
      (ap (λ b. first_of first (row_fault (row n.place FaultCode.Twice b))) (sym (met ∙ has n)) ∙ sym now),
)

-- what is left to find of declarations
pub record NamesLeft (goal : Option Fault) (keys : List NameKey) (found : Option Fault) (left : List DeclarationTree) : Type 0 where
  pub earlier : List DeclaredName
  pub has : HasNames keys earlier
  pub rest : goal ≡ first_from found (twice_rows earlier (filter_map name_declared left))

pub next_name : (goal : Option Fault) (keys keys' : List NameKey) (found found' : Option Fault) (d : DeclarationTree) (left later : List DeclarationTree) → left ≡ d ∷ later →
    Continues found keys found' keys' d → NamesLeft goal keys found left → NamesLeft goal keys' found' later
next_name goal keys keys' found found' d left later is now l =
    let more = now l.earlier later l.has in
    record { earlier = more.0; has = more.1; rest = l.rest ∙ ap (λ ds. first_from found (twice_rows l.earlier (filter_map name_declared ds))) is ∙ more.2 }
