-- The first static fault of a program. Each group of faults is judged only if the ones before it have none.
use Rattle.std.specs.Prelude.{ℕ, List, Option}
use Rattle.std.specs.Option.{option_or}
use Rattle.expr_nodes.specs.osc_base.declared.fault.Place.{Place}
use Rattle.expr_nodes.specs.osc_base.declared.fault.Fault.{Fault}
use Rattle.expr_nodes.specs.osc_base.FaultRows.{first_fault}
use Rattle.cond_inherit.specs.type_heads.Types.{Program, Types}
use Rattle.cond_inherit.specs.type_heads.HeadingFaults.{heading_rows}
use Rattle.cond_inherit.specs.type_heads.MemberFaults.{member_fault_rows}
use Rattle.composition.specs.declared.setting.Setting.{Setting}
use Rattle.composition.specs.Uses.{use_rows}
use Rattle.composition.specs.SceneFaults.{scene_rows}

-- of its headings, else of its members, else of its uses
abbrev pub declaration_fault : Program → Types → Option Fault
declaration_fault p ts =
    let in_uses = first_fault (use_rows ts) in
    let in_members = option_or (first_fault (member_fault_rows ts)) in_uses in
    option_or (first_fault (heading_rows p ts)) in_members

-- of these, else of the scenario that is named; `end` is the place after the main file
abbrev pub static_fault : Program → Types → Place → Option (List ℕ) → List ℕ → Setting → Option Fault
static_fault p ts end owner name setting =
    let in_scene = first_fault (scene_rows ts end owner name setting) in
    option_or (declaration_fault p ts) in_scene
