use Rattle.type_heads.proofs.Gathering.{gathered}
use Rattle.type_heads.proofs.declarations.Declarations.of.Goals as goal

pub returns-clause-gathered : goal.returns-clause-gathered
returns-clause-gathered c =
    gathered _ c.as_slice-all.result.now c.as_slice-declared.result.now c.as_slice-all.ensures.value c.as_slice-declared.ensures.value
    c.in_ok-types.ensures c.in_ok-names.ensures.few c.in_ok-names.ensures.first
    c.in_ok-added.ensures.count c.in_ok-added.ensures.grouped
