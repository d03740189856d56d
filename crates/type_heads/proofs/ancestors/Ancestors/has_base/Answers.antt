use Rattle.std.proofs.Common.{◌∙◌, sym}
use Rattle.type_heads.proofs.LineClimbs.{based, baseless}
use Rattle.type_heads.proofs.ancestors.Ancestors.has_base.Goals as goal

pub returns-in-Some : goal.returns-in-Some
returns-in-Some c =
    c.eq.ensures ∙ sym (based c.args.heads.now c.args.self.now.entries.items c.requires c.args.base c.args.of c.in-Some.next c.reached.result (sym c.base_in.ensures ∙ c.in-Some.is) c.reached.ensures)

pub returns-in-None : goal.returns-in-None
returns-in-None c = sym (baseless c.args.heads.now c.args.base c.args.of (sym c.base_in.ensures ∙ c.in-None.is))
