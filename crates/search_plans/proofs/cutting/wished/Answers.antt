use Rattle.std.proofs.Common.{subst, sym, ap, ◌∙◌}
use Rattle.box_eval.specs.Box.{IsCutOf}
use Rattle.search_plans.specs.Wishes.{wished_by}
use Rattle.search_plans.proofs.Splits.{wished_cuts}
use Rattle.search_plans.proofs.cutting.wished.Goals as goal

pub returns-clause-cuts : goal.returns-clause-cuts
returns-clause-cuts g c =
    subst (IsCutOf (g.E.Ends.ends c.args.ends.now)) (sym (c.cut_by.ensures ∙ ap (wished_by c.args.wish.now (g.E.Ends.ends c.args.ends.now)) c.draw_at.ensures))
    (wished_cuts c.args.wish.now (g.E.Ends.ends c.args.ends.now) c.args.slot c.args.number c.requires.wide)
