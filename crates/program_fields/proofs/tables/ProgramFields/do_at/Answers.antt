use Rattle.std.proofs.Common.{◌∙◌, ap}
use Rattle.type_members.specs.Shared.{members_in_part}
use Rattle.program_fields.specs.SeenFields.{first_do_in, seen_do}
use Rattle.program_fields.specs.Tables.{all_fronts, members_at, rows_in}
use Rattle.program_fields.proofs.FrontFields.{do_split}
use Rattle.program_fields.proofs.Fronts.{all_left, none_here, one_here, own_at, own_left}
use Rattle.program_fields.proofs.SeenInside.{inside_none}
use Rattle.program_fields.proofs.tables.ProgramFields.do_at.Goals as goal

pub loop-part-init : goal.loop-part-init
loop-part-init c = all_left (rows_in c.args.self.now) c.args.span first_do_in (all_fronts c.args.self.now) c.front-part-items.result.now c.front-part-items.ensures

pub loop-part-preserved : goal.loop-part-preserved
loop-part-preserved c =
    none_here (rows_in c.args.self.now) c.args.span c.front-part-items.result.now c.loop-part.part-index (record { row = 0; from = 0; to = 0; inside = 0 }) c.loop-part-test.true first_do_in do_split
    (first_do_in (members_at c.args.self.now c.args.span)) c.in-None.ensures c.loop-part.invariant

pub returns-in-Some : goal.returns-in-Some
returns-in-Some c =
    one_here (rows_in c.args.self.now) c.args.span c.front-part-items.result.now c.loop-part.part-index (record { row = 0; from = 0; to = 0; inside = 0 }) c.loop-part-test.true first_do_in do_split
    (first_do_in (members_at c.args.self.now c.args.span)) (seen_do c.in-Some.found) c.in-Some.ensures c.loop-part.invariant

pub returns : goal.returns
returns c =
    c.part_do-2.ensures
    ∙ ap (λ p. first_do_in (members_in_part (rows_in c.args.self.now) p)) c.first_part.ensures
    ∙ ap first_do_in (inside_none (own_at (rows_in c.args.self.now) c.args.span))
    ∙ own_left (rows_in c.args.self.now) c.args.span c.front-part-items.result.now c.loop-part.part-index first_do_in (first_do_in (members_at c.args.self.now c.args.span)) c.loop-part-test.false c.loop-part.invariant
