use Rattle.std.proofs.Common.{sym, ap, Err}
use Rattle.record_text.proofs.Wanting.{whole_some, whole_none, ended_if, line_given, source_stops, refuses_none, too_long_at, too_long_first}
use Rattle.record_text.proofs.reader.Reader.expect.Goals as goal

pub returns-in_err-found-clause-stop : goal.returns-in_err-found-clause-stop
returns-in_err-found-clause-stop g c = source_stops c.from_residual.result c.in_err-found.field-0.0 _ c.args.self.now _ _ c.from_residual.ensures.1
    (λ e. too_long_first c.args.self.now _ _ _ _ (sym c.self.view_is) (c.in_err-found.ensures.too_long (ap Err e)))

pub returns-in-Some-clause-line : goal.returns-in-Some-clause-line
returns-in-Some-clause-line g c =
    line_given c.args.wanted _ _ c.args.self.now _ _ _ _ _ _ _ c.in_ok-found.ensures.finds (whole_some _ c.wanted_line.result c.in-Some.line _ (c.wanted_line.ensures _) c.in-Some.is) (sym c.self.view_is)

pub returns-in_err-read_on-clause-stop : goal.returns-in_err-read_on-clause-stop
returns-in_err-read_on-clause-stop g c = source_stops c.from_residual-in_err-read_on.result c.in_err-read_on.field-0.0 _ c.args.self.now _ _ c.from_residual-in_err-read_on.ensures.1
    (λ e. too_long_at _ c.args.self.now _ _ _ _ _ _ c.in_ok-found.ensures.finds.gives (sym c.self.view_is) (c.in_err-read_on.ensures.too_long (ap Err e)))

pub returns-clause-stop : goal.returns-clause-stop
returns-clause-stop g c =
    refuses_none c.args.wanted _ c.args.self.now _ _ _ _ _ _ _ _ c.bad_line.result c.in_ok-found.ensures.finds (whole_none _ c.wanted_line.result _ (c.wanted_line.ensures _) c.in_default.is) (sym c.self.view_is)
    c.in_ok-found.ensures.further.few c.in_ok-read_on.ensures.within c.in_ok-read_on.ensures.end c.bad_line.ensures

pub read_on-requires-clause-end : goal.read_on-requires-clause-end
read_on-requires-clause-end g c = ended_if _ c.is_nothing-ended.result _ _ c.in_ok-found.ensures.finds.at_end (c.is_nothing-ended.ensures _)
