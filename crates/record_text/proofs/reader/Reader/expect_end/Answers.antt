use Rattle.std.proofs.Common.{sym, ap, Err}
use Rattle.record_text.proofs.Wanting.{source_stops, refuses_more, too_long_at}
use Rattle.record_text.proofs.reader.Reader.expect_end.Goals as goal

pub returns-in_err-to_end-in-Some-clause-stop : goal.returns-in_err-to_end-in-Some-clause-stop
returns-in_err-to_end-in-Some-clause-stop g c = source_stops c.from_residual-in_err-to_end-in-Some.result c.in_err-to_end-in-Some.field-0.0 _ c.args.self.now _ _
    c.from_residual-in_err-to_end-in-Some.ensures.1
    (λ e. too_long_at _ c.args.self.now _ _ _ _ _ _ (c.in_ok-next.ensures.byte c.in-Some._byte (cc)) (sym c.self.view_is) (c.in_err-to_end-in-Some.ensures.too_long (ap Err e)))

pub returns-in_ok-to_end-in-Some-clause-stop : goal.returns-in_ok-to_end-in-Some-clause-stop
returns-in_ok-to_end-in-Some-clause-stop g c =
    refuses_more c.in-Some._byte c.args.self.now _ _ _ _ _ _ _ _ c.bad_line.result (c.in_ok-next.ensures.byte c.in-Some._byte (cc)) (sym c.self.view_is)
    c.in_ok-next.ensures.further.few c.in_ok-to_end-in-Some.ensures.within c.in_ok-to_end-in-Some.ensures.end c.bad_line.ensures
