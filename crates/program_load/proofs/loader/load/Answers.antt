use Rattle.std.proofs.Common.{◌∙◌, sym, ap, Some}
use Rattle.std.proofs.lemmas.Result.{err_from_is_err_and}
use Rattle.program_load.proofs.Invariant.{no_files, main_first, more, begun, stop_allowed}
use Rattle.program_load.proofs.loader.load.Goals as goal

pub returns-in_err-take_file-clause-answer : goal.returns-in_err-take_file-clause-answer
returns-in_err-take_file-clause-answer g c =
    let exit = err_from_is_err_and c.from_residual.result c.from_residual.ensures.1 in
    rw (exit.1, exit.2) (stop_allowed _ _ _ _ _ (no_files _ _ _ c.new-program.ensures) (main_first _ _ c.new-program.ensures) c.in_err-take_file.ensures.stops)

pub loop-program-init : goal.loop-program-init
loop-program-init g c = record {
  loads = more _ _ _ _ _ (no_files _ _ _ c.new-program.ensures) (main_first _ _ c.new-program.ensures) c.in_ok-take_file.ensures.takes;
  begun = begun _ _ _ _ _ c.in_ok-take_file.ensures.takes;
  steady = c.in_ok-take_file.ensures.counts;
  kept = c.in_ok-take_file.ensures.files_kept;
}

pub returns-in_err-take_file-2-clause-answer : goal.returns-in_err-take_file-2-clause-answer
returns-in_err-take_file-2-clause-answer g c =
    let i = c.loop-program.invariant in
    let next = i.begun ∙ sym c.in_ok-name.ensures.name ∙ c.in-Some.is ∙ ap Some (sym c.wanted.ensures) in
    let exit = err_from_is_err_and c.from_residual-in_err-take_file-2.result c.from_residual-in_err-take_file-2.ensures.1 in
    rw (exit.1, exit.2) (stop_allowed _ _ _ _ _ i.loads next (rw i.kept at c.in_err-take_file-2.ensures.stops))

pub loop-program-preserved-in_ok-take_file-2 : goal.loop-program-preserved-in_ok-take_file-2
loop-program-preserved-in_ok-take_file-2 g c =
    let i = c.loop-program.invariant in
    let next = i.begun ∙ sym c.in_ok-name.ensures.name ∙ c.in-Some.is ∙ ap Some (sym c.wanted.ensures) in
    record {
      loads = more _ _ _ _ _ i.loads next (rw i.kept at c.in_ok-take_file-2.ensures.takes);
      begun = begun _ _ _ _ _ c.in_ok-take_file-2.ensures.takes;
      steady = c.in_ok-take_file-2.ensures.counts ∙ i.steady;
      kept = c.in_ok-take_file-2.ensures.files_kept ∙ i.kept;
    }

pub loop-program-preserved : goal.loop-program-preserved
loop-program-preserved g c =
    let i = c.loop-program.invariant in
    let next = i.begun ∙ sym c.in_ok-name.ensures.name ∙ c.in-Some.is ∙ ap Some (sym c.wanted.ensures) in
    record {
      loads = more _ _ _ _ _ i.loads next (rw i.kept at c.in_ok-take_file-2.ensures.takes);
      begun = begun _ _ _ _ _ c.in_ok-take_file-2.ensures.takes;
      steady = c.in_ok-take_file-2.ensures.counts ∙ i.steady;
      kept = c.in_ok-take_file-2.ensures.files_kept ∙ i.kept;
    }
