use Rattle.std.proofs.Common.{◌∙◌, sym, Some, cond}
use Rattle.std.proofs.lemmas.Result.{on_ok_weaker}
use Rattle.osc_base.proofs.PathEquality.{path_eq}
use Rattle.run_entries.specs.RunPlaces.{place_at}
use Rattle.run_entries.proofs.Keys.{found_by, noted_again, noted_new}
use Rattle.run_entries.proofs.run_index.RunIndex.note.Goals as goal

pub returns-in-Some : goal.returns-in-Some
returns-in-Some c =
    on_ok_weaker c.put_back.result (noted_again (place_at c.args.self.now) (place_at (record { places = c.insert.new.self })) (place_at c.put_back.new.self) c.args.path.now c.args.place c.in-Some.first
    (sym c.in-Some.is ∙ c.in_ok-known.ensures.old ∙ found_by c.args.self.now.places c.args.path.now)
    (λ other. sym (found_by c.insert.new.self other) ∙ c.in_ok-known.ensures.updates.0 (record { ref_ptr = c.args.path.ref_ptr; now = other }) ∙ (λ k. cond (path_eq c.args.path.now other k) (Some c.args.place) (found_by c.args.self.now.places other k))))
    c.put_back.ensures

pub returns-in-None : goal.returns-in-None
returns-in-None c =
    noted_new (place_at c.args.self.now) (place_at (record { places = c.insert.new.self })) c.args.path.now c.args.place
    (sym c.in-None.is ∙ c.in_ok-known.ensures.old ∙ found_by c.args.self.now.places c.args.path.now)
    (λ other. sym (found_by c.insert.new.self other) ∙ c.in_ok-known.ensures.updates.0 (record { ref_ptr = c.args.path.ref_ptr; now = other }) ∙ (λ k. cond (path_eq c.args.path.now other k) (Some c.args.place) (found_by c.args.self.now.places other k)))
