use Rattle.std.proofs.Common.{◌∙◌, sym, ap, Some, cond}
use Rattle.std.specs.Option.{is_some}
use Rattle.osc_base.proofs.PathEquality.{path_eq}
use Rattle.path_index.specs.Places.{place_at}
use Rattle.path_index.proofs.Keys.{found_by, present, placed}
use Rattle.path_index.proofs.index.PathIndex.note.Goals as goal

pub returns-then-contains_key : goal.returns-then-contains_key
returns-then-contains_key c = present (place_at c.args.self.now) c.args.path c.args.place (ap is_some (sym (found_by c.args.self.now.places c.args.path)) ∙ sym c.contains_key.ensures ∙ c.if-contains_key.true)

pub returns : goal.returns
returns c =
    placed (place_at c.args.self.now) (place_at (record { places = c.insert.new.self })) c.args.path c.args.place
    (ap is_some (sym (found_by c.args.self.now.places c.args.path)) ∙ sym c.contains_key.ensures ∙ c.if-contains_key.false)
    (λ other. sym (found_by c.insert.new.self other) ∙ c.in_ok-insert.ensures.updates.0 other ∙ (λ k. cond (path_eq c.args.path other k) (Some c.args.place) (found_by c.args.self.now.places other k)))
