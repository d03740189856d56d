use Rattle.std.proofs.Common.{◌∙◌, sym, ap, string_bytes, Some, bytes_eq, cond}
use Rattle.std.proofs.lemmas.Map.Text.{hash_map_updates_text}
use Rattle.type_members.proofs.of_name_scope.Tables.{present, placed}
use Rattle.type_tables.specs.Places.{place_in}
use Rattle.type_tables.proofs.Firsts.{known, unknown}
use Rattle.type_tables.proofs.first_places.FirstPlaces.note.Goals as goal

pub returns-clause-places : goal.returns-clause-places
returns-clause-places c =
    placed (place_in c.args.self.now) (place_in (record { is_kept = c.args.self.now.is_kept; is_distinct = c.args.self.now.is_distinct; places = c.insert.new.self })) c.args.name.now c.args.place
    (sym c.contains_key.ensures ∙ c.if-contains_key.false)
    (λ other. hash_map_updates_text (string_bytes c.in_ok-key.key) c.args.self.now.places c.insert.new.self (Some c.args.place) c.in_ok-insert.ensures.updates other
    ∙ ap (λ n. cond (bytes_eq n other) (Some c.args.place) (place_in c.args.self.now other)) c.in_ok-key.ensures.ok)

pub returns-clause-distinct : goal.returns-clause-distinct
returns-clause-distinct c = unknown c.args.self.now.is_distinct (place_in c.args.self.now c.args.name.now) (sym c.contains_key.ensures ∙ c.if-contains_key.false)

pub returns-then-contains_key-clause-places : goal.returns-then-contains_key-clause-places
returns-then-contains_key-clause-places c = present (place_in c.args.self.now) c.args.name.now c.args.place (sym c.contains_key.ensures ∙ c.if-contains_key.true)

pub returns-then-contains_key-clause-distinct : goal.returns-then-contains_key-clause-distinct
returns-then-contains_key-clause-distinct c = known c.args.self.now.is_distinct (place_in c.args.self.now c.args.name.now) (sym c.contains_key.ensures ∙ c.if-contains_key.true)
