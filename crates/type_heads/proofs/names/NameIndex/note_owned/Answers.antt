use Rattle.std.proofs.Common.{◌∙◌, ap, refl, string_bytes, Some, bytes_eq, cond}
use Rattle.std.specs.HashMap.{get_by_text}
use Rattle.std.proofs.lemmas.Map.Text.{hash_map_updates_text}
use Rattle.type_heads.specs.declared.names.NameIndex.{NameIndex}
use Rattle.type_heads.proofs.NameTables.{owned_more, owned_all}
use Rattle.type_heads.proofs.names.NameIndex.note_owned.Goals as goal

pub returns : goal.returns
returns c =
    let after : NameIndex = record { plain = c.args.self.now.plain; owned = c.insert.new.self } in
    owned_all c.args.self.now after c.args.owner.now c.args.name.now c.args.place refl
    (owned_more (get_by_text c.args.self.now.owned) (get_by_text c.take_table-table.new.owned) (get_by_text c.insert.new.self) c.args.owner.now c.args.name.now c.args.place
    c.take_table-table.result c.note.new.self c.take_table-table.ensures.others
    (λ w. hash_map_updates_text (string_bytes c.in_ok-key.key) c.take_table-table.new.owned c.insert.new.self (Some c.note.new.self) c.in_ok-insert.ensures.updates w
    ∙ ap (λ n. cond (bytes_eq n w) (Some c.note.new.self) (get_by_text c.take_table-table.new.owned w)) c.in_ok-key.ensures.ok)
    c.take_table-table.ensures.was c.in_ok-note.ensures)
