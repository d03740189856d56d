use Rattle.std.proofs.Common.{◌∙◌, ap, string_bytes, Some, bytes_eq, cond}
use Rattle.std.specs.HashMap.{get_by_text}
use Rattle.std.proofs.lemmas.Map.Text.{hash_map_updates_text}
use Rattle.type_heads.specs.Shown.{hit_more}
use Rattle.type_heads.proofs.EnumTables.{put_hit}
use Rattle.type_heads.proofs.enum_index.HitTable.add.Goals as goal

pub returns : goal.returns
returns c = put_hit (get_by_text c.args.self.now.hits) (get_by_text c.insert.new.self) c.args.name.now c.and-hit.result c.args.of
    (c.and-hit.ensures ∙ ap (λ h. hit_more h c.args.of) c.get.ensures)
    (λ other. hash_map_updates_text (string_bytes c.in_ok-key.key) c.args.self.now.hits c.insert.new.self (Some c.and-hit.result) c.in_ok-insert.ensures.updates other
    ∙ ap (λ n. cond (bytes_eq n other) (Some c.and-hit.result) (get_by_text c.args.self.now.hits other)) c.in_ok-key.ensures.ok)
