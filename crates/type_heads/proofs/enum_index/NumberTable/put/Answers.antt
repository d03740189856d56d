use Rattle.std.proofs.Common.{◌∙◌, ap, rules, string_bytes, Some, bytes_eq, cond, to_z, of_z, w64, FitsSigned}
use Rattle.std.proofs.lemmas.Int.{to_z-of_z}
use Rattle.std.proofs.lemmas.Map.Text.{hash_map_updates_text}
use Rattle.type_heads.specs.EnumNames.{number_in}
use Rattle.type_heads.proofs.enum_index.NumberTable.put.Goals as goal

pub returns : goal.returns
returns c =
    let fits : FitsSigned w64 c.args.number = search rules in
    λ other. hash_map_updates_text (string_bytes c.in_ok-key.key) c.args.self.now.numbers c.insert.new.self (Some (to_z w64 (of_z w64 c.args.number))) c.in_ok-insert.ensures.updates other
    ∙ ap (λ n. cond (bytes_eq n other) (Some (to_z w64 (of_z w64 c.args.number))) (number_in c.args.self.now other)) c.in_ok-key.ensures.ok
    ∙ ap (λ m. cond (bytes_eq c.args.name.now other) (Some m) (number_in c.args.self.now other)) (to_z-of_z w64 c.args.number fits)
