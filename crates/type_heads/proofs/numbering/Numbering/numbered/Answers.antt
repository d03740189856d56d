use Rattle.std.proofs.Common.{◌∙◌, ◌++◌, [], sym, ap}
use Rattle.std.specs.Prelude.{flat_map}
use Rattle.std.proofs.lemmas.List.{append-nil}
use Rattle.type_heads.specs.DeclaredTypes.{numbered_from}
use Rattle.type_heads.specs.Numbering.{items_placed}
use Rattle.type_heads.proofs.numbering.Numbering.numbered.Goals as goal

pub returns : goal.returns
returns c =
    let added = flat_map items_placed c.args.extensions.now in
    c.of.ensures ∙ sym (append-nil _) ∙ c.in_ok-push_extensions.ensures [] ∙ c.in_ok-push_all.ensures (added ++ []) ∙ c.new-numbering.ensures (c.args.items.now ++ (added ++ []))
    ∙ ap (λ xs. numbered_from 0 (c.args.items.now ++ xs)) (append-nil added)
