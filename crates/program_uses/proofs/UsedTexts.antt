-- The `do` of each type, by its number.
use Rattle.std.proofs.Common.{◌≡◌, ◌∙◌, sym, ap, [], None, map, option_map, slice_index_or}
use Rattle.expr_nodes.specs.type_heads.Bodied.{seen_body}
use Rattle.expr_nodes.specs.type_heads.Types.{Types}
use Rattle.program_fields.specs.SeenFields.{first_do_in, seen_do}
use Rattle.program_fields.specs.Tables.{lists_in}
use Rattle.program_uses.specs.SeenTexts.{HasTextsOf}
use Rattle.program_uses.specs.declared.program_texts.ProgramTexts.{ProgramTexts}
use Rattle.program_uses.proofs.InvokedSteps.{index_map}

pub has_texts : (ts : Types) (p : ProgramTexts) → p.library ≡ ts.library → map seen_body p.bodies.now ≡ ts.bodies → lists_in p.fields ≡ ts.members →
    map (option_map seen_do) p.dos.items ≡ map first_do_in (lists_in p.fields) → HasTextsOf ts p
has_texts ts p library bodies same dos = record {
  library = library;
  members_told = same;
  do_told = λ t. sym (index_map (option_map seen_do) None p.dos.items t) ∙ ap (λ xs. slice_index_or xs t None) dos ∙ index_map first_do_in [] (lists_in p.fields) t
      ∙ ap (λ ms. first_do_in (slice_index_or ms t [])) same;
  bodies_told = bodies;
}
