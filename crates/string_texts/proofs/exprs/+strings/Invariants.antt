use Rattle.std.proofs.Common.{◌≡◌, ◌++◌, map, take}
use Rattle.string_texts.specs.Strings.{joined, expr_strings, suffix_strings, further_strings}
use Rattle.string_texts.proofs.exprs.+strings.Given as goal

abbrev pub invariant-push_parts-parts : goal.invariant-push_parts-parts
invariant-push_parts-parts l = map (λ t. t.now) l.texts.items ≡ map (λ t. t.now) l.fn.texts.items ++ joined (map further_strings (take l.next-index l.rest))

abbrev pub invariant-push_suffixes-suffixes : goal.invariant-push_suffixes-suffixes
invariant-push_suffixes-suffixes l = map (λ t. t.now) l.texts.items ≡ map (λ t. t.now) l.fn.texts.items ++ joined (map suffix_strings (take l.suffix-index l.suffixes))

abbrev pub invariant-push_items-items : goal.invariant-push_items-items
invariant-push_items-items l = map (λ t. t.now) l.texts.items ≡ map (λ t. t.now) l.fn.texts.items ++ joined (map expr_strings (take l.item-index l.items))
