use Rattle.std.proofs.Common.{◌∙◌, ap, sym, slice_index_or, Option, None, List}
use Rattle.std.specs.Option.{option_map_or}
use Rattle.box_eval.specs.declared.rule.Rule.{Rule}
use Rattle.linear_sums.specs.Sums.{weight_of}
use Rattle.linear_sums.proofs.Found.{get_found, found_slots}
use Rattle.linear_sums.proofs.weighing.weight_by_number.Goals as goal

pub linear_weight-requires : goal.linear_weight-requires
linear_weight-requires c =
    let rule = c.index-as_slice-rule.result in
    found_slots c.args.flat.now c.args.rule rule c.requires.flat
    (get_found c.args.flat.now.rules c.args.rule rule c.requires.there (c.index-as_slice-rule.is ∙ ap (λ (rs : List Rule). slice_index_or rs c.args.rule rule) c.as_slice.ensures))

pub returns : goal.returns
returns c =
    let rule = c.index-as_slice-rule.result in
    c.linear_weight.ensures ∙ sym (ap (λ (o : Option Rule). option_map_or (weight_of c.args.flat.now.bounds.pairs) o None)
    (get_found c.args.flat.now.rules c.args.rule rule c.requires.there (c.index-as_slice-rule.is ∙ ap (λ (rs : List Rule). slice_index_or rs c.args.rule rule) c.as_slice.ensures)))
