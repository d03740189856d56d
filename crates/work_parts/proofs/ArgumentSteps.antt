-- The amounts of arguments, one by one.
use Rattle.std.proofs.Common.{◌≡◌, ◌∙◌, sym, ap, ℕ, ◌+◌, ◌<◌, List, ◌∷◌, drop, get_or, length, map}
use Rattle.std.proofs.lemmas.List.{drop_more}
use Rattle.dsl_tree.specs.declared.phases.Argument.{Argument}
use Rattle.dsl_tree.specs.Views.{argument_tree}
use Rattle.expr_nodes.specs.type_heads.Table.{Table}
use Rattle.expr_nodes.specs.type_heads.Types.{Field}
use Rattle.work_counts.specs.declared.tally.Tally.{Tally}
use Rattle.work_counts.specs.Amounts.{kept}
use Rattle.work_counts.proofs.Sums.{joined, kept_plus}
use Rattle.work_parts.specs.Arguments.{argument_amount, arguments_amount}

module _ (table : Table) (of : ℕ) (fields : List Field) (arguments : List Argument) where
  -- those from place n on
  abbrev pub from_place : ℕ → Tally
  from_place n = kept (arguments_amount table of fields n (map argument_tree (drop n arguments)))

  -- one of them, and those after it
  pub place_split : (n : ℕ) (x : Argument) (one : Tally) → n < length arguments → x ≡ get_or arguments n x → one ≡ kept (argument_amount table of fields n (argument_tree x))
      → from_place n ≡ joined one (from_place (n + 1))
  place_split n x one lt at is =
      ap (λ xs. kept (arguments_amount table of fields n (map argument_tree xs))) (drop_more arguments n x lt ∙ ap (λ y. y ∷ drop (n + 1) arguments) (sym at))
      ∙ sym (kept_plus (argument_amount table of fields n (argument_tree x)) (arguments_amount table of fields (n + 1) (map argument_tree (drop (n + 1) arguments))))
      ∙ ap (λ t. joined t (from_place (n + 1))) (sym is)
