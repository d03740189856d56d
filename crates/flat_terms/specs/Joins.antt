-- How the parts of a row are joined.
use Rattle.std.specs.Prelude.{pos}
use Rattle.box_eval.specs.FlatRules.{FlatTerm, FlatRule, Whole, Sum, Times, Always, Both, Either, Not}
use Rattle.flat_terms.specs.declared.rows.TermRow.{TermRow}
use Rattle.flat_terms.specs.declared.rows.RuleRow.{RuleRow}

-- two terms, joined
abbrev pub term_join : TermRow → FlatTerm → FlatTerm → FlatTerm
term_join TermRow.Sum a b = Sum a b
term_join TermRow.Product a b = Times a b

-- the term of no parts
abbrev pub no_terms : TermRow → FlatTerm
no_terms TermRow.Sum = Whole (pos 0)
no_terms TermRow.Product = Whole (pos 1)

-- two rules, joined
abbrev pub rule_join : RuleRow → FlatRule → FlatRule → FlatRule
rule_join RuleRow.All a b = Both a b
rule_join RuleRow.Any a b = Either a b

-- the rule of no parts
abbrev pub no_rules : RuleRow → FlatRule
no_rules RuleRow.All = Always
no_rules RuleRow.Any = Not Always
