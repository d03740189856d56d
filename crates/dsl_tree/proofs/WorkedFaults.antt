-- Worked lists of tokens that spell no tree, each with its first fault.
use Rattle.std.proofs.Common.{◌≡◌, ℕ, List, [], ◌∷◌, length, true, false, drop, refl, inl, inr}
use Rattle.std.specs.Prelude.{codes}
use Rattle.osc_base.specs.declared.fault.FaultCode.{FaultCode}
use Rattle.osc_base.specs.declared.fault.Fault.{Fault}
use Rattle.dsl_tree.specs.declared.token.Token.{Token}
use Rattle.dsl_tree.specs.declared.token.TokenKind.{TokenKind}
use Rattle.dsl_tree.specs.declared.token.ExcludedWord.{ExcludedWord}
use Rattle.dsl_tree.specs.declared.token.MarkKind.{MarkKind}
use Rattle.dsl_tree.specs.declared.token.WordKind.{WordKind}
use Rattle.dsl_tree.specs.Codes.{code, has}
use Rattle.dsl_tree.specs.Grammar.{Part, Symbol, rules, Seen, Bare, Of}
use Rattle.dsl_tree.specs.Forest.{Forest, nil, sub}
use Rattle.dsl_tree.specs.Lookahead.{first, firsts}
use Rattle.dsl_tree.specs.Written.{ident, raised}
use Rattle.dsl_tree.specs.Reading.{Starts, Stops, Parsed, Taken, NotTaken, PartFault, RowFault}
use Rattle.dsl_tree.specs.Language.{FirstFault}
use Rattle.dsl_tree.specs.Examples.{at, tokens_from, ident_at, left_out_tokens, nameless_tokens, broken_tokens}
use Rattle.dsl_tree.proofs.Tests.{Is-follows, Spells-tokens_of}
use Rattle.dsl_tree.proofs.Law.{part_whole}
use Rattle.dsl_tree.proofs.Faults.{ready, wrong_seen, past_seen, past_bare, in_part, past_part}
use Rattle.dsl_tree.proofs.RuleFaults.{RuleOf, all_apart, by_rule, by_only, no_rule}
use Rattle.dsl_tree.proofs.Tops.{first_fault_at}

-- Steps down the grammar, on tokens that are written out: each premise computes

taken : {codes : List ℕ} {t : Token} {ts : List Token} → has codes (code t.kind) ≡ true → Taken codes (t ∷ ts) t ts
taken h = record { split = refl; fits = h }

misfit : {codes : List ℕ} {t : Token} {ts : List Token} → has codes (code t.kind) ≡ false → NotTaken codes (t ∷ ts) (length (t ∷ ts))
misfit {t = t} {ts = ts} h = record { token = t; back = ts; split = refl; count = refl; misfits = h }

only : {p : Part} {r : List Symbol} {ts : List Token} {left : ℕ} → rules p ≡ r ∷ [] → RowFault r ts left → PartFault p ts left
only {p = p} {r = r} {ts = ts} {left = left} = by_only p r ts left

chosen : {p : Part} {r : List Symbol} {ts : List Token} {left : ℕ} → RuleOf p r → all_apart (rules p) ≡ true → Starts (firsts r) ts → RowFault r ts left → PartFault p ts left
chosen {p = p} {r = r} {ts = ts} {left = left} = by_rule p r ts left

into : {p : Part} {ss : List Symbol} {ts : List Token} {left : ℕ} → ready (Of p ∷ ss) ≡ true → PartFault p ts left → RowFault (Of p ∷ ss) ts left
into {p = p} {ss = ss} {ts = ts} {left = left} = in_part p ss ts left

past : {p : Part} {ss : List Symbol} {a : Forest} {ts m : List Token} {left : ℕ} → ready (Of p ∷ ss) ≡ true → Parsed p a ts m → RowFault ss m left → RowFault (Of p ∷ ss) ts left
past {p = p} {ss = ss} {a = a} {ts = ts} {m = m} {left = left} = past_part p ss a ts m left

past_placed : {codes : List ℕ} {ss : List Symbol} {ts : List Token} {t : Token} {rest : List Token} {left : ℕ} → Taken codes ts t rest → RowFault ss rest left → RowFault (Seen codes ∷ ss) ts left
past_placed {codes = codes} {ss = ss} {ts = ts} {t = t} {rest = rest} {left = left} = past_seen codes ss ts t rest left

past_mark : {codes : List ℕ} {ss : List Symbol} {ts : List Token} {t : Token} {rest : List Token} {left : ℕ} → Taken codes ts t rest → RowFault ss rest left → RowFault (Bare codes ∷ ss) ts left
past_mark {codes = codes} {ss = ss} {ts = ts} {t = t} {rest = rest} {left = left} = past_bare codes ss ts t rest left

-- When nothing stands before the declarations

abbrev behind_modifiers : List Symbol
behind_modifiers = Of Part.Declarations ∷ Seen (code TokenKind.End ∷ []) ∷ []

nothing_before : (ts : List Token) (left : ℕ) → Stops (first Part.Imports) ts → Stops (first Part.Modifiers) ts → RowFault behind_modifiers ts left → PartFault Part.File ts left
nothing_before ts left stop stop' fault =
    only refl (past {a = nil} refl (record { whole = inl tt; stop = stop; spells = refl })
    (past {a = nil} refl (record { whole = inl tt; stop = stop'; spells = refl }) fault))

-- `cover`, a word that is left out

left_out : (fault : Fault) → fault.place ≡ at 0 → fault.code ≡ FaultCode.LeftOut → FirstFault (tokens_from 0 left_out_tokens) fault
left_out fault place number =
    first_fault_at (tokens_from 0 left_out_tokens) 2
    (nothing_before (tokens_from 0 left_out_tokens) 2 refl refl
    (past {a = nil} refl (record { whole = inl tt; stop = refl; spells = refl }) (wrong_seen (code TokenKind.End ∷ []) [] (tokens_from 0 left_out_tokens) 2 refl (misfit refl))))
    fault (record { place = at 0; kind = TokenKind.LeftOut ExcludedWord.CoverWord }) (tokens_from 1 (TokenKind.End ∷ [])) refl place number

-- a fault after the first word of a file, which is `scenario`
in_scenario : (ts : List Token) (left : ℕ) → RowFault (Of Part.QualifiedName ∷ Of Part.OptionalHeir ∷ Of Part.Body ∷ []) ts left
    → PartFault Part.File (record { place = at 0; kind = TokenKind.Word WordKind.ScenarioWord } ∷ ts) left
in_scenario ts left fault =
    nothing_before (record { place = at 0; kind = TokenKind.Word WordKind.ScenarioWord } ∷ ts) left refl refl
    (into refl (chosen (inr (inl refl)) refl refl (into refl (chosen (inr (inr (inr (inr (inl refl))))) refl refl (past_placed (taken refl) fault)))))

-- a scenario without a name: the fault is at its colon

nameless : (fault : Fault) → fault.place ≡ at 1 → fault.code ≡ FaultCode.Syntax → FirstFault (tokens_from 0 nameless_tokens) fault
nameless fault place number =
    first_fault_at (tokens_from 0 nameless_tokens) 2
    (in_scenario (drop 1 (tokens_from 0 nameless_tokens)) 2 (into refl (no_rule Part.QualifiedName (drop 1 (tokens_from 0 nameless_tokens)) 2 refl (misfit refl))))
    fault (record { place = at 1; kind = TokenKind.Mark MarkKind.Colon }) (tokens_from 2 (TokenKind.End ∷ [])) refl place number

-- an expression that ends after `==`: the fault is at the line end

abbrev broken : ℕ → List Token
broken n = drop n (tokens_from 0 broken_tokens)

no_relation : PartFault Part.RelationTail (broken 8) 3
no_relation =
    chosen (inr (inl refl)) refl refl (past_placed (taken refl)
    (into refl (only {p = Part.Sum} refl (into refl (only {p = Part.Product} refl (into refl (no_rule Part.Minus (broken 9) 3 refl (misfit refl))))))))

-- the left side was read
abbrev left_side : Forest
left_side = raised 4 5 (ident (ident_at 7 (codes "x")) (sub nil nil))

left_read : Parsed Part.Sum left_side (broken 7) (broken 8)
left_read = part_whole Part.Sum left_side (broken 7) (broken 8) (Is-follows Part.Sum left_side refl) refl (Spells-tokens_of at left_side 7 (broken 8) refl)

broken_expr : PartFault Part.Expr (broken 7) 3
broken_expr =
    only refl (into refl (only {p = Part.Or} refl (into refl (only {p = Part.And} refl (into refl
    (chosen {p = Part.Not} (inr (inl refl)) refl refl (into refl (only {p = Part.Relation} refl (past refl left_read (into refl no_relation))))))))))

broken_rule : PartFault Part.Rule (broken 5) 3
broken_rule =
    chosen (inl refl) refl refl (past_placed (taken refl) (past_mark (taken refl)
    (past {p = Part.KeepKind} {a = nil} {ts = broken 7} refl (record { whole = inl tt; stop = refl; spells = refl }) (into refl broken_expr))))

broken_body : PartFault Part.Body (broken 2) 3
broken_body =
    chosen (inr (inl refl)) refl refl (past_mark (taken refl) (into refl
    (only {p = Part.Block} refl (past_mark (taken refl) (past_mark (taken refl) (into refl (chosen {p = Part.Member} (inr (inl refl)) refl refl (into refl broken_rule))))))))

abbrev heading : Forest
heading = ident (ident_at 1 (codes "top")) (sub nil nil)

heading_read : Parsed Part.QualifiedName heading (broken 1) (broken 2)
heading_read = part_whole Part.QualifiedName heading (broken 1) (broken 2) (Is-follows Part.QualifiedName heading refl) refl (Spells-tokens_of at heading 1 (broken 2) refl)

no_end : (fault : Fault) → fault.place ≡ at 9 → fault.code ≡ FaultCode.Syntax → FirstFault (tokens_from 0 broken_tokens) fault
no_end fault place number =
    first_fault_at (tokens_from 0 broken_tokens) 3
    (in_scenario (broken 1) 3 (past refl heading_read (past {a = nil} {ts = broken 2} refl (record { whole = inl tt; stop = refl; spells = refl }) (into refl broken_body))))
    fault (record { place = at 9; kind = TokenKind.Newline }) (broken 10) refl place number
