-- What the readers of phases ensure. A phase that has no block of phases is read whole; of a
-- composition first what stands before its block.
use Rattle.std.specs.Prelude.{◌≡◌, ◌≢◌, ◌<◌, ◌≤◌, ◌∷◌, ◌++◌, map}
use Rattle.dsl_tree.specs.{declared.token.WordKind.TheVariants.SerialWord, declared.token.WordKind.TheVariants.ParallelWord, declared.token.WordKind.TheVariants.OneOfWord, declared.phases.CompKind.CompKind, declared.phases.InvokeHead.InvokeHead, declared.phases.Phase.Phase, PhaseTree.row_of, Views.phase_tree}
use Rattle.dsl_cursor.specs.Words.{ℕ, List, [], length, Result, Ok, Err, Place, Stop, Memory, Token, TokenKind, MarkKind, ActorWord, Ident, word_code, Part, Forest, nil, seen, bare, sub, at, name_token, read, in_row, names, rest_at}
use Rattle.dsl_expressions.specs.Words.{argument_tree}
use Rattle.dsl_tree.specs.Written as written
use Rattle.dsl_tree.specs.WrittenPhases as phases
use Rattle.dsl_parser.specs.declared.{phases.CompositionHead.CompositionHead, phases.PhaseStart.PhaseStart, phases.PhaseStart.TheVariants.Whole, phases.PhaseStart.TheVariants.Composition}

-- a composition or a wait is written as the only part of what stands after a label
abbrev pub core_of : Forest → Forest
core_of (sub core f) = core
core_of f = f

-- the head of an invocation behind a label
abbrev pub invoke_codes : List ℕ
invoke_codes = names ++ (word_code ActorWord ∷ [])

abbrev pub invoke_token : InvokeHead → Token
invoke_token (InvokeHead.Name name) = name_token name
invoke_token (InvokeHead.Actor place) = at (TokenKind.Word ActorWord) place

-- the word of a composition; what stands after its colon; and the phases of its block
abbrev pub composition_codes : List ℕ
composition_codes = word_code SerialWord ∷ word_code ParallelWord ∷ word_code OneOfWord ∷ []

abbrev pub composition_token : Place → CompKind → Token
composition_token place kind = at (TokenKind.Word (phases.comp_word kind)) place

abbrev pub headed : CompositionHead → Forest → Forest
headed head block =
    written.word_at head.place (phases.comp_word head.kind)
    (sub (phases.composition_arguments (map argument_tree head.arguments)) (written.mark MarkKind.Colon (phases.opened block)))

-- further phases of a block
abbrev pub phases_rest : List Phase → Forest
phases_rest ps = phases.phases_tail (row_of (map phase_tree ps))

-- what stands after a label, and after the name at the beginning, as the whole phase
abbrev pub behind_label : Ident → Forest → Forest
behind_label label f = written.ident label (sub (written.mark MarkKind.Colon (sub f nil)) nil)

abbrev pub behind_name : Ident → Forest → Forest
behind_name name f = written.ident name (sub f nil)

-- and what stands there of a whole phase
abbrev pub label_rest : Forest → Forest
label_rest (seen place kind (sub (bare colon (sub f nil)) nil)) = f
label_rest f = f

abbrev pub name_rest : Forest → Forest
name_rest (seen place kind (sub f nil)) = f
name_rest f = f

-- A phase was read, of which the part is the rest after `whole`; or a composition with a label begins: what is read of
-- it makes the part, and so does its stop.
abbrev pub IsStarted : Part → (Forest → Forest) → (Forest → Forest) → List Token → Result PhaseStart (Stop ℕ) → List Token → Type 0
IsStarted p whole rest old (Ok (Whole phase)) new =
    (read p old ≡ Ok (rest (phases.phase (phase_tree phase)), new))
    × (phases.phase (phase_tree phase) ≡ whole (rest (phases.phase (phase_tree phase))))
    × (length new < length old)
IsStarted p whole rest old (Ok (Composition label)) new =
    (length new ≤ length old)
    × ((core : Forest) (end : List Token) → read Part.Composition new ≡ Ok (core, end) → read p old ≡ Ok (rest (phases.with_label label (sub core nil)), end))
    × ((core : Forest) → phases.with_label label (sub core nil) ≡ whole (rest (phases.with_label label (sub core nil))))
    × ((e : Stop ℕ) → read Part.Composition new ≡ Err e → read p old ≡ Err e)
IsStarted p whole rest old (Err e) new = e ≢ Memory → read p old ≡ Err e

-- a composition was read to the beginning of its block
abbrev pub IsHeaded : List Token → Result CompositionHead (Stop ℕ) → List Token → Type 0
IsHeaded old (Ok head) new =
    (length new < length old)
    × ((block : Forest) (end : List Token) → in_row read (rest_at Part.Composition 0 5) new ≡ Ok (block, end) → read Part.Composition old ≡ Ok (headed head block, end))
    × ((e : Stop ℕ) → in_row read (rest_at Part.Composition 0 5) new ≡ Err e → read Part.Composition old ≡ Err e)
IsHeaded old (Err e) new = e ≢ Memory → read Part.Composition old ≡ Err e
