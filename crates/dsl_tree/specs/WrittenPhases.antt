-- What rules, arguments and phases are written as.
use Rattle.std.specs.Prelude.{List, [], ◌∷◌, Option, Some, None}
use Rattle.osc_base.specs.declared.fault.Place.{Place}
use Rattle.dsl_tree.specs.declared.parts.Ident.{Ident}
use Rattle.dsl_tree.specs.declared.rules.KeepKind.{KeepKind}
use Rattle.dsl_tree.specs.declared.phases.CompKind.{CompKind}
use Rattle.dsl_tree.specs.declared.phases.InvokeHead.{InvokeHead}
use Rattle.dsl_tree.specs.declared.token.TokenKind.{TokenKind}
use Rattle.dsl_tree.specs.declared.token.MarkKind.{MarkKind}
use Rattle.dsl_tree.specs.declared.token.WordKind.{WordKind}
use Rattle.dsl_tree.specs.ExprTree.{ExprTree}
use Rattle.dsl_tree.specs.PhaseTree.{RuleTree, Keep, Remove, ArgumentTree, ModifierTree, PartTree, RulePart, ModifierPart, PhaseTree, Comp, Invoke, Wait, PhaseRow, End, Phase}
use Rattle.dsl_tree.specs.Forest.{Forest, nil, bare, sub, wrong}
use Rattle.dsl_tree.specs.Written.{mark, word, word_at, ident, expr, path}

abbrev pub newline : Forest → Forest
newline f = bare TokenKind.Newline f

-- the line end and the beginning of a block, and what ends it
abbrev pub opened : Forest → Forest
opened f = newline (bare TokenKind.Indent f)

abbrev pub block_end : Forest
block_end = bare TokenKind.Dedent nil

-- `with:` and the beginning of its block
abbrev pub with_block : Forest → Forest
with_block f = word WordKind.WithWord (mark MarkKind.Colon (opened f))

-- Rules

abbrev pub keep_kind : KeepKind → Forest
keep_kind KeepKind.Plain = nil
keep_kind KeepKind.Hard = word WordKind.HardWord nil
keep_kind KeepKind.Default = word WordKind.DefaultWord nil

abbrev pub rule : RuleTree → Forest
rule (Keep place kind tree) =
    word_at place WordKind.KeepWord (mark MarkKind.OpenRound (sub (keep_kind kind) (sub (expr tree) (mark MarkKind.CloseRound (newline nil)))))
rule (Remove place tree) =
    word_at place WordKind.RemoveDefaultWord (mark MarkKind.OpenRound (sub (path tree) (mark MarkKind.CloseRound (newline nil))))

abbrev pub rules_tail : List RuleTree → Forest
rules_tail [] = nil
rules_tail (r ∷ rs) = sub (rule r) (sub (rules_tail rs) nil)

-- what is written if something is missing, and what if it is there
abbrev pub by_option : {A : Type 0} → Option A → Forest → (A → Forest) → Forest
by_option None missing there = missing
by_option (Some x) missing there = there x

-- Arguments, with the bracket that closes them: one at least, and those with names last

abbrev pub named_argument : Ident → ExprTree → Forest → Forest
named_argument name value rest = ident name (mark MarkKind.Colon (sub (expr value) (sub rest nil)))

abbrev pub named_tail : List ArgumentTree → Forest
named_tail [] = mark MarkKind.CloseRound nil
named_tail (a ∷ others) = by_option a.name wrong (λ name. mark MarkKind.Comma (named_argument name a.value (named_tail others)))

-- what stands after an argument without a name, when `more` is what the other arguments are written as
abbrev pub arguments_tail : List ArgumentTree → Forest → Forest
arguments_tail [] more = mark MarkKind.CloseRound nil
arguments_tail (a ∷ others) more = mark MarkKind.Comma (sub more nil)

abbrev pub arguments : List ArgumentTree → Forest
arguments [] = wrong
arguments (a ∷ others) =
    by_option a.name (sub (expr a.value) (sub (arguments_tail others (arguments others)) nil))
    (λ name. named_argument name a.value (named_tail others))

-- Invocations

-- each name with a point before it
abbrev pub dotted_names : List Ident → Forest
dotted_names [] = nil
dotted_names (name ∷ names) = mark MarkKind.Dot (ident name (sub (dotted_names names) nil))

abbrev pub invocation_arguments : List ArgumentTree → Forest
invocation_arguments [] = mark MarkKind.CloseRound nil
invocation_arguments (a ∷ others) = sub (arguments (a ∷ others)) nil

abbrev pub modifier : ModifierTree → Forest
modifier m = ident m.name (mark MarkKind.OpenRound (sub (invocation_arguments m.arguments) (newline nil)))

abbrev pub invocation_part : PartTree → Forest
invocation_part (RulePart r) = sub (rule r) nil
invocation_part (ModifierPart m) = modifier m

abbrev pub parts_tail : List PartTree → Forest
parts_tail [] = nil
parts_tail (p ∷ ps) = sub (invocation_part p) (sub (parts_tail ps) nil)

abbrev pub invocation_end : List PartTree → Forest
invocation_end [] = newline nil
invocation_end (p ∷ ps) = with_block (sub (invocation_part p) (sub (parts_tail ps) block_end))

-- an invocation after its head
abbrev pub invocation_rest : List Ident → List ArgumentTree → List PartTree → Forest
invocation_rest names args parts =
    sub (dotted_names names) (mark MarkKind.OpenRound (sub (invocation_arguments args) (sub (invocation_end parts) nil)))

-- an invocation without a label, and after its label
abbrev pub invocation : InvokeHead → Forest → Forest
invocation (InvokeHead.Name name) rest = ident name (sub (sub rest nil) nil)
invocation (InvokeHead.Actor place) rest = word_at place WordKind.ActorWord (sub rest nil)

abbrev pub labelled_invocation : InvokeHead → Forest → Forest
labelled_invocation (InvokeHead.Name name) rest = ident name (sub rest nil)
labelled_invocation (InvokeHead.Actor place) rest = word_at place WordKind.ActorWord (sub rest nil)

-- Phases

abbrev pub comp_word : CompKind → WordKind
comp_word CompKind.Serial = WordKind.SerialWord
comp_word CompKind.Parallel = WordKind.ParallelWord
comp_word CompKind.OneOf = WordKind.OneOfWord

abbrev pub composition_arguments : List ArgumentTree → Forest
composition_arguments [] = nil
composition_arguments (a ∷ others) = mark MarkKind.OpenRound (sub (arguments (a ∷ others)) nil)

-- a composition, with the phases of its block, and a wait, both after their label
abbrev pub composition : Place → CompKind → List ArgumentTree → Forest → Forest
composition place kind args phases =
    sub (word_at place (comp_word kind) (sub (composition_arguments args) (mark MarkKind.Colon (opened phases)))) nil

abbrev pub wait : Place → ExprTree → Forest
wait place elapsed =
    sub (word_at place WordKind.WaitWord (word WordKind.ElapsedWord (mark MarkKind.OpenRound
    (sub (expr elapsed) (mark MarkKind.CloseRound (newline nil)))))) nil

-- a phase: `plain` is written without a label, and `core` after one
abbrev pub labelled : Option Ident → Forest → Forest → Forest
labelled label plain core = by_option label plain (λ name. ident name (sub (mark MarkKind.Colon (sub core nil)) nil))

abbrev pub with_label : Option Ident → Forest → Forest
with_label label core = labelled label core core

abbrev mutual
  pub phase : PhaseTree → Forest
  phase (Comp label place kind args members) = with_label label (composition place kind args (block_phases members))
  phase (Invoke label head names args parts) =
      labelled label (invocation head (invocation_rest names args parts)) (labelled_invocation head (invocation_rest names args parts))
  phase (Wait label place elapsed) = with_label label (wait place elapsed)

  -- the phases of a block, one at least, and its end; and those after the first
  pub block_phases : PhaseRow → Forest
  block_phases End = wrong
  block_phases (Phase first others) = sub (phase first) (sub (phases_tail others) block_end)

  pub phases_tail : PhaseRow → Forest
  phases_tail End = nil
  phases_tail (Phase first others) = sub (phase first) (sub (phases_tail others) nil)
