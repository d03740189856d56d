-- Which line may come next in a text, and what follows where another does.
use Rattle.std.proofs.Common.{◌≡◌, refl, sym, ap, ◌∙◌, ℕ, ◌+◌, ◌-◌, ◌<◌, Bool, true, false, ◌||◌, List, [], ◌∷◌, ◌++◌, length, arith, append_assoc}
use Rattle.std.proofs.lemmas.Bool.{false≢true}
use Rattle.std.proofs.lemmas.List.{append-nil, length-append}
use Rattle.box_eval.specs.declared.cut.Cut.{Cut}
use Rattle.box_eval.specs.declared.cut.Side.TheVariants as Side
use Rattle.linear_sums.specs.declared.pick.Pick.{Pick}
use Rattle.record_trees.specs.declared.record.Line.TheVariants as L
use Rattle.box_eval.specs.Box.{cut_at}
use Rattle.record_trees.specs.Record.{Tree, branch, leaf, close, added, unknown, cut_line, FullLine, full, full_lines, has_open, has_sum}
use Rattle.record_trees.specs.Trees.{full_lines_all, any_open, any_sum}
use Rattle.record_text.specs.declared.line.Form.{Form}
use Rattle.record_text.specs.declared.line.Form.TheVariants.{One, Two}
use Rattle.record_text.specs.TextLines.{TextLine}
use Rattle.record_text.specs.TextLines as T
use Rattle.record_text.specs.declared.found.Wanted.TheVariants as W
use Rattle.record_text.specs.declared.nodes.Nodes.{Nodes}
use Rattle.record_text.specs.Lines.{is_two}
use Rattle.record_text.specs.Text.{text_line}
use Rattle.record_text.specs.Reader.{wants}
use Rattle.record_text.specs.Nodes.{no_nodes, counted, IsTreeWith, AreRead}
use Rattle.record_text.specs.Rest.{node_line}

-- ---- reading on

or_false : (b : Bool) → b ≡ (b || false)
or_false true = refl
or_false false = refl

or_true : (b : Bool) → (b || true) ≡ true
or_true true = refl
or_true false = refl

or_assoc : (x y z : Bool) → ((x || y) || z) ≡ (x || (y || z))
or_assoc true y z = refl
or_assoc false y z = refl

pub none_read : (undecided : Bool) (form : Form) → AreRead [] (no_nodes undecided form)
none_read undecided form = record {
  grown = λ ts one. first ts one;
  few_left = omega arith;
  few_cuts = omega arith;
  open_in_undecided = λ e. absurd (false≢true e);
  sum_in_two = λ e. absurd (false≢true e);
}
  where
    first : (ts : List Tree) → length ts ≡ 1 → IsTreeWith [] (no_nodes undecided form) ts
    first [] e = let never : ⊥ = omega (arith, e) in absurd never
    first (t ∷ []) e = record {
      tree = t;
      lines_are = sym (append-nil (full_lines t));
      open_is = or_false (has_open t);
      sum_is = or_false (has_sum t);
      cuts_are = omega arith;
    }
    first (t ∷ u ∷ ts) e = let never : ⊥ = omega (arith, e) in absurd never

-- a cut: its two parts are still to come
cut_with : (ls : List FullLine) (n : Nodes) (cut : Cut) (ts : List Tree) → ((us : List Tree) → length us ≡ n.left → IsTreeWith ls n us) → 0 < n.left → length ts ≡ n.left + 1
    → IsTreeWith (ls ++ full (cut_line cut) [] ∷ []) (record n { left = n.left + 1; cuts = n.cuts + 1 }) ts
cut_with ls n cut [] grown some_ e = let never : ⊥ = omega (arith, e) in absurd never
cut_with ls n cut (a ∷ []) grown some_ e = let never : ⊥ = omega (arith, e, some_) in absurd never
cut_with ls n cut (a ∷ b ∷ ts) grown some_ e =
    let w = grown (branch cut a b ∷ ts) (omega (arith, e)) in
    record {
      tree = w.tree;
      lines_are = w.lines_are ∙ (ap (λ (xs : List FullLine). ls ++ full (cut_line cut) [] ∷ xs) (append_assoc (full_lines a) (full_lines b) (full_lines_all ts))
          ∙ sym (append_assoc ls (full (cut_line cut) [] ∷ []) (full_lines a ++ (full_lines b ++ full_lines_all ts))));
      open_is = w.open_is ∙ ap (λ (x : Bool). n.some_open || x) (or_assoc (has_open a) (has_open b) (any_open ts));
      sum_is = w.sum_is ∙ ap (λ (x : Bool). n.some_sum || x) (or_assoc (has_sum a) (has_sum b) (any_sum ts));
      cuts_are = omega (arith, w.cuts_are);
    }

pub cut_read : (ls : List FullLine) (n : Nodes) (cut : Cut) → AreRead ls n → 0 < n.left → AreRead (ls ++ full (cut_line cut) [] ∷ []) (record n { left = n.left + 1; cuts = n.cuts + 1 })
cut_read ls n cut r some_ = record {
  grown = λ ts e. cut_with ls n cut ts r.grown some_ e;
  few_left = omega (arith, r.few_left, length-append ls (full (cut_line cut) [] ∷ []));
  few_cuts = omega (arith, r.few_cuts, length-append ls (full (cut_line cut) [] ∷ []));
  open_in_undecided = r.open_in_undecided;
  sum_in_two = r.sum_in_two;
}

pub close_read : (ls : List FullLine) (n : Nodes) (rule : ℕ) → AreRead ls n → 0 < n.left → AreRead (ls ++ full (L.Close rule) [] ∷ []) (record n { left = n.left - 1 })
close_read ls n rule r some_ = record {
  grown = λ ts e. let w = r.grown (leaf (close rule) ∷ ts) (omega (arith, e, some_)) in record {
    tree = w.tree;
    lines_are = w.lines_are ∙ sym (append_assoc ls (full (L.Close rule) [] ∷ []) (full_lines_all ts));
    open_is = w.open_is;
    sum_is = w.sum_is;
    cuts_are = omega (arith, w.cuts_are);
  };
  few_left = omega (arith, r.few_left, length-append ls (full (L.Close rule) [] ∷ []));
  few_cuts = omega (arith, r.few_cuts, length-append ls (full (L.Close rule) [] ∷ []));
  open_in_undecided = r.open_in_undecided;
  sum_in_two = r.sum_in_two;
}

pub sum_read : (ls : List FullLine) (n : Nodes) (picks : List Pick) → AreRead ls n → 0 < n.left → n.form ≡ Two
    → AreRead (ls ++ full (L.Sum (length picks)) picks ∷ []) (record n { left = n.left - 1; some_sum = true })
sum_read ls n picks r some_ two = record {
  grown = λ ts e. let w = r.grown (leaf (added picks) ∷ ts) (omega (arith, e, some_)) in record {
    tree = w.tree;
    lines_are = w.lines_are ∙ sym (append_assoc ls (full (L.Sum (length picks)) picks ∷ []) (full_lines_all ts));
    open_is = w.open_is;
    sum_is = w.sum_is ∙ or_true n.some_sum;
    cuts_are = omega (arith, w.cuts_are);
  };
  few_left = omega (arith, r.few_left, length-append ls (full (L.Sum (length picks)) picks ∷ []));
  few_cuts = omega (arith, r.few_cuts, length-append ls (full (L.Sum (length picks)) picks ∷ []));
  open_in_undecided = r.open_in_undecided;
  sum_in_two = λ _. two;
}

pub open_read : (ls : List FullLine) (n : Nodes) → AreRead ls n → 0 < n.left → n.undecided ≡ true → AreRead (ls ++ full L.Unknown [] ∷ []) (record n { left = n.left - 1; some_open = true })
open_read ls n r some_ undecided = record {
  grown = λ ts e. let w = r.grown (leaf unknown ∷ ts) (omega (arith, e, some_)) in record {
    tree = w.tree;
    lines_are = w.lines_are ∙ sym (append_assoc ls (full L.Unknown [] ∷ []) (full_lines_all ts));
    open_is = w.open_is ∙ or_true n.some_open;
    sum_is = w.sum_is;
    cuts_are = omega (arith, w.cuts_are);
  };
  few_left = omega (arith, r.few_left, length-append ls (full L.Unknown [] ∷ []));
  few_cuts = omega (arith, r.few_cuts, length-append ls (full L.Unknown [] ∷ []));
  open_in_undecided = λ _. undecided;
  sum_in_two = r.sum_in_two;
}

pub two_if : (form : Form) → is_two form ≡ true → form ≡ Two
two_if One e = absurd (false≢true e)
two_if Two e = refl

pub node_text : (undecided : Bool) (form : Form) (line : TextLine) → wants (W.Node undecided form) line ≡ true → text_line (node_line line) ≡ line
node_text undecided form (T.Cut Side.Low slot value) h = refl
node_text undecided form (T.Cut Side.High slot value) h = refl
node_text undecided form (T.Close rule) h = refl
node_text undecided form (T.Sum picks) h = refl
node_text undecided form T.Open h = refl
node_text undecided form (T.Head u f) h = absurd (false≢true h)
node_text undecided form (T.Slots number) h = absurd (false≢true h)
node_text undecided form (T.Rules number) h = absurd (false≢true h)
node_text undecided form (T.Room number) h = absurd (false≢true h)
node_text undecided form T.End h = absurd (false≢true h)

-- one line more was read
pub read_more : (ls : List FullLine) (n : Nodes) (line : TextLine) → AreRead ls n → 0 < n.left → wants (W.Node n.undecided n.form) line ≡ true → AreRead (ls ++ node_line line ∷ []) (counted n line)
read_more ls n (T.Cut side slot value) r some_ h = cut_read ls n (cut_at side slot value) r some_
read_more ls n (T.Close rule) r some_ h = close_read ls n rule r some_
read_more ls n (T.Sum picks) r some_ h = sum_read ls n picks r some_ (two_if n.form h)
read_more ls n T.Open r some_ h = open_read ls n r some_ h
read_more ls n (T.Head u f) r some_ h = absurd (false≢true h)
read_more ls n (T.Slots number) r some_ h = absurd (false≢true h)
read_more ls n (T.Rules number) r some_ h = absurd (false≢true h)
read_more ls n (T.Room number) r some_ h = absurd (false≢true h)
read_more ls n T.End r some_ h = absurd (false≢true h)
