-- What the definitions of the answers say of one another.
use Rattle.std.proofs.Common.{◌≡◌, refl, sym, ap, ◌∙◌, subst, ℕ, zero, suc, Bool, true, false, List, [], ◌∷◌, slice_get, Some}
use Rattle.std.proofs.lemmas.Bool.{false≢true}
use Rattle.box_eval.specs.declared.flat.Flat.{Flat}
use Rattle.record_trees.specs.declared.record.Record.{Record}
use Rattle.record_trees.specs.Record.{Tree, has_open, cuts_of, AllTrue, marks, IsAcceptedAs, IsRefutation}
use Rattle.record_text.specs.Lines.{AllShort}
use Rattle.record_text.specs.Text.{record_lines, record_text, IsTextOf}
use Rattle.record_text.proofs.Texts.{text_of_one}
use Rattle.refute_check.specs.Answers.{IsRefutationText, IsOpenText, IsRefusedAt}

-- ---- what is written of an accepted record is accepted

pub refutation_text : (flat : Flat) (claim : Record) → AllShort (record_lines claim) → IsRefutation flat claim → IsRefutationText flat (record_text claim)
refutation_text flat claim short r = record {
  claim = claim;
  tree = r.tree;
  text_of = record { record_of = r.accepted.record_of; short = short; spelled = refl };
  accepted = r.accepted;
  closed = r.closed;
}

pub open_text : (flat : Flat) (claim : Record) (tree : Tree) → AllShort (record_lines claim) → IsAcceptedAs flat claim tree → has_open tree ≡ true → IsOpenText flat (record_text claim) (cuts_of tree)
open_text flat claim tree short a is_open = record {
  claim = claim;
  tree = tree;
  text_of = record { record_of = a.record_of; short = short; spelled = refl };
  accepted = a;
  some_open = is_open;
  cuts_are = refl;
}

-- ---- a text has one answer

pub not_both : (flat : Flat) (text : List ℕ) (cuts : ℕ) → IsRefutationText flat text → IsOpenText flat text cuts → ⊥
not_both flat text cuts r o =
    let same : r.tree ≡ o.tree = (text_of_one text r.claim o.claim r.tree o.tree r.text_of o.text_of).1 in
    false≢true (sym r.closed ∙ (ap has_open same ∙ o.some_open))

pub one_count : (flat : Flat) (text : List ℕ) (j k : ℕ) → IsOpenText flat text j → IsOpenText flat text k → j ≡ k
one_count flat text j k a b = sym a.cuts_are ∙ (ap cuts_of (text_of_one text a.claim b.claim a.tree b.tree a.text_of b.text_of).1 ∙ b.cuts_are)

all_true_here : (bs : List Bool) (k : ℕ) → AllTrue bs → slice_get bs k ≡ Some false → ⊥
all_true_here [] k h e = cc
all_true_here (b ∷ bs) zero h e = let is : b ≡ false = cc in false≢true (sym is ∙ h.0)
all_true_here (b ∷ bs) (suc k) h e = all_true_here bs k h.1 e

marks_same : (flat : Flat) (text : List ℕ) (a b : Record) (s t : Tree) → IsTextOf text a s → IsTextOf text b t → marks flat a s ≡ marks flat b t
marks_same flat text a b s t p q =
    let same = text_of_one text a b s t p q in ap (λ (c : Record). marks flat c s) same.0 ∙ ap (marks flat b) same.1

pub refused_not_accepted : (flat : Flat) (text : List ℕ) (line : ℕ) (claim : Record) (tree : Tree) → IsRefusedAt flat text line → IsTextOf text claim tree → IsAcceptedAs flat claim tree → ⊥
refused_not_accepted flat text line claim tree r t a =
    all_true_here (marks flat claim tree) r.before a.accepted (subst (λ (bs : List Bool). slice_get bs r.before ≡ Some false) (marks_same flat text r.claim claim r.tree tree r.text_of t) r.first.there)
