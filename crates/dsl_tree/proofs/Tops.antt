-- What a parser of whole files proves: from what was read of the part `File`, or from its fault.
use Rattle.std.proofs.Common.{◌+◌, ◌-◌, length, drop, length-append, ap₂, arith, ◌≡◌, ℕ, List, [], ◌∷◌, ◌++◌, sym, ◌∙◌, ap, subst, append_assoc}
use Rattle.std.proofs.Math.Seq.{drop-append_seam}
use Rattle.osc_base.specs.declared.fault.Fault.{Fault}
use Rattle.dsl_tree.specs.declared.token.Token.{Token}
use Rattle.dsl_tree.specs.Grammar.{Part}
use Rattle.dsl_tree.specs.Forest.{Forest, IsOf, Spells}
use Rattle.dsl_tree.specs.FileTree.{FileTree}
use Rattle.dsl_tree.specs.WrittenFile.{file}
use Rattle.dsl_tree.specs.Lookahead.{goes_on}
use Rattle.dsl_tree.specs.Reading.{Parsed, CanBegin, PartFault}
use Rattle.dsl_tree.specs.Language.{Spelled, IsViable, FirstFault, fault_code}
use Rattle.dsl_tree.proofs.Sets.{starts-nil}
use Rattle.dsl_tree.proofs.Law.{part_follows}
use Rattle.dsl_tree.proofs.OneTrees.{spelled_once}
use Rattle.dsl_tree.proofs.Inverse.{tree_of}

-- a file was read
pub whole_file : (t : FileTree) (tokens : List Token) → Parsed Part.File (file t) tokens [] → Spelled t tokens
whole_file t tokens parsed = record { follows = part_follows Part.File (file t) [] parsed.whole; spells = parsed.spells }

-- its tree is the only one
pub only_tree : (t : FileTree) (tokens : List Token) → Parsed Part.File (file t) tokens [] → (other : FileTree) → Spelled other tokens → other ≡ t
only_tree t tokens parsed other spelled = spelled_once other t tokens spelled (whole_file t tokens parsed)

-- a prefix that some forest begins with is one that some tree begins with
pub viable_front : (front : List Token) → CanBegin (IsOf Part.File) front → IsViable front
viable_front front begun =
    let (t, e) = tree_of begun.forest begun.does in
    record {
      tree = t;
      back = begun.back;
      spelled = record {
        follows = subst (IsOf Part.File) (sym e) begun.does;
        spells = subst (λ (f : Forest). Spells f (front ++ begun.back) []) (sym e) begun.spells;
      };
    }

-- no tree goes on at the fault
no_further : (tokens : List Token) (left : ℕ) (part : PartFault Part.File tokens left) (tree : FileTree) (others : List Token) → Spelled tree (part.front ++ part.token ∷ others) → ⊥
no_further tokens left part tree others spelled = part.dead (file tree) others [] spelled.follows (starts-nil (goes_on Part.File)) spelled.spells

pub first_fault : (tokens : List Token) (left : ℕ) (part : PartFault Part.File tokens left) (fault : Fault) → fault.place ≡ part.token.place → fault.code ≡ fault_code part.token.kind → FirstFault tokens fault
first_fault tokens left part fault place code = record {
  front = part.front;
  token = part.token;
  back = part.back;
  split = part.split;
  viable = viable_front part.front part.viable;
  dead = λ v. no_further tokens left part v.tree v.back (subst (Spelled v.tree) (append_assoc part.front (part.token ∷ []) v.back) v.spelled);
  place = place;
  code = code;
}

-- the token of a fault, by the number of tokens from it to the end
pub fault_token : (p : Part) (tokens : List Token) (left : ℕ) (part : PartFault p tokens left) → drop (length tokens - left) tokens ≡ part.token ∷ part.back
fault_token p tokens left part = ap₂ (λ (n : ℕ) (ts : List Token). drop n ts) before part.split ∙ drop-append_seam part.front (part.token ∷ part.back)
  where
    both : length tokens ≡ length part.front + length (part.token ∷ part.back)
    both = ap length part.split ∙ length-append part.front (part.token ∷ part.back)

    before : length tokens - left ≡ length part.front
    before = let e : left ≡ length (part.token ∷ part.back) = part.count in omega (arith, both, e)

abbrev head_or : Token → List Token → Token
head_or t [] = t
head_or t (u ∷ us) = u

-- the first fault, when its token is looked up by that number
pub first_fault_at : (tokens : List Token) (left : ℕ) → PartFault Part.File tokens left → (fault : Fault) (t : Token) (others : List Token) → drop (length tokens - left) tokens ≡ t ∷ others
    → fault.place ≡ t.place → fault.code ≡ fault_code t.kind → FirstFault tokens fault
first_fault_at tokens left part fault t others e place code =
    let same : t ≡ part.token = ap (head_or t) (sym e ∙ fault_token Part.File tokens left part) in
    first_fault tokens left part fault (place ∙ ap (λ (u : Token). u.place) same) (code ∙ ap (λ (u : Token). fault_code u.kind) same)
