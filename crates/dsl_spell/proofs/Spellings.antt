-- What is written of a tree that follows the grammar spells it.
use Rattle.std.proofs.Common.{◌≡◌, List, [], ◌∷◌, ◌++◌, true, refl, sym, ◌∙◌, ap, subst, append_assoc}
use Rattle.std.proofs.lemmas.Bool.{false≢true}
use Rattle.std.proofs.lemmas.List.{append-nil}
use Rattle.dsl_spell.specs.Writing.{Token, File, Part, Forest, nil, seen, bare, sub, wrong, Spells, file_tree, file, FollowsGrammar, Spelled, Writer, put, wrote, Whole, Writes}
use Rattle.dsl_tree.proofs.{Tests.is_whole, Tests.left_of, Tests.right_of, Leaves.leaves, Leaves.Spells-leaves, OneTrees.is_is_whole}

whole : (f : Forest) → is_whole f ≡ true → Whole f
whole nil h = tt
whole (seen place kind f) h = whole f h
whole (bare kind f) h = whole f h
whole (sub a f) h = (whole a (left_of _ _ h), whole f (right_of _ _ h))
whole wrong h = absurd (false≢true h)

same_at : (w : Writer) (f : Forest) → (wrote w f).at ≡ w.at
same_at w nil = refl
same_at w (seen place kind f) = same_at (put w place kind) f
same_at w (bare kind f) = same_at (put w w.at kind) f
same_at w (sub a f) = same_at (wrote w a) f ∙ same_at w a
same_at w wrong = refl

-- the tokens of the forest's leaves, after those before
wrote_leaves : (w : Writer) (f : Forest) (z : List Token) → (wrote w f).tokens ++ z ≡ w.tokens ++ leaves w.at f z
wrote_leaves w nil z = refl
wrote_leaves w (seen place kind f) z = wrote_leaves (put w place kind) f z ∙ append_assoc w.tokens (record { place = place; kind = kind } ∷ []) (leaves w.at f z)
wrote_leaves w (bare kind f) z = wrote_leaves (put w w.at kind) f z ∙ append_assoc w.tokens (record { place = w.at; kind = kind } ∷ []) (leaves w.at f z)
wrote_leaves w (sub a f) z =
    wrote_leaves (wrote w a) f z ∙ (ap (λ p. (wrote w a).tokens ++ leaves p f z) (same_at w a) ∙ wrote_leaves w a (leaves w.at f z))
wrote_leaves w wrong z = refl

pub written_spells : (f : File) (w v : Writer) → FollowsGrammar (file_tree f) → w.tokens ≡ [] → Writes w (file (file_tree f)) v → Spelled (file_tree f) v.tokens
written_spells f w v follows e h =
    let same : is_whole (file (file_tree f)) ≡ true = is_is_whole Part.File (file (file_tree f)) follows in
    let all : v.tokens ≡ leaves w.at (file (file_tree f)) [] =
    ap (λ (s : Writer). s.tokens) (h (whole (file (file_tree f)) same)) ∙ (sym (append-nil (wrote w (file (file_tree f))).tokens)
    ∙ (wrote_leaves w (file (file_tree f)) [] ∙ ap (λ (ts : List Token). ts ++ leaves w.at (file (file_tree f)) []) e)) in
    record {
      follows = follows;
      spells = subst (λ (ts : List Token). Spells (file (file_tree f)) ts []) (sym all) (Spells-leaves w.at (file (file_tree f)) [] same);
    }
