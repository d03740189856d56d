-- END stands at the end of each list of tokens that spells a file, and nowhere else. So an ended list of tokens has a tree
-- or a first fault.
use Rattle.std.proofs.Common.{◌≡◌, ℕ, List, [], ◌∷◌, ◌++◌, Bool, true, false, refl, sym, ◌∙◌, ap, ap₂, subst, inl, inr, ◌&&◌, ◌||◌, not, append_assoc, append-nil}
use Rattle.osc_base.specs.declared.fault.FaultCode.{FaultCode}
use Rattle.osc_base.specs.declared.fault.Place.{Place}
use Rattle.dsl_tree.specs.declared.token.Token.{Token}
use Rattle.dsl_tree.specs.declared.token.TokenKind.{TokenKind}
use Rattle.dsl_tree.specs.Codes.{code, has}
use Rattle.dsl_tree.specs.Grammar.{Part, Symbol, rules, Seen, Bare, Of}
use Rattle.dsl_tree.specs.Forest.{Forest, nil, seen, bare, sub, wrong, Spells, AnyRule, Follows, IsOf}
use Rattle.dsl_tree.specs.FileTree.{FileTree}
use Rattle.dsl_tree.specs.WrittenFile.{file, imports, modifiers, declarations}
use Rattle.dsl_tree.specs.Language.{is_end, Ended, Spelled, IsViable, fault_code, TreeOrFault, OneFirstFault}
use Rattle.dsl_tree.proofs.Tests.{left_of, right_of}
use Rattle.dsl_tree.proofs.EachPart.{each_part}
use Rattle.dsl_tree.proofs.Sets.{both_ways, not_true, implied}

-- no token of a row of symbols is END, and no part of it is a file

abbrev is_no_file : Part → Bool
is_no_file Part.File = false
is_no_file _ = true

abbrev endless : List Symbol → Bool
endless [] = true
endless (Seen codes ∷ ss) = not (has codes 3) && endless ss
endless (Bare codes ∷ ss) = not (has codes 3) && endless ss
endless (Of p ∷ ss) = is_no_file p && endless ss

abbrev all_endless : List (List Symbol) → Bool
all_endless [] = true
all_endless (r ∷ rs) = endless r && all_endless rs

endless_rules : (p : Part) → is_no_file p ≡ true → all_endless (rules p) ≡ true
endless_rules p h = implied (is_no_file p) (all_endless (rules p)) (each_part (λ (q : Part). not (is_no_file q) || all_endless (rules q)) refl p) h

-- none of a forest's tokens is END
abbrev Endless : Forest → Type 0
Endless nil = Unit {0}
Endless (seen place kind f) = (is_end kind ≡ false) × Endless f
Endless (bare kind f) = (is_end kind ≡ false) × Endless f
Endless (sub part f) = Endless part × Endless f
Endless wrong = Unit {0}

no_end : (codes : List ℕ) (kind : TokenKind) → not (has codes 3) ≡ true → has codes (code kind) ≡ true → is_end kind ≡ false
no_end codes TokenKind.End h fits = both_ways (has codes 3) fits (not_true (has codes 3) h)
no_end codes _ h fits = refl

by_any : (rs : List (List Symbol)) (P : List Symbol → Type 0) (G : Type 0) → all_endless rs ≡ true → ((r : List Symbol) → endless r ≡ true → P r → G) → AnyRule rs P → G
by_any [] P G h go any = absurd any
by_any (r ∷ rs) P G h go (inl does) = go r (left_of (endless r) (all_endless rs) h) does
by_any (r ∷ rs) P G h go (inr any) = by_any rs P G (right_of (endless r) (all_endless rs) h) go any

is_endless : (f : Forest) (ss : List Symbol) → endless ss ≡ true → Follows f ss → Endless f
is_endless nil [] h does = tt
is_endless (seen place kind f) (Seen codes ∷ ss) h (fits, does) =
    (no_end codes kind (left_of (not (has codes 3)) (endless ss) h) fits, is_endless f ss (right_of (not (has codes 3)) (endless ss) h) does)
is_endless (bare kind f) (Bare codes ∷ ss) h (fits, does) =
    (no_end codes kind (left_of (not (has codes 3)) (endless ss) h) fits, is_endless f ss (right_of (not (has codes 3)) (endless ss) h) does)
is_endless (sub a f) (Of p ∷ ss) h (any, does) = (
  by_any (rules p) (Follows a) (Endless a) (endless_rules p (left_of (is_no_file p) (endless ss) h)) (λ r e follows. is_endless a r e follows) any,
  is_endless f ss (right_of (is_no_file p) (endless ss) h) does,
)
is_endless _ _ h does = absurd does

part_endless : (p : Part) (f : Forest) → is_no_file p ≡ true → IsOf p f → Endless f
part_endless p f h is = by_any (rules p) (Follows f) (Endless f) (endless_rules p h) (λ r e follows. is_endless f r e follows) is

-- tokens before a list that is ended

ended_cons : (t : Token) (ts : List Token) → is_end t.kind ≡ false → Ended ts → Ended (t ∷ ts)
ended_cons t [] e h = absurd h
ended_cons t (u ∷ us) e h = (e, h)

ended_before : (f : Forest) (ts z : List Token) → Endless f → Spells f ts z → Ended z → Ended ts
ended_before nil ts z e s h = subst Ended (sym s) h
ended_before (seen place kind f) (t ∷ ts) z (e, es) (p, k, s) h = ended_cons t ts (ap is_end k ∙ e) (ended_before f ts z es s h)
ended_before (bare kind f) (t ∷ ts) z (e, es) (k, s) h = ended_cons t ts (ap is_end k ∙ e) (ended_before f ts z es s h)
ended_before (sub a f) ts z (e, es) (m, s, s') h = ended_before a ts m e s (ended_before f m z es s' h)
ended_before (seen place kind f) [] z e s h = absurd s
ended_before (bare kind f) [] z e s h = absurd s
ended_before wrong ts z e s h = absurd s

end_token : (place : Place) (m : List Token) → Spells (seen place TokenKind.End nil) m [] → Ended m
end_token place [] s = absurd s
end_token place (t ∷ ts) (p, k, e) = subst (λ (v : List Token). Ended (t ∷ v)) (sym e) (ap is_end k)

-- a list that spells a file is ended
pub spelled_ended : (tree : FileTree) (tokens : List Token) → Spelled tree tokens → Ended tokens
spelled_ended tree tokens s = go s.follows s.spells
  where
    go : IsOf Part.File (file tree) → Spells (file tree) tokens [] → Ended tokens
    go (inl (is, (is', (is'', end)))) (m, s, (m', s', (m'', s'', last))) =
        ended_before (imports tree.imports) tokens m (part_endless Part.Imports (imports tree.imports) refl is) s
        (ended_before (modifiers tree.modifiers) m m' (part_endless Part.Modifiers (modifiers tree.modifiers) refl is') s'
        (ended_before (declarations tree.decls) m' m'' (part_endless Part.Declarations (declarations tree.decls) refl is'') s'' (end_token tree.end m'' last)))
    go (inr none) _ = absurd none

-- nothing stands after an ended list that is ended as well
nothing_behind : (ts back : List Token) → Ended ts → Ended (ts ++ back) → back ≡ []
nothing_behind [] back h h' = absurd h
nothing_behind (t ∷ []) [] h h' = refl
nothing_behind (t ∷ []) (b ∷ bs) h (e, h') = both_ways (is_end t.kind) h e
nothing_behind (t ∷ u ∷ us) back (e, h) (e', h') = nothing_behind (u ∷ us) back h h'

-- Viable lists

viable_front : (xs ys : List Token) → IsViable (xs ++ ys) → IsViable xs
viable_front xs ys v = record { tree = v.tree; back = ys ++ v.back; spelled = subst (Spelled v.tree) (append_assoc xs ys v.back) v.spelled }

nowhere : Place
nowhere = record { file = 0; line = 0; column = 0; token = 0 }

nothing_viable : IsViable []
nothing_viable = record {
  tree = record { imports = []; modifiers = []; decls = []; end = nowhere };
  back = record { place = nowhere; kind = TokenKind.End } ∷ [];
  spelled = record { follows = inl (inl tt, (inl tt, (inl tt, (refl, tt)))); spells = (_, refl, (_, refl, (_, refl, (refl, refl, refl)))) };
}

-- a viable list that is ended spells a tree
viable_spelled : (tokens : List Token) → Ended tokens → IsViable tokens → (tree : FileTree) × Spelled tree tokens
viable_spelled tokens h v =
    let none : v.back ≡ [] = nothing_behind tokens v.back h (spelled_ended v.tree (tokens ++ v.back) v.spelled) in
    (v.tree, subst (Spelled v.tree) (ap (λ (b : List Token). tokens ++ b) none ∙ append-nil tokens) v.spelled)

pub tree_or_first_fault : TreeOrFault
tree_or_first_fault tokens h no_tree no_fault = go [] tokens refl nothing_viable
  where
    go : (front rest : List Token) → tokens ≡ front ++ rest → IsViable front → ⊥
    go front [] split viable =
        let whole : tokens ≡ front = split ∙ append-nil front in
        let t = viable_spelled tokens h (subst IsViable (sym whole) viable) in
        no_tree t.0 t.1
    go front (t ∷ rest) split viable =
        no_fault (record { place = t.place; code = fault_code t.kind })
        (record {
          front = front;
          token = t;
          back = rest;
          split = split;
          viable = viable;
          dead = λ more. go (front ++ t ∷ []) rest (split ∙ sym (append_assoc front (t ∷ []) rest)) more;
          place = refl;
          code = refl;
        })

-- One first fault

-- of two ways to split a list at a token, one prefix begins with the other and its token, or the two are equal
data Splits (front front' : List Token) (t t' : Token) : Type 0 where
  same : front ≡ front' → t ≡ t' → Splits front front' t t'
  before : (more : List Token) → front' ≡ (front ++ t ∷ []) ++ more → Splits front front' t t'
  behind : (more : List Token) → front ≡ (front' ++ t' ∷ []) ++ more → Splits front front' t t'

splits : (front front' back back' : List Token) (t t' : Token) → front ++ t ∷ back ≡ front' ++ t' ∷ back' → Splits front front' t t'
splits [] [] back back' t t' e = same refl cc
splits [] (x ∷ front') back back' t t' e = let q : t ≡ x = cc in before front' (ap (λ (v : Token). v ∷ front') (sym q))
splits (x ∷ front) [] back back' t t' e = let q : x ≡ t' = cc in behind front (ap (λ (v : Token). v ∷ front) q)
splits (x ∷ front) (x' ∷ front') back back' t t' e =
    let q : x ≡ x' = cc in
    let tails : front ++ t ∷ back ≡ front' ++ t' ∷ back' = cc in
    go q (splits front front' back back' t t' tails)
  where
    go : x ≡ x' → Splits front front' t t' → Splits (x ∷ front) (x' ∷ front') t t'
    go q (same f k) = same (cc) k
    go q (before more f) = before more (cc)
    go q (behind more f) = behind more (cc)

pub one_first_fault : OneFirstFault
one_first_fault tokens fault other f g = go (splits f.front g.front f.back g.back f.token g.token (sym f.split ∙ g.split))
  where
    go : Splits f.front g.front f.token g.token → fault ≡ other
    go (same e k) =
        let p : fault.place ≡ other.place = f.place ∙ (ap (λ (t : Token). t.place) k ∙ sym g.place) in
        let c : fault.code ≡ other.code = f.code ∙ (ap (λ (t : Token). fault_code t.kind) k ∙ sym g.code) in
        ap₂ (λ (p : Place) (c : FaultCode). record { place = p; code = c }) p c
    go (before more e) = absurd (f.dead (viable_front (f.front ++ f.token ∷ []) more (subst IsViable e g.viable)))
    go (behind more e) = absurd (g.dead (viable_front (g.front ++ g.token ∷ []) more (subst IsViable e f.viable)))
