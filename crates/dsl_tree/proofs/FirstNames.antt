-- An argument without a name may begin with a name: the fault of `Arguments` at a second token.
use Rattle.std.proofs.Common.{◌≡◌, ℕ, List, [], ◌∷◌, ◌++◌, true, refl, sym, ◌∙◌, ap, subst, inl, inr, ⊎_elim}
use Rattle.std.proofs.lemmas.Bool.{leb-true}
use Rattle.dsl_tree.specs.declared.token.Token.{Token}
use Rattle.dsl_tree.specs.declared.token.TokenKind.{TokenKind}
use Rattle.dsl_tree.specs.declared.token.MarkKind.{MarkKind}
use Rattle.dsl_tree.specs.Codes.{code, has, mark_code, si_name, factor_name, offset_name, other_name}
use Rattle.dsl_tree.specs.Grammar.{Part, Symbol, Seen, Bare, Of}
use Rattle.dsl_tree.specs.Forest.{Forest, nil, seen, bare, sub, Spells, Follows, IsOf}
use Rattle.dsl_tree.specs.Lookahead.{stops, seconds, least}
use Rattle.dsl_tree.specs.Written.{raised}
use Rattle.dsl_tree.specs.Reading.{starts, Stops, Taken, CanBegin, PartFault, RowFault}
use Rattle.dsl_tree.proofs.Tests.{Spells-tokens_of}
use Rattle.dsl_tree.proofs.Sets.{both_ways, starts-cons, Stops-apart}
use Rattle.dsl_tree.proofs.Begins.{begins_full}
use Rattle.dsl_tree.proofs.Law.{no_two}
use Rattle.dsl_tree.proofs.Faults.{Dead, part_fault, of_row, moved, begin_alike, after_seen, after_bare}
use Rattle.dsl_tree.proofs.RuleFaults.{by_this}

abbrev pub names : List ℕ
names = si_name ∷ factor_name ∷ offset_name ∷ other_name ∷ []

abbrev pub colon : List ℕ
colon = mark_code MarkKind.Colon ∷ []

-- the two rules of arguments, and what is left of the second after its first two tokens
abbrev pub plain_rule : List Symbol
plain_rule = Of Part.Expr ∷ Of Part.ArgumentsTail ∷ []

abbrev pub named_rest : List Symbol
named_rest = Of Part.Expr ∷ Of Part.NamedTail ∷ []

abbrev named_rule : List Symbol
named_rule = Seen names ∷ Bare colon ∷ named_rest

name_expr : Token → Forest
name_expr t = raised 9 0 (seen t.place t.kind (sub nil nil))

closed_name : Token → Forest
unfolding name_expr
closed_name t = sub (name_expr t) (sub (bare (TokenKind.Mark MarkKind.CloseRound) nil) nil)

begins_plain : (t : Token) → has names (code t.kind) ≡ true → CanBegin (λ f. Follows f plain_rule) (t ∷ [])
unfolding name_expr closed_name
begins_plain t h = record {
  forest = closed_name t;
  back = record { place = t.place; kind = TokenKind.Mark MarkKind.CloseRound } ∷ [];
  does = (expr, (inl (refl, tt), tt));
  spells = Spells-tokens_of (λ n. t.place) (closed_name t) 0 [] refl;
}
  where
    operand : IsOf Part.Primary (seen t.place t.kind (sub nil nil))
    operand = inr (inr (inr (inr (inr (inr (inl (h, (inl tt, tt))))))))

    relation : IsOf Part.Relation (raised 5 4 (seen t.place t.kind (sub nil nil)))
    relation = inl (inl (inl (inr (inl (inl (operand, (inl tt, tt)), tt)), (inl tt, tt)), (inl tt, tt)), (inl tt, tt))

    expr : IsOf Part.Expr (name_expr t)
    expr = inl (inl (inl (inr (inl (relation, tt)), (inl tt, tt)), (inl tt, tt)), (inl tt, tt))

-- some forest of arguments does as the rule with a name
named_is : (f : Forest) → Follows f named_rule → IsOf Part.Arguments f
named_is f does = inr (inl does)

pub arguments_named : (ts : List Token) (t : Token) (us : List Token) (u : Token) (vs : List Token) (left : ℕ)
    → Taken names ts t us → Taken colon us u vs → RowFault named_rest vs left → PartFault Part.Arguments ts left
arguments_named ts t us u vs left taken taken' fault =
    part_fault (moved (t ∷ u ∷ []) (taken.split ∙ ap (λ (v : List Token). t ∷ v) taken'.split) (of_row fault)
    (λ front back g does s. (seen t.place t.kind (bare u.kind g), back, named_is (seen t.place t.kind (bare u.kind g)) (taken.fits, (taken'.fits, does)), (refl, refl, (refl, s))))
    (λ front x back others e dead f z is stop s.
    let w : List Token = front ++ x ∷ others in
    ⊎_elim (λ does. no_two plain_rule f (t ∷ u ∷ w) z (record {
      head = t;
      next = u;
      others = w;
      split = refl;
      misfits = Stops-apart colon (seconds plain_rule) (u ∷ w) refl (starts-cons colon u w ∙ taken'.fits);
      long = leb-true 2 (least plain_rule) refl;
    }) does s)
    (⊎_elim (λ does.
    let (g, d, s') = after_seen f names (Bare colon ∷ named_rest) t (u ∷ w) z does s in
    let (g', d', s'') = after_bare g colon named_rest u w z d s' in dead others g' z d' refl s'') (λ none. absurd none)) is))

pub arguments_plain : (ts : List Token) (left : ℕ) → Stops names ts → RowFault plain_rule ts left → PartFault Part.Arguments ts left
arguments_plain ts left stop fault = by_this Part.Arguments plain_rule ts left (inl refl) fault λ front x back others e dead f z is end s.
    ⊎_elim (λ does. does) (⊎_elim (λ does. both_ways (starts names (front ++ x ∷ others)) (begins_full f named_rule (front ++ x ∷ others) z refl does s) (sym (begin_alike names ts front x back others e) ∙ stop))
    (λ none. absurd none)) is

pub arguments_name : (ts : List Token) (t : Token) (us : List Token) (left : ℕ) → Taken names ts t us → Stops colon us → RowFault plain_rule ts left → PartFault Part.Arguments ts left
arguments_name ts t us left taken stop fault = by_this Part.Arguments plain_rule ts left (inl refl) fault λ front x back others e dead f z is end s.
    ⊎_elim (λ does. does) (⊎_elim (λ does. absurd (not_named front x back others (sym taken.split ∙ e) dead f z does s)) (λ none. absurd none)) is
  where
    up : CanBegin (λ f. Follows f plain_rule) (t ∷ [])
    up = begins_plain t taken.fits

    not_named : (front : List Token) (x : Token) (back others : List Token) → t ∷ us ≡ front ++ x ∷ back → ((vs : List Token) → Dead (λ f. Follows f plain_rule) (stops plain_rule) (front ++ x ∷ vs))
        → (f : Forest) (z : List Token) → Follows f named_rule → Spells f (front ++ x ∷ others) z → ⊥
    not_named [] x back others e dead f z does s =
        let q : t ≡ x = cc in dead up.back up.forest [] up.does refl (subst (λ (v : Token). Spells up.forest (v ∷ up.back) []) q up.spells)
    not_named (y ∷ front) x back others e dead f z does s =
        let (g, d, s') = after_seen f names (Bare colon ∷ named_rest) y (front ++ x ∷ others) z does s in
        let q : us ≡ front ++ x ∷ back = cc in
        both_ways (starts colon (front ++ x ∷ others)) (begins_full g (Bare colon ∷ named_rest) (front ++ x ∷ others) z refl d s') (sym (begin_alike colon us front x back others q) ∙ stop)
