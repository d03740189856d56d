-- A list of tokens is spelled by one forest of a part at most.
use Rattle.std.proofs.Common.{◌≡◌, ℕ, ◌≤◌, List, [], ◌∷◌, Bool, true, false, cond, refl, sym, ◌∙◌, ap, ap₂, subst, ⊎_elim, ◌&&◌, not, arith}
use Rattle.std.specs.Prelude.{nat_le}
use Rattle.std.proofs.lemmas.Bool.{leb-true}
use Rattle.osc_base.specs.declared.fault.Place.{Place}
use Rattle.dsl_tree.specs.declared.token.Token.{Token}
use Rattle.dsl_tree.specs.declared.token.TokenKind.{TokenKind}
use Rattle.dsl_tree.specs.Codes.{code, has}
use Rattle.dsl_tree.specs.Grammar.{Part, Symbol, rules, Seen, Bare, Of}
use Rattle.dsl_tree.specs.Forest.{Forest, nil, seen, bare, sub, Spells, AnyRule, Follows}
use Rattle.dsl_tree.specs.Lookahead.{first, goes_on, firsts, empties, stops, seconds, least, apart, sound, two_apart, are_told_apart}
use Rattle.dsl_tree.specs.Reading.{starts, Starts, Stops, void, Whole, Parsed}
use Rattle.dsl_tree.proofs.Tests.{left_of, right_of, either_of, count}
use Rattle.dsl_tree.proofs.Sets.{two_ways, both_ways, not_true, starts-nil, starts-cons, Starts-subset, Stops-subset, Stops-apart, Stops-left, Stops-right, and_both}
use Rattle.dsl_tree.proofs.Fits.{Fit, fit_map, any_map, pick, first_goes_on}
use Rattle.dsl_tree.proofs.Begins.{void_spells, void_empties, void_part, begins, void_count, seconds_of, least_count}

-- Whole forests

pub whole_follows : (f : Forest) (ss : List Symbol) (z : List Token) → Whole f ss z → Follows f ss
whole_follows nil [] z w = tt
whole_follows (seen place kind f) (Seen codes ∷ ss) z (h, w) = (h, whole_follows f ss z w)
whole_follows (bare kind f) (Bare codes ∷ ss) z (h, w) = (h, whole_follows f ss z w)
whole_follows (sub a g) (Of p ∷ ss) z (any, stop, w) =
    (any_map (rules p) (λ r. Whole a r (cond (void g) z [])) (Follows a) (λ r does. whole_follows a r (cond (void g) z []) does) any, whole_follows g ss z w)
whole_follows _ _ z w = absurd w

-- what is whole before some tokens is so before others, at which all stops that stops at those
pub whole_before : (f : Forest) (ss : List Symbol) (z y : List Token) → ((cs : List ℕ) → Stops cs z → Stops cs y) → Whole f ss z → Whole f ss y
whole_before nil [] z y e w = tt
whole_before (seen place kind f) (Seen codes ∷ ss) z y e (h, w) = (h, whole_before f ss z y e w)
whole_before (bare kind f) (Bare codes ∷ ss) z y e (h, w) = (h, whole_before f ss z y e w)
whole_before (sub a g) (Of p ∷ ss) z y e (any, stop, w) = (
  any_map (rules p) (λ r. Whole a r (cond (void g) z [])) (λ r. Whole a r (cond (void g) y [])) (λ r does. whole_before a r (cond (void g) z []) (cond (void g) y []) (behind (void g)) does) any,
  behind (void g) (cond (void a) (first p) []) stop,
  whole_before g ss z y e w,
)
  where
    behind : (v : Bool) (cs : List ℕ) → Stops cs (cond v z []) → Stops cs (cond v y [])
    behind true cs s = e cs s
    behind false cs s = s
whole_before _ _ z y e w = absurd w

-- what stands after a part doesn't go on with it
stops_behind : (p : Part) (g : Forest) (ss : List Symbol) (z : List Token) → Follows g ss → Stops (stops (Of p ∷ ss)) z → Stops (goes_on p) (cond (void g) z [])
stops_behind p g ss z h stop = grind (arith, void_empties g ss h, Stops-left (goes_on p) (stops ss) z, starts-nil (goes_on p))

pub stops_rest : (p : Part) (ss : List Symbol) (z : List Token) → Stops (stops (Of p ∷ ss)) z → Stops (stops ss) z
stops_rest p ss z stop = grind (arith, Stops-right (goes_on p) (stops ss) z)

-- a part that was left empty could not take what stands after it
stops_void : (p : Part) (a : Forest) (z : List Token) → AnyRule (rules p) (Follows a) → Stops (goes_on p) z → Stops (cond (void a) (first p) []) z
stops_void p a z any stop = grind (arith, void_part p a any, first_goes_on p, Stops-subset (first p) (goes_on p) z)

pub follows_whole : (f : Forest) (ss : List Symbol) (z : List Token) → sound ss ≡ true → Follows f ss → Stops (stops ss) z → Whole f ss z
follows_whole nil [] z s h stop = tt
follows_whole (seen place kind f) (Seen codes ∷ ss) z s (h, h') stop = (h, follows_whole f ss z s h' stop)
follows_whole (bare kind f) (Bare codes ∷ ss) z s (h, h') stop = (h, follows_whole f ss z s h' stop)
follows_whole (sub a g) (Of p ∷ ss) z s (any, h) stop =
    let behind : Stops (goes_on p) (cond (void g) z []) = stops_behind p g ss z h stop in (
      fit_map p (Follows a) (λ r. Whole a r (cond (void g) z []))
          (λ r fit does. follows_whole a r (cond (void g) z []) fit.is_sound does (Stops-subset (stops r) (goes_on p) (cond (void g) z []) fit.ends behind)) any,
      stops_void p a (cond (void g) z []) any behind,
      follows_whole g ss z (right_of (apart (firsts ss) (goes_on p)) (sound ss) s) h (stops_rest p ss z stop),
    )
follows_whole _ _ z s h stop = absurd h

pub part_whole : (p : Part) (a : Forest) (ts z : List Token) → AnyRule (rules p) (Follows a) → Stops (goes_on p) z → Spells a ts z → Parsed p a ts z
part_whole p a ts z any stop s = record {
  whole = fit_map p (Follows a) (λ r. Whole a r z) (λ r fit does. follows_whole a r z fit.is_sound does (Stops-subset (stops r) (goes_on p) z fit.ends stop)) any;
  stop = stops_void p a z any stop;
  spells = s;
}

pub part_follows : (p : Part) (a : Forest) (z : List Token) → AnyRule (rules p) (λ r. Whole a r z) → AnyRule (rules p) (Follows a)
part_follows p a z any = any_map (rules p) (λ r. Whole a r z) (Follows a) (λ r does. whole_follows a r z does) any

-- the first part of a whole row was read whole
pub opened : (p : Part) (ss : List Symbol) (a g : Forest) (ts m z : List Token) → sound (Of p ∷ ss) ≡ true → Whole (sub a g) (Of p ∷ ss) z → Spells a ts m → Spells g m z → Parsed p a ts m
opened p ss a g ts m z s (any, stop, w) sa sg = go (void g) refl any stop
  where
    go : (v : Bool) → void g ≡ v → AnyRule (rules p) (λ r. Whole a r (cond v z [])) → Stops (cond (void a) (first p) []) (cond v z []) → Parsed p a ts m
    go true e any' stop' =
        let q : z ≡ m = sym (void_spells g m z e sg) in
        record { whole = subst (λ (y : List Token). AnyRule (rules p) (λ r. Whole a r y)) q any'; stop = subst (λ (y : List Token). Stops (cond (void a) (first p) []) y) q stop'; spells = sa }
    go false e any' stop' =
        part_whole p a ts m (part_follows p a [] any')
        (⊎_elim (λ v. both_ways (void g) v e) (λ (v, b). Stops-apart (firsts ss) (goes_on p) m (left_of (apart (firsts ss) (goes_on p)) (sound ss) s) b) (begins g ss m z (whole_follows g ss z w) sg)) sa

-- Two forests of one part, of rules that are told apart, aren't spelled by equal tokens

-- the second token of a rule that begins with two
pub record TwoTokens (r : List Symbol) (ts : List Token) : Type 0 where
  pub head : Token
  pub next : Token
  pub others : List Token
  pub split : ts ≡ head ∷ next ∷ others
  pub misfits : Stops (seconds r) (next ∷ others)
  pub long : 2 ≤ least r

begun_two : (r s : List Symbol) (b : Forest) (ts n : List Token) → two_apart s r ≡ true → Follows b s → Spells b ts n → TwoTokens r ts
begun_two r (Seen codes ∷ Bare next ∷ s) (seen place kind (bare kind' b)) (t ∷ u ∷ ts) n h (h1, (h2, fb)) (p, k, (k', sb)) =
    record {
      head = t;
      next = u;
      others = ts;
      split = refl;
      misfits = Stops-apart next (seconds r) (u ∷ ts) (left_of (apart next (seconds r)) (nat_le 2 (least r)) h) (starts-cons next u ts ∙ ap (λ kind. has next (code kind)) k' ∙ h2);
      long = leb-true 2 (least r) (right_of (apart next (seconds r)) (nat_le 2 (least r)) h);
    }
begun_two r (Seen codes ∷ Bare next ∷ s) (seen place kind (bare kind' b)) [] n h fb sb = absurd sb
begun_two r (Seen codes ∷ Bare next ∷ s) (seen place kind (bare kind' b)) (t ∷ []) n h fb (p, k, bad) = absurd bad
begun_two r (Seen codes ∷ Bare next ∷ s) (seen place kind b) ts n h (h1, bad) sb = absurd bad
begun_two r (Seen codes ∷ Bare next ∷ s) b ts n h fb sb = absurd fb
begun_two r _ b ts n h fb sb = absurd (cc)

-- no forest of the rule is spelled by tokens that begin with two such
pub no_two : (r : List Symbol) (a : Forest) (ts m : List Token) → TwoTokens r ts → Follows a r → Spells a ts m → ⊥
no_two r a ts m two fa sa =
    let le : least r ≤ count a = least_count a r fa in
    let long : 2 ≤ least r = two.long in
    ⊎_elim (λ v. let e : count a ≡ 0 = void_count a v in absurd (omega arith))
    (λ v. ⊎_elim (λ (q, one). absurd (omega arith)) (λ b. both_ways (starts (seconds r) (two.next ∷ two.others)) b two.misfits)
    (seconds_of a r two.head (two.next ∷ two.others) m fa (subst (λ (v : List Token). Spells a v m) two.split sa) v))
    (two_ways (void a))

two_tokens : (r s : List Symbol) (a b : Forest) (ts m n : List Token) → two_apart s r ≡ true → Follows a r → Follows b s → Spells a ts m → Spells b ts n → ⊥
two_tokens r s a b ts m n h fa fb sa sb = no_two r a ts m (begun_two r s b ts n h fb sb) fa sa

-- after a void forest no other begins
after_void : (p : Part) (s : List Symbol) (a : Forest) (ts m : List Token) → Fit p s → void a ≡ true → Spells a ts m → Stops (cond (void a) (first p) []) m → Starts (firsts s) ts → ⊥
after_void p s a ts m fit v sa stop start =
    both_ways (starts (first p) m) (subst (Starts (first p)) (void_spells a ts m v sa) (Starts-subset (firsts s) (first p) ts fit.begins start)) (subst (λ (c : Bool). Stops (cond c (first p) []) m) v stop)

clash : (p : Part) (r s : List Symbol) (a b : Forest) (ts m n : List Token) → Fit p r → Fit p s → are_told_apart r s ≡ true → Whole a r m → Whole b s n
    → Stops (cond (void a) (first p) []) m → Stops (cond (void b) (first p) []) n → Spells a ts m → Spells b ts n → ⊥
clash p r s a b ts m n fit fit' tells wa wb stop stop' sa sb =
    let fa : Follows a r = whole_follows a r m wa in
    let fb : Follows b s = whole_follows b s n wb in
    ⊎_elim (λ one.
    ⊎_elim (λ v. ⊎_elim (λ v'. both_ways (empties r && empties s) (and_both (empties r) (empties s) (void_empties a r fa v) (void_empties b s fb v')) (not_true (empties r && empties s) (right_of _ _ one)))
    (λ (w', start'). after_void p s a ts m fit' v sa stop start') (begins b s ts n fb sb))
    (λ (w, start). ⊎_elim (λ v'. after_void p r b ts n fit v' sb stop' start)
    (λ (w', start'). both_ways (starts (firsts s) ts) start' (Stops-apart (firsts r) (firsts s) ts (left_of (apart (firsts r) (firsts s)) _ one) start)) (begins b s ts n fb sb))
    (begins a r ts m fa sa))
    (λ two. two_tokens r s a b ts m n two fa fb sa sb)
    (either_of (apart (firsts r) (firsts s) && not (empties r && empties s)) (two_apart s r) tells)

-- The law

same_seen : (p q : Place) (k l : TokenKind) (f g : Forest) → p ≡ q → k ≡ l → f ≡ g → seen p k f ≡ seen q l g
same_seen p q k l f g e e' e'' = cc

abbrev Same : Forest → Forest → List Token → List Token → Type 0
Same f f' z z' = (f ≡ f') × (z ≡ z')

same_part : (p : Part) (a b : Forest) (ts m n : List Token) → ((r : List Symbol) → sound r ≡ true → Whole a r m → Whole b r n → Same a b m n) → Parsed p a ts m → Parsed p b ts n → Same a b m n
same_part p a b ts m n law pa pb =
    pick p (λ r. Whole a r m) (λ r. Whole b r n) (Same a b m n) pa.whole pb.whole
    (λ r fit wa wb. law r fit.is_sound wa wb)
    (λ r s fit fit' tells wa wb. absurd (clash p r s a b ts m n fit fit' tells wa wb pa.stop pb.stop pa.spells pb.spells))
    (λ r s fit fit' tells wa wb. absurd (clash p r s b a ts n m fit fit' tells wb wa pb.stop pa.stop pb.spells pa.spells))

pub law : (f f' : Forest) (ss : List Symbol) (ts z z' : List Token) → sound ss ≡ true → Whole f ss z → Whole f' ss z' → Spells f ts z → Spells f' ts z' → Same f f' z z'
law nil nil [] ts z z' s w w' sp sp' = (refl, sym sp ∙ sp')
law (seen place kind f) (seen place' kind' f') (Seen codes ∷ ss) (t ∷ ts) z z' s (h, w) (h', w') (p, k, sp) (p', k', sp') =
    let (e, q) = law f f' ss ts z z' s w w' sp sp' in (same_seen place place' kind kind' f f' (sym p ∙ p') (sym k ∙ k') e, q)
law (bare kind f) (bare kind' f') (Bare codes ∷ ss) (t ∷ ts) z z' s (h, w) (h', w') (k, sp) (k', sp') =
    let (e, q) = law f f' ss ts z z' s w w' sp sp' in (ap₂ bare (sym k ∙ k') e, q)
law (sub a g) (sub b g') (Of p ∷ ss) ts z z' s (any, stop, w) (any', stop', w') (m, sa, sg) (m', sb, sg') =
    let (e, q) =
    same_part p a b ts m m' (λ r sr wa wb. law a b r ts m m' sr wa wb sa sb) (opened p ss a g ts m z s (any, stop, w) sa sg) (opened p ss b g' ts m' z' s (any', stop', w') sb sg') in
    let (e', q') = law g g' ss m z z' (right_of (apart (firsts ss) (goes_on p)) (sound ss) s) w w' sg (subst (λ (v : List Token). Spells g' v z') (sym q) sg') in
    (ap₂ sub e e', q')
law (seen place kind f) f' (Seen codes ∷ ss) [] z z' s w w' sp sp' = absurd sp
law (bare kind f) f' (Bare codes ∷ ss) [] z z' s w w' sp sp' = absurd sp
law nil f' [] ts z z' s w w' sp sp' = absurd w'
law (seen place kind f) f' (Seen codes ∷ ss) (t ∷ ts) z z' s w w' sp sp' = absurd w'
law (bare kind f) f' (Bare codes ∷ ss) (t ∷ ts) z z' s w w' sp sp' = absurd w'
law (sub a g) f' (Of p ∷ ss) ts z z' s w w' sp sp' = absurd w'
law _ f' _ ts z z' s w w' sp sp' = absurd w

-- of a part
pub law_part : (p : Part) (a b : Forest) (ts m n : List Token) → Parsed p a ts m → Parsed p b ts n → Same a b m n
law_part p a b ts m n pa pb = same_part p a b ts m n (λ r s wa wb. law a b r ts m n s wa wb pa.spells pb.spells) pa pb

pub one_forest : (p : Part) (a b : Forest) (ts : List Token) → AnyRule (rules p) (Follows a) → AnyRule (rules p) (Follows b) → Spells a ts [] → Spells b ts [] → a ≡ b
one_forest p a b ts ia ib sa sb = (law_part p a b ts [] [] (part_whole p a ts [] ia (starts-nil (goes_on p)) sa) (part_whole p b ts [] ib (starts-nil (goes_on p)) sb)).0
