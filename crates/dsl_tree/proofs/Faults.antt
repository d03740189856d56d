-- Where no forest goes on: how a fault in a part becomes one of what holds the part.
use Rattle.std.proofs.Common.{◌≡◌, ℕ, List, [], ◌∷◌, ◌++◌, length, Bool, true, false, cond, refl, sym, ◌∙◌, ap, subst, ◌&&◌, append_assoc, arith}
use Rattle.std.proofs.lemmas.List.{append-nil}
use Rattle.dsl_tree.specs.declared.token.Token.{Token}
use Rattle.dsl_tree.specs.Grammar.{Part, Symbol, rules, Seen, Bare, Of}
use Rattle.dsl_tree.specs.Forest.{Forest, nil, seen, bare, sub, wrong, Spells, Follows, IsOf}
use Rattle.dsl_tree.specs.Lookahead.{first, goes_on, firsts, empties, stops, apart, sound}
use Rattle.dsl_tree.specs.Reading.{starts, Stops, void, Whole, Parsed, Taken, NotTaken, CanBegin, PartFault, RowFault}
use Rattle.dsl_tree.proofs.Tests.{left_of, right_of}
use Rattle.dsl_tree.proofs.Sets.{both_ways, starts-cons, Stops-apart, Stops-left}
use Rattle.dsl_tree.proofs.Fits.{any_map}
use Rattle.dsl_tree.proofs.Begins.{void_spells, void_empties, begins, begins_full}
use Rattle.dsl_tree.proofs.Law.{whole_before, part_follows, part_whole, stops_rest, law_part}
use Rattle.dsl_tree.proofs.Shortest.{filled, row, row_follows, tokens, row_spells}

-- what the lemmas below ask of a row of symbols, by computing
abbrev pub ready : List Symbol → Bool
ready ss = sound ss && filled ss

-- Tokens of a forest

-- the tokens that a forest takes
abbrev Consumed : Forest → List Token → List Token → Type 0
Consumed f ts z = (used : List Token) × (ts ≡ used ++ z) × ((y : List Token) → Spells f (used ++ y) y)

consumed : (f : Forest) (ts z : List Token) → Spells f ts z → Consumed f ts z
consumed nil ts z s = ([], s, λ y. refl)
consumed (seen place kind f) (t ∷ ts) z (p, k, s) = let (used, e, more) = consumed f ts z s in (t ∷ used, ap (λ (v : List Token). t ∷ v) e, λ y. (p, k, more y))
consumed (bare kind f) (t ∷ ts) z (k, s) = let (used, e, more) = consumed f ts z s in (t ∷ used, ap (λ (v : List Token). t ∷ v) e, λ y. (k, more y))
consumed (sub a g) ts z (m, s, s') =
    let (used, e, more) = consumed a ts m s in
    let (used', e', more') = consumed g m z s' in (
      used ++ used',
      e ∙ (ap (λ (v : List Token). used ++ v) e' ∙ sym (append_assoc used used' z)),
      λ y. (used' ++ y, subst (λ (v : List Token). Spells a v (used' ++ y)) (sym (append_assoc used used' y)) (more (used' ++ y)), more' y),
    )
consumed (seen place kind f) [] z s = absurd s
consumed (bare kind f) [] z s = absurd s
consumed wrong ts z s = absurd s

spells_append : (f : Forest) (ts y : List Token) → Spells f ts [] → Spells f (ts ++ y) y
spells_append f ts y s = let (used, e, more) = consumed f ts [] s in subst (λ (v : List Token). Spells f (v ++ y) y) (sym (e ∙ append-nil used)) (more y)

pub parsed_alike : (p : Part) (a : Forest) (ts us z y : List Token) → ((cs : List ℕ) → starts cs z ≡ starts cs y) → Parsed p a ts z → Spells a us y → Parsed p a us y
parsed_alike p a ts us z y e parsed s = record {
  whole = any_map (rules p) (λ r. Whole a r z) (λ r. Whole a r y) (λ r does. whole_before a r z y (λ cs s. sym (e cs) ∙ s) does) parsed.whole;
  stop = sym (e (cond (void a) (first p) [])) ∙ parsed.stop;
  spells = s;
}

-- two lists that begin with one prefix and then one token begin alike
pub begin_alike : (cs : List ℕ) (ts front : List Token) (t : Token) (back others : List Token) → ts ≡ front ++ t ∷ back → starts cs ts ≡ starts cs (front ++ t ∷ others)
begin_alike cs ts [] t back others e = ap (starts cs) e ∙ (starts-cons cs t back ∙ sym (starts-cons cs t others))
begin_alike cs ts (u ∷ front) t back others e = ap (starts cs) e ∙ (starts-cons cs u (front ++ t ∷ back) ∙ sym (starts-cons cs u (front ++ t ∷ others)))

-- what stands after the first part of a row doesn't go on with it
stops_middle : (p : Part) (ss : List Symbol) (g : Forest) (m z : List Token) → sound (Of p ∷ ss) ≡ true → Follows g ss → Spells g m z → Stops (stops (Of p ∷ ss)) z → Stops (goes_on p) m
stops_middle p ss g m z h does s stop =
    grind (arith, void_spells g m z, void_empties g ss does, Stops-left (goes_on p) (stops ss) z, begins g ss m z does s, Stops-apart (firsts ss) (goes_on p) m, left_of (apart (firsts ss) (goes_on p)) (sound ss) h)

-- what a forest of a row is after its first token or part

pub after_seen : (f : Forest) (codes : List ℕ) (ss : List Symbol) (t : Token) (ts z : List Token) → Follows f (Seen codes ∷ ss) → Spells f (t ∷ ts) z → (g : Forest) × Follows g ss × Spells g ts z
after_seen (seen place kind g) codes ss t ts z (h, does) (p, k, s) = (g, does, s)
after_seen _ codes ss t ts z does s = absurd does

pub after_bare : (f : Forest) (codes : List ℕ) (ss : List Symbol) (t : Token) (ts z : List Token) → Follows f (Bare codes ∷ ss) → Spells f (t ∷ ts) z → (g : Forest) × Follows g ss × Spells g ts z
after_bare (bare kind g) codes ss t ts z (h, does) (k, s) = (g, does, s)
after_bare _ codes ss t ts z does s = absurd does

after_part : (f : Forest) (p : Part) (ss : List Symbol) (ts z : List Token) → Follows f (Of p ∷ ss) → Spells f ts z
    → (a g : Forest) × (m : List Token) × IsOf p a × Follows g ss × Spells a ts m × Spells g m z
after_part (sub a g) p ss ts z (is, does) (m, s, s') = (a, g, m, is, does, s, s')
after_part _ p ss ts z does s = absurd does

-- Faults of forests of any kind

-- no forest of the kind is spelled by the tokens to where the codes stop
abbrev pub Dead : (Forest → Type 0) → List ℕ → List Token → Type 0
Dead Does ends ts = (f : Forest) (z : List Token) → Does f → Stops ends z → Spells f ts z → ⊥

pub record FaultOf (Does : Forest → Type 0) (ends : List ℕ) (ts : List Token) (left : ℕ) : Type 0 where
  pub front : List Token
  pub token : Token
  pub back : List Token
  pub split : ts ≡ front ++ token ∷ back
  pub count : left ≡ length (token ∷ back)
  pub viable : CanBegin Does front
  pub dead : (others : List Token) → Dead Does ends (front ++ token ∷ others)

pub part_fault : {p : Part} {ts : List Token} {left : ℕ} → FaultOf (IsOf p) (goes_on p) ts left → PartFault p ts left
part_fault f = record { front = f.front; token = f.token; back = f.back; split = f.split; count = f.count; viable = f.viable; dead = λ g others z. f.dead others g z }

pub of_part : {p : Part} {ts : List Token} {left : ℕ} → PartFault p ts left → FaultOf (IsOf p) (goes_on p) ts left
of_part f = record { front = f.front; token = f.token; back = f.back; split = f.split; count = f.count; viable = f.viable; dead = λ others g z. f.dead g others z }

row_fault : {ss : List Symbol} {ts : List Token} {left : ℕ} → FaultOf (λ f. Follows f ss) (stops ss) ts left → RowFault ss ts left
row_fault f = record { front = f.front; token = f.token; back = f.back; split = f.split; count = f.count; viable = f.viable; dead = λ g others z. f.dead others g z }

pub of_row : {ss : List Symbol} {ts : List Token} {left : ℕ} → RowFault ss ts left → FaultOf (λ f. Follows f ss) (stops ss) ts left
of_row f = record { front = f.front; token = f.token; back = f.back; split = f.split; count = f.count; viable = f.viable; dead = λ others g z. f.dead g others z }

-- the fault is the first token
pub at_once : {Does : Forest → Type 0} {ends : List ℕ} {ts : List Token} {left : ℕ} (codes : List ℕ) → NotTaken codes ts left → (f : Forest) (others : List Token) → Does f → Spells f others []
    → ((g : Forest) (us z : List Token) → Does g → Stops ends z → Spells g us z → starts codes us ≡ true) → FaultOf Does ends ts left
at_once codes n f others does s starting = record {
  front = [];
  token = n.token;
  back = n.back;
  split = n.split;
  count = n.count;
  viable = record { forest = f; back = others; does = does; spells = s };
  dead = λ us g z does stop s. both_ways (starts codes (n.token ∷ us)) (starting g (n.token ∷ us) z does stop s) (starts-cons codes n.token us ∙ n.misfits);
}

-- The fault is one of another kind, after some tokens: a forest of the one kind can be made one of the other, and the other way round.
pub moved : {Does Does' : Forest → Type 0} {ends ends' : List ℕ} {ts all : List Token} {left : ℕ} (used : List Token) → all ≡ used ++ ts → FaultOf Does ends ts left
    → ((front back : List Token) (g : Forest) → Does g → Spells g (front ++ back) [] → (f : Forest) × (more : List Token) × Does' f × Spells f (used ++ (front ++ more)) [])
    → ((front : List Token) (t : Token) (back others : List Token) → ts ≡ front ++ t ∷ back → ((us : List Token) → Dead Does ends (front ++ t ∷ us)) → Dead Does' ends' (used ++ (front ++ t ∷ others)))
    → FaultOf Does' ends' all left
moved used e fault up down =
    let begun = up fault.front fault.viable.back fault.viable.forest fault.viable.does fault.viable.spells in
    record {
      front = used ++ fault.front;
      token = fault.token;
      back = fault.back;
      split = e ∙ (ap (λ (v : List Token). used ++ v) fault.split ∙ sym (append_assoc used fault.front (fault.token ∷ fault.back)));
      count = fault.count;
      viable = record { forest = begun.0; back = begun.1; does = begun.2; spells = subst (λ (v : List Token). Spells begun.0 v []) (sym (append_assoc used fault.front begun.1)) begun.3 };
      dead = λ others f z does stop s.
          down fault.front fault.token fault.back others fault.split fault.dead f z does stop (subst (λ (v : List Token). Spells f v z) (append_assoc used fault.front (fault.token ∷ others)) s);
    }

-- Rows

wrong_row : (ss : List Symbol) (ts : List Token) (left : ℕ) → ready ss ≡ true → empties ss ≡ false → NotTaken (firsts ss) ts left → RowFault ss ts left
wrong_row ss ts left h full n =
    row_fault (at_once (firsts ss) n (row ss) (tokens (row ss)) (row_follows ss (right_of (sound ss) (filled ss) h)) (row_spells ss) (λ g us z does stop s. begins_full g ss us z full does s))

pub wrong_seen : (codes : List ℕ) (ss : List Symbol) (ts : List Token) (left : ℕ) → ready (Seen codes ∷ ss) ≡ true → NotTaken codes ts left → RowFault (Seen codes ∷ ss) ts left
wrong_seen codes ss ts left h n = wrong_row (Seen codes ∷ ss) ts left h refl n

pub wrong_bare : (codes : List ℕ) (ss : List Symbol) (ts : List Token) (left : ℕ) → ready (Bare codes ∷ ss) ≡ true → NotTaken codes ts left → RowFault (Bare codes ∷ ss) ts left
wrong_bare codes ss ts left h n = wrong_row (Bare codes ∷ ss) ts left h refl n

-- the fault stands after a token that was taken
pub past_seen : (codes : List ℕ) (ss : List Symbol) (ts : List Token) (t : Token) (rest : List Token) (left : ℕ) → Taken codes ts t rest → RowFault ss rest left → RowFault (Seen codes ∷ ss) ts left
past_seen codes ss ts t rest left taken fault = row_fault (moved (t ∷ []) taken.split (of_row fault) (λ front back g does s. (seen t.place t.kind g, back, (taken.fits, does), (refl, refl, s)))
    (λ front u back others e dead f z does stop s. let (g, d, s') = after_seen f codes ss t (front ++ u ∷ others) z does s in dead others g z d stop s'))

pub past_bare : (codes : List ℕ) (ss : List Symbol) (ts : List Token) (t : Token) (rest : List Token) (left : ℕ) → Taken codes ts t rest → RowFault ss rest left → RowFault (Bare codes ∷ ss) ts left
past_bare codes ss ts t rest left taken fault = row_fault (moved (t ∷ []) taken.split (of_row fault) (λ front back g does s. (bare t.kind g, back, (taken.fits, does), (refl, s)))
    (λ front u back others e dead f z does stop s. let (g, d, s') = after_bare f codes ss t (front ++ u ∷ others) z does s in dead others g z d stop s'))

-- the fault is in the first part
pub in_part : (p : Part) (ss : List Symbol) (ts : List Token) (left : ℕ) → ready (Of p ∷ ss) ≡ true → PartFault p ts left → RowFault (Of p ∷ ss) ts left
in_part p ss ts left h fault = row_fault (moved [] refl (of_part fault)
    (λ front back g is s. (
      sub g (row ss),
      back ++ tokens (row ss),
      (is, row_follows ss (right_of (sound (Of p ∷ ss)) (filled (Of p ∷ ss)) h)),
      (tokens (row ss), subst (λ (v : List Token). Spells g v (tokens (row ss))) (append_assoc front back (tokens (row ss))) (spells_append g (front ++ back) (tokens (row ss)) s), row_spells ss),
    ))
    (λ front u back others e dead f z does stop s.
    let (a, g, m, is, d, sa, sg) = after_part f p ss (front ++ u ∷ others) z does s in
    dead others a m is (stops_middle p ss g m z (left_of (sound (Of p ∷ ss)) (filled (Of p ∷ ss)) h) d sg stop) sa))

-- the fault stands after the first part
pub past_part : (p : Part) (ss : List Symbol) (a : Forest) (ts m : List Token) (left : ℕ) → ready (Of p ∷ ss) ≡ true → Parsed p a ts m → RowFault ss m left → RowFault (Of p ∷ ss) ts left
past_part p ss a ts m left h parsed fault =
    let (used, split, again) = consumed a ts m parsed.spells in
    row_fault (moved used split (of_row fault)
    (λ front back g does s. (sub a g, back, (part_follows p a m parsed.whole, does), (front ++ back, again (front ++ back), s)))
    (λ front u back others e dead f z does stop s.
    let w : List Token = front ++ u ∷ others in
    let (b, g, n, is, d, sb, sg) = after_part f p ss (used ++ w) z does s in
    let pa : Parsed p a (used ++ w) w = parsed_alike p a ts (used ++ w) m w (λ cs. begin_alike cs m front u back others e) parsed (again w) in
    let pb : Parsed p b (used ++ w) n = part_whole p b (used ++ w) n is (stops_middle p ss g n z (left_of (sound (Of p ∷ ss)) (filled (Of p ∷ ss)) h) d sg stop) sb in
    dead others g z d (stops_rest p ss z stop) (subst (λ (v : List Token). Spells g v z) (sym (law_part p a b (used ++ w) w n pa pb).1) sg)))
