-- What is read of a part is a forest of it, and where reading goes wrong no forest goes on.
use Rattle.std.proofs.Common.{◌≡◌, ℕ, zero, suc, List, [], ◌∷◌, ◌++◌, length, Bool, true, false, cond, refl, sym, ◌∙◌, ap, subst, inl, inr, ⊎_elim, ◌&&◌, ◌||◌, not, Result, Ok, Err}
use Rattle.std.proofs.lemmas.Bool.{false≢true}
use Rattle.dsl_cursor.specs.Words.{Stop, At, Memory, Token, code, has, Part, Symbol, Seen, Bare, Of, rules, Forest, nil, seen, bare, sub, AnyRule, first, firsts, empty, empties, sound, subset, starts, Stops, void, Whole, Parsed, Built, Taken, NotTaken, PartFault, RowFault, Outcome, onto, and_then, take, after, only_part, in_row, by_rules, optional, names, colon, begins_label, plain_argument, named_rest, named_argument, is_arguments, in_part, deep}
use Rattle.dsl_tree.proofs.{Tests.left_of, Tests.right_of, Tests.either_of, Sets.both_ways, Sets.is_false, Sets.not_true, Sets.starts-cons, Sets.Starts-subset, Begins.void_empties, Law.whole_follows, Shortest.filled, Faults.ready, Faults.wrong_seen, Faults.wrong_bare, Faults.past_seen, Faults.past_bare, Faults.in_part as fault_in_part, Faults.past_part, RuleFaults.RuleOf, RuleFaults.all_apart, RuleFaults.by_rule, Build.built_none, Build.built_seen, Build.built_bare, Build.built_part, Build.parsed_full, Build.parsed_none, FirstNames.arguments_named, FirstNames.arguments_plain, FirstNames.arguments_name, EachPart.each_part}
use Rattle.dsl_cursor.proofs.OtherRules.{by_rest, stops_both}

-- Outcomes

-- a claim of what was read and is left, and one of the token at which reading goes wrong
abbrev pub Held : {A : Type 0} → (A → List Token → Type 0) → (ℕ → Type 0) → Result (A × List Token) (Stop ℕ) → Type 0
Held P F (Ok x) = P x.0 x.1
Held P F (Err (At left)) = F left
Held P F (Err Memory) = Unit {0}

held_onto : (P Q : Forest → List Token → Type 0) (F G : ℕ → Type 0) (wrap : Forest → Forest) (o : Outcome)
    → ((f : Forest) (rest : List Token) → P f rest → Q (wrap f) rest) → ((left : ℕ) → F left → G left) → Held P F o → Held Q G (onto wrap o)
held_onto P Q F G wrap (Ok x) reads fails h = reads x.0 x.1 h
held_onto P Q F G wrap (Err (At left)) reads fails h = fails left h
held_onto P Q F G wrap (Err Memory) reads fails h = tt

held_as : (P Q : Forest → List Token → Type 0) (F G : ℕ → Type 0) (o : Outcome)
    → ((f : Forest) (rest : List Token) → P f rest → Q f rest) → ((left : ℕ) → F left → G left) → Held P F o → Held Q G o
held_as P Q F G (Ok x) reads fails h = reads x.0 x.1 h
held_as P Q F G (Err (At left)) reads fails h = fails left h
held_as P Q F G (Err Memory) reads fails h = tt

-- Tokens

abbrev pub Took : Type 0
Took = Result (Token × List Token) (Stop ℕ)

abbrev pub took : Token → List Token → Took
took t ts = Ok (t, ts)

abbrev TakenOr : List ℕ → List Token → Took → Type 0
TakenOr codes ts o = Held (λ t rest. Taken codes ts t rest) (λ left. NotTaken codes ts left) o

taken_or_not : (codes : List ℕ) (ts : List Token) → TakenOr codes ts (take codes ts)
unfolding take
taken_or_not codes [] = tt
taken_or_not codes (t ∷ ts) = go (has codes (code t.kind)) refl
  where
    go : (b : Bool) → has codes (code t.kind) ≡ b → TakenOr codes (t ∷ ts) (cond b (took t ts) (Err (At (length (t ∷ ts)))))
    go true fits = record { split = refl; fits = fits }
    go false misfits = record { token = t; back = ts; split = refl; count = refl; misfits = misfits }

pub taken : (codes : List ℕ) (ts : List Token) (t : Token) (rest : List Token) → take codes ts ≡ Ok (t, rest) → Taken codes ts t rest
taken codes ts t rest h = subst (TakenOr codes ts) h (taken_or_not codes ts)

-- Rows

-- of a rule, and of a part
abbrev RowHeld : List Symbol → List Token → Outcome → Type 0
RowHeld ss ts o = Held (λ f rest. Built ss f ts rest) (λ left. RowFault ss ts left) o

abbrev pub PartHeld : Part → List Token → Outcome → Type 0
PartHeld p ts o = Held (λ f rest. Parsed p f ts rest) (λ left. PartFault p ts left) o

abbrev Holds : (Part → List Token → Outcome) → Type 0
Holds R = (p : Part) (ts : List Token) → PartHeld p ts (R p ts)

ready_seen : (codes : List ℕ) (ss : List Symbol) → ready (Seen codes ∷ ss) ≡ true → ready ss ≡ true
ready_seen codes ss h = both (sound ss) _ (filled ss) h
  where
    both : (a b c : Bool) → (a && (b && c)) ≡ true → (a && c) ≡ true
    both true true c h = h
    both true false c h = absurd (false≢true h)
    both false b c h = absurd (false≢true h)

ready_of : (p : Part) (ss : List Symbol) → ready (Of p ∷ ss) ≡ true → ready ss ≡ true
ready_of p ss h = last _ (sound ss) (filled ss) h
  where
    last : (a b c : Bool) → ((a && b) && c) ≡ true → (b && c) ≡ true
    last true b c h = h
    last false b c h = absurd (false≢true h)

-- one row after another: what was read of the first stands before what is read of the second
row_onto : (ss rule : List Symbol) (ts m : List Token) (wrap : Forest → Forest) (o : Outcome) → ((f : Forest) (rest : List Token) → Built ss f m rest → Built rule (wrap f) ts rest)
    → ((left : ℕ) → RowFault ss m left → RowFault rule ts left) → RowHeld ss m o → RowHeld rule ts (onto wrap o)
row_onto ss rule ts m wrap o = held_onto (λ f rest. Built ss f m rest) (λ f rest. Built rule f ts rest) (λ left. RowFault ss m left) (λ left. RowFault rule ts left) wrap o

token_held : (codes : List ℕ) (ss rule : List Symbol) (ts : List Token) (wrap : Token → Forest → Forest) (next : List Token → Outcome)
    → ((t : Token) (m : List Token) (f : Forest) (rest : List Token) → Taken codes ts t m → Built ss f m rest → Built rule (wrap t f) ts rest)
    → ((t : Token) (m : List Token) (left : ℕ) → Taken codes ts t m → RowFault ss m left → RowFault rule ts left)
    → ((left : ℕ) → NotTaken codes ts left → RowFault rule ts left) → ((m : List Token) → RowHeld ss m (next m)) → RowHeld rule ts (after (take codes ts) (λ t m. onto (wrap t) (next m)))
token_held codes ss rule ts wrap next reads past wrong again = go (take codes ts) (taken_or_not codes ts)
  where
    go : (o : Took) → TakenOr codes ts o → RowHeld rule ts (after o (λ t m. onto (wrap t) (next m)))
    go (Ok (t, m)) fits = row_onto ss rule ts m (wrap t) (next m) (λ f rest. reads t m f rest fits) (λ left. past t m left fits) (again m)
    go (Err (At left)) misfits = wrong left misfits
    go (Err Memory) h = tt

row_held : (R : Part → List Token → Outcome) → Holds R → (ss : List Symbol) (ts : List Token) → ready ss ≡ true → RowHeld ss ts (in_row R ss ts)
row_held R holds [] ts ok = built_none ts
row_held R holds (Seen codes ∷ ss) ts ok =
    token_held codes ss (Seen codes ∷ ss) ts (λ t. seen t.place t.kind) (in_row R ss) (λ t m f rest. built_seen codes ss f ts t m rest) (λ t m left. past_seen codes ss ts t m left)
    (λ left. wrong_seen codes ss ts left ok) (λ m. row_held R holds ss m (ready_seen codes ss ok))
row_held R holds (Bare codes ∷ ss) ts ok =
    token_held codes ss (Bare codes ∷ ss) ts (λ t. bare t.kind) (in_row R ss) (λ t m f rest. built_bare codes ss f ts t m rest) (λ t m left. past_bare codes ss ts t m left)
    (λ left. wrong_bare codes ss ts left ok) (λ m. row_held R holds ss m (ready_seen codes ss ok))
row_held R holds (Of p ∷ []) ts ok =
    held_onto (λ f rest. Parsed p f ts rest) (λ f rest. Built (Of p ∷ []) f ts rest) (λ left. PartFault p ts left) (λ left. RowFault (Of p ∷ []) ts left) only_part (R p ts)
    (λ f rest parsed. built_part p [] f nil ts rest rest parsed (built_none rest)) (λ left. fault_in_part p [] ts left ok) (holds p ts)
row_held R holds (Of p ∷ s ∷ ss) ts ok = go (R p ts) (holds p ts) (λ m. row_held R holds (s ∷ ss) m (ready_of p (s ∷ ss) ok))
  where
    go : (o : Outcome) → PartHeld p ts o → ((m : List Token) → RowHeld (s ∷ ss) m (in_row R (s ∷ ss) m)) → RowHeld (Of p ∷ s ∷ ss) ts (and_then o (λ part m. onto (sub part) (in_row R (s ∷ ss) m)))
    go (Ok (part, m)) parsed again =
        row_onto (s ∷ ss) (Of p ∷ s ∷ ss) ts m (sub part) (in_row R (s ∷ ss) m) (λ f rest. built_part p (s ∷ ss) part f ts m rest parsed) (λ left. past_part p (s ∷ ss) part ts m left ok parsed) (again m)
    go (Err (At left)) fault again = fault_in_part p (s ∷ ss) ts left ok fault
    go (Err Memory) h again = tt

-- Parts

-- the tests of the tables on which reading rests
abbrev all_full : List (List Symbol) → Bool
all_full [] = true
all_full (r ∷ rs) = not (empties r) && all_full rs

abbrev all_ready : List (List Symbol) → Bool
all_ready [] = true
all_ready (r ∷ rs) = ready r && all_ready rs

-- the part begins with what its rules begin with, or with some codes of others
abbrev covered : Part → List ℕ → List (List Symbol) → Bool
covered p before [] = false
covered p before (r ∷ []) = subset (first p) (firsts r ++ before)
covered p before (r ∷ s ∷ rs) = covered p (firsts r ++ before) (s ∷ rs)

abbrev is_optional : Part → List (List Symbol) → Bool
is_optional p ([] ∷ r ∷ []) = not (empties r) && subset (first p) (firsts r)
is_optional p _ = false

abbrev is_readable : Part → Bool
is_readable p =
    all_ready (rules p) && (is_arguments p || (all_apart (rules p) && cond (empty p) (is_optional p (rules p)) (all_full (rules p) && covered p [] (rules p))))

readable : (p : Part) → is_readable p ≡ true
readable = each_part is_readable refl

-- a rule that isn't empty has a forest of some tokens
full_forest : (f : Forest) (r : List Symbol) (z : List Token) → empties r ≡ false → Whole f r z → void f ≡ false
full_forest f r z full w = is_false (void f) (λ v. both_ways (empties r) (void_empties f r (whole_follows f r z w) v) full)

full_part : (p : Part) (r : List Symbol) (f : Forest) (ts rest : List Token) → RuleOf p r → empties r ≡ false → Built r f ts rest → Parsed p f ts rest
full_part p r f ts rest rule full built = parsed_full p r f ts rest rule (full_forest f r rest full built.whole) built

-- a part by one of its rules, if a fault of the rule is one of the part
by_row : (R : Part → List Token → Outcome) → Holds R → (p : Part) (r : List Symbol) (ts : List Token) → RuleOf p r → empties r ≡ false → ready r ≡ true
    → ((left : ℕ) → RowFault r ts left → PartFault p ts left) → PartHeld p ts (in_row R r ts)
by_row R holds p r ts rule full ok faults =
    held_as (λ f rest. Built r f ts rest) (λ f rest. Parsed p f ts rest) (λ left. RowFault r ts left) (λ left. PartFault p ts left) (in_row R r ts) (λ f rest. full_part p r f ts rest rule full) faults (row_held R holds r ts ok)

-- the rules in a list are of the part
abbrev AllOf : Part → List (List Symbol) → Type 0
AllOf p rs = (r : List Symbol) → AnyRule rs (λ s. s ≡ r) → RuleOf p r

order_held : (R : Part → List Token → Outcome) → Holds R → (p : Part) → empty p ≡ false → all_apart (rules p) ≡ true → (rs : List (List Symbol)) → AllOf p rs → all_full rs ≡ true → all_ready rs ≡ true
    → (before : List ℕ) → covered p before rs ≡ true → (ts : List Token) → Stops before ts → PartHeld p ts (by_rules R rs ts)
order_held R holds p blank tells [] of full ok before cover ts stop = tt
order_held R holds p blank tells (r ∷ []) of full ok before cover ts stop =
    let some : empties r ≡ false = not_true (empties r) (left_of (not (empties r)) true full) in
    by_row R holds p r ts (of r (inl refl)) some (left_of (ready r) true ok) (λ left. by_rest p r before ts left (of r (inl refl)) tells blank some cover stop)
order_held R holds p blank tells (r ∷ s ∷ rs) of full ok before cover ts stop =
    go (starts (firsts r) ts) refl
    (λ miss. order_held R holds p blank tells (s ∷ rs) (λ x any. of x (inr any)) (right_of (not (empties r)) (all_full (s ∷ rs)) full) (right_of (ready r) (all_ready (s ∷ rs)) ok) (firsts r ++ before) cover ts
    (stops_both (firsts r) before ts miss stop))
  where
    go : (b : Bool) → starts (firsts r) ts ≡ b → (Stops (firsts r) ts → PartHeld p ts (by_rules R (s ∷ rs) ts)) → PartHeld p ts (cond b (in_row R r ts) (by_rules R (s ∷ rs) ts))
    go true start others =
        by_row R holds p r ts (of r (inl refl)) (not_true (empties r) (left_of (not (empties r)) (all_full (s ∷ rs)) full)) (left_of (ready r) (all_ready (s ∷ rs)) ok) (λ left. by_rule p r ts left (of r (inl refl)) tells start)
    go false miss others = others miss

-- a part that may be left out
abbrev Optional : Part → List (List Symbol) → Type 0
Optional p rs = AnyRule rs (λ s. s ≡ []) × AnyRule rs (λ s. s ≡ optional rs) × (empties (optional rs) ≡ false) × (subset (first p) (firsts (optional rs)) ≡ true)

optional_rules : (p : Part) (rs : List (List Symbol)) → is_optional p rs ≡ true → Optional p rs
optional_rules p ([] ∷ r ∷ []) h = (
  inl refl,
  inr (inl refl),
  not_true (empties r) (left_of (not (empties r)) (subset (first p) (firsts r)) h),
  right_of (not (empties r)) (subset (first p) (firsts r)) h,
)
optional_rules p [] h = absurd (cc)
optional_rules p ([] ∷ []) h = absurd (cc)
optional_rules p ((x ∷ xs) ∷ rs) h = absurd (cc)
optional_rules p ([] ∷ r ∷ s ∷ rs) h = absurd (cc)

rule_ready : (rs : List (List Symbol)) (r : List Symbol) → all_ready rs ≡ true → AnyRule rs (λ s. s ≡ r) → ready r ≡ true
rule_ready [] r ok any = absurd any
rule_ready (s ∷ rs) r ok (inl e) = subst (λ (x : List Symbol). ready x ≡ true) e (left_of (ready s) (all_ready rs) ok)
rule_ready (s ∷ rs) r ok (inr any) = rule_ready rs r (right_of (ready s) (all_ready rs) ok) any

abbrev left_out : List Token → Outcome
left_out ts = Ok (nil, ts)

optional_held : (R : Part → List Token → Outcome) → Holds R → (p : Part) → Optional p (rules p) → all_apart (rules p) ≡ true → all_ready (rules p) ≡ true
    → (ts : List Token) → PartHeld p ts (cond (starts (first p) ts) (in_row R (optional (rules p)) ts) (left_out ts))
optional_held R holds p (none, rule, full, within) tells ok ts = go (starts (first p) ts) refl
  where
    go : (b : Bool) → starts (first p) ts ≡ b → PartHeld p ts (cond b (in_row R (optional (rules p)) ts) (left_out ts))
    go true start =
        by_row R holds p (optional (rules p)) ts rule full (rule_ready (rules p) (optional (rules p)) ok rule)
        (λ left. by_rule p (optional (rules p)) ts left rule tells (Starts-subset (first p) (firsts (optional (rules p))) ts within start))
    go false stop = parsed_none p ts none stop

-- Arguments

arguments_only : (p : Part) → is_arguments p ≡ true → p ≡ Part.Arguments
arguments_only Part.Arguments h = refl
arguments_only _ h = absurd (false≢true h)

pub take_first : (codes : List ℕ) (t : Token) (ts : List Token) → has codes (code t.kind) ≡ true → take codes (t ∷ ts) ≡ took t ts
unfolding take
take_first codes t ts h = ap (λ (b : Bool). cond b (took t ts) (Err (At (length (t ∷ ts))))) h

first_taken : (codes : List ℕ) (t : Token) (ts : List Token) → has codes (code t.kind) ≡ true → Taken codes (t ∷ ts) t ts
first_taken codes t ts h = record { split = refl; fits = h }

-- what stands after a name and its colon
abbrev behind_colon : (Part → List Token → Outcome) → Took → Outcome
behind_colon R o = after o (λ u m. onto (bare u.kind) (in_row R named_rest m))

labelled_held : (R : Part → List Token → Outcome) → Holds R → (ts : List Token) → begins_label ts ≡ true → PartHeld Part.Arguments ts (in_row R named_argument ts)
unfolding begins_label
labelled_held R holds (t ∷ u ∷ vs) b =
    let one : Taken names (t ∷ u ∷ vs) t (u ∷ vs) = first_taken names t (u ∷ vs) (left_of (has names (code t.kind)) (has colon (code u.kind)) b) in
    let two : Taken colon (u ∷ vs) u vs = first_taken colon u vs (right_of (has names (code t.kind)) (has colon (code u.kind)) b) in
    subst (λ (o : Took). PartHeld Part.Arguments (t ∷ u ∷ vs) (after o (λ x m. onto (seen x.place x.kind) (behind_colon R (take colon m))))) (sym (take_first names t (u ∷ vs) one.fits))
    (subst (λ (o : Took). PartHeld Part.Arguments (t ∷ u ∷ vs) (onto (seen t.place t.kind) (behind_colon R o))) (sym (take_first colon u vs two.fits))
    (held_onto (λ f rest. Built named_after f (u ∷ vs) rest) (λ f rest. Parsed Part.Arguments f (t ∷ u ∷ vs) rest) (λ left. RowFault named_rest vs left) (λ left. PartFault Part.Arguments (t ∷ u ∷ vs) left) (seen t.place t.kind) (onto (bare u.kind) (in_row R named_rest vs))
    (λ f rest built. full_part Part.Arguments named_argument (seen t.place t.kind f) (t ∷ u ∷ vs) rest (inr (inl refl)) refl (built_seen names named_after f (t ∷ u ∷ vs) t (u ∷ vs) rest one built))
    (λ left. arguments_named (t ∷ u ∷ vs) t (u ∷ vs) u vs left one two)
    (held_onto (λ f rest. Built named_rest f vs rest) (λ f rest. Built named_after f (u ∷ vs) rest) (λ left. RowFault named_rest vs left) (λ left. RowFault named_rest vs left) (bare u.kind) (in_row R named_rest vs)
    (λ f rest. built_bare colon named_rest f (u ∷ vs) u vs rest two) (λ left fault. fault) (row_held R holds named_rest vs refl))))
  where
    named_after : List Symbol
    named_after = Bare colon ∷ named_rest
labelled_held R holds [] b = absurd (cc)
labelled_held R holds (t ∷ []) b = absurd (cc)

plain_fault : (ts : List Token) (left : ℕ) → begins_label ts ≡ false → RowFault plain_argument ts left → PartFault Part.Arguments ts left
unfolding begins_label
plain_fault [] left b fault = arguments_plain [] left refl fault
plain_fault (t ∷ []) left b fault = go (has names (code t.kind)) refl
  where
    go : (b : Bool) → has names (code t.kind) ≡ b → PartFault Part.Arguments (t ∷ []) left
    go true h = arguments_name (t ∷ []) t [] left (first_taken names t [] h) refl fault
    go false h = arguments_plain (t ∷ []) left (starts-cons names t [] ∙ h) fault
plain_fault (t ∷ u ∷ vs) left b fault = go (has names (code t.kind)) refl b
  where
    go : (c : Bool) → has names (code t.kind) ≡ c → (c && has colon (code u.kind)) ≡ false → PartFault Part.Arguments (t ∷ u ∷ vs) left
    go true h e = arguments_name (t ∷ u ∷ vs) t (u ∷ vs) left (first_taken names t (u ∷ vs) h) (starts-cons colon u vs ∙ e) fault
    go false h e = arguments_plain (t ∷ u ∷ vs) left (starts-cons names t (u ∷ vs) ∙ h) fault

arguments_held : (R : Part → List Token → Outcome) → Holds R → (ts : List Token) → PartHeld Part.Arguments ts (cond (begins_label ts) (in_row R named_argument ts) (in_row R plain_argument ts))
arguments_held R holds ts = go (begins_label ts) refl
  where
    go : (b : Bool) → begins_label ts ≡ b → PartHeld Part.Arguments ts (cond b (in_row R named_argument ts) (in_row R plain_argument ts))
    go true label = labelled_held R holds ts label
    go false plain = by_row R holds Part.Arguments plain_argument ts (inl refl) refl refl (λ left. plain_fault ts left plain)

-- All parts

-- what the tests say of a part that isn't `Arguments`
abbrev others : Part → Bool
others p = all_apart (rules p) && cond (empty p) (is_optional p (rules p)) (all_full (rules p) && covered p [] (rules p))

not_arguments : (p : Part) → is_arguments p ≡ false → others p ≡ true
not_arguments p e =
    ⊎_elim (λ h. both_ways (is_arguments p) h e) (λ h. h)
    (either_of (is_arguments p) (others p) (right_of (all_ready (rules p)) (is_arguments p || others p) (readable p)))

abbrev in_other : (Part → List Token → Outcome) → Part → List Token → Outcome
in_other R p ts = cond (empty p) (cond (starts (first p) ts) (in_row R (optional (rules p)) ts) (left_out ts)) (by_rules R (rules p) ts)

other_held : (R : Part → List Token → Outcome) → Holds R → (p : Part) → all_ready (rules p) ≡ true → others p ≡ true → (ts : List Token) → PartHeld p ts (in_other R p ts)
other_held R holds p filled ok ts = go (empty p) refl (right_of (all_apart (rules p)) _ ok)
  where
    tells : all_apart (rules p) ≡ true
    tells = left_of (all_apart (rules p)) _ ok

    go : (b : Bool) → empty p ≡ b → cond b (is_optional p (rules p)) (all_full (rules p) && covered p [] (rules p)) ≡ true
        → PartHeld p ts (cond b (cond (starts (first p) ts) (in_row R (optional (rules p)) ts) (left_out ts)) (by_rules R (rules p) ts))
    go true e ok = optional_held R holds p (optional_rules p (rules p) ok) tells filled ts
    go false e ok =
        order_held R holds p e tells (rules p) (λ r any. any) (left_of (all_full (rules p)) (covered p [] (rules p)) ok) filled [] (right_of (all_full (rules p)) (covered p [] (rules p)) ok) ts refl

part_held : (R : Part → List Token → Outcome) → Holds R → (p : Part) (ts : List Token) → PartHeld p ts (in_part R p ts)
part_held R holds p ts = go (is_arguments p) refl
  where
    go : (b : Bool) → is_arguments p ≡ b → PartHeld p ts (cond b (cond (begins_label ts) (in_row R named_argument ts) (in_row R plain_argument ts)) (in_other R p ts))
    go true e = subst (λ (q : Part). PartHeld q ts (cond (begins_label ts) (in_row R named_argument ts) (in_row R plain_argument ts))) (sym (arguments_only p e)) (arguments_held R holds ts)
    go false e = other_held R holds p (left_of (all_ready (rules p)) _ (readable p)) (not_arguments p e) ts

pub deep_held : (n : ℕ) (p : Part) (ts : List Token) → PartHeld p ts (deep n p ts)
deep_held zero p ts = tt
deep_held (suc n) p ts = part_held (deep n) (deep_held n) p ts
