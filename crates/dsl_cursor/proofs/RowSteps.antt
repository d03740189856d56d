-- A part that may be left out, and a row of parts: a token that begins one of them begins it.
use Rattle.std.proofs.Common.{◌≡◌, ℕ, List, [], ◌∷◌, Bool, true, false, cond, sym, ◌∙◌, ap, ap₂, Ok, Err}
use Rattle.dsl_cursor.specs.Words.{Stop, Token, Part, Symbol, Of, rules, Forest, nil, sub, first, empty, starts, Starts, Stops, Outcome, onto, and_then, only_part, in_row, by_rules, optional, begins_label, plain_argument, named_argument, is_arguments, read, Grows, IsItemRow}
use Rattle.dsl_cursor.proofs.{Lengths.read_shorter, ReadSteps.read_step}

-- A part that may be left out

abbrev left_out : List Token → Outcome
left_out ts = Ok (nil, ts)

optional_step : (p : Part) (ts : List Token) → is_arguments p ≡ false → empty p ≡ true → read p ts ≡ cond (starts (first p) ts) (in_row read (optional (rules p)) ts) (left_out ts)
optional_step p ts other blank =
    read_step p ts
    ∙ ap₂ (λ (a b : Bool). cond a (cond (begins_label ts) (in_row read named_argument ts) (in_row read plain_argument ts))
    (cond b (cond (starts (first p) ts) (in_row read (optional (rules p)) ts) (left_out ts)) (by_rules read (rules p) ts))) other blank

pub optional_none : (p : Part) (ts : List Token) → is_arguments p ≡ false → empty p ≡ true → Stops (first p) ts → read p ts ≡ Ok (nil, ts)
optional_none p ts other blank stop = optional_step p ts other blank ∙ ap (λ (b : Bool). cond b (in_row read (optional (rules p)) ts) (left_out ts)) stop

pub optional_some : (p : Part) (ts : List Token) → is_arguments p ≡ false → empty p ≡ true → Starts (first p) ts → read p ts ≡ in_row read (optional (rules p)) ts
optional_some p ts other blank start = optional_step p ts other blank ∙ ap (λ (b : Bool). cond b (in_row read (optional (rules p)) ts) (left_out ts)) start

-- A part and another one after it

abbrev pub pair : Part → Part → List Token → Outcome
pair p q ts = and_then (read p ts) (λ part m. onto (sub part) (onto only_part (read q m)))

pub pair_read : (p q : Part) (f g : Forest) (ts m z : List Token) → read p ts ≡ Ok (f, m) → read q m ≡ Ok (g, z) → pair p q ts ≡ Ok (sub f (sub g nil), z)
pair_read p q f g ts m z one two = ap (λ (o : Outcome). and_then o (λ part m. onto (sub part) (onto only_part (read q m)))) one ∙ ap (λ (o : Outcome). onto (sub f) (onto only_part o)) two

pub pair_first : (p q : Part) (ts : List Token) (e : Stop ℕ) → read p ts ≡ Err e → pair p q ts ≡ Err e
pair_first p q ts e one = ap (λ (o : Outcome). and_then o (λ part m. onto (sub part) (onto only_part (read q m)))) one

pub pair_second : (p q : Part) (f : Forest) (ts m : List Token) (e : Stop ℕ) → read p ts ≡ Ok (f, m) → read q m ≡ Err e → pair p q ts ≡ Err e
pair_second p q f ts m e one two = ap (λ (o : Outcome). and_then o (λ part m. onto (sub part) (onto only_part (read q m)))) one ∙ ap (λ (o : Outcome). onto (sub f) (onto only_part o)) two

-- A row of parts

row_begins : (p q : Part) (ts : List Token) → is_arguments p ≡ false → empty p ≡ true → optional (rules p) ≡ Of q ∷ Of p ∷ [] → Starts (first p) ts → read p ts ≡ pair q p ts
row_begins p q ts other blank two start = optional_some p ts other blank start ∙ ap (λ (r : List Symbol). in_row read r ts) two

abbrev pub read_so : List Token → Forest → Outcome
read_so z f = Ok (f, z)

pub part_grows : {X : Type 0} (p q : Part) (rest : List X → Forest) (item : X) (f : Forest) (ts m : List Token) → is_arguments p ≡ false → empty p ≡ true → optional (rules p) ≡ Of q ∷ Of p ∷ [] → empty q ≡ false
    → ((others : List X) → rest (item ∷ others) ≡ sub f (sub (rest others) nil)) → Starts (first p) ts → read q ts ≡ Ok (f, m) → Grows p rest ts item m
part_grows p q rest item f ts m other blank two full form start h = (
  read_shorter q ts f m full h,
  λ others end next. row_begins p q ts other blank two start ∙ (pair_read q p f (rest others) ts m end h next ∙ ap (read_so end) (sym (form others))),
  λ e next. row_begins p q ts other blank two start ∙ pair_second q p f ts m e h next,
)

pub part_stops : (p q : Part) (ts : List Token) (e : Stop ℕ) → is_arguments p ≡ false → empty p ≡ true → optional (rules p) ≡ Of q ∷ Of p ∷ [] → Starts (first p) ts → read q ts ≡ Err e → read p ts ≡ Err e
part_stops p q ts e other blank two start h = row_begins p q ts other blank two start ∙ pair_first q p ts e h

pub item_grows : {X : Type 0} (q p : Part) (item : X → Forest) (rest : List X → Forest) → IsItemRow q p item rest → (x : X) (ts m : List Token) → Starts (first p) ts → read q ts ≡ Ok (item x, m) → Grows p rest ts x m
item_grows q p item rest (other, blank, two, full, none, form) x ts m start h = part_grows p q rest x (item x) ts m other blank two full (form x) start h

pub item_stops : {X : Type 0} (q p : Part) (item : X → Forest) (rest : List X → Forest) → IsItemRow q p item rest → (ts : List Token) (e : Stop ℕ) → Starts (first p) ts → read q ts ≡ Err e → read p ts ≡ Err e
item_stops q p item rest (other, blank, two, full, none, form) ts e start h = part_stops p q ts e other blank two start h

pub items_end : {X : Type 0} (q p : Part) (item : X → Forest) (rest : List X → Forest) → IsItemRow q p item rest → (ts : List Token) → Stops (first p) ts → read p ts ≡ Ok (rest [], ts)
items_end q p item rest (other, blank, two, full, none, form) ts stop = optional_none p ts other blank stop ∙ ap (read_so ts) (sym none)
