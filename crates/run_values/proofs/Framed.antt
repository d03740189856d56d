-- What is within the limits of a scene.
use Rattle.std.proofs.Common.{◌≡◌, ◌∙◌, refl, sym, ap, subst, arith, true≢false, ℕ, ◌+◌, ◌*◌, ◌-◌, ◌<◌, ◌≤◌, List, [], ◌∷◌, ◌++◌, ◌&&◌, ◌||◌, Bool, true, false, cond, not, Option, Some, None, map, length, unsigned_abs}
use Rattle.std.proofs.Math.Nat.{mul_comm, mul-le-mul_right, mul-le-mul_left}
use Rattle.std.specs.Prelude.{ℤ, pos, ◌*ℤ◌, ◌-ℤ◌, int_le, ◌≤ℤ◌, nat_eq, nat_le, nat_lt, find, is_some, option_map, option_and_then, position, bytes_eq, neg_ℤ}
use Rattle.std.proofs.lemmas.Int.{unsigned_abs-mul, ints}
use Rattle.std.proofs.lemmas.List.Quantifiers.{position-Some}
use Rattle.std.specs.Option.{option_map_or}
use Rattle.std.specs.List.{list_all, list_any}
use Rattle.osc_base.specs.declared.path.Path.{Path}
use Rattle.osc_base.specs.declared.sample.Sample.{Sample}
use Rattle.osc_base.specs.Comparisons.{same_number}
use Rattle.osc_base.specs.Paths.{same_path}
use Rattle.expr_value.specs.expr_nodes.Sizes.{Size, field_reach, duration_reach, duration_scale, duration_size, field_size, is_wide}
use Rattle.expr_value.specs.expr_nodes.Sound.{has_size, each_read, each_read_of}
use Rattle.expr_value.specs.expr_nodes.Typed.{Typed, Info, Constant, Read, Whole, Listed, Span, Minus, Not, Sum, Times, And, Or, Implies, Relation, Within, TypedRow, End, Item}
use Rattle.field_flatten.specs.composition.declared.clause.Clause.{Clause}
use Rattle.field_flatten.specs.composition.declared.setting.Setting.{Setting}
use Rattle.field_flatten.specs.composition.declared.run.Held.{Held}
use Rattle.field_flatten.specs.composition.declared.run.Choice.{Choice}
use Rattle.field_flatten.specs.composition.declared.run.Value.{Value}
use Rattle.field_flatten.specs.composition.declared.run.Trace.{Trace}
use Rattle.field_flatten.specs.composition.declared.run.Span as run_span
use Rattle.field_flatten.specs.composition.declared.spot.ValueRange.{ValueRange}
use Rattle.field_flatten.specs.composition.declared.spot.ValueSpot.{ValueSpot}
use Rattle.field_flatten.specs.composition.declared.run.Run.{Run}
use Rattle.field_flatten.specs.composition.RunParts.{span_in, held_in, samples_in}
use Rattle.field_flatten.specs.composition.Scenes.{Scene, Source, OfRun, OfPhase, OfValue, source, values}
use Rattle.field_flatten.specs.composition.Claims.{Claim, claim, ends_with_root_do, choice_in_range, value_in_range, span_in_range, sample_in_range}
use Rattle.field_flatten.specs.composition.Ranges.{in_range, lies_between}
use Rattle.field_flatten.specs.composition.Numbers.{number_at, number_from, number_of, text_number, thousandths}
use Rattle.field_flatten.specs.composition.Invariants.{is_small, is_range, is_read, value_at}
use Rattle.field_flatten.proofs.of_composition.Settings.{setting_is}
use Rattle.run_values.specs.Frames.{IsWithin}

-- ---- conjunctions

left_of : (a b : Bool) → a && b ≡ true → a ≡ true
left_of true b h = refl
left_of false b h = h

right_of : (a b : Bool) → a && b ≡ true → b ≡ true
right_of true b h = h
right_of false b h = absurd (true≢false (sym h))

le_nat : (a b : ℕ) → nat_le a b ≡ true → a ≤ b
le_nat a b h = grind (arith, h)

eq_nat : (a b : ℕ) → nat_eq a b ≡ true → a ≡ b
eq_nat a b h = grind (arith, h)

le_of : (a b : ℤ) → int_le a b ≡ true → a ≤ℤ b
le_of a b h = grind (arith, ints, h)

-- ---- lists of claims

all_left : {A : Type 0} (t : A → Bool) (xs ys : List A) → list_all t (xs ++ ys) ≡ true → list_all t xs ≡ true
all_left t [] ys h = refl
all_left t (x ∷ xs) ys h = by (t x) h (all_left t xs ys)
  where
    by : (b : Bool) → b && list_all t (xs ++ ys) ≡ true → (list_all t (xs ++ ys) ≡ true → list_all t xs ≡ true) → b && list_all t xs ≡ true
    by true e f = f e
    by false e f = e

all_right : {A : Type 0} (t : A → Bool) (xs ys : List A) → list_all t (xs ++ ys) ≡ true → list_all t ys ≡ true
all_right t [] ys h = h
all_right t (x ∷ xs) ys h = all_right t xs ys (right_of (t x) (list_all t (xs ++ ys)) h)

-- what holds of all holds of the first that is found
found_holds : {A B : Type 0} (make : A → B) (t : B → Bool) (p : A → Bool) (xs : List A) (x : A) → list_all t (map make xs) ≡ true → find p xs ≡ Some x → t (make x) ≡ true
found_holds make t p [] x h e = cc
found_holds {A} make t p (y ∷ ys) x h e = by (p y) e (found_holds make t p ys x (right_of (t (make y)) (list_all t (map make ys)) h))
  where
    some_is : (a b : A) → Some a ≡ Some b → a ≡ b
    some_is a b q = cc

    by : (b : Bool) → cond b (Some y) (find p ys) ≡ Some x → (find p ys ≡ Some x → t (make x) ≡ true) → t (make x) ≡ true
    by true g f = ap (λ z. t (make z)) (sym (some_is y x g)) ∙ left_of (t (make y)) (list_all t (map make ys)) h
    by false g f = f g

module _ (scene : Scene) (run : Run) (is : IsWithin scene run) where
  abbrev choice_row : List Claim
  choice_row = map (λ (c : Choice). claim Clause.Bounds c.path (choice_in_range scene c)) run.choices

  abbrev value_row : List Claim
  value_row = map (λ (v : Value). claim Clause.Bounds v.path (value_in_range scene v)) run.values

  abbrev span_row : List Claim
  span_row = map (λ (s : run_span.Span). claim Clause.Bounds s.path (span_in_range scene.setting s)) run.phases

  abbrev trace_row : List Claim
  trace_row = map (λ (t : Trace). claim Clause.Bounds t.path (list_all (sample_in_range scene.setting) t.samples)) run.traces

  abbrev holds_in : Claim → Bool
  holds_in c = c.holds

  spans_hold : list_all holds_in span_row ≡ true
  spans_hold = all_right holds_in (choice_row ++ value_row) span_row (all_left holds_in (choice_row ++ value_row ++ span_row) trace_row is.bounded)

  values_hold : list_all holds_in value_row ≡ true
  values_hold = all_right holds_in choice_row value_row (all_left holds_in (choice_row ++ value_row) span_row (all_left holds_in (choice_row ++ value_row ++ span_row) trace_row is.bounded))

  traces_hold : list_all holds_in trace_row ≡ true
  traces_hold = all_right holds_in (choice_row ++ value_row ++ span_row) trace_row is.bounded

  -- the samples that a run lists are in range
  pub samples_hold : (vehicle : Path) (samples : List Sample) → samples_in run vehicle ≡ Some samples → list_all (sample_in_range scene.setting) samples ≡ true
  samples_hold vehicle samples e = by (find (λ (t : Trace). same_path t.path vehicle) run.traces) refl e
    where
      some_samples : (a b : List Sample) → Some a ≡ Some b → a ≡ b
      some_samples a b h = cc

      by : (o : Option Trace) → find (λ (t : Trace). same_path t.path vehicle) run.traces ≡ o → option_map (λ (t : Trace). t.samples) o ≡ Some samples
          → list_all (sample_in_range scene.setting) samples ≡ true
      by None f g = cc
      by (Some t) f g =
          subst (λ (ss : List Sample). list_all (sample_in_range scene.setting) ss ≡ true) (some_samples t.samples samples g)
          (found_holds (λ (u : Trace). claim Clause.Bounds u.path (list_all (sample_in_range scene.setting) u.samples)) holds_in (λ (u : Trace). same_path u.path vehicle) run.traces t traces_hold f)

  -- ---- durations

  abbrev the_setting : Setting
  the_setting = scene.setting

  same_tick : run.tick ≡ the_setting.tick
  same_tick = eq_nat run.tick the_setting.tick (left_of (nat_eq run.tick the_setting.tick) (nat_le run.end the_setting.ticks && ends_with_root_do scene run) is.ended)

  end_small : run.end ≤ the_setting.ticks
  end_small =
      le_nat run.end the_setting.ticks (left_of (nat_le run.end the_setting.ticks) (ends_with_root_do scene run)
      (right_of (nat_eq run.tick the_setting.tick) (nat_le run.end the_setting.ticks && ends_with_root_do scene run) is.ended))

  longest : the_setting.ticks * the_setting.tick ≤ duration_reach
  longest = (setting_is the_setting is.is_scene.setting).short

  -- no tick up to the last is longer off than a duration may be
  pub off : (t : ℕ) → t ≤ the_setting.ticks → run.tick * t ≤ duration_reach
  off t h =
      let e : run.tick * t ≡ t * the_setting.tick = ap (λ k. k * t) same_tick ∙ mul_comm the_setting.tick t in
      let m : t * the_setting.tick ≤ the_setting.ticks * the_setting.tick = mul-le-mul_right the_setting.tick h in
      omega (arith, e, m, longest)

  pub end_off : run.tick * run.end ≤ duration_reach
  end_off = off run.end end_small

  pub record IsSpan (s : run_span.Span) : Type 0 where
    pub ordered : s.start ≤ s.end
    pub small : run.tick * s.end ≤ duration_reach

  pub span_is : (phase : Path) (s : run_span.Span) → span_in run phase ≡ Some s → IsSpan s
  span_is phase s e =
      let h = found_holds (λ (t : run_span.Span). claim Clause.Bounds t.path (span_in_range the_setting t)) holds_in (λ (t : run_span.Span). same_path t.path phase) run.phases s spans_hold e in
      record {
        ordered = le_nat s.start s.end (left_of (nat_le s.start s.end) (nat_le s.end the_setting.ticks) h);
        small = off s.end (le_nat s.end the_setting.ticks (right_of (nat_le s.start s.end) (nat_le s.end the_setting.ticks) h));
      }

-- ---- how large numbers are

-- what is over a span of ticks is no more than what is up to its end
over_ticks : (tick start end m : ℕ) → start ≤ end → tick * end ≤ m → unsigned_abs (thousandths tick (pos start) (pos end)) ≤ m
over_ticks tick start end m h k =
    let product : unsigned_abs (pos tick *ℤ (pos end -ℤ pos start)) ≡ tick * unsigned_abs (pos end -ℤ pos start) = unsigned_abs-mul (pos tick) (pos end -ℤ pos start) in
    let less : unsigned_abs (pos end -ℤ pos start) ≤ end = omega (arith, ints, h) in
    let over : tick * unsigned_abs (pos end -ℤ pos start) ≤ tick * end = mul-le-mul_left tick less in
    omega (arith, product, over, k)

small_is : (z : ℤ) → is_small z ≡ true → unsigned_abs z ≤ field_reach
small_is z h =
    within z
    (le_of (neg_ℤ (pos field_reach)) z (left_of (int_le (neg_ℤ (pos field_reach)) z) (int_le z (pos field_reach)) h))
    (le_of z (pos field_reach) (right_of (int_le (neg_ℤ (pos field_reach)) z) (int_le z (pos field_reach)) h))
  where
    within : (y : ℤ) → neg_ℤ (pos field_reach) ≤ℤ y → y ≤ℤ pos field_reach → unsigned_abs y ≤ field_reach
    within y p q = omega (arith, ints, p, q)

-- a number between small ones is small
between_small : (low high z : ℤ) → is_small low ≡ true → is_small high ≡ true → lies_between low high z ≡ true → unsigned_abs z ≤ field_reach
between_small low high z p q h =
    within low high z
    (le_of (neg_ℤ (pos field_reach)) low (left_of (int_le (neg_ℤ (pos field_reach)) low) (int_le low (pos field_reach)) p))
    (le_of high (pos field_reach) (right_of (int_le (neg_ℤ (pos field_reach)) high) (int_le high (pos field_reach)) q))
    (le_of low z (left_of (int_le low z) (int_le z high) h))
    (le_of z high (right_of (int_le low z) (int_le z high) h))
  where
    within : (a b y : ℤ) → neg_ℤ (pos field_reach) ≤ℤ a → b ≤ℤ pos field_reach → a ≤ℤ y → y ≤ℤ b → unsigned_abs y ≤ field_reach
    within a b y e f g k = omega (arith, ints, e, f, g, k)

number_is : (a b : ℤ) → same_number a b ≡ true → a ≡ b
number_is a b h = by a b (le_of a b (left_of (int_le a b) (int_le b a) h)) (le_of b a (right_of (int_le a b) (int_le b a) h))
  where
    by : (x y : ℤ) → x ≤ℤ y → y ≤ℤ x → x ≡ y
    by x y p q = omega (arith, ints, p, q)

among_small : (z : ℤ) (numbers : List ℤ) → list_all is_small numbers ≡ true → list_any (same_number z) numbers ≡ true → unsigned_abs z ≤ field_reach
among_small z [] h e = absurd (true≢false (sym e))
among_small z (n ∷ ns) h e = by (same_number z n) refl e (among_small z ns (right_of (is_small n) (list_all is_small ns) h))
  where
    here : same_number z n ≡ true → unsigned_abs z ≤ field_reach
    here s = subst (λ y. unsigned_abs y ≤ field_reach) (sym (number_is z n s)) (small_is n (left_of (is_small n) (list_all is_small ns) h))

    by : (b : Bool) → same_number z n ≡ b → b || list_any (same_number z) ns ≡ true → (list_any (same_number z) ns ≡ true → unsigned_abs z ≤ field_reach) → unsigned_abs z ≤ field_reach
    by true s g f = here s
    by false s g f = f g

some_number : (a b : ℤ) → Some a ≡ Some b → a ≡ b
some_number a b h = cc

place_small : (texts : List (List ℕ)) (text : List ℕ) (n : ℤ) → length texts ≤ field_reach → option_map pos (text_number texts text) ≡ Some n → unsigned_abs n ≤ field_reach
place_small texts text n few e = by (text_number texts text) refl e
  where
    by : (o : Option ℕ) → text_number texts text ≡ o → option_map pos o ≡ Some n → unsigned_abs n ≤ field_reach
    by None f g = cc
    by (Some k) f g =
        let below : k < length texts = (position-Some (bytes_eq text) texts k [] f).0 in
        let less : k ≤ field_reach = omega (arith, below, few) in
        subst (λ y. unsigned_abs y ≤ field_reach) (some_number (pos k) n g) less

-- what a field may hold is small
held_small : (texts : List (List ℕ)) (range : ValueRange) (held : Held) (n : ℤ) → length texts ≤ field_reach → is_range range ≡ true → in_range texts range held ≡ true
    → number_of texts held ≡ Some n → unsigned_abs n ≤ field_reach
held_small texts (ValueRange.Between low high) (Held.Number m) n few r i e =
    subst (λ y. unsigned_abs y ≤ field_reach) (some_number m n e)
    (between_small low high m
    (left_of (is_small low) (is_small high) (right_of (int_le low high) (is_small low && is_small high) r))
    (right_of (is_small low) (is_small high) (right_of (int_le low high) (is_small low && is_small high) r)) i)
held_small texts (ValueRange.Between low high) (Held.Chars text) n few r i e = absurd (true≢false (sym i))
held_small texts (ValueRange.Among numbers) (Held.Number m) n few r i e =
    subst (λ y. unsigned_abs y ≤ field_reach) (some_number m n e) (among_small m numbers (right_of (nat_lt 0 (length numbers)) (list_all is_small numbers) r) i)
held_small texts (ValueRange.Among numbers) (Held.Chars text) n few r i e = absurd (true≢false (sym i))
held_small texts ValueRange.Chars (Held.Number m) n few r i e = absurd (true≢false (sym i))
held_small texts ValueRange.Chars (Held.Chars text) n few r i e = place_small texts text n few e

-- what passes a test passes it if it is found
found_passes : {A : Type 0} (t p : A → Bool) (xs : List A) (x : A) → list_all t xs ≡ true → find p xs ≡ Some x → t x ≡ true
found_passes t p [] x h e = cc
found_passes {A} t p (y ∷ ys) x h e = by (p y) e (found_passes t p ys x (right_of (t y) (list_all t ys) h))
  where
    some_is : (a b : A) → Some a ≡ Some b → a ≡ b
    some_is a b q = cc

    by : (b : Bool) → cond b (Some y) (find p ys) ≡ Some x → (find p ys ≡ Some x → t x ≡ true) → t x ≡ true
    by true g f = ap t (sym (some_is y x g)) ∙ left_of (t y) (list_all t ys) h
    by false g f = f g

module _ (scene : Scene) (run : Run) (is : IsWithin scene run) where
  -- a value that the run holds is small
  value_small : (v : Value) (n : ℤ) → value_in_range scene v ≡ true → number_of scene.texts v.held ≡ Some n → unsigned_abs n ≤ field_reach
  value_small v n h e = by (find (λ (spot : ValueSpot). same_path spot.path v.path) (values scene)) refl h
    where
      by : (o : Option ValueSpot) → find (λ (spot : ValueSpot). same_path spot.path v.path) (values scene) ≡ o
          → option_map_or (λ (spot : ValueSpot). in_range scene.texts spot.range v.held) o false ≡ true → unsigned_abs n ≤ field_reach
      by None f g = absurd (true≢false (sym g))
      by (Some spot) f g =
          held_small scene.texts spot.range v.held n (le_nat (length scene.texts) field_reach is.few_texts)
          (found_passes (λ (w : ValueSpot). is_range w.range) (λ (w : ValueSpot). same_path w.path v.path) (values scene) spot is.is_scene.ranges f) g e

  pub number_small : (path : Path) (n : ℤ) → option_and_then (number_of scene.texts) (held_in run path) ≡ Some n → unsigned_abs n ≤ field_reach
  number_small path n e = by (find (λ (v : Value). same_path v.path path) run.values) refl e
    where
      by : (o : Option Value) → find (λ (v : Value). same_path v.path path) run.values ≡ o
          → option_and_then (number_of scene.texts) (option_map (λ (v : Value). v.held) o) ≡ Some n → unsigned_abs n ≤ field_reach
      by None f g = cc
      by (Some v) f g =
          value_small v n
          (found_holds (λ (w : Value). claim Clause.Bounds w.path (value_in_range scene w)) (λ (c : Claim). c.holds) (λ (w : Value). same_path w.path path) run.values v (values_hold scene run is) f)
          g

  -- ---- what an expression reads is within reach

  reaches : (i : Info) (m : ℕ) (o : Option ℤ) → i.reach ≡ m → ((n : ℤ) → o ≡ Some n → unsigned_abs n ≤ m) → option_map_or (λ n. not (nat_lt i.reach (unsigned_abs n))) o true ≡ true
  reaches i m None e f = refl
  reaches i m (Some n) e f = ap (λ r. not (nat_lt r (unsigned_abs n))) e ∙ over m (unsigned_abs n) (f n refl)
    where
      over : (a b : ℕ) → b ≤ a → not (nat_lt a b) ≡ true
      over a b h = grind arith

  reach_of : (i : Info) (s : Size) → has_size i s ≡ true → i.reach ≡ s.reach
  reach_of i s h = eq_nat i.reach s.reach (right_of (nat_eq i.scale s.scale) (nat_eq i.reach s.reach) (left_of (nat_eq i.scale s.scale && nat_eq i.reach s.reach) (not (is_wide s)) h))

  span_small : (phase : Path) (n : ℤ) → option_map (λ (s : run_span.Span). thousandths run.tick (pos s.start) (pos s.end)) (span_in run phase) ≡ Some n → unsigned_abs n ≤ duration_reach
  span_small phase n e = by (span_in run phase) refl e
    where
      by : (o : Option run_span.Span) → span_in run phase ≡ o → option_map (λ (s : run_span.Span). thousandths run.tick (pos s.start) (pos s.end)) o ≡ Some n → unsigned_abs n ≤ duration_reach
      by None f g = cc
      by (Some s) f g =
          let h = span_is scene run is phase s f in
          subst (λ y. unsigned_abs y ≤ duration_reach) (some_number (thousandths run.tick (pos s.start) (pos s.end)) n g) (over_ticks run.tick s.start s.end duration_reach h.ordered h.small)

  pub read_within : (i : Info) (path : Path) (per : ℕ) → is_read scene i path per (source scene path) ≡ true
      → option_map_or (λ n. not (nat_lt i.reach (unsigned_abs n))) (number_at scene run path) true ≡ true
  read_within i path per = by (source scene path)
    where
      by : (s : Source) → is_read scene i path per s ≡ true → option_map_or (λ n. not (nat_lt i.reach (unsigned_abs n))) (number_from scene run path s) true ≡ true
      by OfRun h =
          reaches i duration_reach (Some (thousandths run.tick (pos 0) (pos run.end))) (reach_of i duration_size (right_of (nat_eq per duration_scale) (has_size i duration_size) h))
          (λ n e. subst (λ y. unsigned_abs y ≤ duration_reach) (some_number (thousandths run.tick (pos 0) (pos run.end)) n e) (over_ticks run.tick 0 run.end duration_reach (omega arith) (end_off scene run is)))
      by (OfPhase phase) h =
          reaches i duration_reach (number_from scene run path (OfPhase phase)) (reach_of i duration_size (right_of (nat_eq per duration_scale) (has_size i duration_size) h)) (span_small phase)
      by OfValue h =
          reaches i field_reach (number_from scene run path OfValue) (reach_of i (field_size per) (right_of (is_some (value_at scene path)) (has_size i (field_size per)) h)) (number_small path)

-- ---- a weaker test of each read

module _ (test other : Info → Path → ℕ → Bool) (weaker : (i : Info) (path : Path) (per : ℕ) → test i path per ≡ true → other i path per ≡ true) where
  both : (a b c d : Bool) → (a ≡ true → c ≡ true) → (b ≡ true → d ≡ true) → a && b ≡ true → c && d ≡ true
  both a b c d f g h = rw (f (left_of a b h), g (right_of a b h)) refl

  mutual
    pub each_weaker : (t : Typed) → each_read test t ≡ true → each_read other t ≡ true
    each_weaker (Constant i number) h = refl
    each_weaker (Read i path per) h = weaker i path per h
    each_weaker (Whole i path) h = refl
    each_weaker (Listed i is_field items) h = row_weaker items h
    each_weaker (Span i low high) h = both (each_read test low) (each_read test high) (each_read other low) (each_read other high) (each_weaker low) (each_weaker high) h
    each_weaker (Minus i part) h = each_weaker part h
    each_weaker (Not i part) h = each_weaker part h
    each_weaker (Sum i left right) h = both (each_read test left) (each_read test right) (each_read other left) (each_read other right) (each_weaker left) (each_weaker right) h
    each_weaker (Times i left right) h = both (each_read test left) (each_read test right) (each_read other left) (each_read other right) (each_weaker left) (each_weaker right) h
    each_weaker (And i left right) h = both (each_read test left) (each_read test right) (each_read other left) (each_read other right) (each_weaker left) (each_weaker right) h
    each_weaker (Or i left right) h = both (each_read test left) (each_read test right) (each_read other left) (each_read other right) (each_weaker left) (each_weaker right) h
    each_weaker (Implies i left right) h = both (each_read test left) (each_read test right) (each_read other left) (each_read other right) (each_weaker left) (each_weaker right) h
    each_weaker (Relation i sign left right) h = both (each_read test left) (each_read test right) (each_read other left) (each_read other right) (each_weaker left) (each_weaker right) h
    each_weaker (Within i left right) h = both (each_read test left) (each_read test right) (each_read other left) (each_read other right) (each_weaker left) (each_weaker right) h

    row_weaker : (row : TypedRow) → each_read_of test row ≡ true → each_read_of other row ≡ true
    row_weaker End h = refl
    row_weaker (Item item others) h = both (each_read test item) (each_read_of test others) (each_read other item) (each_read_of other others) (each_weaker item) (row_weaker others) h
