-- What a sound node says of its parts.
use Rattle.std.proofs.Common.{◌≡◌, refl, sym, ap, ap₂, ℕ, List, [], ◌∷◌, Bool, true, false, ◌&&◌, not, nat_eq, true≢false, arith}
use Rattle.std.specs.Prelude.{◌≤◌, ℤ, pos, max, Option, Some, None, unsigned_abs, nat_lt, unwrap_or}
use Rattle.std.specs.Option.{option_map_or}
use Rattle.std.specs.List.{list_all}
use Rattle.std.proofs.lemmas.Bool.Decides.{nat_tests}
use Rattle.expr_nodes.specs.osc_base.declared.path.Path.{Path}
use Rattle.expr_nodes.specs.osc_base.Number.{Number}
use Rattle.expr_nodes.specs.declared.compare.Compare.{Compare}
use Rattle.expr_nodes.specs.declared.node.Join.{Join}
use Rattle.expr_nodes.specs.Typed.{Typed, Info, Constant, Read, Span, Minus, Not, Implies, Relation, Within, row_of, items_of, kind, scale}
use Rattle.expr_nodes.specs.Sizes.{Size, size, is_wide, unit_size, constant_size, joined as joined_size, multiplied}
use Rattle.expr_nodes.specs.Parts.{parts_of, is_scalar}
use Rattle.expr_nodes.specs.Kinds.{is_number, is_truth, same_units}
use Rattle.expr_nodes.specs.Operators.{fit_for, fits_in, is_range_or_list}
use Rattle.expr_nodes.specs.Sound.{is_sound, are_sound, each_read, each_read_of, has_size, is_truth_info, is_constant_of, are_truths, can_join}
use Rattle.expr_nodes.specs.Seen.{Reached, joined, grouped}
use Rattle.expr_value.specs.Held.{in_reach, known}
use Rattle.expr_value.specs.Counted.{counted, counts_in}
use Rattle.expr_value.specs.Rows.{join_size, join_count}
use Rattle.expr_value.specs.Words.{Ready, ReadyItems, can_join_all}

pub left_of : (a b : Bool) → (a && b) ≡ true → a ≡ true
left_of true b h = refl
left_of false b h = h

pub right_of : (a b : Bool) → (a && b) ≡ true → b ≡ true
right_of true b h = h
right_of false true h = refl
right_of false false h = h

-- the last of four tests, and the one before it
pub third_of : (p q x y : Bool) → (p && (q && (x && y))) ≡ true → x ≡ true
third_of p q x y h = left_of x y (right_of q (x && y) (right_of p (q && (x && y)) h))

pub fourth_of : (p q x y : Bool) → (p && (q && (x && y))) ≡ true → y ≡ true
fourth_of p q x y h = right_of x y (right_of q (x && y) (right_of p (q && (x && y)) h))

pub not_so : (b : Bool) → not b ≡ true → b ≡ false
not_so true h = absurd (true≢false (sym h))
not_so false h = refl

pub same_nat : (a b : ℕ) → nat_eq a b ≡ true → a ≡ b
same_nat a b h = grind (arith, nat_tests)

-- a node has the size that its parts give
pub size_is : (i : Info) (s : Size) → has_size i s ≡ true → record { scale = i.scale; reach = i.reach } ≡ s
size_is i s h =
    let same = left_of (nat_eq i.scale s.scale && nat_eq i.reach s.reach) (not (is_wide s)) h in
    ap₂ (λ (a b : ℕ). record { scale = a; reach = b }) (same_nat i.scale s.scale (left_of (nat_eq i.scale s.scale) (nat_eq i.reach s.reach) same)) (same_nat i.reach s.reach (right_of (nat_eq i.scale s.scale) (nat_eq i.reach s.reach) same))

-- and that size isn't too wide
pub size_fits : (i : Info) (s : Size) → has_size i s ≡ true → is_wide s ≡ false
size_fits i s h = not_so (is_wide s) (right_of (nat_eq i.scale s.scale && nat_eq i.reach s.reach) (not (is_wide s)) h)

pub truth_sized : (i : Info) (q : Bool) → (is_truth_info i && q) ≡ true → record { scale = i.scale; reach = i.reach } ≡ unit_size
truth_sized i q h = size_is i unit_size (right_of (is_truth i.kind) (has_size i unit_size) (left_of (is_truth_info i) q h))

module _ (told : Path → Option ℤ) where
  -- a minus
  pub minus_ready : (i : Info) (part : Typed) → Ready told (Minus i part) → Ready told part
  minus_ready i part h = record { sound = right_of (has_size i (size part)) (is_sound part) (right_of (same_units i.kind (kind part)) (has_size i (size part) && is_sound part) h.sound); within = h.within }

  pub minus_size : (i : Info) (part : Typed) → Ready told (Minus i part) → size (Minus i part) ≡ size part
  minus_size i part h = size_is i (size part) (left_of (has_size i (size part)) (is_sound part) (right_of (same_units i.kind (kind part)) (has_size i (size part) && is_sound part) h.sound))

  -- nodes that are truth values
  pub not_ready : (i : Info) (part : Typed) → Ready told (Not i part) → Ready told part
  not_ready i part h = record { sound = right_of (are_truths part part) (is_sound part) (right_of (is_truth_info i) (are_truths part part && is_sound part) h.sound); within = h.within }

  pub not_size : (i : Info) (part : Typed) → Ready told (Not i part) → size (Not i part) ≡ unit_size
  not_size i part h = truth_sized i (are_truths part part && is_sound part) h.sound

  pub implies_left : (i : Info) (a b : Typed) → Ready told (Implies i a b) → Ready told a
  implies_left i a b h = record { sound = third_of (is_truth_info i) (are_truths a b) (is_sound a) (is_sound b) h.sound; within = left_of (each_read (in_reach told) a) (each_read (in_reach told) b) h.within }

  pub implies_right : (i : Info) (a b : Typed) → Ready told (Implies i a b) → Ready told b
  implies_right i a b h = record { sound = fourth_of (is_truth_info i) (are_truths a b) (is_sound a) (is_sound b) h.sound; within = right_of (each_read (in_reach told) a) (each_read (in_reach told) b) h.within }

  pub implies_size : (i : Info) (a b : Typed) → Ready told (Implies i a b) → size (Implies i a b) ≡ unit_size
  implies_size i a b h = truth_sized i (are_truths a b && (is_sound a && is_sound b)) h.sound

  pub relation_left : (i : Info) (sign : Compare) (a b : Typed) → Ready told (Relation i sign a b) → Ready told a
  relation_left i sign a b h = record { sound = third_of (is_truth_info i) (fit_for sign a b && can_join a b) (is_sound a) (is_sound b) h.sound; within = left_of (each_read (in_reach told) a) (each_read (in_reach told) b) h.within }

  pub relation_right : (i : Info) (sign : Compare) (a b : Typed) → Ready told (Relation i sign a b) → Ready told b
  relation_right i sign a b h = record { sound = fourth_of (is_truth_info i) (fit_for sign a b && can_join a b) (is_sound a) (is_sound b) h.sound; within = right_of (each_read (in_reach told) a) (each_read (in_reach told) b) h.within }

  pub relation_size : (i : Info) (sign : Compare) (a b : Typed) → Ready told (Relation i sign a b) → size (Relation i sign a b) ≡ unit_size
  relation_size i sign a b h = truth_sized i ((fit_for sign a b && can_join a b) && (is_sound a && is_sound b)) h.sound

  pub relation_joins : (i : Info) (sign : Compare) (a b : Typed) → Ready told (Relation i sign a b) → is_wide (joined_size (size a) (size b)) ≡ false
  relation_joins i sign a b h = not_so (is_wide (joined_size (size a) (size b))) (right_of (fit_for sign a b) (can_join a b) (left_of (fit_for sign a b && can_join a b) (is_sound a && is_sound b) (right_of (is_truth_info i) ((fit_for sign a b && can_join a b) && (is_sound a && is_sound b)) h.sound)))

  pub within_left : (i : Info) (a b : Typed) → Ready told (Within i a b) → Ready told a
  within_left i a b h = record { sound = third_of (is_truth_info i) (is_range_or_list b && fits_in a b && list_all (can_join a) (parts_of b)) (is_sound a) (is_sound b) h.sound; within = left_of (each_read (in_reach told) a) (each_read (in_reach told) b) h.within }

  pub within_right : (i : Info) (a b : Typed) → Ready told (Within i a b) → Ready told b
  within_right i a b h = record { sound = fourth_of (is_truth_info i) (is_range_or_list b && fits_in a b && list_all (can_join a) (parts_of b)) (is_sound a) (is_sound b) h.sound; within = right_of (each_read (in_reach told) a) (each_read (in_reach told) b) h.within }

  pub within_size : (i : Info) (a b : Typed) → Ready told (Within i a b) → size (Within i a b) ≡ unit_size
  within_size i a b h = truth_sized i ((is_range_or_list b && fits_in a b && list_all (can_join a) (parts_of b)) && (is_sound a && is_sound b)) h.sound

  pub within_joined : (i : Info) (a b : Typed) → Ready told (Within i a b) → can_join_all (size a) (parts_of b) ≡ true
  within_joined i a b h = right_of (is_range_or_list b && fits_in a b) (list_all (can_join a) (parts_of b)) (left_of (is_range_or_list b && fits_in a b && list_all (can_join a) (parts_of b)) (is_sound a && is_sound b) (right_of (is_truth_info i) ((is_range_or_list b && fits_in a b && list_all (can_join a) (parts_of b)) && (is_sound a && is_sound b)) h.sound))

  -- a range
  pub span_low : (i : Info) (a b : Typed) → Ready told (Span i a b) → Ready told a
  span_low i a b h = record { sound = third_of (is_scalar a && is_scalar b) (has_size i unit_size) (is_sound a) (is_sound b) h.sound; within = left_of (each_read (in_reach told) a) (each_read (in_reach told) b) h.within }

  pub span_high : (i : Info) (a b : Typed) → Ready told (Span i a b) → Ready told b
  span_high i a b h = record { sound = fourth_of (is_scalar a && is_scalar b) (has_size i unit_size) (is_sound a) (is_sound b) h.sound; within = right_of (each_read (in_reach told) a) (each_read (in_reach told) b) h.within }

  -- two that are joined
  pub joined_left : (join : Join) (i : Info) (a b : Typed) → Ready told (joined join i a b) → Ready told a
  joined_left Join.Sum i a b h = record { sound = third_of (same_units i.kind (kind a) && same_units i.kind (kind b)) (has_size i (joined_size (size a) (size b))) (is_sound a) (is_sound b) h.sound; within = left_of (each_read (in_reach told) a) (each_read (in_reach told) b) h.within }
  joined_left Join.Times i a b h = record { sound = third_of (is_number (kind a) && is_number (kind b)) (has_size i (multiplied (size a) (size b))) (is_sound a) (is_sound b) h.sound; within = left_of (each_read (in_reach told) a) (each_read (in_reach told) b) h.within }
  joined_left Join.And i a b h = record { sound = third_of (is_truth_info i) (are_truths a b) (is_sound a) (is_sound b) h.sound; within = left_of (each_read (in_reach told) a) (each_read (in_reach told) b) h.within }
  joined_left Join.Or i a b h = record { sound = third_of (is_truth_info i) (are_truths a b) (is_sound a) (is_sound b) h.sound; within = left_of (each_read (in_reach told) a) (each_read (in_reach told) b) h.within }

  pub joined_right : (join : Join) (i : Info) (a b : Typed) → Ready told (joined join i a b) → Ready told b
  joined_right Join.Sum i a b h = record { sound = fourth_of (same_units i.kind (kind a) && same_units i.kind (kind b)) (has_size i (joined_size (size a) (size b))) (is_sound a) (is_sound b) h.sound; within = right_of (each_read (in_reach told) a) (each_read (in_reach told) b) h.within }
  joined_right Join.Times i a b h = record { sound = fourth_of (is_number (kind a) && is_number (kind b)) (has_size i (multiplied (size a) (size b))) (is_sound a) (is_sound b) h.sound; within = right_of (each_read (in_reach told) a) (each_read (in_reach told) b) h.within }
  joined_right Join.And i a b h = record { sound = fourth_of (is_truth_info i) (are_truths a b) (is_sound a) (is_sound b) h.sound; within = right_of (each_read (in_reach told) a) (each_read (in_reach told) b) h.within }
  joined_right Join.Or i a b h = record { sound = fourth_of (is_truth_info i) (are_truths a b) (is_sound a) (is_sound b) h.sound; within = right_of (each_read (in_reach told) a) (each_read (in_reach told) b) h.within }

  pub joined_sized : (join : Join) (i : Info) (a b : Typed) → Ready told (joined join i a b) → record { scale = i.scale; reach = i.reach } ≡ join_size join (size a) (size b)
  joined_sized Join.Sum i a b h = size_is i (joined_size (size a) (size b)) (left_of (has_size i (joined_size (size a) (size b))) (is_sound a && is_sound b) (right_of (same_units i.kind (kind a) && same_units i.kind (kind b)) (has_size i (joined_size (size a) (size b)) && (is_sound a && is_sound b)) h.sound))
  joined_sized Join.Times i a b h = size_is i (multiplied (size a) (size b)) (left_of (has_size i (multiplied (size a) (size b))) (is_sound a && is_sound b) (right_of (is_number (kind a) && is_number (kind b)) (has_size i (multiplied (size a) (size b)) && (is_sound a && is_sound b)) h.sound))
  joined_sized Join.And i a b h = truth_sized i (are_truths a b && (is_sound a && is_sound b)) h.sound
  joined_sized Join.Or i a b h = truth_sized i (are_truths a b && (is_sound a && is_sound b)) h.sound

  pub grouped_first : (join : Join) (a : Typed) (rest : List Reached) → Ready told (grouped join a rest) → Ready told a
  grouped_first join a [] h = h
  grouped_first join a (r ∷ rest) h = joined_left join r.info a r.part (grouped_first join (joined join r.info a r.part) rest h)

  -- items
  pub item_ready : (s : Size) (x : Typed) (xs : List Typed) → ReadyItems told s (x ∷ xs) → Ready told x
  item_ready s x xs h = record { sound = left_of (is_sound x) (are_sound (row_of xs)) (right_of (is_scalar x) (is_sound x && are_sound (row_of xs)) h.sound); within = left_of (each_read (in_reach told) x) (each_read_of (in_reach told) (row_of xs)) h.within }

  pub item_joins : (s : Size) (x : Typed) (xs : List Typed) → ReadyItems told s (x ∷ xs) → is_wide (joined_size s (size x)) ≡ false
  item_joins s x xs h = not_so (is_wide (joined_size s (size x))) (left_of (not (is_wide (joined_size s (size x)))) (can_join_all s xs) h.joins)

  pub items_after : (s : Size) (x : Typed) (xs : List Typed) → ReadyItems told s (x ∷ xs) → ReadyItems told s xs
  items_after s x xs h = record {
    sound = right_of (is_sound x) (are_sound (row_of xs)) (right_of (is_scalar x) (is_sound x && are_sound (row_of xs)) h.sound);
    within = right_of (each_read (in_reach told) x) (each_read_of (in_reach told) (row_of xs)) h.within;
    joins = right_of (not (is_wide (joined_size s (size x)))) (can_join_all s xs) h.joins;
  }

pub joined_size_is : (join : Join) (i : Info) (a b : Typed) → size (joined join i a b) ≡ record { scale = i.scale; reach = i.reach }
joined_size_is Join.Sum i a b = refl
joined_size_is Join.Times i a b = refl
joined_size_is Join.And i a b = refl
joined_size_is Join.Or i a b = refl

pub joined_counted : (held : Path → ℤ) (join : Join) (i : Info) (a b : Typed) → counted held (joined join i a b) ≡ join_count join (scale a) (counted held a) (scale b) (counted held b)
joined_counted held Join.Sum i a b = refl
joined_counted held Join.Times i a b = refl
joined_counted held Join.And i a b = refl
joined_counted held Join.Or i a b = refl

pub joined_nowhere : (held : Path → ℤ) (s : ℕ) (n : ℤ) (join : Join) (i : Info) (a b : Typed) → counts_in held s n (joined join i a b) ≡ false
joined_nowhere held s n Join.Sum i a b = refl
joined_nowhere held s n Join.Times i a b = refl
joined_nowhere held s n Join.And i a b = refl
joined_nowhere held s n Join.Or i a b = refl

-- ---- leaves

pub constant_within : (told : Path → Option ℤ) (i : Info) (n : Number) → Ready told (Constant i n) → unsigned_abs n.numerator ≤ i.reach
constant_within told i n h =
    let is = size_is i (constant_size n) (right_of (is_constant_of i.kind n) (has_size i (constant_size n)) h.sound) in
    let reach_is : i.reach ≡ max 1 (unsigned_abs n.numerator) = ap (λ (s : Size). s.reach) is in
    grind (arith, reach_is)

held_within : (o : Option ℤ) (r : ℕ) → option_map_or (λ n. not (nat_lt r (unsigned_abs n))) o true ≡ true → unsigned_abs (unwrap_or o (pos 0)) ≤ r
held_within None r h = omega arith
held_within (Some n) r h = let e = not_so (nat_lt r (unsigned_abs n)) h in grind (arith, nat_tests, e)

pub read_within : (told : Path → Option ℤ) (i : Info) (p : Path) (per : ℕ) → Ready told (Read i p per) → unsigned_abs (known told p) ≤ i.reach
read_within told i p per h = held_within (told p) i.reach h.within

-- the items of a list
pub items_row : (items : List Typed) → items_of (row_of items) ≡ items
items_row [] = refl
items_row (t ∷ rest) = ap (λ ts. t ∷ ts) (items_row rest)
