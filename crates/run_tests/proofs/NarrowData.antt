-- The whole numbers of JSON data that a text is have 64 bits.
use Rattle.std.proofs.Common.{◌≡◌, refl, subst, arith, true≢false, sym, ℕ, zero, suc, ◌^◌, ℤ, pos, negsuc, Bool, true, false, ◌&&◌, List, Option, Some, None, Ordering, Less, Equal, Greater}
use Rattle.std.specs.Prelude.{if◌then◌else◌, ◌==◌, drop, slice_index, nat_lt, nat_le, option_map, option_and_then, ⊤}
use Rattle.std.specs.Cmp.Lexicographic.{slice_cmp}
use Rattle.std.specs.Float.{binary64, float_is_finite}
use Rattle.std.specs.Ordering.{nat_cmp, match_ordering}
use Rattle.fast_float.specs.Text.{minus, Parts, scan, digits_of, nearest, with_sign}
use Rattle.json.specs.Json as json
use Rattle.json.specs.Lex.{tokens}
use Rattle.serde_json.specs.Data.{Num, unsigned, negative, float, Data, null, boolean, number, string, array, object, Items, no_items, item, Members, no_members, member, put}
use Rattle.serde_json.specs.Find.{get, get_member, get_item, at, as_i64}
use Rattle.serde_json.specs.Read.{is_integer, float_of, number_from, number_of, of_json, of_items, of_members, max_depth, read}
use Rattle.run_tests.specs.WrittenRuns.{is_i64}

-- ---- what has numbers of 64 bits

abbrev pub IsNarrow : Option ℤ → Type 0
IsNarrow None = ⊤
IsNarrow (Some z) = is_i64 z ≡ true

abbrev mutual
  pub Narrow : Data → Type 0
  Narrow null = ⊤
  Narrow (boolean b) = ⊤
  Narrow (number n) = IsNarrow (as_i64 n)
  Narrow (string s) = ⊤
  Narrow (array ds) = NarrowItems ds
  Narrow (object ms) = NarrowMembers ms

  pub NarrowItems : Items → Type 0
  NarrowItems no_items = ⊤
  NarrowItems (item d ds) = Narrow d × NarrowItems ds

  pub NarrowMembers : Members → Type 0
  NarrowMembers no_members = ⊤
  NarrowMembers (member key d ms) = Narrow d × NarrowMembers ms

abbrev pub NarrowIf : Option Data → Type 0
NarrowIf None = ⊤
NarrowIf (Some d) = Narrow d

-- ---- what stands in it

member_narrow : (key : List ℕ) (ms : Members) → NarrowMembers ms → NarrowIf (get_member key ms)
member_narrow key no_members h = tt
member_narrow key (member other d ms) h = by (slice_cmp nat_cmp key other) (member_narrow key ms h.1)
  where
    by : (o : Ordering) → NarrowIf (get_member key ms) → NarrowIf (match_ordering o (get_member key ms) (Some d) (get_member key ms))
    by Less g = g
    by Equal g = h.0
    by Greater g = g

item_narrow : (n : ℕ) (ds : Items) → NarrowItems ds → NarrowIf (get_item n ds)
item_narrow n no_items h = tt
item_narrow zero (item d ds) h = h.0
item_narrow (suc n) (item d ds) h = item_narrow n ds h.1

pub get_narrow : (key : List ℕ) (d : Data) → Narrow d → NarrowIf (get key d)
get_narrow key null h = tt
get_narrow key (boolean b) h = tt
get_narrow key (number n) h = tt
get_narrow key (string s) h = tt
get_narrow key (array ds) h = tt
get_narrow key (object ms) h = member_narrow key ms h

pub at_narrow : (n : ℕ) (d : Data) → Narrow d → NarrowIf (at n d)
at_narrow n null h = tt
at_narrow n (boolean b) h = tt
at_narrow n (number m) h = tt
at_narrow n (string s) h = tt
at_narrow n (array ds) h = item_narrow n ds h
at_narrow n (object ms) h = tt

-- ---- numbers

abbrev NumberIf : Option Num → Type 0
NumberIf None = ⊤
NumberIf (Some n) = IsNarrow (as_i64 n)

float_narrow : (sign : Bool) (p : Parts) → NumberIf (float_of sign p)
float_narrow sign p = by (float_is_finite (nearest binary64 sign p))
  where
    by : (b : Bool) → NumberIf (if b then Some (float (nearest binary64 sign p)) else None)
    by true = tt
    by false = tt

unsigned_narrow : (n : ℕ) → IsNarrow (as_i64 (unsigned n))
unsigned_narrow n = by (nat_lt n (2 ^ 63)) refl
  where
    by : (b : Bool) → nat_lt n (2 ^ 63) ≡ b → IsNarrow (if b then Some (pos n) else None)
    by true e = e
    by false e = tt

negative_narrow : (n : ℕ) → nat_le n (2 ^ 63) ≡ true → is_i64 (with_sign true n) ≡ true
negative_narrow zero h = refl
negative_narrow (suc n) h = grind (arith, h)

last_of : (a b c : Bool) → a && b && c ≡ true → c ≡ true
last_of true true c h = h
last_of true false c h = absurd (true≢false (sym h))
last_of false b c h = absurd (true≢false (sym h))

from_narrow : (sign : Bool) (p : Parts) → NumberIf (number_from sign p)
from_narrow false p = by (is_integer p && nat_lt (digits_of p) (2 ^ 64))
  where
    by : (b : Bool) → NumberIf (if b then Some (unsigned (digits_of p)) else float_of false p)
    by true = unsigned_narrow (digits_of p)
    by false = float_narrow false p
from_narrow true p = by (is_integer p && nat_lt 0 (digits_of p) && nat_le (digits_of p) (2 ^ 63)) refl
  where
    by : (b : Bool) → is_integer p && nat_lt 0 (digits_of p) && nat_le (digits_of p) (2 ^ 63) ≡ b
        → NumberIf (if b then Some (negative (with_sign true (digits_of p))) else float_of true p)
    by true e = negative_narrow (digits_of p) (last_of (is_integer p) (nat_lt 0 (digits_of p)) (nat_le (digits_of p) (2 ^ 63)) e)
    by false e = float_narrow true p

number_narrow : (s : List ℕ) → NumberIf (number_of s)
unfolding number_of
number_narrow s = by (slice_index s 0 == minus)
  where
    by : (b : Bool) → NumberIf (if b then number_from true (scan (drop 1 s)) else number_from false (scan s))
    by true = from_narrow true (scan (drop 1 s))
    by false = from_narrow false (scan s)

-- ---- JSON values

abbrev ItemsIf : Option Items → Type 0
ItemsIf None = ⊤
ItemsIf (Some ds) = NarrowItems ds

abbrev MembersIf : Option Members → Type 0
MembersIf None = ⊤
MembersIf (Some ms) = NarrowMembers ms

put_narrow : (key : List ℕ) (d : Data) (ms : Members) → Narrow d → NarrowMembers ms → NarrowMembers (put key d ms)
put_narrow key d no_members n h = (n, tt)
put_narrow key d (member other e ms) n h = by (slice_cmp nat_cmp key other) (put_narrow key d ms n h.1)
  where
    by : (o : Ordering) → NarrowMembers (put key d ms)
        → NarrowMembers (match_ordering o (member key d (member other e ms)) (member other d ms) (member other e (put key d ms)))
    by Less g = (n, h)
    by Equal g = (n, h.1)
    by Greater g = (h.0, g)

of_number : (o : Option Num) → NumberIf o → NarrowIf (option_map number o)
of_number None h = tt
of_number (Some n) h = h

of_array : (o : Option Items) → ItemsIf o → NarrowIf (option_map array o)
of_array None h = tt
of_array (Some ds) h = h

of_object : (o : Option Members) → MembersIf o → NarrowIf (option_map object o)
of_object None h = tt
of_object (Some ms) h = h

one_more : (o : Option Data) (p : Option Items) → NarrowIf o → ItemsIf p → ItemsIf (option_and_then (λ d. option_map (item d) p) o)
one_more None p n h = tt
one_more (Some d) None n h = tt
one_more (Some d) (Some ds) n h = (n, h)

go_on : (o : Option Data) (f : Data → Option Members) → NarrowIf o → ((d : Data) → Narrow d → MembersIf (f d)) → MembersIf (option_and_then f o)
go_on None f n h = tt
go_on (Some d) f n h = h d n

mutual
  json_narrow : (j : json.Json) → NarrowIf (of_json j)
  json_narrow json.null = tt
  json_narrow (json.boolean b) = tt
  json_narrow (json.number s) = of_number (number_of s) (number_narrow s)
  json_narrow (json.string s) = tt
  json_narrow (json.array js) = of_array (of_items js) (items_narrow js)
  json_narrow (json.object ms) = of_object (of_members ms no_members) (members_narrow ms no_members tt)

  items_narrow : (js : json.Items) → ItemsIf (of_items js)
  items_narrow json.no_items = tt
  items_narrow (json.item j js) = one_more (of_json j) (of_items js) (json_narrow j) (items_narrow js)

  members_narrow : (ms : json.Members) (found : Members) → NarrowMembers found → MembersIf (of_members ms found)
  members_narrow json.no_members found h = h
  members_narrow (json.member key j ms) found h =
      go_on (of_json j) (λ d. of_members ms (put key d found)) (json_narrow j) (λ d n. members_narrow ms (put key d found) (put_narrow key d found n h))

-- what a text is read as has numbers of 64 bits
pub read_narrow : (bytes : List ℕ) (d : Data) → read bytes ≡ Some d → Narrow d
read_narrow bytes d e = subst NarrowIf e (by (option_and_then (λ p. json.if_last p.0 p.1) (json.value max_depth (tokens bytes))))
  where
    by : (o : Option json.Json) → NarrowIf (option_and_then of_json o)
    by None = tt
    by (Some j) = json_narrow j
