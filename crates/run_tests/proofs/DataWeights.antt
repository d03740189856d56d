-- The data of a text has no more values than the text has bytes.
use Rattle.std.proofs.Common.{◌≡◌, refl, ap, subst, arith, ℕ, zero, suc, ◌+◌, ◌≤◌, Bool, true, false, List, [], ◌∷◌, ◌++◌, length, length-append, Option, Some, None, Ordering, Less, Equal, Greater}
use Rattle.std.specs.Prelude.{option_map, option_and_then, ⊤}
use Rattle.std.specs.Cmp.Lexicographic.{slice_cmp}
use Rattle.std.specs.Ordering.{nat_cmp, match_ordering}
use Rattle.json.specs.Json as json
use Rattle.json.specs.Lex.{Lexeme, token, comma, colon, Class, quote, backslash, operator, space, other, class, Mode, between, in_word, in_string, in_escape, lex_byte, lex, Place, fresh, after_value, after_comma, after_key, begins_colon, may_begin, may_close, if_allowed, place_token, punctuate, tokens}
use Rattle.json.specs.Token.{Token}
use Rattle.json.specs.Tree.{json_tokens, items_tokens, members_tokens}
use Rattle.json.proofs.Unique.Spelling.{value-json_tokens_back}
use Rattle.serde_json.specs.Data.{Num, Data, null, boolean, number, string, array, object, Items, no_items, item, Members, no_members, member, put}
use Rattle.serde_json.specs.Find.{get, get_member, get_item, at}
use Rattle.serde_json.specs.Read.{number_of, of_json, of_items, of_members, max_depth, read}

-- ---- tokens

byte_lexed : (m : Mode) (c : Class) (x : ℕ) (xs : List ℕ) (k : Mode → List Lexeme) (n : ℕ) → ((next : Mode) → length (k next) ≤ n) → length (lex_byte m c x xs k) ≤ suc n
byte_lexed between quote x xs k n h = omega (arith, h in_string)
byte_lexed between backslash x xs k n h = omega (arith, h in_word)
byte_lexed between operator x xs k n h = omega (arith, h between)
byte_lexed between space x xs k n h = omega (arith, h between)
byte_lexed between other x xs k n h = omega (arith, h in_word)
byte_lexed in_word quote x xs k n h = omega (arith, h in_word)
byte_lexed in_word backslash x xs k n h = omega (arith, h in_word)
byte_lexed in_word operator x xs k n h = omega (arith, h between)
byte_lexed in_word space x xs k n h = omega (arith, h between)
byte_lexed in_word other x xs k n h = omega (arith, h in_word)
byte_lexed in_string quote x xs k n h = omega (arith, h between)
byte_lexed in_string backslash x xs k n h = omega (arith, h in_escape)
byte_lexed in_string operator x xs k n h = omega (arith, h in_string)
byte_lexed in_string space x xs k n h = omega (arith, h in_string)
byte_lexed in_string other x xs k n h = omega (arith, h in_string)
byte_lexed in_escape c x xs k n h = omega (arith, h in_string)

few_lexemes : (m : Mode) (text : List ℕ) → length (lex m text) ≤ length text
unfolding lex
few_lexemes m [] = omega arith
few_lexemes m (x ∷ xs) = byte_lexed m (class x) x xs (λ next. lex next xs) (length xs) (λ next. few_lexemes next xs)

if_placed : (b : Bool) (t : Token) (k : Place → List Token) (next : Place) (n : ℕ) → length (k next) ≤ n → length (if_allowed b t k next) ≤ suc n
if_placed true t k next n h = omega (arith, h)
if_placed false t k next n h = omega arith

placed : (p : Place) (t : Token) (b : Bool) (k : Place → List Token) (n : ℕ) → ((next : Place) → length (k next) ≤ n) → length (place_token p t b k) ≤ suc n
placed p Token.begin_object b k n h = if_placed (may_begin p) Token.begin_object k fresh n (h fresh)
placed p Token.end_object b k n h = if_placed (may_close p) Token.end_object k after_value n (h after_value)
placed p Token.begin_array b k n h = if_placed (may_begin p) Token.begin_array k fresh n (h fresh)
placed p Token.end_array b k n h = if_placed (may_close p) Token.end_array k after_value n (h after_value)
placed p (Token.key s) b k n h = omega arith
placed p (Token.string s) true k n h = if_placed (may_begin p) (Token.key s) k after_key n (h after_key)
placed p (Token.string s) false k n h = if_placed (may_begin p) (Token.string s) k after_value n (h after_value)
placed p (Token.number s) b k n h = if_placed (may_begin p) (Token.number s) k after_value n (h after_value)
placed p (Token.boolean s) b k n h = if_placed (may_begin p) (Token.boolean s) k after_value n (h after_value)
placed p Token.null b k n h = if_placed (may_begin p) Token.null k after_value n (h after_value)
placed p Token.bad b k n h = omega arith

few_placed : (p : Place) (ls : List Lexeme) → length (punctuate p ls) ≤ suc (length ls)
unfolding punctuate
few_placed fresh [] = omega arith
few_placed after_value [] = omega arith
few_placed after_comma [] = omega arith
few_placed after_key [] = omega arith
few_placed fresh (token t ∷ ls) = placed fresh t (begins_colon ls) (λ next. punctuate next ls) (suc (length ls)) (λ next. few_placed next ls)
few_placed after_value (token t ∷ ls) = placed after_value t (begins_colon ls) (λ next. punctuate next ls) (suc (length ls)) (λ next. few_placed next ls)
few_placed after_comma (token t ∷ ls) = placed after_comma t (begins_colon ls) (λ next. punctuate next ls) (suc (length ls)) (λ next. few_placed next ls)
few_placed after_key (token t ∷ ls) = placed after_key t (begins_colon ls) (λ next. punctuate next ls) (suc (length ls)) (λ next. few_placed next ls)
few_placed fresh (comma ∷ ls) = omega arith
few_placed after_value (comma ∷ ls) = omega (arith, few_placed after_comma ls)
few_placed after_comma (comma ∷ ls) = omega arith
few_placed after_key (comma ∷ ls) = omega arith
few_placed fresh (colon ∷ ls) = omega arith
few_placed after_value (colon ∷ ls) = omega arith
few_placed after_comma (colon ∷ ls) = omega arith
few_placed after_key (colon ∷ ls) = omega (arith, few_placed fresh ls)

-- a text has one token more than it has bytes at most
few_tokens : (text : List ℕ) → length (tokens text) ≤ length text + 1
few_tokens text = omega (arith, few_lexemes between text, few_placed fresh (lex between text))

-- ---- how many values stand in data, with itself

abbrev mutual
  pub weight : Data → ℕ
  weight null = 1
  weight (boolean b) = 1
  weight (number n) = 1
  weight (string s) = 1
  weight (array ds) = suc (items_weight ds)
  weight (object ms) = suc (members_weight ms)

  pub items_weight : Items → ℕ
  items_weight no_items = 0
  items_weight (item d ds) = weight d + items_weight ds

  pub members_weight : Members → ℕ
  members_weight no_members = 0
  members_weight (member key d ms) = weight d + members_weight ms

pub some_weight : (d : Data) → 1 ≤ weight d
some_weight null = omega arith
some_weight (boolean b) = omega arith
some_weight (number n) = omega arith
some_weight (string s) = omega arith
some_weight (array ds) = omega arith
some_weight (object ms) = omega arith

abbrev pub Within : ℕ → Option Data → Type 0
Within n None = ⊤
Within n (Some d) = weight d ≤ n

abbrev ItemsWithin : ℕ → Option Items → Type 0
ItemsWithin n None = ⊤
ItemsWithin n (Some ds) = items_weight ds ≤ n

abbrev MembersWithin : ℕ → Option Members → Type 0
MembersWithin n None = ⊤
MembersWithin n (Some ms) = members_weight ms ≤ n

within_more : (n m : ℕ) (o : Option Data) → Within n o → n ≤ m → Within m o
within_more n m None h less = tt
within_more n m (Some d) h less = omega (arith, h, less)

members_within_more : (n m : ℕ) (o : Option Members) → MembersWithin n o → n ≤ m → MembersWithin m o
members_within_more n m None h less = tt
members_within_more n m (Some ms) h less = omega (arith, h, less)

-- ---- what stands in data

member_within : (key : List ℕ) (ms : Members) → Within (members_weight ms) (get_member key ms)
member_within key no_members = tt
member_within key (member name d ms) = by (slice_cmp nat_cmp key name)
    (within_more (members_weight ms) (weight d + members_weight ms) (get_member key ms) (member_within key ms) (omega arith))
  where
    by : (o : Ordering) → Within (weight d + members_weight ms) (get_member key ms)
        → Within (weight d + members_weight ms) (match_ordering o (get_member key ms) (Some d) (get_member key ms))
    by Less h = h
    by Equal h = omega arith
    by Greater h = h

item_within : (n : ℕ) (ds : Items) → Within (items_weight ds) (get_item n ds)
item_within n no_items = tt
item_within zero (item d ds) = omega arith
item_within (suc n) (item d ds) = within_more (items_weight ds) (weight d + items_weight ds) (get_item n ds) (item_within n ds) (omega arith)

pub get_within : (key : List ℕ) (d : Data) → Within (weight d) (get key d)
get_within key null = tt
get_within key (boolean b) = tt
get_within key (number n) = tt
get_within key (string s) = tt
get_within key (array ds) = tt
get_within key (object ms) = within_more (members_weight ms) (suc (members_weight ms)) (get_member key ms) (member_within key ms) (omega arith)

pub at_within : (n : ℕ) (d : Data) → Within (weight d) (at n d)
at_within n null = tt
at_within n (boolean b) = tt
at_within n (number m) = tt
at_within n (string s) = tt
at_within n (array ds) = within_more (items_weight ds) (suc (items_weight ds)) (get_item n ds) (item_within n ds) (omega arith)
at_within n (object ms) = tt

-- ---- JSON values

put_weight : (key : List ℕ) (d : Data) (ms : Members) → members_weight (put key d ms) ≤ weight d + members_weight ms
put_weight key d no_members = omega arith
put_weight key d (member name e ms) = by (slice_cmp nat_cmp key name) (put_weight key d ms)
  where
    by : (o : Ordering) → members_weight (put key d ms) ≤ weight d + members_weight ms
        → members_weight (match_ordering o (member key d (member name e ms)) (member name d ms) (member name e (put key d ms))) ≤ weight d + (weight e + members_weight ms)
    by Less h = omega arith
    by Equal h = omega arith
    by Greater h = omega (arith, h)

of_number : (o : Option Num) → Within 1 (option_map number o)
of_number None = tt
of_number (Some n) = omega arith

of_array : (n : ℕ) (o : Option Items) → ItemsWithin n o → Within (suc n) (option_map array o)
of_array n None h = tt
of_array n (Some ds) h = omega (arith, h)

of_object : (n : ℕ) (o : Option Members) → MembersWithin n o → Within (suc n) (option_map object o)
of_object n None h = tt
of_object n (Some ms) h = omega (arith, h)

one_more : (n k m : ℕ) (o : Option Data) (p : Option Items) → Within n o → ItemsWithin k p → m ≡ n + k → ItemsWithin m (option_and_then (λ d. option_map (item d) p) o)
one_more n k m None p h g e = tt
one_more n k m (Some d) None h g e = tt
one_more n k m (Some d) (Some ds) h g e = omega (arith, h, g, e)

go_on : (n m : ℕ) (o : Option Data) (f : Data → Option Members) → Within n o → ((d : Data) → weight d ≤ n → MembersWithin m (f d)) → MembersWithin m (option_and_then f o)
go_on n m None f h g = tt
go_on n m (Some d) f h g = g d h

mutual
  json_within : (j : json.Json) → Within (length (json_tokens j)) (of_json j)
  json_within json.null = omega arith
  json_within (json.boolean b) = omega arith
  json_within (json.number s) = of_number (number_of s)
  json_within (json.string s) = omega arith
  json_within (json.array js) = of_array (length (items_tokens js)) (of_items js) (items_within js)
  json_within (json.object ms) =
      of_object (length (members_tokens ms)) (of_members ms no_members)
      (members_within_more (members_weight no_members + length (members_tokens ms)) (length (members_tokens ms)) (of_members ms no_members) (members_within ms no_members) (omega arith))

  items_within : (js : json.Items) → ItemsWithin (length (items_tokens js)) (of_items js)
  items_within json.no_items = omega arith
  items_within (json.item j js) =
      one_more (length (json_tokens j)) (length (items_tokens js)) (length (json_tokens j ++ items_tokens js)) (of_json j) (of_items js)
      (json_within j) (items_within js) (length-append (json_tokens j) (items_tokens js))

  members_within : (ms : json.Members) (found : Members) → MembersWithin (members_weight found + length (members_tokens ms)) (of_members ms found)
  members_within json.no_members found = omega arith
  members_within (json.member key j ms) found =
      go_on (length (json_tokens j)) (members_weight found + length (members_tokens (json.member key j ms))) (of_json j) (λ d. of_members ms (put key d found)) (json_within j)
      (λ d h. members_within_more (members_weight (put key d found) + length (members_tokens ms)) (members_weight found + length (members_tokens (json.member key j ms)))
      (of_members ms (put key d found)) (members_within ms (put key d found))
      (omega (arith, h, put_weight key d found, length-append (json_tokens j) (members_tokens ms))))

-- what a text is read as has one value more than the text has bytes at most
pub read_within : (bytes : List ℕ) (d : Data) → read bytes ≡ Some d → weight d ≤ length bytes + 1
read_within bytes d e = subst (Within (length bytes + 1)) e (by (json.value max_depth (tokens bytes)) refl)
  where
    by : (o : Option (json.Json × List Token)) → json.value max_depth (tokens bytes) ≡ o
        → Within (length bytes + 1) (option_and_then of_json (option_and_then (λ p. json.if_last p.0 p.1) o))
    by None found = tt
    by (Some (j, [])) found =
        let its : length (tokens bytes) ≡ length (json_tokens j ++ []) = ap length (value-json_tokens_back max_depth (tokens bytes) [] j found) in
        within_more (length (json_tokens j)) (length bytes + 1) (of_json j) (json_within j) (omega (arith, few_tokens bytes, its, length-append (json_tokens j) []))
    by (Some (j, t ∷ rest)) found = tt
