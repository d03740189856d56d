-- A command without subcommands finds at most one kind of fault in words.
use Rattle.std.proofs.Common.{◌≡◌, ◌≤◌, ◌+◌, ◌==◌, ◌&&◌, ◌||◌, ℕ, Bool, cond, true, false, not, zero, suc, refl, sym, ap, inl, inr, arith, List, [], ◌∷◌, length, drop, min, Option, Some, None, is_some, nat_lt}
use Rattle.std.specs.Prelude.{encode_utf8, slice_get}
use Rattle.std.specs.Option.{option_map_or}
use Rattle.std.specs.Str.{bytes_eq, chars}
use Rattle.clap.specs.Lexer.{long_of, short_of}
use Rattle.clap.specs.Matches.{count_text}
use Rattle.clap.specs.Facts.{parser_of_value, unwrap_or_range}
use Rattle.clap.specs.Walk.{Held, Row, Rule, Step, Text, Waiting, Walk, action_of, arg_by_id, arg_by_index, arg_by_long, arg_by_short, attached_value, count_of, finished, has_row, idle, is_empty, is_pending, most_values, nothing_held, option, positional, reacted, settled, subcommand_met, takes_several, takes_values, value, values_or_missing, walk, walk_from, walked, with_default, word_met}
use Rattle.clap.specs.Simple.{App, Shape, argument_words, built, entered}
use Rattle.clap.specs.Kinds.{IsAmong, Kinds, check_kinds, or_else, range_kinds, request_kinds, value_kinds, values_kinds}
use Rattle.clap.specs.Faults.{action_fault, built_fault, bundle_fault, bundle_step_fault, check_fault, count_fault, default_fault, defaults_fault, entered_fault, fault_of, flag_word_fault, flags_fault, level_fault, long_fault, option_fault, other_fault, positional_fault, react_fault, repeat_fault, set_fault, settle_fault, short_fault, step_fault, stray_fault, turn_fault, use_fault, values_fault, walk_fault, word_fault}
use Rattle.clap.specs.ValueTests.{accepts}
use Rattle.clap.specs.declared.builder.action.ArgAction.{ArgAction}
use Rattle.clap.specs.declared.builder.action.ArgAction.TheVariants as action
use Rattle.clap.specs.declared.builder.value_parser.ValueParser.{ValueParser}
use Rattle.clap.specs.declared.error.kind.ErrorKind.{ErrorKind}
use Rattle.clap.proofs.SimpleLemmas.{is_nil}
use Rattle.clap.proofs.WalkLemmas.{both}
use Rattle.command_words.specs.Parse.{is_leaf}

abbrev pub AtMostOne : Kinds → Type 0
AtMostOne kinds = length kinds ≤ 1

none : AtMostOne []
none = omega arith

one : 1 ≤ 1
one = omega arith

either : (b : Bool) (x y : Kinds) → AtMostOne x → AtMostOne y → AtMostOne (cond b x y)
either true x y p q = p
either false x y p q = q

first_of_both : (x y : Kinds) → AtMostOne x → AtMostOne y → AtMostOne (or_else x y)
first_of_both [] y p q = q
first_of_both (k ∷ ks) y p q = p

if_some : {X : Type 0} (f : X → Kinds) (o : Option X) (other : Kinds) → ((x : X) → AtMostOne (f x)) → AtMostOne other
    → AtMostOne (option_map_or f o other)
if_some f None other p q = q
if_some f (Some x) other p q = p x

-- ---- one use of an argument

value_one : (i : Bool) (p : ValueParser) (t : Text) → AtMostOne (value_kinds i p t)
value_one i p t = either (accepts i p t) _ _ none one

values_one : (i : Bool) (p : ValueParser) (ts : List Text) → AtMostOne (values_kinds i p ts)
values_one i p [] = none
values_one i p (t ∷ ts) = first_of_both (value_kinds i p t) (values_kinds i p ts) (value_one i p t) (values_one i p ts)

range_one : (least most n : ℕ) → AtMostOne (range_kinds least most n)
range_one least most n =
    either (nat_lt 0 least && n == 0) _ _ one
    (either (least == most) _ _ (either (least == n) _ _ none one)
    (either (nat_lt n least) _ _ one (either (nat_lt most n) _ _ one none)))

request_one : (x : ArgAction) → AtMostOne (request_kinds x)
request_one action.Help = one
request_one action.HelpShort = one
request_one action.HelpLong = one
request_one action.Version = one
request_one action.Set = none
request_one action.Append = none
request_one action.SetTrue = none
request_one action.SetFalse = none
request_one action.Count = none

count_one : (a : Rule) (values : List Text) (rows : List Row) → AtMostOne (count_fault a values rows)
count_one a [] rows = value_one a.ignore_case (parser_of_value a.parser) (count_text (min (count_of a.id rows + 1) 255))
count_one a (v ∷ vs) rows = values_one a.ignore_case (parser_of_value a.parser) (v ∷ vs)

set_one : (again : Bool) (a : Rule) (values : List Text) (rows : List Row) → AtMostOne (set_fault again a values rows)
set_one again a values rows =
    first_of_both (repeat_fault again a.id rows) (values_fault a values)
    (either (has_row a.id rows && not again) _ _ one none) (values_one a.ignore_case (parser_of_value a.parser) values)

action_one : (x : ArgAction) (again : Bool) (a : Rule) (values : List Text) (rows : List Row) → AtMostOne (action_fault x again a values rows)
action_one action.Set again a values rows = set_one again a values rows
action_one action.SetTrue again a values rows = set_one again a values rows
action_one action.SetFalse again a values rows = set_one again a values rows
action_one action.Append again a values rows = values_one a.ignore_case (parser_of_value a.parser) values
action_one action.Count again a values rows = count_one a values rows
action_one action.Help again a values rows = one
action_one action.HelpShort again a values rows = one
action_one action.HelpLong again a values rows = one
action_one action.Version again a values rows = one

use_one : (again : Bool) (a : Rule) (values : List Text) (rows : List Row) → AtMostOne (use_fault again a values rows)
use_one again a values rows =
    first_of_both (range_kinds (unwrap_or_range a.range).start_inclusive (most_values a) (length values))
    (action_fault (action_of a) again a (values_or_missing a values) rows)
    (range_one (unwrap_or_range a.range).start_inclusive (most_values a) (length values))
    (action_one (action_of a) again a (values_or_missing a values) rows)

-- ---- the walk

module _ (c : List Rule) (again : Bool) where
  settle_one : (h : Held) → AtMostOne (settle_fault c again h)
  settle_one h =
      if_some (λ (p : Text × List Text). option_map_or (λ a. use_fault again a p.1 h.rows) (arg_by_id c p.0) []) h.pending []
      (λ p. if_some (λ (a : Rule). use_fault again a p.1 h.rows) (arg_by_id c p.0) [] (λ a. use_one again a p.1 h.rows) none) none

  react_one : (a : Rule) (values : List Text) (h : Held) → AtMostOne (react_fault c again a values h)
  react_one a values h =
      first_of_both (settle_fault c again h) (use_fault again a values (settled c h).rows) (settle_one h) (use_one again a values (settled c h).rows)

  option_one : (a : Rule) (v : Option Text) (h : Held) → AtMostOne (option_fault c again a v h)
  option_one a (Some v) h = react_one a (v ∷ []) h
  option_one a None h = settle_one h

  long_one : (o : Option Rule) (v : Option Text) (h : Held) → AtMostOne (long_fault c again o v h)
  long_one None v h = one
  long_one (Some a) v h =
      either (takes_values a) _ _ (option_one a v h) (either (is_some v) _ _ one (react_one a [] h))

  short_one : (o : Option Rule) (rest : Text) (h : Held) (next : Held → Kinds) → ((g : Held) → AtMostOne (next g))
      → AtMostOne (short_fault c again o rest h next)
  short_one None rest h next ends = one
  short_one (Some a) rest h next ends =
      either (takes_values a) _ _ (option_one a (attached_value rest) h)
      (first_of_both (react_fault c again a [] h) (next (reacted c a [] h)) (react_one a [] h) (ends (reacted c a [] h)))

  bundle_step_one : (o : Option ℕ) (flags : Text) (skip : ℕ) (h : Held) (next : Text → ℕ → Held → Kinds)
      → ((t : Text) (n : ℕ) (g : Held) → AtMostOne (next t n g)) → AtMostOne (bundle_step_fault c again o flags skip h next)
  bundle_step_one None flags skip h next ends = none
  bundle_step_one (Some x) flags zero h next ends =
      short_one (arg_by_short c x) (drop (length (encode_utf8 x)) flags) h (next (drop (length (encode_utf8 x)) flags) 0)
      (ends (drop (length (encode_utf8 x)) flags) 0)
  bundle_step_one (Some x) flags (suc skip) h next ends = ends (drop (length (encode_utf8 x)) flags) skip h

  flags_one : (k : ℕ) (flags : Text) (skip : ℕ) (h : Held) → AtMostOne (flags_fault c again k flags skip h)
  unfolding flags_fault
  flags_one zero flags skip h = none
  flags_one (suc k) flags skip h =
      bundle_step_one (slice_get (chars flags) 0) flags skip h (flags_fault c again k) (flags_one k)

  flag_word_one : (o : Option (Text × Option Text)) (word : Text) (h : Held) → AtMostOne (flag_word_fault c again o word h)
  flag_word_one (Some p) word h = long_one (arg_by_long c p.0) p.1 h
  flag_word_one None word h =
      if_some (λ (flags : Text). bundle_fault c again flags h) (short_of word) []
      (λ flags. flags_one (length flags) flags h.skip (record h { skip = 0 })) none

  positional_one : (a : Rule) (h : Held) → AtMostOne (positional_fault c again a h)
  positional_one a h = either (is_pending a h.pending && takes_several a) _ _ none (settle_one h)

-- no word names a subcommand if there is none
none_met : (waiting : Waiting) (word : Text) → subcommand_met [] waiting word ≡ None
none_met idle word = refl
none_met (option id) word = refl
none_met positional word = refl

module _ (s : Shape) (leaf : s.is_leaf ≡ true) where
  other_one : (o : Option Text) (word : Text) (h : Held) → o ≡ None → AtMostOne (other_fault s o word h)
  other_one (Some name) word h e = cc
  other_one None word h e =
      either (bytes_eq word (45 ∷ 45 ∷ [])) _ _ none (flag_word_one s.rules s.args_override_self (long_of word) word h)

  word_one : (is_trailing : Bool) (waiting : Waiting) (word : Text) (h : Held) → AtMostOne (word_fault s [] is_trailing waiting word h)
  word_one is_trailing waiting word h =
      either is_trailing _ _ none (other_one (subcommand_met [] waiting word) word h (none_met waiting word))

  stray_one : AtMostOne (stray_fault s)
  stray_one = rw leaf one

  step_one : (position : ℕ) (h : Held) (met : Step) → AtMostOne (step_fault s position h met)
  step_one position h value =
      if_some (λ (a : Rule). positional_fault s.rules s.args_override_self a h) (arg_by_index s.rules position) (stray_fault s)
      (λ a. positional_one s.rules s.args_override_self a h) stray_one
  step_one position h _ = none

  turn_one : (w : Walk) (word : Text) → AtMostOne (turn_fault s [] w word)
  turn_one w word =
      let met = word_met s.rules [] w.is_trailing w.waiting w.position word w.held in
      either (is_some w.stopped) _ _ none
      (first_of_both (word_fault s [] w.is_trailing w.waiting word w.held) (step_fault s w.position met.0 met.1)
      (word_one w.is_trailing w.waiting word w.held) (step_one w.position met.0 met.1))

  walk_one : (w : Walk) (words : List Text) → AtMostOne (walk_fault s [] w words)
  unfolding walk_fault
  walk_one w [] = none
  walk_one w (word ∷ rest) =
      first_of_both (turn_fault s [] w word) (walk_fault s [] (walked s.rules [] w word) rest)
      (turn_one w word) (walk_one (walked s.rules [] w word) rest)

-- ---- after the walk

default_one : (rows : List Row) (a : Rule) → AtMostOne (default_fault rows a)
default_one rows a =
    either (has_row a.id rows || is_empty a.defaults) _ _ none
    (first_of_both (request_kinds (action_of a)) (values_fault a a.defaults)
    (request_one (action_of a)) (values_one a.ignore_case (parser_of_value a.parser) a.defaults))

defaults_one : (rows : List Row) (rules : List Rule) → AtMostOne (defaults_fault rows rules)
unfolding defaults_fault
defaults_one rows [] = none
defaults_one rows (a ∷ rest) =
    first_of_both (default_fault rows a) (defaults_fault (with_default rows a) rest)
    (default_one rows a) (defaults_one (with_default rows a) rest)

check_one : (a b c : Bool) → AtMostOne (check_kinds a b c)
check_one a b c = either a _ _ one (either b _ _ one (either c _ _ one none))

entered_none : (s : Shape) (stop : Option (Text × List Text)) → AtMostOne (entered_fault (record { top = s; subs = [] }) stop)
entered_none s None = none
entered_none s (Some p) = none

level_one : (s : Shape) → s.is_leaf ≡ true → (h : Held) (words : List Text) (has : Bool) (below : Kinds) → AtMostOne below
    → AtMostOne (level_fault s [] h words has below)
level_one s leaf h words has below under =
    let end = (walk s.rules [] h words).held in
    first_of_both (walk_fault s [] (walk_from h) words)
    (or_else below (or_else (settle_fault s.rules s.args_override_self end)
    (or_else (defaults_fault (settled s.rules end).rows s.rules) (check_fault s (finished s.rules end) has))))
    (walk_one s leaf (walk_from h) words)
    (first_of_both below (or_else (settle_fault s.rules s.args_override_self end)
    (or_else (defaults_fault (settled s.rules end).rows s.rules) (check_fault s (finished s.rules end) has))) under
    (first_of_both (settle_fault s.rules s.args_override_self end)
    (or_else (defaults_fault (settled s.rules end).rows s.rules) (check_fault s (finished s.rules end) has))
    (settle_one s.rules s.args_override_self end)
    (first_of_both (defaults_fault (settled s.rules end).rows s.rules) (check_fault s (finished s.rules end) has)
    (defaults_one (settled s.rules end).rows s.rules) (check_one _ _ _))))

built_one : (s : Shape) (subs : List Shape) (h : Held) (words : List Text) → s.is_leaf ≡ true → subs ≡ []
    → AtMostOne (built_fault (record { top = s; subs = subs }) h words)
built_one s (x ∷ xs) h words leaf e = cc
built_one s [] h words leaf e =
    let stop = (walk s.rules [] h words).stopped in
    level_one s leaf h words (is_some (entered (record { top = s; subs = [] }) stop)) (entered_fault (record { top = s; subs = [] }) stop)
    (entered_none s stop)

-- a command without subcommands finds at most one kind of fault
pub one_fault : (command : App) (words : List Text) → is_leaf command ≡ true → AtMostOne (fault_of command words)
one_fault command words leaf =
    let parts = both _ _ leaf in
    built_one (built command).top (built command).subs nothing_held (argument_words command words) parts.1 (is_nil _ parts.0)

-- a kind that is among at most one is that one
pub only_kind : (k : ErrorKind) (kinds : Kinds) → AtMostOne kinds → IsAmong k kinds → kinds ≡ k ∷ []
only_kind k [] h among = absurd among
only_kind k (x ∷ y ∷ ys) h among = absurd (omega arith)
only_kind k (x ∷ []) h (inl e) = ap (λ z. z ∷ []) (sym e)
only_kind k (x ∷ []) h (inr e) = absurd e
