-- An option with a default, and a word that must be given, hold a value that passed its parser, for any command.
use Rattle.std.proofs.Common.{◌≡◌, ◌⊎◌, ◌∙◌, ◌<◌, ◌≤◌, ◌&&◌, ◌||◌, not, ap, ℕ, Bool, true, false, cond, zero, suc, List, [], ◌∷◌, map, length, Option, Some, None, refl, sym, subst, inl, inr, arith, codes}
use Rattle.std.specs.List.{All, list_all, list_any, slice_index_or}
use Rattle.std.specs.Str.{bytes_eq}
use Rattle.std.specs.Prelude.{find, option_map, slice_get, unwrap_or}
use Rattle.std.specs.Borrow.{Bor}
use Rattle.std.proofs.lemmas.Slice.Eq.{bytes_eq-Decides}
use Rattle.std.proofs.lemmas.List.Elements.{All-get_or}
use Rattle.clap.specs.Facts.{args_of, groups_of, Entry, EntryPasses, ValuesPass, PassesArg, least_values, parser_of, parser_of_value, unwrap_or_range}
use Rattle.clap.specs.Built.{IsParsedFrom, IsPlainArg, SameRules}
use Rattle.clap.specs.Matches.{found_of, matched_of, one_text}
use Rattle.clap.specs.Simple.{App, IsSimpleArg, app_of, has_simple_rules, is_ready, is_ready_leaf, shape_of}
use Rattle.clap.specs.Texts.{items_of}
use Rattle.clap.specs.Values.{Accepts, read_as, reading_of}
use Rattle.clap.specs.Walk.{Rule, Text, arg_by_id, is_empty, is_free_arg, rule_of, texts}
use Rattle.clap.specs.declared.builder.action.ArgAction.TheVariants.{Count, Set}
use Rattle.clap.specs.declared.builder.arg.Arg.{Arg}
use Rattle.clap.specs.declared.builder.command.Command.{Command}
use Rattle.clap.specs.declared.builder.range.ValueRange.{ValueRange}
use Rattle.clap.specs.declared.builder.value_parser.ValueParser.{ValueParser}
use Rattle.clap.specs.declared.builder.value_parser.ValueParser.TheVariants.{Unsigned}
use Rattle.clap.specs.declared.parser.matches.ArgMatches.{ArgMatches}
use Rattle.clap.specs.declared.parser.matches.Found.{Found}
use Rattle.clap.specs.declared.parser.matches.MatchedArg.{MatchedArg}
use Rattle.clap.proofs.CallerLemmas.{default_present, entry_by_id, same_rules_by_id}
use Rattle.clap.proofs.CallerReads.{required_reads}
use Rattle.clap.proofs.SimpleLemmas.{is_false, is_nil, plain_fields, ready_simple, simple_groups}
use Rattle.clap.proofs.WalkLemmas.{both}
use Rattle.command_words.specs.Match.{number_rule, number_word_rule}
use Rattle.command_words.specs.Parse.{HoldsNumber}

-- ---- the entry of an argument

-- an id that an entry has is found
has_entry : (xs : List Entry) (id : Text) (i : ℕ) → i < length xs → ((d : Entry) → bytes_eq (slice_index_or xs i d).0.now id ≡ true)
    → (x : MatchedArg) × (option_map (λ e. e.1) (find (λ e. bytes_eq e.0.now id) xs) ≡ Some x)
has_entry [] id i lt at = absurd (omega arith)
has_entry (e ∷ es) id zero lt at = (e.1, rw (at e) refl)
has_entry (e ∷ es) id (suc i) lt at = go (bytes_eq e.0.now id) refl (has_entry es id i (omega arith) at)
  where
    go : (b : Bool) → bytes_eq e.0.now id ≡ b → (x : MatchedArg) × (option_map (λ y. y.1) (find (λ y. bytes_eq y.0.now id) es) ≡ Some x)
        → (x : MatchedArg) × (option_map (λ y. y.1) (find (λ y. bytes_eq y.0.now id) (e ∷ es)) ≡ Some x)
    go true t later = (e.1, rw t refl)
    go false t later = (later.0, rw t later.1)

head_of : (P : Bor Text → Type 0) (vs : List (Bor Text)) → 0 < length vs → All P vs → (v : Bor Text) × (slice_get vs 0 ≡ Some v) × P v
head_of P [] some h = absurd (omega arith)
head_of P (v ∷ vs) some h = (v, refl, All-get_or P (v ∷ vs) 0 v (omega arith) h)

one_text_is : (f : Found) (id : Text) (x : MatchedArg) (v : Bor Text) (q : ValueParser) → matched_of f id ≡ Some x → x.reading ≡ reading_of q
    → slice_get x.vals.items 0 ≡ Some v → one_text f id ≡ Some (read_as (reading_of q) v.now)
one_text_is f id x v q found reading first = rw (found, reading, first) refl

-- what a parse by `built` gives for an argument that takes one value at least, and has the parser q
module _ (built : Command) (f : Found) (a : Arg) (q : ValueParser) (values : ValuesPass built f) (no_groups : groups_of built ≡ [])
    (named : a.id.now ≡ [] → ⊥)
    (same : (j : ℕ) (x : Arg) → j < length (args_of built) → slice_index_or (args_of built) j x ≡ x → bytes_eq x.id.now a.id.now ≡ true → SameRules a x)
    (set : a.action ≡ Some Set) (delim : a.val_delim ≡ None) (least : 1 ≤ least_values a) (parser : a.value_parser ≡ Some q) where
  parser_is : (x : Arg) → SameRules a x → parser_of x ≡ q
  parser_is x s = ap parser_of_value (s.parser q parser)

  no_group : (e : Entry) → e.0.now ≡ a.id.now → EntryPasses built e → e.1.is_group ≡ true → ⊥
  no_group e key pass g = elim (pass.3 g) [
    | inl empty ↦ named (sym key ∙ empty)
    | inr lots ↦
        let bad : 0 < 0 = rw no_groups at lots in
        absurd (omega arith)
  ]

  accepted : (t w : Text) → w ≡ a.id.now → PassesArg built w t → Accepts a.ignore_case q t
  accepted t w key pass =
      let s = same pass.0 pass.1 pass.2 pass.3 (subst (λ (u : Text). bytes_eq pass.1.id.now u ≡ true) key pass.4.0) in
      let here : Accepts pass.1.ignore_case q t = subst (λ (p : ValueParser). Accepts pass.1.ignore_case p t) (parser_is pass.1 s) pass.4.1 in
      subst (λ (b : Bool). Accepts b q t) s.ignore_case here

  all_accepted : (e : Entry) → e.0.now ≡ a.id.now → EntryPasses built e → All (λ v. Accepts a.ignore_case q v.now) e.1.vals.items
  all_accepted e key pass = elim pass.0 [
    | inl g ↦ absurd (no_group e key pass g)
    | inr all ↦ λ k d lt. accepted _ e.0.now key (all k d lt)
  ]

  reading_is : (e : Entry) → e.0.now ≡ a.id.now → EntryPasses built e → e.1.reading ≡ reading_of q
  reading_is e key pass = elim pass.4 [
    | inl g ↦ absurd (no_group e key pass g)
    | inr r ↦
        let s = same r.0 r.1 r.2 r.3 (subst (λ (u : Text). bytes_eq r.1.id.now u ≡ true) key r.4.0) in
        sym r.4.1 ∙ ap reading_of (parser_is r.1 s)
  ]

  has_value : (e : Entry) → e.0.now ≡ a.id.now → EntryPasses built e → 0 < length e.1.vals.items
  has_value e key pass = elim pass.1 [
    | inl g ↦ absurd (no_group e key pass g.0)
    | inr (inl some) ↦ some
    | inr (inr (inl counts)) ↦
        let any = counts.1 in
        let s = same any.0 any.1 any.2 any.3 (subst (λ (u : Text). bytes_eq any.1.id.now u ≡ true) key any.4.0) in
        let is_set : any.1.action ≡ Some Set = s.action Set set in
        let bad : Set ≡ Count = rw is_set at any.4.1 in
        cc
    | inr (inr (inr none)) ↦
        let s = same none.0 none.1 none.2 none.3 (subst (λ (u : Text). bytes_eq none.1.id.now u ≡ true) key none.4.0) in
        elim none.4.1 [
          | inl zero_values ↦
              let one = s.least set least in
              absurd (omega arith)
          | inr splits ↦
              let bad : false ≡ true = rw (s.val_delim, delim) at splits in
              cc
        ]
  ]

  -- the first value of the entry
  entry_reads : (x : MatchedArg) → matched_of f a.id.now ≡ Some x
      → (t : Text) × (one_text f a.id.now ≡ Some (read_as (reading_of q) t)) × Accepts a.ignore_case q t
  entry_reads x found =
      let got = entry_by_id (EntryPasses built) f.entries.items a.id.now x values found in
      let key : got.0.0.now ≡ a.id.now = (bytes_eq-Decides _ _).0 got.2 in
      let first = head_of (λ v. Accepts a.ignore_case q v.now) got.0.1.vals.items (has_value got.0 key got.3) (all_accepted got.0 key got.3) in
      let at_x : slice_get x.vals.items 0 ≡ Some first.0 = ap (λ (y : MatchedArg). slice_get y.vals.items 0) (sym got.1) ∙ first.1 in
      let read : x.reading ≡ reading_of q = ap (λ (y : MatchedArg). y.reading) (sym got.1) ∙ reading_is got.0 key got.3 in
      (first.0.now, one_text_is f a.id.now x first.0 q found read at_x, first.2)

-- ---- the argument of a rule

-- the test holds of one rule and no other
abbrev pub is_once : (Rule → Bool) → List Rule → Bool
is_once p [] = false
is_once p (r ∷ rs) = cond (p r) (not (list_any p rs)) (is_once p rs)

neither : (a b : Bool) → (a || b) ≡ false → (a ≡ false) × (b ≡ false)
neither true b h = cc
neither false b h = (refl, h)

none_of : (p : Rule → Bool) (xs : List Arg) → list_any p (map rule_of xs) ≡ false → (j : ℕ) (e : Arg) → j < length xs
    → p (rule_of (slice_index_or xs j e)) ≡ true → ⊥
none_of p [] h j e lt at = absurd (omega arith)
none_of p (x ∷ xs) h zero e lt at =
    let bad : false ≡ true = sym (neither _ _ h).0 ∙ at in
    cc
none_of p (x ∷ xs) h (suc j) e lt at = none_of p xs (neither (p (rule_of x)) _ h).1 j e (omega arith) at

-- the place of the only argument that passes the test
pub record IsAt (p : Rule → Bool) (r : Rule) (xs : List Arg) : Type 0 where
  pub place : ℕ
  pub arg : Arg
  pub is_within : place < length xs
  pub is_rule : rule_of (slice_index_or xs place arg) ≡ r
  pub passes : p r ≡ true
  pub is_only : (j : ℕ) (e : Arg) → j < length xs → p (rule_of (slice_index_or xs j e)) ≡ true → j ≡ place

only_here : (p : Rule → Bool) (r : Rule) (x : Arg) (xs : List Arg) → rule_of x ≡ r → p (rule_of x) ≡ true → list_any p (map rule_of xs) ≡ false → IsAt p r (x ∷ xs)
only_here p r x xs is here others = record {
  place = 0;
  arg = x;
  is_within = omega arith;
  is_rule = is;
  passes = ap p (sym is) ∙ here;
  is_only = only;
}
  where
    only : (j : ℕ) (e : Arg) → j < length (x ∷ xs) → p (rule_of (slice_index_or (x ∷ xs) j e)) ≡ true → j ≡ 0
    only zero e lt at = refl
    only (suc j) e lt at = absurd (none_of p xs others j e (omega arith) at)

only_later : (p : Rule → Bool) (r : Rule) (x : Arg) (xs : List Arg) → p (rule_of x) ≡ false → IsAt p r xs → IsAt p r (x ∷ xs)
only_later p r x xs not_here later = record {
  place = suc later.place;
  arg = later.arg;
  is_within = (let lt = later.is_within in omega arith);
  is_rule = later.is_rule;
  passes = later.passes;
  is_only = only;
}
  where
    only : (j : ℕ) (e : Arg) → j < length (x ∷ xs) → p (rule_of (slice_index_or (x ∷ xs) j e)) ≡ true → j ≡ suc later.place
    only zero e lt at =
        let bad : false ≡ true = sym not_here ∙ at in
        cc
    only (suc j) e lt at = ap suc (later.is_only j e (omega arith) at)

only_at : (p : Rule → Bool) (r : Rule) (xs : List Arg) → find p (map rule_of xs) ≡ Some r → is_once p (map rule_of xs) ≡ true → IsAt p r xs
only_at p r [] found once = cc
only_at p r (x ∷ xs) found once = go (p (rule_of x)) refl (only_at p r xs)
  where
    go : (b : Bool) → p (rule_of x) ≡ b → (find p (map rule_of xs) ≡ Some r → is_once p (map rule_of xs) ≡ true → IsAt p r xs) → IsAt p r (x ∷ xs)
    go false t later = only_later p r x xs t (later (rw t at found) (rw t at once))
    go true t later =
        let is : Some (rule_of x) ≡ Some r = rw t at found in
        only_here p r x xs (ap (λ (o : Option Rule). unwrap_or o r) is) t (is_false _ (rw t at once))

-- ---- a command and its matches

-- the command has no group, no global argument and no setting that changes how words are read
abbrev pub is_plain_command : App → Bool
is_plain_command command = is_ready command.top && list_all is_ready_leaf command.subs

-- the name is none of those that building adds
abbrev pub is_own_name : Text → Bool
is_own_name name = not (is_empty name) && (not (bytes_eq name (codes "help")) && not (bytes_eq name (codes "version")))

-- the command has one argument of this name
abbrev pub is_named_once : App → Text → Bool
is_named_once command name = is_own_name name && is_once (λ r. bytes_eq r.id name) command.top.rules

-- each use of the argument gives one value, which this parser takes, and it has a default
pub record HasDefault (r : Rule) (q : ValueParser) : Type 0 where
  pub set : r.action ≡ Some Set
  pub one_value : r.range ≡ None
  pub default : 0 < length r.defaults
  pub parser : r.parser ≡ Some q

not_empty_name : (name : Text) → is_own_name name ≡ true → name ≡ [] → ⊥
not_empty_name name own e =
    let bad : is_own_name [] ≡ true = subst (λ (w : Text). is_own_name w ≡ true) e own in
    cc

not_added_name : (name : Text) → is_own_name name ≡ true → (name ≡ codes "help") ⊎ (name ≡ codes "version") → ⊥
not_added_name name own (inl e) =
    let bad : is_own_name (codes "help") ≡ true = subst (λ (w : Text). is_own_name w ≡ true) e own in
    cc
not_added_name name own (inr e) =
    let bad : is_own_name (codes "version") ≡ true = subst (λ (w : Text). is_own_name w ≡ true) e own in
    cc

some_text : (xs : List (Bor Text)) → 0 < length (texts xs) → 0 < length xs
some_text [] h = h
some_text (x ∷ xs) h = omega arith

-- the place of a rule's argument, which has a name of its own
place_of_rule : (c : Command) (command : App) (r : Rule) → app_of c ≡ command → is_named_once command r.id ≡ true → arg_by_id command.top.rules r.id ≡ Some r
    → IsAt (λ x. bytes_eq x.id r.id) r (args_of c)
place_of_rule c command r same once found =
    let test = λ (x : Rule). bytes_eq x.id r.id in
    only_at test r (args_of c)
    (subst (λ (x : App). find test x.top.rules ≡ Some r) (sym same) found)
    (subst (λ (x : App). is_once test x.top.rules ≡ true) (sym same) (both (is_own_name r.id) _ once).1)

-- if a parse takes the words, an argument with a default has a value that passed its parser
pub default_found : (c : Command) (command : App) (m : ArgMatches) (r : Rule) (q : ValueParser) → app_of c ≡ command → IsParsedFrom c m
    → is_plain_command command ≡ true → is_named_once command r.id ≡ true → arg_by_id command.top.rules r.id ≡ Some r → HasDefault r q
    → (t : Text) × (one_text (found_of m) r.id ≡ Some (read_as (reading_of q) t)) × Accepts r.ignore_case q t
default_found c command m r q same p plain once found has =
    let own = (both (is_own_name r.id) _ once).0 in
    let tests : is_plain_command (app_of c) ≡ true = subst (λ (x : App). is_plain_command x ≡ true) (sym same) plain in
    let ready = (both (is_ready (shape_of c)) _ tests).0 in
    let rules : has_simple_rules (shape_of c) ≡ true = (both (has_simple_rules (shape_of c)) _ ready).0 in
    let fields = plain_fields c (both (shape_of c).is_plain _ rules).0 in
    let in_no_group = simple_groups c (both (shape_of c).is_plain _ rules).1 in
    let at = place_of_rule c command r same once found in
    let old = slice_index_or (args_of c) at.place at.arg in
    let id : old.id.now ≡ r.id = ap (λ (x : Rule). x.id) at.is_rule in
    let simple = (ready_simple c ready (both (is_ready (shape_of c)) _ tests).1).args at.place at.arg at.is_within in
    let some : 0 < length (items_of old.default_vals) =
    some_text _ (subst (λ (x : Rule). 0 < length x.defaults) (sym at.is_rule) has.default) in
    let one : old.num_vals ≡ None = ap (λ (x : Rule). x.range) at.is_rule ∙ has.one_value in
    let least : 1 ≤ least_values old = subst (λ (o : Option ValueRange). 1 ≤ (unwrap_or_range o).start_inclusive) (sym one) (omega arith) in
    let entry = default_present c m p fields.globals at.place at.arg at.is_within (simple.default_ifs, some) in
    let x = has_entry (found_of m).entries.items old.id.now entry.0 entry.1 entry.2 in
    let got = entry_reads p.built (found_of m) old q (p.parsed (p.from.globals ∙ fields.globals)).values
    ((p.from.same_groups in_no_group).1 ∙ fields.groups)
    (λ e. not_empty_name r.id own (sym id ∙ e))
    (same_rules_by_id c m p at.place at.arg at.is_within
    (λ j e lt h. at.is_only j e lt (subst (λ (w : Text). bytes_eq (slice_index_or (args_of c) j e).id.now w ≡ true) id h))
    (λ auto. not_added_name r.id own (subst (λ (w : Text). (w ≡ codes "help") ⊎ (w ≡ codes "version")) id auto)))
    (ap (λ (y : Rule). y.action) at.is_rule ∙ has.set) simple.delimiter least
    (ap (λ (y : Rule). y.parser) at.is_rule ∙ has.parser) x.0 x.1 in (
      got.0,
      subst (λ (w : Text). one_text (found_of m) w ≡ Some (read_as (reading_of q) got.0)) id got.1,
      subst (λ (b : Bool). Accepts b q got.0) (ap (λ (y : Rule). y.ignore_case) at.is_rule) got.2,
    )

-- and so for an option with a whole number
pub number_found : (c : Command) (command : App) (m : ArgMatches) (name : Text) (least most : ℕ) (default : Text) → app_of c ≡ command → IsParsedFrom c m
    → is_plain_command command ≡ true → is_named_once command name ≡ true
    → arg_by_id command.top.rules name ≡ Some (number_rule name least most default) → HoldsNumber (found_of m) name least most
number_found c command m name least most default same p plain once found =
    default_found c command m (number_rule name least most default) (Unsigned least most) same p plain once found
    (record { set = refl; one_value = refl; default = omega arith; parser = refl })

-- ---- a word that must be given

-- no argument has a rule on another argument, and subcommands lift no requirement
abbrev pub is_free_command : App → Bool
is_free_command command = not command.top.subcommand_negates_reqs && list_all (λ r. r.is_free) command.top.rules

each_free : (xs : List Arg) → list_all (λ r. r.is_free) (map rule_of xs) ≡ true → All (λ a. is_free_arg a ≡ true) xs
each_free [] e k d lt = absurd (omega arith)
each_free (x ∷ xs) e zero d lt = (both (is_free_arg x) _ e).0
each_free (x ∷ xs) e (suc k) d lt = each_free xs (both (is_free_arg x) _ e).1 k d (omega arith)

plain_arg : (a : Arg) → is_free_arg a ≡ true → IsSimpleArg a → a.groups.items ≡ [] → IsPlainArg a
plain_arg a free simple groups =
    let exclusive = both (not a.exclusive) _ free in
    (is_false _ exclusive.0, is_nil _ (both (is_empty a.conflicts.items) _ exclusive.1).0, simple.overrides, groups)

-- each use of the argument gives one value, which this parser takes, and it must be given
pub record IsRequired (r : Rule) (q : ValueParser) : Type 0 where
  pub set : r.action ≡ Some Set
  pub one_value : r.range ≡ None
  pub required : r.required ≡ true
  pub parser : r.parser ≡ Some q

-- if a parse takes the words, an argument that must be given has a value that passed its parser
pub required_found : (c : Command) (command : App) (m : ArgMatches) (r : Rule) (q : ValueParser) → app_of c ≡ command → IsParsedFrom c m
    → is_plain_command command ≡ true → is_free_command command ≡ true → is_named_once command r.id ≡ true → arg_by_id command.top.rules r.id ≡ Some r → IsRequired r q
    → (t : Text) × (one_text (found_of m) r.id ≡ Some (read_as (reading_of q) t)) × Accepts r.ignore_case q t
required_found c command m r q same p plain free once found has =
    let own = (both (is_own_name r.id) _ once).0 in
    let tests : is_plain_command (app_of c) ≡ true = subst (λ (x : App). is_plain_command x ≡ true) (sym same) plain in
    let frees : is_free_command (app_of c) ≡ true = subst (λ (x : App). is_free_command x ≡ true) (sym same) free in
    let ready = (both (is_ready (shape_of c)) _ tests).0 in
    let rules : has_simple_rules (shape_of c) ≡ true = (both (has_simple_rules (shape_of c)) _ ready).0 in
    let fields = plain_fields c (both (shape_of c).is_plain _ rules).0 in
    let in_no_group = simple_groups c (both (shape_of c).is_plain _ rules).1 in
    let simple = (ready_simple c ready (both (is_ready (shape_of c)) _ tests).1).args in
    let negates = both (not (shape_of c).subcommand_negates_reqs) _ frees in
    let all_free = each_free (args_of c) negates.1 in
    let at = place_of_rule c command r same once found in
    let old = slice_index_or (args_of c) at.place at.arg in
    let id : old.id.now ≡ r.id = ap (λ (x : Rule). x.id) at.is_rule in
    let one : old.num_vals ≡ None = ap (λ (x : Rule). x.range) at.is_rule ∙ has.one_value in
    let least : 1 ≤ least_values old = subst (λ (o : Option ValueRange). 1 ≤ (unwrap_or_range o).start_inclusive) (sym one) (omega arith) in
    let got = required_reads c m p
    (λ k d lt. plain_arg (slice_index_or (args_of c) k d) (all_free k d lt) (simple k d lt) (in_no_group k d lt), fields.groups)
    fields.globals (is_false _ negates.0) at.place at.arg at.is_within
    (ap (λ (y : Rule). y.required) at.is_rule ∙ has.required) (ap (λ (y : Rule). y.action) at.is_rule ∙ has.set)
    (simple at.place at.arg at.is_within).delimiter least
    (λ j e lt h. at.is_only j e lt (subst (λ (w : Text). bytes_eq (slice_index_or (args_of c) j e).id.now w ≡ true) id h))
    (λ e. not_empty_name r.id own (sym id ∙ e))
    (λ auto. not_added_name r.id own (subst (λ (w : Text). (w ≡ codes "help") ⊎ (w ≡ codes "version")) id auto))
    q (ap (λ (y : Rule). y.parser) at.is_rule ∙ has.parser) in (
      got.0,
      subst (λ (w : Text). one_text (found_of m) w ≡ Some (read_as (reading_of q) got.0)) id got.1,
      subst (λ (b : Bool). Accepts b q got.0) (ap (λ (y : Rule). y.ignore_case) at.is_rule) got.2,
    )

-- and so for a word that is a whole number
pub number_word_found : (c : Command) (command : App) (m : ArgMatches) (name : Text) (least most : ℕ) → app_of c ≡ command → IsParsedFrom c m
    → is_plain_command command ≡ true → is_free_command command ≡ true → is_named_once command name ≡ true
    → arg_by_id command.top.rules name ≡ Some (number_word_rule name least most) → HoldsNumber (found_of m) name least most
number_word_found c command m name least most same p plain free once found =
    required_found c command m (number_word_rule name least most) (Unsigned least most) same p plain free once found
    (record { set = refl; one_value = refl; required = refl; parser = refl })
