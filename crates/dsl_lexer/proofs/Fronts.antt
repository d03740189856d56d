-- The piece that is found stands at the start and has its shape. It is the longest. If none is found, none fits.
use Rattle.std.proofs.Common.{◌≡◌, ℕ, suc, ◌+◌, ◌≤◌, Bool, true, false, cond, ◌&&◌, ◌||◌, not, inl, inr, Option, Some, None, List, [], ◌∷◌, ◌++◌, length, take, drop, refl, ap, sym, ◌∙◌, arith}
use Rattle.std.specs.Prelude.{is_some, ◌==◌}
use Rattle.std.specs.List.{list_all, prefix_len}
use Rattle.std.specs.Option.{option_map}
use Rattle.std.proofs.lemmas.Bool.{and_parts, and_from, cond_both, false≢true, eqb-true}
use Rattle.std.proofs.lemmas.List.{append_assoc, length-append, take_at, drop_at, drop-drop, take-append-drop}
use Rattle.dsl_tree.specs.declared.token.MarkKind.{MarkKind}
use Rattle.dsl_lexer.specs.Scan.{is_inside}
use Rattle.dsl_lexer.specs.declared.shape.Shape.{Shape}
use Rattle.dsl_lexer.specs.Bytes.{is_digit, is_name_start, is_name_byte, is_line_feed, is_backslash, is_quote, is_escapable}
use Rattle.dsl_lexer.specs.Shapes.{Space, Tab, Comment, LineEnd, Joint, MarkShape, NameShape, NumberShape, StringShape, is_lexeme, entry, marks, IsShape}
use Rattle.dsl_lexer.specs.Pieces.{IsLongest, IsStuck, IsContent}
use Rattle.dsl_lexer.specs.Scan.{first_shape, begins_line_feed, line_end_len, begins_fraction, name_run, number_len, closing, mark_len, piece_len}
use Rattle.dsl_lexer.proofs.Inside.{test_inside}
use Rattle.dsl_lexer.specs.Kinds.{unescaped}
use Rattle.dsl_lexer.proofs.Fitting.{begins, AtMost, fit, digit_is_name_byte, start_is_name_byte}

-- what the first byte of a shape is

abbrev pub FirstOf : Shape → ℕ → Type 0
FirstOf Space b = b ≡ 32
FirstOf Tab b = b ≡ 9
FirstOf Comment b = b ≡ 35
FirstOf LineEnd b = (b == 10 || b == 13) ≡ true
FirstOf Joint b = b ≡ 92
FirstOf MarkShape b = Unit {0}
FirstOf NameShape b = is_name_start b ≡ true
FirstOf NumberShape b = is_digit b ≡ true
FirstOf StringShape b = is_quote b ≡ true

pub first_is : (b : ℕ) → FirstOf (first_shape b) b
first_is b = let P : Shape → Type 0 = λ s. FirstOf s b in
    cond_both (is_name_start b) NameShape _ P (λ t. t) (λ _.
    cond_both (b == 32) Space _ P (λ t. eqb-true b 32 t) (λ _.
    cond_both (is_digit b) NumberShape _ P (λ t. t) (λ _.
    cond_both (b == 10 || b == 13) LineEnd _ P (λ t. t) (λ _.
    cond_both (is_quote b) StringShape _ P (λ t. t) (λ _.
    cond_both (b == 35) Comment _ P (λ t. eqb-true b 35 t) (λ _.
    cond_both (b == 9) Tab _ P (λ t. eqb-true b 9 t) (λ _.
    cond_both (is_backslash b) Joint MarkShape P (λ t. eqb-true b 92 t) (λ _. tt))))))))

-- a text of the shape and of length n stands at the start

pub record Front (s : Shape) (rest : List ℕ) (n : ℕ) : Type 0 where
  pub text : List ℕ
  pub behind : List ℕ
  pub split : rest ≡ text ++ behind
  pub size : length text ≡ n
  pub shape : IsShape s text

-- the bytes from the start on that pass
pub record Run (p : ℕ → Bool) (rest : List ℕ) : Type 0 where
  pub text : List ℕ
  pub behind : List ℕ
  pub split : rest ≡ text ++ behind
  pub size : length text ≡ prefix_len p rest
  pub all : list_all p text ≡ true

add_byte : (p : ℕ → Bool) (b : ℕ) (rest : List ℕ) (t : Bool) → p b ≡ t → Run p rest → Run p (b ∷ rest)
add_byte p b rest true e run = record {
  text = b ∷ run.text;
  behind = run.behind;
  split = ap (λ t. b ∷ t) run.split;
  size = let z = run.size in rw e (omega arith);
  all = and_from (p b) (list_all p run.text) e run.all;
}
add_byte p b rest false e run = record { text = []; behind = b ∷ rest; split = refl; size = rw e refl; all = refl }

pub run_of : (p : ℕ → Bool) (rest : List ℕ) → Run p rest
run_of p [] = record { text = []; behind = []; split = refl; size = refl; all = refl }
run_of p (b ∷ rest) = add_byte p b rest (p b) refl (run_of p rest)

some_same : {A : Type 0} (x y : A) → Some x ≡ Some y → x ≡ y
some_same x y e = cc

line_end_front : (b : ℕ) (more : List ℕ) (n : ℕ) (one two : Bool) → is_line_feed b ≡ one → (b == 13 && begins_line_feed more) ≡ two
    → cond one (Some 1) (cond two (Some 2) None) ≡ Some n → Front LineEnd (b ∷ more) n
line_end_front b more n true two e f h = record { text = 10 ∷ []; behind = more; split = ap (λ c. c ∷ more) (eqb-true b 10 e); size = some_same 1 n h; shape = inl refl }
line_end_front b more n false false e f h = absurd (cc)
line_end_front b [] n false true e f h = absurd (false≢true ((and_parts (b == 13) false f).1))
line_end_front b (c ∷ more) n false true e f h =
    let parts = and_parts (b == 13) (is_line_feed c) f in
    record {
      text = 13 ∷ 10 ∷ [];
      behind = more;
      split = ap (λ x. x ∷ c ∷ more) (eqb-true b 13 parts.0) ∙ ap (λ x. 13 ∷ x ∷ more) (eqb-true c 10 parts.1);
      size = some_same 2 n h;
      shape = inr refl;
    }

pub line_end_found : (rest : List ℕ) (n : ℕ) → line_end_len rest ≡ Some n → Front LineEnd rest n
unfolding line_end_len
line_end_found [] n h = absurd (cc)
line_end_found (b ∷ more) n h = line_end_front b more n (is_line_feed b) (b == 13 && begins_line_feed more) refl refl h

suc_found : (o : Option ℕ) (n : ℕ) → option_map suc o ≡ Some n → (m : ℕ) × (o ≡ Some m) × (suc m ≡ n)
suc_found None n h = absurd (cc)
suc_found (Some m) n h = (m, refl, some_same (suc m) n h)

joint_found : (b : ℕ) (more : List ℕ) (n : ℕ) → b ≡ 92 → option_map suc (line_end_len more) ≡ Some n → Front Joint (b ∷ more) n
joint_found b more n e h =
    let (m, found, size) = suc_found (line_end_len more) n h in
    let end = line_end_found more m found in
    record {
      text = 92 ∷ end.text;
      behind = end.behind;
      split = ap (λ x. x ∷ more) e ∙ ap (λ t. 92 ∷ t) end.split;
      size = ap suc end.size ∙ size;
      shape = (end.text, refl, end.shape);
    }

pick_front : (rest : List ℕ) (n : ℕ) (two one : Option MarkKind) → entry (take 2 rest) marks ≡ two → entry (take 1 rest) marks ≡ one
    → cond (is_some two) (Some (length (take 2 rest))) (cond (is_some one) (Some (length (take 1 rest))) None) ≡ Some n → Front MarkShape rest n
pick_front rest n (Some k) one e f h = record { text = take 2 rest; behind = drop 2 rest; split = sym (take-append-drop 2 rest); size = some_same (length (take 2 rest)) n h; shape = rw e refl }
pick_front rest n None (Some k) e f h = record { text = take 1 rest; behind = drop 1 rest; split = sym (take-append-drop 1 rest); size = some_same (length (take 1 rest)) n h; shape = rw f refl }
pick_front rest n None None e f h = absurd (cc)

mark_found : (rest : List ℕ) (n : ℕ) → mark_len rest ≡ Some n → Front MarkShape rest n
unfolding mark_len
mark_found rest n h = pick_front rest n (entry (take 2 rest) marks) (entry (take 1 rest) marks) refl refl h

run_cons : (p : ℕ → Bool) (b : ℕ) (more : List ℕ) → p b ≡ true → prefix_len p (b ∷ more) ≡ suc (prefix_len p more)
run_cons p b more t = rw t (omega arith)

name_found : (b : ℕ) (more : List ℕ) (n : ℕ) → is_name_start b ≡ true → name_run (b ∷ more) ≡ n → Front NameShape (b ∷ more) n
name_found b more n s h =
    let run = run_of is_name_byte more in
    record {
      text = b ∷ run.text;
      behind = run.behind;
      split = ap (λ t. b ∷ t) run.split;
      size = ap suc run.size ∙ sym (run_cons is_name_byte b more (start_is_name_byte b s)) ∙ h;
      shape = (s, run.all);
    }

comment_found : (b : ℕ) (more : List ℕ) (n : ℕ) → b ≡ 35 → prefix_len (λ c. not (is_line_feed c)) (b ∷ more) ≡ n → Front Comment (b ∷ more) n
comment_found b more n e h =
    let p : ℕ → Bool = λ c. not (is_line_feed c) in
    let run = run_of p more in
    record {
      text = 35 ∷ run.text;
      behind = run.behind;
      split = ap (λ x. x ∷ more) e ∙ ap (λ t. 35 ∷ t) run.split;
      size = ap suc run.size ∙ sym (run_cons p b more (rw e refl)) ∙ h;
      shape = (run.text, refl, run.all);
    }

pub same_front : (xs ys us vs : List ℕ) → xs ++ ys ≡ us ++ vs → length xs ≡ length us → (xs ≡ us) × (ys ≡ vs)
same_front xs ys us vs e n = (
  sym (take_at xs ys (length xs) refl) ∙ ap (take (length xs)) e ∙ take_at us vs (length xs) (sym n),
  sym (drop_at xs ys (length xs) refl) ∙ ap (drop (length xs)) e ∙ drop_at us vs (length xs) (sym n),
)

-- a point and a digit
record Fraction (rest : List ℕ) : Type 0 where
  pub digit : ℕ
  pub more : List ℕ
  pub split : rest ≡ 46 ∷ digit ∷ more
  pub good : is_digit digit ≡ true

fraction_is : (rest : List ℕ) → begins_fraction rest ≡ true → Fraction rest
fraction_is [] h = absurd (false≢true h)
fraction_is (b ∷ []) h = absurd (false≢true h)
fraction_is (b ∷ c ∷ more) h =
    let parts = and_parts (b == 46) (is_digit c) h in
    record { digit = c; more = more; split = ap (λ x. x ∷ c ∷ more) (eqb-true b 46 parts.0); good = parts.1 }

number_front : (b : ℕ) (more : List ℕ) (n : ℕ) (test : Bool) → is_digit b ≡ true
    → (prefix_len is_digit (b ∷ more) == name_run (b ∷ more) && begins_fraction (drop (name_run (b ∷ more)) (b ∷ more))) ≡ test
    → cond test (name_run (b ∷ more) + 1 + name_run (drop (name_run (b ∷ more) + 1) (b ∷ more))) (name_run (b ∷ more)) ≡ n → Front NumberShape (b ∷ more) n
number_front b more n false d t h =
    let run = run_of is_name_byte more in
    record {
      text = b ∷ run.text;
      behind = run.behind;
      split = ap (λ t. b ∷ t) run.split;
      size = ap suc run.size ∙ sym (run_cons is_name_byte b more (digit_is_name_byte b d)) ∙ h;
      shape = inl (d, run.all);
    }
number_front b more n true d t h =
    let run = run_of is_name_byte more in
    let tests = and_parts (prefix_len is_digit (b ∷ more) == name_run (b ∷ more)) (begins_fraction (drop (name_run (b ∷ more)) (b ∷ more))) t in
    let first : name_run (b ∷ more) ≡ suc (length run.text) = run_cons is_name_byte b more (digit_is_name_byte b d) ∙ sym (ap suc run.size) in
    let whole : b ∷ more ≡ (b ∷ run.text) ++ run.behind = ap (λ t. b ∷ t) run.split in
    let behind : drop (name_run (b ∷ more)) (b ∷ more) ≡ run.behind = ap (λ k. drop k (b ∷ more)) first ∙ ap (drop (suc (length run.text))) whole ∙ drop_at (b ∷ run.text) run.behind (suc (length run.text)) refl in
    let point = fraction_is run.behind (sym (ap begins_fraction behind) ∙ tests.1) in
    let part = run_of is_name_byte point.more in
    let later : drop (name_run (b ∷ more) + 1) (b ∷ more) ≡ point.digit ∷ point.more = sym (drop-drop 1 (name_run (b ∷ more)) (b ∷ more)) ∙ ap (drop 1) (behind ∙ point.split) in
    let second : name_run (drop (name_run (b ∷ more) + 1) (b ∷ more)) ≡ suc (length part.text) = ap name_run later ∙ run_cons is_name_byte point.digit point.more (digit_is_name_byte point.digit point.good) ∙ sym (ap suc part.size) in
    let digits = run_of is_digit (b ∷ more) in
    let count : length digits.text ≡ length (b ∷ run.text) = digits.size ∙ eqb-true (prefix_len is_digit (b ∷ more)) (name_run (b ∷ more)) tests.0 ∙ first in
    let same = same_front digits.text digits.behind (b ∷ run.text) run.behind (sym digits.split ∙ whole) count in
    let all : list_all is_digit (b ∷ run.text) ≡ true = sym (ap (list_all is_digit) same.0) ∙ digits.all in
    record {
      text = (b ∷ run.text) ++ 46 ∷ point.digit ∷ part.text;
      behind = part.behind;
      split = whole ∙ ap (λ t. (b ∷ run.text) ++ t) (point.split ∙ ap (λ t. 46 ∷ point.digit ∷ t) part.split) ∙ sym (append_assoc (b ∷ run.text) (46 ∷ point.digit ∷ part.text) part.behind);
      size = length-append (b ∷ run.text) (46 ∷ point.digit ∷ part.text) ∙ omega (arith, first, second, h);
      shape = inr (b ∷ run.text, point.digit ∷ part.text, refl, (d, (and_parts (is_digit b) (list_all is_digit run.text) all).1), (point.good, part.all));
    }

number_found : (b : ℕ) (more : List ℕ) (n : ℕ) → is_digit b ≡ true → number_len (b ∷ more) ≡ n → Front NumberShape (b ∷ more) n
unfolding number_len
number_found b more n d h = number_front b more n (prefix_len is_digit (b ∷ more) == name_run (b ∷ more) && begins_fraction (drop (name_run (b ∷ more)) (b ∷ more))) d refl h

record Closed (quote : ℕ) (escaped : Bool) (rest : List ℕ) (n : ℕ) : Type 0 where
  pub inside : List ℕ
  pub behind : List ℕ
  pub split : rest ≡ inside ++ quote ∷ behind
  pub size : length inside + 1 ≡ n
  pub good : is_inside quote escaped inside ≡ true

escape_closed : (quote b : ℕ) (more : List ℕ) (o : Option ℕ) (n : ℕ) (e : Bool) → is_escapable b ≡ e → ((m : ℕ) → o ≡ Some m → Closed quote false more m)
    → cond e (option_map suc o) None ≡ Some n → Closed quote true (b ∷ more) n
escape_closed quote b more o n false e go h = absurd (cc)
escape_closed quote b more o n true e go h =
    let (m, f, size) = suc_found o n h in
    let c = go m f in
    let z = c.size in
    record { inside = b ∷ c.inside; behind = c.behind; split = ap (λ t. b ∷ t) c.split; size = omega (arith, z, size); good = and_from (is_escapable b) (is_inside quote false c.inside) e c.good }

plain_closed : (quote b : ℕ) (more : List ℕ) (o p : Option ℕ) (n : ℕ) (back same feed : Bool) → is_backslash b ≡ back → (b == quote) ≡ same → is_line_feed b ≡ feed
    → ((m : ℕ) → o ≡ Some m → Closed quote true more m) → ((m : ℕ) → p ≡ Some m → Closed quote false more m)
    → cond back (option_map suc o) (cond same (Some 1) (cond feed None (option_map suc p))) ≡ Some n → Closed quote false (b ∷ more) n
plain_closed quote b more o p n true same feed e f g go gp h =
    let (m, found, size) = suc_found o n h in
    let c = go m found in
    let z = c.size in
    record { inside = b ∷ c.inside; behind = c.behind; split = ap (λ t. b ∷ t) c.split; size = omega (arith, z, size); good = rw e c.good }
plain_closed quote b more o p n false true feed e f g go gp h =
    record { inside = []; behind = more; split = ap (λ x. x ∷ more) (eqb-true b quote f); size = some_same 1 n h; good = refl }
plain_closed quote b more o p n false false true e f g go gp h = absurd (cc)
plain_closed quote b more o p n false false false e f g go gp h =
    let (m, found, size) = suc_found p n h in
    let c = gp m found in
    let z = c.size in
    record { inside = b ∷ c.inside; behind = c.behind; split = ap (λ t. b ∷ t) c.split; size = omega (arith, z, size); good = rw (e, f, g) c.good }

closed : (quote : ℕ) (escaped : Bool) (rest : List ℕ) (n : ℕ) → closing quote escaped rest ≡ Some n → Closed quote escaped rest n
unfolding closing
closed quote true [] n h = absurd (cc)
closed quote false [] n h = absurd (cc)
closed quote true (b ∷ more) n h = escape_closed quote b more (closing quote false more) n (is_escapable b) refl (λ m f. closed quote false more m f) h
closed quote false (b ∷ more) n h =
    plain_closed quote b more (closing quote true more) (closing quote false more) n (is_backslash b) (b == quote) (is_line_feed b) refl refl refl
    (λ m f. closed quote true more m f) (λ m f. closed quote false more m f) h

string_found : (b : ℕ) (more : List ℕ) (n : ℕ) → is_quote b ≡ true → option_map suc (closing b false more) ≡ Some n → Front StringShape (b ∷ more) n
string_found b more n q h =
    let (m, found, size) = suc_found (closing b false more) n h in
    let c = closed b false more m found in
    record {
      text = b ∷ (c.inside ++ b ∷ []);
      behind = c.behind;
      split = ap (λ t. b ∷ t) (c.split ∙ sym (append_assoc c.inside (b ∷ []) c.behind));
      size = ap suc (length-append c.inside (b ∷ []) ∙ c.size) ∙ size;
      shape = (b, c.inside, unescaped false c.inside, refl, q, test_inside b c.inside c.good);
    }

found : (s : Shape) (b : ℕ) (more : List ℕ) (n : ℕ) → FirstOf s b → piece_len s (b ∷ more) ≡ Some n → Front s (b ∷ more) n
found Space b more n f h = record { text = 32 ∷ []; behind = more; split = ap (λ x. x ∷ more) f; size = some_same 1 n h; shape = refl }
found Tab b more n f h = record { text = 9 ∷ []; behind = more; split = ap (λ x. x ∷ more) f; size = some_same 1 n h; shape = refl }
found Comment b more n f h = comment_found b more n f (some_same (prefix_len (λ c. not (is_line_feed c)) (b ∷ more)) n h)
found LineEnd b more n f h = line_end_found (b ∷ more) n h
found Joint b more n f h = joint_found b more n f h
found MarkShape b more n f h = mark_found (b ∷ more) n h
found NameShape b more n f h = name_found b more n f (some_same (name_run (b ∷ more)) n h)
found NumberShape b more n f h = number_found b more n f (some_same (number_len (b ∷ more)) n h)
found StringShape b more n f h = string_found b more n f h

-- what fits at the start has the shape of the first byte, and is no longer than what is found
pub fits_at : (s : Shape) (text behind : List ℕ) (b : ℕ) (more : List ℕ) → IsShape s text → b ∷ more ≡ text ++ behind → (first_shape b ≡ s) × AtMost (length text) (piece_len (first_shape b) (b ∷ more))
fits_at s text behind b more shape split =
    let start = begins s text shape in
    let whole : b ∷ more ≡ start.head ∷ (start.tail ++ behind) = split ∙ ap (λ t. t ++ behind) start.split in
    let same : b ≡ start.head = cc in
    let first : first_shape b ≡ s = ap first_shape same ∙ start.first in
    let size : AtMost (length text) (piece_len s (b ∷ more)) = rw split (fit s text behind shape) in
    (first, rw first size)

-- the piece that stands at the start
pub record Next (s : Shape) (rest : List ℕ) (n : ℕ) : Type 0 where
  pub text : List ℕ
  pub behind : List ℕ
  pub split : rest ≡ text ++ behind
  pub size : length text ≡ n
  pub shape : IsShape s text
  pub longest : IsLongest text behind

at_most_some : (k n : ℕ) (o : Option ℕ) → o ≡ Some n → AtMost k o → k ≤ n
at_most_some k n o e h = rw e at h

at_most_none : (k : ℕ) (o : Option ℕ) → o ≡ None → AtMost k o → ⊥
at_most_none k o e h = rw e at h

pub next_found : (b : ℕ) (more : List ℕ) (n : ℕ) → piece_len (first_shape b) (b ∷ more) ≡ Some n → Next (first_shape b) (b ∷ more) n
next_found b more n h =
    let front = found (first_shape b) b more n (first_is b) h in
    record {
      text = front.text;
      behind = front.behind;
      split = front.split;
      size = front.size;
      shape = front.shape;
      longest = λ shape other behind fits split.
          let size = at_most_some (length other) n (piece_len (first_shape b) (b ∷ more)) h (fits_at shape other behind b more fits (front.split ∙ split)).1 in
          rw front.size size;
    }

pub stuck : (b : ℕ) (more : List ℕ) → piece_len (first_shape b) (b ∷ more) ≡ None → IsStuck (b ∷ more)
stuck b more h = record {
  more = λ e. cc;
  none = λ shape text behind fits split. at_most_none (length text) (piece_len (first_shape b) (b ∷ more)) h (fits_at shape text behind b more fits split).1;
}

pub content : (b : ℕ) (more : List ℕ) → is_lexeme (first_shape b) ≡ true → IsContent (b ∷ more)
content b more h = record {
  more = λ e. cc;
  lexeme = λ shape text behind fits split. sym (ap is_lexeme (fits_at shape text behind b more fits split).0) ∙ h;
}

pub stuck_content : (rest : List ℕ) → IsStuck rest → IsContent rest
stuck_content rest h = record { more = h.more; lexeme = λ shape text behind fits split. absurd (h.none shape text behind fits split) }
