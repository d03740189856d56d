-- A text in which no wanted line was found begins with none.
use Rattle.std.proofs.Common.{◌≡◌, refl, sym, ap, ◌∙◌, subst, ℕ, ◌+◌, ◌≤◌, Bool, true, List, [], ◌∷◌, ◌++◌, length, Option, Some, None, append_assoc, ◌≢◌, arith, Result, Ok, Err, IfErr}
use Rattle.std.proofs.lemmas.List.{append-nil, length-append}
use Rattle.std.proofs.lemmas.Bool.{false≢true}
use Rattle.record_text.specs.TextLines.{TextLine}
use Rattle.linear_sums.specs.declared.pick.Pick.{Pick}
use Rattle.record_text.specs.declared.line.ReadLine.{ReadLine}
use Rattle.record_text.specs.FoundLines.{FoundLine}
use Rattle.record_text.specs.FoundLines as F
use Rattle.record_text.specs.declared.found.Wanted.{Wanted}
use Rattle.record_text.specs.Lines.{IsShort, spelled, NoFeed}
use Rattle.record_text.specs.declared.stop.VerifyStop.{VerifyStop}
use Rattle.record_text.specs.declared.stop.VerifyStop.TheVariants.{BadLine}
use Rattle.record_text.specs.declared.stop.SourceStop.{SourceStop}
use Rattle.record_text.specs.declared.stop.SourceStop.TheVariants as S
use Rattle.outside_io.specs.Files.{NothingLeft}
use Rattle.record_text.specs.Stops.{told}
use Rattle.std.specs.Result.{IsErrAnd}
use Rattle.record_text.specs.Source.{limit, Unread, rest_of, Gives, IsAtEnd, IsTooLong, IsWithin}
use Rattle.record_text.specs.WholeLines.{whole_line, whole_if}
use Rattle.record_text.specs.Reader.{wants, wanted_line, IsFound, is_nothing, AtEndIfNothing, Finds, NoneWanted, Reading, GivesLine, MayCome, Stops}
use Rattle.record_text.proofs.LineSpelling.{spelled_no_feed, same_line, line_unique}
use Rattle.record_text.proofs.Spelling.{chosen}
use Rattle.record_text.proofs.Reading.{left_after, end_rest, within_before, too_long_before}

feed_within : (a xs : List ℕ) → NoFeed (a ++ 10 ∷ xs) → ⊥
feed_within [] xs h = false≢true h
feed_within (c ∷ a) xs h = feed_within a xs (let more : NoFeed (a ++ 10 ∷ xs) = grind (arith) in more)

not_wanted : (wanted : Wanted) (line : TextLine) → wanted_line wanted (F.Line line) ≡ None → wants wanted line ≡ true → ⊥
not_wanted wanted line e is = chosen (wants wanted line) (Some line) None None e (λ _ some_. let never : ⊥ = cc in never) (λ no_ _. false≢true (sym no_ ∙ is))

-- what was found of the text, and what comes after it
found_none : (wanted : Wanted) (found : FoundLine) (text later rest : List ℕ) → IsFound text found → wanted_line wanted found ≡ None
    → ((line : TextLine) → found ≡ F.Line line → rest ≡ text ++ 10 ∷ later) → (found ≡ F.Other → rest ≡ text ++ 10 ∷ later) → (found ≡ F.Nothing → rest ≡ text) → NoneWanted wanted rest
found_none wanted (F.Line line) text later rest is none at_line at_other at_end = λ l after few wants_l e.
    let whole : spelled l ++ 10 ∷ after ≡ spelled line ++ 10 ∷ later = sym e ∙ (at_line line refl ∙ ap (λ (bs : List ℕ). bs ++ 10 ∷ later) is.1) in
    let same : l ≡ line = (line_unique l line after later few is.0 whole).0 in
    not_wanted wanted line none (subst (λ (m : TextLine). wants wanted m ≡ true) same wants_l)
found_none wanted F.Other text later rest is none at_line at_other at_end = λ l after few wants_l e.
    let whole : text ++ 10 ∷ later ≡ spelled l ++ 10 ∷ after = sym (at_other refl) ∙ e in
    is.1 l few (same_line text (spelled l) later after is.0 (spelled_no_feed l few) whole).0
found_none wanted F.Nothing text later rest is none at_line at_other at_end = λ l after few wants_l e.
    feed_within (spelled l) after (subst NoFeed (sym (at_end refl) ∙ e) is)

pub none_wanted : (wanted : Wanted) (found : FoundLine) (x y : Unread) (l m : Option (List ℕ)) → Finds found x y l m → wanted_line wanted found ≡ None
    → (rest : List ℕ) → rest_of x l ≡ Some rest → NoneWanted wanted rest
none_wanted wanted (F.Line line) x y l m f none rest known =
    let r = left_after (f.text ++ 10 ∷ []) (rest_of y m) rest (sym f.gives.rest ∙ known) in
    let split : rest ≡ f.text ++ 10 ∷ r.0 = r.2 ∙ append_assoc f.text (10 ∷ []) r.0 in
    found_none wanted (F.Line line) f.text r.0 rest f.is none (λ _ _. split) (λ _. split) (λ e. let never : ⊥ = cc in absurd never)
none_wanted wanted F.Other x y l m f none rest known =
    let r = left_after (f.text ++ 10 ∷ []) (rest_of y m) rest (sym f.gives.rest ∙ known) in
    let split : rest ≡ f.text ++ 10 ∷ r.0 = r.2 ∙ append_assoc f.text (10 ∷ []) r.0 in
    found_none wanted F.Other f.text r.0 rest f.is none (λ _ _. split) (λ _. split) (λ e. let never : ⊥ = cc in absurd never)
none_wanted wanted F.Nothing x y l m f none rest known =
    let r = left_after f.text (rest_of y m) rest (sym f.gives.rest ∙ known) in
    let nothing : r.0 ≡ [] = end_rest y m r.0 f.at_end r.1 in
    let all : rest ≡ f.text = r.2 ∙ (ap (λ (bs : List ℕ). f.text ++ bs) nothing ∙ append-nil f.text) in
    found_none wanted F.Nothing f.text [] rest f.is none (λ _ e. let never : ⊥ = cc in absurd never) (λ e. let never : ⊥ = cc in absurd never) (λ _. all)

-- ---- the reader's answers

-- what is wanted of what was found, with the rules of the sum that was read last
pub whole_some : (ps : List Pick) (r : Option ReadLine) (line : ReadLine) (o : Option TextLine) → whole_if ps r ≡ o → r ≡ Some line → o ≡ Some (whole_line ps line)
whole_some ps r line o e is = sym e ∙ ap (whole_if ps) is

pub whole_none : (ps : List Pick) (r : Option ReadLine) (o : Option TextLine) → whole_if ps r ≡ o → r ≡ None → o ≡ None
whole_none ps r o e is = sym e ∙ ap (whole_if ps) is

pub ended_if : (found : FoundLine) (ended : Bool) (y : Unread) (m : Option (List ℕ)) → AtEndIfNothing found y m → ended ≡ is_nothing found → ended ≡ true → IsAtEnd y m
ended_if (F.Line line) ended y m at_end e is = absurd (false≢true (sym e ∙ is))
ended_if F.Other ended y m at_end e is = absurd (false≢true (sym e ∙ is))
ended_if F.Nothing ended y m at_end e is = at_end

pub line_given : (wanted : Wanted) (found : FoundLine) (line : TextLine) (before : Reading) (x y : Unread) (ps qs : List Pick) (n : ℕ) (l m : Option (List ℕ)) → Finds found x y l m
    → wanted_line wanted found ≡ Some line → before ≡ record { unread = x; picks = ps; lines = n } → GivesLine line wanted before (record { unread = y; picks = qs; lines = n + 1 }) l m
line_given wanted F.Other line before x y ps qs n l m f some_ is = let never : ⊥ = cc in absurd never
line_given wanted F.Nothing line before x y ps qs n l m f some_ is = let never : ⊥ = cc in absurd never
line_given wanted (F.Line other) line before x y ps qs n l m f some_ is = chosen (wants wanted other) (Some other) None (Some line) some_
    (λ yes_ value.
    let same : other ≡ line = cc in
    let spelling : f.text ≡ spelled line = f.is.1 ∙ ap spelled same in
    subst (λ (b : Reading). GivesLine line wanted b (record { unread = y; picks = qs; lines = n + 1 }) l m) (sym is) record {
      short = subst IsShort same f.is.0;
      is_wanted = subst (λ (t : TextLine). wants wanted t ≡ true) same yes_;
      gives = subst (λ (bs : List ℕ). Gives (bs ++ 10 ∷ []) x y l m) spelling f.gives;
      counted = refl;
    })
    (λ _ none. let never : ⊥ = cc in absurd never)

-- the source stopped
pub source_stops : {A : Type 0} (r : Result A VerifyStop) (stop : SourceStop) (reason : List ℕ → Type 0) (before : Reading) (l m : Option (List ℕ)) → IsErrAnd r (λ e. e ≡ told stop)
    → (stop ≡ S.TooLong → IsTooLong before.unread l) → IfErr r (λ e. Stops e reason before l m)
source_stops (Ok a) stop reason before l m h too = absurd h
source_stops (Err e) S.Shelf reason before l m h too = subst (λ (s : VerifyStop). Stops s reason before l m) (sym h) tt
source_stops (Err e) S.TooLong reason before l m h too = subst (λ (s : VerifyStop). Stops s reason before l m) (sym h) (too refl)

refuses : (reason : List ℕ → Type 0) (before : Reading) (l m : Option (List ℕ)) (stop : VerifyStop) → stop ≡ BadLine (before.lines + 1)
    → ((rest : List ℕ) → rest_of before.unread l ≡ Some rest → reason rest) → IsWithin before.unread l → MayCome reason before → NothingLeft m → Stops stop reason before l m
refuses reason before l m stop is because within may_come nothing =
    subst (λ (s : VerifyStop). Stops s reason before l m) (sym is) (record { number = refl; because = because; within = within; may_come = may_come }, nothing)

-- at the end of a text no wanted line comes
none_at_end : (wanted : Wanted) → NoneWanted wanted []
none_at_end wanted line later short is same = let counts : 0 ≡ length (spelled line ++ 10 ∷ later) = ap (λ (bs : List ℕ). length bs) same in let never : ⊥ = omega (arith, counts, length-append (spelled line) (10 ∷ later)) in never

pub refuses_none : (wanted : Wanted) (found : FoundLine) (before : Reading) (x y z : Unread) (ps : List Pick) (n : ℕ) (l m k : Option (List ℕ)) (stop : VerifyStop) → Finds found x y l m
    → wanted_line wanted found ≡ None → before ≡ record { unread = x; picks = ps; lines = n } → y.given ≤ limit → IsWithin y m → IsAtEnd z k → stop ≡ BadLine (n + 1) → Stops stop (NoneWanted wanted) before l k
refuses_none wanted found before x y z ps n l m k stop f none is few within end_ bad =
    subst (λ (b : Reading). Stops stop (NoneWanted wanted) b l k) (sym is)
    (refuses (NoneWanted wanted) (record { unread = x; picks = ps; lines = n }) l k stop bad (none_wanted wanted found x y l m f none)
    (within_before _ x y l m f.gives within) (record { bytes = []; because = none_at_end wanted; few = omega (arith, few, f.gives.given) }) end_.nothing)

pub refuses_more : (b : ℕ) (before : Reading) (x y z : Unread) (ps : List Pick) (n : ℕ) (l m k : Option (List ℕ)) (stop : VerifyStop) → Gives (b ∷ []) x y l m
    → before ≡ record { unread = x; picks = ps; lines = n } → y.given ≤ limit → IsWithin y m → IsAtEnd z k → stop ≡ BadLine (n + 1) → Stops stop (λ (rest : List ℕ). rest ≢ []) before l k
refuses_more b before x y z ps n l m k stop g is few within end_ bad =
    subst (λ (r : Reading). Stops stop (λ (rest : List ℕ). rest ≢ []) r l k) (sym is)
    (refuses (λ (rest : List ℕ). rest ≢ []) (record { unread = x; picks = ps; lines = n }) l k stop bad
    (λ rest known empty. let r = left_after (b ∷ []) (rest_of y m) rest (sym g.rest ∙ known) in let never : b ∷ r.0 ≡ [] = sym r.2 ∙ empty in cc)
    (within_before _ x y l m g within) (record { bytes = b ∷ []; because = λ empty. cc; few = omega (arith, few, g.given) }) end_.nothing)

-- too many bytes after some that were read
pub too_long_at : (a : List ℕ) (before : Reading) (x y : Unread) (ps : List Pick) (n : ℕ) (l m : Option (List ℕ)) → Gives a x y l m → before ≡ record { unread = x; picks = ps; lines = n }
    → IsTooLong y m → IsTooLong before.unread l
too_long_at a before x y ps n l m g is too = subst (λ (r : Reading). IsTooLong r.unread l) (sym is) (too_long_before a x y l m g too)

pub too_long_first : (before : Reading) (x : Unread) (ps : List Pick) (n : ℕ) (l : Option (List ℕ)) → before ≡ record { unread = x; picks = ps; lines = n } → IsTooLong x l → IsTooLong before.unread l
too_long_first before x ps n l is too = subst (λ (r : Reading). IsTooLong r.unread l) (sym is) too
