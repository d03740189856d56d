-- The laws.
use Rattle.std.proofs.Common.{◌≡◌, ℕ, ◌+◌, ◌<◌, ◌≤◌, Bool, true, false, cond, ◌&&◌, not, ◌⊎◌, inl, inr, Option, Some, None, List, [], ◌∷◌, ◌++◌, length, take, drop, map, refl, ap, sym, ◌∙◌, subst, arith}
use Rattle.std.specs.Prelude.{◌≢◌, nat_lt, filter, ◌==◌}
use Rattle.std.specs.List.{list_all, take_while, prefix_len, AllByRecursion}
use Rattle.std.specs.Str.{IsUtf8, IsValidUpTo}
use Rattle.std.proofs.lemmas.Bool.{cases_order, cond_both, true≢false, ltb-true, lt-ltb, eqb-true}
use Rattle.std.proofs.lemmas.List.{take_all, append_assoc}
use Rattle.osc_base.specs.declared.fault.FaultCode.{FaultCode}
use Rattle.osc_base.proofs.FaultRows.{both_no_later}
use Rattle.osc_base.specs.declared.fault.Fault.{Fault}
use Rattle.osc_base.specs.declared.fault.Place.{Place}
use Rattle.dsl_tree.specs.declared.token.Token.{Token}
use Rattle.dsl_tree.specs.declared.token.TokenKind.{TokenKind}
use Rattle.dsl_tree.specs.declared.token.TokenKind.TheVariants.{Indent, Dedent, End, Mark}
use Rattle.dsl_lexer.specs.declared.shape.Shape.{Shape}
use Rattle.dsl_lexer.specs.Bytes.{place_at, is_digit, is_hexadecimal_digit}
use Rattle.dsl_lexer.specs.Shapes.{Space, Tab, Comment, LineEnd, Joint, MarkShape, NameShape, NumberShape, StringShape, is_lexeme, entry, marks}
use Rattle.dsl_lexer.specs.Kinds.{fraction, unit_name, kind_of, is_word, word_or_name, words, number_kind, hexadecimal_kind, decimal_kind}
use Rattle.dsl_lexer.specs.declared.words.LanguageWord.{LanguageWord}
use Rattle.dsl_lexer.specs.declared.words.LanguageWord.TheVariants.{LeftOut, Reserved}
use Rattle.dsl_tree.specs.declared.token.MarkKind.{MarkKind}
use Rattle.std.specs.Option.{option_map}
use Rattle.std.specs.Str.{bytes_eq}
use Rattle.std.specs.Prelude.{codes, nat_le}
use Rattle.dsl_lexer.specs.Pieces.{Piece, reach, Cut}
use Rattle.dsl_lexer.specs.Layout.{IsOpened, opened, line, width, widths, brackets, has_lexeme, begins_line, ends_line, is_widest, blocks, newline, own_token, brought, tokens, last_tokens, placed, OffsetToken}
use Rattle.dsl_lexer.specs.Steps.{opened_behind}
use Rattle.dsl_lexer.specs.SourceTokens.{AreSound, IsNext, FaultBehind, FaultAt, EndsOnce}
use Rattle.dsl_lexer.specs.Laws.{OneList, CutOrFault, OneFault, EndIsLast, Among, IsFalling, OpenedLaw}
use Rattle.dsl_lexer.proofs.Opened.{opened-cons}
use Rattle.dsl_lexer.proofs.Cutting.{same_cut, extends, sound_there, reach_there}
use Rattle.dsl_lexer.proofs.FaultClasses.{FaultClass, at_byte, at_tab, in_piece, class_of, nothing_next}
use Rattle.dsl_lexer.proofs.Firsts.{clean, later_tab}
use Rattle.dsl_lexer.proofs.Stepping.{tab_before}

-- nothing stands after the whole

whole_utf8 : (bytes : List ℕ) (n : ℕ) → IsUtf8 bytes → IsValidUpTo bytes n → ⊥
whole_utf8 bytes n u bad = bad.longest (length bytes) bad.short (rw (take_all (length bytes) bytes (omega arith)) u)

nothing_left : (bytes : List ℕ) (before : List Piece) (n : ℕ) (code : FaultCode) → IsUtf8 bytes → FaultBehind bytes before [] n code → ⊥
nothing_left bytes before n code u x = by_class (class_of bytes before [] n code x)
  where
    by_class : FaultClass bytes before [] n code → ⊥
    by_class (at_byte c bad reached ends) = whole_utf8 bytes n u bad
    by_class (at_tab c begun there) = begun.content.more refl
    by_class (in_piece c more reached inside unsound) = more refl

pub cut_or_fault : CutOrFault
cut_or_fault file bytes xs n code count t x =
    elim (cases_order (length x.before) (length t.pieces)) [
      | inl e ↦
          let same = same_cut bytes x.before t.pieces x.rest [] e x.cut t.cut in
          nothing_left bytes x.before n code t.utf8 (subst (λ r. FaultBehind bytes x.before r n code) same.1 x.fault)
      | inr (inl shorter) ↦
          let e = extends bytes x.before x.rest t.pieces [] shorter x.cut t.cut in
          let bad = clean bytes x.before x.rest e.next n code e.is_next (sound_there e.more x.before e.next (subst AreSound e.split t.sound)) x.fault in
          whole_utf8 bytes n t.utf8 bad.bad
      | inr (inr longer) ↦
          let e = extends bytes t.pieces [] x.before x.rest longer t.cut x.cut in
          nothing_next t.pieces e.next e.is_next
    ]

pub one_list : OneList
one_list file bytes xs ys a b =
    elim (cases_order (length a.pieces) (length b.pieces)) [
      | inl e ↦
          let same = same_cut bytes a.pieces b.pieces [] [] e a.cut b.cut in
          a.tokens ∙ ap (λ ps. placed file bytes 0 (tokens ps ++ last_tokens ps)) same.0 ∙ sym b.tokens
      | inr (inl shorter) ↦ let e = extends bytes a.pieces [] b.pieces [] shorter a.cut b.cut in absurd (nothing_next a.pieces e.next e.is_next)
      | inr (inr longer) ↦ let e = extends bytes b.pieces [] a.pieces [] longer b.cut a.cut in absurd (nothing_next b.pieces e.next e.is_next)
    ]

-- one first fault

-- a fault stands before the end of the next piece
fault_inside : (bytes : List ℕ) (before : List Piece) (rest : List ℕ) (p : Piece) (n : ℕ) (code : FaultCode) → Cut bytes before rest → IsNext before rest p → FaultBehind bytes before rest n code → n < reach before + length p.text
fault_inside bytes before rest p n code cut next x = by_class (class_of bytes before rest n code x)
  where
    by_class : FaultClass bytes before rest n code → n < reach before + length p.text
    by_class (at_byte c bad reached ends) = ends p next
    by_class (at_tab c begun there) = let low = tab_before bytes before rest n cut there in omega arith
    by_class (in_piece c more reached inside unsound) = inside p next

-- a fault of code `Tab` stands before a token
tab_lexeme : (bytes : List ℕ) (before : List Piece) (rest : List ℕ) (p : Piece) (n : ℕ) (code : FaultCode) → IsNext before rest p → code ≡ FaultCode.Tab → FaultBehind bytes before rest n code → is_lexeme p.shape ≡ true
tab_lexeme bytes before rest p n code next c x = by_class (class_of bytes before rest n code x)
  where
    by_class : FaultClass bytes before rest n code → is_lexeme p.shape ≡ true
    by_class (at_byte e bad reached ends) = absurd (cc)
    by_class (at_tab e begun there) = begun.content.lexeme p.shape p.text next.behind next.stands.shape next.split
    by_class (in_piece apart more reached inside unsound) = absurd (apart c)

-- of two faults with equal codes, the one at later pieces stands further on
fault_later : (bytes : List ℕ) (before more : List Piece) (rest end : List ℕ) (p : Piece) (n m : ℕ) (code : FaultCode) → Cut bytes (more ++ p ∷ before) end → IsNext before rest p → FaultBehind bytes before rest n code → FaultBehind bytes (more ++ p ∷ before) end m code
    → reach before + length p.text ≤ m
fault_later bytes before more rest end p n m code cut next first x = by_class (class_of bytes (more ++ p ∷ before) end m code x)
  where
    by_class : FaultClass bytes (more ++ p ∷ before) end m code → reach before + length p.text ≤ m
    by_class (at_byte e bad reached ends) = let far = reach_there more before p in omega arith
    by_class (at_tab e begun there) = later_tab bytes more p before end m cut (inl (tab_lexeme bytes before rest p n code next e first)) begun there
    by_class (in_piece e some reached inside unsound) = let far = reach_there more before p in omega arith

apart : (bytes : List ℕ) (before : List Piece) (rest : List ℕ) (after : List Piece) (end : List ℕ) (n : ℕ) (code : FaultCode) → length before < length after → Cut bytes before rest → Cut bytes after end → FaultBehind bytes before rest n code → FaultBehind bytes after end n code → ⊥
apart bytes before rest after end n code shorter cut cut' x y =
    let e = extends bytes before rest after end shorter cut cut' in
    let near = fault_inside bytes before rest e.next n code cut e.is_next x in
    let far = fault_later bytes before e.more rest end e.next n n code (subst (λ ps. Cut bytes ps end) e.split cut') e.is_next x (subst (λ ps. FaultBehind bytes ps end n code) e.split y) in
    absurd (omega arith)

same_count : (bytes : List ℕ) (n : ℕ) (code : FaultCode) (i j : ℕ) → FaultAt bytes n code i → FaultAt bytes n code j → i ≡ j
same_count bytes n code i j x y =
    elim (cases_order (length x.before) (length y.before)) [
      | inl e ↦ x.counted ∙ ap (λ ps. length (tokens ps)) (same_cut bytes x.before y.before x.rest y.rest e x.cut y.cut).0 ∙ sym y.counted
      | inr (inl shorter) ↦ absurd (apart bytes x.before x.rest y.before y.rest n code shorter x.cut y.cut x.fault y.fault)
      | inr (inr longer) ↦ absurd (apart bytes y.before y.rest x.before x.rest n code longer y.cut x.cut y.fault x.fault)
    ]

fault_same : (x y : Fault) → x.place ≡ y.place → x.code ≡ y.code → x ≡ y
fault_same x y p c = let mk : Place → FaultCode → Fault = λ place code. record { place = place; code = code } in ap (λ place. mk place x.code) p ∙ ap (λ code. mk y.place code) c

pub one_fault : OneFault
one_fault file bytes x y a b =
    let same = both_no_later a.at b.at x.code y.code (a.first b.at y.code b.count b.is_fault) (b.first a.at x.code a.count a.is_fault) in
    let there : FaultAt bytes b.at y.code a.count = subst (λ n. FaultAt bytes n y.code a.count) same.0 (subst (λ c. FaultAt bytes a.at c a.count) same.1 a.is_fault) in
    let count = same_count bytes b.at y.code a.count b.count there b.is_fault in
    fault_same x y (a.place ∙ ap (λ n. place_at file bytes n a.count) same.0 ∙ ap (λ k. place_at file bytes b.at k) count ∙ sym b.place) same.1

-- the last token

abbrev NoEnd : List OffsetToken → Type 0
NoEnd [] = Unit {0}
NoEnd (t ∷ ts) = (t.1 ≢ End) × NoEnd ts

NoEnd-append : (xs ys : List OffsetToken) → NoEnd xs → NoEnd ys → NoEnd (xs ++ ys)
NoEnd-append [] ys h k = k
NoEnd-append (x ∷ xs) ys h k = (h.0, NoEnd-append xs ys h.1 k)

abbrev OwnNoEnd : Option TokenKind → Type 0
OwnNoEnd None = Unit {0}
OwnNoEnd (Some k) = k ≢ End

name_no_end : (w : Option LanguageWord) (text : List ℕ) → word_or_name w text ≢ End
name_no_end (Some (Reserved w)) text e = cc
name_no_end (Some (LeftOut w)) text e = cc
name_no_end None text e = cc

mark_no_end : (o : Option MarkKind) → OwnNoEnd (option_map Mark o)
mark_no_end None = tt
mark_no_end (Some k) = λ e. cc

decimal_no_end : (whole part unit : List ℕ) → OwnNoEnd (decimal_kind whole part unit)
decimal_no_end whole part [] = cond_both (nat_le (length whole + length part) 18) _ None OwnNoEnd (λ _. λ e. cc) (λ _. tt)
decimal_no_end whole part (b ∷ unit) = cond_both (nat_le (length whole + length part) 18 && not (is_word (b ∷ unit))) _ None OwnNoEnd (λ _. λ e. cc) (λ _. tt)

hexadecimal_no_end : (digits : List ℕ) → OwnNoEnd (hexadecimal_kind digits)
hexadecimal_no_end digits = cond_both (list_all is_hexadecimal_digit digits && nat_le 1 (length digits) && nat_le (length digits) 14) _ None OwnNoEnd (λ _. λ e. cc) (λ _. tt)

number_no_end : (text : List ℕ) → OwnNoEnd (number_kind text)
number_no_end text = cond_both (bytes_eq (take 2 text) (codes "0x")) (hexadecimal_kind (drop 2 text)) _ OwnNoEnd (λ _. hexadecimal_no_end (drop 2 text)) (λ _. decimal_no_end (take_while is_digit text) (fraction (drop (prefix_len is_digit text) text)) (unit_name (drop (prefix_len is_digit text) text)))

kind_no_end : (s : Shape) (text : List ℕ) → OwnNoEnd (kind_of s text)
kind_no_end MarkShape text = mark_no_end (entry text marks)
kind_no_end NameShape text = name_no_end (entry text words) text
kind_no_end NumberShape text = number_no_end text
kind_no_end StringShape text = λ e. cc
kind_no_end Space text = tt
kind_no_end Tab text = tt
kind_no_end Comment text = tt
kind_no_end LineEnd text = tt
kind_no_end Joint text = tt

own_no_end : (at : ℕ) (o : Option TokenKind) → OwnNoEnd o → NoEnd (own_token at o)
own_no_end at None h = tt
own_no_end at (Some k) h = (h, tt)

dedents_no_end : (at : ℕ) (ws : List ℕ) → NoEnd (map (λ k. (at, k)) (map (λ v. Dedent) ws))
dedents_no_end at [] = tt
dedents_no_end at (w ∷ ws) = ((λ e. cc), dedents_no_end at ws)

closing_no_end : (at : ℕ) (ws : List ℕ) → NoEnd (map (λ v. (at, Dedent)) ws)
closing_no_end at [] = tt
closing_no_end at (w ∷ ws) = ((λ e. cc), closing_no_end at ws)

blocks_no_end : (at w : ℕ) (ws : List ℕ) → NoEnd (map (λ k. (at, k)) (blocks w ws))
blocks_no_end at w ws = cond_both (is_widest w ws) (Indent ∷ []) (map (λ v. Dedent) (filter (λ v. nat_lt w v) ws)) (λ ks. NoEnd (map (λ k. (at, k)) ks)) (λ _. ((λ e. cc), tt)) (λ _. dedents_no_end at (filter (λ v. nat_lt w v) ws))

newline_no_end : (pieces : List Piece) → NoEnd (newline pieces)
newline_no_end pieces = cond_both (has_lexeme (line pieces)) _ [] NoEnd (λ _. ((λ e. cc), tt)) (λ _. tt)

brought_no_end : (p : Piece) (before : List Piece) → NoEnd (brought p before)
brought_no_end p before =
    NoEnd-append _ _
    (cond_both (begins_line p before) _ [] NoEnd (λ _. blocks_no_end p.at (width (line before)) (opened (widths before))) (λ _. tt))
    (NoEnd-append _ _ (own_no_end p.at (kind_of p.shape p.text) (kind_no_end p.shape p.text)) (cond_both (ends_line p before) (newline before) [] NoEnd (λ _. newline_no_end before) (λ _. tt)))

tokens_no_end : (pieces : List Piece) → NoEnd (tokens pieces)
tokens_no_end [] = tt
tokens_no_end (p ∷ before) = NoEnd-append (tokens before) (brought p before) (tokens_no_end before) (brought_no_end p before)

end_cons : (t : Token) (ts : List Token) → t.kind ≢ End → EndsOnce ts → EndsOnce (t ∷ ts)
end_cons t [] h k = absurd k
end_cons t (u ∷ more) h k = (h, k)

ends_placed : (file : ℕ) (bytes : List ℕ) (n : ℕ) (xs : List OffsetToken) (at : ℕ) → NoEnd xs → EndsOnce (placed file bytes n (xs ++ (at, End) ∷ []))
ends_placed file bytes n [] at h = refl
ends_placed file bytes n (x ∷ xs) at h = end_cons (record { place = place_at file bytes x.0 n; kind = x.1 }) (placed file bytes (n + 1) (xs ++ (at, End) ∷ [])) h.0 (ends_placed file bytes (n + 1) xs at h.1)

pub end_is_last : EndIsLast
end_is_last file bytes xs t =
    let ps = t.pieces in
    let last : List OffsetToken = cond (brackets ps == 0) (newline ps) [] in
    let dedents : List OffsetToken = map (λ v. (reach ps, Dedent)) (opened (widths ps)) in
    let whole : tokens ps ++ last_tokens ps ≡ (tokens ps ++ (last ++ dedents)) ++ (reach ps, End) ∷ [] =
    ap (λ ts. tokens ps ++ ts) (sym (append_assoc last dedents ((reach ps, End) ∷ []))) ∙ sym (append_assoc (tokens ps) (last ++ dedents) ((reach ps, End) ∷ [])) in
    let none : NoEnd (tokens ps ++ (last ++ dedents)) =
    NoEnd-append (tokens ps) (last ++ dedents) (tokens_no_end ps) (NoEnd-append last dedents (cond_both (brackets ps == 0) (newline ps) [] NoEnd (λ _. newline_no_end ps) (λ _. tt)) (closing_no_end (reach ps) (opened (widths ps)))) in
    subst EndsOnce (sym (t.tokens ∙ ap (placed file bytes 0) whole)) (ends_placed file bytes 0 (tokens ps ++ (last ++ dedents)) (reach ps) none)

-- the opened widths

filter_all : (P : ℕ → Type 0) (p : ℕ → Bool) (xs : List ℕ) → AllByRecursion P xs → AllByRecursion P (filter p xs)
filter_all P p [] h = tt
filter_all P p (x ∷ xs) h = cond_both (p x) (x ∷ filter p xs) (filter p xs) (AllByRecursion P) (λ _. (h.0, filter_all P p xs h.1)) (λ _. filter_all P p xs h.1)

filter_falls : (p : ℕ → Bool) (xs : List ℕ) → IsFalling xs → IsFalling (filter p xs)
filter_falls p [] h = tt
filter_falls p (x ∷ xs) h = cond_both (p x) (x ∷ filter p xs) (filter p xs) IsFalling (λ _. (filter_all (λ y. y < x) p xs h.0, filter_falls p xs h.1)) (λ _. filter_falls p xs h.1)

filter_below : (w : ℕ) (xs : List ℕ) → AllByRecursion (λ y. y < w) (filter (λ v. nat_lt v w) xs)
filter_below w [] = tt
filter_below w (x ∷ xs) = cond_both (nat_lt x w) (x ∷ filter (λ v. nat_lt v w) xs) (filter (λ v. nat_lt v w) xs) (AllByRecursion (λ y. y < w)) (λ e. (ltb-true x w e, filter_below w xs)) (λ _. filter_below w xs)

behind_falls : (w : ℕ) (xs : List ℕ) → IsFalling xs → IsFalling (opened_behind w xs)
behind_falls w xs h = cond_both (w == 0) (filter (λ v. nat_lt v w) xs) (w ∷ filter (λ v. nat_lt v w) xs) IsFalling (λ _. filter_falls (λ v. nat_lt v w) xs h) (λ _. (filter_below w xs, filter_falls (λ v. nat_lt v w) xs h))

falls : (ws : List ℕ) → IsFalling (opened ws)
falls [] = tt
falls (w ∷ ws) = rw (opened-cons w ws) (behind_falls w (opened ws) (falls ws))

filter_go : (u w x : ℕ) (xs : List ℕ) (t : Bool) → nat_lt x u ≡ t → (Among (filter (λ v. nat_lt v u) xs) w → (w < u) × Among xs w)
    → Among (cond t (x ∷ filter (λ v. nat_lt v u) xs) (filter (λ v. nat_lt v u) xs)) w → (w < u) × ((x ≡ w) ⊎ Among xs w)
filter_go u w x xs true e rest (inl here) = let low = ltb-true x u e in (omega arith, inl here)
filter_go u w x xs true e rest (inr later) = let r = rest later in (r.0, inr r.1)
filter_go u w x xs false e rest h = let r = rest h in (r.0, inr r.1)

among_filter : (u w : ℕ) (xs : List ℕ) → Among (filter (λ v. nat_lt v u) xs) w → (w < u) × Among xs w
among_filter u w [] h = absurd h
among_filter u w (x ∷ xs) h = filter_go u w x xs (nat_lt x u) refl (λ k. among_filter u w xs k) h

put_go : (u w x : ℕ) (xs : List ℕ) (t : Bool) → nat_lt x u ≡ t → w < u → (Among xs w → Among (filter (λ v. nat_lt v u) xs) w) → ((x ≡ w) ⊎ Among xs w)
    → Among (cond t (x ∷ filter (λ v. nat_lt v u) xs) (filter (λ v. nat_lt v u) xs)) w
put_go u w x xs true e low rest (inl here) = inl here
put_go u w x xs true e low rest (inr later) = inr (rest later)
put_go u w x xs false e low rest (inl here) = absurd (true≢false (sym (lt-ltb x u (omega arith)) ∙ e))
put_go u w x xs false e low rest (inr later) = rest later

filter_among : (u w : ℕ) (xs : List ℕ) → w < u → Among xs w → Among (filter (λ v. nat_lt v u) xs) w
filter_among u w [] low h = absurd h
filter_among u w (x ∷ xs) low h = put_go u w x xs (nat_lt x u) refl low (λ k. filter_among u w xs low k) h

behind_go : (u w : ℕ) (xs : List ℕ) (t : Bool) → (u == 0) ≡ t → 0 < w → Among (cond t (filter (λ v. nat_lt v u) xs) (u ∷ filter (λ v. nat_lt v u) xs)) w → (u ≡ w) ⊎ ((w < u) × Among xs w)
behind_go u w xs true e some h = let r = among_filter u w xs h in inr r
behind_go u w xs false e some (inl here) = inl here
behind_go u w xs false e some (inr later) = inr (among_filter u w xs later)

back_go : (u w : ℕ) (xs : List ℕ) (t : Bool) → (u == 0) ≡ t → 0 < w → ((u ≡ w) ⊎ ((w < u) × Among xs w)) → Among (cond t (filter (λ v. nat_lt v u) xs) (u ∷ filter (λ v. nat_lt v u) xs)) w
back_go u w xs true e some (inl here) = let z = eqb-true u 0 e in absurd (omega arith)
back_go u w xs true e some (inr (low, h)) = filter_among u w xs low h
back_go u w xs false e some (inl here) = inl here
back_go u w xs false e some (inr (low, h)) = inr (filter_among u w xs low h)

opened_there : (ws : List ℕ) (w : ℕ) → 0 < w → Among (opened ws) w → IsOpened ws w
opened_there [] w some h = absurd h
opened_there (u ∷ ws) w some h =
    elim (behind_go u w (opened ws) (u == 0) refl some (subst (λ xs. Among xs w) (opened-cons u ws) h)) [
      | inl here ↦ inr ([], ws, ap (λ x. x ∷ ws) here, tt)
      | inr later ↦ there_go u w ws some later.0 (opened_there ws w some later.1)
    ]
  where
    there_go : (u w : ℕ) (ws : List ℕ) → 0 < w → w < u → IsOpened ws w → IsOpened (u ∷ ws) w
    there_go u w ws some low (inl zero') = absurd (omega arith)
    there_go u w ws some low (inr (since, earlier, e, all)) = inr (u ∷ since, earlier, ap (λ t. u ∷ t) e, (omega arith, all))

cons_same : (b c : ℕ) (xs ys : List ℕ) → b ∷ xs ≡ c ∷ ys → (b ≡ c) × (xs ≡ ys)
cons_same b c xs ys e = (cc, cc)

opened_back : (ws : List ℕ) (w : ℕ) → 0 < w → IsOpened ws w → Among (opened ws) w
opened_back ws w some (inl zero') = absurd (omega arith)
opened_back [] w some (inr ([], earlier, e, all)) = absurd (cc)
opened_back [] w some (inr (s ∷ since, earlier, e, all)) = absurd (cc)
opened_back (u ∷ ws) w some (inr ([], earlier, e, all)) =
    let parts = cons_same u w ws earlier e in
    subst (λ xs. Among xs w) (sym (opened-cons u ws)) (back_go u w (opened ws) (u == 0) refl some (inl parts.0))
opened_back (u ∷ ws) w some (inr (s ∷ since, earlier, e, (low, all))) =
    let parts = cons_same u s ws (since ++ w ∷ earlier) e in
    let rest = opened_back ws w some (inr (since, earlier, parts.1, all)) in
    let first = parts.0 in
    subst (λ xs. Among xs w) (sym (opened-cons u ws)) (back_go u w (opened ws) (u == 0) refl some
    (elim (cases_order u w) [ inl same ↦ inl same | inr (inl less) ↦ absurd (omega arith) | inr (inr more) ↦ inr (more, rest) ]))

pub opened_law : OpenedLaw
opened_law ws = (falls ws, (λ w some. ((λ h. opened_there ws w some h), (λ h. opened_back ws w some h))))
