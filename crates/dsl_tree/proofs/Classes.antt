-- Kinds of tokens by their codes: what a token of some codes holds besides its kind.
use Rattle.std.proofs.Common.{◌≡◌, ◌⊎◌, ℕ, List, [], ◌∷◌, ◌++◌, Bool, true, false, cond, map, refl, sym, ap, subst, inl, inr, ⊎_elim, eqb, arith}
use Rattle.std.specs.Prelude.{◌==◌, nat_le, codes}
use Rattle.std.specs.Str.{bytes_eq}
use Rattle.std.proofs.lemmas.Bool.{false≢true, eqb-true}
use Rattle.std.proofs.lemmas.Slice.Eq.{bytes_eq-Decides}
use Rattle.dsl_tree.specs.declared.token.TokenKind.{TokenKind}
use Rattle.dsl_tree.specs.declared.token.ExcludedWord.{ExcludedWord}
use Rattle.dsl_tree.specs.declared.token.MarkKind.{MarkKind}
use Rattle.dsl_tree.specs.declared.token.MarkKind.TheVariants.{OpenRound, CloseRound, OpenSquare, CloseSquare, Colon, Comma, Dot, TwoDots, Assign, Equal, Differ, Below, AtMost, Above, AtLeast, Arrow, Plus, Dash, Star, Slash, Bang}
use Rattle.dsl_tree.specs.declared.token.WordKind.{WordKind}
use Rattle.dsl_tree.specs.declared.token.WordKind.TheVariants.{ImportWord, TypeWord, UnitWord, IsWord, OfWord, EnumWord, StructWord, ActorWord, ActionWord, ScenarioWord, InheritsWord, ExtendWord, ListWord, KeepWord, HardWord, DefaultWord, RemoveDefaultWord, DoWord, SerialWord, ParallelWord, OneOfWord, WaitWord, ElapsedWord, WithWord, ItWord, InWord, RangeWord, AndWord, OrWord, NotWord, TrueWord, FalseWord, ModifierWord}
use Rattle.dsl_tree.specs.Codes.{code, has, si_text, factor_text, offset_text, si_name, factor_name, offset_name, other_name, name_code, small_number, large_number, point_number, physical_code, text_code, mark_code, word_code}
use Rattle.dsl_tree.proofs.Tests.{either_of}

-- Classes of kinds that are one but for what they hold; a `Plain` kind is known in full.
pub data Class : Type 0 where
  Names : Class
  Numbers : Class
  Physicals : Class
  Texts : Class
  LeftOuts : Class
  Plain : (kind : TokenKind) → Class

abbrev pub Value : Class → Type 0
Value Names = List ℕ
Value Numbers = ℕ × ℕ
Value Physicals = ℕ × ℕ × List ℕ
Value Texts = List ℕ
Value LeftOuts = ExcludedWord
Value (Plain kind) = Unit {0}

abbrev pub kind_of : (x : Class) → Value x → TokenKind
kind_of Names text = TokenKind.Name text
kind_of Numbers v = TokenKind.Number v.0 v.1
kind_of Physicals v = TokenKind.Physical v.0 v.1 v.2
kind_of Texts text = TokenKind.Chars text
kind_of LeftOuts word = TokenKind.LeftOut word
kind_of (Plain kind) v = kind

-- The class of a code

abbrev marks : List MarkKind
marks = OpenRound ∷ CloseRound ∷ OpenSquare ∷ CloseSquare ∷ Colon ∷ Comma ∷ Dot ∷ TwoDots ∷ Assign ∷ Equal ∷ Differ ∷ Below ∷ AtMost ∷ Above ∷ AtLeast ∷ Arrow ∷ Plus ∷ Dash ∷ Star ∷ Slash ∷ Bang ∷ []

abbrev words : List WordKind
words =
    ImportWord ∷ TypeWord ∷ UnitWord ∷ IsWord ∷ OfWord ∷ EnumWord ∷ StructWord ∷ ActorWord ∷ ActionWord ∷ ScenarioWord ∷ InheritsWord ∷ ExtendWord ∷ ListWord ∷ KeepWord ∷ HardWord ∷ DefaultWord
    ∷ RemoveDefaultWord ∷ DoWord ∷ SerialWord ∷ ParallelWord ∷ OneOfWord ∷ WaitWord ∷ ElapsedWord ∷ WithWord ∷ ItWord ∷ InWord ∷ RangeWord ∷ AndWord ∷ OrWord ∷ NotWord ∷ TrueWord ∷ ModifierWord ∷ []

abbrev first_with : ℕ → List TokenKind → TokenKind
first_with c [] = TokenKind.Word FalseWord
first_with c (k ∷ ks) = cond (code k == c) k (first_with c ks)

abbrev plain_of : ℕ → TokenKind
plain_of c =
    first_with c (TokenKind.Newline ∷ TokenKind.Indent ∷ TokenKind.Dedent ∷ TokenKind.End ∷ map (λ m. TokenKind.Mark m) marks ++ map (λ w. TokenKind.Word w) words)

-- of a token whose text is held
abbrev pub seen_class : ℕ → Class
seen_class c =
    cond (c == 4) LeftOuts
    (cond (nat_le si_name c) (cond (nat_le c other_name) Names
    (cond (nat_le c point_number) Numbers
    (cond (c == physical_code) Physicals
    (cond (c == text_code) Texts (Plain (plain_of c)))))) (Plain (plain_of c)))

-- of a token whose text isn't held
abbrev pub bare_class : ℕ → Class
bare_class c =
    cond (c == si_name) (Plain (TokenKind.Name si_text))
    (cond (c == factor_name) (Plain (TokenKind.Name factor_text)) (cond (c == offset_name) (Plain (TokenKind.Name offset_text)) (seen_class c)))

-- what a kind holds as one of a class
abbrev pub held : (x : Class) → TokenKind → Value x
held Names (TokenKind.Name text) = text
held Names _ = codes "x"
held Numbers (TokenKind.Number digits places) = (digits, places)
held Numbers _ = (0, 0)
held Physicals (TokenKind.Physical digits places unit) = (digits, places, unit)
held Physicals _ = (0, 0, codes "s")
held Texts (TokenKind.Chars text) = text
held Texts _ = []
held LeftOuts (TokenKind.LeftOut word) = word
held LeftOuts _ = ExcludedWord.CoverWord
held (Plain kind) _ = tt

abbrev Exactly : TokenKind → ℕ → Type 0
Exactly kind c = (kind_of (seen_class c) (held (seen_class c) kind) ≡ kind) × (kind_of (bare_class c) (held (bare_class c) kind) ≡ kind)

mark_kind : (m : MarkKind) → Exactly (TokenKind.Mark m) (mark_code m)
mark_kind m = grind arith

word_kind : (w : WordKind) → Exactly (TokenKind.Word w) (word_code w)
word_kind w = grind arith

one_name : (text : List ℕ) (a b c : Bool) → (a ≡ true → text ≡ si_text) → (b ≡ true → text ≡ factor_text) → (c ≡ true → text ≡ offset_text)
    → Exactly (TokenKind.Name text) (cond a si_name (cond b factor_name (cond c offset_name other_name)))
one_name text true b c s f o = (refl, ap TokenKind.Name (sym (s refl)))
one_name text false true c s f o = (refl, ap TokenKind.Name (sym (f refl)))
one_name text false false true s f o = (refl, ap TokenKind.Name (sym (o refl)))
one_name text false false false s f o = (refl, refl)

name_kind : (text : List ℕ) → Exactly (TokenKind.Name text) (name_code text)
name_kind text =
    one_name text (bytes_eq text si_text) (bytes_eq text factor_text) (bytes_eq text offset_text)
    (bytes_eq-Decides text si_text).0 (bytes_eq-Decides text factor_text).0 (bytes_eq-Decides text offset_text).0

one_number : (digits places : ℕ) (a b : Bool) → Exactly (TokenKind.Number digits places) (cond a (cond b small_number large_number) point_number)
one_number digits places true true = (refl, refl)
one_number digits places true false = (refl, refl)
one_number digits places false b = (refl, refl)

pub exactly : (kind : TokenKind) → Exactly kind (code kind)
exactly (TokenKind.Mark mark) = mark_kind mark
exactly (TokenKind.Word word) = word_kind word
exactly (TokenKind.Name text) = name_kind text
exactly (TokenKind.Number digits places) = one_number digits places (places == 0) (nat_le digits 9)
exactly _ = (refl, refl)

-- Kinds of one of some classes

abbrev pub AnyOf : List Class → Type 0
AnyOf [] = ⊥
AnyOf (x ∷ []) = Value x
AnyOf (x ∷ (y ∷ ys)) = Value x ⊎ AnyOf (y ∷ ys)

abbrev pub kind_any : (xs : List Class) → AnyOf xs → TokenKind
kind_any [] v = absurd v
kind_any (x ∷ []) v = kind_of x v
kind_any (x ∷ (y ∷ ys)) (inl v) = kind_of x v
kind_any (x ∷ (y ∷ ys)) (inr v) = kind_any (y ∷ ys) v

-- names and numbers that stand side by side are one class
abbrev same : Class → Class → Bool
same Names Names = true
same Numbers Numbers = true
same _ _ = false

abbrev with_class : Class → List Class → List Class
with_class x [] = x ∷ []
with_class x (y ∷ ys) = cond (same x y) (y ∷ ys) (x ∷ (y ∷ ys))

abbrev pub classes : (ℕ → Class) → List ℕ → List Class
classes class [] = []
classes class (c ∷ cs) = with_class (class c) (classes class cs)

abbrev Found : List Class → TokenKind → Type 0
Found xs kind = (v : AnyOf xs) × (kind_any xs v ≡ kind)

same_is : (x y : Class) → same x y ≡ true → x ≡ y
same_is x y h = grind arith

found_first : (kind : TokenKind) (x : Class) (xs : List Class) → kind_of x (held x kind) ≡ kind → Found (x ∷ xs) kind
found_first kind x [] e = (held x kind, e)
found_first kind x (y ∷ ys) e = (inl (held x kind), e)

found_in : (kind : TokenKind) (x : Class) (xs : List Class) → (kind_of x (held x kind) ≡ kind) ⊎ Found xs kind → Found (with_class x xs) kind
found_in kind x [] (inl e) = (held x kind, e)
found_in kind x [] (inr f) = absurd f.0
found_in kind x (y ∷ ys) one = go (same x y) (same_is x y) one
  where
    go : (b : Bool) → (b ≡ true → x ≡ y) → (kind_of x (held x kind) ≡ kind) ⊎ Found (y ∷ ys) kind → Found (cond b (y ∷ ys) (x ∷ (y ∷ ys))) kind
    go true is (inl e) = found_first kind y ys (subst (λ (z : Class). kind_of z (held z kind) ≡ kind) (is refl) e)
    go true is (inr f) = f
    go false is (inl e) = (inl (held x kind), e)
    go false is (inr f) = (inr f.0, f.1)

found : (class : ℕ → Class) (kind : TokenKind) → kind_of (class (code kind)) (held (class (code kind)) kind) ≡ kind → (cs : List ℕ) → has cs (code kind) ≡ true → Found (classes class cs) kind
found class kind one [] h = absurd (false≢true h)
found class kind one (c ∷ cs) h =
    found_in kind (class c) (classes class cs)
    (⊎_elim (λ e. inl (subst (λ (n : ℕ). kind_of (class n) (held (class n) kind) ≡ kind) (sym (eqb-true c (code kind) e)) one)) (λ later. inr (found class kind one cs later))
    (either_of (eqb c (code kind)) (has cs (code kind)) h))

pub seen_found : (kind : TokenKind) (cs : List ℕ) → has cs (code kind) ≡ true → Found (classes seen_class cs) kind
seen_found kind cs h = found seen_class kind (exactly kind).0 cs h

pub bare_found : (kind : TokenKind) (cs : List ℕ) → has cs (code kind) ≡ true → Found (classes bare_class cs) kind
bare_found kind cs h = found bare_class kind (exactly kind).1 cs h
