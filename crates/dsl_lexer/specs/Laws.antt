-- Laws of the tokens and faults of a source, which `laws` proves.
use Rattle.std.specs.Prelude.{ℕ, ◌<◌, ◌≡◌, ◌↔◌, List, [], ◌∷◌, ◌++◌, ◌⊎◌, false, take, codes, IsTrue}
use Rattle.std.specs.List.{AllByRecursion, list_all}
use Rattle.std.specs.Str.{bytes_eq}
use Rattle.osc_base.specs.declared.fault.FaultCode.{FaultCode}
use Rattle.osc_base.specs.declared.fault.Fault.{Fault}
use Rattle.dsl_tree.specs.declared.token.Token.{Token}
use Rattle.dsl_lexer.specs.Bytes.{is_digit, is_name_start, is_name_byte}
use Rattle.dsl_lexer.specs.Shapes.{IsDigits, IsInside, IsNumber}
use Rattle.dsl_lexer.specs.Kinds.{decimal_kind, hexadecimal_kind, number_kind, string_chars}
use Rattle.dsl_lexer.specs.Layout.{IsOpened, opened}
use Rattle.dsl_lexer.specs.SourceTokens.{TokensCut, FaultAt, IsFirstFault, EndsOnce}

-- at most one token list cuts the bytes
abbrev pub OneList : Type 0
OneList = (file : ℕ) (bytes : List ℕ) (xs ys : List Token) → TokensCut file bytes xs → TokensCut file bytes ys → xs ≡ ys

-- if a token list cuts the bytes, there is no fault
abbrev pub CutOrFault : Type 0
CutOrFault = (file : ℕ) (bytes : List ℕ) (xs : List Token) (n : ℕ) (code : FaultCode) (count : ℕ) → TokensCut file bytes xs → FaultAt bytes n code count → ⊥

-- a source has tokens or a first fault
abbrev pub CutOrFirstFault : Type 0
CutOrFirstFault = (file : ℕ) (bytes : List ℕ) → ((found : List Token) × TokensCut file bytes found) ⊎ ((fault : Fault) × IsFirstFault file bytes fault)

-- there is at most one first fault
abbrev pub OneFault : Type 0
OneFault = (file : ℕ) (bytes : List ℕ) (x y : Fault) → IsFirstFault file bytes x → IsFirstFault file bytes y → x ≡ y

-- the last token, and no other, is END
abbrev pub EndIsLast : Type 0
EndIsLast = (file : ℕ) (bytes : List ℕ) (xs : List Token) → TokensCut file bytes xs → EndsOnce xs

abbrev pub Among : List ℕ → ℕ → Type 0
Among [] w = ⊥
Among (x ∷ xs) w = (x ≡ w) ⊎ Among xs w

-- each is less than all before it
abbrev pub IsFalling : List ℕ → Type 0
IsFalling [] = Unit {0}
IsFalling (x ∷ xs) = AllByRecursion (λ y. y < x) xs × IsFalling xs

-- the list of the opened widths above 0 falls, and has exactly these
abbrev pub OpenedLaw : Type 0
OpenedLaw = (widths : List ℕ) → IsFalling (opened widths) × ((w : ℕ) → 0 < w → (Among (opened widths) w ↔ IsOpened widths w))

-- the text of a string is what stands between its quotes
abbrev pub CharsLaw : Type 0
CharsLaw = (quote : ℕ) (inside chars : List ℕ) → IsInside quote inside chars → string_chars (quote ∷ inside ++ quote ∷ []) ≡ chars

-- a point and the digits after it, or nothing if there are none
abbrev pub with_point : List ℕ → List ℕ
with_point [] = []
with_point (d ∷ digits) = 46 ∷ d ∷ digits

-- the name of a unit, or nothing
abbrev pub IsUnitName : List ℕ → Type 0
IsUnitName [] = Unit {0}
IsUnitName (b ∷ more) = IsTrue (is_name_start b) × IsTrue (list_all is_name_byte more)

-- a text is these digits, a point with the digits after it if there are any, and the name of a unit if there is one
pub record IsDecimal (text whole part unit : List ℕ) : Type 0 where
  pub split : text ≡ whole ++ (with_point part ++ unit)
  pub before : IsDigits whole
  pub behind : IsTrue (list_all is_digit part)
  pub named : IsUnitName unit

-- A text has such parts in one way, and they say which token it is unless it begins with `0x`.
pub record DecimalParts (text : List ℕ) : Type 0 where
  pub whole : List ℕ
  pub part : List ℕ
  pub unit : List ℕ
  pub cut : IsDecimal text whole part unit
  pub only : (w p u : List ℕ) → IsDecimal text w p u → (w ≡ whole) × (p ≡ part) × (u ≡ unit)
  pub kind : bytes_eq (take 2 text) (codes "0x") ≡ false → number_kind text ≡ decimal_kind whole part unit

-- each text of a number's shape has such parts
abbrev pub DecimalLaw : Type 0
DecimalLaw = (text : List ℕ) → IsNumber text → DecimalParts text

-- after `0x` stand the digits of a hexadecimal number
abbrev pub HexadecimalLaw : Type 0
HexadecimalLaw = (digits : List ℕ) → number_kind (codes "0x" ++ digits) ≡ hexadecimal_kind digits
