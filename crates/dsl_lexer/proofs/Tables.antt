-- What a table has: an entry's word passes each test that all words of the table pass.
use Rattle.std.proofs.Common.{◌≡◌, ℕ, Bool, true, false, cond, Option, Some, List, [], ◌∷◌, refl}
use Rattle.std.specs.Prelude.{IsSome}
use Rattle.std.specs.List.{list_all}
use Rattle.std.specs.Str.{bytes_eq}
use Rattle.std.proofs.lemmas.Bool.{and_parts, false≢true}
use Rattle.std.proofs.lemmas.Slice.Eq.{bytes_eq-Decides}
use Rattle.dsl_lexer.specs.declared.shape.Shape.{Shape}
use Rattle.dsl_lexer.specs.Shapes.{Space, Tab, Comment, LineEnd, Joint, MarkShape, NameShape, NumberShape, StringShape, entry, marks}
use Rattle.dsl_lexer.specs.Scan.{first_shape}

go : {K : Type 0} (p : List ℕ → Bool) (text word : List ℕ) (kind : K) (rest : Option K) (same : Bool) → bytes_eq text word ≡ same → p word ≡ true → (IsSome rest → p text ≡ true) → IsSome (cond same (Some kind) rest) → p text ≡ true
go p text word kind rest true e passed later found = let same = (bytes_eq-Decides text word).0 e in rw same passed
go p text word kind rest false e passed later found = later found

pub passes : {K : Type 0} (p : List ℕ → Bool) (table : List (List ℕ × K)) (text : List ℕ) → list_all (λ e. p e.0) table ≡ true → IsSome (entry text table) → p text ≡ true
passes p [] text all found = absurd (false≢true found)
passes p ((word, kind) ∷ more) text all found =
    let parts = and_parts (p word) (list_all (λ e. p e.0) more) all in
    go p text word kind (entry text more) (bytes_eq text word) refl parts.0 (λ later. passes p more text parts.1 later) found

abbrev is_mark_shape : Shape → Bool
is_mark_shape MarkShape = true
is_mark_shape _ = false

-- a mark has one byte or two, and the first is of no other shape
abbrev pub is_mark_like : List ℕ → Bool
is_mark_like [] = false
is_mark_like (b ∷ []) = is_mark_shape (first_shape b)
is_mark_like (b ∷ c ∷ []) = is_mark_shape (first_shape b)
is_mark_like (b ∷ c ∷ d ∷ more) = false

pub marks_are_like : list_all (λ e. is_mark_like e.0) marks ≡ true
marks_are_like = refl

pub mark_shape_is : (s : Shape) → is_mark_shape s ≡ true → s ≡ MarkShape
mark_shape_is MarkShape h = refl
mark_shape_is Space h = absurd (false≢true h)
mark_shape_is Tab h = absurd (false≢true h)
mark_shape_is Comment h = absurd (false≢true h)
mark_shape_is LineEnd h = absurd (false≢true h)
mark_shape_is Joint h = absurd (false≢true h)
mark_shape_is NameShape h = absurd (false≢true h)
mark_shape_is NumberShape h = absurd (false≢true h)
mark_shape_is StringShape h = absurd (false≢true h)
