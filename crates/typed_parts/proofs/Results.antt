-- What a result says if it is no error.
use Rattle.std.proofs.Common.{◌≡◌, refl, Bool, true, false, not, Option, Some, None, IfOk, Result, Ok, Err}
use Rattle.std.specs.Prelude.{is_some, is_none}

pub if_ok_more : {T E : Type 0} (r : Result T E) (P Q : T → Type 0) → ((t : T) → P t → Q t) → IfOk r P → IfOk r Q
if_ok_more (Ok t) P Q more h = more t h
if_ok_more (Err e) P Q more h = tt

pub not_false : (b : Bool) → not b ≡ false → b ≡ true
not_false true h = refl
not_false false h = absurd (cc)

-- what a test for nothing answers
pub none_as : {X : Type 0} (o same : Option X) (r : Bool) → is_some o ≡ not r → o ≡ same → r ≡ is_none same
none_as {X = X} o same r is e = rw (← e) (by o r is)
  where
    by : (x : Option X) (b : Bool) → is_some x ≡ not b → b ≡ is_none x
    by None true h = refl
    by None false h = absurd (cc)
    by (Some y) true h = absurd (cc)
    by (Some y) false h = refl
