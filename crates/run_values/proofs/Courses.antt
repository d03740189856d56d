-- The courses of vehicles.
use Rattle.std.proofs.Common.{◌≡◌, ◌∙◌, refl, sym, ap, arith, ℕ, suc, ◌+◌, ◌-◌, ◌<◌, ◌≤◌, List, [], ◌∷◌, ◌&&◌, ◌||◌, Bool, true, false, cond, not, Option, Some, None, Result, Ok, Err}
use Rattle.std.specs.Prelude.{pos, slice_get, unwrap_or, option_and_then, IfOk}
use Rattle.std.specs.List.{list_all, range_with_len}
use Rattle.osc_base.specs.declared.path.Path.{Path}
use Rattle.osc_base.specs.declared.sample.Sample.{Sample}
use Rattle.field_flatten.specs.composition.declared.run.Run.{Run}
use Rattle.field_flatten.specs.composition.RunParts.{samples_in}
use Rattle.field_flatten.specs.composition.Scenes.{Scene, max_speed, max_acceleration}
use Rattle.field_flatten.specs.composition.Items.{still, course_of, field_number}
use Rattle.run_values.specs.declared.motion.Course.{Course}
use Rattle.run_values.specs.SeenCourses.{seen_course}

-- without samples, each tick has the sample that counts
pub samples_seen : (o : Option (List Sample)) (t : ℕ) → unwrap_or (slice_get (unwrap_or o []) t) still ≡ unwrap_or (option_and_then (λ ss. slice_get ss t) o) still
samples_seen None t = refl
samples_seen (Some ss) t = refl

-- a condition of each is one of all
pub all_under : {A : Type 0} (b : Bool) (t : A → Bool) (xs : List A) → (not b || list_all t xs) ≡ list_all (λ x. not b || t x) xs
all_under true t xs = refl
all_under false t [] = refl
all_under false t (x ∷ xs) = all_under false t xs

pub all_there : {A : Type 0} (b : Bool) (t : A → Bool) (xs : List A) → b ≡ true → list_all t xs ≡ list_all (λ x. not b || t x) xs
all_there b t xs e = ap (λ z. not z || list_all t xs) (sym e) ∙ all_under b t xs

pub all_absent : {A : Type 0} (b : Bool) (t : A → Bool) (xs : List A) → b ≡ false → true ≡ list_all (λ x. not b || t x) xs
all_absent b t xs e = ap (λ z. not z || list_all t xs) (sym e) ∙ all_under b t xs

-- an answer is another that is equal
pub answers : {E : Type 0} (r : Result Bool E) (x y : Bool) → IfOk r (λ b. b ≡ x) → x ≡ y → IfOk r (λ b. b ≡ y)
answers (Ok b) x y h e = h ∙ e
answers (Err f) x y h e = tt

-- ---- ticks

-- all ticks from one on to the last
abbrev pub from_tick : (ℕ → Bool) → ℕ → ℕ → Bool
from_tick f n t = list_all f (range_with_len t (suc (n - t)))

pub from_start : (f : ℕ → Bool) (n : ℕ) → from_tick f n 0 ≡ list_all f (range_with_len 0 (n + 1))
from_start f n = let e : suc (n - 0) ≡ n + 1 = omega arith in ap (λ k. list_all f (range_with_len 0 k)) e

pub from_next : (f : ℕ → Bool) (n t : ℕ) → t < n → from_tick f n t ≡ (f t && from_tick f n (t + 1))
from_next f n t less = let e : n - t ≡ suc (n - (t + 1)) = omega arith in ap (λ k. f t && list_all f (range_with_len (t + 1) k)) e

pub from_failing : (f : ℕ → Bool) (n t : ℕ) → t < n → f t ≡ false → from_tick f n t ≡ false
from_failing f n t less e = from_next f n t less ∙ ap (λ b. b && from_tick f n (t + 1)) e

pub from_passing : (f : ℕ → Bool) (n t : ℕ) → t < n → f t ≡ true → from_tick f n t ≡ from_tick f n (t + 1)
from_passing f n t less e = from_next f n t less ∙ ap (λ b. b && from_tick f n (t + 1)) e

and_true : (b : Bool) → (b && true) ≡ b
and_true true = refl
and_true false = refl

pub from_last : (f : ℕ → Bool) (n t : ℕ) → n ≤ t → t ≤ n → from_tick f n t ≡ f n
from_last f n t above below =
    let e : n - t ≡ 0 = omega arith in let same : t ≡ n = omega arith in
    ap (λ k. f t && list_all f (range_with_len (t + 1) k)) e ∙ and_true (f t) ∙ ap f same

-- ---- a course

pub course_same : (scene : Scene) (run : Run) (vehicle : Path) (c : Course) → c.tick ≡ run.tick → c.ticks ≡ scene.setting.ticks → c.end ≡ run.end
    → c.max_speed ≡ field_number scene run (max_speed vehicle) → c.max_acceleration ≡ field_number scene run (max_acceleration vehicle)
    → c.samples.now ≡ unwrap_or (samples_in run vehicle) [] → seen_course c ≡ course_of scene run vehicle
course_same scene run vehicle c tick ticks end speed acceleration samples =
    λ i. record {
      tick = tick i;
      ticks = ticks i;
      end = pos (end i);
      max_speed = speed i;
      max_acceleration = acceleration i;
      sample = λ t. (ap (λ ss. unwrap_or (slice_get ss t) still) samples ∙ samples_seen (samples_in run vehicle) t) i;
    }
