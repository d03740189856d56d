-- Data of the first form is read as it was.
use Rattle.std.proofs.Common.{◌≡◌, ◌∙◌, refl, ap, arith, ℕ, zero, suc, Bool, true, false, cond, not, ◌||◌, List, [], Option, Some, None, codes}
use Rattle.std.specs.Prelude.{find, nat_eq, option_and_then}
use Rattle.serde_json.specs.Data.{Data}
use Rattle.serde_json.specs.Find.{as_object}
use Rattle.run_texts.specs.composition.declared.run.Choice.{Choice}
use Rattle.run_texts.specs.composition.declared.run.Run.{Run}
use Rattle.run_texts.specs.composition.Invariants.{is_from_to}
use Rattle.run_texts.specs.RunShape.{Shaped, Fits, Differs, shaped_then, key_at, list_in, count_in, choice_in, span_in, trace_in, value_in, form_in, form_of, keys, is_first_key, extra_key, without, run_with, run_in, run_from}
use Rattle.first_form.specs.FirstTexts.{FirstRun, seen}
use Rattle.first_form.specs.FirstTexts as first
use Rattle.first_form.specs.FirstFormLaws.{seen_shape}

-- what goes on alike gives what is alike
alike : {A : Type 0} (s : Shaped A) (f : A → Shaped FirstRun) (g : A → Shaped Run) → ((x : A) → g x ≡ seen_shape (f x)) → shaped_then s g ≡ seen_shape (shaped_then s f)
alike (Fits x) f g h = h x
alike (Differs pointer) f g h = refl

-- ---- the form

one_alone : (n : ℕ) → is_from_to 1 1 n ≡ nat_eq n 1
one_alone zero = refl
one_alone (suc zero) = refl
one_alone (suc (suc n)) = grind arith

form_same : (d : Data) → form_in 1 d ≡ first.form_in d
form_same d = λ i. shaped_then (count_in d) (λ n. cond (one_alone n i) (Fits n) (Differs []))

-- ---- keys

or_false : (b : Bool) → b || false ≡ b
or_false true = refl
or_false false = refl

extra_same : (d : Data) → extra_key 1 d ≡ first.extra_key d
extra_same d = λ i. option_and_then (λ members. find (λ key. not (or_false (is_first_key key) i)) (keys members)) (as_object d)

without_same : (o : Option (List ℕ)) (run : FirstRun) → without o (seen run) ≡ seen_shape (first.without o run)
without_same None run = refl
without_same (Some key) run = refl

-- ---- runs

with_same : (choices : List Choice) (end : ℕ) (d : Data) → run_with 1 choices end d ≡ seen_shape (first.run_with choices end d)
with_same choices end d =
    alike (key_at (list_in span_in) (codes "phases") d) _ _ (λ phases.
    alike (key_at (list_in trace_in) (codes "traces") d) _ _ (λ traces.
    alike (key_at (list_in value_in) (codes "values") d) _ _ (λ values.
    let run : FirstRun = record { choices = choices; end = end; phases = phases; traces = traces; values = values } in
    ap (λ o. without o (seen run)) (extra_same d) ∙ without_same (first.extra_key d) run)))

in_same : (d : Data) → run_in 1 d ≡ seen_shape (first.run_from d)
in_same d =
    alike (key_at (list_in choice_in) (codes "choices") d) _ _ (λ choices.
    alike (key_at count_in (codes "end") d) _ _ (λ end.
    (λ i. shaped_then (key_at (λ e. form_same e i) (codes "form") d) (λ told. run_with 1 choices end d))
    ∙ alike (key_at first.form_in (codes "form") d) _ _ (λ form. with_same choices end d)))

pub read_same : (d : Data) → form_of d ≡ 1 → run_from d ≡ seen_shape (first.run_from d)
read_same d h = ap (λ form. run_in form d) h ∙ in_same d
