use Rattle.std.proofs.Common.{◌≡◌, ◌∙◌, ap, List, ℕ, length, arith, to_z, of_z}
use Rattle.std.specs.Fmt.{signed_decimal}
use Rattle.std.specs.Int.{w64}
use Rattle.std.proofs.lemmas.Int.{ints}
use Rattle.std.proofs.lemmas.List.{length-append}
use Rattle.record_text.proofs.Lines.{signed_short}
use Rattle.record_text.proofs.page.push_value.Goals as goal

pub push-requires : goal.push-requires
push-requires c =
    let same : to_z w64 (of_z w64 c.args.value) ≡ c.args.value = omega (arith, ints) in
    let e : c.as_bytes.result.now ≡ signed_decimal c.args.value = c.as_bytes.ensures.value ∙ (c.format.ensures.text ∙ ap signed_decimal same) in
    omega (arith, c.requires.room, ap (λ (bs : List ℕ). length bs) e, signed_short c.args.value c.requires.short)

pub returns-clause-few : goal.returns-clause-few
returns-clause-few c =
    let same : to_z w64 (of_z w64 c.args.value) ≡ c.args.value = omega (arith, ints) in
    let e : c.as_bytes.result.now ≡ signed_decimal c.args.value = c.as_bytes.ensures.value ∙ (c.format.ensures.text ∙ ap signed_decimal same) in
    omega (
      arith,
      ap (λ (bs : List ℕ). length bs) e,
      signed_short c.args.value c.requires.short,
      ap (λ (bs : List ℕ). length bs) c.push.ensures,
      length-append c.args.page.now.items c.as_bytes.result.now,
    )
