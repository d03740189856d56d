use Rattle.std.proofs.Common.{◌≡◌, ◌∙◌, ap, List, ℕ, length, arith}
use Rattle.std.specs.Prelude.{decimal}
use Rattle.std.proofs.lemmas.List.{length-append}
use Rattle.record_text.proofs.Lines.{decimal_short}
use Rattle.record_text.proofs.page.push_number.Goals as goal

pub push-requires : goal.push-requires
push-requires c =
    let e : c.as_bytes.result.now ≡ decimal c.args.number = c.as_bytes.ensures.value ∙ c.format.ensures.text in
    omega (arith, c.requires.room, ap (λ (bs : List ℕ). length bs) e, decimal_short c.args.number c.requires.short)

pub returns-clause-few : goal.returns-clause-few
returns-clause-few c =
    let e : c.as_bytes.result.now ≡ decimal c.args.number = c.as_bytes.ensures.value ∙ c.format.ensures.text in
    omega (
      arith,
      ap (λ (bs : List ℕ). length bs) e,
      decimal_short c.args.number c.requires.short,
      ap (λ (bs : List ℕ). length bs) c.push.ensures,
      length-append c.args.page.now.items c.as_bytes.result.now,
    )
