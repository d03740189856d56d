-- The value of an expression, of its count.
use Rattle.std.proofs.Common.{◌≡◌, ◌∙◌, refl, sym, ap, subst, ℕ, ◌≤◌, Bool, true, false, ◌&&◌}
use Rattle.std.specs.Prelude.{ℤ, pos, ◌*ℤ◌, Option, unsigned_abs}
use Rattle.expr_nodes.specs.osc_base.declared.path.Path.{Path}
use Rattle.expr_nodes.specs.osc_base.declared.fraction.Fraction.{Fraction}
use Rattle.expr_nodes.specs.osc_base.Number.{IsSame}
use Rattle.expr_nodes.specs.osc_base.Fraction.{value}
use Rattle.expr_nodes.specs.declared.node.Typed.{Typed}
use Rattle.expr_nodes.specs.Typed as Nodes
use Rattle.expr_nodes.specs.Typed.{TypedRow, scale, reach}
use Rattle.expr_nodes.specs.Sizes.{Size}
use Rattle.expr_nodes.specs.Value.{worth}
use Rattle.expr_nodes.specs.Sound.{is_sound, each_read, each_read_of}
use Rattle.expr_nodes.specs.Seen.{seen}
use Rattle.expr_value.specs.declared.count.Count.{Count}
use Rattle.expr_value.specs.Held.{in_reach, known}
use Rattle.expr_value.specs.Words.{IsReady, IsCounted}
use Rattle.expr_value.proofs.Worths.{counted_worth}

pub ready : (told : Path → Option ℤ) (t : Typed) → is_sound (seen t) ≡ true → each_read (in_reach told) (seen t) ≡ true → IsReady told t
unfolding IsReady
ready told t sound within = record { sound = sound; within = within }

module _ (told : Path → Option ℤ) (t : Typed) (c : Count) (counts : IsCounted told t c) (f : Fraction) (num : f.num ≡ c.count) (den : f.den ≡ pos c.size.scale) where
  pub scale_is : f.den ≡ pos (scale (seen t))
  unfolding IsCounted
  scale_is = den ∙ ap (λ (s : Size). pos s.scale) counts.sized

  pub worth_is : is_sound (seen t) ≡ true → IsSame (value f) (worth (known told) (seen t))
  unfolding IsCounted
  worth_is sound =
      ap (λ z. z *ℤ (worth (known told) (seen t)).denominator) (num ∙ counts.same)
      ∙ (counted_worth (known told) (seen t) sound).same
      ∙ ap (λ z. (worth (known told) (seen t)).numerator *ℤ z) (sym (den ∙ ap (λ (s : Size). pos s.scale) counts.sized))

  pub reach_is : unsigned_abs f.num ≤ reach (seen t)
  unfolding IsCounted
  reach_is = subst (λ r. unsigned_abs f.num ≤ r) (ap (λ (s : Size). s.reach) counts.sized) (subst (λ n. unsigned_abs n ≤ c.size.reach) (sym num) c.within)

-- each test that always holds holds of each node that reads
both : (a b : Bool) → a ≡ true → b ≡ true → (a && b) ≡ true
both true b p q = q
both false b p q = p

module _ (test : Nodes.Info → Path → ℕ → Bool) (always : (i : Nodes.Info) (p : Path) (per : ℕ) → test i p per ≡ true) where
  mutual
    pub each_reads : (t : Nodes.Typed) → each_read test t ≡ true
    each_reads (Nodes.Constant i number) = refl
    each_reads (Nodes.Read i path per) = always i path per
    each_reads (Nodes.Whole i path) = refl
    each_reads (Nodes.Listed i is_field items) = each_item items
    each_reads (Nodes.Span i low high) = both (each_read test low) (each_read test high) (each_reads low) (each_reads high)
    each_reads (Nodes.Minus i part) = each_reads part
    each_reads (Nodes.Not i part) = each_reads part
    each_reads (Nodes.Sum i a b) = both (each_read test a) (each_read test b) (each_reads a) (each_reads b)
    each_reads (Nodes.Times i a b) = both (each_read test a) (each_read test b) (each_reads a) (each_reads b)
    each_reads (Nodes.And i a b) = both (each_read test a) (each_read test b) (each_reads a) (each_reads b)
    each_reads (Nodes.Or i a b) = both (each_read test a) (each_read test b) (each_reads a) (each_reads b)
    each_reads (Nodes.Implies i a b) = both (each_read test a) (each_read test b) (each_reads a) (each_reads b)
    each_reads (Nodes.Relation i sign a b) = both (each_read test a) (each_read test b) (each_reads a) (each_reads b)
    each_reads (Nodes.Within i a b) = both (each_read test a) (each_read test b) (each_reads a) (each_reads b)

    each_item : (items : TypedRow) → each_read_of test items ≡ true
    each_item Nodes.End = refl
    each_item (Nodes.Item item others) = both (each_read test item) (each_read_of test others) (each_reads item) (each_item others)
