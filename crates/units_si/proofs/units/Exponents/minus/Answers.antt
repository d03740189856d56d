use Rattle.std.proofs.Common.{SFits, refl, rules}
use Rattle.std.specs.Int.{w8}
use Rattle.std.proofs.lemmas.Int.{to_z-of_z}
use Rattle.units_si.proofs.Parts.{stored}
use Rattle.units_si.proofs.units.Exponents.minus.Goals as goal

pub returns-in_err-difference : goal.returns-in_err-difference
returns-in_err-difference c =
    let f1 : SFits w8 c.args.self.now.kg = search rules in let f2 : SFits w8 c.args.other.now.kg = search rules in
    let outside = simp to_z-of_z at c.in_err-difference.ensures in
    rw c.from_residual.ensures (λ all. outside all.0)

pub returns-in_err-difference-2 : goal.returns-in_err-difference-2
returns-in_err-difference-2 c =
    let f1 : SFits w8 c.args.self.now.m = search rules in let f2 : SFits w8 c.args.other.now.m = search rules in
    let outside = simp to_z-of_z at c.in_err-difference-2.ensures in
    rw c.from_residual-in_err-difference-2.ensures (λ all. outside all.1)

pub returns-in_err-difference-3 : goal.returns-in_err-difference-3
returns-in_err-difference-3 c =
    let f1 : SFits w8 c.args.self.now.s = search rules in let f2 : SFits w8 c.args.other.now.s = search rules in
    let outside = simp to_z-of_z at c.in_err-difference-3.ensures in
    rw c.from_residual-in_err-difference-3.ensures (λ all. outside all.2)

pub returns-in_err-difference-4 : goal.returns-in_err-difference-4
returns-in_err-difference-4 c =
    let f1 : SFits w8 c.args.self.now.a = search rules in let f2 : SFits w8 c.args.other.now.a = search rules in
    let outside = simp to_z-of_z at c.in_err-difference-4.ensures in
    rw c.from_residual-in_err-difference-4.ensures (λ all. outside all.3)

pub returns-in_err-difference-5 : goal.returns-in_err-difference-5
returns-in_err-difference-5 c =
    let f1 : SFits w8 c.args.self.now.k = search rules in let f2 : SFits w8 c.args.other.now.k = search rules in
    let outside = simp to_z-of_z at c.in_err-difference-5.ensures in
    rw c.from_residual-in_err-difference-5.ensures (λ all. outside all.4)

pub returns-in_err-difference-6 : goal.returns-in_err-difference-6
returns-in_err-difference-6 c =
    let f1 : SFits w8 c.args.self.now.mol = search rules in let f2 : SFits w8 c.args.other.now.mol = search rules in
    let outside = simp to_z-of_z at c.in_err-difference-6.ensures in
    rw c.from_residual-in_err-difference-6.ensures (λ all. outside all.5)

pub returns-in_err-difference-7 : goal.returns-in_err-difference-7
returns-in_err-difference-7 c =
    let f1 : SFits w8 c.args.self.now.cd = search rules in let f2 : SFits w8 c.args.other.now.cd = search rules in
    let outside = simp to_z-of_z at c.in_err-difference-7.ensures in
    rw c.from_residual-in_err-difference-7.ensures (λ all. outside all.6)

pub returns-in_err-difference-8 : goal.returns-in_err-difference-8
returns-in_err-difference-8 c =
    let f1 : SFits w8 c.args.self.now.rad = search rules in let f2 : SFits w8 c.args.other.now.rad = search rules in
    let outside = simp to_z-of_z at c.in_err-difference-8.ensures in
    rw c.from_residual-in_err-difference-8.ensures (λ all. outside all.7)

pub returns : goal.returns
returns c =
    let f1 : SFits w8 c.args.self.now.kg = search rules in let f2 : SFits w8 c.args.other.now.kg = search rules in let kg_is = simp to_z-of_z at c.in_ok-difference.ensures in
    let f1 : SFits w8 c.args.self.now.m = search rules in let f2 : SFits w8 c.args.other.now.m = search rules in let m_is = simp to_z-of_z at c.in_ok-difference-2.ensures in
    let f1 : SFits w8 c.args.self.now.s = search rules in let f2 : SFits w8 c.args.other.now.s = search rules in let s_is = simp to_z-of_z at c.in_ok-difference-3.ensures in
    let f1 : SFits w8 c.args.self.now.a = search rules in let f2 : SFits w8 c.args.other.now.a = search rules in let a_is = simp to_z-of_z at c.in_ok-difference-4.ensures in
    let f1 : SFits w8 c.args.self.now.k = search rules in let f2 : SFits w8 c.args.other.now.k = search rules in let k_is = simp to_z-of_z at c.in_ok-difference-5.ensures in
    let f1 : SFits w8 c.args.self.now.mol = search rules in let f2 : SFits w8 c.args.other.now.mol = search rules in let mol_is = simp to_z-of_z at c.in_ok-difference-6.ensures in
    let f1 : SFits w8 c.args.self.now.cd = search rules in let f2 : SFits w8 c.args.other.now.cd = search rules in let cd_is = simp to_z-of_z at c.in_ok-difference-7.ensures in
    let f1 : SFits w8 c.args.self.now.rad = search rules in let f2 : SFits w8 c.args.other.now.rad = search rules in let rad_is = simp to_z-of_z at c.in_ok-difference-8.ensures in (
      (kg_is.0, m_is.0, s_is.0, a_is.0, k_is.0, mol_is.0, cd_is.0, rad_is.0),
      rw (stored _ _ kg_is, stored _ _ m_is, stored _ _ s_is, stored _ _ a_is, stored _ _ k_is, stored _ _ mol_is, stored _ _ cd_is, stored _ _ rad_is) refl,
    )
