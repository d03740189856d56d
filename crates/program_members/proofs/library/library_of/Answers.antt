use Rattle.std.proofs.Common.{◌≡◌, ◌∙◌, sym, subst, arith, length, None}
use Rattle.std.specs.Prelude.{slice_get}
use Rattle.type_members.specs.name_scope.FileNumbers.{is_library, numbered_names}
use Rattle.program_members.proofs.FirstLibrary.{found_there, not_there, nowhere}
use Rattle.program_members.proofs.library.library_of.Goals as goal

pub returns-then-is_library : goal.returns-then-is_library
returns-then-is_library c =
    found_there is_library (numbered_names c.args.program.now) c.loop-number.number c.loop-number.invariant (sym c.is_library.ensures ∙ c.if-is_library.true)

pub loop-number-preserved : goal.loop-number-preserved
loop-number-preserved c =
    not_there is_library (numbered_names c.args.program.now) c.loop-number.number c.loop-number.invariant (sym c.is_library.ensures ∙ c.if-is_library.false)

pub returns : goal.returns
returns c =
    let all : length c.args.program.now ≡ c.loop-number.number =
    omega (arith, c.files-number-end.ensures.count, c.loop-number.auto.number-end, c.loop-number-test.false) in
    nowhere is_library (numbered_names c.args.program.now) c.loop-number.number c.loop-number.invariant
    (subst (λ k. slice_get (numbered_names c.args.program.now) k ≡ None) all c.requires.whole)
