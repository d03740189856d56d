-- What the ends of units are written as, and what their readers ensure.
use Rattle.std.specs.Prelude.{◌∷◌, ◌≡◌, ◌≢◌, ◌<◌}
use Rattle.dsl_tree.specs.{declared.parts.Signed.Signed, WrittenFile.known_name, WrittenFile.factor_rest, WrittenFile.unit_end, WrittenFile.base, WrittenFile.offset_end, WrittenFile.unit_tail, declared.units.BasePart.BasePart}
use Rattle.dsl_cursor.specs.Words.{ℕ, List, Option, Some, None, Place, MarkKind, WordKind, si_text, Part, Forest, nil, sub, wrong, length, Result, Ok, Err, Stop, Memory, Token, factor_text, mark, read}
use Rattle.dsl_tree.specs.Written as written
use Rattle.dsl_tree.specs.WrittenFile as file
use Rattle.dsl_headings.specs.declared.units.{UnitBases.UnitBases, UnitName.UnitName, UnitEnd.UnitEnd, UnitNext.UnitNext, UnitNext.TheVariants.Base, UnitNext.TheVariants.End}

abbrev pub optional_dash : Option Place → Forest
optional_dash None = nil
optional_dash (Some place) = written.mark_at place MarkKind.Dash nil

abbrev pub written_unit_bases : UnitBases → Forest
written_unit_bases u = file.unit_bases u.bases (unit_end u.end.factor u.end.offset)

abbrev pub written_unit_of : UnitName → Forest
written_unit_of u =
    written.word WordKind.OfWord (written.ident u.of (written.word WordKind.IsWord (known_name si_text (written.mark MarkKind.OpenRound (written_unit_bases u.unit)))))

abbrev pub by_factor : Option Signed → Option Signed → Forest
by_factor None offset = wrong
by_factor (Some factor) offset = factor_rest factor offset

abbrev pub written_factor_rest : UnitEnd → Forest
written_factor_rest e = by_factor e.factor e.offset

-- Steps of the reader of a unit's bases

abbrev pub unit_more : Option Signed → Option Signed → Forest
unit_more None None = wrong
unit_more None (Some offset) = offset_end offset
unit_more (Some factor) offset = known_name factor_text (factor_rest factor offset)

-- another base, after which stands again what may stand after a base; or the end of the declaration
abbrev pub IsUnitNext : List Token → Result UnitNext (Stop ℕ) → List Token → Type 0
IsUnitNext old (Ok (Base b)) new =
    (length new < length old)
    × ((others : List BasePart) (end : Forest) (z : List Token) → read Part.UnitTail new ≡ Ok (unit_tail others end, z) → read Part.UnitTail old ≡ Ok (unit_tail (b ∷ others) end, z))
    × ((e : Stop ℕ) → read Part.UnitTail new ≡ Err e → read Part.UnitTail old ≡ Err e)
IsUnitNext old (Ok (End end)) new = read Part.UnitTail old ≡ Ok (unit_end end.factor end.offset, new)
IsUnitNext old (Err e) new = e ≢ Memory → read Part.UnitTail old ≡ Err e

-- what stands after a comma: another base and again what may stand after one; or the end of the declaration
abbrev pub IsUnitMore : List Token → Result UnitNext (Stop ℕ) → List Token → Type 0
IsUnitMore old (Ok (Base b)) new =
    (length new < length old)
    × ((tail : Forest) (z : List Token) → read Part.UnitTail new ≡ Ok (tail, z) → read Part.UnitMore old ≡ Ok (sub (base b) (sub tail nil), z))
    × ((e : Stop ℕ) → read Part.UnitTail new ≡ Err e → read Part.UnitMore old ≡ Err e)
IsUnitMore old (Ok (End end)) new =
    (read Part.UnitMore old ≡ Ok (unit_more end.factor end.offset, new))
    × (unit_end end.factor end.offset ≡ mark MarkKind.Comma (sub (unit_more end.factor end.offset) nil))
IsUnitMore old (Err e) new = e ≢ Memory → read Part.UnitMore old ≡ Err e

-- the bases of a unit after its first one, to the end of the declaration
abbrev pub written_tail : UnitEnd → List BasePart → Forest
written_tail end others = unit_tail others (unit_end end.factor end.offset)
