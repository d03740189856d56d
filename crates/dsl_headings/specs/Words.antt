-- The words of the definitions here, and those that `dsl_cursor` doesn't pass on.
pub use Rattle.dsl_tree.specs.Written.{digits}
pub use Rattle.dsl_tree.specs.WrittenFile.{unit_end, unit_tail}
pub use Rattle.dsl_tree.specs.WrittenPhases.{dotted_names}
pub use Rattle.dsl_tree.specs.declared.{compounds.CompoundKind.CompoundKind, file.Import.Import, units.BasePart.BasePart}
pub use Rattle.dsl_headings.specs.Headings.{compound_token, is_plain, kind_word, owned_codes, plain_codes, unit_codes}
pub use Rattle.dsl_headings.specs.Units.{IsUnitMore, IsUnitNext, optional_dash, written_tail}
