pub mod Inherited
pub mod ConditionFields
pub mod ConditionLists
pub mod PhaseWays
pub mod GroundedSpots
pub mod EachText
pub mod HeldConstraints
pub mod FewMembers
pub mod SmallConditions
pub mod ResolvedScopes
pub mod JudgedUses
pub mod TypedExpressions
pub mod ProgramFacts
pub mod PlacedScenarios
pub mod VehicleLimits
pub mod NarrowRanges
pub mod ShortTexts
pub mod NarrowModifiers
pub mod SceneParts
pub mod PhaseSteps
pub mod TypedShapes
pub mod ReadFacts
pub mod KnownPaths
pub mod ReadTexts
pub mod ReadObjects
pub mod ReadScenes
pub mod WholeObjects
pub mod ModifierShapes
pub mod SoundModifiers
pub mod SoundConstraints
pub mod SoundFields
pub mod SoundConditions
pub mod SoundTexts
pub mod TypedScenes
-- Crates below, for the crates above.
pub use Rattle.run_values.proofs.of_field_flatten as of_field_flatten
pub use Rattle.scene_laws.proofs as of_scene_laws
