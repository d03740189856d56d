pub mod FirstTexts
pub mod FirstMeaning
pub mod FirstFormLaws
