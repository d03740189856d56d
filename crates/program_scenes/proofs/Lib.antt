mod SameTypes
pub mod SceneFound
