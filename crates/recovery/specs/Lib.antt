pub mod Crash
pub mod Diagnosis
pub mod Recipe
pub mod Told
pub mod CrashWitnesses
pub mod RecipeWitnesses
pub mod ToldWitnesses
pub mod Answers
