pub mod Effect
