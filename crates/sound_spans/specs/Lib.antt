pub mod WordSound
