pub mod Bed
pub mod Reach
pub mod Skirt
pub mod Brim
pub mod NearLoops
