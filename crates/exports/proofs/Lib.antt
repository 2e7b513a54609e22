pub mod ChunksHanded
pub mod FileHanded
pub mod Handed
pub mod MachineHanded
pub mod TextHanded
