-- The lemmas that belong to no one function.
pub mod Faultless
pub mod CropFigure
pub mod CropBound
pub mod Examples
pub mod Apart
