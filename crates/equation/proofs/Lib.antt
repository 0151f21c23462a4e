-- The proof that the figure is near: the statement in FigureNear, one file for each part of the sheet, and `figure_near` in Nearness, over all of them. What follows of the
-- figure's size is in FigureLimit.
pub mod FigureNear
pub mod Units
pub mod Ends
pub mod TemperatureBound
pub mod WeightsBound
pub mod CloudBound
pub mod RadiationBound
pub mod WindBound
pub mod SoilBound
pub mod EntryBound
pub mod FigureBound
pub mod SheetBound
pub mod Nearness
pub mod FigureLimit
