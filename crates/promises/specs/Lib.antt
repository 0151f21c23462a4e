-- What is promised of a log that is read: the definitions that the contracts cite.
pub mod Days
pub mod Demand
pub mod CropFigures
