-- The lemmas that belong to no one function. The first five know no table; the theorem on the formulas' own values comes last.
pub mod Nearest
pub mod Sums
pub mod Terms
pub mod SumTests
pub mod Searches
pub mod Curves
pub mod Bells
pub mod Arcs
pub mod DayRules
pub mod PowerTests
pub mod PressureEntries
pub mod PressureValues
pub mod WholeTables
pub mod ValueRanges
pub mod OwnValues
