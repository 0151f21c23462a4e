-- The lemmas that belong to no one function.
pub mod Tests
pub mod Dates
pub mod Passed
pub mod Numbers
pub mod Standings
pub mod Marks
pub mod EarlierMeans
pub mod DayBound
pub mod FigureLimit
pub mod FigureWith
pub mod Edges
pub mod Examples
pub mod WithoutSubstitute
pub mod DaySince
pub mod LeastValues
pub mod WithEleven
pub mod Idle
