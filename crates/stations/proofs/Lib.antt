pub mod StationCases
