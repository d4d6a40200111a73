pub mod Reporting
pub mod NewsPieces
pub mod ListedValues
