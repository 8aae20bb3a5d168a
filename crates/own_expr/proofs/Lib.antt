pub mod Opens
pub mod Tails
pub mod Whole
pub mod Ends
pub mod Fields
pub mod Names
pub mod LetPatternList
pub mod PatternList
