pub mod Matched
mod Growing
mod Sure
mod Scopes
mod ValuesKnown
mod PathsKnown
mod CallsKnown
mod ClosuresKnown
mod PatternsKnown
mod StatementsKnown
mod PartsKnown
mod TreesKnown
mod BodiesKnown
mod SignaturesKnown
mod TextsKnown
pub mod Proved
mod Counting
mod NoBodies
mod CallsCounted
mod TreesCounted
mod Numbered
