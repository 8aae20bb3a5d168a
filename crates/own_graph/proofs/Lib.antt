pub mod LayLaws
pub mod PairLaws
