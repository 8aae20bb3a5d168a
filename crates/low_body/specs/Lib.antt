pub mod RoundView
