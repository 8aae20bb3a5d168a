pub mod Undeclared
