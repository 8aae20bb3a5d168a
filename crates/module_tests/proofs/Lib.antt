mod Nesting
mod Template
