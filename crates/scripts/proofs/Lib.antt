mod Folds
mod Listed
mod Numerals
mod Others
mod Rows
mod Slots
