mod Bracketed
mod Ends
mod Fitting
mod Fronts
mod Numerals
mod RowList
mod Texts
