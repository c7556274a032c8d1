mod Appended
mod Found
mod NoValues
mod ValuesInRow
