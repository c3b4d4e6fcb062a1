mod ColumnReads
mod Depths
mod IndexReads
mod Pairs
mod Places
mod Puts
mod ReadsBack
mod Texts
