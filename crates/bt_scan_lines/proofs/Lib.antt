mod Sorting
mod Matching
mod Going
mod OnLeaf
