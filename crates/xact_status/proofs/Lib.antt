pub mod Law
pub mod PiecesRead
