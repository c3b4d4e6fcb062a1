pub mod Answers
pub mod Cases
pub mod Faults
pub mod Files
pub mod Outcome
pub mod Pages
pub mod Seen
pub mod Show
