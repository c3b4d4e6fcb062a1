pub mod Zeros
pub mod Laying
pub mod Reading
pub mod TupleReading
pub mod PostingReading
pub mod BodyLaws
pub mod BodyReading
pub mod LengthLaws
