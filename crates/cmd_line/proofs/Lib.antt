mod BoundLaws
mod NumberLaws
