mod ArrayLaws
mod ElementLaws
