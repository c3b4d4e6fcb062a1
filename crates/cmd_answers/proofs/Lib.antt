pub mod Answers
pub mod CaseLaws
pub mod PagesLaws
