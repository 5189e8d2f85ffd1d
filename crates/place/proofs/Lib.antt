pub mod Powers
pub mod Trees
pub mod Numbers
