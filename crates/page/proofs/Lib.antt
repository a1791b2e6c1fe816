pub mod PastEnd
pub mod Numbers
