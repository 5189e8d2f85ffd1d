pub mod InlineList
