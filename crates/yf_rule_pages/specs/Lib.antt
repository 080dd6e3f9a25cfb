-- A list of pages, and the page with a name.
pub mod Pages
