-- The lemmas, grouped by the function or the theorem that needs them.

-- `line_end` and `read_line_end`
pub mod RowLemmas
pub mod LineEndLemmas
pub mod LineOrder
-- `separate`, `separate_lines`, `flow_line_prefix` and `read_separation`
pub mod SeparateLemmas
-- the common cases of `next_row`, `line_end` and `separate`
mod SolidLemmas
-- `is_blank_before`, with a result that is known for every text (`ReadingOf` of yf_stream)
pub mod BlankLemmas
mod VisibleLemmas
pub mod NoteKnown
-- a written separation is read again (the laws of layouts of yf_laws)
pub mod SpaceLemmas
pub mod GapLinesLemmas
-- the definitions on small texts
mod NoteShown
