-- The lemmas, each group under the function or the theorem that it serves.

-- breaks, white space, starts of lines and document markers: `line_break`, `skip_whites`, `is_line_start`,
-- `is_marker_at`
pub mod BasicLemmas
pub mod ClearLemmas
-- contexts
pub mod ContextFacts
-- `fold_lines` and `flow_folded`
pub mod FoldBytes
pub mod FoldLemmas
-- the table of lines and positions: `LineTable::build`, `line`, `is_forbidden`, `place`
pub mod LineLemmas
pub mod TableLemmas
pub mod RowLemmas
pub mod MarkLemmas
pub mod PlaceLemmas
-- `write_text` and `write_texts`
pub mod OutputLemmas
-- `write_shown`
pub mod ShownLemmas
-- written text is derived again (the laws of layouts of yf_laws)
pub mod RestLemmas
pub mod CoreSteady
pub mod VisibleLines
-- `LineTable::build` and `is_line_start` by bytes
pub mod SearchLemmas
-- `is_steady`
mod FeedLanes
