-- The lemmas, grouped by the function or the theorem that needs them.

-- `read_plain`
pub mod PlainLemmas
pub mod OrdinaryLemmas
pub mod LineLemmas
pub mod PlainOrder
-- a text that stays plain is read again (the laws of layouts of yf_laws)
pub mod KeptLemmas
pub mod PlainBack
-- the definitions on small texts
mod KeptShown
