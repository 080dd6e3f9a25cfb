-- lists: facts that several of these use
pub mod ListLemmas
-- texts on one line and their widths: `width`, `written`, `kept_text`; lines of block scalars
pub mod Texts
-- `measure_all`: the width of each node (`Measures`)
pub mod Measure
-- `decide` and `implicit_key`: the form of each node (`Forms`)
pub mod Decide
-- `normalized`: the pass that makes the normal form in place
pub mod NormalForms
