-- `known_positions`, `columns_of`: positions and columns of offsets, and going back from an offset
pub mod Findings
-- facts about texts, lines and readings that several rules use
pub mod Texts
-- each rule except indentation: its pass finds its set
pub mod RuleSets
-- indentation: its passes find its set
pub mod Indentation
