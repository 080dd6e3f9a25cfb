-- The lemmas, a folder for each theorem or for what several theorems use.
-- what is proved about `format` (`FormatKept`)
pub mod FormatKeeps
-- the bytes of lines, and that styles stay as they are wanted
pub mod Texts
-- `normal`: the normal form of a reading, which is settled, and the only one
pub mod NormalForms
-- `layout`: the printer's pass prints the rows of the layout
pub mod Printer
-- `trails_of`: the comments that trail are those of the layout
pub mod Trails
-- the reading of a text satisfies `ReadingsAreOfTexts`
pub mod OfTexts
-- what is read can be written and is read again (`Fits`, `ReadTrees`)
pub mod Writable
-- a layout is a text, and is derived as its trees (`LayoutsAreTexts`, `LayoutsAreDerived`)
pub mod Derived
-- a formatted text has the same content, and the same comments at the same leaves
pub mod SameReading
-- the lines of a formatted text, which the rules of style inspect
pub mod OutputLines
-- the columns of entries and of outer flow collections in a formatted text
pub mod Columns
-- nodes are found on their laid-out rows
pub mod RowNodes
-- the reading of a formatted text is laid out as that text: comments, notes on blank lines, rows
pub mod ReadAgain
-- a second run changes nothing (`FixedLaws`): trees that differ only in offsets are laid out alike
pub mod SecondRun
-- what formatting leaves unchanged (`Keeps`)
pub mod Keeps
-- a bound on the length of a formatted text (`SizeKept`)
pub mod Size
-- in a formatted text tabs are only in contents
pub mod Tabs
-- the definitions, evaluated on small readings
pub mod Shown
-- the statements on a text and its formatting, and on every text (`Formattings`)
pub mod FormattingsAre
pub mod RulesMended
-- a formatted text has no fixable finding (`FormatsAreMended`)
pub mod Formatted
-- what a setting promises (`StartsAreKept`)
pub mod Settings
