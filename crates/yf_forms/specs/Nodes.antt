-- a node on one line: its text, width and style, and the start of its content
pub mod Lines
pub mod OneLine
pub mod OneLineFlows
pub mod ScalarStyles
pub mod ContentStart
pub mod BlockLines
pub mod FlowTexts
pub mod FlowsAlone
pub mod ImplicitKeys
pub mod SingleNodes
