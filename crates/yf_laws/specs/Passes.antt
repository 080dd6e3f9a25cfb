-- the text that printing gives, and what it writes to a writer
pub mod WriterAfterPrint
pub mod PrintedText
