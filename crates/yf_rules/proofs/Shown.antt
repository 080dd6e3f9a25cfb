-- the definitions, evaluated on small readings
pub mod ShownMarks
pub mod ShownKeys
