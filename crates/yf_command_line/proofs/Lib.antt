-- The lemmas, each group under the functions that it serves.

-- `parse_line`, `lines_met`
pub mod RequestLemmas
-- `names_in`, `add_names`, `is_rule`, `has_standard_input`, `lines_met`
pub mod WordLemmas
-- `AsksFor` and `RefusesWords`: each line of words asks for one request or is refused
pub mod PrintingExactness
pub mod CheckExactness
pub mod FmtExactness
pub mod FmtFormatExactness
pub mod Exactness
