-- The definitions, in folders.
-- the rules: the fields of each, and its set
pub mod Definition
pub mod Rules
pub mod RuleOf
pub mod Sets
-- the set of each rule
pub mod RuleSets
-- the states of passes over a reading, for the clauses of private functions
pub mod Passes
