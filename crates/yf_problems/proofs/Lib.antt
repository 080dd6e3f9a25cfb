-- The lemmas, under the functions that they serve.

-- `add_rule`, `found_by_rules`
pub mod ProblemLemmas
-- `node_parts`
pub mod FoldRuns
pub mod FoldSteps
