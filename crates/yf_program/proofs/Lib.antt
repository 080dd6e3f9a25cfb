-- The lemmas, each group under the function or the theorem that it serves.

-- `read_settings`, `run`
pub mod ProgramLemmas
-- `show_formatting`, `work_past`
pub mod ShownLemmas
-- `answer`
pub mod AnswerLemmas
-- `report_version`
pub mod VersionLemmas
-- `report_inputs`
pub mod ReportLemmas
pub mod BaselineLemmas
-- `report_input`, `tell_file`, `tell_findings`
pub mod FurtherLemmas
-- `show_in_force`
pub mod SettingsShownLemmas
-- `handling_of`
pub mod HandlingLemmas
