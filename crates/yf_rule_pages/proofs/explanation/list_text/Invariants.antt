-- The lines so far, followed by the lines of the remaining pages, are the lines of all pages.
use Rattle.std.proofs.Common.{◌≡◌, ◌++◌, drop, string_bytes}
use Rattle.yf_rule_pages.specs.Pages.{list_text}
use Rattle.yf_rule_pages.proofs.explanation.list_text.Given as goal

abbrev pub invariant-loop-page : goal.invariant-loop-page
invariant-loop-page l = string_bytes l.text ++ list_text (drop l.page-index l.pages) ≡ list_text l.pages
