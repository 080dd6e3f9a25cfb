-- No page so far has the name.
use Rattle.std.proofs.Common.{◌≡◌, drop}
use Rattle.yf_rule_pages.specs.Pages.{named}
use Rattle.yf_rule_pages.proofs.page.find_page.Given as goal

abbrev pub invariant-loop-page : goal.invariant-loop-page
invariant-loop-page l = named l.name (drop l.page-index l.pages) ≡ named l.name l.pages
