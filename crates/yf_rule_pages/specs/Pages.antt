-- What `yamlfmt explain` prints: the page with a name, or the list of all pages.
use Rattle.std.specs.Prelude.{ℕ, if◌then◌else◌, List, [], ◌∷◌, ◌++◌, Option, None, Some, codes, option_map}
use Rattle.std.specs.Borrow.{Bor}
use Rattle.std.specs.List.{flat_map}
use Rattle.std.specs.Str.{bytes_eq}
use Rattle.yf_rule_pages.specs.declared.page.Page.{Page}

-- The page behind a reference.
abbrev pub page_at : Bor Page → Page
page_at page = page.now

-- The first page with the name, if a page has it.
abbrev pub named : List ℕ → List Page → Option Page
named name [] = None
named name (page ∷ pages) = if bytes_eq page.name.now name then Some page else named name pages

-- The text of a page: its name, what is at fault, and the rest.
abbrev pub page_text : Page → List ℕ
page_text page =
    codes "# " ++ (page.name.now ++ (codes "\n\n" ++ (page.summary.now ++ (codes "\n\n" ++ page.text.now))))

-- The line of a page in the list: its name, and what is at fault.
abbrev pub list_line : Page → List ℕ
list_line page = page.name.now ++ (codes ": " ++ (page.summary.now ++ codes "\n"))

-- The list of pages, with a line for each.
abbrev pub list_text : List Page → List ℕ
list_text pages = flat_map list_line pages

-- The text of the page with the name, if a page has it. Without a name, the list of all pages.
abbrev pub explanation : List Page → Option (List ℕ) → Option (List ℕ)
explanation pages (Some name) = option_map page_text (named name pages)
explanation pages None = Some (list_text pages)
