-- Leaves with characters and comments as steps, in the order of a text, and what the steps determine for each comment.
use Rattle.std.specs.Prelude.{ℕ, ◌+◌, List, [], ◌∷◌, ◌++◌, map}
use Rattle.yf_comments.specs.GapLines.{remarks_of}
use Rattle.yf_events.specs.declared.event.Span.{Span}
use Rattle.yf_events.specs.declared.lists.Lists.{Lists}
use Rattle.yf_laws.specs.Layouts.RowComments.{carried_texts}
use Rattle.yf_laws.specs.Layouts.Decorated.{Deco, first, after, first_gap, row_decos}
use Rattle.yf_print.specs.Layouts.Rows.{Row}
use Rattle.yf_print.specs.Layouts.KeptColumns.{Columns}

pub data Step : Type 0 where
  a_leaf : Step
  a_comment : List ℕ → Step

abbrev pub leaf_steps : List Span → List Step
leaf_steps ss = map (λ s. a_leaf) ss

abbrev pub comment_steps : List (List ℕ) → List Step
comment_steps xs = map (λ x. a_comment x) xs

-- the steps of rows, with what each carries after it
abbrev pub steps_in : List Row → List Deco → List Step
steps_in [] ds = []
steps_in (x ∷ xs) ds = leaf_steps x.leaves ++ (comment_steps (carried_texts (first ds)) ++ steps_in xs (after ds))

-- the steps of a normal reading with these rows
abbrev pub steps_of : Columns → Lists → List Row → List Step
steps_of g m rows = comment_steps (remarks_of (first_gap g m rows)) ++ steps_in rows (row_decos g m rows)

-- each comment's text, and the number of leaves before it, counted from a number
abbrev pub comments_of : ℕ → List Step → List (List ℕ × ℕ)
comments_of n [] = []
comments_of n (a_leaf ∷ steps) = comments_of (n + 1) steps
comments_of n (a_comment text ∷ steps) = (text, n) ∷ comments_of n steps
