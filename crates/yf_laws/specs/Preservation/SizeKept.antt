-- The length of a formatted text.
use Rattle.std.specs.Prelude.{ℕ, suc, ◌+◌, ◌*◌, ◌≤◌, List, length}
use Rattle.yf_events.specs.declared.lists.Lists.{Lists}
use Rattle.yf_events.specs.declared.reading.TheConstants.{DEPTH}
use Rattle.yf_stream.specs.ReadingOf.{ReadingOf}
use Rattle.yf_forms.specs.declared.style.Style.{Style}
use Rattle.yf_laws.specs.Layouts.FitDocuments.{tall_documents}

-- u has at most (n + 1) · (c + 8) bytes; n is the number of bytes of t, and c the greatest column at which a line of u
-- may begin
pub record SizeKept (t : List ℕ) (s : Style) (u : List ℕ) : Type 0 where
  -- with the greatest number of collections that are open at once in t
  pub by_depth : (r : Lists) (a : ReadingOf t r) → length u ≤ suc (length t) * (s.indent * suc (tall_documents a.trees) + 8)
  -- for any text, since the limit bounds the open collections
  pub at_most : length u ≤ suc (length t) * (s.indent * suc DEPTH + 8)
