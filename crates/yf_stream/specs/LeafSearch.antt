-- The search for the last leaf before an offset: forwards to the first event that begins at it or after it, and back to
-- a leaf.
use Rattle.std.specs.Prelude.{◌≡◌, ℕ, ◌<◌, ◌≤◌, List, drop, map, Option, Some, None, slice_get}
use Rattle.yf_events.specs.Event.{EventInText}
use Rattle.yf_events.specs.declared.event.Span.{Span}
use Rattle.yf_stream.specs.LeafPass.{last_end, leaf_spans}

-- the span begins before an offset, or is missing
abbrev pub BeginsBefore : ℕ → Option Span → Type 0
BeginsBefore offset None = Unit {0}
BeginsBefore offset (Some span) = span.start < offset

-- so does the span of the event at an index
pub record BegunAt (offset : ℕ) (es : List EventInText) (i : ℕ) : Type 0 where
  pub span : Option Span
  pub there : slice_get (map (λ e. e.span) es) i ≡ Some span
  pub before : BeginsBefore offset span

-- the result of the search among the events from i up to j, if all of them have begun
pub record LastLeaf (es : List EventInText) (i j : ℕ) (found result : Option ℕ) : Type 0 where
  pub same : (offset o : ℕ) → ((k : ℕ) → i ≤ k → k < j → BegunAt offset es k) → offset ≤ o
      → last_end found o (leaf_spans (drop i es)) ≡ last_end result o (leaf_spans (drop j es))
