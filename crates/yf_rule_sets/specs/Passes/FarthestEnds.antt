-- The farthest end of the spans that begin up to an offset, which one pass over the text keeps.
use Rattle.std.specs.Prelude.{◌≡◌, ◌≢◌, ℕ, ◌<◌, ◌≤◌, ◌⊎◌, true, List, slice_get, Some}
use Rattle.yf_chars.specs.Hidden.{is_hidden}
use Rattle.yf_chars.specs.Signs.{BYTE_ORDER_MARK}
use Rattle.yf_chars.specs.Text.{code, no_char}
use Rattle.yf_events.specs.declared.event.Span.{Span}

-- `reach` is the farthest end of the first `count` spans, or 0 if none ends after 0
pub record Covers (spans : List Span) (count reach : ℕ) : Type 0 where
  pub bound : (k : ℕ) (s : Span) → slice_get spans k ≡ Some s → k < count → s.end ≤ reach
  pub reached : (reach ≡ 0) ⊎ ((k : ℕ) × (s : Span) × (slice_get spans k ≡ Some s) × (k < count) × (s.end ≡ reach))

-- the first `count` spans begin at the offset or before it, and all others after it
pub record AllBegin (spans : List Span) (count offset : ℕ) : Type 0 where
  pub all : (k : ℕ) (s : Span) → slice_get spans k ≡ Some s → k < count → s.start ≤ offset

pub record NoneBegins (spans : List Span) (count offset : ℕ) : Type 0 where
  pub none : (k : ℕ) (s : Span) → slice_get spans k ≡ Some s → count ≤ k → offset < s.start

-- a character of a kind begins at k, and k is at `reach` or after it
pub data IsBeyond (Kind : ℕ → Type 0) (t : List ℕ) (reach k : ℕ) : ℕ → Type 0 where
  is_beyond : Kind (code t k) → reach ≤ k → IsBeyond Kind t reach k k

abbrev pub IsMark : ℕ → Type 0
IsMark c = c ≡ BYTE_ORDER_MARK

-- a hidden character other than a mark
pub record IsHiddenSign (c : ℕ) : Type 0 where
  pub is_char : c < no_char
  pub hidden : is_hidden c ≡ true
  pub no_mark : c ≢ BYTE_ORDER_MARK
