-- What is proved about an accepted text and its formatting.
use Rattle.std.specs.Prelude.{◌≤◌, ℕ, List, length}
use Rattle.std.specs.Str.{IsUtf8}
use Rattle.yf_events.specs.Nested.{IsStream}
use Rattle.yf_events.specs.Reading.{events_of}
use Rattle.yf_events.specs.declared.lists.Lists.{Lists}
use Rattle.yf_events.specs.declared.reading.TheConstants.{DEPTH}
use Rattle.yf_stream.specs.StreamReader.{TheReading}
use Rattle.yf_standard.specs.Acceptance.{IsStandardText}
use Rattle.yf_laws.specs.FormatPromises.{FormatKept}
use Rattle.yf_forms.specs.declared.style.Style.{Style}
use Rattle.yf_laws.specs.Mended.{IsMended}
use Rattle.yf_rules.specs.declared.run.TheConstants.{INPUT_LIMIT}

-- A text t of at most 1 GiB, which the standard's productions derive as a stream that breaks no rule, is accepted with
-- its only reading, whose events are a well nested stream within the limit of open collections. u is its only
-- formatting. u is such a stream too, and accepted, with the same content and the same comments at the same places.
-- Formatting it again changes nothing, it has no fixable finding, and it has at most 1 GiB, so that it can be read
-- again.
pub record Headline (t : List ℕ) (s : Style) (u : List ℕ) : Type 0 where
  pub within : length t ≤ INPUT_LIMIT
  pub utf8 : IsUtf8 t
  pub standard : IsStandardText t
  pub reading : Lists
  pub reads : TheReading t reading
  pub nested : IsStream DEPTH (events_of reading)
  pub kept : FormatKept t s u
  pub still_standard : IsStandardText u
  pub mended : IsMended u s
  pub fits : length u ≤ INPUT_LIMIT
