-- The results of the reader of streams from the parts that it has read: the lists that are made of them, or the first
-- breach in them. If the parts are those of the text's one shape, the lists are its reading, and the breach is the
-- first one in it.
use Rattle.std.specs.Prelude.{ℕ, List, Result, MatchResult}
use Rattle.std.specs.Str.{IsCharBoundary}
use Rattle.yf_events.specs.declared.lists.Lists.{Lists}
use Rattle.yf_stream.specs.NotedLists.{ListsOf}
use Rattle.yf_stream.specs.Stream.{Documents}
use Rattle.yf_stream.specs.StreamReader.{TheReading}
use Rattle.yf_stream.specs.TagPass.{stream_breaches}
use Rattle.yf_stream.specs.WellFormed.{IsFirst, Shapes, breaches}
use Rattle.yf_stream.specs.WrittenParts.{PartsOf}
use Rattle.yf_stream.specs.declared.breaches.Breach.{Breach}
use Rattle.yf_stream.specs.declared.documents.Parts.{Parts}
use Rattle.yf_stream.specs.declared.stream.Refusal.{Refusal}
use Rattle.yf_stream.specs.declared.stream.Refusal.TheVariants as Refusals

-- the lists of parts without breaches, with their resolved tags and the notes of their comments
pub record MadeOf (t : List ℕ) (r : Lists) : Type 0 where
  pub parts : Parts
  pub noted : ListsOf t parts r
  pub reading : (x : Documents) → Shapes t x → PartsOf t x parts → TheReading t r

-- the first breach in parts, between characters if the parts are those of the text
pub record BreachIn (t : List ℕ) (b : Breach) : Type 0 where
  pub parts : Parts
  pub first : IsFirst (stream_breaches parts.documents parts.part.events parts.part.escapes) b
  pub told : (x : Documents) → Shapes t x → PartsOf t x parts → IsFirst (breaches x.documents) b
  pub place : (x : Documents) → Shapes t x → PartsOf t x parts → IsCharBoundary t b.offset

abbrev pub RefusalIn : List ℕ → Refusal → Type 0
RefusalIn t (Refusals.Breach b) = BreachIn t b
RefusalIn t (Refusals.Syntax offset) = Unit {0}
RefusalIn t (Refusals.TooDeep offset) = Unit {0}

-- no breach is reported before all parts have been read
abbrev pub NoBreach : Refusal → Type 0
NoBreach (Refusals.Breach b) = ⊥
NoBreach (Refusals.Syntax offset) = Unit {0}
NoBreach (Refusals.TooDeep offset) = Unit {0}

abbrev pub MadeOr : List ℕ → Result Lists Refusal → Type 0
MadeOr t r = MatchResult r (MadeOf t) (RefusalIn t)
