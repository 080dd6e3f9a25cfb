-- The results of the reader of all documents: the text's one shape with its parts, or that it has none; and the lists
-- that are made of them.
use Rattle.std.specs.Prelude.{ℕ, ◌<◌, List, Option, Result, MatchOption, MatchResult}
use Rattle.std.specs.Str.{IsCharBoundary}
use Rattle.yf_events.specs.declared.lists.Lists.{Lists}
use Rattle.yf_events.specs.declared.reading.TheConstants.{DEPTH}
use Rattle.yf_grammar.specs.Refusal.{openers}
use Rattle.yf_stream.specs.Stream.{Documents}
use Rattle.yf_stream.specs.StreamReader.{NoStream, TheReading}
use Rattle.yf_stream.specs.WellFormed.{IsFirst, Shapes, breaches}
use Rattle.yf_stream.specs.WrittenParts.{PartsOf}
use Rattle.yf_stream.specs.declared.breaches.Breach.{Breach}
use Rattle.yf_stream.specs.declared.documents.Parts.{Parts}
use Rattle.yf_stream.specs.declared.stream.Refusal.{Refusal}
use Rattle.yf_stream.specs.declared.stream.Refusal.TheVariants as Refusals

-- no stream is derived; a text is refused as too deep only if it also has more openers than the limit
abbrev pub NotDerived : List ℕ → Refusal → Type 0
NotDerived t (Refusals.Syntax offset) = NoStream t
NotDerived t (Refusals.TooDeep offset) = NoStream t × (DEPTH < openers t)
NotDerived t (Refusals.Breach b) = ⊥

-- the one shape, with its parts
pub record ShapeRead (t : List ℕ) (p : Parts) : Type 0 where
  pub documents : Documents
  pub shapes : Shapes t documents
  pub parts : PartsOf t documents p

abbrev pub ShapeOr : List ℕ → Parts → Option Refusal → Type 0
ShapeOr t p o = MatchOption o (ShapeRead t p) (NotDerived t)

-- the first breach of the one shape, between characters
pub record FirstBreach (t : List ℕ) (b : Breach) : Type 0 where
  pub documents : Documents
  pub shapes : Shapes t documents
  pub first : IsFirst (breaches documents.documents) b
  pub place : IsCharBoundary t b.offset

-- why a text is refused
abbrev pub RefusalDerived : List ℕ → Refusal → Type 0
RefusalDerived t (Refusals.Breach b) = FirstBreach t b
RefusalDerived t (Refusals.Syntax offset) = NoStream t
RefusalDerived t (Refusals.TooDeep offset) = NoStream t × (DEPTH < openers t)

-- the lists are the reading of the text
abbrev pub ListsDerived : List ℕ → Result Lists Refusal → Type 0
ListsDerived t r = MatchResult r (TheReading t) (RefusalDerived t)
