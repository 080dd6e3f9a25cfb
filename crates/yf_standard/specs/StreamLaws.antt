-- The meanings of the standard's productions: the laws that relate the tokens of a stream (`Tokens`), as `Readings`
-- reads them, to `Stream` and to the reading of a text, each with a plain sentence. `proofs/StreamLawsHold.antt` proves
-- them.
use Rattle.std.specs.Prelude.{◌≡◌, ℕ, ◌≤◌, List, [], length, map, flat_map}
use Rattle.std.specs.Str.{IsUtf8}
use Rattle.yf_events.specs.declared.lists.Lists.{Lists}
use Rattle.yf_stream.specs.ReadingOf.{ReadingOf}
use Rattle.yf_stream.specs.Stream.{Documents, Stream}
use Rattle.yf_standard.specs.Notation.Form.{l-yaml-stream}
use Rattle.yf_standard.specs.Literal.{Derived}
use Rattle.yf_standard.specs.Rules.{read}
use Rattle.yf_standard.specs.Tokens.{Token, tokens, notes_of}
use Rattle.yf_standard.specs.Readings.{stream_said, documents_said}
use Rattle.yf_standard.specs.Laws.{IsStandardStream}

-- a stream with these tokens: it is read, with at most e collections open at once, as the documents that the tokens
-- state
pub record StreamMeans (t : List ℕ) (e : ℕ) (y : List Token) : Type 0 where
  pub height : ℕ
  pub value : Documents
  pub derived : Stream t height value
  pub within : height ≤ e
  pub says : stream_said [] y ≡ documents_said value

-- Each derivation of a whole text by 211 is read as the documents and comments that its tokens state.
abbrev pub StreamTokens : Type 0
StreamTokens = (t : List ℕ) (e : ℕ) → IsUtf8 t → (d : Derived (read t) t e l-yaml-stream 0 (length t))
    → StreamMeans t e (tokens d)

-- tokens that state the documents x, and the comments of the reading r, each at its offset, the offsets of its bad
-- escapes, and the directives of its documents
pub record SaysReading (r : Lists) (x : Documents) (y : List Token) : Type 0 where
  pub documents : stream_said [] y ≡ documents_said x
  pub comments : (stream_said [] y).comments ≡ notes_of r.comments
  pub escapes : flat_map (λ d. d.escapes) (stream_said [] y).documents ≡ r.escapes
  pub directives : map (λ d. d.directives) (stream_said [] y).documents ≡ map (λ d. d.directives) r.documents

-- So the tokens of each such derivation state the reading of the text, if it has one. The reading's events and resolved
-- tags are those of its documents (`ReadingOf`).
abbrev pub ReadingsAreSaid : Type 0
ReadingsAreSaid = (t : List ℕ) (r : Lists) → IsUtf8 t → (g : ReadingOf t r) → (d : IsStandardStream t)
    → SaysReading r g.derived (tokens d)
