-- The escapes and directives in the parts of a stream begin between characters of the text.
use Rattle.std.specs.Prelude.{ℕ, List}
use Rattle.std.specs.List.{All}
use Rattle.std.specs.Str.{IsCharBoundary}
use Rattle.yf_stream.specs.RefusalPlaces.{DocumentsAt}
use Rattle.yf_stream.specs.declared.documents.Parts.{Parts}

pub record PartsAt (t : List ℕ) (p : Parts) : Type 0 where
  pub escapes : All (IsCharBoundary t) p.part.escapes
  pub documents : DocumentsAt t p.documents
