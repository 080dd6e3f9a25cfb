-- The offset of a refusal that is no breach is between characters of the text.
use Rattle.std.specs.Prelude.{ℕ, List}
use Rattle.std.specs.List.{All}
use Rattle.std.specs.Str.{IsCharBoundary}
use Rattle.yf_events.specs.declared.directive.Directive.{Directive}
use Rattle.yf_events.specs.declared.document.Doc.{Doc}
use Rattle.yf_stream.specs.declared.stream.Refusal.{Refusal}
use Rattle.yf_stream.specs.declared.stream.Refusal.TheVariants as Refusals

-- each directive begins between characters; likewise for all documents
abbrev pub DirectivesAt : List ℕ → List Directive → Type 0
DirectivesAt t ds = All (λ (d : Directive). IsCharBoundary t d.offset) ds

abbrev pub DocumentsAt : List ℕ → List Doc → Type 0
DocumentsAt t ds = All (λ (d : Doc). DirectivesAt t d.directives) ds

-- the offset of a refusal
abbrev pub offset_of : Refusal → ℕ
offset_of (Refusals.Syntax offset) = offset
offset_of (Refusals.TooDeep offset) = offset
offset_of (Refusals.Breach breach) = breach.offset

-- the offset of a refusal for the syntax or the depth is between characters
abbrev pub RefusalAt : List ℕ → Refusal → Type 0
RefusalAt t (Refusals.Syntax offset) = IsCharBoundary t offset
RefusalAt t (Refusals.TooDeep offset) = IsCharBoundary t offset
RefusalAt t (Refusals.Breach breach) = Unit {0}
