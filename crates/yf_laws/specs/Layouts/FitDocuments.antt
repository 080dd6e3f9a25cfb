-- Documents whose rows can be read again, and the meaning of a stream of them.
use Rattle.std.specs.Prelude.{◌≡◌, ℕ, ◌+◌, max, Bool, true, false, not, is_some, ◌==◌, ◌||◌, List, [], ◌∷◌, ◌++◌, map, length, slice_range}
use Rattle.std.specs.Str.{IsUtf8}
use Rattle.yf_chars.specs.Chain.{One}
use Rattle.yf_chars.specs.Class.{is_ns_char}
use Rattle.yf_lines.specs.LineText.{IsLineText, Follows}
use Rattle.yf_lines.specs.Rest.{Rest}
use Rattle.yf_props.specs.Names.{Run}
use Rattle.yf_events.specs.Alike.{Alike}
use Rattle.yf_events.specs.declared.directive.Directive.{Directive}
use Rattle.yf_events.specs.declared.document.Doc.{Doc}
use Rattle.yf_events.specs.Tree.{Node, DocumentTree, flat, standing}
use Rattle.yf_grammar.specs.Productions.TreesOfMeaning.{Anywhere, tall}
use Rattle.yf_stream.specs.Stream.{Document, Parameters}
use Rattle.yf_forms.specs.declared.style.Style.{Style}
use Rattle.yf_laws.specs.Layouts.ReadableTrees.{Fit}
use Rattle.yf_print.specs.Layouts.Rows.{joined_words}

-- a space or a break
abbrev pub is_apart : ℕ → Bool
is_apart c = (c == 32) || (c == 10)

-- a directive in a text, from q up to l
pub record DirectiveAt (t : List ℕ) (q l : ℕ) (words : List (List ℕ)) : Type 0 where
  pub middle : ℕ
  pub others : List (List ℕ)
  pub name : Run (One t is_ns_char) (q + 1) middle
  pub parameters : Parameters t (slice_range t (q + 1) middle) middle l others
  pub are : slice_range t (q + 1) middle ∷ others ≡ words

-- a directive that is written with one space between its words reads back at any offset
pub record FitDirective (words : List (List ℕ)) : Type 0 where
  pub line : IsLineText (joined_words words)
  pub made : {t : List ℕ} (q : ℕ) (r : List ℕ) → IsUtf8 t → Follows is_apart r → Rest t q (37 ∷ (joined_words words ++ r))
      → DirectiveAt t q (q + length (37 ∷ joined_words words)) words

pub data FitDirectives : List Directive → Type 0 where
  fit_no_directives : FitDirectives []
  fit_directive : {d : Directive} {ds : List Directive} → FitDirective d.words → FitDirectives ds → FitDirectives (d ∷ ds)

-- as many documents as trees, which read back if they are laid out in that style
pub data FitDocuments (s : Style) : List Doc → List DocumentTree → Type 0 where
  fit_no_documents : FitDocuments s [] []
  fit_document : {d : Doc} {ds : List Doc} {x : DocumentTree} {xs : List DocumentTree} → FitDirectives d.directives → Fit s x.root → FitDocuments s ds xs
      → FitDocuments s (d ∷ ds) (x ∷ xs)

-- the `---` may be left out before the first document, if the flag says so: the document has no directives, and its
-- root has characters
pub data FitsBare : Bool → List Doc → List DocumentTree → Type 0 where
  fits_marked : {ds : List Doc} {xs : List DocumentTree} → FitsBare false ds xs
  fits_bare : {d : Doc} {ds : List Doc} {x : DocumentTree} {xs : List DocumentTree} → d.directives ≡ [] → is_some (standing x.root).span ≡ true → FitsBare true (d ∷ ds) (x ∷ xs)

-- A document with those directives that means the tree, with a `---` if the flag says so.
pub record DocumentMeant (mark : Bool) (d : Doc) (x : DocumentTree) (m : Document) : Type 0 where
  pub marked : m.marked ≡ mark
  pub words : map (λ (e : Directive). e.words) m.directives ≡ map (λ (e : Directive). e.words) d.directives
  pub node : Node
  pub alike : Alike Anywhere x.root node
  pub events : m.events ≡ flat node
  pub escapes : m.escapes ≡ []

-- each with a `---`, except for the first one if the flag says so
pub data DocumentsMeant : Bool → List Doc → List DocumentTree → List Document → Type 0 where
  no_documents_meant : {bare : Bool} → DocumentsMeant bare [] [] []
  document_meant : {bare : Bool} {d : Doc} {ds : List Doc} {x : DocumentTree} {xs : List DocumentTree} {m : Document} {ms : List Document} → DocumentMeant (not bare) d x m → DocumentsMeant false ds xs ms
      → DocumentsMeant bare (d ∷ ds) (x ∷ xs) (m ∷ ms)

-- the number of collections that are open at once in these documents
abbrev pub tall_documents : List DocumentTree → ℕ
tall_documents [] = 0
tall_documents (x ∷ xs) = max (tall x.root) (tall_documents xs)
