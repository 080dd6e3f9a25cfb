-- The documents of a stream that are found on their laid-out rows.
use Rattle.std.proofs.Common.{◌≡◌, ℕ, ◌+◌, Bool, true, false, List, [], ◌∷◌, ◌++◌, length, map, refl, sym, subst, arith, append-nil}
use Rattle.yf_comments.specs.Comment.{CommentValue}
use Rattle.yf_events.specs.Alike.{Alike}
use Rattle.yf_events.specs.declared.directive.Directive.{Directive}
use Rattle.yf_events.specs.Tree.{Node, DocumentTree, flat}
use Rattle.yf_grammar.specs.Productions.Meaning.{Meaning}
use Rattle.yf_grammar.specs.Productions.TreesOfMeaning.{Anywhere}
use Rattle.yf_stream.specs.Stream.{Document, document_of, Documents, with_document, with_comments, only_comments}
use Rattle.yf_forms.specs.NormalForms.Normal.{LayoutSetting, root_margins}
use Rattle.yf_laws.specs.Layouts.Decorated.{Deco, past, lines_then}
use Rattle.yf_print.specs.Layouts.Rows.{Row, directive_row, start_row, end_rows, beginning_at}
use Rattle.yf_laws.proofs.Derived.EntriesMade.{Begins, begins, append_begins, rows_in_more}
use Rattle.yf_laws.proofs.RowNodes.FoundNodes.{FoundNode, NodeRows}
use Rattle.yf_laws.proofs.RowNodes.HeadRows.{HeadRows, heads_before}
use Rattle.yf_laws.proofs.RowNodes.PlacedRows.{PlacedRow, RowsIn}

-- a document: the rows before its node, and those of its node
pub record FoundDocument (t : List ℕ) (s : LayoutSetting) (is_first : Bool) (x : DocumentTree) (m : Document) (ps : List PlacedRow) : Type 0 where
  pub node : Node
  pub alike : Alike Anywhere x.root node
  pub events : m.events ≡ flat node
  pub heads : List PlacedRow
  pub head : HeadRows m.start (heads_before is_first m.directives) heads
  pub inner : List PlacedRow
  pub are : ps ≡ heads ++ inner
  pub rows : NodeRows t s (root_margins s.style) x.root node inner

pub data FoundDocuments (t : List ℕ) (s : LayoutSetting) : Bool → List DocumentTree → List Document → List PlacedRow → Type 0 where
  no_documents_found : {is_first : Bool} → FoundDocuments t s is_first [] [] []
  document_found : {is_first : Bool} {x : DocumentTree} {xs : List DocumentTree} {m : Document} {ms : List Document} {ps qs : List PlacedRow} → FoundDocument t s is_first x m ps → FoundDocuments t s false xs ms qs
      → FoundDocuments t s is_first (x ∷ xs) (m ∷ ms) (ps ++ qs)

-- a document without a `---` begins on the first row of its node
abbrev pub begun_placed : ℕ → List PlacedRow → List PlacedRow
begun_placed start [] = []
begun_placed start (p ∷ ps) = record p { items = start ∷ p.items } ∷ ps

pub record FoundBare (t : List ℕ) (s : LayoutSetting) (x : DocumentTree) (m : Document) (ps : List PlacedRow) : Type 0 where
  pub node : Node
  pub alike : Alike Anywhere x.root node
  pub events : m.events ≡ flat node
  pub inner : List PlacedRow
  pub are : ps ≡ begun_placed m.start inner
  pub rows : NodeRows t s (root_margins s.style) x.root node inner

-- all documents; the flag says whether the first one has no `---`
pub data AllFound (t : List ℕ) (s : LayoutSetting) : Bool → List DocumentTree → List Document → List PlacedRow → Type 0 where
  all_marked : {xs : List DocumentTree} {ms : List Document} {ps : List PlacedRow} → FoundDocuments t s true xs ms ps → AllFound t s false xs ms ps
  bare_first : {x : DocumentTree} {xs : List DocumentTree} {m : Document} {ms : List Document} {ps qs : List PlacedRow} → FoundBare t s x m ps → FoundDocuments t s false xs ms qs
      → AllFound t s true (x ∷ xs) (m ∷ ms) (ps ++ qs)

pub found_document : {t : List ℕ} {s : LayoutSetting} {x : DocumentTree} {m : Meaning} {ps inner : List PlacedRow} (is_first : Bool) (i : ℕ) (dirs : List Directive) (heads : List PlacedRow) → HeadRows i (heads_before is_first dirs) heads
    → FoundNode t s (root_margins s.style) x.root m inner → ps ≡ heads ++ inner → FoundDocument t s is_first x (document_of i true dirs m) ps
unfolding document_of
found_document {inner = inner} is_first i dirs heads h a e = record { node = a.node; alike = a.alike; events = a.events; heads = heads; head = h; inner = inner; are = e; rows = a.rows }

-- rows from a line on, up to the end of the text
pub data StreamIn (t : List ℕ) : List Row → List PlacedRow → List Deco → ℕ → List CommentValue → Type 0 where
  no_stream : {ds : List Deco} {i : ℕ} → StreamIn t [] [] ds i []
  stream_in : {rs : List Row} {ps : List PlacedRow} {ds : List Deco} {i : ℕ} {cs : List CommentValue} → Begins 0 rs → RowsIn t rs ps ds i cs (length t) [] → StreamIn t rs ps ds i cs

pub document_begins : (is_first : Bool) (start : ℕ) (dirs : List Directive) (tree : List Row) → Begins 0 (beginning_at start (end_rows is_first dirs ++ (map directive_row dirs ++ (start_row ∷ []))) ++ tree)
document_begins true start [] tree = begins refl
document_begins true start (d ∷ dirs) tree = begins refl
document_begins false start [] tree = begins refl
document_begins false start (d ∷ dirs) tree = begins refl

pub stream_more : {t : List ℕ} {hs ls : List Row} {ps qs : List PlacedRow} {ds : List Deco} {i k : ℕ} {cs es : List CommentValue} → Begins 0 hs → RowsIn t hs ps ds i cs k (lines_then ls (past hs ds) [])
    → (ls ≡ [] → k ≡ length t) → StreamIn t ls qs (past hs ds) k es → StreamIn t (hs ++ ls) (ps ++ qs) ds i (cs ++ es)
stream_more {t} {hs} {ls} {ps} {qs} {ds} {i} {k} {cs} {es} b a end more = by ls qs es refl a end more where
  by : (ls : List Row) (qs : List PlacedRow) (es : List CommentValue) {d : List Deco} → d ≡ past hs ds → RowsIn t hs ps ds i cs k (lines_then ls d []) → (ls ≡ [] → k ≡ length t) → StreamIn t ls qs d k es
      → StreamIn t (hs ++ ls) (ps ++ qs) ds i (cs ++ es)
  by [] [] [] e a end no_stream =
      subst (λ z. StreamIn t z (ps ++ []) ds i (cs ++ [])) (sym (append-nil hs)) (subst (λ z. StreamIn t hs z ds i (cs ++ [])) (sym (append-nil ps))
      (subst (λ z. StreamIn t hs ps ds i z) (sym (append-nil cs)) (stream_in b (subst (λ z. RowsIn t hs ps ds i cs z []) (end refl) a))))
  by ls qs es {d} e a end (stream_in c more) =
      let same : k ≡ k + 0 = omega arith in
      stream_in (append_begins ls b) (rows_in_more c (subst (λ d. RowsIn t hs ps ds i cs k (lines_then ls d [])) e a)
      (subst (λ d. RowsIn t ls qs d (k + 0) es (length t) []) e (subst (λ z. RowsIn t ls qs d z es (length t) []) same more)))

pub comments_with_document : (cs : List CommentValue) (d : Document) (rest : Documents) → (with_document cs d rest).comments ≡ cs ++ rest.comments
unfolding with_document
comments_with_document cs d rest = refl

pub comments_with_comments : (cs : List CommentValue) → (with_comments cs (only_comments [])).comments ≡ cs ++ []
unfolding with_comments
comments_with_comments cs = refl

pub documents_with_comments : (cs : List CommentValue) → (with_comments cs (only_comments [])).documents ≡ []
unfolding with_comments
documents_with_comments cs = refl

pub all_found_with : {t : List ℕ} {s : LayoutSetting} {bare : Bool} {x : DocumentTree} {xs : List DocumentTree} {m : Document} (ps qs : List PlacedRow) (cs : List CommentValue) (rest : Documents)
    → ((ms : List Document) → FoundDocuments t s false xs ms qs → AllFound t s bare (x ∷ xs) (m ∷ ms) (ps ++ qs)) → FoundDocuments t s false xs rest.documents qs
    → AllFound t s bare (x ∷ xs) (with_document cs m rest).documents (ps ++ qs)
unfolding with_document
all_found_with ps qs cs rest f b = f rest.documents b

pub found_with : {t : List ℕ} {s : LayoutSetting} {is_first : Bool} {x : DocumentTree} {xs : List DocumentTree} {m : Document} {ps qs : List PlacedRow} (cs : List CommentValue) (rest : Documents) → FoundDocument t s is_first x m ps
    → FoundDocuments t s false xs rest.documents qs → FoundDocuments t s is_first (x ∷ xs) (with_document cs m rest).documents (ps ++ qs)
unfolding with_document
found_with cs rest a b = document_found a b
