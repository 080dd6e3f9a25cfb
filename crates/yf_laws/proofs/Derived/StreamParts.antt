-- Documents of a stream, with their leaves and comments in order.
use Rattle.std.proofs.Common.{◌≡◌, ℕ, ◌≤◌, Bool, true, List, [], ◌∷◌, ◌++◌, map, Option, refl, sym, ap, ◌∙◌, append_assoc, false}
use Rattle.yf_chars.specs.Chain.{Chain}
use Rattle.yf_chars.specs.Chain.Chain.{done, step}
use Rattle.yf_comments.specs.Comment.{CommentValue}
use Rattle.yf_comments.specs.Comments.{CommentLine}
use Rattle.yf_comments.proofs.GapLinesLemmas.{texts, texts_append}
use Rattle.yf_events.specs.Event.{EventInText, document_ends}
use Rattle.yf_events.specs.Reading.{leaf_starts}
use Rattle.yf_events.specs.declared.directive.Directive.{Directive}
use Rattle.yf_events.specs.declared.document.Doc.{Doc}
use Rattle.yf_events.specs.Tree.{DocumentTree, unplaced}
use Rattle.yf_grammar.specs.Productions.Meaning.{Meaning}
use Rattle.yf_grammar.specs.Productions.TreesOfMeaning.{MeansTrees}
use Rattle.yf_stream.specs.ReadingOf.{DocumentEvents, no_document, one_document}
use Rattle.yf_stream.specs.Stream.{Document, document_of, Documents, only_comments, with_document, with_comments, Prefixes}
use Rattle.yf_stream.specs.Stream.PrefixPart.{prefix_comment}
use Rattle.yf_laws.specs.Layouts.FitDocuments.{DocumentMeant, DocumentsMeant, document_meant}
use Rattle.yf_print.specs.Layouts.Rows.{Row, directive_row, start_row, end_rows, beginning_at}
use Rattle.yf_laws.proofs.Derived.LayoutSteps.{Step}
use Rattle.yf_laws.proofs.Derived.StepsInText.{Stand, nothing_is_at, stand_join, MeaningLaid, EventsLaid}
use Rattle.std.specs.Prelude.{not}

-- Meanings.

pub meant_document : {d : Doc} {x : DocumentTree} {m : Meaning} (i : ℕ) (dirs : List Directive) → map (λ (e : Directive). e.words) dirs ≡ map (λ (e : Directive). e.words) d.directives
    → MeansTrees x.root m → DocumentMeant true d x (document_of i true dirs m)
unfolding document_of
meant_document i dirs e a = record { marked = refl; words = e; node = a.node; alike = a.alike; events = a.events; escapes = a.escapes }

pub meant_bare : {d : Doc} {x : DocumentTree} {m : Meaning} (i : ℕ) → d.directives ≡ [] → MeansTrees x.root m → DocumentMeant false d x (document_of i false [] m)
unfolding document_of
meant_bare i e a =
    record { marked = refl; words = ap (λ (ds : List Directive). map (λ (w : Directive). w.words) ds) (sym e); node = a.node; alike = a.alike; events = a.events; escapes = a.escapes }

pub texts_with_document : (cs : List CommentValue) (d : Document) (rest : Documents) → texts (with_document cs d rest).comments ≡ texts cs ++ texts rest.comments
unfolding with_document
texts_with_document cs d rest = texts_append cs rest.comments

pub documents_with : {bare : Bool} {d : Doc} {ds : List Doc} {x : DocumentTree} {xs : List DocumentTree} {m : Document} (rest : Documents) (cs : List CommentValue) → DocumentMeant (not bare) d x m → DocumentsMeant false ds xs rest.documents
    → DocumentsMeant bare (d ∷ ds) (x ∷ xs) (with_document cs m rest).documents
unfolding with_document
documents_with rest cs a b = document_meant a b

pub texts_with_comments : (cs : List CommentValue) (rest : Documents) → texts (with_comments cs rest).comments ≡ texts cs ++ texts rest.comments
unfolding with_comments
texts_with_comments cs rest = texts_append cs rest.comments

pub same_documents : (cs : List CommentValue) (rest : Documents) → rest.documents ≡ (with_comments cs rest).documents
unfolding with_comments
same_documents cs rest = refl

-- Layouts.

pub laid_document : {i j : ℕ} {m : Meaning} {a : List Step} (s : ℕ) (dirs : List Directive) → MeaningLaid i j m a → EventsLaid i j (document_of s true dirs m).events m.comments a
unfolding document_of
laid_document s dirs x = record { starts = x.starts; are = x.are; stand = x.stand }

pub laid_bare : {i j : ℕ} {m : Meaning} {a : List Step} (s : ℕ) → MeaningLaid i j m a → EventsLaid i j (document_of s false [] m).events m.comments a
unfolding document_of
laid_bare s x = record { starts = x.starts; are = x.are; stand = x.stand }

-- documents with the events of a reading
pub record DocumentsLaid (i j : ℕ) (x : Documents) (steps : List Step) : Type 0 where
  pub starts : List ℕ
  pub are : {u : List ℕ} {es : List EventInText} {tags : List (Option (List ℕ))} (rest : List EventInText) → DocumentEvents u x.documents es tags → leaf_starts (es ++ rest) ≡ starts ++ leaf_starts rest
  pub stand : Stand i starts x.comments steps j

no_starts : {u : List ℕ} {es : List EventInText} {tags : List (Option (List ℕ))} (rest : List EventInText) → DocumentEvents u [] es tags → leaf_starts (es ++ rest) ≡ leaf_starts rest
no_starts rest no_document = refl

pub no_documents_laid : {i j : ℕ} → i ≤ j → DocumentsLaid i j (only_comments []) []
no_documents_laid l = record { starts = []; are = λ rest d. no_starts rest d; stand = nothing_is_at l }

pub laid_with_comments : {i k j : ℕ} {x : Documents} {a b : List Step} (cs : List CommentValue) → Stand i [] cs a k → DocumentsLaid k j x b → DocumentsLaid i j (with_comments cs x) (a ++ b)
unfolding with_comments
laid_with_comments cs c x = record { starts = x.starts; are = x.are; stand = stand_join c x.stand }

-- the events of one more document
more_starts : {u : List ℕ} {d : Document} {ds : List Document} {es : List EventInText} {tags : List (Option (List ℕ))} (xs ys : List ℕ) (rest : List EventInText)
    → ((more : List EventInText) → leaf_starts (d.events ++ more) ≡ xs ++ leaf_starts more)
    → ((fs : List EventInText) (others : List (Option (List ℕ))) → DocumentEvents u ds fs others → leaf_starts (fs ++ rest) ≡ ys ++ leaf_starts rest) → DocumentEvents u (d ∷ ds) es tags
    → leaf_starts (es ++ rest) ≡ (xs ++ ys) ++ leaf_starts rest
more_starts xs ys rest f g (one_document {d = d} {x = x} {closed = closed} tags end marked others) =
    let last : EventInText = unplaced (document_ends closed) in
    ap leaf_starts (append_assoc d.events (last ∷ x) rest) ∙ (f (last ∷ (x ++ rest)) ∙ (ap (λ z. xs ++ z) (g _ _ others) ∙ sym (append_assoc xs ys (leaf_starts rest))))

pub documents_laid : {i k j : ℕ} (d : Document) {cs : List CommentValue} {rest : Documents} {a b : List Step} → EventsLaid i k d.events cs a → DocumentsLaid k j rest b
    → DocumentsLaid i j (with_document cs d rest) (a ++ b)
unfolding with_document
documents_laid d x y = record { starts = x.starts ++ y.starts; are = λ rest e. more_starts x.starts y.starts rest x.are (λ fs others z. y.are rest z) e; stand = stand_join x.stand y.stand }

-- The end of a stream, and the prefix of its documents.

pub prefixes_of : {t : List ℕ} {i j : ℕ} {cs : List CommentValue} → Chain (CommentLine t) i j cs → Prefixes t i j cs
prefixes_of done = done
prefixes_of (step a more) = step (prefix_comment a) (prefixes_of more)

-- the rows of a document, by its directives
abbrev pub head_rows : Bool → ℕ → List Directive → List Row
head_rows is_first start dirs = beginning_at start (end_rows is_first dirs ++ (map directive_row dirs ++ (start_row ∷ [])))

pub beside_tree : (row : Row) (es : List Directive) (tree : List Row) → ((row ∷ map directive_row es) ++ (start_row ∷ [])) ++ tree ≡ (row ∷ map directive_row es) ++ (start_row ∷ tree)
beside_tree row es tree = append_assoc (row ∷ map directive_row es) (start_row ∷ []) tree
