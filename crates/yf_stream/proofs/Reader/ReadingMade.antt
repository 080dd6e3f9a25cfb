-- If the parts that were read are those of the one stream of a text, the lists that are made of them are its reading,
-- and the first breach in them is the text's.
use Rattle.std.proofs.Common.{◌≡◌, ℕ, Bool, List, [], ◌∷◌, ◌++◌, map, flat_map, length, None, Some, sym, ap, ◌∙◌, subst}
use Rattle.std.specs.Str.{IsUtf8}
use Rattle.yf_lines.specs.FaultPlaces.{IsPlaceOf}
use Rattle.yf_lines.specs.Lines.{AreLines}
use Rattle.yf_lines.specs.declared.fault.Fault.{Fault}
use Rattle.yf_lines.specs.declared.line.Line.{Line}
use Rattle.yf_lines.proofs.LineLemmas.{lines_unique}
use Rattle.yf_lines.specs.declared.place.Position.{Position}
use Rattle.yf_comments.specs.Comment.{CommentValue}
use Rattle.yf_events.proofs.TreeLemmas.{trees_unique}
use Rattle.yf_events.specs.Event.{stream_ends, stream_starts}
use Rattle.yf_events.specs.Tree.{DocumentTree, TreesOf, leaves, unplaced}
use Rattle.yf_events.specs.declared.lists.Lists.{Lists}
use Rattle.yf_grammar.specs.Productions.ReadParts.{Noting}
use Rattle.yf_stream.specs.LeafPass.{AreInOrder, end_on_line, last_end, leaf_spans}
use Rattle.yf_stream.specs.NotedLists.{ListsOf}
use Rattle.yf_stream.specs.ReadingOf.{NotedComments, ReadingOf, leaf_lines}
use Rattle.yf_stream.specs.Stream.{Document, Documents}
use Rattle.yf_stream.specs.StreamReader.{StreamFault, TheReading, breached, fault_of}
use Rattle.yf_stream.specs.TagPass.{PassTags, stream_breaches}
use Rattle.yf_stream.specs.WellFormed.{IsFirst, Shapes, breaches}
use Rattle.yf_stream.specs.WrittenParts.{PartsOf}
use Rattle.yf_stream.specs.declared.breaches.Breach.{Breach}
use Rattle.yf_stream.specs.declared.documents.Parts.{Parts}
use Rattle.yf_stream.proofs.LeafPass.CommentLines.{stand_in_order}
use Rattle.yf_stream.proofs.LeafPass.LeafTrees.{notes_of_trees}
use Rattle.yf_stream.proofs.Offsets.DocumentPlaces.{DocumentsStand, document_is_at, no_documents_stand, stream_is_at}
use Rattle.yf_stream.proofs.LawsHold.{readings_are_the_reading}
use Rattle.yf_stream.proofs.Existence.LinesExist.{lines_exist}
use Rattle.yf_stream.proofs.TagPass.PassDocuments.{NoStarts, QuietDocuments, first_of_documents, node_no_starts, tags_of_documents}
use Rattle.yf_stream.proofs.Offsets.ReadingTrees.{trees_stand}

quiet_documents : {t : List ℕ} {i : ℕ} {ds : List Document} → DocumentsStand t i ds → QuietDocuments ds
quiet_documents (no_documents_stand l) = tt
quiet_documents (document_is_at a b) = (subst NoStarts (sym a.events) (node_no_starts a.node), quiet_documents b)

module _ {t : List ℕ} (u : IsUtf8 t) {x : Documents} (s : Shapes t x) {p : Parts} (w : PartsOf t x p) where
  quiet : QuietDocuments x.documents
  quiet = quiet_documents (stream_is_at u s.derived)

  -- the first breach in the parts is the first one of the documents
  pub first_breach : {b : Breach} → IsFirst (stream_breaches p.documents p.part.events p.part.escapes) b → IsFirst (breaches x.documents) b
  first_breach {b} f =
      first_of_documents (Some b) quiet w.written w.events
      (subst (λ z. IsFirst (stream_breaches z p.part.events (flat_map (λ (d : Document). d.escapes) x.documents)) b) w.documents
      (subst (λ z. IsFirst (stream_breaches p.documents p.part.events z) b) w.escapes f))

  -- the fault of that breach, at its position, is a `StreamFault` of the text
  pub breach_told : {b : Breach} {place : Position} {fault : Fault} → IsFirst (stream_breaches p.documents p.part.events p.part.escapes) b
      → IsPlaceOf t b.offset place → fault ≡ fault_of b.kind place → StreamFault t fault
  breach_told f at e = breached s (first_breach f) at e

  -- without a breach, the lists are the reading
  module _ {r : Lists} (n : ListsOf t p r) where
    no_breach : breaches x.documents ≡ []
    no_breach =
        first_of_documents None quiet w.written w.events
        (ap (λ z. stream_breaches z p.part.events (flat_map (λ (d : Document). d.escapes) x.documents)) (sym w.documents)
        ∙ ap (λ z. stream_breaches p.documents p.part.events z) (sym w.escapes) ∙ n.quiet)

    -- the lists with other notes which comments are on the lines of leaves
    reading_with : (notes : List Bool) → ((ls : List Line) (trees : List DocumentTree) → AreLines t ls → TreesOf r trees
        → notes ≡ leaf_lines ls (flat_map (λ d. leaves d.root) trees) r.comments) → ReadingOf t (record r { on_leaf_line = notes })
    reading_with notes noted_so =
        let tags = tags_of_documents quiet w.written w.events (subst (λ z. PassTags z [] p.part.events r.resolved) w.documents n.tags) in
        let noted = subst (λ z. Noting t 0 (unplaced stream_starts ∷ (w.derived ++ (unplaced stream_ends ∷ []))) z) (sym n.events) w.events in
        let trees = trees_stand u s.derived tags.are noted in
        let ls = lines_exist t in
        let length_is = ap length (n.documents ∙ w.documents) ∙ trees.documents in
        record {
          derived = x;
          reads = record { shapes = s; well_formed = no_breach };
          derived_events = w.derived;
          between = tags.between;
          events = tags.are;
          noted = noted;
          resolved = tags.list;
          comments = subst (λ z. NotedComments t z x.comments r.comments) (sym n.events)
              (subst (λ z. NotedComments t p.part.events x.comments z) (sym n.comments) w.comments);
          lines = ls.0;
          are_lines = ls.1;
          trees = trees.trees;
          of_reading = record { events = trees.events; documents = length_is };
          notes = noted_so ls.0 trees.trees ls.1 (record { events = trees.events; documents = length_is });
          documents = n.documents ∙ w.documents;
          escapes = n.escapes ∙ w.escapes;
        }

    -- the notes are those of the reading
    lines_noted : (ls : List Line) (trees : List DocumentTree) → AreLines t ls → TreesOf r trees → r.on_leaf_line ≡ leaf_lines ls (flat_map (λ d. leaves d.root) trees) r.comments
    lines_noted ls trees a o =
        let wanted = leaf_lines ls (flat_map (λ (d : DocumentTree). leaves d.root) trees) r.comments in
        let same_leaves : (ms : List Line) (others : List DocumentTree) → AreLines t ms → TreesOf r others
        → wanted ≡ leaf_lines ms (flat_map (λ (d : DocumentTree). leaves d.root) others) r.comments =
        λ ms others b q. ap (λ z. leaf_lines z (flat_map (λ (d : DocumentTree). leaves d.root) trees) r.comments) (lines_unique t ls ms a b)
        ∙ ap (λ z. leaf_lines ms (flat_map (λ (d : DocumentTree). leaves d.root) z) r.comments) (trees_unique r trees others o q) in
        let order = stand_in_order u (reading_with wanted same_leaves) in
        let here = subst (λ z. AreInOrder t z p.part.comments) n.events (subst (λ z. AreInOrder t r.events z) n.comments order) in
        n.notes ls a here
        ∙ ap (λ z. map (λ (c : CommentValue). end_on_line ls (last_end None c.offset (leaf_spans z)) c.offset) p.part.comments) (sym n.events)
        ∙ ap (λ z. map (λ (c : CommentValue). end_on_line ls (last_end None c.offset (leaf_spans r.events)) c.offset) z) (sym n.comments)
        ∙ notes_of_trees ls r.comments o

    pub reading_made : TheReading t r
    reading_made = readings_are_the_reading t r (reading_with r.on_leaf_line lines_noted)
