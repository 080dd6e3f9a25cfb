-- The pieces of a reading have tabs only in its plain and single-quoted scalars.
use Rattle.std.proofs.Common.{◌≡◌, ℕ, false, List, [], ◌∷◌, flat_map, refl, sym, subst}
use Rattle.std.specs.Str.{IsUtf8}
use Rattle.yf_events.specs.Event.{EventInText, document_ends, stream_ends}
use Rattle.yf_events.specs.Tree.{DocumentTree, flat, flat_document, flat_stream, unplaced}
use Rattle.yf_events.specs.declared.lists.Lists.{Lists}
use Rattle.yf_stream.specs.ReadingOf.{ReadingOf}
use Rattle.yf_stream.specs.Stream.{Document}
use Rattle.yf_stream.proofs.Offsets.ReadingTrees.{TreesMeant, no_trees_meant, tree_meant, reading_is_at}
use Rattle.yf_stream.proofs.Uniqueness.StreamDocuments.{DocumentsDerived, no_documents_derived, document_derived, stream_derived}
use Rattle.yf_forms.specs.declared.style.Style.{Style}
use Rattle.yf_laws.proofs.Writable.ReadTrees.{ReadNode}
use Rattle.yf_laws.proofs.Tabs.PiecesRead.{AreTokens, PiecesTabless, ended, left_tokens, node_read, none_text, pieces_joined, right_tokens}
use Rattle.yf_laws.proofs.Writable.TreesRead.{document_read, read_alike, same_node}

module _ {t : List ℕ} (u : IsUtf8 t) (Token : List ℕ → Type 0) (house : Style) where
  documents_read : {h : ℕ} {ds : List Document} {trees : List DocumentTree} → DocumentsDerived t h ds → TreesMeant ds trees → AreTokens Token house (flat_map flat_document trees) → PiecesTabless Token house (flat_map flat_document trees)
  documents_read no_documents_derived no_trees_meant h = λ w a. none_text a
  documents_read (document_derived a l more) (tree_meant {tree = tree} {trees = trees} e b others) h =
      let d = document_read u a in
      let read : ReadNode false tree.root = read_alike b (subst (λ x. ReadNode false x) (same_node d.events e) d.read) in
      let end : List EventInText = unplaced (document_ends tree.closed) ∷ [] in
      pieces_joined Token house (flat_document tree) (flat_map flat_document trees)
      (ended Token house (flat tree.root) (document_ends tree.closed) refl (node_read Token house read (left_tokens Token house (flat tree.root) end (left_tokens Token house (flat_document tree) (flat_map flat_document trees) h))))
      (documents_read more others (right_tokens Token house (flat_document tree) (flat_map flat_document trees) h))

  pub reading_pieces : {q : Lists} → ReadingOf t q → AreTokens Token house q.events → PiecesTabless Token house q.events
  reading_pieces {q} a h =
      let w = reading_is_at u a in
      let events : q.events ≡ flat_stream w.trees = w.of_reading.events in
      let held : AreTokens Token house (flat_stream w.trees) = subst (λ es. AreTokens Token house es) events h in
      subst (λ es. PiecesTabless Token house es) (sym events)
      (ended Token house (flat_map flat_document w.trees) stream_ends refl
      (documents_read (stream_derived a.reads.shapes.derived) w.meant (left_tokens Token house (flat_map flat_document w.trees) (unplaced stream_ends ∷ []) held)))
