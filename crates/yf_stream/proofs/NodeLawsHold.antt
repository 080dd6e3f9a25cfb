-- The laws of the offsets of a reading's nodes hold.
use Rattle.std.proofs.Common.{◌≡◌, ℕ, List, flat_map, Some, refl, sym, subst}
use Rattle.yf_events.specs.Event.{document_starts, document_ends, stream_starts, stream_ends}
use Rattle.yf_events.proofs.TreeLemmas.{trees_unique}
use Rattle.yf_events.specs.Tree.{DocumentTree, items_in, flat_document, flat_stream}
use Rattle.yf_events.specs.declared.document.Doc.{Doc}
use Rattle.yf_events.specs.declared.event.Span.{Span}
use Rattle.yf_events.specs.declared.lists.Lists.{Lists}
use Rattle.yf_grammar.proofs.NodesInText.EventsStand.{EventsStand, no_events_stand, event_is_at, events_all, events_join, node_events, unplaced_is_at}
use Rattle.yf_grammar.proofs.NodesInText.ItemsVisible.{AllVisible, none_visible, node_visible, visible_at, visible_join}
use Rattle.yf_stream.specs.Stream.{Document}
use Rattle.yf_stream.proofs.NodeLaws.{IsVisibleAt, ItemsOfReadingsBeginVisibly, NodesOfReadingsBeginVisibly}
use Rattle.yf_stream.proofs.Offsets.ReadingTrees.{ReadingIsAt, TreesStand, no_trees_stand, tree_is_at, reading_is_at}

module _ {t : List ℕ} where
  trees_events : {i : ℕ} {ds : List Doc} {trees : List DocumentTree} → TreesStand t i ds trees → EventsStand t (flat_map flat_document trees)
  trees_events (no_trees_stand l) = no_events_stand
  trees_events (tree_is_at {tree = tree} d a b z) =
      events_join (event_is_at (unplaced_is_at (document_starts tree.marked) refl)
      (events_join (node_events a) (event_is_at (unplaced_is_at (document_ends tree.closed) refl) no_events_stand))) (trees_events b)

  -- for a reading
  pub reading_events : {ds : List Document} {r : Lists} → ReadingIsAt t ds r → EventsStand t r.events
  reading_events {r = r} a =
      let all : EventsStand t (flat_stream a.trees) =
      event_is_at (unplaced_is_at stream_starts refl) (events_join (trees_events a.stand) (event_is_at (unplaced_is_at stream_ends refl) no_events_stand)) in
      subst (λ z. EventsStand t z) (sym a.of_reading.events) all

  items_visible_in : {i : ℕ} {ds : List Doc} {trees : List DocumentTree} → TreesStand t i ds trees
      → AllVisible t (flat_map (λ (d : DocumentTree). items_in d.root) trees)
  items_visible_in (no_trees_stand l) = none_visible
  items_visible_in (tree_is_at d a b z) = visible_join (node_visible a) (items_visible_in b)

pub nodes_of_readings_begin_visibly : NodesOfReadingsBeginVisibly
nodes_of_readings_begin_visibly t r u a =
    events_all {P = λ e. (s : Span) → e.span ≡ Some s → IsVisibleAt t s.start} r.events (reading_events (reading_is_at u a))
    (λ e h s q. let v = h.visible s q in record { visible = v.ns; no_hash = v.no_hash })

pub items_of_readings_begin_visibly : ItemsOfReadingsBeginVisibly
items_of_readings_begin_visibly t r trees u a of_reading =
    let w = reading_is_at u a in
    let same : w.trees ≡ trees = trees_unique r w.trees trees w.of_reading of_reading in
    let all : AllVisible t (flat_map (λ (d : DocumentTree). items_in d.root) trees) =
    subst (λ z. AllVisible t (flat_map (λ (d : DocumentTree). items_in d.root) z)) same (items_visible_in w.stand) in
    λ k d l. let v = visible_at (flat_map (λ (d : DocumentTree). items_in d.root) trees) all k d l in record { visible = v.ns; no_hash = v.no_hash }
