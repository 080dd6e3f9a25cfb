-- Events and their trees have equal leaves, and equal notes of the comments on the lines of leaves.
use Rattle.std.proofs.Common.{◌≡◌, ℕ, Bool, true, false, nat_lt, if◌then◌else◌, List, [], ◌∷◌, ◌++◌, map, flat_map, Option, Some, None, refl, sym, ap, ◌∙◌, append_assoc, append-nil, option_map}
use Rattle.yf_lines.specs.declared.line.Line.{Line}
use Rattle.yf_comments.specs.Comment.{CommentValue}
use Rattle.yf_events.specs.Event.{EventInText, document_ends, mapping_ends, sequence_ends, stream_ends}
use Rattle.yf_events.specs.Reading.{ends_next}
use Rattle.yf_events.specs.Tree.{DocumentTree, Items, Node, Pairs, TreesOf, alias, flat, flat_document, flat_items, flat_pairs, item, leaves, leaves_of_items, leaves_of_pairs, mapping, no_items, no_pairs, pair, scalar, sequence, spans_of_leaf, unplaced}
use Rattle.yf_events.specs.declared.event.Span.{Span}
use Rattle.yf_events.specs.declared.lists.Lists.{Lists}
use Rattle.yf_stream.specs.LeafPass.{end_on_line, last_end, leaf_spans, span_in}
use Rattle.yf_stream.specs.ReadingOf.{last_leaf, leaf_lines, on_line_of}

leaf_span : (o : Option Span) → span_in true o ≡ spans_of_leaf o
leaf_span None = refl
leaf_span (Some s) = refl

no_span : (o : Option Span) → span_in false o ≡ []
no_span None = refl
no_span (Some s) = refl

pub node_goes_on : (x : Node) (rest : List EventInText) → ends_next (flat x ++ rest) ≡ false
node_goes_on (scalar at props style text lines) rest = refl
node_goes_on (alias at name) rest = refl
node_goes_on (sequence at flow props items) rest = refl
node_goes_on (mapping at flow props pairs) rest = refl

-- a collection that has entries is no leaf
filled : (o : Option Span) (es : List EventInText) → ends_next es ≡ false → span_in (ends_next es) o ++ leaf_spans es ≡ leaf_spans es
filled o es e = ap (λ z. span_in z o ++ leaf_spans es) e ∙ ap (λ z. z ++ leaf_spans es) (no_span o)

mutual
  node_spans : (x : Node) (rest : List EventInText) → leaf_spans (flat x ++ rest) ≡ leaves x ++ leaf_spans rest
  node_spans (scalar at props style text lines) rest = ap (λ z. z ++ leaf_spans rest) (leaf_span at.span)
  node_spans (alias at name) rest = ap (λ z. z ++ leaf_spans rest) (leaf_span at.span)
  node_spans (sequence at flow props no_items) rest = ap (λ z. z ++ leaf_spans rest) (leaf_span at.span)
  node_spans (sequence at flow props (item x xs)) rest =
      let end = unplaced sequence_ends ∷ [] in
      let joined : ((flat x ++ flat_items xs) ++ end) ++ rest ≡ flat x ++ (flat_items xs ++ (end ++ rest)) =
      append_assoc (flat x ++ flat_items xs) end rest ∙ append_assoc (flat x) (flat_items xs) (end ++ rest) in
      ap (λ z. span_in (ends_next z) at.span ++ leaf_spans z) joined
      ∙ filled at.span (flat x ++ (flat_items xs ++ (end ++ rest))) (node_goes_on x (flat_items xs ++ (end ++ rest)))
      ∙ node_spans x (flat_items xs ++ (end ++ rest))
      ∙ ap (λ z. leaves x ++ z) (items_spans xs (end ++ rest))
      ∙ sym (append_assoc (leaves x) (leaves_of_items xs) (leaf_spans rest))
  node_spans (mapping at flow props no_pairs) rest = ap (λ z. z ++ leaf_spans rest) (leaf_span at.span)
  node_spans (mapping at flow props (pair k v ps)) rest =
      let end = unplaced mapping_ends ∷ [] in
      let joined : ((flat k ++ (flat v ++ flat_pairs ps)) ++ end) ++ rest ≡ flat k ++ (flat v ++ (flat_pairs ps ++ (end ++ rest))) =
      append_assoc (flat k ++ (flat v ++ flat_pairs ps)) end rest ∙ append_assoc (flat k) (flat v ++ flat_pairs ps) (end ++ rest)
      ∙ ap (λ z. flat k ++ z) (append_assoc (flat v) (flat_pairs ps) (end ++ rest)) in
      ap (λ z. span_in (ends_next z) at.span ++ leaf_spans z) joined
      ∙ filled at.span (flat k ++ (flat v ++ (flat_pairs ps ++ (end ++ rest)))) (node_goes_on k (flat v ++ (flat_pairs ps ++ (end ++ rest))))
      ∙ node_spans k (flat v ++ (flat_pairs ps ++ (end ++ rest)))
      ∙ ap (λ z. leaves k ++ z) (node_spans v (flat_pairs ps ++ (end ++ rest)) ∙ ap (λ z. leaves v ++ z) (pairs_spans ps (end ++ rest)))
      ∙ ap (λ z. leaves k ++ z) (sym (append_assoc (leaves v) (leaves_of_pairs ps) (leaf_spans rest)))
      ∙ sym (append_assoc (leaves k) (leaves v ++ leaves_of_pairs ps) (leaf_spans rest))

  items_spans : (xs : Items) (rest : List EventInText) → leaf_spans (flat_items xs ++ rest) ≡ leaves_of_items xs ++ leaf_spans rest
  items_spans no_items rest = refl
  items_spans (item x xs) rest =
      ap leaf_spans (append_assoc (flat x) (flat_items xs) rest) ∙ node_spans x (flat_items xs ++ rest) ∙ ap (λ z. leaves x ++ z) (items_spans xs rest)
      ∙ sym (append_assoc (leaves x) (leaves_of_items xs) (leaf_spans rest))

  pairs_spans : (ps : Pairs) (rest : List EventInText) → leaf_spans (flat_pairs ps ++ rest) ≡ leaves_of_pairs ps ++ leaf_spans rest
  pairs_spans no_pairs rest = refl
  pairs_spans (pair k v ps) rest =
      ap leaf_spans (append_assoc (flat k) (flat v ++ flat_pairs ps) rest ∙ ap (λ z. flat k ++ z) (append_assoc (flat v) (flat_pairs ps) rest))
      ∙ node_spans k (flat v ++ (flat_pairs ps ++ rest))
      ∙ ap (λ z. leaves k ++ z) (node_spans v (flat_pairs ps ++ rest) ∙ ap (λ z. leaves v ++ z) (pairs_spans ps rest))
      ∙ ap (λ z. leaves k ++ z) (sym (append_assoc (leaves v) (leaves_of_pairs ps) (leaf_spans rest)))
      ∙ sym (append_assoc (leaves k) (leaves v ++ leaves_of_pairs ps) (leaf_spans rest))

documents_spans : (ds : List DocumentTree) (rest : List EventInText) → leaf_spans (flat_map flat_document ds ++ rest) ≡ flat_map (λ (d : DocumentTree). leaves d.root) ds ++ leaf_spans rest
documents_spans [] rest = refl
documents_spans (d ∷ ds) rest =
    let end = unplaced (document_ends d.closed) ∷ [] in
    let more = flat_map flat_document ds ++ rest in
    let all = flat_map (λ (d : DocumentTree). leaves d.root) ds in
    ap leaf_spans (append_assoc (flat_document d) (flat_map flat_document ds) rest)
    ∙ ap leaf_spans (append_assoc (flat d.root) end more)
    ∙ node_spans d.root (end ++ more)
    ∙ ap (λ z. leaves d.root ++ z) (documents_spans ds rest)
    ∙ sym (append_assoc (leaves d.root) all (leaf_spans rest))

pub trees_spans : {r : Lists} {trees : List DocumentTree} → TreesOf r trees → leaf_spans r.events ≡ flat_map (λ (d : DocumentTree). leaves d.root) trees
trees_spans {trees = trees} o =
    ap leaf_spans o.events ∙ documents_spans trees (unplaced stream_ends ∷ []) ∙ append-nil (flat_map (λ (d : DocumentTree). leaves d.root) trees)

-- the end of the last leaf
end_of_last : (found : Option Span) (o : ℕ) (ss : List Span) → last_end (option_map (λ (s : Span). s.end) found) o ss ≡ option_map (λ (s : Span). s.end) (last_leaf found o ss)
end_of_last found o [] = refl
end_of_last found o (s ∷ ss) = go (nat_lt s.start o) (end_of_last (Some s) o ss) (end_of_last found o ss) where
  go : (b : Bool) → last_end (Some s.end) o ss ≡ option_map (λ (s : Span). s.end) (last_leaf (Some s) o ss)
      → last_end (option_map (λ (s : Span). s.end) found) o ss ≡ option_map (λ (s : Span). s.end) (last_leaf found o ss) → last_end (if b then Some s.end else option_map (λ (s : Span). s.end) found) o ss ≡ option_map (λ (s : Span). s.end) (last_leaf (if b then Some s else found) o ss)
  go true p q = p
  go false p q = q

by_end : (ls : List Line) (leaf : Option Span) (o : ℕ) → end_on_line ls (option_map (λ (s : Span). s.end) leaf) o ≡ on_line_of ls leaf o
by_end ls None o = refl
by_end ls (Some s) o = refl

map_same : {A B : Type 0} (f g : A → B) (xs : List A) → ((x : A) → f x ≡ g x) → map f xs ≡ map g xs
map_same f g [] e = refl
map_same f g (x ∷ xs) e = ap (λ z. z ∷ map f xs) (e x) ∙ ap (λ z. g x ∷ z) (map_same f g xs e)

pub notes_of_trees : {r : Lists} {trees : List DocumentTree} (ls : List Line) (cs : List CommentValue) → TreesOf r trees
    → map (λ (c : CommentValue). end_on_line ls (last_end None c.offset (leaf_spans r.events)) c.offset) cs
    ≡ leaf_lines ls (flat_map (λ (d : DocumentTree). leaves d.root) trees) cs
notes_of_trees {r} {trees} ls cs o =
    let ss = flat_map (λ (d : DocumentTree). leaves d.root) trees in
    map_same (λ (c : CommentValue). end_on_line ls (last_end None c.offset (leaf_spans r.events)) c.offset)
    (λ (c : CommentValue). on_line_of ls (last_leaf None c.offset ss) c.offset) cs
    (λ c. ap (λ z. end_on_line ls (last_end None c.offset z) c.offset) (trees_spans o) ∙ ap (λ z. end_on_line ls z c.offset) (end_of_last None c.offset ss)
    ∙ by_end ls (last_leaf None c.offset ss) c.offset)
