-- The leaves that the pass over the events of trees finds are the leaves of the trees, and each has its mark.
use Rattle.std.proofs.Common.{◌≡◌, ℕ, ◌+◌, ◌<◌, Bool, true, false, ◌&&◌, List, [], ◌∷◌, ◌++◌, length, flat_map, Option, Some, None, refl, sym, ap, ◌∙◌, arith, append-nil}
use Rattle.std.specs.Prelude.{is_some, if◌then◌else◌}
use Rattle.std.proofs.lemmas.Bool.{and_parts}
use Rattle.std.proofs.lemmas.List.{length-append, map-append}
use Rattle.yf_events.specs.Event.{EventInText, sequence_starts, sequence_ends, mapping_starts, mapping_ends, scalar_node, alias_node, document_starts, document_ends, stream_starts, stream_ends}
use Rattle.yf_events.specs.Tree.{Node, scalar, alias, sequence, mapping, Items, no_items, item, Pairs, no_pairs, pair, DocumentTree, flat, flat_document, flat_items, flat_pairs, flat_stream, is_text, leaves, leaves_of_items, leaves_of_pairs, placed, spans_of_leaf, standing, unplaced}
use Rattle.yf_events.specs.declared.event.Span.{Span}
use Rattle.yf_forms.specs.declared.form.measure.Measure.{Measure}
use Rattle.yf_forms.specs.Passes.DecidePass as Deciding
use Rattle.yf_forms.specs.NormalForms.Forms.{documents_are_placed, is_placed, items_are_placed, pairs_are_placed}
use Rattle.yf_forms.specs.Nodes.SingleNodes.{NodeAt}
use Rattle.yf_forms.specs.NormalForms.Measures.{first_of, leaf_indices}
use Rattle.yf_print.specs.Passes.TrailPass.{is_leaf}
use Rattle.yf_forms.proofs.Decide.AmongLemmas.{Among, back, after_first, front, node_at}
use Rattle.yf_forms.proofs.Decide.LeafLemmas.{is_own_leaf, same}
use Rattle.yf_laws.proofs.Trails.LeafMarks.{Mark, event_marks, mark, mark_if, marks_append}
use Rattle.yf_laws.proofs.Printer.MeasureFacts.{MeasuresTell}
use Rattle.yf_laws.proofs.Trails.TrailRuns.{spans}

-- events that are measured
pub record Seen : Type 0 where
  pub events : List EventInText
  pub measures : List Measure
  pub measured : MeasuresTell events measures

first_seen : (g : Seen) (i : ℕ) (x : Node) → NodeAt g.events i x → is_leaf g.measures i ≡ Deciding.is_leaf_at i (first_of (leaf_indices i x))
first_seen g i x n = ap (λ w. Deciding.is_leaf_at i w.first_leaf) (g.measured.each i x n)

leaf_seen : (g : Seen) (i : ℕ) (x : Node) → is_placed x ≡ true → NodeAt g.events i x → is_leaf g.measures i ≡ is_text x
leaf_seen g i x h n = first_seen g i x n ∙ is_own_leaf i x h

-- Spans.

pub spans_append : (xs ys : List Mark) → spans (xs ++ ys) ≡ spans xs ++ spans ys
spans_append xs ys = map-append (λ (l : Mark). l.span) xs ys

abbrev spans_in : Seen → ℕ → List EventInText → List Span
spans_in g i ys = spans (event_marks g.measures i ys)

joined_spans : (g : Seen) (i : ℕ) (ys zs : List EventInText) (ss rs : List Span) → spans_in g i ys ≡ ss → spans_in g (i + length ys) zs ≡ rs → spans_in g i (ys ++ zs) ≡ ss ++ rs
joined_spans g i ys zs ss rs e f =
    ap spans (marks_append g.measures i ys zs) ∙ (spans_append (event_marks g.measures i ys) (event_marks g.measures (i + length ys) zs)
    ∙ (ap (λ w. w ++ spans_in g (i + length ys) zs) e ∙ ap (λ w. ss ++ w) f))

-- an event without a text, one that begins a leaf, and one that begins a collection with entries
plain_spans : (g : Seen) (i : ℕ) (e : EventInText) → e.span ≡ None → spans_in g i (e ∷ []) ≡ []
plain_spans g i e s = ap (λ o. spans (mark_if (is_leaf g.measures i) i o ++ [])) s ∙ by (is_leaf g.measures i) where
  by : (b : Bool) → spans (mark_if b i None ++ []) ≡ []
  by true = refl
  by false = refl

leaf_spans : (g : Seen) (i : ℕ) (e : EventInText) (x : Node) (o : Option Span) → is_placed x ≡ true → NodeAt g.events i x → e.span ≡ o → is_text x ≡ is_some o
    → spans_in g i (e ∷ []) ≡ spans_of_leaf o
leaf_spans g i e x None h n s t = plain_spans g i e s
leaf_spans g i e x (Some span) h n s t =
    ap (λ o. spans (mark_if (is_leaf g.measures i) i o ++ [])) s ∙ ap (λ b. spans (mark_if b i (Some span) ++ [])) (leaf_seen g i x h n ∙ t)

first_spans : (g : Seen) (i : ℕ) (e : EventInText) (x : Node) → is_placed x ≡ true → NodeAt g.events i x → is_text x ≡ false → spans_in g i (e ∷ []) ≡ []
first_spans g i e x h n t = ap (λ b. spans (mark_if b i e.span ++ [])) (leaf_seen g i x h n ∙ t)

with_end : (g : Seen) (i : ℕ) (first last : EventInText) (ss : List Span) → spans_in g i (first ∷ []) ≡ ss → last.span ≡ None → spans_in g i (first ∷ (last ∷ [])) ≡ ss
with_end g i first last ss h s = joined_spans g i (first ∷ []) (last ∷ []) ss [] h (plain_spans g (i + 1) last s) ∙ append-nil ss

enclosed : (g : Seen) (i : ℕ) (first last : EventInText) (ys : List EventInText) (ss : List Span) → spans_in g i (first ∷ []) ≡ [] → last.span ≡ None → spans_in g (i + 1) ys ≡ ss
    → spans_in g i (first ∷ (ys ++ (last ∷ []))) ≡ ss
enclosed g i first last ys ss h s k =
    joined_spans g i (first ∷ []) (ys ++ (last ∷ [])) [] (ss ++ []) h (joined_spans g (i + 1) ys (last ∷ []) ss [] k (plain_spans g (i + 1 + length ys) last s))
    ∙ append-nil ss

mutual
  node_spans : (g : Seen) (i : ℕ) (x : Node) → is_placed x ≡ true → Among g.events (flat x) i → spans_in g i (flat x) ≡ leaves x
  node_spans g i (scalar at props style text lines) h a = leaf_spans g i (placed at (scalar_node props style text) lines) (scalar at props style text lines) at.span h (node_at _ a) refl refl
  node_spans g i (alias at name) h a = leaf_spans g i (placed at (alias_node name) []) (alias at name) at.span h (node_at _ a) refl refl
  node_spans g i (sequence at flow props no_items) h a =
      with_end g i (placed at (sequence_starts flow props) []) (unplaced sequence_ends) _ (leaf_spans g i (placed at (sequence_starts flow props) []) (sequence at flow props no_items) at.span h (node_at _ a) refl refl) refl
  node_spans g i (sequence at flow props (item x xs)) h a =
      enclosed g i (placed at (sequence_starts flow props) []) (unplaced sequence_ends) (flat_items (item x xs)) _
      (first_spans g i (placed at (sequence_starts flow props) []) (sequence at flow props (item x xs)) h (node_at _ a) refl) refl
      (items_spans g (i + 1) (item x xs) h (front (flat_items (item x xs)) (unplaced sequence_ends ∷ []) (after_first _ _ a)))
  node_spans g i (mapping at flow props no_pairs) h a =
      with_end g i (placed at (mapping_starts flow props) []) (unplaced mapping_ends) _ (leaf_spans g i (placed at (mapping_starts flow props) []) (mapping at flow props no_pairs) at.span h (node_at _ a) refl refl) refl
  node_spans g i (mapping at flow props (pair x y ps)) h a =
      enclosed g i (placed at (mapping_starts flow props) []) (unplaced mapping_ends) (flat_pairs (pair x y ps)) _
      (first_spans g i (placed at (mapping_starts flow props) []) (mapping at flow props (pair x y ps)) h (node_at _ a) refl) refl
      (pairs_spans g (i + 1) (pair x y ps) h (front (flat_pairs (pair x y ps)) (unplaced mapping_ends ∷ []) (after_first _ _ a)))

  items_spans : (g : Seen) (i : ℕ) (xs : Items) → items_are_placed xs ≡ true → Among g.events (flat_items xs) i → spans_in g i (flat_items xs) ≡ leaves_of_items xs
  items_spans g i no_items h a = refl
  items_spans g i (item x xs) h a =
      let hs = and_parts (is_placed x) (items_are_placed xs) h in
      joined_spans g i (flat x) (flat_items xs) _ _ (node_spans g i x hs.0 (front (flat x) (flat_items xs) a))
      (items_spans g (i + length (flat x)) xs hs.1 (back (flat x) (flat_items xs) a))

  pairs_spans : (g : Seen) (i : ℕ) (ps : Pairs) → pairs_are_placed ps ≡ true → Among g.events (flat_pairs ps) i → spans_in g i (flat_pairs ps) ≡ leaves_of_pairs ps
  pairs_spans g i no_pairs h a = refl
  pairs_spans g i (pair x y ps) h a =
      let hx = and_parts (is_placed x) (is_placed y && pairs_are_placed ps) h in
      let hy = and_parts (is_placed y) (pairs_are_placed ps) hx.1 in
      let rest = back (flat x) (flat y ++ flat_pairs ps) a in
      joined_spans g i (flat x) (flat y ++ flat_pairs ps) _ _ (node_spans g i x hx.0 (front (flat x) (flat y ++ flat_pairs ps) a))
      (joined_spans g (i + length (flat x)) (flat y) (flat_pairs ps) _ _ (node_spans g (i + length (flat x)) y hy.0 (front (flat y) (flat_pairs ps) rest))
      (pairs_spans g (i + length (flat x) + length (flat y)) ps hy.1 (back (flat y) (flat_pairs ps) rest)))

documents_spans : (g : Seen) (i : ℕ) (ds : List DocumentTree) → documents_are_placed ds ≡ true → Among g.events (flat_map flat_document ds) i
    → spans_in g i (flat_map flat_document ds) ≡ flat_map (λ d. leaves d.root) ds
documents_spans g i [] h a = refl
documents_spans g i (d ∷ ds) h a =
    let hs = and_parts (is_placed d.root) (documents_are_placed ds) h in
    let end : EventInText = unplaced (document_ends d.closed) in
    let here = front (flat_document d) (flat_map flat_document ds) a in
    joined_spans g i (flat_document d) (flat_map flat_document ds) (leaves d.root) _
    (enclosed g i (unplaced (document_starts d.marked)) end (flat d.root) (leaves d.root) (plain_spans g i (unplaced (document_starts d.marked)) refl) refl
    (node_spans g (i + 1) d.root hs.0 (front (flat d.root) (end ∷ []) (after_first (unplaced (document_starts d.marked)) (flat d.root ++ (end ∷ [])) here))))
    (documents_spans g (i + length (flat_document d)) ds hs.1 (back (flat_document d) (flat_map flat_document ds) a))

-- for a whole stream
pub stream_spans : (g : Seen) (ds : List DocumentTree) → g.events ≡ flat_stream ds → documents_are_placed ds ≡ true
    → spans (event_marks g.measures 0 g.events) ≡ flat_map (λ d. leaves d.root) ds
stream_spans g ds e h =
    let es : List EventInText = flat_map flat_document ds in
    let end : EventInText = unplaced stream_ends in
    let whole : Among g.events (flat_stream ds) 0 = record { before = []; after = []; is = e ∙ sym (append-nil (flat_stream ds)); index = refl } in
    ap (λ v. spans_in g 0 v) e
    ∙ enclosed g 0 (unplaced stream_starts) end es (flat_map (λ (d : DocumentTree). leaves d.root) ds) (plain_spans g 0 (unplaced stream_starts) refl) refl
    (documents_spans g 1 ds h (front es (end ∷ []) (after_first (unplaced stream_starts) (es ++ (end ∷ [])) whole)))

-- The mark of a leaf.

pub record MarkedAt (ms : List Measure) (es : List EventInText) (j : ℕ) (span : Span) : Type 0 where
  pub earlier : List Mark
  pub later : List Mark
  pub is : event_marks ms 0 es ≡ earlier ++ (mark j span ∷ later)

-- a leaf with characters is its own first leaf
text_first : (i : ℕ) (x : Node) → is_text x ≡ true → Deciding.is_leaf_at i (first_of (leaf_indices i x)) ≡ true
text_first i (scalar at props style text lines) t = ap (λ b. Deciding.is_leaf_at i (first_of (if b then i ∷ [] else []))) t ∙ same i
text_first i (alias at name) t = same i
text_first i (sequence at flow props no_items) t = same i
text_first i (sequence at flow props (item x xs)) t = absurd cc
text_first i (mapping at flow props no_pairs) t = same i
text_first i (mapping at flow props (pair k v ps)) t = absurd cc

-- the first event of a node
record First (x : Node) : Type 0 where
  event : EventInText
  more : List EventInText
  is : flat x ≡ event ∷ more
  span : event.span ≡ (standing x).span

first : (x : Node) → First x
first (scalar at props style text lines) = record { event = _; more = _; is = refl; span = refl }
first (alias at name) = record { event = _; more = _; is = refl; span = refl }
first (sequence at flow props items) = record { event = _; more = _; is = refl; span = refl }
first (mapping at flow props pairs) = record { event = _; more = _; is = refl; span = refl }

pub node_within : (es : List EventInText) (j : ℕ) (x : Node) → NodeAt es j x → j < length es
node_within es j x n =
    let f = first x in
    let e : length es ≡ length n.before + length (flat x ++ n.after) = ap length n.is ∙ length-append n.before (flat x ++ n.after) in
    let l : length (flat x ++ n.after) ≡ length (f.event ∷ (f.more ++ n.after)) = ap (λ w. length (w ++ n.after)) f.is in
    let i = n.index in
    omega (arith, e, l, i)

pub marked_at : (g : Seen) (j : ℕ) (x : Node) (span : Span) → NodeAt g.events j x → is_text x ≡ true → (standing x).span ≡ Some span → MarkedAt g.measures g.events j span
marked_at g j x span n t s =
    let f = first x in
    let rest : List EventInText = f.more ++ n.after in
    let index : 0 + length n.before ≡ j = let e = n.index in omega (arith, e) in
    let here : is_leaf g.measures j ≡ true = first_seen g j x n ∙ text_first j x t in
    record {
      earlier = event_marks g.measures 0 n.before;
      later = event_marks g.measures (j + 1) rest;
      is = ap (event_marks g.measures 0) n.is
          ∙ (marks_append g.measures 0 n.before (flat x ++ n.after)
          ∙ (ap (λ i. event_marks g.measures 0 n.before ++ event_marks g.measures i (flat x ++ n.after)) index
          ∙ (ap (λ w. event_marks g.measures 0 n.before ++ event_marks g.measures j (w ++ n.after)) f.is
          ∙ (ap (λ b. event_marks g.measures 0 n.before ++ (mark_if b j f.event.span ++ event_marks g.measures (j + 1) rest)) here
          ∙ ap (λ o. event_marks g.measures 0 n.before ++ (mark_if true j o ++ event_marks g.measures (j + 1) rest)) (f.span ∙ s)))));
    }
