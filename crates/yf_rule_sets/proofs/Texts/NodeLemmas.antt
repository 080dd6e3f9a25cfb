-- Nodes among the events of trees: each event that begins a node begins one, and two nodes are apart or one is in the
-- other.
use Rattle.std.proofs.Common.{◌≡◌, ℕ, zero, suc, ◌+◌, ◌-◌, ◌<◌, ◌≤◌, true, false, List, [], ◌∷◌, ◌++◌, length, drop, take, flat_map, refl, sym, ap, subst, ◌∙◌, append_assoc, append-nil, add-one, get_or, Some, ⊎_elim, arith, true≢false}
use Rattle.std.proofs.lemmas.Bool.{cases_lt}
use Rattle.std.proofs.lemmas.List.{drop_at, length-append, length-take-le, take-append-drop}
use Rattle.std.proofs.lemmas.Option.{slice_get_within, get_or_from_slice_get}
use Rattle.std.proofs.Math.Seq.{drop-append-add, drop-cons}
use Rattle.std.specs.Prelude.{slice_get}
use Rattle.yf_chars.proofs.Tests.{same_head}
use Rattle.yf_events.specs.Event.{EventInText, stream_starts, stream_ends, document_starts, document_ends, sequence_ends, mapping_ends}
use Rattle.yf_events.specs.WellPlaced.{begins_node}
use Rattle.yf_events.specs.Tree.{Node, scalar, alias, sequence, mapping, Items, no_items, item, Pairs, no_pairs, pair, DocumentTree, TreesOf, unplaced, flat, flat_items, flat_pairs, flat_document, flat_stream}
use Rattle.yf_events.specs.declared.lists.Lists.{Lists}
use Rattle.yf_events.proofs.TreeLemmas.{node_unique}
use Rattle.yf_forms.specs.Nodes.SingleNodes.{NodeAt}

-- At an index: a node that ends within the first n events, or an event that begins none.
pub data IsAt (es : List EventInText) (i n : ℕ) : Type 0 where
  a_node : (y : Node) (after : List EventInText) → drop i es ≡ flat y ++ after → i + length (flat y) ≤ n → IsAt es i n
  no_node : (e : EventInText) (more : List EventInText) → drop i es ≡ e ∷ more → begins_node e.event ≡ false → IsAt es i n

-- the node in a longer list: after k other events, and before others
moved : {es fs : List EventInText} {i j n m : ℕ} (k : ℕ) → drop j fs ≡ drop i es → j ≡ k + i → k + n ≤ m → IsAt es i n → IsAt fs j m
moved k e s l (a_node y after d b) = a_node y after (e ∙ d) (omega (arith, s, l, b))
moved k e s l (no_node f more d b) = no_node f more (e ∙ d) b

after_part : (xs ys : List EventInText) (i : ℕ) → length xs ≤ i → drop i (xs ++ ys) ≡ drop (i - length xs) ys
after_part xs ys i l = ap (λ k. drop k (xs ++ ys)) (let e : i ≡ length xs + (i - length xs) = omega (arith, l) in e) ∙ drop-append-add xs ys (i - length xs)

-- in two parts, one after the other
in_parts : (xs ys rest : List EventInText) (i : ℕ) → i < length (xs ++ ys) → ((k : ℕ) → k < length xs → IsAt (xs ++ (ys ++ rest)) k (length xs))
    → ((k : ℕ) → k < length ys → IsAt (ys ++ rest) k (length ys)) → IsAt ((xs ++ ys) ++ rest) i (length (xs ++ ys))
in_parts xs ys rest i l f g =
    let n : length (xs ++ ys) ≡ length xs + length ys = length-append xs ys in
    let e : drop i ((xs ++ ys) ++ rest) ≡ drop i (xs ++ (ys ++ rest)) = ap (drop i) (append_assoc xs ys rest) in
    ⊎_elim (λ (h : i < length xs). moved 0 e (omega arith) (omega (arith, n)) (f i h))
    (λ (h : length xs ≤ i). moved (length xs) (e ∙ after_part xs (ys ++ rest) i h) (omega (arith, h)) (omega (arith, n)) (g (i - length xs) (omega (arith, h, l, n))))
    (cases_lt i (length xs))

-- one event that ends a collection or a document
at_end : (e : EventInText) (rest : List EventInText) → begins_node e.event ≡ false → (k : ℕ) → k < 1 → IsAt (e ∷ rest) k 1
at_end e rest b zero l = no_node e rest refl b
at_end e rest b (suc k) l = absurd (omega (arith, l))

-- a node with its first event and others
in_node : (x : Node) (rest more : List EventInText) (first : EventInText) (i : ℕ) → flat x ≡ first ∷ more → i < length (flat x)
    → ((k : ℕ) → k < length more → IsAt (more ++ rest) k (length more)) → IsAt (flat x ++ rest) i (length (flat x))
in_node x rest more first zero e l f = a_node x rest refl (omega arith)
in_node x rest more first (suc i) e l f =
    let n : length (flat x) ≡ suc (length more) = ap length e in
    moved 1 (ap (λ w. drop (suc i) (w ++ rest)) e) (omega arith) (omega (arith, n)) (f i (omega (arith, l, n)))

mutual
  node_is_at : (x : Node) (rest : List EventInText) (i : ℕ) → i < length (flat x) → IsAt (flat x ++ rest) i (length (flat x))
  node_is_at (scalar at props style text lines) rest i l = in_node (scalar at props style text lines) rest [] _ i refl l (λ k h. absurd (omega (arith, h)))
  node_is_at (alias at name) rest i l = in_node (alias at name) rest [] _ i refl l (λ k h. absurd (omega (arith, h)))
  node_is_at (sequence at flow props items) rest i l =
      in_node (sequence at flow props items) rest (flat_items items ++ (unplaced sequence_ends ∷ [])) _ i refl l
      (λ k h. in_parts (flat_items items) (unplaced sequence_ends ∷ []) rest k h (λ m q. items_stand items (unplaced sequence_ends ∷ rest) m q)
      (λ m q. at_end (unplaced sequence_ends) rest refl m q))
  node_is_at (mapping at flow props pairs) rest i l =
      in_node (mapping at flow props pairs) rest (flat_pairs pairs ++ (unplaced mapping_ends ∷ [])) _ i refl l
      (λ k h. in_parts (flat_pairs pairs) (unplaced mapping_ends ∷ []) rest k h (λ m q. pairs_stand pairs (unplaced mapping_ends ∷ rest) m q)
      (λ m q. at_end (unplaced mapping_ends) rest refl m q))

  items_stand : (xs : Items) (rest : List EventInText) (i : ℕ) → i < length (flat_items xs) → IsAt (flat_items xs ++ rest) i (length (flat_items xs))
  items_stand no_items rest i l = absurd (omega (arith, l))
  items_stand (item x xs) rest i l =
      in_parts (flat x) (flat_items xs) rest i l (λ k h. node_is_at x (flat_items xs ++ rest) k h) (λ k h. items_stand xs rest k h)

  pairs_stand : (ps : Pairs) (rest : List EventInText) (i : ℕ) → i < length (flat_pairs ps) → IsAt (flat_pairs ps ++ rest) i (length (flat_pairs ps))
  pairs_stand no_pairs rest i l = absurd (omega (arith, l))
  pairs_stand (pair x y ps) rest i l =
      in_parts (flat x) (flat y ++ flat_pairs ps) rest i l (λ k h. node_is_at x ((flat y ++ flat_pairs ps) ++ rest) k h)
      (λ k h. in_parts (flat y) (flat_pairs ps) rest k h (λ m q. node_is_at y (flat_pairs ps ++ rest) m q) (λ m q. pairs_stand ps rest m q))

documents_stand : (ds : List DocumentTree) (rest : List EventInText) (i : ℕ) → i < length (flat_map flat_document ds)
    → IsAt (flat_map flat_document ds ++ rest) i (length (flat_map flat_document ds))
documents_stand [] rest i l = absurd (omega (arith, l))
documents_stand (d ∷ ds) rest i l =
    let start = unplaced (document_starts d.marked) in
    let end = unplaced (document_ends d.closed) in
    let follows = flat_map flat_document ds ++ rest in
    in_parts (flat_document d) (flat_map flat_document ds) rest i l
    (λ k h. in_parts (start ∷ []) (flat d.root ++ (end ∷ [])) follows k h (λ m q. at_end start ((flat d.root ++ (end ∷ [])) ++ follows) refl m q)
    (λ m q. in_parts (flat d.root) (end ∷ []) follows m q (λ n w. node_is_at d.root (end ∷ follows) n w) (λ n w. at_end end follows refl n w)))
    (λ k h. documents_stand ds rest k h)

stream_is_at : (ds : List DocumentTree) (i : ℕ) → i < length (flat_stream ds) → IsAt (flat_stream ds) i (length (flat_stream ds))
stream_is_at ds i l =
    let start = unplaced stream_starts in
    let end = unplaced stream_ends in
    subst (λ es. IsAt es i (length (flat_stream ds))) (append-nil (flat_stream ds))
    (in_parts (start ∷ []) (flat_map flat_document ds ++ (end ∷ [])) [] i l (λ m q. at_end start ((flat_map flat_document ds ++ (end ∷ [])) ++ []) refl m q)
    (λ m q. in_parts (flat_map flat_document ds) (end ∷ []) [] m q (λ n w. documents_stand ds (end ∷ []) n w) (λ n w. at_end end [] refl n w)))

-- the first event of a node

pub first_begins : (x : Node) (after more : List EventInText) (e : EventInText) → flat x ++ after ≡ e ∷ more → begins_node e.event ≡ true
first_begins (scalar at props style text lines) after more e q = ap (λ d. begins_node d.event) (sym (same_head {A = EventInText} q))
first_begins (alias at name) after more e q = ap (λ d. begins_node d.event) (sym (same_head {A = EventInText} q))
first_begins (sequence at flow props items) after more e q = ap (λ d. begins_node d.event) (sym (same_head {A = EventInText} q))
first_begins (mapping at flow props pairs) after more e q = ap (λ d. begins_node d.event) (sym (same_head {A = EventInText} q))

-- Nodes at indices.

pub events_after : {es : List EventInText} {i : ℕ} {x : Node} (n : NodeAt es i x) → drop i es ≡ flat x ++ n.after
events_after {i = i} {x = x} n = ap (drop i) n.is ∙ drop_at n.before (flat x ++ n.after) i n.index

-- only one node begins at an index
pub same_node : {es : List EventInText} {i : ℕ} {x y : Node} → NodeAt es i x → NodeAt es i y → x ≡ y
same_node {x = x} {y = y} n m = (node_unique x y n.after m.after (sym (events_after n) ∙ events_after m)).0

-- a node that begins within another one ends within it
pub ends_within : {es : List EventInText} {i j : ℕ} {x y : Node} → NodeAt es i x → NodeAt es j y → i < j → j < i + length (flat x) → j + length (flat y) ≤ i + length (flat x)
ends_within {es = es} {i = i} {j = j} {x = x} {y = y} n m l h =
    let k = j - i in
    let at : drop k (flat x ++ n.after) ≡ drop j es =
    sym (ap (drop j) n.is ∙ ap (λ a. drop a (n.before ++ (flat x ++ n.after))) (let e : j ≡ length n.before + k = omega (arith, l, n.index) in e)
    ∙ drop-append-add n.before (flat x ++ n.after) k) in
    by k (let e : j ≡ i + k = omega (arith, l) in e) (at ∙ events_after m) (node_is_at x n.after k (omega (arith, l, h)))
  where
    by : (k : ℕ) → j ≡ i + k → drop k (flat x ++ n.after) ≡ flat y ++ m.after → IsAt (flat x ++ n.after) k (length (flat x)) → j + length (flat y) ≤ i + length (flat x)
    by k s d (a_node z after e b) =
        let same : length (flat z) ≡ length (flat y) = ap (λ w. length (flat w)) (node_unique z y after m.after (sym e ∙ d)).0 in
        omega (arith, s, b, same)
    by k s d (no_node e more q b) = absurd (true≢false (sym (first_begins y m.after more e (sym d ∙ q)) ∙ b))

-- the event at an index, if it begins a node
pub begins_at : (r : Lists) (ds : List DocumentTree) (i : ℕ) (e : EventInText) → TreesOf r ds → slice_get r.events i ≡ Some e → begins_node e.event ≡ true → (x : Node) × NodeAt r.events i x
begins_at r ds i e t g b = by (subst (λ es. IsAt es i (length r.events)) (sym t.events)
    (subst (λ n. IsAt (flat_stream ds) i n) (ap length (sym t.events)) (stream_is_at ds i (subst (λ es. i < length es) t.events (slice_get_within r.events i e g)))))
  where
    cut : drop i r.events ≡ e ∷ drop (i + 1) r.events
    cut = subst (λ k. drop i r.events ≡ get_or r.events i e ∷ drop k r.events) (sym (add-one i)) (drop-cons r.events i e (slice_get_within r.events i e g))
        ∙ ap (λ m. m ∷ drop (i + 1) r.events) (get_or_from_slice_get r.events i e e g)

    by : IsAt r.events i (length r.events) → (x : Node) × NodeAt r.events i x
    by (a_node x after d l) = (
      x,
      record {
        before = take i r.events;
        after = after;
        is = sym (take-append-drop i r.events) ∙ ap (λ w. take i r.events ++ w) d;
        index = length-take-le i r.events (let w = slice_get_within r.events i e g in omega (arith, w));
      },
    )
    by (no_node f more d w) = absurd (true≢false (sym b ∙ ap (λ z. begins_node z.event) (same_head {A = EventInText} (sym cut ∙ d)) ∙ w))

-- none begins at the index 0
pub none_first : (r : Lists) (ds : List DocumentTree) (x : Node) → TreesOf r ds → NodeAt r.events 0 x → ⊥
none_first r ds x t n = true≢false (sym (first_begins x n.after _ (unplaced stream_starts) (sym (events_after n) ∙ t.events)))
