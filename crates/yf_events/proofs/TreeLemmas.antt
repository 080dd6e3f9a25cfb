-- A list of events is that of at most one list of trees.
use Rattle.std.proofs.Common.{◌≡◌, ℕ, List, [], ◌∷◌, ◌++◌, flat_map, refl, sym, ap, ◌∙◌, append_assoc}
use Rattle.yf_chars.proofs.Tests.{same_head, same_tail}
use Rattle.yf_events.specs.Event.{EventValue, EventInText, stream_ends, document_starts, document_ends, sequence_starts, sequence_ends, mapping_starts, mapping_ends, scalar_node, alias_node}
use Rattle.yf_events.specs.declared.lists.Lists.{Lists}
use Rattle.yf_events.specs.Tree.{DocumentTree, TreesOf, flat_document, NodeOffsets, Node, scalar, alias, sequence, mapping, Items, no_items, item, Pairs, no_pairs, pair, placed, unplaced, flat, flat_items, flat_pairs}

-- equal lists have equal fronts

pub standing_in : EventInText → NodeOffsets
standing_in e = record { span = e.span; tag_offset = e.tag_offset; entry = e.entry }

same_standing : (a b : NodeOffsets) (v w : EventValue) (l m : List (List ℕ)) → placed a v l ≡ placed b w m → a ≡ b
unfolding standing_in
same_standing a b v w l m e = ap standing_in e

same_event : (d e : EventInText) → d ≡ e → d.event ≡ e.event
same_event d e p = ap (λ x. x.event) p

same_lines : (d e : EventInText) → d ≡ e → d.folded ≡ e.folded
same_lines d e p = ap (λ x. x.folded) p

same_first_event : (d e : EventInText) (x y : List EventInText) → d ∷ x ≡ e ∷ y → d.event ≡ e.event
same_first_event d e x y p = same_event d e (same_head p)

-- the end of a collection is after its entries
pub regrouped : (x : List EventInText) (d : EventInText) (r : List EventInText) → (x ++ (d ∷ [])) ++ r ≡ x ++ (d ∷ r)
regrouped x d r = append_assoc x (d ∷ []) r

three : (x y z r : List EventInText) → (x ++ (y ++ z)) ++ r ≡ x ++ (y ++ (z ++ r))
three x y z r = append_assoc x (y ++ z) r ∙ ap (λ w. x ++ w) (append_assoc y z r)

-- two trees are equal if their events begin equal lists
mutual
  pub node_unique : (x y : Node) (r s : List EventInText) → flat x ++ r ≡ flat y ++ s → (x ≡ y) × (r ≡ s)
  node_unique (scalar a p st t l) (scalar b q su u m) r s e =
      let h : placed a (scalar_node p st t) l ≡ placed b (scalar_node q su u) m = same_head e in
      let e1 : a ≡ b = same_standing _ _ _ _ _ _ h in
      let e2 : scalar_node p st t ≡ scalar_node q su u = same_event _ _ h in
      let e3 : l ≡ m = same_lines _ _ h in
      (cc, same_tail e)
  node_unique (scalar a p st t l) (alias b o) r s e =
      let h : scalar_node p st t ≡ alias_node o = same_first_event _ _ _ _ e in absurd cc
  node_unique (scalar a p st t l) (sequence b g q ys) r s e =
      let h : scalar_node p st t ≡ sequence_starts g q = same_first_event _ _ _ _ e in absurd cc
  node_unique (scalar a p st t l) (mapping b g q qs) r s e =
      let h : scalar_node p st t ≡ mapping_starts g q = same_first_event _ _ _ _ e in absurd cc
  node_unique (alias a n) (scalar b q su u m) r s e =
      let h : alias_node n ≡ scalar_node q su u = same_first_event _ _ _ _ e in absurd cc
  node_unique (alias a n) (alias b o) r s e =
      let h : placed a (alias_node n) [] ≡ placed b (alias_node o) [] = same_head e in
      let e1 : a ≡ b = same_standing _ _ _ _ _ _ h in
      let e2 : alias_node n ≡ alias_node o = same_event _ _ h in
      (cc, same_tail e)
  node_unique (alias a n) (sequence b g q ys) r s e =
      let h : alias_node n ≡ sequence_starts g q = same_first_event _ _ _ _ e in absurd cc
  node_unique (alias a n) (mapping b g q qs) r s e =
      let h : alias_node n ≡ mapping_starts g q = same_first_event _ _ _ _ e in absurd cc
  node_unique (sequence a f p xs) (scalar b q su u m) r s e =
      let h : sequence_starts f p ≡ scalar_node q su u = same_first_event _ _ _ _ e in absurd cc
  node_unique (sequence a f p xs) (alias b o) r s e =
      let h : sequence_starts f p ≡ alias_node o = same_first_event _ _ _ _ e in absurd cc
  node_unique (sequence a f p xs) (sequence b g q ys) r s e =
      let h : placed a (sequence_starts f p) [] ≡ placed b (sequence_starts g q) [] = same_head e in
      let e1 : a ≡ b = same_standing _ _ _ _ _ _ h in
      let e2 : sequence_starts f p ≡ sequence_starts g q = same_event _ _ h in
      let e3 : (flat_items xs ++ (unplaced sequence_ends ∷ [])) ++ r ≡ (flat_items ys ++ (unplaced sequence_ends ∷ [])) ++ s = same_tail e in
      let inner : (xs ≡ ys) × (r ≡ s) = items_unique xs ys r s (sym (regrouped (flat_items xs) _ r) ∙ (e3 ∙ regrouped (flat_items ys) _ s)) in
      let e4 : xs ≡ ys = inner.0 in
      (cc, inner.1)
  node_unique (sequence a f p xs) (mapping b g q qs) r s e =
      let h : sequence_starts f p ≡ mapping_starts g q = same_first_event _ _ _ _ e in absurd cc
  node_unique (mapping a f p ps) (scalar b q su u m) r s e =
      let h : mapping_starts f p ≡ scalar_node q su u = same_first_event _ _ _ _ e in absurd cc
  node_unique (mapping a f p ps) (alias b o) r s e =
      let h : mapping_starts f p ≡ alias_node o = same_first_event _ _ _ _ e in absurd cc
  node_unique (mapping a f p ps) (sequence b g q ys) r s e =
      let h : mapping_starts f p ≡ sequence_starts g q = same_first_event _ _ _ _ e in absurd cc
  node_unique (mapping a f p ps) (mapping b g q qs) r s e =
      let h : placed a (mapping_starts f p) [] ≡ placed b (mapping_starts g q) [] = same_head e in
      let e1 : a ≡ b = same_standing _ _ _ _ _ _ h in
      let e2 : mapping_starts f p ≡ mapping_starts g q = same_event _ _ h in
      let e3 : (flat_pairs ps ++ (unplaced mapping_ends ∷ [])) ++ r ≡ (flat_pairs qs ++ (unplaced mapping_ends ∷ [])) ++ s = same_tail e in
      let inner : (ps ≡ qs) × (r ≡ s) = pairs_unique ps qs r s (sym (regrouped (flat_pairs ps) _ r) ∙ (e3 ∙ regrouped (flat_pairs qs) _ s)) in
      let e4 : ps ≡ qs = inner.0 in
      (cc, inner.1)

  items_unique : (xs ys : Items) (r s : List EventInText)
      → flat_items xs ++ (unplaced sequence_ends ∷ r) ≡ flat_items ys ++ (unplaced sequence_ends ∷ s) → (xs ≡ ys) × (r ≡ s)
  items_unique no_items no_items r s e = (refl, same_tail e)
  items_unique no_items (item (scalar b q su u m) zs) r s e =
      let h : sequence_ends ≡ scalar_node q su u = same_first_event _ _ _ _ e in absurd cc
  items_unique no_items (item (alias b o) zs) r s e =
      let h : sequence_ends ≡ alias_node o = same_first_event _ _ _ _ e in absurd cc
  items_unique no_items (item (sequence b g q ys) zs) r s e =
      let h : sequence_ends ≡ sequence_starts g q = same_first_event _ _ _ _ e in absurd cc
  items_unique no_items (item (mapping b g q qs) zs) r s e =
      let h : sequence_ends ≡ mapping_starts g q = same_first_event _ _ _ _ e in absurd cc
  items_unique (item (scalar a p st t l) zs) no_items r s e =
      let h : scalar_node p st t ≡ sequence_ends = same_first_event _ _ _ _ e in absurd cc
  items_unique (item (alias a n) zs) no_items r s e =
      let h : alias_node n ≡ sequence_ends = same_first_event _ _ _ _ e in absurd cc
  items_unique (item (sequence a f p xs) zs) no_items r s e =
      let h : sequence_starts f p ≡ sequence_ends = same_first_event _ _ _ _ e in absurd cc
  items_unique (item (mapping a f p ps) zs) no_items r s e =
      let h : mapping_starts f p ≡ sequence_ends = same_first_event _ _ _ _ e in absurd cc
  items_unique (item x xs) (item y ys) r s e =
      let e1 : flat x ++ (flat_items xs ++ (unplaced sequence_ends ∷ r)) ≡ flat y ++ (flat_items ys ++ (unplaced sequence_ends ∷ s)) =
      sym (append_assoc (flat x) (flat_items xs) _) ∙ (e ∙ append_assoc (flat y) (flat_items ys) _) in
      let first : (x ≡ y) × (flat_items xs ++ (unplaced sequence_ends ∷ r) ≡ flat_items ys ++ (unplaced sequence_ends ∷ s)) =
      node_unique x y _ _ e1 in
      let others : (xs ≡ ys) × (r ≡ s) = items_unique xs ys r s first.1 in
      let e2 : x ≡ y = first.0 in
      let e3 : xs ≡ ys = others.0 in
      (cc, others.1)

  pairs_unique : (xs ys : Pairs) (r s : List EventInText)
      → flat_pairs xs ++ (unplaced mapping_ends ∷ r) ≡ flat_pairs ys ++ (unplaced mapping_ends ∷ s) → (xs ≡ ys) × (r ≡ s)
  pairs_unique no_pairs no_pairs r s e = (refl, same_tail e)
  pairs_unique no_pairs (pair (scalar b q su u m) v zs) r s e =
      let h : mapping_ends ≡ scalar_node q su u = same_first_event _ _ _ _ e in absurd cc
  pairs_unique no_pairs (pair (alias b o) v zs) r s e =
      let h : mapping_ends ≡ alias_node o = same_first_event _ _ _ _ e in absurd cc
  pairs_unique no_pairs (pair (sequence b g q ys) v zs) r s e =
      let h : mapping_ends ≡ sequence_starts g q = same_first_event _ _ _ _ e in absurd cc
  pairs_unique no_pairs (pair (mapping b g q qs) v zs) r s e =
      let h : mapping_ends ≡ mapping_starts g q = same_first_event _ _ _ _ e in absurd cc
  pairs_unique (pair (scalar a p st t l) v zs) no_pairs r s e =
      let h : scalar_node p st t ≡ mapping_ends = same_first_event _ _ _ _ e in absurd cc
  pairs_unique (pair (alias a n) v zs) no_pairs r s e =
      let h : alias_node n ≡ mapping_ends = same_first_event _ _ _ _ e in absurd cc
  pairs_unique (pair (sequence a f p xs) v zs) no_pairs r s e =
      let h : sequence_starts f p ≡ mapping_ends = same_first_event _ _ _ _ e in absurd cc
  pairs_unique (pair (mapping a f p ps) v zs) no_pairs r s e =
      let h : mapping_starts f p ≡ mapping_ends = same_first_event _ _ _ _ e in absurd cc
  pairs_unique (pair k v ps) (pair l w qs) r s e =
      let e1 : flat k ++ (flat v ++ (flat_pairs ps ++ (unplaced mapping_ends ∷ r)))
      ≡ flat l ++ (flat w ++ (flat_pairs qs ++ (unplaced mapping_ends ∷ s))) =
      sym (three (flat k) (flat v) (flat_pairs ps) _) ∙ (e ∙ three (flat l) (flat w) (flat_pairs qs) _) in
      let key : (k ≡ l) × (flat v ++ (flat_pairs ps ++ (unplaced mapping_ends ∷ r)) ≡ flat w ++ (flat_pairs qs ++ (unplaced mapping_ends ∷ s))) =
      node_unique k l _ _ e1 in
      let value : (v ≡ w) × (flat_pairs ps ++ (unplaced mapping_ends ∷ r) ≡ flat_pairs qs ++ (unplaced mapping_ends ∷ s)) =
      node_unique v w _ _ key.1 in
      let others : (ps ≡ qs) × (r ≡ s) = pairs_unique ps qs r s value.1 in
      let e2 : k ≡ l = key.0 in
      let e3 : v ≡ w = value.0 in
      let e4 : ps ≡ qs = others.0 in
      (cc, others.1)

-- documents

same_document : (d e : DocumentTree) → d.marked ≡ e.marked → d.closed ≡ e.closed → d.root ≡ e.root → d ≡ e
same_document d e p q r = λ i. record { marked = p i; closed = q i; root = r i }

after_document : (d : DocumentTree) (x r : List EventInText)
    → (flat_document d ++ x) ++ r ≡ unplaced (document_starts d.marked) ∷ (flat d.root ++ (unplaced (document_ends d.closed) ∷ (x ++ r)))
after_document d x r =
    ap (λ w. unplaced (document_starts d.marked) ∷ w)
    (append_assoc (flat d.root ++ (unplaced (document_ends d.closed) ∷ [])) x r ∙ regrouped (flat d.root) _ (x ++ r))

documents_unique : (ds es : List DocumentTree) (r s : List EventInText)
    → flat_map flat_document ds ++ (unplaced stream_ends ∷ r) ≡ flat_map flat_document es ++ (unplaced stream_ends ∷ s) → ds ≡ es
documents_unique [] [] r s e = refl
documents_unique [] (d ∷ es) r s e = let h : stream_ends ≡ document_starts d.marked = same_first_event _ _ _ _ e in absurd cc
documents_unique (d ∷ ds) [] r s e = let h : document_starts d.marked ≡ stream_ends = same_first_event _ _ _ _ e in absurd cc
documents_unique (d ∷ ds) (f ∷ es) r s e =
    let e1 : unplaced (document_starts d.marked) ∷ (flat d.root ++ (unplaced (document_ends d.closed) ∷ (flat_map flat_document ds ++ (unplaced stream_ends ∷ r))))
    ≡ unplaced (document_starts f.marked) ∷ (flat f.root ++ (unplaced (document_ends f.closed) ∷ (flat_map flat_document es ++ (unplaced stream_ends ∷ s)))) =
    sym (after_document d (flat_map flat_document ds) _) ∙ (e ∙ after_document f (flat_map flat_document es) _) in
    let h : document_starts d.marked ≡ document_starts f.marked = same_first_event _ _ _ _ e1 in
    let marks : d.marked ≡ f.marked = cc in
    let roots : (d.root ≡ f.root) × (unplaced (document_ends d.closed) ∷ (flat_map flat_document ds ++ (unplaced stream_ends ∷ r))
    ≡ unplaced (document_ends f.closed) ∷ (flat_map flat_document es ++ (unplaced stream_ends ∷ s))) =
    node_unique d.root f.root _ _ (same_tail e1) in
    let k : document_ends d.closed ≡ document_ends f.closed = same_first_event _ _ _ _ roots.1 in
    let closes : d.closed ≡ f.closed = cc in
    let firsts : d ≡ f = same_document d f marks closes roots.0 in
    let others : ds ≡ es = documents_unique ds es r s (same_tail roots.1) in
    cc

pub trees_unique : (r : Lists) (ds es : List DocumentTree) → TreesOf r ds → TreesOf r es → ds ≡ es
trees_unique r ds es a b = documents_unique ds es [] [] (same_tail (sym a.events ∙ b.events))
