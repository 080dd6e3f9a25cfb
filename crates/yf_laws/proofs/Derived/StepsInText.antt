-- Leaves and comments that are in a text in the order of steps, from one offset up to another; and those of the parts
-- of a production.
use Rattle.std.proofs.Common.{◌≡◌, ℕ, ◌≤◌, Bool, true, false, List, [], ◌∷◌, ◌++◌, map, Option, Some, None, refl, sym, ap, ◌∙◌, subst, arith, append_assoc, append-nil}
use Rattle.std.proofs.lemmas.List.{map-append}
use Rattle.yf_comments.specs.Comment.{CommentValue}
use Rattle.yf_comments.proofs.GapLinesLemmas.{texts}
use Rattle.yf_props.specs.Props.{PropsValue, no_props}
use Rattle.yf_events.specs.Event.{EventInText, scalar_node, sequence_ends, mapping_ends}
use Rattle.yf_events.specs.Reading.{leaf_starts, ends_next, start_in}
use Rattle.yf_events.specs.Tree.{Node, scalar as scalar_tree, alias as alias_tree, sequence, mapping, Items, no_items, item, Pairs, no_pairs, pair, unplaced, flat, flat_items, flat_pairs, leaves, leaves_of_items, leaves_of_pairs, spans_of_leaf}
use Rattle.yf_events.specs.declared.event.Entry.{Entry}
use Rattle.yf_events.specs.declared.event.ScalarStyle.{ScalarStyle}
use Rattle.yf_events.specs.declared.event.Span.{Span}
use Rattle.yf_grammar.specs.Productions.Meaning.{Meaning, ◌⊕◌, meaning_after, noting, plain_event, from_to, empty_node, collection, with_props, first_entering, first_with, entering}
use Rattle.yf_grammar.proofs.Documents.CommentOrder.{Ascend, no_more, one_more}
use Rattle.yf_grammar.proofs.NodesInText.NodePlaces.{NodeIsAt, is_at_nowhere, scalar_is_at, alias_is_at, sequence_is_at, mapping_is_at, ItemsStand, no_items_stand, item_is_at, PairsStand, no_pairs_stand, pair_is_at, colon_order}
use Rattle.yf_grammar.proofs.NodesInText.PlacedNodes.{NodeAt}
use Rattle.yf_stream.proofs.LeafPass.LeafTrees.{node_goes_on}
use Rattle.yf_laws.proofs.Derived.LayoutSteps.{Step, a_leaf, a_comment, leaf_steps, comment_steps}

-- the starts of leaves, and comments, in the order of steps
pub data Stand : ℕ → List ℕ → List CommentValue → List Step → ℕ → Type 0 where
  nothing_is_at : {i j : ℕ} → i ≤ j → Stand i [] [] [] j
  leaf_is_at : {i s j : ℕ} {ss : List ℕ} {cs : List CommentValue} {steps : List Step} → i ≤ s → Stand s ss cs steps j → Stand i (s ∷ ss) cs (a_leaf ∷ steps) j
  comment_is_at : {i j : ℕ} {c : CommentValue} {ss : List ℕ} {cs : List CommentValue} {steps : List Step} → i ≤ c.offset → Stand c.offset ss cs steps j
      → Stand i ss (c ∷ cs) (a_comment c.text ∷ steps) j

pub stand_after : {h i j : ℕ} {ss : List ℕ} {cs : List CommentValue} {steps : List Step} → h ≤ i → Stand i ss cs steps j → Stand h ss cs steps j
stand_after l (nothing_is_at m) = nothing_is_at (omega (arith, l, m))
stand_after l (leaf_is_at m a) = leaf_is_at (omega (arith, l, m)) a
stand_after l (comment_is_at m a) = comment_is_at (omega (arith, l, m)) a

pub stand_upto : {i j k : ℕ} {ss : List ℕ} {cs : List CommentValue} {steps : List Step} → Stand i ss cs steps j → j ≤ k → Stand i ss cs steps k
stand_upto (nothing_is_at m) l = nothing_is_at (omega (arith, l, m))
stand_upto (leaf_is_at m a) l = leaf_is_at m (stand_upto a l)
stand_upto (comment_is_at m a) l = comment_is_at m (stand_upto a l)

pub stand_join : {i k j : ℕ} {ss ts : List ℕ} {cs ds : List CommentValue} {steps more : List Step} → Stand i ss cs steps k → Stand k ts ds more j
    → Stand i (ss ++ ts) (cs ++ ds) (steps ++ more) j
stand_join (nothing_is_at l) b = stand_after l b
stand_join (leaf_is_at l a) b = leaf_is_at l (stand_join a b)
stand_join (comment_is_at l a) b = comment_is_at l (stand_join a b)

-- only comments
pub ascend_stand : {t : List ℕ} {i j : ℕ} {cs : List CommentValue} → Ascend t i cs j → Stand i [] cs (comment_steps (texts cs)) j
ascend_stand (no_more l) = nothing_is_at l
ascend_stand (one_more l c a) = comment_is_at l (stand_after (omega arith) (ascend_stand a))

pub comments_stand : {t : List ℕ} {i j : ℕ} {cs : List CommentValue} {xs : List (List ℕ)} → Ascend t i cs j → texts cs ≡ xs → Stand i [] cs (comment_steps xs) j
comments_stand {i = i} {j = j} {cs = cs} a e = subst (λ w. Stand i [] cs (comment_steps w) j) e (ascend_stand a)

-- Leaves of trees.

abbrev pub starts_of : List Span → List ℕ
starts_of ss = map (λ (s : Span). s.start) ss

pub starts_append : (xs ys : List Span) → starts_of (xs ++ ys) ≡ starts_of xs ++ starts_of ys
starts_append xs ys = map-append (λ (s : Span). s.start) xs ys

leaves_join : {i k j : ℕ} (xs ys : List Span) → Stand i (starts_of xs) [] (leaf_steps xs) k → Stand k (starts_of ys) [] (leaf_steps ys) j
    → Stand i (starts_of (xs ++ ys)) [] (leaf_steps (xs ++ ys)) j
leaves_join {i} {k} {j} xs ys a b =
    subst (λ w. Stand i (starts_of (xs ++ ys)) [] w j) (sym (map-append (λ (s : Span). a_leaf) xs ys))
    (subst (λ w. Stand i w [] (leaf_steps xs ++ leaf_steps ys) j) (sym (map-append (λ (s : Span). s.start) xs ys)) (stand_join a b))

leaf_stand : {i j : ℕ} (a b : ℕ) (o : Option Span) → o ≡ from_to a b → i ≤ a → a ≤ j → Stand i (starts_of (spans_of_leaf o)) [] (leaf_steps (spans_of_leaf o)) j
unfolding from_to
leaf_stand {i} {j} a b o e l m = subst (λ w. Stand i (starts_of (spans_of_leaf w)) [] (leaf_steps (spans_of_leaf w)) j) (sym e) (leaf_is_at l (nothing_is_at m))

mutual
  pub node_stand : {t : List ℕ} {i j : ℕ} {x : Node} → NodeIsAt t i j x → Stand i (starts_of (leaves x)) [] (leaf_steps (leaves x)) j
  node_stand {i = i} {j = j} (is_at_nowhere m e) = subst (λ w. Stand i (starts_of (spans_of_leaf w)) [] (leaf_steps (spans_of_leaf w)) j) (sym e) (nothing_is_at m)
  node_stand (scalar_is_at {at = at} e b l m w s) = leaf_stand _ _ at.span e b.order (omega (arith, l, m))
  node_stand (alias_is_at {at = at} e b l m s) = leaf_stand _ _ at.span e b.order (omega (arith, l, m))
  node_stand (sequence_is_at {at = at} e b (no_items_stand l) m s) = leaf_stand _ _ at.span e b.order (let n = b.inner in omega (arith, l, m, n))
  node_stand (sequence_is_at e b (item_is_at f q l a c) m s) = stand_after (let o = b.order in let n = b.inner in omega (arith, o, n)) (stand_upto (items_stand (item_is_at f q l a c)) m)
  node_stand (mapping_is_at {at = at} e b (no_pairs_stand l) m s) = leaf_stand _ _ at.span e b.order (let n = b.inner in omega (arith, l, m, n))
  node_stand (mapping_is_at e b (pair_is_at f q l a c d g) m s) = stand_after (let o = b.order in let n = b.inner in omega (arith, o, n)) (stand_upto (pairs_stand (pair_is_at f q l a c d g)) m)

  items_stand : {t : List ℕ} {i j : ℕ} {xs : Items} → ItemsStand t i j xs → Stand i (starts_of (leaves_of_items xs)) [] (leaf_steps (leaves_of_items xs)) j
  items_stand (no_items_stand l) = nothing_is_at l
  items_stand (item_is_at {x = x} {xs = xs} f q l a c) = leaves_join (leaves x) (leaves_of_items xs) (stand_after l.order (node_stand a)) (items_stand c)

  pairs_stand : {t : List ℕ} {i j : ℕ} {ps : Pairs} → PairsStand t i j ps → Stand i (starts_of (leaves_of_pairs ps)) [] (leaf_steps (leaves_of_pairs ps)) j
  pairs_stand (no_pairs_stand l) = nothing_is_at l
  pairs_stand (pair_is_at {k = k} {v = v} {ps = ps} f q l a c d g) =
      leaves_join (leaves k) (leaves v ++ leaves_of_pairs ps) (stand_after l.order (node_stand a))
      (stand_after (colon_order c) (leaves_join (leaves v) (leaves_of_pairs ps) (node_stand d) (pairs_stand g)))

-- The starts of the leaves of events.

span_starts : (o : Option Span) → start_in true o ≡ starts_of (spans_of_leaf o)
span_starts None = refl
span_starts (Some s) = refl

starts_join : (xs ys : List Span) (zs : List ℕ) → starts_of xs ++ (starts_of ys ++ zs) ≡ starts_of (xs ++ ys) ++ zs
starts_join xs ys zs = sym (append_assoc (starts_of xs) (starts_of ys) zs) ∙ ap (λ w. w ++ zs) (sym (map-append (λ (s : Span). s.start) xs ys))

-- a collection with entries and given events
collected : (o : Option Span) (es : List EventInText) (end : EventInText) (starts : List ℕ) (rest : List EventInText) → leaf_starts (end ∷ rest) ≡ leaf_starts rest
    → ends_next (es ++ (end ∷ rest)) ≡ false → leaf_starts (es ++ (end ∷ rest)) ≡ starts ++ leaf_starts (end ∷ rest)
    → start_in (ends_next ((es ++ (end ∷ [])) ++ rest)) o ++ leaf_starts ((es ++ (end ∷ [])) ++ rest) ≡ starts ++ leaf_starts rest
collected o es end starts rest quiet begun are =
    ap (λ w. start_in (ends_next w) o ++ leaf_starts w) (append_assoc es (end ∷ []) rest)
    ∙ (ap (λ b. start_in b o ++ leaf_starts (es ++ (end ∷ rest))) begun ∙ (are ∙ ap (λ w. starts ++ w) quiet))

mutual
  pub node_starts : (x : Node) (rest : List EventInText) → leaf_starts (flat x ++ rest) ≡ starts_of (leaves x) ++ leaf_starts rest
  node_starts (scalar_tree at props style text lines) rest = ap (λ w. w ++ leaf_starts rest) (span_starts at.span)
  node_starts (alias_tree at name) rest = ap (λ w. w ++ leaf_starts rest) (span_starts at.span)
  node_starts (sequence at flow props no_items) rest = ap (λ w. w ++ leaf_starts rest) (span_starts at.span)
  node_starts (sequence at flow props (item x xs)) rest =
      let end : EventInText = unplaced sequence_ends in
      collected at.span (flat x ++ flat_items xs) end (starts_of (leaves x ++ leaves_of_items xs)) rest refl
      (ap ends_next (append_assoc (flat x) (flat_items xs) (end ∷ rest)) ∙ node_goes_on x (flat_items xs ++ (end ∷ rest))) (items_starts (item x xs) (end ∷ rest))
  node_starts (mapping at flow props no_pairs) rest = ap (λ w. w ++ leaf_starts rest) (span_starts at.span)
  node_starts (mapping at flow props (pair k v ps)) rest =
      let end : EventInText = unplaced mapping_ends in
      collected at.span (flat k ++ (flat v ++ flat_pairs ps)) end (starts_of (leaves k ++ (leaves v ++ leaves_of_pairs ps))) rest refl
      (ap ends_next (append_assoc (flat k) (flat v ++ flat_pairs ps) (end ∷ rest)) ∙ node_goes_on k ((flat v ++ flat_pairs ps) ++ (end ∷ rest))) (pairs_starts (pair k v ps) (end ∷ rest))

  items_starts : (xs : Items) (rest : List EventInText) → leaf_starts (flat_items xs ++ rest) ≡ starts_of (leaves_of_items xs) ++ leaf_starts rest
  items_starts no_items rest = refl
  items_starts (item x xs) rest =
      ap leaf_starts (append_assoc (flat x) (flat_items xs) rest) ∙ (node_starts x (flat_items xs ++ rest)
      ∙ (ap (λ w. starts_of (leaves x) ++ w) (items_starts xs rest) ∙ starts_join (leaves x) (leaves_of_items xs) (leaf_starts rest)))

  pairs_starts : (ps : Pairs) (rest : List EventInText) → leaf_starts (flat_pairs ps ++ rest) ≡ starts_of (leaves_of_pairs ps) ++ leaf_starts rest
  pairs_starts no_pairs rest = refl
  pairs_starts (pair k v ps) rest =
      ap leaf_starts (append_assoc (flat k) (flat v ++ flat_pairs ps) rest) ∙ (node_starts k ((flat v ++ flat_pairs ps) ++ rest)
      ∙ (ap (λ w. starts_of (leaves k) ++ w) (ap leaf_starts (append_assoc (flat v) (flat_pairs ps) rest) ∙ (node_starts v (flat_pairs ps ++ rest)
      ∙ (ap (λ w. starts_of (leaves v) ++ w) (pairs_starts ps rest) ∙ starts_join (leaves v) (leaves_of_pairs ps) (leaf_starts rest))))
      ∙ starts_join (leaves k) (leaves v ++ leaves_of_pairs ps) (leaf_starts rest)))

-- The meaning of a production with its leaves and comments between two offsets, in the order of steps.
pub record MeaningLaid (i j : ℕ) (m : Meaning) (steps : List Step) : Type 0 where
  pub starts : List ℕ
  pub begun : (rest : List EventInText) → ends_next (m.events ++ rest) ≡ false
  pub are : (rest : List EventInText) → leaf_starts (m.events ++ rest) ≡ starts ++ leaf_starts rest
  pub stand : Stand i starts m.comments steps j

-- from before
pub laid_after : {h i j : ℕ} {m : Meaning} {a : List Step} → h ≤ i → MeaningLaid i j m a → MeaningLaid h j m a
laid_after l x = record { starts = x.starts; begun = x.begun; are = x.are; stand = stand_after l x.stand }

pub laid_both : {i k l j : ℕ} (m n : Meaning) {a b : List Step} → MeaningLaid i k m a → MeaningLaid l j n b → k ≤ l → MeaningLaid i j (m ⊕ n) (a ++ b)
unfolding ◌⊕◌
laid_both m n x y l = record {
  starts = x.starts ++ y.starts;
  begun = λ rest. ap ends_next (append_assoc m.events n.events rest) ∙ x.begun (n.events ++ rest);
  are = λ rest. ap leaf_starts (append_assoc m.events n.events rest)
      ∙ (x.are (n.events ++ rest) ∙ (ap (λ w. x.starts ++ w) (y.are rest) ∙ sym (append_assoc x.starts y.starts (leaf_starts rest))));
  stand = stand_join x.stand (stand_after l y.stand);
}

pub laid_next : {t : List ℕ} {i k l j : ℕ} (cs : List CommentValue) {xs : List (List ℕ)} (m : Meaning) {a : List Step} → Ascend t i cs k → texts cs ≡ xs → k ≤ l → MeaningLaid l j m a
    → MeaningLaid i j (meaning_after cs m) (comment_steps xs ++ a)
unfolding meaning_after
laid_next cs m c e l x = record { starts = x.starts; begun = x.begun; are = x.are; stand = stand_join (comments_stand c e) (stand_after l x.stand) }

pub laid_noting : {t : List ℕ} {i k j : ℕ} (m : Meaning) (cs : List CommentValue) {xs : List (List ℕ)} {a : List Step} → MeaningLaid i k m a → Ascend t k cs j → texts cs ≡ xs
    → MeaningLaid i j (noting m cs) (a ++ comment_steps xs)
unfolding noting
laid_noting {i = i} {j = j} m cs {xs = xs} {a = a} x c e = record {
  starts = x.starts;
  begun = x.begun;
  are = x.are;
  stand = subst (λ w. Stand i w (m.comments ++ cs) (a ++ comment_steps xs) j) (append-nil x.starts) (stand_join x.stand (comments_stand c e));
}

entering_begun : (e : Entry) (es rest : List EventInText) → ends_next (es ++ rest) ≡ false → ends_next (first_entering e es ++ rest) ≡ false
entering_begun e [] rest h = h
entering_begun e (x ∷ es) rest h = h

entering_starts : (e : Entry) (es rest : List EventInText) → leaf_starts (first_entering e es ++ rest) ≡ leaf_starts (es ++ rest)
entering_starts e [] rest = refl
entering_starts e (x ∷ es) rest = refl

pub laid_entering : {i j : ℕ} (s : ℕ) (c : Option ℕ) (m : Meaning) {a : List Step} → MeaningLaid i j m a → MeaningLaid i j (entering s c m) a
unfolding entering
laid_entering s c m x =
    let e : Entry = record { start = s; colon = c; blank_before = false } in
    record {
      starts = x.starts;
      begun = λ rest. entering_begun e m.events rest (x.begun rest);
      are = λ rest. entering_starts e m.events rest ∙ x.are rest;
      stand = x.stand;
    }

pub laid_collection : {i j : ℕ} (sequence flow : Bool) (p q : ℕ) (m : Meaning) {a : List Step} → MeaningLaid i j m a → MeaningLaid i j (collection sequence flow p q m) a
unfolding collection plain_event from_to
laid_collection true flow p q m x = record {
  starts = x.starts;
  begun = λ rest. refl;
  are = λ rest. let end : EventInText = unplaced sequence_ends in collected (from_to p q) m.events end x.starts rest refl (x.begun (end ∷ rest)) (x.are (end ∷ rest));
  stand = x.stand;
}
laid_collection false flow p q m x = record {
  starts = x.starts;
  begun = λ rest. refl;
  are = λ rest. let end : EventInText = unplaced mapping_ends in collected (from_to p q) m.events end x.starts rest refl (x.begun (end ∷ rest)) (x.are (end ∷ rest));
  stand = x.stand;
}

pub laid_collection_with : {i j : ℕ} (props : PropsValue) (o : Option ℕ) (f g : ℕ) (sequence flow : Bool) (p q : ℕ) (m : Meaning) {a : List Step} → MeaningLaid i j m a
    → MeaningLaid i j (with_props props o f g (collection sequence flow p q m)) a
unfolding collection plain_event from_to with_props
laid_collection_with props o f g true flow p q m x = record {
  starts = x.starts;
  begun = λ rest. refl;
  are = λ rest. let end : EventInText = unplaced sequence_ends in collected (from_to f q) m.events end x.starts rest refl (x.begun (end ∷ rest)) (x.are (end ∷ rest));
  stand = x.stand;
}
laid_collection_with props o f g false flow p q m x = record {
  starts = x.starts;
  begun = λ rest. refl;
  are = λ rest. let end : EventInText = unplaced mapping_ends in collected (from_to f q) m.events end x.starts rest refl (x.begun (end ∷ rest)) (x.are (end ∷ rest));
  stand = x.stand;
}

pub laid_empty : {i j : ℕ} (k : ℕ) → i ≤ j → MeaningLaid i j (empty_node k) []
unfolding empty_node plain_event
laid_empty k l = record { starts = []; begun = λ rest. refl; are = λ rest. refl; stand = nothing_is_at l }

-- a node without comments
pub laid_node : {t : List ℕ} {i j : ℕ} {m : Meaning} (a : NodeAt t i j m) → m.comments ≡ [] → MeaningLaid i j m (leaf_steps (leaves a.node))
laid_node {i = i} {j = j} {m = m} a silent = record {
  starts = starts_of (leaves a.node);
  begun = λ rest. ap (λ w. ends_next (w ++ rest)) a.events ∙ node_goes_on a.node rest;
  are = λ rest. ap (λ w. leaf_starts (w ++ rest)) a.events ∙ node_starts a.node rest;
  stand = subst (λ cs. Stand i (starts_of (leaves a.node)) cs (leaf_steps (leaves a.node)) j) (sym silent) (stand_upto (node_stand a.is_there) a.ends);
}

-- a scalar that begins before its comments
pub laid_scalar : {t : List ℕ} {i j : ℕ} (q f : ℕ) {m : Meaning} {props : PropsValue} {style : ScalarStyle} {text : List ℕ} {lines : List (List ℕ)} {o : Option ℕ} {xs : List (List ℕ)} → i ≤ q
    → m.events ≡ record { event = scalar_node props style text; span = from_to q f; tag_offset = o; entry = None; folded = lines } ∷ [] → Ascend t q m.comments j → texts m.comments ≡ xs
    → MeaningLaid i j m (a_leaf ∷ comment_steps xs)
unfolding from_to
laid_scalar q f l e a is = record {
  starts = q ∷ [];
  begun = λ rest. ap (λ w. ends_next (w ++ rest)) e;
  are = λ rest. ap (λ w. leaf_starts (w ++ rest)) e;
  stand = leaf_is_at l (comments_stand a is);
}

pub laid_scalar_with : {t : List ℕ} {j : ℕ} (p : PropsValue) (n : Option ℕ) (q g i f : ℕ) (m : Meaning) {style : ScalarStyle} {text : List ℕ} {lines : List (List ℕ)} {o : Option ℕ} {xs : List (List ℕ)} → q ≤ i
    → m.events ≡ record { event = scalar_node no_props style text; span = from_to i f; tag_offset = o; entry = None; folded = lines } ∷ [] → Ascend t i m.comments j → texts m.comments ≡ xs
    → MeaningLaid q j (with_props p n q g m) (a_leaf ∷ comment_steps xs)
unfolding from_to with_props
laid_scalar_with p n q g i f m l e a is = record {
  starts = q ∷ [];
  begun = λ rest. ap (λ w. ends_next (first_with p n q g w ++ rest)) e;
  are = λ rest. ap (λ w. leaf_starts (first_with p n q g w ++ rest)) e;
  stand = leaf_is_at (omega arith) (stand_after l (comments_stand a is));
}

-- Events, and comments beside them.
pub record EventsLaid (i j : ℕ) (es : List EventInText) (cs : List CommentValue) (steps : List Step) : Type 0 where
  pub starts : List ℕ
  pub are : (rest : List EventInText) → leaf_starts (es ++ rest) ≡ starts ++ leaf_starts rest
  pub stand : Stand i starts cs steps j

-- with comments before them
pub events_after : {i k j : ℕ} {es : List EventInText} {cs ds : List CommentValue} {a b : List Step} → Stand i [] cs a k → EventsLaid k j es ds b → EventsLaid i j es (cs ++ ds) (a ++ b)
events_after c x = record { starts = x.starts; are = x.are; stand = stand_join c x.stand }
