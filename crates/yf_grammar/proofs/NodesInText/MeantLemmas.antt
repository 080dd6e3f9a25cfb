-- The trees of a production's parts make up the tree of the production.
use Rattle.std.proofs.Common.{◌≡◌, ℕ, Bool, true, false, List, [], ◌∷◌, ◌++◌, Option, Some, None, refl, sym, ap, ◌∙◌, subst, append_assoc, append-nil}
use Rattle.std.specs.Prelude.{is_some}
use Rattle.yf_comments.specs.Comment.{CommentValue}
use Rattle.yf_comments.proofs.GapLinesLemmas.{texts, texts_append}
use Rattle.yf_props.specs.Props.{PropsValue, no_props}
use Rattle.yf_events.specs.Alike.{Alike, alike_scalars, alike_aliases, alike_sequences, alike_mappings, alike_nothing, alike_item, alike_no_pairs, alike_pair}
use Rattle.yf_events.specs.Event.{sequence_starts, sequence_ends, mapping_starts, mapping_ends}
use Rattle.yf_events.specs.declared.event.Entry.{Entry}
use Rattle.yf_events.specs.declared.event.ScalarStyle.TheVariants.{Plain}
use Rattle.yf_events.specs.Tree.{NodeOffsets, Node, scalar as scalar_tree, alias as alias_tree, sequence, mapping, Items, no_items, item, Pairs, no_pairs, pair, placed, unplaced, flat}
use Rattle.yf_grammar.specs.Productions.Meaning.{Meaning, ◌⊕◌, meaning_after, noting, plain_event, from_to, empty_node, collection, with_props, first_entering, entering}
use Rattle.yf_grammar.specs.Productions.TreesOfMeaning.{Anywhere, MeansTrees, ItemsMeant, PairsMeant}

-- Comments.

pub after_comments : (cs : List CommentValue) (x : Meaning) → (meaning_after cs x).comments ≡ cs ++ x.comments
unfolding meaning_after
after_comments cs x = refl

pub noting_comments : (x : Meaning) (cs : List CommentValue) → (noting x cs).comments ≡ x.comments ++ cs
unfolding noting
noting_comments x cs = refl

pub texts_both : (x y : Meaning) → texts (x ⊕ y).comments ≡ texts x.comments ++ texts y.comments
unfolding ◌⊕◌
texts_both x y = texts_append x.comments y.comments

pub texts_after : (cs : List CommentValue) (x : Meaning) → texts (meaning_after cs x).comments ≡ texts cs ++ texts x.comments
unfolding meaning_after
texts_after cs x = texts_append cs x.comments

pub texts_noting : (x : Meaning) (cs : List CommentValue) → texts (noting x cs).comments ≡ texts x.comments ++ texts cs
unfolding noting
texts_noting x cs = texts_append x.comments cs

pub texts_entering : (i : ℕ) (c : Option ℕ) (x : Meaning) → texts (entering i c x).comments ≡ texts x.comments
unfolding entering
texts_entering i c x = refl

pub texts_collection : (s f : Bool) (i j : ℕ) (x : Meaning) → texts (collection s f i j x).comments ≡ texts x.comments
unfolding collection
texts_collection s f i j x = refl

pub texts_with_props : (p : PropsValue) (o : Option ℕ) (i j : ℕ) (x : Meaning) → texts (with_props p o i j x).comments ≡ texts x.comments
unfolding with_props
texts_with_props p o i j x = refl

pub texts_empty : (i : ℕ) → texts (empty_node i).comments ≡ []
unfolding empty_node
texts_empty i = refl

-- Nodes.

pub meant_after : {x : Node} {m : Meaning} (cs : List CommentValue) → MeansTrees x m → MeansTrees x (meaning_after cs m)
unfolding meaning_after
meant_after cs a = record { node = a.node; alike = a.alike; events = a.events; escapes = a.escapes }

pub meant_noting : {x : Node} {m : Meaning} (cs : List CommentValue) → MeansTrees x m → MeansTrees x (noting m cs)
unfolding noting
meant_noting cs a = record { node = a.node; alike = a.alike; events = a.events; escapes = a.escapes }

-- the entry that it begins
abbrev pub entered : Entry → Node → Node
entered e (scalar_tree at props style text lines) = scalar_tree (record at { entry = Some e }) props style text lines
entered e (alias_tree at name) = alias_tree (record at { entry = Some e }) name
entered e (sequence at flow props xs) = sequence (record at { entry = Some e }) flow props xs
entered e (mapping at flow props ps) = mapping (record at { entry = Some e }) flow props ps

pub entered_events : (e : Entry) (x : Node) → first_entering e (flat x) ≡ flat (entered e x)
entered_events e (scalar_tree at props style text lines) = refl
entered_events e (alias_tree at name) = refl
entered_events e (sequence at flow props xs) = refl
entered_events e (mapping at flow props ps) = refl

pub entered_alike : {x y : Node} (e : Entry) → Alike Anywhere x y → Alike Anywhere x (entered e y)
entered_alike e (alike_scalars a) = alike_scalars a
entered_alike e (alike_aliases a) = alike_aliases a
entered_alike e (alike_sequences a b) = alike_sequences a b
entered_alike e (alike_mappings a b) = alike_mappings a b

pub meant_entering : {x : Node} {m : Meaning} (i : ℕ) (c : Option ℕ) → MeansTrees x m → MeansTrees x (entering i c m)
unfolding entering
meant_entering i c a =
    let entry : Entry = record { start = i; colon = c; blank_before = false } in
    record {
      node = entered entry a.node;
      alike = entered_alike entry a.alike;
      events = ap (first_entering entry) a.events ∙ entered_events entry a.node;
      escapes = a.escapes;
    }

pub meant_nothing : {at : NodeOffsets} {lines : List (List ℕ)} (i : ℕ) → is_some at.span ≡ false → lines ≡ [] → MeansTrees (scalar_tree at no_props Plain [] lines) (empty_node i)
unfolding empty_node plain_event
meant_nothing {at} i e l = subst (λ ls. MeansTrees (scalar_tree at no_props Plain [] ls) (empty_node i)) (sym l) (record {
  node = scalar_tree (record { span = None; tag_offset = None; entry = None }) no_props Plain [] [];
  alike = alike_scalars e;
  events = refl;
  escapes = refl;
})

-- Items and pairs.

pub last_item_meant : {x : Node} {m : Meaning} → MeansTrees x m → ItemsMeant (item x no_items) m
last_item_meant a = record {
  items = item a.node no_items;
  alike = alike_item a.alike alike_nothing;
  events = a.events ∙ sym (append-nil (flat a.node));
  escapes = a.escapes;
}

pub more_items_meant : {x : Node} {xs : Items} {m n : Meaning} → MeansTrees x m → ItemsMeant xs n → ItemsMeant (item x xs) (m ⊕ n)
unfolding ◌⊕◌
more_items_meant {n = n} a b = record {
  items = item a.node b.items;
  alike = alike_item a.alike b.alike;
  events = ap (λ z. z ++ n.events) a.events ∙ ap (λ z. flat a.node ++ z) b.events;
  escapes = ap (λ z. z ++ n.escapes) a.escapes ∙ b.escapes;
}

pub last_pair_meant : {k v : Node} {m n : Meaning} → MeansTrees k m → MeansTrees v n → PairsMeant (pair k v no_pairs) (m ⊕ n)
unfolding ◌⊕◌
last_pair_meant {n = n} a b = record {
  pairs = pair a.node b.node no_pairs;
  alike = alike_pair a.alike b.alike tt alike_no_pairs;
  events = ap (λ z. z ++ n.events) a.events ∙ ap (λ z. flat a.node ++ z) (b.events ∙ sym (append-nil (flat b.node)));
  escapes = ap (λ z. z ++ n.escapes) a.escapes ∙ b.escapes;
}

pub more_pairs_meant : {k v : Node} {ps : Pairs} {m n o : Meaning} → MeansTrees k m → MeansTrees v n → PairsMeant ps o → PairsMeant (pair k v ps) (m ⊕ n ⊕ o)
unfolding ◌⊕◌
more_pairs_meant {m = m} {n = n} {o = o} a b c = record {
  pairs = pair a.node b.node c.pairs;
  alike = alike_pair a.alike b.alike tt c.alike;
  events = append_assoc m.events n.events o.events
      ∙ (ap (λ z. z ++ (n.events ++ o.events)) a.events ∙ ap (λ z. flat a.node ++ z) (ap (λ z. z ++ o.events) b.events ∙ ap (λ z. flat b.node ++ z) c.events));
  escapes = append_assoc m.escapes n.escapes o.escapes ∙ (ap (λ z. z ++ (n.escapes ++ o.escapes)) a.escapes ∙ (ap (λ z. z ++ o.escapes) b.escapes ∙ c.escapes));
}

-- Collections, in flow style or not, with properties or without.

abbrev spanned : ℕ → ℕ → Option ℕ → NodeOffsets
spanned i j o = record { span = from_to i j; tag_offset = o; entry = None }

pub sequence_meant : {at : NodeOffsets} {xs : Items} {m : Meaning} (flow : Bool) (i j : ℕ) → is_some at.span ≡ true → ItemsMeant xs m
    → MeansTrees (sequence at flow no_props xs) (collection true flow i j m)
unfolding collection plain_event from_to
sequence_meant flow i j e a = record {
  node = sequence (spanned i j None) flow no_props a.items;
  alike = alike_sequences e a.alike;
  events = ap (λ z. placed (spanned i j None) (sequence_starts flow no_props) [] ∷ (z ++ (unplaced sequence_ends ∷ []))) a.events;
  escapes = a.escapes;
}

pub mapping_meant : {at : NodeOffsets} {ps : Pairs} {m : Meaning} (flow : Bool) (i j : ℕ) → is_some at.span ≡ true → PairsMeant ps m
    → MeansTrees (mapping at flow no_props ps) (collection false flow i j m)
unfolding collection plain_event from_to
mapping_meant flow i j e a = record {
  node = mapping (spanned i j None) flow no_props a.pairs;
  alike = alike_mappings e a.alike;
  events = ap (λ z. placed (spanned i j None) (mapping_starts flow no_props) [] ∷ (z ++ (unplaced mapping_ends ∷ []))) a.events;
  escapes = a.escapes;
}

pub sequence_with_meant : {at : NodeOffsets} {xs : Items} {m : Meaning} (flow : Bool) (p : PropsValue) (o : Option ℕ) (f g i j : ℕ) → is_some at.span ≡ true → ItemsMeant xs m
    → MeansTrees (sequence at flow p xs) (with_props p o f g (collection true flow i j m))
unfolding collection plain_event from_to with_props
sequence_with_meant flow p o f g i j e a = record {
  node = sequence (spanned f j o) flow p a.items;
  alike = alike_sequences e a.alike;
  events = ap (λ z. placed (spanned f j o) (sequence_starts flow p) [] ∷ (z ++ (unplaced sequence_ends ∷ []))) a.events;
  escapes = a.escapes;
}

pub mapping_with_meant : {at : NodeOffsets} {ps : Pairs} {m : Meaning} (flow : Bool) (p : PropsValue) (o : Option ℕ) (f g i j : ℕ) → is_some at.span ≡ true → PairsMeant ps m
    → MeansTrees (mapping at flow p ps) (with_props p o f g (collection false flow i j m))
unfolding collection plain_event from_to with_props
mapping_with_meant flow p o f g i j e a = record {
  node = mapping (spanned f j o) flow p a.pairs;
  alike = alike_mappings e a.alike;
  events = ap (λ z. placed (spanned f j o) (mapping_starts flow p) [] ∷ (z ++ (unplaced mapping_ends ∷ []))) a.events;
  escapes = a.escapes;
}
