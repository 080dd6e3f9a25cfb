-- Notes on blank lines keep the nodes of a tree, with their offsets and the starts of their entries.
use Rattle.std.proofs.Common.{◌≡◌, ℕ, Bool, false, List, [], ◌∷◌, ◌++◌, Option, Some, None, refl, sym, ap, ◌∙◌, subst, append_assoc}
use Rattle.yf_props.specs.Props.{PropsValue}
use Rattle.yf_events.specs.Event.{EventInText, sequence_starts, sequence_ends, mapping_starts, mapping_ends, scalar_node, alias_node}
use Rattle.yf_events.specs.declared.event.Entry.{Entry}
use Rattle.yf_events.specs.declared.event.ScalarStyle.{ScalarStyle}
use Rattle.yf_events.specs.Tree.{NodeOffsets, Node, scalar as scalar_tree, alias as alias_tree, sequence, mapping, Items, no_items, item, Pairs, no_pairs, pair, placed, unplaced, standing, flat, flat_items, flat_pairs}
use Rattle.yf_grammar.specs.Productions.ReadParts.{Noting, without_entry, with_entry}
use Rattle.yf_grammar.proofs.NodesInText.NotedNodes.{noted_plain, enclosed, two}

-- an entry with some note, or none
pub data SameEntry (o p : Option Entry) : Type 0 where
  no_entry : o ≡ None → p ≡ None → SameEntry o p
  same_entry : (e : Entry) (b : Bool) → o ≡ Some e → p ≡ Some (record e { blank_before = b }) → SameEntry o p

-- the offsets of a node
pub record SameStanding (at bt : NodeOffsets) : Type 0 where
  pub span : at.span ≡ bt.span
  pub entry : SameEntry at.entry bt.entry

mutual
  pub data Kept : Node → Node → Type 0 where
    kept_scalar : {at bt : NodeOffsets} {props : PropsValue} {style : ScalarStyle} {text : List ℕ} {lines : List (List ℕ)} → SameStanding at bt
        → Kept (scalar_tree at props style text lines) (scalar_tree bt props style text lines)
    kept_alias : {at bt : NodeOffsets} {name : List ℕ} → SameStanding at bt → Kept (alias_tree at name) (alias_tree bt name)
    kept_sequence : {at bt : NodeOffsets} {flow : Bool} {props : PropsValue} {xs ys : Items} → SameStanding at bt → KeptItems xs ys → Kept (sequence at flow props xs) (sequence bt flow props ys)
    kept_mapping : {at bt : NodeOffsets} {flow : Bool} {props : PropsValue} {ps qs : Pairs} → SameStanding at bt → KeptPairs ps qs → Kept (mapping at flow props ps) (mapping bt flow props qs)

  pub data KeptItems : Items → Items → Type 0 where
    kept_no_items : KeptItems no_items no_items
    kept_item : {x y : Node} {xs ys : Items} → Kept x y → KeptItems xs ys → KeptItems (item x xs) (item y ys)

  pub data KeptPairs : Pairs → Pairs → Type 0 where
    kept_no_pairs : KeptPairs no_pairs no_pairs
    kept_pair : {k v l w : Node} {ps qs : Pairs} → Kept k l → Kept v w → KeptPairs ps qs → KeptPairs (pair k v ps) (pair l w qs)

pub kept_standing : {x y : Node} → Kept x y → SameStanding (standing x) (standing y)
kept_standing (kept_scalar s) = s
kept_standing (kept_alias s) = s
kept_standing (kept_sequence s a) = s
kept_standing (kept_mapping s a) = s

-- Events and their notes.

record KeptFirst (t : List ℕ) (at : NodeOffsets) (e : EventInText) (rest ys : List EventInText) : Type 0 where
  standing : NodeOffsets
  same : SameStanding at standing
  more : List EventInText
  floor : ℕ
  is : ys ≡ placed standing e.event e.folded ∷ more
  noting : Noting t floor rest more

pub record KeptNode (t : List ℕ) (x : Node) (rest ys : List EventInText) : Type 0 where
  pub node : Node
  pub kept : Kept x node
  pub more : List EventInText
  pub floor : ℕ
  pub is : ys ≡ flat node ++ more
  pub noting : Noting t floor rest more

record KeptItemList (t : List ℕ) (xs : Items) (rest ys : List EventInText) : Type 0 where
  items : Items
  kept : KeptItems xs items
  more : List EventInText
  floor : ℕ
  is : ys ≡ flat_items items ++ more
  noting : Noting t floor rest more

record KeptPairList (t : List ℕ) (ps : Pairs) (rest ys : List EventInText) : Type 0 where
  pairs : Pairs
  kept : KeptPairs ps pairs
  more : List EventInText
  floor : ℕ
  is : ys ≡ flat_pairs pairs ++ more
  noting : Noting t floor rest more

kept_first : {t : List ℕ} {floor : ℕ} {at : NodeOffsets} {e : EventInText} {rest ys : List EventInText} → e.span ≡ at.span → e.entry ≡ at.entry → Noting t floor (e ∷ rest) ys → KeptFirst t at e rest ys
kept_first {e = e} span entry (without_entry q n) = record {
  standing = record { span = e.span; tag_offset = e.tag_offset; entry = e.entry };
  same = record { span = sym span; entry = no_entry (sym entry ∙ q) q };
  more = _;
  floor = _;
  is = refl;
  noting = n;
}
kept_first {e = e} span entry (with_entry {b = b} f q s n) = record {
  standing = record { span = e.span; tag_offset = e.tag_offset; entry = Some (record f { blank_before = b }) };
  same = record { span = sym span; entry = same_entry f b (sym entry ∙ q) refl };
  more = _;
  floor = _;
  is = refl;
  noting = n;
}

regrouped : {t : List ℕ} {floor : ℕ} {ys : List EventInText} (x y z : List EventInText) → Noting t floor ((x ++ y) ++ z) ys → Noting t floor (x ++ (y ++ z)) ys
regrouped {t} {floor} {ys} x y z n = subst (λ w. Noting t floor w ys) (append_assoc x y z) n

mutual
  pub kept_node : {t : List ℕ} {floor : ℕ} {rest ys : List EventInText} (x : Node) → Noting t floor (flat x ++ rest) ys → KeptNode t x rest ys
  kept_node (scalar_tree at props style text lines) n =
      let f = kept_first {at = at} refl refl n in
      record { node = scalar_tree f.standing props style text lines; kept = kept_scalar f.same; more = f.more; floor = f.floor; is = f.is; noting = f.noting }
  kept_node (alias_tree at name) n =
      let f = kept_first {at = at} refl refl n in
      record { node = alias_tree f.standing name; kept = kept_alias f.same; more = f.more; floor = f.floor; is = f.is; noting = f.noting }
  kept_node {rest = rest} {ys = ys} (sequence at flow props xs) n =
      let f = kept_first {at = at} refl refl n in
      let inner = kept_items xs (regrouped (flat_items xs) (unplaced sequence_ends ∷ []) rest f.noting) in
      let last = noted_plain refl inner.noting in
      record {
        node = sequence f.standing flow props inner.items;
        kept = kept_sequence f.same inner.kept;
        more = last.more;
        floor = last.floor;
        is = enclosed ys f.more inner.more last.more (flat_items inner.items) (placed f.standing (sequence_starts flow props) []) (unplaced sequence_ends) f.is inner.is last.is;
        noting = last.noting;
      }
  kept_node {rest = rest} {ys = ys} (mapping at flow props ps) n =
      let f = kept_first {at = at} refl refl n in
      let inner = kept_pairs ps (regrouped (flat_pairs ps) (unplaced mapping_ends ∷ []) rest f.noting) in
      let last = noted_plain refl inner.noting in
      record {
        node = mapping f.standing flow props inner.pairs;
        kept = kept_mapping f.same inner.kept;
        more = last.more;
        floor = last.floor;
        is = enclosed ys f.more inner.more last.more (flat_pairs inner.pairs) (placed f.standing (mapping_starts flow props) []) (unplaced mapping_ends) f.is inner.is last.is;
        noting = last.noting;
      }

  kept_items : {t : List ℕ} {floor : ℕ} {rest ys : List EventInText} (xs : Items) → Noting t floor (flat_items xs ++ rest) ys → KeptItemList t xs rest ys
  kept_items no_items n = record { items = no_items; kept = kept_no_items; more = _; floor = _; is = refl; noting = n }
  kept_items {rest = rest} {ys = ys} (item x xs) n =
      let first = kept_node x (regrouped (flat x) (flat_items xs) rest n) in
      let others = kept_items xs first.noting in
      record {
        items = item first.node others.items;
        kept = kept_item first.kept others.kept;
        more = others.more;
        floor = others.floor;
        is = two ys first.more others.more (flat first.node) (flat_items others.items) first.is others.is;
        noting = others.noting;
      }

  kept_pairs : {t : List ℕ} {floor : ℕ} {rest ys : List EventInText} (ps : Pairs) → Noting t floor (flat_pairs ps ++ rest) ys → KeptPairList t ps rest ys
  kept_pairs no_pairs n = record { pairs = no_pairs; kept = kept_no_pairs; more = _; floor = _; is = refl; noting = n }
  kept_pairs {rest = rest} {ys = ys} (pair k v ps) n =
      let key = kept_node k (regrouped (flat k) (flat v ++ flat_pairs ps) rest n) in
      let value = kept_node v (regrouped (flat v) (flat_pairs ps) rest key.noting) in
      let others = kept_pairs ps value.noting in
      record {
        pairs = pair key.node value.node others.pairs;
        kept = kept_pair key.kept value.kept others.kept;
        more = others.more;
        floor = others.floor;
        is = two ys key.more others.more (flat key.node) (flat value.node ++ flat_pairs others.pairs) key.is
            (two key.more value.more others.more (flat value.node) (flat_pairs others.pairs) value.is others.is);
        noting = others.noting;
      }
