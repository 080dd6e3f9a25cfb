-- Notes on blank lines change neither the nodes of a tree nor their offsets.
use Rattle.std.proofs.Common.{◌≡◌, ℕ, Bool, List, [], ◌∷◌, ◌++◌, Option, Some, None, refl, sym, ap, ◌∙◌, subst, append_assoc}
use Rattle.std.specs.Prelude.{is_some}
use Rattle.yf_chars.proofs.Tests.{same_value}
use Rattle.yf_events.specs.Alike.{Alike, alike_scalars, alike_aliases, alike_sequences, alike_mappings, AlikeItems, alike_nothing, alike_item, AlikePairs, alike_no_pairs, alike_pair}
use Rattle.yf_events.specs.Event.{EventInText, sequence_starts, sequence_ends, mapping_starts, mapping_ends}
use Rattle.yf_events.specs.declared.event.Entry.{Entry}
use Rattle.yf_events.specs.declared.event.ScalarStyle.TheVariants.{Plain}
use Rattle.yf_events.specs.declared.event.Span.{Span}
use Rattle.yf_events.specs.Tree.{NodeOffsets, Node, scalar as scalar_tree, alias as alias_tree, sequence, mapping, Items, no_items, item, Pairs, no_pairs, pair, placed, unplaced, standing, flat, flat_items, flat_pairs}
use Rattle.yf_props.specs.Props.{no_props}
use Rattle.yf_grammar.specs.Productions.TreesOfMeaning.{Anywhere}
use Rattle.yf_grammar.specs.Productions.ReadParts.{Noting, without_entry, with_entry}
use Rattle.yf_grammar.proofs.NodesInText.NodePlaces.{NodeIsAt, is_at_nowhere, scalar_is_at, alias_is_at, sequence_is_at, mapping_is_at, ItemsStand, no_items_stand, item_is_at, PairsStand, no_pairs_stand, pair_is_at}

-- an entry with some note
pub record KeptEntry (e : Entry) (o : Option Entry) : Type 0 where
  pub blank : Bool
  pub is : o ≡ Some (record e { blank_before = blank })

-- the first event, and the others
record NotedFirst (t : List ℕ) (e : EventInText) (rest ys : List EventInText) : Type 0 where
  at : NodeOffsets
  span : at.span ≡ e.span
  entry : (f : Entry) → e.entry ≡ Some f → KeptEntry f at.entry
  no_entry : e.entry ≡ None → at.entry ≡ None
  more : List EventInText
  floor : ℕ
  is : ys ≡ placed at e.event e.folded ∷ more
  noting : Noting t floor rest more

-- an event without an entry
pub record NotedPlain (t : List ℕ) (e : EventInText) (rest ys : List EventInText) : Type 0 where
  pub more : List EventInText
  pub floor : ℕ
  pub is : ys ≡ e ∷ more
  pub noting : Noting t floor rest more

pub record NotedNode (t : List ℕ) (i j : ℕ) (x : Node) (rest ys : List EventInText) : Type 0 where
  pub node : Node
  pub is_there : NodeIsAt t i j node
  pub alike : Alike Anywhere x node
  pub entry : (f : Entry) → (standing x).entry ≡ Some f → KeptEntry f (standing node).entry
  pub no_entry : (standing x).entry ≡ None → (standing node).entry ≡ None
  pub more : List EventInText
  pub floor : ℕ
  pub is : ys ≡ flat node ++ more
  pub noting : Noting t floor rest more

record NotedItems (t : List ℕ) (i j : ℕ) (xs : Items) (rest ys : List EventInText) : Type 0 where
  items : Items
  stand : ItemsStand t i j items
  alike : AlikeItems Anywhere xs items
  more : List EventInText
  floor : ℕ
  is : ys ≡ flat_items items ++ more
  noting : Noting t floor rest more

record NotedPairs (t : List ℕ) (i j : ℕ) (ps : Pairs) (rest ys : List EventInText) : Type 0 where
  pairs : Pairs
  stand : PairsStand t i j pairs
  alike : AlikePairs Anywhere ps pairs
  more : List EventInText
  floor : ℕ
  is : ys ≡ flat_pairs pairs ++ more
  noting : Noting t floor rest more

noted_same : (b : Bool) (e f : Entry) → e ≡ f → Some (record e { blank_before = b }) ≡ Some (record f { blank_before = b })
noted_same b e f q = λ i. Some (record { start = (q i).start; colon = (q i).colon; blank_before = b })

module _ {t : List ℕ} where
  noted_first : {floor : ℕ} {e : EventInText} {rest ys : List EventInText} → Noting t floor (e ∷ rest) ys → NotedFirst t e rest ys
  noted_first {e = e} (without_entry q n) = record {
    at = record { span = e.span; tag_offset = e.tag_offset; entry = e.entry };
    span = refl;
    entry = λ f p. absurd cc;
    no_entry = λ p. p;
    more = _;
    floor = _;
    is = refl;
    noting = n;
  }
  noted_first {e = e} (with_entry {b = b} entry q s n) = record {
    at = record { span = e.span; tag_offset = e.tag_offset; entry = Some (record entry { blank_before = b }) };
    span = refl;
    entry = λ f p. record { blank = b; is = noted_same b entry f (same_value q p) };
    no_entry = λ p. absurd cc;
    more = _;
    floor = _;
    is = refl;
    noting = n;
  }

  pub noted_plain : {floor : ℕ} {e : EventInText} {rest ys : List EventInText} → e.entry ≡ None → Noting t floor (e ∷ rest) ys → NotedPlain t e rest ys
  noted_plain p (without_entry q n) = record { more = _; floor = _; is = refl; noting = n }
  noted_plain p (with_entry entry q s n) = absurd cc

  regrouped : {floor : ℕ} {ys : List EventInText} (x y z : List EventInText) → Noting t floor ((x ++ y) ++ z) ys → Noting t floor (x ++ (y ++ z)) ys
  regrouped {floor = floor} {ys = ys} x y z n = subst (λ w. Noting t floor w ys) (append_assoc x y z) n

-- a span, or none
spanned_as : {o p : Option Span} → p ≡ o → is_some o ≡ is_some p
spanned_as e = ap is_some (sym e)

-- the joined events of a collection, of an item and of a pair

pub enclosed : (ys more more2 more3 inner : List EventInText) (first last : EventInText) → ys ≡ first ∷ more → more ≡ inner ++ more2 → more2 ≡ last ∷ more3
    → ys ≡ (first ∷ (inner ++ (last ∷ []))) ++ more3
enclosed ys more more2 more3 inner first last e f g =
    let whole : ys ≡ first ∷ (inner ++ (last ∷ more3)) = cc in whole ∙ ap (λ z. first ∷ z) (sym (append_assoc inner (last ∷ []) more3))

pub two : (ys more more2 x y : List EventInText) → ys ≡ x ++ more → more ≡ y ++ more2 → ys ≡ (x ++ y) ++ more2
two ys more more2 x y e f = let whole : ys ≡ x ++ (y ++ more2) = cc in whole ∙ sym (append_assoc x y more2)

mutual
  pub noted_node : {t : List ℕ} {i j floor : ℕ} {x : Node} {rest ys : List EventInText} → NodeIsAt t i j x → Noting t floor (flat x ++ rest) ys
      → NotedNode t i j x rest ys
  noted_node (is_at_nowhere m q) n =
      let f = noted_first n in
      record { node = scalar_tree f.at no_props Plain [] []; is_there = is_at_nowhere m (f.span ∙ q); alike = alike_scalars (spanned_as f.span); entry = f.entry; no_entry = f.no_entry; more = f.more; floor = f.floor; is = f.is; noting = f.noting }
  noted_node (scalar_is_at {props = props} {style = style} {text = text} {lines = lines} q b l m w s) n =
      let f = noted_first n in
      record { node = scalar_tree f.at props style text lines; is_there = scalar_is_at (f.span ∙ q) b l m w s; alike = alike_scalars (spanned_as f.span); entry = f.entry; no_entry = f.no_entry; more = f.more; floor = f.floor; is = f.is; noting = f.noting }
  noted_node (alias_is_at {name = name} q b l m s) n =
      let f = noted_first n in
      record { node = alias_tree f.at name; is_there = alias_is_at (f.span ∙ q) b l m s; alike = alike_aliases (spanned_as f.span); entry = f.entry; no_entry = f.no_entry; more = f.more; floor = f.floor; is = f.is; noting = f.noting }
  noted_node {rest = rest} {ys = ys} (sequence_is_at {flow = flow} {props = props} {xs = xs} q b a m s) n =
      let f = noted_first n in
      let inner = noted_items a (regrouped (flat_items xs) (unplaced sequence_ends ∷ []) rest f.noting) in
      let last = noted_plain refl inner.noting in
      record {
        node = sequence f.at flow props inner.items;
        is_there = sequence_is_at (f.span ∙ q) b inner.stand m s;
        alike = alike_sequences (spanned_as f.span) inner.alike;
        entry = f.entry;
        no_entry = f.no_entry;
        more = last.more;
        floor = last.floor;
        is = enclosed ys f.more inner.more last.more (flat_items inner.items) (placed f.at (sequence_starts flow props) []) (unplaced sequence_ends) f.is inner.is last.is;
        noting = last.noting;
      }
  noted_node {rest = rest} {ys = ys} (mapping_is_at {flow = flow} {props = props} {ps = ps} q b a m s) n =
      let f = noted_first n in
      let inner = noted_pairs a (regrouped (flat_pairs ps) (unplaced mapping_ends ∷ []) rest f.noting) in
      let last = noted_plain refl inner.noting in
      record {
        node = mapping f.at flow props inner.pairs;
        is_there = mapping_is_at (f.span ∙ q) b inner.stand m s;
        alike = alike_mappings (spanned_as f.span) inner.alike;
        entry = f.entry;
        no_entry = f.no_entry;
        more = last.more;
        floor = last.floor;
        is = enclosed ys f.more inner.more last.more (flat_pairs inner.pairs) (placed f.at (mapping_starts flow props) []) (unplaced mapping_ends) f.is inner.is last.is;
        noting = last.noting;
      }

  noted_items : {t : List ℕ} {i j floor : ℕ} {xs : Items} {rest ys : List EventInText} → ItemsStand t i j xs → Noting t floor (flat_items xs ++ rest) ys
      → NotedItems t i j xs rest ys
  noted_items (no_items_stand m) n = record { items = no_items; stand = no_items_stand m; alike = alike_nothing; more = _; floor = _; is = refl; noting = n }
  noted_items {rest = rest} {ys = ys} (item_is_at {x = x} {xs = xs} e q m a b) n =
      let first = noted_node a (regrouped (flat x) (flat_items xs) rest n) in
      let others = noted_items b first.noting in
      let entry = first.entry e q in
      record {
        items = item first.node others.items;
        stand = item_is_at (record e { blank_before = entry.blank }) entry.is m first.is_there others.stand;
        alike = alike_item first.alike others.alike;
        more = others.more;
        floor = others.floor;
        is = two ys first.more others.more (flat first.node) (flat_items others.items) first.is others.is;
        noting = others.noting;
      }

  noted_pairs : {t : List ℕ} {i j floor : ℕ} {ps : Pairs} {rest ys : List EventInText} → PairsStand t i j ps → Noting t floor (flat_pairs ps ++ rest) ys
      → NotedPairs t i j ps rest ys
  noted_pairs (no_pairs_stand m) n = record { pairs = no_pairs; stand = no_pairs_stand m; alike = alike_no_pairs; more = _; floor = _; is = refl; noting = n }
  noted_pairs {rest = rest} {ys = ys} (pair_is_at {k = k} {v = v} {ps = ps} e q m a c b d) n =
      let key = noted_node a (regrouped (flat k) (flat v ++ flat_pairs ps) rest n) in
      let value = noted_node b (regrouped (flat v) (flat_pairs ps) rest key.noting) in
      let others = noted_pairs d value.noting in
      let entry = key.entry e q.key in
      record {
        pairs = pair key.node value.node others.pairs;
        stand = pair_is_at (record e { blank_before = entry.blank }) (record { key = entry.is; value = value.no_entry q.value }) m key.is_there c value.is_there others.stand;
        alike = alike_pair key.alike value.alike tt others.alike;
        more = others.more;
        floor = others.floor;
        is = two ys key.more others.more (flat key.node) (flat value.node ++ flat_pairs others.pairs) key.is
            (two key.more value.more others.more (flat value.node) (flat_pairs others.pairs) value.is others.is);
        noting = others.noting;
      }
