-- In the normal form of trees that are in a text no comment is between the leaves of a flow collection on one line:
-- those leaves are between its brackets, and the house style allows no comment there.
use Rattle.std.proofs.Common.{◌≡◌, ℕ, ◌≤◌, Bool, true, false, true≢false, not, ◌&&◌, List, [], ◌∷◌, map, Option, None, refl, sym, ap, ◌∙◌, subst, arith}
use Rattle.std.specs.Prelude.{nat_le, nat_lt, find, if◌then◌else◌}
use Rattle.std.specs.List.{list_any}
use Rattle.std.specs.Str.{IsUtf8}
use Rattle.std.proofs.lemmas.Bool.Decides.{nat_tests}
use Rattle.std.proofs.lemmas.Bool.{or_parts}
use Rattle.yf_comments.specs.Comment.{CommentValue}
use Rattle.yf_props.specs.Props.{PropsValue}
use Rattle.yf_events.specs.declared.document.Doc.{Doc}
use Rattle.yf_events.specs.declared.event.Span.{Span}
use Rattle.yf_events.specs.Tree.{DocumentTree, NodeOffsets, Node, sequence, mapping, Items, item, Pairs, pair, leaves, leaves_of_items, leaves_of_pairs}
use Rattle.yf_grammar.specs.Productions.Meaning.{from_to}
use Rattle.yf_grammar.proofs.NodesInText.NodePlaces.{Opens, NodeIsAt, is_at_nowhere, scalar_is_at, alias_is_at, sequence_is_at, mapping_is_at, ItemsStand, no_items_stand, item_is_at, PairsStand, no_pairs_stand, pair_is_at}
use Rattle.yf_stream.proofs.Offsets.ReadingTrees.{TreesStand, no_trees_stand, tree_is_at}
use Rattle.yf_forms.specs.Nodes.ContentStart.{content_start}
use Rattle.yf_forms.specs.Nodes.OneLineFlows.{has_comment, is_within, items_may_be_kept, may_be_kept, pairs_may_be_kept}
use Rattle.yf_forms.specs.NormalForms.Normal.{LayoutSetting, Margins, fits, inner_margins, key_margins, normal_document, root_margins, settled, settled_items, settled_pairs, styled, styled_items, styled_pairs, value_margins}
use Rattle.yf_laws.proofs.Writable.StillLeaves.{ItemsStill, KeptStill, PairsStill, Still, nothing_still, one_still, more_still, between}
use Rattle.yf_laws.proofs.Writable.ContentFound.{content_found}
use Rattle.yf_laws.proofs.OfTexts.LeavesRise.{Steps, a_step, items_steps, pairs_steps, steps_order}
use Rattle.yf_laws.proofs.Trails.NodeTrails.{TreesKept, leaf_still}
use Rattle.yf_laws.proofs.NormalForms.NormalSame.{root_same, styled_same}
use Rattle.yf_laws.proofs.OfTexts.PlacedTrees.{node_placed}
use Rattle.yf_laws.proofs.NormalForms.StyledTwice.{normal_house}

-- Leaves between two offsets with no comment between them.

none_there : (k a b n o : ℕ) → k ≤ a → o ≤ b → (nat_le k n && nat_lt n b) ≡ false → (nat_lt a n && nat_lt n o) ≡ false
none_there k a b n o l m e = grind (arith, nat_tests)

none_found : (cs : List CommentValue) (k b a o : ℕ) → k ≤ a → o ≤ b → list_any (is_within k b) cs ≡ false → find (between a o) cs ≡ None
none_found [] k b a o l m e = refl
none_found (c ∷ cs) k b a o l m e =
    let parts = or_parts (is_within k b c) (list_any (is_within k b) cs) e in
    rw (none_there k a b c.offset o l m parts.0) (none_found cs k b a o l m parts.1)

still_steps : (cs : List CommentValue) {k b : ℕ} (ss : List Span) → Steps k ss b → list_any (is_within k b) cs ≡ false → Still cs ss
still_steps cs [] a n = nothing_still
still_steps cs (s ∷ []) a n = one_still
still_steps cs {k} {b} (s ∷ r ∷ ss) (a_step l w (a_step m v a)) n =
    let o = steps_order a in
    let rest : Steps k (r ∷ ss) b = a_step (omega (arith, l, w, m)) v a in
    more_still (none_found cs k b s.start r.start l (omega (arith, v, o)) n) (still_steps cs (r ∷ ss) rest n)

-- A flow collection that has no comment in it.

module _ {t : List ℕ} (u : IsUtf8 t) (cs : List CommentValue) where
  flow_still : {flow : Bool} {props : PropsValue} {i a k b : ℕ} {o : Option Span} (ss : List Span) → o ≡ from_to a b → Opens t flow props i a k b → flow ≡ true
      → has_comment t cs o props ≡ false → Steps k ss b → Still cs ss
  unfolding from_to
  flow_still {props = props} {a = a} {b = b} ss e opens q n steps =
      let there : content_start t (record { start = a; end = b }) props ≡ _ = content_found u b (opens.content q) opens.wide in
      still_steps cs ss steps (ap (λ z. list_any (is_within z b) cs) (sym there) ∙ (ap (λ w. has_comment t cs w props) (sym e) ∙ n))

pub first_two : (f n a b : Bool) → (f && not n && a && b) ≡ true → (f ≡ true) × (n ≡ false)
first_two true false a b e = (refl, refl)
first_two true true a b e = absurd (true≢false (sym e))
first_two false n a b e = absurd (true≢false (sym e))

pub first_of_three : (f n a b c : Bool) → (f && not n && a && b && c) ≡ true → (f ≡ true) × (n ≡ false)
first_of_three true false a b c e = (refl, refl)
first_of_three true true a b c e = absurd (true≢false (sym e))
first_of_three false n a b c e = absurd (true≢false (sym e))

-- Collections with entries: on one line, or not.

sequence_still : (c : LayoutSetting) (margins : Margins) (at : NodeOffsets) (k : Bool) (props : PropsValue) (x : Node) (xs : Items)
    → (k ≡ true → Still c.comments (leaves_of_items (item x xs))) → ItemsStill c.comments (settled_items c margins.entries (item x xs))
    → KeptStill c.comments (settled c margins (sequence at k props (item x xs)))
sequence_still c margins at false props x xs f g = g
sequence_still c margins at true props x xs f g = by (fits c.style margins.column (sequence at true props (item x xs))) where
  by : (p : Bool) → KeptStill c.comments (if p then sequence at true props (item x xs)
      else sequence at false props (item (settled c (inner_margins c.style margins.entries) x) (settled_items c margins.entries xs)))
  by true = f refl
  by false = g

mapping_still : (c : LayoutSetting) (margins : Margins) (at : NodeOffsets) (n : Bool) (props : PropsValue) (k v : Node) (ps : Pairs)
    → (n ≡ true → Still c.comments (leaves_of_pairs (pair k v ps))) → PairsStill c.comments (settled_pairs c margins.entries (pair k v ps))
    → KeptStill c.comments (settled c margins (mapping at n props (pair k v ps)))
mapping_still c margins at false props k v ps f g = g
mapping_still c margins at true props k v ps f g = by (fits c.style margins.column (mapping at true props (pair k v ps))) where
  by : (p : Bool) → KeptStill c.comments (if p then mapping at true props (pair k v ps)
      else mapping at false props (pair (settled c (key_margins c.style margins.entries k) k) (settled c (value_margins c margins.entries k v) v) (settled_pairs c margins.entries ps)))
  by true = f refl
  by false = g

module _ {t : List ℕ} (u : IsUtf8 t) (c : LayoutSetting) where
  mutual
    node_still : {i j : ℕ} {x : Node} (margins : Margins) → NodeIsAt t i j x → KeptStill c.comments (settled c margins (styled t c x))
    node_still margins (is_at_nowhere m e) = tt
    node_still margins (scalar_is_at e b l m w s) = tt
    node_still margins (alias_is_at e b l m s) = tt
    node_still margins (sequence_is_at {at = at} e b (no_items_stand l) m s) = leaf_still c.comments at.span
    node_still margins (sequence_is_at {at = at} {flow = flow} {props = props} e b (item_is_at {x = x} {xs = xs} f q l a r) m s) =
        let whole : Node = sequence at flow props (item x xs) in
        let same : leaves (styled t c whole) ≡ leaves whole = (styled_same t c whole).leaves in
        sequence_still c margins at (may_be_kept t c.comments whole) props (styled t c x) (styled_items t c xs)
        (λ z.
        let parts = first_two flow (has_comment t c.comments at.span props) (may_be_kept t c.comments x) (items_may_be_kept t c.comments xs) z in
        subst (λ ss. Still c.comments ss) (sym same) (flow_still u c.comments (leaves whole) e b parts.0 parts.1 (items_steps (item_is_at f q l a r))))
        (items_still margins.entries (item_is_at f q l a r))
    node_still margins (mapping_is_at {at = at} e b (no_pairs_stand l) m s) = leaf_still c.comments at.span
    node_still margins (mapping_is_at {at = at} {flow = flow} {props = props} e b (pair_is_at {k = k} {v = v} {ps = ps} f q l a d g r) m s) =
        let whole : Node = mapping at flow props (pair k v ps) in
        let same : leaves (styled t c whole) ≡ leaves whole = (styled_same t c whole).leaves in
        mapping_still c margins at (may_be_kept t c.comments whole) props (styled t c k) (styled t c v) (styled_pairs t c ps)
        (λ z.
        let parts = first_of_three flow (has_comment t c.comments at.span props) (may_be_kept t c.comments k) (may_be_kept t c.comments v)
        (pairs_may_be_kept t c.comments ps) z in
        subst (λ ss. Still c.comments ss) (sym same) (flow_still u c.comments (leaves whole) e b parts.0 parts.1 (pairs_steps (pair_is_at f q l a d g r))))
        (pairs_still margins.entries (pair_is_at f q l a d g r))

    items_still : {i j : ℕ} {xs : Items} (column : ℕ) → ItemsStand t i j xs → ItemsStill c.comments (settled_items c column (styled_items t c xs))
    items_still column (no_items_stand l) = tt
    items_still column (item_is_at f q l a r) = (node_still (inner_margins c.style column) a, items_still column r)

    pairs_still : {i j : ℕ} {ps : Pairs} (column : ℕ) → PairsStand t i j ps → PairsStill c.comments (settled_pairs c column (styled_pairs t c ps))
    pairs_still column (no_pairs_stand l) = tt
    pairs_still column (pair_is_at {k = k} {v = v} f q l a d g r) =
        (node_still (key_margins c.style column (styled t c k)) a, (node_still (value_margins c column (styled t c k) (styled t c v)) g, pairs_still column r))

  -- for the documents of a stream
  pub trees_kept : {i : ℕ} {ds : List Doc} {trees : List DocumentTree} → TreesStand t i ds trees → TreesKept c (map (normal_document t c) trees)
  trees_kept (no_trees_stand l) = tt
  trees_kept (tree_is_at {tree = tree} d a b z) =
      (((root_same t c tree).placed ∙ node_placed a, (normal_house t c (root_margins c.style) tree.root, node_still (root_margins c.style) a)), trees_kept b)
