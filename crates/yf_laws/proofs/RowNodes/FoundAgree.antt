-- Nodes that are found on quiet rows: no comment is within a flow collection, and a comment trails a key if and only if
-- one trailed it when it was laid out.
use Rattle.std.proofs.Common.{◌≡◌, ℕ, ◌<◌, ◌≤◌, Bool, true, false, ◌&&◌, ◌||◌, List, [], ◌∷◌, Option, Some, None, refl, sym, ap, ◌∙◌, arith, ◌⊎◌, inl, inr, ⊎_elim, true≢false}
use Rattle.std.specs.Prelude.{is_some, nat_lt, nat_le, find, if◌then◌else◌}
use Rattle.std.specs.List.{list_any}
use Rattle.std.proofs.lemmas.Bool.Decides.{nat_tests}
use Rattle.yf_comments.specs.Comment.{CommentValue}
use Rattle.yf_props.specs.Props.{PropsValue}
use Rattle.yf_events.specs.declared.event.Span.{Span}
use Rattle.yf_events.specs.Tree.{Node, scalar, alias, sequence, mapping, Items, no_items, item, Pairs, no_pairs, pair, leaves, is_text, is_filled_flow, is_block_collection}
use Rattle.yf_grammar.specs.Productions.Meaning.{from_to}
use Rattle.yf_grammar.proofs.NodesInText.NodePlaces.{NodeIsAt, is_at_nowhere, scalar_is_at, alias_is_at, sequence_is_at, mapping_is_at, ItemsStand, no_items_stand, item_is_at, PairsStand, no_pairs_stand, pair_is_at, node_order, items_order, pairs_order, colon_order}
use Rattle.yf_forms.specs.declared.style.Style.{Style}
use Rattle.yf_forms.specs.Nodes.ContentStart.{content_start}
use Rattle.yf_forms.specs.Nodes.OneLineFlows.{has_comment, is_within}
use Rattle.yf_forms.specs.NormalForms.Normal.{LayoutSetting, Margins, key_start, last_start}
use Rattle.yf_forms.proofs.Texts.GapLemmas.{content_later}
use Rattle.yf_laws.specs.Nodes.FlowsWithoutComments.{Undisturbed, undisturbed_scalar, undisturbed_alias, undisturbed_sequence, undisturbed_mapping, UndisturbedItems, undisturbed_end, undisturbed_item, UndisturbedPairs, undisturbed_last, undisturbed_pair}
use Rattle.yf_laws.proofs.SameReading.CommentsCut.{In, in_first, in_rest, Each, each_none, each_more, each_map}
use Rattle.yf_laws.proofs.RowNodes.FoundLines.{leaves_inside}
use Rattle.yf_laws.proofs.RowNodes.FoundNodes.{SignRows, sign_alone, sign_joined, KeyRows, key_commented, key_above, key_alone, key_joined, KeyOn, key_on, NodeRows, no_rows, line_rows, scalar_rows, sequence_rows, sequence_after, mapping_rows, mapping_after, ItemsRows, no_item_rows, item_rows, PairRows, explicit_rows, implicit_rows, PairsRows, no_pair_rows, pair_rows}
use Rattle.yf_laws.proofs.RowNodes.PlacedRows.{Inside, one_inside, inside_wider, PlacedRow}
use Rattle.yf_laws.proofs.RowNodes.QuietPlaces.{Quiet, AllQuiet, quiet_none, quiet_row, TrailsTo, trails_nothing, trails_to, Linked, linked_none, linked_row, quiet_left, quiet_right}
use Rattle.yf_laws.proofs.Derived.StepsInText.{starts_of}

-- Rows of parts.

quiet_inner : {cs : List CommentValue} (h p : PlacedRow) → h.from ≤ p.from → p.upto ≡ h.upto → Quiet cs h → Quiet cs p
quiet_inner h p l e a = each_map (λ d i m. ⊎_elim (λ (z : d.offset < h.from). inl (omega (arith, l, z))) (λ (z : h.upto ≤ d.offset). inr (omega (arith, e, z))) m) a

trails_inner : {cs : List CommentValue} {ps : List PlacedRow} (h p : PlacedRow) → p.upto ≡ h.upto → TrailsTo cs h ps → TrailsTo cs p ps
trails_inner h p e trails_nothing = trails_nothing
trails_inner h p e (trails_to d i l m) = trails_to d i (omega (arith, e, l)) m

pub sign_quiet : {t : List ℕ} {cs : List CommentValue} {items : List ℕ} {ps hs : List PlacedRow} → SignRows t items ps hs → AllQuiet cs hs → AllQuiet cs ps
sign_quiet (sign_alone e f g w) a = quiet_none
sign_quiet (sign_joined {h = h} {p = p} e f g l m o w) (quiet_row q a) = quiet_row (quiet_inner h p l m q) a

pub sign_linked : {t : List ℕ} {cs : List CommentValue} {items : List ℕ} {ps hs : List PlacedRow} → SignRows t items ps hs → Linked cs hs → Linked cs ps
sign_linked (sign_alone e f g w) a = linked_none
sign_linked (sign_joined {h = h} {p = p} e f g l m o w) (linked_row q a) = linked_row (λ z. trails_inner h p m (q (g ∙ z))) a

pub key_quiet : {t : List ℕ} {cs : List CommentValue} {items : List ℕ} {ls : List Span} {b below : Bool} {ps hs : List PlacedRow} → KeyRows t items ls b below ps hs → AllQuiet cs hs → AllQuiet cs ps
key_quiet (key_commented e f g) (quiet_row q a) = a
key_quiet (key_above e f g) (quiet_row q a) = a
key_quiet (key_alone e f g) (quiet_row q a) = a
key_quiet (key_joined {h = h} {p = p} e f g l m o) (quiet_row q a) = quiet_row (quiet_inner h p l m q) a

pub key_linked : {t : List ℕ} {cs : List CommentValue} {items : List ℕ} {ls : List Span} {b below : Bool} {ps hs : List PlacedRow} → KeyRows t items ls b below ps hs → Linked cs hs → Linked cs ps
key_linked (key_commented e f g) (linked_row q a) = a
key_linked (key_above e f g) (linked_row q a) = a
key_linked (key_alone e f g) (linked_row q a) = a
key_linked (key_joined {h = h} {p = p} e f g l m o) (linked_row q a) = linked_row (λ z. trails_inner h p m (q (g ∙ z))) a

-- Flow collections.

-- no comment is between two offsets
abbrev pub NoneIn : List CommentValue → ℕ → ℕ → Type 0
NoneIn cs i j = Each (λ d. (d.offset < i) ⊎ (j ≤ d.offset)) cs

none_narrow : {cs : List CommentValue} {h i j k : ℕ} → h ≤ i → j ≤ k → NoneIn cs h k → NoneIn cs i j
none_narrow {h = h} {k = k} l m a = each_map (λ d n o. ⊎_elim (λ (z : d.offset < h). inl (omega (arith, l, z))) (λ (z : k ≤ d.offset). inr (omega (arith, m, z))) o) a

outside : (from to o : ℕ) (i : ℕ) → i ≤ from → (o < i) ⊎ (to ≤ o) → (nat_le from o && nat_lt o to) ≡ false
outside from to o i l (inl z) = grind (arith, nat_tests)
outside from to o i l (inr z) = grind (arith, nat_tests)

none_within : (from to i : ℕ) {cs : List CommentValue} → i ≤ from → NoneIn cs i to → list_any (is_within from to) cs ≡ false
none_within from to i l each_none = refl
none_within from to i l (each_more {d = d} {ds = ds} m a) =
    ap (λ b. b || list_any (is_within from to) ds) (outside from to d.offset i l m) ∙ none_within from to i l a

flow_free : {cs : List CommentValue} (t : List ℕ) (a b : ℕ) (o : Option Span) (props : PropsValue) → o ≡ from_to a b → NoneIn cs a b → has_comment t cs o props ≡ false
unfolding from_to
flow_free {cs} t a b o props e n =
    let s : Span = record { start = a; end = b } in
    ap (λ w. has_comment t cs w props) e ∙ none_within (content_start t s props) b a (content_later t s props) n

mutual
  pub is_at_undisturbed : {t : List ℕ} {cs : List CommentValue} {i j : ℕ} {x : Node} → NodeIsAt t i j x → NoneIn cs i j → Undisturbed t cs x
  is_at_undisturbed (is_at_nowhere m e) n = undisturbed_scalar
  is_at_undisturbed (scalar_is_at e b l m w s) n = undisturbed_scalar
  is_at_undisturbed (alias_is_at e b l m s) n = undisturbed_alias
  is_at_undisturbed {t = t} (sequence_is_at {a = a} {b = b} {at = at} {props = props} e o st m s) n =
      let l = o.order in
      let k = o.inner in
      undisturbed_sequence (λ f. flow_free t a b at.span props e (none_narrow l m n)) (items_undisturbed st (none_narrow (omega (arith, l, k)) m n))
  is_at_undisturbed {t = t} (mapping_is_at {a = a} {b = b} {at = at} {props = props} e o st m s) n =
      let l = o.order in
      let k = o.inner in
      undisturbed_mapping (λ f. flow_free t a b at.span props e (none_narrow l m n)) (pairs_undisturbed st (none_narrow (omega (arith, l, k)) m n))

  items_undisturbed : {t : List ℕ} {cs : List CommentValue} {i j : ℕ} {xs : Items} → ItemsStand t i j xs → NoneIn cs i j → UndisturbedItems t cs xs
  items_undisturbed (no_items_stand l) n = undisturbed_end
  items_undisturbed (item_is_at f q l a c) n =
      let o = l.order in
      let m = node_order a in
      undisturbed_item (is_at_undisturbed a (none_narrow o (items_order c) n)) (items_undisturbed c (none_narrow (omega (arith, o, m)) (omega arith) n))

  pairs_undisturbed : {t : List ℕ} {cs : List CommentValue} {i j : ℕ} {ps : Pairs} → PairsStand t i j ps → NoneIn cs i j → UndisturbedPairs t cs ps
  pairs_undisturbed (no_pairs_stand l) n = undisturbed_last
  pairs_undisturbed (pair_is_at f q l a c d g) n =
      let o = l.order in
      let one = node_order a in
      let two = colon_order c in
      let three = node_order d in
      let four = pairs_order g in
      undisturbed_pair (is_at_undisturbed a (none_narrow o (omega (arith, two, three, four)) n)) (is_at_undisturbed d (none_narrow (omega (arith, o, one, two)) four n))
      (pairs_undisturbed g (none_narrow (omega (arith, o, one, two, three)) (omega arith) n))

row_none : {cs : List CommentValue} {a b : ℕ} (p : PlacedRow) → p.from ≤ a → b ≤ p.upto → Quiet cs p → NoneIn cs a b
row_none p l m q = each_map (λ d n o. ⊎_elim (λ (z : d.offset < p.from). inl (omega (arith, l, z))) (λ (z : p.upto ≤ d.offset). inr (omega (arith, m, z))) o) q

key_undisturbed : (house : Style) {t : List ℕ} {cs : List CommentValue} {m : ℕ} {k : Node} {hs : List PlacedRow} → KeyOn house t m k hs → AllQuiet cs hs → Undisturbed t cs k
key_undisturbed house (key_on {h = h} st l m e c text w) (quiet_row q a) = is_at_undisturbed st (row_none h l (omega (arith, m)) q)

mutual
  pub rows_undisturbed : {t : List ℕ} {c : LayoutSetting} {cs : List CommentValue} {margins : Margins} {x y : Node} {ps : List PlacedRow} → NodeRows t c margins x y ps → AllQuiet cs ps → Undisturbed t cs y
  rows_undisturbed (no_rows e) a = undisturbed_scalar
  rows_undisturbed (line_rows {p = p} e n f g h st l m o w) (quiet_row q a) = is_at_undisturbed st (row_none p l m q)
  rows_undisturbed (scalar_rows e n f g h) a = undisturbed_scalar
  rows_undisturbed (sequence_rows n e r) a = undisturbed_sequence (λ f. absurd (true≢false (sym f))) (item_rows_undisturbed r a)
  rows_undisturbed (sequence_after n e f g h r) (quiet_row q a) = undisturbed_sequence (λ f. absurd (true≢false (sym f))) (item_rows_undisturbed r a)
  rows_undisturbed (mapping_rows n e r) a = undisturbed_mapping (λ f. absurd (true≢false (sym f))) (pair_rows_undisturbed r a)
  rows_undisturbed (mapping_after n e f g h r) (quiet_row q a) = undisturbed_mapping (λ f. absurd (true≢false (sym f))) (pair_rows_undisturbed r a)

  item_rows_undisturbed : {t : List ℕ} {c : LayoutSetting} {cs : List CommentValue} {m : ℕ} {xs ys : Items} {ps : List PlacedRow} → ItemsRows t c m xs ys ps → AllQuiet cs ps → UndisturbedItems t cs ys
  item_rows_undisturbed no_item_rows a = undisturbed_end
  item_rows_undisturbed (item_rows {hs = hs} {qs = qs} r s more) a =
      undisturbed_item (rows_undisturbed r (sign_quiet s (quiet_left hs qs a))) (item_rows_undisturbed more (quiet_right hs qs a))

  one_pair_undisturbed : {t : List ℕ} {c : LayoutSetting} {cs : List CommentValue} {m : ℕ} {k v l w : Node} {qs : Pairs} {ps : List PlacedRow} → PairRows t c m k v l w ps → AllQuiet cs ps
      → UndisturbedPairs t cs qs → UndisturbedPairs t cs (pair l w qs)
  one_pair_undisturbed (explicit_rows {hs = hs} {gs = gs} e r s v f) a more =
      undisturbed_pair (rows_undisturbed r (sign_quiet s (quiet_left hs gs a))) (rows_undisturbed v (sign_quiet f (quiet_right hs gs a))) more
  one_pair_undisturbed {c = c} (implicit_rows b g e k v f) a more = undisturbed_pair (key_undisturbed c.style k a) (rows_undisturbed v (key_quiet f a)) more

  pair_rows_undisturbed : {t : List ℕ} {c : LayoutSetting} {cs : List CommentValue} {m : ℕ} {xs ys : Pairs} {ps : List PlacedRow} → PairsRows t c m xs ys ps → AllQuiet cs ps → UndisturbedPairs t cs ys
  pair_rows_undisturbed no_pair_rows a = undisturbed_last
  pair_rows_undisturbed (pair_rows {hs = hs} {rs = rs} r more) a = one_pair_undisturbed r (quiet_left hs rs a) (pair_rows_undisturbed more (quiet_right hs rs a))

-- Keys.

later_last : {i j : ℕ} (other : ℕ) (ss : List Span) → i ≤ other → other ≤ j → Inside i j (starts_of ss) → (i ≤ last_start other ss) × (last_start other ss ≤ j)
later_last other [] l m a = (l, m)
later_last other (s ∷ ss) l m (one_inside n o a) = later_last s.start ss n o a

pub key_between : (house : Style) {t : List ℕ} {n : ℕ} {k : Node} {h : PlacedRow} {hs : List PlacedRow} → KeyOn house t n k (h ∷ hs) → (h.from ≤ key_start k) × (key_start k < h.upto)
key_between house {k = k} {h = h} (key_on {a = a} {b = b} st l m e c text w) =
    let o = node_order st in
    let w = later_last {i = h.from} {j = b} _ (leaves k) (omega (arith, e)) (omega (arith, e, l, o)) (inside_wider l (omega arith) (leaves_inside st)) in
    (w.0, let z = w.1 in omega (arith, z, m))

apart : (from to o i j : ℕ) → i ≤ from → to ≤ j → (o < i) ⊎ (j ≤ o) → (nat_lt from o && nat_lt o to) ≡ false
apart from to o i j l m (inl z) = grind (arith, nat_tests)
apart from to o i j l m (inr z) = grind (arith, nat_tests)

pub none_found : (from to i j : ℕ) {cs : List CommentValue} → i ≤ from → to ≤ j → NoneIn cs i j → find (λ (c : CommentValue). nat_lt from c.offset && nat_lt c.offset to) cs ≡ None
none_found from to i j l m each_none = refl
none_found from to i j l m (each_more {d = d} {ds = ds} n a) =
    ap (λ b. if b then Some d else find (λ (c : CommentValue). nat_lt from c.offset && nat_lt c.offset to) ds) (apart from to d.offset i j l m n) ∙ none_found from to i j l m a

met : (from to o : ℕ) → from < o → o < to → (nat_lt from o && nat_lt o to) ≡ true
met from to o l m = grind (arith, nat_tests)

pub some_found : (from to : ℕ) {d : CommentValue} {cs : List CommentValue} → In d cs → from < d.offset → d.offset < to
    → is_some (find (λ (c : CommentValue). nat_lt from c.offset && nat_lt c.offset to) cs) ≡ true
some_found from to {d} (in_first {cs = cs}) l m =
    ap (λ b. is_some (if b then Some d else find (λ (c : CommentValue). nat_lt from c.offset && nat_lt c.offset to) cs)) (met from to d.offset l m)
some_found from to (in_rest {c = c} {cs = cs} i) l m = by (nat_lt from c.offset && nat_lt c.offset to) (some_found from to i l m) where
  by : (b : Bool) → is_some (find (λ (c : CommentValue). nat_lt from c.offset && nat_lt c.offset to) cs) ≡ true
      → is_some (if b then Some c else find (λ (c : CommentValue). nat_lt from c.offset && nat_lt c.offset to) cs) ≡ true
  by true e = refl
  by false e = e

-- the first leaf of a value that is written on the row begins in it
pub data OnRow (w : Node) : List PlacedRow → Type 0 where
  on_row : {p : PlacedRow} → Inside p.from p.upto (starts_of (leaves w)) → OnRow w (p ∷ [])

pub no_value : (w : Node) → is_block_collection w ≡ true → (is_text w || is_filled_flow w) ≡ true → ⊥
no_value (scalar at props style text lines) e f = true≢false (sym e)
no_value (alias at name) e f = true≢false (sym e)
no_value (sequence at flow props no_items) e f = true≢false (sym e)
no_value (sequence at true props (item x xs)) e f = true≢false (sym e)
no_value (sequence at false props (item x xs)) e f = true≢false (sym f)
no_value (mapping at flow props no_pairs) e f = true≢false (sym e)
no_value (mapping at true props (pair k v ps)) e f = true≢false (sym e)
no_value (mapping at false props (pair k v ps)) e f = true≢false (sym f)

pub value_row : {t : List ℕ} {c : LayoutSetting} {margins : Margins} {v w : Node} {ps : List PlacedRow} → NodeRows t c margins v w ps → (is_text w || is_filled_flow w) ≡ true → OnRow w ps
value_row (no_rows e) f = absurd (true≢false (sym f ∙ ap (λ o. is_some o || false) e))
value_row (line_rows {p = p} e n f g h st l m o text) q = on_row (inside_wider l m (leaves_inside st))
value_row (scalar_rows e n f g h) q = on_row n
value_row (sequence_rows {bt = bt} {props = props} {ys = ys} n e r) f = absurd (no_value (sequence bt false props ys) n f)
value_row (sequence_after {bt = bt} {props = props} {ys = ys} n e f g h r) q = absurd (no_value (sequence bt false props ys) n q)
value_row (mapping_rows {bt = bt} {props = props} {ys = ys} n e r) f = absurd (no_value (mapping bt false props ys) n f)
value_row (mapping_after {bt = bt} {props = props} {ys = ys} n e f g h r) q = absurd (no_value (mapping bt false props ys) n q)
