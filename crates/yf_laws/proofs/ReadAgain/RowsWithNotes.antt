-- The rows of a found node are those of the node with other notes on blank lines.
use Rattle.std.proofs.Common.{◌≡◌, ℕ, ◌+◌, Bool, true, false, List, ◌++◌, length, map, Option, Some, None, refl, sym, ap, ◌∙◌, subst}
use Rattle.std.specs.Prelude.{is_some}
use Rattle.std.proofs.lemmas.Option.{same_Some}
use Rattle.yf_lines.specs.LineText.{IsLineText}
use Rattle.yf_lines.specs.Rest.{Rest}
use Rattle.yf_props.specs.Props.{PropsValue}
use Rattle.yf_events.specs.Alike.{Alike, alike_scalars, alike_aliases, alike_sequences, alike_mappings, AlikeItems, alike_nothing, alike_item, AlikePairs, alike_no_pairs, alike_pair}
use Rattle.yf_events.specs.declared.event.Entry.{Entry}
use Rattle.yf_events.specs.declared.event.Span.{Span}
use Rattle.yf_events.specs.Tree.{NodeOffsets, Node, scalar, alias, sequence, mapping, Items, no_items, item, Pairs, no_pairs, pair, entry_start, is_block_collection, items_in, items_in_items, items_in_pairs, leaves, leaves_of_items, leaves_of_pairs, props_of, spans_of_leaf, standing, starts_of_entry}
use Rattle.yf_grammar.specs.Productions.TreesOfMeaning.{Anywhere}
use Rattle.yf_grammar.proofs.WrittenTexts.KeptNodes.{SameEntry, no_entry, same_entry, SameStanding, Kept, kept_scalar, kept_alias, kept_sequence, kept_mapping, KeptItems, kept_no_items, kept_item, KeptPairs, kept_no_pairs, kept_pair, kept_standing}
use Rattle.yf_grammar.proofs.NodesInText.NodePlaces.{Begins, ColonIsAt, NodeIsAt, is_at_nowhere, scalar_is_at, alias_is_at, sequence_is_at, mapping_is_at, ItemsStand, no_items_stand, item_is_at, PairsStand, no_pairs_stand, pair_is_at}
use Rattle.yf_forms.specs.declared.style.Style.{Style}
use Rattle.yf_laws.specs.Layouts.ReadableTrees.{FitProps}
use Rattle.yf_forms.specs.NormalForms.Normal.{LayoutSetting, Margins, entry_or}
use Rattle.yf_forms.specs.Nodes.OneLine.{written}
use Rattle.yf_print.specs.Layouts.Rows.{begins_below, colon_offset}
use Rattle.yf_laws.proofs.SecondRun.AlikeLemmas.{same_below, same_implicit, same_written}
use Rattle.yf_laws.proofs.RowNodes.BareNodes.{bare, bare_entry, bare_items, bare_pairs, bare_standing}
use Rattle.yf_laws.proofs.Columns.FlowHeads.{Bracketed, is_bracketed}
use Rattle.yf_laws.proofs.RowNodes.FoundLines.{same_inline}
use Rattle.yf_laws.proofs.RowNodes.FoundNodes.{SignRows, KeyRows, KeyOn, key_on, NodeText, NodeRows, no_rows, line_rows, scalar_rows, sequence_rows, sequence_after, mapping_rows, mapping_after, ItemsRows, no_item_rows, item_rows, PairRows, explicit_rows, implicit_rows, PairsRows, no_pair_rows, pair_rows}
use Rattle.yf_laws.proofs.RowNodes.PlacedRows.{Inside, PlacedRow}
use Rattle.yf_laws.proofs.RowNodes.QuotesKept.{quotes_stay}

-- Nodes that are equal without their notes are kept.

entry_kept : (o p : Option Entry) → bare_entry o ≡ bare_entry p → SameEntry o p
entry_kept None None e = no_entry refl refl
entry_kept None (Some f) e = absurd cc
entry_kept (Some g) None e = absurd cc
entry_kept (Some g) (Some f) e =
    let same : ◌≡◌ {A = Entry} (record g { blank_before = false }) (record f { blank_before = false }) = cc in
    same_entry g f.blank_before refl (ap (λ (w : Entry). Some (record w { blank_before = f.blank_before })) (sym same))

standing_kept : {at bt : NodeOffsets} → bare_standing at ≡ bare_standing bt → SameStanding at bt
standing_kept {at} {bt} e = record { span = ap (λ (w : NodeOffsets). w.span) e; entry = entry_kept at.entry bt.entry (ap (λ (w : NodeOffsets). w.entry) e) }

mutual
  pub node_kept : (z y : Node) → bare z ≡ bare y → Kept z y
  node_kept (scalar at props style text lines) (scalar bt props2 style2 text2 lines2) e =
      let a : bare_standing at ≡ bare_standing bt = cc in
      let b : props ≡ props2 = cc in
      let c : style ≡ style2 = cc in
      let d : text ≡ text2 = cc in
      let f : lines ≡ lines2 = cc in
      subst (λ w. Kept (scalar at props style text lines) w) (λ n. scalar bt (b n) (c n) (d n) (f n)) (kept_scalar (standing_kept a))
  node_kept (alias at name) (alias bt name2) e =
      let a : bare_standing at ≡ bare_standing bt = cc in
      let b : name ≡ name2 = cc in
      subst (λ w. Kept (alias at name) w) (ap (λ w. alias bt w) b) (kept_alias (standing_kept a))
  node_kept (sequence at flow props xs) (sequence bt flow2 props2 ys) e =
      let a : bare_standing at ≡ bare_standing bt = cc in
      let b : flow ≡ flow2 = cc in
      let c : props ≡ props2 = cc in
      let d : bare_items xs ≡ bare_items ys = cc in
      subst (λ w. Kept (sequence at flow props xs) w) (λ n. sequence bt (b n) (c n) ys) (kept_sequence (standing_kept a) (items_kept xs ys d))
  node_kept (mapping at flow props ps) (mapping bt flow2 props2 qs) e =
      let a : bare_standing at ≡ bare_standing bt = cc in
      let b : flow ≡ flow2 = cc in
      let c : props ≡ props2 = cc in
      let d : bare_pairs ps ≡ bare_pairs qs = cc in
      subst (λ w. Kept (mapping at flow props ps) w) (λ n. mapping bt (b n) (c n) qs) (kept_mapping (standing_kept a) (pairs_kept ps qs d))
  node_kept (scalar at props style text lines) (alias bt name) e = absurd cc
  node_kept (scalar at props style text lines) (sequence bt flow props2 ys) e = absurd cc
  node_kept (scalar at props style text lines) (mapping bt flow props2 qs) e = absurd cc
  node_kept (alias at name) (scalar bt props style text lines) e = absurd cc
  node_kept (alias at name) (sequence bt flow props ys) e = absurd cc
  node_kept (alias at name) (mapping bt flow props qs) e = absurd cc
  node_kept (sequence at flow props xs) (scalar bt props2 style text lines) e = absurd cc
  node_kept (sequence at flow props xs) (alias bt name) e = absurd cc
  node_kept (sequence at flow props xs) (mapping bt flow2 props2 qs) e = absurd cc
  node_kept (mapping at flow props ps) (scalar bt props2 style text lines) e = absurd cc
  node_kept (mapping at flow props ps) (alias bt name) e = absurd cc
  node_kept (mapping at flow props ps) (sequence bt flow2 props2 ys) e = absurd cc

  items_kept : (xs ys : Items) → bare_items xs ≡ bare_items ys → KeptItems xs ys
  items_kept no_items no_items e = kept_no_items
  items_kept no_items (item y ys) e = absurd cc
  items_kept (item x xs) no_items e = absurd cc
  items_kept (item x xs) (item y ys) e =
      let a : bare x ≡ bare y = cc in
      let b : bare_items xs ≡ bare_items ys = cc in
      kept_item (node_kept x y a) (items_kept xs ys b)

  pairs_kept : (ps qs : Pairs) → bare_pairs ps ≡ bare_pairs qs → KeptPairs ps qs
  pairs_kept no_pairs no_pairs e = kept_no_pairs
  pairs_kept no_pairs (pair l w qs) e = absurd cc
  pairs_kept (pair k v ps) no_pairs e = absurd cc
  pairs_kept (pair k v ps) (pair l w qs) e =
      let a : bare k ≡ bare l = cc in
      let b : bare v ≡ bare w = cc in
      let c : bare_pairs ps ≡ bare_pairs qs = cc in
      kept_pair (node_kept k l a) (node_kept v w b) (pairs_kept ps qs c)

-- Kept nodes.

mutual
  pub kept_alike : {x y : Node} → Kept x y → Alike Anywhere x y
  kept_alike (kept_scalar s) = alike_scalars (ap (λ o. is_some o) s.span)
  kept_alike (kept_alias s) = alike_aliases (ap (λ o. is_some o) s.span)
  kept_alike (kept_sequence s a) = alike_sequences (ap (λ o. is_some o) s.span) (kept_alike_items a)
  kept_alike (kept_mapping s a) = alike_mappings (ap (λ o. is_some o) s.span) (kept_alike_pairs a)

  kept_alike_items : {xs ys : Items} → KeptItems xs ys → AlikeItems Anywhere xs ys
  kept_alike_items kept_no_items = alike_nothing
  kept_alike_items (kept_item a more) = alike_item (kept_alike a) (kept_alike_items more)

  kept_alike_pairs : {ps qs : Pairs} → KeptPairs ps qs → AlikePairs Anywhere ps qs
  kept_alike_pairs kept_no_pairs = alike_no_pairs
  kept_alike_pairs (kept_pair a b more) = alike_pair (kept_alike a) (kept_alike b) tt (kept_alike_pairs more)

mutual
  leaves_same : {x y : Node} → Kept x y → leaves x ≡ leaves y
  leaves_same (kept_scalar s) = ap spans_of_leaf s.span
  leaves_same (kept_alias s) = ap spans_of_leaf s.span
  leaves_same (kept_sequence s kept_no_items) = ap spans_of_leaf s.span
  leaves_same (kept_sequence s (kept_item a more)) = let b = leaves_same a in let c = items_leaves_same more in λ n. b n ++ c n
  leaves_same (kept_mapping s kept_no_pairs) = ap spans_of_leaf s.span
  leaves_same (kept_mapping s (kept_pair a b more)) = let c = leaves_same a in let d = leaves_same b in let e = pairs_leaves_same more in λ n. c n ++ (d n ++ e n)

  items_leaves_same : {xs ys : Items} → KeptItems xs ys → leaves_of_items xs ≡ leaves_of_items ys
  items_leaves_same kept_no_items = refl
  items_leaves_same (kept_item a more) = let b = leaves_same a in let c = items_leaves_same more in λ n. b n ++ c n

  pairs_leaves_same : {ps qs : Pairs} → KeptPairs ps qs → leaves_of_pairs ps ≡ leaves_of_pairs qs
  pairs_leaves_same kept_no_pairs = refl
  pairs_leaves_same (kept_pair a b more) = let c = leaves_same a in let d = leaves_same b in let e = pairs_leaves_same more in λ n. c n ++ (d n ++ e n)

by_entry : {A : Type 0} (f : Option Entry → A) → ((e : Entry) (b : Bool) → f (Some e) ≡ f (Some (record e { blank_before = b }))) → {o p : Option Entry} → SameEntry o p → f o ≡ f p
by_entry f g (no_entry a b) = ap f a ∙ sym (ap f b)
by_entry f g (same_entry e b p q) = ap f p ∙ (g e b ∙ sym (ap f q))

start_same : {x y : Node} → Kept x y → entry_start x ≡ entry_start y
start_same k = by_entry starts_of_entry (λ e b. refl) (kept_standing k).entry

colon_same : {x y : Node} → Kept x y → colon_offset (standing x).entry ≡ colon_offset (standing y).entry
colon_same k = by_entry colon_offset (λ e b. refl) (kept_standing k).entry

mutual
  items_same : {x y : Node} → Kept x y → items_in x ≡ items_in y
  items_same (kept_scalar s) = ap (λ o. map (λ (w : Span). w.start) (spans_of_leaf o)) s.span
  items_same (kept_alias s) = ap (λ o. map (λ (w : Span). w.start) (spans_of_leaf o)) s.span
  items_same (kept_sequence s kept_no_items) = ap (λ o. map (λ (w : Span). w.start) (spans_of_leaf o)) s.span
  items_same (kept_sequence s (kept_item a more)) = let b = start_same a in let c = items_same a in let d = items_items_same more in λ n. b n ++ (c n ++ d n)
  items_same (kept_mapping s kept_no_pairs) = ap (λ o. map (λ (w : Span). w.start) (spans_of_leaf o)) s.span
  items_same (kept_mapping s (kept_pair a b more)) =
      let c = start_same a in let d = items_same a in let e = items_same b in let f = pairs_items_same more in λ n. c n ++ (d n ++ (e n ++ f n))

  items_items_same : {xs ys : Items} → KeptItems xs ys → items_in_items xs ≡ items_in_items ys
  items_items_same kept_no_items = refl
  items_items_same (kept_item a more) = let b = start_same a in let c = items_same a in let d = items_items_same more in λ n. b n ++ (c n ++ d n)

  pairs_items_same : {ps qs : Pairs} → KeptPairs ps qs → items_in_pairs ps ≡ items_in_pairs qs
  pairs_items_same kept_no_pairs = refl
  pairs_items_same (kept_pair a b more) = let c = start_same a in let d = items_same a in let e = items_same b in let f = pairs_items_same more in λ n. c n ++ (d n ++ (e n ++ f n))

-- The offsets of nodes.

record EntryStays (e : Entry) (o : Option Entry) : Type 0 where
  entry : Entry
  is : o ≡ Some entry
  start : e.start ≡ entry.start
  colon : e.colon ≡ entry.colon

entry_stays : {o p : Option Entry} {e : Entry} → SameEntry o p → o ≡ Some e → EntryStays e p
entry_stays {e = e} (no_entry f g) q = let no : None ≡ Some e = sym f ∙ q in absurd cc
entry_stays (same_entry w b f g) q =
    let one = same_Some _ _ (sym q ∙ f) in
    record { entry = record w { blank_before = b }; is = g; start = ap (λ (v : Entry). v.start) one; colon = ap (λ (v : Entry). v.colon) one }

none_stays : {o p : Option Entry} → SameEntry o p → o ≡ None → p ≡ None
none_stays (no_entry f g) q = g
none_stays (same_entry w b f g) q = let no : None ≡ Some w = sym q ∙ f in absurd cc

module _ {t : List ℕ} where
  mutual
    node_stays : {i j : ℕ} {x y : Node} → Kept x y → NodeIsAt t i j x → NodeIsAt t i j y
    node_stays (kept_scalar s) (is_at_nowhere m e) = is_at_nowhere m (sym s.span ∙ e)
    node_stays (kept_scalar s) (scalar_is_at e b m n w p) = scalar_is_at (sym s.span ∙ e) b m n w p
    node_stays (kept_alias s) (alias_is_at e b m n p) = alias_is_at (sym s.span ∙ e) b m n p
    node_stays (kept_sequence s a) (sequence_is_at e b m n p) = sequence_is_at (sym s.span ∙ e) b (items_stay a m) n p
    node_stays (kept_mapping s a) (mapping_is_at e b m n p) = mapping_is_at (sym s.span ∙ e) b (pairs_stay a m) n p

    items_stay : {i j : ℕ} {xs ys : Items} → KeptItems xs ys → ItemsStand t i j xs → ItemsStand t i j ys
    items_stay kept_no_items (no_items_stand l) = no_items_stand l
    items_stay {i} (kept_item {y = y} k more) (item_is_at {k = m} e q b a c) =
        let w = entry_stays (kept_standing k).entry q in
        item_is_at w.entry w.is (subst (λ z. Begins t i z) w.start b) (subst (λ z. NodeIsAt t z m y) w.start (node_stays k a)) (items_stay more c)

    pairs_stay : {i j : ℕ} {ps qs : Pairs} → KeptPairs ps qs → PairsStand t i j ps → PairsStand t i j qs
    pairs_stay kept_no_pairs (no_pairs_stand l) = no_pairs_stand l
    pairs_stay {i} (kept_pair {l = l} k v more) (pair_is_at {l = g} {m = h} e q b a c d f) =
        let w = entry_stays (kept_standing k).entry q.key in
        pair_is_at w.entry (record { key = w.is; value = none_stays (kept_standing v).entry q.value }) (subst (λ z. Begins t i z) w.start b) (subst (λ z. NodeIsAt t z g l) w.start (node_stays k a))
        (subst (λ z. ColonIsAt t g h z) w.colon c) (node_stays v d) (pairs_stay more f)

-- Texts.

bracketed_same : {y z : Node} → Kept y z → is_bracketed z ≡ is_bracketed y
bracketed_same (kept_scalar s) = refl
bracketed_same (kept_alias s) = refl
bracketed_same (kept_sequence s a) = refl
bracketed_same (kept_mapping s a) = refl

props_same : {y z : Node} → Kept y z → props_of y ≡ props_of z
props_same (kept_scalar s) = refl
props_same (kept_alias s) = refl
props_same (kept_sequence s a) = refl
props_same (kept_mapping s a) = refl

bracketed_stays : {t : List ℕ} {i j : ℕ} {y z : Node} → Kept y z → Bracketed t i j y → Bracketed t i j z
bracketed_stays k a = record { span = sym (kept_standing k).span ∙ a.span; last = a.last; props = subst (λ p. FitProps p) (props_same k) a.props }

text_stays : (house : Style) {t : List ℕ} {i : ℕ} {y z : Node} → Kept y z → NodeText house t i y → NodeText house t i z
text_stays house {t} {i} {y} {z} k a =
    let said : written house y ≡ written house z = same_written house (kept_alike k) in
    record {
      line = subst (λ w. IsLineText w) said a.line;
      follows = a.follows;
      there = subst (λ w. Rest t i (w ++ a.follows)) said a.there;
      flow = λ f. subst (λ w. Bracketed t i (i + length w) z) said (bracketed_stays k (a.flow (sym (bracketed_same k) ∙ f)));
      quoted = quotes_stay k a.quoted;
    }

-- Rows.

key_stays : (house : Style) {t : List ℕ} {m : ℕ} {k l : Node} {hs : List PlacedRow} → Kept k l → KeyOn house t m k hs → KeyOn house t m l hs
key_stays house k (key_on st l m e c text w) =
    key_on (node_stays k st) l m (sym (by_entry (entry_or 0) (λ e b. refl) (kept_standing k).entry) ∙ e) c (text_stays house k text) (sym (by_entry (λ o. is_some o) (λ e b. refl) (kept_standing k).entry) ∙ w)

sequence_block : (at bt : NodeOffsets) (props : PropsValue) {xs ys : Items} → KeptItems xs ys → is_block_collection (sequence at false props xs) ≡ true → is_block_collection (sequence bt false props ys) ≡ true
sequence_block at bt props kept_no_items e = e
sequence_block at bt props (kept_item a more) e = e

mapping_block : (at bt : NodeOffsets) (props : PropsValue) {ps qs : Pairs} → KeptPairs ps qs → is_block_collection (mapping at false props ps) ≡ true → is_block_collection (mapping bt false props qs) ≡ true
mapping_block at bt props kept_no_pairs e = e
mapping_block at bt props (kept_pair a b more) e = e

mutual
  pub rows_kept : {t : List ℕ} {c : LayoutSetting} {margins : Margins} {x y z : Node} {ps : List PlacedRow} → Kept y z → NodeRows t c margins x y ps → NodeRows t c margins x z ps
  rows_kept (kept_scalar s) (no_rows e) = no_rows (sym s.span ∙ e)
  rows_kept {c = c} k (line_rows f n g h i st a b column text) =
      line_rows (sym (same_inline (kept_alike k)) ∙ f) (λ e. n (same_written c.style (kept_alike k) ∙ e)) (g ∙ items_same k) (h ∙ leaves_same k) i (node_stays k st) a b column (text_stays c.style k text)
  rows_kept (kept_scalar s) (scalar_rows {p = p} f a g h i) =
      scalar_rows f (subst (λ o. Inside p.from p.upto (map (λ (w : Span). w.start) (spans_of_leaf o))) s.span a) (g ∙ ap (λ o. map (λ (w : Span). w.start) (spans_of_leaf o)) s.span) (h ∙ ap spans_of_leaf s.span) i
  rows_kept (kept_sequence {at = at} {bt = bt} {props = props} s a) (sequence_rows b e r) = sequence_rows (sequence_block at bt props a b) e (items_rows_kept a r)
  rows_kept (kept_sequence {at = at} {bt = bt} {props = props} s a) (sequence_after b e g h i r) = sequence_after (sequence_block at bt props a b) e g h i (items_rows_kept a r)
  rows_kept (kept_mapping {at = at} {bt = bt} {props = props} s a) (mapping_rows b e r) = mapping_rows (mapping_block at bt props a b) e (pairs_rows_kept a r)
  rows_kept (kept_mapping {at = at} {bt = bt} {props = props} s a) (mapping_after b e g h i r) = mapping_after (mapping_block at bt props a b) e g h i (pairs_rows_kept a r)

  items_rows_kept : {t : List ℕ} {c : LayoutSetting} {m : ℕ} {xs ys zs : Items} {ps : List PlacedRow} → KeptItems ys zs → ItemsRows t c m xs ys ps → ItemsRows t c m xs zs ps
  items_rows_kept kept_no_items no_item_rows = no_item_rows
  items_rows_kept {t} (kept_item k more) (item_rows {ps = ps} {hs = hs} r s others) = item_rows (rows_kept k r) (subst (λ z. SignRows t z ps hs) (start_same k) s) (items_rows_kept more others)

  pair_rows_kept : {t : List ℕ} {c : LayoutSetting} {m : ℕ} {k v l w g u : Node} {ps : List PlacedRow} → Kept l g → Kept w u → PairRows t c m k v l w ps → PairRows t c m k v g u ps
  pair_rows_kept {t} {c} {m} a b (explicit_rows {ps = ps} {hs = hs} {qs = qs} {gs = gs} n r s d f) =
      explicit_rows (sym (same_implicit c.style m (kept_alike a)) ∙ n) (rows_kept a r) (subst (λ z. SignRows t z ps hs) (start_same a) s) (rows_kept b d) (subst (λ z. SignRows t z qs gs) (colon_same a) f)
  pair_rows_kept {t} {c} {m} {v = v} {l = l} {w = w} {g = g} {u = u} a b (implicit_rows {ps = ps} {hs = hs} flag q n on d f) =
      implicit_rows flag q (sym (same_implicit c.style m (kept_alike a)) ∙ n) (key_stays c.style a on) (rows_kept b d)
      (subst (λ z. KeyRows t (entry_start g ++ items_in g) (leaves g) flag z ps hs) (same_below (kept_alike b))
      (subst (λ z. KeyRows t (entry_start g ++ items_in g) z flag (begins_below w) ps hs) (leaves_same a)
      (subst (λ z. KeyRows t (entry_start g ++ z) (leaves l) flag (begins_below w) ps hs) (items_same a) (subst (λ z. KeyRows t (z ++ items_in l) (leaves l) flag (begins_below w) ps hs) (start_same a) f))))

  pairs_rows_kept : {t : List ℕ} {c : LayoutSetting} {m : ℕ} {xs ys zs : Pairs} {ps : List PlacedRow} → KeptPairs ys zs → PairsRows t c m xs ys ps → PairsRows t c m xs zs ps
  pairs_rows_kept kept_no_pairs no_pair_rows = no_pair_rows
  pairs_rows_kept (kept_pair a b more) (pair_rows r others) = pair_rows (pair_rows_kept a b r) (pairs_rows_kept more others)

pub rows_renoted : {t : List ℕ} {c : LayoutSetting} {margins : Margins} {x z : Node} {ps : List PlacedRow} (y : Node) → bare z ≡ bare y → NodeRows t c margins x z ps → NodeRows t c margins x y ps
rows_renoted {z = z} y e r = rows_kept (node_kept z y e) r
