-- The rows of the normal form of a tree that is in a text: their items rise, and they fit the comments.
use Rattle.std.proofs.Common.{◌≡◌, ℕ, ◌-◌, ◌≤◌, Bool, true, false, true≢false, ◌&&◌, ◌||◌, List, [], ◌∷◌, ◌++◌, codes, Option, Some, None, refl, sym, ap, ◌∙◌, subst, arith, append-nil, inl, inr}
use Rattle.std.specs.Prelude.{find, if◌then◌else◌}
use Rattle.std.proofs.lemmas.Bool.{and_parts}
use Rattle.yf_comments.specs.Comment.{CommentValue}
use Rattle.yf_events.specs.declared.event.Entry.{Entry}
use Rattle.yf_events.specs.declared.event.Span.{Span}
use Rattle.yf_events.specs.Tree.{Node, alias, sequence, mapping, Items, no_items, item, Pairs, no_pairs, pair, entry_start, items_in, leaves, standing, starts_of_entry, is_filled_flow, is_text}
use Rattle.yf_forms.specs.NormalForms.Forms.{is_placed, items_are_placed, pairs_are_placed}
use Rattle.yf_forms.specs.Passes.MeasurePass.{setting}
use Rattle.yf_forms.specs.NormalForms.Normal.{LayoutSetting, Margins, entry_or, first_between, inner_margins, is_implicit, is_one_line_key, key_comment, key_margins, key_start, last_start, styled_items, styled_pairs, value_of_implicit, value_margins}
use Rattle.yf_forms.specs.Nodes.OneLine.{props_text}
use Rattle.yf_print.specs.Layouts.Rows.{Row, before_node, begins_below, after_key, after_sign, colon_offset, colon_row, entry_row, explicit_pair, joined, key_row, pair_rows, rows, rows_of_items, rows_of_pairs}
use Rattle.yf_laws.proofs.Writable.StillLeaves.{between}
use Rattle.yf_laws.proofs.SameReading.ItemsOrder.{items_on, items_append, items_joined, rises_upto, sub_after, sub_twice}
use Rattle.yf_laws.proofs.Printer.LeafPrinted.{same_flag, same_flag_of_map}
use Rattle.yf_laws.proofs.OfTexts.MarksOrder.{Rises, no_place, rises_after, rises_join, rises_order, entry_rises}
use Rattle.yf_laws.proofs.Printer.PrintTrees.{item_parts, items_of, pair_parts, pairs_of}
use Rattle.yf_laws.proofs.SameReading.QuietTrees.{Free, NodeSits, nothing_sits, scalar_sits, alias_sits, empty_sequence_sits, empty_mapping_sits, sequence_on_line, mapping_on_line, sequence_in_block, mapping_in_block, ItemsSit, no_items_sit, item_sits, PairsSit, no_pairs_sit, pair_sits}
use Rattle.yf_laws.proofs.SameReading.RowFlow.{Sub, sub_none, sub_take, greatest}
use Rattle.yf_laws.proofs.Trails.RowLeaves.{leaves_on, node_leaves}
use Rattle.yf_laws.proofs.SameReading.RowsFit.{LineFits, after_fits, beside_fits, last_among, KeyFits, no_key, a_key, RowsFit, no_rows_fit, row_fits, fit_append, as_leaves, sign_fits, rises_apart}
use Rattle.yf_laws.proofs.Derived.StepsInText.{starts_of}
use Rattle.yf_laws.proofs.NormalForms.StyledTwice.{House}
use Rattle.yf_laws.proofs.Derived.TreesMade.{either_pair}
use Rattle.yf_laws.proofs.SameReading.QuietNodes.{OneLine, one_line, whole_line, key_line, NodeFlows, scalar_flows, line_flows, props_rises, props_fit, FirstOf, bare_first, whole_first, first_of, whole_not_below}

-- Keys and values.

-- the facts about a key and its value
record PairSits (c : LayoutSetting) (i l m n : ℕ) (k v : Node) : Type 0 where
  entry : Entry
  is : (standing k).entry ≡ Some entry
  low : i ≤ entry.start
  free : Free c.comments entry.start
  colon : Rises l (colon_offset (standing k).entry) m
  value_sits : NodeSits c.comments m n v
  house : House c v
  leaves_are : (margins : Margins) → leaves_on (rows c margins v) ≡ leaves v
  value : NodeFlows c m n v

module _ (c : LayoutSetting) (column : ℕ) {i l m n : ℕ} (k v : Node) (a : PairSits c i l m n k v) where
  key_rises : Rises i (entry_start k) a.entry.start
  key_rises = entry_rises a.entry a.is a.low

  -- the row of an implicit key
  key_fits : OneLine c.comments a.entry.start l k → LineFits c.comments (entry_start k ++ items_in k) (starts_of (leaves k))
  key_fits line = after_fits (entry_start k) (items_in k) key_rises line.rises line.fits

  key_row_rises : OneLine c.comments a.entry.start l k → Rises i (entry_start k ++ items_in k) l
  key_row_rises line = rises_join key_rises line.rises

  value_rises : (margins : Margins) → Rises l (items_on (rows c margins v)) n
  value_rises margins = rises_after (rises_order a.colon) (a.value.rises margins)

  -- if a comment trails the key
  commented : (margins : Margins) (d : CommentValue) (b : Bool) → is_text v || is_filled_flow v ≡ b → (if b then first_between c.comments (key_start k) (leaves v) else None) ≡ Some d → OneLine c.comments a.entry.start l k
      → RowsFit c.comments (record (key_row c.style column k) { key_comment = Some d; ending = before_node } ∷ rows c margins v)
  commented margins d false h e line = absurd cc
  commented margins d true h e line = go (rows c margins v) (a.leaves_are margins) (first_of c margins v a.house (whole_not_below v h)) (a.value.fits margins) where
    s : Span
    s = ((one_line a.value_sits (whole_line v h)).whole h).0

    ss : List Span
    ss = ((one_line a.value_sits (whole_line v h)).whole h).1.0

    some : leaves v ≡ s ∷ ss
    some = ((one_line a.value_sits (whole_line v h)).whole h).1.1

    found : find (between (key_start k) s.start) c.comments ≡ Some d
    found = sym (ap (first_between c.comments (key_start k)) some) ∙ e

    start_is : entry_start k ≡ a.entry.start ∷ []
    start_is = ap starts_of_entry a.is

    keyed : (ks : List Span) → leaves k ≡ ks → (rest : List Row) (row : Row) → row.leaves ≡ s ∷ ss → KeyFits c.comments (record (key_row c.style column k) { key_comment = Some d; ending = before_node }) (row ∷ rest)
    keyed [] q rest row f =
        let at : key_start k ≡ a.entry.start = ap (last_start (entry_or 0 (standing k).entry)) q ∙ ap (entry_or 0) a.is in
        let alone : entry_start k ++ items_in k ≡ a.entry.start ∷ [] = ap (λ w. entry_start k ++ w) (line.bare q) ∙ (append-nil (entry_start k) ∙ start_is) in
        let top : greatest (entry_start k ++ items_in k) ≡ a.entry.start = ap greatest alone ∙ omega arith in
        a_key d a.entry.start s ss refl (subst (λ w. Sub (a.entry.start ∷ []) w) (sym alone) (sub_take sub_none)) a.free (inr (q, omega (arith, top))) f (subst (λ w. find (between w s.start) c.comments ≡ Some d) at found)
    keyed (r ∷ rs) q rest row f =
        let here : Sub (key_start k ∷ []) (starts_of (leaves k)) = subst (λ w. Sub (last_start (entry_or 0 (standing k).entry) w ∷ []) (starts_of w)) (sym q) (last_among (entry_or 0 (standing k).entry) r rs) in
        a_key d (key_start k) s ss refl (sub_after (entry_start k) (sub_twice here line.fits.among)) (line.free (key_start k) here) (inl here) f found

    go : (xs : List Row) → leaves_on xs ≡ leaves v → FirstOf v xs → RowsFit c.comments xs → RowsFit c.comments (record (key_row c.style column k) { key_comment = Some d; ending = before_node } ∷ xs)
    go [] f none g = absurd (let w : [] ≡ s ∷ ss = f ∙ some in cc)
    go (x ∷ xs) f (bare_first p q r z) g = absurd (true≢false (sym h ∙ p))
    go (x ∷ xs) f (whole_first p q r z) g = row_fits (key_fits line) (keyed (leaves k) refl xs x (r ∙ some)) g

  -- beside it
  beside : (margins : Margins) → key_comment c.comments k v ≡ None → OneLine c.comments a.entry.start l k → (xs : List Row) → FirstOf v xs → Rises m (items_on xs) n → RowsFit c.comments xs → RowsFit c.comments (joined (key_row c.style column k) 1 xs)
  beside margins e line [] f r g = row_fits (key_fits line) (no_key refl) no_rows_fit
  beside margins e line (x ∷ xs) (bare_first b p q z) r (row_fits h y more) =
      let none : entry_start k ++ items_in k ++ x.items ≡ entry_start k ++ items_in k = ap (λ w. entry_start k ++ items_in k ++ w) p ∙ append-nil (entry_start k ++ items_in k) in
      let bare : leaves k ++ x.leaves ≡ leaves k = ap (λ w. leaves k ++ w) q ∙ append-nil (leaves k) in
      row_fits (subst (λ w. LineFits c.comments w (starts_of (leaves k ++ x.leaves))) (sym none) (as_leaves bare (key_fits line))) (no_key z) more
  beside margins e line (x ∷ xs) (whole_first p q y z) r (row_fits h w more) =
      let whole = (one_line a.value_sits (whole_line v p)).whole p in
      let s : Span = whole.0 in
      let ss : List Span = whole.1.0 in
      let some : leaves v ≡ s ∷ ss = whole.1.1 in
      let found : find (between (key_start k) s.start) c.comments ≡ None =
      sym (ap (first_between c.comments (key_start k)) some) ∙ (sym (ap (λ b. if b then first_between c.comments (key_start k) (leaves v) else None) p) ∙ e) in
      let value : LineFits c.comments x.items (starts_of (s ∷ ss)) = as_leaves (sym (y ∙ some)) h in
      let parts = rises_apart x.items (items_on xs) r in
      let apart : Free c.comments s.start = (one_line a.value_sits (whole_line v p)).free s.start (subst (λ ls. Sub (s.start ∷ []) (starts_of ls)) (sym some) (sub_take sub_none)) in
      row_fits (as_leaves (ap (λ ls. leaves k ++ ls) (y ∙ some)) (beside_fits (entry_or 0 (standing k).entry) s ss (leaves k) (key_fits line) value (key_row_rises line) (rises_after (rises_order a.colon) parts.one) line.free apart found))
      (no_key z) more

  implicit_fit : (margins : Margins) → OneLine c.comments a.entry.start l k → (o : Option CommentValue) → key_comment c.comments k v ≡ o → (below : Bool) → begins_below v ≡ below
      → RowsFit c.comments (after_key (key_row c.style column k) o below (rows c margins v))
  implicit_fit margins line (Some d) e below f = commented margins d (is_text v || is_filled_flow v) refl e line
  implicit_fit margins line None e true f = row_fits (key_fits line) (no_key refl) (a.value.fits margins)
  implicit_fit margins line None e false f = beside margins e line (rows c margins v) (first_of c margins v a.house f) (a.value.rises margins) (a.value.fits margins)

  implicit_rises : (margins : Margins) → OneLine c.comments a.entry.start l k → (o : Option CommentValue) (below : Bool) → Rises i (items_on (after_key (key_row c.style column k) o below (rows c margins v))) n
  implicit_rises margins line (Some d) below = rises_join (key_row_rises line) (value_rises margins)
  implicit_rises margins line None true = rises_join (key_row_rises line) (value_rises margins)
  implicit_rises margins line None false =
      subst (λ z. Rises i z n) (sym (items_joined (key_row c.style column k) 1 (rows c margins v))) (rises_join (key_row_rises line) (value_rises margins))

  -- with `?` and `:`
  question : (key : NodeFlows c a.entry.start l k) → Rises i (items_on (after_sign c.style (entry_row column (codes "?") k) (rows c (key_margins c.style column k) k))) l
  question key =
      subst (λ z. Rises i z l) (sym (items_joined (entry_row column (codes "?") k) (c.style.indent - 1) (rows c (key_margins c.style column k) k)))
      (rises_join key_rises (key.rises (key_margins c.style column k)))

  answer : Rises l (items_on (after_sign c.style (colon_row column k) (rows c (inner_margins c.style column) v))) n
  answer =
      subst (λ z. Rises l z n) (sym (items_joined (colon_row column k) (c.style.indent - 1) (rows c (inner_margins c.style column) v)))
      (rises_join a.colon (a.value.rises (inner_margins c.style column)))

  explicit_fit : (key : NodeFlows c a.entry.start l k) → RowsFit c.comments (explicit_pair c.style column k (rows c (key_margins c.style column k) k) (rows c (inner_margins c.style column) v))
  explicit_fit key =
      fit_append (sign_fits (entry_row column (codes "?") k) (c.style.indent - 1) (rows c (key_margins c.style column k) k) refl refl key_rises (key.rises (key_margins c.style column k)) (key.fits (key_margins c.style column k)))
      (sign_fits (colon_row column k) (c.style.indent - 1) (rows c (inner_margins c.style column) v) refl refl a.colon (a.value.rises (inner_margins c.style column)) (a.value.fits (inner_margins c.style column)))

  explicit_rises : (key : NodeFlows c a.entry.start l k) → Rises i (items_on (explicit_pair c.style column k (rows c (key_margins c.style column k) k) (rows c (inner_margins c.style column) v))) n
  explicit_rises key =
      subst (λ z. Rises i z n) (sym (items_append (after_sign c.style (entry_row column (codes "?") k) (rows c (key_margins c.style column k) k)) (after_sign c.style (colon_row column k) (rows c (inner_margins c.style column) v))))
      (rises_join (question key) answer)

  pair_flow : (NodeSits c.comments a.entry.start l k) → NodeFlows c a.entry.start l k
      → Rises i (items_on (pair_rows c column k v (rows c (key_margins c.style column k) k) (rows c (value_margins c column k v) v))) n
      × RowsFit c.comments (pair_rows c column k v (rows c (key_margins c.style column k) k) (rows c (value_margins c column k v) v))
  pair_flow sits key = go (is_implicit c.style column k) refl where
    go : (b : Bool) → is_implicit c.style column k ≡ b → Rises i (items_on (either_pair b c column k v)) n × RowsFit c.comments (either_pair b c column k v)
    go true e =
        let line = one_line sits (key_line c.style column k (and_parts (is_one_line_key c.style column k) _ e).0) in
        (implicit_rises (value_of_implicit c column k v) line (key_comment c.comments k v) (begins_below v), implicit_fit (value_of_implicit c column k v) line (key_comment c.comments k v) refl (begins_below v) refl)
    go false e = (explicit_rises key, explicit_fit key)

-- Trees.

module _ (c : LayoutSetting) where
  mutual
    pub node_flows : {i j : ℕ} {x : Node} → NodeSits c.comments i j x → is_placed x ≡ true → House c x → NodeFlows c i j x
    node_flows (nothing_sits {at = at} {props = props} {style = style} {text = text} {lines = lines} l e) p h = scalar_flows c at props style text lines (one_line (nothing_sits l e) refl)
    node_flows (scalar_sits {at = at} {props = props} {style = style} {text = text} {lines = lines} a) p h = scalar_flows c at props style text lines (one_line (scalar_sits a) refl)
    node_flows (alias_sits {at = at} {name = name} a) p h = line_flows c (alias at name) (λ margins. refl) (one_line (alias_sits a) refl)
    node_flows (empty_sequence_sits {at = at} {flow = true} {props = props} a) p h = line_flows c (sequence at true props no_items) (λ margins. refl) (one_line (empty_sequence_sits a) refl)
    node_flows (empty_sequence_sits {at = at} {flow = false} {props = props} a) p h = absurd (true≢false (same_flag h))
    node_flows (empty_mapping_sits {at = at} {flow = true} {props = props} a) p h = line_flows c (mapping at true props no_pairs) (λ margins. refl) (one_line (empty_mapping_sits a) refl)
    node_flows (empty_mapping_sits {at = at} {flow = false} {props = props} a) p h = absurd (true≢false (same_flag_of_map h))
    node_flows (sequence_on_line {at = at} {props = props} {x = x} {xs = xs} l a m) p h = line_flows c (sequence at true props (item x xs)) (λ margins. refl) (one_line (sequence_on_line l a m) refl)
    node_flows (mapping_on_line {at = at} {props = props} {x = x} {v = v} {ps = ps} l a m) p h = line_flows c (mapping at true props (pair x v ps)) (λ margins. refl) (one_line (mapping_on_line l a m) refl)
    node_flows (sequence_in_block {props = props} {x = x} {xs = xs} l a m) p h =
        let f = items_flow a p (items_of h) in
        record {
          rises = λ margins. props_rises margins.column (props_text props) (rows_of_items c margins.entries (item x xs)) (rises_after l (rises_upto (f margins.entries).0 m));
          fits = λ margins. props_fit margins.column (props_text props) (rows_of_items c margins.entries (item x xs)) (f margins.entries).1;
        }
    node_flows (mapping_in_block {props = props} {x = x} {v = v} {ps = ps} l a m) p h =
        let f = pairs_flow a p (pairs_of h) in
        record {
          rises = λ margins. props_rises margins.column (props_text props) (rows_of_pairs c margins.entries (pair x v ps)) (rises_after l (rises_upto (f margins.entries).0 m));
          fits = λ margins. props_fit margins.column (props_text props) (rows_of_pairs c margins.entries (pair x v ps)) (f margins.entries).1;
        }

    items_flow : {i j : ℕ} {xs : Items} → ItemsSit c.comments i j xs → items_are_placed xs ≡ true → styled_items [] (setting c.style []) xs ≡ xs → (column : ℕ)
        → Rises i (items_on (rows_of_items c column xs)) j × RowsFit c.comments (rows_of_items c column xs)
    items_flow (no_items_sit l) p h column = (no_place l, no_rows_fit)
    items_flow {i} {j} (item_sits {k = k} {x = x} {xs = xs} e q l a more) p h column =
        let hs = and_parts (is_placed x) (items_are_placed xs) p in
        let parts = item_parts h in
        let node = node_flows a hs.0 parts.0 in
        let rest = items_flow more hs.1 parts.1 column in
        let head : Row = entry_row column (codes "-") x in
        let inner : List Row = rows c (inner_margins c.style column) x in
        let first : Rises i (items_on (after_sign c.style head inner)) k =
        subst (λ z. Rises i z k) (sym (items_joined head (c.style.indent - 1) inner)) (rises_join (entry_rises e q l) (node.rises (inner_margins c.style column))) in (
          subst (λ z. Rises i z j) (sym (items_append (after_sign c.style head inner) (rows_of_items c column xs))) (rises_join first rest.0),
          fit_append (sign_fits head (c.style.indent - 1) inner refl refl (entry_rises e q l) (node.rises (inner_margins c.style column)) (node.fits (inner_margins c.style column))) rest.1,
        )

    pairs_flow : {i j : ℕ} {ps : Pairs} → PairsSit c.comments i j ps → pairs_are_placed ps ≡ true → styled_pairs [] (setting c.style []) ps ≡ ps → (column : ℕ)
        → Rises i (items_on (rows_of_pairs c column ps)) j × RowsFit c.comments (rows_of_pairs c column ps)
    pairs_flow (no_pairs_sit l) p h column = (no_place l, no_rows_fit)
    pairs_flow {i} {j} (pair_sits {l = l} {m = m} {n = n} {k = k} {v = v} {ps = ps} e q low free a colon b more) p h column =
        let hx = and_parts (is_placed k) (is_placed v && pairs_are_placed ps) p in
        let hy = and_parts (is_placed v) (pairs_are_placed ps) hx.1 in
        let parts = pair_parts h in
        let key = node_flows a hx.0 parts.0 in
        let value = node_flows b hy.0 parts.1.0 in
        let rest = pairs_flow more hy.1 parts.1.1 column in
        let both : PairSits c i l m n k v = record {
          entry = e;
          is = q;
          low = low;
          free = free;
          colon = colon;
          value_sits = b;
          house = parts.1.0;
          leaves_are = λ margins. node_leaves c margins v hy.0 parts.1.0;
          value = value;
        } in
        let first = pair_flow c column k v both a key in
        let mine : List Row = pair_rows c column k v (rows c (key_margins c.style column k) k) (rows c (value_margins c column k v) v) in
        (subst (λ z. Rises i z j) (sym (items_append mine (rows_of_pairs c column ps))) (rises_join first.0 rest.0), fit_append first.1 rest.1)
