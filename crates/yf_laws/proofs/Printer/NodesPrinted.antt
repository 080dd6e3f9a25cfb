-- The printer's pass over the events of any node of a normal form adds the rows of the node, and leaves the collections
-- around it open.
use Rattle.std.proofs.Common.{◌≡◌, ℕ, zero, suc, ◌+◌, Bool, true, false, List, [], ◌∷◌, ◌++◌, length, codes, Option, None, refl, sym, ap, ◌∙◌, subst, true≢false}
use Rattle.std.specs.Prelude.{◌-◌, is_some, if◌then◌else◌}
use Rattle.yf_comments.specs.Comment.{CommentValue}
use Rattle.yf_events.specs.Event.{EventInText, sequence_starts, sequence_ends, mapping_starts, mapping_ends}
use Rattle.yf_events.specs.Tree.{Node, scalar, alias, sequence, mapping, Items, no_items, item, Pairs, no_pairs, pair, flat, flat_items, flat_pairs, placed, standing, unplaced}
use Rattle.yf_events.specs.declared.event.Entry.{Entry}
use Rattle.yf_forms.specs.declared.form.decide.Form.{Form}
use Rattle.yf_print.specs.declared.printer.FrameState.TheVariants.{Item, Key}
use Rattle.yf_print.specs.declared.printer.PrintFrame.{PrintFrame}
use Rattle.yf_print.specs.Passes.Drafts.{Draft, trailing_if}
use Rattle.yf_forms.specs.NormalForms.Forms.{Site, key_comment_index, key_site, site_at, value_site}
use Rattle.yf_forms.specs.NormalForms.Normal.{LayoutSetting, inner_margins, is_implicit, key_comment, key_margins, settled, value_margins}
use Rattle.yf_print.specs.Passes.PrintPass as Printing
use Rattle.yf_print.specs.Passes.PrintPass.{awaited_after, state, value_awaited}
use Rattle.yf_print.specs.Passes.PrintWork.{remarks_of}
use Rattle.yf_print.specs.Layouts.Rows.{Row, after_sign, colon_row, entry_row, explicit_pair, implicit_pair, key_row, pair_rows, rows, rows_of_items, rows_of_pairs}
use Rattle.yf_laws.proofs.Printer.EntriesFed.{begun, begun_append, begun_none, filled, filled_append, filled_joined, filled_pair, joined_begun, sign_begun}
use Rattle.yf_laws.proofs.Printer.JoinLemmas.{fed_after}
use Rattle.yf_forms.proofs.Decide.LeafLemmas.{is_own_leaf}
use Rattle.yf_laws.proofs.Printer.LeafPrinted.{measure, setting_in}
use Rattle.yf_laws.proofs.Printer.NotedLemmas.{Known}
use Rattle.yf_laws.proofs.Printer.PairSites.{empty_key, key_at, key_rows, pairs_after, value_at}
use Rattle.yf_laws.proofs.Printer.PairsFed.{comment_text, pair_fed}
use Rattle.yf_laws.proofs.Printer.PrintNodes.{At, NodeReaches, form, node_draft, whole_reaches}
use Rattle.yf_laws.proofs.Printer.PrintTrees.{ItemsAt, PairsAt, item_at, items_after, items_within, level, open_reaches, pair_parts, pairs_within}
use Rattle.yf_laws.proofs.Printer.Reaching.{Reaches, reaches_append, reaches_none, reaches_same}
use Rattle.yf_forms.proofs.Decide.ValueLemmas.{same_comment}

-- Entries have rows.

pair_filled : (c : LayoutSetting) (column : ℕ) (x y : Node) (xs ys : List Row) → filled (pair_rows c column x y xs ys) ≡ true
pair_filled c column x y xs ys = by (is_implicit c.style column x) where
  by : (b : Bool) → filled (if b then implicit_pair c column x y ys else explicit_pair c.style column x xs ys) ≡ true
  by true = filled_pair (key_row c.style column x) (key_comment c.comments x y) _ ys
  by false = filled_append (after_sign c.style (entry_row column (codes "?") x) xs) (after_sign c.style (colon_row column x) ys) (filled_joined (entry_row column (codes "?") x) (c.style.indent - 1) xs)

-- whether the next entry goes on the current line
abbrev after_items : Bool → Items → Bool
after_items inline no_items = inline
after_items inline (item x xs) = false

abbrev after_pairs : Bool → Pairs → Bool
after_pairs inline no_pairs = inline
after_pairs inline (pair x y ps) = false

below_items : (xs : Items) → after_items false xs ≡ false
below_items no_items = refl
below_items (item x xs) = refl

below_pairs : (ps : Pairs) → after_pairs false ps ≡ false
below_pairs no_pairs = refl
below_pairs (pair x y ps) = refl

-- an item's sign and its rows
item_draft : (k : Known) (column : ℕ) (inline : Bool) (x : Node) (others : List PrintFrame) (d : Draft)
    → node_draft k (site_at (inner_margins k.work.style column)) x (level column Item inline ∷ others) d
    ≡ begun k inline (after_sign k.work.style (entry_row column (codes "-") x) (rows (setting_in k) (inner_margins k.work.style column) x)) d
item_draft k column inline x others d =
    let n : ℕ = k.work.style.indent - 1 in
    let xs : List Row = rows (setting_in k) (inner_margins k.work.style column) x in
    ap (λ w. fed_after (remarks_of k.work) k.trail n xs w) (sign_begun k inline column (codes "-") x d)
    ∙ sym (joined_begun k inline (entry_row column (codes "-") x) n xs d (record { key = refl; body = refl; ending = refl }))

-- a key and its value
comment_of : (k : Known) (i n column : ℕ) (x y : Node) (b : Bool) → settled (setting_in k) (value_margins (setting_in k) column x y) y ≡ y → b ≡ true
    → (if b then key_comment_index k.work.reading.comments x (settled (setting_in k) (value_margins (setting_in k) column x y) y) else None)
    ≡ key_comment_index k.work.reading.comments x y
comment_of k i n column x y true s e = ap (key_comment_index k.work.reading.comments x) s
comment_of k i n column x y false s e = absurd (true≢false (sym e))

value_awaits : (f : Form) (entry other : Option Entry) (b : Bool) → awaited_after f entry (value_awaited b other) ≡ Key
value_awaits f entry other true = refl
value_awaits f entry other false = refl

pair_draft : (k : Known) (i n column : ℕ) (inline : Bool) (x y : Node) (ps : Pairs) (others : List PrintFrame) (d : Draft) → PairsAt k i n column (pair x y ps)
    → node_draft k (value_site (setting_in k) column x y) y (level column (value_awaited (is_implicit k.work.style column x) (standing x).entry) false ∷ others)
    (node_draft k (key_site k.work.style column x) x (level column Key inline ∷ others) d)
    ≡ begun k inline (pair_rows (setting_in k) column x y (rows (setting_in k) (key_margins k.work.style column x) x) (rows (setting_in k) (value_margins (setting_in k) column x y) y)) d
pair_draft k i n column inline x y ps others d a =
    let b : Bool = is_implicit k.work.style column x in
    let site = value_site (setting_in k) column x y in
    let cs : List CommentValue = k.work.reading.comments in
    let key = key_at k i n column inline x y ps others a in
    let same : b ≡ true → site.key_comment ≡ key_comment_index cs x y = λ e. comment_of k i n column x y b (pair_parts a.settled).1.0 e in
    pair_fed k inline b column (key_margins k.work.style column x).column x y (form k site y) (standing y).entry site.key_comment
    (rows (setting_in k) (key_margins k.work.style column x) x) (rows (setting_in k) (value_margins (setting_in k) column x y) y) d
    (λ e. key_rows (setting_in k) (key_margins k.work.style column x) column x key.laid.house e)
    (λ e f. empty_key k.work.style column x key.laid.placed e f)
    (λ e. ap (trailing_if cs) (same e) ∙ comment_text cs x y)
    (λ e. ap is_some (same e) ∙ same_comment cs x y)

mutual
  pub node_reaches : (k : Known) (i docs n : ℕ) (site : Site) (x : Node) (levels : List PrintFrame) (d : Draft) → At k i n site x levels → NodeReaches k i docs site x levels d
  node_reaches k i docs n site (scalar at props style text lines) levels d a = whole_reaches k i docs n site (scalar at props style text lines) levels d a refl
  node_reaches k i docs n site (alias at name) levels d a = whole_reaches k i docs n site (alias at name) levels d a refl
  node_reaches k i docs n site (sequence at flow props no_items) levels d a = whole_reaches k i docs n site (sequence at flow props no_items) levels d a refl
  node_reaches k i docs n site (sequence at true props (item x xs)) levels d a = whole_reaches k i docs n site (sequence at true props (item x xs)) levels d a refl
  node_reaches k i docs zero site (sequence at false props (item x xs)) levels d a = absurd (true≢false (sym a.nests))
  node_reaches k i docs (suc n) site (sequence at false props (item x xs)) levels d a =
      let whole : Node = sequence at false props (item x xs) in
      let e : EventInText = placed at (sequence_starts false props) [] in
      open_reaches k i docs (suc n) site whole levels Item e (unplaced sequence_ends) (flat_items (item x xs)) (rows_of_items (setting_in k) site.margins.entries (item x xs)) d a refl
      (λ f p h. ap (λ b. Printing.collection_if b k.work i (measure k i whole) f e props Item (Printing.role f levels) (Printing.signed k.work f at.entry (state d levels docs p))) h)
      (is_own_leaf i whole a.laid.placed) (λ j p c top others. refl) refl refl refl
      (filled_append (after_sign k.work.style (entry_row site.margins.entries (codes "-") x) (rows (setting_in k) (inner_margins k.work.style site.margins.entries) x))
      (rows_of_items (setting_in k) site.margins.entries xs)
      (filled_joined (entry_row site.margins.entries (codes "-") x) (k.work.style.indent - 1) (rows (setting_in k) (inner_margins k.work.style site.margins.entries) x))) refl
      (λ inline c others. items_reach k (i + 1) docs n site.margins.entries inline (item x xs) others c (items_within k i n site at props x xs levels a))
  node_reaches k i docs n site (mapping at flow props no_pairs) levels d a = whole_reaches k i docs n site (mapping at flow props no_pairs) levels d a refl
  node_reaches k i docs n site (mapping at true props (pair x y ps)) levels d a = whole_reaches k i docs n site (mapping at true props (pair x y ps)) levels d a refl
  node_reaches k i docs zero site (mapping at false props (pair x y ps)) levels d a = absurd (true≢false (sym a.nests))
  node_reaches k i docs (suc n) site (mapping at false props (pair x y ps)) levels d a =
      let whole : Node = mapping at false props (pair x y ps) in
      let e : EventInText = placed at (mapping_starts false props) [] in
      let column : ℕ = site.margins.entries in
      let xs : List Row = rows (setting_in k) (key_margins k.work.style column x) x in
      let ys : List Row = rows (setting_in k) (value_margins (setting_in k) column x y) y in
      open_reaches k i docs (suc n) site whole levels Key e (unplaced mapping_ends) (flat_pairs (pair x y ps)) (rows_of_pairs (setting_in k) column (pair x y ps)) d a refl
      (λ f p h. ap (λ b. Printing.collection_if b k.work i (measure k i whole) f e props Key (Printing.role f levels) (Printing.signed k.work f at.entry (state d levels docs p))) h)
      (is_own_leaf i whole a.laid.placed) (λ j p c top others. refl) refl refl refl
      (filled_append (pair_rows (setting_in k) column x y xs ys) (rows_of_pairs (setting_in k) column ps) (pair_filled (setting_in k) column x y xs ys)) refl
      (λ inline c others. pairs_reach k (i + 1) docs n column inline (pair x y ps) others c (pairs_within k i n site at props x y ps levels a))

  items_reach : (k : Known) (i docs n column : ℕ) (inline : Bool) (xs : Items) (others : List PrintFrame) (d : Draft) → ItemsAt k i n column xs
      → Reaches k.work i (flat_items xs) docs d (begun k inline (rows_of_items (setting_in k) column xs) d) (level column Item inline ∷ others) (level column Item (after_items inline xs) ∷ others)
  items_reach k i docs n column inline no_items others d a =
      reaches_same k.work i docs [] d d (begun k inline [] d) _ _ (sym (begun_none k inline d)) (reaches_none k.work i docs d (level column Item inline ∷ others))
  items_reach k i docs n column inline (item x xs) others d a =
      let c : LayoutSetting = setting_in k in
      let mine : List Row = after_sign k.work.style (entry_row column (codes "-") x) (rows c (inner_margins k.work.style column) x) in
      let more : List Row = rows_of_items c column xs in
      let top : List PrintFrame = level column Item inline ∷ others in
      let mid : List PrintFrame = level column Item false ∷ others in
      let first : Reaches k.work i (flat x) docs d (begun k inline mine d) top mid =
      reaches_same k.work i docs (flat x) d _ (begun k inline mine d) top mid (item_draft k column inline x others d)
      (node_reaches k i docs n (site_at (inner_margins k.work.style column)) x top d (item_at k i n column inline x xs others a)) in
      let rest : Reaches k.work (i + length (flat x)) (flat_items xs) docs (begun k inline mine d) (begun k false more (begun k inline mine d)) mid mid =
      subst (λ b. Reaches k.work (i + length (flat x)) (flat_items xs) docs (begun k inline mine d) (begun k false more (begun k inline mine d)) mid (level column Item b ∷ others))
      (below_items xs) (items_reach k (i + length (flat x)) docs n column false xs others (begun k inline mine d) (items_after k i n column x xs a)) in
      reaches_same k.work i docs (flat x ++ flat_items xs) d (begun k false more (begun k inline mine d)) (begun k inline (mine ++ more) d) top mid
      (sym (begun_append k inline mine more d (filled_joined (entry_row column (codes "-") x) (k.work.style.indent - 1) (rows c (inner_margins k.work.style column) x))))
      (reaches_append k.work i docs (flat x) (flat_items xs) d (begun k inline mine d) (begun k false more (begun k inline mine d)) top mid mid first rest)

  pairs_reach : (k : Known) (i docs n column : ℕ) (inline : Bool) (ps : Pairs) (others : List PrintFrame) (d : Draft) → PairsAt k i n column ps
      → Reaches k.work i (flat_pairs ps) docs d (begun k inline (rows_of_pairs (setting_in k) column ps) d) (level column Key inline ∷ others) (level column Key (after_pairs inline ps) ∷ others)
  pairs_reach k i docs n column inline no_pairs others d a =
      reaches_same k.work i docs [] d d (begun k inline [] d) _ _ (sym (begun_none k inline d)) (reaches_none k.work i docs d (level column Key inline ∷ others))
  pairs_reach k i docs n column inline (pair x y ps) others d a =
      let c : LayoutSetting = setting_in k in
      let b : Bool = is_implicit k.work.style column x in
      let j : ℕ = i + length (flat x) in
      let at_key : Site = key_site k.work.style column x in
      let at_value : Site = value_site c column x y in
      let mine : List Row = pair_rows c column x y (rows c (key_margins k.work.style column x) x) (rows c (value_margins c column x y) y) in
      let more : List Row = rows_of_pairs c column ps in
      let top : List PrintFrame = level column Key inline ∷ others in
      let mid : List PrintFrame = level column (value_awaited b (standing x).entry) false ∷ others in
      let last : List PrintFrame = level column Key false ∷ others in
      let one : Draft = node_draft k at_key x top d in
      let two : Draft = begun k inline mine d in
      let all : Draft = begun k false more two in
      let key : Reaches k.work i (flat x) docs d one top mid = node_reaches k i docs n at_key x top d (key_at k i n column inline x y ps others a) in
      let value : Reaches k.work j (flat y) docs one two mid last =
      subst (λ w. Reaches k.work j (flat y) docs one two mid (level column w false ∷ others)) (value_awaits (form k at_value y) (standing y).entry (standing x).entry b)
      (reaches_same k.work j docs (flat y) one (node_draft k at_value y mid one) two mid _ (pair_draft k i n column inline x y ps others d a)
      (node_reaches k j docs n at_value y mid one (value_at k i n column x y ps others a))) in
      let rest : Reaches k.work (j + length (flat y)) (flat_pairs ps) docs two all last last =
      subst (λ w. Reaches k.work (j + length (flat y)) (flat_pairs ps) docs two all last (level column Key w ∷ others)) (below_pairs ps)
      (pairs_reach k (j + length (flat y)) docs n column false ps others two (pairs_after k i n column x y ps a)) in
      reaches_same k.work i docs (flat x ++ (flat y ++ flat_pairs ps)) d all (begun k inline (mine ++ more) d) top last
      (sym (begun_append k inline mine more d (pair_filled c column x y (rows c (key_margins k.work.style column x) x) (rows c (value_margins c column x y) y))))
      (reaches_append k.work i docs (flat x) (flat y ++ flat_pairs ps) d one all top mid last key
      (reaches_append k.work j docs (flat y) (flat_pairs ps) one two all mid last last value rest))
