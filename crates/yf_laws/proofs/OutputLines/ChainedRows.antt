-- The collections that are open along the rows of a node. Each is at the column of the one that holds it or one
-- indentation further in, a row that begins with an entry is at the column of its collection, and the lines of a block
-- scalar are right of all open collections.
use Rattle.std.proofs.Common.{◌≡◌, ℕ, ◌+◌, ◌-◌, ◌<◌, ◌≤◌, Bool, true, false, true≢false, not, List, [], ◌∷◌, ◌++◌, Option, Some, None, refl, sym, ap, ◌∙◌, subst, arith}
use Rattle.std.specs.Prelude.{◌&&◌, ◌||◌, if◌then◌else◌}
use Rattle.std.proofs.lemmas.Bool.{and_parts}
use Rattle.yf_comments.specs.Comment.{CommentValue}
use Rattle.yf_events.specs.declared.event.ScalarStyle.TheVariants.{Plain, Single, Double, Literal, Folded}
use Rattle.yf_events.specs.declared.event.Span.{Span}
use Rattle.yf_events.specs.Tree.{Node, scalar, alias, sequence, mapping, Items, no_items, item, Pairs, no_pairs, pair, is_block_collection, is_filled_flow, entry_start, is_sequence, is_text, leaves}
use Rattle.yf_print.specs.Layouts.CommentColumns.{open_after}
use Rattle.yf_print.specs.declared.open_blocks.OpenBlock.{OpenBlock}
use Rattle.yf_print.specs.Layouts.KeptColumns.{after_row, after_starts, beginning, block_of, unless_document}
use Rattle.yf_laws.specs.Layouts.ReadableTrees.{Fit, fit_nothing, fit_line, fit_scalar, fit_sequence, fit_mapping, FitItems, fit_no_items, fit_item, FitPairs, fit_no_pairs, fit_pair, is_inline}
use Rattle.yf_print.specs.Layouts.Rows.{Row, after_key, before_node, begins_below, colon_row, entry_row, joined, key_row, one_line, one_line_row, pair_rows, props_row, rows, rows_of_items, rows_of_pairs, start_of, start_row}
use Rattle.yf_forms.specs.Nodes.Lines.{is_empty_text}
use Rattle.yf_forms.specs.Nodes.OneLine.{props_text, written}
use Rattle.yf_forms.specs.NormalForms.Normal.{LayoutSetting, Margins, first_between, inner_margins, is_implicit, key_comment, key_margins, key_start, value_entries, value_of_implicit, value_margins}
use Rattle.yf_laws.proofs.Derived.TreesMade.{either_pair, inline_rows}
use Rattle.yf_laws.proofs.OutputLines.ColumnsHold.{AllBlocks, no_blocks}
use Rattle.yf_laws.proofs.SecondRun.ColumnsAgain.{InSteps, no_step, NextIsAt, next_document, next_node}
use Rattle.yf_laws.proofs.OutputLines.OpenChains.{Kept, Enters, Where, Opened, opening, kept_around, steps_below, BodyRight, body_right, Chained, Inline, Starting, chain_append, is_filled, inline_append, starting_append, alone, joined_filled, joined_starting, joined_inline, head_inline, line_inline, leaf_alone, line_alone, enters_none, enters_further, enters_same, at_first, at_later, chain_over, chain_row, inline_over, inline_row, none_starting, row_starting}

-- Nodes that are not block collections.

pub inline_no_block : (x : Node) → is_inline x ≡ true → is_block_collection x ≡ false
inline_no_block (scalar at props style text lines) e = refl
inline_no_block (alias at name) e = refl
inline_no_block (sequence at flow props no_items) e = refl
inline_no_block (sequence at flow props (item x xs)) e = ap not e
inline_no_block (mapping at flow props no_pairs) e = refl
inline_no_block (mapping at flow props (pair k v ps)) e = ap not e

-- a comment that trails a key is before a leaf of the value
keyed_leaf : (cs : List CommentValue) (k v : Node) (d : CommentValue) → key_comment cs k v ≡ Some d → leaves v ≡ [] → ⊥
keyed_leaf cs k v d e f = go (is_text v || is_filled_flow v) (e) where
  go : (b : Bool) → (if b then first_between cs (key_start k) (leaves v) else None) ≡ Some d → ⊥
  go true g = absurd (let h : None ≡ Some d = ap (λ z. first_between cs (key_start k) z) (sym f) ∙ g in cc)
  go false g = cc

abbrev first_row : List Row → Row
first_row [] = start_row
first_row (x ∷ xs) = x

is_empty : (q : List ℕ) → (true && is_empty_text q) ≡ true → q ≡ []
is_empty [] e = refl
is_empty (x ∷ q) e = absurd (true≢false (sym e))

module _ (t : List ℕ) (c : LayoutSetting) where
  abbrev w : ℕ
  w = c.style.indent

  wide : 0 < w
  wide = let two : 2 ≤ c.style.indent = c.style.indent_from in omega (arith, two)

  -- the rows of a node within b
  record Run (b : OpenBlock) (bs : List OpenBlock) (rs : List Row) : Type 0 where
    now : List OpenBlock
    rows : Inline t w (b ∷ bs) rs now
    steps : InSteps w now
    kept : Kept b now (b ∷ bs)

  -- the rows of entries at that column
  record EntriesRun (e : ℕ) (k : Bool) (bs start : List OpenBlock) (rs : List Row) : Type 0 where
    now : List OpenBlock
    rows : Inline t w start rs now
    steps : InSteps w now
    there : Where w wide e k bs now
    starting : Starting t w rs

  -- the collections open after rows
  pub record After (start : List OpenBlock) (rs : List Row) (Q : List OpenBlock → Type 0) : Type 0 where
    pub now : List OpenBlock
    pub rows : Chained t w start rs now
    pub steps : InSteps w now
    pub holds : Q now

  -- the entries of a block collection are within b
  abbrev FitsIn : Margins → Node → OpenBlock → List OpenBlock → Type 0
  FitsIn margins x b bs = is_block_collection x ≡ true → Enters w wide margins.entries (is_sequence x) (b ∷ bs)

  record NodeRun (x : Node) : Type 0 where
    run : (margins : Margins) (b : OpenBlock) (bs : List OpenBlock) → InSteps w (b ∷ bs) → b.printed < margins.lines → FitsIn margins x b bs → Run b bs (rows c margins x)
    -- on lines of their own, after a key: a leaf, or entries
    below : (margins : Margins) (b : OpenBlock) (bs : List OpenBlock) → InSteps w (b ∷ bs) → b.printed < margins.lines → FitsIn margins x b bs → (is_block_collection x ≡ false → leaves x ≡ [] → ⊥)
        → (is_block_collection x ≡ true → begins_below x ≡ true) → After (b ∷ bs) (rows c margins x) (λ now. Kept b now (b ∷ bs))
    -- at the start of a document
    root : (margins : Margins) → margins.column ≡ 0 → After [] (rows c margins x) (λ now. Unit {0})

  root_row : {x : Row} → x.starts ≡ [] → x.column ≡ 0 → BodyRight x.body x.lines [] → Chained t w [] (x ∷ []) []
  root_row {x} e f r = go x.leaves refl where
    nothing : (ls : List Span) → unless_document [] ls [] ≡ []
    nothing [] = refl
    nothing (l ∷ ls) = refl

    same : after_row t x [] ≡ []
    same = ap (λ z. after_starts t z (unless_document z x.leaves [])) e ∙ nothing x.leaves

    rest : BodyRight x.body x.lines (after_row t x [])
    rest = subst (λ z. BodyRight x.body x.lines z) (sym same) r

    over : Chained t w (after_row t x []) [] []
    over = subst (λ z. Chained t w z [] []) (sym same) chain_over

    go : (ls : List Span) → x.leaves ≡ ls → Chained t w [] (x ∷ []) []
    go [] g = chain_row no_step (subst (λ z. NextIsAt x.column (beginning t z x.leaves)) (sym e) (subst (λ z. NextIsAt x.column (beginning t [] z)) (sym g) (next_document f))) rest over
    go (l ∷ ls) g = chain_row no_step (subst (λ z. NextIsAt x.column (beginning t z x.leaves)) (sym e) (subst (λ z. NextIsAt x.column (beginning t [] z)) (sym g) next_node)) rest over

  root_line : (column : ℕ) (x : Node) (text : List ℕ) → column ≡ 0 → Chained t w [] (one_line_row column x text) []
  root_line column x [] e = chain_over
  root_line column x (b ∷ text) e = root_row refl e tt

  -- a node on one line
  line_node : (x : Node) → ((margins : Margins) → rows c margins x ≡ one_line c.style margins x) → is_block_collection x ≡ false → NodeRun x
  line_node x e n = record {
    run = λ margins b bs s l f. record { now = b ∷ bs; rows = subst (λ z. Inline t w (b ∷ bs) z (b ∷ bs)) (sym (e margins)) (line_inline t w margins.column x (written c.style x)); steps = s; kept = λ y o. refl };
    below = λ margins b bs s l f m g.
        record { now = b ∷ bs; rows = subst (λ z. Chained t w (b ∷ bs) z (b ∷ bs)) (sym (e margins)) (line_alone t w margins.column x (written c.style x) s (m n)); steps = s; holds = λ y o. refl };
    root = λ margins z. record { now = []; rows = subst (λ r. Chained t w [] r []) (sym (e margins)) (root_line margins.column x (written c.style x) z); steps = no_step; holds = tt };
  }

  -- a block scalar
  module _ (x : Node) (row : Margins → Row) (rows_are : (margins : Margins) → rows c margins x ≡ row margins ∷ []) (bare : (margins : Margins) → (row margins).starts ≡ []) (leaf : (margins : Margins) → (row margins).leaves ≡ leaves x)
      (lines : (margins : Margins) → (row margins).lines ≡ margins.lines) (column : (margins : Margins) → (row margins).column ≡ margins.column) (single : is_block_collection x ≡ false) where
    body_here : (margins : Margins) {bs : List OpenBlock} → AllBlocks (λ k. k < margins.lines) bs → BodyRight (row margins).body (row margins).lines bs
    body_here margins {bs} a = body_right (row margins).body (subst (λ z. AllBlocks (λ k. k < z) bs) (sym (lines margins)) a)

    scalar_inline : (margins : Margins) {bs : List OpenBlock} → AllBlocks (λ k. k < margins.lines) bs → Inline t w bs (rows c margins x) bs
    scalar_inline margins {bs} a =
        let same = sym (ap (λ z. after_starts t z bs) (bare margins)) in
        subst (λ z. Inline t w bs z bs) (sym (rows_are margins)) (inline_row (subst (λ z. BodyRight (row margins).body (row margins).lines z) same (body_here margins a)) (subst (λ z. Chained t w z [] bs) same chain_over))

    scalar_node : NodeRun x
    scalar_node = record {
      run = λ margins b bs s l f. record { now = b ∷ bs; rows = scalar_inline margins (steps_below w wide s l); steps = s; kept = λ y o. refl };
      below = λ margins b bs s l f m g.
          record {
            now = b ∷ bs;
            rows = subst (λ z. Chained t w (b ∷ bs) z (b ∷ bs)) (sym (rows_are margins)) (leaf_alone t w s (bare margins) (λ e. m single (sym (leaf margins) ∙ e)) (body_here margins (steps_below w wide s l)));
            steps = s;
            holds = λ y o. refl;
          };
      root = λ margins z. record { now = []; rows = subst (λ r. Chained t w [] r []) (sym (rows_are margins)) (root_row (bare margins) (column margins ∙ z) (body_here margins no_blocks)); steps = no_step; holds = tt };
    }

  -- a block collection with these entries
  module _ (x : Node) (p : List ℕ) (k : Bool) (entries : ℕ → List Row) (rows_are : (margins : Margins) → rows c margins x ≡ props_row margins.column p ++ entries margins.entries) (block : is_block_collection x ≡ true) (kind : is_sequence x ≡ k)
      (empty : begins_below x ≡ true → p ≡ []) (each : (e : ℕ) (bs : List OpenBlock) → InSteps w bs → Enters w wide e k bs → EntriesRun e k bs bs (entries e)) where
    with_props : (q : List ℕ) (column e : ℕ) {bs now : List OpenBlock} → InSteps w bs → Starting t w (entries e) → Inline t w bs (entries e) now → Inline t w bs (props_row column q ++ entries e) now
    with_props [] column e s a r = r
    with_props (b ∷ q) column e s a r = inline_row tt (alone t w s a r)

    props_alone : (q : List ℕ) (column e : ℕ) {now : List OpenBlock} → column ≡ 0 → Starting t w (entries e) → Inline t w [] (entries e) now → Chained t w [] (props_row column q ++ entries e) now
    props_alone [] column e z a r = alone t w no_step a r
    props_alone (b ∷ q) column e z a r = chain_append t w (root_row refl z tt) (alone t w no_step a r)

    no_props_alone : (q : List ℕ) (column e : ℕ) {bs now : List OpenBlock} → q ≡ [] → InSteps w bs → Starting t w (entries e) → Inline t w bs (entries e) now → Chained t w bs (props_row column q ++ entries e) now
    no_props_alone [] column e f s a r = alone t w s a r
    no_props_alone (b ∷ q) column e f s a r = absurd cc

    collection_node : NodeRun x
    collection_node = record {
      run = λ margins b bs s l f.
          let enters : Enters w wide margins.entries k (b ∷ bs) = subst (λ z. Enters w wide margins.entries z (b ∷ bs)) kind (f block) in
          let all = each margins.entries (b ∷ bs) s enters in
          record {
            now = all.now;
            rows = subst (λ z. Inline t w (b ∷ bs) z all.now) (sym (rows_are margins)) (with_props p margins.column margins.entries s all.starting all.rows);
            steps = all.steps;
            kept = kept_around w wide enters all.there;
          };
      below = λ margins b bs s l f m g.
          let enters : Enters w wide margins.entries k (b ∷ bs) = subst (λ z. Enters w wide margins.entries z (b ∷ bs)) kind (f block) in
          let all = each margins.entries (b ∷ bs) s enters in
          record {
            now = all.now;
            rows = subst (λ z. Chained t w (b ∷ bs) z all.now) (sym (rows_are margins)) (no_props_alone p margins.column margins.entries (empty (g block)) s all.starting all.rows);
            steps = all.steps;
            holds = kept_around w wide enters all.there;
          };
      root = λ margins z.
          let all = each margins.entries [] no_step enters_none in
          record { now = all.now; rows = subst (λ r. Chained t w [] r all.now) (sym (rows_are margins)) (props_alone p margins.column margins.entries z all.starting all.rows); steps = all.steps; holds = tt };
    }

  -- Entries.

  -- a pair, with its collection block open after it
  record PairRun (column : ℕ) (bs start : List OpenBlock) (rs : List Row) : Type 0 where
    block : OpenBlock
    at : block.printed ≡ column
    kind : block.is_sequence ≡ false
    around : InSteps w (block ∷ bs)
    now : List OpenBlock
    rows : Inline t w start rs now
    steps : InSteps w now
    kept : Kept block now (block ∷ bs)
    starting : Starting t w rs
    filled : is_filled t w rs ≡ true

  block_unkeyed : (cs : List CommentValue) (k v : Node) → is_block_collection v ≡ true → key_comment cs k v ≡ None
  block_unkeyed cs k (scalar at props style text lines) e = absurd (true≢false (sym e))
  block_unkeyed cs k (alias at name) e = absurd (true≢false (sym e))
  block_unkeyed cs k (sequence at flow props no_items) e = absurd (true≢false (sym e))
  block_unkeyed cs k (sequence at true props (item x xs)) e = absurd (true≢false (sym e))
  block_unkeyed cs k (sequence at false props (item x xs)) e = refl
  block_unkeyed cs k (mapping at flow props no_pairs) e = absurd (true≢false (sym e))
  block_unkeyed cs k (mapping at true props (pair l m ps)) e = absurd (true≢false (sym e))
  block_unkeyed cs k (mapping at false props (pair l m ps)) e = refl

  value_enters : (column : ℕ) (v : Node) {b : OpenBlock} {bs : List OpenBlock} → b.printed ≡ column → b.is_sequence ≡ false → Enters w wide (value_entries c.style column v) (is_sequence v) (b ∷ bs)
  value_enters column v {b} {bs} at kind = go (is_sequence v && not c.style.seq_indent) refl where
    go : (q : Bool) → (is_sequence v && not c.style.seq_indent) ≡ q → Enters w wide (if q then column else column + c.style.indent) (is_sequence v) (b ∷ bs)
    go true e = enters_same (sym at) (and_parts (is_sequence v) (not c.style.seq_indent) e).0 kind
    go false e = enters_further (ap (λ z. z + w) (sym at))

  implicit_run : (column : ℕ) (k v : Node) {bs start : List OpenBlock} → NodeRun v → InSteps w bs → Where w wide column false bs start → PairRun column bs start (either_pair true c column k v)
  implicit_run column k v {bs} {start} f s a =
      let head : Row = key_row c.style column k in
      let o = opening w wide (block_of t (start_of column false (entry_start k))) s a refl refl in
      let margins : Margins = value_of_implicit c column k v in
      let at : o.block.printed ≡ column = o.at in
      let right : o.block.printed < margins.lines = let two : 0 < w = wide in omega (arith, at, two) in
      let node = f.run margins o.block bs o.steps right (λ e. value_enters column v o.at o.kind) in
      go o margins right (key_comment c.comments k v) refl (begins_below v) refl where
        go : (o : Opened w wide column false bs (open_after (block_of t (start_of column false (entry_start k))) start)) (margins : Margins) → o.block.printed < (value_of_implicit c column k v).lines → (q : Option CommentValue) → key_comment c.comments k v ≡ q
            → (d : Bool) → begins_below v ≡ d → PairRun column bs start (after_key (key_row c.style column k) q d (rows c (value_of_implicit c column k v) v))
        go o margins right (Some e) g d h =
            let unblocked = λ (z : is_block_collection v ≡ true). true_of (sym (block_unkeyed c.comments k v z) ∙ g) in
            let node = f.below (value_of_implicit c column k v) o.block bs o.steps right (λ z. value_enters column v o.at o.kind) (λ z y. keyed_leaf c.comments k v e g y) unblocked in
            record {
              block = o.block;
              at = o.at;
              kind = o.kind;
              around = o.steps;
              now = node.now;
              rows = head_inline t w (record (key_row c.style column k) { key_comment = Some e; ending = before_node }) refl refl (subst (λ z. Chained t w z (rows c (value_of_implicit c column k v) v) node.now) (sym o.is) node.rows);
              steps = node.steps;
              kept = node.holds;
              starting = row_starting refl refl;
              filled = refl;
            } where
              true_of : {b : Bool} → None ≡ Some e → b ≡ true
              true_of z = absurd cc
        go o margins right None g true h =
            let blocked : is_block_collection v ≡ true = (and_parts (is_block_collection v) _ h).0 in
            let node = f.below (value_of_implicit c column k v) o.block bs o.steps right (λ z. value_enters column v o.at o.kind) (λ z y. absurd (true≢false (sym blocked ∙ z))) (λ z. h) in
            record {
              block = o.block;
              at = o.at;
              kind = o.kind;
              around = o.steps;
              now = node.now;
              rows = head_inline t w (record (key_row c.style column k) { ending = before_node }) refl refl (subst (λ z. Chained t w z (rows c (value_of_implicit c column k v) v) node.now) (sym o.is) node.rows);
              steps = node.steps;
              kept = node.holds;
              starting = row_starting refl refl;
              filled = refl;
            }
        go o margins right None g false h =
            let node = f.run (value_of_implicit c column k v) o.block bs o.steps right (λ z. value_enters column v o.at o.kind) in
            record {
              block = o.block;
              at = o.at;
              kind = o.kind;
              around = o.steps;
              now = node.now;
              rows = joined_inline t w (key_row c.style column k) 1 (rows c (value_of_implicit c column k v) v) refl refl (subst (λ z. Inline t w z (rows c (value_of_implicit c column k v) v) node.now) (sym o.is) node.rows);
              steps = node.steps;
              kept = node.kept;
              starting = joined_starting t w (key_row c.style column k) 1 (rows c (value_of_implicit c column k v) v) refl refl;
              filled = joined_filled t w (key_row c.style column k) 1 (rows c (value_of_implicit c column k v) v);
            }

  inner_enters : (column : ℕ) (k : Bool) {b : OpenBlock} {bs : List OpenBlock} → b.printed ≡ column → Enters w wide (column + w) k (b ∷ bs)
  inner_enters column k at = enters_further (ap (λ z. z + w) (sym at))

  explicit_run : (column : ℕ) (k v : Node) {bs start : List OpenBlock} → NodeRun k → NodeRun v → InSteps w bs → Where w wide column false bs start → PairRun column bs start (either_pair false c column k v)
  explicit_run column k v {bs} {start} f g s a =
      let n : ℕ = c.style.indent - 1 in
      let two : 0 < w = wide in
      let o = opening w wide (block_of t (start_of column false (entry_start k))) s a refl refl in
      let at : o.block.printed ≡ column = o.at in
      let key = f.run (key_margins c.style column k) o.block bs o.steps (omega (arith, at, two)) (λ e. inner_enters column (is_sequence k) o.at) in
      let again = opening w wide (block_of t (start_of column false (entry_start k))) s (at_later o.at o.kind key.kept o.steps) refl refl in
      let there : again.block.printed ≡ column = again.at in
      let value = g.run (inner_margins c.style column) again.block bs again.steps (omega (arith, there, two)) (λ e. inner_enters column (is_sequence v) again.at) in
      let first : Inline t w start (joined (entry_row column (63 ∷ []) k) n (rows c (key_margins c.style column k) k)) key.now =
      joined_inline t w (entry_row column (63 ∷ []) k) n (rows c (key_margins c.style column k) k) refl refl (subst (λ z. Inline t w z (rows c (key_margins c.style column k) k) key.now) (sym o.is) key.rows) in
      let second : Inline t w key.now (joined (colon_row column k) n (rows c (inner_margins c.style column) v)) value.now =
      joined_inline t w (colon_row column k) n (rows c (inner_margins c.style column) v) refl refl (subst (λ z. Inline t w z (rows c (inner_margins c.style column) v) value.now) (sym again.is) value.rows) in
      record {
        block = again.block;
        at = again.at;
        kind = again.kind;
        around = again.steps;
        now = value.now;
        rows = inline_append t w (joined_filled t w (entry_row column (63 ∷ []) k) n (rows c (key_margins c.style column k) k)) first
            (alone t w key.steps (joined_starting t w (colon_row column k) n (rows c (inner_margins c.style column) v) refl refl) second);
        steps = value.steps;
        kept = value.kept;
        starting = starting_append t w _ (joined_filled t w (entry_row column (63 ∷ []) k) n (rows c (key_margins c.style column k) k)) (joined_starting t w (entry_row column (63 ∷ []) k) n (rows c (key_margins c.style column k) k) refl refl);
        filled = filled_more (joined (entry_row column (63 ∷ []) k) n (rows c (key_margins c.style column k) k)) (joined (colon_row column k) n (rows c (inner_margins c.style column) v)) (joined_filled t w (entry_row column (63 ∷ []) k) n (rows c (key_margins c.style column k) k));
      } where
        filled_more : (xs ys : List Row) → is_filled t w xs ≡ true → is_filled t w (xs ++ ys) ≡ true
        filled_more [] ys e = absurd (true≢false (sym e))
        filled_more (x ∷ xs) ys e = refl

  pair_run : (column : ℕ) (k v : Node) {bs start : List OpenBlock} → NodeRun k → NodeRun v → InSteps w bs → Where w wide column false bs start
      → PairRun column bs start (pair_rows c column k v (rows c (key_margins c.style column k) k) (rows c (value_margins c column k v) v))
  pair_run column k v {bs} {start} f g s a = go (is_implicit c.style column k) where
    go : (b : Bool) → PairRun column bs start (either_pair b c column k v)
    go true = implicit_run column k v g s a
    go false = explicit_run column k v f g s a

  mutual
    node_run : (x : Node) → Fit c.style x → NodeRun x
    node_run (scalar at props style text lines) (fit_nothing e) = line_node (scalar at props style text lines) (λ margins. refl) refl
    node_run x (fit_line e n l k) = line_node x (λ margins. inline_rows c margins x e) (inline_no_block x e)
    node_run (scalar at p Plain text lines) (fit_scalar e f g) = absurd (true≢false (sym g.block))
    node_run (scalar at p Single text lines) (fit_scalar e f g) = absurd (true≢false (sym g.block))
    node_run (scalar at p Double text lines) (fit_scalar e f g) = absurd (true≢false (sym g.block))
    node_run (scalar at p Literal text lines) (fit_scalar e f g) =
        scalar_node (scalar at p Literal text lines) (λ margins. first_row (rows c margins (scalar at p Literal text lines))) (λ margins. refl) (λ margins. refl) (λ margins. refl) (λ margins. refl) (λ margins. refl) refl
    node_run (scalar at p Folded text lines) (fit_scalar e f g) =
        scalar_node (scalar at p Folded text lines) (λ margins. first_row (rows c margins (scalar at p Folded text lines))) (λ margins. refl) (λ margins. refl) (λ margins. refl) (λ margins. refl) (λ margins. refl) refl
    node_run (sequence at false p (item x xs)) (fit_sequence e f g more) =
        collection_node (sequence at false p (item x xs)) (props_text p) true (λ e. rows_of_items c e (item x xs)) (λ margins. refl) refl refl (λ z. is_empty (props_text p) z) (λ e bs s enters. items_run e (item x xs) (fit_item g more) s s (at_first enters))
    node_run (mapping at false p (pair k v ps)) (fit_mapping e f g h more) =
        collection_node (mapping at false p (pair k v ps)) (props_text p) false (λ e. rows_of_pairs c e (pair k v ps)) (λ margins. refl) refl refl (λ z. is_empty (props_text p) z) (λ e bs s enters. pairs_run e (pair k v ps) (fit_pair g h more) s s (at_first enters))

    items_run : (column : ℕ) (xs : Items) {bs start : List OpenBlock} → FitItems c.style xs → InSteps w bs → InSteps w start → Where w wide column true bs start → EntriesRun column true bs start (rows_of_items c column xs)
    items_run column no_items {start = start} fit_no_items s r a = record { now = start; rows = inline_over; steps = r; there = a; starting = none_starting }
    items_run column (item x xs) {bs} {start} (fit_item f more) s r a =
        let n : ℕ = c.style.indent - 1 in
        let two : 0 < w = wide in
        let inner : List Row = rows c (inner_margins c.style column) x in
        let head : Row = entry_row column (45 ∷ []) x in
        let o = opening w wide (block_of t (start_of column true (entry_start x))) s a refl refl in
        let at : o.block.printed ≡ column = o.at in
        let node = (node_run x f).run (inner_margins c.style column) o.block bs o.steps (omega (arith, at, two)) (λ e. inner_enters column (is_sequence x) o.at) in
        let rest = items_run column xs more s node.steps (at_later o.at o.kind node.kept o.steps) in
        let mine : Inline t w start (joined head n inner) node.now = joined_inline t w head n inner refl refl (subst (λ z. Inline t w z inner node.now) (sym o.is) node.rows) in
        record {
          now = rest.now;
          rows = inline_append t w (joined_filled t w head n inner) mine (alone t w node.steps rest.starting rest.rows);
          steps = rest.steps;
          there = rest.there;
          starting = starting_append t w _ (joined_filled t w head n inner) (joined_starting t w head n inner refl refl);
        }

    pairs_run : (column : ℕ) (ps : Pairs) {bs start : List OpenBlock} → FitPairs c.style ps → InSteps w bs → InSteps w start → Where w wide column false bs start → EntriesRun column false bs start (rows_of_pairs c column ps)
    pairs_run column no_pairs {start = start} fit_no_pairs s r a = record { now = start; rows = inline_over; steps = r; there = a; starting = none_starting }
    pairs_run column (pair k v ps) {bs} {start} (fit_pair f g more) s r a =
        let one = pair_run column k v (node_run k f) (node_run v g) s a in
        let rest = pairs_run column ps more s one.steps (at_later one.at one.kind one.kept one.around) in
        record {
          now = rest.now;
          rows = inline_append t w one.filled one.rows (alone t w one.steps rest.starting rest.rows);
          steps = rest.steps;
          there = rest.there;
          starting = starting_append t w _ one.filled one.starting;
        }

  -- at the start of a document
  pub root_run : (x : Node) → Fit c.style x → (margins : Margins) → margins.column ≡ 0 → After [] (rows c margins x) (λ now. Unit {0})
  root_run x f margins e = (node_run x f).root margins e
