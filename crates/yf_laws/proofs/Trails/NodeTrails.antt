-- At most one comment trails each row of a normal form, if no comment is between the leaves of a flow collection on one
-- line.
use Rattle.std.proofs.Common.{◌≡◌, ℕ, ◌-◌, Bool, true, false, true≢false, ◌&&◌, ◌||◌, List, [], ◌∷◌, ◌++◌, codes, map, Option, Some, None, refl, sym, ap, ◌∙◌, subst, append_assoc, append-nil}
use Rattle.std.specs.Prelude.{find, is_some, if◌then◌else◌}
use Rattle.std.proofs.lemmas.Bool.{and_parts}
use Rattle.std.proofs.lemmas.Option.{same_Some}
use Rattle.yf_comments.specs.Comment.{CommentValue}
use Rattle.yf_comments.specs.GapLines.{IsRemark}
use Rattle.yf_events.specs.declared.event.ScalarStyle.TheVariants.{Plain, Single, Double, Literal, Folded}
use Rattle.yf_events.specs.declared.event.Span.{Span}
use Rattle.yf_events.specs.declared.directive.Directive.{Directive}
use Rattle.yf_events.specs.declared.document.Doc.{Doc}
use Rattle.yf_events.specs.declared.lists.Lists.{Lists}
use Rattle.yf_events.specs.Tree.{DocumentTree, Node, scalar, alias, sequence, mapping, Items, no_items, item, Pairs, no_pairs, pair, standing, leaves, spans_of_leaf, is_text, is_filled_flow}
use Rattle.yf_forms.specs.declared.style.Style.{Style}
use Rattle.yf_laws.specs.Layouts.RowComments.{AreRemarks, TrailsFit}
use Rattle.yf_laws.specs.Layouts.Decorated.{rows_of}
use Rattle.yf_forms.specs.NormalForms.Forms.{is_placed, items_are_placed, pairs_are_placed}
use Rattle.yf_laws.specs.Layouts.Layout.{source_of}
use Rattle.yf_forms.specs.Nodes.Lines.{trimmed, is_empty_text}
use Rattle.yf_forms.specs.Passes.MeasurePass.{setting}
use Rattle.yf_forms.specs.NormalForms.Normal.{LayoutSetting, Margins, entry_or, first_between, inner_margins, is_implicit, is_one_line_key, key_comment, key_margins, key_start, last_start, styled_items, styled_pairs, value_of_implicit, value_margins, root_margins, setting_of}
use Rattle.yf_forms.specs.Nodes.OneLine.{written, props_text}
use Rattle.yf_forms.specs.NormalForms.BareStart.{is_bare}
use Rattle.yf_print.specs.Layouts.Rows.{Row, begins_below, after_key, after_sign, colon_row, entry_row, implicit_pair, joined, key_row, one_line_row, pair_rows, props_row, rows, rows_of_items, rows_of_pairs, beginning_at, directive_row, document_rows, end_rows, start_row, begun_at, all_rows, stream_rows}
use Rattle.yf_laws.proofs.Writable.StillLeaves.{Still, nothing_still, one_still, more_still, between, KeptStill, ItemsStill, PairsStill}
use Rattle.yf_laws.proofs.Printer.LeafPrinted.{same_flag, same_flag_of_map}
use Rattle.yf_laws.proofs.Printer.PrintTrees.{item_parts, items_of, pair_parts, pairs_of}
use Rattle.yf_laws.proofs.Trails.RowLeaves.{leaves_on, node_leaves, on_append}
use Rattle.yf_laws.proofs.Trails.RowTrails.{KeyLast, Tidy, TidyRows, found_remark, rows_trail}
use Rattle.yf_laws.proofs.NormalForms.StyledTwice.{House}
use Rattle.yf_laws.proofs.Trails.TrailChoice.{rising}
use Rattle.yf_laws.proofs.Derived.TreesMade.{either_pair}

module _ (cs : List CommentValue) where
  -- a row without a comment that trails its key
  keyless : {row : Row} {post : List Span} → Still cs row.leaves → row.key_comment ≡ None → Tidy cs row post
  keyless a e = record { still = a; key = λ d f. absurd cc }

  pub leaf_still : (o : Option Span) → Still cs (spans_of_leaf o)
  leaf_still None = nothing_still
  leaf_still (Some s) = one_still

  -- Rows that are joined.

  tidy_append : (post : List Span) (xs ys : List Row) → TidyRows cs xs (leaves_on ys ++ post) → TidyRows cs ys post → TidyRows cs (xs ++ ys) post
  tidy_append post [] ys a b = b
  tidy_append post (x ∷ xs) ys a b =
      let same : leaves_on xs ++ (leaves_on ys ++ post) ≡ leaves_on (xs ++ ys) ++ post =
      sym (append_assoc (leaves_on xs) (leaves_on ys) post) ∙ ap (λ w. w ++ post) (sym (on_append xs ys)) in
      (subst (λ w. Tidy cs x w) same a.0, tidy_append post xs ys a.1 b)

  -- after a sign, which has no leaf
  sign_tidy : (post : List Span) (head : Row) (n : ℕ) (xs : List Row) → head.leaves ≡ [] → head.key_comment ≡ None → TidyRows cs xs post → TidyRows cs (joined head n xs) post
  sign_tidy post head n [] e f a = (keyless (subst (λ w. Still cs w) (sym e) nothing_still) f, tt)
  sign_tidy post head n (x ∷ xs) e f a =
      (record { still = subst (λ w. Still cs (w ++ x.leaves)) (sym e) a.0.still; key = λ d g. let k = a.0.key d g in (k.0, subst (λ w. KeyLast cs d (w ++ x.leaves) (leaves_on xs ++ post)) (sym e) k.1) }, a.1)

  -- after a key, which has its leaves
  abbrev pub FirstStill : List Span → List Row → Type 0
  FirstStill ls [] = Unit {0}
  FirstStill ls (x ∷ xs) = (x.key_comment ≡ None) × Still cs (ls ++ x.leaves)

  beside_tidy : (post : List Span) (head : Row) (n : ℕ) (xs : List Row) → Still cs head.leaves → head.key_comment ≡ None → FirstStill head.leaves xs → TidyRows cs xs post
      → TidyRows cs (joined head n xs) post
  beside_tidy post head n [] a e f t = (keyless a e, tt)
  beside_tidy post head n (x ∷ xs) a e f t = (keyless f.1 f.0, t.1)

  one_line_tidy : (post : List Span) (column : ℕ) (x : Node) (w : List ℕ) → Still cs (leaves x) → TidyRows cs (one_line_row column x w) post
  one_line_tidy post column x [] a = tt
  one_line_tidy post column x (b ∷ w) a = (keyless a refl, tt)

  props_tidy : (post : List Span) (column : ℕ) (w : List ℕ) (xs : List Row) → TidyRows cs xs post → TidyRows cs (props_row column w ++ xs) post
  props_tidy post column [] xs a = a
  props_tidy post column (b ∷ w) xs a = (keyless nothing_still refl, a)

  -- Keys.

  key_still : (s : Style) (column : ℕ) (k : Node) → is_one_line_key s column k ≡ true → KeptStill cs k → Still cs (leaves k)
  key_still s column (scalar at props Plain text lines) e a = leaf_still at.span
  key_still s column (scalar at props Single text lines) e a = leaf_still at.span
  key_still s column (scalar at props Double text lines) e a = leaf_still at.span
  key_still s column (scalar at props Literal text lines) e a = absurd (true≢false (sym e))
  key_still s column (scalar at props Folded text lines) e a = absurd (true≢false (sym e))
  key_still s column (alias at name) e a = leaf_still at.span
  key_still s column (sequence at flow props no_items) e a = leaf_still at.span
  key_still s column (sequence at true props (item x xs)) e a = a
  key_still s column (sequence at false props (item x xs)) e a = absurd (true≢false (sym e))
  key_still s column (mapping at flow props no_pairs) e a = leaf_still at.span
  key_still s column (mapping at true props (pair k v ps)) e a = a
  key_still s column (mapping at false props (pair k v ps)) e a = absurd (true≢false (sym e))

  -- a comment between the last leaf of a key and the first one of its value
  key_last : (d : CommentValue) (other : ℕ) (ls : List Span) (r : Span) (post : List Span) → find (between (last_start other ls) r.start) cs ≡ Some d → KeyLast cs d ls (r ∷ post)
  key_last d other [] r post e = tt
  key_last d other (s ∷ []) r post e = e
  key_last d other (s ∷ x ∷ xs) r post e = key_last d s.start (x ∷ xs) r post e

  still_join : (other : ℕ) {ls : List Span} (r : Span) (ss : List Span) → Still cs ls → Still cs (r ∷ ss) → find (between (last_start other ls) r.start) cs ≡ None → Still cs (ls ++ (r ∷ ss))
  still_join other r ss nothing_still b e = b
  still_join other r ss (one_still {s = s}) b e = more_still e b
  still_join other r ss (more_still {s = s} n a) b e = more_still n (still_join s.start r ss a b e)

  between_key : (o : ℕ) (ks vs : List Span) → Still cs ks → Still cs vs → first_between cs (last_start o ks) vs ≡ None → Still cs (ks ++ vs)
  between_key o ks [] a b e = subst (λ w. Still cs w) (sym (append-nil ks)) a
  between_key o ks (r ∷ ss) a b e = still_join o r ss a b e

  key_last_of : (d : CommentValue) (o : ℕ) (ks vs post : List Span) → first_between cs (last_start o ks) vs ≡ Some d → KeyLast cs d ks (vs ++ post)
  key_last_of d o ks [] post e = absurd cc
  key_last_of d o ks (r ∷ ss) post e = key_last d o ks r (ss ++ post) e

  between_remark : (from : ℕ) (vs : List Span) (d : CommentValue) → AreRemarks cs → first_between cs from vs ≡ Some d → IsRemark (trimmed d.text)
  between_remark from [] d a e = absurd cc
  between_remark from (r ∷ ss) d a e = found_remark (between from r.start) d a e

  -- the first row of a value beside its key

  one_first : (ls : List Span) (column : ℕ) (x : Node) (w : List ℕ) → Still cs (ls ++ leaves x) → FirstStill ls (one_line_row column x w)
  one_first ls column x [] a = tt
  one_first ls column x (b ∷ w) a = (refl, a)

  props_first : (ls : List Span) (column : ℕ) (w : List ℕ) (xs : List Row) → (w ≡ [] → xs ≡ []) → Still cs ls → FirstStill ls (props_row column w ++ xs)
  props_first ls column [] xs e a = subst (λ z. FirstStill ls z) (sym (e refl)) tt
  props_first ls column (b ∷ w) xs e a = (refl, subst (λ z. Still cs z) (sym (append-nil ls)) a)

  leaf_first : (k : Node) (o : Option Span) → Still cs (leaves k) → (if is_some o || false then first_between cs (key_start k) (spans_of_leaf o) else None) ≡ None
      → Still cs (leaves k ++ spans_of_leaf o)
  leaf_first k None a e = subst (λ z. Still cs z) (sym (append-nil (leaves k))) a
  leaf_first k (Some s) a e = between_key (entry_or 0 (standing k).entry) (leaves k) (s ∷ []) a one_still e

  no_props_below : (w : List ℕ) {xs : List Row} → (true && is_empty_text w) ≡ false → w ≡ [] → xs ≡ []
  no_props_below w e f = absurd (true≢false (sym (ap is_empty_text f) ∙ e))

first_value : (c : LayoutSetting) (margins : Margins) (k v : Node) → key_comment c.comments k v ≡ None → begins_below v ≡ false → Still c.comments (leaves k) → KeptStill c.comments v
    → FirstStill c.comments (leaves k) (rows c margins v)
first_value c margins k (scalar at props Plain text lines) e f a h = one_first c.comments (leaves k) margins.column (scalar at props Plain text lines) (written c.style (scalar at props Plain text lines)) (leaf_first c.comments k at.span a e)
first_value c margins k (scalar at props Single text lines) e f a h = one_first c.comments (leaves k) margins.column (scalar at props Single text lines) (written c.style (scalar at props Single text lines)) (leaf_first c.comments k at.span a e)
first_value c margins k (scalar at props Double text lines) e f a h = one_first c.comments (leaves k) margins.column (scalar at props Double text lines) (written c.style (scalar at props Double text lines)) (leaf_first c.comments k at.span a e)
first_value c margins k (scalar at props Literal text lines) e f a h = (refl, leaf_first c.comments k at.span a e)
first_value c margins k (scalar at props Folded text lines) e f a h = (refl, leaf_first c.comments k at.span a e)
first_value c margins k (alias at name) e f a h = one_first c.comments (leaves k) margins.column (alias at name) (written c.style (alias at name)) (leaf_first c.comments k at.span a e)
first_value c margins k (sequence at true props no_items) e f a h = one_first c.comments (leaves k) margins.column (sequence at true props no_items) (written c.style (sequence at true props no_items)) (leaf_first c.comments k at.span a e)
first_value c margins k (sequence at true props (item x xs)) e f a h =
    one_first c.comments (leaves k) margins.column (sequence at true props (item x xs)) (written c.style (sequence at true props (item x xs))) (between_key c.comments (entry_or 0 (standing k).entry) (leaves k) (leaves (sequence at true props (item x xs))) a h e)
first_value c margins k (sequence at false props no_items) e f a h = props_first c.comments (leaves k) margins.column (props_text props) [] (λ g. refl) a
first_value c margins k (sequence at false props (item x xs)) e f a h = props_first c.comments (leaves k) margins.column (props_text props) (rows_of_items c margins.entries (item x xs)) (no_props_below c.comments (props_text props) f) a
first_value c margins k (mapping at true props no_pairs) e f a h = one_first c.comments (leaves k) margins.column (mapping at true props no_pairs) (written c.style (mapping at true props no_pairs)) (leaf_first c.comments k at.span a e)
first_value c margins k (mapping at true props (pair x y ps)) e f a h =
    one_first c.comments (leaves k) margins.column (mapping at true props (pair x y ps)) (written c.style (mapping at true props (pair x y ps))) (between_key c.comments (entry_or 0 (standing k).entry) (leaves k) (leaves (mapping at true props (pair x y ps))) a h e)
first_value c margins k (mapping at false props no_pairs) e f a h = props_first c.comments (leaves k) margins.column (props_text props) [] (λ g. refl) a
first_value c margins k (mapping at false props (pair x y ps)) e f a h = props_first c.comments (leaves k) margins.column (props_text props) (rows_of_pairs c margins.entries (pair x y ps)) (no_props_below c.comments (props_text props) f) a

-- Trees.

-- the claim for the rows of a node, whatever its margins
record NodeTidy (c : LayoutSetting) (x : Node) : Type 0 where
  tidy : (margins : Margins) (post : List Span) → TidyRows c.comments (rows c margins x) post
  leaves_are : (margins : Margins) → leaves_on (rows c margins x) ≡ leaves x
  kept : KeptStill c.comments x

implicit_tidy : (c : LayoutSetting) (column : ℕ) (k v : Node) (post : List Span) → AreRemarks c.comments → is_implicit c.style column k ≡ true → NodeTidy c k → NodeTidy c v
    → TidyRows c.comments (implicit_pair c column k v (rows c (value_of_implicit c column k v) v)) post
implicit_tidy c column k v post a i f g = go (key_comment c.comments k v) refl (begins_below v) refl where
  still : Still c.comments (leaves k)
  still = key_still c.comments c.style column k (and_parts (is_one_line_key c.style column k) _ i).0 f.kept

  value : List Row
  value = rows c (value_of_implicit c column k v) v

  commented : (b : Bool) (d : CommentValue) → (if b then first_between c.comments (key_start k) (leaves v) else None) ≡ Some d
      → IsRemark (trimmed d.text) × KeyLast c.comments d (leaves k) (leaves v ++ post)
  commented true d e = (between_remark c.comments (key_start k) (leaves v) d a e, key_last_of c.comments d (entry_or 0 (standing k).entry) (leaves k) (leaves v) post e)
  commented false d e = absurd cc

  go : (o : Option CommentValue) → key_comment c.comments k v ≡ o → (below : Bool) → begins_below v ≡ below → TidyRows c.comments (after_key (key_row c.style column k) o below value) post
  go (Some d) e below h =
      let both = commented (is_text v || is_filled_flow v) d e in
      let last : KeyLast c.comments d (leaves k) (leaves_on value ++ post) = subst (λ w. KeyLast c.comments d (leaves k) (w ++ post)) (sym (g.leaves_are (value_of_implicit c column k v))) both.1 in (
        record {
          still = still;
          key = λ x q. (subst (λ (w : CommentValue). IsRemark (trimmed w.text)) (same_Some d x q) both.0, subst (λ w. KeyLast c.comments w (leaves k) (leaves_on value ++ post)) (same_Some d x q) last);
        },
        g.tidy (value_of_implicit c column k v) post,
      )
  go None e true h = (keyless c.comments still refl, g.tidy (value_of_implicit c column k v) post)
  go None e false h =
      beside_tidy c.comments post (key_row c.style column k) 1 value still refl (first_value c (value_of_implicit c column k v) k v e h still g.kept) (g.tidy (value_of_implicit c column k v) post)

pair_tidy : (c : LayoutSetting) (column : ℕ) (k v : Node) (post : List Span) → AreRemarks c.comments → NodeTidy c k → NodeTidy c v
    → TidyRows c.comments (pair_rows c column k v (rows c (key_margins c.style column k) k) (rows c (value_margins c column k v) v)) post
pair_tidy c column k v post a f g = go (is_implicit c.style column k) refl where
  go : (b : Bool) → is_implicit c.style column k ≡ b → TidyRows c.comments (either_pair b c column k v) post
  go true e = implicit_tidy c column k v post a e f g
  go false e =
      tidy_append c.comments post (after_sign c.style (entry_row column (codes "?") k) (rows c (key_margins c.style column k) k)) (after_sign c.style (colon_row column k) (rows c (inner_margins c.style column) v))
      (sign_tidy c.comments (leaves_on (after_sign c.style (colon_row column k) (rows c (inner_margins c.style column) v)) ++ post) (entry_row column (codes "?") k) (c.style.indent - 1)
      (rows c (key_margins c.style column k) k) refl refl (f.tidy (key_margins c.style column k) (leaves_on (after_sign c.style (colon_row column k) (rows c (inner_margins c.style column) v)) ++ post)))
      (sign_tidy c.comments post (colon_row column k) (c.style.indent - 1) (rows c (inner_margins c.style column) v) refl refl (g.tidy (inner_margins c.style column) post))

made_tidy : (c : LayoutSetting) (x : Node) → is_placed x ≡ true → House c x → KeptStill c.comments x → ((margins : Margins) (post : List Span) → TidyRows c.comments (rows c margins x) post) → NodeTidy c x
made_tidy c x p h k f = record { tidy = f; leaves_are = λ margins. node_leaves c margins x p h; kept = k }

mutual
  node_tidy : (c : LayoutSetting) (x : Node) → AreRemarks c.comments → is_placed x ≡ true → House c x → KeptStill c.comments x → NodeTidy c x
  node_tidy c (scalar at props Plain text lines) a p h k =
      made_tidy c (scalar at props Plain text lines) p h k (λ margins post. one_line_tidy c.comments post margins.column (scalar at props Plain text lines) (written c.style (scalar at props Plain text lines)) (leaf_still c.comments at.span))
  node_tidy c (scalar at props Single text lines) a p h k =
      made_tidy c (scalar at props Single text lines) p h k (λ margins post. one_line_tidy c.comments post margins.column (scalar at props Single text lines) (written c.style (scalar at props Single text lines)) (leaf_still c.comments at.span))
  node_tidy c (scalar at props Double text lines) a p h k =
      made_tidy c (scalar at props Double text lines) p h k (λ margins post. one_line_tidy c.comments post margins.column (scalar at props Double text lines) (written c.style (scalar at props Double text lines)) (leaf_still c.comments at.span))
  node_tidy c (scalar at props Literal text lines) a p h k = made_tidy c (scalar at props Literal text lines) p h k (λ margins post. (keyless c.comments (leaf_still c.comments at.span) refl, tt))
  node_tidy c (scalar at props Folded text lines) a p h k = made_tidy c (scalar at props Folded text lines) p h k (λ margins post. (keyless c.comments (leaf_still c.comments at.span) refl, tt))
  node_tidy c (alias at name) a p h k = made_tidy c (alias at name) p h k (λ margins post. one_line_tidy c.comments post margins.column (alias at name) (written c.style (alias at name)) (leaf_still c.comments at.span))
  node_tidy c (sequence at true props xs) a p h k = made_tidy c (sequence at true props xs) p h k (λ margins post. one_line_tidy c.comments post margins.column (sequence at true props xs) (written c.style (sequence at true props xs)) k)
  node_tidy c (sequence at false props no_items) a p h k = absurd (true≢false (same_flag h))
  node_tidy c (sequence at false props (item x xs)) a p h k =
      let all = items_tidy c (item x xs) a p (items_of h) k in
      made_tidy c (sequence at false props (item x xs)) p h k (λ margins post. props_tidy c.comments post margins.column (props_text props) (rows_of_items c margins.entries (item x xs)) (all margins.entries post))
  node_tidy c (mapping at true props ps) a p h k = made_tidy c (mapping at true props ps) p h k (λ margins post. one_line_tidy c.comments post margins.column (mapping at true props ps) (written c.style (mapping at true props ps)) k)
  node_tidy c (mapping at false props no_pairs) a p h k = absurd (true≢false (same_flag_of_map h))
  node_tidy c (mapping at false props (pair x y ps)) a p h k =
      let all = pairs_tidy c (pair x y ps) a p (pairs_of h) k in
      made_tidy c (mapping at false props (pair x y ps)) p h k (λ margins post. props_tidy c.comments post margins.column (props_text props) (rows_of_pairs c margins.entries (pair x y ps)) (all margins.entries post))

  items_tidy : (c : LayoutSetting) (xs : Items) → AreRemarks c.comments → items_are_placed xs ≡ true → styled_items [] (setting c.style []) xs ≡ xs → ItemsStill c.comments xs
      → (column : ℕ) (post : List Span) → TidyRows c.comments (rows_of_items c column xs) post
  items_tidy c no_items a p h k column post = tt
  items_tidy c (item x xs) a p h k column post =
      let hs = and_parts (is_placed x) (items_are_placed xs) p in
      let parts = item_parts h in
      let first = node_tidy c x a hs.0 parts.0 k.0 in
      tidy_append c.comments post (after_sign c.style (entry_row column (codes "-") x) (rows c (inner_margins c.style column) x)) (rows_of_items c column xs)
      (sign_tidy c.comments (leaves_on (rows_of_items c column xs) ++ post) (entry_row column (codes "-") x) (c.style.indent - 1) (rows c (inner_margins c.style column) x) refl refl
      (first.tidy (inner_margins c.style column) (leaves_on (rows_of_items c column xs) ++ post)))
      (items_tidy c xs a hs.1 parts.1 k.1 column post)

  pairs_tidy : (c : LayoutSetting) (ps : Pairs) → AreRemarks c.comments → pairs_are_placed ps ≡ true → styled_pairs [] (setting c.style []) ps ≡ ps → PairsStill c.comments ps
      → (column : ℕ) (post : List Span) → TidyRows c.comments (rows_of_pairs c column ps) post
  pairs_tidy c no_pairs a p h k column post = tt
  pairs_tidy c (pair x y ps) a p h k column post =
      let hx = and_parts (is_placed x) (is_placed y && pairs_are_placed ps) p in
      let hy = and_parts (is_placed y) (pairs_are_placed ps) hx.1 in
      let parts = pair_parts h in
      let key = node_tidy c x a hx.0 parts.0 k.0 in
      let value = node_tidy c y a hy.0 parts.1.0 k.1.0 in
      tidy_append c.comments post (pair_rows c column x y (rows c (key_margins c.style column x) x) (rows c (value_margins c column x y) y)) (rows_of_pairs c column ps)
      (pair_tidy c column x y (leaves_on (rows_of_pairs c column ps) ++ post) a key value) (pairs_tidy c ps a hy.1 parts.1.1 k.1.1 column post)

-- of a node
node_rows_tidy : (c : LayoutSetting) (margins : Margins) (x : Node) (post : List Span) → AreRemarks c.comments → is_placed x ≡ true → House c x → KeptStill c.comments x → TidyRows c.comments (rows c margins x) post
node_rows_tidy c margins x post a p h k = (node_tidy c x a p h k).tidy margins post

-- Documents.

-- the roots of documents: in the house style, with a span if they have characters, and with no comment within a flow
-- collection
abbrev pub TreesKept : LayoutSetting → List DocumentTree → Type 0
TreesKept c [] = Unit {0}
TreesKept c (x ∷ xs) = ((is_placed x.root ≡ true) × (House c x.root × KeptStill c.comments x.root)) × TreesKept c xs

module _ (cs : List CommentValue) where
  directive_tidy : (post : List Span) (dirs : List Directive) → TidyRows cs (map directive_row dirs ++ (start_row ∷ [])) post
  directive_tidy post [] = (keyless cs nothing_still refl, tt)
  directive_tidy post (d ∷ ds) = (keyless cs nothing_still refl, directive_tidy post ds)

  head_tidy : (is_first : Bool) (start : ℕ) (post : List Span) (dirs : List Directive)
      → TidyRows cs (beginning_at start (end_rows is_first dirs ++ (map directive_row dirs ++ (start_row ∷ [])))) post
  head_tidy true start post [] = (keyless cs nothing_still refl, tt)
  head_tidy true start post (d ∷ ds) = (keyless cs nothing_still refl, directive_tidy post ds)
  head_tidy false start post [] = (keyless cs nothing_still refl, tt)
  head_tidy false start post (d ∷ ds) = (keyless cs nothing_still refl, directive_tidy post (d ∷ ds))

pub stream_tidy : (c : LayoutSetting) (is_first : Bool) (ds : List Doc) (trees : List DocumentTree) (post : List Span) → AreRemarks c.comments → TreesKept c trees
    → TidyRows c.comments (stream_rows c is_first ds trees) post
stream_tidy c is_first [] trees post a k = tt
stream_tidy c is_first (d ∷ ds) [] post a k = tt
stream_tidy c is_first (d ∷ ds) (x ∷ xs) post a k =
    let tree : List Row = rows c (root_margins c.style) x.root in
    let rest : List Row = stream_rows c false ds xs in
    let heads : List Row = beginning_at d.start (end_rows is_first d.directives ++ (map directive_row d.directives ++ (start_row ∷ []))) in
    tidy_append c.comments post (document_rows c is_first d x) rest
    (tidy_append c.comments (leaves_on rest ++ post) heads tree (head_tidy c.comments is_first d.start (leaves_on tree ++ (leaves_on rest ++ post)) d.directives)
    (node_rows_tidy c (root_margins c.style) x.root (leaves_on rest ++ post) a k.0.0 k.0.1.0 k.0.1.1))
    (stream_tidy c false ds xs post a k.1)

begun_tidy : (cs : List CommentValue) (start : ℕ) (xs : List Row) (post : List Span) → TidyRows cs xs post → TidyRows cs (begun_at start xs) post
begun_tidy cs start [] post a = a
begun_tidy cs start (x ∷ xs) post a = (record { still = a.0.still; key = a.0.key }, a.1)

pub all_tidy : (c : LayoutSetting) (bare : Bool) (ds : List Doc) (trees : List DocumentTree) (post : List Span) → AreRemarks c.comments → TreesKept c trees
    → TidyRows c.comments (all_rows c bare ds trees) post
all_tidy c false ds trees post a k = stream_tidy c true ds trees post a k
all_tidy c true [] trees post a k = tt
all_tidy c true (d ∷ ds) [] post a k = tt
all_tidy c true (d ∷ ds) (x ∷ xs) post a k =
    let tree : List Row = rows c (root_margins c.style) x.root in
    let rest : List Row = stream_rows c false ds xs in
    tidy_append c.comments post (begun_at d.start tree) rest
    (begun_tidy c.comments d.start tree (leaves_on rest ++ post) (node_rows_tidy c (root_margins c.style) x.root (leaves_on rest ++ post) a k.0.0 k.0.1.0 k.0.1.1))
    (stream_tidy c false ds xs post a k.1)

-- so at most one comment trails a row of the layout, if the starts of leaves rise
pub trails_fit : (m : Lists) (s : Style) (trees : List DocumentTree) → AreRemarks m.comments → TreesKept (setting_of m s) trees → rising (leaves_on (rows_of m s trees)) ≡ true
    → TrailsFit (source_of m (rows_of m s trees)) (rows_of m s trees)
trails_fit m s trees a k up = rows_trail m.on_leaf_line [] [] (rows_of m s trees) refl up a refl refl (all_tidy (setting_of m s) (is_bare m s) m.documents trees [] a k)
