-- The comments that the forms of a normal form give to its keys are those that trail keys in its layout.
use Rattle.std.proofs.Common.{◌≡◌, ℕ, zero, suc, ◌-◌, Bool, true, false, ◌&&◌, List, [], ◌∷◌, ◌++◌, codes, length, flat_map, replicate, Option, Some, None, refl, sym, ap, ◌∙◌, append_assoc, append-nil, true≢false}
use Rattle.std.specs.Prelude.{◌||◌, find, option_map, option_to_list, slice_get, nat_lt, if◌then◌else◌}
use Rattle.std.proofs.lemmas.Grind.{flat_map-append}
use Rattle.yf_comments.specs.Comment.{CommentValue}
use Rattle.yf_events.specs.Tree.{Node, scalar, alias, sequence, mapping, Items, no_items, item, Pairs, no_pairs, pair, flat_items, flat_pairs, is_filled_flow, is_text, leaves}
use Rattle.yf_events.specs.declared.event.ScalarStyle.TheVariants.{Plain, Single, Double, Literal, Folded}
use Rattle.yf_events.specs.declared.event.Span.{Span}
use Rattle.yf_forms.specs.declared.form.decide.Form.{Form}
use Rattle.yf_forms.specs.NormalForms.Forms.{Site, first_index, form_of, forms, forms_of_items, forms_of_pairs, forms_within, index_between, is_kept_at, key_comment_index, key_site, no_form, site_at, value_comment, value_site}
use Rattle.yf_forms.specs.Passes.MeasurePass.{setting}
use Rattle.yf_forms.specs.NormalForms.Normal as Normal
use Rattle.yf_forms.specs.NormalForms.Normal.{LayoutSetting, first_between, fits, inner_margins, is_implicit, key_comment, key_margins, settled, settled_items, settled_pairs, styled_items, styled_pairs, value_margins}
use Rattle.yf_forms.specs.Nodes.OneLine.{props_text, written}
use Rattle.yf_print.specs.Layouts.Rows.{Row, begins_below, after_key, after_sign, colon_row, entry_row, explicit_pair, implicit_pair, joined, key_row, one_line_row, pair_rows, props_row, rows, rows_of_items, rows_of_pairs}
use Rattle.yf_laws.proofs.Printer.LeafPrinted.{same_flag, same_flag_of_map}
use Rattle.yf_laws.proofs.Printer.PairSites.{key_rows}
use Rattle.yf_laws.proofs.Printer.PrintNodes.{kept_where}
use Rattle.yf_laws.proofs.Printer.PrintTrees.{item_parts, items_of, pair_parts, pairs_of}
use Rattle.yf_laws.proofs.NormalForms.StyledTwice.{House}
use Rattle.yf_laws.proofs.Trails.TrailOthers.{at_indices}

-- The comment at the index of the comment that trails a key is that comment.

abbrev at_some : List CommentValue → Option ℕ → List CommentValue
at_some cs o = at_indices cs (option_to_list o)

found_at : (p : CommentValue → Bool) (cs : List CommentValue) → at_some cs (first_index p cs) ≡ option_to_list (find p cs)
found_at p [] = refl
found_at p (c ∷ cs) = by (p c) (found_at p cs) where
  shifted : (o : Option ℕ) → at_some (c ∷ cs) (option_map suc o) ≡ at_some cs o
  shifted None = refl
  shifted (Some j) = refl

  by : (b : Bool) → at_some cs (first_index p cs) ≡ option_to_list (find p cs)
      → at_some (c ∷ cs) (if b then Some 0 else option_map suc (first_index p cs)) ≡ option_to_list (if b then Some c else find p cs)
  by true h = refl
  by false h = shifted (first_index p cs) ∙ h

comment_at : (cs : List CommentValue) (k v : Node) → at_some cs (key_comment_index cs k v) ≡ option_to_list (key_comment cs k v)
comment_at cs k v = by (is_text v || is_filled_flow v) (leaves v) where
  by : (b : Bool) (ss : List Span)
      → at_some cs (if b then index_between cs (Normal.key_start k) ss else None) ≡ option_to_list (if b then first_between cs (Normal.key_start k) ss else None)
  by true [] = refl
  by true (s ∷ ss) = found_at (λ c. nat_lt (Normal.key_start k) c.offset && nat_lt c.offset s.start) cs
  by false ss = refl

-- For forms, and for rows.

abbrev pub indices_of : List Form → List ℕ
indices_of fs = flat_map (λ f. option_to_list f.key_comment) fs

abbrev pub keys_on : List Row → List CommentValue
keys_on rows = flat_map (λ row. option_to_list row.key_comment) rows

indices_append : (fs gs : List Form) → indices_of (fs ++ gs) ≡ indices_of fs ++ indices_of gs
indices_append fs gs = flat_map-append (λ (f : Form). option_to_list f.key_comment) fs gs

at_append : (cs : List CommentValue) (ns ms : List ℕ) → at_indices cs (ns ++ ms) ≡ at_indices cs ns ++ at_indices cs ms
at_append cs ns ms = flat_map-append (λ (n : ℕ). option_to_list (slice_get cs n)) ns ms

pub keys_append : (xs ys : List Row) → keys_on (xs ++ ys) ≡ keys_on xs ++ keys_on ys
keys_append xs ys = flat_map-append (λ (row : Row). option_to_list row.key_comment) xs ys

none_within : (n : ℕ) → indices_of (replicate n no_form) ≡ []
none_within zero = refl
none_within (suc n) = none_within n

-- the comments that forms give keys
abbrev pub given : LayoutSetting → List Form → List CommentValue
given c fs = at_indices c.comments (indices_of fs)

pub given_append : (c : LayoutSetting) (fs gs : List Form) → given c (fs ++ gs) ≡ given c fs ++ given c gs
given_append c fs gs = ap (at_indices c.comments) (indices_append fs gs) ∙ at_append c.comments (indices_of fs) (indices_of gs)

-- those of a collection, after the one of its own site
pub given_enclosed : (c : LayoutSetting) (f : Form) (gs : List Form) → given c (f ∷ (gs ++ (no_form ∷ []))) ≡ at_some c.comments f.key_comment ++ given c gs
given_enclosed c f gs =
    at_append c.comments (option_to_list f.key_comment) (indices_of (gs ++ (no_form ∷ [])))
    ∙ ap (λ w. at_some c.comments f.key_comment ++ w) (given_append c gs (no_form ∷ []) ∙ append-nil (given c gs))

given_one : (c : LayoutSetting) (f : Form) → given c (f ∷ []) ≡ at_some c.comments f.key_comment
given_one c f = at_append c.comments (option_to_list f.key_comment) [] ∙ append-nil (at_some c.comments f.key_comment)

given_kept : (c : LayoutSetting) (b : Bool) (n : ℕ) (gs : List Form) → b ≡ true → given c (forms_within b n gs) ≡ []
given_kept c b n gs e = ap (λ w. given c (forms_within w n gs)) e ∙ ap (at_indices c.comments) (none_within n)

pub keys_line : (column : ℕ) (x : Node) (w : List ℕ) → keys_on (one_line_row column x w) ≡ []
keys_line column x [] = refl
keys_line column x (b ∷ w) = refl

keys_props : (column : ℕ) (p : List ℕ) → keys_on (props_row column p) ≡ []
keys_props column [] = refl
keys_props column (b ∷ p) = refl

pub keys_joined : (head : Row) (n : ℕ) (xs : List Row) → head.key_comment ≡ None → keys_on (joined head n xs) ≡ keys_on xs
keys_joined head n [] e = ap (λ o. option_to_list o ++ []) e
keys_joined head n (x ∷ xs) e = refl

keys_after : (head : Row) (o : Option CommentValue) (below : Bool) (xs : List Row) → head.key_comment ≡ None → keys_on (after_key head o below xs) ≡ option_to_list o ++ keys_on xs
keys_after head (Some c) below xs e = refl
keys_after head None true xs e = ap (λ o. option_to_list o ++ keys_on xs) e
keys_after head None false xs e = keys_joined head 1 xs e

-- For a normal form: settled, and in the house style.

-- for a node on one line
whole_given : (c : LayoutSetting) (site : Site) (f : Form) (column : ℕ) (x : Node) (w : List ℕ) (fs : List Form) → f.key_comment ≡ site.key_comment → given c fs ≡ []
    → given c (f ∷ (fs ++ (no_form ∷ []))) ≡ at_some c.comments site.key_comment ++ keys_on (one_line_row column x w)
whole_given c site f column x w fs e g =
    given_enclosed c f fs ∙ (ap (λ o. at_some c.comments o ++ given c fs) e
    ∙ ap (λ v. at_some c.comments site.key_comment ++ v) (g ∙ sym (keys_line column x w)))

leaf_given : (c : LayoutSetting) (site : Site) (f : Form) (xs : List Row) → f.key_comment ≡ site.key_comment → keys_on xs ≡ []
    → given c (f ∷ []) ≡ at_some c.comments site.key_comment ++ keys_on xs
leaf_given c site f xs e g =
    given_one c f ∙ (ap (at_some c.comments) e ∙ (sym (append-nil (at_some c.comments site.key_comment)) ∙ ap (λ v. at_some c.comments site.key_comment ++ v) (sym g)))

line_given : (c : LayoutSetting) (site : Site) (x : Node) → given c (form_of c.style site x ∷ []) ≡ at_some c.comments site.key_comment ++ keys_on (one_line_row site.margins.column x (written c.style x))
line_given c site x = leaf_given c site (form_of c.style site x) (one_line_row site.margins.column x (written c.style x)) refl (keys_line site.margins.column x (written c.style x))

-- for a block collection
block_given : (c : LayoutSetting) (site : Site) (f : Form) (p : List ℕ) (fs : List Form) (xs : List Row) → f.key_comment ≡ site.key_comment → given c fs ≡ keys_on xs
    → given c (f ∷ (fs ++ (no_form ∷ []))) ≡ at_some c.comments site.key_comment ++ keys_on (props_row site.margins.column p ++ xs)
block_given c site f p fs xs e g =
    given_enclosed c f fs ∙ (ap (λ o. at_some c.comments o ++ given c fs) e
    ∙ ap (λ v. at_some c.comments site.key_comment ++ v)
    (g ∙ (sym (ap (λ w. w ++ keys_on xs) (keys_props site.margins.column p)) ∙ sym (keys_append (props_row site.margins.column p) xs))))

-- for a key and its value with these rows
key_given : (c : LayoutSetting) (column : ℕ) (b : Bool) (k v w : Node) (xs ys : List Row) → w ≡ v → (b ≡ true → keys_on xs ≡ [])
    → keys_on xs ++ (at_some c.comments (if b then key_comment_index c.comments k w else None) ++ keys_on ys)
    ≡ keys_on (if b then implicit_pair c column k v ys else explicit_pair c.style column k xs ys)
key_given c column true k v w xs ys e h =
    ap (λ z. z ++ (at_some c.comments (key_comment_index c.comments k w) ++ keys_on ys)) (h refl)
    ∙ (ap (λ x. at_some c.comments (key_comment_index c.comments k x) ++ keys_on ys) e
    ∙ (ap (λ z. z ++ keys_on ys) (comment_at c.comments k v)
    ∙ sym (keys_after (key_row c.style column k) (key_comment c.comments k v) (begins_below v) ys refl)))
key_given c column false k v w xs ys e h =
    ap (λ z. z ++ keys_on ys) (sym (keys_joined (entry_row column (codes "?") k) (c.style.indent - 1) xs refl))
    ∙ (ap (λ z. keys_on (after_sign c.style (entry_row column (codes "?") k) xs) ++ z) (sym (keys_joined (colon_row column k) (c.style.indent - 1) ys refl))
    ∙ sym (keys_append (after_sign c.style (entry_row column (codes "?") k) xs) (after_sign c.style (colon_row column k) ys)))

three : (a b d x y : List CommentValue) → a ≡ x → b ≡ y → a ++ (b ++ d) ≡ (x ++ y) ++ d
three a b d x y e f = ap (λ w. w ++ (b ++ d)) e ∙ (ap (λ w. x ++ (w ++ d)) f ∙ sym (append_assoc x y d))

key_lines : (c : LayoutSetting) (column : ℕ) (k : Node) → House c k → is_implicit c.style column k ≡ true → keys_on (rows c (key_margins c.style column k) k) ≡ []
key_lines c column k h e =
    ap keys_on (key_rows c (key_margins c.style column k) column k h e) ∙ keys_line (key_margins c.style column k).column k (written c.style k)

mutual
  -- the comments given to keys are those on its rows, after the one of its own site
  pub node_given : (c : LayoutSetting) (site : Site) (x : Node) → House c x → settled c site.margins x ≡ x
      → given c (forms c site x) ≡ at_some c.comments site.key_comment ++ keys_on (rows c site.margins x)
  node_given c site (scalar at props Plain text lines) h s = line_given c site (scalar at props Plain text lines)
  node_given c site (scalar at props Single text lines) h s = line_given c site (scalar at props Single text lines)
  node_given c site (scalar at props Double text lines) h s = line_given c site (scalar at props Double text lines)
  node_given c site (scalar at props Literal text lines) h s = leaf_given c site (form_of c.style site (scalar at props Literal text lines)) (rows c site.margins (scalar at props Literal text lines)) refl refl
  node_given c site (scalar at props Folded text lines) h s = leaf_given c site (form_of c.style site (scalar at props Folded text lines)) (rows c site.margins (scalar at props Folded text lines)) refl refl
  node_given c site (alias at name) h s = line_given c site (alias at name)
  node_given c site (sequence at true props no_items) h s =
      whole_given c site (form_of c.style site (sequence at true props no_items)) site.margins.column (sequence at true props no_items) (written c.style (sequence at true props no_items)) [] refl refl
  node_given c site (sequence at false props no_items) h s = absurd (true≢false (same_flag h))
  node_given c site (sequence at true props (item x xs)) h s =
      let whole : Node = sequence at true props (item x xs) in
      whole_given c site (form_of c.style site whole) site.margins.column whole (written c.style whole)
      (forms_within (is_kept_at c.style site.margins whole) (length (flat_items (item x xs))) (forms_of_items c site.margins.entries (item x xs))) refl
      (given_kept c (is_kept_at c.style site.margins whole) (length (flat_items (item x xs))) (forms_of_items c site.margins.entries (item x xs))
      (kept_where (fits c.style site.margins.column whole) whole _ refl refl s))
  node_given c site (sequence at false props (item x xs)) h s =
      block_given c site (form_of c.style site (sequence at false props (item x xs))) (props_text props) (forms_of_items c site.margins.entries (item x xs)) (rows_of_items c site.margins.entries (item x xs)) refl
      (items_given c site.margins.entries (item x xs) (items_of h) (items_of s))
  node_given c site (mapping at true props no_pairs) h s =
      whole_given c site (form_of c.style site (mapping at true props no_pairs)) site.margins.column (mapping at true props no_pairs) (written c.style (mapping at true props no_pairs)) [] refl refl
  node_given c site (mapping at false props no_pairs) h s = absurd (true≢false (same_flag_of_map h))
  node_given c site (mapping at true props (pair k v ps)) h s =
      let whole : Node = mapping at true props (pair k v ps) in
      whole_given c site (form_of c.style site whole) site.margins.column whole (written c.style whole)
      (forms_within (is_kept_at c.style site.margins whole) (length (flat_pairs (pair k v ps))) (forms_of_pairs c site.margins.entries (pair k v ps))) refl
      (given_kept c (is_kept_at c.style site.margins whole) (length (flat_pairs (pair k v ps))) (forms_of_pairs c site.margins.entries (pair k v ps))
      (kept_where (fits c.style site.margins.column whole) whole _ refl refl s))
  node_given c site (mapping at false props (pair k v ps)) h s =
      block_given c site (form_of c.style site (mapping at false props (pair k v ps))) (props_text props) (forms_of_pairs c site.margins.entries (pair k v ps)) (rows_of_pairs c site.margins.entries (pair k v ps)) refl
      (pairs_given c site.margins.entries (pair k v ps) (pairs_of h) (pairs_of s))

  items_given : (c : LayoutSetting) (column : ℕ) (xs : Items) → styled_items [] (setting c.style []) xs ≡ xs → settled_items c column xs ≡ xs
      → given c (forms_of_items c column xs) ≡ keys_on (rows_of_items c column xs)
  items_given c column no_items h s = refl
  items_given c column (item x xs) h s =
      let hs = item_parts h in
      let ss = item_parts s in
      let mine : List Row = after_sign c.style (entry_row column (codes "-") x) (rows c (inner_margins c.style column) x) in
      given_append c (forms c (site_at (inner_margins c.style column)) x) (forms_of_items c column xs)
      ∙ (ap (λ w. w ++ given c (forms_of_items c column xs)) (node_given c (site_at (inner_margins c.style column)) x hs.0 ss.0 ∙ sym (keys_joined (entry_row column (codes "-") x) (c.style.indent - 1) (rows c (inner_margins c.style column) x) refl))
      ∙ (ap (λ w. keys_on mine ++ w) (items_given c column xs hs.1 ss.1)
      ∙ sym (keys_append mine (rows_of_items c column xs))))

  pairs_given : (c : LayoutSetting) (column : ℕ) (ps : Pairs) → styled_pairs [] (setting c.style []) ps ≡ ps → settled_pairs c column ps ≡ ps
      → given c (forms_of_pairs c column ps) ≡ keys_on (rows_of_pairs c column ps)
  pairs_given c column no_pairs h s = refl
  pairs_given c column (pair k v ps) h s =
      let hs = pair_parts h in
      let ss = pair_parts s in
      let xs : List Row = rows c (key_margins c.style column k) k in
      let ys : List Row = rows c (value_margins c column k v) v in
      let key : List Form = forms c (key_site c.style column k) k in
      let value : List Form = forms c (value_site c column k v) v in
      let others : List Form = forms_of_pairs c column ps in
      given_append c key (value ++ others)
      ∙ (ap (λ w. given c key ++ w) (given_append c value others)
      ∙ (three (given c key) (given c value) (given c others) (keys_on xs) (at_some c.comments (value_comment c column k v) ++ keys_on ys)
      (node_given c (key_site c.style column k) k hs.0 ss.0) (node_given c (value_site c column k v) v hs.1.0 ss.1.0)
      ∙ (ap (λ w. w ++ given c others)
      (key_given c column (is_implicit c.style column k) k v (settled c (value_margins c column k v) v) xs ys ss.1.0 (λ e. key_lines c column k hs.0 e))
      ∙ (ap (λ w. keys_on (pair_rows c column k v xs ys) ++ w) (pairs_given c column ps hs.1.1 ss.1.1)
      ∙ sym (keys_append (pair_rows c column k v xs ys) (rows_of_pairs c column ps))))))
