-- The rows of a tree with one-line nodes that read back are texts on lines of their own, and not markers.
use Rattle.std.proofs.Common.{◌≡◌, ◌≢◌, ℕ, zero, suc, ◌+◌, ◌-◌, ◌<◌, ◌≤◌, Bool, true, false, List, [], ◌∷◌, ◌++◌, replicate, Option, Some, None, refl, sym, ap, ◌∙◌, subst, arith, ⊎_elim, eqb}
use Rattle.std.specs.Prelude.{◌||◌}
use Rattle.std.proofs.lemmas.Bool.{and_parts, or_cases, eqb-true}
use Rattle.yf_chars.specs.declared.context.Ctx.TheVariants.{BlockKey}
use Rattle.yf_chars.specs.Text.{code}
use Rattle.yf_chars.specs.Class.{is_white_or_end}
use Rattle.yf_lines.specs.Basic.{is_marker, is_three}
use Rattle.yf_lines.specs.LineText.{IsLineText, is_after_text}
use Rattle.yf_lines.proofs.RestLemmas.{rest_is_at, rest_ascii, follows_not, line_nothing, line_append, line_ascii}
use Rattle.yf_comments.specs.Comment.{CommentValue}
use Rattle.yf_props.specs.Props.{PropsValue, TagValue, no_props}
use Rattle.yf_props.specs.Written.{IsTag, verbatim_form, short_form, lone_form, IsHandle, primary_form, secondary_form, named_form, IsProps, tag_bytes, parts_bytes, props_bytes}
use Rattle.yf_props.proofs.PropsLines.{props_line_text}
use Rattle.yf_events.specs.declared.event.ScalarStyle.{ScalarStyle}
use Rattle.yf_events.specs.declared.event.ScalarStyle.TheVariants.{Plain, Single, Double, Literal, Folded}
use Rattle.yf_events.specs.Tree.{NodeOffsets, Node, scalar, Items, item, Pairs, pair}
use Rattle.yf_forms.specs.declared.style.Style.{Style}
use Rattle.yf_forms.specs.Nodes.BlockLines.{content_lines, final_feeds, header_text}
use Rattle.yf_laws.specs.Layouts.ReadableTrees.{IsNoMarker, FitScalar, LineNode, ColonFits, colon_at_once, colon_apart, FitProps, no_fit_props, some_fit_props, Fit, fit_nothing, fit_line, fit_scalar, fit_sequence, fit_mapping, FitItems, fit_no_items, fit_item, FitPairs, fit_no_pairs, fit_pair}
use Rattle.yf_forms.specs.NormalForms.Normal.{LayoutSetting, Margins, inner_margins, key_margins, value_of_implicit, value_margins, is_implicit, key_comment}
use Rattle.yf_forms.specs.Nodes.OneLine.{written, colon_after, props_text}
use Rattle.yf_print.specs.Layouts.Rows.{Row, block_scalar, joined, one_line_row, props_row, after_sign, entry_row, colon_row, key_row, after_key, begins_below, explicit_pair, pair_rows, rows, rows_of_items, rows_of_pairs}
use Rattle.yf_laws.proofs.Derived.ClearRows.{unmarked_first, unmarked_more, line_indented, IsRowText, no_body_text, AreRowTexts, no_row_text, row_text, space_is_after}
use Rattle.yf_laws.proofs.Derived.CollectionsMade.{same_props}
use Rattle.yf_laws.proofs.Derived.ScalarsMade.{header_line, header_unmarked, header_with, body_texts, scalar_rows_are}
use Rattle.yf_laws.proofs.OutputLines.SeenTexts.{IsSeen, seen_ascii, seen_more, seen_back, props_seen}
use Rattle.yf_laws.proofs.Derived.TreesMade.{inline_rows, not_implicit, block_is_no_key, either_pair}
use Rattle.yf_chars.proofs.CharBounds.{visible_nb}

-- Single texts.

second_of : (t : List ℕ) (i c : ℕ) → is_three t i c ≡ true → code t (i + 1) ≡ c
unfolding is_three
second_of t i c e = eqb-true (code t (i + 1)) c (and_parts (eqb (code t (i + 1)) c) _ (and_parts (eqb (code t i) c) _ e).1).0

not_second : (t : List ℕ) (i : ℕ) → code t (i + 1) ≢ 45 → code t (i + 1) ≢ 46 → is_marker t i ≡ true → ⊥
unfolding is_marker
not_second t i a b e =
    ⊎_elim (λ (h : is_three t i 45 ≡ true). a (second_of t i 45 h)) (λ (h : is_three t i 46 ≡ true). b (second_of t i 46 h))
    (or_cases (is_three t i 45) (is_three t i 46) (and_parts (is_three t i 45 || is_three t i 46) (is_white_or_end (code t (i + 3))) e).0)

dash_unmarked : IsNoMarker (45 ∷ [])
dash_unmarked = record {
  none = λ {t} q r u f s n.
      let no = follows_not u (rest_is_at (rest_ascii 45 u (omega arith) (λ e. omega arith) s).1) f in
      not_second t q no.0 no.1 n.marker;
}

ascii_line : (c : ℕ) → 32 ≤ c → c < 127 → IsLineText (c ∷ [])
ascii_line c l h = line_ascii c (omega arith) (visible_nb c l h) line_nothing

colon_after_text : is_after_text 58 ≡ true
unfolding is_after_text
colon_after_text = refl

handle_unmarked : (h x : List ℕ) → IsHandle h → IsNoMarker (h ++ x)
handle_unmarked h x primary_form = unmarked_first 33 x (omega arith) (λ e. omega arith) (λ e. omega arith) (λ e. omega arith)
handle_unmarked h x secondary_form = unmarked_first 33 (33 ∷ x) (omega arith) (λ e. omega arith) (λ e. omega arith) (λ e. omega arith)
handle_unmarked h x (named_form {x = y} a n) = unmarked_first 33 ((y ++ 33 ∷ []) ++ x) (omega arith) (λ e. omega arith) (λ e. omega arith) (λ e. omega arith)

tag_unmarked : (v : TagValue) → IsTag v → IsNoMarker (tag_bytes v)
tag_unmarked v (verbatim_form {x = x} s n) = unmarked_first 33 (60 ∷ (x ++ 62 ∷ [])) (omega arith) (λ e. omega arith) (λ e. omega arith) (λ e. omega arith)
tag_unmarked v (short_form {h = h} {x = x} k s n) = handle_unmarked h x k
tag_unmarked v lone_form = unmarked_first 33 [] (omega arith) (λ e. omega arith) (λ e. omega arith) (λ e. omega arith)

pub props_unmarked : {p : PropsValue} → IsProps p → p ≢ no_props → IsNoMarker (props_bytes p)
props_unmarked {p} k n = go p.anchor p.tag refl refl (λ v e. k.tag v e) where
  none : p.anchor ≡ None → p.tag ≡ None → p ≡ no_props
  none e f = ap (λ a. record { anchor = a; tag = p.tag }) e ∙ ap (λ v. record { anchor = None; tag = v }) f

  go : (a : Option (List ℕ)) (v : Option TagValue) → p.anchor ≡ a → p.tag ≡ v → ((w : TagValue) → p.tag ≡ Some w → IsTag w) → IsNoMarker (parts_bytes a v)
  go None None e f k = absurd (n (none e f))
  go None (Some v) e f k = tag_unmarked v (k v f)
  go (Some name) None e f k = unmarked_first 38 name (omega arith) (λ e. omega arith) (λ e. omega arith) (λ e. omega arith)
  go (Some name) (Some v) e f k = unmarked_first 38 (name ++ (32 ∷ tag_bytes v)) (omega arith) (λ e. omega arith) (λ e. omega arith) (λ e. omega arith)

-- Rows.

append_texts : {xs ys : List Row} → AreRowTexts xs → AreRowTexts ys → AreRowTexts (xs ++ ys)
append_texts no_row_text b = b
append_texts (row_text a more) b = row_text a (append_texts more b)

joined_texts : {head : Row} {rs : List Row} (n : ℕ) → 0 < n → IsRowText head → AreRowTexts rs → AreRowTexts (joined head n rs)
joined_texts n some h no_row_text = row_text h no_row_text
joined_texts {head} n some h (row_text {x = x} a more) =
    row_text (record { text = line_append h.text (line_indented n a.text); unmarked = spaced_unmarked n some; seen = seen_more (replicate n 32 ++ x.text) h.seen; body = a.body }) more
  where
    spaced_unmarked : (n : ℕ) → 0 < n → IsNoMarker (head.text ++ (replicate n 32 ++ x.text))
    spaced_unmarked zero some = absurd (omega arith)
    spaced_unmarked (suc n) some = unmarked_more 32 (replicate n 32 ++ x.text) h.unmarked (omega arith) space_is_after

after_key_texts : {head : Row} {rs : List Row} (o : Option CommentValue) (below : Bool) → IsRowText head → AreRowTexts rs → AreRowTexts (after_key head o below rs)
after_key_texts (Some c) below h a = row_text (record { text = h.text; unmarked = h.unmarked; seen = h.seen; body = h.body }) a
after_key_texts None true h a = row_text (record { text = h.text; unmarked = h.unmarked; seen = h.seen; body = h.body }) a
after_key_texts None false h a = joined_texts 1 (omega arith) h a

one_line_texts : (column : ℕ) (x : Node) (w : List ℕ) → IsLineText w → IsNoMarker w → IsSeen w → AreRowTexts (one_line_row column x w)
one_line_texts column x [] l a v = no_row_text
one_line_texts column x (b ∷ w) l a v = row_text (record { text = l; unmarked = a; seen = v; body = no_body_text }) no_row_text

props_texts : (column : ℕ) (w : List ℕ) → IsLineText w → IsNoMarker w → IsSeen w → AreRowTexts (props_row column w)
props_texts column [] l a v = no_row_text
props_texts column (b ∷ w) l a v = row_text (record { text = l; unmarked = a; seen = v; body = no_body_text }) no_row_text

fit_props_texts : (column : ℕ) {p : PropsValue} → FitProps p → AreRowTexts (props_row column (props_text p))
fit_props_texts column no_fit_props = no_row_text
fit_props_texts column (some_fit_props {p = p} k n) =
    props_texts column (props_text p) (subst (λ w. IsLineText w) (sym (same_props k)) (props_line_text k)) (subst (λ w. IsNoMarker w) (sym (same_props k)) (props_unmarked k n))
    (subst (λ w. IsSeen w) (sym (same_props k)) (props_seen k n))

-- Keys and pairs.

colon_text : (house : Style) {k : Node} (b : Bool) (w : List ℕ) → ColonFits b w → LineNode house BlockKey k → IsLineText (written house k ++ w) × IsNoMarker (written house k ++ w)
colon_text house b w (colon_at_once e) node = (line_append node.back.line (ascii_line 58 (omega arith) (omega arith)), unmarked_more 58 [] node.unmarked (omega arith) colon_after_text)
colon_text house b w colon_apart node =
    (line_append node.back.line (line_ascii 32 (omega arith) (visible_nb 32 (omega arith) (omega arith)) (ascii_line 58 (omega arith) (omega arith))), unmarked_more 32 (58 ∷ []) node.unmarked (omega arith) space_is_after)

key_texts : (c : LayoutSetting) (column : ℕ) {k : Node} → is_implicit c.style column k ≡ true → Fit c.style k → IsRowText (key_row c.style column k)
key_texts c column e (fit_nothing f) = record {
  text = ascii_line 58 (omega arith) (omega arith);
  unmarked = unmarked_first 58 [] (omega arith) (λ e. omega arith) (λ e. omega arith) (λ e. omega arith);
  seen = seen_ascii 58 [] (omega arith) (omega arith) (λ e. omega arith);
  body = no_body_text;
}
key_texts c column {k} e (fit_line inline some node key) =
    let both = colon_text c.style key.node.colon (colon_after k) key.colon key.node in record { text = both.0; unmarked = both.1; seen = seen_more (colon_after k) (seen_back refl key.node.back); body = no_body_text }
key_texts c column {k} e (fit_scalar {at = at} {p = p} {style = style} {text = text} {lines = lines} f g h) =
    absurd (not_implicit c column k (block_is_no_key c column at p text lines style h.block) e)
key_texts c column {k} e (fit_sequence f p g gs) = absurd (not_implicit c column k refl e)
key_texts c column {k} e (fit_mapping f p g h gs) = absurd (not_implicit c column k refl e)

sign_text : (sign column : ℕ) (x : Node) → 36 ≤ sign → sign < 127 → IsNoMarker (sign ∷ []) → IsRowText (entry_row column (sign ∷ []) x)
sign_text sign column x l h a =
    record { text = ascii_line sign (omega arith) h; unmarked = a; seen = seen_ascii sign [] (omega arith) h (λ e. omega arith); body = no_body_text }

question_texts : (s : Style) (column : ℕ) (k : Node) {rs ls : List Row} → AreRowTexts rs → AreRowTexts ls → AreRowTexts (explicit_pair s column k rs ls)
question_texts s column k a b =
    let wide : 2 ≤ s.indent = s.indent_from in
    append_texts (joined_texts (s.indent - 1) (omega (arith, wide)) (sign_text 63 column k (omega arith) (omega arith) (unmarked_first 63 [] (omega arith) (λ e. omega arith) (λ e. omega arith) (λ e. omega arith))) a)
    (joined_texts {head = colon_row column k} (s.indent - 1) (omega (arith, wide))
    (record { text = ascii_line 58 (omega arith) (omega arith); unmarked = unmarked_first 58 [] (omega arith) (λ e. omega arith) (λ e. omega arith) (λ e. omega arith); seen = seen_ascii 58 [] (omega arith) (omega arith) (λ e. omega arith); body = no_body_text }) b)

-- what holds for the rows of a node, whatever its margins
pub record TextsEverywhere (c : LayoutSetting) (x : Node) : Type 0 where
  pub texts : (margins : Margins) → 0 < margins.lines → AreRowTexts (rows c margins x)

deep : (c : LayoutSetting) (column : ℕ) → 0 < column + c.style.indent
deep c column = let wide : 2 ≤ c.style.indent = c.style.indent_from in omega (arith, wide)

header_seen : (style : ScalarStyle) (indent : ℕ) (text : List ℕ) → IsSeen (header_text style indent text)
header_seen Plain indent text = seen_ascii 124 _ (omega arith) (omega arith) (λ e. omega arith)
header_seen Single indent text = seen_ascii 124 _ (omega arith) (omega arith) (λ e. omega arith)
header_seen Double indent text = seen_ascii 124 _ (omega arith) (omega arith) (λ e. omega arith)
header_seen Literal indent text = seen_ascii 124 _ (omega arith) (omega arith) (λ e. omega arith)
header_seen Folded indent text = seen_ascii 62 _ (omega arith) (omega arith) (λ e. omega arith)

-- the row of a literal or folded scalar
scalar_texts : (at : NodeOffsets) {p : PropsValue} {style : ScalarStyle} {text : List ℕ} {lines : List (List ℕ)} (s : Style) (margins : Margins) → 0 < margins.lines → FitProps p → FitScalar style text lines
    → AreRowTexts (block_scalar s margins (scalar at p style text lines) p style text lines)
scalar_texts at {style = style} {text = text} {lines = lines} s margins l no_fit_props f =
    row_text (record { text = header_line style s.indent text s.indent_to; unmarked = header_unmarked style s.indent text; seen = header_seen style s.indent text; body = body_texts margins.lines (final_feeds text - 1) (content_lines style text lines) l f.texts }) no_row_text
scalar_texts at {style = style} {text = text} {lines = lines} s margins l (some_fit_props {p = p} k n) f =
    let is = header_with style s.indent text k n in
    row_text (record {
      text = subst (λ w. IsLineText w) (sym is) (line_append (props_line_text k) (line_ascii 32 (omega arith) (visible_nb 32 (omega arith) (omega arith)) (header_line style s.indent text s.indent_to)));
      unmarked = subst (λ w. IsNoMarker w) (sym is) (unmarked_more 32 (header_text style s.indent text) (props_unmarked k n) (omega arith) space_is_after);
      seen = subst (λ w. IsSeen w) (sym is) (seen_more (32 ∷ header_text style s.indent text) (props_seen k n));
      body = body_texts margins.lines (final_feeds text - 1) (content_lines style text lines) l f.texts;
    }) no_row_text

pair_texts : (c : LayoutSetting) (column : ℕ) {k v : Node} → Fit c.style k → TextsEverywhere c k → TextsEverywhere c v
    → AreRowTexts (pair_rows c column k v (rows c (key_margins c.style column k) k) (rows c (value_margins c column k v) v))
pair_texts c column {k} {v} fit f g = go (is_implicit c.style column k) refl where
  go : (b : Bool) → is_implicit c.style column k ≡ b → AreRowTexts (either_pair (is_implicit c.style column k) c column k v)
  go true e = subst (λ b. AreRowTexts (either_pair b c column k v)) (sym e)
      (after_key_texts (key_comment c.comments k v) (begins_below v) (key_texts c column e fit) (g.texts (value_of_implicit c column k v) (deep c column)))
  go false e = subst (λ b. AreRowTexts (either_pair b c column k v)) (sym e) (question_texts c.style column k (f.texts (key_margins c.style column k) (deep c column)) (g.texts (inner_margins c.style column) (deep c column)))

dash_texts : (c : LayoutSetting) (column : ℕ) {x : Node} → TextsEverywhere c x → AreRowTexts (after_sign c.style (entry_row column (45 ∷ []) x) (rows c (inner_margins c.style column) x))
dash_texts c column {x} f =
    let wide : 2 ≤ c.style.indent = c.style.indent_from in
    joined_texts (c.style.indent - 1) (omega (arith, wide)) (sign_text 45 column x (omega arith) (omega arith) dash_unmarked) (f.texts (inner_margins c.style column) (deep c column))

-- Trees.

module _ (c : LayoutSetting) where
  mutual
    texts_everywhere : {x : Node} → Fit c.style x → TextsEverywhere c x
    texts_everywhere (fit_nothing e) = record { texts = λ margins l. no_row_text }
    texts_everywhere {x} (fit_line inline some node key) = record {
      texts = λ margins l.
          subst (λ rs. AreRowTexts rs) (sym (inline_rows c margins x inline)) (one_line_texts margins.column x (written c.style x) node.back.line node.unmarked (seen_back refl node.back));
    }
    texts_everywhere (fit_scalar {at = at} {p = p} {style = style} {text = text} {lines = lines} e props f) = record {
      texts = λ margins l.
          subst (λ rs. AreRowTexts rs) (sym (scalar_rows_are c margins at p text lines style f.block)) (scalar_texts at c.style margins l props f);
    }
    texts_everywhere (fit_sequence e props f fs) = record { texts = λ margins l. append_texts (fit_props_texts margins.column props) (texts_of_items margins.entries (texts_everywhere f) fs) }
    texts_everywhere (fit_mapping e props f g fs) = record {
      texts = λ margins l.
          append_texts (fit_props_texts margins.column props) (texts_of_pairs margins.entries f (texts_everywhere f) (texts_everywhere g) fs);
    }

    texts_of_items : (column : ℕ) {x : Node} {xs : Items} → TextsEverywhere c x → FitItems c.style xs → AreRowTexts (rows_of_items c column (item x xs))
    texts_of_items column f fit_no_items = append_texts (dash_texts c column f) no_row_text
    texts_of_items column f (fit_item g gs) = append_texts (dash_texts c column f) (texts_of_items column (texts_everywhere g) gs)

    texts_of_pairs : (column : ℕ) {k v : Node} {ps : Pairs} → Fit c.style k → TextsEverywhere c k → TextsEverywhere c v → FitPairs c.style ps → AreRowTexts (rows_of_pairs c column (pair k v ps))
    texts_of_pairs column fit f g fit_no_pairs = append_texts (pair_texts c column fit f g) no_row_text
    texts_of_pairs column fit f g (fit_pair a b fs) = append_texts (pair_texts c column fit f g) (texts_of_pairs column a (texts_everywhere a) (texts_everywhere b) fs)

pub row_texts : (c : LayoutSetting) (margins : Margins) {x : Node} → 0 < margins.lines → Fit c.style x → AreRowTexts (rows c margins x)
row_texts c margins l f = (texts_everywhere c f).texts margins l
