-- Block collections, with properties or without, from the rows of their entries.
use Rattle.std.proofs.Common.{◌≡◌, ◌≢◌, ℕ, suc, ◌+◌, ◌≤◌, ℤ, pos, Bool, true, false, true≢false, List, [], ◌∷◌, ◌++◌, length, Option, Some, None, refl, sym, ap, ◌∙◌, subst, arith}
use Rattle.std.specs.Prelude.{is_some, not, ◌≤ℤ◌, ◌+ℤ◌}
use Rattle.std.specs.Str.{IsUtf8}
use Rattle.yf_chars.specs.declared.context.Ctx.{Ctx}
use Rattle.yf_lines.proofs.RestLemmas.{Rest, rest_spaces, rest_is_at, rest_text}
use Rattle.yf_comments.specs.Comment.{CommentValue}
use Rattle.yf_comments.specs.Comments.{LineEnd}
use Rattle.yf_comments.proofs.GapLinesLemmas.{texts}
use Rattle.yf_props.specs.Props.{PropsValue, TagValue, no_props}
use Rattle.yf_props.specs.Props.TagValue.{IsVerbatim, IsShort, IsNonSpecific}
use Rattle.yf_props.specs.Written.{IsTag, verbatim_form, short_form, lone_form, IsHandle, primary_form, secondary_form, named_form, IsProps, tag_bytes, parts_bytes, props_bytes, tag_offset_at}
use Rattle.yf_props.proofs.PropsBack.{props_back}
use Rattle.yf_props.proofs.PropsLines.{props_line_text}
use Rattle.yf_events.specs.Tree.{Node, is_sequence}
use Rattle.yf_grammar.specs.Productions.Grammar.{least_column}
use Rattle.yf_grammar.specs.Productions.Meaning.{Meaning, meaning_after, collection, with_props}
use Rattle.yf_grammar.specs.Productions.TreesOfMeaning.{tall}
use Rattle.yf_grammar.proofs.Documents.CommentOrder.{Ascend, end_ascends}
use Rattle.yf_grammar.proofs.BlockOutcomes.NodesAfter.{properties_after}
use Rattle.yf_grammar.proofs.NodesInText.MeantLemmas.{texts_after, texts_collection, texts_with_props, after_comments}
use Rattle.yf_laws.specs.Layouts.RowComments.{AreDecos, carried_texts, Calm}
use Rattle.yf_laws.specs.Layouts.Decorated.{Deco, first, after, end_then, lines_then, inline_then}
use Rattle.yf_forms.specs.NormalForms.Normal.{LayoutSetting, Margins}
use Rattle.yf_forms.specs.Nodes.OneLine.{spaced, anchor_text, tag_text, props_text}
use Rattle.yf_print.specs.Layouts.Rows.{Row, before_node, plain_row, props_row, begins_below}
use Rattle.yf_forms.specs.Nodes.Lines.{is_empty_text}
use Rattle.yf_laws.proofs.Derived.LayoutSteps.{leaf_steps, comment_steps, steps_in}
use Rattle.yf_laws.proofs.Derived.EntriesMade.{Begins, begins, EntriesMakes, lines_begin}
use Rattle.yf_laws.proofs.OutputLines.HeldLemmas.{held_next, held_collection, held_collection_with, row_ended}
use Rattle.yf_laws.proofs.RowNodes.FoundNodes.{FoundNode, found_after}
use Rattle.yf_laws.proofs.Derived.NodePlaces.{NodeAt, entries_at, propertied_at}
use Rattle.yf_laws.proofs.Derived.NodesMade.{Stood, NodeMade, Claim, some_rows}
use Rattle.yf_laws.proofs.RowNodes.PlacedRows.{none_inside, PlacedRow, AtRow, no_leaf_to, after_line, EndsRow, RowsIn, row_before}
use Rattle.yf_laws.proofs.Derived.RowEnds.{row_end, end_follows, first_deco, after_decos}
use Rattle.yf_laws.proofs.Columns.SetMeant.{column_start, set_after, set_collection, set_propertied}
use Rattle.yf_laws.proofs.Derived.StepsInText.{MeaningLaid, laid_after, laid_next, laid_collection, laid_collection_with}

-- Properties are written as they are spelled.

handle_first : (name h x : List ℕ) → IsHandle h → spaced (38 ∷ name) (h ++ x) ≡ (38 ∷ name) ++ (32 ∷ (h ++ x))
handle_first name h x primary_form = refl
handle_first name h x secondary_form = refl
handle_first name h x (named_form a n) = refl

tag_first : (name : List ℕ) (v : TagValue) → IsTag v → spaced (38 ∷ name) (tag_text (Some v)) ≡ (38 ∷ name) ++ (32 ∷ tag_bytes v)
tag_first name v (verbatim_form s n) = refl
tag_first name v (short_form {h = h} {x = x} k s n) = handle_first name h x k
tag_first name v lone_form = refl

same_tag : (v : TagValue) → tag_text (Some v) ≡ tag_bytes v
same_tag (IsVerbatim text) = refl
same_tag (IsShort handle suffix) = refl
same_tag IsNonSpecific = refl

pub same_props : {p : PropsValue} → IsProps p → props_text p ≡ props_bytes p
same_props {p} k = go p.anchor p.tag (λ v e. k.tag v e) refl where
  go : (a : Option (List ℕ)) (v : Option TagValue) → ((w : TagValue) → p.tag ≡ Some w → IsTag w) → p.tag ≡ v → spaced (anchor_text a) (tag_text v) ≡ parts_bytes a v
  go None None k e = refl
  go None (Some v) k e = same_tag v
  go (Some name) None k e = refl
  go (Some name) (Some v) k e = tag_first name v (k v e)

handle_some : (h x : List ℕ) → IsHandle h → is_empty_text (h ++ x) ≡ false
handle_some h x primary_form = refl
handle_some h x secondary_form = refl
handle_some h x (named_form a n) = refl

tag_some : (v : TagValue) → IsTag v → is_empty_text (tag_bytes v) ≡ false
tag_some v (verbatim_form s n) = refl
tag_some v (short_form {h = h} {x = x} k s n) = handle_some h x k
tag_some v lone_form = refl

pub some_props : {p : PropsValue} → IsProps p → p ≢ no_props → is_empty_text (props_bytes p) ≡ false
some_props {p} k n = go p.anchor p.tag refl refl (λ v e. k.tag v e) where
  none : p.anchor ≡ None → p.tag ≡ None → p ≡ no_props
  none e f = ap (λ a. record { anchor = a; tag = p.tag }) e ∙ ap (λ v. record { anchor = None; tag = v }) f

  go : (a : Option (List ℕ)) (v : Option TagValue) → p.anchor ≡ a → p.tag ≡ v → ((w : TagValue) → p.tag ≡ Some w → IsTag w) → is_empty_text (parts_bytes a v) ≡ false
  go None None e f k = absurd (n (none e f))
  go None (Some v) e f k = tag_some v (k v f)
  go (Some name) None e f k = refl
  go (Some name) (Some v) e f k = refl

-- Comments.

pub comments_collection : (s f : Bool) (i j : ℕ) (x : Meaning) → (collection s f i j x).comments ≡ x.comments
unfolding collection
comments_collection s f i j x = refl

pub comments_with_props : (p : PropsValue) (o : Option ℕ) (i j : ℕ) (x : Meaning) → (with_props p o i j x).comments ≡ x.comments
unfolding with_props
comments_with_props p o i j x = refl

row_before_rows : {t : List ℕ} {column : ℕ} {row : Row} {rs : List Row} {p : PlacedRow} {ps : List PlacedRow} {ds : List Deco} {i k j : ℕ} {own cs : List CommentValue} {r : List ℕ} → Begins column rs → AtRow row i p
    → EndsRow t row.body (first ds) p own k → Rest t k (lines_then rs (after ds) r) → RowsIn t rs ps (after ds) (k + column) cs j r → RowsIn t (row ∷ rs) (p ∷ ps) ds i (own ++ cs) j r
row_before_rows {t} {ps = ps} {ds = ds} {k = k} {j = j} {cs = cs} {r = r} (begins {r = y} {rs = ys} e) at end w a =
    row_before at end w (subst (λ z. RowsIn t (y ∷ ys) ps (after ds) (k + z) cs j r) (sym e) a)

-- A collection without properties.

pub bare_claim : {s : LayoutSetting} {x : Node} {margins : Margins} {es : List Row} {sequence : Bool} {bound : ℕ} {Q : List ℕ → Meaning → List PlacedRow → Type 0} → begins_below x ≡ true → is_sequence x ≡ sequence → tall x ≡ suc bound
    → ((t : List ℕ) (i j : ℕ) (m : Meaning) (ps : List PlacedRow) → Q t m ps → FoundNode t s margins x (collection sequence false i j m) ps) → EntriesMakes s sequence margins.entries bound Q es → Claim s x margins es
bare_claim {s} {x} {margins} {es} {sequence} {bound} {Q} below kind high meant e = claim e.starts e where
  made : {rs : List Row} → EntriesMakes s sequence margins.entries bound Q rs → {t : List ℕ} (n : ℤ) (c : Ctx) (ds : List Deco) (r : List ℕ) (q : ℕ) → IsUtf8 t → Stood s x n c margins → AreDecos ds
      → Calm rs ds r → Rest t q (inline_then rs ds r) → NodeMade t s n c margins x rs ds q r
  made {rs} e {t} n c ds r q u stood a k w =
      let one = e.made ds r q u a k w in
      let low : one.height ≤ bound = one.low in
      record {
        height = suc one.height;
        place = one.place;
        meaning = collection sequence false q one.meaning.finish one.meaning;
        at = entries_at (ap not below) refl refl (subst (λ b. least_column b n c ≤ℤ pos margins.entries) kind stood.least) one.derived;
        low = omega (arith, low, high);
        rest = one.rest;
        start = one.start;
        found_rows = one.found_rows;
        meant = meant t q one.meaning.finish one.meaning one.found_rows one.meant;
        placed = subst (λ z. RowsIn t rs one.found_rows ds q z one.place r) (sym (comments_collection sequence false q one.meaning.finish one.meaning)) one.placed;
        is = texts_collection sequence false q one.meaning.finish one.meaning ∙ one.is;
        laid = laid_collection sequence false q one.meaning.finish one.meaning one.laid;
        set = set_collection sequence margins.entries q q one.meaning.finish one.meaning below one.set;
        held = held_collection sequence false q one.meaning.finish one.meaning rs ds r one.held;
      }

  claim : {rs : List Row} → Begins margins.entries rs → EntriesMakes s sequence margins.entries bound Q rs → Claim s x margins rs
  claim (begins f) e = some_rows (λ b. absurd (true≢false (sym below ∙ b))) (λ b. f) (record { made = made e })

-- With properties on a line of their own.

module _ {s : LayoutSetting} {x : Node} {margins : Margins} {es : List Row} {sequence : Bool} {bound : ℕ} {Q : List ℕ → Meaning → List PlacedRow → Type 0} {p : PropsValue} (props : IsProps p) (some : p ≢ no_props)
    (below : begins_below x ≡ false) (kind : is_sequence x ≡ sequence) (high : tall x ≡ suc bound)
    (meant : (t : List ℕ) (o : Option ℕ) (f g i j : ℕ) (m : Meaning) (h : PlacedRow) (ps : List PlacedRow) → h.items ≡ [] → h.leaves ≡ [] → h.commented ≡ false → Q t m ps
    → FoundNode t s margins x (with_props p o f g (collection sequence false i j m)) (h ∷ ps))
    (e : EntriesMakes s sequence margins.entries bound Q es) where
  propertied_made : {t : List ℕ} (row : Row) → row.text ≡ props_bytes p → row.body ≡ [] → row.items ≡ [] → row.leaves ≡ [] → is_some row.key_comment ≡ false → (n : ℤ) (c : Ctx) (ds : List Deco) (r : List ℕ) (q : ℕ) → IsUtf8 t → Stood s x n c margins
      → AreDecos ds → Calm (row ∷ es) ds r → Rest t q (inline_then (row ∷ es) ds r) → NodeMade t s n c margins x (row ∷ es) ds q r
  propertied_made {t} row text body no_items none key n c ds r q u stood a k w =
      let there : Rest t q (props_bytes p ++ end_then (first ds) [] (lines_then es (after ds) r)) =
      subst (λ l. Rest t q (props_bytes p ++ end_then (first ds) l (lines_then es (after ds) r))) body
      (subst (λ v. Rest t q (v ++ end_then (first ds) row.body (lines_then es (after ds) r))) text w) in
      let properties = props_back (n +ℤ pos 1) c (end_then (first ds) [] (lines_then es (after ds) r)) u props some (end_follows (first ds) [] (lines_then es (after ds) r)) (rest_is_at there) in
      let after_props = rest_text (props_bytes p) u (props_line_text props) there in
      let end = row_end (first ds) (lines_then es (after ds) r) u (first_deco a) after_props.rest in
      let spaces = rest_spaces margins.entries end.place u (subst (λ v. Rest t end.place v) (lines_begin (after ds) r e.starts) end.rest) in
      let one = e.made (after ds) r (end.place + margins.entries) u (after_decos a) k.1 spaces.1 in
      let low : one.height ≤ bound = one.low in
      let offset : Option ℕ = tag_offset_at q p.anchor p.tag in
      let g : ℕ = q + length (props_bytes p) in
      let inner : Meaning = collection sequence false (end.place + margins.entries) one.meaning.finish one.meaning in
      let width : length (props_bytes p) ≡ length row.text = ap length (sym text) in
      let h : PlacedRow = record { items = []; leaves = []; commented = false; column = row.column; from = q; upto = q + length row.text } in
      let found : FoundNode t s margins x (with_props p offset q g inner) (h ∷ one.found_rows) =
      meant t offset q g (end.place + margins.entries) one.meaning.finish one.meaning h one.found_rows refl refl refl one.meant in
      let at = propertied_at {c = c} {p = p} stood.block properties end.end spaces.0 (subst (λ b. least_column b n c ≤ℤ pos margins.entries) kind stood.least) one.derived in
      record {
        height = suc one.height;
        place = one.place;
        meaning = meaning_after end.comments (with_props p offset q g inner);
        at = subst (λ f. NodeAt t n c margins.entries f (suc one.height) q one.place (meaning_after end.comments (with_props p offset q g inner))) (ap not (sym below)) at;
        low = omega (arith, low, high);
        rest = one.rest;
        start = one.start;
        found_rows = h ∷ one.found_rows;
        meant = found_after end.comments found;
        placed = subst (λ z. RowsIn t (row ∷ es) (h ∷ one.found_rows) ds q z one.place r)
            (sym (after_comments end.comments (with_props p offset q g inner) ∙ ap (λ z. end.comments ++ z) (comments_with_props p offset q g inner
            ∙ comments_collection sequence false (end.place + margins.entries) one.meaning.finish one.meaning)))
            (row_before_rows e.starts (record {
              from = refl;
              order = omega arith;
              size = λ z. refl;
              items = none_inside;
              leaves = none_inside;
              commented = key;
              bare = λ z. no_items;
              column = refl;
            }) (record {
              ascend = subst (λ z. Ascend t (q + z) end.comments end.place) width (end_ascends end.end);
              is = end.is;
              start = end.start;
              tail = after_line body (subst (λ z. LineEnd t (q + z) end.place end.comments) width end.end) no_leaf_to;
            }) end.rest one.placed);
        is = texts_after end.comments (with_props p offset q g inner) ∙ (ap (λ z. z ++ texts (with_props p offset q g inner).comments) end.is
            ∙ ap (λ z. carried_texts (first ds) ++ z) (texts_with_props p offset q g inner ∙ (texts_collection sequence false (end.place + margins.entries) one.meaning.finish one.meaning ∙ one.is)));
        laid = subst (λ z. MeaningLaid q one.place (meaning_after end.comments (with_props p offset q g inner)) (leaf_steps z ++ (comment_steps (carried_texts (first ds)) ++ steps_in es (after ds)))) (sym none)
            (laid_after (omega arith) (laid_next end.comments (with_props p offset q g inner) (end_ascends end.end) end.is (omega arith)
            (laid_collection_with p offset q g sequence false (end.place + margins.entries) one.meaning.finish one.meaning one.laid)));
        set = set_after end.comments (set_propertied sequence p offset q g margins.entries (end.place + margins.entries) (end.place + margins.entries) one.meaning.finish one.meaning (column_start u end.start spaces.0) one.set);
        held = held_next end.comments (with_props p offset q g inner) row es ds r body
            (row_ended (first ds) (lines_then es (after ds) r) u (properties_after u properties) (first_deco a) after_props.rest end.end)
            (held_collection_with p offset q g sequence false (end.place + margins.entries) one.meaning.finish one.meaning es (after ds) r one.held);
      }

  propertied_row : (w : List ℕ) → w ≡ props_bytes p → is_empty_text w ≡ false → Claim s x margins (props_row margins.column w ++ es)
  propertied_row [] e f = absurd (true≢false f)
  propertied_row (b ∷ w) text f =
      some_rows (λ z. refl) (λ z. absurd (true≢false (sym z ∙ below))) (record {
        made = λ {t} n c ds r q u stood a k v.
            propertied_made (record (plain_row margins.column (b ∷ w)) { ending = before_node }) text refl refl refl refl n c ds r q u stood a k v;
      })

  pub propertied_claim : Claim s x margins (props_row margins.column (props_text p) ++ es)
  propertied_claim = propertied_row (props_text p) (same_props props) (ap is_empty_text (same_props props) ∙ some_props props some)
