-- The first document of a stream from its rows: with a `---`, or without.
use Rattle.std.proofs.Common.{◌≡◌, ◌≢◌, ℕ, ◌+◌, ◌≤◌, pos, Bool, true, false, true≢false, List, [], ◌∷◌, ◌++◌, refl, sym, ap, ◌∙◌, subst, arith, append_assoc, encode_utf8}
use Rattle.std.specs.Prelude.{is_some, not, ◌-ℤ◌}
use Rattle.std.proofs.lemmas.List.{map-append}
use Rattle.std.proofs.lemmas.Bool.{not-false}
use Rattle.std.specs.Str.{IsUtf8}
use Rattle.yf_chars.specs.Chain.Chain.{done}
use Rattle.yf_chars.specs.Class.{is_between, is_printable, is_break_char, is_nb_char, is_ns_char, is_white}
use Rattle.yf_chars.specs.declared.context.Ctx.TheVariants.{BlockIn}
use Rattle.yf_chars.specs.Text.{code}
use Rattle.yf_lines.specs.Basic.{Clear, LineStart}
use Rattle.yf_lines.specs.Basic.SeparateInLine.{at_start}
use Rattle.yf_lines.proofs.RestLemmas.{Rest, rest_char, rest_spaces}
use Rattle.yf_comments.specs.Comment.{CommentValue}
use Rattle.yf_comments.specs.Comments.LineEnd.{from_start}
use Rattle.yf_comments.proofs.GapLinesLemmas.{texts}
use Rattle.yf_events.specs.Event.{EventInText}
use Rattle.yf_events.specs.Tree.{Node, DocumentTree, standing}
use Rattle.yf_events.specs.declared.document.Doc.{Doc}
use Rattle.yf_grammar.specs.Productions.Grammar.{Derives, BlockNode}
use Rattle.yf_grammar.specs.Productions.Meaning.{Meaning}
use Rattle.yf_grammar.specs.Productions.TreesOfMeaning.{tall}
use Rattle.yf_grammar.proofs.Documents.CommentOrder.{derived_ascends}
use Rattle.yf_stream.specs.Stream.{Document, document_of, AnyDocument, ContentAt}
use Rattle.yf_stream.specs.Stream.AnyDocument.{bare_document}
use Rattle.yf_stream.specs.Stream.ContentAt.{content_at}
use Rattle.yf_laws.proofs.SameReading.RowSteps.{documents_begin, steps_with}
use Rattle.yf_laws.specs.Layouts.RowComments.{AreDecos, carried_texts, comments_in, Calm}
use Rattle.yf_laws.specs.Layouts.Decorated.{Deco, first, after, inline_then, lines_then, end_then}
use Rattle.yf_laws.specs.Layouts.FitDocuments.{DocumentMeant}
use Rattle.yf_laws.specs.Layouts.ReadableTrees.{Fit}
use Rattle.yf_forms.specs.NormalForms.Normal.{LayoutSetting, root_margins}
use Rattle.yf_print.specs.Layouts.Rows.{Row, begins_below, begun_at}
use Rattle.yf_laws.proofs.Derived.LayoutSteps.{Step, a_comment, a_leaf, comment_steps, steps_in}
use Rattle.yf_laws.proofs.Derived.ClearRows.{AreRowTexts, row_text, IsRowText, place_of_rest, rows_clear}
use Rattle.yf_laws.proofs.Derived.DocumentsMade.{root_stood}
use Rattle.yf_laws.proofs.RowNodes.FoundNodes.{FoundNode, meant_of}
use Rattle.yf_laws.proofs.RowNodes.FoundStreams.{AllFound, all_marked, bare_first, begun_placed, FoundBare, FoundDocuments, document_found}
use Rattle.yf_laws.proofs.OutputLines.HeldLemmas.{BodiesHeld, EventsHeld}
use Rattle.yf_laws.proofs.Derived.NodePlaces.{below_at}
use Rattle.yf_laws.proofs.Derived.NodesMade.{Claim, no_row, some_rows}
use Rattle.yf_laws.proofs.SameReading.NoStarts.{NoStarts, no_start_on, quiet_steps, rows_none}
use Rattle.yf_laws.proofs.RowNodes.PlacedRows.{AtRow, EndsRow, OwnTail, after_line, after_scalar, never_bare, one_inside, PlacedRow, RowsIn, last_row, row_before}
use Rattle.yf_laws.proofs.Derived.RowTexts.{row_texts}
use Rattle.yf_laws.proofs.Columns.SetMeant.{column_start, SetDone, SetMeant, set_done}
use Rattle.yf_laws.proofs.Columns.SetNodes.{ColumnAt}
use Rattle.yf_laws.proofs.Derived.SpannedNodes.{meant_none}
use Rattle.yf_laws.proofs.Derived.StepsInText.{Stand, leaf_is_at, comments_stand, EventsLaid, laid_after}
use Rattle.yf_laws.proofs.Derived.StreamParts.{laid_bare, meant_bare}
use Rattle.yf_laws.proofs.Derived.StreamsMade.{AnyMade, root_deep, root_rows}
use Rattle.yf_laws.proofs.Derived.TreesMade.{node_claim}
use Rattle.yf_forms.specs.declared.style.Style.{Style}
use Rattle.yf_grammar.proofs.FlowReader.ParserLemmas.{after_nothing}

pub record FirstMade (t : List ℕ) (s : LayoutSetting) (bare : Bool) (d : Doc) (x : DocumentTree) (rs : List Row) (ds : List Deco) (q : ℕ) (r : List ℕ) : Type 0 where
  pub height : ℕ
  pub place : ℕ
  pub document : Document
  pub comments : List CommentValue
  pub derived : AnyDocument t height q place document comments
  pub low : height ≤ tall x.root
  pub rest : Rest t place r
  pub meant : DocumentMeant (not bare) d x document
  pub is : texts comments ≡ comments_in rs ds
  pub laid : EventsLaid q place document.events comments (steps_in rs ds)
  pub found_rows : List PlacedRow
  pub found : {xs : List DocumentTree} {ms : List Document} {ps : List PlacedRow} → FoundDocuments t s false xs ms ps → AllFound t s bare (x ∷ xs) (document ∷ ms) (found_rows ++ ps)
  pub placed : RowsIn t rs found_rows ds q comments place r
  pub begun : Stand q (document.start ∷ []) comments (steps_with documents_begin rs ds) place
  pub held : EventsHeld t document.events comments rs ds r
  pub set : SetDone t s.style 0 s.style.indent document.events

pub marked_first : {t : List ℕ} {s : LayoutSetting} {d : Doc} {x : DocumentTree} {rs : List Row} {ds : List Deco} {q : ℕ} {r : List ℕ} → AnyMade t s d x rs ds q r → FirstMade t s false d x rs ds q r
marked_first a = record {
  height = a.height;
  place = a.place;
  document = a.document;
  comments = a.comments;
  derived = a.derived;
  low = a.low;
  rest = a.rest;
  meant = a.meant;
  is = a.is;
  laid = a.laid;
  found_rows = a.found_rows;
  found = λ {xs} {ms} {ps} more. all_marked (document_found a.found more);
  placed = a.placed;
  begun = a.begun;
  held = a.held;
  set = a.set;
}

-- Without a `---`: the rows of the node; the document begins on the first.

begun_row : {x : Row} {p : PlacedRow} {i : ℕ} (start q : ℕ) → q ≡ i → AtRow x i p → AtRow (record x { items = start ∷ x.items; begins = true }) i (record p { items = q ∷ p.items })
begun_row start q e a = record {
  from = a.from;
  order = a.order;
  size = a.size;
  items = let o = a.order in one_inside (omega (arith, e)) (omega (arith, e, o)) a.items;
  leaves = a.leaves;
  commented = a.commented;
  bare = λ z. never_bare z;
  column = a.column;
}

begun_tail : {t : List ℕ} {body : List (List ℕ)} {d : Deco} {p : PlacedRow} {own : List CommentValue} {place : ℕ} (items : List ℕ) → OwnTail t body d p own place → OwnTail t body d (record p { items = items }) own place
begun_tail items (after_line e end leaves) = after_line e end leaves
begun_tail items (after_scalar b n e f g h i j k l m o v w c) = after_scalar b n e f g h i j k l m o v w c

begun_ends : {t : List ℕ} {body : List (List ℕ)} {d : Deco} {p : PlacedRow} {own : List CommentValue} {place : ℕ} (items : List ℕ) → EndsRow t body d p own place → EndsRow t body d (record p { items = items }) own place
begun_ends items e = record { ascend = e.ascend; is = e.is; start = e.start; tail = begun_tail items e.tail }

begun_in : {t : List ℕ} {y : Row} {ys : List Row} {ps : List PlacedRow} {ds : List Deco} {i j : ℕ} {cs : List CommentValue} {r : List ℕ} (start q : ℕ) → q ≡ i → RowsIn t (y ∷ ys) ps ds i cs j r
    → RowsIn t (begun_at start (y ∷ ys)) (begun_placed q ps) ds i cs j r
begun_in start q e (last_row {p = p} a f w) = last_row (begun_row start q e a) (begun_ends (q ∷ p.items) f) w
begun_in start q e (row_before {p = p} a f w more) = row_before (begun_row start q e a) (begun_ends (q ∷ p.items) f) w more

begun_held : (t : List ℕ) (es : List EventInText) (y : Row) (ys : List Row) (ds : List Deco) (r : List ℕ) (start : ℕ) → BodiesHeld t es (y ∷ ys) ds r → BodiesHeld t es (begun_at start (y ∷ ys)) ds r
begun_held t es y ys ds r start a = (record { seen = a.0.seen; body = a.0.body }, a.1)

ns_no_return : (c : ℕ) → is_ns_char c ≡ true → c ≢ 13
unfolding is_ns_char is_nb_char is_printable is_between is_break_char is_white
ns_no_return c h e = absurd (true≢false (sym h ∙ ap is_ns_char e))

-- the first character of the first row
content_there : {t : List ℕ} {q : ℕ} (z : List ℕ) (y : Row) → IsUtf8 t → LineStart t q → IsRowText y → Rest t q (y.text ++ z) → ContentAt t q q
content_there {t} {q} z y u start a w =
    let s = a.seen in
    let there : Rest t q (encode_utf8 s.char ++ (s.follows ++ z)) = subst (λ v. Rest t q v) (ap (λ v. v ++ z) s.is ∙ append_assoc (encode_utf8 s.char) s.follows z) w in
    let is : code t q ≡ s.char = (rest_char s.char u (ns_no_return s.char s.ns) there).0.char in
    content_at (at_start start) (ap is_ns_char is ∙ s.ns) (λ e. s.no_hash (sym is ∙ e))

first_text : {y : Row} {ys : List Row} → AreRowTexts (y ∷ ys) → IsRowText y
first_text (row_text a more) = a

begun_steps : {y : Row} {ys : List Row} (start : ℕ) (ds : List Deco) → NoStarts (y ∷ ys) → steps_with documents_begin (begun_at start (y ∷ ys)) ds ≡ a_leaf ∷ comment_steps (comments_in (y ∷ ys) ds)
begun_steps {ys = ys} start ds (no_start_on e none) =
    ap (λ w. a_leaf ∷ w) (ap (λ w. comment_steps (carried_texts (first ds)) ++ w) (quiet_steps none (after ds)) ∙ sym (map-append (λ (w : List ℕ). a_comment w) (carried_texts (first ds)) (comments_in ys (after ds))))

begun_is_at : {i j : ℕ} {cs : List CommentValue} {a : List Step} (s : ℕ) (m : Meaning) → Stand i (s ∷ []) cs a j → Stand i ((document_of s false [] m).start ∷ []) cs a j
unfolding document_of
begun_is_at s m a = a

bare_set : {t : List ℕ} (c : Style) (s : ℕ) (m : Meaning) → SetDone t c 0 c.indent m.events → SetDone t c 0 c.indent (document_of s false [] m).events
unfolding document_of
bare_set c s m a = a

bare_bodies : (t : List ℕ) (rs : List Row) (ds : List Deco) (r : List ℕ) (s : ℕ) (m : Meaning) → BodiesHeld t m.events rs ds r → BodiesHeld t (document_of s false [] m).events rs ds r
unfolding document_of
bare_bodies t rs ds r s m a = a

bare_found : {t : List ℕ} {c : LayoutSetting} {x : DocumentTree} {m : Meaning} {ps : List PlacedRow} (s : ℕ) → FoundNode t c (root_margins c.style) x.root m ps → FoundBare t c x (document_of s false [] m) (begun_placed s ps)
unfolding document_of
bare_found {ps = ps} s a = record { node = a.node; alike = a.alike; events = a.events; inner = ps; are = refl; rows = a.rows }

-- the rows of a node that has characters begin at the margin
pub record BareRow (rs : List Row) : Type 0 where
  pub row : Row
  pub others : List Row
  pub are : rs ≡ row ∷ others
  pub column : row.column ≡ 0

column_of : (c : LayoutSetting) (x : Node) (y : Row) (b : Bool) → begins_below x ≡ b → (begins_below x ≡ false → y.column ≡ (root_margins c.style).column) → (begins_below x ≡ true → y.column ≡ (root_margins c.style).entries) → y.column ≡ 0
column_of c x y true e f g = g e
column_of c x y false e f g = f e

pub bare_row : (c : LayoutSetting) (x : DocumentTree) → is_some (standing x.root).span ≡ true → Fit c.style x.root → BareRow (root_rows c x)
bare_row c x some fit = by (node_claim c (root_margins c.style) fit) where
  by : {rs : List Row} → Claim c x.root (root_margins c.style) rs → BareRow rs
  by (no_row m) = absurd (true≢false (sym some ∙ meant_none 0 (m.meant 0)))
  by (some_rows {r = y} {rs = ys} f g m) = record { row = y; others = ys; are = refl; column = column_of c x.root y (begins_below x.root) refl f g }

pub bare_made : {t : List ℕ} (c : LayoutSetting) {d : Doc} (x : DocumentTree) (start : ℕ) (ds : List Deco) (r : List ℕ) (q : ℕ) → d.directives ≡ [] → is_some (standing x.root).span ≡ true → Fit c.style x.root → IsUtf8 t → AreDecos ds
    → LineStart t q → Calm (begun_at start (root_rows c x)) ds r → Rest t q (lines_then (begun_at start (root_rows c x)) ds r) → FirstMade t c true d x (begun_at start (root_rows c x)) ds q r
bare_made {t} c {d} x start ds r q none some fit u a line k w = by (node_claim c (root_margins c.style) fit) (row_texts c (root_margins c.style) (root_deep c) fit) (rows_none c (root_margins c.style) x.root) k w where
  by : {rs : List Row} → Claim c x.root (root_margins c.style) rs → AreRowTexts rs → NoStarts rs → Calm (begun_at start rs) ds r → Rest t q (lines_then (begun_at start rs) ds r) → FirstMade t c true d x (begun_at start rs) ds q r
  by (no_row m) texts_are silent calm v = absurd (true≢false (sym some ∙ meant_none 0 (m.meant 0)))
  by (some_rows {r = y} {rs = ys} f g m) texts_are silent calm v =
      let column : y.column ≡ 0 = column_of c x.root y (begins_below x.root) refl f g in
      let spaces = rest_spaces y.column q u v in
      let node = m.made (pos 0 -ℤ pos 1) BlockIn ds r (q + y.column) u (root_stood c x.root) a calm spaces.1 in
      let derived : Derives t node.height (BlockNode (pos 0 -ℤ pos 1) BlockIn) q node.place node.meaning =
      subst (λ z. Derives t node.height (BlockNode (pos 0 -ℤ pos 1) BlockIn) q node.place z) (after_nothing node.meaning)
      (below_at 0 refl refl (λ e. omega arith) (λ e. g (not-false (begins_below x.root) e)) (from_start line done) line spaces.0 node.at) in
      let free = rows_clear {rs = y ∷ ys} ds r u texts_are a v in
      let clear : Clear t q node.place = subst (λ j. Clear t q j) (place_of_rest free.rest node.rest) free.clear in
      let same : q + y.column ≡ q = omega (arith, column) in
      let any : AnyDocument t node.height q node.place (document_of q false [] node.meaning) node.meaning.comments =
      bare_document (record { derived = derived; clear = clear }) (content_there (end_then (first ds) y.body (lines_then ys (after ds) r)) y u line (first_text texts_are) (subst (λ p. Rest t p (inline_then (y ∷ ys) ds r)) same spaces.1)) in
      record {
        height = node.height;
        place = node.place;
        document = document_of q false [] node.meaning;
        comments = node.meaning.comments;
        derived = any;
        low = node.low;
        rest = node.rest;
        meant = meant_bare q none (meant_of node.meant);
        is = node.is;
        laid = laid_bare q (laid_after (omega (arith, column)) node.laid);
        found_rows = begun_placed q node.found_rows;
        found = λ {xs} {ms} {ps} more. bare_first (bare_found q node.meant) more;
        placed = begun_in start q refl (subst (λ p. RowsIn t (y ∷ ys) node.found_rows ds p node.meaning.comments node.place r) same node.placed);
        begun = begun_is_at q node.meaning (subst (λ z. Stand q (q ∷ []) node.meaning.comments z node.place) (sym (begun_steps start ds silent)) (leaf_is_at (omega arith) (comments_stand (derived_ascends derived) node.is)));
        held = record { comments = node.held.comments; bodies = bare_bodies t (begun_at start (y ∷ ys)) ds r q node.meaning (begun_held t node.meaning.events y ys ds r start node.held.bodies) };
        set = bare_set c.style q node.meaning (set_done (λ b. subst (λ z. ColumnAt t z (q + y.column)) (g b) (column_start u line spaces.0))
            (subst (λ p. SetMeant t c.style 0 p (begins_below x.root) (q + y.column) node.meaning) (omega arith) node.set));
      }
