-- The rows of a found node carry its notes on blank lines, and give the ends of its block scalars.
use Rattle.std.proofs.Common.{◌≡◌, ◌≢◌, ℕ, pos, ◌+◌, ◌-◌, Bool, true, false, true≢false, List, [], ◌∷◌, ◌++◌, codes, Option, Some, None, refl, sym, ap, ◌∙◌, subst, append_assoc, append-nil}
use Rattle.std.specs.Prelude.{is_some, not, ◌&&◌, if◌then◌else◌}
use Rattle.std.specs.Str.{IsUtf8}
use Rattle.yf_chars.specs.declared.context.Ctx.TheVariants.{FlowOut}
use Rattle.yf_lines.specs.LineText.Follows.{nothing_follows}
use Rattle.yf_lines.proofs.RestLemmas.{Rest, rest_start}
use Rattle.yf_comments.specs.Comment.{CommentValue}
use Rattle.yf_props.specs.Props.{PropsValue}
use Rattle.yf_events.specs.Alike.{Alike, alike_scalars}
use Rattle.yf_events.specs.Event.{EventInText, mapping_ends, mapping_starts, scalar_node, sequence_ends, sequence_starts}
use Rattle.yf_events.specs.declared.event.Entry.{Entry}
use Rattle.yf_events.specs.declared.event.ScalarStyle.{ScalarStyle}
use Rattle.yf_events.specs.declared.event.ScalarStyle.TheVariants.{Plain, Single, Double, Literal, Folded}
use Rattle.yf_events.specs.declared.event.Span.{Span}
use Rattle.yf_events.specs.Tree.{NodeOffsets, Node, scalar, sequence, mapping, Items, item, Pairs, pair, flat, flat_items, flat_pairs, placed, spans_of_leaf, standing, unplaced}
use Rattle.yf_grammar.specs.Productions.TreesOfMeaning.{Anywhere}
use Rattle.yf_grammar.specs.Productions.ReadParts.{NotedSince, end_or, floor_after_event}
use Rattle.yf_stream.specs.ReadingOf.{end_before, floor_at}
use Rattle.yf_stream.proofs.Existence.BreachLemmas.{alike_values, values}
use Rattle.yf_stream.proofs.BlankNotes.FloorWalk.{end_same, floor_join}
use Rattle.yf_stream.proofs.BlankNotes.NodeNotes.{collection_floor}
use Rattle.yf_forms.specs.declared.style.Style.{Style}
use Rattle.yf_laws.specs.Preservation.AlikeBlocks.{AlikeBlocks, alike_lines, AlikeBlockItems, no_block_items, block_item, AlikeBlockPairs, no_block_pairs, block_pair}
use Rattle.yf_forms.specs.Nodes.BlockLines.{content_lines, final_feeds}
use Rattle.yf_laws.specs.Layouts.ReadableTrees.{Fit, fit_nothing, fit_line, fit_scalar, fit_sequence, fit_mapping, FitItems, fit_item, FitPairs, fit_pair, FitScalar, LineNode, is_block_style, is_inline}
use Rattle.yf_forms.specs.NormalForms.Normal.{LayoutSetting, Margins, entry_or, inner_margins, is_implicit, key_comment, key_margins, value_entries, value_of_implicit}
use Rattle.yf_forms.specs.Nodes.OneLine.{props_text, written}
use Rattle.yf_laws.specs.Layouts.RowShapes.{KeysAgree}
use Rattle.yf_print.specs.Layouts.Rows.{Row, begins_below, blank_before_entry, block_scalar, colon_row, entry_row, key_row, one_line_row, props_row, rows, rows_of_items, rows_of_pairs}
use Rattle.yf_forms.specs.Nodes.Lines.{is_empty_text}
use Rattle.yf_laws.proofs.SecondRun.AlikeLemmas.{same_below, same_implicit, same_sequence, same_written, setting}
use Rattle.yf_laws.proofs.SecondRun.FixedBlocks.{blocks_alike}
use Rattle.yf_laws.proofs.Columns.FlowEvents.{AllFlow, IsFlowEvent, flow_means}
use Rattle.yf_laws.proofs.RowNodes.FoundLines.{same_inline}
use Rattle.yf_laws.proofs.RowNodes.FoundMarks.{mapping_blocks, no_props_marks, sequence_blocks}
use Rattle.yf_laws.proofs.RowNodes.FoundNodes.{KeyOn, key_on, NodeRows, no_rows, line_rows, scalar_rows, sequence_rows, sequence_after, mapping_rows, mapping_after, ItemsRows, no_item_rows, item_rows, PairRows, explicit_rows, implicit_rows, PairsRows, no_pair_rows, pair_rows}
use Rattle.yf_laws.proofs.ReadAgain.GapNotes.{HeadNote, bare_head, entry_head}
use Rattle.yf_laws.proofs.Texts.LineUtf8.{line_utf8}
use Rattle.yf_laws.proofs.RowNodes.PlacedRows.{LastEnd, last_end, PlacedRow}
use Rattle.yf_laws.proofs.ReadAgain.RowNotes.{AllNoted, EntryNoted, HeadsWith, heads_with, RowNotes, no_row_notes, note_kept, note_moved, block_moved, entry_head_of, entry_noted, flow_at, flow_passed, key_notes, last_join, last_of, notes_join, pick, pick_join, sign_notes}
use Rattle.yf_laws.proofs.Derived.ScalarsMade.{body_some, scalar_rows_are}
use Rattle.yf_laws.proofs.Derived.TreesMade.{block_is_no_key, either_pair, inline_rows, not_implicit}

-- the notes of rows, and those of their events es; the other events follow
pub record NotesMade (t : List ℕ) (f : ℕ) (ps : List PlacedRow) (xs ys : List Row) (es rest : List EventInText) : Type 0 where
  pub ends : List ℕ
  pub rows : RowNotes t f ps xs ys ends
  pub notes : AllNoted t (last_of f ends) rest
  pub at : (o g : ℕ) → floor_at o g es ≡ pick o g ends

-- Flow nodes.

flow_values : (es fs : List EventInText) → values es ≡ values fs → AllFlow es → AllFlow fs
flow_values [] [] e a = tt
flow_values [] (f ∷ fs) e a = absurd cc
flow_values (e ∷ es) [] q a = absurd cc
flow_values (e ∷ es) (f ∷ fs) q a =
    let first : e.event ≡ f.event = cc in
    let others : values es ≡ values fs = cc in
    (subst (λ v. IsFlowEvent v) first a.0, flow_values es fs others a.1)

line_flow : (house : Style) {x : Node} → LineNode house FlowOut x → AllFlow (flat x)
line_flow house {x} node =
    let u : IsUtf8 (written house x) = line_utf8 node.back.line in
    let there : Rest (written house x) 0 (written house x ++ []) = subst (λ z. Rest (written house x) 0 z) (sym (append-nil (written house x))) (rest_start (written house x) u) in
    let derived = node.back.made (pos 0) 0 [] u nothing_follows there in
    let flow = flow_means derived tt in
    let meant = node.meant 0 in
    flow_values (flat meant.node) (flat x) (sym (alike_values meant.alike)) (subst (λ z. AllFlow z) meant.events flow.all)

block_not_inline : (at : NodeOffsets) (p : PropsValue) (text : List ℕ) (lines : List (List ℕ)) (style : ScalarStyle) → is_block_style style ≡ true → is_inline (scalar at p style text lines) ≡ true → ⊥
block_not_inline at p text lines Plain e f = true≢false (sym e)
block_not_inline at p text lines Single e f = true≢false (sym e)
block_not_inline at p text lines Double e f = true≢false (sym e)
block_not_inline at p text lines Literal e f = true≢false (sym f)
block_not_inline at p text lines Folded e f = true≢false (sym f)

pub inline_flow : (house : Style) {x : Node} → Fit house x → is_inline x ≡ true → AllFlow (flat x)
inline_flow house (fit_nothing f) e = (refl, tt)
inline_flow house (fit_line inline some node key) e = line_flow house node
inline_flow house (fit_scalar {at = at} {p = p} {style = style} {text = text} {lines = lines} f g h) e = absurd (block_not_inline at p text lines style h.block e)
inline_flow house (fit_sequence f p g gs) e = absurd (true≢false (sym e))
inline_flow house (fit_mapping f p g h gs) e = absurd (true≢false (sym e))

pub key_flow : {k : Node} (c : LayoutSetting) (column : ℕ) → Fit c.style k → is_implicit c.style column k ≡ true → AllFlow (flat k)
key_flow c column (fit_nothing f) e = (refl, tt)
key_flow c column (fit_line inline some node key) e = line_flow c.style node
key_flow c column (fit_scalar {at = at} {p = p} {style = style} {text = text} {lines = lines} f g h) e =
    absurd (not_implicit c column (scalar at p style text lines) (block_is_no_key c column at p text lines style h.block) e)
key_flow c column (fit_sequence {at = at} {p = p} {x = x} {xs = xs} f q g gs) e = absurd (not_implicit c column (sequence at false p (item x xs)) refl e)
key_flow c column (fit_mapping {at = at} {p = p} {k = k} {v = v} {ps = ps} f q g h gs) e = absurd (not_implicit c column (mapping at false p (pair k v ps)) refl e)

alike_flow : {x y : Node} → Alike Anywhere x y → AllFlow (flat x) → AllFlow (flat y)
alike_flow {x} {y} a b = flow_values (flat x) (flat y) (alike_values a) b

scalar_fits : (house : Style) {at : NodeOffsets} {p : PropsValue} {text : List ℕ} {lines : List (List ℕ)} {style : ScalarStyle} → is_block_style style ≡ true → Fit house (scalar at p style text lines) → (is_some at.span ≡ true) × FitScalar style text lines
scalar_fits house e (fit_nothing f) = absurd (true≢false (sym e))
scalar_fits house {at} {p} {text} {lines} {style} e (fit_line inline some node key) = absurd (block_not_inline at p text lines style e inline)
scalar_fits house e (fit_scalar f g h) = (f, h)

pub items_fit : (house : Style) {at : NodeOffsets} {p : PropsValue} {xs : Items} → Fit house (sequence at false p xs) → FitItems house xs
items_fit house (fit_line inline some node key) = absurd (true≢false (sym inline))
items_fit house (fit_sequence f p g gs) = fit_item g gs

pub pairs_fit : (house : Style) {at : NodeOffsets} {p : PropsValue} {ps : Pairs} → Fit house (mapping at false p ps) → FitPairs house ps
pairs_fit house (fit_line inline some node key) = absurd (true≢false (sym inline))
pairs_fit house (fit_mapping f p g h gs) = fit_pair g h gs

-- Single rows.

line_notes : {t : List ℕ} {f : ℕ} {p : PlacedRow} (column to : ℕ) (x y : Node) (w v : List ℕ) → w ≢ [] → v ≢ [] → RowNotes t f (p ∷ []) (one_line_row column x w) (one_line_row to y v) []
line_notes column to x y [] v m n = absurd (m refl)
line_notes column to x y (b ∷ w) [] m n = absurd (n refl)
line_notes column to x y (b ∷ w) (d ∷ v) m n = note_kept bare_head refl no_row_notes

props_notes : {t : List ℕ} {f : ℕ} {p : PlacedRow} (column to : ℕ) (w : List ℕ) → is_empty_text w ≡ false → RowNotes t f (p ∷ []) (props_row column w) (props_row to w) []
props_notes column to [] e = absurd (true≢false e)
props_notes column to (b ∷ w) e = note_kept bare_head refl no_row_notes

span_of : (o : Option Span) → is_some o ≡ true → (s : Span) × (o ≡ Some s)
span_of None e = absurd (true≢false (sym e))
span_of (Some s) e = (s, refl)

key_heads : (house : Style) {t : List ℕ} {f : ℕ} {k : Node} {m : ℕ} {hs : List PlacedRow} (a : Bool) → KeyOn house t m k hs → EntryNoted t f (standing k).entry → HeadsWith t f a (blank_before_entry (standing k).entry) hs
key_heads house {t} {f} {k} a (key_on {h = h} st l m e column text some) n = heads_with (by (standing k).entry e some n) where
  by : (o : Option Entry) → entry_or 0 o ≡ h.from → is_some o ≡ true → EntryNoted t f o → HeadNote t f h.from a (blank_before_entry o)
  by None e some n = absurd (true≢false (sym some))
  by (Some entry) e some n = entry_head (subst (λ z. NotedSince t f z entry.blank_before) e n)

pub start_unlined : (s e : EventInText) → ((f : ℕ) (p : EventInText) → floor_after_event f p s.event ≡ f) → ((f : ℕ) (p : EventInText) → floor_after_event f p e.event ≡ f) → (es : List EventInText) (o g : ℕ) → floor_at o g (s ∷ (es ++ (e ∷ []))) ≡ floor_at o g es
start_unlined s e k l es o g = collection_floor {s = s} {e = e} o g es (record { keeps = k }) (record { keeps = l })

pub regrouped : (t : List ℕ) (f : ℕ) (xs ys rest : List EventInText) → AllNoted t f ((xs ++ ys) ++ rest) → AllNoted t f (xs ++ (ys ++ rest))
regrouped t f xs ys rest n = subst (λ z. AllNoted t f z) (append_assoc xs ys rest) n

-- two lists of events with their notes
module _ {t : List ℕ} {f : ℕ} where
  pub both_made : {ps qs : List PlacedRow} {xs ys us vs : List Row} {es fs rest : List EventInText} (a : NotesMade t f ps xs ys es (fs ++ rest)) → NotesMade t (last_of f a.ends) qs us vs fs rest
      → NotesMade t f (ps ++ qs) (xs ++ us) (ys ++ vs) (es ++ fs) rest
  both_made {es = es} {fs = fs} {rest = rest} a b = record {
    ends = a.ends ++ b.ends;
    rows = notes_join a.rows b.rows;
    notes = subst (λ z. AllNoted t z rest) (sym (last_join f a.ends b.ends)) b.notes;
    at = λ o g. floor_join o g es fs ∙ (ap (λ z. floor_at o z fs) (a.at o g) ∙ (b.at o (pick o g a.ends) ∙ sym (pick_join o g a.ends b.ends)));
  }

  -- the first of them are those of a flow node
  flow_made : {ps : List PlacedRow} {xs ys : List Row} {fs rest : List EventInText} (es : List EventInText) → AllFlow es → NotesMade t f ps xs ys fs rest → NotesMade t f ps xs ys (es ++ fs) rest
  flow_made {fs = fs} es a b = record {
    ends = b.ends;
    rows = b.rows;
    notes = b.notes;
    at = λ o g. floor_join o g es fs ∙ (ap (λ z. floor_at o z fs) (flow_at o g es a) ∙ b.at o g);
  }

  -- this holds for other rows
  abbrev pub with_rows : {ps qs : List PlacedRow} {xs ys us vs : List Row} {es rest : List EventInText} (a : NotesMade t f ps xs ys es rest) → RowNotes t f qs us vs a.ends → NotesMade t f qs us vs es rest
  with_rows a r = record { ends = a.ends; rows = r; notes = a.notes; at = a.at }

  by_pair : {ps : List PlacedRow} {es rest : List EventInText} (c d : LayoutSetting) (column to : ℕ) (k v l w : Node) (b : Bool) → is_implicit c.style column k ≡ b → is_implicit d.style to l ≡ b
      → NotesMade t f ps (either_pair b c column k v) (either_pair b d to l w) es rest
      → NotesMade t f ps (either_pair (is_implicit c.style column k) c column k v) (either_pair (is_implicit d.style to l) d to l w) es rest
  by_pair {ps} {es} {rest} c d column to k v l w b e g a =
      subst (λ z. NotesMade t f ps (either_pair z c column k v) (either_pair (is_implicit d.style to l) d to l w) es rest) (sym e)
      (subst (λ z. NotesMade t f ps (either_pair b c column k v) (either_pair z d to l w) es rest) (sym g) a)

-- Trees: x was laid out, and y is found.
mutual
  pub node_notes : {t : List ℕ} {c : LayoutSetting} {laid : Margins} {f : ℕ} {x y : Node} {ps : List PlacedRow} (cs : List CommentValue) (margins to : Margins) → margins.entries ≡ laid.entries → to.entries ≡ laid.entries → AlikeBlocks c.style c.comments cs x y → NodeRows t c laid x y ps → Fit c.style x
      → (rest : List EventInText) → AllNoted t f (flat y ++ rest) → NotesMade t f ps (rows c margins x) (rows (setting c.style cs) to y) (flat y) rest
  node_notes cs margins to e g (alike_lines (alike_scalars q) b) (no_rows h) fit rest n = record { ends = []; rows = no_row_notes; notes = n.1; at = λ o z. end_same o z }
  node_notes {t} {c} {f = f} {x = x} cs margins to e g a (line_rows {y = y} {p = p} inline some h i k st l m o w) fit rest n =
      let alike : Alike Anywhere x y = blocks_alike a in
      let within : is_inline x ≡ true = same_inline alike ∙ inline in
      let flow : AllFlow (flat y) = alike_flow alike (inline_flow c.style fit within) in
      let base : RowNotes t f (p ∷ []) (one_line_row margins.column x (written c.style x)) (one_line_row to.column y (written c.style y)) [] =
      line_notes margins.column to.column x y (written c.style x) (written c.style y) (λ z. some (sym (same_written c.style alike) ∙ z)) some in
      record {
        ends = [];
        rows = subst (λ z. RowNotes t f (p ∷ []) z (rows (setting c.style cs) to y) []) (sym (inline_rows c margins x within))
            (subst (λ z. RowNotes t f (p ∷ []) (one_line_row margins.column x (written c.style x)) z []) (sym (inline_rows (setting c.style cs) to y inline)) base);
        notes = flow_passed t f (flat y) rest flow n;
        at = λ o z. flow_at o z (flat y) flow;
      }
  node_notes {t} {c} {f = f} cs margins to e g (alike_lines (alike_scalars {at = at} {bt = bt} {props = props} {style = style} {text = text} {lines = lines} q) b) (scalar_rows {p = p} block inside items leaves key) fit rest n =
      let fits = scalar_fits c.style block fit in
      let s = span_of bt.span (sym q ∙ fits.0) in
      let x : Node = scalar at props style text lines in
      let y : Node = scalar bt props style text lines in
      let event : EventInText = placed bt (scalar_node props style text) lines in
      let moved : (z : ℕ) → floor_after_event z event (scalar_node props style text) ≡ s.0.end = λ z. block_moved z event props text style block ∙ ap (λ o. end_or z o) s.1 in
      let last : LastEnd p.leaves s.0.end = subst (λ z. LastEnd z s.0.end) (sym (leaves ∙ ap spans_of_leaf s.1)) last_end in
      let some = body_some to.lines (final_feeds text - 1) (content_lines style text lines) fits.1.last in
      let base : RowNotes t f (p ∷ []) (block_scalar c.style margins x props style text lines) (block_scalar c.style to y props style text lines) (s.0.end ∷ []) = note_moved bare_head some last no_row_notes in
      record {
        ends = s.0.end ∷ [];
        rows = subst (λ z. RowNotes t f (p ∷ []) z (rows (setting c.style cs) to y) (s.0.end ∷ [])) (sym (scalar_rows_are c margins at props text lines style block))
            (subst (λ z. RowNotes t f (p ∷ []) (block_scalar c.style margins x props style text lines) z (s.0.end ∷ [])) (sym (scalar_rows_are (setting c.style cs) to bt props text lines style block)) base);
        notes = subst (λ z. AllNoted t z rest) (moved f) n.1;
        at = λ o z. ap (λ w. end_before o z w) (moved z);
      }
  node_notes {t} {c} {f = f} cs margins to e g a (sequence_rows {at = at} {bt = bt} {props = props} {xs = xs} {ys = ys} {ps = ps} block none r) fit rest n =
      let last : List EventInText = unplaced sequence_ends ∷ [] in
      let inner = items_notes cs margins.entries to.entries e g (sequence_blocks a block) r (items_fit c.style fit) (last ++ rest) (regrouped t f (flat_items ys) last rest n.1) in
      record {
        ends = inner.ends;
        rows = subst (λ z. RowNotes t f ps (z ++ rows_of_items c margins.entries xs) (rows (setting c.style cs) to (sequence bt false props ys)) inner.ends) (sym (no_props_marks margins.column (props_text props) none))
            (subst (λ z. RowNotes t f ps (rows_of_items c margins.entries xs) (z ++ rows_of_items (setting c.style cs) to.entries ys) inner.ends) (sym (no_props_marks to.column (props_text props) none)) inner.rows);
        notes = inner.notes.1;
        at = λ o z. start_unlined (placed bt (sequence_starts false props) []) (unplaced sequence_ends) (λ v p. refl) (λ v p. refl) (flat_items ys) o z ∙ inner.at o z;
      }
  node_notes {t} {c} {f = f} cs margins to e g a (sequence_after {at = at} {bt = bt} {props = props} {xs = xs} {ys = ys} {ps = ps} block some h i k r) fit rest n =
      let last : List EventInText = unplaced sequence_ends ∷ [] in
      let inner = items_notes cs margins.entries to.entries e g (sequence_blocks a block) r (items_fit c.style fit) (last ++ rest) (regrouped t f (flat_items ys) last rest n.1) in
      record {
        ends = inner.ends;
        rows = notes_join (props_notes margins.column to.column (props_text props) some) inner.rows;
        notes = inner.notes.1;
        at = λ o z. start_unlined (placed bt (sequence_starts false props) []) (unplaced sequence_ends) (λ v p. refl) (λ v p. refl) (flat_items ys) o z ∙ inner.at o z;
      }
  node_notes {t} {c} {f = f} cs margins to e g a (mapping_rows {at = at} {bt = bt} {props = props} {xs = xs} {ys = ys} {ps = ps} block none r) fit rest n =
      let last : List EventInText = unplaced mapping_ends ∷ [] in
      let inner = pairs_notes cs margins.entries to.entries e g (mapping_blocks a block) r (pairs_fit c.style fit) (last ++ rest) (regrouped t f (flat_pairs ys) last rest n.1) in
      record {
        ends = inner.ends;
        rows = subst (λ z. RowNotes t f ps (z ++ rows_of_pairs c margins.entries xs) (rows (setting c.style cs) to (mapping bt false props ys)) inner.ends) (sym (no_props_marks margins.column (props_text props) none))
            (subst (λ z. RowNotes t f ps (rows_of_pairs c margins.entries xs) (z ++ rows_of_pairs (setting c.style cs) to.entries ys) inner.ends) (sym (no_props_marks to.column (props_text props) none)) inner.rows);
        notes = inner.notes.1;
        at = λ o z. start_unlined (placed bt (mapping_starts false props) []) (unplaced mapping_ends) (λ v p. refl) (λ v p. refl) (flat_pairs ys) o z ∙ inner.at o z;
      }
  node_notes {t} {c} {f = f} cs margins to e g a (mapping_after {at = at} {bt = bt} {props = props} {xs = xs} {ys = ys} {ps = ps} block some h i k r) fit rest n =
      let last : List EventInText = unplaced mapping_ends ∷ [] in
      let inner = pairs_notes cs margins.entries to.entries e g (mapping_blocks a block) r (pairs_fit c.style fit) (last ++ rest) (regrouped t f (flat_pairs ys) last rest n.1) in
      record {
        ends = inner.ends;
        rows = notes_join (props_notes margins.column to.column (props_text props) some) inner.rows;
        notes = inner.notes.1;
        at = λ o z. start_unlined (placed bt (mapping_starts false props) []) (unplaced mapping_ends) (λ v p. refl) (λ v p. refl) (flat_pairs ys) o z ∙ inner.at o z;
      }

  items_notes : {t : List ℕ} {c : LayoutSetting} {m f : ℕ} {xs ys : Items} {ps : List PlacedRow} (cs : List CommentValue) (column to : ℕ) → column ≡ m → to ≡ m → AlikeBlockItems c.style c.comments cs xs ys → ItemsRows t c m xs ys ps → FitItems c.style xs
      → (rest : List EventInText) → AllNoted t f (flat_items ys ++ rest) → NotesMade t f ps (rows_of_items c column xs) (rows_of_items (setting c.style cs) to ys) (flat_items ys) rest
  items_notes cs column to e g no_block_items no_item_rows fit rest n = record { ends = []; rows = no_row_notes; notes = n; at = λ o z. refl }
  items_notes {t} {c} {f = f} cs column to e g (block_item a b) (item_rows {x = x} {y = y} {ys = ys} r s more) (fit_item fit fits) rest n =
      let here : AllNoted t f (flat y ++ (flat_items ys ++ rest)) = regrouped t f (flat y) (flat_items ys) rest n in
      let one = node_notes cs (inner_margins c.style column) (inner_margins c.style to) (ap (λ z. z + c.style.indent) e) (ap (λ z. z + c.style.indent) g) a r fit (flat_items ys ++ rest) here in
      let signed = sign_notes (entry_row column (codes "-") x) (entry_row to (codes "-") y) (c.style.indent - 1) s
      (λ q h. entry_head_of (standing y).entry (blank_before_entry (standing x).entry) (entry_noted t f y (flat_items ys ++ rest) here) h) refl one.rows in
      both_made (with_rows one signed) (items_notes cs column to e g b more fits rest one.notes)

  pair_notes : {t : List ℕ} {c : LayoutSetting} {m f : ℕ} {k v l w : Node} {ps : List PlacedRow} (cs : List CommentValue) (column to : ℕ) → column ≡ m → to ≡ m → AlikeBlocks c.style c.comments cs k l → AlikeBlocks c.style c.comments cs v w
      → KeysAgree c.style c.comments cs k v l w → PairRows t c m k v l w ps → Fit c.style k → Fit c.style v → (rest : List EventInText) → AllNoted t f (flat l ++ (flat w ++ rest))
      → NotesMade t f ps (either_pair (is_implicit c.style column k) c column k v) (either_pair (is_implicit c.style to l) (setting c.style cs) to l w) (flat l ++ flat w) rest
  pair_notes {t} {c} {m} {f} {k} {v} {l} {w} cs column to e g a b agree (explicit_rows n r s d j) fit fits rest noted =
      let here : is_implicit c.style to l ≡ false = ap (λ z. is_implicit c.style z l) g ∙ n in
      let there : is_implicit c.style column k ≡ false = ap (λ z. is_implicit c.style z k) e ∙ (same_implicit c.style m (blocks_alike a) ∙ n) in
      let key = node_notes cs (key_margins c.style column k) (key_margins c.style to l) (ap (λ z. z + c.style.indent) e) (ap (λ z. z + c.style.indent) g) a r fit (flat w ++ rest) noted in
      let signed = sign_notes (entry_row column (codes "?") k) (entry_row to (codes "?") l) (c.style.indent - 1) s
      (λ q h. entry_head_of (standing l).entry (blank_before_entry (standing k).entry) (entry_noted t f l (flat w ++ rest) noted) h) refl key.rows in
      let value = node_notes cs (inner_margins c.style column) (inner_margins c.style to) (ap (λ z. z + c.style.indent) e) (ap (λ z. z + c.style.indent) g) b d fits rest key.notes in
      let follows = sign_notes (colon_row column k) (colon_row to l) (c.style.indent - 1) j (λ q h. bare_head) refl value.rows in
      by_pair c (setting c.style cs) column to k v l w false there here (both_made (with_rows key signed) (with_rows value follows))
  pair_notes {t} {c} {m} {f} {k} {v} {l} {w} {ps} cs column to e g a b agree (implicit_rows flag q n on d j) fit fits rest noted =
      let here : is_implicit c.style to l ≡ true = ap (λ z. is_implicit c.style z l) g ∙ n in
      let there : is_implicit c.style column k ≡ true = ap (λ z. is_implicit c.style z k) e ∙ (same_implicit c.style m (blocks_alike a) ∙ n) in
      let flow : AllFlow (flat l) = alike_flow (blocks_alike a) (key_flow c column fit there) in
      let told : is_some (key_comment cs l w) ≡ flag = sym (agree.comment column there) ∙ sym q in
      let second : value_entries c.style to w ≡ value_entries c.style m v =
      ap (λ z. value_entries c.style z w) g ∙ ap (λ z. if z && not c.style.seq_indent then m else m + c.style.indent) (sym (same_sequence (blocks_alike b))) in
      let value = node_notes cs (value_of_implicit c column k v) (value_of_implicit (setting c.style cs) to l w) (ap (λ z. value_entries c.style z v) e) second b d fits rest (flow_passed t f (flat l) (flat w ++ rest) flow noted) in
      let keyed = key_notes (key_row c.style column k) (key_row c.style to l) (key_comment c.comments k v) (key_comment cs l w) (begins_below v) (begins_below w) (sym q) told (same_below (blocks_alike b)) refl j
      (key_heads c.style (blank_before_entry (standing k).entry) on (entry_noted t f l (flat w ++ rest) noted)) refl value.rows in
      by_pair c (setting c.style cs) column to k v l w true there here (flow_made (flat l) flow (with_rows value keyed))

  pairs_notes : {t : List ℕ} {c : LayoutSetting} {m f : ℕ} {xs ys : Pairs} {ps : List PlacedRow} (cs : List CommentValue) (column to : ℕ) → column ≡ m → to ≡ m → AlikeBlockPairs c.style c.comments cs xs ys → PairsRows t c m xs ys ps → FitPairs c.style xs
      → (rest : List EventInText) → AllNoted t f (flat_pairs ys ++ rest) → NotesMade t f ps (rows_of_pairs c column xs) (rows_of_pairs (setting c.style cs) to ys) (flat_pairs ys) rest
  pairs_notes cs column to e g no_block_pairs no_pair_rows fit rest n = record { ends = []; rows = no_row_notes; notes = n; at = λ o z. refl }
  pairs_notes {t} {c} {f = f} cs column to e g (block_pair a b agree more) (pair_rows {l = l} {w = w} {ys = ys} {hs = hs} {rs = rs} r others) (fit_pair fit fits all) rest n =
      let here : AllNoted t f (flat l ++ (flat w ++ (flat_pairs ys ++ rest))) =
      subst (λ z. AllNoted t f (flat l ++ z)) (append_assoc (flat w) (flat_pairs ys) rest) (regrouped t f (flat l) (flat w ++ flat_pairs ys) rest n) in
      let one = pair_notes cs column to e g a b agree r fit fits (flat_pairs ys ++ rest) here in
      let both = both_made one (pairs_notes cs column to e g more others all rest one.notes) in
      record {
        ends = both.ends;
        rows = both.rows;
        notes = both.notes;
        at = λ o z. ap (λ y. floor_at o z y) (sym (append_assoc (flat l) (flat w) (flat_pairs ys))) ∙ both.at o z;
      }
