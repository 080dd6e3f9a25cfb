-- Whether a blank line is noted before each entry that begins a row of a laid-out text; and the ends of the block
-- scalars on the rows, after which blank lines count.
use Rattle.std.proofs.Common.{◌≡◌, ℕ, Bool, true, false, true≢false, List, [], ◌∷◌, ◌++◌, Option, Some, None, refl, sym, ap, ◌∙◌, subst}
use Rattle.std.specs.Prelude.{is_some}
use Rattle.yf_comments.specs.Comment.{CommentValue}
use Rattle.yf_props.specs.Props.{PropsValue}
use Rattle.yf_events.specs.Event.{EventValue, EventInText, stream_starts, stream_ends, document_starts, document_ends, sequence_starts, sequence_ends, mapping_starts, mapping_ends, scalar_node, alias_node}
use Rattle.yf_events.specs.Tree.{Node, scalar, alias, sequence, mapping, flat, standing, starts_of_entry}
use Rattle.yf_events.specs.declared.event.Entry.{Entry}
use Rattle.yf_events.specs.declared.event.ScalarStyle.{ScalarStyle}
use Rattle.yf_events.specs.declared.event.ScalarStyle.TheVariants.{Plain, Single, Double, Literal, Folded}
use Rattle.yf_events.specs.declared.event.Span.{Span}
use Rattle.yf_grammar.specs.Productions.ReadParts.{Noting, NotedSince, end_or, floor_after_event, no_event, with_entry, without_entry}
use Rattle.yf_stream.specs.ReadingOf.{end_before, floor_at}
use Rattle.yf_stream.proofs.BlankNotes.FloorWalk.{end_same}
use Rattle.yf_laws.specs.Layouts.ReadableTrees.{is_block_style}
use Rattle.yf_print.specs.Layouts.Rows.{Row, after_key, blank_before_entry, joined}
use Rattle.yf_laws.proofs.Columns.FlowEvents.{AllFlow, IsFlowEvent}
use Rattle.yf_laws.proofs.RowNodes.FoundNodes.{IsHead, KeyRows, key_commented, key_above, key_alone, key_joined, SignRows, sign_alone, sign_joined}
use Rattle.yf_laws.proofs.ReadAgain.GapNotes.{HeadNote, entry_head}
use Rattle.yf_laws.proofs.RowNodes.PlacedRows.{LastEnd, last_end_after, PlacedRow}

-- the last of some ends, and the last that isn't after an offset
abbrev pub last_of : ℕ → List ℕ → ℕ
last_of f [] = f
last_of f (g ∷ gs) = last_of g gs

abbrev pub pick : ℕ → ℕ → List ℕ → ℕ
pick o f [] = f
pick o f (g ∷ gs) = pick o (end_before o f g) gs

pub last_join : (f : ℕ) (gs hs : List ℕ) → last_of f (gs ++ hs) ≡ last_of (last_of f gs) hs
last_join f [] hs = refl
last_join f (g ∷ gs) hs = last_join g gs hs

pub pick_join : (o f : ℕ) (gs hs : List ℕ) → pick o f (gs ++ hs) ≡ pick o (pick o f gs) hs
pick_join o f [] hs = refl
pick_join o f (g ∷ gs) hs = pick_join o (end_before o f g) gs hs

-- laid-out rows, and the rows found for them with the floor f before them; the last list has the ends of block scalars
-- on them
pub data RowNotes (t : List ℕ) : ℕ → List PlacedRow → List Row → List Row → List ℕ → Type 0 where
  no_row_notes : {f : ℕ} → RowNotes t f [] [] [] []
  note_kept : {f : ℕ} {p : PlacedRow} {ps : List PlacedRow} {x y : Row} {xs ys : List Row} {gs : List ℕ} → HeadNote t f p.from x.blank_before y.blank_before → y.body ≡ [] → RowNotes t f ps xs ys gs
      → RowNotes t f (p ∷ ps) (x ∷ xs) (y ∷ ys) gs
  note_moved : {f g : ℕ} {p : PlacedRow} {ps : List PlacedRow} {x y : Row} {xs ys : List Row} {gs : List ℕ} → HeadNote t f p.from x.blank_before y.blank_before → (y.body ≡ [] → ⊥) → LastEnd p.leaves g → RowNotes t g ps xs ys gs
      → RowNotes t f (p ∷ ps) (x ∷ xs) (y ∷ ys) (g ∷ gs)

pub notes_join : {t : List ℕ} {f : ℕ} {ps qs : List PlacedRow} {xs ys us vs : List Row} {gs hs : List ℕ} → RowNotes t f ps xs ys gs → RowNotes t (last_of f gs) qs us vs hs → RowNotes t f (ps ++ qs) (xs ++ us) (ys ++ vs) (gs ++ hs)
notes_join no_row_notes b = b
notes_join (note_kept h e a) b = note_kept h e (notes_join a b)
notes_join (note_moved h n l a) b = note_moved h n l (notes_join a b)

-- After signs and keys.

pub sign_notes : {t : List ℕ} {f : ℕ} {items : List ℕ} {ps hs : List PlacedRow} {xs ys : List Row} {gs : List ℕ} (u v : Row) (n : ℕ) → SignRows t items ps hs → ((q : ℕ) → IsHead items q → HeadNote t f q u.blank_before v.blank_before)
    → v.body ≡ [] → RowNotes t f ps xs ys gs → RowNotes t f hs (joined u n xs) (joined v n ys) gs
sign_notes u v n (sign_alone {h = h} a b c w) head e no_row_notes = note_kept (head h.from w) e no_row_notes
sign_notes u v n (sign_joined {h = h} a b c l k o w) head e (note_kept z f more) = note_kept (head h.from w) f more
sign_notes u v n (sign_joined {h = h} a b c l k o w) head e (note_moved {g = g} z m last more) = note_moved (head h.from w) m (subst (λ z. LastEnd z g) (sym b) last) more

-- the first row begins with a note
pub data HeadsWith (t : List ℕ) (f : ℕ) (a b : Bool) : List PlacedRow → Type 0 where
  heads_with : {h : PlacedRow} {hs : List PlacedRow} → HeadNote t f h.from a b → HeadsWith t f a b (h ∷ hs)

pub key_notes : {t : List ℕ} {f : ℕ} {items : List ℕ} {ls : List Span} {flag below : Bool} {ps hs : List PlacedRow} {xs ys : List Row} {gs : List ℕ} (u v : Row) (o p : Option CommentValue) (a b : Bool) → is_some o ≡ flag → is_some p ≡ flag
    → a ≡ below → b ≡ below → KeyRows t items ls flag below ps hs → HeadsWith t f u.blank_before v.blank_before hs → v.body ≡ [] → RowNotes t f ps xs ys gs → RowNotes t f hs (after_key u o a xs) (after_key v p b ys) gs
key_notes u v (Some c) (Some d) a b e f g h (key_commented k l m) (heads_with w) n more = note_kept w n more
key_notes u v None p a b e f g h (key_commented k l m) w n more = absurd (true≢false (sym e))
key_notes u v (Some c) None a b e f g h (key_commented k l m) w n more = absurd (true≢false (sym f))
key_notes u v None None true true e f g h (key_above k l m) (heads_with w) n more = note_kept w n more
key_notes u v (Some c) p a b e f g h (key_above k l m) w n more = absurd (true≢false e)
key_notes u v None (Some d) a b e f g h (key_above k l m) w n more = absurd (true≢false f)
key_notes u v None None false b e f g h (key_above k l m) w n more = absurd (true≢false (sym g))
key_notes u v None None true false e f g h (key_above k l m) w n more = absurd (true≢false (sym h))
key_notes u v None None false false e f g h (key_alone k l m) (heads_with w) n no_row_notes = note_kept w n no_row_notes
key_notes u v (Some c) p a b e f g h (key_alone k l m) w n more = absurd (true≢false e)
key_notes u v None (Some d) a b e f g h (key_alone k l m) w n more = absurd (true≢false f)
key_notes u v None None true b e f g h (key_alone k l m) w n more = absurd (true≢false g)
key_notes u v None None false true e f g h (key_alone k l m) w n more = absurd (true≢false h)
key_notes u v None None false false e f g h (key_joined k l m i j on) (heads_with w) n (note_kept z body more) = note_kept w body more
key_notes {ls = ls} u v None None false false e f g h (key_joined k l m i j on) (heads_with w) n (note_moved {g = last} z some end more) =
    note_moved w some (subst (λ z. LastEnd z last) (sym l) (last_end_after ls end)) more
key_notes u v (Some c) p a b e f g h (key_joined k l m i j on) w n more = absurd (true≢false e)
key_notes u v None (Some d) a b e f g h (key_joined k l m i j on) w n more = absurd (true≢false f)
key_notes u v None None true b e f g h (key_joined k l m i j on) w n more = absurd (true≢false g)
key_notes u v None None false true e f g h (key_joined k l m i j on) w n more = absurd (true≢false h)

-- Events with their notes.

abbrev pub EntryNoted : List ℕ → ℕ → Option Entry → Type 0
EntryNoted t f None = Unit {0}
EntryNoted t f (Some e) = NotedSince t f e.start e.blank_before

abbrev pub AllNoted : List ℕ → ℕ → List EventInText → Type 0
AllNoted t f [] = Unit {0}
AllNoted t f (e ∷ es) = EntryNoted t f e.entry × AllNoted t (floor_after_event f e e.event) es

no_note : (t : List ℕ) (f : ℕ) (o : Option Entry) → o ≡ None → EntryNoted t f o
no_note t f o e = subst (λ z. EntryNoted t f z) (sym e) tt

pub all_noted : {t : List ℕ} {f : ℕ} {xs ys : List EventInText} → Noting t f xs ys → AllNoted t f ys
all_noted no_event = tt
all_noted {t} {f} (without_entry {e = e} q n) = (no_note t f e.entry q, all_noted n)
all_noted (with_entry entry q s n) = (s, all_noted n)

-- an entry, and its start
pub entry_head_of : {t : List ℕ} {f q : ℕ} (o : Option Entry) (a : Bool) → EntryNoted t f o → IsHead (starts_of_entry o) q → HeadNote t f q a (blank_before_entry o)
entry_head_of None a n h = absurd h
entry_head_of {t} {f} (Some e) a n h = entry_head (subst (λ z. NotedSince t f z e.blank_before) h n)

pub entry_noted : (t : List ℕ) (f : ℕ) (y : Node) (rest : List EventInText) → AllNoted t f (flat y ++ rest) → EntryNoted t f (standing y).entry
entry_noted t f (scalar at props style text lines) rest n = n.0
entry_noted t f (alias at name) rest n = n.0
entry_noted t f (sequence at flow props xs) rest n = n.0
entry_noted t f (mapping at flow props ps) rest n = n.0

-- flow nodes don't move the floor
flow_style : (f : ℕ) (e : EventInText) (props : PropsValue) (text : List ℕ) (style : ScalarStyle) → is_block_style style ≡ false → floor_after_event f e (scalar_node props style text) ≡ f
flow_style f e props text Plain n = refl
flow_style f e props text Single n = refl
flow_style f e props text Double n = refl
flow_style f e props text Literal n = absurd (true≢false n)
flow_style f e props text Folded n = absurd (true≢false n)

flow_kept : (f : ℕ) (e : EventInText) (v : EventValue) → IsFlowEvent v → floor_after_event f e v ≡ f
flow_kept f e stream_starts n = refl
flow_kept f e stream_ends n = refl
flow_kept f e (document_starts b) n = refl
flow_kept f e (document_ends b) n = refl
flow_kept f e (sequence_starts b props) n = refl
flow_kept f e sequence_ends n = refl
flow_kept f e (mapping_starts b props) n = refl
flow_kept f e mapping_ends n = refl
flow_kept f e (scalar_node props style text) n = flow_style f e props text style n
flow_kept f e (alias_node name) n = refl

pub flow_passed : (t : List ℕ) (f : ℕ) (es rest : List EventInText) → AllFlow es → AllNoted t f (es ++ rest) → AllNoted t f rest
flow_passed t f [] rest a n = n
flow_passed t f (e ∷ es) rest a n = flow_passed t f es rest a.1 (subst (λ z. AllNoted t z (es ++ rest)) (flow_kept f e e.event a.0) n.1)

pub flow_at : (o f : ℕ) (es : List EventInText) → AllFlow es → floor_at o f es ≡ f
flow_at o f [] a = refl
flow_at o f (e ∷ es) a = ap (λ z. floor_at o z es) (ap (λ z. end_before o f z) (flow_kept f e e.event a.0) ∙ end_same o f) ∙ flow_at o f es a.1

-- literal and folded scalars move it
pub block_moved : (f : ℕ) (e : EventInText) (props : PropsValue) (text : List ℕ) (style : ScalarStyle) → is_block_style style ≡ true → floor_after_event f e (scalar_node props style text) ≡ end_or f e.span
block_moved f e props text Plain n = absurd (true≢false (sym n))
block_moved f e props text Single n = absurd (true≢false (sym n))
block_moved f e props text Double n = absurd (true≢false (sym n))
block_moved f e props text Literal n = refl
block_moved f e props text Folded n = refl
