-- A collection begins on a line: its events, with its first entry awaited; or the limit allows no further one.
use Rattle.std.proofs.Common.{◌≡◌, ◌≢◌, ℕ, suc, ◌+◌, ◌-◌, ◌<◌, ◌≤◌, Bool, true, false, List, [], ◌∷◌, ◌++◌, length, Option, Some, None, refl, sym, ap, ◌∙◌, subst, arith, append-nil, true≢false, ◌⊎◌, inl, inr, ⊎_elim}
use Rattle.yf_chars.specs.Text.{code}
use Rattle.yf_chars.proofs.TextLemmas.{within_from_code}
use Rattle.yf_comments.specs.Comment.{CommentValue}
use Rattle.yf_props.specs.Props.{PropsValue, props_value}
use Rattle.yf_events.specs.Event.{EventInText}
use Rattle.yf_events.specs.declared.event.Entry as TheEntry
use Rattle.yf_events.specs.declared.part.Part.{Part}
use Rattle.yf_grammar.specs.Productions.Meaning.{◌⊕◌, noting, start_of, event_with}
use Rattle.yf_grammar.specs.Productions.ReadParts.{Noting, floor_after_event}
use Rattle.yf_grammar.specs.Productions.ReadParts.Noting.{no_event, without_entry, with_entry}
use Rattle.yf_grammar.specs.FlowReader.Parser.{ParsedNode, only}
use Rattle.yf_grammar.specs.BlockReader.BlockParser.{DashAt, SignAt, Ahead, Nothing, Indicator, Columns, First, MappingAt, by_question, by_colon, BlockTask, Inline, Whole}
use Rattle.yf_grammar.specs.BlockReader.BlockParser.Whole.{sequence_too_deep, mapping_too_deep}
use Rattle.yf_grammar.specs.BlockReader.Halts.{Halts}
use Rattle.yf_grammar.specs.BlockReader.Halts.Halts.{halts_sequence_too_deep, halts_mapping_too_deep}
use Rattle.yf_grammar.specs.BlockReader.BlockSteps.{made_or}
use Rattle.yf_grammar.specs.BlockReader.BlockStack.{Layer, asked}
use Rattle.yf_grammar.specs.BlockReader.BlockStates.{NodeAt, EntryAt, AllWithin, NodeIsBroken, new_layer}
use Rattle.yf_grammar.proofs.BlockStack.BlockNodeSteps.{node_breaks, sequence_begins, mapping_begins}
use Rattle.yf_grammar.proofs.BlockStack.BlockStackSteps.{room_left}
use Rattle.yf_flow.specs.NodeStarts.{lead_event}
use Rattle.yf_flow.specs.declared.node.Lead.{Lead}
use Rattle.yf_block.specs.declared.frame.Frame.{Frame}
use Rattle.yf_block.specs.declared.frame.CollectionKind.{CollectionKind}
use Rattle.yf_block.specs.declared.frame.CollectionKind.TheVariants.{Sequence, Mapping}
use Rattle.yf_block.specs.declared.frame.BlockCursor.{BlockCursor}
use Rattle.yf_block.specs.declared.properties.PlacedProperties.{PlacedProperties}
use Rattle.yf_block.specs.PropertiesAnswers.{held_lead, lead_at}
use Rattle.yf_block.specs.BlockTied.{kind_of, layers_entry, ahead_comments, ahead_props, ahead_start, ahead_tag, entry_at, begun_event, all_written, entries_written, ReadTied, FramesTied, no_frames, frame_tied, EntryTied, no_entry, entry_begins}
use Rattle.yf_block.specs.BlockStepTied.{AheadTied, nothing_held, none_held, props_held, AtEntry, AtFailed}
use Rattle.yf_block.specs.InlineTied.{AtStart, EntrySignAt, is_sequence, started}
use Rattle.yf_block.proofs.Stack.TiedFailed.{broken_fails}
use Rattle.yf_block.proofs.Stack.TiedReads.{count_read, read_events}

pub frames_count : {m : ℕ} {fs : List Frame} {ls : List Layer} → FramesTied m fs ls → length fs ≡ length ls
frames_count no_frames = refl
frames_count (frame_tied u r) = ap suc (frames_count r)

-- the awaited node is not found, and it has no last halt of its own
pub node_missing : {t : List ℕ} {d : ℕ} {root : BlockTask} {ls : List Layer} {e : ℕ} {ds : List CommentValue} {task : BlockTask} {h : Option ParsedNode} → NodeAt t d root ls e ds task h
    → Whole t e task None → Halts t e (asked ls) task None → NodeIsBroken t d root h
unfolding made_or
node_missing s w u = node_breaks s w u

-- the event that begins the collection
kind_back : (s : Bool) → is_sequence (kind_of s) ≡ s
kind_back true = refl
kind_back false = refl

abbrev begun_as_event : Ahead → Bool → ℕ → Option TheEntry.Entry → EventInText
begun_as_event a s at entry =
    record { event = event_with (ahead_props a) (start_of s false); span = Some (record { start = ahead_start a at; end = at }); tag_offset = ahead_tag a; entry = entry; folded = [] }

abbrev lead_start : Lead → CollectionKind → ℕ → EventInText
lead_start lead kind at = lead_event lead (event_with (props_value lead.props) (start_of (is_sequence kind) false)) at

begun_as : {a : Ahead} {outer : Option PlacedProperties} (s : Bool) (at : ℕ) (entry : Option TheEntry.Entry) → AheadTied a outer → lead_start (lead_at at outer entry) (kind_of s) at ≡ begun_as_event a s at entry
begun_as s at entry nothing_held = ap (λ b. begun_as_event Nothing b at entry) (kind_back s)
begun_as s at entry (none_held {i = i}) = ap (λ b. begun_as_event (Indicator i) b at entry) (kind_back s)
begun_as s at entry (props_held {h = h} {held = held} t) =
    ap (λ b. lead_event (held_lead held entry) (event_with (props_value held.props) (start_of b false)) at) (kind_back s)
    ∙ ap (λ v. lead_event (held_lead held entry) (event_with v (start_of s false)) at) t.props
    ∙ ap (λ (v : ℕ). record { event = event_with h.value.props (start_of s false); span = Some (record { start = v; end = at }); tag_offset = held.tag_offset; entry = entry; folded = [] }) t.start
    ∙ ap (λ v. record { event = event_with h.value.props (start_of s false); span = Some (record { start = h.start; end = at }); tag_offset = v; entry = entry; folded = [] }) t.tag

pub begun_floor : (floor : ℕ) (s : Bool) (props : PropsValue) (e : EventInText) → floor_after_event floor e (event_with props (start_of s false)) ≡ floor
begun_floor floor true props e = refl
begun_floor floor false props e = refl

begun_noting : {t : List ℕ} {floor : ℕ} {o : Option ℕ} {entry : Option TheEntry.Entry} (l : Layer) → EntryTied t floor o entry
    → Noting t floor (begun_event l (entry_at o) ∷ []) (record (begun_event l None) { entry = entry } ∷ [])
begun_noting l no_entry = without_entry refl no_event
begun_noting l (entry_begins {i = i} n) = with_entry (record { start = i; colon = None; blank_before = false }) refl n no_event

pub sign_no_dash : {t : List ℕ} {p c : ℕ} → DashAt t p → code t p ≡ c → (c ≡ 45 → ⊥) → ⊥
sign_no_dash y s n = n (sym s ∙ y.dash)

module _ {t : List ℕ} {d : ℕ} {root : BlockTask} {before old : Part} {frames : List Frame} {cols : Columns} {p : ℕ} {progress : BlockCursor}
    (a : AtStart t d root before frames cols p progress old) where
  written_events : (w : List EventInText) (e : EventInText) → (w ++ []) ++ e ∷ [] ≡ (w ++ e ∷ []) ++ []
  written_events w e = ap (λ z. z ++ e ∷ []) (append-nil w) ∙ sym (append-nil (w ++ e ∷ []))

  -- the events written then
  pub opened_read : (s : Bool) (m : ℕ) {new : Part} → new.events ≡ old.events ++ started (kind_of s) p progress.wanted ∷ [] → new.comments ≡ old.comments → new.escapes ≡ old.escapes
      → ReadTied t before (entries_written (new_layer s m a.ahead a.comments p) a.layers) progress new
  unfolding ◌⊕◌ noting only
  opened_read s m x y z =
      let l = new_layer s m a.ahead a.comments p in
      let e = begun_event l (entry_at (layers_entry a.layers)) in
      let w = all_written a.layers in
      read_events a.read (e ∷ []) (record (begun_event l None) { entry = progress.wanted.entry } ∷ []) (begun_noting l a.wanted.entry) (begun_floor progress.floor s _ e)
      (x ∙ ap (λ v. old.events ++ v ∷ []) (begun_as s p progress.wanted.entry a.wanted.outer)) y z {y = entries_written l a.layers}
      (written_events w.events e) (sym (append-nil ((w.comments ++ (a.comments ++ ahead_comments a.ahead)) ++ []) ∙ append-nil (w.comments ++ (a.comments ++ ahead_comments a.ahead))))
      (sym (append-nil (w.escapes ++ [])))

  pub opened_count : length old.events ≡ length before.events + length (all_written a.layers).events
  unfolding ◌⊕◌ only
  opened_count = count_read a.read ∙ ap (λ z. length before.events + length z) (append-nil (all_written a.layers).events)

  opened_entry : {e : ℕ} (s : Bool) (m : ℕ) {new : Part} {frame : Frame} → EntryAt t d root (new_layer s m a.ahead a.comments p) a.layers e (First a.indentation) p a.halt → AllWithin m a.layers → m ≤ p → p < length t → code t p ≢ 10
      → (s ≡ false → SignAt t 63 p ⊎ SignAt t 58 p) → frame.kind ≡ kind_of s → frame.column ≡ m → frame.event ≡ length old.events
      → new.events ≡ old.events ++ started (kind_of s) p progress.wanted ∷ [] → new.comments ≡ old.comments → new.escapes ≡ old.escapes → AtEntry t d root before frames frame p progress new
  opened_entry {e} s m n w i u b g k c v x y z = record {
    layer = new_layer s m a.ahead a.comments p;
    layers = a.layers;
    room = e;
    origin = First a.indentation;
    halt = a.halt;
    entry = n;
    order = w;
    shallow = i;
    there = u;
    outside = record { apart = λ q. absurd (b q) };
    past = a.past;
    signed = λ j q f. g f;
    collection = record { kind = k; column = c; event = v ∙ opened_count };
    stack = a.stack;
    read = opened_read s m x y z;
  }

  sign_there : SignAt t 63 p ⊎ SignAt t 58 p → p < length t
  sign_there g = ⊎_elim
      (λ (s : SignAt t 63 p). let w = s.sign_is_at in within_from_code t p (omega (arith, w)))
      (λ (s : SignAt t 58 p). let w = s.sign_is_at in within_from_code t p (omega (arith, w))) g

  sign_no_feed : SignAt t 63 p ⊎ SignAt t 58 p → code t p ≡ 10 → ⊥
  sign_no_feed g q = ⊎_elim (λ (s : SignAt t 63 p). let w = s.sign_is_at in omega (arith, w, q)) (λ (s : SignAt t 58 p). let w = s.sign_is_at in omega (arith, w, q)) g

  -- the number of collections that may be opened
  pub room_there : length frames + a.room ≡ d
  room_there = let n = frames_count a.stack.frames_tied in let r = room_left a.node.around in omega (arith, n, r)

  opened_node : length frames < d → NodeAt t d root a.layers (suc (a.room - 1)) a.comments (Inline a.indentation a.context cols a.ahead p) a.halt
  opened_node l =
      let r = room_there in
      let e : a.room ≡ suc (a.room - 1) = omega (arith, r, l) in
      subst (λ (z : ℕ). NodeAt t d root a.layers z a.comments (Inline a.indentation a.context cols a.ahead p) a.halt) e a.node

  full_node : d ≤ length frames → NodeAt t d root a.layers 0 a.comments (Inline a.indentation a.context cols a.ahead p) a.halt
  full_node l =
      let r = room_there in
      let e : a.room ≡ 0 = omega (arith, r, l) in
      subst (λ (z : ℕ). NodeAt t d root a.layers z a.comments (Inline a.indentation a.context cols a.ahead p) a.halt) e a.node

  module _ {m : ℕ} {new : Part} {frame : Frame} where
    pub sequence_opens : cols.sequence ≡ Some m → DashAt t p → length frames < d → frame.kind ≡ Sequence → frame.column ≡ m → frame.event ≡ length old.events
        → new.events ≡ old.events ++ started Sequence p progress.wanted ∷ [] → new.comments ≡ old.comments → new.escapes ≡ old.escapes → AtEntry t d root before frames frame p progress new
    sequence_opens q y l k c v x1 x2 x3 =
        opened_entry true m (sequence_begins (opened_node l) q y) (a.sequence.within m q) (a.sequence.shallow m q) (let w = y.dash in within_from_code t p (omega (arith, w))) (λ q. let w = y.dash in omega (arith, w, q)) (λ f. absurd (true≢false f)) k c v x1 x2 x3

    mapping_opens : cols.mapping ≡ Some m → (DashAt t p → ⊥) → (SignAt t 63 p ⊎ SignAt t 58 p) → ((e : ℕ) → MappingAt t e a.indentation p) → length frames < d → frame.kind ≡ Mapping → frame.column ≡ m
        → frame.event ≡ length old.events → new.events ≡ old.events ++ started Mapping p progress.wanted ∷ [] → new.comments ≡ old.comments → new.escapes ≡ old.escapes
        → AtEntry t d root before frames frame p progress new
    mapping_opens q y g b l k c v x1 x2 x3 =
        opened_entry false m (mapping_begins (opened_node l) y q (b (suc (a.room - 1)))) (a.mapping.within m q) (a.mapping.shallow m q) (sign_there g) (λ q. sign_no_feed g q) (λ f. g) k c v x1 x2 x3

    question_opens : cols.mapping ≡ Some m → SignAt t 63 p → length frames < d → frame.kind ≡ Mapping → frame.column ≡ m → frame.event ≡ length old.events
        → new.events ≡ old.events ++ started Mapping p progress.wanted ∷ [] → new.comments ≡ old.comments → new.escapes ≡ old.escapes → AtEntry t d root before frames frame p progress new
    question_opens q s = mapping_opens q (λ y. sign_no_dash y s.sign_is_at (λ w. omega (arith, w))) (inl s) (λ e. by_question s)

    colon_opens : cols.mapping ≡ Some m → SignAt t 58 p → length frames < d → frame.kind ≡ Mapping → frame.column ≡ m → frame.event ≡ length old.events
        → new.events ≡ old.events ++ started Mapping p progress.wanted ∷ [] → new.comments ≡ old.comments → new.escapes ≡ old.escapes → AtEntry t d root before frames frame p progress new
    colon_opens q s = mapping_opens q (λ y. sign_no_dash y s.sign_is_at (λ w. omega (arith, w))) (inr s) (λ e. by_colon s)

  pub sequence_full : {m : ℕ} → cols.sequence ≡ Some m → DashAt t p → d ≤ length frames → AtFailed t d root progress
  sequence_full q y l = broken_fails (node_missing (full_node l) (sequence_too_deep q y) (halts_sequence_too_deep q y)) a.stack.halted

  mapping_full : {m : ℕ} → cols.mapping ≡ Some m → (DashAt t p → ⊥) → MappingAt t 0 a.indentation p → d ≤ length frames → AtFailed t d root progress
  mapping_full q y b l = broken_fails (node_missing (full_node l) (mapping_too_deep y q b) (halts_mapping_too_deep y q b)) a.stack.halted

  question_full : {m : ℕ} → cols.mapping ≡ Some m → SignAt t 63 p → d ≤ length frames → AtFailed t d root progress
  question_full q s = mapping_full q (λ y. sign_no_dash y s.sign_is_at (λ w. omega (arith, w))) (by_question s)

  colon_full : {m : ℕ} → cols.mapping ≡ Some m → SignAt t 58 p → d ≤ length frames → AtFailed t d root progress
  colon_full q s = mapping_full q (λ y. sign_no_dash y s.sign_is_at (λ w. omega (arith, w))) (by_colon s)

  -- with either sign
  pub mapping_opened : {m : ℕ} {new : Part} {frame : Frame} → cols.mapping ≡ Some m → EntrySignAt t p → length frames < d → frame.kind ≡ Mapping → frame.column ≡ m → frame.event ≡ length old.events
      → new.events ≡ old.events ++ started Mapping p progress.wanted ∷ [] → new.comments ≡ old.comments → new.escapes ≡ old.escapes → AtEntry t d root before frames frame p progress new
  mapping_opened q g l k c v x y z = ⊎_elim (λ (s : SignAt t 63 p). question_opens q s l k c v x y z) (λ (s : SignAt t 58 p). colon_opens q s l k c v x y z) g

  pub mapping_is_full : {m : ℕ} → cols.mapping ≡ Some m → EntrySignAt t p → d ≤ length frames → AtFailed t d root progress
  mapping_is_full q g l = ⊎_elim (λ (s : SignAt t 63 p). question_full q s l) (λ (s : SignAt t 58 p). colon_full q s l) g
