-- A node awaited after the indicator of an entry: `-`, `?`, a `:` without a key, or the `:` after the key of a `?`.
use Rattle.std.proofs.Common.{◌≡◌, ℕ, suc, ◌+◌, ◌<◌, ◌≤◌, pos, Bool, true, false, List, [], ◌∷◌, ◌++◌, length, Option, Some, None, refl, sym, ap, ◌∙◌, subst, arith, append-nil, true≢false}
use Rattle.std.proofs.lemmas.Int.{ints}
use Rattle.std.specs.Str.{IsUtf8}
use Rattle.yf_chars.specs.declared.context.Ctx.{Ctx}
use Rattle.yf_chars.specs.declared.context.Ctx.TheVariants.{BlockOut, BlockIn}
use Rattle.yf_chars.specs.Text.{code, no_char}
use Rattle.yf_chars.proofs.TextLemmas.{within_from_code}
use Rattle.yf_chars.proofs.Tests.{no_nil}
use Rattle.yf_comments.specs.Comments.{Blank}
use Rattle.yf_chars.specs.Class.{is_ns_char, is_white_or_end}
use Rattle.yf_lines.specs.Basic.{LineStart, Spaces}
use Rattle.yf_props.specs.Props.{no_props}
use Rattle.yf_events.specs.Event.{EventInText, scalar_node}
use Rattle.yf_events.specs.Edit.{edited, coloned}
use Rattle.yf_events.specs.declared.event.Entry as TheEntry
use Rattle.yf_events.specs.declared.event.ScalarStyle.TheVariants.{Plain}
use Rattle.yf_events.specs.declared.part.Part.{Part}
use Rattle.yf_grammar.specs.Productions.Grammar.{ColonLine}
use Rattle.yf_grammar.specs.Productions.Meaning.{Meaning, ◌⊕◌, entering, first_entering, empty_node, plain_event}
use Rattle.yf_grammar.specs.Productions.ReadParts.{Noting, NotedSince}
use Rattle.yf_grammar.specs.Productions.ReadParts.Noting.{no_event, with_entry}
use Rattle.yf_grammar.specs.FlowReader.Parser.{ParsedNode, only}
use Rattle.yf_grammar.specs.BlockReader.BlockParser.{DashAt, SignAt, Nothing, Indicator, BlockTask, Awaited}
use Rattle.yf_grammar.specs.BlockReader.BlockStack.{Layer, Stage, AtItem, AtKey, AtLoneValue, AtValue, asks, asked, column_if}
use Rattle.yf_grammar.specs.BlockReader.BlockStates.{NodeAt, AllWithin, none_within, one_within, one_deepens, at_stage, place_of}
use Rattle.yf_grammar.proofs.Ends.BlankRuns.{after_byte, no_start_past}
use Rattle.yf_grammar.proofs.BlockStack.BlockEntryBegins.{item_begins, key_begins, lone_value_begins, value_follows}
use Rattle.yf_grammar.proofs.BlockStack.BlockStackSteps.{room_left}
use Rattle.yf_grammar.proofs.FlowReader.ParserLemmas.{Same}
use Rattle.yf_flow.specs.NodeStarts.{entry_event}
use Rattle.yf_block.specs.declared.frame.Frame.{Frame}
use Rattle.yf_block.specs.declared.frame.CollectionKind.TheVariants.{Sequence, Mapping}
use Rattle.yf_block.specs.declared.frame.BlockCursor.{BlockCursor}
use Rattle.yf_block.specs.LineFits.{PairLine}
use Rattle.yf_block.specs.BlockTied.{floor_after, stage_entry, begins, stage_written, entries_written, all_written, ReadTied, FrameTied, frame_tied, FramesTied, StackTied, EntryTied, no_entry, entry_begins, wanted_after}
use Rattle.yf_block.specs.BlockStepTied.{none_held, is_out, WantedTied, AtNode, AtEntry, AtTop, BlockTied}
use Rattle.yf_block.specs.declared.frame.Step.{Step}
use Rattle.yf_block.specs.declared.frame.Step.TheVariants.{Node}
use Rattle.yf_block.proofs.Ends.NotingLemmas.{floor_kept, noting_length, noting_coloned, edited_after}
use Rattle.yf_block.proofs.Stack.TiedFits.{is_sequence_of, is_mapping_of}
use Rattle.yf_block.proofs.Stack.TiedReads.{nothing_more, read_as, read_moved, count_read, read_events}
use Rattle.yf_grammar.proofs.BlockOutcomes.BlockStarts.{sign_visible}
use Rattle.yf_grammar.proofs.BlockReader.WholeSound.{same_indicator}

pub node_tied : {t : List ℕ} {d : ℕ} {root : BlockTask} {before part : Part} {frames : List Frame} {p : ℕ} {progress : BlockCursor} (s : Step) → s ≡ Node p → AtNode t d root before frames p progress part
    → BlockTied t d root before frames s progress part
node_tied {t} {d} {root} {before} {part} {frames} {progress = progress} s e n = subst (λ z. BlockTied t d root before frames z progress part) (sym e) n

pub entry_same : (e : TheEntry.Entry) (s : ℕ) (k : Option ℕ) → e.start ≡ s → e.colon ≡ k → e ≡ record { start = s; colon = k; blank_before = e.blank_before }
entry_same e s k a b = ap (λ (z : ℕ). record { start = z; colon = e.colon; blank_before = e.blank_before }) a ∙ ap (λ z. record { start = s; colon = z; blank_before = e.blank_before }) b

-- after an indicator, within a line of the text
pub record AfterSign (t : List ℕ) (p : ℕ) : Type 0 where
  pub inside : LineStart t p → ⊥
  pub within : p ≤ length t

module _ {t : List ℕ} (i : ℕ) (u : IsUtf8 t) where
  after_char : {c : ℕ} → code t i ≡ c → c < 128 → is_ns_char c ≡ true → AfterSign t (i + 1)
  after_char {c} e l n = record {
    inside = λ s. no_start_past u (after_byte i u e l n) s;
    within = let w = within_from_code t i (omega (arith, e, l)) in omega (arith, w);
  }

  pub after_dash : code t i ≡ 45 → AfterSign t (i + 1)
  after_dash e = after_char e (omega arith) sign_visible.0

  pub after_question : code t i ≡ 63 → AfterSign t (i + 1)
  after_question e = after_char e (omega arith) sign_visible.1

  pub after_colon : code t i ≡ 58 → AfterSign t (i + 1)
  after_colon e = after_char e (omega arith) sign_visible.2

-- if no collection is deeper than a column, none is deeper than a deeper column
pub all_within : {m k : ℕ} {ls : List Layer} → AllWithin m ls → m ≤ k → AllWithin k ls
all_within none_within l = none_within
all_within (one_within a r) l = one_within (omega arith) (all_within r l)

no_indicator : {i : ℕ} → Indicator i ≡ Nothing → ⊥
no_indicator e = cc

-- a node is awaited in the innermost collection, which has its frame on the stack
module _ {t : List ℕ} {d : ℕ} {root : BlockTask} {before part : Part} {old new : BlockCursor} {e p : ℕ} {l : Layer} {ls : List Layer} {h : Option ParsedNode} where
  pub node_there : {frames stack : List Frame} {top : Frame} (b : Bool) (c : Ctx) (entry : Option TheEntry.Entry) → NodeAt t d root (l ∷ ls) e [] (Awaited b (pos l.column) c (Indicator p) p) h → AllWithin l.column ls
      → l.column < p → new.floor ≤ p → AfterSign t p → FrameTied (length before.events) l ls top → StackTied (length before.events) ls frames old h → stack ≡ top ∷ frames → new.colons ≡ length (asked (l ∷ ls)) → new.halt ≡ old.halt
      → EntryTied t new.floor (stage_entry l.stage) entry → new.wanted ≡ wanted_after l.column b (is_out c) entry → new.last ≡ p → ReadTied t before (all_written (l ∷ ls)) new part
      → AtNode t d root before stack p new part
  node_there {stack = stack} {top} b c entry n o s g z u k q m x y w i r = record {
    layers = l ∷ ls;
    room = e;
    comments = [];
    indentation = pos l.column;
    context = c;
    ahead = Indicator p;
    halt = h;
    node = subst (λ z. NodeAt t d root (l ∷ ls) e [] (Awaited z (pos l.column) c (Indicator p) p) h) (sym (ap (λ z. z.compact) w)) n;
    wanted = subst (λ z. WantedTied t new.floor (l ∷ ls) (pos l.column) c (Indicator p) z) (sym w)
        (record {
          least = omega (arith, ints);
          out = refl;
          outer = none_held;
          entry = y;
          within = λ v j. let j' : l.column ≤ v = omega (arith, ints, j) in one_within j' (all_within o j');
          nested = λ e. absurd (no_indicator e);
          rooted = λ i e q. no_nil q;
          narrow = let a = z.within in let b = r.text.size in omega (arith, a, b, s);
        });
    shallow = λ v. let least : new.wanted.least ≡ l.column + 1 = ap (λ v. v.least) w in (omega (arith, least), omega (arith, least, s));
    inside = z.inside;
    past = g;
    last = λ j e. i ∙ same_indicator e;
    stack = record {
      order = one_deepens o k.order;
      frames_tied = subst (λ z. FramesTied (length before.events) z (l ∷ ls)) (sym q) (frame_tied u k.frames_tied);
      colons = m;
      halted = x ∙ k.halted;
    };
    read = read_as r (nothing_more (all_written (l ∷ ls)));
  }

-- an entry begins: an item, a key after `?`, or a `:` without a key
module _ {t : List ℕ} {d : ℕ} {root : BlockTask} {before old : Part} {frames : List Frame} {f : Frame} {at : ℕ} {progress : BlockCursor} (a : AtEntry t d root before frames f at progress old) where
  entry_sequence : f.kind ≡ Sequence → a.layer.sequence ≡ true
  entry_sequence k = is_sequence_of a.layer.sequence (sym k ∙ a.collection.kind)

  entry_mapping : f.kind ≡ Mapping → a.layer.sequence ≡ false
  entry_mapping k = is_mapping_of a.layer.sequence (sym k ∙ a.collection.kind)

  wanted_column : {b o : Bool} {e : Option TheEntry.Entry} (new : BlockCursor) → new.wanted ≡ wanted_after f.column b o e → new.wanted ≡ wanted_after a.layer.column b o e
  wanted_column {b} {o} {e} new w = w ∙ ap (λ (z : ℕ). wanted_after z b o e) a.collection.column

  -- the last block scalar ends at the start of a line, if it ends before a character
  pub floor_blank : code t at < no_char → progress.floor < at → Blank t progress.floor
  floor_blank k l = a.read.floor_line (let w = within_from_code t at k in omega (arith, w, l))

  pub item_awaited : {stack : List Frame} {new : BlockCursor} {b : Bool} → DashAt t at → f.kind ≡ Sequence → f.awaits_colon ≡ false → stack ≡ f ∷ frames → NotedSince t progress.floor at b
      → new.wanted ≡ wanted_after f.column true false (Some (record { start = at; colon = None; blank_before = b })) → new.last ≡ at + 1 → new.floor ≡ progress.floor → new.colons ≡ progress.colons → new.halt ≡ progress.halt
      → AtNode t d root before stack (at + 1) new old
  item_awaited {new = new} {b} y k z s n w i o c h =
      node_there true BlockIn (Some (record { start = at; colon = None; blank_before = b })) (item_begins a.entry (entry_sequence k) y) a.order (let l = a.shallow in omega (arith, l)) (let g = a.past in omega (arith, g, o)) (after_dash at a.read.text.utf8 y.dash)
      (record { collection = record { kind = a.collection.kind; column = a.collection.column; event = a.collection.event }; awaits = z; entry = λ q. absurd (true≢false (sym q)) })
      a.stack s (c ∙ a.stack.colons) h (entry_begins (subst (λ v. NotedSince t v at b) (sym o) n)) (wanted_column new w) i
      (read_moved (read_as a.read (nothing_more (entries_written a.layer a.layers))) o)

  pub key_awaited : {stack : List Frame} {new : BlockCursor} {b : Bool} {n : ℕ} → SignAt t 63 at → f.kind ≡ Mapping → n ≡ length old.events → stack ≡ record f { awaits_colon = true; entry_event = n } ∷ frames
      → NotedSince t progress.floor at b → new.wanted ≡ wanted_after f.column true true (Some (record { start = at; colon = None; blank_before = b })) → new.last ≡ at + 1 → new.floor ≡ progress.floor
      → new.colons ≡ progress.colons + 1 → new.halt ≡ progress.halt → AtNode t d root before stack (at + 1) new old
  key_awaited {new = new} {b} {n} y k j s z w i o c h =
      node_there true BlockOut (Some (record { start = at; colon = None; blank_before = b })) (key_begins a.entry (entry_mapping k) y) a.order (let l = a.shallow in omega (arith, l)) (let g = a.past in omega (arith, g, o)) (after_question at a.read.text.utf8 y.sign_is_at)
      (record { collection = record { kind = a.collection.kind; column = a.collection.column; event = a.collection.event }; awaits = refl; entry = λ q. j ∙ count_read a.read })
      a.stack s (let m = a.stack.colons in omega (arith, m, c)) h (entry_begins (subst (λ v. NotedSince t v at b) (sym o) z)) (wanted_column new w) i
      (read_moved (read_as a.read (nothing_more (entries_written a.layer a.layers))) o)

  -- the number of awaited `:`, which leaves room to count one more
  pub colons_below : progress.colons < d
  colons_below = let r = room_left a.entry.around in let m = a.stack.colons in let k = asked_most a.layers in omega (arith, r, m, k) where
    asked_most : (ls : List Layer) → length (asked ls) ≤ length ls
    asked_most [] = omega arith
    asked_most (l ∷ ls) = one_most (asks l.stage) (asked_most ls) where
      one_most : (b : Bool) → length (asked ls) ≤ length ls → length (column_if b l.column (asked ls)) ≤ suc (length ls)
      one_most true m = omega arith
      one_most false m = omega arith

  lone_same : (i : ℕ) (w : Meaning) → Same (record w { events = w.events ++ record (plain_event (scalar_node no_props Plain []) None) { entry = Some (record { start = i; colon = Some i; blank_before = false }) } ∷ [] })
      (w ⊕ entering i (Some i) (empty_node i))
  unfolding ◌⊕◌ entering empty_node
  lone_same i w = record { events = refl; comments = sym (append-nil w.comments); escapes = sym (append-nil w.escapes) }

  lone_noting : {floor : ℕ} (b : Bool) → NotedSince t floor at b
      → Noting t floor (record (plain_event (scalar_node no_props Plain []) None) { entry = Some (record { start = at; colon = Some at; blank_before = false }) } ∷ [])
      (entry_event (scalar_node no_props Plain []) (Some (record { start = at; colon = Some at; blank_before = b })) ∷ [])
  unfolding plain_event
  lone_noting b n = with_entry (record { start = at; colon = Some at; blank_before = false }) refl n no_event

  lone_floor : (floor : ℕ) → floor_after floor (record (plain_event (scalar_node no_props Plain []) None) { entry = Some (record { start = at; colon = Some at; blank_before = false }) } ∷ []) ≡ floor
  unfolding plain_event
  lone_floor floor = refl

  pub lone_awaited : {stack : List Frame} {new : BlockCursor} {part : Part} {b : Bool} → SignAt t 58 at → f.kind ≡ Mapping → stack ≡ record f { awaits_colon = false } ∷ frames → NotedSince t progress.floor at b
      → part.events ≡ old.events ++ entry_event (scalar_node no_props Plain []) (Some (record { start = at; colon = Some at; blank_before = b })) ∷ [] → part.comments ≡ old.comments
      → part.escapes ≡ old.escapes → new.wanted ≡ wanted_after f.column false true None → new.last ≡ at + 1 → new.floor ≡ progress.floor → new.colons ≡ progress.colons → new.halt ≡ progress.halt
      → AtNode t d root before stack (at + 1) new part
  lone_awaited {new = new} {b = b} y k s n x1 x2 x3 w i o c h =
      let r = lone_same at (entries_written a.layer a.layers) in
      node_there false BlockOut None (lone_value_begins a.entry (entry_mapping k) y) a.order (let l = a.shallow in omega (arith, l)) (let g = a.past in omega (arith, g, o)) (after_colon at a.read.text.utf8 y.sign_is_at)
      (record { collection = record { kind = a.collection.kind; column = a.collection.column; event = a.collection.event }; awaits = refl; entry = λ q. absurd (true≢false (sym q)) })
      a.stack s (c ∙ a.stack.colons) h no_entry (wanted_column new w) i
      (read_moved (read_events a.read _ _ (lone_noting b n) (lone_floor progress.floor) x1 x2 x3 r.events r.comments r.escapes) o)

-- no event is at the index
edited_past : (f : EventInText → EventInText) (y : List EventInText) (i : ℕ) → i ≡ length y → edited f i y ≡ y
edited_past f [] i e = refl
edited_past f (a ∷ y) i e =
    let k : i ≡ suc (length y) = e in
    ap (λ (z : ℕ). edited f z (a ∷ y)) k ∙ ap (λ z. a ∷ z) (edited_past f y (length y) refl)

module _ {t : List ℕ} where
  -- an entry with its colon
  colon_noting : {floor : ℕ} {y : List EventInText} (w es : List EventInText) (i k : ℕ) → length y ≡ length (w ++ first_entering (record { start = i; colon = None; blank_before = false }) es)
      → Noting t floor (w ++ first_entering (record { start = i; colon = None; blank_before = false }) es) y
      → Noting t floor (w ++ first_entering (record { start = i; colon = Some k; blank_before = false }) es) (edited (coloned k) (length w) y)
  colon_noting {floor} {y} w [] i k m n = subst (λ z. Noting t floor (w ++ []) z) (sym (edited_past (coloned k) y (length w) (sym (m ∙ ap (λ z. length z) (append-nil w))))) n
  colon_noting w (e ∷ es) i k m n = noting_coloned w (record e { entry = Some (record { start = i; colon = None; blank_before = false }) }) es k n

colon_floor : (floor : ℕ) (w es : List EventInText) (i k : ℕ) → floor_after floor (w ++ first_entering (record { start = i; colon = Some k; blank_before = false }) es)
    ≡ floor_after floor (w ++ first_entering (record { start = i; colon = None; blank_before = false }) es)
colon_floor floor w [] i k = refl
colon_floor floor w (e ∷ es) i k = floor_kept (coloned k) floor w (record e { entry = Some (record { start = i; colon = None; blank_before = false }) }) es (λ z. refl)

is_key : (s : Stage) → asks s ≡ true → s ≡ AtKey (place_of s)
is_key (AtItem i) e = absurd (true≢false (sym e))
is_key (AtKey i) e = refl
is_key (AtLoneValue i) e = absurd (true≢false (sym e))
is_key (AtValue i k f) e = absurd (true≢false (sym e))

module _ {t : List ℕ} {before old part : Part} {progress : BlockCursor} (w m : Meaning) (i p : ℕ) (r : ReadTied t before (w ⊕ entering i None m) progress old) (n : ℕ)
    (e : n ≡ length before.events + length w.events) (x : part.events ≡ edited (coloned p) n old.events) (y : part.comments ≡ old.comments) (z : part.escapes ≡ old.escapes) where
  coloned_noting : Noting t 0 (w ⊕ entering i (Some p) m).events (edited (coloned p) (length w.events) r.written.events)
  unfolding ◌⊕◌ entering
  coloned_noting = colon_noting w.events m.events i p (sym (noting_length r.written.noting)) r.written.noting

  coloned_floor : progress.floor ≡ floor_after 0 (w ⊕ entering i (Some p) m).events
  unfolding ◌⊕◌ entering
  coloned_floor = r.floor ∙ sym (colon_floor 0 w.events m.events i p)

  coloned_comments : (w ⊕ entering i None m).comments ≡ (w ⊕ entering i (Some p) m).comments
  unfolding ◌⊕◌ entering
  coloned_comments = refl

  coloned_escapes : (w ⊕ entering i None m).escapes ≡ (w ⊕ entering i (Some p) m).escapes
  unfolding ◌⊕◌ entering
  coloned_escapes = refl

  pub coloned_read : ReadTied t before (w ⊕ entering i (Some p) m) progress part
  coloned_read = record {
    text = r.text;
    floor = coloned_floor;
    floor_line = r.floor_line;
    written = record {
      events = edited (coloned p) (length w.events) r.written.events;
      noting = coloned_noting;
      added = record {
        events = x ∙ ap (λ v. edited (coloned p) n v) r.written.added.events ∙ edited_after (coloned p) before.events (length w.events) n r.written.events e;
        comments = y ∙ r.written.added.comments ∙ ap (λ v. before.comments ++ v) coloned_comments;
        escapes = z ∙ r.written.added.escapes ∙ ap (λ v. before.escapes ++ v) coloned_escapes;
      };
    };
  }

key_same : (w m : Meaning) (i : ℕ) → Same ((w ⊕ only [] 0) ⊕ entering i None m) (w ⊕ entering i None m)
unfolding ◌⊕◌ only
key_same w m i = record {
  events = ap (λ v. v ++ (entering i None m).events) (append-nil w.events);
  comments = ap (λ v. v ++ (entering i None m).comments) (append-nil w.comments);
  escapes = ap (λ v. v ++ (entering i None m).escapes) (append-nil w.escapes);
}

-- the `:` after the key of an entry with a `?`
module _ {t : List ℕ} {d : ℕ} {root : BlockTask} {before old : Part} {frames : List Frame} {f : Frame} {at : ℕ} {progress : BlockCursor} (a : AtTop t d root before frames at f progress old) where
  pub value_awaited : {stack : List Frame} {new : BlockCursor} {part : Part} {p : ℕ} → f.awaits_colon ≡ true → PairLine t at f p → SignAt t 58 p → part.events ≡ edited (coloned p) f.entry_event old.events
      → part.comments ≡ old.comments → part.escapes ≡ old.escapes → stack ≡ record f { awaits_colon = false } ∷ frames → new.wanted ≡ wanted_after f.column true true None → new.last ≡ p + 1
      → new.floor ≡ progress.floor → new.colons ≡ progress.colons → new.halt ≡ progress.halt → AtNode t d root before stack (p + 1) new part
  value_awaited {stack} {new} {part} {p} q g v x y z s w o j c h =
      let l = a.layer in
      let k = a.frame.collection.column in
      let u = g.is_there in
      let asked_here : asks l.stage ≡ true = sym a.frame.awaits ∙ q in
      let place : at + l.column ≡ p = omega (arith, k, u) in
      let colon : ColonLine t l.column at = record {
        indent = subst (λ (b : ℕ). Spaces t at b) k g.line.spaces;
        colon = ap (λ b. code t b) place ∙ v.sign_is_at;
        follows = ap (λ (b : ℕ). is_white_or_end (code t (b + 1))) place ∙ v.follows;
      } in
      let layer = λ (b : ℕ). at_stage l (AtValue (place_of l.stage) b a.answer) in
      let node = subst (λ (b : ℕ). NodeAt t d root (layer b ∷ a.layers) a.room [] (Awaited true (pos l.column) BlockOut (Indicator (b + 1)) (b + 1)) a.halt) place (value_follows a.node asked_here colon) in
      let read = read_as
      (subst (λ b. ReadTied t before ((entries_written l a.layers ⊕ stage_written b) ⊕ begins (stage_entry b) a.answer.meaning) progress old) (is_key l.stage asked_here) a.read)
      (key_same (entries_written l a.layers) a.answer.meaning (place_of l.stage)) in
      node_there {l = layer p} true BlockOut None node a.order (omega (arith, place)) (let g = a.past in omega (arith, g, j, place)) (after_colon p a.read.text.utf8 v.sign_is_at)
      (record { collection = record { kind = a.frame.collection.kind; column = k; event = a.frame.collection.event }; awaits = refl; entry = λ b. absurd (true≢false (sym b)) })
      a.stack s (c ∙ a.stack.colons) h no_entry (w ∙ ap (λ (b : ℕ). wanted_after b true true None) k) o
      (read_moved (coloned_read (entries_written l a.layers) a.answer.meaning (place_of l.stage) p read f.entry_event (a.frame.entry asked_here) x y z) j)
