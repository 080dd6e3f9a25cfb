-- An item that is the key of a single pair: its event notes the `:`, and the event that begins the pair is put before
-- it.
use Rattle.std.proofs.Common.{◌≡◌, ◌≢◌, ℕ, suc, zero, max, ◌+◌, ◌<◌, ◌≤◌, ℤ, Bool, true, List, [], ◌∷◌, ◌++◌, length, take, drop, Some, None, refl, sym, ap, ◌∙◌, subst, arith, append-nil}
use Rattle.yf_chars.specs.declared.context.Ctx.{Ctx}
use Rattle.yf_chars.specs.Text.{code}
use Rattle.yf_events.specs.Event.{EventInText}
use Rattle.yf_events.specs.Edit.{edited, coloned}
use Rattle.yf_events.specs.declared.part.Part.{Part}
use Rattle.yf_grammar.specs.Productions.Grammar.{closing}
use Rattle.yf_grammar.specs.Productions.Meaning.{Meaning, ◌⊕◌, entering, first_entering}
use Rattle.yf_grammar.specs.FlowReader.Parser.{ParsedNode, PairKey, ANode, Parses, only}
use Rattle.yf_grammar.specs.FlowReader.FlowContinuations.{EntriesAwaited, with_pair}
use Rattle.yf_grammar.proofs.FlowStack.AwaitValues.{value_after_item}
use Rattle.yf_flow.specs.declared.frame.Frame.{Frame}
use Rattle.yf_flow.specs.declared.frame.CollectionKind.TheVariants.{Pair}
use Rattle.yf_flow.specs.declared.frame.Node.{Node}
use Rattle.yf_flow.specs.declared.frame.Role.{Role}
use Rattle.yf_flow.specs.declared.frame.Role.TheVariants.{Item, Value}
use Rattle.yf_flow.specs.StepTerms.{Reading}
use Rattle.yf_flow.specs.StackMeaning.{first_events, NoteFilled, NotesFilled, PartSoFar, in_role, pair_event, entry_from, entries_written, entry_written, written_in, FramesOfEntry, of_collection, of_pair, NodeIn, item_in, key_in, value_in, Base, Below, AtEnded, AtValue}
use Rattle.yf_flow.proofs.Ends.NotedLemmas.{noted_coloned, noted_inserted}
use Rattle.yf_flow.proofs.Stack.TiedEnds.{written_as}
use Rattle.yf_flow.proofs.Stack.TiedKept.{entries_kept}
use Rattle.yf_flow.proofs.Stack.TiedClose.{frame_depth}
use Rattle.yf_flow.proofs.Ends.EntryNotes.{node_no_feed, item_value}
use Rattle.yf_flow.proofs.Stack.TiedItems.{key_no_item, value_no_item}

-- the note of the `:` in the first event after others
pub colon_noted : (v s : ℕ) (x y : List EventInText) → edited (coloned v) (length x) (x ++ first_entering (entry_from s) y) ≡ x ++ first_entering (record (entry_from s) { colon = Some v }) y
colon_noted v s [] [] = refl
colon_noted v s [] (e ∷ y) = refl
colon_noted v s (a ∷ x) y = ap (λ w. a ∷ w) (colon_noted v s x y)

entering_events : (s : ℕ) (x : Meaning) → (entering s None x).events ≡ first_entering (entry_from s) x.events
unfolding entering
entering_events s x = refl

coloned_events : (s v : ℕ) (x : Meaning) → (entering s (Some v) x).events ≡ first_entering (record (entry_from s) { colon = Some v }) x.events
unfolding entering
coloned_events s v x = refl

-- the events that an item adds
pub item_written : {t : List ℕ} {kept : ℕ} {old : Part} (w x : Meaning) (s : ℕ) → PartSoFar t kept (w ⊕ (only [] 0 ⊕ entering s None x)) old → PartSoFar t kept (w ⊕ entering s None x) old
unfolding ◌⊕◌ only
item_written w x s p = p

pub pair_begun : {t : List ℕ} {kept : ℕ} {old new : Part} (w x : Meaning) (s v m : ℕ) (event : EventInText) → kept ≤ length w.events → PartSoFar t kept (w ⊕ entering s None x) old → m ≡ length w.events
    → NoteFilled t (pair_event s) event → new.events ≡ take m (edited (coloned v) m old.events) ++ event ∷ drop m (edited (coloned v) m old.events) → new.comments ≡ old.comments → new.escapes ≡ old.escapes
    → PartSoFar t kept (w ⊕ record (entering s (Some v) x) { events = pair_event s ∷ (entering s (Some v) x).events }) new
unfolding ◌⊕◌ entering
pair_begun {t} {kept} {old} {new} w x s v m event le p e q a b c =
    let r : NotesFilled t kept (w.events ++ first_entering (record (entry_from s) { colon = Some v }) x.events) (edited (coloned v) (length w.events) old.events) =
    subst (λ z. NotesFilled t kept z (edited (coloned v) (length w.events) old.events)) (colon_noted v s w.events x.events) (noted_coloned v (length w.events) p.events) in
    let l = noted_inserted w.events (first_entering (record (entry_from s) { colon = Some v }) x.events) le r q in
    let f : new.events ≡ take (length w.events) (edited (coloned v) (length w.events) old.events) ++ event ∷ drop (length w.events) (edited (coloned v) (length w.events) old.events) =
    a ∙ ap (λ z. take z (edited (coloned v) z old.events) ++ event ∷ drop z (edited (coloned v) z old.events)) e in
    record {
      events = subst (λ z. NotesFilled t kept (w.events ++ pair_event s ∷ first_entering (record (entry_from s) { colon = Some v }) x.events) z) (sym f) l;
      comments = b ∙ p.comments;
      escapes = c ∙ p.escapes;
    }

nothing_length : (w : Meaning) (begin : EventInText) (x : Meaning) → length (entries_written w begin x ⊕ only [] 0).events ≡ length (entries_written w begin x).events
unfolding ◌⊕◌ only
nothing_length w begin x = ap (λ z. length z) (append-nil ((w.events ++ begin ∷ []) ++ x.events))

-- nothing is written before an item
item_length : {t : List ℕ} {n : ℤ} {d : Ctx} {s e p g : ℕ} {role : Role} {sequence pair : Bool} {y : Meaning} (w : Meaning) (begin : EventInText) (x : Meaning) → NodeIn t n d s role sequence e pair p g y → role ≡ Item
    → length (entry_written w begin x pair s y).events ≡ length (entries_written w begin x).events
item_length w begin x (item_in a) q = nothing_length w begin x
item_length w begin x (key_in a b) q = absurd (key_no_item q)
item_length w begin x (value_in a b) q = absurd (value_no_item q)

-- an item is awaited at the start of its entry
item_here : {t : List ℕ} {n : ℤ} {d : Ctx} {s e p g : ℕ} {role : Role} {sequence pair : Bool} {y : Meaning} → NodeIn t n d s role sequence e pair p g y → role ≡ Item → p ≡ s
item_here (item_in a) q = refl
item_here (key_in a b) q = absurd (key_no_item q)
item_here (value_in a b) q = absurd (value_no_item q)

-- the frame of the pair on that of its sequence
record OnSequence (top o : Frame) (h m s : ℕ) : Type 0 where
  kind : o.kind ≡ Pair
  depth : o.depth ≡ top.depth + 1
  deepest : o.deepest ≡ top.depth + h + 1
  event : o.event ≡ m
  entry : o.entry ≡ s

pair_value : {t : List ℕ} {n : ℤ} {d : Ctx} {base : Base} {frames under rest : List Frame} {role : Role} {sequence pair : Bool} {i e h g s p k v : ℕ} {c : Ctx} {w x y : Meaning} {begin : EventInText} {top : Frame}
    {old new : Part} (f : ParsedNode) → NodeIn t n d s role sequence e pair p g y → role ≡ Item → FramesOfEntry base.total sequence pair e h g (length w.events) k top rest
    → Below t n d base under sequence i c (suc (with_pair pair e)) w begin → EntriesAwaited t (with_pair pair e) sequence n c d i h x s → code t s ≢ closing sequence → frames ≡ rest ++ under
    → Parses t e (ANode n d p) (Some f) → PairKey t d s f v → f.height < e → PartSoFar t (first_events base) (entry_written w begin x pair s (y ⊕ entering s None f.meaning)) old
    → (o : Frame) → OnSequence top o f.height (length (entries_written w begin x).events) s
    → (event : EventInText) → NoteFilled t (pair_event s) event → (m : ℕ) → m ≡ length (entry_written w begin x pair s y).events
    → new.events ≡ take m (edited (coloned v) m old.events) ++ event ∷ drop m (edited (coloned v) m old.events) → new.comments ≡ old.comments → new.escapes ≡ old.escapes
    → AtValue t n d base (top ∷ frames) o f.json v new
pair_value f (key_in a b) q fr be en st fe r key l wr o on event ne m me na nb nc = absurd (key_no_item q)
pair_value f (value_in a b) q fr be en st fe r key l wr o on event ne m me na nb nc = absurd (value_no_item q)
pair_value {e = zero} f (item_in a) q fr be en st fe r key l wr o on event ne m me na nb nc = absurd (omega arith)
pair_value {t} {n} {d} {base} {frames} {under} {i = i} {e = suc e} {h = h} {s = s} {v = v} {c = c} {w = w} {x} {begin = begin} {top = top} {new = new} f (item_in a) q (of_collection fr) be en st fe r key l wr o on event ne m me na nb nc =
    let d0 = fr.room in
    let d1 = fr.deepest in
    record {
      layer = record { sequence = true; place = i; context = c; pair = true; limit = e; high = h; before = w; begin = begin; known = x; start = s; under = under };
      height = f.height;
      read = entering s (Some v) f.meaning;
      tied = record {
        rest = top ∷ [];
        below = be;
        entries = en;
        open_there = st;
        framed = of_pair (record { kind = on.kind; event = on.event; room = omega (arith, on.depth); deepest = omega (arith, on.depth, on.deepest) })
            (record { kind = fr.kind; event = fr.event; room = d0; deepest = omega arith });
        all = ap (λ z. top ∷ z) fe;
      };
      value = value_after_item a f r key (omega arith);
      entry = on.entry;
      written = pair_begun (entries_written w begin x) f.meaning s v m event (entries_kept be x) (item_written (entries_written w begin x) f.meaning s wr) (me ∙ nothing_length w begin x) ne na nb nc;
    }

pub key_pair : {t : List ℕ} {n : ℤ} {d : Ctx} {base : Base} {frames : List Frame} {top : Frame} {node : Node} {old : Part} (a : AtEnded t n d base frames top node old) → top.role ≡ Item → {limit v : ℕ}
    → Reading t d limit base → PairKey t d a.layer.start a.answer v → max top.depth node.deepest < limit → (o : Frame) → o.kind ≡ Pair → o.depth ≡ top.depth + 1
    → o.deepest ≡ max top.depth node.deepest + 1 → o.event ≡ top.entry_event → o.entry ≡ top.entry → (event : EventInText) → (code t top.entry ≢ 10 → NoteFilled t (pair_event top.entry) event) → {new : Part}
    → new.events ≡ take top.entry_event (edited (coloned v) top.entry_event old.events) ++ event ∷ drop top.entry_event (edited (coloned v) top.entry_event old.events)
    → new.comments ≡ old.comments → new.escapes ≡ old.escapes → {stack : List Frame} → stack ≡ top ∷ frames → AtValue t n d base stack o node.json v new
key_pair {t} {n} {d} {base} {frames} {top} {node} {old} a q {limit} {v} r key l o k1 k2 k3 k4 k5 event ne {new} na nb nc {stack} st =
    let z = frame_depth a.tied.framed in
    let dn = a.deepest in
    let l' : a.answer.height < a.layer.limit = omega (arith, r.total, a.deepest) in
    let ix = a.index (λ x. item_value (sym q ∙ x)) in
    let clear : code t top.entry ≢ 10 = λ x. node_no_feed r.no_block a.parsed (ap (λ w. code t w) (item_here a.awaited q ∙ sym a.entry) ∙ x) in
    let noted : NoteFilled t (pair_event a.layer.start) event = subst (λ w. NoteFilled t (pair_event w) event) a.entry (ne clear) in
    subst (λ fs. AtValue t n d base fs o node.json v new) (sym st)
    (subst (λ j. AtValue t n d base (top ∷ frames) o j v new) (sym a.json)
    (pair_value a.answer a.awaited q a.tied.framed a.tied.below a.tied.entries a.tied.open_there a.tied.all a.parsed key l'
    (written_as (ap (λ w. written_in a.layer (a.read ⊕ in_role w a.layer.start a.answer.meaning)) q) a.written) o
    (record { kind = k1; depth = k2; deepest = omega arith; event = k4 ∙ ix ∙ item_length a.layer.before a.layer.begin a.layer.known a.awaited q; entry = k5 ∙ a.entry }) event noted top.entry_event ix na nb nc))
