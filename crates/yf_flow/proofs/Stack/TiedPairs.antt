-- The end of an entry, and of its single pair if it is one.
use Rattle.std.proofs.Common.{◌≡◌, ◌≢◌, ℕ, suc, max, ℤ, Bool, true, false, List, [], ◌∷◌, ◌++◌, length, None, refl, sym, ap, ◌∙◌, subst, arith, append_assoc, append-nil}
use Rattle.yf_chars.specs.declared.context.Ctx.{Ctx}
use Rattle.yf_chars.specs.Text.{code}
use Rattle.yf_chars.proofs.Tests.{no_cons}
use Rattle.yf_comments.specs.Comment.{CommentValue}
use Rattle.yf_events.specs.Event.{EventInText, mapping_ends}
use Rattle.yf_events.specs.Edit.{edited, ended}
use Rattle.yf_events.specs.declared.part.Part.{Part}
use Rattle.yf_grammar.specs.Productions.Grammar.{closing}
use Rattle.yf_grammar.specs.Productions.Meaning.{Meaning, ◌⊕◌, noting, collection, entering, plain_event, from_to}
use Rattle.yf_grammar.specs.FlowReader.FlowContinuations.{EntriesAwaited, IsEntry, with_pair, wrapped, Within}
use Rattle.yf_grammar.proofs.FlowStack.AwaitEntries.{plus_assoc}
use Rattle.yf_grammar.proofs.WrittenTexts.LeafBack.{noting_nothing}
use Rattle.yf_grammar.proofs.FlowReader.ParserLemmas.{Same}
use Rattle.yf_flow.specs.declared.frame.Frame.{Frame}
use Rattle.yf_flow.specs.declared.frame.CollectionKind.{CollectionKind}
use Rattle.yf_flow.specs.declared.frame.CollectionKind.TheVariants.{Pair}
use Rattle.yf_flow.specs.NodeStarts.{entry_event}
use Rattle.yf_flow.specs.StackMeaning.{first_events, PartSoFar, one, pair_event, entries_written, entry_written, kind_of, FramesOfEntry, of_collection, of_pair, Base, Below, AtEntryEnd, AtEntryDone}
use Rattle.yf_flow.proofs.Stack.TiedEnds.{written_as, written_same}
use Rattle.yf_flow.proofs.Stack.TiedClose.{ended_written, closed_same, ends_noted, cons_parts}

pub kind_no_pair : (sequence : Bool) (kind : CollectionKind) → kind ≡ kind_of sequence → kind ≡ Pair → ⊥
kind_no_pair true kind e q = cc
kind_no_pair false kind e q = cc

-- an entry that is not a single pair
wrapped_end : {t : List ℕ} {n : ℤ} {d : Ctx} {base : Base} {frames under rest : List Frame} {sequence pair : Bool} {i e h g s j k at : ℕ} {c : Ctx} {w x : Meaning} {begin : EventInText} {cs : List CommentValue}
    {top : Frame} {part : Part} (z : Meaning) → FramesOfEntry base.total sequence pair e h g (length w.events) k top rest → (top.kind ≡ Pair → ⊥)
    → Below t n d base under sequence i c (suc (with_pair pair e)) w begin → EntriesAwaited t (with_pair pair e) sequence n c d i h x s → code t s ≢ closing sequence
    → IsEntry t (with_pair pair e) sequence n d s j (with_pair pair g) (wrapped pair s z) → Within t n d j at cs → PartSoFar t (first_events base) (entry_written w begin x pair s (noting z cs)) part
    → frames ≡ rest ++ under → AtEntryEnd t n d base frames top at part
wrapped_end {t} {n} {d} {base} {frames} {under} {sequence = sequence} {i = i} {e} {h} {g} {s} {j} {c = c} {w = w} {x} {begin} {cs} z (of_collection f) q b en st ie wi wr fe = record {
  sequence = sequence;
  place = i;
  context = c;
  limit = e;
  high = h;
  before = w;
  begin = begin;
  known = x;
  start = s;
  end = j;
  height = g;
  meaning = z;
  comments = cs;
  below = subst (λ r. Below t n d base r sequence i c (suc e) w begin) (sym fe) b;
  entries = en;
  open_there = st;
  entry = ie;
  within = wi;
  frame = f;
  written = written_as (sym (plus_assoc (w ⊕ one begin) x (noting z cs))) wr;
}
wrapped_end z (of_pair f r) q b en st ie wi wr fe = absurd (q f.kind)

-- the events of a single pair
pair_opened : (a : Meaning) (s : ℕ) (y : Meaning) → Same (a ⊕ record y { events = pair_event s ∷ y.events }) (entries_written a (pair_event s) y)
unfolding ◌⊕◌
pair_opened a s y = record {
  events = sym (append_assoc a.events (pair_event s ∷ []) y.events);
  comments = ap (λ v. v ++ y.comments) (sym (append-nil a.comments));
  escapes = ap (λ v. v ++ y.escapes) (sym (append-nil a.escapes));
}

pair_closed : (s j : ℕ) (z : Meaning) (cs : List CommentValue) → z.finish ≡ j
    → Same (record { events = ended j (pair_event s) ∷ ((noting z cs).events ++ plain_event mapping_ends None ∷ []); comments = [] ++ (noting z cs).comments; escapes = (noting z cs).escapes; finish = j })
    (noting (wrapped true s z) cs)
unfolding noting entering collection plain_event from_to
pair_closed s j z cs e = rw e record { events = refl; comments = refl; escapes = refl }

pair_written : {t : List ℕ} {kept : ℕ} {old new : Part} (w : Meaning) (begin : EventInText) (x z : Meaning) (s j : ℕ) (cs : List CommentValue) → PartSoFar t kept (entry_written w begin x true s (noting z cs)) old
    → z.finish ≡ j → new.events ≡ edited (ended j) (length (entries_written w begin x).events) (old.events ++ entry_event mapping_ends None ∷ []) → new.comments ≡ old.comments
    → new.escapes ≡ old.escapes → PartSoFar t kept (entries_written w begin (x ⊕ noting (wrapped true s z) cs)) new
pair_written {t} {kept} {old} {new} w begin x z s j cs p f a b c =
    let all = entries_written w begin x in
    let y = noting z cs in
    let q = ended_written all y (pair_event s) j mapping_ends (written_same (pair_opened all s y) p) (ends_noted t false) a b c in
    let r : PartSoFar t kept (entries_written (noting all []) (ended j (pair_event s)) y ⊕ one (plain_event mapping_ends None)) new =
    written_as (ap (λ v. entries_written v (ended j (pair_event s)) y ⊕ one (plain_event mapping_ends None)) (sym (noting_nothing all))) q in
    written_as (sym (plus_assoc (w ⊕ one begin) x (noting (wrapped true s z) cs)))
    (written_same (closed_same all y (noting (wrapped true s z) cs) [] (ended j (pair_event s)) (plain_event mapping_ends None) j (pair_closed s j z cs f)) r)

-- a single pair, with its sequence going on
wrapped_pair : {t : List ℕ} {n : ℤ} {d : Ctx} {base : Base} {frames under rest : List Frame} {sequence pair : Bool} {i e h g s j at : ℕ} {c : Ctx} {w x : Meaning} {begin : EventInText}
    {cs : List CommentValue} {top : Frame} {old new : Part} (z : Meaning) (last : ℕ) → FramesOfEntry base.total sequence pair e h g (length w.events) (length (entries_written w begin x).events) top rest → top.kind ≡ Pair
    → Below t n d base under sequence i c (suc (with_pair pair e)) w begin → EntriesAwaited t (with_pair pair e) sequence n c d i h x s → code t s ≢ closing sequence
    → IsEntry t (with_pair pair e) sequence n d s j (with_pair pair g) (wrapped pair s z) → Within t n d j at cs → PartSoFar t (first_events base) (entry_written w begin x pair s (noting z cs)) old
    → frames ≡ rest ++ under → z.finish ≡ last → new.events ≡ edited (ended last) top.event (old.events ++ entry_event mapping_ends None ∷ []) → new.comments ≡ old.comments → new.escapes ≡ old.escapes
    → (outer : Frame) (others : List Frame) → frames ≡ outer ∷ others → (reached : Frame) → reached.kind ≡ outer.kind → reached.event ≡ outer.event → reached.depth ≡ outer.depth
    → reached.deepest ≡ max outer.deepest top.deepest → AtEntryEnd t n d base others reached at new
wrapped_pair {sequence = sequence} z last (of_collection f) q b en st ie wi wr fe fi a1 a2 a3 outer others po reached r1 r2 r3 r4 = absurd (kind_no_pair sequence _ f.kind q)
wrapped_pair {t} {n} {d} {base} {frames} {under} {i = i} {e} {h} {g} {s} {j} {at} {c = c} {w = w} {x} {begin} {cs} {top} {old} {new} z last (of_pair {s = below} f r) q b en st ie wi wr fe fi a1 a2 a3 outer others po reached r1 r2 r3 r4 =
    let parts = cons_parts (sym fe ∙ po) in
    let d0 : below.depth ≡ outer.depth = ap (λ v. v.depth) parts.0 in
    let d1 : below.deepest ≡ outer.deepest = ap (λ v. v.deepest) parts.0 in
    let d2 = f.room in
    let d3 = f.deepest in
    let d4 = r.room in
    let d5 = r.deepest in
    record {
      sequence = true;
      place = i;
      context = c;
      limit = suc e;
      high = h;
      before = w;
      begin = begin;
      known = x;
      start = s;
      end = j;
      height = suc g;
      meaning = wrapped true s z;
      comments = cs;
      below = subst (λ v. Below t n d base v true i c (suc (suc e)) w begin) parts.1 b;
      entries = en;
      open_there = st;
      entry = ie;
      within = wi;
      frame = record {
        kind = r1 ∙ ap (λ v. v.kind) (sym parts.0) ∙ r.kind;
        event = r2 ∙ ap (λ v. v.event) (sym parts.0) ∙ r.event;
        room = omega arith;
        deepest = omega arith;
      };
      written = pair_written w begin x z s last cs wr fi (a1 ∙ ap (λ v. edited (ended last) v (old.events ++ entry_event mapping_ends None ∷ [])) f.event) a2 a3;
    }

module _ {t : List ℕ} {n : ℤ} {d : Ctx} {base : Base} {frames : List Frame} {top : Frame} {last at : ℕ} {old : Part} (a : AtEntryDone t n d base frames top last at old) where
  pub done_entry : (top.kind ≡ Pair → ⊥) → AtEntryEnd t n d base frames top at old
  done_entry q = wrapped_end a.meaning a.tied.framed q a.tied.below a.tied.entries a.tied.open_there a.entry a.within a.written a.tied.all

  pub done_pair : {new : Part} → top.kind ≡ Pair → new.events ≡ edited (ended last) top.event (old.events ++ entry_event mapping_ends None ∷ []) → new.comments ≡ old.comments
      → new.escapes ≡ old.escapes → (outer : Frame) (others : List Frame) → frames ≡ outer ∷ others → (reached : Frame) → reached.kind ≡ outer.kind → reached.event ≡ outer.event
      → reached.depth ≡ outer.depth → reached.deepest ≡ max outer.deepest top.deepest → AtEntryEnd t n d base others reached at new
  done_pair q a1 a2 a3 outer others po reached r1 r2 r3 r4 =
      wrapped_pair a.meaning last a.tied.framed q a.tied.below a.tied.entries a.tied.open_there a.entry a.within a.written a.tied.all a.finish a1 a2 a3 outer others po reached r1 r2 r3 r4

  -- a single pair has the frame of its sequence below its own
  pub pair_below : top.kind ≡ Pair → frames ≡ [] → ⊥
  pair_below q e = go a.layer.under a.tied.framed q (sym e ∙ a.tied.all) where
    go : {sequence pair : Bool} {total e h g m k : ℕ} {top : Frame} {rest : List Frame} (under : List Frame) → FramesOfEntry total sequence pair e h g m k top rest → top.kind ≡ Pair → [] ≡ rest ++ under → ⊥
    go {sequence} under (of_collection f) q e = kind_no_pair sequence _ f.kind q
    go under (of_pair f r) q e = no_cons e
