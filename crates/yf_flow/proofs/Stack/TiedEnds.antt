-- The end of an entry, and the bracket that closes a collection.
use Rattle.std.proofs.Common.{◌≡◌, ◌≢◌, ℕ, max, ◌+◌, ℤ, Bool, true, false, List, [], ◌++◌, sym, ap, ◌∙◌, subst, append-nil}
use Rattle.std.specs.Str.{IsUtf8}
use Rattle.yf_chars.specs.declared.context.Ctx.{Ctx}
use Rattle.yf_chars.specs.Text.{code}
use Rattle.yf_comments.specs.Comment.{CommentValue}
use Rattle.yf_events.specs.Event.{EventInText}
use Rattle.yf_events.specs.declared.part.Part.{Part}
use Rattle.yf_grammar.specs.Productions.Grammar.{closing}
use Rattle.yf_grammar.specs.Productions.Meaning.{Meaning, ◌⊕◌, noting}
use Rattle.yf_grammar.specs.FlowReader.Parser.{Gap}
use Rattle.yf_grammar.specs.FlowReader.Parser.Gap.{longest_gap, no_gap}
use Rattle.yf_grammar.specs.FlowReader.FlowContinuations.{Within, not_yet, gap_past}
use Rattle.yf_grammar.proofs.FlowStack.AwaitEntries.{noting_last, entries_closed, entry_closes, entry_stays_open, entry_passes}
use Rattle.yf_grammar.proofs.FlowStack.AwaitFails.{gap_still, within_gap}
use Rattle.yf_grammar.proofs.FlowReader.CompleteSteps.{closing_end, comma_end, end_visible, noting_twice}
use Rattle.yf_grammar.proofs.Ends.GapLemmas.{Visible}
use Rattle.yf_grammar.proofs.FlowReader.ParserLemmas.{Same}
use Rattle.yf_flow.specs.declared.frame.Frame.{Frame}
use Rattle.yf_flow.specs.declared.frame.CollectionKind.{CollectionKind}
use Rattle.yf_flow.specs.declared.gap.FlowGap as TheGap
use Rattle.yf_flow.specs.Leaves.{GapRead, gap_read, gap_missing, IsClosing}
use Rattle.yf_flow.specs.StackMeaning.{NotesFilled, PartSoFar, one, entries_written, kind_of, Base, AtEntry, AtPlace, AtClosing, AtEntryEnd, NoBase}
use Rattle.yf_flow.proofs.Stack.TiedFails.{all_fails}

-- the comments of a separation
pub gap_of : {t : List ℕ} {n : ℤ} {c : Ctx} {i : ℕ} {old new : List CommentValue} {gap : TheGap.FlowGap} → GapRead t n c i old new gap
    → (cs : List CommentValue) × Gap t n c i gap.end cs × (new ≡ old ++ cs)
gap_of (gap_read s) = (s.comments, longest_gap s.chosen, s.added)
gap_of {old = old} (gap_missing u) = ([], no_gap u.none, u.same ∙ sym (append-nil old))

pub written_as : {t : List ℕ} {kept : ℕ} {w v : Meaning} {part : Part} → w ≡ v → PartSoFar t kept w part → PartSoFar t kept v part
written_as {t} {kept} {w} {v} {part} e p = subst (λ z. PartSoFar t kept z part) e p

pub written_same : {t : List ℕ} {kept : ℕ} {w v : Meaning} {part : Part} → Same w v → PartSoFar t kept w part → PartSoFar t kept v part
written_same {t} {kept} {w} {v} {part} e p = record { events = subst (λ z. NotesFilled t kept z part.events) e.events p.events; comments = p.comments ∙ e.comments; escapes = p.escapes ∙ e.escapes }

-- comments are added
pub written_noting : {t : List ℕ} {kept : ℕ} {w : Meaning} {old new : Part} (cs : List CommentValue) → new.events ≡ old.events → new.comments ≡ old.comments ++ cs → new.escapes ≡ old.escapes
    → PartSoFar t kept w old → PartSoFar t kept (noting w cs) new
unfolding noting
written_noting {t} {kept} {w} {old} {new} cs a b c p = record {
  events = subst (λ z. NotesFilled t kept w.events z) (sym a) p.events;
  comments = b ∙ ap (λ z. z ++ cs) p.comments;
  escapes = c ∙ p.escapes;
}

known_noting : (w : Meaning) (begin : EventInText) (x y : Meaning) (cs ds : List CommentValue)
    → noting (entries_written w begin (x ⊕ noting y cs)) ds ≡ entries_written w begin (x ⊕ noting y (cs ++ ds))
known_noting w begin x y cs ds =
    noting_last (w ⊕ one begin) (x ⊕ noting y cs) ds ∙ ap (λ z. (w ⊕ one begin) ⊕ z) (noting_last x (noting y cs) ds ∙ ap (λ z. x ⊕ z) (noting_twice y cs ds))

closes_kind : (sequence : Bool) (kind : CollectionKind) (x : ℕ) → kind ≡ kind_of sequence → IsClosing kind x → x ≡ closing sequence
closes_kind true kind x e c = subst (λ k. IsClosing k x) e c
closes_kind false kind x e c = subst (λ k. IsClosing k x) e c

pub closes_not : (sequence : Bool) (kind : CollectionKind) (x : ℕ) → kind ≡ kind_of sequence → (IsClosing kind x → ⊥) → x ≢ closing sequence
closes_not true kind x e c q = c (subst (λ k. IsClosing k x) (sym e) q)
closes_not false kind x e c q = c (subst (λ k. IsClosing k x) (sym e) q)

closing_visible : {t : List ℕ} (sequence : Bool) (k : ℕ) → code t k ≡ closing sequence → Visible t k
closing_visible {t} sequence k e = end_visible k (closing_end sequence (code t k) e)

comma_visible : {t : List ℕ} (k : ℕ) → code t k ≡ 44 → Visible t k
comma_visible {t} k e = end_visible k (comma_end (code t k) e)

-- if neither a comma nor the bracket is after the rest of the separation, none is after the whole
within_open : {t : List ℕ} {n : ℤ} {d : Ctx} {j p k : ℕ} {cs ds : List CommentValue} (sequence : Bool) → Within t n d j p cs → Gap t n d p k ds → code t k ≢ closing sequence → code t k ≢ 44
    → (m : ℕ) × (es : List CommentValue) × Gap t n d j m es × (code t m ≢ closing sequence) × (code t m ≢ 44)
within_open {k = k} {ds = ds} sequence not_yet g a b = (k, ds, g, a, b)
within_open {t} {n} {d} {j} {p} {k} {cs} {ds} sequence (gap_past w) g a b =
    (p, cs, w, (λ e. a (ap (code t) (gap_still (closing_visible sequence p e) g).0 ∙ e)), (λ e. b (ap (code t) (gap_still (comma_visible p e) g).0 ∙ e)))

module _ {t : List ℕ} {n : ℤ} {d : Ctx} {base : Base} {frames : List Frame} {top : Frame} where
  pub place_awaited : {at k : ℕ} {old new : Part} {cs : List CommentValue} → AtEntry t n d base frames top at old → Gap t n d at k cs → new.events ≡ old.events
      → new.comments ≡ old.comments ++ cs → new.escapes ≡ old.escapes → AtPlace t n d base frames top k new
  place_awaited {k = k} {cs = cs} a g x y z = record {
    sequence = a.sequence;
    place = a.place;
    context = a.context;
    limit = a.limit;
    high = a.high;
    before = a.before;
    begin = a.begin;
    known = noting a.known cs;
    below = a.below;
    entries = a.awaited.past k cs g;
    frame = a.frame;
    written = written_as (noting_last (a.before ⊕ one a.begin) a.known cs) (written_noting cs x y z a.written);
  }

  pub place_closing : {k : ℕ} {part : Part} → AtPlace t n d base frames top k part → IsClosing top.kind (code t k) → AtClosing t n d base frames top k part
  place_closing {k} a c = record {
    sequence = a.sequence;
    place = a.place;
    context = a.context;
    limit = a.limit;
    high = a.high;
    before = a.before;
    begin = a.begin;
    known = a.known;
    below = a.below;
    parsed = entries_closed a.entries (closes_kind a.sequence top.kind (code t k) a.frame.kind c);
    frame = a.frame;
    written = a.written;
  }

  module _ {at k : ℕ} {old : Part} {ds : List CommentValue} (u : IsUtf8 t) (a : AtEntryEnd t n d base frames top at old) (g : Gap t n d at k ds) where
    pub entry_fails : (IsClosing top.kind (code t k) → ⊥) → code t k ≢ 44 → NoBase t n base
    entry_fails c m =
        let w = within_open a.sequence a.within g (closes_not a.sequence top.kind (code t k) a.frame.kind c) m in
        all_fails a.below (entry_stays_open a.entries a.open_there a.entry w.2 w.3 w.4)

    module _ {new : Part} (x : new.events ≡ old.events) (y : new.comments ≡ old.comments ++ ds) (z : new.escapes ≡ old.escapes) where
      pub entry_closing : IsClosing top.kind (code t k) → AtClosing t n d base frames top k new
      entry_closing c =
          let e = closes_kind a.sequence top.kind (code t k) a.frame.kind c in
          record {
            sequence = a.sequence;
            place = a.place;
            context = a.context;
            limit = a.limit;
            high = max a.high a.height;
            before = a.before;
            begin = a.begin;
            known = a.known ⊕ noting a.meaning (a.comments ++ ds);
            below = a.below;
            parsed = entry_closes a.entries a.open_there a.entry (within_gap u a.within g (closing_visible a.sequence k e)) e;
            frame = a.frame;
            written = written_as (known_noting a.before a.begin a.known a.meaning a.comments ds) (written_noting ds x y z a.written);
          }

      pub entry_next : code t k ≡ 44 → AtEntry t n d base frames top (k + 1) new
      entry_next e = record {
        sequence = a.sequence;
        place = a.place;
        context = a.context;
        limit = a.limit;
        high = max a.high a.height;
        before = a.before;
        begin = a.begin;
        known = a.known ⊕ noting a.meaning (a.comments ++ ds);
        below = a.below;
        awaited = entry_passes a.entries a.open_there a.entry (within_gap u a.within g (comma_visible k e)) e;
        frame = a.frame;
        written = written_as (known_noting a.before a.begin a.known a.meaning a.comments ds) (written_noting ds x y z a.written);
      }
