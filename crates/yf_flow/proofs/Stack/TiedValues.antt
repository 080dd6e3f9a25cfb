-- The value of an entry after its `:`: a node that is awaited, or nothing.
use Rattle.std.proofs.Common.{◌≡◌, ℕ, max, ◌+◌, ℤ, Bool, true, false, List, [], ◌∷◌, ◌++◌, None, refl, sym, ap, ◌∙◌, subst, append-nil, true≢false}
use Rattle.yf_chars.specs.declared.context.Ctx.{Ctx}
use Rattle.yf_chars.specs.Text.{code}
use Rattle.yf_chars.specs.Chain.{Stuck, Chosen}
use Rattle.yf_comments.specs.Comment.{CommentValue}
use Rattle.yf_comments.specs.Comments.{Separate}
use Rattle.yf_props.specs.Props.{no_props}
use Rattle.yf_events.specs.Event.{scalar_node}
use Rattle.yf_events.specs.declared.event.ScalarStyle.TheVariants.{Plain}
use Rattle.yf_events.specs.declared.part.Part.{Part}
use Rattle.yf_grammar.specs.Productions.Meaning.{Meaning, ◌⊕◌, noting, empty_node, plain_event}
use Rattle.yf_grammar.specs.FlowReader.Parser.{Gap}
use Rattle.yf_grammar.specs.FlowReader.Parser.Gap.{no_gap}
use Rattle.yf_grammar.specs.FlowReader.FlowContinuations.{is_entry_end, gap_past, ValueNodeAwaited}
use Rattle.yf_grammar.proofs.FlowStack.AwaitEntries.{noting_last, entry_stays_open}
use Rattle.yf_grammar.proofs.FlowStack.AwaitValues.{value_ends, value_unseparated, node_after, node_beside}
use Rattle.yf_grammar.proofs.FlowStack.AwaitFails.{not_ended, end_missed}
use Rattle.yf_flow.specs.declared.frame.Frame.{Frame}
use Rattle.yf_flow.specs.declared.frame.Role.TheVariants.{Value}
use Rattle.yf_flow.specs.declared.gap.FlowGap as TheGap
use Rattle.yf_flow.specs.Leaves.{GapRead, gap_read, gap_missing}
use Rattle.yf_flow.specs.NodeStarts.{entry_event}
use Rattle.yf_flow.specs.StackMeaning.{entryless, NotesFilled, PartSoFar, ahead, entries_written, written_in, FramesOfEntry, of_collection, of_pair, NodeIn, value_in, Base, InEntry, EntryTied, AtNode, AtValue, AtEntryDone, NoBase}
use Rattle.yf_flow.proofs.Ends.NotedLemmas.{noted_more}
use Rattle.yf_flow.proofs.Stack.TiedFails.{all_fails}
use Rattle.yf_flow.proofs.Stack.TiedEnds.{written_as, written_noting}
use Rattle.yf_flow.proofs.Stack.TiedClose.{entry_more}

pub separated_gap : {t : List ℕ} {n : ℤ} {c : Ctx} {i : ℕ} {old new : List CommentValue} {gap : TheGap.FlowGap} → GapRead t n c i old new gap → gap.is_separation ≡ true
    → (cs : List CommentValue) × Chosen (Separate t n c i) gap.end cs × (new ≡ old ++ cs)
separated_gap (gap_read s) e = (s.comments, s.chosen, s.added)
separated_gap (gap_missing u) e = absurd (true≢false (sym e))

pub unseparated_gap : {t : List ℕ} {n : ℤ} {c : Ctx} {i : ℕ} {old new : List CommentValue} {gap : TheGap.FlowGap} → GapRead t n c i old new gap → gap.is_separation ≡ false
    → Stuck (Separate t n c i) × (gap.end ≡ i) × (new ≡ old)
unseparated_gap (gap_read s) e = absurd (true≢false e)
unseparated_gap (gap_missing u) e = (u.none, refl, u.same)

-- a frame that differs only in the awaited part of its entry
pub same_framed : {total e h g m k : ℕ} {sequence pair : Bool} {f : Frame} {rest : List Frame} (o : Frame) → o.kind ≡ f.kind → o.event ≡ f.event → o.depth ≡ f.depth → o.deepest ≡ f.deepest
    → FramesOfEntry total sequence pair e h g m k f rest → FramesOfEntry total sequence pair e h g m k o rest
same_framed {e = e} {h} {g} o a b c d (of_collection f) = of_collection (record { kind = a ∙ f.kind; event = b ∙ f.event; room = ap (λ z. z + e) c ∙ f.room; deepest = d ∙ f.deepest ∙ ap (λ z. z + max h g) (sym c) })
same_framed {e = e} {g = g} o a b c d (of_pair f s) = of_pair (record { kind = a ∙ f.kind; event = b ∙ f.event; room = ap (λ z. z + e) c ∙ f.room; deepest = d ∙ f.deepest ∙ ap (λ z. z + g) (sym c) }) s

ahead_noting : (pair : Bool) (s : ℕ) (y : Meaning) (cs : List CommentValue) → noting (ahead pair s y) cs ≡ ahead pair s (noting y cs)
unfolding noting
ahead_noting true s y cs = refl
ahead_noting false s y cs = refl

pub entry_noting : (l : InEntry) (y : Meaning) (cs : List CommentValue) → noting (written_in l y) cs ≡ written_in l (noting y cs)
entry_noting l y cs =
    noting_last (entries_written l.before l.begin l.known) (ahead l.pair l.start y) cs ∙ ap (λ z. entries_written l.before l.begin l.known ⊕ z) (ahead_noting l.pair l.start y cs)

pub written_kept : {t : List ℕ} {kept : ℕ} {w : Meaning} {old new : Part} → new.events ≡ old.events → new.comments ≡ old.comments → new.escapes ≡ old.escapes → PartSoFar t kept w old → PartSoFar t kept w new
written_kept {t} {kept} {w} {old} {new} a b c p = record { events = subst (λ z. NotesFilled t kept w.events z) (sym a) p.events; comments = b ∙ p.comments; escapes = c ∙ p.escapes }

-- an empty node, and comments
pub empty_written : {t : List ℕ} {kept : ℕ} {w : Meaning} {old new : Part} (v : ℕ) (cs : List CommentValue) → new.events ≡ old.events ++ entry_event (scalar_node no_props Plain []) None ∷ []
    → new.comments ≡ old.comments ++ cs → new.escapes ≡ old.escapes → PartSoFar t kept w old → PartSoFar t kept (w ⊕ noting (empty_node v) cs) new
unfolding ◌⊕◌ noting empty_node plain_event
empty_written {t} {kept} {w} {old} {new} v cs a b c p = record {
  events = subst (λ z. NotesFilled t kept (w.events ++ entry_event (scalar_node no_props Plain []) None ∷ []) z) (sym a) (noted_more p.events (record { no_lines = refl; note = entryless refl }));
  comments = b ∙ ap (λ z. z ++ cs) p.comments;
  escapes = c ∙ p.escapes ∙ sym (append-nil w.escapes);
}

empty_finish : (x : Meaning) (v : ℕ) → (x ⊕ empty_node v).finish ≡ v
unfolding ◌⊕◌ empty_node
empty_finish x v = refl

module _ {t : List ℕ} {n : ℤ} {d : Ctx} {base : Base} {frames : List Frame} {top : Frame} {json : Bool} {colon : ℕ} {old : Part} (a : AtValue t n d base frames top json colon old) where
  pub value_fails : json ≡ false → Stuck (Separate t n d (colon + 1)) → is_entry_end (code t (colon + 1)) ≡ false → NoBase t n base
  value_fails e q z =
      let m = not_ended a.layer.sequence (code t (colon + 1)) z in
      all_fails a.tied.below (entry_stays_open a.tied.entries a.tied.open_there (value_unseparated a.value e q) (no_gap q) m.0 m.1)

  pub value_done : {p : ℕ} {cs : List CommentValue} {new : Part} → Gap t n d (colon + 1) p cs → is_entry_end (code t p) ≡ true
      → new.events ≡ old.events ++ entry_event (scalar_node no_props Plain []) None ∷ [] → new.comments ≡ old.comments ++ cs → new.escapes ≡ old.escapes
      → AtEntryDone t n d base frames top (colon + 1) p new
  value_done {cs = cs} g z x y w = record {
    layer = a.layer;
    height = a.height;
    meaning = a.read ⊕ empty_node (colon + 1);
    end = colon + 1;
    comments = cs;
    tied = a.tied;
    entry = value_ends a.value g (end_missed z);
    finish = empty_finish a.read (colon + 1);
    within = gap_past g;
    written = written_as
        (entry_more a.layer.before a.layer.begin a.layer.known a.layer.pair a.layer.start a.read (noting (empty_node (colon + 1)) cs)
        ∙ ap (λ v. written_in a.layer v) (sym (noting_last a.read (empty_node (colon + 1)) cs)))
        (empty_written (colon + 1) cs x y w a.written);
  }

  module _ (o : Frame) (k : o.kind ≡ top.kind) (ev : o.event ≡ top.event) (de : o.depth ≡ top.depth) (hi : o.deepest ≡ top.deepest) (en : o.entry ≡ top.entry) (ro : o.role ≡ Value) where
    moved : EntryTied t n d base frames o a.height a.layer
    moved = record { rest = a.tied.rest; below = a.tied.below; entries = a.tied.entries; open_there = a.tied.open_there; framed = same_framed o k ev de hi a.tied.framed; all = a.tied.all }

    pub value_after : {p : ℕ} {cs : List CommentValue} {new : Part} → new.events ≡ old.events → new.escapes ≡ old.escapes → Chosen (Separate t n d (colon + 1)) p cs → is_entry_end (code t p) ≡ false → new.comments ≡ old.comments ++ cs
        → AtNode t n d base frames o p new
    value_after {p} {cs} x w q z y = record {
      layer = a.layer;
      height = a.height;
      read = noting a.read cs;
      tied = moved;
      node = subst (λ r. NodeIn t n d a.layer.start r a.layer.sequence a.layer.limit a.layer.pair p a.height (noting a.read cs)) (sym ro) (value_in (node_after a.value q) z);
      entry = en ∙ a.entry;
      index = λ q. absurd (q ro);
      begins = λ q. absurd (q ro);
      written = written_as (entry_noting a.layer a.read cs) (written_noting cs x y w a.written);
    }

    pub value_beside : {new : Part} → new.events ≡ old.events → new.escapes ≡ old.escapes → json ≡ true → Stuck (Separate t n d (colon + 1)) → (p : ℕ) → p ≡ colon + 1 → is_entry_end (code t p) ≡ false → new.comments ≡ old.comments
        → AtNode t n d base frames o p new
    value_beside x w e q p same z y = record {
      layer = a.layer;
      height = a.height;
      read = a.read;
      tied = moved;
      node = subst (λ r. NodeIn t n d a.layer.start r a.layer.sequence a.layer.limit a.layer.pair p a.height a.read) (sym ro)
          (value_in (subst (λ r. ValueNodeAwaited t a.layer.limit a.layer.sequence n d a.layer.pair a.layer.start a.height a.read r) (sym same) (node_beside a.value e q)) z);
      entry = en ∙ a.entry;
      index = λ q. absurd (q ro);
      begins = λ q. absurd (q ro);
      written = written_kept x y w a.written;
    }
