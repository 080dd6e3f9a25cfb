-- A closed collection is a node of the entry around it, or the outermost one.
use Rattle.std.proofs.Common.{◌≡◌, ℕ, suc, ◌+◌, ◌<◌, ℤ, Bool, true, false, List, [], ◌∷◌, ◌++◌, length, Some, None, refl, sym, ap, ◌∙◌, subst, arith, append_assoc, append-nil, reverse}
use Rattle.std.proofs.lemmas.List.{reverse-append}
use Rattle.yf_chars.specs.declared.context.Ctx.{Ctx}
use Rattle.yf_chars.proofs.Tests.{no_cons}
use Rattle.yf_comments.specs.Comment.{CommentValue}
use Rattle.yf_events.specs.Event.{EventValue, EventInText}
use Rattle.yf_events.specs.Edit.{edited, ended}
use Rattle.yf_events.specs.declared.part.Part.{Part}
use Rattle.yf_grammar.specs.Productions.Meaning.{Meaning, ◌⊕◌, noting, meaning_after, with_props, collection, entering, plain_event, from_to, end_of}
use Rattle.yf_grammar.specs.FlowReader.Parser.{AContent, Parses}
use Rattle.yf_grammar.specs.FlowReader.FlowContinuations.{Before, Bare, Propertied, ended_at, over, NodeOver, bare_there, properties_there}
use Rattle.yf_grammar.proofs.FlowStack.AwaitEntries.{plus_assoc}
use Rattle.yf_grammar.proofs.FlowStack.AwaitFails.{over_some}
use Rattle.yf_grammar.proofs.FlowReader.ParserLemmas.{Same}
use Rattle.yf_flow.specs.declared.frame.Frame.{Frame}
use Rattle.yf_flow.specs.declared.frame.CollectionKind.{CollectionKind}
use Rattle.yf_flow.specs.declared.frame.Role.{Role}
use Rattle.yf_flow.specs.declared.frame.Role.TheVariants.{Item, Key, Value}
use Rattle.yf_flow.specs.declared.frame.Node.{Node}
use Rattle.yf_flow.specs.NodeStarts.{entry_event}
use Rattle.yf_flow.specs.NodeParts.{comments_before, opened_event}
use Rattle.yf_flow.specs.StackMeaning.{first_events, NoteFilled, entryless, NotesFilled, PartSoFar, one, entry_of, in_role, ahead, entries_written, entry_written, kind_of, end_event, FramesOfEntry, of_collection, of_pair, NodeIn, Base, Below, outermost, inside, AtClosing, AtEnded, AtDone}
use Rattle.yf_flow.proofs.Ends.NotedLemmas.{noted_more, noted_ended, edited_here}
use Rattle.yf_flow.proofs.Stack.TiedEnds.{written_as, written_same}

-- the start of a node, before its content at k
abbrev pub NodeStart : Before → ℕ → ℕ → Type 0
NodeStart Bare p k = p ≡ k
NodeStart (Propertied q cs i g) p k = p ≡ i

-- the events at the end of a collection, in the role of its node
pub ended_meaning : (role : Role) (b : Before) (s p k j : ℕ) (sequence : Bool) (x : Meaning) → NodeStart b p k
    → Same (record {
      events = ended j (opened_event p b (entry_of role s) sequence k) ∷ (x.events ++ plain_event (end_of sequence) None ∷ []);
      comments = comments_before b ++ x.comments;
      escapes = x.escapes;
      finish = j;
    }) (in_role role s (over b (collection sequence true k j x)))
unfolding collection plain_event from_to meaning_after with_props entering
ended_meaning Value Bare s p k j true x e = rw e record { events = refl; comments = refl; escapes = refl }
ended_meaning Value Bare s p k j false x e = rw e record { events = refl; comments = refl; escapes = refl }
ended_meaning Value (Propertied q cs i g) s p k j true x e = rw e record { events = refl; comments = refl; escapes = refl }
ended_meaning Value (Propertied q cs i g) s p k j false x e = rw e record { events = refl; comments = refl; escapes = refl }
ended_meaning Item Bare s p k j true x e = rw e record { events = refl; comments = refl; escapes = refl }
ended_meaning Item Bare s p k j false x e = rw e record { events = refl; comments = refl; escapes = refl }
ended_meaning Item (Propertied q cs i g) s p k j true x e = rw e record { events = refl; comments = refl; escapes = refl }
ended_meaning Item (Propertied q cs i g) s p k j false x e = rw e record { events = refl; comments = refl; escapes = refl }
ended_meaning Key Bare s p k j true x e = rw e record { events = refl; comments = refl; escapes = refl }
ended_meaning Key Bare s p k j false x e = rw e record { events = refl; comments = refl; escapes = refl }
ended_meaning Key (Propertied q cs i g) s p k j true x e = rw e record { events = refl; comments = refl; escapes = refl }
ended_meaning Key (Propertied q cs i g) s p k j false x e = rw e record { events = refl; comments = refl; escapes = refl }

over_finish : (b : Before) (sequence : Bool) (k j : ℕ) (x : Meaning) → (over b (collection sequence true k j x)).finish ≡ j
unfolding collection meaning_after with_props
over_finish Bare sequence k j x = refl
over_finish (Propertied q cs i g) sequence k j x = refl

ahead_plus : (pair : Bool) (s : ℕ) (y m : Meaning) → ahead pair s y ⊕ m ≡ ahead pair s (y ⊕ m)
unfolding ◌⊕◌
ahead_plus true s y m = refl
ahead_plus false s y m = refl

pub entry_more : (w : Meaning) (begin : EventInText) (x : Meaning) (pair : Bool) (s : ℕ) (y m : Meaning) → entry_written w begin x pair s y ⊕ m ≡ entry_written w begin x pair s (y ⊕ m)
entry_more w begin x pair s y m =
    sym (plus_assoc (entries_written w begin x) (ahead pair s y) m) ∙ ap (λ z. entries_written w begin x ⊕ z) (ahead_plus pair s y m)

-- the events around those of the entries
pub closed_same : (w x m : Meaning) (cs : List CommentValue) (first last : EventInText) (j : ℕ)
    → Same (record { events = first ∷ (x.events ++ last ∷ []); comments = cs ++ x.comments; escapes = x.escapes; finish = j }) m
    → Same (entries_written (noting w cs) first x ⊕ one last) (w ⊕ m)
unfolding ◌⊕◌ noting
closed_same w x m cs first last j s = record {
  events = append_assoc (w.events ++ first ∷ []) x.events (last ∷ []) ∙ append_assoc w.events (first ∷ []) (x.events ++ last ∷ []) ∙ ap (λ z. w.events ++ z) s.events;
  comments = append-nil ((w.comments ++ cs ++ []) ++ x.comments) ∙ ap (λ z. z ++ x.comments) (append-nil (w.comments ++ cs)) ∙ append_assoc w.comments cs x.comments ∙ ap (λ z. w.comments ++ z) s.comments;
  escapes = append-nil ((w.escapes ++ []) ++ x.escapes) ∙ ap (λ z. z ++ x.escapes) (append-nil w.escapes) ∙ ap (λ z. w.escapes ++ z) s.escapes;
}

-- an event is added, and the end of the collection is noted
pub ended_written : {t : List ℕ} {kept : ℕ} {old new : Part} (w x : Meaning) (begin : EventInText) (j : ℕ) (event : EventValue) → PartSoFar t kept (entries_written w begin x) old
    → NoteFilled t (plain_event event None) (entry_event event None)
    → new.events ≡ edited (ended j) (length w.events) (old.events ++ entry_event event None ∷ []) → new.comments ≡ old.comments → new.escapes ≡ old.escapes
    → PartSoFar t kept (entries_written w (ended j begin) x ⊕ one (plain_event event None)) new
unfolding ◌⊕◌
ended_written {t} {kept} {old} {new} w x begin j event p q a b c =
    let last = plain_event event None in
    let whole = (w.events ++ begin ∷ []) ++ x.events ++ last ∷ [] in
    let e : whole ≡ w.events ++ begin ∷ (x.events ++ last ∷ []) = append_assoc (w.events ++ begin ∷ []) x.events (last ∷ []) ∙ append_assoc w.events (begin ∷ []) (x.events ++ last ∷ []) in
    let f : edited (ended j) (length w.events) whole ≡ (w.events ++ ended j begin ∷ []) ++ x.events ++ last ∷ [] =
    ap (λ z. edited (ended j) (length w.events) z) e ∙ edited_here (ended j) w.events begin (x.events ++ last ∷ [])
    ∙ sym (append_assoc w.events (ended j begin ∷ []) (x.events ++ last ∷ [])) ∙ sym (append_assoc (w.events ++ ended j begin ∷ []) x.events (last ∷ [])) in
    let r = noted_ended j (length w.events) (noted_more p.events q) in
    record {
      events = subst (λ z. NotesFilled t kept z new.events) f (subst (λ z. NotesFilled t kept (edited (ended j) (length w.events) whole) z) (sym a) r);
      comments = b ∙ p.comments ∙ sym (append-nil ((w.comments ++ []) ++ x.comments));
      escapes = c ∙ p.escapes ∙ sym (append-nil ((w.escapes ++ []) ++ x.escapes));
    }

pub cons_parts : {X : Type 0} {a b : X} {x y : List X} → a ∷ x ≡ b ∷ y → (a ≡ b) × (x ≡ y)
cons_parts e = (cc, cc)

pub start_of_node : {t : List ℕ} {n : ℤ} {d : Ctx} {p k : ℕ} {b : Before} → NodeOver t n d p k b → NodeStart b p k
start_of_node (bare_there q) = refl
start_of_node (properties_there q s c) = refl

pub frame_depth : {total e h g m k : ℕ} {sequence pair : Bool} {f : Frame} {rest : List Frame} → FramesOfEntry total sequence pair e h g m k f rest → f.depth + e ≡ total
frame_depth (of_collection c) = c.room
frame_depth (of_pair p c) = p.room

module _ {t : List ℕ} {n : ℤ} {d : Ctx} {base : Base} where
  -- the node of the entry around it
  pub closed_into : {frames rest : List Frame} {sequence : Bool} {i e l : ℕ} {c : Ctx} {w : Meaning} {begin : EventInText} {outer : Frame} {part : Part} (node : Node) (h k : ℕ) (x : Meaning)
      → Below t n d base frames sequence i c e w begin → frames ≡ outer ∷ rest → e ≡ suc l → Parses t e (AContent n c i) (Some (ended_at sequence i h x k))
      → node.end ≡ k + 1 → node.json ≡ true → node.deepest + l ≡ base.total + h
      → PartSoFar t (first_events base) (entries_written w (ended (k + 1) begin) x ⊕ one (plain_event (end_of sequence) None)) part → AtEnded t n d base rest outer node part
  closed_into node h k x (outermost b) q y r a j v p = absurd (no_cons q)
  closed_into {rest = rest} {sequence = sequence} {i} {e} {l} {outer = outer} {part = part} node h k x (inside {frames = under} {rest = more} {i = i'} {h = h'} {s = s} {g = g} {p = place} {c = c'} {w = w'} {x = x'} {y = y'} {begin = begin'} {sequence = sequence'} {pair = pair} {role = role} {b = b} below entries stays aw framed ro fi ix ov al) q y r a j v p =
      let z = cons_parts (sym al ∙ q) in
      let f = ended_at sequence i h x k in
      let dep = frame_depth framed in
      let written = written_same (closed_same (entry_written w' begin' x' pair s y') x (in_role role s (over b (collection sequence true i (k + 1) x))) (comments_before b)
      (ended (k + 1) (opened_event place b (entry_of role s) sequence i)) (plain_event (end_of sequence) None) (k + 1) (ended_meaning role b s place i (k + 1) sequence x (start_of_node ov))) p in
      subst (λ o. AtEnded t n d base rest o node part) z.0 (record {
        layer = record { sequence = sequence'; place = i'; context = c'; pair = pair; limit = e; high = h'; before = w'; begin = begin'; known = x'; start = s; under = under };
        height = g;
        read = y';
        place = place;
        answer = record f { meaning = over b f.meaning };
        tied = record { rest = more; below = below; entries = entries; open_there = stays; framed = framed; all = sym z.1 };
        awaited = subst (λ o. NodeIn t n d s o sequence' e pair place g y') (sym ro) aw;
        entry = fi;
        index = λ q. ix (λ r. q (ro ∙ r));
        parsed = over_some f ov r;
        end = a;
        json = j;
        deepest = omega (arith, dep, y, v);
        finish = over_finish b sequence i (k + 1) x;
        written = subst (λ o. PartSoFar t (first_events base) (entry_written w' begin' x' pair s (y' ⊕ in_role o s (over b (collection sequence true i (k + 1) x)))) part) (sym ro)
            (written_as (entry_more w' begin' x' pair s y' (in_role role s (over b (collection sequence true i (k + 1) x)))) written);
      })

  -- or the outermost one
  pub closed_base : {frames : List Frame} {sequence : Bool} {i e l : ℕ} {c : Ctx} {w : Meaning} {begin : EventInText} {part : Part} (node : Node) (h k : ℕ) (x : Meaning)
      → Below t n d base frames sequence i c e w begin → frames ≡ [] → e ≡ suc l → Parses t e (AContent n c i) (Some (ended_at sequence i h x k))
      → node.end ≡ k + 1 → node.json ≡ true → node.deepest + l ≡ base.total + h
      → PartSoFar t (first_events base) (entries_written w (ended (k + 1) begin) x ⊕ one (plain_event (end_of sequence) None)) part → AtDone t n base node part
  closed_base {sequence = sequence} {i} {e} {c = c} {w = w} {begin = begin} {part = part} node h k x (outermost b) q y r a j v p = record {
    high = h;
    known = x;
    bracket = k;
    parsed = subst (λ z. Parses t z (AContent n base.context base.place) (Some (ended_at base.sequence base.place h x k))) b.limit
        (subst (λ z. Parses t e (AContent n z base.place) (Some (ended_at base.sequence base.place h x k))) b.context
        (subst (λ z. Parses t e (AContent n c z) (Some (ended_at base.sequence z h x k))) b.place (subst (λ z. Parses t e (AContent n c i) (Some (ended_at z i h x k))) b.sequence_flag r)));
    end = a;
    json = j;
    deepest = omega (arith, y, v, b.limit);
    written = subst (λ z. PartSoFar t (first_events base) (entries_written base.written (ended (k + 1) base.event) x ⊕ one (plain_event (end_of z) None)) part) b.sequence_flag
        (subst (λ z. PartSoFar t (first_events base) (entries_written base.written (ended (k + 1) z) x ⊕ one (plain_event (end_of sequence) None)) part) b.event
        (subst (λ z. PartSoFar t (first_events base) (entries_written z (ended (k + 1) begin) x ⊕ one (plain_event (end_of sequence) None)) part) b.written p));
  }
  closed_base node h k x (inside below entries stays aw framed ro fi ix ov al) q y r a j v p = absurd (no_cons (sym q ∙ al))

end_kind : (sequence : Bool) (kind : CollectionKind) → kind ≡ kind_of sequence → end_event kind ≡ end_of sequence
unfolding end_event
end_kind true kind e = ap end_event e
end_kind false kind e = ap end_event e

pub ends_noted : (t : List ℕ) (sequence : Bool) → NoteFilled t (plain_event (end_of sequence) None) (entry_event (end_of sequence) None)
unfolding plain_event
ends_noted t true = record { no_lines = refl; note = entryless refl }
ends_noted t false = record { no_lines = refl; note = entryless refl }

-- the step
module _ {t : List ℕ} {n : ℤ} {d : Ctx} {base : Base} {frames : List Frame} {top : Frame} {k : ℕ} {old new : Part} (a : AtClosing t n d base frames top k old) (x : new.events ≡ edited (ended (k + 1)) top.event (old.events ++ entry_event (end_event top.kind) None ∷ [])) (y : new.comments ≡ old.comments) (z : new.escapes ≡ old.escapes) where
  closing_written : PartSoFar t (first_events base) (entries_written a.before (ended (k + 1) a.begin) a.known ⊕ one (plain_event (end_of a.sequence) None)) new
  closing_written =
      ended_written a.before a.known a.begin (k + 1) (end_of a.sequence) a.written (ends_noted t a.sequence)
      (x ∙ ap (λ i. edited (ended (k + 1)) i (old.events ++ entry_event (end_event top.kind) None ∷ [])) a.frame.event
      ∙ ap (λ v. edited (ended (k + 1)) (length a.before.events) (old.events ++ entry_event v None ∷ [])) (end_kind a.sequence top.kind a.frame.kind)) y z

  pub close_into : (outer : Frame) (rest : List Frame) → frames ≡ outer ∷ rest → AtEnded t n d base rest outer (record { end = k + 1; json = true; deepest = top.deepest }) new
  close_into outer rest q =
      closed_into (record { end = k + 1; json = true; deepest = top.deepest }) a.high k a.known a.below q refl a.parsed refl refl (omega (arith, a.frame)) closing_written

  pub close_base : frames ≡ [] → AtDone t n base (record { end = k + 1; json = true; deepest = top.deepest }) new
  close_base q = closed_base (record { end = k + 1; json = true; deepest = top.deepest }) a.high k a.known a.below q refl a.parsed refl refl (omega (arith, a.frame)) closing_written

-- frames in the order of a stack
pub popped : {X : Type 0} (old new : List X) (x : X) → old ≡ new ++ x ∷ [] → reverse old ≡ x ∷ reverse new
popped old new x e = ap reverse e ∙ reverse-append new (x ∷ [])

pub none_left : {X : Type 0} (old : List X) → (0 < length old → ⊥) → reverse old ≡ []
none_left [] f = refl
none_left (x ∷ old) f = absurd (f (omega arith))
