-- A collection that ends is a node of the entry around it, or the outermost one; and the events at its end.
use Rattle.std.proofs.Common.{◌≡◌, ℕ, Bool, true, false, List, [], ◌∷◌, ◌++◌, length, Option, Some, None, refl, sym, ap, ◌∙◌, subst, append_assoc, append-nil, true≢false}
use Rattle.yf_comments.specs.Comment.{CommentValue}
use Rattle.yf_events.specs.Event.{EventInText}
use Rattle.yf_events.specs.Edit.{edited, ended}
use Rattle.yf_events.specs.declared.part.Part.{Part}
use Rattle.yf_grammar.specs.Productions.Meaning.{Meaning, ◌⊕◌, meaning_after, noting, plain_event, from_to, start_of, end_of, event_with, collection, with_props, entering, empty_node}
use Rattle.yf_grammar.specs.Productions.ReadParts.{Noting}
use Rattle.yf_grammar.specs.Productions.ReadParts.Noting.{no_event, without_entry}
use Rattle.yf_grammar.specs.FlowReader.Parser.{ParsedNode, only}
use Rattle.yf_grammar.specs.BlockReader.BlockParser.{Ahead, Nothing, Indicator, Props, headed, BlockTask}
use Rattle.yf_grammar.specs.BlockReader.BlockStack.{Layer, Stage, AtItem, AtKey, AtLoneValue, AtValue, asks, entry_made, collection_made, Around, in_entry, in_key}
use Rattle.yf_flow.specs.NodeStarts.{entry_event}
use Rattle.yf_block.specs.declared.frame.Frame.{Frame}
use Rattle.yf_block.specs.declared.frame.CollectionKind.{CollectionKind}
use Rattle.yf_block.specs.declared.frame.BlockCursor.{BlockCursor}
use Rattle.yf_block.specs.CollectionEnds.{value_missing, end_event, closing}
use Rattle.yf_block.specs.BlockTied.{kind_of, stage_entry, layers_entry, begins, stage_written, ahead_comments, ahead_props, ahead_tag, ahead_start, entry_at, begun_event, all_written, floor_after, ReadTied, FrameTied}
use Rattle.yf_block.proofs.Ends.NotingLemmas.{floor_more, Keeps, floor_kept, edited_after, noting_more, noting_ended}
use Rattle.yf_block.proofs.Stack.TiedOpenings.{begun_floor}

-- the events at the end change no floor, and begin no entry
module _ {t : List ℕ} where
  pub noting_value : (floor : ℕ) (b : Bool) (z y : List EventInText) → Noting t floor z y → Noting t floor (value_missing b ++ z) (value_missing b ++ y)
  noting_value floor true z y n = without_entry refl n
  noting_value floor false z y n = n

  noting_end : (floor : ℕ) (s : Bool) → Noting t floor (entry_event (end_of s) None ∷ []) (entry_event (end_of s) None ∷ [])
  noting_end floor true = without_entry refl no_event
  noting_end floor false = without_entry refl no_event

pub floor_value : (floor : ℕ) (b : Bool) (z : List EventInText) → floor_after floor (value_missing b ++ z) ≡ floor_after floor z
floor_value floor true z = refl
floor_value floor false z = refl

floor_end : (floor : ℕ) (s : Bool) → floor_after floor (entry_event (end_of s) None ∷ []) ≡ floor
floor_end floor true = refl
floor_end floor false = refl

pub begun_keeps : (j : ℕ) (l : Layer) (o : Option ℕ) → Keeps (ended j) (begun_event l (entry_at o))
begun_keeps j l o floor =
    begun_floor floor l.sequence (ahead_props l.ahead) (ended j (begun_event l (entry_at o))) ∙ sym (begun_floor floor l.sequence (ahead_props l.ahead) (begun_event l (entry_at o)))

-- the present entry with its awaited node, and an empty value if it awaits its `:`
pub stage_events : (s : Stage) (f : ParsedNode) → ((stage_written s).events ++ (begins (stage_entry s) f.meaning).events) ++ value_missing (asks s) ≡ (entry_made s f).meaning.events
unfolding only entering empty_node ◌⊕◌ plain_event
stage_events (AtItem i) f = append-nil (entering i None f.meaning).events
stage_events (AtKey i) f = refl
stage_events (AtLoneValue i) f = append-nil ((entering i (Some i) (empty_node i)).events ++ f.meaning.events)
stage_events (AtValue i k g) f = append-nil ((entering i (Some k) g.meaning).events ++ f.meaning.events)

pub stage_comments : (s : Stage) (f : ParsedNode) → (stage_written s).comments ++ (begins (stage_entry s) f.meaning).comments ≡ (entry_made s f).meaning.comments
unfolding only entering empty_node ◌⊕◌
stage_comments (AtItem i) f = refl
stage_comments (AtKey i) f = sym (append-nil f.meaning.comments)
stage_comments (AtLoneValue i) f = refl
stage_comments (AtValue i k g) f = refl

pub stage_escapes : (s : Stage) (f : ParsedNode) → (stage_written s).escapes ++ (begins (stage_entry s) f.meaning).escapes ≡ (entry_made s f).meaning.escapes
unfolding only entering empty_node ◌⊕◌
stage_escapes (AtItem i) f = refl
stage_escapes (AtKey i) f = sym (append-nil f.meaning.escapes)
stage_escapes (AtLoneValue i) f = refl
stage_escapes (AtValue i k g) f = refl

pub stage_finish : (s : Stage) (f : ParsedNode) → (entry_made s f).meaning.finish ≡ f.meaning.finish
unfolding entering empty_node ◌⊕◌
stage_finish (AtItem i) f = refl
stage_finish (AtKey i) f = refl
stage_finish (AtLoneValue i) f = refl
stage_finish (AtValue i k g) f = refl

-- the collection made of entries
abbrev made : Option ℕ → List CommentValue → Ahead → Bool → ℕ → ℕ → Meaning → Meaning
made o cs a s p j x = begins o (meaning_after cs (headed a (collection s false p j x)))

abbrev first_event : Option ℕ → Ahead → Bool → ℕ → ℕ → EventInText
first_event o a s p j = record {
  event = event_with (ahead_props a) (start_of s false);
  span = Some (record { start = ahead_start a p; end = j });
  tag_offset = ahead_tag a;
  entry = entry_at o;
  folded = [];
}

made_events : (o : Option ℕ) (cs : List CommentValue) (a : Ahead) (s : Bool) (p j : ℕ) (x : Meaning)
    → first_event o a s p j ∷ (x.events ++ entry_event (end_of s) None ∷ []) ≡ (made o cs a s p j x).events
unfolding meaning_after headed collection with_props entering plain_event from_to
made_events None cs Nothing true p j x = refl
made_events None cs Nothing false p j x = refl
made_events None cs (Indicator i) true p j x = refl
made_events None cs (Indicator i) false p j x = refl
made_events None cs (Props h) true p j x = refl
made_events None cs (Props h) false p j x = refl
made_events (Some k) cs Nothing true p j x = refl
made_events (Some k) cs Nothing false p j x = refl
made_events (Some k) cs (Indicator i) true p j x = refl
made_events (Some k) cs (Indicator i) false p j x = refl
made_events (Some k) cs (Props h) true p j x = refl
made_events (Some k) cs (Props h) false p j x = refl

made_comments : (o : Option ℕ) (cs : List CommentValue) (a : Ahead) (s : Bool) (p j : ℕ) (x : Meaning) → (cs ++ ahead_comments a) ++ x.comments ≡ (made o cs a s p j x).comments
unfolding meaning_after headed collection with_props entering
made_comments None cs Nothing s p j x = ap (λ z. z ++ x.comments) (append-nil cs)
made_comments None cs (Indicator i) s p j x = ap (λ z. z ++ x.comments) (append-nil cs)
made_comments None cs (Props h) s p j x = append_assoc cs h.value.comments x.comments
made_comments (Some k) cs Nothing s p j x = ap (λ z. z ++ x.comments) (append-nil cs)
made_comments (Some k) cs (Indicator i) s p j x = ap (λ z. z ++ x.comments) (append-nil cs)
made_comments (Some k) cs (Props h) s p j x = append_assoc cs h.value.comments x.comments

made_escapes : (o : Option ℕ) (cs : List CommentValue) (a : Ahead) (s : Bool) (p j : ℕ) (x : Meaning) → x.escapes ≡ (made o cs a s p j x).escapes
unfolding meaning_after headed collection with_props entering
made_escapes None cs Nothing s p j x = refl
made_escapes None cs (Indicator i) s p j x = refl
made_escapes None cs (Props h) s p j x = refl
made_escapes (Some k) cs Nothing s p j x = refl
made_escapes (Some k) cs (Indicator i) s p j x = refl
made_escapes (Some k) cs (Props h) s p j x = refl

made_finish : (cs : List CommentValue) (a : Ahead) (s : Bool) (p j : ℕ) (x : Meaning) → (meaning_after cs (headed a (collection s false p j x))).finish ≡ j
unfolding meaning_after headed collection with_props
made_finish cs Nothing s p j x = refl
made_finish cs (Indicator i) s p j x = refl
made_finish cs (Props h) s p j x = refl

-- lists joined in another way
regrouped_events : (w k s i v z g : List EventInText) (e : EventInText) → (s ++ i) ++ v ≡ g → ((((w ++ e ∷ []) ++ k) ++ s) ++ i) ++ (v ++ z) ≡ w ++ e ∷ ((k ++ g) ++ z)
regrouped_events w k s i v z g e q =
    append_assoc (((w ++ e ∷ []) ++ k) ++ s) i (v ++ z) ∙ append_assoc ((w ++ e ∷ []) ++ k) s (i ++ (v ++ z)) ∙ append_assoc (w ++ e ∷ []) k (s ++ (i ++ (v ++ z)))
    ∙ append_assoc w (e ∷ []) (k ++ (s ++ (i ++ (v ++ z))))
    ∙ ap (λ y. w ++ e ∷ y) (ap (λ y. k ++ y) (sym (append_assoc s i (v ++ z)) ∙ sym (append_assoc (s ++ i) v z) ∙ ap (λ y. y ++ z) q) ∙ sym (append_assoc k g z))

pub regrouped_lists : {X : Type 0} (w c k s i g : List X) → s ++ i ≡ g → ((((w ++ c) ++ []) ++ k) ++ s) ++ i ≡ w ++ (c ++ (k ++ g))
regrouped_lists w c k s i g q =
    ap (λ y. ((y ++ k) ++ s) ++ i) (append-nil (w ++ c)) ∙ append_assoc ((w ++ c) ++ k) s i ∙ ap (λ y. ((w ++ c) ++ k) ++ y) q
    ∙ append_assoc (w ++ c) k g ∙ append_assoc w c (k ++ g)

end_kind : (s : Bool) (k : CollectionKind) → k ≡ kind_of s → end_event k ≡ end_of s
end_kind true k e = ap end_event e
end_kind false k e = ap end_event e

-- a collection that awaits a `:` is a mapping
pub asks_mapping : {t : List ℕ} {d : ℕ} {root : BlockTask} {l : Layer} {ls : List Layer} {e : ℕ} {inner : BlockTask} {r : Option ParsedNode} → Around t d root (l ∷ ls) e inner r
    → asks l.stage ≡ true → l.sequence ≡ false
asks_mapping (in_entry a n y s) q = absurd (true≢false (sym q ∙ s))
asks_mapping (in_key a n u k s) q = s

module _ {t : List ℕ} {before old new : Part} {progress : BlockCursor} (l : Layer) (ls : List Layer) (answer : ParsedNode) (f : Frame) (u : FrameTied (length before.events) l ls f)
    (r : ReadTied t before (all_written (l ∷ ls) ⊕ begins (stage_entry l.stage) answer.meaning) progress old) (last : progress.last ≡ answer.meaning.finish)
    (x : new.events ≡ edited (ended progress.last) f.event (old.events ++ closing f)) (y : new.comments ≡ old.comments) (z : new.escapes ≡ old.escapes) where
  abbrev entry : ParsedNode
  entry = entry_made l.stage answer

  abbrev inner : Meaning
  inner = l.known ⊕ entry.meaning

  abbrev outer : Meaning
  outer = begins (layers_entry ls) (collection_made l entry).meaning

  abbrev tail : List EventInText
  tail = value_missing (asks l.stage) ++ entry_event (end_of l.sequence) None ∷ []

  abbrev begin : EventInText
  begin = begun_event l (entry_at (layers_entry ls))

  closing_is : closing f ≡ tail
  closing_is = ap (λ b. value_missing b ++ entry_event (end_event f.kind) None ∷ []) u.awaits ∙ ap (λ v. value_missing (asks l.stage) ++ entry_event v None ∷ []) (end_kind l.sequence f.kind u.collection.kind)

  inner_finish : progress.last ≡ inner.finish
  unfolding ◌⊕◌
  inner_finish = last ∙ sym (stage_finish l.stage answer)

  outer_events : ended progress.last begin ∷ (inner.events ++ entry_event (end_of l.sequence) None ∷ []) ≡ outer.events
  outer_events =
      ap (λ (j : ℕ). ended j begin ∷ (inner.events ++ entry_event (end_of l.sequence) None ∷ [])) inner_finish
      ∙ made_events (layers_entry ls) l.comments l.ahead l.sequence l.first inner.finish inner

  read_events : (all_written (l ∷ ls) ⊕ begins (stage_entry l.stage) answer.meaning).events ++ tail ≡ (all_written ls).events ++ begin ∷ (inner.events ++ entry_event (end_of l.sequence) None ∷ [])
  unfolding ◌⊕◌ noting
  read_events = regrouped_events (all_written ls).events l.known.events (stage_written l.stage).events (begins (stage_entry l.stage) answer.meaning).events (value_missing (asks l.stage))
      (entry_event (end_of l.sequence) None ∷ []) entry.meaning.events begin (stage_events l.stage answer)

  whole_events : (all_written ls).events ++ ended progress.last begin ∷ (inner.events ++ entry_event (end_of l.sequence) None ∷ []) ≡ (all_written ls ⊕ outer).events
  unfolding ◌⊕◌
  whole_events = ap (λ v. (all_written ls).events ++ v) outer_events

  ended_noting : Noting t 0 (all_written ls ⊕ outer).events (edited (ended progress.last) (length (all_written ls).events) (r.written.events ++ tail))
  ended_noting =
      subst (λ v. Noting t 0 v (edited (ended progress.last) (length (all_written ls).events) (r.written.events ++ tail))) whole_events
      (noting_ended (all_written ls).events begin (inner.events ++ entry_event (end_of l.sequence) None ∷ []) progress.last (begun_keeps progress.last l (layers_entry ls))
      (subst (λ v. Noting t 0 v (r.written.events ++ tail)) read_events (noting_more r.written.noting (noting_value _ (asks l.stage) _ _ (noting_end _ l.sequence)))))

  ended_events : new.events ≡ before.events ++ edited (ended progress.last) (length (all_written ls).events) (r.written.events ++ tail)
  ended_events =
      x ∙ ap (λ v. edited (ended progress.last) f.event (old.events ++ v)) closing_is ∙ ap (λ v. edited (ended progress.last) f.event (v ++ tail)) r.written.added.events
      ∙ ap (λ v. edited (ended progress.last) f.event v) (append_assoc before.events r.written.events tail)
      ∙ edited_after (ended progress.last) before.events (length (all_written ls).events) f.event (r.written.events ++ tail) u.collection.event

  ended_comments : (all_written (l ∷ ls) ⊕ begins (stage_entry l.stage) answer.meaning).comments ≡ (all_written ls ⊕ outer).comments
  unfolding ◌⊕◌ noting
  ended_comments =
      regrouped_lists (all_written ls).comments (l.comments ++ ahead_comments l.ahead) l.known.comments (stage_written l.stage).comments (begins (stage_entry l.stage) answer.meaning).comments
      entry.meaning.comments (stage_comments l.stage answer)
      ∙ ap (λ v. (all_written ls).comments ++ v) (made_comments (layers_entry ls) l.comments l.ahead l.sequence l.first inner.finish inner)

  ended_escapes : (all_written (l ∷ ls) ⊕ begins (stage_entry l.stage) answer.meaning).escapes ≡ (all_written ls ⊕ outer).escapes
  unfolding ◌⊕◌ noting
  ended_escapes =
      ap (λ v. (((v ++ l.known.escapes) ++ (stage_written l.stage).escapes) ++ (begins (stage_entry l.stage) answer.meaning).escapes)) (append-nil (all_written ls).escapes)
      ∙ append_assoc ((all_written ls).escapes ++ l.known.escapes) (stage_written l.stage).escapes (begins (stage_entry l.stage) answer.meaning).escapes
      ∙ ap (λ v. ((all_written ls).escapes ++ l.known.escapes) ++ v) (stage_escapes l.stage answer)
      ∙ append_assoc (all_written ls).escapes l.known.escapes entry.meaning.escapes
      ∙ ap (λ v. (all_written ls).escapes ++ v) (made_escapes (layers_entry ls) l.comments l.ahead l.sequence l.first inner.finish inner)

  ended_floor : progress.floor ≡ floor_after 0 (all_written ls ⊕ outer).events
  ended_floor =
      r.floor ∙ sym (floor_value (floor_after 0 (all_written (l ∷ ls) ⊕ begins (stage_entry l.stage) answer.meaning).events) (asks l.stage) (entry_event (end_of l.sequence) None ∷ []) ∙ floor_end _ l.sequence)
      ∙ sym (floor_more 0 (all_written (l ∷ ls) ⊕ begins (stage_entry l.stage) answer.meaning).events tail) ∙ ap (λ v. floor_after 0 v) read_events
      ∙ sym (floor_kept (ended progress.last) 0 (all_written ls).events begin (inner.events ++ entry_event (end_of l.sequence) None ∷ []) (begun_keeps progress.last l (layers_entry ls)))
      ∙ ap (λ v. floor_after 0 v) whole_events

  pub closed_read : ReadTied t before (all_written ls ⊕ outer) progress new
  closed_read = record {
    text = r.text;
    floor = ended_floor;
    floor_line = r.floor_line;
    written = record {
      events = edited (ended progress.last) (length (all_written ls).events) (r.written.events ++ tail);
      noting = ended_noting;
      added = record {
        events = ended_events;
        comments = y ∙ r.written.added.comments ∙ ap (λ v. before.comments ++ v) ended_comments;
        escapes = z ∙ r.written.added.escapes ∙ ap (λ v. before.escapes ++ v) ended_escapes;
      };
    };
  }

  pub closed_finish : progress.last ≡ (collection_made l entry).meaning.finish
  closed_finish = inner_finish ∙ sym (made_finish l.comments l.ahead l.sequence l.first inner.finish inner)
