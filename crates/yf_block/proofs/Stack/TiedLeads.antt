-- A node on a line as it was written: its first event with the node's lead, and the notes of its entries.
use Rattle.std.proofs.Common.{◌≡◌, ℕ, ℤ, ◌+◌, ◌≤◌, true, false, List, [], ◌∷◌, ◌++◌, Option, Some, None, refl, sym, ap, ◌∙◌, subst, arith, append_assoc, append-nil, ⊎_elim}
use Rattle.std.proofs.lemmas.Bool.{cases_Bool}
use Rattle.std.proofs.lemmas.Option.{same_Some}
use Rattle.std.specs.Str.{IsUtf8}
use Rattle.yf_chars.specs.declared.context.Ctx.TheVariants.{FlowOut}
use Rattle.yf_chars.specs.Text.{code}
use Rattle.yf_chars.specs.Chain.{Stuck}
use Rattle.yf_chars.proofs.Tests.{none_some, some_none}
use Rattle.yf_comments.specs.Comment.{CommentValue}
use Rattle.yf_comments.specs.Comments.{LineEnd}
use Rattle.yf_props.specs.Names.{PropertiesValue}
use Rattle.yf_props.specs.Props.{props_value}
use Rattle.yf_events.specs.Event.{EventValue, EventInText}
use Rattle.yf_events.specs.declared.event.Entry as TheEntry
use Rattle.yf_events.specs.declared.event.Span.{Span}
use Rattle.yf_events.specs.declared.part.Part.{Part}
use Rattle.yf_grammar.specs.Productions.Meaning.{Meaning, ◌⊕◌, meaning_after, plain_event, from_to, event_with, with_props, first_with, span_since, entering, empty_node}
use Rattle.yf_grammar.specs.Productions.ReadParts.{Noting}
use Rattle.yf_grammar.specs.Productions.ReadParts.Noting.{without_entry, with_entry}
use Rattle.yf_grammar.specs.FlowReader.Parser.{ParsedNode, ANode, Parses, begins_properties, propertied}
use Rattle.yf_grammar.proofs.FlowStack.AwaitEntries.{found_is}
use Rattle.yf_grammar.proofs.BlockContent.FlowLeaves.{plain_begins}
use Rattle.yf_grammar.proofs.Ends.GapLemmas.{Visible}
use Rattle.yf_grammar.proofs.FlowReader.NodeExact.{lone_is}
use Rattle.yf_grammar.proofs.Ends.NodeExits.{content_no_properties, plain_no_properties}
use Rattle.yf_flow.specs.NodeStarts.{PartGrown, ContentAt, content_there, plain_there, plain_missing, is_lined, lead_event, bare_lead}
use Rattle.yf_flow.specs.ContentAnswers.{WrittenWith}
use Rattle.yf_flow.specs.StackMeaning.{NotesFilled, no_events, event_before}
use Rattle.yf_flow.specs.declared.frame.Node.{Node}
use Rattle.yf_flow.specs.declared.node.Lead.{Lead}
use Rattle.yf_flow.proofs.Content.EntriesFrom.{EntriesFrom, one_from}
use Rattle.yf_flow.proofs.Ends.NotedFloor.{noting_later}
use Rattle.yf_flow.proofs.Ends.NotedLemmas.{floor_same}
use Rattle.yf_block.specs.declared.frame.BlockCursor.{BlockCursor}
use Rattle.yf_block.specs.declared.properties.PlacedProperties.{PlacedProperties}
use Rattle.yf_block.specs.PropertiesAnswers.{held_lead, LineProperties, PlaceAfter}
use Rattle.yf_block.specs.InlineAnswers.{InlineRead, content_read, alias_read, empty_key_read}
use Rattle.yf_block.specs.BlockTied.{begins, floor_after, ReadTied, EntryTied, no_entry, entry_begins}
use Rattle.yf_block.proofs.Ends.KeyNodes.{content_node, content_found, lone_found}
use Rattle.yf_block.proofs.Ends.NotingLemmas.{floor_more, noting_more}

-- a meaning is written after the contents of a part: its first event begins an entry, the others have their notes
pub record WrittenAs (t : List ℕ) (entry : Option TheEntry.Entry) (x : Meaning) (old new : Part) : Type 0 where
  pub first : EventInText
  pub others : List EventInText
  pub noted_others : List EventInText
  pub events : x.events ≡ first ∷ others
  pub entryless : first.entry ≡ None
  pub no_lines : is_lined first.event ≡ false
  pub noted : NotesFilled t 0 others noted_others
  pub added : PartGrown old new (record first { entry = entry } ∷ noted_others) x.comments x.escapes

-- the events of a meaning that begins an entry
pub begins_events : (o : Option ℕ) (x : Meaning) {e : EventInText} {es : List EventInText} → x.events ≡ e ∷ es → (begins o x).events ≡ (begins o (record { events = e ∷ es; comments = []; escapes = []; finish = 0 })).events
unfolding entering
begins_events None x q = q
begins_events (Some i) x q = ap (λ z. (entering i None (record { events = z; comments = []; escapes = []; finish = 0 })).events) q

pub begins_comments : (o : Option ℕ) (x : Meaning) → (begins o x).comments ≡ x.comments
unfolding entering
begins_comments None x = refl
begins_comments (Some i) x = refl

pub begins_escapes : (o : Option ℕ) (x : Meaning) → (begins o x).escapes ≡ x.escapes
unfolding entering
begins_escapes None x = refl
begins_escapes (Some i) x = refl

entry_kept : (e : EventInText) → e.entry ≡ None → record e { entry = None } ≡ e
entry_kept e q = ap (λ z. record e { entry = z }) (sym q)

-- an event of a flow node doesn't move the floor, whether it begins an entry or not
module _ {t : List ℕ} where
  pub first_noted : {floor : ℕ} {o : Option ℕ} {entry : Option TheEntry.Entry} (e : EventInText) (es fs : List EventInText) → EntryTied t floor o entry → e.entry ≡ None → is_lined e.event ≡ false
      → Noting t floor es fs → Noting t floor (begins o (record { events = e ∷ es; comments = []; escapes = []; finish = 0 })).events (record e { entry = entry } ∷ fs)
  unfolding entering
  first_noted {floor} e es fs no_entry q l n =
      subst (λ z. Noting t floor (e ∷ es) (z ∷ fs)) (sym (entry_kept e q)) (without_entry q (subst (λ z. Noting t z es fs) (sym (floor_same floor e e.event l)) n))
  first_noted {floor} e es fs (entry_begins {i = i} {b = b} s) q l n =
      let first : EventInText = record e { entry = Some (record { start = i; colon = None; blank_before = false }) } in
      with_entry {e = first} (record { start = i; colon = None; blank_before = false }) refl s (subst (λ z. Noting t z es fs) (sym (floor_same floor first e.event l)) n)

pub rest_from : {i : ℕ} {e : EventInText} {es zs : List EventInText} → EntriesFrom i zs → zs ≡ e ∷ es → EntriesFrom i es
rest_from {i} {e} {es} f q = go (subst (λ z. EntriesFrom i z) q f) where
  go : EntriesFrom i (e ∷ es) → EntriesFrom i es
  go (one_from g r) = r

-- events of flow nodes don't move the floor
pub floor_others : {t : List ℕ} (floor : ℕ) {xs ys : List EventInText} → NotesFilled t 0 xs ys → floor_after floor xs ≡ floor
floor_others floor no_events = refl
floor_others floor (event_before {e = e} {x = x} n r) = ap (λ z. floor_after z x) (floor_same floor e e.event n.no_lines) ∙ floor_others floor r

pub first_floor : (floor : ℕ) (o : Option ℕ) (e : EventInText) (es : List EventInText) → is_lined e.event ≡ false
    → floor_after floor (begins o (record { events = e ∷ es; comments = []; escapes = []; finish = 0 })).events ≡ floor_after floor es
unfolding entering
first_floor floor None e es l = ap (λ z. floor_after z es) (floor_same floor e e.event l)
first_floor floor (Some i) e es l =
    let first : EventInText = record e { entry = Some (record { start = i; colon = None; blank_before = false }) } in
    ap (λ z. floor_after z es) (floor_same floor first e.event l)

module _ {t : List ℕ} {before : Part} {w : Meaning} {progress : BlockCursor} {old : Part} (r : ReadTied t before w progress old) where
  -- a meaning without block scalars is added
  pub read_added : {new : Part} {fs : List EventInText} {cs : List CommentValue} {bad : List ℕ} (m : Meaning) → Noting t progress.floor m.events fs → floor_after progress.floor m.events ≡ progress.floor
      → PartGrown old new fs cs bad → m.comments ≡ cs → m.escapes ≡ bad → ReadTied t before (w ⊕ m) progress new
  unfolding ◌⊕◌
  read_added {fs = fs} {cs} {bad} m n k a p q = record {
    text = r.text;
    floor = sym k ∙ ap (λ (f : ℕ). floor_after f m.events) r.floor ∙ sym (floor_more 0 w.events m.events);
    floor_line = r.floor_line;
    written = record {
      events = r.written.events ++ fs;
      noting = noting_more r.written.noting (subst (λ f. Noting t f m.events fs) r.floor n);
      added = record {
        events = a.events ∙ ap (λ z. z ++ fs) r.written.added.events ∙ append_assoc before.events r.written.events fs;
        comments = a.comments ∙ ap (λ z. z ++ cs) r.written.added.comments ∙ append_assoc before.comments w.comments cs ∙ ap (λ z. before.comments ++ (w.comments ++ z)) (sym p);
        escapes = a.escapes ∙ ap (λ z. z ++ bad) r.written.added.escapes ∙ append_assoc before.escapes w.escapes bad ∙ ap (λ z. before.escapes ++ (w.escapes ++ z)) (sym q);
      };
    };
  }

  -- a flow node that begins at p, perhaps as an entry
  pub node_added : {p : ℕ} {o : Option ℕ} {entry : Option TheEntry.Entry} {x : Meaning} {new : Part} → progress.floor ≤ p → Visible t p → EntriesFrom (p + 1) x.events → EntryTied t progress.floor o entry
      → WrittenAs t entry x old new → ReadTied t before (w ⊕ begins o x) progress new
  node_added {p} {o} {entry} {x} l v f e a =
      let events = begins_events o x a.events in
      let noting : Noting t progress.floor (begins o x).events (record a.first { entry = entry } ∷ a.noted_others) =
      subst (λ z. Noting t progress.floor z (record a.first { entry = entry } ∷ a.noted_others)) (sym events)
      (first_noted a.first a.others a.noted_others e a.entryless a.no_lines (noting_later r.text.utf8 v l (rest_from f a.events) a.noted)) in
      let still : floor_after progress.floor (begins o x).events ≡ progress.floor =
      ap (λ z. floor_after progress.floor z) events ∙ first_floor progress.floor o a.first a.others a.no_lines ∙ floor_others progress.floor a.noted in
      read_added (begins o x) noting still a.added (begins_comments o x) (begins_escapes o x)

-- the event of a node with its lead
abbrev pub known_event : Lead → EventValue → ℕ → EventInText
known_event lead event j = lead_event (record lead { entry = None }) (event_with (props_value lead.props) event) j

module _ {t : List ℕ} {lead : Lead} {x : Meaning} {end : ℕ} {old new : Part} where
  -- events written with a lead are the meaning y, if the first event is
  pub written_as : {span : Option Span} (w : WrittenWith t lead x span end old new) (y : Meaning) → y.events ≡ known_event lead w.event end ∷ w.others → y.comments ≡ x.comments → y.escapes ≡ x.escapes
      → WrittenAs t lead.entry y old new
  written_as w y e c b = record {
    first = known_event lead w.event end;
    others = w.others;
    noted_others = w.noted_others;
    events = e;
    entryless = refl;
    no_lines = w.no_lines (props_value lead.props);
    noted = w.noted;
    added = record { events = w.added.events; comments = w.added.comments ∙ ap (λ z. old.comments ++ z) (sym c); escapes = w.added.escapes ∙ ap (λ z. old.escapes ++ z) (sym b) };
  }

-- a node without properties
pub bare_written : {t : List ℕ} {x : Meaning} {p end : ℕ} {entry : Option TheEntry.Entry} {old new : Part} → WrittenWith t (bare_lead p entry) x (from_to p end) end old new → WrittenAs t entry x old new
unfolding from_to plain_event
bare_written {x = x} {p} {end} {entry} w =
    written_as w x (w.events ∙ ap (λ z. record { event = z; span = Some (record { start = p; end = end }); tag_offset = None; entry = None; folded = [] } ∷ w.others) (sym w.no_properties)) refl refl

-- one with the properties of its line
held_events : (q : PropertiesValue) (p g end : ℕ) (held : PlacedProperties) (entry : Option TheEntry.Entry) (event : EventValue) (others : List EventInText) (span : Option Span) → span_since p g span ≡ from_to p end
    → held.start ≡ p → held.tag_offset ≡ q.tag_offset → props_value held.props ≡ q.props
    → first_with q.props q.tag_offset p g (plain_event event span ∷ others) ≡ known_event (held_lead held entry) event end ∷ others
unfolding plain_event from_to
held_events q p g end held entry event others span s a b c =
    ap (λ z. record { event = event_with q.props event; span = z; tag_offset = q.tag_offset; entry = None; folded = [] } ∷ others) s
    ∙ ap (λ (z : ℕ). record { event = event_with q.props event; span = Some (record { start = z; end = end }); tag_offset = q.tag_offset; entry = None; folded = [] } ∷ others) (sym a)
    ∙ ap (λ z. record { event = event_with q.props event; span = Some (record { start = held.start; end = end }); tag_offset = z; entry = None; folded = [] } ∷ others) (sym b)
    ∙ ap (λ z. record { event = event_with z event; span = Some (record { start = held.start; end = end }); tag_offset = held.tag_offset; entry = None; folded = [] } ∷ others) (sym c)

none_told : {t : List ℕ} {p : ℕ} {held : PlacedProperties} (l : LineProperties t p held) → l.value.comments ++ [] ≡ []
none_told l = append-nil l.value.comments ∙ l.no_comments

module _ {t : List ℕ} {p : ℕ} {held : PlacedProperties} (l : LineProperties t p held) {entry : Option TheEntry.Entry} {old new : Part} where
  held_written : {x : Meaning} {end : ℕ} (cs : List CommentValue) (span : Option Span) → cs ≡ [] → span_since p held.end span ≡ from_to p end → WrittenWith t (held_lead held entry) x span end old new
      → WrittenAs t entry (meaning_after cs (with_props l.value.props l.value.tag_offset p held.end x)) old new
  unfolding meaning_after with_props
  held_written {x} {end} cs span q s w =
      written_as w (meaning_after cs (with_props l.value.props l.value.tag_offset p held.end x))
      (ap (λ z. first_with l.value.props l.value.tag_offset p held.end z) w.events
      ∙ held_events l.value p held.end end held entry w.event w.others span s l.tied.start l.tied.tag l.tied.props)
      (ap (λ z. z ++ x.comments) q) refl

  pub content_written : {x : Meaning} (at : ℕ) {end : ℕ} → WrittenWith t (held_lead held entry) x (from_to at end) end old new
      → WrittenAs t entry (meaning_after (l.value.comments ++ []) (with_props l.value.props l.value.tag_offset p held.end x)) old new
  unfolding from_to
  content_written at {end} w = held_written (l.value.comments ++ []) (from_to at end) (none_told l) refl w

  pub lone_written : WrittenWith t (held_lead held entry) (empty_node held.end) None held.end old new
      → WrittenAs t entry (meaning_after l.value.comments (with_props l.value.props l.value.tag_offset p held.end (empty_node held.end))) old new
  lone_written w = held_written l.value.comments None l.no_comments refl w

-- a flow node that is found from p on, with the properties of its line
pub record NodeThere (t : List ℕ) (e : ℕ) (n : ℤ) (p depth : ℕ) (entry : Option TheEntry.Entry) (old new : Part) (node : Node) : Type 0 where
  pub answer : ParsedNode
  pub parsed : Parses t e (ANode n FlowOut p) (Some answer)
  pub end : node.end ≡ answer.end
  pub json : node.json ≡ answer.json
  pub deepest : node.deepest ≡ depth + answer.height
  pub finish : answer.meaning.finish ≡ answer.end
  pub written : WrittenAs t entry answer.meaning old new

-- if no properties are derived, none begin the content
pub bare_content : {t : List ℕ} {e p : ℕ} {n : ℤ} {o : Option ParsedNode} {f : ParsedNode} → ContentAt t e n FlowOut p o → o ≡ Some f → begins_properties (code t p) ≡ false
bare_content {t} {p = p} (content_there b z) q = ⊎_elim (λ (y : begins_properties (code t p) ≡ true). absurd (content_no_properties (code t p) b y)) (λ (y : begins_properties (code t p) ≡ false). y) (cases_Bool (begins_properties (code t p)))
bare_content {t} {p = p} (plain_there b z) q = ⊎_elim (λ (y : begins_properties (code t p) ≡ true). absurd (plain_no_properties (code t p) (plain_begins z.derived.text) y)) (λ (y : begins_properties (code t p) ≡ false). y)
    (cases_Bool (begins_properties (code t p)))
bare_content (plain_missing b z) q = absurd (some_none (sym q))

propertied_at : (q : PropertiesValue) (p g : ℕ) (f : ParsedNode) → propertied q [] p g f ≡ Some (record f { meaning = meaning_after (q.comments ++ []) (with_props q.props q.tag_offset p g f.meaning) })
unfolding propertied
propertied_at q p g f = refl

with_finish : (cs : List CommentValue) (q : PropertiesValue) (p g : ℕ) (x : Meaning) → (meaning_after cs (with_props q.props q.tag_offset p g x)).finish ≡ x.finish
unfolding meaning_after with_props
with_finish cs q p g x = refl

empty_finish : (g : ℕ) → (empty_node g).finish ≡ g
unfolding empty_node
empty_finish g = refl

module _ {t : List ℕ} {e p depth : ℕ} {n : ℤ} {entry : Option TheEntry.Entry} {old new : Part} {node : Node} where
  pub bare_there : InlineRead t e n p depth None (bare_lead p entry) old new node → NodeThere t e n p depth entry old new node
  bare_there (content_read {f = f} k a r i w) = record {
    answer = f;
    parsed = content_node a (bare_content r refl) r;
    end = i.end;
    json = i.json;
    deepest = i.deepest;
    finish = i.finish;
    written = bare_written w;
  }
  bare_there (alias_read {f = f} q r i w) = record { answer = f; parsed = r; end = i.end; json = i.json; deepest = i.deepest; finish = i.finish; written = bare_written w }
  bare_there (empty_key_read k j d w) = absurd (none_some k.is)

  pub held_there : {held : PlacedProperties} {at : ℕ} (u : IsUtf8 t) (l : LineProperties t p held) → Stuck (LineEnd t held.end) → PlaceAfter t held.end at
      → InlineRead t e n at depth (Some held) (held_lead held entry) old new node → NodeThere t e n p depth entry old new node
  held_there {held} {at} u l s b (content_read {f = f} k a r i w) = record {
    answer = record f { meaning = meaning_after (l.value.comments ++ []) (with_props l.value.props l.value.tag_offset p held.end f.meaning) };
    parsed = subst (λ o. Parses t e (ANode n FlowOut p) o) (propertied_at l.value p held.end f) (content_found u l s b (k held refl) r);
    end = i.end;
    json = i.json;
    deepest = i.deepest;
    finish = with_finish (l.value.comments ++ []) l.value p held.end f.meaning ∙ i.finish;
    written = content_written l at w;
  }
  held_there u l s b (alias_read q r i w) = absurd (some_none q)
  held_there {held} {at} u l s b (empty_key_read k j d w) =
      let end : node.end ≡ held.end = k.ends ∙ ap (λ (z : PlacedProperties). z.end) (sym (same_Some _ _ k.is)) in
      let m = meaning_after l.value.comments (with_props l.value.props l.value.tag_offset p held.end (empty_node held.end)) in
      record {
        answer = record { end = held.end; height = 0; json = false; meaning = m };
        parsed = subst (λ o. Parses t e (ANode n FlowOut p) o) (lone_is l.value p held.end ∙ found_is held.end 0 false m) (lone_found u l s b k.colon);
        end = end;
        json = j;
        deepest = omega (arith, d);
        finish = with_finish l.value.comments l.value p held.end (empty_node held.end) ∙ empty_finish held.end;
        written = lone_written l (subst (λ (z : ℕ). WrittenWith t (held_lead held entry) (empty_node z) None z old new) end w);
      }
