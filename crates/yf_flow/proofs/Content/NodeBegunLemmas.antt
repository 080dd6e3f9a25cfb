-- The beginning of an awaited node, from those of its properties and its content.
use Rattle.std.proofs.Common.{◌≡◌, ℕ, ◌+◌, ℤ, Bool, true, false, List, [], ◌∷◌, ◌++◌, length, Option, Some, None, refl, sym, ap, ◌∙◌, subst, arith, true≢false, append-nil, encode_utf8_all, ◌⊎◌, inl, inr, ⊎_elim, ◌==◌}
use Rattle.std.proofs.lemmas.Bool.{cases_Bool}
use Rattle.std.proofs.lemmas.Bool.Decides.{nat_tests}
use Rattle.yf_chars.specs.declared.context.Ctx.{Ctx}
use Rattle.yf_chars.specs.Text.{code}
use Rattle.yf_chars.specs.Chain.{Stuck, Chosen}
use Rattle.yf_comments.specs.Comment.{CommentValue}
use Rattle.yf_comments.specs.Comments.{Separate}
use Rattle.yf_plain.specs.Plain.{Plain}
use Rattle.yf_props.specs.Names.{Alias, Properties, PropertiesValue}
use Rattle.yf_props.specs.Props.{props_value, no_props}
use Rattle.yf_events.specs.Event.{EventInText, alias_node, scalar_node}
use Rattle.yf_events.specs.declared.event.Entry.{Entry}
use Rattle.yf_events.specs.declared.event.ScalarStyle.{ScalarStyle}
use Rattle.yf_events.specs.declared.event.ScalarStyle.TheVariants.{Plain as PlainStyle}
use Rattle.yf_events.specs.declared.part.Part.{Part}
use Rattle.yf_grammar.specs.Productions.Grammar.{opening}
use Rattle.yf_grammar.specs.Productions.Meaning.{Meaning, meaning_after, with_props, scalar, alias_to, empty_node, plain_event, from_to, start_of, event_with}
use Rattle.yf_grammar.specs.FlowReader.Parser.{ParsedNode, found, ANode, AContent, Parses, begins_alias, begins_properties, begins_content, begins_plain, propertied, lone_properties}
use Rattle.yf_grammar.specs.FlowReader.Parser.Parses.{alias_read, alias_missed, plain_read, plain_missed, content_read, properties_missed, properties_content, properties_plain, too_deep}
use Rattle.yf_grammar.specs.FlowReader.FlowContinuations.{Before, Bare, Propertied, NodeOver, bare_there, properties_there, over}
use Rattle.yf_grammar.proofs.FlowStack.AwaitEntries.{read_as, found_is}
use Rattle.yf_grammar.proofs.FlowReader.NodeExact.{lone_is}
use Rattle.yf_grammar.proofs.FlowReader.PlainEnds.{plain_leaps, first_no_bar, no_bar_plain}
use Rattle.yf_flow.specs.declared.frame.Frame.{Frame}
use Rattle.yf_flow.specs.declared.frame.CollectionKind.{CollectionKind}
use Rattle.yf_flow.specs.declared.frame.CollectionKind.TheVariants.{Sequence, Mapping, Pair}
use Rattle.yf_flow.specs.declared.frame.Node.{Node}
use Rattle.yf_flow.specs.declared.node.Begun.{Begun}
use Rattle.yf_flow.specs.declared.node.Begun.TheVariants.{Leaf, Opened, Nothing, TooDeep}
use Rattle.yf_flow.specs.declared.node.Lead.{Lead}
use Rattle.yf_flow.specs.NodeStarts.{ContentAt, content_there, plain_there, plain_missing, PartGrown, LeafAt, OpenedAt, FullAt, IsOpening, is_sequence, is_lined, ContentBegun, bare_lead, lead_event, leaf_event}
use Rattle.yf_flow.specs.NodeParts.{given, props_before, tag_before, comments_before, opened_event, NodeLeaf, NodeOpened, no_node, no_content, NodeFull, NodeBegun}

other_begins : (c : ℕ) → begins_content c ≡ false → begins_plain c ≡ false → (begins_alias c ≡ true) ⊎ (begins_properties c ≡ true)
unfolding begins_plain begins_alias begins_properties begins_content
other_begins c a b = ⊎_elim
    (λ (e : (c == 42) ≡ true). inl e)
    (λ (e : (c == 42) ≡ false). inr (grind (arith, nat_tests)))
    (cases_Bool (c == 42))

-- a part that has more, after a part that has more comments
pub added_after : {old mid new : Part} {es : List EventInText} {bad : List ℕ} (cs : List CommentValue) → mid.events ≡ old.events → mid.comments ≡ old.comments ++ cs → mid.escapes ≡ old.escapes
    → PartGrown mid new es [] bad → PartGrown old new es cs bad
added_after {old} {mid} {new} {es} {bad} cs a b d m = record {
  events = m.events ∙ ap (λ w. w ++ es) a;
  comments = m.comments ∙ append-nil mid.comments ∙ b;
  escapes = m.escapes ∙ ap (λ w. w ++ bad) d;
}

-- the lead of a node before its content
pub record LeadOf (lead : Lead) (i : ℕ) (b : Before) (entry : Option Entry) : Type 0 where
  pub start : lead.start ≡ i
  pub props : props_value lead.props ≡ props_before b
  pub tag : lead.tag_offset ≡ tag_before b
  pub first : lead.entry ≡ entry

bare_is : (i : ℕ) (entry : Option Entry) → LeadOf (bare_lead i entry) i Bare entry
bare_is i entry = record { start = refl; props = refl; tag = refl; first = refl }

module _ {t : List ℕ} {n : ℤ} {c : Ctx} {i : ℕ} where
  -- content without properties or an alias before it is the node
  pub bare_node : {e : ℕ} {o : Option ParsedNode} → Stuck (Alias t i) → Stuck (Properties t n c i) → ContentAt t e n c i o → Parses t e (ANode n c i) o
  bare_node a p (content_there b r) = content_read b r
  bare_node a p (plain_there b r) = plain_read (no_bar_plain (code t i) (first_no_bar t c i (plain_leaps r.derived.text).0)) r
  bare_node a p (plain_missing b r) = ⊎_elim
      (λ (q : begins_plain (code t i) ≡ true). plain_missed q r)
      (λ (q : begins_plain (code t i) ≡ false).
      ⊎_elim (λ (l : begins_alias (code t i) ≡ true). alias_missed l a) (λ (l : begins_properties (code t i) ≡ true). properties_missed l p) (other_begins (code t i) b q))
      (cases_Bool (begins_plain (code t i)))

plain_with : (p : PropertiesValue) (cs : List CommentValue) (i g k j : ℕ) (x : List ℕ)
    → propertied p cs i g (record { end = j; height = 0; json = false; meaning = scalar PlainStyle (encode_utf8_all x) [] k j })
    ≡ found j 0 false (over (Propertied p cs i g) (scalar PlainStyle (encode_utf8_all x) [] k j))
unfolding propertied found
plain_with p cs i g k j x = refl

over_found : (p : PropertiesValue) (cs : List CommentValue) (i g j h : ℕ) (json : Bool) (x : Meaning)
    → propertied p cs i g (record { end = j; height = h; json = json; meaning = x }) ≡ found j h json (over (Propertied p cs i g) x)
unfolding propertied found
over_found p cs i g j h json x = refl

-- the events of a leaf
bare_events : {lead : Lead} {i : ℕ} {entry : Option Entry} (style : ScalarStyle) (text bad : List ℕ) (j : ℕ) → LeadOf lead i Bare entry
    → leaf_event lead style text j ∷ [] ≡ given entry (scalar style text bad i j).events
unfolding scalar plain_event from_to
bare_events style text bad j l = rw (l.start, l.props, l.tag, l.first) refl

with_events : {lead : Lead} {i : ℕ} {entry : Option Entry} (p : PropertiesValue) (cs : List CommentValue) (g : ℕ) (style : ScalarStyle) (text bad : List ℕ) (k j : ℕ)
    → LeadOf lead i (Propertied p cs i g) entry
    → leaf_event lead style text j ∷ [] ≡ given entry (over (Propertied p cs i g) (scalar style text bad k j)).events
unfolding scalar plain_event from_to meaning_after with_props
with_events p cs g style text bad k j l = rw (l.start, l.props, l.tag, l.first) refl

lone_events : {lead : Lead} {i : ℕ} {entry : Option Entry} (p : PropertiesValue) (cs : List CommentValue) (g : ℕ) → LeadOf lead i (Propertied p cs i g) entry
    → leaf_event lead PlainStyle [] g ∷ [] ≡ given entry (meaning_after p.comments (with_props p.props p.tag_offset i g (empty_node g))).events
unfolding empty_node plain_event from_to meaning_after with_props
lone_events p cs g l = rw (l.start, l.props, l.tag, l.first) refl

alias_events : (name : List ℕ) (i j : ℕ) (entry : Option Entry) → lead_event (bare_lead i entry) (alias_node name) j ∷ [] ≡ given entry (alias_to name i j).events
unfolding alias_to plain_event from_to
alias_events name i j entry = refl

-- the contents of a meaning with one event
record Single (x : Meaning) (j : ℕ) (cs : List CommentValue) (bad : List ℕ) : Type 0 where
  event : EventInText
  only_event : x.events ≡ event ∷ []
  no_entry : event.entry ≡ None
  no_lines : is_lined event.event ≡ false
  comments : x.comments ≡ cs
  escapes : x.escapes ≡ bad
  finish : x.finish ≡ j

alias_single : (name : List ℕ) (i j : ℕ) → Single (alias_to name i j) j [] []
unfolding alias_to plain_event from_to
alias_single name i j = record { event = plain_event (alias_node name) (from_to i j); only_event = refl; no_entry = refl; no_lines = refl; comments = refl; escapes = refl; finish = refl }

scalar_single : (style : ScalarStyle) (text bad : List ℕ) (i j : ℕ) → is_lined (scalar_node no_props style text) ≡ false → Single (scalar style text bad i j) j [] bad
unfolding scalar plain_event from_to
scalar_single style text bad i j q = record { event = plain_event (scalar_node no_props style text) (from_to i j); only_event = refl; no_entry = refl; no_lines = q; comments = refl; escapes = refl; finish = refl }

with_single : (p : PropertiesValue) (cs : List CommentValue) (i g : ℕ) (style : ScalarStyle) (text bad : List ℕ) (k j : ℕ) → is_lined (scalar_node p.props style text) ≡ false
    → Single (over (Propertied p cs i g) (scalar style text bad k j)) j (p.comments ++ cs) bad
unfolding scalar plain_event from_to meaning_after with_props
with_single p cs i g style text bad k j q = record {
  event = record { event = scalar_node p.props style text; span = Some (record { start = i; end = j }); tag_offset = p.tag_offset; entry = None; folded = [] };
  only_event = refl;
  no_entry = refl;
  no_lines = q;
  comments = append-nil (p.comments ++ cs);
  escapes = refl;
  finish = refl;
}

lone_single : (p : PropertiesValue) (i g : ℕ) → Single (meaning_after p.comments (with_props p.props p.tag_offset i g (empty_node g))) g p.comments []
unfolding empty_node plain_event from_to meaning_after with_props
lone_single p i g = record {
  event = record { event = scalar_node p.props PlainStyle []; span = Some (record { start = i; end = g }); tag_offset = p.tag_offset; entry = None; folded = [] };
  only_event = refl;
  no_entry = refl;
  no_lines = refl;
  comments = append-nil p.comments;
  escapes = refl;
  finish = refl;
}

module _ {t : List ℕ} {n : ℤ} {c : Ctx} {i depth : ℕ} {entry : Option Entry} {old new : Part} where
  leaf_of : {j : ℕ} {json : Bool} {x : Meaning} {cs : List CommentValue} {bad : List ℕ} {e : EventInText} → ((e : ℕ) → Parses t e (ANode n c i) (found j 0 json x)) → Single x j cs bad
      → e ∷ [] ≡ given entry x.events → PartGrown old new (e ∷ []) cs bad → NodeLeaf t n c i depth entry old new (record { end = j; json = json; deepest = depth })
  leaf_of {j} {json} {x} {cs} {bad} {e} r s q a = record {
    answer = record { end = j; height = 0; json = json; meaning = x };
    read = λ l. read_as (found_is j 0 json x) (r l);
    end = refl;
    json = refl;
    flat = refl;
    finish = s.finish;
    event = s.event;
    only_event = s.only_event;
    no_entry = s.no_entry;
    no_lines = s.no_lines;
    added = record { events = a.events ∙ ap (λ w. old.events ++ w) q; comments = a.comments ∙ ap (λ w. old.comments ++ w) (sym s.comments); escapes = a.escapes ∙ ap (λ w. old.escapes ++ w) (sym s.escapes) };
    deepest = refl;
  }

  pub alias_leaf : {j : ℕ} {name : List ℕ} (e : EventInText) → Chosen (Alias t i) j name → new.events ≡ old.events ++ (e ∷ []) → e ≡ lead_event (bare_lead i entry) (alias_node name) j
      → new.comments ≡ old.comments → new.escapes ≡ old.escapes → NodeLeaf t n c i depth entry old new (record { end = j; json = false; deepest = depth })
  alias_leaf {j} {name} e p a b cs es =
      leaf_of (λ l. alias_read p) (alias_single name i j) (ap (λ w. w ∷ []) b ∙ alias_events name i j entry)
      (record { events = a; comments = cs ∙ sym (append-nil old.comments); escapes = es ∙ sym (append-nil old.escapes) })

  leaf_bare : {lead : Lead} (node : Node) → Stuck (Alias t i) → Stuck (Properties t n c i) → LeadOf lead i Bare entry → LeafAt t n c i depth lead old new node → NodeLeaf t n c i depth entry old new node
  leaf_bare {lead} node a p q l =
      subst (λ w. NodeLeaf t n c i depth entry old new (record { end = node.end; json = node.json; deepest = w })) (sym l.deepest)
      (leaf_of (λ e. bare_node a p (l.read e)) (scalar_single l.style l.text l.bad i node.end (l.no_lines no_props l.text)) (bare_events l.style l.text l.bad node.end q) l.added)

  -- after properties
  module _ {g : ℕ} {p : PropertiesValue} {cs : List CommentValue} {lead : Lead} (d : Chosen (Properties t n c i) g p) where
    pub lone_leaf : LeadOf lead i (Propertied p cs i g) entry → ((e : ℕ) → Parses t e (ANode n c i) (lone_properties p i g)) → (mid : Part) → mid.events ≡ old.events
        → mid.comments ≡ old.comments ++ p.comments → mid.escapes ≡ old.escapes → new.events ≡ mid.events ++ (leaf_event lead PlainStyle [] g ∷ []) → new.comments ≡ mid.comments
        → new.escapes ≡ mid.escapes → NodeLeaf t n c i depth entry old new (record { end = g; json = false; deepest = depth })
    lone_leaf q r mid a b f u v w =
        leaf_of (λ e. read_as (lone_is p i g) (r e)) (lone_single p i g) (lone_events p cs g q)
        (record { events = u ∙ ap (λ z. z ++ (leaf_event lead PlainStyle [] g ∷ [])) a; comments = v ∙ b; escapes = w ∙ f ∙ sym (append-nil old.escapes) })

    module _ {k : ℕ} (s : Chosen (Separate t n c g) k cs) (q : LeadOf lead i (Propertied p cs i g) entry) where
      pub plain_leaf_with : {j : ℕ} (text x : List ℕ) → begins_content (code t k) ≡ false → text ≡ encode_utf8_all x → Chosen (Plain t n c k) j x → (mid : Part) → mid.events ≡ old.events
          → mid.comments ≡ old.comments ++ (p.comments ++ cs) → mid.escapes ≡ old.escapes → new.events ≡ mid.events ++ (leaf_event lead PlainStyle text j ∷ []) → new.comments ≡ mid.comments
          → new.escapes ≡ mid.escapes → NodeLeaf t n c i depth entry old new (record { end = j; json = false; deepest = depth })
      plain_leaf_with {j} text x z m y mid a b f u v w =
          leaf_of (λ e. read_as (plain_with p cs i g k j x) (properties_plain d s z y)) (with_single p cs i g PlainStyle (encode_utf8_all x) [] k j refl)
          (with_events p cs g PlainStyle (encode_utf8_all x) [] k j q)
          (record { events = u ∙ ap (λ z. z ++ (leaf_event lead PlainStyle text j ∷ [])) a ∙ ap (λ z. old.events ++ (leaf_event lead PlainStyle z j ∷ [])) m; comments = v ∙ b; escapes = w ∙ f ∙ sym (append-nil old.escapes) })

-- an opened collection
start_props : (b : Before) (lead : Lead) (i : ℕ) (entry : Option Entry) (sequence : Bool) (k : ℕ) → LeadOf lead i b entry
    → lead_event lead (event_with (props_value lead.props) (start_of sequence true)) (k + 1) ≡ opened_event i b entry sequence k
start_props b lead i entry sequence k l = rw (l.start, l.props, l.tag, l.first) refl

sequence_opening : (kind : CollectionKind) (x : ℕ) → IsOpening kind x → x ≡ opening (is_sequence kind)
sequence_opening Sequence x e = e
sequence_opening Mapping x e = e
sequence_opening Pair x e = absurd e

module _ {t : List ℕ} {n : ℤ} {c : Ctx} {i k depth limit : ℕ} {entry : Option Entry} {b : Before} {lead : Lead} where
  begun_opened : {old mid new : Part} (f : Frame) → NodeOver t n c i k b → LeadOf lead i b entry → mid.events ≡ old.events → mid.comments ≡ old.comments ++ comments_before b
      → mid.escapes ≡ old.escapes → OpenedAt t k depth limit lead [] mid new f → NodeOpened t n c i depth limit entry old new f
  begun_opened {old} {mid} {new} f v l x y z o = record {
    content = k;
    before = b;
    over = v;
    bracket = o.bracket;
    first = o.entry;
    event = o.event ∙ ap (λ w. length w) x;
    deep = o.deep;
    deepest = o.deepest;
    room = o.room;
    added = added_after (comments_before b) x y z
        (record { events = o.added.events ∙ ap (λ w. mid.events ++ (w ∷ [])) (start_props b lead i entry (is_sequence f.kind) k l); comments = o.added.comments; escapes = o.added.escapes });
  }

begun_full : {t : List ℕ} {n : ℤ} {c : Ctx} {i k depth limit : ℕ} {b : Before} (p : ℕ) → NodeOver t n c i k b → p ≡ k → FullAt t k depth limit → NodeFull t n c i depth limit p
begun_full {t} {n} {c} {i} {k} {depth} {limit} {b} p v q f = record {
  before = b;
  over = subst (λ w. NodeOver t n c i w b) (sym q) v;
  none = subst (λ w. Parses t 0 (AContent n c w) None) (sym q) (too_deep (is_sequence f.kind) (sequence_opening f.kind (code t k) f.bracket));
  kind = f.kind;
  bracket = subst (λ w. IsOpening f.kind (code t w)) (sym q) f.bracket;
  full = f.full;
}

pub opens_content : (kind : CollectionKind) (x : ℕ) → IsOpening kind x → begins_content x ≡ true
unfolding begins_content
opens_content Sequence x e = ap begins_content e
opens_content Mapping x e = ap begins_content e
opens_content Pair x e = absurd e

-- without properties
pub bare_begun : {t : List ℕ} {n : ℤ} {c : Ctx} {i : ℕ} (depth limit : ℕ) (entry : Option Entry) (old new : Part) (lead : Lead) → lead ≡ bare_lead i entry → Stuck (Alias t i)
    → Stuck (Properties t n c i) → (r : Begun) → ContentBegun t n c i depth limit lead old new r → NodeBegun t n c i depth limit entry old new r
bare_begun {t} {n} {c} {i} depth limit entry old new lead e a p (Leaf node) l =
    leaf_bare node a p (bare_is i entry) (subst (λ w. LeafAt t n c i depth w old new node) e l)
bare_begun {t} {n} {c} {i} depth limit entry old new lead e a p (Opened f) o =
    begun_opened {mid = old} f (bare_there (opens_content f.kind (code t i) o.bracket)) (bare_is i entry) refl (sym (append-nil old.comments)) refl
    (subst (λ w. OpenedAt t i depth limit w [] old new f) e o)
bare_begun depth limit entry old new lead e a p Nothing x = no_node (λ e. bare_node a p (x e))
bare_begun {t} {n} {c} {i} depth limit entry old new lead e a p (TooDeep q) f = begun_full q (bare_there (opens_content f.1.kind (code t i) f.1.bracket)) f.0 f.1

-- content after properties
module _ {t : List ℕ} {n : ℤ} {c : Ctx} {e k : ℕ} where
  content_is : {o : Option ParsedNode} → begins_content (code t k) ≡ true → ContentAt t e n c k o → Parses t e (AContent n c k) o
  content_is b (content_there z r) = r
  content_is b (plain_there z r) = absurd (true≢false (sym b ∙ z))
  content_is b (plain_missing z r) = absurd (true≢false (sym b ∙ z))

module _ {t : List ℕ} {n : ℤ} {c : Ctx} {i g k : ℕ} {p : PropertiesValue} {cs : List CommentValue} (d : Chosen (Properties t n c i) g p) (s : Chosen (Separate t n c g) k cs) (b : begins_content (code t k) ≡ true) where
  content_over : (e j h : ℕ) (json : Bool) (x : Meaning) → ContentAt t e n c k (found j h json x) → Parses t e (ANode n c i) (found j h json (over (Propertied p cs i g) x))
  content_over e j h json x r = read_as (over_found p cs i g j h json x) (properties_content d s b (read_as (found_is j h json x) (content_is b r)))

  pub with_begun : (depth limit : ℕ) {entry : Option Entry} (old mid : Part) {lead : Lead} (new : Part) → LeadOf lead i (Propertied p cs i g) entry → mid.events ≡ old.events
      → mid.comments ≡ old.comments ++ (p.comments ++ cs) → mid.escapes ≡ old.escapes → (r : Begun) → ContentBegun t n c k depth limit lead mid new r
      → NodeBegun t n c i depth limit entry old new r
  with_begun depth limit {entry} old mid {lead} new q x y z (Leaf node) l =
      subst (λ w. NodeLeaf t n c i depth entry old new (record { end = node.end; json = node.json; deepest = w })) (sym l.deepest)
      (leaf_of (λ e. content_over e node.end 0 node.json (scalar l.style l.text l.bad k node.end) (l.read e)) (with_single p cs i g l.style l.text l.bad k node.end (l.no_lines p.props l.text))
      (with_events p cs g l.style l.text l.bad k node.end q) (added_after (p.comments ++ cs) x y z l.added))
  with_begun depth limit old mid new q x y z (Opened f) o = begun_opened f (properties_there d s b) q x y z o
  with_begun depth limit old mid new q x y z Nothing r = no_content (properties_there d s b) (λ e. content_is b (r e))
  with_begun depth limit old mid new q x y z (TooDeep w) f = begun_full w (properties_there d s b) f.0 f.1
