-- The end of a node that was begun, and the node if its content is not derived: only its properties, or nothing.
use Rattle.std.proofs.Common.{◌≡◌, ℕ, ℤ, true, false, List, [], ◌∷◌, ◌++◌, length, None, refl, sym, ap, ◌∙◌, subst, append-nil}
use Rattle.std.specs.Str.{IsUtf8}
use Rattle.yf_chars.specs.declared.context.Ctx.{Ctx}
use Rattle.yf_chars.specs.declared.context.Ctx.TheVariants.{FlowIn}
use Rattle.yf_chars.specs.Text.{code}
use Rattle.yf_chars.specs.Chain.{Stuck, Chosen}
use Rattle.yf_lines.specs.Basic.{is_block}
use Rattle.yf_props.specs.Names.{Properties, PropertiesValue}
use Rattle.yf_props.specs.Properties.{properties_value}
use Rattle.yf_props.specs.Props.{props_value}
use Rattle.yf_props.specs.declared.properties.Properties.{Properties as TheProperties}
use Rattle.yf_events.specs.Event.{sequence_ends}
use Rattle.yf_events.specs.declared.event.ScalarStyle.TheVariants.{Plain}
use Rattle.yf_events.specs.declared.part.Part.{Part}
use Rattle.yf_grammar.specs.Productions.Grammar.Derives.{properties_alone}
use Rattle.yf_grammar.specs.Productions.Meaning.{Meaning, ◌⊕◌, plain_event, from_to, meaning_after, with_props, empty_node}
use Rattle.yf_grammar.specs.FlowReader.Parser.{ANode, Parses, lone_properties, only}
use Rattle.yf_grammar.specs.FlowReader.Parser.Parses.{content_read, properties_before_broken}
use Rattle.yf_grammar.specs.FlowReader.FlowContinuations.{bare_there, properties_there}
use Rattle.yf_grammar.proofs.FlowStack.AwaitEntries.{read_as, found_is}
use Rattle.yf_grammar.proofs.FlowReader.NodeExact.{lone_is}
use Rattle.yf_grammar.proofs.FlowReader.ClearLemmas.{clear_properties}
use Rattle.yf_grammar.proofs.Ends.NodeExits.{content_no_properties}
use Rattle.yf_grammar.proofs.FlowReader.PropertiesEnds.{properties_begin}
use Rattle.yf_grammar.proofs.Ends.Ways.{chosen_one}
use Rattle.yf_grammar.proofs.FlowReader.YamlNodes.{yaml_node_is_not_missed}
use Rattle.yf_flow.specs.declared.frame.Node.{Node}
use Rattle.yf_flow.specs.declared.nodes.Ending.{Ending}
use Rattle.yf_flow.specs.declared.nodes.Ending.TheVariants.{End, Nothing as NoEnd, TooDeep as TooDeepThere}
use Rattle.yf_flow.specs.declared.node.Begun.{Begun}
use Rattle.yf_flow.specs.declared.node.Begun.TheVariants.{Leaf, Opened, Nothing, TooDeep}
use Rattle.yf_flow.specs.CollectionEnds.{BegunTied, EndTied, EndsAs}
use Rattle.yf_flow.specs.declared.node.Lead.{Lead}
use Rattle.yf_flow.specs.NodeStarts.{leaf_event}
use Rattle.yf_flow.specs.NodeAnswers.{InnerContext, NodeEnds, NodeFound}
use Rattle.yf_flow.specs.NodeParts.{NodeBegun}
use Rattle.yf_flow.specs.ReadNodes.{NodeRead, NodeLost, no_node_there, content_lost}
use Rattle.yf_flow.specs.StepTerms.{Reading}
use Rattle.yf_flow.specs.StackMeaning.{NotesFilled, no_events, event_before, entryless, PartSoFar, Base, AtEntry}
use Rattle.yf_flow.proofs.Stack.TiedBase.{base_of, base_awaits, base_read, base_lost, leaf_read, missing_lost, full_lost}

-- nothing has been written to a new part
pub nothing_written : {t : List ℕ} {part : Part} → part.events ≡ [] → part.comments ≡ [] → part.escapes ≡ [] → PartSoFar t 0 (only [] 0) part
unfolding only
nothing_written {t} {part} a b c = record { events = subst (λ z. NotesFilled t 0 [] z) (sym a) no_events; comments = b; escapes = c }

-- an outermost collection without conditions
pub no_base : Base
no_base = record { sequence = true; place = 0; context = FlowIn; limit = 0; total = 0; written = only [] 0; event = plain_event sequence_ends None }

module _ {t : List ℕ} {n : ℤ} {c : Ctx} {i limit : ℕ} {mid new : Part} {w : Meaning} where
  leaf_ends : (node : Node) (e : Ending) → NodeRead t limit n c i w node mid → e ≡ End node → new ≡ mid → NodeEnds t n c limit i w new e
  leaf_ends node e r a b =
      subst (λ z. NodeEnds t n c limit i w new z) (sym a) (subst (λ z. NodeRead t limit n c i w node z) (sym b) r)

module _ {t : List ℕ} {c d : Ctx} {w : Meaning} (n : ℤ) (i limit : ℕ) {old : Part} (mid new : Part) where
  pub begun_ends : IsUtf8 t → InnerContext c d → PartSoFar t (length w.events) w old → (b : Begun) (e : Ending) → NodeBegun t n c i 0 limit None old mid b → ((base : Base) → BegunTied t n d limit base b mid → EndsAs t n base b mid new e)
      → NodeEnds t n c limit i w new e
  begun_ends u q p (Leaf node) e l f = let r = f no_base tt in leaf_ends node e (leaf_read w p l) r.0 r.1
  begun_ends u q p (Opened f) e o g = go e (g (base_of w o) (reading, subst (λ z. AtEntry t n z (base_of w o) [] f f.entry mid) (sym q.is) (base_awaits w o p))) where
    reading : Reading t d limit (base_of w o)
    reading = record { utf8 = u; inner = q.inner; no_block = q.no_block; total = refl }

    go : (e : Ending) → EndTied t n (base_of w o) e new → NodeEnds t n c limit i w new e
    go (End node) r = base_read w o r
    go NoEnd r = base_lost w o r
    go (TooDeepThere k) r = base_lost w o r
  begun_ends u q p Nothing e m f = subst (λ z. NodeEnds t n c limit i w new z) (sym (f no_base tt)) (missing_lost limit m)
  begun_ends u q p (TooDeep k) e m f = subst (λ z. NodeEnds t n c limit i w new z) (sym (f no_base tt)) (full_lost limit m)

nothing_before : (x : Meaning) → only [] 0 ⊕ x ≡ x
unfolding ◌⊕◌ only
nothing_before x = refl

none_before : {t : List ℕ} {x : Meaning} {part : Part} → PartSoFar t (length (only [] 0).events) x part → PartSoFar t 0 x part
unfolding only
none_before p = p

pub nothing_kept : {t : List ℕ} {part : Part} → PartSoFar t 0 (only [] 0) part → PartSoFar t (length (only [] 0).events) (only [] 0) part
unfolding only
nothing_kept p = p

module _ {t : List ℕ} {n : ℤ} {c : Ctx} {i limit : ℕ} where
  -- the node of a new part
  pub read_found : (node : Node) (part : Part) → NodeRead t limit n c i (only [] 0) node part → NodeFound t n c limit i part node.end
  read_found node part r = record { answer = r.answer; parsed = r.parsed; ends = r.end; written = subst (λ z. PartSoFar t 0 z part) (nothing_before r.answer.meaning) (none_before r.written) }

  -- without properties there is no node
  pub lost_none : Stuck (Properties t n c i) → NodeLost t limit n c i → Parses t limit (ANode n c i) None
  lost_none s (no_node_there r) = r
  lost_none s (content_lost (bare_there b) r) = content_read b r
  lost_none s (content_lost (properties_there {g = g} {p = p} a z b) r) = absurd (s.none g p a.derived)

  -- with properties they are the node
  lone_answer : {g : ℕ} {p : PropertiesValue} → IsUtf8 t → is_block c ≡ false → Chosen (Properties t n c i) g p → NodeLost t limit n c i → Parses t limit (ANode n c i) (lone_properties p i g)
  lone_answer u b d (no_node_there r) = absurd (yaml_node_is_not_missed (properties_alone b d.derived) (clear_properties u d.derived) r refl)
  lone_answer u b d (content_lost (bare_there z) r) = absurd (content_no_properties (code t i) z (properties_begin d.derived))
  lone_answer {g} {p} u b d (content_lost (properties_there {g = h} {p = v} a z w) r) =
      let s = chosen_one d a in
      subst (λ y. Parses t limit (ANode n c i) (lone_properties y i g)) s.1 (subst (λ y. Parses t limit (ANode n c i) (lone_properties v i y)) s.0 (properties_before_broken a z w r))

-- the properties as written in a new part
abbrev lone_lead : TheProperties → ℕ → Lead
lone_lead v i = record { start = i; props = v.props; tag_offset = v.tag_offset; entry = None }

lone_written : {t : List ℕ} {part : Part} (v : TheProperties) (i g : ℕ) → part.events ≡ leaf_event (lone_lead v i) Plain [] g ∷ [] → part.comments ≡ v.comments → part.escapes ≡ []
    → PartSoFar t 0 (meaning_after v.comments (with_props (props_value v.props) v.tag_offset i g (empty_node g))) part
unfolding meaning_after with_props empty_node plain_event from_to
lone_written {t} {part} v i g a b e = record {
  events = subst (λ z. NotesFilled t 0 (leaf_event (lone_lead v i) Plain [] g ∷ []) z) (sym a) (event_before (record { no_lines = refl; note = entryless refl }) no_events);
  comments = b ∙ sym (append-nil v.comments);
  escapes = e;
}

pub lone_found : {t : List ℕ} {n : ℤ} {c : Ctx} {i limit g : ℕ} {fresh mid part : Part} (v : TheProperties) → IsUtf8 t → is_block c ≡ false → Chosen (Properties t n c i) g (properties_value v)
    → NodeLost t limit n c i → fresh.events ≡ [] → fresh.comments ≡ [] → fresh.escapes ≡ [] → mid.events ≡ fresh.events → mid.comments ≡ fresh.comments ++ v.comments → mid.escapes ≡ fresh.escapes
    → part.events ≡ mid.events ++ leaf_event (lone_lead v i) Plain [] g ∷ [] → part.comments ≡ mid.comments → part.escapes ≡ mid.escapes → NodeFound t n c limit i part g
lone_found {t} {n} {c} {i} {limit} {g} {fresh} {mid} {part} v u b d l a1 a2 a3 b1 b2 b3 c1 c2 c3 =
    let m = meaning_after v.comments (with_props (props_value v.props) v.tag_offset i g (empty_node g)) in
    record {
      answer = record { end = g; height = 0; json = false; meaning = m };
      parsed = read_as (lone_is (properties_value v) i g ∙ found_is g 0 false m) (lone_answer u b d l);
      ends = refl;
      written = lone_written v i g (c1 ∙ ap (λ z. z ++ leaf_event (lone_lead v i) Plain [] g ∷ []) (b1 ∙ a1)) (c2 ∙ b2 ∙ ap (λ z. z ++ v.comments) a2) (c3 ∙ b3 ∙ a3);
    }
