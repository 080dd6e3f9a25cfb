-- The end of content that was begun, after the contents of a part.
use Rattle.std.proofs.Common.{◌≡◌, ℕ, suc, ◌+◌, ◌≤◌, ℤ, Bool, true, false, List, [], ◌∷◌, ◌++◌, length, None, Result, Ok, Err, IfOk, refl, sym, ap, ◌∙◌, subst, arith, append_assoc, append-nil, length-append}
use Rattle.std.specs.Str.{IsUtf8}
use Rattle.std.specs.declared.alloc.AllocError.{AllocError}
use Rattle.yf_chars.specs.declared.context.Ctx.{Ctx}
use Rattle.yf_chars.specs.Text.{code}
use Rattle.yf_props.specs.Props.{no_props, props_value}
use Rattle.yf_events.specs.Event.{EventInText, scalar_node}
use Rattle.yf_events.specs.declared.part.Part.{Part}
use Rattle.yf_grammar.specs.Productions.Grammar.{in_flow}
use Rattle.yf_grammar.specs.Productions.Meaning.{Meaning, ◌⊕◌, scalar, collection, plain_event, from_to, start_of, end_of, event_with}
use Rattle.yf_grammar.specs.FlowReader.Parser.{AContent, Parses, begins_content, only}
use Rattle.yf_grammar.specs.FlowReader.Parser.Parses.{too_deep}
use Rattle.yf_grammar.specs.FlowReader.FlowContinuations.{ended_at}
use Rattle.yf_grammar.proofs.FlowStack.AwaitEntries.{found_is}
use Rattle.yf_grammar.proofs.WrittenTexts.LeafBack.{noting_nothing}
use Rattle.yf_flow.specs.declared.frame.Frame.{Frame}
use Rattle.yf_flow.specs.declared.frame.CollectionKind.{CollectionKind}
use Rattle.yf_flow.specs.declared.frame.CollectionKind.TheVariants.{Sequence, Mapping, Pair}
use Rattle.yf_flow.specs.declared.frame.Node.{Node}
use Rattle.yf_flow.specs.declared.node.Begun.{Begun}
use Rattle.yf_flow.specs.declared.node.Begun.TheVariants.{Leaf, Opened, Nothing, TooDeep}
use Rattle.yf_flow.specs.declared.node.Lead.{Lead}
use Rattle.yf_flow.specs.declared.nodes.Ending.{Ending}
use Rattle.yf_flow.specs.declared.nodes.Ending.TheVariants.{End, Nothing as NoEnd, TooDeep as TooDeepThere}
use Rattle.yf_flow.specs.NodeStarts.{PartGrown, ContentAt, content_there, LeafAt, IsOpening, OpenedAt, FullAt, ContentBegun, is_sequence, lead_event}
use Rattle.yf_flow.specs.ContentAnswers.{ContentRead, ContentEnds}
use Rattle.yf_flow.specs.Depth.{openers_from, BegunCounted}
use Rattle.yf_flow.specs.CollectionEnds.{BegunTied, EndTied, EndsAs}
use Rattle.yf_flow.specs.Machine.{BegunAt}
use Rattle.yf_flow.specs.NodeAnswers.{InnerContext}
use Rattle.yf_flow.specs.StepTerms.{Reading}
use Rattle.yf_flow.specs.StackMeaning.{NotesFilled, no_events, PartSoFar, one, entries_written, Base, AtEntry, AtDone}
use Rattle.yf_flow.proofs.Stack.CountLemmas.{openers_later, bracket_opens}
use Rattle.yf_flow.proofs.Content.NodeEnds.{no_base}
use Rattle.yf_flow.proofs.Ends.NotedLemmas.{all_kept, kept_parts}
use Rattle.yf_flow.proofs.Stack.TiedBase.{opened_awaits}
use Rattle.yf_flow.proofs.Stack.TiedBegun.{opened_kind}
use Rattle.yf_flow.proofs.Stack.TiedKept.{begin_kept}
use Rattle.yf_flow.proofs.Stack.TiedTaken.{start_no_lines}
use Rattle.yf_flow.proofs.Content.NodeBegunLemmas.{opens_content}

bare_start : (sequence : Bool) → event_with no_props (start_of sequence true) ≡ start_of sequence true
bare_start true = refl
bare_start false = refl

-- the contents of a part
abbrev all_of : Part → Meaning
all_of part = record { events = part.events; comments = part.comments; escapes = part.escapes; finish = 0 }

all_written : (t : List ℕ) (part : Part) → PartSoFar t (length part.events) (all_of part) part
all_written t part = record { events = all_kept part.events; comments = refl; escapes = refl }

module _ {t : List ℕ} {n : ℤ} {c : Ctx} {i depth : ℕ} {lead : Lead} {old new : Part} where
  leaf_content : {node : Node} (room : ℕ) → LeafAt t n c i depth lead old new node → ContentRead t room n c i depth lead old new node
  unfolding scalar plain_event
  leaf_content {node} room l =
      let x = scalar l.style l.text l.bad i node.end in
      record {
        answer = record { end = node.end; height = 0; json = node.json; meaning = x };
        read = subst (λ z. ContentAt t room n c i z) (found_is node.end 0 node.json x) (l.read room);
        end = refl;
        json = refl;
        deepest = let d = l.deepest in omega arith;
        finish = refl;
        written = record {
          event = scalar_node no_props l.style l.text;
          others = [];
          noted_others = [];
          events = refl;
          no_properties = refl;
          no_lines = λ props. l.no_lines props l.text;
          noted = no_events;
          added = l.added;
        };
      }

-- the contents of a collection
record Closed (t : List ℕ) (old new : Part) (begin last : EventInText) (x : Meaning) : Type 0 where
  others : List EventInText
  noted : NotesFilled t 0 (x.events ++ last ∷ []) others
  added : PartGrown old new (begin ∷ others) x.comments x.escapes

closed_parts : {t : List ℕ} {old new : Part} (begin last : EventInText) (x : Meaning) → PartSoFar t (suc (length old.events)) (entries_written (all_of old) begin x ⊕ one last) new → Closed t old new begin last x
unfolding ◌⊕◌
closed_parts {t} {old} {new} begin last x p =
    let e : ((old.events ++ begin ∷ []) ++ x.events) ++ last ∷ [] ≡ (old.events ++ begin ∷ []) ++ (x.events ++ last ∷ []) = append_assoc (old.events ++ begin ∷ []) x.events (last ∷ []) in
    let l : suc (length old.events) ≡ length (old.events ++ begin ∷ []) = let z = length-append {A = EventInText} old.events (begin ∷ []) in omega arith in
    let r : NotesFilled t (length (old.events ++ begin ∷ [])) ((old.events ++ begin ∷ []) ++ (x.events ++ last ∷ [])) new.events =
    subst (λ k. NotesFilled t k ((old.events ++ begin ∷ []) ++ (x.events ++ last ∷ [])) new.events) l (subst (λ z. NotesFilled t (suc (length old.events)) z new.events) e p.events) in
    let k = kept_parts (old.events ++ begin ∷ []) (x.events ++ last ∷ []) new.events r in
    record {
      others = k.after;
      noted = k.noted_after;
      added = record {
        events = k.is ∙ append_assoc old.events (begin ∷ []) k.after;
        comments = p.comments ∙ append-nil ((old.comments ++ []) ++ x.comments) ∙ ap (λ z. z ++ x.comments) (append-nil old.comments);
        escapes = p.escapes ∙ append-nil ((old.escapes ++ []) ++ x.escapes) ∙ ap (λ z. z ++ x.escapes) (append-nil old.escapes);
      };
    }

-- the event that begins it, and the conditions on it
abbrev begin_at : Lead → Bool → ℕ → EventInText
begin_at lead sequence j = lead_event lead (event_with (props_value lead.props) (start_of sequence true)) j

abbrev base_at : Ctx → ℕ → ℕ → ℕ → Lead → Part → Bool → Base
base_at c i room limit lead old sequence =
    record { sequence = sequence; place = i; context = c; limit = room; total = limit; written = all_of old; event = begin_at lead sequence (i + 1) }

module _ {t : List ℕ} {n : ℤ} (c : Ctx) {i depth limit : ℕ} {lead : Lead} {old mid : Part} {f : Frame} (room : ℕ) (r : depth + room ≡ limit) (o : OpenedAt t i depth limit lead [] old mid f) where
  content_awaits : AtEntry t n (in_flow c) (base_at c i room limit lead old (is_sequence f.kind)) [] f f.entry mid
  content_awaits =
      let k = opened_kind f.kind (code t i) o.bracket in
      let begin = begin_at lead (is_sequence f.kind) (i + 1) in
      opened_awaits (all_of old) begin (is_sequence f.kind) i room f k.1 k.0 o.entry o.event o.deep o.deepest o.room r
      (subst (λ z. PartSoFar t (suc (length old.events)) (entries_written z begin (only [] 0)) mid) (noting_nothing (all_of old))
      (begin_kept [] begin (all_written t old) o.added))

  content_closed : {node : Node} {new : Part} → AtDone t n (base_at c i room limit lead old (is_sequence f.kind)) node new → ContentRead t room n c i depth lead old new node
  unfolding collection
  content_closed {node} {new} a =
      let k = closed_parts {t = t} {old = old} {new = new} (begin_at lead (is_sequence f.kind) (a.bracket + 1)) (plain_event (end_of (is_sequence f.kind)) None) a.known a.written in
      let d = a.deepest in
      record {
        answer = ended_at (is_sequence f.kind) i a.high a.known a.bracket;
        read = content_there (opens_content f.kind (code t i) o.bracket) a.parsed;
        end = a.end;
        json = a.json;
        deepest = omega (arith, r, d);
        finish = refl;
        written = record {
          event = start_of (is_sequence f.kind) true;
          others = a.known.events ++ plain_event (end_of (is_sequence f.kind)) None ∷ [];
          noted_others = k.others;
          events = ap (λ (j : ℕ). plain_event (start_of (is_sequence f.kind) true) (from_to i j) ∷ (a.known.events ++ plain_event (end_of (is_sequence f.kind)) None ∷ [])) (sym a.end);
          no_properties = bare_start (is_sequence f.kind);
          no_lines = λ props. start_no_lines props (is_sequence f.kind);
          noted = k.noted;
          added = subst (λ j. PartGrown old new (begin_at lead (is_sequence f.kind) j ∷ k.others) a.known.comments a.known.escapes) (sym a.end) k.added;
        };
      }

  content_ended : IsUtf8 t → (d : Ctx) → InnerContext c d → (e : Ending) (new : Part) → ((base : Base) → BegunTied t n d limit base (Opened f) mid → EndsAs t n base (Opened f) mid new e) → ContentEnds t n c room i depth lead old new e
  content_ended u d q e new g = go e (g (base_at c i room limit lead old (is_sequence f.kind)) (reading, subst (λ z. AtEntry t n z (base_at c i room limit lead old (is_sequence f.kind)) [] f f.entry mid) (sym q.is) content_awaits)) where
    reading : Reading t d limit (base_at c i room limit lead old (is_sequence f.kind))
    reading = record { utf8 = u; inner = q.inner; no_block = q.no_block; total = refl }

    go : (e : Ending) → EndTied t n (base_at c i room limit lead old (is_sequence f.kind)) e new → ContentEnds t n c room i depth lead old new e
    go (End node) a = content_closed a
    go NoEnd a = content_there (opens_content f.kind (code t i) o.bracket) a
    go (TooDeepThere p) a = content_there (opens_content f.kind (code t i) o.bracket) a

full_content : {t : List ℕ} {c : Ctx} {i depth limit room : ℕ} (n : ℤ) → depth + room ≡ limit → FullAt t i depth limit → ContentAt t room n c i None
full_content {t} {c} {i} {room = room} n r f =
    let z : 0 ≡ room = let l = f.full in omega arith in
    let k = opened_kind f.kind (code t i) f.bracket in
    content_there (opens_content f.kind (code t i) f.bracket) (subst (λ e. Parses t e (AContent n c i) None) z (too_deep (is_sequence f.kind) k.1))

module _ {t : List ℕ} {c : Ctx} (n : ℤ) (i depth limit : ℕ) (lead : Lead) (old mid new : Part) where
  leaf_ends : (room : ℕ) (node : Node) (e : Ending) → LeafAt t n c i depth lead old mid node → e ≡ End node → new ≡ mid → ContentEnds t n c room i depth lead old new e
  leaf_ends room node e l a b =
      subst (λ z. ContentEnds t n c room i depth lead old new z) (sym a) (subst (λ z. ContentRead t room n c i depth lead old z node) (sym b) (leaf_content room l))

  pub content_ends : IsUtf8 t → {d : Ctx} → InnerContext c d → (room : ℕ) → depth + room ≡ limit → (b : Begun) (e : Ending) → ContentBegun t n c i depth limit lead old mid b
      → ((base : Base) → BegunTied t n d limit base b mid → EndsAs t n base b mid new e) → ContentEnds t n c room i depth lead old new e
  content_ends u {d} q room r (Leaf node) e l f = let x = f no_base tt in leaf_ends room node e l x.0 x.1
  content_ends u {d} q room r (Opened f) e o g = content_ended c room r o u d q e new g
  content_ends u {d} q room r Nothing e m f = subst (λ z. ContentEnds t n c room i depth lead old new z) (sym (f no_base tt)) (m room)
  content_ends u {d} q room r (TooDeep p) e m f = subst (λ z. ContentEnds t n c room i depth lead old new z) (sym (f no_base tt)) (full_content n r m.1)

-- a property for each base is a property of the result
pub for_each_base : (P : Base → Type 0) (Q : Base → Ending → Type 0) (r : Result Ending AllocError) → ((base : Base) → P base → IfOk r (Q base)) → IfOk r (λ e. (base : Base) → P base → Q base e)
for_each_base P Q (Ok e) f = f
for_each_base P Q (Err x) f = tt

-- in each collection, at most as many were open as openers have been read
pub content_counted : (t : List ℕ) (n : ℤ) (c : Ctx) (i depth limit total : ℕ) (lead : Lead) (old new : Part) (m k : ℕ) (b : Begun) → IsUtf8 t → depth + openers_from t i ≤ total
    → ContentBegun t n c i depth limit lead old new b → BegunAt t i m k b → BegunCounted t limit total b
content_counted t n c i depth limit total lead old new m k (Leaf node) u l a p =
    let o = p.0.order in
    let x = openers_later t i node.end (omega arith) in
    let y = a.deepest in
    omega arith
content_counted t n c i depth limit total lead old new m k (Opened f) u l a p =
    let y = bracket_opens f.kind i u a.bracket in
    let z = ap (openers_from t) a.entry in
    let d = a.deep in
    let e = a.deepest in
    record { depth = omega arith; deepest = omega arith }
content_counted t n c i depth limit total lead old new m k Nothing u l a p = tt
content_counted t n c i depth limit total lead old new m k (TooDeep q) u l a p =
    let f = a.1 in
    let y = bracket_opens f.kind i u f.bracket in
    let z = f.full in
    omega arith
