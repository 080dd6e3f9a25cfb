-- The outermost collection of a node: its bracket, and its contents after it is closed or given up.
use Rattle.std.proofs.Common.{◌≡◌, ℕ, ◌+◌, ◌-◌, ℤ, Bool, true, List, [], ◌<◌, suc, length, None, refl, sym, ap, ◌∙◌, subst, arith}
use Rattle.yf_chars.specs.declared.context.Ctx.{Ctx}
use Rattle.yf_chars.specs.Text.{code}
use Rattle.yf_events.specs.Edit.{ended}
use Rattle.yf_events.specs.Event.{EventInText}
use Rattle.yf_events.specs.declared.part.Part.{Part}
use Rattle.yf_grammar.specs.Productions.Grammar.{in_flow, opening}
use Rattle.yf_grammar.specs.Productions.Meaning.{Meaning, ◌⊕◌, noting, collection, plain_event, end_of}
use Rattle.yf_grammar.specs.FlowReader.Parser.{AContent, Parses, only}
use Rattle.yf_grammar.specs.FlowReader.FlowContinuations.{over, ended_at, SeparationAwaited}
use Rattle.yf_grammar.proofs.FlowStack.AwaitEntries.{entries_opened}
use Rattle.yf_grammar.proofs.FlowStack.AwaitFails.{over_some, gap_outside}
use Rattle.yf_flow.specs.declared.frame.Frame.{Frame}
use Rattle.yf_flow.specs.declared.frame.Node.{Node}
use Rattle.yf_flow.specs.declared.frame.Role.TheVariants.{Value}
use Rattle.yf_flow.specs.NodeStarts.{is_sequence}
use Rattle.yf_flow.specs.NodeParts.{comments_before, opened_event, NodeLeaf, NodeOpened, NodeMissing, no_node, no_content, NodeFull}
use Rattle.yf_flow.specs.ReadNodes.{NodeRead, NodeLost, no_node_there, content_lost}
use Rattle.yf_flow.specs.StackMeaning.{entryless, one, kind_of, entries_written, PartSoFar, Base, outermost, AtEntry, AtDone, NoBase}
use Rattle.yf_flow.proofs.Ends.NotedLemmas.{noted_length}
use Rattle.yf_flow.proofs.Stack.TiedBegun.{opened_kind, noting_events, role_event, leaf_written}
use Rattle.yf_flow.proofs.Stack.TiedClose.{closed_same, ended_meaning, start_of_node}
use Rattle.yf_flow.proofs.Stack.TiedEnds.{written_same}
use Rattle.yf_flow.proofs.Stack.TiedKept.{begin_kept, begin_noted}
use Rattle.yf_flow.proofs.Stack.TiedTaken.{opened_noted}

outer_awaits : {t : List ℕ} {e i : ℕ} {n : ℤ} {c : Ctx} (sequence : Bool) → code t i ≡ opening sequence → SeparationAwaited t e sequence n c (in_flow c) i 0 (only [] 0) (i + 1)
outer_awaits sequence b = record { past = λ k cs g. entries_opened k cs b (gap_outside g) }

-- after a bracket its collection awaits entries, with `depth` open collections around it
pub opened_awaits : {t : List ℕ} {n : ℤ} {c : Ctx} {depth limit : ℕ} {mid : Part} (w : Meaning) (begin : EventInText) (sequence : Bool) (i room : ℕ) (f : Frame) → code t i ≡ opening sequence → f.kind ≡ kind_of sequence
    → f.entry ≡ i + 1 → f.event ≡ length w.events → f.depth ≡ depth + 1 → f.deepest ≡ depth + 1 → depth < limit → depth + room ≡ limit → PartSoFar t (suc (length w.events)) (entries_written w begin (only [] 0)) mid
    → AtEntry t n (in_flow c) (record { sequence = sequence; place = i; context = c; limit = room; total = limit; written = w; event = begin }) [] f f.entry mid
opened_awaits {t} {n} {c} {depth} {limit} {mid} w begin sequence i room f k kind first event deep deepest l r p = record {
  sequence = sequence;
  place = i;
  context = c;
  limit = room - 1;
  high = 0;
  before = w;
  begin = begin;
  known = only [] 0;
  below = outermost (record { sequence_flag = refl; place = refl; context = refl; limit = omega arith; written = refl; event = refl });
  awaited = subst (λ z. SeparationAwaited t (room - 1) sequence n c (in_flow c) i 0 (only [] 0) z) (sym first) (outer_awaits sequence k);
  frame = record { kind = kind; event = event; room = omega arith; deepest = omega arith };
  written = p;
}

module _ {t : List ℕ} {n : ℤ} {c : Ctx} {i limit : ℕ} {old mid : Part} {f : Frame} (w : Meaning) (o : NodeOpened t n c i 0 limit None old mid f) where
  abbrev pub base_of : Base
  base_of = record {
    sequence = is_sequence f.kind;
    place = o.content;
    context = c;
    limit = limit;
    total = limit;
    written = noting w (comments_before o.before);
    event = opened_event i o.before None (is_sequence f.kind) o.content;
  }

  -- its entries are awaited after the bracket
  pub base_awaits : PartSoFar t (length w.events) w old → AtEntry t n (in_flow c) base_of [] f f.entry mid
  base_awaits p =
      let k = opened_kind f.kind (code t o.content) o.bracket in
      let begin = opened_event i o.before None (is_sequence f.kind) o.content in
      let same = ap (λ z. length z) (sym (noting_events w (comments_before o.before))) in
      opened_awaits (noting w (comments_before o.before)) begin (is_sequence f.kind) o.content limit f k.1 k.0 o.first (o.event ∙ sym (noted_length p.events) ∙ same) o.deep o.deepest o.room (omega arith)
      (subst (λ z. PartSoFar t (suc z) (entries_written (noting w (comments_before o.before)) begin (only [] 0)) mid) same (begin_kept (comments_before o.before) begin p o.added))

  -- it has been read
  pub base_read : {node : Node} {new : Part} → AtDone t n base_of node new → NodeRead t limit n c i w node new
  base_read {node} {new} a =
      let x = ended_at (is_sequence f.kind) o.content a.high a.known a.bracket in
      let j = a.bracket + 1 in
      let begin = ended j (opened_event i o.before None (is_sequence f.kind) o.content) in
      let noted = opened_noted {t = t} i o.content o.before (is_sequence f.kind) {x = None} {y = None} (entryless refl) in
      let same = ap (λ z. length z) (noting_events w (comments_before o.before)) in
      let p = begin_noted (noting w (comments_before o.before)) begin a.known (plain_event (end_of (is_sequence f.kind)) None) (record { no_lines = noted.no_lines; note = entryless refl }) a.written in
      record {
        answer = record x { meaning = over o.before x.meaning };
        parsed = over_some x o.over a.parsed;
        end = a.end;
        json = a.json;
        written = written_same
            (closed_same w a.known (over o.before (collection (is_sequence f.kind) true o.content j a.known)) (comments_before o.before)
            (ended j (opened_event i o.before None (is_sequence f.kind) o.content)) (plain_event (end_of (is_sequence f.kind)) None) j
            (ended_meaning Value o.before 0 i o.content j (is_sequence f.kind) a.known (start_of_node o.over)))
            (subst (λ z. PartSoFar t z (entries_written (noting w (comments_before o.before)) begin a.known ⊕ one (plain_event (end_of (is_sequence f.kind)) None)) new) same p);
      }

  -- it is not derived
  pub base_lost : NoBase t n base_of → NodeLost t limit n c i
  base_lost r = content_lost o.over r

-- a node without nodes in it
pub leaf_read : {t : List ℕ} {n : ℤ} {c : Ctx} {i limit depth : ℕ} {old new : Part} {node : Node} (w : Meaning) → PartSoFar t (length w.events) w old → NodeLeaf t n c i depth None old new node → NodeRead t limit n c i w node new
leaf_read {limit = limit} w p l = record {
  answer = l.answer;
  parsed = l.read limit;
  end = l.end;
  json = l.json;
  written = leaf_written Value 0 l.answer.meaning l.event (role_event Value 0 l.answer.meaning l.event l.only_event l.no_entry) l.only_event p l.no_lines (entryless refl) l.added;
}

pub missing_lost : {t : List ℕ} {n : ℤ} {c : Ctx} {i : ℕ} (limit : ℕ) → NodeMissing t n c i → NodeLost t limit n c i
missing_lost limit (no_node f) = no_node_there (f limit)
missing_lost limit (no_content over f) = content_lost over (f limit)

pub full_lost : {t : List ℕ} {n : ℤ} {c : Ctx} {i p : ℕ} (limit : ℕ) → NodeFull t n c i 0 limit p → NodeLost t limit n c i
full_lost {t} {n} {c} {i} {p} limit f =
    let l = f.full in
    let z : 0 ≡ limit = omega arith in
    content_lost f.over (subst (λ e. Parses t e (AContent n c p) None) z f.none)
