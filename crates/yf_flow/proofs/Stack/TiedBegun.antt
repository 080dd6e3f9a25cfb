-- The beginning of an awaited node: if there is none, the outermost collection is not derived; if a bracket opens a
-- collection, it awaits entries.
use Rattle.std.proofs.Common.{◌≡◌, ℕ, suc, ◌+◌, ◌-◌, ℤ, Bool, false, List, [], ◌∷◌, ◌++◌, length, Option, None, refl, sym, ap, ◌∙◌, subst, arith, append-nil}
use Rattle.yf_chars.specs.declared.context.Ctx.{Ctx}
use Rattle.yf_chars.specs.Text.{code}
use Rattle.yf_comments.specs.Comment.{CommentValue}
use Rattle.yf_events.specs.declared.part.Part.{Part}
use Rattle.yf_grammar.specs.Productions.Grammar.{in_flow, opening}
use Rattle.yf_events.specs.Event.{EventInText}
use Rattle.yf_events.specs.declared.event.Entry.{Entry}
use Rattle.yf_flow.specs.declared.frame.CollectionKind.{CollectionKind}
use Rattle.yf_flow.specs.declared.frame.CollectionKind.TheVariants.{Sequence, Mapping, Pair}
use Rattle.yf_flow.specs.NodeStarts.{PartGrown, IsOpening, is_sequence, is_lined}
use Rattle.yf_flow.proofs.Ends.NotedLemmas.{noted_more, noted_length}
use Rattle.yf_grammar.specs.Productions.Meaning.{Meaning, ◌⊕◌, noting, entering, first_entering}
use Rattle.yf_grammar.specs.FlowReader.Parser.{AContent, Parses, only}
use Rattle.yf_grammar.specs.FlowReader.FlowContinuations.{EntriesAwaited, SeparationAwaited}
use Rattle.yf_grammar.proofs.FlowStack.AwaitEntries.{entries_opened}
use Rattle.yf_grammar.proofs.FlowStack.AwaitFails.{node_fails, content_fails}
use Rattle.yf_flow.specs.declared.frame.Frame.{Frame}
use Rattle.yf_flow.specs.NodeParts.{given, NodeLeaf, comments_before, opened_event, NodeOpened, NodeMissing, no_node, no_content, NodeFull}
use Rattle.yf_flow.specs.StackMeaning.{NoteOf, in_role, entry_from, AtEnded, NoteFilled, NotesFilled, PartSoFar, entry_of, entries_written, written_in, kind_of, Base, Below, inside, AtEntry, AtNode, NoBase}
use Rattle.yf_flow.proofs.Stack.TiedClose.{frame_depth, entry_more}
use Rattle.yf_flow.proofs.Stack.TiedEnds.{written_as}
use Rattle.yf_flow.specs.declared.frame.Role.{Role}
use Rattle.yf_flow.specs.declared.frame.Role.TheVariants.{Item, Key, Value}
use Rattle.yf_flow.specs.declared.frame.Node.{Node}
use Rattle.yf_flow.proofs.Stack.TiedFails.{all_fails, awaited_node}

module _ {t : List ℕ} {n : ℤ} {d : Ctx} {base : Base} {frames : List Frame} {top : Frame} {p : ℕ} {part : Part} (a : AtNode t n d base frames top p part) where
  pub missing_fails : NodeMissing t n d p → NoBase t n base
  missing_fails (no_node f) = all_fails a.tied.below (node_fails (awaited_node a.node) a.tied.entries a.tied.open_there (f a.layer.limit))
  missing_fails (no_content over f) = all_fails a.tied.below (content_fails over a.tied.entries a.tied.open_there (awaited_node a.node) (f a.layer.limit))

  pub full_fails : {q : ℕ} → NodeFull t n d p top.depth base.total q → NoBase t n base
  full_fails {q} f =
      let r = frame_depth a.tied.framed in
      let l = f.full in
      let z : 0 ≡ a.layer.limit = omega arith in
      all_fails a.tied.below (content_fails f.over a.tied.entries a.tied.open_there (awaited_node a.node) (subst (λ e. Parses t e (AContent n d q) None) z f.none))

-- within a collection, one that a bracket opens awaits entries after it
pub bracket_awaits : {t : List ℕ} {e i : ℕ} {n : ℤ} {d : Ctx} (sequence : Bool) → in_flow d ≡ d → code t i ≡ opening sequence
    → SeparationAwaited t e sequence n d d i 0 (only [] 0) (i + 1)
bracket_awaits {t} {e} {i} {n} {d} sequence q b = record { past = λ k cs g. subst (λ z. EntriesAwaited t e sequence n d z i 0 (noting (only [] 0) cs) k) q (entries_opened k cs b g) }

pub opened_kind : (kind : CollectionKind) (x : ℕ) → IsOpening kind x → (kind ≡ kind_of (is_sequence kind)) × (x ≡ opening (is_sequence kind))
opened_kind Sequence x e = (refl, e)
opened_kind Mapping x e = (refl, e)
opened_kind Pair x e = absurd e

pub opened_written : {t : List ℕ} {kept : ℕ} {w : Meaning} {old new : Part} (cs : List CommentValue) (begin event : EventInText) → PartSoFar t kept w old → NoteFilled t begin event → PartGrown old new (event ∷ []) cs []
    → PartSoFar t kept (entries_written (noting w cs) begin (only [] 0)) new
unfolding ◌⊕◌ noting only
opened_written {t} {kept} {w} {old} {new} cs begin event p e a = record {
  events = subst (λ z. NotesFilled t kept z new.events) (sym (append-nil (w.events ++ begin ∷ []))) (subst (λ z. NotesFilled t kept (w.events ++ begin ∷ []) z) (sym a.events) (noted_more p.events e));
  comments = a.comments ∙ ap (λ z. z ++ cs) p.comments ∙ sym (append-nil (w.comments ++ cs)) ∙ sym (append-nil ((w.comments ++ cs) ++ []));
  escapes = a.escapes ∙ append-nil old.escapes ∙ p.escapes ∙ sym (append-nil w.escapes) ∙ sym (append-nil (w.escapes ++ []));
}

pub noting_events : (w : Meaning) (cs : List CommentValue) → (noting w cs).events ≡ w.events
unfolding noting
noting_events w cs = refl

-- a collection is opened
pub opened_entry : {t : List ℕ} {n : ℤ} {d : Ctx} {base : Base} {frames : List Frame} {top f : Frame} {p : ℕ} {old new : Part} {entry : Option Entry} → in_flow d ≡ d
    → (a : AtNode t n d base frames top p old) → (o : NodeOpened t n d p top.depth base.total entry old new f)
    → NoteFilled t (opened_event p o.before (entry_of top.role a.layer.start) (is_sequence f.kind) o.content) (opened_event p o.before entry (is_sequence f.kind) o.content)
    → AtEntry t n d base (top ∷ frames) f f.entry new
opened_entry {t} {n} {d} {base} {frames} {top} {f} {p} {old} {new} {entry} q a o e =
    let r = frame_depth a.tied.framed in
    let l = o.room in
    let k = opened_kind f.kind (code t o.content) o.bracket in
    let w = written_in a.layer a.read in
    let begin = opened_event p o.before (entry_of top.role a.layer.start) (is_sequence f.kind) o.content in
    let d1 = o.deep in
    let d2 = o.deepest in
    let less : a.layer.limit ≡ suc (a.layer.limit - 1) = omega arith in
    record {
      sequence = is_sequence f.kind;
      place = o.content;
      context = d;
      limit = a.layer.limit - 1;
      high = 0;
      before = noting w (comments_before o.before);
      begin = begin;
      known = only [] 0;
      below = subst (λ z. Below t n d base (top ∷ frames) (is_sequence f.kind) o.content d z (noting w (comments_before o.before)) begin) less
          (inside a.tied.below a.tied.entries a.tied.open_there a.node a.tied.framed refl a.entry a.index o.over (ap (λ z. top ∷ z) a.tied.all));
      awaited = subst (λ z. SeparationAwaited t (a.layer.limit - 1) (is_sequence f.kind) n d d o.content 0 (only [] 0) z) (sym o.first) (bracket_awaits (is_sequence f.kind) q k.1);
      frame = record {
        kind = k.0;
        event = o.event ∙ sym (noted_length a.written.events) ∙ ap (λ z. length z) (sym (noting_events w (comments_before o.before)));
        room = omega arith;
        deepest = omega arith;
      };
      written = opened_written (comments_before o.before) begin (opened_event p o.before entry (is_sequence f.kind) o.content) a.written e o.added;
    }

-- the one event of a leaf, in its role
pub record RoleEvent (role : Role) (s : ℕ) (x : Meaning) (e : EventInText) : Type 0 where
  events : (in_role role s x).events ≡ record e { entry = entry_of role s } ∷ []
  comments : (in_role role s x).comments ≡ x.comments
  escapes : (in_role role s x).escapes ≡ x.escapes

pub role_event : (role : Role) (s : ℕ) (x : Meaning) (e : EventInText) → x.events ≡ e ∷ [] → e.entry ≡ None → RoleEvent role s x e
unfolding entering
role_event Value s x e a b = record { events = a ∙ ap (λ z. record e { entry = z } ∷ []) b; comments = refl; escapes = refl }
role_event Item s x e a b = record { events = ap (λ z. first_entering (entry_from s) z) a; comments = refl; escapes = refl }
role_event Key s x e a b = record { events = ap (λ z. first_entering (entry_from s) z) a; comments = refl; escapes = refl }

pub leaf_written : {t : List ℕ} {kept : ℕ} {w : Meaning} {old new : Part} {entry : Option Entry} (role : Role) (s : ℕ) (x : Meaning) (e : EventInText) → RoleEvent role s x e → x.events ≡ e ∷ [] → PartSoFar t kept w old
    → is_lined e.event ≡ false → NoteOf t (record e { entry = entry_of role s }) (record e { entry = entry }) → PartGrown old new (given entry x.events) x.comments x.escapes
    → PartSoFar t kept (w ⊕ in_role role s x) new
unfolding ◌⊕◌
leaf_written {t} {kept} {w} {old} {new} {entry} role s x e r q p l note a = record {
  events = subst (λ z. NotesFilled t kept (w.events ++ z) new.events) (sym r.events)
      (subst (λ z. NotesFilled t kept (w.events ++ record e { entry = entry_of role s } ∷ []) z) (sym (a.events ∙ ap (λ z. old.events ++ given entry z) q))
      (noted_more p.events (record { no_lines = l; note = note })));
  comments = a.comments ∙ ap (λ z. z ++ x.comments) p.comments ∙ ap (λ z. w.comments ++ z) (sym r.comments);
  escapes = a.escapes ∙ ap (λ z. z ++ x.escapes) p.escapes ∙ ap (λ z. w.escapes ++ z) (sym r.escapes);
}

-- a leaf was read
pub leaf_ended : {t : List ℕ} {n : ℤ} {d : Ctx} {base : Base} {frames : List Frame} {top : Frame} {p : ℕ} {old new : Part} {entry : Option Entry} {node : Node} (a : AtNode t n d base frames top p old)
    → NodeLeaf t n d p top.depth entry old new node → ((e : EventInText) → NoteOf t (record e { entry = entry_of top.role a.layer.start }) (record e { entry = entry }))
    → AtEnded t n d base frames top node new
leaf_ended {top = top} {p = p} a l note = record {
  layer = a.layer;
  height = a.height;
  read = a.read;
  place = p;
  answer = l.answer;
  tied = a.tied;
  awaited = a.node;
  entry = a.entry;
  index = a.index;
  parsed = l.read a.layer.limit;
  end = l.end;
  json = l.json;
  deepest = let x = l.deepest in let y = l.flat in omega arith;
  finish = l.finish;
  written = written_as (entry_more a.layer.before a.layer.begin a.layer.known a.layer.pair a.layer.start a.read (in_role top.role a.layer.start l.answer.meaning))
      (leaf_written top.role a.layer.start l.answer.meaning l.event (role_event top.role a.layer.start l.answer.meaning l.event l.only_event l.no_entry) l.only_event a.written l.no_lines (note l.event) l.added);
}
