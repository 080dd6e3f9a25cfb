-- After the key of an entry, up to its `:`.
use Rattle.std.proofs.Common.{◌≡◌, ℕ, max, ℤ, List, ◌++◌, length, Some, None, sym, ap, ◌∙◌, subst, arith, append_assoc}
use Rattle.yf_chars.specs.declared.context.Ctx.{Ctx}
use Rattle.yf_comments.specs.Comment.{CommentValue}
use Rattle.yf_events.specs.Edit.{edited, coloned}
use Rattle.yf_events.specs.declared.part.Part.{Part}
use Rattle.yf_grammar.specs.Productions.Meaning.{Meaning, ◌⊕◌, noting, entering, first_entering}
use Rattle.yf_grammar.specs.FlowReader.Parser.{Gap, ColonAt}
use Rattle.yf_grammar.specs.FlowReader.FlowContinuations.{ValueAwaited}
use Rattle.yf_grammar.proofs.FlowStack.AwaitValues.{value_after_key}
use Rattle.yf_flow.specs.declared.frame.Frame.{Frame}
use Rattle.yf_flow.specs.declared.frame.Node.{Node}
use Rattle.yf_flow.specs.declared.frame.Role.TheVariants.{Key}
use Rattle.yf_flow.specs.StepTerms.{FrameWithNode}
use Rattle.yf_flow.specs.StackMeaning.{first_events, NotesFilled, PartSoFar, in_role, entry_from, written_in, Base, AtEnded, AtValue}
use Rattle.yf_flow.proofs.Ends.NotedLemmas.{noted_coloned}
use Rattle.yf_flow.proofs.Stack.TiedEnds.{written_as}
use Rattle.yf_flow.proofs.Stack.TiedClose.{entry_more}
use Rattle.yf_flow.proofs.Stack.TiedNodes.{reaching_framed, key_read}
use Rattle.yf_flow.proofs.Stack.TiedPairKeys.{colon_noted}
use Rattle.yf_flow.proofs.Ends.EntryNotes.{key_value as key_no_value}

pub key_coloned : {t : List ℕ} {kept : ℕ} {old new : Part} (w x : Meaning) (s v m : ℕ) (cs : List CommentValue) → PartSoFar t kept (w ⊕ entering s None x) old → m ≡ length w.events
    → new.events ≡ edited (coloned v) m old.events → new.comments ≡ old.comments ++ cs → new.escapes ≡ old.escapes → PartSoFar t kept (w ⊕ noting (entering s (Some v) x) cs) new
unfolding ◌⊕◌ entering noting
key_coloned {t} {kept} {old} {new} w x s v m cs p e a b c =
    let r : NotesFilled t kept (w.events ++ first_entering (record (entry_from s) { colon = Some v }) x.events) (edited (coloned v) (length w.events) old.events) =
    subst (λ z. NotesFilled t kept z (edited (coloned v) (length w.events) old.events)) (colon_noted v s w.events x.events) (noted_coloned v (length w.events) p.events) in
    record {
      events = subst (λ z. NotesFilled t kept (w.events ++ first_entering (record (entry_from s) { colon = Some v }) x.events) z) (sym (a ∙ ap (λ z. edited (coloned v) z old.events) e)) r;
      comments = b ∙ ap (λ z. z ++ cs) p.comments ∙ append_assoc w.comments x.comments cs;
      escapes = c ∙ p.escapes;
    }

pub key_value : {t : List ℕ} {n : ℤ} {d : Ctx} {base : Base} {frames : List Frame} {first o : Frame} {node : Node} {k : ℕ} {cs : List CommentValue} {old new : Part}
    → AtEnded t n d base frames first node old → first.role ≡ Key → FrameWithNode first node.deepest o → Gap t n d node.end k cs → ColonAt t node.json d k
    → new.events ≡ edited (coloned k) o.entry_event old.events → new.comments ≡ old.comments ++ cs → new.escapes ≡ old.escapes → AtValue t n d base frames o node.json k new
key_value {t} {n} {d} {base} {frames} {first} {o} {node} {k} {cs} {old} {new} a v re q b x y w =
    let f = a.answer in
    let kr = key_read a.awaited v in
    let q1 : Gap t n d f.end k cs = subst (λ z. Gap t n d z k cs) a.end q in
    let b1 : ColonAt t f.json d k = subst (λ z. ColonAt t z d k) a.json b in
    let z = kr.nothing_open in
    let h : f.height ≡ max a.height f.height = omega arith in
    let body = a.read ⊕ noting (entering a.layer.start (Some k) f.meaning) cs in
    let r : PartSoFar t (first_events base) (written_in a.layer (a.read ⊕ entering a.layer.start None f.meaning)) old = written_as (ap (λ r. written_in a.layer (a.read ⊕ in_role r a.layer.start f.meaning)) v) a.written in
    let more = entry_more a.layer.before a.layer.begin a.layer.known a.layer.pair a.layer.start a.read in
    subst (λ j. AtValue t n d base frames o j k new) (sym a.json) (record {
      layer = a.layer;
      height = max a.height f.height;
      read = body;
      tied = record {
        rest = a.tied.rest;
        below = a.tied.below;
        entries = a.tied.entries;
        open_there = a.tied.open_there;
        framed = reaching_framed o f.height node.deepest a.deepest re.kind re.event re.depth re.deepest a.tied.framed;
        all = a.tied.all;
      };
      value = subst (λ g. ValueAwaited t a.layer.limit a.layer.sequence n d a.layer.pair a.layer.start f.json g body k) h (value_after_key kr.awaited kr.no_colon f a.parsed q1 b1);
      entry = re.entry ∙ a.entry;
      written = written_as (more (noting (entering a.layer.start (Some k) f.meaning) cs))
          (key_coloned (written_in a.layer a.read) f.meaning a.layer.start k o.entry_event cs (written_as (sym (more (entering a.layer.start None f.meaning))) r)
          (re.index ∙ a.index (λ u. key_no_value (sym v ∙ u))) x y w);
    })
