-- After a value of an entry, or a key without one, the entry has been read.
use Rattle.std.proofs.Common.{◌≡◌, ℕ, max, ◌+◌, ℤ, Bool, false, List, [], ◌∷◌, ◌++◌, Some, None, refl, sym, ap, ◌∙◌, subst, arith}
use Rattle.yf_chars.specs.declared.context.Ctx.{Ctx}
use Rattle.yf_events.specs.declared.part.Part.{Part}
use Rattle.yf_grammar.specs.Productions.Meaning.{Meaning, ◌⊕◌, noting, entering, empty_node}
use Rattle.yf_grammar.specs.FlowReader.Parser.{ParsedNode, Gap, ColonAt, ANode, Parses}
use Rattle.yf_grammar.specs.FlowReader.FlowContinuations.{IsEntry, with_pair, wrapped, KeyAwaited, Within, not_yet, gap_past}
use Rattle.yf_grammar.proofs.FlowStack.AwaitEntries.{plus_assoc, noting_last}
use Rattle.yf_grammar.proofs.FlowStack.AwaitValues.{key_alone}
use Rattle.yf_comments.specs.Comment.{CommentValue}
use Rattle.yf_props.specs.Props.{no_props}
use Rattle.yf_events.specs.Event.{scalar_node}
use Rattle.yf_events.specs.declared.event.ScalarStyle.TheVariants.{Plain}
use Rattle.yf_flow.specs.NodeStarts.{entry_event}
use Rattle.yf_flow.proofs.Stack.TiedClose.{entry_more}
use Rattle.yf_flow.proofs.Stack.TiedValues.{empty_written}
use Rattle.yf_grammar.proofs.WrittenTexts.LeafBack.{noting_nothing}
use Rattle.yf_flow.specs.declared.frame.Frame.{Frame}
use Rattle.yf_flow.specs.declared.frame.Role.{Role}
use Rattle.yf_flow.specs.declared.frame.Role.TheVariants.{Item, Key, Value}
use Rattle.yf_flow.specs.declared.frame.Node.{Node}
use Rattle.yf_flow.specs.StackMeaning.{first_events, in_role, written_in, PartSoFar, FramesOfEntry, of_collection, of_pair, NodeIn, item_in, key_in, value_in, Base, AtEnded, AtEntryDone}
use Rattle.yf_flow.proofs.Stack.TiedEnds.{written_as}
use Rattle.yf_flow.proofs.Ends.EntryNotes.{item_value, key_value}

-- the frame of a collection with a node in it
pub reaching_framed : {total e h g m k : ℕ} {sequence pair : Bool} {f : Frame} {rest : List Frame} (o : Frame) (y deepest : ℕ) → deepest ≡ f.depth + y → o.kind ≡ f.kind → o.event ≡ f.event
    → o.depth ≡ f.depth → o.deepest ≡ max f.deepest deepest → FramesOfEntry total sequence pair e h g m k f rest → FramesOfEntry total sequence pair e h (max g y) m k o rest
reaching_framed o y deepest q a b c d (of_collection f) =
    let x = f.deepest in let z = f.room in of_collection (record { kind = a ∙ f.kind; event = b ∙ f.event; room = omega arith; deepest = omega arith })
reaching_framed o y deepest q a b c d (of_pair f s) =
    let x = f.deepest in let z = f.room in of_pair (record { kind = a ∙ f.kind; event = b ∙ f.event; room = omega arith; deepest = omega arith }) s

item_no_key : Item ≡ Key → ⊥
item_no_key e = cc

-- the node of a value
value_entry : {t : List ℕ} {n : ℤ} {d : Ctx} {s e p g : ℕ} {role : Role} {sequence pair : Bool} {y : Meaning} (f : ParsedNode) → NodeIn t n d s role sequence e pair p g y → role ≡ Value
    → Parses t e (ANode n d p) (Some f) → IsEntry t (with_pair pair e) sequence n d s f.end (with_pair pair (max g f.height)) (wrapped pair s (y ⊕ f.meaning))
value_entry f (item_in a) q r = absurd (item_value q)
value_entry f (key_in a b) q r = absurd (key_value q)
value_entry f (value_in a b) q r = a.some f r

last_finish : (x y : Meaning) → (x ⊕ y).finish ≡ y.finish
unfolding ◌⊕◌
last_finish x y = refl

pub value_read_done : {t : List ℕ} {n : ℤ} {d : Ctx} {base : Base} {frames : List Frame} {top : Frame} {node : Node} {part : Part} → AtEnded t n d base frames top node part → top.role ≡ Value
    → (o : Frame) → o.kind ≡ top.kind → o.event ≡ top.event → o.depth ≡ top.depth → o.deepest ≡ max top.deepest node.deepest → AtEntryDone t n d base frames o node.end node.end part
value_read_done {t} {n} {d} {base} {node = node} {part = part} a v o k ev de hi = record {
  layer = a.layer;
  height = max a.height a.answer.height;
  meaning = a.read ⊕ a.answer.meaning;
  end = a.answer.end;
  comments = [];
  tied = record {
    rest = a.tied.rest;
    below = a.tied.below;
    entries = a.tied.entries;
    open_there = a.tied.open_there;
    framed = reaching_framed o a.answer.height node.deepest a.deepest k ev de hi a.tied.framed;
    all = a.tied.all;
  };
  entry = value_entry a.answer a.awaited v a.parsed;
  finish = last_finish a.read a.answer.meaning ∙ a.finish ∙ sym a.end;
  within = subst (λ z. Within t n d a.answer.end z []) (sym a.end) not_yet;
  written = written_as (ap (λ r. written_in a.layer (a.read ⊕ in_role r a.layer.start a.answer.meaning)) v ∙ ap (λ z. written_in a.layer z) (sym (noting_nothing (a.read ⊕ a.answer.meaning)))) a.written;
}

-- the node of a key
pub record KeyRead (t : List ℕ) (n : ℤ) (d : Ctx) (s : ℕ) (sequence : Bool) (e : ℕ) (pair : Bool) (p g : ℕ) (y : Meaning) : Type 0 where
  pub nothing_open : g ≡ 0
  pub awaited : KeyAwaited t e sequence n d pair s y p
  pub no_colon : ColonAt t false d p → ⊥

pub key_read : {t : List ℕ} {n : ℤ} {d : Ctx} {s e p g : ℕ} {role : Role} {sequence pair : Bool} {y : Meaning} → NodeIn t n d s role sequence e pair p g y → role ≡ Key
    → KeyRead t n d s sequence e pair p g y
key_read (item_in a) q = absurd (item_no_key q)
key_read (key_in a b) q = record { nothing_open = refl; awaited = a; no_colon = b }
key_read (value_in a b) q = absurd (key_value (sym q))

lone_key : {t : List ℕ} {n : ℤ} {d : Ctx} {s e p g k : ℕ} {sequence pair : Bool} {y : Meaning} {cs : List CommentValue} (f : ParsedNode) → KeyRead t n d s sequence e pair p g y
    → Parses t e (ANode n d p) (Some f) → Gap t n d f.end k cs → (ColonAt t f.json d k → ⊥)
    → IsEntry t (with_pair pair e) sequence n d s f.end (with_pair pair (max g f.height)) (wrapped pair s (y ⊕ (entering s None f.meaning ⊕ empty_node f.meaning.finish)))
lone_key {t} {n} {d} {s} {e} {g = g} {sequence = sequence} {pair} {y} f r q v b =
    let z = r.nothing_open in
    let h : f.height ≡ max g f.height = omega arith in
    subst (λ w. IsEntry t (with_pair pair e) sequence n d s f.end (with_pair pair w) (wrapped pair s (y ⊕ (entering s None f.meaning ⊕ empty_node f.meaning.finish)))) h
    (key_alone r.awaited r.no_colon f q v b)

key_finish : (x y : Meaning) (v : ℕ) → (x ⊕ (y ⊕ empty_node v)).finish ≡ v
unfolding ◌⊕◌ empty_node
key_finish x y v = refl

key_written : (x y : Meaning) (v : ℕ) (cs : List CommentValue) → (x ⊕ y) ⊕ noting (empty_node v) cs ≡ noting (x ⊕ (y ⊕ empty_node v)) cs
key_written x y v cs = sym (plus_assoc x y (noting (empty_node v) cs)) ∙ ap (λ z. x ⊕ z) (sym (noting_last y (empty_node v) cs)) ∙ sym (noting_last x (y ⊕ empty_node v) cs)

-- a key without a value
pub key_read_done : {t : List ℕ} {n : ℤ} {d : Ctx} {base : Base} {frames : List Frame} {top : Frame} {node : Node} {k : ℕ} {cs : List CommentValue} {old new : Part}
    → AtEnded t n d base frames top node old → top.role ≡ Key → Gap t n d node.end k cs → (ColonAt t node.json d k → ⊥)
    → new.events ≡ old.events ++ entry_event (scalar_node no_props Plain []) None ∷ [] → new.comments ≡ old.comments ++ cs → new.escapes ≡ old.escapes
    → (o : Frame) → o.kind ≡ top.kind → o.event ≡ top.event → o.depth ≡ top.depth → o.deepest ≡ max top.deepest node.deepest → AtEntryDone t n d base frames o node.end k new
key_read_done {t} {n} {d} {base} {node = node} {k} {cs} {old} {new} a v q b x y w o kd ev de hi =
    let f = a.answer in
    let body = a.read ⊕ entering a.layer.start None f.meaning in
    let q1 : Gap t n d f.end k cs = subst (λ z. Gap t n d z k cs) a.end q in
    let b1 : ColonAt t f.json d k → ⊥ = subst (λ z. ColonAt t z d k → ⊥) a.json b in
    let r : PartSoFar t (first_events base) (written_in a.layer body) old = written_as (ap (λ r. written_in a.layer (a.read ⊕ in_role r a.layer.start f.meaning)) v) a.written in
    record {
      layer = a.layer;
      height = max a.height f.height;
      meaning = a.read ⊕ (entering a.layer.start None f.meaning ⊕ empty_node f.meaning.finish);
      end = f.end;
      comments = cs;
      tied = record {
        rest = a.tied.rest;
        below = a.tied.below;
        entries = a.tied.entries;
        open_there = a.tied.open_there;
        framed = reaching_framed o f.height node.deepest a.deepest kd ev de hi a.tied.framed;
        all = a.tied.all;
      };
      entry = lone_key f (key_read a.awaited v) a.parsed q1 b1;
      finish = key_finish a.read (entering a.layer.start None f.meaning) f.meaning.finish ∙ a.finish ∙ sym a.end;
      within = gap_past q1;
      written = written_as
          (entry_more a.layer.before a.layer.begin a.layer.known a.layer.pair a.layer.start body (noting (empty_node f.meaning.finish) cs)
          ∙ ap (λ z. written_in a.layer z) (key_written a.read (entering a.layer.start None f.meaning) f.meaning.finish cs))
          (empty_written f.meaning.finish cs x y w r);
    }
