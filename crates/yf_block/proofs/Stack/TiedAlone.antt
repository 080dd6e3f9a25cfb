-- A node is awaited at the start of a line: the noted offset at which its properties may be all of it, and the node
-- if they are.
use Rattle.std.proofs.Common.{◌≡◌, ℕ, false, List, [], ◌∷◌, ◌++◌, length, Option, Some, None, refl, sym, ap, ◌∙◌, subst, arith, append-nil, reverse}
use Rattle.std.proofs.lemmas.List.{length-reverse}
use Rattle.yf_chars.specs.Chain.{Stuck, Chosen}
use Rattle.yf_comments.specs.Comment.{CommentValue}
use Rattle.yf_comments.specs.Comments.{Row}
use Rattle.yf_comments.proofs.LineOrder.{line_end_forward}
use Rattle.yf_props.specs.Props.{no_props}
use Rattle.yf_events.specs.Event.{EventInText, scalar_node}
use Rattle.yf_events.specs.declared.event.Entry as TheEntry
use Rattle.yf_events.specs.declared.event.ScalarStyle.TheVariants.{Plain}
use Rattle.yf_events.specs.declared.part.Part.{Part}
use Rattle.yf_grammar.specs.Productions.Meaning.{Meaning, ◌⊕◌, meaning_after, noting, plain_event, with_props, empty_node, from_to}
use Rattle.yf_grammar.specs.Productions.ReadParts.{Noting}
use Rattle.yf_grammar.specs.Productions.ReadParts.Noting.{no_event}
use Rattle.yf_grammar.specs.FlowReader.Parser.{ParsedNode, found, only}
use Rattle.yf_grammar.specs.BlockReader.BlockParser.{Ahead, Nothing, Indicator, Props, PropertiesHeld as HeldValue, LinesEnd, NoNode, LineText, headed, alone, BlockTask, Below, Whole}
use Rattle.yf_grammar.specs.BlockReader.BlockParser.Whole.{below_alone}
use Rattle.yf_grammar.specs.BlockReader.Halts.{Alone, alone_to, alone_nowhere, MayEnd, none_open, Halts}
use Rattle.yf_grammar.specs.BlockReader.Halts.Halts.{halts_alone}
use Rattle.yf_grammar.specs.BlockReader.BlockSteps.{made_or, as_after}
use Rattle.yf_grammar.specs.BlockReader.BlockStack.{Layer, asked}
use Rattle.yf_grammar.specs.BlockReader.BlockStates.{NodeRead}
use Rattle.yf_grammar.proofs.BlockOutcomes.BlockHalts.{may_end_chosen}
use Rattle.yf_grammar.proofs.BlockStack.BlockDedents.{want_ends, collections_end}
use Rattle.yf_grammar.proofs.BlockStack.BlockNodeSteps.{node_was_read, node_breaks}
use Rattle.yf_grammar.proofs.BlockStack.BlockResume.{root_was_read, root_halts}
use Rattle.yf_flow.specs.NodeStarts.{is_lined, leaf_event, entry_event}
use Rattle.yf_block.specs.declared.frame.Frame.{Frame}
use Rattle.yf_block.specs.declared.frame.BlockCursor.{BlockCursor}
use Rattle.yf_block.specs.declared.properties.PlacedProperties.{PlacedProperties}
use Rattle.yf_block.specs.PropertiesAnswers.{held_lead}
use Rattle.yf_block.specs.LineStepTied.{halt_with, AtAlone, AtEmpty}
use Rattle.yf_block.specs.LookTests.{NotWithinBreak}
use Rattle.yf_block.specs.HaltNotes.{ColonsCounted, IsOutermost, EmptyNoted, empty_noted, empty_before, empty_nowhere}
use Rattle.yf_block.specs.BlockTied.{floor_after, begins, ahead_comments, all_written, ReadTied, FramesTied, no_frames, frame_tied, halt_end, EntryTied}
use Rattle.yf_block.specs.BlockStepTied.{PropertiesTied, AheadTied, nothing_held, none_held, props_held, AtLine, AtResume, line_left, AtFailed}
use Rattle.yf_block.proofs.Ends.LineHalts.{outside_end, chosen_still, colons_counted, rounds_end, may_end_at, may_end_before, may_end_nowhere}
use Rattle.yf_block.proofs.Stack.TiedFailed.{broken_fails}
use Rattle.yf_block.proofs.Stack.TiedLeads.{first_noted, first_floor, begins_events, begins_comments, begins_escapes}
use Rattle.yf_block.proofs.Stack.TiedReads.{read_events, read_moved}

-- the state ahead, and the reader's properties for it
pub no_outer : {a : Ahead} {o : Option PlacedProperties} → AheadTied a o → a ≡ Nothing → o ≡ None
no_outer nothing_held e = refl
no_outer none_held e = refl
no_outer (props_held h) e = absurd (cc)

pub no_frames_there : {n : ℕ} {fs : List Frame} {ls : List Layer} → FramesTied n fs ls → ls ≡ [] → fs ≡ []
no_frames_there no_frames e = refl
no_frames_there (frame_tied f r) e = absurd (cc)

pub no_layers_there : {n : ℕ} {fs : List Frame} {ls : List Layer} → FramesTied n fs ls → fs ≡ [] → ls ≡ []
no_layers_there no_frames e = refl
no_layers_there (frame_tied f r) e = absurd (cc)

outer_unheld : {a : Ahead} {o : Option PlacedProperties} → AheadTied a o → o ≡ None → ((i : ℕ) → a ≡ Indicator i → ⊥) → a ≡ Nothing
outer_unheld nothing_held e n = refl
outer_unheld (none_held {i = i}) e n = absurd (n i refl)
outer_unheld (props_held h) e n = absurd (cc)

-- what is ahead is the whole node, which ends with the comments after it
pub record IsAlone (a : Ahead) (k : ℕ) (ds : List CommentValue) : Type 0 where
  pub answer : ParsedNode
  pub is : alone a k ds ≡ Some answer
  pub end : answer.end ≡ k

pub alone_there : (a : Ahead) (k : ℕ) (ds : List CommentValue) → (a ≡ Nothing → ⊥) → IsAlone a k ds
unfolding alone found
alone_there Nothing k ds n = absurd (n refl)
alone_there (Indicator i) k ds n = record { answer = record { end = k; height = 0; json = false; meaning = noting (empty_node i) ds }; is = refl; end = refl }
alone_there (Props h) k ds n = record { answer = record { end = k; height = 0; json = false; meaning = noting (headed (Props h) (empty_node h.end)) ds }; is = refl; end = refl }

pub alone_none : (a : Ahead) (k : ℕ) (ds : List CommentValue) → a ≡ Nothing → alone a k ds ≡ None
unfolding alone
alone_none a k ds e = ap (λ z. alone z k ds) e

-- the outermost node's last halt then
some_halt : (ls : List Layer) (ds : List CommentValue) (h : Option ParsedNode) (o : Option ParsedNode) (f : ParsedNode) → o ≡ Some f → halt_end (halt_with ls ds h o) ≡ Some f.end
unfolding made_or
some_halt ls ds h o f e = ap (λ z. halt_end (halt_with ls ds h z)) e ∙ ap (λ (z : ℕ). Some z) (rounds_end ls (as_after ds f))

none_halt : (ls : List Layer) (ds : List CommentValue) (h : Option ParsedNode) → halt_with ls ds h None ≡ h
unfolding made_or
none_halt ls ds h = refl

pub record NotedAlone (t : List ℕ) (ls : List Layer) (ds : List CommentValue) (a : Ahead) (i : ℕ) (h : Option ParsedNode) (noted : Option ℕ) : Type 0 where
  pub last : Option ParsedNode
  pub alone : Alone t (asked ls) a i last
  pub halted : noted ≡ halt_end (halt_with ls ds h last)

module _ {t : List ℕ} {d : ℕ} {root : BlockTask} {before : Part} {frames : List Frame} {p : ℕ} {old : BlockCursor} {part : Part} (a : AtLine t d root before frames p old part) where
  alone_to_place : (a.ahead ≡ Nothing → ⊥) → {k : ℕ} {es : List CommentValue} → Chosen (MayEnd t (asked a.layers) old.from) k es → NotedAlone t a.layers a.comments a.ahead old.from a.halt (Some k)
  alone_to_place n {k} {es} c =
      let f = alone_there a.ahead k es n in
      record { last = alone a.ahead k es; alone = alone_to c; halted = sym (some_halt a.layers a.comments a.halt (alone a.ahead k es) f.answer f.is ∙ ap (λ (z : ℕ). Some z) f.end) }

  noted_alone : {new : Option ℕ} → (a.ahead ≡ Nothing → ⊥) → EmptyNoted t old.from p frames old.halt new → NotedAlone t a.layers a.comments a.ahead old.from a.halt new
  noted_alone n (empty_noted z) = alone_to_place n (may_end_at a.read.text.utf8 a.stack.frames_tied a.stack.order a.line z)
  noted_alone n (empty_before z l) = alone_to_place n (may_end_before a.read.text.utf8 a.stack.frames_tied a.stack.order a.line (λ s. n (a.started s)) z l).best
  noted_alone n (empty_nowhere z l) = record {
    last = None;
    alone = alone_nowhere (may_end_nowhere a.read.text.utf8 a.stack.frames_tied a.stack.order a.line (λ s. n (a.started s)) z l);
    halted = a.stack.halted ∙ ap halt_end (sym (none_halt a.layers a.comments a.halt));
  }

  -- nothing is ahead of the outermost node
  outermost_bare : IsOutermost old.wanted.outer frames → a.ahead ≡ Nothing
  outermost_bare o = outer_unheld a.wanted.outer o.0 (λ i e. a.wanted.rooted i e (no_layers_there a.stack.frames_tied o.1))

  bare_outermost : a.ahead ≡ Nothing → IsOutermost old.wanted.outer frames
  bare_outermost e = (no_outer a.wanted.outer e, no_frames_there a.stack.frames_tied (a.wanted.nested e))

  root_alone : {new : Option ℕ} → a.ahead ≡ Nothing → new ≡ old.halt → NotedAlone t a.layers a.comments a.ahead old.from a.halt new
  root_alone e h =
      let open_none : Chosen (MayEnd t (asked a.layers) old.from) p a.told = subst (λ ls. Chosen (MayEnd t (asked ls) old.from) p a.told) (sym (a.wanted.nested e)) (may_end_chosen a.line none_open) in
      let nothing = alone_none a.ahead p a.told e in
      record {
        last = alone a.ahead p a.told;
        alone = alone_to open_none;
        halted = h ∙ a.stack.halted ∙ ap halt_end (sym (ap (λ z. halt_with a.layers a.comments a.halt z) nothing ∙ none_halt a.layers a.comments a.halt));
      }

  pub outside_line : NotWithinBreak t p
  outside_line = outside_end a.read.text.utf8 a.line.derived

  with_noted : {new : BlockCursor} → new ≡ record old { halt = new.halt } → NotedAlone t a.layers a.comments a.ahead old.from a.halt new.halt → AtAlone t d root before frames p new part
  with_noted {new} e n = subst (λ z. AtAlone t d root before frames p z part) (sym e) (record {
    layers = a.layers;
    room = a.room;
    comments = a.comments;
    indentation = a.indentation;
    context = a.context;
    ahead = a.ahead;
    told = a.told;
    halt = a.halt;
    last_alone = n.last;
    node = a.node;
    line = a.line;
    alone = n.alone;
    first = a.first;
    not_first = a.not_first;
    past = a.past;
    wanted = record {
      least = a.wanted.least;
      out = a.wanted.out;
      outer = a.wanted.outer;
      entry = a.wanted.entry;
      within = a.wanted.within;
      nested = a.wanted.nested;
      rooted = a.wanted.rooted;
      narrow = a.wanted.narrow;
    };
    last = a.last;
    stack = record { order = a.stack.order; frames_tied = a.stack.frames_tied; colons = a.stack.colons; halted = n.halted };
    read = read_moved a.read refl;
  })

  -- whether something is ahead is decided
  ahead_or : {X : Type 0} → (x : Ahead) → (x ≡ Nothing → X) → ((x ≡ Nothing → ⊥) → X) → X
  ahead_or Nothing f g = f refl
  ahead_or (Indicator i) f g = g (λ e. cc)
  ahead_or (Props h) f g = g (λ e. cc)

  pub line_noted : {new : BlockCursor} → new ≡ record old { halt = new.halt } → (IsOutermost old.wanted.outer frames → new.halt ≡ old.halt)
      → ((IsOutermost old.wanted.outer frames → ⊥) → NotWithinBreak t p → ColonsCounted old.colons frames → EmptyNoted t old.from p frames old.halt new.halt)
      → AtAlone t d root before frames p new part
  line_noted {new} e o n = ahead_or a.ahead
      (λ b. with_noted e (root_alone b (o (bare_outermost b))))
      (λ b. with_noted e (noted_alone b (n (λ y. b (outermost_bare y)) outside_line (colons_counted a.stack))))

-- a node of one event is added to the events, with the comments read before it
module _ {t : List ℕ} {before : Part} (w : Meaning) {cs : List CommentValue} {progress : BlockCursor} {old : Part} (r : ReadTied t before (w ⊕ only cs 0) progress old) where
  pub one_added : {o : Option ℕ} {entry : Option TheEntry.Entry} (m : Meaning) {new : Part} (e : EventInText) → EntryTied t progress.floor o entry → m.events ≡ e ∷ [] → e.entry ≡ None → is_lined e.event ≡ false
      → m.comments ≡ cs → m.escapes ≡ [] → new.events ≡ old.events ++ record e { entry = entry } ∷ [] → new.comments ≡ old.comments → new.escapes ≡ old.escapes
      → ReadTied t before (w ⊕ begins o m) progress new
  unfolding ◌⊕◌ only
  one_added {o} {entry} m e tied q b l c s x y z =
      let here = begins_events o m q in
      read_events r (begins o m).events (record e { entry = entry } ∷ [])
      (subst (λ v. Noting t progress.floor v (record e { entry = entry } ∷ [])) (sym here) (first_noted e [] [] tied b l no_event))
      (ap (λ v. floor_after progress.floor v) here ∙ first_floor progress.floor o e [] l)
      x y z {y = w ⊕ begins o m}
      (ap (λ v. v ++ (begins o m).events) (append-nil w.events))
      (ap (λ v. w.comments ++ v) (sym (begins_comments o m ∙ c)))
      (ap (λ v. w.escapes ++ v) (sym (begins_escapes o m ∙ s)))

-- the event of a node that has only its properties
held_event : {h : HeldValue} {held : PlacedProperties} (entry : Option TheEntry.Entry) → PropertiesTied h held → leaf_event (held_lead held entry) Plain [] held.end
    ≡ record { event = scalar_node h.value.props Plain []; span = Some (record { start = h.start; end = h.end }); tag_offset = h.value.tag_offset; entry = entry; folded = [] }
held_event {h} {held} entry v =
    ap (λ z. record { event = scalar_node z Plain []; span = Some (record { start = held.start; end = held.end }); tag_offset = held.tag_offset; entry = entry; folded = [] }) v.props
    ∙ ap (λ (z : ℕ). record { event = scalar_node h.value.props Plain []; span = Some (record { start = z; end = held.end }); tag_offset = held.tag_offset; entry = entry; folded = [] }) v.start
    ∙ ap (λ (z : ℕ). record { event = scalar_node h.value.props Plain []; span = Some (record { start = h.start; end = z }); tag_offset = held.tag_offset; entry = entry; folded = [] }) v.end
    ∙ ap (λ z. record { event = scalar_node h.value.props Plain []; span = Some (record { start = h.start; end = h.end }); tag_offset = z; entry = entry; folded = [] }) v.tag

module _ {t : List ℕ} {d : ℕ} {root : BlockTask} {before : Part} {frames : List Frame} {p : ℕ} {old : BlockCursor} {part : Part} (a : AtAlone t d root before frames p old part)
    (none : NoNode t a.indentation a.context old.from p) where
  whole : Whole t a.room (Below a.indentation a.context a.ahead old.from) (alone a.ahead p a.told)
  whole = below_alone a.line none

  halts : Halts t a.room (asked a.layers) (Below a.indentation a.context a.ahead old.from) a.last_alone
  halts = halts_alone a.line none a.alone

  -- it is read
  node_read : (f : IsAlone a.ahead p a.told) → NodeRead t d root a.layers a.room (as_after a.comments f.answer) p (halt_with a.layers a.comments a.halt a.last_alone)
  node_read f =
      let w : Whole t a.room (Below a.indentation a.context a.ahead old.from) (Some f.answer) = subst (λ o. Whole t a.room (Below a.indentation a.context a.ahead old.from) o) f.is whole in
      subst (λ (k : ℕ). NodeRead t d root a.layers a.room (as_after a.comments f.answer) k (halt_with a.layers a.comments a.halt a.last_alone)) f.end (node_was_read a.node w halts)

  -- at the root there is no node
  pub root_fails : a.ahead ≡ Nothing → AtFailed t d root old
  root_fails e =
      let w : Whole t a.room (Below a.indentation a.context a.ahead old.from) None = subst (λ o. Whole t a.room (Below a.indentation a.context a.ahead old.from) o) (alone_none a.ahead p a.told e) whole in
      broken_fails (node_breaks a.node w halts) a.stack.halted

  -- if no line of a node begins there, all collections end with it
  pub wanting_line : (LinesEnd t p → ⊥) → ((m q : ℕ) → LineText t p m q → ⊥) → AtFailed t d root old
  wanting_line g n = go a.ahead refl where
    ended : (a.ahead ≡ Nothing → ⊥) → AtFailed t d root old
    ended b =
        let r = node_read (alone_there a.ahead p a.told b) in
        let all = subst (λ ls. NodeRead t d root ls a.room (as_after a.comments (alone_there a.ahead p a.told b).answer) p (halt_with a.layers a.comments a.halt a.last_alone)) (sym (append-nil a.layers)) r in
        let root_read = collections_end (want_ends n a.layers) all in
        record {
          halt = halt_with a.layers a.comments a.halt a.last_alone;
          unfinished = line_left (root_was_read root_read) (λ y. g (subst (λ (k : ℕ). LinesEnd t k) root_read.end y)) (subst (λ (k : ℕ). Stuck (Row t k)) (sym root_read.end) (chosen_still a.line));
          halts = root_halts root_read;
          halted = a.stack.halted;
        }

    go : (x : Ahead) → a.ahead ≡ x → AtFailed t d root old
    go Nothing e = root_fails e
    go (Indicator i) e = ended (λ q. let z : Indicator i ≡ Nothing = sym e ∙ q in cc)
    go (Props h) e = ended (λ q. let z : Props h ≡ Nothing = sym e ∙ q in cc)

  -- the node that is read
  resumes : {new : BlockCursor} {part' : Part} (f : IsAlone a.ahead p a.told) (e : EventInText) → new.halt ≡ old.halt → new.floor ≡ old.floor → new.colons ≡ old.colons → new.last ≡ f.answer.meaning.finish
      → f.answer.meaning.events ≡ e ∷ [] → e.entry ≡ None → is_lined e.event ≡ false → f.answer.meaning.comments ≡ ahead_comments a.ahead ++ a.told → f.answer.meaning.escapes ≡ []
      → part'.events ≡ part.events ++ record e { entry = old.wanted.entry } ∷ [] → part'.comments ≡ part.comments → part'.escapes ≡ part.escapes → AtResume t d root before frames p new part'
  unfolding meaning_after
  resumes {new} f e h o c l q b i k s x y z = record {
    layers = a.layers;
    room = a.room;
    answer = as_after a.comments f.answer;
    halt = halt_with a.layers a.comments a.halt a.last_alone;
    node = node_read f;
    outside = outside_end a.read.text.utf8 a.line.derived;
    past = let v = a.past in let w = line_end_forward a.line.derived in omega (arith, v, w, o);
    last = l;
    stack = record { order = a.stack.order; frames_tied = a.stack.frames_tied; colons = c ∙ a.stack.colons; halted = h ∙ a.stack.halted };
    read = read_moved (one_added (all_written a.layers) a.read (as_after a.comments f.answer).meaning e a.wanted.entry q b i (ap (λ v. a.comments ++ v) k) s x y z) o;
  }

  pub indicator_resumes : {i : ℕ} {new : BlockCursor} {part' : Part} → a.ahead ≡ Indicator i → new ≡ old
      → part'.events ≡ part.events ++ entry_event (scalar_node no_props Plain []) old.wanted.entry ∷ [] → part'.comments ≡ part.comments → part'.escapes ≡ part.escapes → AtResume t d root before frames p new part'
  unfolding alone found noting empty_node plain_event
  indicator_resumes {i} {new} {part'} e n x y z =
      let f : IsAlone a.ahead p a.told = record {
        answer = record { end = p; height = 0; json = false; meaning = noting (empty_node i) a.told };
        is = ap (λ v. alone v p a.told) e;
        end = refl;
      } in
      resumes f (entry_event (scalar_node no_props Plain []) None) (ap (λ (v : BlockCursor). v.halt) n) (ap (λ (v : BlockCursor). v.floor) n) (ap (λ (v : BlockCursor). v.colons) n) (ap (λ (v : BlockCursor). v.last) n ∙ a.last i e) refl refl refl
      (ap (λ v. ahead_comments v ++ a.told) (sym e)) refl x y z

  pub props_resume : {h : HeldValue} {held : PlacedProperties} {new : BlockCursor} {part' : Part} → a.ahead ≡ Props h → PropertiesTied h held → new ≡ record old { last = held.end }
      → part'.events ≡ part.events ++ leaf_event (held_lead held old.wanted.entry) Plain [] held.end ∷ [] → part'.comments ≡ part.comments → part'.escapes ≡ part.escapes → AtResume t d root before frames p new part'
  unfolding alone found noting headed meaning_after with_props empty_node plain_event from_to
  props_resume {h} {held} {new} {part'} e v n x y z =
      let f : IsAlone a.ahead p a.told = record {
        answer = record { end = p; height = 0; json = false; meaning = noting (headed (Props h) (empty_node h.end)) a.told };
        is = ap (λ v. alone v p a.told) e;
        end = refl;
      } in
      let known : EventInText = record { event = scalar_node h.value.props Plain []; span = Some (record { start = h.start; end = h.end }); tag_offset = h.value.tag_offset; entry = None; folded = [] } in
      resumes f known (ap (λ (v : BlockCursor). v.halt) n) (ap (λ (v : BlockCursor). v.floor) n) (ap (λ (v : BlockCursor). v.colons) n) (ap (λ (v : BlockCursor). v.last) n ∙ v.end) refl refl refl
      (ap (λ q. q ++ a.told) (append-nil h.value.comments) ∙ ap (λ v. ahead_comments v ++ a.told) (sym e)) refl
      (x ∙ ap (λ q. part.events ++ q ∷ []) (held_event old.wanted.entry v)) y z

pub none_there : (xs : List Frame) → length xs ≡ 0 → reverse xs ≡ []
none_there [] e = refl
none_there (x ∷ xs) e = absurd (omega (arith, e))

pub some_there : (xs : List Frame) → reverse xs ≡ [] → length xs ≡ 0
some_there xs q = sym (length-reverse xs) ∙ ap (λ z. length z) q

-- the properties that are ahead, or the indicator
pub record HeldIs (a : Ahead) (held : PlacedProperties) : Type 0 where
  pub value : HeldValue
  pub is : a ≡ Props value
  pub tied : PropertiesTied value held

pub held_is : {a : Ahead} {o : Option PlacedProperties} {held : PlacedProperties} → AheadTied a o → o ≡ Some held → HeldIs a held
held_is nothing_held e = absurd (cc)
held_is none_held e = absurd (cc)
held_is (props_held {h = h} {held = g} t) e = record { value = h; is = refl; tied = subst (λ z. PropertiesTied h z) (same_held e) t } where
  same_held : {x y : PlacedProperties} → Some x ≡ Some y → x ≡ y
  same_held q = cc

pub record IndicatorIs (a : Ahead) : Type 0 where
  pub at : ℕ
  pub is : a ≡ Indicator at

pub indicator_is : {a : Ahead} {o : Option PlacedProperties} → AheadTied a o → o ≡ None → (a ≡ Nothing → ⊥) → IndicatorIs a
indicator_is nothing_held e n = absurd (n refl)
indicator_is (none_held {i = i}) e n = record { at = i; is = refl }
indicator_is (props_held h) e n = absurd (cc)

module _ {t : List ℕ} {d : ℕ} {root : BlockTask} {before : Part} {frames : List Frame} {p : ℕ} {old : BlockCursor} {part : Part} (e : AtEmpty t d root before frames p old part) where
  pub empty_fails : old.wanted.outer ≡ None → frames ≡ [] → AtFailed t d root old
  empty_fails o f = root_fails e.at e.none (outer_unheld e.at.wanted.outer o (λ i q. e.at.wanted.rooted i q (no_layers_there e.at.stack.frames_tied f)))

  pub empty_resumes : {part' : Part} → old.wanted.outer ≡ None → (frames ≡ [] → ⊥) → part'.events ≡ part.events ++ entry_event (scalar_node no_props Plain []) old.wanted.entry ∷ []
      → part'.comments ≡ part.comments → part'.escapes ≡ part.escapes → AtResume t d root before frames p old part'
  empty_resumes o f x y z =
      let i = indicator_is e.at.wanted.outer o (λ q. f (no_frames_there e.at.stack.frames_tied (e.at.wanted.nested q))) in
      indicator_resumes e.at e.none i.is refl x y z

  pub held_resumes : {held : PlacedProperties} {new : BlockCursor} {part' : Part} → old.wanted.outer ≡ Some held → new ≡ record old { last = held.end }
      → part'.events ≡ part.events ++ leaf_event (held_lead held old.wanted.entry) Plain [] held.end ∷ [] → part'.comments ≡ part.comments → part'.escapes ≡ part.escapes
      → AtResume t d root before frames p new part'
  held_resumes o n x y z = let h = held_is e.at.wanted.outer o in props_resume e.at e.none h.is h.tied n x y z
