-- The first key of a mapping, read again: it is written after the event that begins the mapping, which has the
-- properties of earlier lines.
use Rattle.std.proofs.Common.{◌≡◌, ℕ, zero, suc, ℤ, pos, ◌+◌, ◌<◌, ◌≤◌, Bool, true, false, List, [], ◌∷◌, ◌++◌, length, take, drop, Option, Some, None, refl, sym, ap, ◌∙◌, subst, arith, append_assoc, true≢false}
use Rattle.std.proofs.Math.Seq.{take-append_seam, drop-append_seam}
use Rattle.std.proofs.lemmas.List.{length-append}
use Rattle.std.proofs.lemmas.Option.{same_Some}
use Rattle.std.specs.Str.{IsUtf8}
use Rattle.yf_chars.specs.declared.context.Ctx.TheVariants.{FlowOut}
use Rattle.yf_chars.specs.Text.{code}
use Rattle.yf_chars.specs.Class.{is_ns_char}
use Rattle.yf_chars.proofs.TextLemmas.{within_from_code}
use Rattle.yf_plain.proofs.PlainLemmas.{ns_below}
use Rattle.yf_events.specs.Event.{EventInText, with_entry}
use Rattle.yf_events.specs.declared.event.Entry as TheEntry
use Rattle.yf_events.specs.declared.event.Span.{Span}
use Rattle.yf_events.specs.declared.part.Part.{Part}
use Rattle.yf_comments.specs.Comment.{CommentValue}
use Rattle.yf_comments.specs.Comments.{LineEnd}
use Rattle.yf_grammar.specs.Productions.Meaning.{Meaning}
use Rattle.yf_grammar.specs.Productions.ReadParts.{NotedSince}
use Rattle.yf_grammar.specs.FlowReader.Parser.{ParsedNode, ANode, Parses}
use Rattle.yf_grammar.specs.BlockReader.BlockParser.{Ahead, KeyBefore, NoKey, key_missed, key_unfit, Keyless, node_unfit, properties_end_line, BlockTask}
use Rattle.yf_grammar.proofs.FlowReader.FlowStarts.{flow_starts}
use Rattle.yf_grammar.proofs.Ends.GapLemmas.{Visible}
use Rattle.yf_grammar.proofs.FlowReader.Outcome.{outcome_is_one}
use Rattle.yf_grammar.proofs.FlowReader.Sound.{found_is_derived}
use Rattle.yf_grammar.proofs.Ends.Ways.{chosen_one}
use Rattle.yf_flow.specs.NodeStarts.{PartGrown}
use Rattle.yf_flow.specs.ContentAnswers.{WrittenWith}
use Rattle.yf_flow.specs.declared.frame.Node.{Node}
use Rattle.yf_flow.specs.declared.node.Lead.{Lead}
use Rattle.yf_flow.specs.declared.nodes.Ending.{Ending}
use Rattle.yf_flow.specs.declared.nodes.Ending.TheVariants.{End, Nothing as NoEnd, TooDeep as TooDeepThere}
use Rattle.yf_block.specs.declared.content.AfterProperties.{AfterProperties}
use Rattle.yf_block.specs.declared.content.NodeFacts.{NodeFacts}
use Rattle.yf_block.specs.declared.content.Belonging.{Belonging}
use Rattle.yf_block.specs.declared.content.Belonging.TheVariants.{Nothing as NoBelonging, Joined, Apart as ApartBelonging}
use Rattle.yf_block.specs.BelongingTied.{BelongingTied}
use Rattle.yf_block.specs.declared.frame.Frame.{Frame}
use Rattle.yf_block.specs.declared.frame.CollectionKind.TheVariants.{Mapping}
use Rattle.yf_block.specs.declared.frame.BlockCursor.{BlockCursor}
use Rattle.yf_block.specs.declared.frame.AwaitedNode.{AwaitedNode}
use Rattle.yf_block.specs.declared.properties.PlacedProperties.{PlacedProperties}
use Rattle.yf_block.specs.BlockTied.{wanted_after}
use Rattle.yf_block.specs.BlockStepTied.{AtNode}
use Rattle.yf_block.specs.ContentTied.{TextAfter, text_alone, text_held, AtFirstKey, KeyOrLost, key_again, key_lost, KeyRead}
use Rattle.yf_block.specs.PropertiesAnswers.{lead_at}
use Rattle.yf_block.specs.InlineAnswers.{InlineRead, InlineEnds}
use Rattle.yf_block.specs.InlineAnswers as Answers
use Rattle.yf_block.specs.InlineTied.{AtStart, started}
use Rattle.yf_block.proofs.LineSteps.ContentKeys.{is_key, key_awaits}
use Rattle.yf_block.proofs.LineSteps.ContentNodes.{node_here, lost_keyless}
use Rattle.yf_block.proofs.Stack.TiedLeads.{NodeThere, bare_there, held_there}
use Rattle.yf_chars.proofs.CharFacts.{feed_no_ns}
use Rattle.yf_chars.proofs.Tests.{none_some}

-- a node begins an entry
with_entry_of : (p : ℕ) (inner : Option PlacedProperties) (a b : Option TheEntry.Entry) {lead : Lead} → lead ≡ lead_at p inner a → record lead { entry = b } ≡ lead_at p inner b
with_entry_of p None a b q = ap (λ (l : Lead). record l { entry = b }) q
with_entry_of p (Some h) a b q = ap (λ (l : Lead). record l { entry = b }) q

-- the events written after earlier ones
record FirstOf (old new : Part) : Type 0 where
  first : EventInText
  others : List EventInText
  comments : List CommentValue
  escapes : List ℕ
  added : PartGrown old new (first ∷ others) comments escapes

module _ {t : List ℕ} {lead : Lead} {old new other later : Part} (entry : TheEntry.Entry)
    (move : (x : EventInText) (xs : List EventInText) (cs : List CommentValue) (bad : List ℕ) → PartGrown old new (x ∷ xs) cs bad → PartGrown other later (record x { entry = Some entry } ∷ xs) cs bad) where
  -- the same events after another part, as an entry
  moved_written : {x : Meaning} {span : Option Span} {end : ℕ} → WrittenWith t lead x span end old new → WrittenWith t (record lead { entry = Some entry }) x span end other later
  moved_written w = record {
    event = w.event;
    others = w.others;
    noted_others = w.noted_others;
    events = w.events;
    no_properties = w.no_properties;
    no_lines = w.no_lines;
    noted = w.noted;
    added = move _ _ _ _ w.added;
  }

module _ {t : List ℕ} {e at depth : ℕ} {n : ℤ} {held : Option PlacedProperties} {lead : Lead} {old new : Part} {node : Node} where
  first_of : InlineRead t e n at depth held lead old new node → FirstOf old new
  first_of (Answers.content_read k a r i w) = record { first = _; others = w.noted_others; comments = _; escapes = _; added = w.added }
  first_of (Answers.alias_read q r i w) = record { first = _; others = w.noted_others; comments = _; escapes = _; added = w.added }
  first_of (Answers.empty_key_read k j d w) = record { first = _; others = w.noted_others; comments = _; escapes = _; added = w.added }

  module _ {other later : Part} (entry : TheEntry.Entry)
      (move : (x : EventInText) (xs : List EventInText) (cs : List CommentValue) (bad : List ℕ) → PartGrown old new (x ∷ xs) cs bad → PartGrown other later (record x { entry = Some entry } ∷ xs) cs bad) where
    moved_read : InlineRead t e n at depth held lead old new node → InlineRead t e n at depth held (record lead { entry = Some entry }) other later node
    moved_read (Answers.content_read k a r i w) = Answers.content_read k a r i (moved_written entry move w)
    moved_read (Answers.alias_read q r i w) = Answers.alias_read q r i (moved_written entry move w)
    moved_read (Answers.empty_key_read k j d w) = Answers.empty_key_read k j d (moved_written entry move w)

module _ {t : List ℕ} {room depth : ℕ} {n : ℤ} {b : AfterProperties} {facts : NodeFacts} {wanted : AwaitedNode} {earlier old : Part} (r : KeyRead t room n depth b facts wanted earlier old) (entry : TheEntry.Entry) where
  -- the event that begins the mapping is put before it
  pub put_again : {start : EventInText} {new : Part} → (facts.belonging ≡ Joined → ⊥)
      → ((before : List EventInText) (x : EventInText) (xs : List EventInText) → facts.before.events ≡ length before → old.events ≡ before ++ x ∷ xs → new.events ≡ before ++ start ∷ record x { entry = Some entry } ∷ xs)
      → new.comments ≡ old.comments → new.escapes ≡ old.escapes → KeyOrLost t room n depth b entry start earlier new
  put_again {start} {new} f put x y = key_again (record {
    opened = record { events = earlier.events ++ start ∷ []; comments = earlier.comments; escapes = earlier.escapes };
    node = r.node;
    events = refl;
    comments = refl;
    escapes = refl;
    read = subst (λ l. InlineRead t room n b.at depth b.inner l (record { events = earlier.events ++ start ∷ []; comments = earlier.comments; escapes = earlier.escapes }) new r.node)
        (with_entry_of b.node_start.at b.inner wanted.entry (Some entry) (r.lead_is f)) (moved_read entry move r.read);
  }) where
    move : (e : EventInText) (es : List EventInText) (cs : List CommentValue) (bad : List ℕ) → PartGrown earlier old (e ∷ es) cs bad
        → PartGrown (record { events = earlier.events ++ start ∷ []; comments = earlier.comments; escapes = earlier.escapes }) new (record e { entry = Some entry } ∷ es) cs bad
    move e es cs bad a = record {
      events = put earlier.events e es r.counts.events a.events ∙ sym (append_assoc earlier.events (start ∷ []) (record e { entry = Some entry } ∷ es));
      comments = x ∙ a.comments;
      escapes = y ∙ a.escapes;
    }

  -- the key's events are cut off, and it is read again
  cut_events : take facts.before.events old.events ≡ earlier.events
  cut_events = let f = first_of r.read in ap (λ z. take facts.before.events z) f.added.events ∙ ap (λ (k : ℕ). take k (earlier.events ++ f.first ∷ f.others)) r.counts.events ∙ take-append_seam earlier.events (f.first ∷ f.others)

  cut_comments : take facts.before.comments old.comments ≡ earlier.comments
  cut_comments = let f = first_of r.read in ap (λ z. take facts.before.comments z) f.added.comments ∙ ap (λ (k : ℕ). take k (earlier.comments ++ f.comments)) r.counts.comments ∙ take-append_seam earlier.comments f.comments

  cut_escapes : take facts.before.escapes old.escapes ≡ earlier.escapes
  cut_escapes = let f = first_of r.read in ap (λ z. take facts.before.escapes z) f.added.escapes ∙ ap (λ (k : ℕ). take k (earlier.escapes ++ f.escapes)) r.counts.escapes ∙ take-append_seam earlier.escapes f.escapes

  pub read_again : {start : EventInText} {opened new : Part} (e : Ending) → opened.events ≡ take facts.before.events old.events ++ start ∷ [] → opened.comments ≡ take facts.before.comments old.comments
      → opened.escapes ≡ take facts.before.escapes old.escapes → InlineEnds t room n b.at depth b.inner (lead_at b.node_start.at b.inner (Some entry)) opened new e → KeyOrLost t room n depth b entry start earlier new
  read_again {start} {opened} (End node) x y z i = key_again (record {
    opened = opened;
    node = node;
    events = x ∙ ap (λ k. k ++ start ∷ []) cut_events;
    comments = y ∙ cut_comments;
    escapes = z ∙ cut_escapes;
    read = i;
  })
  read_again NoEnd x y z i = key_lost i
  read_again (TooDeepThere p) x y z i = key_lost i

-- the lead of the node on its line
lead_alone : (t : List ℕ) (p at : ℕ) (a : Ahead) (inner : Option PlacedProperties) (entry : Option TheEntry.Entry) (lead : Lead) (belonging : Belonging) → BelongingTied t p at a inner entry lead belonging → (belonging ≡ Joined → ⊥) → lead ≡ lead_at p inner entry
lead_alone t p at a inner entry lead NoBelonging s f = s.lead_is
lead_alone t p at a inner entry lead Joined s f = absurd (f refl)
lead_alone t p at a inner entry lead ApartBelonging s f = s.lead_is

-- it is a key, so something is found
no_key_lost : {t : List ℕ} {e p k : ℕ} {n : ℤ} {inner : Option PlacedProperties} {at : ℕ} {f : ParsedNode} → TextAfter t p inner at → Keyless t e n p → Parses t e (ANode n FlowOut p) (Some f) → KeyBefore t p f k → ⊥
no_key_lost {t} {p = p} {k = k} {f = f} x (node_unfit r u) w b = go u (outcome_is_one r w) where
  go : {o : Option ParsedNode} → NoKey t p o → o ≡ Some f → ⊥
  go key_missed q = none_some q
  go (key_unfit g) q = g k (subst (λ h. KeyBefore t p h k) (sym (same_Some _ _ q)) b)
no_key_lost (text_alone s) (properties_end_line {g = g} {q = q} c l) w b = s.none g q c.derived
no_key_lost {t} (text_held l s y) (properties_end_line {l = k} {ds = ds} c d) w b = let same = chosen_one l.chosen c in s.none k ds (subst (λ (z : ℕ). LineEnd t z k ds) same.0 d)

pub key_there_again : {t : List ℕ} (u : IsUtf8 t) {e p depth : ℕ} {n : ℤ} {inner : Option PlacedProperties} {at : ℕ} {entry : Option TheEntry.Entry} {old new : Part} {node : Node} → TextAfter t p inner at
    → InlineRead t e n at depth inner (lead_at p inner entry) old new node → NodeThere t e n p depth entry old new node
key_there_again u (text_alone s) r = bare_there r
key_there_again u (text_held l s b) r = held_there u l s b r

module _ {t : List ℕ} {d : ℕ} {root : BlockTask} {before old : Part} {frames : List Frame} {depth : ℕ} {b : AfterProperties} {facts : NodeFacts} {column colon : ℕ} {progress : BlockCursor} {earlier : Part}
    (a : AtFirstKey t d root before frames depth b facts column colon progress earlier old) where
  abbrev start : AtStart t d root before frames a.inline.there.content.cols b.node_start.at progress earlier
  start = a.inline.there.content.start

  utf8 : IsUtf8 t
  utf8 = start.read.text.utf8

  -- the key as it was read
  pub key_reads : KeyRead t start.room (pos progress.wanted.least) depth b facts progress.wanted earlier old
  key_reads = record { node = a.node; counts = a.inline.counts; lead_is = λ f. lead_alone t b.node_start.at b.at start.ahead b.inner progress.wanted.entry facts.lead facts.belonging a.inline.belonging f; read = a.inline.read }

  -- its value is awaited
  pub first_key_awaits : {stack : List Frame} {after : BlockCursor} {new : Part} {n : Bool} {entry : TheEntry.Entry} → KeyOrLost t start.room (pos progress.wanted.least) depth b entry (started Mapping b.node_start.at progress.wanted) earlier new
      → entry ≡ record { start = b.node_start.at; colon = Some colon; blank_before = n } → NotedSince t progress.floor b.node_start.at n
      → stack ≡ record { kind = Mapping; column = column; event = length earlier.events; entry_event = length earlier.events; awaits_colon = false } ∷ frames
      → after.wanted ≡ wanted_after column false true None → after.last ≡ colon + 1 → after.floor ≡ progress.floor → after.colons ≡ progress.colons → after.halt ≡ progress.halt
      → AtNode t d root before stack (colon + 1) after new
  first_key_awaits (key_lost l) e s z y i fl c h =
      let n = node_here utf8 a.inline.there.text a.inline.read in
      absurd (no_key_lost a.inline.there.text (lost_keyless utf8 a.inline.there.text l) n.1.parsed (is_key start a.inline.there.content.signless n.1 a.run a.ends))
  first_key_awaits {new = new} (key_again k) e s z y i fl c h =
      let x = a.inline.there in
      let n = node_here utf8 x.text a.inline.read in
      let m = key_there_again utf8 x.text (subst (λ j. InlineRead t start.room (pos progress.wanted.least) b.at depth b.inner (lead_at b.node_start.at b.inner (Some j)) k.opened new k.node) e k.read) in
      let same = same_Some _ _ (outcome_is_one n.1.parsed m.parsed) in
      let kb = subst (λ f. KeyBefore t b.node_start.at f colon) same (is_key start x.content.signless n.1 a.run a.ends) in
      let deep = n.1.deepest in
      let within = a.within in
      let height : n.1.answer.height ≡ m.answer.height = ap (λ (f : ParsedNode). f.height) same in
      key_awaits start x.content.signless (x.content.column_is ∙ a.column_is) a.inline.depth_is m kb s (omega (arith, deep, within, height)) k.events k.comments k.escapes z y i fl c h

  visible : Visible t b.node_start.at
  visible = (flow_starts (found_is_derived refl (node_here utf8 a.inline.there.text a.inline.read).1.parsed).0 refl).starts.visible

  -- no break begins there, and the text does not end
  pub key_no_feed : code t b.node_start.at ≡ 10 → ⊥
  key_no_feed e = true≢false (sym visible.ns ∙ ap is_ns_char e ∙ feed_no_ns)

  pub key_within : b.node_start.at < length t
  key_within = within_from_code t b.node_start.at (ns_below (code t b.node_start.at) visible.ns)

-- an event becomes an entry, and another one is put before it
entry_length : (xs : List EventInText) (i : ℕ) (entry : TheEntry.Entry) → length (with_entry xs i entry) ≡ length xs
entry_length [] i entry = refl
entry_length (x ∷ xs) zero entry = refl
entry_length (x ∷ xs) (suc i) entry = ap suc (entry_length xs i entry)

pub entry_within : (xs : List EventInText) (i : ℕ) (entry : TheEntry.Entry) → i < length xs → i ≤ length (with_entry xs i entry)
entry_within xs i entry l = let e = entry_length xs i entry in omega (arith, e, l)

entry_at_seam : (xs : List EventInText) (x : EventInText) (ys : List EventInText) (entry : TheEntry.Entry) → with_entry (xs ++ x ∷ ys) (length xs) entry ≡ xs ++ record x { entry = Some entry } ∷ ys
entry_at_seam [] x ys entry = refl
entry_at_seam (y ∷ xs) x ys entry = ap (λ z. y ∷ z) (entry_at_seam xs x ys entry)

pub put_there : {old : List EventInText} {event : ℕ} (start : EventInText) (entry : TheEntry.Entry) (xs : List EventInText) (x : EventInText) (ys : List EventInText) → event ≡ length xs → old ≡ xs ++ x ∷ ys
    → take event (with_entry old event entry) ++ start ∷ drop event (with_entry old event entry) ≡ xs ++ start ∷ record x { entry = Some entry } ∷ ys
put_there {old} {event} start entry xs x ys e q =
    let now = ap (λ z. with_entry z event entry) q ∙ ap (λ (k : ℕ). with_entry (xs ++ x ∷ ys) k entry) e ∙ entry_at_seam xs x ys entry in
    let rest = record x { entry = Some entry } ∷ ys in
    ap (λ z. take event z ++ start ∷ drop event z) now ∙ ap (λ (k : ℕ). take k (xs ++ rest) ++ start ∷ drop k (xs ++ rest)) e
    ∙ ap (λ z. z ++ start ∷ drop (length xs) (xs ++ rest)) (take-append_seam xs rest) ∙ ap (λ z. xs ++ start ∷ z) (drop-append_seam xs rest)

pub none_there : {old : List EventInText} {event : ℕ} (xs : List EventInText) (x : EventInText) (ys : List EventInText) → event ≡ length xs → old ≡ xs ++ x ∷ ys → length old ≤ event → ⊥
none_there {old} xs x ys e q l = let n = ap (λ z. length z) q ∙ length-append xs (x ∷ ys) in omega (arith, n, e, l)
