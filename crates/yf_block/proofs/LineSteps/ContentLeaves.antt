-- A flow node that is not a key, as a leaf: it has the properties ahead of it, and it was written with them.
use Rattle.std.proofs.Common.{◌≡◌, ◌≢◌, ℕ, ℤ, pos, ◌+◌, ◌<◌, ◌≤◌, true, false, List, [], ◌∷◌, ◌++◌, Option, Some, None, refl, sym, ap, ◌∙◌, subst, arith, append_assoc, append-nil, ⊎_elim, true≢false}
use Rattle.std.proofs.lemmas.Bool.{cases_Bool}
use Rattle.std.specs.Str.{IsUtf8}
use Rattle.yf_chars.specs.declared.context.Ctx.{Ctx}
use Rattle.yf_chars.specs.declared.context.Ctx.TheVariants.{FlowKey}
use Rattle.yf_chars.specs.Text.{code}
use Rattle.yf_chars.proofs.Tests.{none_some}
use Rattle.yf_lines.specs.Basic.{is_block}
use Rattle.yf_lines.proofs.BasicLemmas.{break_forward}
use Rattle.yf_lines.proofs.LineLemmas.{break_breaks}
use Rattle.yf_comments.specs.Comment.{CommentValue}
use Rattle.yf_props.specs.Names.{Alias, PropertiesValue}
use Rattle.yf_grammar.specs.Productions.Grammar.Derives.{an_alias}
use Rattle.yf_props.specs.Props.{PropsValue, no_props, props_value}
use Rattle.yf_events.specs.Event.{EventValue, EventInText}
use Rattle.yf_events.specs.declared.event.Entry as TheEntry
use Rattle.yf_events.specs.declared.part.Part.{Part}
use Rattle.yf_grammar.specs.Productions.Meaning.{Meaning, ◌⊕◌, meaning_after, plain_event, from_to, event_with, with_props, first_with, entering}
use Rattle.yf_grammar.specs.FlowReader.Parser.{ParsedNode, ANode, AContent, Parses, OnOneLine, only, begins_alias, begins_properties, begins_plain}
use Rattle.yf_grammar.specs.FlowReader.Parser.Parses.{alias_read, alias_missed, plain_read, plain_missed, content_read, properties_missed, properties_content, properties_plain, properties_end, properties_before_broken, properties_before_other}
use Rattle.yf_grammar.specs.FlowReader.Parser as Parsing
use Rattle.yf_grammar.specs.BlockReader.BlockParser.{Ahead, Nothing, Indicator, Props, PropertiesHeld as HeldValue, headed, both, Joins, first_held, more_held, Columns, NoSign, NoKeyAt, BlockTask, Leaf}
use Rattle.yf_grammar.specs.BlockReader.BlockStates.{NodeAt}
use Rattle.yf_grammar.proofs.BlockStack.BlockNodeSteps.{node_through}
use Rattle.yf_grammar.proofs.BlockStack.BlockStepNodes.{held_leaf_awaits, held_leaf_halts, leaf_awaits, leaf_halts}
use Rattle.yf_grammar.proofs.Ends.GapLemmas.{Visible}
use Rattle.yf_grammar.proofs.FlowReader.KeyLines.{key_line}
use Rattle.yf_grammar.proofs.Ends.NodeExits.{alias_begins, alias_no_plain, plain_no_content, some_found}
use Rattle.yf_grammar.proofs.FlowReader.NodeExact.{plain_is}
use Rattle.yf_grammar.proofs.FlowReader.ParserLemmas.{Same}
use Rattle.yf_grammar.proofs.FlowReader.PropertiesEnds.{properties_begin}
use Rattle.yf_grammar.proofs.FlowReader.Sound.{sound}
use Rattle.yf_flow.specs.NodeStarts.{bare_lead}
use Rattle.yf_flow.specs.ContentAnswers.{WrittenWith}
use Rattle.yf_flow.specs.declared.node.Lead.{Lead}
use Rattle.yf_flow.proofs.Content.EntriesFrom.{EntriesFrom, one_from}
use Rattle.yf_block.specs.declared.frame.Frame.{Frame}
use Rattle.yf_block.specs.declared.frame.BlockCursor.{BlockCursor}
use Rattle.yf_block.specs.declared.properties.PlacedProperties.{PlacedProperties}
use Rattle.yf_block.specs.BlockTied.{begins, ahead_comments, ahead_props, ahead_start, ahead_tag, ReadTied, EntryTied}
use Rattle.yf_block.specs.BlockStepTied.{PropertiesTied}
use Rattle.yf_block.specs.BelongingTied.{AfterLine, none_more, more_there, AllOfNode, NoneBefore}
use Rattle.yf_block.specs.ContentTied.{TextAfter, text_alone, text_held, LeadTied}
use Rattle.yf_block.specs.PropertiesAnswers.{held_lead, lead_at}
use Rattle.yf_block.specs.InlineTied.{AtStart}
use Rattle.yf_block.specs.LastStarts.{NoStart}
use Rattle.yf_block.proofs.Stack.TiedLeads.{known_event, written_as, rest_from, node_added, begins_comments, begins_escapes}
use Rattle.yf_block.proofs.Stack.TiedReads.{read_as}
use Rattle.yf_block.proofs.Ends.InlineLemmas.{alias_not}

-- the text of the node is a leaf
module _ {t : List ℕ} {d : ℕ} {root : BlockTask} {before part : Part} {frames : List Frame} {cols : Columns} {p : ℕ} {progress : BlockCursor}
    (a : AtStart t d root before frames cols p progress part) (s : NoSign t cols p) where
  pub leaf_task : {inner : Option PlacedProperties} {at : ℕ} {z : Ahead} → TextAfter t p inner at → NoKeyAt t a.room a.indentation cols p → AfterLine t p a.ahead inner z → ((held : PlacedProperties) → inner ≡ Some held → held.end < at)
      → NodeAt t d root a.layers a.room a.comments (Leaf a.indentation z at) a.halt
  leaf_task (text_alone q) n none_more f = node_through a.node (leaf_awaits s n q) (leaf_halts s n q)
  leaf_task (text_held {held = h} l q b) n (more_there m j) f =
      node_through a.node (held_leaf_awaits s n m.chosen q b.run (f h refl) b.no_white j) (held_leaf_halts s n m.chosen q b.run (f h refl) b.no_white j)

-- properties on its line bring no comments
pub joined_comments : {a z : Ahead} {q : PropertiesValue} {p g : ℕ} → Joins a q p g z → q.comments ≡ [] → ahead_comments z ≡ ahead_comments a
unfolding both
joined_comments {a} (first_held f) e = e ∙ bare a f where
  bare : (x : Ahead) → ((h : HeldValue) → x ≡ Props h → ⊥) → [] ≡ ahead_comments x
  bare Nothing f = refl
  bare (Indicator i) f = refl
  bare (Props h) f = absurd (f h refl)
joined_comments {a} {q = q} (more_held {h = h} r f) e = ap (λ y. h.value.comments ++ y) e ∙ append-nil h.value.comments ∙ ap (λ y. ahead_comments y) (sym r)

pub after_comments : {t : List ℕ} {p : ℕ} {a z : Ahead} {inner : Option PlacedProperties} → AfterLine t p a inner z → ahead_comments z ≡ ahead_comments a
after_comments none_more = refl
after_comments (more_there l j) = joined_comments j l.no_comments

-- the state ahead of the leaf, and its lead
pub record LeafAhead (t : List ℕ) (p at : ℕ) (a : Ahead) (inner : Option PlacedProperties) (entry : Option TheEntry.Entry) (lead : Lead) : Type 0 where
  pub ahead : Ahead
  pub joined : AfterLine t p a inner ahead
  pub tied : LeadTied ahead at lead
  pub entry_is : lead.entry ≡ entry
  pub no_alias : {h : HeldValue} → a ≡ Props h → begins_alias (code t at) ≡ false

held_tied : {h : HeldValue} {held : PlacedProperties} {at : ℕ} {entry : Option TheEntry.Entry} {z : Ahead} → PropertiesTied h held → z ≡ Props h → LeadTied z at (held_lead held entry)
held_tied {h} {at = at} r e = record { start = r.start ∙ ap (λ y. ahead_start y at) (sym e); props = r.props ∙ ap (λ y. ahead_props y) (sym e); tag = r.tag ∙ ap (λ y. ahead_tag y) (sym e) }

bare_tied : (a : Ahead) {p : ℕ} {entry : Option TheEntry.Entry} → ((h : HeldValue) → a ≡ Props h → ⊥) → LeadTied a p (bare_lead p entry)
bare_tied Nothing f = record { start = refl; props = refl; tag = refl }
bare_tied (Indicator i) f = record { start = refl; props = refl; tag = refl }
bare_tied (Props h) f = absurd (f h refl)

module _ {t : List ℕ} {p at : ℕ} {a : Ahead} {inner : Option PlacedProperties} {entry : Option TheEntry.Entry} {lead : Lead} where
  pub ahead_of_none : TextAfter t p inner at → NoneBefore t p a inner entry lead → LeafAhead t p at a inner entry lead
  ahead_of_none x n = subst (λ l. LeafAhead t p at a inner entry l) (sym n.lead_is) (go x) where
    go : {i : Option PlacedProperties} {k : ℕ} → TextAfter t p i k → LeafAhead t p k a i entry (lead_at p i entry)
    go (text_alone q) = record { ahead = a; joined = none_more; tied = bare_tied a n.none; entry_is = refl; no_alias = λ {h} e. absurd (n.none h e) }
    go (text_held {held = h} l q b) = record { ahead = _; joined = more_there l (first_held n.none); tied = held_tied l.tied refl; entry_is = refl; no_alias = λ {h} e. absurd (n.none h e) }

  pub ahead_of_all : AllOfNode t p at a inner entry lead → LeafAhead t p at a inner entry lead
  ahead_of_all n = record {
    ahead = n.ahead;
    joined = n.joined;
    tied = subst (λ l. LeadTied n.ahead at l) (sym n.lead_is) (held_tied n.holds.tied n.holds.is);
    entry_is = ap (λ (l : Lead). l.entry) n.lead_is;
    no_alias = λ {h} e. alias_not (code t at) n.no_alias;
  }

-- the node after the state ahead of it, as it was written
module _ (x : Meaning) where
  pub headed_comments : (z : Ahead) → (headed z x).comments ≡ ahead_comments z ++ x.comments
  unfolding headed meaning_after with_props
  headed_comments Nothing = refl
  headed_comments (Indicator i) = refl
  headed_comments (Props h) = refl

  pub headed_escapes : (z : Ahead) → (headed z x).escapes ≡ x.escapes
  unfolding headed meaning_after with_props
  headed_escapes Nothing = refl
  headed_escapes (Indicator i) = refl
  headed_escapes (Props h) = refl

  pub headed_finish : (z : Ahead) → (headed z x).finish ≡ x.finish
  unfolding headed meaning_after with_props
  headed_finish Nothing = refl
  headed_finish (Indicator i) = refl
  headed_finish (Props h) = refl

-- an event with its lead, field by field
abbrev known_by : ℕ → PropsValue → Option ℕ → EventValue → ℕ → EventInText
known_by start props tag event end = record { event = event_with props event; span = from_to start end; tag_offset = tag; entry = None; folded = [] }

known_is : {lead : Lead} {z : Ahead} {at : ℕ} (event : EventValue) (end : ℕ) → LeadTied z at lead → known_by (ahead_start z at) (ahead_props z) (ahead_tag z) event end ≡ known_event lead event end
unfolding from_to
known_is {lead} {z} {at} event end l =
    ap (λ (y : ℕ). known_by y (ahead_props z) (ahead_tag z) event end) (sym l.start)
    ∙ ap (λ y. known_by lead.start y (ahead_tag z) event end) (sym l.props)
    ∙ ap (λ y. known_by lead.start (props_value lead.props) y event end) (sym l.tag)

headed_by : (z : Ahead) (x : Meaning) (at end : ℕ) {event : EventValue} {others : List EventInText} → x.events ≡ plain_event event (from_to at end) ∷ others → event_with no_props event ≡ event
    → (headed z x).events ≡ known_by (ahead_start z at) (ahead_props z) (ahead_tag z) event end ∷ others
unfolding headed meaning_after with_props plain_event from_to
headed_by Nothing x at end {others = others} q n = q ∙ ap (λ y. record { event = y; span = Some (record { start = at; end = end }); tag_offset = None; entry = None; folded = [] } ∷ others) (sym n)
headed_by (Indicator i) x at end {others = others} q n = q ∙ ap (λ y. record { event = y; span = Some (record { start = at; end = end }); tag_offset = None; entry = None; folded = [] } ∷ others) (sym n)
headed_by (Props h) x at end q n = ap (λ y. first_with h.value.props h.value.tag_offset h.start h.end y) q

pub begins_same : (o : Option ℕ) (x y : Meaning) → x.events ≡ y.events → (begins o x).events ≡ (begins o y).events
unfolding entering
begins_same None x y q = q
begins_same (Some i) x y q = ap (λ z. (entering i None (record { events = z; comments = []; escapes = []; finish = 0 })).events) q

-- the events of a node, and its own comments
events_of : Meaning → Meaning → Meaning
events_of y x = record { events = y.events; comments = x.comments; escapes = x.escapes; finish = x.finish }

leaf_same : (w : Meaning) (o : Option ℕ) (cs ac : List CommentValue) (z : Ahead) (x : Meaning) → ahead_comments z ≡ ac
    → Same ((w ⊕ only (cs ++ ac) 0) ⊕ begins o (events_of (headed z x) x)) (w ⊕ begins o (meaning_after cs (headed z x)))
unfolding ◌⊕◌ only meaning_after events_of
leaf_same w o cs ac z x e = record {
  events = ap (λ y. y ++ (begins o (events_of (headed z x) x)).events) (append-nil w.events) ∙ ap (λ y. w.events ++ y) (begins_same o (events_of (headed z x) x) (meaning_after cs (headed z x)) refl);
  comments = ap (λ y. (w.comments ++ (cs ++ ac)) ++ y) (begins_comments o (events_of (headed z x) x)) ∙ append_assoc w.comments (cs ++ ac) x.comments ∙ ap (λ y. w.comments ++ y) (append_assoc cs ac x.comments)
      ∙ ap (λ y. w.comments ++ (cs ++ (y ++ x.comments))) (sym e) ∙ ap (λ y. w.comments ++ (cs ++ y)) (sym (headed_comments x z)) ∙ ap (λ y. w.comments ++ y) (sym (begins_comments o (meaning_after cs (headed z x))));
  escapes = ap (λ y. y ++ (begins o (events_of (headed z x) x)).escapes) (append-nil w.escapes) ∙ ap (λ y. w.escapes ++ y) (begins_escapes o (events_of (headed z x) x) ∙ sym (headed_escapes x z) ∙ sym (begins_escapes o (meaning_after cs (headed z x))));
}

module _ {t : List ℕ} {before : Part} (w : Meaning) {progress : BlockCursor} {old : Part} (cs : List CommentValue) {ac : List CommentValue} (r : ReadTied t before (w ⊕ only (cs ++ ac) 0) progress old) where
  pub leaf_added : {at end : ℕ} {o : Option ℕ} {lead : Lead} {z : Ahead} {x : Meaning} {new : Part} → progress.floor ≤ at → Visible t at → EntriesFrom (at + 1) x.events → EntryTied t progress.floor o lead.entry → LeadTied z at lead
      → ahead_comments z ≡ ac → WrittenWith t lead x (from_to at end) end old new → ReadTied t before (w ⊕ begins o (meaning_after cs (headed z x))) progress new
  unfolding events_of
  leaf_added {at} {end} {o} {lead} {z} {x} l v f n a c b =
      let events = headed_by z x at end b.events b.no_properties ∙ ap (λ y. y ∷ b.others) (known_is b.event end a) in
      let from : EntriesFrom (at + 1) (headed z x).events = subst (λ y. EntriesFrom (at + 1) y) (sym events) (one_from (λ g q. absurd (none_some q)) (rest_from f b.events)) in
      read_as (node_added r {x = events_of (headed z x) x} l v from n (written_as b (events_of (headed z x) x) events refl refl)) (leaf_same w o cs ac z x c)

alias_line : {t : List ℕ} {i j : ℕ} {x : List ℕ} → IsUtf8 t → Alias t i j x → OnOneLine t i j
alias_line u a = key_line u (an_alias {n = pos 0} {c = FlowKey} refl a) refl

-- a flow node is plain, or like those of JSON, or an alias on one line
pub data NodeKind (t : List ℕ) (i : ℕ) (f : ParsedNode) : Type 0 where
  plain_kind : begins_plain (code t i) ≡ true → f.json ≡ false → NodeKind t i f
  json_kind : begins_plain (code t i) ≡ false → f.json ≡ true → NodeKind t i f
  alias_kind : begins_plain (code t i) ≡ false → OnOneLine t i f.end → NodeKind t i f

other_bare : (c : ℕ) → (begins_plain c ≡ true → ⊥) → begins_plain c ≡ false
other_bare c f = ⊎_elim (λ (b : begins_plain c ≡ true). absurd (f b)) (λ (b : begins_plain c ≡ false). b) (cases_Bool (begins_plain c))

module _ {t : List ℕ} (u : IsUtf8 t) {i : ℕ} {n : ℤ} {c : Ctx} where
  pub node_kind : {e : ℕ} {o : Option ParsedNode} {f : ParsedNode} → is_block c ≡ false → begins_properties (code t i) ≡ false → Parses t e (ANode n c i) o → o ≡ Some f → NodeKind t i f
  node_kind b p (Parsing.alias_read {j = j} a) q = alias_kind (other_bare (code t i) (λ y. alias_no_plain (code t i) (alias_begins a.derived) y))
      (subst (λ (k : ℕ). OnOneLine t i k) (ap (λ (g : ParsedNode). g.end) (sym (some_found j 0 false _ (sym q)))) (alias_line u a.derived))
  node_kind b p (alias_missed y s) q = absurd (none_some q)
  node_kind b p (plain_read {j = j} {x = x} y d) q = plain_kind y (ap (λ (g : ParsedNode). g.json) (some_found j 0 false _ (sym q ∙ plain_is x i j)))
  node_kind b p (plain_missed y s) q = absurd (none_some q)
  node_kind {e} {f = f} b p (content_read y r) q =
      let m = sound (subst (λ z. Parses t e (AContent n c i) z) q r) b in json_kind (other_bare (code t i) (λ v. plain_no_content (code t i) v y)) m.0
  node_kind b p (properties_missed y s) q = absurd (none_some q)
  node_kind b p (properties_content a s y r) q = absurd (true≢false (sym (properties_begin a.derived) ∙ p))
  node_kind b p (properties_plain a s y r) q = absurd (true≢false (sym (properties_begin a.derived) ∙ p))
  node_kind b p (properties_end a s) q = absurd (true≢false (sym (properties_begin a.derived) ∙ p))
  node_kind b p (properties_before_broken a s y r) q = absurd (true≢false (sym (properties_begin a.derived) ∙ p))
  node_kind b p (properties_before_other a s y r) q = absurd (true≢false (sym (properties_begin a.derived) ∙ p))

-- no line begins within one line, or before a walk that begins too late
pub no_start_inside : {t : List ℕ} {i end : ℕ} → OnOneLine t i end → NoStart t i end
no_start_inside o g q l b m = let f = break_forward b in true≢false (sym (break_breaks b) ∙ o.each g l (omega (arith, f, m)))

pub no_start_late : {t : List ℕ} {i end : ℕ} → end ≤ i → NoStart t i end
no_start_late l g q m b k = let f = break_forward b in omega (arith, f, m, k, l)
