-- Each comment of a block node notes whether a blank line is before it, from the floor that the node's block scalars
-- before it set.
use Rattle.std.proofs.Common.{◌≡◌, ℕ, ℤ, ◌<◌, ◌≤◌, Bool, true, false, List, [], ◌∷◌, ◌++◌, Option, None, refl, sym, ap, ◌∙◌, subst, arith}
use Rattle.std.specs.Str.{IsUtf8}
use Rattle.yf_chars.specs.declared.context.Ctx.{Ctx}
use Rattle.yf_chars.specs.Text.{code}
use Rattle.yf_comments.specs.Comment.{CommentValue}
use Rattle.yf_props.proofs.NameLemmas.{anchor_parts}
use Rattle.yf_props.proofs.TagLemmas.{tag_later}
use Rattle.yf_props.specs.Names.{Properties, PropertiesValue}
use Rattle.yf_props.specs.Names.Properties.{by_tag, by_anchor, tag_first, anchor_first}
use Rattle.yf_props.specs.Props.{PropsValue}
use Rattle.yf_events.specs.Event.{EventInText}
use Rattle.yf_events.specs.declared.event.ScalarStyle.TheVariants.{Plain, Single, Double}
use Rattle.yf_grammar.specs.Productions.Grammar.{Production, FlowNode, NodeOf, JsonContent, Entries, Entry, Pair, Explicit, Implicit, ValueOf, KeyOf, BlockNode, BlockEntries, BlockEntry, BlockIndented, BlockValue}
use Rattle.yf_grammar.specs.Productions.Meaning.{Meaning, ◌⊕◌, meaning_after, noting, scalar, alias_to, empty_node, collection, with_props, entering, plain_event, start_of, end_of, first_with, first_entering}
use Rattle.yf_grammar.specs.Productions.ReadParts.{NotedSince, floor_after_event}
use Rattle.yf_grammar.proofs.Documents.CommentOrder.{Ascend, no_more, one_more, ascend_order}
use Rattle.yf_stream.specs.ReadingOf.{end_before, floor_at}
use Rattle.yf_stream.proofs.BlankNotes.CommentNotes.{Each, no_element, one_element, each_join, each_weaker, each_both, NotedComment, told_wider, Guard, since_guarded, separate_told}
use Rattle.yf_stream.proofs.BlankNotes.FloorWalk.{FloorIn, floor_kept, floor_early, floor_join, end_same, kept_event}

-- a comment between two offsets
pub record Within (t : List ℕ) (i j : ℕ) (c : CommentValue) : Type 0 where
  pub after : i ≤ c.offset
  pub before : c.offset < j
  pub sign : code t c.offset ≡ 35

pub within_of : {t : List ℕ} {i j : ℕ} {cs : List CommentValue} → Ascend t i cs j → Each (Within t i j) cs
within_of (no_more l) = no_element
within_of {t} {i} {j} (one_more l s a) = let o = ascend_order a in one_element (record { after = l; before = omega arith; sign = s.sign }) (each_weaker (λ c d. let p = d.after in record { after = omega arith; before = d.before; sign = d.sign }) (within_of a))

-- a note that no floor changes
pub record Plainly (t : List ℕ) (c : CommentValue) : Type 0 where
  pub note : NotedSince t 0 c.offset c.blank_before

-- the notes of comments over floors that are set before some events
pub record NoteOver (t : List ℕ) (f : CommentValue → ℕ) (es : List EventInText) (c : CommentValue) : Type 0 where
  pub note : NotedSince t (floor_at c.offset (f c) es) c.offset c.blank_before

pub record Unlined (e : EventInText) : Type 0 where
  pub keeps : (f : ℕ) (p : EventInText) → floor_after_event f p e.event ≡ f

pub record FlowNotes (t : List ℕ) (x : Meaning) : Type 0 where
  pub events : Each Unlined x.events
  pub comments : Each (Plainly t) x.comments

pub record EntryNotes (t : List ℕ) (i j : ℕ) (x : Meaning) : Type 0 where
  pub floors : Each (FloorIn i j) x.events
  pub notes : (f : CommentValue → ℕ) → ((c : CommentValue) → f c ≤ i) → Each (NoteOver t f x.events) x.comments

pub record NodeNotes (t : List ℕ) (i j : ℕ) (x : Meaning) : Type 0 where
  pub floors : Each (FloorIn i j) x.events
  pub notes : (f : CommentValue → ℕ) → ((c : CommentValue) → Guard t (f c) i) → Each (NoteOver t f x.events) x.comments

abbrev pub NotesClaim : List ℕ → Production → ℕ → ℕ → Meaning → Type 0
NotesClaim t (FlowNode n c) i j x = FlowNotes t x
NotesClaim t (NodeOf json n c) i j x = FlowNotes t x
NotesClaim t (JsonContent n c) i j x = FlowNotes t x
NotesClaim t (Entries s n c) i j x = FlowNotes t x
NotesClaim t (Entry s n c) i j x = FlowNotes t x
NotesClaim t (Pair n c) i j x = FlowNotes t x
NotesClaim t (Explicit n c s) i j x = FlowNotes t x
NotesClaim t (Implicit n c s) i j x = FlowNotes t x
NotesClaim t (ValueOf json n c) i j x = FlowNotes t x
NotesClaim t (KeyOf json c) i j x = FlowNotes t x
NotesClaim t (BlockNode n c) i j x = NodeNotes t i j x
NotesClaim t (BlockEntries s m) i j x = EntryNotes t i j x
NotesClaim t (BlockEntry s m) i j x = EntryNotes t i j x
NotesClaim t (BlockIndented m c) i j x = NodeNotes t i j x
NotesClaim t (BlockValue m) i j x = EntryNotes t i j x

-- flow nodes
pub plainly : {t : List ℕ} {i j : ℕ} {cs : List CommentValue} → Each (NotedComment t i j) cs → Each (Plainly t) cs
plainly e = each_weaker (λ c d. record { note = d.note }) e

pub start_kept : (s flow : Bool) → Unlined (plain_event (start_of s flow) None)
unfolding plain_event
start_kept true flow = record { keeps = λ f p. refl }
start_kept false flow = record { keeps = λ f p. refl }

pub end_kept : (s : Bool) → Unlined (plain_event (end_of s) None)
unfolding plain_event
end_kept true = record { keeps = λ f p. refl }
end_kept false = record { keeps = λ f p. refl }

module _ {t : List ℕ} where
  pub flow_after : {cs : List CommentValue} {x : Meaning} → Each (Plainly t) cs → FlowNotes t x → FlowNotes t (meaning_after cs x)
  unfolding meaning_after
  flow_after c a = record { events = a.events; comments = each_join c a.comments }

  pub flow_noting : {cs : List CommentValue} {x : Meaning} → FlowNotes t x → Each (Plainly t) cs → FlowNotes t (noting x cs)
  unfolding noting
  flow_noting a c = record { events = a.events; comments = each_join a.comments c }

  pub flow_join : {x y : Meaning} → FlowNotes t x → FlowNotes t y → FlowNotes t (x ⊕ y)
  unfolding ◌⊕◌
  flow_join a b = record { events = each_join a.events b.events; comments = each_join a.comments b.comments }

  pub flow_entering : (i : ℕ) (colon : Option ℕ) {x : Meaning} → FlowNotes t x → FlowNotes t (entering i colon x)
  unfolding entering
  flow_entering i colon a = record { events = go a.events; comments = a.comments } where
    go : {es : List EventInText} → Each Unlined es → Each Unlined (first_entering (record { start = i; colon = colon; blank_before = false }) es)
    go no_element = no_element
    go (one_element k r) = one_element (record { keeps = k.keeps }) r

  pub flow_with : (props : PropsValue) (tag : Option ℕ) (a b : ℕ) {x : Meaning} → FlowNotes t x → FlowNotes t (with_props props tag a b x)
  unfolding with_props
  flow_with props tag a b n = record { events = go n.events; comments = n.comments } where
    go : {es : List EventInText} → Each Unlined es → Each Unlined (first_with props tag a b es)
    go no_element = no_element
    go (one_element {x = e} k r) = one_element (record { keeps = λ f p. kept_event props f p e.event ∙ k.keeps f p }) r

  pub flow_collection : (i j : ℕ) (s : Bool) {x : Meaning} → FlowNotes t x → FlowNotes t (collection s true i j x)
  unfolding collection plain_event
  flow_collection i j s a = record { events = one_element (record { keeps = (start_kept s true).keeps }) (each_join a.events (one_element (end_kept s) no_element)); comments = a.comments }

  pub flow_empty : (i : ℕ) → FlowNotes t (empty_node i)
  unfolding empty_node plain_event
  flow_empty i = record { events = one_element (record { keeps = λ f p. refl }) no_element; comments = no_element }

  pub flow_alias : (name : List ℕ) (i j : ℕ) → FlowNotes t (alias_to name i j)
  unfolding alias_to plain_event
  flow_alias name i j = record { events = one_element (record { keeps = λ f p. refl }) no_element; comments = no_element }

  pub flow_plain : (x : List ℕ) (i j : ℕ) → FlowNotes t (scalar Plain x [] i j)
  unfolding scalar plain_event
  flow_plain x i j = record { events = one_element (record { keeps = λ f p. refl }) no_element; comments = no_element }

  pub flow_single : (x : List ℕ) (i j : ℕ) → FlowNotes t (scalar Single x [] i j)
  unfolding scalar plain_event
  flow_single x i j = record { events = one_element (record { keeps = λ f p. refl }) no_element; comments = no_element }

  pub flow_double : (x bad : List ℕ) (i j : ℕ) → FlowNotes t (scalar Double x bad i j)
  unfolding scalar plain_event
  flow_double x bad i j = record { events = one_element (record { keeps = λ f p. refl }) no_element; comments = no_element }

  pub properties_told : {n : ℤ} {c : Ctx} {i j : ℕ} {p : PropertiesValue} → Properties t n c i j p → Each (NotedComment t i j) p.comments
  properties_told (by_tag g) = no_element
  properties_told (by_anchor a) = no_element
  properties_told (tag_first g s a) = let l = tag_later g in let m = (anchor_parts a).1.some in told_wider (omega arith) (omega arith) (separate_told s)
  properties_told (anchor_first a s g) = let l = tag_later g in let m = (anchor_parts a).1.some in told_wider (omega arith) (omega arith) (separate_told s)

-- over some events
module _ {t : List ℕ} {f : CommentValue → ℕ} where
  pub notes_as : (x y : List EventInText) {cs : List CommentValue} → ((o n : ℕ) → floor_at o n x ≡ floor_at o n y) → Each (NoteOver t f x) cs → Each (NoteOver t f y) cs
  notes_as x y e n = each_weaker (λ c d. record { note = subst (λ (z : ℕ). NotedSince t z c.offset c.blank_before) (e c.offset (f c)) d.note }) n

  -- comments before all of them
  pub notes_early : {i k m j : ℕ} {es : List EventInText} {cs : List CommentValue} → IsUtf8 t → ((c : CommentValue) → Guard t (f c) i) → Each (FloorIn m j) es → k ≤ m → Each (NotedComment t i k) cs → Each (NoteOver t f es) cs
  notes_early {es = es} u g l o e = each_weaker (λ c d. let b = d.before in
      record { note = subst (λ (z : ℕ). NotedSince t z c.offset c.blank_before) (sym (floor_early c.offset (f c) (omega arith) l)) (since_guarded u (g c) d.after d.note) }) e

  -- one part after another
  pub notes_join : {i k m j : ℕ} (x y : List EventInText) {cs ds : List CommentValue} → Each (FloorIn m j) y → k ≤ m → Each (NoteOver t f x) cs → Each (Within t i k) cs
      → Each (NoteOver t (λ c. floor_at c.offset (f c) x) y) ds → Each (NoteOver t f (x ++ y)) (cs ++ ds)
  notes_join x y l o a w b = each_join
      (each_both (λ c d v. let p = v.before in
      record { note = subst (λ (z : ℕ). NotedSince t z c.offset c.blank_before) (sym (floor_join c.offset (f c) x y ∙ floor_early c.offset (floor_at c.offset (f c) x) (omega arith) l)) d.note }) a w)
      (each_weaker (λ c d. record { note = subst (λ (z : ℕ). NotedSince t z c.offset c.blank_before) (sym (floor_join c.offset (f c) x y)) d.note }) b)

-- events that set no floor
pub unlined_floor : {es : List EventInText} (o f : ℕ) → Each Unlined es → floor_at o f es ≡ f
unlined_floor o f no_element = refl
unlined_floor o f (one_element {x = e} {xs = es} k r) =
    ap (λ (z : ℕ). floor_at o z es) (ap (λ (z : ℕ). end_before o f z) (k.keeps f e) ∙ end_same o f) ∙ unlined_floor o f r

pub unlined_floors : {i j : ℕ} {es : List EventInText} → Each Unlined es → Each (FloorIn i j) es
unlined_floors e = each_weaker (λ x k. floor_kept k.keeps) e

pub notes_flow : {t : List ℕ} {f : CommentValue → ℕ} {i j : ℕ} {es : List EventInText} {cs : List CommentValue} → IsUtf8 t → ((c : CommentValue) → Guard t (f c) i) → Each Unlined es → Each (Plainly t) cs
    → Each (Within t i j) cs → Each (NoteOver t f es) cs
notes_flow {t} {f} u g e a w = each_both (λ c d v. record { note = subst (λ (z : ℕ). NotedSince t z c.offset c.blank_before) (sym (unlined_floor c.offset (f c) e)) (since_guarded u (g c) v.after d.note) }) a w

-- a collection's events set the floors of its entries
pub collection_floor : {s e : EventInText} (o f : ℕ) (es : List EventInText) → Unlined s → Unlined e → floor_at o f (s ∷ (es ++ e ∷ [])) ≡ floor_at o f es
collection_floor {s} {e} o f es a b =
    ap (λ (z : ℕ). floor_at o z (es ++ e ∷ [])) (ap (λ (z : ℕ). end_before o f z) (a.keeps f s) ∙ end_same o f) ∙ floor_join o f es (e ∷ [])
    ∙ ap (λ (z : ℕ). end_before o (floor_at o f es) z) (b.keeps (floor_at o f es) e) ∙ end_same o (floor_at o f es)
