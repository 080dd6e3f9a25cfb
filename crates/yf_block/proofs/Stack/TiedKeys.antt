-- An implicit key of an open mapping: its value is awaited after its `:`; or no key begins there, and all nodes
-- break.
use Rattle.std.proofs.Common.{◌≡◌, ℕ, suc, ◌+◌, ◌^◌, ◌≤◌, ℤ, pos, ◌+ℤ◌, Bool, true, false, List, ◌∷◌, length, reverse, Option, Some, None, MatchOption, refl, sym, ap, ◌∙◌, subst, arith, ⊎_elim, true≢false}
use Rattle.std.proofs.lemmas.Bool.{cases_Bool}
use Rattle.std.proofs.lemmas.Int.{ints}
use Rattle.std.proofs.lemmas.List.{length-reverse}
use Rattle.std.proofs.lemmas.Option.{same_Some}
use Rattle.yf_chars.specs.declared.context.Ctx.TheVariants.{BlockOut, FlowOut, FlowKey}
use Rattle.yf_chars.specs.Text.{code}
use Rattle.yf_chars.specs.Class.{is_white}
use Rattle.yf_chars.specs.Chain.{Stuck, Chosen, Many}
use Rattle.yf_chars.proofs.Tests.{none_some, some_none}
use Rattle.yf_comments.specs.Comment.{CommentValue}
use Rattle.yf_comments.specs.Comments.{LineEnd}
use Rattle.yf_props.specs.Names.{Properties, PropertiesValue}
use Rattle.yf_events.specs.Edit.{edited, coloned}
use Rattle.yf_events.specs.declared.event.Entry as TheEntry
use Rattle.yf_events.specs.declared.part.Part.{Part}
use Rattle.yf_grammar.specs.Productions.ReadParts.{NotedSince}
use Rattle.yf_grammar.specs.FlowReader.Parser.{ANode, Parses, begins_properties}
use Rattle.yf_grammar.specs.FlowReader.Parser.Parses.{properties_missed}
use Rattle.yf_grammar.specs.BlockReader.BlockParser.{SignAt, Origin, Later, First, key_missed, Keyless, node_unfit, BlockTask, Item, Whole}
use Rattle.yf_grammar.specs.BlockReader.BlockParser.Whole.{no_key}
use Rattle.yf_grammar.specs.BlockReader.Halts.{Halts}
use Rattle.yf_grammar.specs.BlockReader.Halts.Halts.{halts_no_key}
use Rattle.yf_grammar.specs.BlockReader.BlockStack.{AtValue, asked}
use Rattle.yf_grammar.specs.BlockReader.BlockStates.{EntryAt, at_stage}
use Rattle.yf_grammar.proofs.BlockStack.BlockEntryBegins.{value_begins, entry_breaks}
use Rattle.yf_grammar.proofs.BlockStack.BlockStackSteps.{room_left}
use Rattle.yf_grammar.proofs.FlowReader.FlowStarts.{flow_starts}
use Rattle.yf_grammar.proofs.Ends.Forward.{whites_forward}
use Rattle.yf_grammar.proofs.BlockContent.PropertiesLines.{Spread, on_one_line, on_two_lines, spread}
use Rattle.yf_grammar.proofs.FlowReader.Sound.{found_is_derived}
use Rattle.yf_flow.specs.declared.frame.Node.{Node}
use Rattle.yf_flow.proofs.Content.EntriesFrom.{outcome_from}
use Rattle.yf_block.specs.declared.entry.KeyText.TheVariants.{At, Nowhere}
use Rattle.yf_block.specs.declared.frame.Frame.{Frame}
use Rattle.yf_block.specs.declared.frame.CollectionKind.TheVariants.{Mapping}
use Rattle.yf_block.specs.declared.frame.BlockCursor.{BlockCursor}
use Rattle.yf_block.specs.declared.properties.PlacedProperties.{PlacedProperties}
use Rattle.yf_block.specs.PropertiesAnswers.{LineProperties, NoPlaceAfter, lead_at}
use Rattle.yf_block.specs.InlineAnswers.{InlineRead, InlineLost, KeyEnds}
use Rattle.yf_block.specs.KeyTexts.{KeyTextAt, text_bare, text_after, text_nowhere, text_ended}
use Rattle.yf_block.specs.BlockTied.{entries_written, EntryTied, no_entry, entry_begins, wanted_after}
use Rattle.yf_block.specs.BlockStepTied.{AtNode, AtEntry, AtFailed}
use Rattle.yf_block.proofs.Ends.KeyNodes.{keyless_line, keyless_nowhere, keyless_after, keyless_bare, key_before, keyless_unended}
use Rattle.yf_block.proofs.Stack.TiedFailed.{broken_fails}
use Rattle.yf_block.proofs.Stack.TiedFits.{is_mapping_of}
use Rattle.yf_block.proofs.Stack.TiedLeads.{NodeThere, bare_there, held_there, node_added}
use Rattle.yf_block.proofs.Stack.TiedNodes.{node_there, after_colon, coloned_read}
use Rattle.yf_block.proofs.Stack.TiedOpenings.{frames_count}
use Rattle.yf_block.proofs.Stack.TiedReads.{read_moved, count_read}

-- properties, or none
abbrev pub PropertiesMay : List ℕ → ℕ → Option PlacedProperties → Type 0
PropertiesMay t p o = MatchOption o (Stuck (Properties t (pos 0) FlowKey p)) (LineProperties t p)

pub none_of : (t : List ℕ) (p : ℕ) (o : Option PlacedProperties) → PropertiesMay t p o → o ≡ None → Stuck (Properties t (pos 0) FlowKey p)
none_of t p None m q = m
none_of t p (Some h) m q = absurd (some_none q)

pub some_of : (t : List ℕ) (p : ℕ) (o : Option PlacedProperties) → PropertiesMay t p o → (h : PlacedProperties) → o ≡ Some h → LineProperties t p h
some_of t p None m h q = absurd (none_some q)
some_of t p (Some g) m h q = subst (λ z. LineProperties t p z) (same_Some _ _ q) m

-- if no properties are read on the line, none are read over lines
module _ {t : List ℕ} {p : ℕ} (s : Stuck (Properties t (pos 0) FlowKey p)) where
  pub none_spread : {n : ℤ} → Stuck (Properties t n FlowOut p)
  none_spread {n} = record { none = λ g q d. go (spread FlowOut refl d) } where
    go : {g : ℕ} {q : PropertiesValue} → Spread t n p g q → ⊥
    go {g} {q} (on_one_line d) = s.none g q d
    go (on_two_lines {k = k} {q = q} d e f r m) = s.none k q d

  pub keyless_plain : {e : ℕ} {n : ℤ} → InlineLost t e n p None → Keyless t e n p
  keyless_plain i = ⊎_elim
      (λ (b : begins_properties (code t p) ≡ true). node_unfit (properties_missed b none_spread) key_missed)
      (λ (b : begins_properties (code t p) ≡ false). keyless_bare b i)
      (cases_Bool (begins_properties (code t p)))

later_origin : (q : Origin) → ((n : ℤ) → q ≡ First n → ⊥) → q ≡ Later
later_origin Later f = refl
later_origin (First n) f = absurd (f n refl)

module _ {t : List ℕ} {d : ℕ} {root : BlockTask} {before old : Part} {frames : List Frame} {f : Frame} {p : ℕ} {progress : BlockCursor} (a : AtEntry t d root before frames f p progress old)
    (k : f.kind ≡ Mapping) (no_question : SignAt t 63 p → ⊥) (no_colon : SignAt t 58 p → ⊥) {least : ℕ} (column : least ≡ f.column + 1) where
  mapping : a.layer.sequence ≡ false
  mapping = is_mapping_of a.layer.sequence (sym k ∙ a.collection.kind)

  origin : a.origin ≡ Later
  origin = later_origin a.origin (λ n q. ⊎_elim (λ (s : SignAt t 63 p). no_question s) (λ (s : SignAt t 58 p). no_colon s) (a.signed n q mapping))

  entry : EntryAt t d root a.layer a.layers a.room Later p a.halt
  entry = subst (λ q. EntryAt t d root a.layer a.layers a.room q p a.halt) origin a.entry

  indent : pos least ≡ pos a.layer.column +ℤ pos 1
  indent = let c = a.collection.column in omega (arith, ints, c, column)

  -- it is narrow, and the limit allows further collections
  pub key_narrow : least ≤ 2 ^ 30
  key_narrow = let s = a.shallow in let i = a.there in let w = a.read.text.size in let c = a.collection.column in omega (arith, column, s, i, w, c)

  pub key_room : (items : List Frame) → reverse items ≡ record f { awaits_colon = false } ∷ frames → length items + a.room ≡ d
  key_room items q =
      let r = room_left a.entry.around in
      let n = frames_count a.stack.frames_tied in
      let m : length items ≡ suc (length frames) = sym (length-reverse items) ∙ ap (λ z. length z) q in
      omega (arith, r, n, m)

  -- no key begins there
  pub key_breaks : Keyless t a.room (pos least) p → AtFailed t d root progress
  key_breaks s =
      let s' : Keyless t a.room (pos a.layer.column +ℤ pos 1) p = subst (λ n. Keyless t a.room n p) indent s in
      broken_fails (entry_breaks entry
      (subst (λ b. Whole t a.room (Item b a.layer.column Later p) None) (sym mapping) (no_key no_question no_colon s'))
      (subst (λ b. Halts t a.room (asked a.layers) (Item b a.layer.column Later p) None) (sym mapping) (halts_no_key no_question no_colon s'))) a.stack.halted

  module _ {depth : ℕ} {entry_of : Option TheEntry.Entry} {mid : Part} {node : Node} (n : NodeThere t a.room (pos least) p depth entry_of old mid node) where
    -- it has no `:`
    pub key_unended : {v : ℕ} {w : List ℕ} → Many t is_white node.end v w → is_white (code t v) ≡ false → (KeyEnds t p v → ⊥) → AtFailed t d root progress
    key_unended {v} {w} m z y = key_breaks (keyless_unended n.answer (subst (λ (i : ℕ). Many t is_white i v w) n.end m) z y n.parsed)

    pub key_column : {v : ℕ} {w : List ℕ} → Many t is_white node.end v w → f.column ≤ v
    key_column {v} {w} m =
        let later = (flow_starts (found_is_derived refl n.parsed).0 refl).starts.later in
        let far = whites_forward m in
        let end = n.end in
        let shallow = a.shallow in
        let c = a.collection.column in
        omega (arith, later, far, end, shallow, c)

    -- its value is awaited
    pub key_ended : {stack : List Frame} {new : BlockCursor} {part : Part} {v : ℕ} {w : List ℕ} {b : Bool} → Many t is_white node.end v w → KeyEnds t p v → NotedSince t progress.floor p b
        → entry_of ≡ Some (record { start = p; colon = None; blank_before = b }) → stack ≡ record f { awaits_colon = false } ∷ frames → part.events ≡ edited (coloned v) (length old.events) mid.events
        → part.comments ≡ mid.comments → part.escapes ≡ mid.escapes → new.wanted ≡ wanted_after f.column false true None → new.last ≡ v + 1 → new.floor ≡ progress.floor → new.colons ≡ progress.colons → new.halt ≡ progress.halt
        → AtNode t d root before stack (v + 1) new part
    key_ended {new = new} {v = v} {w} {b} m e s q z x1 x2 x3 y i o c x =
        let l = a.layer in
        let made = found_is_derived refl n.parsed in
        let starts = flow_starts made.0 refl in
        let whites = subst (λ (j : ℕ). Many t is_white j v w) n.end m in
        let far = whites_forward whites in
        let later = starts.starts.later in
        let shallow = a.shallow in
        let past = a.past in
        let parsed = subst (λ j. Parses t a.room (ANode j FlowOut p) (Some n.answer)) indent n.parsed in
        let written = entries_written l a.layers in
        let tied : EntryTied t progress.floor (Some p) entry_of = subst (λ r. EntryTied t progress.floor (Some p) r) (sym q) (entry_begins s) in
        let read = node_added a.read past starts.starts.visible (outcome_from n.parsed refl) tied n.written in
        let here = coloned_read written n.answer.meaning p v read (length old.events) (count_read a.read) x1 x2 x3 in
        node_there {l = at_stage l (AtValue p v n.answer)} false BlockOut None (value_begins entry mapping no_question no_colon parsed made.1 (key_before n.answer whites e)) a.order
        (omega (arith, shallow, far, later)) (omega (arith, past, far, later, o)) (after_colon v a.read.text.utf8 e.colon.sign_is_at)
        (record { collection = record { kind = a.collection.kind; column = a.collection.column; event = a.collection.event }; awaits = refl; entry = λ u. absurd (true≢false (sym u)) })
        a.stack z (c ∙ a.stack.colons) x no_entry (y ∙ ap (λ (u : ℕ). wanted_after u false true None) a.collection.column) i
        (read_moved here o)

  -- the key as it was read
  pub key_there : {depth at : ℕ} {entry_of : Option TheEntry.Entry} {inner : Option PlacedProperties} {mid : Part} {node : Node} → KeyTextAt t p inner (At at) → (inner ≡ None → Stuck (Properties t (pos 0) FlowKey p))
      → ((h : PlacedProperties) → inner ≡ Some h → LineProperties t p h) → InlineRead t a.room (pos least) at depth inner (lead_at p inner entry_of) old mid node
      → NodeThere t a.room (pos least) p depth entry_of old mid node
  key_there text_bare s l r = bare_there r
  key_there (text_after {held = h} s' b) s l r = held_there a.read.text.utf8 (l h refl) s' b r

  pub key_lost : {at : ℕ} {inner : Option PlacedProperties} → KeyTextAt t p inner (At at) → (inner ≡ None → Stuck (Properties t (pos 0) FlowKey p)) → ((h : PlacedProperties) → inner ≡ Some h → LineProperties t p h)
      → InlineLost t a.room (pos least) at inner → AtFailed t d root progress
  key_lost text_bare s l r = key_breaks (keyless_plain (s refl) r)
  key_lost (text_after {held = h} s' b) s l r = key_breaks (keyless_after a.read.text.utf8 (l h refl) s' b r)

  pub key_nowhere : {q : ℕ} {inner : Option PlacedProperties} → KeyTextAt t p inner (Nowhere q) → ((h : PlacedProperties) → inner ≡ Some h → LineProperties t p h) → AtFailed t d root progress
  key_nowhere (text_nowhere {held = h} s b) l = key_breaks (keyless_nowhere a.read.text.utf8 (l h refl) s b)
  key_nowhere (text_ended {held = h} e) l = key_breaks (keyless_line a.read.text.utf8 (l h refl) e)

-- nothing may follow the properties, whether their line ends or not
pub nowhere_after : {t : List ℕ} {start p : ℕ} {held : PlacedProperties} {X : Type 0} (o : Option X) (end : X → ℕ) (comments : X → List CommentValue)
    → MatchOption o (Stuck (LineEnd t held.end)) (λ s. Chosen (LineEnd t held.end) (end s) (comments s)) → NoPlaceAfter t held.end → KeyTextAt t start (Some held) (Nowhere p)
nowhere_after None end comments m n = text_nowhere m n
nowhere_after (Some s) end comments m n = text_ended m.derived
