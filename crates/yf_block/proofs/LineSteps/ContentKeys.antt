-- A mapping begins on a line with its first key: its value is awaited, or too many collections would be open.
use Rattle.std.proofs.Common.{◌≡◌, ℕ, suc, zero, pos, ◌+ℤ◌, ◌+◌, ◌-◌, ◌<◌, ◌≤◌, Bool, true, false, List, [], ◌∷◌, ◌++◌, length, Option, Some, None, refl, sym, ap, ◌∙◌, subst, arith, true≢false, ⊎_elim}
use Rattle.std.proofs.lemmas.Bool.{cases_lt}
use Rattle.yf_chars.specs.declared.context.Ctx.TheVariants.{BlockOut, FlowOut}
use Rattle.yf_chars.specs.Text.{code}
use Rattle.yf_chars.specs.Class.{is_white}
use Rattle.yf_chars.specs.Chain.{Many}
use Rattle.yf_chars.proofs.ChainLemmas.{many_unique}
use Rattle.yf_events.specs.Event.{EventInText}
use Rattle.yf_events.specs.declared.event.Entry as TheEntry
use Rattle.yf_events.specs.declared.part.Part.{Part}
use Rattle.yf_grammar.specs.Productions.Meaning.{Meaning, ◌⊕◌, entering}
use Rattle.yf_grammar.specs.Productions.ReadParts.{Noting, NotedSince}
use Rattle.yf_grammar.specs.Productions.ReadParts.Noting.{with_entry}
use Rattle.yf_grammar.specs.FlowReader.Parser.{ParsedNode, ANode, Parses}
use Rattle.yf_grammar.specs.BlockReader.BlockParser.{DashAt, SignAt, Columns, NoSign, NoKeyAt, no_column, unfit_node, key_unfit, KeyBefore, by_key, BlockTask, Awaited, Indicator, Inline}
use Rattle.yf_grammar.specs.BlockReader.BlockParser.Whole.{mapping_too_deep, key_too_deep}
use Rattle.yf_grammar.specs.BlockReader.Halts.Halts.{halts_mapping_too_deep, halts_key_too_deep}
use Rattle.yf_grammar.specs.BlockReader.BlockStack.{AtValue}
use Rattle.yf_grammar.specs.BlockReader.BlockStates.{NodeAt, NodeIsBroken, at_stage, new_layer}
use Rattle.yf_grammar.proofs.BlockStack.BlockEntryBegins.{value_begins, entry_breaks}
use Rattle.yf_grammar.proofs.BlockStack.BlockNodeSteps.{mapping_begins}
use Rattle.yf_grammar.proofs.BlockOutcomes.BlockStarts.{node_no_dash}
use Rattle.yf_grammar.proofs.FlowReader.FlowStarts.{flow_starts}
use Rattle.yf_grammar.proofs.Ends.Forward.{whites_forward}
use Rattle.yf_grammar.proofs.Ends.GapLemmas.{Visible}
use Rattle.yf_grammar.proofs.FlowReader.Sound.{found_is_derived}
use Rattle.yf_flow.proofs.Content.EntriesFrom.{EntriesFrom, outcome_from}
use Rattle.yf_flow.proofs.Ends.NotedFloor.{noting_later}
use Rattle.yf_flow.proofs.Ends.NotedLemmas.{floor_same}
use Rattle.yf_flow.specs.declared.frame.Node.{Node}
use Rattle.yf_block.specs.declared.frame.Frame.{Frame}
use Rattle.yf_block.specs.declared.frame.CollectionKind.TheVariants.{Mapping}
use Rattle.yf_block.specs.declared.frame.BlockCursor.{BlockCursor}
use Rattle.yf_block.specs.BlockTied.{floor_after, ReadTied, no_entry, wanted_after}
use Rattle.yf_block.specs.BlockStepTied.{AtNode, AtFailed}
use Rattle.yf_block.specs.InlineAnswers.{KeyEnds}
use Rattle.yf_block.specs.InlineTied.{AtStart, started}
use Rattle.yf_block.proofs.Stack.TiedFailed.{broken_fails}
use Rattle.yf_block.proofs.Ends.KeyNodes.{key_before}
use Rattle.yf_block.proofs.Stack.TiedLeads.{WrittenAs, rest_from, floor_others, read_added, NodeThere}
use Rattle.yf_block.proofs.Stack.TiedNodes.{node_there, after_colon}
use Rattle.yf_block.proofs.Stack.TiedOpenings.{node_missing, opened_read, opened_count, room_there}
use Rattle.yf_block.proofs.Stack.TiedReads.{read_moved}
use Rattle.yf_grammar.proofs.BlockContent.PlainCut.{colon_no_white}

sign_no_white : {t : List ℕ} {i : ℕ} → SignAt t 58 i → is_white (code t i) ≡ false
sign_no_white {t} {i} s = colon_no_white (code t i) s.sign_is_at

-- an entry with its colon
entered : (p v : ℕ) (x : Meaning) {e : EventInText} {es : List EventInText} → x.events ≡ e ∷ es → (entering p (Some v) x).events ≡ record e { entry = Some (record { start = p; colon = Some v; blank_before = false }) } ∷ es
unfolding entering
entered p v x q = ap (λ z. (entering p (Some v) (record { events = z; comments = []; escapes = []; finish = 0 })).events) q

entered_comments : (p v : ℕ) (x : Meaning) → (entering p (Some v) x).comments ≡ x.comments
unfolding entering
entered_comments p v x = refl

entered_escapes : (p v : ℕ) (x : Meaning) → (entering p (Some v) x).escapes ≡ x.escapes
unfolding entering
entered_escapes p v x = refl

module _ {t : List ℕ} {before : Part} {w : Meaning} {progress : BlockCursor} {old : Part} (r : ReadTied t before w progress old) where
  pub entry_added : {p v : ℕ} {b : Bool} {x : Meaning} {new : Part} → progress.floor ≤ p → Visible t p → EntriesFrom (p + 1) x.events → NotedSince t progress.floor p b
      → WrittenAs t (Some (record { start = p; colon = Some v; blank_before = b })) x old new → ReadTied t before (w ⊕ entering p (Some v) x) progress new
  entry_added {p} {v} {b} {x} l s f n a =
      let first : EventInText = record a.first { entry = Some (record { start = p; colon = Some v; blank_before = false }) } in
      let events = entered p v x a.events in
      let rest = noting_later r.text.utf8 s l (rest_from f a.events) a.noted in
      let noted : Noting t progress.floor (first ∷ a.others) (record a.first { entry = Some (record { start = p; colon = Some v; blank_before = b }) } ∷ a.noted_others) =
      with_entry {e = first} (record { start = p; colon = Some v; blank_before = false }) refl n (subst (λ z. Noting t z a.others a.noted_others) (sym (floor_same progress.floor first a.first.event a.no_lines)) rest) in
      let still : floor_after progress.floor (entering p (Some v) x).events ≡ progress.floor =
      ap (λ z. floor_after progress.floor z) events ∙ ap (λ z. floor_after z a.others) (floor_same progress.floor first a.first.event a.no_lines) ∙ floor_others progress.floor a.noted in
      read_added r (entering p (Some v) x) (subst (λ z. Noting t progress.floor z (record a.first { entry = Some (record { start = p; colon = Some v; blank_before = b }) } ∷ a.noted_others)) (sym events) noted)
      still a.added (entered_comments p v x) (entered_escapes p v x)

module _ {t : List ℕ} {d : ℕ} {root : BlockTask} {before old : Part} {frames : List Frame} {cols : Columns} {p : ℕ} {progress : BlockCursor}
    (a : AtStart t d root before frames cols p progress old) (s : NoSign t cols p) where
  node_indent : pos progress.wanted.least ≡ a.indentation +ℤ pos 1
  node_indent = a.wanted.least

  module _ {m : ℕ} (q : cols.mapping ≡ Some m) where
    no_question : SignAt t 63 p → ⊥
    no_question y = s.no_question q y

    no_colon : SignAt t 58 p → ⊥
    no_colon y = s.no_colon q y

    undashed : {r : ℕ} {f : ParsedNode} → Parses t r (ANode (a.indentation +ℤ pos 1) FlowOut p) (Some f) → DashAt t p → ⊥
    undashed w y = node_no_dash refl (found_is_derived refl w).0 y

    module _ {f : ParsedNode} {k : ℕ} where
      -- no further collection may be opened, or the key opens too many
      key_full : (r : ℕ) → NodeAt t d root a.layers r a.comments (Inline a.indentation a.context cols a.ahead p) a.halt → Parses t r (ANode (a.indentation +ℤ pos 1) FlowOut p) (Some f) → KeyBefore t p f k
          → r ≤ f.height → NodeIsBroken t d root a.halt
      key_full zero z w b l = node_missing z (mapping_too_deep (undashed w) q (by_key w b)) (halts_mapping_too_deep (undashed w) q (by_key w b))
      key_full (suc e) z w b l =
          let l' : e < f.height = omega (arith, l) in
          entry_breaks (mapping_begins z (undashed w) q (by_key w b)) (key_too_deep no_question no_colon w l' b) (halts_key_too_deep no_question no_colon w l' b)

      -- its value is awaited
      key_begun : (r : ℕ) → NodeAt t d root a.layers r a.comments (Inline a.indentation a.context cols a.ahead p) a.halt → Parses t r (ANode (a.indentation +ℤ pos 1) FlowOut p) (Some f) → KeyBefore t p f k
          → f.height < r → NodeAt t d root (at_stage (new_layer false m a.ahead a.comments p) (AtValue p k f) ∷ a.layers) (r - 1) [] (Awaited false (pos m) BlockOut (Indicator (k + 1)) (k + 1)) a.halt
      key_begun zero z w b l = absurd (omega (arith, l))
      key_begun (suc e) z w b l =
          let l' : f.height ≤ e = omega (arith, l) in
          let same : e ≡ suc e - 1 = omega arith in
          subst (λ (x : ℕ). NodeAt t d root (at_stage (new_layer false m a.ahead a.comments p) (AtValue p k f) ∷ a.layers) x [] (Awaited false (pos m) BlockOut (Indicator (k + 1)) (k + 1)) a.halt) same
          (value_begins (mapping_begins z (undashed w) q (by_key w b)) refl no_question no_colon w l' b)

  module _ {depth : ℕ} {entry : Option TheEntry.Entry} {mid new : Part} {node : Node} (n : NodeThere t a.room (pos progress.wanted.least) p depth entry mid new node) where
    node_parsed : Parses t a.room (ANode (a.indentation +ℤ pos 1) FlowOut p) (Some n.answer)
    node_parsed = subst (λ i. Parses t a.room (ANode i FlowOut p) (Some n.answer)) node_indent n.parsed

    -- the `:` is after it
    pub is_key : {v : ℕ} {w : List ℕ} → Many t is_white node.end v w → KeyEnds t p v → KeyBefore t p n.answer v
    is_key {v} {w} m e = key_before n.answer (subst (λ (j : ℕ). Many t is_white j v w) n.end m) e

    pub too_many_open : {m v : ℕ} {w : List ℕ} → cols.mapping ≡ Some m → Many t is_white node.end v w → KeyEnds t p v → depth ≡ length frames → (node.deepest < d → depth < d → ⊥) → AtFailed t d root progress
    too_many_open q m e o f =
        let r = room_there a in
        let y = n.deepest in
        broken_fails (key_full q a.room a.node node_parsed (is_key m e) (full r y f)) a.stack.halted where
          full : length frames + a.room ≡ d → node.deepest ≡ depth + n.answer.height → (node.deepest < d → depth < d → ⊥) → a.room ≤ n.answer.height
          full r y f = ⊎_elim
              (λ (l : n.answer.height < a.room). absurd (f (omega (arith, r, y, o, l)) (omega (arith, r, o, l))))
              (λ (l : a.room ≤ n.answer.height). l)
              (cases_lt n.answer.height a.room)

    -- other text follows it on the line
    pub no_key_there : {column : Option ℕ} {v : ℕ} {w : List ℕ} → cols.mapping ≡ column → Many t is_white node.end v w → is_white (code t v) ≡ false → ((m : ℕ) → column ≡ Some m → KeyEnds t p v → ⊥)
        → NoKeyAt t a.room a.indentation cols p
    no_key_there {column = None} q m f k = no_column q
    no_key_there {column = Some x} {v} {w} q m f k = unfit_node node_parsed (key_unfit (λ h b.
        let whites = subst (λ (j : ℕ). Many t is_white j v w) n.end m in
        let same = (many_unique t is_white b.run (sign_no_white b.colon) whites f).0 in
        k x refl (subst (λ (z : ℕ). KeyEnds t p z) same (record { colon = b.colon; line = record { line = b.line; short = b.short } }))))

  -- the mapping is begun, and its key has been read again after the event that begins it
  module _ {depth : ℕ} {mid new : Part} {node : Node} {m v : ℕ} {b : Bool} (q : cols.mapping ≡ Some m) (o : depth ≡ length frames)
      (n : NodeThere t a.room (pos progress.wanted.least) p depth (Some (record { start = p; colon = Some v; blank_before = b })) mid new node) where
    pub key_awaits : {stack : List Frame} {after : BlockCursor} → KeyBefore t p n.answer v → NotedSince t progress.floor p b → depth + n.answer.height < d
        → mid.events ≡ old.events ++ started Mapping p progress.wanted ∷ [] → mid.comments ≡ old.comments → mid.escapes ≡ old.escapes
        → stack ≡ record { kind = Mapping; column = m; event = length old.events; entry_event = length old.events; awaits_colon = false } ∷ frames
        → after.wanted ≡ wanted_after m false true None → after.last ≡ v + 1 → after.floor ≡ progress.floor → after.colons ≡ progress.colons → after.halt ≡ progress.halt
        → AtNode t d root before stack (v + 1) after new
    key_awaits {after = after} kb s l x1 x2 x3 z y i fl c h =
        let parsed = node_parsed n in
        let made = found_is_derived refl n.parsed in
        let starts = flow_starts made.0 refl in
        let far = whites_forward kb.run in
        let later = starts.starts.later in
        let past = a.past in
        let shallow = a.mapping.shallow m q in
        let layer = new_layer false m a.ahead a.comments p in
        let room = room_there a in
        let mid_read = opened_read a false m x1 x2 x3 in
        let read = entry_added mid_read past starts.starts.visible (outcome_from n.parsed refl) s n.written in
        node_there {l = at_stage layer (AtValue p v n.answer)} false BlockOut None (key_begun q a.room a.node parsed kb (omega (arith, room, l, o))) (a.mapping.within m q)
        (omega (arith, shallow, far, later)) (omega (arith, past, far, later, fl)) (after_colon v a.read.text.utf8 kb.colon.sign_is_at)
        (record { collection = record { kind = refl; column = refl; event = opened_count a }; awaits = refl; entry = λ u. absurd (true≢false (sym u)) })
        a.stack z (c ∙ a.stack.colons) h no_entry y i (read_moved read fl)
