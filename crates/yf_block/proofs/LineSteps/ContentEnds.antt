-- A flow node on its line that is not a key: a leaf, after which the line must end, or an empty key after which the
-- line goes on.
use Rattle.std.proofs.Common.{◌≡◌, ℕ, pos, ◌+ℤ◌, ◌<◌, ◌≤◌, Bool, true, false, List, Option, Some, None, refl, sym, ap, ◌∙◌, subst, arith, ⊎_elim}
use Rattle.std.proofs.lemmas.Bool.{cases_Bool}
use Rattle.std.proofs.lemmas.Option.{same_Some}
use Rattle.std.specs.Str.{IsUtf8}
use Rattle.yf_chars.specs.declared.context.Ctx.TheVariants.{FlowOut}
use Rattle.yf_chars.specs.Text.{code}
use Rattle.yf_chars.specs.Chain.{Stuck}
use Rattle.yf_comments.specs.Comments.{LineEnd}
use Rattle.yf_events.specs.declared.part.Part.{Part}
use Rattle.yf_grammar.specs.Productions.Meaning.{from_to}
use Rattle.yf_grammar.specs.FlowReader.Parser.{ParsedNode, ANode, Parses, begins_alias, begins_properties}
use Rattle.yf_grammar.specs.FlowReader.Parser.Parses.{properties_missed}
use Rattle.yf_grammar.specs.BlockReader.BlockParser.{SignAt, Ahead, PropertiesHeld as HeldValue, Props, Columns, NoSign, NoKeyAt, BlockTask}
use Rattle.yf_grammar.proofs.FlowReader.FlowStarts.{flow_starts}
use Rattle.yf_grammar.proofs.Ends.Forward.{whites_forward}
use Rattle.yf_grammar.proofs.FlowReader.Outcome.{outcome_is_one}
use Rattle.yf_grammar.proofs.FlowReader.Sound.{found_is_derived}
use Rattle.yf_flow.specs.NodeStarts.{ContentAt, plain_missing}
use Rattle.yf_flow.specs.ContentAnswers.{WrittenWith}
use Rattle.yf_flow.specs.declared.frame.Node.{Node}
use Rattle.yf_flow.specs.declared.node.Lead.{Lead}
use Rattle.yf_flow.proofs.Content.EntriesFrom.{outcome_from}
use Rattle.yf_block.specs.declared.frame.Frame.{Frame}
use Rattle.yf_block.specs.declared.frame.BlockCursor.{BlockCursor}
use Rattle.yf_block.specs.declared.properties.PlacedProperties.{PlacedProperties}
use Rattle.yf_block.specs.BlockTied.{layers_entry, all_written, EntryTied}
use Rattle.yf_block.specs.BlockStepTied.{AtFailed}
use Rattle.yf_block.specs.BelongingTied.{AfterLine, none_more}
use Rattle.yf_block.specs.ContentTied.{TextAfter, text_alone, text_held, ScalarSignAt, PlainIs, plain_known, other_known, AtLeaf, LeafEnding, leaf_ends, line_goes_on}
use Rattle.yf_block.specs.InlineAnswers.{InlineRead, NodeIs}
use Rattle.yf_block.specs.InlineAnswers as Answers
use Rattle.yf_block.specs.InlineTied.{AtStart}
use Rattle.yf_block.specs.LastStarts.{NoStart}
use Rattle.yf_block.proofs.LineSteps.ContentFails.{no_scalar, other_no_scalar, leaf_fails}
use Rattle.yf_block.proofs.LineSteps.ContentLeaves.{leaf_task, after_comments, LeafAhead, leaf_added, NodeKind, plain_kind, json_kind, alias_kind, node_kind, no_start_inside, no_start_late}
use Rattle.yf_block.proofs.LineSteps.ContentNodes.{leaf_lost}
use Rattle.yf_block.proofs.Ends.KeyNodes.{content_node, colon_bare, sign_no_plain, after_later}
use Rattle.yf_block.proofs.Stack.TiedKeys.{none_spread}
use Rattle.yf_block.proofs.Stack.TiedLeads.{bare_content}
use Rattle.yf_block.proofs.Stack.TiedReads.{read_moved}
use Rattle.yf_chars.proofs.Tests.{none_some, some_none}
use Rattle.yf_block.proofs.LineSteps.LeafEnds.{same_plain}
use Rattle.yf_props.proofs.NameOrder.{properties_forward}

-- the text is after the properties
pub after_order : {t : List ℕ} {p at : ℕ} {inner : Option PlacedProperties} → TextAfter t p inner at → p ≤ at
after_order (text_alone q) = omega arith
after_order (text_held l q b) = let f = properties_forward l.chosen.derived in let g = whites_forward b.run in omega (arith, f, g)

alone_ahead : {t : List ℕ} {p : ℕ} {a z : Ahead} → AfterLine t p a None z → z ≡ a
alone_ahead none_more = refl

failed_still : {t : List ℕ} {d : ℕ} {root : BlockTask} {progress after : BlockCursor} → AtFailed t d root progress → after.halt ≡ progress.halt → AtFailed t d root after
failed_still f e = record { halt = f.halt; unfinished = f.unfinished; halts = f.halts; halted = e ∙ f.halted }

-- a `:` begins neither an alias nor a node
colon_no_alias : (c : ℕ) → c ≡ 58 → begins_alias c ≡ false
unfolding begins_alias
colon_no_alias c e = rw e refl

module _ {t : List ℕ} {p : ℕ} where
  stuck_after : {j : Option PlacedProperties} {y : PlacedProperties} {k end : ℕ} → TextAfter t p j k → j ≡ Some y → end ≡ y.end → Stuck (LineEnd t end)
  stuck_after (text_alone q) z e = absurd (some_none (sym z))
  stuck_after (text_held {held = h} l q b) z e = subst (λ (i : ℕ). Stuck (LineEnd t i)) (ap (λ (g : PlacedProperties). g.end) (same_Some _ _ z) ∙ sym e) q

  end_before : {j : Option PlacedProperties} {y : PlacedProperties} {k : ℕ} → TextAfter t p j k → j ≡ Some y → y.end ≤ k
  end_before (text_alone q) z = absurd (some_none (sym z))
  end_before (text_held {held = h} l q b) z = let f = whites_forward b.run in let e = ap (λ (g : PlacedProperties). g.end) (same_Some _ _ z) in omega (arith, f, e)

module _ {t : List ℕ} {at end : ℕ} {f : ParsedNode} {json : Bool} {plain : Option ℕ} (as_json : json ≡ true → plain ≡ None) (as_plain : json ≡ false → plain ≡ Some at) where
  known_kind : json ≡ f.json → end ≡ f.end → NodeKind t at f → PlainIs t at end plain
  known_kind j k (plain_kind b v) = plain_known b (as_plain (j ∙ v))
  known_kind j k (json_kind b v) = other_known b (λ q x. absurd (none_some (sym (as_json (j ∙ v)) ∙ x)))
  known_kind j k (alias_kind b o) = other_known b (λ q x. ⊎_elim
      (λ (v : json ≡ true). absurd (none_some (sym (as_json v) ∙ x)))
      (λ (v : json ≡ false). subst (λ (z : ℕ). NoStart t z end) (sym (same_plain (sym (as_plain v) ∙ x))) (subst (λ (z : ℕ). NoStart t at z) (sym k) (no_start_inside o)))
      (cases_Bool json))

module _ {t : List ℕ} {d : ℕ} {root : BlockTask} {before old : Part} {frames : List Frame} {cols : Columns} {p : ℕ} {progress : BlockCursor}
    (a : AtStart t d root before frames cols p progress old) (s : NoSign t cols p) {inner : Option PlacedProperties} {at : ℕ} (x : TextAfter t p inner at) (bars : ScalarSignAt t at → ⊥) (k : NoKeyAt t a.room a.indentation cols p)
    {lead : Lead} (v : LeafAhead t p at a.ahead inner progress.wanted.entry lead) where
  utf8 : IsUtf8 t
  utf8 = a.read.text.utf8

  leaf_here : {plain : Option ℕ} {after : BlockCursor} {depth : ℕ} {f : ParsedNode} {node : Node} {new : Part} → Parses t a.room (ANode (a.indentation +ℤ pos 1) FlowOut at) (Some f) → begins_properties (code t at) ≡ false
      → ((h : HeldValue) → v.ahead ≡ Props h → begins_alias (code t at) ≡ false) → ((held : PlacedProperties) → inner ≡ Some held → held.end < at) → NodeIs depth f node → WrittenWith t lead f.meaning (from_to at node.end) node.end old new
      → (node.json ≡ true → plain ≡ None) → (node.json ≡ false → plain ≡ Some at) → after.last ≡ node.end → after.floor ≡ progress.floor → after.colons ≡ progress.colons → after.halt ≡ progress.halt
      → AtLeaf t d root before frames plain node.end after new
  leaf_here {f = f} {node} r b c o i w as_json as_plain last fl co ha =
      let starts = flow_starts (found_is_derived refl r).0 refl in
      let order = after_order x in
      let later = starts.starts.later in
      let past = a.past in
      let end = i.end in
      record {
        layers = a.layers;
        room = a.room;
        comments = a.comments;
        indentation = a.indentation;
        ahead = v.ahead;
        place = at;
        answer = f;
        halt = a.halt;
        node = leaf_task a s x k v.joined o;
        no_scalar = no_scalar bars;
        may = record { no_props = b; no_alias = λ {h} e. c h e };
        parsed = r;
        end = sym i.end;
        known = known_kind as_json as_plain i.json i.end (node_kind utf8 refl b r refl);
        last = last ∙ i.end ∙ sym i.finish;
        past = omega (arith, past, order, later, end, fl);
        stack = record { order = a.stack.order; frames_tied = a.stack.frames_tied; colons = co ∙ a.stack.colons; halted = ha ∙ a.stack.halted };
        read = read_moved (leaf_added (all_written a.layers) a.comments a.read (omega (arith, past, order)) starts.starts.visible (outcome_from r refl)
            (subst (λ z. EntryTied t progress.floor (layers_entry a.layers) z) (sym v.entry_is) a.wanted.entry) v.tied (after_comments v.joined) w) fl;
      }

  -- no node begins at the `:` after an empty key
  empty_fails : {y : PlacedProperties} → inner ≡ Some y → SignAt t 58 at → AtFailed t d root progress
  empty_fails q c =
      leaf_fails a s x k (λ z l. leaf_lost (other_no_scalar c.sign_is_at (λ e. omega (arith, e)) (λ e. omega (arith, e)))
      (λ m. content_node (colon_no_alias (code t at) c.sign_is_at) m.no_props (plain_missing (colon_bare (code t at) c.sign_is_at) (sign_no_plain c))))

  indented : {o : Option ParsedNode} → Parses t a.room (ANode (pos progress.wanted.least) FlowOut at) o → Parses t a.room (ANode (a.indentation +ℤ pos 1) FlowOut at) o
  indented {o} r = subst (λ i. Parses t a.room (ANode i FlowOut at) o) a.wanted.least r

  -- the node that was read, if it is not a key
  module _ {plain : Option ℕ} {after : BlockCursor} {depth : ℕ} {node : Node} {new : Part} (as_json : node.json ≡ true → plain ≡ None) (as_plain : node.json ≡ false → plain ≡ Some at) (last : after.last ≡ node.end) (fl : after.floor ≡ progress.floor)
      (co : after.colons ≡ progress.colons) (ha : after.halt ≡ progress.halt) where
    go_read : {f : ParsedNode} → Answers.NoEmptyKey t at inner → begins_alias (code t at) ≡ false → ContentAt t a.room (pos progress.wanted.least) FlowOut at (Some f) → NodeIs depth f node
        → WrittenWith t lead f.meaning (from_to at node.end) node.end old new → AtLeaf t d root before frames plain node.end after new
    go_read {f} e y r i w =
        let props = bare x r in
        leaf_here (indented (content_node y props r)) props (λ h q. y) (later x e) i w as_json as_plain last fl co ha where
          bare : {j : Option PlacedProperties} {k : ℕ} → TextAfter t p j k → ContentAt t a.room (pos progress.wanted.least) FlowOut k (Some f) → begins_properties (code t k) ≡ false
          bare (text_alone q) r = bare_content r refl
          bare (text_held l q b) r = b.no_property

          later : {j : Option PlacedProperties} {k : ℕ} → TextAfter t p j k → Answers.NoEmptyKey t k j → (held : PlacedProperties) → j ≡ Some held → held.end < k
          later (text_alone q) e held z = absurd (some_none (sym z))
          later (text_held {held = h} {at = k} l q b) e held z = subst (λ (g : PlacedProperties). g.end < k) (same_Some _ _ z) (after_later utf8 l q b (e h refl))

    go_alias : {f : ParsedNode} → inner ≡ None → Parses t a.room (ANode (pos progress.wanted.least) FlowOut at) (Some f) → NodeIs depth f node → WrittenWith t lead f.meaning (from_to at node.end) node.end old new
        → AtLeaf t d root before frames plain node.end after new
    go_alias q r i w = leaf_here (indented r) (bare x q r) (λ h z. v.no_alias (sym (alone_ahead (subst (λ j. AfterLine t p a.ahead j v.ahead) q v.joined)) ∙ z)) (λ held z. absurd (some_none (sym z ∙ q))) i w as_json as_plain last fl co ha where
      bare : {j : Option PlacedProperties} {k : ℕ} {g : ParsedNode} → TextAfter t p j k → j ≡ None → Parses t a.room (ANode (pos progress.wanted.least) FlowOut k) (Some g) → begins_properties (code t k) ≡ false
      bare {k = k} (text_alone y) z r = ⊎_elim
          (λ (b : begins_properties (code t k) ≡ true). absurd (none_some (outcome_is_one (properties_missed b (none_spread y)) r)))
          (λ (b : begins_properties (code t k) ≡ false). b)
          (cases_Bool (begins_properties (code t k)))
      bare (text_held l y b) z r = b.no_property

    pub leaf_ending : InlineRead t a.room (pos progress.wanted.least) at depth inner lead old new node → LeafEnding plain t d root before frames node.end after new
    leaf_ending (Answers.content_read e y r i w) = leaf_ends (go_read e y r i w)
    leaf_ending (Answers.alias_read q r i w) = leaf_ends (go_alias q r i w)
    leaf_ending (Answers.empty_key_read e j g w) =
        let order = end_before x e.is in
        let end = e.ends in
        line_goes_on (stuck_after x e.is e.ends) (λ q z. subst (λ (i : ℕ). NoStart t i node.end) (sym (same_plain (sym (as_plain j) ∙ z))) (no_start_late (omega (arith, order, end))))
        (failed_still (empty_fails e.is e.colon) ha)
