-- The rule indentation finds exactly the misplaced nodes of trees.
use Rattle.std.proofs.Common.{◌≡◌, ℕ, ◌+◌, ◌≤◌, Bool, true, false, not, List, [], Option, Some, None, drop, length, unwrap_or, refl, sym, subst, ap, ◌∙◌, ⊎_elim, true≢false}
use Rattle.std.specs.List.{Contains}
use Rattle.std.specs.Prelude.{◌&&◌, if◌then◌else◌, slice_get}
use Rattle.std.proofs.lemmas.Bool.{and_parts, cases_Bool}
use Rattle.std.proofs.lemmas.Option.{same_Some}
use Rattle.yf_forms.specs.Nodes.ContentStart.{content_start}
use Rattle.yf_forms.specs.declared.style.Style.{Style}
use Rattle.yf_forms.proofs.Decide.ValueLemmas.{event_of}
use Rattle.yf_events.specs.Event.{scalar_node}
use Rattle.yf_events.specs.Reading.{events_of}
use Rattle.yf_events.specs.Tree.{Node, scalar, alias, sequence, mapping, DocumentTree, TreesOf, is_block_collection, is_sequence, standing}
use Rattle.yf_events.specs.declared.event.ScalarStyle.{ScalarStyle}
use Rattle.yf_props.specs.Props.{PropsValue}
use Rattle.yf_events.specs.declared.lists.Lists.{Lists}
use Rattle.yf_lines.specs.Lines.{Table}
use Rattle.yf_rule_sets.specs.RuleSets.Columns.{ColumnsTo}
use Rattle.yf_rule_sets.specs.Passes.Entries.{all_entries, column_at, entries_from, unmarked_at}
use Rattle.yf_rule_sets.specs.RuleSets.Exact.{IsTheOne, Exactly}
use Rattle.yf_rule_sets.specs.Passes.IndentFaults.{AtFault, ContentAt, FoundBy, IndentPassAt, at_fault, content_at, content_fault, entry_fault, fault_of, standing_at}
use Rattle.yf_rule_sets.specs.RuleSets.Indents.{EntriesAt, ImplicitValue, IndentFault, WantedColumn, WantedIndent, WithoutMark, at_key, at_root, content, entries, further, in_entry, of_root}
use Rattle.yf_rule_sets.specs.RuleSets.Nodes.{IsChildOf, NumberedNode, IsNodeOf}
use Rattle.yf_rule_sets.specs.RuleSets.Nodes.IsChildOf.{as_item, as_key, as_value}
use Rattle.yf_rule_sets.specs.RuleSets.Nodes.IsNodeOf.{is_inner}
use Rattle.yf_rule_sets.specs.Passes.NodeContexts.{IsHeld, Stood, as_its_key, as_its_value, by_nothing, by_sequence, held, run, stood, stood_in_documents}
use Rattle.yf_rule_sets.specs.Passes.NodeColumns.{is_other, wanted_column, wanted_indent}
use Rattle.yf_rule_sets.specs.declared.facts.node_context.Around.{Around}
use Rattle.yf_rule_sets.specs.declared.facts.node_context.Around.TheVariants.{Nothing}
use Rattle.yf_rule_sets.specs.declared.facts.node_context.ContextFrame.{ContextFrame}
use Rattle.yf_rule_sets.specs.declared.facts.node_context.NodeContext.{NodeContext}
use Rattle.yf_rule_sets.proofs.Indentation.EntryColumns.{entries_found, column_found, found_column, unmarked_found, not_true, unmarked_key, key_unmarked, other, other_wanted}
use Rattle.yf_rule_sets.proofs.Indentation.FaultLemmas.{all_reached, content_sole, no_scalar}
use Rattle.yf_rule_sets.proofs.Texts.FlowLemmas.{event_there, span_there}
use Rattle.yf_rule_sets.proofs.Texts.NodePlaceLemmas.{node_there}
use Rattle.yf_rule_sets.proofs.Indentation.StandSetLemmas.{all_told, held_is_at, held_told, item_no_value, key_no_value, sole_key}
use Rattle.yf_rule_sets.proofs.Indentation.StandTreeLemmas.{run_stream}
use Rattle.yf_chars.proofs.Tests.{none_some}

-- the nodes of a reading

module _ (src : Table) (r : Lists) (house : Style) (columns : List ℕ) (is : ColumnsTo src.text (all_entries src.text r.events) columns (length (all_entries src.text r.events)))
    (trees : List DocumentTree) (t : TreesOf r trees) where
  abbrev C : ℕ → Option ℕ
  C = column_at src.text r.events columns

  abbrev M : ℕ → Bool
  M = unmarked_at src.text r.events

  col_found : (y : NumberedNode) → IsNodeOf trees y → (column : ℕ) → C y.0 ≡ Some column → (start : ℕ) × (entries_from src.text (drop y.0 r.events) ≡ Some start) × EntriesAt src y.1 column start
  col_found y n column e = column_found src r columns is y.0 y.1 (node_there t n) column e

  found_col : {y : NumberedNode} {column start : ℕ} → IsNodeOf trees y → EntriesAt src y.1 column start → (C y.0 ≡ Some column) × (entries_from src.text (drop y.0 r.events) ≡ Some start)
  found_col {y} n e = found_column src r columns is y.0 y.1 (node_there t n) e

  key_found : {k : NumberedNode} → IsNodeOf trees k → M k.0 ≡ true → WithoutMark src k.1
  key_found {k} n e = unmarked_key src k.1 (sym (unmarked_found src r columns is k.0 k.1 (node_there t n)) ∙ e)

  found_key : {k : NumberedNode} → IsNodeOf trees k → WithoutMark src k.1 → M k.0 ≡ true
  found_key {k} n w = unmarked_found src r columns is k.0 k.1 (node_there t n) ∙ key_unmarked w

  -- the wanted column
  by_column : {x y : NumberedNode} (n : IsNodeOf trees x) (h : IsChildOf x y) (flag : Bool) (wanted : ℕ) → (ImplicitValue src x y → flag ≡ true)
      → (flag ≡ true → is_block_collection x.1 ≡ true → ImplicitValue src x y) → (o : Option ℕ) → C x.0 ≡ o → wanted_column house flag (held o) ≡ Some wanted
      → WantedColumn src house trees y wanted
  by_column n h flag wanted f g None e q = absurd (none_some q)
  by_column {x} {y} n h flag wanted f g (Some column) e q =
      let w = col_found x n column e in
      ⊎_elim
      (λ (b : (flag && not house.seq_indent) ≡ true).
      let p = and_parts flag (not house.seq_indent) b in
      subst (WantedColumn src house trees y) (same_Some _ _ (ap (λ b. Some (if b then column else column + house.indent)) (sym b) ∙ q))
      (at_key n (is_off house.seq_indent p.1) (g p.0 (entries_found w.2).is_block) w.2))
      (λ (b : (flag && not house.seq_indent) ≡ false).
      subst (WantedColumn src house trees y) (same_Some _ _ (ap (λ b. Some (if b then column else column + house.indent)) (sym b) ∙ q))
      (further n h w.2 (λ s i. true≢false (sym (both flag house.seq_indent (f i) s) ∙ b))))
      (cases_Bool (flag && not house.seq_indent))
    where
      is_off : (b : Bool) → not b ≡ true → b ≡ false
      is_off true e = absurd (not_true e)
      is_off false e = refl

      both : (b s : Bool) → b ≡ true → s ≡ false → (b && not s) ≡ true
      both b s e f = ap (λ b. b && not s) e ∙ ap not f

  no_flag : (b : Bool) → (b && false) ≡ true → ⊥
  no_flag true e = true≢false (sym e)
  no_flag false e = true≢false (sym e)

  column_wanted : {y : NumberedNode} {a : Around} {b : Bool} {column start : ℕ} (wanted : ℕ) → IsHeld C M trees y a b → EntriesAt src y.1 column start
      → wanted_column house (is_sequence y.1 && b) a ≡ Some wanted → WantedColumn src house trees y wanted
  column_wanted {y} wanted (by_nothing h) e q = subst (WantedColumn src house trees y) (same_Some _ _ q) (of_root h)
  column_wanted {y} wanted (by_sequence {x = x} n h) e q = by_column n (as_item h) (is_sequence y.1 && false) wanted
      (λ i. absurd (item_no_value x.1 x.0 i.key y h i.in_mapping)) (λ f b. absurd (no_flag (is_sequence y.1) f)) (C x.0) refl q
  column_wanted {y} wanted (as_its_key {x = x} {v = v} n h) e q = by_column n (as_key h) (is_sequence y.1 && false) wanted
      (λ i. absurd (key_no_value x.1 x.0 y i.key v h i.in_mapping)) (λ f b. absurd (no_flag (is_sequence y.1) f)) (C x.0) refl q
  column_wanted {y} wanted (as_its_value {x = x} {k = k} n h) e q = by_column n (as_value h) (is_sequence y.1 && M k.0) wanted
      (λ i. both (is_sequence y.1) (M k.0) i.is_sequence
      (found_key (is_inner n (as_key h)) (subst (λ (z : NumberedNode). WithoutMark src z.1) (sole_key x.1 x.0 i.key k y i.in_mapping h) i.without_mark)))
      (λ f b. let p = and_parts (is_sequence y.1) (M k.0) f in record {
        key = k;
        in_mapping = h;
        of_block = b;
        is_block = (entries_found e).is_block;
        is_sequence = p.0;
        without_mark = key_found (is_inner n (as_key h)) p.1;
      }) (C x.0) refl q
    where
      both : (b c : Bool) → b ≡ true → c ≡ true → (b && c) ≡ true
      both b c e f = ap (λ b. b && c) e ∙ f

  -- what holds a node with a wanted column
  record HeldBy (y : NumberedNode) (W : Around → Bool → Type 0) : Type 0 where
    around : Around
    beside : Bool
    is_held : IsHeld C M trees y around beside
    wants : W around beside

  inner_column : (x : NumberedNode) {column : ℕ} (flag : Bool) → C x.0 ≡ Some column → ((flag && not house.seq_indent) ≡ true → ⊥)
      → wanted_column house flag (held (C x.0)) ≡ Some (column + house.indent)
  inner_column x {column} flag e n = ap (λ o. wanted_column house flag (held o)) e ∙ ⊎_elim
      (λ (b : (flag && not house.seq_indent) ≡ true). absurd (n b))
      (λ (b : (flag && not house.seq_indent) ≡ false). ap (λ b. Some (if b then column else column + house.indent)) b)
      (cases_Bool (flag && not house.seq_indent))

  not_off : (b : Bool) → not b ≡ true → b ≡ false
  not_off true e = absurd (not_true e)
  not_off false e = refl

  wanted_there : {y : NumberedNode} {wanted : ℕ} → is_block_collection y.1 ≡ true → WantedColumn src house trees y wanted
      → HeldBy y (λ a b. wanted_column house (is_sequence y.1 && b) a ≡ Some wanted)
  wanted_there h (of_root c) = record { around = Nothing; beside = false; is_held = by_nothing c; wants = refl }
  wanted_there {y} h (further {x = x} n (as_item c) e f) = record {
    around = held (C x.0);
    beside = false;
    is_held = by_sequence n c;
    wants = inner_column x (is_sequence y.1 && false) (found_col n e).0 (λ b. no_flag (is_sequence y.1) (and_parts (is_sequence y.1 && false) (not house.seq_indent) b).0);
  }
  wanted_there {y} h (further {x = x} n (as_key c) e f) = record {
    around = held (C x.0);
    beside = false;
    is_held = as_its_key n c;
    wants = inner_column x (is_sequence y.1 && false) (found_col n e).0 (λ b. no_flag (is_sequence y.1) (and_parts (is_sequence y.1 && false) (not house.seq_indent) b).0);
  }
  wanted_there {y} h (further {x = x} n (as_value {k = k} c) e f) = record {
    around = held (C x.0);
    beside = M k.0;
    is_held = as_its_value n c;
    wants = inner_column x (is_sequence y.1 && M k.0) (found_col n e).0
        (λ b. let p = and_parts (is_sequence y.1 && M k.0) (not house.seq_indent) b in let q = and_parts (is_sequence y.1) (M k.0) p.0 in
        f (not_off house.seq_indent p.1) (record {
          key = k;
          in_mapping = c;
          of_block = (entries_found e).is_block;
          is_block = h;
          is_sequence = q.0;
          without_mark = key_found (is_inner n (as_key c)) q.1;
        }));
  }
  wanted_there {y} h (at_key {x = x} {column = column} n s i e) = record {
    around = held (C x.0);
    beside = M i.key.0;
    is_held = as_its_value n i.in_mapping;
    wants = ap (λ o. wanted_column house (is_sequence y.1 && M i.key.0) (held o)) (found_col n e).0
        ∙ ap (λ b. Some (if (b && M i.key.0) && not house.seq_indent then column else column + house.indent)) i.is_sequence
        ∙ ap (λ b. Some (if b && not house.seq_indent then column else column + house.indent)) (found_key (is_inner n (as_key i.in_mapping)) i.without_mark)
        ∙ ap (λ b. Some (if not b then column else column + house.indent)) s;
  }

  -- the wanted indentation
  by_indent : {x y : NumberedNode} (n : IsNodeOf trees x) (h : IsChildOf x y) (wanted : ℕ) (o : Option ℕ) → C x.0 ≡ o → wanted_indent house (held o) ≡ Some wanted → WantedIndent src house trees y wanted
  by_indent n h wanted None e q = absurd (none_some q)
  by_indent {x} {y} n h wanted (Some column) e q = subst (WantedIndent src house trees y) (same_Some _ _ q) (in_entry n h (col_found x n column e).2)

  indent_wanted : {y : NumberedNode} {a : Around} {b : Bool} (wanted : ℕ) → IsHeld C M trees y a b → wanted_indent house a ≡ Some wanted → WantedIndent src house trees y wanted
  indent_wanted {y} wanted (by_nothing h) q = subst (WantedIndent src house trees y) (same_Some _ _ q) (at_root h)
  indent_wanted wanted (by_sequence {x = x} n h) q = by_indent n (as_item h) wanted (C x.0) refl q
  indent_wanted wanted (as_its_key {x = x} n h) q = by_indent n (as_key h) wanted (C x.0) refl q
  indent_wanted wanted (as_its_value {x = x} n h) q = by_indent n (as_value h) wanted (C x.0) refl q

  indent_there : {y : NumberedNode} {wanted : ℕ} → WantedIndent src house trees y wanted → HeldBy y (λ a b. wanted_indent house a ≡ Some wanted)
  indent_there (at_root c) = record { around = Nothing; beside = false; is_held = by_nothing c; wants = refl }
  indent_there (in_entry {x = x} n (as_item c) e) = record { around = held (C x.0); beside = false; is_held = by_sequence n c; wants = ap (λ o. wanted_indent house (held o)) (found_col n e).0 }
  indent_there (in_entry {x = x} n (as_key c) e) = record { around = held (C x.0); beside = false; is_held = as_its_key n c; wants = ap (λ o. wanted_indent house (held o)) (found_col n e).0 }
  indent_there (in_entry {x = x} n (as_value {k = k} c) e) = record { around = held (C x.0); beside = M k.0; is_held = as_its_value n c; wants = ap (λ o. wanted_indent house (held o)) (found_col n e).0 }

  -- each finding is misplaced
  module _ (y : NumberedNode) (a : Around) (b : Bool) (h : IsHeld C M trees y a b) where
    entry_out : (flag : Bool) (o : ℕ) (c : Option ℕ) → is_sequence y.1 ≡ flag → C y.0 ≡ c
        → entry_fault (unwrap_or (entries_from src.text (drop y.0 r.events)) 0) c (wanted_column house (flag && b) a) ≡ Some o → IndentFault src house trees y.0 o
    entry_out flag o None s e q = absurd (none_some q)
    entry_out flag o (Some column) s e q =
        let w = col_found y (held_is_at h) column e in
        by w.0 w.1 w.2 (is_other column (wanted_column house (flag && b) a)) refl q
      where
        by : (start : ℕ) → entries_from src.text (drop y.0 r.events) ≡ Some start → EntriesAt src y.1 column start → (v : Bool) → is_other column (wanted_column house (flag && b) a) ≡ v
            → (if v then Some (unwrap_or (entries_from src.text (drop y.0 r.events)) 0) else None) ≡ Some o → IndentFault src house trees y.0 o
        by start e i false v q = absurd (none_some q)
        by start e i true v q =
            let z = other_wanted column (wanted_column house (flag && b) a) v in
            subst (IndentFault src house trees y.0) (ap (λ x. unwrap_or x 0) (sym e) ∙ same_Some _ _ q)
            (entries (held_is_at h) refl i (column_wanted z.0 h i (ap (λ f. wanted_column house (f && b) a) s ∙ z.1)) z.2)

    content_out : {k : ℕ × ℕ} → ContentAt src r y.0 k → is_other k.1 (wanted_indent house a) ≡ true → IndentFault src house trees y.0 k.0
    content_out (content_at {props} {style} {text} {s} follows first indent i f g c) v =
        let n = node_there t (held_is_at h) in
        let z = other_wanted indent (wanted_indent house a) v in
        let e : event_of y.1 ≡ scalar_node props style text = same_Some _ _ (sym (event_there n) ∙ i.event) in
        let w = its_scalar y.1 props style text e in
        content {follows = follows} {first = first} (held_is_at h) refl w.1 (same_Some _ _ (sym (span_there n) ∙ i.part)) f g c (indent_wanted z.0 h z.1) z.2
      where
        its_scalar : (x : Node) (p : PropsValue) (v : ScalarStyle) (u : List ℕ) → event_of x ≡ scalar_node p v u → (lines : List (List ℕ)) × (x ≡ scalar (standing x) p v u lines)
        its_scalar (scalar at props style text lines) p v u e = (lines, same props p style v text u e) where
          same : (p q : PropsValue) (v w : ScalarStyle) (x y : List ℕ) → scalar_node p v x ≡ scalar_node q w y → scalar at p v x lines ≡ scalar at q w y lines
          same p q v w x y e = cc
        its_scalar (alias at name) p v u e = absurd cc
        its_scalar (sequence at flow props items) p v u e = absurd cc
        its_scalar (mapping at flow props pairs) p v u e = absurd cc

    fault_out : (x : Node) (o : ℕ) (k : Option (ℕ × ℕ)) → y.1 ≡ x → IsTheOne (ContentAt src r y.0) k
        → fault_of house (event_of x) (standing_at src.text r columns (stood y.0 a b)) k ≡ Some o → IndentFault src house trees y.0 o
    fault_out (scalar at props style text lines) o None e n q = absurd (none_some q)
    fault_out (scalar at props style text lines) o (Some k) e n q = by (is_other k.1 (wanted_indent house a)) refl q where
      by : (v : Bool) → is_other k.1 (wanted_indent house a) ≡ v → (if v then Some k.0 else None) ≡ Some o → IndentFault src house trees y.0 o
      by false v q = absurd (none_some q)
      by true v q = subst (IndentFault src house trees y.0) (same_Some _ _ q) (content_out n.holds v)
    fault_out (alias at name) o k e n q = absurd (none_some q)
    fault_out (sequence at flow props items) o k e n q = entry_out true o (C y.0) (ap is_sequence e) refl q
    fault_out (mapping at flow props pairs) o k e n q = entry_out false o (C y.0) (ap is_sequence e) refl q

    at_out : {o : ℕ} → AtFault src r house columns (stood y.0 a b) o → IndentFault src house trees y.0 o
    at_out {o} (at_fault k q n f) = fault_out y.1 o k refl n
        (ap (λ e. fault_of house e (standing_at src.text r columns (stood y.0 a b)) k) (same_Some _ _ (sym (event_there (node_there t (held_is_at h))) ∙ q)) ∙ f)

  told_out : (s : Stood) (o : ℕ) → Contains (stood_in_documents C M 1 trees) s → AtFault src r house columns s o → (k : ℕ) × IndentFault src house trees k o
  told_out s o c f =
      let w = all_told C M trees s c in
      (w.node.0, at_out w.node s.around s.beside w.is (subst (λ i. AtFault src r house columns (stood i s.around s.beside) o) (sym w.at) f))

  -- each misplaced node is found
  no_content : (x : Node) (p : PropsValue) (v : ScalarStyle) (u : List ℕ) → is_block_collection x ≡ true → event_of x ≡ scalar_node p v u → ⊥
  no_content (scalar at props style text lines) p v u h e = true≢false (sym h)
  no_content (alias at name) p v u h e = true≢false (sym h)
  no_content (sequence at flow props items) p v u h e = absurd cc
  no_content (mapping at flow props pairs) p v u h e = absurd cc

  of_collection : (x : Node) (s : NodeContext) → is_block_collection x ≡ true
      → fault_of house (event_of x) s None ≡ entry_fault s.first s.column (wanted_column house (is_sequence x && s.is_implicit_value) s.outer)
  of_collection (scalar at props style text lines) s h = absurd (true≢false (sym h))
  of_collection (alias at name) s h = absurd (true≢false (sym h))
  of_collection (sequence at flow props items) s h = refl
  of_collection (mapping at flow props pairs) s h = refl

  out_told : (i o : ℕ) → IndentFault src house trees i o → (s : Stood) × Contains (stood_in_documents C M 1 trees) s × AtFault src r house columns s o
  out_told i o (entries {y} {column} {wanted} n e f w d) =
      let b = (entries_found f).is_block in
      let h = wanted_there b w in
      let s = stood y.0 h.around h.beside in
      let c = found_col n f in
      let v = event_there (node_there t n) in (
        s,
        held_told C M trees h.is_held,
        at_fault None v (no_scalar src r y.0 (event_of y.1) v (λ p q u g. no_content y.1 p q u b g))
            (of_collection y.1 (standing_at src.text r columns s) b
            ∙ ap (λ x. entry_fault (unwrap_or x 0) (C y.0) (wanted_column house (is_sequence y.1 && h.beside) h.around)) c.1
            ∙ ap (λ x. entry_fault o x (wanted_column house (is_sequence y.1 && h.beside) h.around)) c.0
            ∙ ap (λ x. entry_fault o (Some column) x) h.wants ∙ ap (λ b. if b then Some o else None) (other column wanted d)),
      )
  out_told i o (content {y} {props} {style} {text} {s = part} {follows} {first} {indent} {wanted} n e z p f g c w d) =
      let h = indent_there w in
      let s = stood y.0 h.around h.beside in
      let v : slice_get (events_of r) y.0 ≡ Some (scalar_node props style text) = event_there (node_there t n) ∙ ap (λ x. Some (event_of x)) z in
      let k = content_at follows first indent (record { event = v; part = span_there (node_there t n) ∙ ap (λ x. Some x) p }) f g c in (
        s,
        held_told C M trees h.is_held,
        at_fault (Some (content_start src.text part props, indent)) v (record { holds = k; only = λ x q. content_sole q k })
            (ap (λ x. content_fault (Some (content_start src.text part props, indent)) x) h.wants ∙ ap (λ b. if b then Some (content_start src.text part props) else None) (other indent wanted d)),
      )

  pub exactly_misindented : (os : List ℕ) → FoundBy (AtFault src r house columns) (stood_in_documents C M 1 trees) os → Exactly (IndentFault src house trees) os
  exactly_misindented os f = record {
    only = λ o c. let w = f.only o c in told_out w.0 o w.1 w.2;
    all = λ k o m. let w = out_told k o m in f.all w.0 o w.1 w.2;
  }

-- the findings of the whole pass
pub pass_done : (src : Table) (r : Lists) (house : Style) (columns : List ℕ) (begun i : ℕ) (st : List ContextFrame) (os : List ℕ) → length r.events ≤ i
    → IndentPassAt src r house columns begun i st os → (trees : List DocumentTree) → TreesOf r trees → Exactly (IndentFault src house trees) os
pass_done src r house columns begun i st os l m trees t =
    exactly_misindented src r house columns m.pass.columns_are trees t os
    (subst (λ ns. FoundBy (AtFault src r house columns) ns os)
    (all_reached src r house columns begun i st os l m
    ∙ ap (run (column_at src.text r.events columns) (unmarked_at src.text r.events) 0 []) t.events
    ∙ run_stream trees (column_at src.text r.events columns) (unmarked_at src.text r.events)) m.found)
