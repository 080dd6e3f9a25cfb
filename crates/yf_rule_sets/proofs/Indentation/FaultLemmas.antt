-- Laws of the findings of the rule indentation, event by event.
use Rattle.std.proofs.Common.{◌≡◌, ℕ, ◌+◌, ◌≤◌, false, List, [], ◌∷◌, ◌++◌, Option, Some, None, append_assoc, drop, get_or, length, reverse, unwrap_or, refl, sym, subst, ap, ◌∙◌, ⊎_elim, arith, true≢false, add-one}
use Rattle.std.specs.List.{Contains}
use Rattle.std.specs.Option.{option_to_list}
use Rattle.std.specs.Prelude.{slice_get}
use Rattle.std.proofs.lemmas.List.{append-nil, drop_all}
use Rattle.std.proofs.lemmas.List.Elements.{Contains-append_left, Contains-push, Contains-push_cases}
use Rattle.std.proofs.lemmas.Option.{get_or_from_slice_get, same_Some, slice_get_within}
use Rattle.std.proofs.Math.Seq.{drop-cons}
use Rattle.yf_forms.specs.Nodes.ContentStart.{content_start}
use Rattle.yf_forms.specs.declared.style.Style.{Style}
use Rattle.yf_events.specs.Event.{EventValue, EventInText, stream_starts, stream_ends, document_starts, document_ends, sequence_starts, sequence_ends, mapping_starts, mapping_ends, scalar_node, alias_node}
use Rattle.yf_events.specs.Reading.{events_of}
use Rattle.yf_events.specs.declared.event.ScalarStyle.{ScalarStyle}
use Rattle.yf_events.specs.declared.event.Span.{Span}
use Rattle.yf_events.specs.declared.lists.Lists.{Lists}
use Rattle.yf_lines.specs.Lines.{LinesBegunAt, Table}
use Rattle.yf_props.specs.Props.{PropsValue}
use Rattle.yf_rule_sets.specs.Passes.Entries.{column_at, entries_from, unmarked_at}
use Rattle.yf_rule_sets.specs.RuleSets.Exact.{IsTheOne}
use Rattle.yf_rule_sets.specs.Passes.IndentFaults.{AtFault, ContentAt, FoundBy, IndentPassAt, at_fault, content_at, fault_of, if_content, standing_at}
use Rattle.yf_rule_sets.specs.Passes.ContextPass.{IsPass, Passes, stand_of}
use Rattle.yf_rule_sets.specs.Passes.ScalarLines.{IsContent}
use Rattle.yf_rule_sets.specs.Passes.ScalarLines.IsContent.{no_block, no_line, of_line}
use Rattle.yf_rule_sets.specs.RuleSets.Scalars.{BlockContent, IsScalar, is_block_style}
use Rattle.yf_rule_sets.specs.Passes.NodeContexts.{Stood, begun, beside, next, outer, run, stood}
use Rattle.yf_rule_sets.specs.declared.facts.scalars.ContentStart.{ContentStart}
use Rattle.yf_rule_sets.specs.declared.facts.node_context.ContextFrame.{ContextFrame}
use Rattle.yf_rule_sets.specs.declared.facts.node_context.Pass.{Pass}
use Rattle.yf_rule_sets.specs.declared.facts.node_context.NodeContext.{NodeContext}
use Rattle.yf_rule_sets.proofs.Texts.BlockLemmas.{content_same, same_after, scalar_same}
use Rattle.yf_rule_sets.proofs.RuleSets.KeySetLemmas.{nothing_in}
use Rattle.yf_chars.proofs.Tests.{none_some}

-- the content of one scalar

pub content_sole : {src : Table} {r : Lists} {i : ℕ} {x y : ℕ × ℕ} → ContentAt src r i x → ContentAt src r i y → x ≡ y
content_sole {src} (content_at {props} {style} {text} {s} b f n h y g c) (content_at {props = p} {style = v} {text = x} {s = z} b' f' n' h' y' g' c') =
    let q = scalar_same h' h in
    let o : content_start src.text z p ≡ content_start src.text s props = ap (λ w. content_start src.text w p) q.span ∙ ap (content_start src.text s) q.props in
    let k = subst (λ w. BlockContent src.lines w b' f' n') q.text c' in
    let e : b ≡ b' = same_after src.lines (content_start src.text s props) b b' f' c'.line g (subst (λ w. LinesBegunAt src.lines w b') o g') c'.at (let a = c'.empty in omega (arith, a)) in
    let w = content_same src.lines text b' f n f' n' (subst (λ m. BlockContent src.lines text m f n) e c) k in
    ap (λ m. (content_start src.text s props, m)) w.1 ∙ ap (λ m. (m, n')) (sym o)

module _ (src : Table) (r : Lists) (i : ℕ) where
  pub no_scalar : (e : EventValue) → slice_get (events_of r) i ≡ Some e
      → ((props : PropsValue) (style : ScalarStyle) (text : List ℕ) → e ≡ scalar_node props style text → ⊥) → (x : ℕ × ℕ) → ContentAt src r i x → ⊥
  no_scalar e q n x (content_at {props} {style} {text} b f m h y g c) = n props style text (same_Some _ _ (sym q ∙ h.event))

  module _ (props : PropsValue) (style : ScalarStyle) (text : List ℕ) (s : Span) (is : IsScalar r i props style text s) where
    pub no_block_scalar : is_block_style style ≡ false → (x : ℕ × ℕ) → ContentAt src r i x → ⊥
    no_block_scalar e x (content_at b f m h y g c) = true≢false (sym y ∙ ap is_block_style (scalar_same h is).style ∙ e)

    module _ (follows : ℕ) (b : LinesBegunAt src.lines (content_start src.text s props) follows) where
      pub no_content_line : ((first indent : ℕ) → BlockContent src.lines text follows first indent → ⊥) → (x : ℕ × ℕ) → ContentAt src r i x → ⊥
      no_content_line f x (content_at {props = p} {s = z} b' f' n' h' y' g' c') =
          let q = scalar_same h' is in
          let o : content_start src.text z p ≡ content_start src.text s props = ap (λ w. content_start src.text w p) q.span ∙ ap (content_start src.text s) q.props in
          let k = subst (λ w. BlockContent src.lines w b' f' n') q.text c' in
          let e : follows ≡ b' = same_after src.lines (content_start src.text s props) follows b' f' c'.line b (subst (λ w. LinesBegunAt src.lines w b') o g') c'.at (let a = c'.empty in omega (arith, a)) in
          f f' n' (subst (λ m. BlockContent src.lines text m f' n') (sym e) k)

      pub content_answers : (start : ℕ) (content : Option ContentStart) → start ≡ content_start src.text s props → IsContent src.lines style text follows content
          → IsTheOne (ContentAt src r i) (if_content start content)
      content_answers start None e (no_block h) = no_block_scalar h
      content_answers start None e (no_line h) = no_content_line h
      content_answers start (Some x) e (of_line h c) =
          subst (λ m. IsTheOne (ContentAt src r i) (Some (m, x.indent))) (sym e) (let k = content_at follows x.first x.indent is h b c in record { holds = k; only = λ y w. content_sole w k })

-- results

answers_same : {A : Type 0} (P : A → Type 0) (a b : Option A) → IsTheOne P a → IsTheOne P b → a ≡ b
answers_same P None None h k = refl
answers_same P None (Some y) h k = absurd (h y k.holds)
answers_same P (Some x) None h k = absurd (k x h.holds)
answers_same P (Some x) (Some y) h k = ap (λ z. Some z) (k.only x h.holds)

module _ (src : Table) (r : Lists) (house : Style) (columns : List ℕ) (s : Stood) (e : EventValue) (q : slice_get (events_of r) s.at ≡ Some e) where
  its_fault : {o : ℕ} (content : Option (ℕ × ℕ)) → IsTheOne (ContentAt src r s.at) content → AtFault src r house columns s o
      → fault_of house e (standing_at src.text r columns s) content ≡ Some o
  its_fault content a (at_fault {e = d} c p b f) =
      ap (λ v. fault_of house v (standing_at src.text r columns s) content) (same_Some _ _ (sym q ∙ p))
      ∙ ap (λ v. fault_of house d (standing_at src.text r columns s) v) (answers_same (ContentAt src r s.at) content c a b) ∙ f

  pub fault_answers : (content : Option (ℕ × ℕ)) (answer : Option ℕ) → IsTheOne (ContentAt src r s.at) content
      → answer ≡ fault_of house e (standing_at src.text r columns s) content → IsTheOne (AtFault src r house columns s) answer
  fault_answers content None a f = λ o h. none_some (f ∙ its_fault content a h)
  fault_answers content (Some o) a f = record { holds = at_fault content q a (sym f); only = λ p h. same_Some _ _ (sym (its_fault content a h) ∙ sym f) }

-- one more node, and none

module _ (P : Stood → ℕ → Type 0) (nodes : List Stood) (os new : List ℕ) (f : FoundBy P nodes os) where
  pub node_found : (s : Stood) (answer : Option ℕ) → IsTheOne (P s) answer → new ≡ os ++ option_to_list answer → FoundBy P (nodes ++ s ∷ []) new
  node_found s None a e = subst (FoundBy P (nodes ++ s ∷ [])) (sym (e ∙ append-nil os)) (record {
    only = λ o c. let w = f.only o c in (w.0, Contains-append_left nodes (s ∷ []) w.0 w.1, w.2);
    all = λ x o c p. ⊎_elim (λ (h : Contains nodes x). f.all x o h p) (λ (h : s ≡ x). absurd (a o (subst (λ y. P y o) (sym h) p))) (Contains-push_cases nodes s x c);
  })
  node_found s (Some y) a e = subst (FoundBy P (nodes ++ s ∷ [])) (sym e) (record {
    only = λ o c. ⊎_elim (λ (h : Contains os o). let w = f.only o h in (w.0, Contains-append_left nodes (s ∷ []) w.0 w.1, w.2))
        (λ (h : y ≡ o). (s, Contains-push nodes s, subst (P s) h a.holds))
        (Contains-push_cases os y o c);
    all = λ x o c p. ⊎_elim (λ (h : Contains nodes x). Contains-append_left os (y ∷ []) o (f.all x o h p))
        (λ (h : s ≡ x). subst (Contains (os ++ y ∷ [])) (sym (a.only o (subst (λ z. P z o) (sym h) p))) (Contains-push os y))
        (Contains-push_cases nodes s x c);
  })

  pub no_node : (answer : Option ℕ) → answer ≡ None → new ≡ os ++ option_to_list answer → FoundBy P (nodes ++ []) new
  no_node answer n e = subst (λ w. FoundBy P w new) (sym (append-nil nodes)) (subst (FoundBy P nodes) (sym (e ∙ ap (λ a. os ++ option_to_list a) n ∙ append-nil os)) f)

pub none_found_yet : (P : Stood → ℕ → Type 0) (os : List ℕ) → os ≡ [] → FoundBy P [] os
none_found_yet P os e = record { only = λ o c. absurd (nothing_in o (subst (λ w. Contains w o) e c)); all = λ s o c p. absurd (nothing_in s c) }

-- the faults of one event
module _ (src : Table) (r : Lists) (house : Style) (columns : List ℕ) (i : ℕ) (st : List ContextFrame) (content : Option (ℕ × ℕ)) (a : IsTheOne (ContentAt src r i) content)
    (nodes : List Stood) (os new : List ℕ) (f : FoundBy (AtFault src r house columns) nodes os) (answer : Option ℕ) (n : new ≡ os ++ option_to_list answer) where
  pub event_found : (e : EventValue) → slice_get (events_of r) i ≡ Some e
      → answer ≡ fault_of house e (stand_of e st (column_at src.text r.events columns i) (unwrap_or (entries_from src.text (drop i r.events)) 0)) content
      → FoundBy (AtFault src r house columns) (nodes ++ begun e i st) new
  event_found stream_starts q h = no_node (AtFault src r house columns) nodes os new f answer h n
  event_found stream_ends q h = no_node (AtFault src r house columns) nodes os new f answer h n
  event_found (document_starts marked) q h = no_node (AtFault src r house columns) nodes os new f answer h n
  event_found (document_ends closed) q h = no_node (AtFault src r house columns) nodes os new f answer h n
  event_found (sequence_starts flow props) q h = node_found (AtFault src r house columns) nodes os new f (stood i (outer st) (beside st)) answer
      (fault_answers src r house columns (stood i (outer st) (beside st)) (sequence_starts flow props) q content answer a h) n
  event_found sequence_ends q h = no_node (AtFault src r house columns) nodes os new f answer h n
  event_found (mapping_starts flow props) q h = node_found (AtFault src r house columns) nodes os new f (stood i (outer st) (beside st)) answer
      (fault_answers src r house columns (stood i (outer st) (beside st)) (mapping_starts flow props) q content answer a h) n
  event_found mapping_ends q h = no_node (AtFault src r house columns) nodes os new f answer h n
  event_found (scalar_node props style text) q h = node_found (AtFault src r house columns) nodes os new f (stood i (outer st) (beside st)) answer
      (fault_answers src r house columns (stood i (outer st) (beside st)) (scalar_node props style text) q content answer a h) n
  event_found (alias_node name) q h = node_found (AtFault src r house columns) nodes os new f (stood i (outer st) (beside st)) answer
      (fault_answers src r house columns (stood i (outer st) (beside st)) (alias_node name) q content answer a h) n

-- one more event

pub first_reached : (src : Table) (r : Lists) (house : Style) (columns : List ℕ) (begun : ℕ) (st : List ContextFrame) (os : List ℕ) → IsPass src.text r.events columns begun 0 → st ≡ [] → os ≡ []
    → IndentPassAt src r house columns begun 0 st os
first_reached src r house columns begun st os p e q = record {
  nodes = [];
  pass = p;
  left = ap (λ st. run (column_at src.text r.events columns) (unmarked_at src.text r.events) 0 st r.events) e;
  found = none_found_yet (AtFault src r house columns) os q;
}

pub one_reached : (src : Table) (r : Lists) (house : Style) (i : ℕ) (old after : Pass) (stand : NodeContext) (os new : List ℕ) (content : Option (ℕ × ℕ)) (answer : Option ℕ) (x : EventInText)
    → slice_get r.events i ≡ Some x → slice_get (events_of r) i ≡ Some x.event
    → IndentPassAt src r house old.columns.items old.begun i (reverse old.stack.items) os → Passes src.text r.events i x.event old after stand
    → IsTheOne (ContentAt src r i) content → answer ≡ fault_of house x.event stand content → new ≡ os ++ option_to_list answer
    → IndentPassAt src r house after.columns.items after.begun (i + 1) (reverse after.stack.items) new
one_reached src r house i old after stand os new content answer x at q m p a f n =
    let es = r.events in
    let cs = old.columns.items in
    let g = p m.pass in
    let c = column_at src.text es cs in
    let u = unmarked_at src.text es in
    let st = reverse old.stack.items in
    let d : drop i es ≡ x ∷ drop (i + 1) es =
    subst (λ k. drop i es ≡ get_or es i x ∷ drop k es) (sym (add-one i)) (drop-cons es i x (slice_get_within es i x at)) ∙ ap (λ m. m ∷ drop (i + 1) es) (get_or_from_slice_get es i x x at) in
    let rest = run c u (i + 1) (next x.event (c i) (u i) st) (drop (i + 1) es) in
    let left : (m.nodes ++ begun x.event i st) ++ rest ≡ run c u 0 [] es =
    append_assoc m.nodes (begun x.event i st) rest ∙ ap (λ w. m.nodes ++ run c u i st w) (sym d) ∙ m.left in
    let found = event_found src r house cs i st content a m.nodes os new m.found answer n x.event q (f ∙ ap (λ s. fault_of house x.event s content) g.tells) in
    subst (λ cs. IndentPassAt src r house cs after.begun (i + 1) (reverse after.stack.items) new) (sym g.kept)
    (subst (λ st. IndentPassAt src r house cs after.begun (i + 1) st new) (sym g.stack) (record {
      nodes = m.nodes ++ begun x.event i st;
      pass = subst (λ cs. IsPass src.text es cs after.begun (i + 1)) g.kept g.later;
      left = left;
      found = found;
    }))

-- after the last event
pub all_reached : (src : Table) (r : Lists) (house : Style) (columns : List ℕ) (begun i : ℕ) (st : List ContextFrame) (os : List ℕ) → length r.events ≤ i
    → (m : IndentPassAt src r house columns begun i st os) → m.nodes ≡ run (column_at src.text r.events columns) (unmarked_at src.text r.events) 0 [] r.events
all_reached src r house columns begun i st os l m =
    sym (append-nil m.nodes) ∙ ap (λ w. m.nodes ++ run (column_at src.text r.events columns) (unmarked_at src.text r.events) i st w) (sym (drop_all i r.events l)) ∙ m.left
