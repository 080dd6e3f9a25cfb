-- Laws of the pass over the events that gives the details of the rule indentation.
use Rattle.std.proofs.Common.{◌≡◌, ℕ, ◌+◌, ◌≤◌, List, [], ◌∷◌, ◌++◌, Option, Some, None, append_assoc, drop, get_or, length, reverse, unwrap_or, refl, sym, subst, ap, ◌∙◌, ⊎_elim, arith, add-one}
use Rattle.std.specs.List.{Contains}
use Rattle.std.specs.Option.{option_to_list}
use Rattle.std.specs.Prelude.{slice_get}
use Rattle.std.specs.Str.{IsCharBoundary}
use Rattle.std.proofs.lemmas.List.{append-nil, drop_all}
use Rattle.std.proofs.lemmas.List.Elements.{Contains-append_left, Contains-push, Contains-push_cases}
use Rattle.std.proofs.lemmas.Option.{get_or_from_slice_get, same_Some, slice_get_within}
use Rattle.std.proofs.Math.Seq.{drop-cons}
use Rattle.yf_chars.proofs.Tests.{none_some}
use Rattle.yf_events.specs.Event.{EventValue, EventInText, stream_starts, stream_ends, document_starts, document_ends, sequence_starts, sequence_ends, mapping_starts, mapping_ends, scalar_node, alias_node}
use Rattle.yf_events.specs.Reading.{events_of}
use Rattle.yf_events.specs.declared.lists.Lists.{Lists}
use Rattle.yf_forms.specs.declared.style.Style.{Style}
use Rattle.yf_lines.specs.Lines.{Table}
use Rattle.yf_ranges.specs.Details.{EndsBy, IsInside}
use Rattle.yf_ranges.specs.IndentPass.{IndentedAt, ToldTo}
use Rattle.yf_ranges.specs.IndentPass.IndentedAt.{no_fault, unplaced, placed}
use Rattle.yf_ranges.specs.Indents.{HasMisindent, IndentDetail, IndentDetails, IsMisindented, misindent_of, nodes_of}
use Rattle.yf_ranges.specs.Indents.HasMisindent.{has_misindent}
use Rattle.yf_ranges.specs.NodeDetails.{NodeDetails}
use Rattle.yf_ranges.specs.Spans.{CharacterSpan}
use Rattle.yf_ranges.specs.declared.detail.Detail.{Detail}
use Rattle.yf_ranges.specs.declared.detail.Message.TheVariants as Says
use Rattle.yf_ranges.specs.declared.indentation.Misindent.{Misindent}
use Rattle.yf_rule_sets.specs.Passes.ContextPass.{IsPass, Passes, stand_of}
use Rattle.yf_rule_sets.specs.Passes.Entries.{column_at, entries_from, unmarked_at}
use Rattle.yf_rule_sets.specs.Passes.IndentFaults.{ContentAt, standing_at}
use Rattle.yf_rule_sets.specs.Passes.NodeContexts.{Stood, begun, beside, next, outer, run, stood}
use Rattle.yf_rule_sets.specs.RuleSets.Exact.{IsTheOne}
use Rattle.yf_rule_sets.specs.declared.facts.node_context.ContextFrame.{ContextFrame}
use Rattle.yf_rule_sets.specs.declared.facts.node_context.NodeContext.{NodeContext}
use Rattle.yf_rule_sets.specs.declared.facts.node_context.Pass.{Pass}

one_answer : {A : Type 0} (P : A → Type 0) (a b : Option A) → IsTheOne P a → IsTheOne P b → a ≡ b
one_answer P None None h k = refl
one_answer P None (Some y) h k = absurd (h y k.holds)
one_answer P (Some x) None h k = absurd (k x h.holds)
one_answer P (Some x) (Some y) h k = ap (λ z. Some z) (k.only x h.holds)

-- the fault of one node
module _ (src : Table) (r : Lists) (house : Style) (columns : List ℕ) (s : Stood) (e : EventValue) (q : slice_get (events_of r) s.at ≡ Some e) where
  its_fault : {m : Misindent} (content : Option (ℕ × ℕ)) → IsTheOne (ContentAt src r s.at) content → HasMisindent src r house columns s m
      → misindent_of house e (standing_at src.text r columns s) content ≡ Some m
  its_fault content a (has_misindent {e = d} c p b f) =
      ap (λ v. misindent_of house v (standing_at src.text r columns s) content) (same_Some _ _ (sym q ∙ p))
      ∙ ap (λ v. misindent_of house d (standing_at src.text r columns s) v) (one_answer (ContentAt src r s.at) content c a b) ∙ f

  fault_told : (content : Option (ℕ × ℕ)) (fault : Option Misindent) → IsTheOne (ContentAt src r s.at) content
      → fault ≡ misindent_of house e (standing_at src.text r columns s) content → IsTheOne (HasMisindent src r house columns s) fault
  fault_told content None a f = λ m h. none_some (f ∙ its_fault content a h)
  fault_told content (Some m) a f =
      record { holds = has_misindent content q a (sym f); only = λ p h. same_Some _ _ (sym (its_fault content a h) ∙ sym f) }

-- one more node, and none
module _ (src : Table) (r : Lists) (house : Style) (columns : List ℕ) (nodes : List Stood) (ds es : List Detail)
    (g : NodeDetails (IsMisindented src r house columns nodes) (IndentDetail src.text) src.text ds) where
  abbrev More : Stood → Stood × Misindent → ℕ → Type 0
  More s = IsMisindented src r house columns (nodes ++ s ∷ [])

  -- a fault at an offset of one of the nodes before, or of the last one
  by_node : {R : Type 0} (s : Stood) (x : Stood × Misindent) (o : ℕ) → More s x o
      → (IsMisindented src r house columns nodes x o → R) → (HasMisindent src r house columns s x.1 → R) → R
  by_node {R} s x o p f k = ⊎_elim
      (λ (h : Contains nodes x.0). f (record { among = h; fault = p.fault; at = p.at }))
      (λ (h : s ≡ x.0). k (subst (λ y. HasMisindent src r house columns y x.1) (sym h) p.fault))
      (Contains-push_cases nodes s x.0 p.among)

  more : (s : Stood) (x : Stood × Misindent) (o : ℕ) → IsMisindented src r house columns nodes x o → More s x o
  more s x o p = record { among = Contains-append_left nodes (s ∷ []) x.0 p.among; fault = p.fault; at = p.at }

  as_before : (s : Stood) → ((x : Stood × Misindent) (o : ℕ) → IsCharBoundary src.text o → x.1.offset ≡ o → HasMisindent src r house columns s x.1 → ⊥)
      → NodeDetails (More s) (IndentDetail src.text) src.text ds
  as_before s n = record {
    only = λ d c. let w = g.only d c in (w.0, more s w.0 d.span.start w.1, w.2, w.3);
    all = λ x o p b. by_node s x o p (λ h. g.all x o h b) (λ h. absurd (n x o b p.at h));
  }

  one_more : (s : Stood) (m : Misindent) (d : Detail) → HasMisindent src r house columns s m → ((n : Misindent) → HasMisindent src r house columns s n → n ≡ m)
      → d.span.start ≡ m.offset → EndsBy (CharacterSpan src.text) (Says.Indented m.found m.expected) d → IsInside src.text d
      → NodeDetails (More s) (IndentDetail src.text) src.text (ds ++ d ∷ [])
  one_more s m d holds sole start exact inside = record {
    only = λ f c. ⊎_elim
        (λ (h : Contains ds f). let w = g.only f h in (w.0, more s w.0 f.span.start w.1, w.2, w.3))
        (λ (h : d ≡ f). subst (λ (z : Detail). (x : Stood × Misindent) × More s x z.span.start × IndentDetail src.text x z × IsInside src.text z) h
        ((s, m), record { among = Contains-push nodes s; fault = holds; at = sym start }, exact, inside))
        (Contains-push_cases ds d f c);
    all = λ x o p b. by_node s x o p
        (λ h. let w = g.all x o h b in (w.0, Contains-append_left ds (d ∷ []) w.0 w.1, w.2, w.3))
        (λ h. let q = sole x.1 h in (
          d,
          Contains-push ds d,
          start ∙ ap (λ (z : Misindent). z.offset) (sym q) ∙ p.at,
          subst (λ (z : Misindent). EndsBy (CharacterSpan src.text) (Says.Indented z.found z.expected) d) (sym q) exact,
        ));
  }

  node_told : (s : Stood) (fault : Option Misindent) (result : Option Detail) → IsTheOne (HasMisindent src r house columns s) fault
      → IndentedAt src.text fault result → es ≡ ds ++ option_to_list result → NodeDetails (More s) (IndentDetail src.text) src.text es
  node_told s None None a no_fault e =
      subst (NodeDetails (More s) (IndentDetail src.text) src.text) (sym (e ∙ append-nil ds)) (as_before s (λ x o b q h. a x.1 h))
  node_told s None (Some d) a x e = elim x [ ]
  node_told s (Some m) None a (unplaced n) e =
      subst (NodeDetails (More s) (IndentDetail src.text) src.text) (sym (e ∙ append-nil ds))
      (as_before s (λ x o b q h. n (subst (IsCharBoundary src.text) (sym q ∙ ap (λ (z : Misindent). z.offset) (a.only x.1 h)) b)))
  node_told s (Some m) (Some d) a (placed start exact inside) e =
      subst (NodeDetails (More s) (IndentDetail src.text) src.text) (sym e) (one_more s m d a.holds a.only start exact inside)

  no_detail : (result : Option Detail) → IndentedAt src.text None result → result ≡ None
  no_detail None no_fault = refl
  no_detail (Some d) x = elim x [ ]

  no_told : (fault : Option Misindent) (result : Option Detail) → fault ≡ None → IndentedAt src.text fault result → es ≡ ds ++ option_to_list result
      → NodeDetails (IsMisindented src r house columns (nodes ++ [])) (IndentDetail src.text) src.text es
  no_told fault result n a e =
      let none : result ≡ None = no_detail result (subst (λ f. IndentedAt src.text f result) n a) in
      subst (λ ns. NodeDetails (IsMisindented src r house columns ns) (IndentDetail src.text) src.text es) (sym (append-nil nodes))
      (subst (NodeDetails (IsMisindented src r house columns nodes) (IndentDetail src.text) src.text) (sym (e ∙ ap (λ z. ds ++ option_to_list z) none ∙ append-nil ds)) g)

-- one event
module _ (src : Table) (r : Lists) (house : Style) (columns : List ℕ) (i : ℕ) (st : List ContextFrame) (content : Option (ℕ × ℕ)) (a : IsTheOne (ContentAt src r i) content)
    (nodes : List Stood) (ds es : List Detail) (g : NodeDetails (IsMisindented src r house columns nodes) (IndentDetail src.text) src.text ds)
    (fault : Option Misindent) (result : Option Detail) (d : IndentedAt src.text fault result) (n : es ≡ ds ++ option_to_list result) where
  event_told : (e : EventValue) → slice_get (events_of r) i ≡ Some e
      → fault ≡ misindent_of house e (stand_of e st (column_at src.text r.events columns i) (unwrap_or (entries_from src.text (drop i r.events)) 0)) content
      → NodeDetails (IsMisindented src r house columns (nodes ++ begun e i st)) (IndentDetail src.text) src.text es
  event_told stream_starts q h = no_told src r house columns nodes ds es g fault result h d n
  event_told stream_ends q h = no_told src r house columns nodes ds es g fault result h d n
  event_told (document_starts marked) q h = no_told src r house columns nodes ds es g fault result h d n
  event_told (document_ends closed) q h = no_told src r house columns nodes ds es g fault result h d n
  event_told (sequence_starts flow props) q h = node_told src r house columns nodes ds es g (stood i (outer st) (beside st)) fault result
      (fault_told src r house columns (stood i (outer st) (beside st)) (sequence_starts flow props) q content fault a h) d n
  event_told sequence_ends q h = no_told src r house columns nodes ds es g fault result h d n
  event_told (mapping_starts flow props) q h = node_told src r house columns nodes ds es g (stood i (outer st) (beside st)) fault result
      (fault_told src r house columns (stood i (outer st) (beside st)) (mapping_starts flow props) q content fault a h) d n
  event_told mapping_ends q h = no_told src r house columns nodes ds es g fault result h d n
  event_told (scalar_node props style text) q h = node_told src r house columns nodes ds es g (stood i (outer st) (beside st)) fault result
      (fault_told src r house columns (stood i (outer st) (beside st)) (scalar_node props style text) q content fault a h) d n
  event_told (alias_node name) q h = node_told src r house columns nodes ds es g (stood i (outer st) (beside st)) fault result
      (fault_told src r house columns (stood i (outer st) (beside st)) (alias_node name) q content fault a h) d n

nothing_in : {A : Type 0} (x : A) → Contains {X = A} [] x → ⊥
nothing_in x c = omega (arith, c.1)

-- before the first event
pub first_told : (src : Table) (r : Lists) (house : Style) (columns : List ℕ) (begun : ℕ) (st : List ContextFrame) (ds : List Detail)
    → IsPass src.text r.events columns begun 0 → st ≡ [] → ds ≡ [] → ToldTo src r house columns begun 0 st ds
first_told src r house columns begun st ds p e q = record {
  nodes = [];
  pass = p;
  left = ap (λ st. run (column_at src.text r.events columns) (unmarked_at src.text r.events) 0 st r.events) e;
  details = subst (NodeDetails (IsMisindented src r house columns []) (IndentDetail src.text) src.text) (sym q) (record {
    only = λ d c. absurd (nothing_in d c);
    all = λ x o h b. absurd (nothing_in x.0 h.among);
  });
}

pub one_told : (src : Table) (r : Lists) (house : Style) (i : ℕ) (old after : Pass) (stand : NodeContext) (ds es : List Detail) (content : Option (ℕ × ℕ))
    (fault : Option Misindent) (result : Option Detail) (x : EventInText) → slice_get r.events i ≡ Some x → slice_get (events_of r) i ≡ Some x.event
    → ToldTo src r house old.columns.items old.begun i (reverse old.stack.items) ds → Passes src.text r.events i x.event old after stand
    → IsTheOne (ContentAt src r i) content → fault ≡ misindent_of house x.event stand content → IndentedAt src.text fault result
    → es ≡ ds ++ option_to_list result → ToldTo src r house after.columns.items after.begun (i + 1) (reverse after.stack.items) es
one_told src r house i old after stand ds es content fault result x at q m p a f b n =
    let all = r.events in
    let cs = old.columns.items in
    let g = p m.pass in
    let c = column_at src.text all cs in
    let u = unmarked_at src.text all in
    let st = reverse old.stack.items in
    let d : drop i all ≡ x ∷ drop (i + 1) all =
    subst (λ k. drop i all ≡ get_or all i x ∷ drop k all) (sym (add-one i)) (drop-cons all i x (slice_get_within all i x at)) ∙ ap (λ m. m ∷ drop (i + 1) all) (get_or_from_slice_get all i x x at) in
    let rest = run c u (i + 1) (next x.event (c i) (u i) st) (drop (i + 1) all) in
    let left : (m.nodes ++ begun x.event i st) ++ rest ≡ run c u 0 [] all =
    append_assoc m.nodes (begun x.event i st) rest ∙ ap (λ w. m.nodes ++ run c u i st w) (sym d) ∙ m.left in
    let told = event_told src r house cs i st content a m.nodes ds es m.details fault result b n x.event q (f ∙ ap (λ s. misindent_of house x.event s content) g.tells) in
    subst (λ cs. ToldTo src r house cs after.begun (i + 1) (reverse after.stack.items) es) (sym g.kept)
    (subst (λ st. ToldTo src r house cs after.begun (i + 1) st es) (sym g.stack) (record {
      nodes = m.nodes ++ begun x.event i st;
      pass = subst (λ cs. IsPass src.text all cs after.begun (i + 1)) g.kept g.later;
      left = left;
      details = told;
    }))

-- after the last event
pub all_told : (src : Table) (r : Lists) (house : Style) (columns : List ℕ) (begun i : ℕ) (st : List ContextFrame) (ds : List Detail) → length r.events ≤ i
    → ToldTo src r house columns begun i st ds → IndentDetails src r house ds
all_told src r house columns begun i st ds l m =
    let same : m.nodes ≡ nodes_of src.text r columns =
    sym (append-nil m.nodes) ∙ ap (λ w. m.nodes ++ run (column_at src.text r.events columns) (unmarked_at src.text r.events) i st w) (sym (drop_all i r.events l)) ∙ m.left in
    record {
      columns = columns;
      are_columns = m.pass.columns_are;
      details = subst (λ ns. NodeDetails (IsMisindented src r house columns ns) (IndentDetail src.text) src.text ds) same m.details;
    }
