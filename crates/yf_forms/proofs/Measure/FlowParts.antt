-- Flow collections are whole among the events with those outside of them replaced.
use Rattle.std.proofs.Common.{◌≡◌, ℕ, zero, suc, ◌+◌, ◌≤◌, Bool, true, false, true≢false, List, [], ◌∷◌, ◌++◌, Option, Some, length, map, take, refl, sym, ap, ◌∙◌, arith, append_assoc, add-one}
use Rattle.std.specs.Prelude.{slice_get, if◌then◌else◌}
use Rattle.std.proofs.lemmas.Option.{same_Some}
use Rattle.yf_events.specs.Event.{EventValue, EventInText, sequence_starts, sequence_ends, mapping_starts, mapping_ends, scalar_node, alias_node, stream_starts, stream_ends, document_starts, document_ends}
use Rattle.yf_events.specs.declared.event.Span.{Span}
use Rattle.yf_events.specs.Tree.{Node, scalar, alias, sequence, mapping, Items, no_items, item, Pairs, no_pairs, pair, flat, flat_items, flat_pairs, placed, unplaced}
use Rattle.yf_forms.specs.declared.form.measure.Measure.{Measure}
use Rattle.yf_forms.specs.declared.form.collection.Open.{Open}
use Rattle.yf_forms.specs.Nodes.FlowsAlone.{depth_after, next_depth, depths, event_seen, flows_alone, is_flow, is_outside, seen, span_seen}
use Rattle.yf_forms.specs.Nodes.SingleNodes.{NodeAt}
use Rattle.yf_forms.specs.NormalForms.Measures.{no_measure}
use Rattle.yf_forms.specs.Passes.MeasurePass.{MeasuredSoFar, found, has_text, passed}
use Rattle.yf_forms.specs.NormalForms.Normal.{LayoutSetting}

mutual
  node_kept : (d : ℕ) (x : Node) (rest : List EventInText) → flows_alone (suc d) (flat x ++ rest) ≡ flat x ++ flows_alone (suc d) rest
  node_kept d (scalar at props style text lines) rest = refl
  node_kept d (alias at name) rest = refl
  node_kept d (sequence at flow props xs) rest =
      ap (λ w. placed at (sequence_starts flow props) [] ∷ w) (ap (flows_alone (suc (suc d))) (append_assoc (flat_items xs) (unplaced sequence_ends ∷ []) rest)
      ∙ items_kept (suc d) xs (unplaced sequence_ends ∷ rest) ∙ sym (append_assoc (flat_items xs) (unplaced sequence_ends ∷ []) (flows_alone (suc d) rest)))
  node_kept d (mapping at flow props ps) rest =
      ap (λ w. placed at (mapping_starts flow props) [] ∷ w) (ap (flows_alone (suc (suc d))) (append_assoc (flat_pairs ps) (unplaced mapping_ends ∷ []) rest)
      ∙ pairs_kept (suc d) ps (unplaced mapping_ends ∷ rest) ∙ sym (append_assoc (flat_pairs ps) (unplaced mapping_ends ∷ []) (flows_alone (suc d) rest)))

  items_kept : (d : ℕ) (xs : Items) (rest : List EventInText) → flows_alone (suc d) (flat_items xs ++ rest) ≡ flat_items xs ++ flows_alone (suc d) rest
  items_kept d no_items rest = refl
  items_kept d (item x xs) rest =
      ap (flows_alone (suc d)) (append_assoc (flat x) (flat_items xs) rest) ∙ node_kept d x (flat_items xs ++ rest)
      ∙ ap (λ w. flat x ++ w) (items_kept d xs rest) ∙ sym (append_assoc (flat x) (flat_items xs) (flows_alone (suc d) rest))

  pairs_kept : (d : ℕ) (ps : Pairs) (rest : List EventInText) → flows_alone (suc d) (flat_pairs ps ++ rest) ≡ flat_pairs ps ++ flows_alone (suc d) rest
  pairs_kept d no_pairs rest = refl
  pairs_kept d (pair k v ps) rest =
      ap (flows_alone (suc d)) (append_assoc (flat k) (flat v ++ flat_pairs ps) rest) ∙ node_kept d k ((flat v ++ flat_pairs ps) ++ rest)
      ∙ ap (λ w. flat k ++ w) (ap (flows_alone (suc d)) (append_assoc (flat v) (flat_pairs ps) rest) ∙ node_kept d v (flat_pairs ps ++ rest)
      ∙ ap (λ w. flat v ++ w) (pairs_kept d ps rest) ∙ sym (append_assoc (flat v) (flat_pairs ps) (flows_alone (suc d) rest)))
      ∙ sym (append_assoc (flat k) (flat v ++ flat_pairs ps) (flows_alone (suc d) rest))

flow_kept : (d : ℕ) (x : Node) (rest : List EventInText) → is_flow x ≡ true → flows_alone d (flat x ++ rest) ≡ flat x ++ flows_alone d rest
flow_kept (suc d) x rest f = node_kept d x rest
flow_kept zero (sequence at true props xs) rest f =
    ap (λ w. placed at (sequence_starts true props) [] ∷ w) (ap (flows_alone 1) (append_assoc (flat_items xs) (unplaced sequence_ends ∷ []) rest)
    ∙ items_kept 0 xs (unplaced sequence_ends ∷ rest) ∙ sym (append_assoc (flat_items xs) (unplaced sequence_ends ∷ []) (flows_alone 0 rest)))
flow_kept zero (mapping at true props ps) rest f =
    ap (λ w. placed at (mapping_starts true props) [] ∷ w) (ap (flows_alone 1) (append_assoc (flat_pairs ps) (unplaced mapping_ends ∷ []) rest)
    ∙ pairs_kept 0 ps (unplaced mapping_ends ∷ rest) ∙ sym (append_assoc (flat_pairs ps) (unplaced mapping_ends ∷ []) (flows_alone 0 rest)))
flow_kept zero (sequence at false props xs) rest f = absurd (true≢false (sym f))
flow_kept zero (mapping at false props ps) rest f = absurd (true≢false (sym f))
flow_kept zero (scalar at props style text lines) rest f = absurd (true≢false (sym f))
flow_kept zero (alias at name) rest f = absurd (true≢false (sym f))

seen_append : (d : ℕ) (xs ys : List EventInText) → flows_alone d (xs ++ ys) ≡ flows_alone d xs ++ flows_alone (depths d xs) ys
seen_append d [] ys = refl
seen_append d (x ∷ xs) ys = ap (λ w. seen d x ∷ w) (seen_append (next_depth d x.event) xs ys)

pub seen_length : (d : ℕ) (xs : List EventInText) → length (flows_alone d xs) ≡ length xs
seen_length d [] = refl
seen_length d (x ∷ xs) = ap suc (seen_length (next_depth d x.event) xs)

-- a flow collection is among them at its index
pub flow_at : {es : List EventInText} {i : ℕ} {x : Node} → NodeAt es i x → is_flow x ≡ true → NodeAt (flows_alone 0 es) i x
flow_at {x = x} n f = record {
  before = flows_alone 0 n.before;
  after = flows_alone (depths 0 n.before) n.after;
  is = ap (flows_alone 0) n.is ∙ seen_append 0 n.before (flat x ++ n.after) ∙ ap (λ w. flows_alone 0 n.before ++ w) (flow_kept (depths 0 n.before) x n.after f);
  index = seen_length 0 n.before ∙ n.index;
}

-- the event at an index, and the depth after it
pub seen_there : (es : List EventInText) (d i : ℕ) (v : EventValue) (s : Option Span) → slice_get (map (λ e. e.event) es) i ≡ Some v
    → slice_get (map (λ e. e.span) es) i ≡ Some s
    → (slice_get (map (λ e. e.event) (flows_alone d es)) i ≡ Some (event_seen (depths d (take i es)) v))
    × (slice_get (map (λ e. e.span) (flows_alone d es)) i ≡ Some (span_seen (depths d (take i es)) v s))
seen_there [] d i v s h k = cc
seen_there (e ∷ es) d zero v s h k = (ap (λ w. Some (event_seen d w)) (same_Some _ _ h), rw (same_Some _ _ h, same_Some _ _ k) refl)
seen_there (e ∷ es) d (suc i) v s h k = seen_there es (next_depth d e.event) i v s h k

pub depths_on : (es : List EventInText) (d i : ℕ) (v : EventValue) → slice_get (map (λ e. e.event) es) i ≡ Some v
    → next_depth (depths d (take i es)) v ≡ depths d (take (suc i) es)
depths_on [] d i v h = cc
depths_on (e ∷ es) d zero v h = ap (next_depth d) (sym (same_Some _ _ h))
depths_on (e ∷ es) d (suc i) v h = depths_on es (next_depth d e.event) i v h

-- the steps of the pass over them, as the code takes them

pub seen_with : (es : List EventInText) (n i : ℕ) (v : EventValue) (s : Option Span) → n ≡ depths 0 (take i es) → slice_get (map (λ e. e.event) es) i ≡ Some v
    → slice_get (map (λ e. e.span) es) i ≡ Some s
    → (slice_get (map (λ e. e.event) (flows_alone 0 es)) i ≡ Some (event_seen n v)) × (slice_get (map (λ e. e.span) (flows_alone 0 es)) i ≡ Some (span_seen n v s))
seen_with es n i v s q h k = let a = seen_there es 0 i v s h k in (a.0 ∙ ap (λ m. Some (event_seen m v)) (sym q), a.1 ∙ ap (λ m. Some (span_seen m v s)) (sym q))

pub depth_on : (es : List EventInText) (n m i : ℕ) (v : EventValue) → n ≡ depths 0 (take i es) → slice_get (map (λ e. e.event) es) i ≡ Some v → m ≡ next_depth n v
    → m ≡ depths 0 (take (i + 1) es)
depth_on es n m i v q h e = e ∙ ap (λ k. next_depth k v) q ∙ depths_on es 0 i v h ∙ ap (λ k. depths 0 (take k es)) (sym (add-one i))

after_bound : (d : ℕ) (v : EventValue) → depth_after d v ≤ d + 1
after_bound d (sequence_starts flow props) = omega arith
after_bound d (mapping_starts flow props) = omega arith
after_bound zero sequence_ends = omega arith
after_bound (suc d) sequence_ends = omega arith
after_bound zero mapping_ends = omega arith
after_bound (suc d) mapping_ends = omega arith
after_bound d (scalar_node props style text) = omega arith
after_bound d (alias_node name) = omega arith
after_bound d stream_starts = omega arith
after_bound d stream_ends = omega arith
after_bound d (document_starts marked) = omega arith
after_bound d (document_ends closed) = omega arith

cut_bound : (b : Bool) (n m : ℕ) → n ≤ m → (if b then 0 else n) ≤ m
cut_bound true n m l = omega arith
cut_bound false n m l = l

pub next_bound : (d m : ℕ) (v : EventValue) → m ≡ next_depth d v → m ≤ d + 1
next_bound d m v e = let l = cut_bound (is_outside d v) (depth_after d v) (d + 1) (after_bound d v) in omega (arith, e, l)

pub outside_depth : (d : ℕ) (v : EventValue) → is_outside d v ≡ true → 0 ≡ next_depth d v
outside_depth d v e = rw e refl

pub inside_depth : (d n : ℕ) (v : EventValue) → is_outside d v ≡ false → n ≡ depth_after d v → n ≡ next_depth d v
inside_depth d n v e q = rw e q

pub outside_passed : (t : List ℕ) (c : LayoutSetting) (i d : ℕ) (s : Option Span) (v : EventValue) (list next : List Measure) (stack : List Open) → is_outside d v ≡ true
    → next ≡ list ++ (no_measure ∷ []) → found next stack ≡ passed t c i (span_seen d v s) (event_seen d v) (found (list ++ (no_measure ∷ [])) stack)
outside_passed t c i d s v list next stack e q = rw e (ap (λ w. found w stack) q)

pub inside_passed : (t : List ℕ) (c : LayoutSetting) (i d : ℕ) (s : Option Span) (v : EventValue) (f g : MeasuredSoFar) → is_outside d v ≡ false → g ≡ passed t c i s v f
    → g ≡ passed t c i (span_seen d v s) (event_seen d v) f
inside_passed t c i d s v f g e q = rw e q

pub outside_text : (d : ℕ) (v : EventValue) → is_outside d v ≡ true → has_text (event_seen d v) ≡ true
outside_text d v e = rw e refl

pub inside_text : (d : ℕ) (v : EventValue) → is_outside d v ≡ false → has_text v ≡ true → has_text (event_seen d v) ≡ true
inside_text d v e h = rw e h
