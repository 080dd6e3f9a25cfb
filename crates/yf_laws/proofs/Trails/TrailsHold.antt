-- The pass over leaves finds, for a stream of normal forms, the comments that trail in its layout.
use Rattle.std.proofs.Common.{◌≡◌, ℕ, ◌<◌, Bool, true, false, List, [], ◌∷◌, ◌++◌, length, flat_map, get_or, replicate, Option, Some, None, refl, sym, ap, ◌∙◌, arith}
use Rattle.std.specs.Prelude.{◌||◌, option_to_list, slice_get}
use Rattle.std.proofs.lemmas.Bool.{and_parts}
use Rattle.std.proofs.lemmas.List.{get_or-replicate, length-replicate, length-set}
use Rattle.std.proofs.lemmas.Option.{slice_get_within}
use Rattle.yf_comments.specs.Comment.{CommentValue}
use Rattle.yf_events.specs.Tree.{DocumentTree, Node, TreesOf, is_text, standing}
use Rattle.yf_events.specs.declared.event.Span.{Span}
use Rattle.yf_events.specs.declared.lists.Lists.{Lists}
use Rattle.yf_forms.specs.declared.form.decide.Form.{Form}
use Rattle.yf_forms.specs.declared.form.measure.Measure.{Measure}
use Rattle.yf_forms.specs.declared.style.Style.{Style}
use Rattle.yf_laws.specs.Layouts.Decorated.{rows_of}
use Rattle.yf_forms.specs.NormalForms.Forms.{documents_are_placed, stream_forms}
use Rattle.yf_forms.specs.Nodes.SingleNodes.{NodeAt}
use Rattle.yf_laws.specs.Layouts.Layout.{Source, first_comment, is_among, source_of, trailing, trailing_leaf}
use Rattle.yf_forms.specs.Passes.MeasurePass.{setting}
use Rattle.yf_forms.specs.NormalForms.Normal.{setting_of}
use Rattle.yf_print.specs.Passes.TrailPass.{TrailsSoFar, all_found, ended, keys_taken, start, taken}
use Rattle.yf_laws.specs.Layouts.TrailsOf.{LayoutTrails, at_index}
use Rattle.yf_laws.proofs.Trails.DocumentTrails.{all_leaves, in_house, leaves_of, stream_keys}
use Rattle.yf_laws.proofs.Printer.DocumentsPrinted.{AreNormal}
use Rattle.yf_laws.proofs.Printer.FeedLemmas.{ascend}
use Rattle.yf_laws.proofs.Trails.KeyTrails.{indices_of}
use Rattle.yf_laws.proofs.Trails.LeafMarks.{Mark, event_marks, in_order, mark, marks_in_order, pass_marks}
use Rattle.yf_laws.proofs.Trails.MarkSpans.{MarkedAt, Seen, marked_at, node_within, spans_append, stream_spans}
use Rattle.yf_laws.proofs.Printer.MeasureFacts.{MeasuresTell}
use Rattle.yf_laws.proofs.Trails.TrailChoice.{none_at, rising}
use Rattle.yf_laws.proofs.Trails.TrailLeaves.{KeyMarks, chosen_of}
use Rattle.yf_laws.proofs.Trails.TrailOthers.{among_indices, at_indices, has, strict}
use Rattle.yf_laws.proofs.Trails.TrailRuns.{AgreeFrom, closed_all, found_at, run_is, spans}
use Rattle.yf_laws.proofs.Trails.TrailsAgree.{has_append, marked_one, marks_agree, none_at_starts, or_false}
use Rattle.yf_forms.specs.NormalForms.BareStart.{is_bare}
use Rattle.yf_forms.proofs.Decide.FlagLemmas.{or_assoc}

-- a stream of normal forms, with at most n open collections and with its offsets in order
pub record Placing (m : Lists) (s : Style) (n : ℕ) (ds : List DocumentTree) : Type 0 where
  pub of_reading : TreesOf m ds
  pub placed : documents_are_placed ds ≡ true
  pub normal : AreNormal (setting_of m s) n ds
  pub ascend : ascend m.comments ≡ true
  pub strict : strict m.comments ≡ true
  pub noted : length m.on_leaf_line ≡ length m.comments
  pub rises : rising (leaves_of ds) ≡ true
  pub apart : none_at_starts m.comments (leaves_of ds) ≡ true

-- The comments that trail keys.

taken_long : (ts : List Bool) (o : Option ℕ) → length (taken ts o) ≡ length ts
taken_long ts None = refl
taken_long ts (Some n) = length-set ts n true

keys_long : (fs : List Form) (ts : List Bool) → length (keys_taken fs ts) ≡ length ts
keys_long [] ts = refl
keys_long (f ∷ fs) ts = keys_long fs (taken ts f.key_comment) ∙ taken_long ts f.key_comment

taken_at : (ts : List Bool) (o : Option ℕ) (k : ℕ) → k < length ts → get_or (taken ts o) k false ≡ (get_or ts k false || has k (option_to_list o))
taken_at ts None k l = or_false (get_or ts k false)
taken_at ts (Some n) k l = marked_one ts n k l

keys_at : (fs : List Form) (ts : List Bool) (k : ℕ) → k < length ts → get_or (keys_taken fs ts) k false ≡ (get_or ts k false || has k (indices_of fs))
keys_at [] ts k l = or_false (get_or ts k false)
keys_at (f ∷ fs) ts k l =
    let long = taken_long ts f.key_comment in
    let mine : List ℕ = option_to_list f.key_comment in
    keys_at fs (taken ts f.key_comment) k (omega (arith, l, long))
    ∙ (ap (λ b. b || has k (indices_of fs)) (taken_at ts f.key_comment k l)
    ∙ (or_assoc (get_or ts k false) (has k mine) (has k (indices_of fs)) ∙ ap (λ b. get_or ts k false || b) (sym (has_append k mine (indices_of fs)))))

key_marks : (m : Lists) (s : Style) (n : ℕ) (ds : List DocumentTree) (fs : List Form) → Placing m s n ds → fs ≡ stream_forms [] (setting s []) (setting_of m s) ds
    → KeyMarks (source_of m (rows_of m s ds)) m.comments (start m fs).found.trailing
key_marks m s n ds fs p e = record {
  marked = λ k d q.
      let low = slice_get_within m.comments k d q in
      let long : length (replicate (length m.comments) false) ≡ length m.comments = length-replicate (length m.comments) false in
      keys_at fs (replicate (length m.comments) false) k (omega (arith, low, long))
      ∙ (ap (λ b. b || has k (indices_of fs)) (get_or-replicate (length m.comments) k false false low)
      ∙ (sym (among_indices m.comments (indices_of fs) k d p.strict q)
      ∙ (ap (λ gs. is_among (at_indices m.comments (indices_of gs)) d) e
      ∙ ap (λ w. is_among w d) (stream_keys (setting_of m s) n (is_bare m s) m.documents ds p.of_reading.documents p.normal))));
}

-- Leaves.

none_at_one : (cs : List CommentValue) (xs : List Span) (s : Span) (ys : List Span) → none_at_starts cs (xs ++ (s ∷ ys)) ≡ true → none_at s.start cs ≡ true
none_at_one cs [] s ys e = (and_parts (none_at s.start cs) (none_at_starts cs ys) e).0
none_at_one cs (x ∷ xs) s ys e = none_at_one cs xs s ys (and_parts (none_at x.start cs) (none_at_starts cs (xs ++ (s ∷ ys))) e).1

alike : (r : Lists) (ls : List Mark) (ts : List Bool) → AgreeFrom r ls ts ts
alike r [] ts = tt
alike r (l ∷ ls) ts = record { agree = λ k h. refl }

-- a stream that is measured and decided
record Passed (m : Lists) (s : Style) (n : ℕ) (ds : List DocumentTree) (ms : List Measure) (fs : List Form) : Type 0 where
  placing : Placing m s n ds
  measured : MeasuresTell m.events ms
  decided : fs ≡ stream_forms [] (setting s []) (setting_of m s) ds

abbrev source : Lists → Style → List DocumentTree → Source
source m s ds = source_of m (rows_of m s ds)

abbrev marks_of : Lists → List Measure → List Mark
marks_of m ms = event_marks ms 0 m.events

abbrev seen : {m : Lists} {s : Style} {n : ℕ} {ds : List DocumentTree} {ms : List Measure} {fs : List Form} → Passed m s n ds ms fs → Seen
seen {m} {s} {n} {ds} {ms} {fs} p = record { events = m.events; measures = ms; measured = p.measured }

tree_spans : {m : Lists} {s : Style} {n : ℕ} {ds : List DocumentTree} {ms : List Measure} {fs : List Form} → Passed m s n ds ms fs → spans (marks_of m ms) ≡ leaves_of ds
tree_spans {ds = ds} p = stream_spans (seen p) ds p.placing.of_reading.events p.placing.placed

rows_leaves : {m : Lists} {s : Style} {n : ℕ} {ds : List DocumentTree} {ms : List Measure} {fs : List Form} → Passed m s n ds ms fs → (source m s ds).leaves ≡ leaves_of ds
rows_leaves {m} {s} {n} {ds} p = all_leaves (setting_of m s) (is_bare m s) m.documents ds p.placing.of_reading.documents p.placing.placed (in_house (setting_of m s) n ds p.placing.normal)

spans_rise : {m : Lists} {s : Style} {n : ℕ} {ds : List DocumentTree} {ms : List Measure} {fs : List Form} → Passed m s n ds ms fs → rising (spans (marks_of m ms)) ≡ true
spans_rise p = ap rising (tree_spans p) ∙ p.placing.rises

closed_is : {m : Lists} {s : Style} {n : ℕ} {ds : List DocumentTree} {ms : List Measure} {fs : List Form} → Passed m s n ds ms fs
    → all_found m ms fs ≡ closed_all m (marks_of m ms) (start m fs).found
closed_is {m} {s} {n} {ds} {ms} {fs} p = ap (ended m) (pass_marks m ms 0 m.events (start m fs)) ∙ run_is m (marks_of m ms) (start m fs).found (spans_rise p)

-- the comment that is found for a leaf
leaf_found : {m : Lists} {s : Style} {n : ℕ} {ds : List DocumentTree} {ms : List Measure} {fs : List Form} → Passed m s n ds ms fs
    → (j : ℕ) (x : Node) (leaf : Span) → NodeAt m.events j x → is_text x ≡ true → (standing x).span ≡ Some leaf
    → at_index m.comments (get_or (all_found m ms fs).of_leaf j None) ≡ trailing_leaf (source m s ds) leaf (first_comment (source m s ds) leaf)
leaf_found {m} {s} {n} {ds} {ms} {fs} p j x leaf at t q =
    let a : MarkedAt ms m.events j leaf = marked_at (seen p) j x leaf at t q in
    let f : TrailsSoFar = (start m fs).found in
    let keys : List Bool = f.trailing in
    let low : j < length m.events = node_within m.events j x at in
    let count : length (replicate {A = Option ℕ} (length m.events) None) ≡ length m.events = length-replicate (length m.events) None in
    let all : spans (marks_of m ms) ≡ spans a.earlier ++ (leaf ∷ spans a.later) = ap spans a.is ∙ spans_append a.earlier (mark j leaf ∷ a.later) in
    let apart : none_at_starts m.comments (spans a.earlier ++ (leaf ∷ spans a.later)) ≡ true =
    ap (none_at_starts m.comments) (sym all ∙ tree_spans p) ∙ p.placing.apart in
    let found = found_at m a.earlier (mark j leaf) a.later f keys (ap (λ ls. rising (spans ls)) (sym a.is) ∙ spans_rise p) (ap in_order (sym a.is) ∙ marks_in_order ms 0 m.events)
    (alike m (a.earlier ++ (mark j leaf ∷ a.later)) keys) (omega (arith, low, count)) (get_or-replicate (length m.events) j None None low) in
    ap (λ (g : TrailsSoFar). at_index m.comments (get_or g.of_leaf j None)) (closed_is p ∙ ap (λ ls. closed_all m ls f) a.is)
    ∙ (ap (at_index m.comments) found
    ∙ sym (chosen_of m (source m s ds) keys a.earlier (mark j leaf) a.later refl p.placing.noted (rows_leaves p ∙ (sym (tree_spans p) ∙ all)) p.placing.ascend
    (ap rising (sym all) ∙ spans_rise p) (none_at_one m.comments (spans a.earlier) leaf (spans a.later) apart) (key_marks m s n ds fs p.placing p.decided)))

-- whether a comment trails a row
comment_found : {m : Lists} {s : Style} {n : ℕ} {ds : List DocumentTree} {ms : List Measure} {fs : List Form} → Passed m s n ds ms fs
    → (k : ℕ) (d : CommentValue) → slice_get m.comments k ≡ Some d → get_or (all_found m ms fs).trailing k false ≡ is_among (flat_map (trailing (source m s ds)) (rows_of m s ds)) d
comment_found {m} {s} {n} {ds} {ms} {fs} p k d q =
    let f : TrailsSoFar = (start m fs).found in
    let ls : List Mark = marks_of m ms in
    let long : length f.trailing ≡ length m.comments = keys_long fs (replicate (length m.comments) false) ∙ length-replicate (length m.comments) false in
    ap (λ (g : TrailsSoFar). get_or g.trailing k false) (closed_is p)
    ∙ marks_agree m (source m s ds) (rows_of m s ds) ls f refl p.placing.noted (rows_leaves p ∙ sym (tree_spans p)) refl refl p.placing.ascend p.placing.strict
    (spans_rise p) (ap (none_at_starts m.comments) (tree_spans p) ∙ p.placing.apart) (key_marks m s n ds fs p.placing p.decided) (alike m ls f.trailing) long k d q

pub trails_found : (m : Lists) (s : Style) (n : ℕ) (ds : List DocumentTree) (ms : List Measure) (fs : List Form) → Placing m s n ds
    → MeasuresTell m.events ms → fs ≡ stream_forms [] (setting s []) (setting_of m s) ds → LayoutTrails m s ds (all_found m ms fs)
trails_found m s n ds ms fs p measured decided =
    let all : Passed m s n ds ms fs = record { placing = p; measured = measured; decided = decided } in
    record { of_leaf = leaf_found all; of_comment = comment_found all }
