-- The pass over the events of a node on one line passes its items, and adds what trails its leaves.
use Rattle.std.proofs.Common.{◌≡◌, ℕ, ◌+◌, ◌≤◌, Bool, true, false, ◌&&◌, List, [], ◌∷◌, ◌++◌, length, map, flat_map, get_or, Option, Some, None, refl, sym, ap, ◌∙◌, arith, append_assoc, append-nil}
use Rattle.std.specs.Prelude.{is_some, if◌then◌else◌}
use Rattle.std.proofs.lemmas.Bool.{and_parts}
use Rattle.std.proofs.lemmas.Grind.{flat_map-append}
use Rattle.std.proofs.lemmas.List.{length-append}
use Rattle.yf_comments.specs.Comment.{CommentValue}
use Rattle.yf_events.specs.Event.{EventInText, sequence_starts, sequence_ends, mapping_starts, mapping_ends}
use Rattle.yf_events.specs.Tree.{Node, scalar, alias, sequence, mapping, Items, no_items, item, Pairs, no_pairs, pair, entry_start, flat, flat_items, flat_pairs, is_text, items_in, items_in_items, items_in_pairs, leaves, leaves_of_items, leaves_of_pairs, placed, spans_of_leaf, standing, starts_of_entry, unplaced}
use Rattle.yf_events.specs.declared.event.Entry.{Entry}
use Rattle.yf_events.specs.declared.event.Span.{Span}
use Rattle.yf_laws.proofs.OfTexts.KeyEntries.{keys_begin, keys_begin_in_items, keys_begin_in_pairs, no_entry}
use Rattle.yf_forms.specs.Passes.DecidePass as Deciding
use Rattle.yf_print.specs.Passes.Drafts.{Draft, LineMarks, leaf_marked, trailing_if}
use Rattle.yf_forms.specs.NormalForms.Forms.{is_placed, items_are_placed, pairs_are_placed}
use Rattle.yf_forms.specs.Nodes.SingleNodes.{NodeAt}
use Rattle.yf_forms.specs.NormalForms.Measures.{no_measure}
use Rattle.yf_print.specs.Passes.PrintPass.{entry_met, event_noted, events_noted, is_leaf, leaf_noted_if}
use Rattle.yf_print.specs.Passes.PrintWork.{Work}
use Rattle.yf_forms.proofs.Decide.AmongLemmas.{Among, back, after_first, front, node_at}
use Rattle.yf_laws.proofs.Printer.ColumnsFed.{leaves_marked}
use Rattle.yf_laws.proofs.Printer.FedLemmas.{all_past}
use Rattle.yf_laws.proofs.Printer.JoinLemmas.{edited, leaves_both, past_append, past_edited}
use Rattle.yf_forms.proofs.Decide.LeafLemmas.{is_own_leaf}
use Rattle.yf_laws.proofs.Printer.MeasureFacts.{MeasuresTell, asked, asked_of}
use Rattle.yf_print.proofs.Pass.PrintLemmas.{at_most}

-- the input of the pass, with the used fields of the measures of a reading, and what trails each leaf
pub record Known : Type 0 where
  pub work : Work
  pub trail : Span → List ℕ
  pub measured : MeasuresTell work.reading.events work.measures
  pub trails : (j : ℕ) (x : Node) (span : Span) → NodeAt work.reading.events j x → is_text x ≡ true → (standing x).span ≡ Some span
      → trailing_if work.reading.comments (get_or work.trails j None) ≡ trail span

pub measure_there : (k : Known) (i : ℕ) (x : Node) → NodeAt k.work.reading.events i x
    → asked (get_or k.work.measures i no_measure) ≡ asked_of i x
measure_there k i x n = k.measured.each i x n

-- past these items, with what trails these leaves
abbrev pub met : Known → List ℕ → List Span → Draft → Draft
met k items spans d = all_past k.work.reading.comments items (record d { trails = d.trails ++ flat_map k.trail spans; marks = leaves_marked spans d.marks })

pub met_nothing : (k : Known) (d : Draft) → met k [] [] d ≡ d
met_nothing k d = ap (λ w. record d { trails = w }) (append-nil d.trails)

pub met_more : (k : Known) (is js : List ℕ) (ss rs : List Span) (d : Draft) → met k js rs (met k is ss d) ≡ met k (is ++ js) (ss ++ rs) d
met_more k is js ss rs d =
    let cs : List CommentValue = k.work.reading.comments in
    let one : List ℕ = d.trails ++ flat_map k.trail ss in
    let both : List ℕ = d.trails ++ flat_map k.trail (ss ++ rs) in
    let e : one ++ flat_map k.trail rs ≡ both = append_assoc d.trails (flat_map k.trail ss) (flat_map k.trail rs) ∙ ap (λ w. d.trails ++ w) (sym (flat_map-append k.trail ss rs)) in
    let m : LineMarks = leaves_marked ss d.marks in
    let all : LineMarks = leaves_marked (ss ++ rs) d.marks in
    let p : all_past cs is (record d { trails = one; marks = m }) ≡ edited d.line one d.body d.may_follow m (all_past cs is d) = past_edited cs is d.line one d.body d.may_follow m d in
    ap (λ w. all_past cs js (record w { trails = w.trails ++ flat_map k.trail rs; marks = leaves_marked rs w.marks })) p
    ∙ (ap (λ w. all_past cs js (record (all_past cs is d) { line = d.line; trails = w; body = d.body; may_follow = d.may_follow; marks = leaves_marked rs m })) e
    ∙ (ap (λ w. all_past cs js (record (all_past cs is d) { line = d.line; trails = both; body = d.body; may_follow = d.may_follow; marks = w })) (leaves_both ss rs d.marks)
    ∙ (ap (λ w. all_past cs js w) (sym (past_edited cs is d.line both d.body d.may_follow all d))
    ∙ sym (past_append cs is js (record d { trails = both; marks = all })))))

-- Leaves.

pub leaf_met : (k : Known) (i : ℕ) (x : Node) (o : Option Span) (d : Draft) → NodeAt k.work.reading.events i x → (standing x).span ≡ o → is_text x ≡ is_some o
    → leaf_noted_if (is_text x) k.work i o d ≡ met k (map (λ s. s.start) (spans_of_leaf o)) (spans_of_leaf o) d
leaf_met k i x None d n e t = ap (λ b. leaf_noted_if b k.work i None d) t ∙ sym (met_nothing k d)
leaf_met k i x (Some span) d n e t =
    ap (λ b. leaf_noted_if b k.work i (Some span) d) t
    ∙ ap (λ w. all_past k.work.reading.comments (span.start ∷ []) (record d { trails = d.trails ++ w; marks = leaf_marked d.marks })) (k.trails i x span n t e ∙ sym (append-nil (k.trail span)))

pub leaf_there : (k : Known) (i : ℕ) (x : Node) → is_placed x ≡ true → NodeAt k.work.reading.events i x → is_leaf k.work i ≡ is_text x
leaf_there k i x h n = ap (λ w. Deciding.is_leaf_at i w.first_leaf) (measure_there k i x n) ∙ is_own_leaf i x h

-- Events.

-- past these events, which begin at that index
pub record EventsPrinted (k : Known) (j : ℕ) (ys : List EventInText) (items : List ℕ) (spans : List Span) : Type 0 where
  pub noted : (last : ℕ) (rest : List EventInText) (d : Draft) → j + length ys ≤ last + 1
      → events_noted k.work last j (ys ++ rest) d ≡ events_noted k.work last (j + length ys) rest (met k items spans d)

pub noted_none : (k : Known) (j : ℕ) → EventsPrinted k j [] [] []
noted_none k j = record {
  noted = λ last rest d l.
      let e : j ≡ j + 0 = omega arith in
      ap (λ w. events_noted k.work last j rest w) (sym (met_nothing k d)) ∙ ap (λ n. events_noted k.work last n rest (met k [] [] d)) e;
}

pub noted_same : (k : Known) (j : ℕ) (ys : List EventInText) (is js : List ℕ) (ss rs : List Span) → is ≡ js → ss ≡ rs → EventsPrinted k j ys is ss → EventsPrinted k j ys js rs
noted_same k j ys is js ss rs e f h = record {
  noted = λ last rest d l.
      h.noted last rest d l
      ∙ (ap (λ w. events_noted k.work last (j + length ys) rest (met k w ss d)) e ∙ ap (λ w. events_noted k.work last (j + length ys) rest (met k js w d)) f);
}

pub noted_append : (k : Known) (j : ℕ) (ys zs : List EventInText) (is js : List ℕ) (ss rs : List Span) → EventsPrinted k j ys is ss → EventsPrinted k (j + length ys) zs js rs
    → EventsPrinted k j (ys ++ zs) (is ++ js) (ss ++ rs)
noted_append k j ys zs is js ss rs h i = record {
  noted = λ last rest d l.
      let n : length (ys ++ zs) ≡ length ys + length zs = length-append ys zs in
      let one : j + length ys ≤ last + 1 = omega (arith, l, n) in
      let two : j + length ys + length zs ≤ last + 1 = omega (arith, l, n) in
      let end : j + length ys + length zs ≡ j + length (ys ++ zs) = omega (arith, n) in
      ap (λ w. events_noted k.work last j w d) (append_assoc ys zs rest)
      ∙ (h.noted last (zs ++ rest) d one
      ∙ (i.noted last rest (met k is ss d) two
      ∙ (ap (λ m. events_noted k.work last m rest (met k js rs (met k is ss d))) end
      ∙ ap (λ w. events_noted k.work last (j + length (ys ++ zs)) rest w) (met_more k is js ss rs d))));
}

noted_event : (k : Known) (j : ℕ) (e : EventInText) (is : List ℕ) (ss : List Span) → ((d : Draft) → event_noted k.work j e d ≡ met k is ss d) → EventsPrinted k j (e ∷ []) is ss
unfolding events_noted
noted_event k j e is ss h = record {
  noted = λ last rest d l.
      let low : j ≤ last = omega (arith, l) in
      ap (λ b. if b then events_noted k.work last (j + 1) rest (event_noted k.work j e d) else d) (at_most j last low)
      ∙ ap (λ w. events_noted k.work last (j + 1) rest w) (h d);
}

entry_is : (k : Known) (o : Option Entry) (d : Draft) → entry_met k.work o d ≡ met k (starts_of_entry o) [] d
entry_is k None d = sym (met_nothing k d)
entry_is k (Some e) d = ap (λ w. all_past k.work.reading.comments (e.start ∷ []) w) (sym (met_nothing k d))

-- an event that begins no node has no text
pub end_noted : (k : Known) (j : ℕ) (e : EventInText) → e.span ≡ None → e.entry ≡ None → EventsPrinted k j (e ∷ []) [] []
end_noted k j e s n = noted_event k j e [] [] (λ d. ap (λ o. leaf_noted_if (is_leaf k.work j) k.work j o (entry_met k.work e.entry d)) s
    ∙ (by (is_leaf k.work j) (entry_met k.work e.entry d) ∙ (ap (λ o. entry_met k.work o d) n ∙ sym (met_nothing k d)))) where
      by : (b : Bool) (d : Draft) → leaf_noted_if b k.work j None d ≡ d
      by true d = refl
      by false d = refl

-- an event that begins a leaf, or a collection
leaf_event : (k : Known) (j : ℕ) (e : EventInText) (x : Node) → is_placed x ≡ true → NodeAt k.work.reading.events j x → e.span ≡ (standing x).span
    → e.entry ≡ (standing x).entry → is_text x ≡ is_some (standing x).span
    → EventsPrinted k j (e ∷ []) (entry_start x ++ map (λ s. s.start) (spans_of_leaf (standing x).span)) (spans_of_leaf (standing x).span)
leaf_event k j e x h n s f t =
    let o : Option Span = (standing x).span in
    noted_event k j e (entry_start x ++ map (λ s. s.start) (spans_of_leaf o)) (spans_of_leaf o) (λ d.
    ap (λ b. leaf_noted_if b k.work j e.span (entry_met k.work e.entry d)) (leaf_there k j x h n)
    ∙ (ap (λ w. leaf_noted_if (is_text x) k.work j w (entry_met k.work e.entry d)) s
    ∙ (ap (λ w. leaf_noted_if (is_text x) k.work j o (entry_met k.work w d)) f
    ∙ (ap (λ w. leaf_noted_if (is_text x) k.work j o w) (entry_is k (standing x).entry d)
    ∙ (leaf_met k j x o (met k (entry_start x) [] d) n refl t
    ∙ met_more k (entry_start x) (map (λ s. s.start) (spans_of_leaf o)) [] (spans_of_leaf o) d)))))

first_event : (k : Known) (j : ℕ) (e : EventInText) (x : Node) → is_placed x ≡ true → NodeAt k.work.reading.events j x → e.entry ≡ (standing x).entry
    → is_text x ≡ false → EventsPrinted k j (e ∷ []) (entry_start x) []
first_event k j e x h n f t = noted_event k j e (entry_start x) [] (λ d.
    ap (λ b. leaf_noted_if b k.work j e.span (entry_met k.work e.entry d)) (leaf_there k j x h n ∙ t)
    ∙ (ap (λ w. entry_met k.work w d) f ∙ entry_is k (standing x).entry d))

-- a collection's events around those in it
around : (k : Known) (j : ℕ) (first last : EventInText) (ys : List EventInText) (is js : List ℕ) (ss : List Span) → EventsPrinted k j (first ∷ []) is [] → last.span ≡ None → last.entry ≡ None
    → EventsPrinted k (j + 1) ys js ss → EventsPrinted k j (first ∷ (ys ++ (last ∷ []))) (is ++ js) ss
around k j first last ys is js ss h s n i =
    noted_append k j (first ∷ []) (ys ++ (last ∷ [])) is js [] ss h
    (noted_same k (j + 1) (ys ++ (last ∷ [])) (js ++ []) js (ss ++ []) ss (append-nil js) (append-nil ss)
    (noted_append k (j + 1) ys (last ∷ []) js [] ss [] i (end_noted k (j + 1 + length ys) last s n)))

nothing_begun : (o : Option Entry) → no_entry o ≡ true → starts_of_entry o ≡ []
nothing_begun None e = refl
nothing_begun (Some x) e = absurd cc

with_last : (k : Known) (j : ℕ) (first last : EventInText) (is : List ℕ) (ss : List Span) → EventsPrinted k j (first ∷ []) is ss → last.span ≡ None → last.entry ≡ None
    → EventsPrinted k j (first ∷ (last ∷ [])) is ss
with_last k j first last is ss h s n =
    noted_same k j (first ∷ (last ∷ [])) (is ++ []) is (ss ++ []) ss (append-nil is) (append-nil ss)
    (noted_append k j (first ∷ []) (last ∷ []) is [] ss [] h (end_noted k (j + 1) last s n))

mutual
  pub node_noted : (k : Known) (j : ℕ) (x : Node) → is_placed x ≡ true → keys_begin x ≡ true → Among k.work.reading.events (flat x) j
      → EventsPrinted k j (flat x) (entry_start x ++ items_in x) (leaves x)
  node_noted k j (scalar at props style text lines) h b a = leaf_event k j _ (scalar at props style text lines) h (node_at _ a) refl refl refl
  node_noted k j (alias at name) h b a = leaf_event k j _ (alias at name) h (node_at _ a) refl refl refl
  node_noted k j (sequence at flow props no_items) h b a =
      with_last k j _ (unplaced sequence_ends) _ _ (leaf_event k j (placed at (sequence_starts flow props) []) (sequence at flow props no_items) h (node_at _ a) refl refl refl) refl refl
  node_noted k j (sequence at flow props (item x xs)) h b a =
      around k j _ (unplaced sequence_ends) (flat_items (item x xs)) (starts_of_entry at.entry) _ _
      (first_event k j (placed at (sequence_starts flow props) []) (sequence at flow props (item x xs)) h (node_at _ a) refl refl) refl refl
      (items_noted k (j + 1) (item x xs) h b (front (flat_items (item x xs)) (unplaced sequence_ends ∷ []) (after_first _ _ a)))
  node_noted k j (mapping at flow props no_pairs) h b a =
      with_last k j _ (unplaced mapping_ends) _ _ (leaf_event k j (placed at (mapping_starts flow props) []) (mapping at flow props no_pairs) h (node_at _ a) refl refl refl) refl refl
  node_noted k j (mapping at flow props (pair x y ps)) h b a =
      around k j _ (unplaced mapping_ends) (flat_pairs (pair x y ps)) (starts_of_entry at.entry) _ _
      (first_event k j (placed at (mapping_starts flow props) []) (mapping at flow props (pair x y ps)) h (node_at _ a) refl refl) refl refl
      (pairs_noted k (j + 1) (pair x y ps) h b (front (flat_pairs (pair x y ps)) (unplaced mapping_ends ∷ []) (after_first _ _ a)))

  pub items_noted : (k : Known) (j : ℕ) (xs : Items) → items_are_placed xs ≡ true → keys_begin_in_items xs ≡ true → Among k.work.reading.events (flat_items xs) j
      → EventsPrinted k j (flat_items xs) (items_in_items xs) (leaves_of_items xs)
  items_noted k j no_items h b a = noted_none k j
  items_noted k j (item x xs) h b a =
      noted_same k j (flat_items (item x xs)) ((entry_start x ++ items_in x) ++ items_in_items xs) _ _ _ (append_assoc (entry_start x) (items_in x) (items_in_items xs)) refl
      (noted_append k j (flat x) (flat_items xs) _ _ _ _
      (node_noted k j x (and_parts _ _ h).0 (and_parts _ _ b).0 (front (flat x) (flat_items xs) a))
      (items_noted k (j + length (flat x)) xs (and_parts _ _ h).1 (and_parts _ _ b).1 (back (flat x) (flat_items xs) a)))

  pub pairs_noted : (k : Known) (j : ℕ) (ps : Pairs) → pairs_are_placed ps ≡ true → keys_begin_in_pairs ps ≡ true → Among k.work.reading.events (flat_pairs ps) j
      → EventsPrinted k j (flat_pairs ps) (items_in_pairs ps) (leaves_of_pairs ps)
  pairs_noted k j no_pairs h b a = noted_none k j
  pairs_noted k j (pair x y ps) h b a =
      let ha = and_parts (is_placed x) (is_placed y && pairs_are_placed ps) h in
      let hb = and_parts (is_placed y) (pairs_are_placed ps) ha.1 in
      let ba = and_parts (keys_begin x) (no_entry (standing y).entry && (keys_begin y && keys_begin_in_pairs ps)) b in
      let bb = and_parts (no_entry (standing y).entry) (keys_begin y && keys_begin_in_pairs ps) ba.1 in
      let bc = and_parts (keys_begin y) (keys_begin_in_pairs ps) bb.1 in
      let rest = back (flat x) (flat y ++ flat_pairs ps) a in
      let none : entry_start y ≡ [] = nothing_begun (standing y).entry bb.0 in
      noted_same k j (flat_pairs (pair x y ps)) ((entry_start x ++ items_in x) ++ ((entry_start y ++ items_in y) ++ items_in_pairs ps)) _ _ _
      (append_assoc (entry_start x) (items_in x) ((entry_start y ++ items_in y) ++ items_in_pairs ps)
      ∙ ap (λ w. entry_start x ++ (items_in x ++ ((w ++ items_in y) ++ items_in_pairs ps))) none) refl
      (noted_append k j (flat x) (flat y ++ flat_pairs ps) _ _ _ _
      (node_noted k j x ha.0 ba.0 (front (flat x) (flat y ++ flat_pairs ps) a))
      (noted_append k (j + length (flat x)) (flat y) (flat_pairs ps) _ _ _ _
      (node_noted k (j + length (flat x)) y hb.0 bc.0 (front (flat y) (flat_pairs ps) rest))
      (pairs_noted k (j + length (flat x) + length (flat y)) ps hb.1 bc.1 (back (flat y) (flat_pairs ps) rest))))
