-- The ambiguous plain scalars that the pass finds in trees.
use Rattle.std.proofs.Common.{◌≡◌, ℕ, Bool, true, false, true≢false, List, [], ◌∷◌, ◌++◌, refl, sym, ap, ◌∙◌}
use Rattle.std.proofs.Common.{append_assoc}
use Rattle.std.specs.Prelude.{flat_map, not, ◌&&◌}
use Rattle.std.specs.List.{list_all}
use Rattle.std.proofs.lemmas.List.{append-nil}
use Rattle.std.proofs.lemmas.List.Folds.{list_all-append}
use Rattle.yf_events.specs.Event.{EventValue, EventInText, stream_starts, stream_ends, document_starts, document_ends}
use Rattle.yf_events.specs.Event.{sequence_starts, sequence_ends, mapping_starts, mapping_ends, scalar_node, alias_node}
use Rattle.yf_events.specs.Tree.{Node, scalar, alias, sequence, mapping, Items, no_items, item, Pairs, no_pairs, pair}
use Rattle.yf_events.specs.Tree.{DocumentTree, TreesOf, flat, flat_items, flat_pairs, flat_document, flat_stream}
use Rattle.yf_events.specs.Tree.{unplaced}
use Rattle.yf_events.specs.declared.lists.Lists.{Lists}
use Rattle.yf_lint.specs.AmbiguousPlains.{ambiguous_in, ambiguous_items, ambiguous_pairs, ambiguous_plains_of}
use Rattle.yf_lint.specs.AmbiguousPlains.{is_untagged_plain, plain_text, plain_texts, PlainsAgree, text_if}
use Rattle.yf_lint.specs.Anchors.{start_of}
use Rattle.yf_lint.specs.EmptyValues.{offset_if}
use Rattle.yf_lint.specs.PlainPass.{after, counts, found_by, next, run}
use Rattle.yf_lint.specs.declared.ambiguous_plains.NextNode.{NextNode}
use Rattle.yf_lint.specs.declared.ambiguous_plains.NextNode.TheVariants.{Item, Key, Value}
use Rattle.yf_types.specs.Values.{is_ambiguous, newer, older, same}

module _ (keys : Bool) where
  mutual
    run_node : (x : Node) (st : List NextNode) (rest : List EventInText)
        → run keys st (flat x ++ rest) ≡ ambiguous_in keys (counts keys st) x ++ run keys (after st) rest
    run_node (scalar at props style text lines) st rest = refl
    run_node (alias at name) st rest = refl
    run_node (sequence at flow props items) st rest =
        let end = unplaced sequence_ends in
        ap (λ es. run keys (Item ∷ after st) es) (append_assoc (flat_items items) (end ∷ []) rest)
        ∙ run_items items (after st) (end ∷ rest)
    run_node (mapping at flow props pairs) st rest =
        let end = unplaced mapping_ends in
        ap (λ es. run keys (Key ∷ after st) es) (append_assoc (flat_pairs pairs) (end ∷ []) rest)
        ∙ run_pairs pairs (after st) (end ∷ rest)

    run_items : (xs : Items) (st : List NextNode) (rest : List EventInText)
        → run keys (Item ∷ st) (flat_items xs ++ rest) ≡ ambiguous_items keys xs ++ run keys (Item ∷ st) rest
    run_items no_items st rest = refl
    run_items (item x xs) st rest =
        let A = ambiguous_in keys true x in
        ap (λ es. run keys (Item ∷ st) es) (append_assoc (flat x) (flat_items xs) rest)
        ∙ run_node x (Item ∷ st) (flat_items xs ++ rest)
        ∙ ap (λ ys. A ++ ys) (run_items xs st rest)
        ∙ sym (append_assoc A (ambiguous_items keys xs) (run keys (Item ∷ st) rest))

    run_pairs : (ps : Pairs) (st : List NextNode) (rest : List EventInText)
        → run keys (Key ∷ st) (flat_pairs ps ++ rest) ≡ ambiguous_pairs keys ps ++ run keys (Key ∷ st) rest
    run_pairs no_pairs st rest = refl
    run_pairs (pair k v ps) st rest =
        let A = ambiguous_in keys keys k in
        let B = ambiguous_in keys true v in
        let C = ambiguous_pairs keys ps in
        let R = run keys (Key ∷ st) rest in
        ap (λ es. run keys (Key ∷ st) es)
        (append_assoc (flat k) (flat v ++ flat_pairs ps) rest
        ∙ ap (λ es. flat k ++ es) (append_assoc (flat v) (flat_pairs ps) rest))
        ∙ run_node k (Key ∷ st) (flat v ++ (flat_pairs ps ++ rest))
        ∙ ap (λ ys. A ++ ys) (run_node v (Value ∷ st) (flat_pairs ps ++ rest))
        ∙ ap (λ ys. A ++ (B ++ ys)) (run_pairs ps st rest)
        ∙ ap (λ ys. A ++ ys) (sym (append_assoc B C R)) ∙ sym (append_assoc A (B ++ C) R)

  run_documents : (ds : List DocumentTree) (rest : List EventInText)
      → run keys [] (flat_map flat_document ds ++ rest) ≡ flat_map (ambiguous_plains_of keys) ds ++ run keys [] rest
  run_documents [] rest = refl
  run_documents (d ∷ ds) rest =
      let end = unplaced (document_ends d.closed) in
      let more = flat_map flat_document ds in
      let x = d.root in
      ap (λ es. run keys [] es) (append_assoc (flat_document d) more rest)
      ∙ ap (λ es. run keys [] es) (append_assoc (flat x) (end ∷ []) (more ++ rest))
      ∙ run_node x [] (end ∷ (more ++ rest))
      ∙ ap (λ ys. ambiguous_in keys true x ++ ys) (run_documents ds rest)
      ∙ sym (append_assoc (ambiguous_in keys true x) (flat_map (ambiguous_plains_of keys) ds) (run keys [] rest))

  pub run_stream : (ds : List DocumentTree) → run keys [] (flat_stream ds) ≡ flat_map (ambiguous_plains_of keys) ds
  run_stream ds = run_documents ds (unplaced stream_ends ∷ []) ∙ append-nil (flat_map (ambiguous_plains_of keys) ds)

-- A pass that finds nothing.

both_empty : (xs ys : List ℕ) → xs ++ ys ≡ [] → (xs ≡ []) × (ys ≡ [])
both_empty [] ys e = (refl, e)
both_empty (x ∷ xs) ys e = absurd cc

all_count : (st : List NextNode) → counts true st ≡ true
all_count [] = refl
all_count (Item ∷ st) = refl
all_count (Key ∷ st) = refl
all_count (Value ∷ st) = refl

abbrev agree : List ℕ → Bool
agree t = same (older t) (newer t)

quiet_text : (c p : Bool) (text : List ℕ) (start : ℕ) → c ≡ true → offset_if (c && (p && is_ambiguous text)) start ≡ []
    → list_all agree (text_if p text) ≡ true
quiet_text true false text start f e = refl
quiet_text true true text start f e = by (agree text) e refl where
  by : (v : Bool) → offset_if (not v) start ≡ [] → agree text ≡ v → (v && true) ≡ true
  by true g h = refl
  by false g h = absurd cc
quiet_text false p text start f e = absurd (true≢false (sym f))

quiet_event : (x : EventValue) (start : ℕ) (st : List NextNode) → found_by true x start st ≡ []
    → list_all agree (plain_text x) ≡ true
quiet_event stream_starts start st e = refl
quiet_event stream_ends start st e = refl
quiet_event (document_starts marked) start st e = refl
quiet_event (document_ends marked) start st e = refl
quiet_event (sequence_starts flow props) start st e = refl
quiet_event sequence_ends start st e = refl
quiet_event (mapping_starts flow props) start st e = refl
quiet_event mapping_ends start st e = refl
quiet_event (scalar_node props style text) start st e =
    quiet_text (counts true st) (is_untagged_plain props style) text start (all_count st) e
quiet_event (alias_node name) start st e = refl

quiet : (st : List NextNode) (es : List EventInText) → run true st es ≡ [] → PlainsAgree es
quiet st [] e = refl
quiet st (x ∷ es) e =
    let w = both_empty (found_by true x.event (start_of x.span) st) (run true (next x.event st) es) e in
    list_all-append agree (plain_text x.event) (plain_texts es)
    ∙ rw (quiet_event x.event (start_of x.span) st w.0, quiet (next x.event st) es w.1) refl

pub agree_if_quiet : (r : Lists) (trees : List DocumentTree) → TreesOf r trees
    → flat_map (ambiguous_plains_of true) trees ≡ [] → PlainsAgree r.events
agree_if_quiet r trees w e = quiet [] r.events (ap (run true []) w.events ∙ run_stream true trees ∙ e)
