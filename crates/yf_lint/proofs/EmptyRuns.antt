-- The keys and items without a value that the pass finds in trees.
use Rattle.std.proofs.Common.{◌≡◌, ℕ, Bool, true, false, List, [], ◌∷◌, ◌++◌, refl, sym, ap, ◌∙◌, append_assoc}
use Rattle.std.specs.Prelude.{flat_map, not, if◌then◌else◌}
use Rattle.std.proofs.lemmas.List.{append-nil}
use Rattle.yf_events.specs.Event.{EventInText, sequence_ends, mapping_ends, document_ends, stream_ends}
use Rattle.yf_events.specs.Tree.{Node, scalar, alias, sequence, mapping, Items, no_items, item, Pairs, no_pairs, pair, DocumentTree, flat, flat_items, flat_pairs, flat_document, flat_stream, unplaced}
use Rattle.yf_guard.specs.Guards.{is_empty}
use Rattle.yf_lint.specs.EmptyPass.{after, found_at, opened, run}
use Rattle.yf_lint.specs.EmptyValues.{empty_items, empty_pairs, empty_values, empty_values_of, node_start, offset_if, start_of}
use Rattle.yf_lint.specs.declared.empty_values.OpenEntries.{OpenEntries}

-- a sequence, and a mapping before a key
abbrev Seq : Bool → ℕ → OpenEntries
Seq at_value key = record { is_map = false; at_value = at_value; key_start = key }

abbrev Map : ℕ → OpenEntries
Map key = record { is_map = true; at_value = false; key_start = key }

abbrev after_items : Items → Bool → ℕ → OpenEntries
after_items no_items at_value key = Seq at_value key
after_items (item x xs) at_value key = after_items xs (not at_value) (if at_value then key else node_start x)

abbrev after_pairs : Pairs → ℕ → OpenEntries
after_pairs no_pairs key = Map key
after_pairs (pair k v ps) key = after_pairs ps (node_start k)

regroup : (p q r s t : List ℕ) → p ++ (q ++ (r ++ (s ++ t))) ≡ (p ++ (q ++ (r ++ s))) ++ t
regroup p q r s t =
    ap (λ z. p ++ (q ++ z)) (sym (append_assoc r s t)) ∙ ap (λ z. p ++ z) (sym (append_assoc q (r ++ s) t)) ∙ sym (append_assoc p (q ++ (r ++ s)) t)

mutual
  run_node : (x : Node) (st : List OpenEntries) (rest : List EventInText)
      → run st (flat x ++ rest) ≡ found_at (is_empty x) (node_start x) st ++ (empty_values x ++ run (after (node_start x) st) rest)
  run_node (scalar at props style text lines) st rest = refl
  run_node (alias at name) st rest = refl
  run_node (sequence at flow props items) st rest =
      let end = unplaced sequence_ends in
      let n = start_of at.span at.entry in
      ap (λ es. found_at false n st ++ run (opened false ∷ after n st) es) (append_assoc (flat_items items) (end ∷ []) rest)
      ∙ ap (λ ys. found_at false n st ++ ys) (run_items items false 0 (after n st) (end ∷ rest))
  run_node (mapping at flow props pairs) st rest =
      let end = unplaced mapping_ends in
      let n = start_of at.span at.entry in
      ap (λ es. found_at false n st ++ run (opened true ∷ after n st) es) (append_assoc (flat_pairs pairs) (end ∷ []) rest)
      ∙ ap (λ ys. found_at false n st ++ ys) (run_pairs pairs 0 (after n st) (end ∷ rest))

  run_items : (xs : Items) (b : Bool) (key : ℕ) (st : List OpenEntries) (rest : List EventInText)
      → run (Seq b key ∷ st) (flat_items xs ++ rest) ≡ empty_items xs ++ run (after_items xs b key ∷ st) rest
  run_items no_items b key st rest = refl
  run_items (item x xs) b key st rest =
      let c = Seq b key in
      let n = node_start x in
      let O = offset_if (is_empty x) n in
      let R = run (after_items xs (not b) (if b then key else n) ∷ st) rest in
      ap (λ es. run (c ∷ st) es) (append_assoc (flat x) (flat_items xs) rest) ∙ run_node x (c ∷ st) (flat_items xs ++ rest)
      ∙ ap (λ ys. O ++ (empty_values x ++ ys)) (run_items xs (not b) (if b then key else n) st rest)
      ∙ ap (λ ys. O ++ ys) (sym (append_assoc (empty_values x) (empty_items xs) R)) ∙ sym (append_assoc O (empty_values x ++ empty_items xs) R)

  run_pairs : (ps : Pairs) (key : ℕ) (st : List OpenEntries) (rest : List EventInText)
      → run (Map key ∷ st) (flat_pairs ps ++ rest) ≡ empty_pairs ps ++ run (after_pairs ps key ∷ st) rest
  run_pairs no_pairs key st rest = refl
  run_pairs (pair k v ps) key st rest =
      let n = node_start k in
      let d : OpenEntries = record { is_map = true; at_value = true; key_start = n } in
      let O = offset_if (is_empty v) n in
      let tail = flat_pairs ps ++ rest in
      ap (λ es. run (Map key ∷ st) es) (append_assoc (flat k) (flat v ++ flat_pairs ps) rest ∙ ap (λ es. flat k ++ es) (append_assoc (flat v) (flat_pairs ps) rest))
      ∙ run_node k (Map key ∷ st) (flat v ++ tail)
      ∙ ap (λ ys. empty_values k ++ ys) (run_node v (d ∷ st) tail)
      ∙ ap (λ ys. empty_values k ++ (O ++ (empty_values v ++ ys))) (run_pairs ps n st rest)
      ∙ regroup (empty_values k) O (empty_values v) (empty_pairs ps) (run (after_pairs ps n ∷ st) rest)

run_documents : (ds : List DocumentTree) (rest : List EventInText)
    → run [] (flat_map flat_document ds ++ rest) ≡ flat_map empty_values_of ds ++ run [] rest
run_documents [] rest = refl
run_documents (d ∷ ds) rest =
    let end = unplaced (document_ends d.closed) in
    let more = flat_map flat_document ds in
    let x = d.root in
    ap (λ es. run [] es) (append_assoc (flat_document d) more rest)
    ∙ ap (λ es. run [] es) (append_assoc (flat x) (end ∷ []) (more ++ rest))
    ∙ run_node x [] (end ∷ (more ++ rest))
    ∙ ap (λ ys. empty_values x ++ ys) (run_documents ds rest)
    ∙ sym (append_assoc (empty_values x) (flat_map empty_values_of ds) (run [] rest))

pub run_stream : (ds : List DocumentTree) → run [] (flat_stream ds) ≡ flat_map empty_values_of ds
run_stream ds = run_documents ds (unplaced stream_ends ∷ []) ∙ append-nil (flat_map empty_values_of ds)
