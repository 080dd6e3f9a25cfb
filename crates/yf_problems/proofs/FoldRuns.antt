-- The parts that the pass finds in trees.
use Rattle.std.proofs.Common.{◌≡◌, ℕ, List, [], ◌∷◌, ◌++◌, Option, None, refl, sym, ap, ◌∙◌, append_assoc}
use Rattle.std.specs.Prelude.{flat_map}
use Rattle.std.proofs.lemmas.List.{append-nil}
use Rattle.yf_events.specs.Event.{EventInText, sequence_ends, mapping_ends, document_ends, stream_ends}
use Rattle.yf_events.specs.Tree.{Node, scalar, alias, sequence, mapping, Items, no_items, item, Pairs, no_pairs, pair, DocumentTree, flat, flat_items, flat_pairs, flat_document, flat_stream, unplaced}
use Rattle.yf_problems.specs.FoldPass.{run}
use Rattle.yf_problems.specs.Folds.{after_node, document_parts, entry_start, item_parts, node_parts, pair_parts, part_of}
use Rattle.yf_problems.specs.Folds.{root_part, root_parts}

-- the start of the last entry after all items, or all pairs
abbrev after_items : Option ℕ → Items → Option ℕ
after_items before no_items = before
after_items before (item x xs) = after_items (after_node before x) xs

abbrev after_pairs : Option ℕ → Pairs → Option ℕ
after_pairs before no_pairs = before
after_pairs before (pair k v ps) = after_pairs (after_node (after_node before k) v) ps

mutual
  run_node : (t : List ℕ) (x : Node) (b : Option ℕ) (st : List (Option ℕ)) (rest : List EventInText)
      → run t (b ∷ st) (flat x ++ rest) ≡ node_parts t b x ++ run t (after_node b x ∷ st) rest
  run_node t (scalar at props style text lines) b st rest = refl
  run_node t (alias at name) b st rest = refl
  run_node t (sequence at flow props items) b st rest =
      let end = unplaced sequence_ends in
      let P = part_of t (entry_start b at.entry) at.span in
      let opened = entry_start b at.entry ∷ st in
      ap (λ es. P ++ run t (None ∷ opened) es) (append_assoc (flat_items items) (end ∷ []) rest)
      ∙ ap (λ ys. P ++ ys) (run_items t items None opened (end ∷ rest))
      ∙ sym (append_assoc P (item_parts t None items) (run t opened rest))
  run_node t (mapping at flow props pairs) b st rest =
      let end = unplaced mapping_ends in
      let P = part_of t (entry_start b at.entry) at.span in
      let opened = entry_start b at.entry ∷ st in
      ap (λ es. P ++ run t (None ∷ opened) es) (append_assoc (flat_pairs pairs) (end ∷ []) rest)
      ∙ ap (λ ys. P ++ ys) (run_pairs t pairs None opened (end ∷ rest))
      ∙ sym (append_assoc P (pair_parts t None pairs) (run t opened rest))

  run_items : (t : List ℕ) (xs : Items) (b : Option ℕ) (st : List (Option ℕ)) (rest : List EventInText)
      → run t (b ∷ st) (flat_items xs ++ rest) ≡ item_parts t b xs ++ run t (after_items b xs ∷ st) rest
  run_items t no_items b st rest = refl
  run_items t (item x xs) b st rest =
      let c = after_node b x in
      ap (λ es. run t (b ∷ st) es) (append_assoc (flat x) (flat_items xs) rest)
      ∙ run_node t x b st (flat_items xs ++ rest)
      ∙ ap (λ ys. node_parts t b x ++ ys) (run_items t xs c st rest)
      ∙ sym (append_assoc (node_parts t b x) (item_parts t c xs) (run t (after_items c xs ∷ st) rest))

  run_pairs : (t : List ℕ) (ps : Pairs) (b : Option ℕ) (st : List (Option ℕ)) (rest : List EventInText)
      → run t (b ∷ st) (flat_pairs ps ++ rest) ≡ pair_parts t b ps ++ run t (after_pairs b ps ∷ st) rest
  run_pairs t no_pairs b st rest = refl
  run_pairs t (pair k v ps) b st rest =
      let c = after_node b k in
      let d = after_node c v in
      let tail = flat_pairs ps ++ rest in
      let K = node_parts t b k in
      let V = node_parts t c v in
      let R = run t (after_pairs d ps ∷ st) rest in
      ap (λ es. run t (b ∷ st) es) (append_assoc (flat k) (flat v ++ flat_pairs ps) rest
      ∙ ap (λ es. flat k ++ es) (append_assoc (flat v) (flat_pairs ps) rest))
      ∙ run_node t k b st (flat v ++ tail)
      ∙ ap (λ ys. K ++ ys) (run_node t v c st tail)
      ∙ ap (λ ys. K ++ (V ++ ys)) (run_pairs t ps d st rest)
      ∙ ap (λ ys. K ++ ys) (sym (append_assoc V (pair_parts t d ps) R))
      ∙ sym (append_assoc K (V ++ pair_parts t d ps) R)

run_root : (t : List ℕ) (x : Node) (rest : List EventInText)
    → run t [] (flat x ++ rest) ≡ root_parts t x ++ run t [] rest
run_root t (scalar at props style text lines) rest = refl
run_root t (alias at name) rest = refl
run_root t (sequence at flow props items) rest =
    let end = unplaced sequence_ends in
    let P = root_part t flow (entry_start None at.entry) at.span in
    ap (λ es. P ++ run t (None ∷ []) es) (append_assoc (flat_items items) (end ∷ []) rest)
    ∙ ap (λ ys. P ++ ys) (run_items t items None [] (end ∷ rest))
    ∙ sym (append_assoc P (item_parts t None items) (run t [] rest))
run_root t (mapping at flow props pairs) rest =
    let end = unplaced mapping_ends in
    let P = root_part t flow (entry_start None at.entry) at.span in
    ap (λ es. P ++ run t (None ∷ []) es) (append_assoc (flat_pairs pairs) (end ∷ []) rest)
    ∙ ap (λ ys. P ++ ys) (run_pairs t pairs None [] (end ∷ rest))
    ∙ sym (append_assoc P (pair_parts t None pairs) (run t [] rest))

run_documents : (t : List ℕ) (ds : List DocumentTree) (rest : List EventInText)
    → run t [] (flat_map flat_document ds ++ rest) ≡ flat_map (document_parts t) ds ++ run t [] rest
run_documents t [] rest = refl
run_documents t (d ∷ ds) rest =
    let end = unplaced (document_ends d.closed) in
    let more = flat_map flat_document ds in
    let x = d.root in
    ap (λ es. run t [] es) (append_assoc (flat_document d) more rest)
    ∙ ap (λ es. run t [] es) (append_assoc (flat x) (end ∷ []) (more ++ rest))
    ∙ run_root t x (end ∷ (more ++ rest))
    ∙ ap (λ ys. root_parts t x ++ ys) (run_documents t ds rest)
    ∙ sym (append_assoc (root_parts t x) (flat_map (document_parts t) ds) (run t [] rest))

pub run_stream : (t : List ℕ) (ds : List DocumentTree) → run t [] (flat_stream ds) ≡ flat_map (document_parts t) ds
run_stream t ds = run_documents t ds (unplaced stream_ends ∷ []) ∙ append-nil (flat_map (document_parts t) ds)
