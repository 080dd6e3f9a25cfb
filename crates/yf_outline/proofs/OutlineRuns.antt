-- The parts that the pass finds in trees.
use Rattle.std.proofs.Common.{◌≡◌, ℕ, Bool, List, [], ◌∷◌, ◌++◌, refl, sym, ap, ◌∙◌, append_assoc}
use Rattle.std.specs.Prelude.{flat_map}
use Rattle.std.proofs.lemmas.List.{append-nil}
use Rattle.yf_events.specs.Event.{EventInText, sequence_ends, mapping_ends, document_ends, stream_ends}
use Rattle.yf_events.specs.Tree.{Node, scalar, alias, sequence, mapping, Items, no_items, item, Pairs, no_pairs, pair, DocumentTree, flat, flat_items, flat_pairs, flat_document, flat_stream, standing, unplaced}
use Rattle.yf_outline.specs.Outline.{deeper, document_parts, entry_part, item_parts, key_of, kind_of, node_parts, pair_parts, root_depth, root_part, shown}
use Rattle.yf_outline.specs.OutlinePass.{found_in, inner, run, turned}
use Rattle.yf_outline.specs.declared.outline.Frame.{Frame}
use Rattle.yf_outline.specs.declared.outline.Frame.TheVariants as Open
use Rattle.yf_outline.specs.declared.outline.TheConstants.{DEEPEST}
use Rattle.yf_server.specs.declared.analysis.PartKind.TheVariants.{Mapping, Sequence}

-- an entry that is too deep has no part, nor have those in it
mutual
  none_in : (t : List ℕ) (x : Node) → node_parts t DEEPEST x ≡ []
  none_in t (scalar at props style text lines) = refl
  none_in t (alias at name) = refl
  none_in t (sequence at flow props items) = none_in_items t items
  none_in t (mapping at flow props pairs) = none_in_pairs t pairs

  none_in_items : (t : List ℕ) (xs : Items) → item_parts t DEEPEST xs ≡ []
  none_in_items t no_items = refl
  none_in_items t (item x xs) =
      ap (λ ps. ps ++ item_parts t DEEPEST xs) (none_in t x) ∙ none_in_items t xs

  none_in_pairs : (t : List ℕ) (ps : Pairs) → pair_parts t DEEPEST ps ≡ []
  none_in_pairs t no_pairs = refl
  none_in_pairs t (pair k v ps) =
      ap (λ qs. qs ++ pair_parts t DEEPEST ps) (none_in t v) ∙ none_in_pairs t ps

mutual
  run_node : (t : List ℕ) (s : Bool) (x : Node) (f : Frame) (st : List Frame) (rest : List EventInText)
      → run t s (f ∷ st) (flat x ++ rest) ≡ found_in t f (kind_of x) (standing x).span (standing x).entry
      ++ (node_parts t (inner f) x ++ run t s (turned t f (standing x).span (standing x).entry ∷ st) rest)
  run_node t s (scalar at props style text lines) f st rest = refl
  run_node t s (alias at name) f st rest = refl
  run_node t s (sequence at flow props items) f st rest =
      let end = unplaced sequence_ends in
      let P = found_in t f Sequence at.span at.entry in
      let opened = turned t f at.span at.entry ∷ st in
      ap (λ es. P ++ run t s (Open.Items (inner f) ∷ opened) es) (append_assoc (flat_items items) (end ∷ []) rest)
      ∙ ap (λ ys. P ++ ys) (run_items t s items (inner f) opened (end ∷ rest))
  run_node t s (mapping at flow props pairs) f st rest =
      let end = unplaced mapping_ends in
      let P = found_in t f Mapping at.span at.entry in
      let opened = turned t f at.span at.entry ∷ st in
      ap (λ es. P ++ run t s (Open.Keys (inner f) ∷ opened) es) (append_assoc (flat_pairs pairs) (end ∷ []) rest)
      ∙ ap (λ ys. P ++ ys) (run_pairs t s pairs (inner f) opened (end ∷ rest))

  run_items : (t : List ℕ) (s : Bool) (xs : Items) (d : ℕ) (st : List Frame) (rest : List EventInText)
      → run t s (Open.Items d ∷ st) (flat_items xs ++ rest) ≡ item_parts t d xs ++ run t s (Open.Items d ∷ st) rest
  run_items t s no_items d st rest = refl
  run_items t s (item x xs) d st rest =
      let P = found_in t (Open.Items d) (kind_of x) (standing x).span (standing x).entry in
      let N = node_parts t (deeper d) x in
      let R = run t s (Open.Items d ∷ st) rest in
      ap (λ es. run t s (Open.Items d ∷ st) es) (append_assoc (flat x) (flat_items xs) rest)
      ∙ run_node t s x (Open.Items d) st (flat_items xs ++ rest)
      ∙ ap (λ ys. P ++ (N ++ ys)) (run_items t s xs d st rest)
      ∙ ap (λ ys. P ++ ys) (sym (append_assoc N (item_parts t d xs) R))
      ∙ sym (append_assoc P (N ++ item_parts t d xs) R)

  run_pairs : (t : List ℕ) (s : Bool) (ps : Pairs) (d : ℕ) (st : List Frame) (rest : List EventInText)
      → run t s (Open.Keys d ∷ st) (flat_pairs ps ++ rest) ≡ pair_parts t d ps ++ run t s (Open.Keys d ∷ st) rest
  run_pairs t s no_pairs d st rest = refl
  run_pairs t s (pair k v ps) d st rest =
      let key = key_of t (standing k).span (standing k).entry in
      let P = shown (entry_part t d (kind_of v) (standing v).span key) in
      let N = node_parts t (deeper d) v in
      let R = run t s (Open.Keys d ∷ st) rest in
      let tail = flat_pairs ps ++ rest in
      ap (λ es. run t s (Open.Keys d ∷ st) es) (append_assoc (flat k) (flat v ++ flat_pairs ps) rest
      ∙ ap (λ es. flat k ++ es) (append_assoc (flat v) (flat_pairs ps) rest))
      ∙ run_node t s k (Open.Keys d) st (flat v ++ tail)
      ∙ ap (λ ys. ys ++ run t s (Open.Value d key ∷ st) (flat v ++ tail)) (none_in t k)
      ∙ run_node t s v (Open.Value d key) st tail
      ∙ ap (λ ys. P ++ (N ++ ys)) (run_pairs t s ps d st rest)
      ∙ ap (λ ys. P ++ ys) (sym (append_assoc N (pair_parts t d ps) R))
      ∙ sym (append_assoc P (N ++ pair_parts t d ps) R)

run_root : (t : List ℕ) (s : Bool) (x : Node) (rest : List EventInText)
    → run t s [] (flat x ++ rest)
    ≡ root_part t s (standing x).span ++ (node_parts t (root_depth s) x ++ run t s [] rest)
run_root t s (scalar at props style text lines) rest = refl
run_root t s (alias at name) rest = refl
run_root t s (sequence at flow props items) rest =
    let end = unplaced sequence_ends in
    let P = root_part t s at.span in
    ap (λ es. P ++ run t s (Open.Items (root_depth s) ∷ []) es) (append_assoc (flat_items items) (end ∷ []) rest)
    ∙ ap (λ ys. P ++ ys) (run_items t s items (root_depth s) [] (end ∷ rest))
run_root t s (mapping at flow props pairs) rest =
    let end = unplaced mapping_ends in
    let P = root_part t s at.span in
    ap (λ es. P ++ run t s (Open.Keys (root_depth s) ∷ []) es) (append_assoc (flat_pairs pairs) (end ∷ []) rest)
    ∙ ap (λ ys. P ++ ys) (run_pairs t s pairs (root_depth s) [] (end ∷ rest))

run_documents : (t : List ℕ) (s : Bool) (ds : List DocumentTree) (rest : List EventInText)
    → run t s [] (flat_map flat_document ds ++ rest) ≡ flat_map (document_parts t s) ds ++ run t s [] rest
run_documents t s [] rest = refl
run_documents t s (d ∷ ds) rest =
    let end = unplaced (document_ends d.closed) in
    let more = flat_map flat_document ds in
    let x = d.root in
    let P = root_part t s (standing x).span in
    let N = node_parts t (root_depth s) x in
    let D = flat_map (document_parts t s) ds in
    let R = run t s [] rest in
    ap (λ es. run t s [] es) (append_assoc (flat_document d) more rest)
    ∙ ap (λ es. run t s [] es) (append_assoc (flat x) (end ∷ []) (more ++ rest))
    ∙ run_root t s x (end ∷ (more ++ rest))
    ∙ ap (λ ys. P ++ (N ++ ys)) (run_documents t s ds rest)
    ∙ ap (λ ys. P ++ ys) (sym (append_assoc N D R))
    ∙ sym (append_assoc P (N ++ D) R)
    ∙ ap (λ ys. ys ++ R) (sym (append_assoc P N D))

pub run_stream : (t : List ℕ) (s : Bool) (ds : List DocumentTree)
    → run t s [] (flat_stream ds) ≡ flat_map (document_parts t s) ds
run_stream t s ds =
    run_documents t s ds (unplaced stream_ends ∷ []) ∙ append-nil (flat_map (document_parts t s) ds)
