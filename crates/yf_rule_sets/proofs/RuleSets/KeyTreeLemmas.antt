-- Laws of the findings of the pass in trees.
use Rattle.std.proofs.Common.{◌≡◌, ℕ, ◌+◌, Bool, true, false, List, [], ◌∷◌, ◌++◌, Option, Some, None, length, refl, sym, ap, ◌∙◌, append_assoc, arith}
use Rattle.std.specs.Prelude.{not, flat_map}
use Rattle.std.proofs.lemmas.List.{append-nil, length-append}
use Rattle.yf_events.specs.Event.{EventInText, sequence_ends, mapping_ends, document_ends, stream_ends}
use Rattle.yf_events.specs.Tree.{Node, scalar, alias, sequence, mapping, Items, no_items, item, Pairs, no_pairs, pair, DocumentTree, flat, flat_items, flat_pairs, flat_document, flat_stream, unplaced}
use Rattle.yf_rule_sets.specs.Passes.KeyPass.{KeyValue, OpenCollection, add_key, after, found_in, found_in_documents, found_in_items, found_in_pairs, is_known, is_known_in, key_of, run, offset_if}
use Rattle.yf_rule_sets.specs.RuleSets.Nodes.{key_place}

-- an open sequence; an open mapping, before a key and before a value
abbrev Seq : Bool → List KeyValue → OpenCollection
Seq b ks = record { is_map = false; at_value = b; keys = ks }

abbrev Map : Bool → List KeyValue → OpenCollection
Map b ks = record { is_map = true; at_value = b; keys = ks }

-- `at_value` of a sequence has no meaning
abbrev flips : Bool → Items → Bool
flips b no_items = b
flips b (item x xs) = flips (not b) xs

abbrev all_keys : List (Option (List ℕ)) → ℕ → List KeyValue → Pairs → List KeyValue
all_keys tags i ks no_pairs = ks
all_keys tags i ks (pair k v ps) = all_keys tags (i + length (flat k) + length (flat v)) (add_key (key_of tags i k) ks) ps

no_key_in_sequence : (w : Option KeyValue) (b : Bool) (ks : List KeyValue) (st : List OpenCollection) → is_known_in w (Seq b ks ∷ st) ≡ false
no_key_in_sequence None b ks st = refl
no_key_in_sequence (Some w) b ks st = refl

key_in_mapping : (w : Option KeyValue) (ks : List KeyValue) (st : List OpenCollection) → is_known_in w (Map false ks ∷ st) ≡ is_known w ks
key_in_mapping None ks st = refl
key_in_mapping (Some w) ks st = refl

no_key_as_value : (w : Option KeyValue) (ks : List KeyValue) (st : List OpenCollection) → is_known_in w (Map true ks ∷ st) ≡ false
no_key_as_value None ks st = refl
no_key_as_value (Some w) ks st = refl

mutual
  run_node : (x : Node) (tags : List (Option (List ℕ))) (i : ℕ) (st : List OpenCollection) (rest : List EventInText)
      → run tags i st (flat x ++ rest)
      ≡ offset_if (is_known_in (key_of tags i x) st) (key_place x) ++ (found_in tags i x ++ run tags (i + length (flat x)) (after (key_of tags i x) st) rest)
  run_node (scalar at props style text lines) tags i st rest = refl
  run_node (alias at name) tags i st rest = refl
  run_node (sequence at flow props items) tags i st rest =
      let end = unplaced sequence_ends in
      let a = ap (λ es. run tags (i + 1) (Seq false [] ∷ after None st) es) (append_assoc (flat_items items) (end ∷ []) rest) in
      let b = run_items items tags (i + 1) false [] (after None st) (end ∷ rest) in
      let n : i + 1 + length (flat_items items) + 1 ≡ i + length (flat (sequence at flow props items)) =
      let l = length-append (flat_items items) (end ∷ []) in omega (arith, l) in
      a ∙ b ∙ ap (λ k. found_in_items tags (i + 1) items ++ run tags k (after None st) rest) n
  run_node (mapping at flow props pairs) tags i st rest =
      let end = unplaced mapping_ends in
      let a = ap (λ es. run tags (i + 1) (Map false [] ∷ after None st) es) (append_assoc (flat_pairs pairs) (end ∷ []) rest) in
      let b = run_pairs pairs tags (i + 1) [] (after None st) (end ∷ rest) in
      let n : i + 1 + length (flat_pairs pairs) + 1 ≡ i + length (flat (mapping at flow props pairs)) =
      let l = length-append (flat_pairs pairs) (end ∷ []) in omega (arith, l) in
      a ∙ b ∙ ap (λ k. found_in_pairs tags (i + 1) [] pairs ++ run tags k (after None st) rest) n

  run_items : (xs : Items) (tags : List (Option (List ℕ))) (i : ℕ) (b : Bool) (ks : List KeyValue) (st : List OpenCollection) (rest : List EventInText)
      → run tags i (Seq b ks ∷ st) (flat_items xs ++ rest) ≡ found_in_items tags i xs ++ run tags (i + length (flat_items xs)) (Seq (flips b xs) ks ∷ st) rest
  run_items no_items tags i b ks st rest = ap (λ k. run tags k (Seq b ks ∷ st) rest) (let z : i ≡ i + 0 = omega arith in z)
  run_items (item x xs) tags i b ks st rest =
      let j = i + length (flat x) in
      let s = Seq b ks ∷ st in
      let a = ap (λ es. run tags i s es) (append_assoc (flat x) (flat_items xs) rest) in
      let n = run_node x tags i s (flat_items xs ++ rest) in
      let z = ap (λ y. offset_if y (key_place x) ++ (found_in tags i x ++ run tags j (Seq (not b) ks ∷ st) (flat_items xs ++ rest))) (no_key_in_sequence (key_of tags i x) b ks st) in
      let h = ap (λ ys. found_in tags i x ++ ys) (run_items xs tags j (not b) ks st rest) in
      let g = sym (append_assoc (found_in tags i x) (found_in_items tags j xs) (run tags (j + length (flat_items xs)) (Seq (flips (not b) xs) ks ∷ st) rest)) in
      let m : j + length (flat_items xs) ≡ i + length (flat x ++ flat_items xs) = let l = length-append (flat x) (flat_items xs) in omega (arith, l) in
      a ∙ n ∙ z ∙ h ∙ g ∙ ap (λ k. (found_in tags i x ++ found_in_items tags j xs) ++ run tags k (Seq (flips (not b) xs) ks ∷ st) rest) m

  run_pairs : (ps : Pairs) (tags : List (Option (List ℕ))) (i : ℕ) (ks : List KeyValue) (st : List OpenCollection) (rest : List EventInText)
      → run tags i (Map false ks ∷ st) (flat_pairs ps ++ rest)
      ≡ found_in_pairs tags i ks ps ++ run tags (i + length (flat_pairs ps)) (Map false (all_keys tags i ks ps) ∷ st) rest
  run_pairs no_pairs tags i ks st rest = ap (λ k. run tags k (Map false ks ∷ st) rest) (let z : i ≡ i + 0 = omega arith in z)
  run_pairs (pair k v ps) tags i ks st rest =
      let w = key_of tags i k in
      let us = add_key w ks in
      let j = i + length (flat k) in
      let h = j + length (flat v) in
      let s = Map false ks ∷ st in
      let t = Map true us ∷ st in
      let K = offset_if (is_known w ks) (key_place k) in
      let X = found_in tags i k in
      let Y = found_in tags j v in
      let Z = found_in_pairs tags h us ps in
      let R = run tags (h + length (flat_pairs ps)) (Map false (all_keys tags h us ps) ∷ st) rest in
      let tail = flat_pairs ps ++ rest in
      let a = ap (λ es. run tags i s es) (append_assoc (flat k) (flat v ++ flat_pairs ps) rest ∙ ap (λ es. flat k ++ es) (append_assoc (flat v) (flat_pairs ps) rest)) in
      let b = run_node k tags i s (flat v ++ tail) in
      let c = ap (λ y. offset_if y (key_place k) ++ (X ++ run tags j t (flat v ++ tail))) (key_in_mapping w ks st) in
      let d = run_node v tags j t tail in
      let e = ap (λ y. offset_if y (key_place v) ++ (Y ++ run tags h (Map false us ∷ st) tail)) (no_key_as_value (key_of tags j v) us st) in
      let f = ap (λ ys. Y ++ ys) (run_pairs ps tags h us st rest) in
      let m : h + length (flat_pairs ps) ≡ i + length (flat k ++ (flat v ++ flat_pairs ps)) =
      let l = length-append (flat k) (flat v ++ flat_pairs ps) in let n = length-append (flat v) (flat_pairs ps) in omega (arith, l, n) in
      a ∙ b ∙ c ∙ ap (λ ys. K ++ (X ++ ys)) (d ∙ e ∙ f) ∙ regroup K X Y Z R
      ∙ ap (λ n. (K ++ (X ++ (Y ++ Z))) ++ run tags n (Map false (all_keys tags h us ps) ∷ st) rest) m
    where
      regroup : (p q r s t : List ℕ) → p ++ (q ++ (r ++ (s ++ t))) ≡ (p ++ (q ++ (r ++ s))) ++ t
      regroup p q r s t =
          ap (λ z. p ++ (q ++ z)) (sym (append_assoc r s t)) ∙ ap (λ z. p ++ z) (sym (append_assoc q (r ++ s) t)) ∙ sym (append_assoc p (q ++ (r ++ s)) t)

-- the whole stream
run_documents : (ds : List DocumentTree) (tags : List (Option (List ℕ))) (i : ℕ) (rest : List EventInText)
    → run tags i [] (flat_map flat_document ds ++ rest) ≡ found_in_documents tags i ds ++ run tags (i + length (flat_map flat_document ds)) [] rest
run_documents [] tags i rest = ap (λ k. run tags k [] rest) (let z : i ≡ i + 0 = omega arith in z)
run_documents (d ∷ ds) tags i rest =
    let end = unplaced (document_ends d.closed) in
    let more = flat_map flat_document ds in
    let x = flat d.root in
    let a : run tags i [] ((flat_document d ++ more) ++ rest) ≡ run tags (i + 1) [] (x ++ (end ∷ (more ++ rest))) =
    ap (λ es. run tags i [] es) (append_assoc (flat_document d) more rest) ∙ ap (λ es. run tags (i + 1) [] es) (append_assoc x (end ∷ []) (more ++ rest)) in
    let b = run_node d.root tags (i + 1) [] (end ∷ (more ++ rest)) in
    let z = ap (λ y. offset_if y (key_place d.root) ++ (found_in tags (i + 1) d.root ++ run tags (i + 1 + length x + 1) [] (more ++ rest))) (nothing_open (key_of tags (i + 1) d.root)) in
    let o = ap (λ st. offset_if (is_known_in (key_of tags (i + 1) d.root) []) (key_place d.root) ++ (found_in tags (i + 1) d.root ++ run tags (i + 1 + length x) st (end ∷ (more ++ rest)))) (still_none (key_of tags (i + 1) d.root)) in
    let m : i + 1 + length x + 1 ≡ i + length (flat_document d) = let l = length-append x (end ∷ []) in omega (arith, l) in
    let n : i + length (flat_document d) + length more ≡ i + length (flat_document d ++ more) = let l = length-append (flat_document d) more in omega (arith, l) in
    a ∙ b ∙ o ∙ z ∙ ap (λ k. found_in tags (i + 1) d.root ++ run tags k [] (more ++ rest)) m
    ∙ ap (λ ys. found_in tags (i + 1) d.root ++ ys) (run_documents ds tags (i + length (flat_document d)) rest)
    ∙ sym (append_assoc (found_in tags (i + 1) d.root) (found_in_documents tags (i + length (flat_document d)) ds) (run tags (i + length (flat_document d) + length more) [] rest))
    ∙ ap (λ k. (found_in tags (i + 1) d.root ++ found_in_documents tags (i + length (flat_document d)) ds) ++ run tags k [] rest) n
  where
    nothing_open : (w : Option KeyValue) → is_known_in w [] ≡ false
    nothing_open None = refl
    nothing_open (Some w) = refl

    still_none : (w : Option KeyValue) → after w [] ≡ []
    still_none w = refl

pub run_stream : (ds : List DocumentTree) (tags : List (Option (List ℕ))) → run tags 0 [] (flat_stream ds) ≡ found_in_documents tags 1 ds
run_stream ds tags = run_documents ds tags 1 (unplaced stream_ends ∷ []) ∙ append-nil (found_in_documents tags 1 ds)
