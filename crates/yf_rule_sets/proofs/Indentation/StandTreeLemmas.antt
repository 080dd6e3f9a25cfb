-- Laws of the pass on the nodes of trees.
use Rattle.std.proofs.Common.{◌≡◌, ℕ, ◌+◌, Bool, true, false, List, [], ◌∷◌, ◌++◌, Option, length, refl, sym, ap, ◌∙◌, append_assoc, arith}
use Rattle.std.specs.Prelude.{flat_map}
use Rattle.std.proofs.lemmas.List.{append-nil, length-append}
use Rattle.yf_events.specs.Event.{EventInText, sequence_ends, mapping_ends, document_ends, stream_ends}
use Rattle.yf_events.specs.Tree.{Node, scalar, alias, sequence, mapping, Items, no_items, item, Pairs, no_pairs, pair, DocumentTree, flat, flat_items, flat_pairs, flat_document, flat_stream, unplaced}
use Rattle.yf_rule_sets.specs.Passes.NodeContexts.{Stood, after, beside, held, opened, outer, past, run, stood, stood_in, stood_in_documents, stood_in_items, stood_in_pairs}
use Rattle.yf_rule_sets.specs.declared.facts.node_context.Around.TheVariants.{Nothing}
use Rattle.yf_rule_sets.specs.declared.facts.node_context.ContextFrame.{ContextFrame}

mutual
  run_node : (x : Node) (c : ℕ → Option ℕ) (m : ℕ → Bool) (i : ℕ) (st : List ContextFrame) (rest : List EventInText)
      → run c m i st (flat x ++ rest) ≡ stood_in c m i (outer st) (beside st) x ++ run c m (i + length (flat x)) (after (m i) st) rest
  run_node (scalar at props style text lines) c m i st rest = refl
  run_node (alias at name) c m i st rest = refl
  run_node (sequence at flow props items) c m i st rest =
      let end = unplaced sequence_ends in
      let s = opened false (c i) ∷ after (m i) st in
      let here = stood i (outer st) (beside st) in
      let a = ap (λ es. here ∷ run c m (i + 1) s es) (append_assoc (flat_items items) (end ∷ []) rest) in
      let b = run_items items c m (i + 1) (c i) (after (m i) st) (end ∷ rest) in
      let n : i + 1 + length (flat_items items) + 1 ≡ i + length (flat (sequence at flow props items)) =
      let l = length-append (flat_items items) (end ∷ []) in omega (arith, l) in
      a ∙ ap (λ ys. here ∷ ys) b ∙ ap (λ k. here ∷ (stood_in_items c m (i + 1) (held (c i)) items ++ run c m k (after (m i) st) rest)) n
  run_node (mapping at flow props pairs) c m i st rest =
      let end = unplaced mapping_ends in
      let s = opened true (c i) ∷ after (m i) st in
      let here = stood i (outer st) (beside st) in
      let a = ap (λ es. here ∷ run c m (i + 1) s es) (append_assoc (flat_pairs pairs) (end ∷ []) rest) in
      let b = run_pairs pairs c m (i + 1) (c i) (after (m i) st) (end ∷ rest) in
      let n : i + 1 + length (flat_pairs pairs) + 1 ≡ i + length (flat (mapping at flow props pairs)) =
      let l = length-append (flat_pairs pairs) (end ∷ []) in omega (arith, l) in
      a ∙ ap (λ ys. here ∷ ys) b ∙ ap (λ k. here ∷ (stood_in_pairs c m (i + 1) (held (c i)) pairs ++ run c m k (after (m i) st) rest)) n

  run_items : (xs : Items) (c : ℕ → Option ℕ) (m : ℕ → Bool) (i : ℕ) (o : Option ℕ) (st : List ContextFrame) (rest : List EventInText)
      → run c m i (opened false o ∷ st) (flat_items xs ++ rest) ≡ stood_in_items c m i (held o) xs ++ run c m (i + length (flat_items xs)) (opened false o ∷ st) rest
  run_items no_items c m i o st rest = ap (λ k. run c m k (opened false o ∷ st) rest) (let z : i ≡ i + 0 = omega arith in z)
  run_items (item x xs) c m i o st rest =
      let j = i + length (flat x) in
      let s = opened false o ∷ st in
      let X = stood_in c m i (held o) false x in
      let a = ap (λ es. run c m i s es) (append_assoc (flat x) (flat_items xs) rest) in
      let n = run_node x c m i s (flat_items xs ++ rest) in
      let h = ap (λ ys. X ++ ys) (run_items xs c m j o st rest) in
      let g = sym (append_assoc X (stood_in_items c m j (held o) xs) (run c m (j + length (flat_items xs)) s rest)) in
      let e : j + length (flat_items xs) ≡ i + length (flat x ++ flat_items xs) = let l = length-append (flat x) (flat_items xs) in omega (arith, l) in
      a ∙ n ∙ h ∙ g ∙ ap (λ k. (X ++ stood_in_items c m j (held o) xs) ++ run c m k s rest) e

  run_pairs : (ps : Pairs) (c : ℕ → Option ℕ) (m : ℕ → Bool) (i : ℕ) (o : Option ℕ) (st : List ContextFrame) (rest : List EventInText)
      → run c m i (opened true o ∷ st) (flat_pairs ps ++ rest) ≡ stood_in_pairs c m i (held o) ps ++ run c m (i + length (flat_pairs ps)) (opened true o ∷ st) rest
  run_pairs no_pairs c m i o st rest = ap (λ k. run c m k (opened true o ∷ st) rest) (let z : i ≡ i + 0 = omega arith in z)
  run_pairs (pair k v ps) c m i o st rest =
      let j = i + length (flat k) in
      let h = j + length (flat v) in
      let s = opened true o ∷ st in
      let t = past (m i) (opened true o) ∷ st in
      let X = stood_in c m i (held o) false k in
      let Y = stood_in c m j (held o) (m i) v in
      let Z = stood_in_pairs c m h (held o) ps in
      let R = run c m (h + length (flat_pairs ps)) s rest in
      let tail = flat_pairs ps ++ rest in
      let a = ap (λ es. run c m i s es) (append_assoc (flat k) (flat v ++ flat_pairs ps) rest ∙ ap (λ es. flat k ++ es) (append_assoc (flat v) (flat_pairs ps) rest)) in
      let b = run_node k c m i s (flat v ++ tail) in
      let d = run_node v c m j t tail in
      let f = ap (λ ys. Y ++ ys) (run_pairs ps c m h o st rest) in
      let e : h + length (flat_pairs ps) ≡ i + length (flat k ++ (flat v ++ flat_pairs ps)) =
      let l = length-append (flat k) (flat v ++ flat_pairs ps) in let n = length-append (flat v) (flat_pairs ps) in omega (arith, l, n) in
      a ∙ b ∙ ap (λ ys. X ++ ys) (d ∙ f) ∙ regroup X Y Z R ∙ ap (λ n. (X ++ (Y ++ Z)) ++ run c m n s rest) e
    where
      regroup : (p q r s : List Stood) → p ++ (q ++ (r ++ s)) ≡ (p ++ (q ++ r)) ++ s
      regroup p q r s = ap (λ z. p ++ z) (sym (append_assoc q r s)) ∙ sym (append_assoc p (q ++ r) s)

-- the whole stream
run_documents : (ds : List DocumentTree) (c : ℕ → Option ℕ) (m : ℕ → Bool) (i : ℕ) (rest : List EventInText)
    → run c m i [] (flat_map flat_document ds ++ rest) ≡ stood_in_documents c m i ds ++ run c m (i + length (flat_map flat_document ds)) [] rest
run_documents [] c m i rest = ap (λ k. run c m k [] rest) (let z : i ≡ i + 0 = omega arith in z)
run_documents (d ∷ ds) c m i rest =
    let end = unplaced (document_ends d.closed) in
    let more = flat_map flat_document ds in
    let x = flat d.root in
    let X = stood_in c m (i + 1) Nothing false d.root in
    let a : run c m i [] ((flat_document d ++ more) ++ rest) ≡ run c m (i + 1) [] (x ++ (end ∷ (more ++ rest))) =
    ap (λ es. run c m i [] es) (append_assoc (flat_document d) more rest) ∙ ap (λ es. run c m (i + 1) [] es) (append_assoc x (end ∷ []) (more ++ rest)) in
    let b = run_node d.root c m (i + 1) [] (end ∷ (more ++ rest)) in
    let e : i + 1 + length x + 1 ≡ i + length (flat_document d) = let l = length-append x (end ∷ []) in omega (arith, l) in
    let n : i + length (flat_document d) + length more ≡ i + length (flat_document d ++ more) = let l = length-append (flat_document d) more in omega (arith, l) in
    a ∙ b ∙ ap (λ k. X ++ run c m k [] (more ++ rest)) e
    ∙ ap (λ ys. X ++ ys) (run_documents ds c m (i + length (flat_document d)) rest)
    ∙ sym (append_assoc X (stood_in_documents c m (i + length (flat_document d)) ds) (run c m (i + length (flat_document d) + length more) [] rest))
    ∙ ap (λ k. (X ++ stood_in_documents c m (i + length (flat_document d)) ds) ++ run c m k [] rest) n

pub run_stream : (ds : List DocumentTree) (c : ℕ → Option ℕ) (m : ℕ → Bool) → run c m 0 [] (flat_stream ds) ≡ stood_in_documents c m 1 ds
run_stream ds c m = run_documents ds c m 1 (unplaced stream_ends ∷ []) ∙ append-nil (stood_in_documents c m 1 ds)
