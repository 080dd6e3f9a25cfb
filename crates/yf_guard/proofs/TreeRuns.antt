-- The faults that the pass finds in trees.
use Rattle.std.proofs.Common.{◌≡◌, ℕ, Bool, true, false, List, [], ◌∷◌, ◌++◌, refl, sym, ap, ◌∙◌, append_assoc}
use Rattle.std.specs.Prelude.{flat_map}
use Rattle.std.proofs.lemmas.List.{append-nil}
use Rattle.yf_events.specs.Event.{EventInText, sequence_ends, mapping_ends, document_ends, stream_ends}
use Rattle.yf_events.specs.Tree.{Node, scalar, alias, sequence, mapping, Items, no_items, item, Pairs, no_pairs, pair, DocumentTree, flat, flat_items, flat_pairs, flat_document, flat_stream, unplaced}
use Rattle.yf_guard.specs.Collections.{after, is_template_seen, opened, with_node}
use Rattle.yf_guard.specs.Guards.{found_in_document, found_in_root, has_no_values, is_template, no_data, start_of, template_if, templates, templates_of_items, templates_of_pairs}
use Rattle.yf_guard.specs.Pass.{found_if, is_root, run}
use Rattle.yf_guard.specs.declared.guarded.Guarded.{Guarded}
use Rattle.yf_guard.specs.declared.open_collection.NodeKind.{NodeKind}
use Rattle.yf_guard.specs.declared.open_collection.NodeKind.TheVariants.{Mapping, Other}
use Rattle.yf_guard.specs.declared.open_collection.OpenCollection.{OpenCollection}
use Rattle.yf_guard.proofs.PairLemmas.{after_items, after_pairs, kind, mapping_flow, mapping_offset, mapping_template, mapping_values}

-- the faults found in a node, which may be a root scalar
abbrev found_in : List ℕ → List OpenCollection → Node → List Guarded
found_in t st (scalar at props style text lines) = found_if (is_root st) (no_data t props style at.span)
found_in t st (alias at name) = []
found_in t st (sequence at flow props items) = templates_of_items items
found_in t st (mapping at flow props pairs) = templates_of_pairs pairs ++ template_if (is_template flow pairs) (start_of at.span)

found_within : (t : List ℕ) (c : OpenCollection) (st : List OpenCollection) (x : Node) → found_in t (c ∷ st) x ≡ templates x
found_within t c st (scalar at props style text lines) = refl
found_within t c st (alias at name) = refl
found_within t c st (sequence at flow props items) = refl
found_within t c st (mapping at flow props pairs) = refl

found_at_root : (t : List ℕ) (x : Node) → found_in t [] x ≡ found_in_root t x
found_at_root t (scalar at props style text lines) = refl
found_at_root t (alias at name) = refl
found_at_root t (sequence at flow props items) = refl
found_at_root t (mapping at flow props pairs) = refl

-- the end of a mapping
mapping_closed : (t : List ℕ) (ps : Pairs) (offset : ℕ) (flow : Bool) (st : List OpenCollection) (rest : List EventInText)
    → run t (after_pairs ps (opened flow offset) ∷ st) (unplaced mapping_ends ∷ rest)
    ≡ template_if (is_template flow ps) offset ++ run t (after (Mapping flow (has_no_values ps)) st) rest
mapping_closed t ps offset flow st rest =
    let c = after_pairs ps (opened flow offset) in
    ap (λ b. template_if b c.offset ++ run t (after (Mapping c.flow c.has_no_values) st) rest) (mapping_template ps offset flow)
    ∙ ap (λ n. template_if (is_template flow ps) n ++ run t (after (Mapping c.flow c.has_no_values) st) rest) (mapping_offset ps offset flow)
    ∙ ap (λ b. template_if (is_template flow ps) offset ++ run t (after (Mapping b c.has_no_values) st) rest) (mapping_flow ps offset flow)
    ∙ ap (λ b. template_if (is_template flow ps) offset ++ run t (after (Mapping flow b) st) rest) (mapping_values ps offset flow)

-- a node in a collection
within : (x : Node) (t : List ℕ) (c : OpenCollection) (st : List OpenCollection) (rest : List EventInText)
    → run t (c ∷ st) (flat x ++ rest) ≡ found_in t (c ∷ st) x ++ run t (with_node (kind x) c ∷ st) rest
    → run t (c ∷ st) (flat x ++ rest) ≡ templates x ++ run t (with_node (kind x) c ∷ st) rest
within x t c st rest e = e ∙ ap (λ ys. ys ++ run t (with_node (kind x) c ∷ st) rest) (found_within t c st x)

mutual
  run_node : (x : Node) (t : List ℕ) (st : List OpenCollection) (rest : List EventInText)
      → run t st (flat x ++ rest) ≡ found_in t st x ++ run t (after (kind x) st) rest
  run_node (scalar at props style text lines) t st rest = refl
  run_node (alias at name) t st rest = refl
  run_node (sequence at flow props items) t st rest =
      let end = unplaced sequence_ends in
      let c = opened flow (start_of at.span) in
      ap (λ es. run t (c ∷ st) es) (append_assoc (flat_items items) (end ∷ []) rest) ∙ run_items items t c st (end ∷ rest)
  run_node (mapping at flow props pairs) t st rest =
      let end = unplaced mapping_ends in
      let o = start_of at.span in
      let c = opened flow o in
      ap (λ es. run t (c ∷ st) es) (append_assoc (flat_pairs pairs) (end ∷ []) rest) ∙ run_pairs pairs t c st (end ∷ rest)
      ∙ ap (λ ys. templates_of_pairs pairs ++ ys) (mapping_closed t pairs o flow st rest)
      ∙ sym (append_assoc (templates_of_pairs pairs) (template_if (is_template flow pairs) o) (run t (after (Mapping flow (has_no_values pairs)) st) rest))

  run_items : (xs : Items) (t : List ℕ) (c : OpenCollection) (st : List OpenCollection) (rest : List EventInText)
      → run t (c ∷ st) (flat_items xs ++ rest) ≡ templates_of_items xs ++ run t (after_items xs c ∷ st) rest
  run_items no_items t c st rest = refl
  run_items (item x xs) t c st rest =
      let d = with_node (kind x) c in
      ap (λ es. run t (c ∷ st) es) (append_assoc (flat x) (flat_items xs) rest) ∙ within x t c st (flat_items xs ++ rest) (run_node x t (c ∷ st) (flat_items xs ++ rest))
      ∙ ap (λ ys. templates x ++ ys) (run_items xs t d st rest)
      ∙ sym (append_assoc (templates x) (templates_of_items xs) (run t (after_items xs d ∷ st) rest))

  run_pairs : (ps : Pairs) (t : List ℕ) (c : OpenCollection) (st : List OpenCollection) (rest : List EventInText)
      → run t (c ∷ st) (flat_pairs ps ++ rest) ≡ templates_of_pairs ps ++ run t (after_pairs ps c ∷ st) rest
  run_pairs no_pairs t c st rest = refl
  run_pairs (pair k v ps) t c st rest =
      let d = with_node (kind k) c in
      let e = with_node (kind v) d in
      let tail = flat_pairs ps ++ rest in
      let R = run t (after_pairs ps e ∷ st) rest in
      ap (λ es. run t (c ∷ st) es) (append_assoc (flat k) (flat v ++ flat_pairs ps) rest ∙ ap (λ es. flat k ++ es) (append_assoc (flat v) (flat_pairs ps) rest))
      ∙ within k t c st (flat v ++ tail) (run_node k t (c ∷ st) (flat v ++ tail))
      ∙ ap (λ ys. templates k ++ ys) (within v t d st tail (run_node v t (d ∷ st) tail) ∙ ap (λ ys. templates v ++ ys) (run_pairs ps t e st rest)
      ∙ sym (append_assoc (templates v) (templates_of_pairs ps) R))
      ∙ sym (append_assoc (templates k) (templates v ++ templates_of_pairs ps) R)

run_documents : (ds : List DocumentTree) (t : List ℕ) (rest : List EventInText)
    → run t [] (flat_map flat_document ds ++ rest) ≡ flat_map (found_in_document t) ds ++ run t [] rest
run_documents [] t rest = refl
run_documents (d ∷ ds) t rest =
    let end = unplaced (document_ends d.closed) in
    let more = flat_map flat_document ds in
    let x = d.root in
    ap (λ es. run t [] es) (append_assoc (flat_document d) more rest)
    ∙ ap (λ es. run t [] es) (append_assoc (flat x) (end ∷ []) (more ++ rest))
    ∙ run_node x t [] (end ∷ (more ++ rest))
    ∙ ap (λ ys. ys ++ run t [] (more ++ rest)) (found_at_root t x)
    ∙ ap (λ ys. found_in_root t x ++ ys) (run_documents ds t rest)
    ∙ sym (append_assoc (found_in_root t x) (flat_map (found_in_document t) ds) (run t [] rest))

pub run_stream : (ds : List DocumentTree) (t : List ℕ) → run t [] (flat_stream ds) ≡ flat_map (found_in_document t) ds
run_stream ds t = run_documents ds t (unplaced stream_ends ∷ []) ∙ append-nil (flat_map (found_in_document t) ds)
