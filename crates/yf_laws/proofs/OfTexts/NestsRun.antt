-- In a tree with events that pass the test of nesting, at most that many collections are open at once.
use Rattle.std.proofs.Common.{◌≡◌, ℕ, zero, suc, Bool, true, false, ◌&&◌, List, [], ◌∷◌, ◌++◌, map, flat_map, Option, Some, None, refl, sym, ap, ◌∙◌, append_assoc, true≢false}
use Rattle.std.proofs.lemmas.Bool.{and_from}
use Rattle.yf_events.specs.Event.{EventValue, EventInText, document_starts, document_ends, stream_starts, stream_ends, sequence_ends, mapping_ends, scalar_node, alias_node}
use Rattle.yf_events.specs.Nested.{IsStream}
use Rattle.yf_events.specs.Nesting.{after_node, enter, follow, open_if, run, stay_if}
use Rattle.yf_events.specs.Reading.{events_of}
use Rattle.yf_events.specs.Tree.{Node, scalar, alias, sequence, mapping, Items, no_items, item, Pairs, no_pairs, pair, DocumentTree, TreesOf, flat, flat_document, flat_items, flat_pairs, flat_stream, unplaced}
use Rattle.yf_events.specs.declared.lists.Lists.{Lists}
use Rattle.yf_events.specs.declared.nesting.NestingState.{NestingState}
use Rattle.yf_events.proofs.Nests.{complete}
use Rattle.yf_events.proofs.TreeLemmas.{regrouped}
use Rattle.yf_laws.proofs.Printer.PrintNodes.{items_nest, nests, pairs_nest}

-- the test passes from here on
abbrev Runs : ℕ → NestingState → List NestingState → List EventInText → Type 0
Runs room top below es = run room top below (map (λ e. e.event) es) ≡ true

-- a part nests, and the test passes after it
record After (room : ℕ) (next : NestingState) (below : List NestingState) (rest : List EventInText) (nesting : Bool) : Type 0 where
  nested : nesting ≡ true
  runs : Runs room next below rest

record NodeAfter (room : ℕ) (top : NestingState) (below : List NestingState) (rest : List EventInText) (nesting : Bool) : Type 0 where
  next : NestingState
  is : after_node top ≡ Some next
  follows : After room next below rest nesting

leaf_runs : (room : ℕ) (top : NestingState) (below : List NestingState) (e : EventValue) (rest : List EventInText) (o : Option NestingState) → after_node top ≡ o
    → follow (stay_if o) room below (λ r t b. run r t b (map (λ e. e.event) rest)) ≡ true → NodeAfter room top below rest true
leaf_runs room top below e rest None q h = absurd (true≢false (sym h))
leaf_runs room top below e rest (Some next) q h = record { next = next; is = q; follows = record { nested = refl; runs = h } }

-- a collection that expects its entries next, within the remaining depth
open_runs : (room : ℕ) (top within : NestingState) (below : List NestingState) (es rest : List EventInText) (nesting : ℕ → Bool) (o : Option NestingState) → after_node top ≡ o
    → ((r : ℕ) (next : NestingState) → Runs r within (next ∷ below) es → After (suc r) next below rest (nesting r))
    → follow (open_if o within) room below (λ r t b. run r t b (map (λ e. e.event) es)) ≡ true
    → NodeAfter room top below rest (enter room nesting)
open_runs room top within below es rest nesting None q k h = absurd (true≢false (sym h))
open_runs zero top within below es rest nesting (Some next) q k h = absurd (true≢false (sym h))
open_runs (suc r) top within below es rest nesting (Some next) q k h = record { next = next; is = q; follows = k r next h }

moved : (room : ℕ) (top : NestingState) (below : List NestingState) (xs ys : List EventInText) → xs ≡ ys → Runs room top below xs → Runs room top below ys
moved room top below xs ys e h = ap (λ w. run room top below (map (λ (e : EventInText). e.event) w)) (sym e) ∙ h

end_of_items : (r : ℕ) (next : NestingState) (below : List NestingState) (rest : List EventInText) → Runs r NestingState.Items (next ∷ below) (unplaced sequence_ends ∷ rest) → Runs (suc r) next below rest
unfolding run
end_of_items r next below rest h = h

end_of_pairs : (r : ℕ) (next : NestingState) (below : List NestingState) (rest : List EventInText) → Runs r NestingState.Keys (next ∷ below) (unplaced mapping_ends ∷ rest) → Runs (suc r) next below rest
unfolding run
end_of_pairs r next below rest h = h

-- the nesting of a collection is that of its entries, one level further in

sequence_nests : (room : ℕ) (x : Node) (xs : Items) → nests zero x ≡ false → ((r : ℕ) → nests (suc r) x ≡ items_nest r xs) → enter room (λ r. items_nest r xs) ≡ nests room x
sequence_nests zero x xs e f = sym e
sequence_nests (suc r) x xs e f = sym (f r)

mapping_nests : (room : ℕ) (x : Node) (ps : Pairs) → nests zero x ≡ false → ((r : ℕ) → nests (suc r) x ≡ pairs_nest r ps) → enter room (λ r. pairs_nest r ps) ≡ nests room x
mapping_nests zero x ps e f = sym e
mapping_nests (suc r) x ps e f = sym (f r)

same_nesting : {room : ℕ} {top : NestingState} {below : List NestingState} {rest : List EventInText} {b d : Bool} → b ≡ d → NodeAfter room top below rest b → NodeAfter room top below rest d
same_nesting e a = record { next = a.next; is = a.is; follows = record { nested = sym e ∙ a.follows.nested; runs = a.follows.runs } }

-- what is expected after a node in this state
awaited : {room : ℕ} {top next : NestingState} {below : List NestingState} {rest : List EventInText} {b : Bool} → after_node top ≡ Some next → NodeAfter room top below rest b → Runs room next below rest
awaited {room} {top} {next} {below} {rest} e a =
    let same : a.next ≡ next = let q = a.is in cc in
    ap (λ w. run room w below (map (λ (e : EventInText). e.event) rest)) (sym same) ∙ a.follows.runs

mutual
  unfolding run

  node_runs : (room : ℕ) (top : NestingState) (below : List NestingState) (x : Node) (rest : List EventInText) → Runs room top below (flat x ++ rest)
      → NodeAfter room top below rest (nests room x)
  node_runs room top below (scalar at props style text lines) rest h = leaf_runs room top below (scalar_node props style text) rest (after_node top) refl h
  node_runs room top below (alias at name) rest h = leaf_runs room top below (alias_node name) rest (after_node top) refl h
  node_runs room top below (sequence at flow props xs) rest h =
      same_nesting (sequence_nests room (sequence at flow props xs) xs refl (λ r. refl))
      (open_runs room top NestingState.Items below ((flat_items xs ++ (unplaced sequence_ends ∷ [])) ++ rest) rest (λ r. items_nest r xs) (after_node top) refl
      (λ r next g. let b = items_run r (next ∷ below) xs (unplaced sequence_ends ∷ rest) (moved r NestingState.Items (next ∷ below) _ _ (regrouped (flat_items xs) (unplaced sequence_ends) rest) g) in
      record { nested = b.nested; runs = end_of_items r next below rest b.runs }) h)
  node_runs room top below (mapping at flow props ps) rest h =
      same_nesting (mapping_nests room (mapping at flow props ps) ps refl (λ r. refl))
      (open_runs room top NestingState.Keys below ((flat_pairs ps ++ (unplaced mapping_ends ∷ [])) ++ rest) rest (λ r. pairs_nest r ps) (after_node top) refl
      (λ r next g. let b = pairs_run r (next ∷ below) ps (unplaced mapping_ends ∷ rest) (moved r NestingState.Keys (next ∷ below) _ _ (regrouped (flat_pairs ps) (unplaced mapping_ends) rest) g) in
      record { nested = b.nested; runs = end_of_pairs r next below rest b.runs }) h)

  items_run : (room : ℕ) (below : List NestingState) (xs : Items) (rest : List EventInText) → Runs room NestingState.Items below (flat_items xs ++ rest) → After room NestingState.Items below rest (items_nest room xs)
  items_run room below no_items rest h = record { nested = refl; runs = h }
  items_run room below (item x xs) rest h =
      let a = node_runs room NestingState.Items below x (flat_items xs ++ rest) (moved room NestingState.Items below _ _ (append_assoc (flat x) (flat_items xs) rest) h) in
      let b = items_run room below xs rest (awaited refl a) in
      record { nested = and_from (nests room x) (items_nest room xs) a.follows.nested b.nested; runs = b.runs }

  pairs_run : (room : ℕ) (below : List NestingState) (ps : Pairs) (rest : List EventInText) → Runs room NestingState.Keys below (flat_pairs ps ++ rest) → After room NestingState.Keys below rest (pairs_nest room ps)
  pairs_run room below no_pairs rest h = record { nested = refl; runs = h }
  pairs_run room below (pair k v ps) rest h =
      let a = node_runs room NestingState.Keys below k ((flat v ++ flat_pairs ps) ++ rest) (moved room NestingState.Keys below _ _ (append_assoc (flat k) (flat v ++ flat_pairs ps) rest) h) in
      let b = node_runs room NestingState.Values below v (flat_pairs ps ++ rest) (moved room NestingState.Values below _ _ (append_assoc (flat v) (flat_pairs ps) rest) (awaited refl a)) in
      let d = pairs_run room below ps rest (awaited refl b) in
      record { nested = and_from (nests room k) (nests room v && pairs_nest room ps) a.follows.nested (and_from (nests room v) (pairs_nest room ps) b.follows.nested d.nested); runs = d.runs }

abbrev pub documents_nest : ℕ → List DocumentTree → Bool
documents_nest n [] = true
documents_nest n (d ∷ ds) = nests n d.root && documents_nest n ds

begins_document : (room : ℕ) (marked : Bool) (rest : List EventInText) → Runs room NestingState.Documents [] (unplaced (document_starts marked) ∷ rest) → Runs room NestingState.Root [] rest
unfolding run
begins_document room marked rest h = h

ends_document : (room : ℕ) (closed : Bool) (rest : List EventInText) → Runs room NestingState.Closing [] (unplaced (document_ends closed) ∷ rest) → Runs room NestingState.Documents [] rest
unfolding run
ends_document room closed rest h = h

begins_stream : (room : ℕ) (rest : List EventInText) → Runs room NestingState.Stream [] (unplaced stream_starts ∷ rest) → Runs room NestingState.Documents [] rest
unfolding run
begins_stream room rest h = h

documents_run : (room : ℕ) (ds : List DocumentTree) (rest : List EventInText) → Runs room NestingState.Documents [] (flat_map flat_document ds ++ rest) → documents_nest room ds ≡ true
documents_run room [] rest h = refl
documents_run room (d ∷ ds) rest h =
    let others : List EventInText = flat_map flat_document ds ++ rest in
    let end : EventInText = unplaced (document_ends d.closed) in
    let here = begins_document room d.marked ((flat d.root ++ (end ∷ [])) ++ others) (moved room NestingState.Documents [] _ _ (append_assoc (flat_document d) (flat_map flat_document ds) rest) h) in
    let a = node_runs room NestingState.Root [] d.root (end ∷ others) (moved room NestingState.Root [] _ _ (regrouped (flat d.root) end others) here) in
    and_from (nests room d.root) (documents_nest room ds) a.follows.nested (documents_run room ds rest (ends_document room d.closed others (awaited refl a)))

-- the trees of a reading nest within the limit
pub trees_nest : (m : Lists) (n : ℕ) (ds : List DocumentTree) → TreesOf m ds → IsStream n (events_of m) → documents_nest n ds ≡ true
trees_nest m n ds a h =
    documents_run n ds (unplaced stream_ends ∷ [])
    (begins_stream n (flat_map flat_document ds ++ (unplaced stream_ends ∷ [])) (moved n NestingState.Stream [] m.events (flat_stream ds) a.events (complete h)))
