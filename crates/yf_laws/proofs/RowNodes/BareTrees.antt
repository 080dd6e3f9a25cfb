-- If a tree is found, it is found with other notes on blank lines too.
use Rattle.std.proofs.Common.{◌≡◌, ℕ, List, [], ◌∷◌, ◌++◌, length, map, flat_map, refl, sym, ap, ◌∙◌, subst}
use Rattle.std.specs.Prelude.{is_some}
use Rattle.std.proofs.lemmas.List.{length-map}
use Rattle.yf_comments.specs.Comment.{CommentValue}
use Rattle.yf_events.specs.Alike.{Alike, alike_scalars, alike_aliases, alike_sequences, alike_mappings, AlikeItems, alike_nothing, alike_item, AlikePairs, alike_no_pairs, alike_pair}
use Rattle.yf_events.specs.Event.{EventInText, document_ends, stream_ends}
use Rattle.yf_events.specs.Tree.{Node, scalar, alias, sequence, mapping, Items, no_items, item, Pairs, no_pairs, pair, DocumentTree, flat, flat_document, flat_stream, unplaced}
use Rattle.yf_events.specs.declared.lists.Lists.{Lists}
use Rattle.yf_events.proofs.TreeLemmas.{trees_unique}
use Rattle.yf_grammar.specs.Productions.TreesOfMeaning.{Anywhere}
use Rattle.yf_forms.specs.declared.style.Style.{Style}
use Rattle.yf_laws.specs.Preservation.AlikeBlocks.{AlikeBlocks, alike_lines, alike_block_sequences, alike_block_mappings, AlikeBlockItems, no_block_items, block_item, AlikeBlockPairs, no_block_pairs, block_pair}
use Rattle.yf_laws.specs.Layouts.RowShapes.{KeysAgree}
use Rattle.yf_laws.specs.Nodes.FlowsWithoutComments.{Undisturbed, undisturbed_scalar, undisturbed_alias, undisturbed_sequence, undisturbed_mapping, UndisturbedItems, undisturbed_end, undisturbed_item, UndisturbedPairs, undisturbed_last, undisturbed_pair}
use Rattle.yf_laws.proofs.RowNodes.BareNodes.{bare, bare_items, bare_pairs, bare_tree, bared, bared_append, bare_comment, flat_bare}

mutual
  alike_bare : {x y : Node} → Alike Anywhere x y → Alike Anywhere x (bare y)
  alike_bare (alike_scalars e) = alike_scalars e
  alike_bare (alike_aliases e) = alike_aliases e
  alike_bare (alike_sequences e a) = alike_sequences e (alike_bare_items a)
  alike_bare (alike_mappings e a) = alike_mappings e (alike_bare_pairs a)

  alike_bare_items : {xs ys : Items} → AlikeItems Anywhere xs ys → AlikeItems Anywhere xs (bare_items ys)
  alike_bare_items alike_nothing = alike_nothing
  alike_bare_items (alike_item a more) = alike_item (alike_bare a) (alike_bare_items more)

  alike_bare_pairs : {ps qs : Pairs} → AlikePairs Anywhere ps qs → AlikePairs Anywhere ps (bare_pairs qs)
  alike_bare_pairs alike_no_pairs = alike_no_pairs
  alike_bare_pairs (alike_pair a b g more) = alike_pair (alike_bare a) (alike_bare b) tt (alike_bare_pairs more)

mutual
  alike_noted : {x : Node} (y : Node) → Alike Anywhere x (bare y) → Alike Anywhere x y
  alike_noted (scalar at props style text lines) (alike_scalars e) = alike_scalars e
  alike_noted (alias at name) (alike_aliases e) = alike_aliases e
  alike_noted (sequence at flow props xs) (alike_sequences e a) = alike_sequences e (alike_noted_items xs a)
  alike_noted (mapping at flow props ps) (alike_mappings e a) = alike_mappings e (alike_noted_pairs ps a)

  alike_noted_items : {xs : Items} (ys : Items) → AlikeItems Anywhere xs (bare_items ys) → AlikeItems Anywhere xs ys
  alike_noted_items no_items alike_nothing = alike_nothing
  alike_noted_items (item y ys) (alike_item a more) = alike_item (alike_noted y a) (alike_noted_items ys more)

  alike_noted_pairs : {ps : Pairs} (qs : Pairs) → AlikePairs Anywhere ps (bare_pairs qs) → AlikePairs Anywhere ps qs
  alike_noted_pairs no_pairs alike_no_pairs = alike_no_pairs
  alike_noted_pairs (pair l w qs) (alike_pair a b g more) = alike_pair (alike_noted l a) (alike_noted w b) tt (alike_noted_pairs qs more)

-- with the comments of keys
module _ {s : Style} {cs ds : List CommentValue} where
  keys_bare : {k v l w : Node} → KeysAgree s cs ds k v l w → KeysAgree s cs ds k v (bare l) (bare w)
  keys_bare {l = l} {w = w} g = record { comment = λ column e. g.comment column e ∙ ap is_some (sym (bare_comment ds l w)) }

  keys_noted : {k v : Node} (l w : Node) → KeysAgree s cs ds k v (bare l) (bare w) → KeysAgree s cs ds k v l w
  keys_noted l w g = record { comment = λ column e. g.comment column e ∙ ap is_some (bare_comment ds l w) }

  mutual
    blocks_bare : {x y : Node} → AlikeBlocks s cs ds x y → AlikeBlocks s cs ds x (bare y)
    blocks_bare (alike_lines a e) = alike_lines (alike_bare a) e
    blocks_bare (alike_block_sequences e a) = alike_block_sequences e (block_items_bare a)
    blocks_bare (alike_block_mappings e a) = alike_block_mappings e (block_pairs_bare a)

    block_items_bare : {xs ys : Items} → AlikeBlockItems s cs ds xs ys → AlikeBlockItems s cs ds xs (bare_items ys)
    block_items_bare no_block_items = no_block_items
    block_items_bare (block_item a more) = block_item (blocks_bare a) (block_items_bare more)

    block_pairs_bare : {ps qs : Pairs} → AlikeBlockPairs s cs ds ps qs → AlikeBlockPairs s cs ds ps (bare_pairs qs)
    block_pairs_bare no_block_pairs = no_block_pairs
    block_pairs_bare (block_pair a b g more) = block_pair (blocks_bare a) (blocks_bare b) (keys_bare g) (block_pairs_bare more)

  mutual
    blocks_noted : {x : Node} (y : Node) → AlikeBlocks s cs ds x (bare y) → AlikeBlocks s cs ds x y
    blocks_noted (scalar at props style text lines) (alike_lines a e) = alike_lines (alike_noted (scalar at props style text lines) a) e
    blocks_noted (alias at name) (alike_lines a e) = alike_lines (alike_noted (alias at name) a) e
    blocks_noted (sequence at flow props ys) (alike_lines a e) = alike_lines (alike_noted (sequence at flow props ys) a) e
    blocks_noted (mapping at flow props qs) (alike_lines a e) = alike_lines (alike_noted (mapping at flow props qs) a) e
    blocks_noted (sequence at flow props ys) (alike_block_sequences e a) = alike_block_sequences e (block_items_noted ys a)
    blocks_noted (mapping at flow props qs) (alike_block_mappings e a) = alike_block_mappings e (block_pairs_noted qs a)

    block_items_noted : {xs : Items} (ys : Items) → AlikeBlockItems s cs ds xs (bare_items ys) → AlikeBlockItems s cs ds xs ys
    block_items_noted no_items no_block_items = no_block_items
    block_items_noted (item y ys) (block_item a more) = block_item (blocks_noted y a) (block_items_noted ys more)

    block_pairs_noted : {ps : Pairs} (qs : Pairs) → AlikeBlockPairs s cs ds ps (bare_pairs qs) → AlikeBlockPairs s cs ds ps qs
    block_pairs_noted no_pairs no_block_pairs = no_block_pairs
    block_pairs_noted (pair l w qs) (block_pair a b g more) = block_pair (blocks_noted l a) (blocks_noted w b) (keys_noted l w g) (block_pairs_noted qs more)

  pub blocks_renoted : {x y : Node} (z : Node) → bare y ≡ bare z → AlikeBlocks s cs ds x y → AlikeBlocks s cs ds x z
  blocks_renoted {x} z e a = blocks_noted z (subst (λ w. AlikeBlocks s cs ds x w) e (blocks_bare a))

-- without comments in flow collections
module _ {u : List ℕ} {cs : List CommentValue} where
  mutual
    undisturbed_bare : {y : Node} → Undisturbed u cs y → Undisturbed u cs (bare y)
    undisturbed_bare undisturbed_scalar = undisturbed_scalar
    undisturbed_bare undisturbed_alias = undisturbed_alias
    undisturbed_bare (undisturbed_sequence n a) = undisturbed_sequence n (items_bare a)
    undisturbed_bare (undisturbed_mapping n a) = undisturbed_mapping n (pairs_bare a)

    items_bare : {ys : Items} → UndisturbedItems u cs ys → UndisturbedItems u cs (bare_items ys)
    items_bare undisturbed_end = undisturbed_end
    items_bare (undisturbed_item a more) = undisturbed_item (undisturbed_bare a) (items_bare more)

    pairs_bare : {qs : Pairs} → UndisturbedPairs u cs qs → UndisturbedPairs u cs (bare_pairs qs)
    pairs_bare undisturbed_last = undisturbed_last
    pairs_bare (undisturbed_pair a b more) = undisturbed_pair (undisturbed_bare a) (undisturbed_bare b) (pairs_bare more)

  mutual
    undisturbed_noted : (y : Node) → Undisturbed u cs (bare y) → Undisturbed u cs y
    undisturbed_noted (scalar at props style text lines) a = undisturbed_scalar
    undisturbed_noted (alias at name) a = undisturbed_alias
    undisturbed_noted (sequence at flow props ys) (undisturbed_sequence n a) = undisturbed_sequence n (items_noted ys a)
    undisturbed_noted (mapping at flow props qs) (undisturbed_mapping n a) = undisturbed_mapping n (pairs_noted qs a)

    items_noted : (ys : Items) → UndisturbedItems u cs (bare_items ys) → UndisturbedItems u cs ys
    items_noted no_items a = undisturbed_end
    items_noted (item y ys) (undisturbed_item a more) = undisturbed_item (undisturbed_noted y a) (items_noted ys more)

    pairs_noted : (qs : Pairs) → UndisturbedPairs u cs (bare_pairs qs) → UndisturbedPairs u cs qs
    pairs_noted no_pairs a = undisturbed_last
    pairs_noted (pair l w qs) (undisturbed_pair a b more) = undisturbed_pair (undisturbed_noted l a) (undisturbed_noted w b) (pairs_noted qs more)

  pub undisturbed_renoted : {y : Node} (z : Node) → bare y ≡ bare z → Undisturbed u cs y → Undisturbed u cs z
  undisturbed_renoted z e a = undisturbed_noted z (subst (λ w. Undisturbed u cs w) e (undisturbed_bare a))

-- Streams.

document_bare : (d : DocumentTree) (rest : List EventInText) → flat_document (bare_tree d) ++ bared rest ≡ bared (flat_document d ++ rest)
document_bare d rest =
    ap (λ z. first_of (flat_document (bare_tree d)) ∷ ((z ++ (unplaced (document_ends d.closed) ∷ [])) ++ bared rest)) (flat_bare d.root)
    ∙ (ap (λ z. first_of (flat_document (bare_tree d)) ∷ (z ++ bared rest)) (sym (bared_append (flat d.root) (unplaced (document_ends d.closed) ∷ [])))
    ∙ ap (λ z. first_of (flat_document (bare_tree d)) ∷ z) (sym (bared_append (flat d.root ++ (unplaced (document_ends d.closed) ∷ [])) rest))) where
      first_of : List EventInText → EventInText
      first_of [] = unplaced stream_ends
      first_of (e ∷ es) = e

documents_bare : (ds : List DocumentTree) → flat_map flat_document (map bare_tree ds) ≡ bared (flat_map flat_document ds)
documents_bare [] = refl
documents_bare (d ∷ ds) = ap (λ z. flat_document (bare_tree d) ++ z) (documents_bare ds) ∙ document_bare d (flat_map flat_document ds)

stream_bare : (ds : List DocumentTree) → flat_stream (map bare_tree ds) ≡ bared (flat_stream ds)
stream_bare ds =
    ap (λ z. first_of (flat_stream ds) ∷ (z ++ (unplaced stream_ends ∷ []))) (documents_bare ds)
    ∙ ap (λ z. first_of (flat_stream ds) ∷ z) (sym (bared_append (flat_map flat_document ds) (unplaced stream_ends ∷ []))) where
      first_of : List EventInText → EventInText
      first_of [] = unplaced stream_ends
      first_of (e ∷ es) = e

-- trees with events that differ only in notes
pub trees_bare : (q : Lists) (ds es : List DocumentTree) → length q.documents ≡ length ds → length q.documents ≡ length es → bared (flat_stream ds) ≡ bared (flat_stream es) → map bare_tree ds ≡ map bare_tree es
trees_bare q ds es m n e =
    trees_unique (record q { events = bared (flat_stream ds) }) (map bare_tree ds) (map bare_tree es)
    (record { events = sym (stream_bare ds); documents = m ∙ sym (length-map ds bare_tree) })
    (record { events = e ∙ sym (stream_bare es); documents = n ∙ sym (length-map es bare_tree) })
