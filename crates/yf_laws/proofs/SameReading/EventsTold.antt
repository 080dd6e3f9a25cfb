-- The events of a formatted text's reading are those that were laid out, except for offsets and markers; each folded
-- scalar has its lines.
use Rattle.std.proofs.Common.{◌≡◌, ℕ, false, List, [], ◌∷◌, ◌++◌, map, flat_map, refl, sym, ap, ◌∙◌}
use Rattle.std.specs.Str.{IsUtf8}
use Rattle.yf_comments.specs.Comment.{CommentValue}
use Rattle.yf_events.specs.Alike.{Alike, alike_scalars, alike_aliases, alike_sequences, alike_mappings, AlikeItems, alike_nothing, alike_item, AlikePairs, alike_no_pairs, alike_pair}
use Rattle.yf_events.specs.Event.{EventValue, EventInText, stream_starts, stream_ends, document_starts, document_ends, sequence_starts, sequence_ends, mapping_starts, mapping_ends, scalar_node, alias_node}
use Rattle.yf_events.specs.Tree.{DocumentTree, Node, Items, Pairs, flat, flat_items, flat_pairs, flat_document, unplaced}
use Rattle.yf_events.specs.declared.document.Doc.{Doc}
use Rattle.yf_events.specs.declared.lists.Lists.{Lists}
use Rattle.yf_stream.specs.ReadingOf.{ReadingOf}
use Rattle.yf_forms.specs.declared.style.Style.{Style}
use Rattle.yf_laws.specs.Format.{IsFormatting}
use Rattle.yf_laws.specs.Preservation.FoundTrees.{FoundTrees, none_found, one_found}
use Rattle.yf_laws.specs.Preservation.TidyLines.{block_scalar_of, block_scalars}
use Rattle.yf_laws.proofs.SecondRun.FixedBlocks.{blocks_alike}
use Rattle.yf_laws.proofs.SecondRun.FixedLawsHold.{found_reading}
use Rattle.yf_laws.proofs.Tabs.RowTokens.{pieces_in, pieces_of_event}
use Rattle.yf_laws.proofs.SameReading.SameContent.{unmarked_value}

abbrev Told : Type 0
Told = EventValue × List (List ℕ)

-- an event without its marker, with its lines
abbrev told : EventInText → Told
told e = (unmarked_value e.event, e.folded)

abbrev pub told_in : List EventInText → List Told
told_in es = map told es

abbrev pub folded_in : List EventInText → List (List (List ℕ))
folded_in es = map (λ (e : EventInText). e.folded) es

told_append : (xs ys : List EventInText) → told_in (xs ++ ys) ≡ told_in xs ++ told_in ys
told_append [] ys = refl
told_append (x ∷ xs) ys = ap (λ w. told x ∷ w) (told_append xs ys)

told_joined : (a b c d : List EventInText) → told_in a ≡ told_in c → told_in b ≡ told_in d → told_in (a ++ b) ≡ told_in (c ++ d)
told_joined a b c d e f = told_append a b ∙ (ap (λ w. w ++ told_in b) e ∙ (ap (λ w. told_in c ++ w) f ∙ sym (told_append c d)))

mutual
  alike_told : {K : Node → Node → Node → Node → Type 0} {x y : Node} → Alike K x y → told_in (flat x) ≡ told_in (flat y)
  alike_told (alike_scalars e) = refl
  alike_told (alike_aliases e) = refl
  alike_told (alike_sequences {flow = flow} {props = props} {xs = xs} {ys = ys} e items) =
      ap (λ w. (sequence_starts flow props, []) ∷ w)
      (told_joined (flat_items xs) (unplaced sequence_ends ∷ []) (flat_items ys) (unplaced sequence_ends ∷ []) (items_told items) refl)
  alike_told (alike_mappings {flow = flow} {props = props} {ps = ps} {qs = qs} e pairs) =
      ap (λ w. (mapping_starts flow props, []) ∷ w)
      (told_joined (flat_pairs ps) (unplaced mapping_ends ∷ []) (flat_pairs qs) (unplaced mapping_ends ∷ []) (pairs_told pairs) refl)

  items_told : {K : Node → Node → Node → Node → Type 0} {xs ys : Items} → AlikeItems K xs ys → told_in (flat_items xs) ≡ told_in (flat_items ys)
  items_told alike_nothing = refl
  items_told (alike_item {x = x} {y = y} {xs = xs} {ys = ys} a more) = told_joined (flat x) (flat_items xs) (flat y) (flat_items ys) (alike_told a) (items_told more)

  pairs_told : {K : Node → Node → Node → Node → Type 0} {ps qs : Pairs} → AlikePairs K ps qs → told_in (flat_pairs ps) ≡ told_in (flat_pairs qs)
  pairs_told alike_no_pairs = refl
  pairs_told (alike_pair {k = k} {l = l} {v = v} {w = w} {ps = ps} {qs = qs} a b z more) =
      told_joined (flat k) (flat v ++ flat_pairs ps) (flat l) (flat w ++ flat_pairs qs) (alike_told a)
      (told_joined (flat v) (flat_pairs ps) (flat w) (flat_pairs qs) (alike_told b) (pairs_told more))

found_told : {s : Style} {cs es : List CommentValue} {u : List ℕ} {ds fs : List Doc} {xs ys : List DocumentTree} → FoundTrees s cs u es ds xs fs ys
    → told_in (flat_map flat_document xs) ≡ told_in (flat_map flat_document ys)
found_told none_found = refl
found_told (one_found {x = x} {y = y} {xs = xs} {ys = ys} w a f more) =
    told_joined (flat_document x) (flat_map flat_document xs) (flat_document y) (flat_map flat_document ys)
    (ap (λ w. (document_starts false, []) ∷ w)
    (told_joined (flat x.root) (unplaced (document_ends x.closed) ∷ []) (flat y.root) (unplaced (document_ends y.closed) ∷ []) (alike_told (blocks_alike a)) refl))
    (found_told more)

pub events_told : {t u : List ℕ} {s : Style} {q : Lists} → IsUtf8 t → (f : IsFormatting t s u) → ReadingOf u q → told_in f.normal.events ≡ told_in q.events
events_told {t} {u} {s} {q} utf8 f b =
    let last : List EventInText = unplaced stream_ends ∷ [] in
    let found = found_told (found_reading t u s q utf8 f b).alike in
    ap told_in f.writes.of_reading.events
    ∙ (ap (λ w. (stream_starts, []) ∷ w) (told_joined (flat_map flat_document f.writes.trees) last (flat_map flat_document b.trees) last found refl)
    ∙ sym (ap told_in b.of_reading.events))

-- What follows.

folded_of_told : (es : List EventInText) → map (λ (w : Told). w.1) (told_in es) ≡ folded_in es
folded_of_told [] = refl
folded_of_told (e ∷ es) = ap (λ w. e.folded ∷ w) (folded_of_told es)

pub told_folded : (es fs : List EventInText) → told_in es ≡ told_in fs → folded_in es ≡ folded_in fs
told_folded es fs e = sym (folded_of_told es) ∙ (ap (map (λ (w : Told). w.1)) e ∙ folded_of_told fs)

unmarked_scalars : (v : EventValue) (lines : List (List ℕ)) → block_scalar_of (unmarked_value v) lines ≡ block_scalar_of v lines
unmarked_scalars stream_starts lines = refl
unmarked_scalars stream_ends lines = refl
unmarked_scalars (document_starts marked) lines = refl
unmarked_scalars (document_ends marked) lines = refl
unmarked_scalars (sequence_starts flow props) lines = refl
unmarked_scalars sequence_ends lines = refl
unmarked_scalars (mapping_starts flow props) lines = refl
unmarked_scalars mapping_ends lines = refl
unmarked_scalars (scalar_node props style text) lines = refl
unmarked_scalars (alias_node name) lines = refl

scalars_of_told : (es : List EventInText) → flat_map (λ (w : Told). block_scalar_of w.0 w.1) (told_in es) ≡ block_scalars es
scalars_of_told [] = refl
scalars_of_told (e ∷ es) =
    ap (λ w. w ++ flat_map (λ (w : Told). block_scalar_of w.0 w.1) (told_in es)) (unmarked_scalars e.event e.folded) ∙ ap (λ w. block_scalar_of e.event e.folded ++ w) (scalars_of_told es)

pub told_scalars : (es fs : List EventInText) → told_in es ≡ told_in fs → block_scalars es ≡ block_scalars fs
told_scalars es fs e = sym (scalars_of_told es) ∙ (ap (λ ws. flat_map (λ (w : Told). block_scalar_of w.0 w.1) ws) e ∙ scalars_of_told fs)

-- and the pieces that are written
unmarked_pieces : (house : Style) (v : EventValue) → pieces_of_event house (unmarked_value v) ≡ pieces_of_event house v
unmarked_pieces house stream_starts = refl
unmarked_pieces house stream_ends = refl
unmarked_pieces house (document_starts marked) = refl
unmarked_pieces house (document_ends marked) = refl
unmarked_pieces house (sequence_starts flow props) = refl
unmarked_pieces house sequence_ends = refl
unmarked_pieces house (mapping_starts flow props) = refl
unmarked_pieces house mapping_ends = refl
unmarked_pieces house (scalar_node props style text) = refl
unmarked_pieces house (alias_node name) = refl

pieces_of_told : (house : Style) (es : List EventInText) → flat_map (λ (w : Told). pieces_of_event house w.0) (told_in es) ≡ pieces_in house es
pieces_of_told house [] = refl
pieces_of_told house (e ∷ es) =
    ap (λ w. w ++ flat_map (λ (w : Told). pieces_of_event house w.0) (told_in es)) (unmarked_pieces house e.event) ∙ ap (λ w. pieces_of_event house e.event ++ w) (pieces_of_told house es)

pub told_pieces : (house : Style) (es fs : List EventInText) → told_in es ≡ told_in fs → pieces_in house es ≡ pieces_in house fs
told_pieces house es fs e = sym (pieces_of_told house es) ∙ (ap (λ ws. flat_map (λ (w : Told). pieces_of_event house w.0) ws) e ∙ pieces_of_told house fs)
