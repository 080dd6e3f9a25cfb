-- Texts with readings that match have equal keys, so equal formattings.
use Rattle.std.proofs.Common.{◌≡◌, ℕ, Bool, true, false, true≢false, List, [], ◌∷◌, length, map, flat_map, Option, refl, sym, ap, ◌∙◌, subst, arith}
use Rattle.std.specs.Prelude.{◌&&◌, ◌||◌, ◌==◌, if◌then◌else◌, nat_lt, not, option_map, option_to_list, zip}
use Rattle.std.specs.List.{list_any}
use Rattle.std.proofs.lemmas.Bool.Decides.{nat_tests}
use Rattle.yf_comments.specs.Comment.{CommentValue}
use Rattle.yf_events.specs.Tree.{DocumentTree, Node, Items, Pairs}
use Rattle.yf_events.specs.declared.document.Doc.{Doc}
use Rattle.yf_events.specs.declared.event.Span.{Span}
use Rattle.yf_events.specs.declared.lists.Lists.{Lists}
use Rattle.yf_forms.specs.declared.style.Style.{Style}
use Rattle.yf_laws.specs.Preservation.AlikeBlocks.{AlikeBlocks, alike_lines, alike_block_sequences, alike_block_mappings, AlikeBlockItems, no_block_items, block_item, AlikeBlockPairs, no_block_pairs, block_pair}
use Rattle.yf_forms.specs.NormalForms.BareStart.{is_bare}
use Rattle.yf_laws.specs.Preservation.CommentsPlaced.{at_leaf, ends_line, rows_in, source_in}
use Rattle.yf_laws.specs.Format.{IsFormatting}
use Rattle.yf_laws.specs.Layouts.Layout.{Remark, Source, first_comment, is_among, is_before, next_leaf, trailing, trailing_leaf}
use Rattle.yf_forms.specs.Nodes.Lines.{trimmed}
use Rattle.yf_laws.specs.Preservation.LayoutKey.{SameDocuments, no_documents, same_document, SameEnds, no_ends, same_end, SameKey, SamePlace, no_place, same_place, SamePlaces, no_comments, same_comment, SameRows, no_more_rows, same_row}
use Rattle.yf_forms.specs.NormalForms.Normal.{normal_document, root_margins, setting_of}
use Rattle.yf_laws.specs.Preservation.ReadingKey.{DependsOnReading, Each, none_each, one_each, Either, in_neither, in_both, PairedOffsets, SameSpan, SameComment, SameRemark, NodesMatch, matched_scalars, matched_aliases, matched_empty_sequences, matched_empty_mappings, matched_sequences, matched_mappings, ItemsMatch, no_matched_items, matched_item, PairsMatch, no_matched_pairs, matched_pair, DocumentsMatch, no_matched_documents, matched_document, SameReadings, SameColumn}
use Rattle.yf_print.specs.Layouts.Rows.{Row, all_rows, stream_rows}
use Rattle.yf_laws.proofs.Keeps.KeyDecides.{as_many_notes, key_decides}
use Rattle.yf_laws.proofs.SameReading.StepLeaves.{laid_trees}
use Rattle.yf_laws.proofs.Keeps.MatchedLemmas.{any_each, both_lt, each_append, find_each, keys_agree, matched_alike}
use Rattle.yf_laws.proofs.Keeps.MatchedRows.{RowMatch, bare_match, begun_match, directives_match, ends_match, rows_match, settled_matched, start_match}
use Rattle.yf_laws.proofs.Trails.TrailOthers.{firsts}
use Rattle.yf_print.specs.Layouts.KeptColumns.{Columns, column_among_rows, columns_if, columns_of, keeps_blocks}

same_eq : (a m b n : ℕ) → nat_lt a m ≡ nat_lt b n → nat_lt m a ≡ nat_lt n b → (a == m) ≡ (b == n)
same_eq a m b n e f = grind (arith, nat_tests)

record SourcesMatch (ps : PairedOffsets) (b c : Source) : Type 0 where
  remarks : Each (SameRemark ps) b.remarks c.remarks
  leaves : Each (SameSpan ps) b.leaves c.leaves
  keys : Each (SameComment ps) b.key_comments c.key_comments

module _ {ps : PairedOffsets} where
  -- What the comments of a list, and their texts, determine.

  among_each : {xs ys : List CommentValue} {d e : CommentValue} → Each (SameComment ps) xs ys → SameComment ps d e → is_among xs d ≡ is_among ys e
  among_each {d = d} {e = e} more a =
      any_each (λ (c : CommentValue). c.offset == d.offset) (λ (c : CommentValue). c.offset == e.offset)
      (λ c k b. same_eq c.offset d.offset k.offset e.offset (b.side.before d.offset e.offset a.paired) (b.side.after d.offset e.offset a.paired)) more

  texts_each : {xs ys : List CommentValue} → Each (SameComment ps) xs ys → map (λ (d : CommentValue). trimmed d.text) xs ≡ map (λ (d : CommentValue). trimmed d.text) ys
  texts_each none_each = refl
  texts_each (one_each {x = x} {y = y} {xs = xs} {ys = ys} a more) =
      ap (λ z. z ∷ map (λ (d : CommentValue). trimmed d.text) xs) a.text ∙ ap (λ z. trimmed y.text ∷ z) (texts_each more)

  option_each : {a b : Option CommentValue} → Either (SameComment ps) a b → Each (SameComment ps) (option_to_list a) (option_to_list b)
  option_each in_neither = none_each
  option_each (in_both e) = one_each e none_each

  -- Sources.

  next_each : {xs ys : List Span} {a b : Span} {d e : CommentValue} → Each (SameSpan ps) xs ys → SameSpan ps a b → SameComment ps d e
      → is_before d.offset (next_leaf xs a.start) ≡ is_before e.offset (next_leaf ys b.start)
  next_each {xs} {ys} {a} {b} {d} {e} more s k =
      by (find_each (λ (l : Span). nat_lt a.start l.start) (λ (l : Span). nat_lt b.start l.start) (λ l n c. c.among.after a.start b.start s.paired) more) where
        by : {o p : Option Span} → Either (SameSpan ps) o p → is_before d.offset (option_map (λ (l : Span). l.start) o) ≡ is_before e.offset (option_map (λ (l : Span). l.start) p)
        by in_neither = refl
        by (in_both c) = c.start.after d.offset e.offset k.paired

  module _ {b c : Source} (m : SourcesMatch ps b c) where
    first_each : {x y : Span} → SameSpan ps x y → Either (SameRemark ps) (first_comment b x) (first_comment c y)
    first_each {x} {y} s =
        find_each (λ (r : Remark). nat_lt x.start r.0.offset && is_before r.0.offset (next_leaf b.leaves x.start)) (λ (r : Remark). nat_lt y.start r.0.offset && is_before r.0.offset (next_leaf c.leaves y.start))
        (λ r q a. both_lt (s.start.before r.0.offset q.0.offset a.comment.paired) (next_each m.leaves s a.comment)) m.remarks

    one_if : (p q : Bool) {d e : CommentValue} → p ≡ q → SameComment ps d e → Each (SameComment ps) (if p then d ∷ [] else []) (if q then e ∷ [] else [])
    one_if true true e a = one_each a none_each
    one_if false false e a = none_each
    one_if true false e a = absurd (true≢false e)
    one_if false true e a = absurd (true≢false (sym e))

    near : {x y : Span} {r q : Remark} → SameSpan ps x y → SameRemark ps r q → (nat_lt r.0.offset x.end || r.1) ≡ (nat_lt q.0.offset y.end || q.1)
    near {x} {y} {r} {q} s a = ap (λ z. z || r.1) (s.end.after r.0.offset q.0.offset a.comment.paired) ∙ ap (λ z. nat_lt q.0.offset y.end || z) a.on_line

    leaf_each : {x y : Span} {o p : Option Remark} → SameSpan ps x y → Either (SameRemark ps) o p → Each (SameComment ps) (at_leaf x o) (at_leaf y p)
    leaf_each s in_neither = none_each
    leaf_each {x} {y} s (in_both {x = r} {y = q} a) = one_if (nat_lt r.0.offset x.end || r.1) (nat_lt q.0.offset y.end || q.1) (near s a) a.comment

    trail_each : {x y : Span} {o p : Option Remark} → SameSpan ps x y → Either (SameRemark ps) o p → Each (SameComment ps) (trailing_leaf b x o) (trailing_leaf c y p)
    trail_each s in_neither = none_each
    trail_each {x} {y} s (in_both {x = r} {y = q} a) =
        one_if ((nat_lt r.0.offset x.end || r.1) && not (is_among b.key_comments r.0)) ((nat_lt q.0.offset y.end || q.1) && not (is_among c.key_comments q.0))
        (both_lt (near s a) (ap not (among_each m.keys a.comment))) a.comment

    leaves_trail : {xs ys : List Span} → Each (SameSpan ps) xs ys → Each (SameComment ps) (flat_map (λ leaf. trailing_leaf b leaf (first_comment b leaf)) xs) (flat_map (λ leaf. trailing_leaf c leaf (first_comment c leaf)) ys)
    leaves_trail none_each = none_each
    leaves_trail (one_each s more) = each_append (trail_each s (first_each s)) (leaves_trail more)

    row_trails : {x y : Row} → RowMatch ps x y → Each (SameComment ps) (trailing b x) (trailing c y)
    row_trails a = each_append (option_each a.key) (leaves_trail a.leaves)

    rows_same : {xs ys : List Row} → Each (RowMatch ps) xs ys → SameRows b c xs ys
    rows_same none_each = no_more_rows
    rows_same (one_each a more) = same_row a.blank (texts_each (row_trails a)) (rows_same more)

    end_same : {d e : CommentValue} → SameComment ps d e → ends_line b d ≡ ends_line c e
    end_same {d} {e} a =
        ap (λ z. z || list_any (λ leaf. is_among (at_leaf leaf (first_comment b leaf)) d) b.leaves) (among_each m.keys a)
        ∙ ap (λ z. is_among c.key_comments e || z)
        (any_each (λ leaf. is_among (at_leaf leaf (first_comment b leaf)) d) (λ leaf. is_among (at_leaf leaf (first_comment c leaf)) e) (λ x y s. among_each (leaf_each s (first_each s)) a) m.leaves)

    ends_same : {cs ds : List CommentValue} → Each (SameComment ps) cs ds → SameEnds b c cs ds
    ends_same none_each = no_ends
    ends_same (one_each a more) = same_end (end_same a) (ends_same more)

  -- Rows.

  row_leaves : {xs ys : List Row} → Each (RowMatch ps) xs ys → Each (SameSpan ps) (flat_map (λ (x : Row). x.leaves) xs) (flat_map (λ (x : Row). x.leaves) ys)
  row_leaves none_each = none_each
  row_leaves (one_each a more) = each_append a.leaves (row_leaves more)

  row_keys : {xs ys : List Row} → Each (RowMatch ps) xs ys → Each (SameComment ps) (flat_map (λ (x : Row). option_to_list x.key_comment) xs) (flat_map (λ (x : Row). option_to_list x.key_comment) ys)
  row_keys none_each = none_each
  row_keys (one_each a more) = each_append (option_each a.key) (row_keys more)

  place_same : {c d : CommentValue} {xs ys : List Row} → SameComment ps c d → Each (RowMatch ps) xs ys → SamePlace c d xs ys
  place_same a none_each = no_place
  place_same {c} {d} a (one_each r more) =
      same_place (any_each (λ item. nat_lt c.offset item) (λ item. nat_lt d.offset item) (λ i j s. s.after c.offset d.offset a.paired) r.items) (place_same a more)

  places_same : {p q : Columns} {cs ds : List CommentValue} {xs ys : List Row} → Each (SameComment ps) cs ds → Each (SameColumn p q) cs ds → Each (RowMatch ps) xs ys → SamePlaces p q xs ys cs ds
  places_same none_each none_each rows = no_comments
  places_same (one_each a more) (one_each b columns) rows = same_comment a.text a.blank (place_same a rows) b.is (places_same more columns rows)

  remark_comments : {xs ys : List Remark} → Each (SameRemark ps) xs ys → Each (SameComment ps) (map (λ (r : Remark). r.0) xs) (map (λ (r : Remark). r.0) ys)
  remark_comments none_each = none_each
  remark_comments (one_each a more) = one_each a.comment (remark_comments more)

-- Trees.

module _ {ps : PairedOffsets} {cs ds : List CommentValue} (s : Style) (same : Each (SameComment ps) cs ds) where
  mutual
    blocks : {x y : Node} → NodesMatch ps s x y → AlikeBlocks s cs ds x y
    blocks (matched_scalars {at = at} {bt = bt} a e) = alike_lines (matched_alike {s = s} (matched_scalars {at = at} {bt = bt} a e)) refl
    blocks (matched_aliases {at = at} {bt = bt} a e) = alike_lines (matched_alike {s = s} (matched_aliases {at = at} {bt = bt} a e)) refl
    blocks (matched_empty_sequences {at = at} {bt = bt} a e) = alike_lines (matched_alike {s = s} (matched_empty_sequences {at = at} {bt = bt} a e)) refl
    blocks (matched_empty_mappings {at = at} {bt = bt} a e) = alike_lines (matched_alike {s = s} (matched_empty_mappings {at = at} {bt = bt} a e)) refl
    blocks (matched_sequences {at = at} {bt = bt} {flow = true} a e m more) = alike_lines (matched_alike (matched_sequences {at = at} {bt = bt} a e m more)) refl
    blocks (matched_sequences {flow = false} a e m more) = alike_block_sequences a (block_item (blocks m) (item_blocks more))
    blocks (matched_mappings {at = at} {bt = bt} {flow = true} a e i m n more) = alike_lines (matched_alike (matched_mappings {at = at} {bt = bt} a e i m n more)) refl
    blocks (matched_mappings {flow = false} a e i m n more) = alike_block_mappings a (block_pair (blocks m) (blocks n) (keys_agree s same i.begins m n) (pair_blocks more))

    item_blocks : {xs ys : Items} → ItemsMatch ps s xs ys → AlikeBlockItems s cs ds xs ys
    item_blocks no_matched_items = no_block_items
    item_blocks (matched_item m more) = block_item (blocks m) (item_blocks more)

    pair_blocks : {qs rs : Pairs} → PairsMatch ps s qs rs → AlikeBlockPairs s cs ds qs rs
    pair_blocks no_matched_pairs = no_block_pairs
    pair_blocks (matched_pair i m n more) = block_pair (blocks m) (blocks n) (keys_agree s same i.begins m n) (pair_blocks more)

module _ {ps : PairedOffsets} (s : Style) (t v : List ℕ) (r q : Lists) (same : Each (SameComment ps) r.comments q.comments) where
  laid_documents : {ds es : List Doc} {xs ys : List DocumentTree} → DocumentsMatch ps s t r v q ds xs es ys
      → SameDocuments s r.comments q.comments ds (map (normal_document t (setting_of r s)) xs) es (map (normal_document v (setting_of q s)) ys)
  laid_documents no_matched_documents = no_documents
  laid_documents (matched_document w b m more) = same_document w (blocks s same (settled_matched s same (root_margins s) m)) (laid_documents more)

  laid_rows : {ds es : List Doc} {xs ys : List DocumentTree} (first : Bool) → DocumentsMatch ps s t r v q ds xs es ys
      → Each (RowMatch ps) (stream_rows (setting_of r s) first ds (map (normal_document t (setting_of r s)) xs)) (stream_rows (setting_of q s) first es (map (normal_document v (setting_of q s)) ys))
  laid_rows first no_matched_documents = none_each
  laid_rows first (matched_document {d = d} {e = e} w b m more) =
      each_append
      (each_append
      (begun_match s same b
      (each_append (ends_match s same first d.directives e.directives w) (each_append (directives_match s same d.directives e.directives w) (one_each (start_match s same) none_each))))
      (rows_match s same (root_margins s) (settled_matched s same (root_margins s) m)))
      (laid_rows false more)

  all_laid : {ds es : List Doc} {xs ys : List DocumentTree} (bare : Bool) → DocumentsMatch ps s t r v q ds xs es ys
      → Each (RowMatch ps) (all_rows (setting_of r s) bare ds (map (normal_document t (setting_of r s)) xs)) (all_rows (setting_of q s) bare es (map (normal_document v (setting_of q s)) ys))
  all_laid false a = laid_rows true a
  all_laid true no_matched_documents = none_each
  all_laid true (matched_document w b m more) = each_append (bare_match s same b (rows_match s same (root_margins s) (settled_matched s same (root_margins s) m))) (laid_rows false more)

-- The law.

rows_are : {t u : List ℕ} {s : Style} (f : IsFormatting t s u) → rows_in f ≡ all_rows (setting_of f.reading s) (is_bare f.normal s) f.reading.documents (map (normal_document t (setting_of f.reading s)) f.is_normal.trees)
rows_are {t} {s = s} f =
    ap (λ (m : Lists). all_rows (setting_of m s) (is_bare f.normal s) m.documents f.writes.trees) f.is_normal.is ∙ ap (λ xs. all_rows (setting_of f.reading s) (is_bare f.normal s) f.reading.documents xs) (laid_trees f)

reading_notes : {t u : List ℕ} {s : Style} (f : IsFormatting t s u) → length f.reading.on_leaf_line ≡ length f.reading.comments
reading_notes f = sym (ap (λ (m : Lists). length m.on_leaf_line) f.is_normal.is) ∙ (as_many_notes f ∙ ap (λ (m : Lists). length m.comments) f.is_normal.is)

-- if comments are at the columns of the next lines
columns_same : {ps : PairedOffsets} {cs ds : List CommentValue} (t v : List ℕ) (s : Style) (xs ys : List Row) (b : Bool) → keeps_blocks s ≡ b → (keeps_blocks s ≡ true → Each (SameColumn (columns_of t s xs) (columns_of v s ys)) cs ds) → Each (SameComment ps) cs ds
    → Each (SameColumn (columns_of t s xs) (columns_of v s ys)) cs ds
columns_same t v s xs ys true e f a = f e
columns_same t v s xs ys false e f none_each = none_each
columns_same t v s xs ys false e f (one_each {x = c} {y = d} a more) =
    one_each (record { is = λ next. ap (λ z. columns_if z (column_among_rows t s [] true xs c) next) e ∙ sym (ap (λ z. columns_if z (column_among_rows v s [] true ys d) next) e) }) (columns_same t v s xs ys false e (λ h. absurd (true≢false (sym h ∙ e))) more)

same_key : {t u v w : List ℕ} {s : Style} (f : IsFormatting t s u) (g : IsFormatting v s w) → SameReadings f g → SameKey f g
same_key {t} {u} {v} {w} {s} f g a =
    let ps : PairedOffsets = a.pairs in
    let r : Lists = f.reading in
    let q : Lists = g.reading in
    let same : Each (SameComment ps) r.comments q.comments =
    subst (λ z. Each (SameComment ps) r.comments z) (firsts q.comments q.on_leaf_line (reading_notes g))
    (subst (λ z. Each (SameComment ps) z (map (λ (x : Remark). x.0) (zip q.comments q.on_leaf_line))) (firsts r.comments r.on_leaf_line (reading_notes f)) (remark_comments a.remarks)) in
    let laid : Bool → List Row = λ b. all_rows (setting_of r s) b r.documents (map (normal_document t (setting_of r s)) f.is_normal.trees) in
    let rows : Each (RowMatch ps) (rows_in f) (rows_in g) =
    subst (λ z. Each (RowMatch ps) z (rows_in g)) (sym (rows_are f))
    (subst (λ z. Each (RowMatch ps) (laid (is_bare f.normal s)) z) (sym (rows_are g))
    (subst (λ b. Each (RowMatch ps) (laid (is_bare f.normal s)) (all_rows (setting_of q s) b q.documents (map (normal_document v (setting_of q s)) g.is_normal.trees))) a.bare (all_laid s t v r q same (is_bare f.normal s) a.documents))) in
    let comments : Each (SameComment ps) f.normal.comments g.normal.comments =
    subst (λ (m : Lists). Each (SameComment ps) m.comments g.normal.comments) (sym f.is_normal.is) (subst (λ (m : Lists). Each (SameComment ps) r.comments m.comments) (sym g.is_normal.is) same) in
    let remarks : Each (SameRemark ps) (zip f.normal.comments f.normal.on_leaf_line) (zip g.normal.comments g.normal.on_leaf_line) =
    subst (λ (m : Lists). Each (SameRemark ps) (zip m.comments m.on_leaf_line) (zip g.normal.comments g.normal.on_leaf_line)) (sym f.is_normal.is)
    (subst (λ (m : Lists). Each (SameRemark ps) (zip r.comments r.on_leaf_line) (zip m.comments m.on_leaf_line)) (sym g.is_normal.is) a.remarks) in
    let sources : SourcesMatch ps (source_in f) (source_in g) = record { remarks = remarks; leaves = row_leaves rows; keys = row_keys rows } in
    let trees : SameDocuments s r.comments q.comments r.documents f.writes.trees q.documents g.writes.trees =
    subst (λ z. SameDocuments s r.comments q.comments r.documents z q.documents g.writes.trees) (sym (laid_trees f))
    (subst (λ z. SameDocuments s r.comments q.comments r.documents (map (normal_document t (setting_of r s)) f.is_normal.trees) q.documents z) (sym (laid_trees g)) (laid_documents s t v r q same a.documents)) in
    record {
      bare = a.bare;
      documents =
          subst (λ (m : Lists). SameDocuments s m.comments g.normal.comments m.documents f.writes.trees g.normal.documents g.writes.trees) (sym f.is_normal.is)
          (subst (λ (m : Lists). SameDocuments s r.comments m.comments r.documents f.writes.trees m.documents g.writes.trees) (sym g.is_normal.is) trees);
      places = places_same comments (columns_same t v s (rows_in f) (rows_in g) (keeps_blocks s) refl a.columns comments) rows;
      ends = ends_same sources comments;
      rows = rows_same sources rows;
    }

pub readings_decide : (t u : List ℕ) (s : Style) → DependsOnReading t s u
readings_decide t u s v w f g a = key_decides t u s v w f g (same_key f g a)
