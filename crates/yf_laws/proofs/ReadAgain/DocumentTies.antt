-- The rows of the documents of a laid-out text, as they were laid out, as they are found, and as they are in the text.
use Rattle.std.proofs.Common.{◌≡◌, ℕ, suc, ◌<◌, ◌≤◌, Bool, true, false, List, [], ◌∷◌, ◌++◌, length, map, None, refl, sym, ap, ◌∙◌, subst, arith, append_assoc, ⊎_elim}
use Rattle.yf_comments.specs.Comment.{CommentValue}
use Rattle.yf_comments.specs.GapLines.{remarks_of}
use Rattle.yf_comments.proofs.GapLinesLemmas.{texts}
use Rattle.yf_events.specs.Tree.{Node, DocumentTree}
use Rattle.yf_events.specs.declared.directive.Directive.{Directive}
use Rattle.yf_events.specs.declared.document.Doc.{Doc}
use Rattle.yf_forms.specs.declared.style.Style.{Style}
use Rattle.yf_laws.specs.Layouts.Decorated.{Deco}
use Rattle.yf_laws.specs.Preservation.FoundTrees.{FoundTrees, none_found, one_found, words_of}
use Rattle.yf_forms.specs.NormalForms.Normal.{root_margins}
use Rattle.yf_print.specs.Layouts.Rows.{Row, beginning_at, directive_row, end_rows, rows, start_row, stream_rows, all_rows, begun_at}
use Rattle.yf_laws.proofs.SecondRun.AlikeLemmas.{setting, shapes}
use Rattle.yf_laws.proofs.RowNodes.BareNodes.{bare, bare_tree}
use Rattle.yf_laws.proofs.ReadAgain.CarriedAgain.{Owns, last_owns, row_owns, all_of, first_from, owns_upward}
use Rattle.yf_laws.proofs.SameReading.CommentsCut.{In, Under, each_at, each_join, upward_over}
use Rattle.yf_laws.proofs.SecondRun.FixedBlocks.{same_block_rows}
use Rattle.yf_laws.proofs.RowNodes.FoundMarks.{Mark, marks, placed_marks, node_marks}
use Rattle.yf_laws.proofs.RowNodes.FoundTexts.{FoundRoots, no_roots, one_root, AllRoots, marked_roots, bare_root}
use Rattle.yf_laws.proofs.RowNodes.HeadRows.{HeadRows, mark_head, more_heads, heads_before}
use Rattle.yf_laws.proofs.RowNodes.PlacedRows.{PlacedRow, RowsIn, last_row, row_before}
use Rattle.yf_laws.proofs.ReadAgain.RowsWithNotes.{rows_renoted}
use Rattle.yf_laws.proofs.ReadAgain.RowTies.{node_tie, start_tie, head_tie, Ties, no_ties, a_tie, LaidRows, last_laid, row_laid, other_shapes}
use Rattle.yf_laws.proofs.ReadAgain.TrailAgain.{in_parts}
use Rattle.yf_laws.proofs.RowNodes.FoundStreams.{begun_placed}
use Rattle.yf_laws.proofs.SecondRun.FixedRows.{begun_shaped}
use Rattle.yf_print.specs.Layouts.KeptColumns.{Columns}
use Rattle.yf_laws.proofs.RowNodes.QuietPlaces.{under_more}

-- a row that is found without items was laid out without any
pub data Barely : List Row → List PlacedRow → Type 0 where
  none_barely : Barely [] []
  row_barely : {x : Row} {xs : List Row} {p : PlacedRow} {ps : List PlacedRow} → (p.items ≡ [] → x.items ≡ []) → Barely xs ps → Barely (x ∷ xs) (p ∷ ps)

pub rows_barely : {t : List ℕ} {xs : List Row} {ps : List PlacedRow} {ds : List Deco} {i j : ℕ} {cs : List CommentValue} {r : List ℕ} → RowsIn t xs ps ds i cs j r → Barely xs ps
rows_barely (last_row at e w) = row_barely at.bare none_barely
rows_barely (row_before at e w more) = row_barely at.bare (rows_barely more)

-- rows that are still to come, after comments
pub data Left (cs : List CommentValue) (j : ℕ) : List Row → List Row → List PlacedRow → Type 0 where
  none_left : Left cs j [] [] []
  some_left : {g : Columns} {xs found : List Row} {ps : List PlacedRow} {ds : List Deco} {i : ℕ} {owns : List (List CommentValue)} (before : List CommentValue) → Barely xs ps → Owns ps ds i owns j → LaidRows g xs found ds → Under i before
      → cs ≡ before ++ all_of owns → Left cs j xs found ps

step : {cs : List CommentValue} {j : ℕ} {x row : Row} {xs found : List Row} {p : PlacedRow} {ps : List PlacedRow} → Left cs j (x ∷ xs) (row ∷ found) (p ∷ ps) → Left cs j xs found ps
step (some_left before (row_barely f b) (last_owns g l m up u is) (last_laid hs laid gap) early are) = ended b where
  ended : {cs : List CommentValue} {j : ℕ} {xs : List Row} → Barely xs [] → Left cs j xs [] []
  ended none_barely = none_left
step (some_left before b (last_owns g l m up u is) (row_laid hs v laid gap quiet more) early are) = elim more [ ]
step (some_left before b (row_owns g l m up u is n more) (last_laid hs laid gap) early are) = elim more [ ]
step (some_left before (row_barely f b) (row_owns {own = own} {owns = owns} g l m up u is n more) (row_laid hs v laid gap quiet others) early are) =
    some_left (before ++ own) b more others (each_join (under_more (omega (arith, l, m, n)) early) (under_more n u)) (are ∙ sym (append_assoc before own (all_of owns)))

barely_first : {cs : List CommentValue} {j : ℕ} {x row : Row} {xs found : List Row} {p : PlacedRow} {ps : List PlacedRow} → Left cs j (x ∷ xs) (row ∷ found) (p ∷ ps) → p.items ≡ [] → x.items ≡ []
barely_first (some_left before (row_barely f b) own laid early are) = f

-- Rows of a node.

abbrev first_mark : Mark → List Mark → Mark
first_mark other [] = other
first_mark other (m ∷ ms) = m

abbrev other_marks : List Mark → List Mark
other_marks [] = []
other_marks (m ∷ ms) = ms

node_ties : {cs : List CommentValue} {j : ℕ} (xs found : List Row) (ps : List PlacedRow) {ys others : List Row} {qs : List PlacedRow} → shapes xs ≡ shapes found → marks found ≡ placed_marks ps → Left cs j (xs ++ ys) (found ++ others) (ps ++ qs)
    → (Left cs j ys others qs → Ties cs ys others qs) → Ties cs (xs ++ ys) (found ++ others) (ps ++ qs)
node_ties [] [] [] e f left go = go left
node_ties [] [] (p ∷ ps) e f left go = absurd cc
node_ties [] (row ∷ found) ps e f left go = absurd cc
node_ties (x ∷ xs) [] ps e f left go = absurd cc
node_ties (x ∷ xs) (row ∷ found) [] e f left go = absurd cc
node_ties (x ∷ xs) (row ∷ found) (p ∷ ps) e f left go =
    let one : (row.items, row.leaves) ≡ (p.items, p.leaves) = ap (first_mark (row.items, row.leaves)) f in
    a_tie (node_tie (ap (λ (m : Mark). m.0) one) (ap (λ (m : Mark). m.1) one) (barely_first left)) (node_ties xs found ps (ap other_shapes e) (ap other_marks f) (step left) go)

-- Rows before a node.

-- the rows after the first of them: without items and leaves
data PlainHeads : ℕ → List Row → List Row → Type 0 where
  no_plain_head : PlainHeads 0 [] []
  a_plain_head : {n : ℕ} {x row : Row} {xs found : List Row} → x.items ≡ [] → row.items ≡ [] → row.leaves ≡ [] → row.key_comment ≡ None → PlainHeads n xs found → PlainHeads (suc n) (x ∷ xs) (row ∷ found)

no_texts : (own : List CommentValue) → texts own ≡ [] → own ≡ []
no_texts [] e = refl
no_texts (c ∷ cs) e = absurd cc

-- if no comment is between them
record FreeTo (cs : List CommentValue) (start : ℕ) (p : PlacedRow) : Type 0 where
  from : p.from ≤ start
  free : (b : CommentValue) → In b cs → p.from ≤ b.offset → start ≤ b.offset

free_one : {cs : List CommentValue} {start i j low : ℕ} {p q : PlacedRow} {ps : List PlacedRow} {ds : List Deco} {owns : List (List CommentValue)} (before own : List CommentValue) → own ≡ [] → p.from ≡ i → i ≤ low → Under i before
    → cs ≡ before ++ (own ++ all_of owns) → Owns (q ∷ ps) ds low owns j → FreeTo cs start q → FreeTo cs start p
free_one {cs = cs} {low = low} {p = p} {q = q} {owns = owns} before own none f l early are more further =
    let at : q.from ≡ low = first_from more in
    let first = further.from in
    record {
      from = omega (arith, f, l, at, first);
      free = λ b i m.
          let where_in : In b (before ++ all_of owns) = subst (λ z. In b z) (are ∙ ap (λ z. before ++ (z ++ all_of owns)) none) i in
          ⊎_elim (λ (z : In b before). let y : b.offset < _ = each_at early z in absurd (omega (arith, y, m, f)))
          (λ (z : In b (all_of owns)). let y : low ≤ b.offset = each_at (upward_over low (omega arith) (owns_upward more)) z in further.free b i (omega (arith, y, at))) (in_parts before (all_of owns) where_in);
    }

free_to : {cs : List CommentValue} {start n j : ℕ} {x row : Row} {xs found : List Row} {p : PlacedRow} {ps : List PlacedRow} (ys others : List Row) (qs : List PlacedRow) → HeadRows start n (p ∷ ps) → row.leaves ≡ [] → row.key_comment ≡ None
    → PlainHeads n xs found → Left cs j (x ∷ (xs ++ ys)) (row ∷ (found ++ others)) (p ∷ (ps ++ qs)) → FreeTo cs start p
free_to ys others qs (mark_head a f) none key b left = record { from = omega (arith, f); free = λ v i m. omega (arith, f, m) }
free_to ys others qs (more_heads {hs = []} a h) none key b left = elim h [ ]
free_to ys others qs (more_heads {hs = q ∷ ps} a h) none key (a_plain_head unmarked items unleaved unkeyed b)
    (some_left before (row_barely z bs) (row_owns {own = own} {owns = owns} g l m up u is n more) (row_laid {d = d} hs v laid gap quiet further) early are) =
    let silent : own ≡ [] = no_texts own (is ∙ (ap (λ w. w ++ remarks_of d.gap) (laid.bare none key) ∙ quiet unmarked)) in
    free_one before own silent g (omega (arith, l, m, n)) early are more
    (free_to ys others qs h unleaved unkeyed b (some_left (before ++ own) bs more further (each_join (under_more (omega (arith, l, m, n)) early) (under_more n u)) (are ∙ sym (append_assoc before own (all_of owns)))))

left_order : {cs : List CommentValue} {j : ℕ} {x row : Row} {xs found : List Row} {p : PlacedRow} {ps : List PlacedRow} → Left cs j (x ∷ xs) (row ∷ found) (p ∷ ps) → p.from ≤ p.upto
left_order (some_left before b (last_owns f l m up u is) laid early are) = omega (arith, f, l)
left_order (some_left before b (row_owns f l m up u is n more) laid early are) = omega (arith, f, l)

plain_ties : {cs : List CommentValue} {start n j : ℕ} {xs found ys others : List Row} {ps qs : List PlacedRow} → HeadRows start n ps → PlainHeads (suc n) xs found → Left cs j (xs ++ ys) (found ++ others) (ps ++ qs)
    → (Left cs j ys others qs → Ties cs ys others qs) → Ties cs (xs ++ ys) (found ++ others) (ps ++ qs)
plain_ties (mark_head a f) (a_plain_head unmarked items unleaved unkeyed no_plain_head) left go = a_tie (head_tie items unmarked unleaved a unkeyed) (go (step left))
plain_ties (more_heads a h) (a_plain_head unmarked items unleaved unkeyed b) left go = a_tie (head_tie items unmarked unleaved a unkeyed) (plain_ties h b (step left) go)

-- the first of them, with the item of the document, and the others
begun_ties : {cs : List CommentValue} {start n j : ℕ} (x row : Row) {xs found ys others : List Row} {ps qs : List PlacedRow} → row.items ≡ start ∷ [] → row.leaves ≡ [] → row.key_comment ≡ None → HeadRows start n ps → PlainHeads n xs found
    → Left cs j (x ∷ (xs ++ ys)) (row ∷ (found ++ others)) (ps ++ qs) → (Left cs j ys others qs → Ties cs ys others qs) → Ties cs (x ∷ (xs ++ ys)) (row ∷ (found ++ others)) (ps ++ qs)
begun_ties {start = start} x row {ys = ys} {others = others} {qs = qs} items none key (mark_head a f) no_plain_head left go =
    let free = free_to ys others qs (mark_head a f) none key no_plain_head left in
    a_tie (start_tie start items none a key free.from (λ b i l. let o = left_order left in free.free b i (omega (arith, o, l)))) (go (step left))
begun_ties {start = start} x row {ys = ys} {others = others} {qs = qs} items none key (more_heads a h) b left go =
    let free = free_to ys others qs (more_heads a h) none key b left in
    a_tie (start_tie start items none a key free.from (λ v i l. let o = left_order left in free.free v i (omega (arith, o, l)))) (plain_ties h b (step left) go)

abbrev other_words : List (List (List ℕ)) → List (List (List ℕ))
other_words [] = []
other_words (w ∷ ws) = ws

-- directives and the `---`
directive_heads : (ds es : List Directive) → words_of ds ≡ words_of es → PlainHeads (suc (length es)) (map directive_row ds ++ (start_row ∷ [])) (map directive_row es ++ (start_row ∷ []))
directive_heads [] [] e = a_plain_head refl refl refl refl no_plain_head
directive_heads [] (b ∷ es) e = absurd cc
directive_heads (a ∷ ds) [] e = absurd cc
directive_heads (a ∷ ds) (b ∷ es) e = a_plain_head refl refl refl refl (directive_heads ds es (ap other_words e))

head_ties : {cs : List CommentValue} {j : ℕ} (is_first : Bool) (before start : ℕ) (ds es : List Directive) {ys others : List Row} {ps qs : List PlacedRow} → words_of ds ≡ words_of es → HeadRows start (heads_before is_first es) ps
    → Left cs j (beginning_at before (end_rows is_first ds ++ (map directive_row ds ++ (start_row ∷ []))) ++ ys) (beginning_at start (end_rows is_first es ++ (map directive_row es ++ (start_row ∷ []))) ++ others) (ps ++ qs)
    → (Left cs j ys others qs → Ties cs ys others qs)
    → Ties cs (beginning_at before (end_rows is_first ds ++ (map directive_row ds ++ (start_row ∷ []))) ++ ys) (beginning_at start (end_rows is_first es ++ (map directive_row es ++ (start_row ∷ []))) ++ others) (ps ++ qs)
head_ties true before start [] [] e h left go = begun_ties _ _ refl refl refl h no_plain_head left go
head_ties false before start [] [] e h left go = begun_ties _ _ refl refl refl h no_plain_head left go
head_ties is_first before start [] (b ∷ es) e h left go = absurd cc
head_ties is_first before start (a ∷ ds) [] e h left go = absurd cc
head_ties true before start (a ∷ ds) (b ∷ es) e h left go = begun_ties _ _ refl refl refl h (directive_heads ds es (ap other_words e)) left go
head_ties false before start (a ∷ ds) (b ∷ es) e h left go = begun_ties _ _ refl refl refl h (directive_heads (a ∷ ds) (b ∷ es) e) left go

-- Documents.

abbrev first_root : DocumentTree → List DocumentTree → Node
first_root other [] = other.root
first_root other (w ∷ ws) = w.root

abbrev other_trees : List DocumentTree → List DocumentTree
other_trees [] = []
other_trees (w ∷ ws) = ws

left_apart : {cs : List CommentValue} {j : ℕ} (hs bs xs fs gs ys : List Row) (ps qs rs : List PlacedRow) → Left cs j ((hs ++ bs) ++ xs) ((fs ++ gs) ++ ys) ((ps ++ qs) ++ rs) → Left cs j (hs ++ (bs ++ xs)) (fs ++ (gs ++ ys)) (ps ++ (qs ++ rs))
left_apart {cs} {j} hs bs xs fs gs ys ps qs rs a =
    subst (λ z. Left cs j z (fs ++ (gs ++ ys)) (ps ++ (qs ++ rs))) (append_assoc hs bs xs) (subst (λ z. Left cs j ((hs ++ bs) ++ xs) z (ps ++ (qs ++ rs))) (append_assoc fs gs ys)
    (subst (λ z. Left cs j ((hs ++ bs) ++ xs) ((fs ++ gs) ++ ys) z) (append_assoc ps qs rs) a))

ties_apart : {cs : List CommentValue} (hs bs xs fs gs ys : List Row) (ps qs rs : List PlacedRow) → Ties cs (hs ++ (bs ++ xs)) (fs ++ (gs ++ ys)) (ps ++ (qs ++ rs)) → Ties cs ((hs ++ bs) ++ xs) ((fs ++ gs) ++ ys) ((ps ++ qs) ++ rs)
ties_apart {cs} hs bs xs fs gs ys ps qs rs a =
    subst (λ z. Ties cs z ((fs ++ gs) ++ ys) ((ps ++ qs) ++ rs)) (sym (append_assoc hs bs xs)) (subst (λ z. Ties cs (hs ++ (bs ++ xs)) z ((ps ++ qs) ++ rs)) (sym (append_assoc fs gs ys))
    (subst (λ z. Ties cs (hs ++ (bs ++ xs)) (fs ++ (gs ++ ys)) z) (sym (append_assoc ps qs rs)) a))

pub stream_ties : {u : List ℕ} {s : Style} {ms cs : List CommentValue} {is_first : Bool} {j : ℕ} {ds es : List Doc} {xs zs : List DocumentTree} {ps : List PlacedRow} (ys : List DocumentTree) → FoundRoots u (setting s ms) is_first es xs zs ps
    → map bare_tree zs ≡ map bare_tree ys → FoundTrees s ms u cs ds xs es ys → Left cs j (stream_rows (setting s ms) is_first ds xs) (stream_rows (setting s cs) is_first es ys) ps
    → Ties cs (stream_rows (setting s ms) is_first ds xs) (stream_rows (setting s cs) is_first es ys) ps
stream_ties [] no_roots e none_found left = no_ties
stream_ties [] (one_root heads h b r more) e found left = absurd cc
stream_ties (y ∷ ys) no_roots e found left = elim found [ ]
stream_ties {s = s} {ms = ms} {cs = cs} {is_first = is_first} (y ∷ ys) (one_root {d = d} {ds = es} {z = z} {zs = zs} {inner = inner} {qs = qs} heads h b r more) e (one_found {d = f} {ds = ds} {x = x} {xs = xs} words alike calm others) left =
    let root : bare z.root ≡ bare y.root = ap (first_root (bare_tree z)) e in
    let rest : map bare_tree zs ≡ map bare_tree ys = ap other_trees e in
    let hs : List Row = beginning_at f.start (end_rows is_first f.directives ++ (map directive_row f.directives ++ (start_row ∷ []))) in
    let fs : List Row = beginning_at d.start (end_rows is_first d.directives ++ (map directive_row d.directives ++ (start_row ∷ []))) in
    let bs : List Row = rows (setting s ms) (root_margins s) x.root in
    let gs : List Row = rows (setting s cs) (root_margins s) y.root in
    let ax : List Row = stream_rows (setting s ms) false ds xs in
    let fx : List Row = stream_rows (setting s cs) false es ys in
    ties_apart hs bs ax fs gs fx heads inner qs
    (head_ties is_first f.start d.start f.directives d.directives words h (left_apart hs bs ax fs gs fx heads inner qs left)
    (λ further. node_ties bs gs inner (same_block_rows s (root_margins s) alike) (node_marks cs (root_margins s) refl alike (rows_renoted y.root root r)) further (λ last. stream_ties ys more rest others last)))

-- if the first document has no `---`

abbrev begun_marks : ℕ → List Mark → List Mark
begun_marks start [] = []
begun_marks start (m ∷ ms) = (start ∷ m.0, m.1) ∷ ms

row_marks : (start : ℕ) (rs : List Row) → marks (begun_at start rs) ≡ begun_marks start (marks rs)
row_marks start [] = refl
row_marks start (r ∷ rs) = refl

found_marks : (start : ℕ) (ps : List PlacedRow) → placed_marks (begun_placed start ps) ≡ begun_marks start (placed_marks ps)
found_marks start [] = refl
found_marks start (p ∷ ps) = refl

bare_ties : {u : List ℕ} {s : Style} {ms cs : List CommentValue} {b : Bool} {j : ℕ} {ds es : List Doc} {xs zs : List DocumentTree} {ps : List PlacedRow} (ys : List DocumentTree) → AllRoots u (setting s ms) b es xs zs ps
    → map bare_tree zs ≡ map bare_tree ys → FoundTrees s ms u cs ds xs es ys → Left cs j (all_rows (setting s ms) b ds xs) (all_rows (setting s cs) b es ys) ps
    → Ties cs (all_rows (setting s ms) b ds xs) (all_rows (setting s cs) b es ys) ps
bare_ties ys (marked_roots roots) e found left = stream_ties ys roots e found left
bare_ties [] (bare_root b r more) e found left = absurd cc
bare_ties {s = s} {ms = ms} {cs = cs} (y ∷ ys) (bare_root {d = d} {z = z} {zs = zs} {inner = inner} {qs = qs} b r more) e (one_found {d = f} {x = x} words alike calm others) left =
    let root : bare z.root ≡ bare y.root = ap (first_root (bare_tree z)) e in
    let rest : map bare_tree zs ≡ map bare_tree ys = ap other_trees e in
    let bs : List Row = rows (setting s ms) (root_margins s) x.root in
    let gs : List Row = rows (setting s cs) (root_margins s) y.root in
    node_ties (begun_at f.start bs) (begun_at d.start gs) (begun_placed d.start inner)
    (begun_shaped f.start bs ∙ (same_block_rows s (root_margins s) alike ∙ sym (begun_shaped d.start gs)))
    (row_marks d.start gs ∙ (ap (begun_marks d.start) (node_marks cs (root_margins s) refl alike (rows_renoted y.root root r)) ∙ sym (found_marks d.start inner)))
    left (λ last. stream_ties ys more rest others last)

pub all_ties : {u : List ℕ} {s : Style} {ms cs : List CommentValue} {b c : Bool} {j : ℕ} {ds es : List Doc} {xs zs : List DocumentTree} {ps : List PlacedRow} (ys : List DocumentTree) → c ≡ b → AllRoots u (setting s ms) b es xs zs ps
    → map bare_tree zs ≡ map bare_tree ys → FoundTrees s ms u cs ds xs es ys → Left cs j (all_rows (setting s ms) b ds xs) (all_rows (setting s cs) c es ys) ps
    → Ties cs (all_rows (setting s ms) b ds xs) (all_rows (setting s cs) c es ys) ps
all_ties {s = s} {ms = ms} {cs = cs} {b = b} {j = j} {ds = ds} {es = es} {xs = xs} {ps = ps} ys same roots e found left =
    subst (λ w. Ties cs (all_rows (setting s ms) b ds xs) (all_rows (setting s cs) w es ys) ps) (sym same)
    (bare_ties ys roots e found (subst (λ w. Left cs j (all_rows (setting s ms) b ds xs) (all_rows (setting s cs) w es ys) ps) same left))
