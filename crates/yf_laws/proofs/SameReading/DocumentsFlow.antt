-- Upright rows cut the comments by the documents that begin on them, as they do by their leaves: what trails a row of a
-- document is before the next document.
use Rattle.std.proofs.Common.{◌≡◌, ◌≢◌, ℕ, max, ◌<◌, ◌≤◌, Bool, true, false, true≢false, ◌&&◌, ◌||◌, List, [], ◌∷◌, ◌++◌, map, Some, None, refl, sym, ap, ◌∙◌, subst, arith, append_assoc, ⊎_elim, ◌+◌}
use Rattle.std.specs.Prelude.{find, nat_le, nat_lt, zip, if◌then◌else◌}
use Rattle.std.specs.List.{list_any}
use Rattle.std.proofs.lemmas.Bool.{cases_lt}
use Rattle.std.proofs.lemmas.Bool.Decides.{nat_tests}
use Rattle.std.proofs.lemmas.Option.{same_Some}
use Rattle.std.specs.Str.{IsUtf8}
use Rattle.yf_chars.specs.Chain.{Chain}
use Rattle.yf_chars.specs.Chain.Chain.{done, step}
use Rattle.yf_chars.specs.Text.{code, no_char}
use Rattle.yf_chars.proofs.TextLemmas.{code-past}
use Rattle.yf_lines.specs.Basic.{Break}
use Rattle.yf_lines.specs.Lines.{AreLines, OneLine}
use Rattle.yf_lines.specs.Lines.OneLine.{one_line}
use Rattle.yf_lines.specs.declared.line.Line.{Line}
use Rattle.yf_lines.proofs.MarkLemmas.{break_at_start}
use Rattle.yf_comments.specs.Comment.{CommentValue}
use Rattle.yf_events.specs.Tree.{DocumentTree, leaves}
use Rattle.yf_events.specs.declared.directive.Directive.{Directive}
use Rattle.yf_events.specs.declared.document.Doc.{Doc}
use Rattle.yf_events.specs.declared.event.Span.{Span}
use Rattle.yf_grammar.proofs.NodesInText.NodePlaces.{node_order}
use Rattle.yf_stream.specs.ReadingOf.{is_on_line, last_leaf, leaf_lines, on_line_of}
use Rattle.yf_stream.proofs.Offsets.BrokenEnds.{Broken, at_break, at_text_end}
use Rattle.yf_stream.proofs.Offsets.DirectiveOrder.{directives_order}
use Rattle.yf_stream.proofs.Offsets.ReadingTrees.{TreesStand, no_trees_stand, tree_is_at}
use Rattle.yf_laws.proofs.SameReading.RowSteps.{documents_begin}
use Rattle.yf_laws.specs.Layouts.Layout.{Remark, Source, first_comment, is_before, next_leaf, trailing}
use Rattle.yf_forms.specs.NormalForms.Normal.{LayoutSetting, normal_document, root_margins}
use Rattle.yf_print.specs.Layouts.Rows.{Row, beginning_at, directive_row, end_rows, rows, start_row, stream_rows, all_rows, begun_at}
use Rattle.yf_laws.proofs.SameReading.CommentsCut.{In, in_first, in_rest, Flowing, no_flow, a_flow, none_trails}
use Rattle.yf_laws.proofs.SameReading.ItemsOrder.{items_on, rises_greatest}
use Rattle.yf_laws.proofs.OfTexts.LeavesRise.{Steps, no_step, a_step, node_steps, steps_order}
use Rattle.yf_laws.proofs.OfTexts.MarksOrder.{Rises, rises_order}
use Rattle.yf_laws.proofs.SameReading.NoStarts.{NoStarts, no_start_on, rows_none}
use Rattle.yf_laws.proofs.NormalForms.NormalSame.{root_same}
use Rattle.yf_laws.proofs.OfTexts.PlacedTrees.{node_placed}
use Rattle.yf_laws.proofs.SameReading.QuietRows.{node_flows}
use Rattle.yf_laws.proofs.SameReading.QuietTrees.{Free, free_at, node_sits}
use Rattle.yf_laws.proofs.SameReading.RowFlow.{greatest, precedes_greatest, Has, has_first, has_rest, Near, at_leaf, before_leaf, RowTrail, untrailed, trailed_after, Upright, no_upright, an_upright, row_cut_by, starts_on, starts_are}
use Rattle.yf_laws.proofs.Trails.RowLeaves.{leaves_on, node_leaves}
use Rattle.yf_laws.proofs.SameReading.RowsFit.{rises_apart}
use Rattle.yf_laws.proofs.SameReading.SourceOffsets.{head_rows}
use Rattle.yf_laws.proofs.SameReading.StartsBefore.{AllFrom, none_later, one_later, later_from, none_earlier, one_earlier, later_join, none_before, one_before, starts_before}
use Rattle.yf_laws.proofs.NormalForms.StyledTwice.{normal_house}
use Rattle.yf_laws.proofs.Printer.DocumentsPrinted.{RootsLaid}

-- No line break ends between the end of a leaf and a comment on the line on which the leaf ends.

on_line_parts : (s n end o : ℕ) → (nat_le s o && nat_lt o n && nat_lt s end && nat_le end n) ≡ true → (s < end) × (o < n)
on_line_parts s n end o e = (grind (arith, nat_tests), grind (arith, nat_tests))

unbroken_line : {t : List ℕ} {h k : ℕ} {ls : List Line} → Chain (OneLine t) h k ls → (end o i j : ℕ) → list_any (is_on_line end o) ls ≡ true → Break t i j → end ≤ j → j ≤ o → ⊥
unbroken_line done end o i j e b l m = true≢false (sym e)
unbroken_line {t} (step {y = others} (one_line {l = line} a) c) end o i j e b l m = go (is_on_line end o line) refl e (λ f. unbroken_line c end o i j f b l m) where
  go : (p : Bool) → is_on_line end o line ≡ p → (p || list_any (is_on_line end o) others) ≡ true → (list_any (is_on_line end o) others ≡ true → ⊥) → ⊥
  go true q f k =
      let parts = on_line_parts line.start line.next end o q in
      let low : line.start < end = parts.0 in
      let high : o < line.next = parts.1 in
      let same : line.start ≡ j = break_at_start line a b (omega (arith, low, l)) (omega (arith, high, m)) in
      absurd (omega (arith, same, low, l))
  go false q f k = k f

-- The note of a comment that is found.

noted_as : (p g : CommentValue → Bool) (cs : List CommentValue) (r : Remark) → find (λ (q : Remark). p q.0) (zip cs (map g cs)) ≡ Some r → r.1 ≡ g r.0
noted_as p g [] r e = absurd cc
noted_as p g (c ∷ cs) r e = go (p c) (noted_as p g cs r) e where
  go : (b : Bool) → (find (λ (q : Remark). p q.0) (zip cs (map g cs)) ≡ Some r → r.1 ≡ g r.0)
      → (if b then Some (c, g c) else find (λ (q : Remark). p q.0) (zip cs (map g cs))) ≡ Some r → r.1 ≡ g r.0
  go true f k = subst (λ (w : Remark). w.1 ≡ g w.0) (same_Some (c, g c) r k) refl
  go false f k = f k

has_left : {s : Span} {xs : List Span} (ys : List Span) → Has s xs → Has s (xs ++ ys)
has_left ys has_first = has_first
has_left ys (has_rest a) = has_rest (has_left ys a)

has_right : {s : Span} {ys : List Span} (xs : List Span) → Has s ys → Has s (xs ++ ys)
has_right [] a = a
has_right (x ∷ xs) a = has_rest (has_right xs a)

steps_has : {i j : ℕ} {s : Span} {ss : List Span} → Steps i ss j → Has s ss → (s.start ≤ j) × (s.end ≤ j)
steps_has (a_step l w a) has_first = let m = steps_order a in (omega (arith, m, w), m)
steps_has (a_step l w a) (has_rest b) = steps_has a b
steps_has (no_step l) b = elim b [ ]

-- rows that begin with one that has no leaf
abbrev Bare : List Row → Type 0
Bare ys = (next : Row) (more : List Row) → ys ≡ next ∷ more → next.leaves ≡ []

head_bare : (is_first : Bool) (start : ℕ) (dirs : List Directive) (ys : List Row) → Bare (beginning_at start (end_rows is_first dirs ++ (map directive_row dirs ++ (start_row ∷ []))) ++ ys)
head_bare true start [] ys next more e = let same : record start_row { items = start ∷ [] } ≡ next = cc in ap (λ (r : Row). r.leaves) (sym same)
head_bare true start (d ∷ ds) ys next more e = let same : record (directive_row d) { items = start ∷ [] } ≡ next = cc in ap (λ (r : Row). r.leaves) (sym same)
head_bare false start [] ys next more e = let same : record start_row { items = start ∷ [] } ≡ next = cc in ap (λ (r : Row). r.leaves) (sym same)
head_bare false start (d ∷ ds) ys next more e = ap (λ (rs : List Row). first_leaves rs) (sym e) where
  first_leaves : List Row → List Span
  first_leaves [] = []
  first_leaves (r ∷ rs) = r.leaves

module _ {t : List ℕ} (lines : List Line) (are_lines : AreLines t lines) (c : Source) (cs : List CommentValue) (remarks : c.remarks ≡ zip cs (leaf_lines lines c.leaves cs))
    (sign : (d : CommentValue) → In d cs → code t d.offset ≡ 35) where
  abbrev pub note : CommentValue → Bool
  note d = on_line_of lines (last_leaf None d.offset c.leaves) d.offset

  pub note_is : (s : Span) (r : Remark) → first_comment c s ≡ Some r → r.1 ≡ note r.0
  note_is s r e =
      noted_as (λ d. nat_lt s.start d.offset && is_before d.offset (next_leaf c.leaves s.start)) note cs r
      (sym (ap (λ w. find (λ (q : Remark). nat_lt s.start q.0.offset && is_before q.0.offset (next_leaf c.leaves s.start)) w) remarks) ∙ e)

  -- a comment on the line on which a leaf ends, before the end of the document that has the leaf
  pub on_line_before : (j : ℕ) → Broken t j → (e : CommentValue) (s : Span) → In e cs → list_any (is_on_line s.end e.offset) lines ≡ true → s.end ≤ j → e.offset < j
  on_line_before j z e s i on l = ⊎_elim (λ (w : e.offset < j). w) (λ (w : j ≤ e.offset). absurd (past z w)) (cases_lt e.offset j) where
    past : Broken t j → j ≤ e.offset → ⊥
    past (at_break b) w = unbroken_line are_lines s.end e.offset _ j on b l w
    past (at_text_end q) w =
        let beyond : code t e.offset ≡ no_char = code-past t e.offset (omega (arith, q, w)) in
        let here : code t e.offset ≡ 35 = sign e i in
        absurd (omega (arith, beyond, here))

  near_before : (j : ℕ) → Broken t j → (row : Row) (e : CommentValue) (xs ys : List Row) → Bare ys → In e cs → ((s : Span) → Has s (row.leaves ++ leaves_on xs) → (s.start ≤ j) × (s.end ≤ j))
      → Near c row e (xs ++ ys) → e.offset ≤ j
  near_before j z row e xs ys bare i ends (at_leaf s r has last first same test) = go (nat_lt e.offset s.end) refl test where
    end : s.end ≤ j
    end = (ends s (has_left (leaves_on xs) has)).1

    less : (m n : ℕ) → nat_lt m n ≡ true → m < n
    less m n q = grind (arith, nat_tests)

    go : (b : Bool) → nat_lt e.offset s.end ≡ b → (b || r.1) ≡ true → e.offset ≤ j
    go true q f = let l : e.offset < s.end = less e.offset s.end q in omega (arith, l, end)
    go false q f =
        let noted : note e ≡ true = ap note (sym same) ∙ (sym (note_is s r first) ∙ f) in
        let on : list_any (is_on_line s.end e.offset) lines ≡ true = sym (ap (λ o. on_line_of lines o e.offset) last) ∙ noted in
        let l : e.offset < j = on_line_before j z e s i on end in
        omega (arith, l)
  near_before j z row e [] ys bare i ends (before_leaf key next more q s has l) = absurd (none (bare next more q) has) where
    none : {ls : List Span} → ls ≡ [] → Has s ls → ⊥
    none p has_first = absurd cc
    none p (has_rest h) = absurd cc
  near_before j z row e (x ∷ xs) ys bare i ends (before_leaf key next more q s has l) =
      let same : x ≡ next = cc in
      let here : Has s x.leaves = subst (λ (r : Row). Has s r.leaves) (sym same) has in
      let low : s.start ≤ j = (ends s (has_right row.leaves (has_left (leaves_on xs) here))).0 in
      omega (arith, low, l)

  trail_before : (j : ℕ) → Broken t j → (row : Row) (xs ys : List Row) → Bare ys → ((s : Span) → Has s (row.leaves ++ leaves_on xs) → (s.start ≤ j) × (s.end ≤ j)) → RowTrail c cs row (xs ++ ys)
      → (d : CommentValue) → In d (trailing c row) → d.offset ≤ j
  trail_before j z row xs ys bare ends (untrailed q) d i = none q i where
    none : {ds : List CommentValue} → ds ≡ [] → In d ds → d.offset ≤ j
    none e in_first = absurd cc
    none e (in_rest k) = absurd cc
  trail_before j z row xs ys bare ends (trailed_after e a q i s l f g h k n near) d m = one q m where
    here : e.offset ≤ j
    here = near_before j z row e xs ys bare i ends near

    none : {ds : List CommentValue} → ds ≡ [] → In d ds → d.offset ≤ j
    none p in_first = absurd cc
    none p (in_rest o) = absurd cc

    one : {ds : List CommentValue} → ds ≡ e ∷ [] → In d ds → d.offset ≤ j
    one p (in_first {cs = w}) = let same : e ≡ d = cc in subst (λ (v : CommentValue). v.offset ≤ j) same here
    one p (in_rest {cs = w} o) = none {ds = w} (cc) o

  -- The rows of a document's node, before those of further documents.
  root_flow : (j : ℕ) → Broken t j → {rest : List ℕ} → AllFrom j rest → (xs ys : List Row) → Bare ys → {it i : ℕ} → Upright c cs it (xs ++ ys) → NoStarts xs → it ≤ j → Rises i (items_on xs) j
      → ((s : Span) → Has s (leaves_on xs) → (s.start ≤ j) × (s.end ≤ j)) → ((n : ℕ) → n ≤ j → Upright c cs n ys → Flowing documents_begin c cs n ys rest) → Flowing documents_begin c cs it (xs ++ ys) rest
  root_flow j z from [] ys bare {it} up none l r ends k = k it l up
  root_flow j z from (x ∷ xs) ys bare {it} (an_upright first later fits trail more) (no_start_on e none) l r ends k =
      let parts = rises_apart x.items (items_on xs) r in
      let low : greatest x.items ≤ parts.middle = rises_greatest parts.one in
      let high : parts.middle ≤ j = rises_order parts.two in
      let top : max it (greatest x.items) ≤ j = omega (arith, low, high, l) in
      a_flow (greatest x.items) [] e (λ d. precedes_greatest x.items d.offset) (record { still = λ d i m. none_later; follows = λ d i m. none_earlier }) (later_from top from)
      (λ d i. later_from (trail_before j z x xs ys bare ends trail d i) from) (row_cut_by c cs first more trail)
      (root_flow j z from xs ys bare more none top parts.two (λ s h. ends s (has_right x.leaves h)) k)

  -- The rows that begin a document.

  untrailed_row : (d : CommentValue) {P : Type 0} → In d [] → P
  untrailed_row d i = elim i [ ]

  directive_flow : (start : ℕ) → Free cs start → {rest : List ℕ} → AllFrom start rest → (dirs : List Directive) (ys : List Row) {it : ℕ} → Upright c cs it ((map directive_row dirs ++ (start_row ∷ [])) ++ ys)
      → it ≤ start → start ≤ it → ((n : ℕ) → n ≤ start → Upright c cs n ys → Flowing documents_begin c cs n ys rest)
      → Flowing documents_begin c cs it ((map directive_row dirs ++ (start_row ∷ [])) ++ ys) (start ∷ rest)
  directive_flow start free from [] ys {it} (an_upright first later fits trail more) l m k =
      a_flow 0 (start ∷ []) refl (λ d. precedes_greatest [] d.offset)
      (record { still = λ d i n. absurd (omega (arith, n)); follows = λ d i n. let apart : d.offset ≢ start = free d i in one_earlier (omega (arith, n, m, apart)) none_earlier })
      (later_from (omega (arith, l)) from) (λ d i. untrailed_row d i) (none_trails refl) (k (max it 0) (omega (arith, l)) more)
  directive_flow start free from (e ∷ dirs) ys {it} (an_upright first later fits trail more) l m k =
      a_flow 0 [] refl (λ d. precedes_greatest [] d.offset) (record { still = λ d i n. none_later; follows = λ d i n. none_earlier })
      (one_later (omega (arith, l)) (later_from (omega (arith, l)) from)) (λ d i. untrailed_row d i) (none_trails refl)
      (directive_flow start free from dirs ys more (omega (arith, l)) (omega (arith, m)) k)

  -- if the first of them is the `---`
  start_flow : (start : ℕ) → Free cs start → {rest : List ℕ} → AllFrom start rest → (ys : List Row) {it : ℕ} → Upright c cs it (record start_row { items = start ∷ [] } ∷ ys) → it ≤ start
      → ((n : ℕ) → n ≤ start → Upright c cs n ys → Flowing documents_begin c cs n ys rest) → Flowing documents_begin c cs it (record start_row { items = start ∷ [] } ∷ ys) (start ∷ rest)
  start_flow start free from ys {it} (an_upright first later fits trail more) l k =
      a_flow (greatest (start ∷ [])) (start ∷ []) refl (λ d. precedes_greatest (start ∷ []) d.offset)
      (record {
        still = λ d i n. one_later (omega (arith, n)) none_later;
        follows = λ d i n. let apart : d.offset ≢ start = free d i in one_earlier (omega (arith, n, apart)) none_earlier;
      })
      (later_from (omega (arith, l)) from) (λ d i. untrailed_row d i) (none_trails refl) (k (max it (greatest (start ∷ []))) (omega (arith, l)) more)

  head_flow : (is_first : Bool) (start : ℕ) (dirs : List Directive) → Free cs start → {rest : List ℕ} → AllFrom start rest → (ys : List Row) {it : ℕ}
      → Upright c cs it (beginning_at start (end_rows is_first dirs ++ (map directive_row dirs ++ (start_row ∷ []))) ++ ys) → it ≤ start
      → ((n : ℕ) → n ≤ start → Upright c cs n ys → Flowing documents_begin c cs n ys rest)
      → Flowing documents_begin c cs it (beginning_at start (end_rows is_first dirs ++ (map directive_row dirs ++ (start_row ∷ []))) ++ ys) (start ∷ rest)
  head_flow true start [] free from ys up l k = start_flow start free from ys up l k
  head_flow false start [] free from ys up l k = start_flow start free from ys up l k
  head_flow true start (e ∷ dirs) free from ys {it} (an_upright first later fits trail more) l k =
      a_flow (greatest (start ∷ [])) [] refl (λ d. precedes_greatest (start ∷ []) d.offset) (record { still = λ d i n. none_later; follows = λ d i n. none_earlier })
      (one_later (omega (arith, l)) (later_from (omega (arith, l)) from)) (λ d i. untrailed_row d i) (none_trails refl)
      (directive_flow start free from dirs ys more (omega (arith, l)) (omega arith) k)
  head_flow false start (e ∷ dirs) free from ys {it} (an_upright first later fits trail more) l k =
      a_flow (greatest (start ∷ [])) [] refl (λ d. precedes_greatest (start ∷ []) d.offset) (record { still = λ d i n. none_later; follows = λ d i n. none_earlier })
      (one_later (omega (arith, l)) (later_from (omega (arith, l)) from)) (λ d i. untrailed_row d i) (none_trails refl)
      (directive_flow start free from (e ∷ dirs) ys more (omega (arith, l)) (omega arith) k)

  -- Streams.

  starts_from : {i : ℕ} {ds : List Doc} {trees : List DocumentTree} → TreesStand t i ds trees → AllFrom i (map (λ d. d.start) ds)
  starts_from (no_trees_stand l) = none_later
  starts_from (tree_is_at a b more z) =
      let l = directives_order a in
      let m = node_order b in
      one_later l (later_from (omega (arith, l, m)) (starts_from more))

  stream_bare : (st : LayoutSetting) (is_first : Bool) (ds : List Doc) (trees : List DocumentTree) → Bare (stream_rows st is_first ds trees)
  stream_bare st is_first [] trees next more e = absurd cc
  stream_bare st is_first (d ∷ ds) [] next more e = absurd cc
  stream_bare st is_first (d ∷ ds) (x ∷ xs) next more e =
      head_bare is_first d.start d.directives (rows st (root_margins st.style) x.root ++ stream_rows st false ds xs) next more
      (sym (append_assoc (head_rows is_first d) (rows st (root_margins st.style) x.root) (stream_rows st false ds xs)) ∙ e)

  pub stream_flow : IsUtf8 t → (st : LayoutSetting) → st.comments ≡ cs → {i : ℕ} {ds : List Doc} {trees : List DocumentTree} (is_first : Bool) {it : ℕ} → it ≤ i → TreesStand t i ds trees
      → Upright c cs it (stream_rows st is_first ds (map (normal_document t st) trees)) → Flowing documents_begin c cs it (stream_rows st is_first ds (map (normal_document t st) trees)) (map (λ d. d.start) ds)
  stream_flow u st same is_first l (no_trees_stand m) no_upright = no_flow
  stream_flow u st same is_first {it} l (tree_is_at {j = j} {d = d} {ds = ds} {tree = tree} {trees = trees} a b more z) up =
      let head : List Row = head_rows is_first d in
      let root : List Row = rows st (root_margins st.style) (normal_document t st tree).root in
      let others : List Row = stream_rows st false ds (map (normal_document t st) trees) in
      let starts : List ℕ = map (λ (w : Doc). w.start) ds in
      let placed = (root_same t st tree).placed ∙ node_placed b in
      let house = normal_house t st (root_margins st.style) tree.root in
      let signed : (x : CommentValue) → In x st.comments → code t x.offset ≡ 35 = λ x i. sign x (subst (λ w. In x w) same i) in
      let node = node_flows st (node_sits u st signed (root_margins st.style) b) placed house in
      let leaves_are : leaves_on root ≡ leaves tree.root = node_leaves st (root_margins st.style) (normal_document t st tree).root placed house ∙ (root_same t st tree).leaves in
      let before = directives_order a in
      let within = node_order b in
      let from : AllFrom j starts = starts_from more in
      let grouped : (head ++ root) ++ others ≡ head ++ (root ++ others) = append_assoc head root others in
      subst (λ w. Flowing documents_begin c cs it w (d.start ∷ starts)) (sym grouped)
      (head_flow is_first d.start d.directives (free_at u cs sign z.start) (later_from within from) (root ++ others) (subst (λ w. Upright c cs it w) grouped up) (omega (arith, l, before))
      (λ n m upright. root_flow j z.end from root others (stream_bare st false ds (map (normal_document t st) trees)) upright (rows_none st (root_margins st.style) (normal_document t st tree).root)
      (omega (arith, m, within)) (node.rises (root_margins st.style)) (λ s h. steps_has (node_steps b) (subst (λ w. Has s w) leaves_are h))
      (λ k o rest. stream_flow u st same false o more rest)))

  -- If the first document has no `---`, it begins on the first row of its root, and no comment is between its start and
  -- the last item on that row.

  begun_flow : (start j : ℕ) → start ≤ j → Free cs start → Broken t j → {rest : List ℕ} → AllFrom j rest → (xs ys : List Row) → (xs ≡ [] → ⊥) → Bare ys → {it : ℕ} → Upright c cs it (begun_at start xs ++ ys) → NoStarts xs → it ≤ start
      → Rises start (items_on xs) j → ((s : Span) → Has s (leaves_on xs) → (s.start ≤ j) × (s.end ≤ j)) → ((d : CommentValue) → In d cs → start < d.offset → d.offset < j → AllFrom d.offset (starts_on (begun_at start xs ++ ys)) → ⊥)
      → ((n : ℕ) → n ≤ j → Upright c cs n ys → Flowing documents_begin c cs n ys rest) → Flowing documents_begin c cs it (begun_at start xs ++ ys) (start ∷ rest)
  begun_flow start j l free z from [] ys none bare up silent m r ends unled k = absurd (none refl)
  begun_flow start j l free z {rest} from (x ∷ xs) ys none bare {it} (an_upright first later fits trail more) (no_start_on e silent) m r ends unled k =
      let parts = rises_apart x.items (items_on xs) r in
      let low : greatest x.items ≤ parts.middle = rises_greatest parts.one in
      let high : parts.middle ≤ j = rises_order parts.two in
      let top : max it (greatest (start ∷ x.items)) ≤ j = omega (arith, low, high, l, m) in
      a_flow (greatest (start ∷ x.items)) (start ∷ []) refl (λ d. precedes_greatest (start ∷ x.items) d.offset)
      (record {
        still = λ d i n. one_later (⊎_elim
            (λ (w : start < d.offset). absurd (unled d i w (omega (arith, n, top)) (later_join (fits.still d i n) (subst (λ ss. AllFrom d.offset ss) (sym (starts_are (xs ++ ys))) (later_from (omega (arith, n)) later)))))
            (λ (w : d.offset ≤ start). w) (cases_lt start d.offset)) none_later;
        follows = λ d i n. let apart : d.offset ≢ start = free d i in one_earlier (omega (arith, n, apart)) none_earlier;
      })
      (later_from top from) (λ d i. later_from (trail_before j z (record x { items = start ∷ x.items; begins = true }) xs ys bare ends trail d i) from) (row_cut_by c cs first more trail)
      (root_flow j z from xs ys bare more silent top parts.two (λ s h. ends s (has_right x.leaves h)) k)

  pub all_flow : IsUtf8 t → (st : LayoutSetting) → st.comments ≡ cs → {i : ℕ} {ds : List Doc} {trees : List DocumentTree} (bare : Bool) {it : ℕ} → it ≤ i → TreesStand t i ds trees → RootsLaid st bare (map (normal_document t st) trees)
      → (bare ≡ true → (d : CommentValue) → In d cs → starts_before (map (λ d. d.start) ds) d.offset ≡ 1 → AllFrom d.offset (starts_on (all_rows st bare ds (map (normal_document t st) trees))) → ⊥)
      → Upright c cs it (all_rows st bare ds (map (normal_document t st) trees)) → Flowing documents_begin c cs it (all_rows st bare ds (map (normal_document t st) trees)) (map (λ d. d.start) ds)
  all_flow u st same false l stand laid unled up = stream_flow u st same true l stand up
  all_flow u st same true l (no_trees_stand m) laid unled no_upright = no_flow
  all_flow u st same true {it} l (tree_is_at {j = j} {d = d} {ds = ds} {tree = tree} {trees = trees} a b more z) laid unled up =
      let root : List Row = rows st (root_margins st.style) (normal_document t st tree).root in
      let others : List Row = stream_rows st false ds (map (normal_document t st) trees) in
      let placed = (root_same t st tree).placed ∙ node_placed b in
      let house = normal_house t st (root_margins st.style) tree.root in
      let signed : (x : CommentValue) → In x st.comments → code t x.offset ≡ 35 = λ x i. sign x (subst (λ w. In x w) same i) in
      let node = node_flows st (node_sits u st signed (root_margins st.style) b) placed house in
      let leaves_are : leaves_on root ≡ leaves tree.root = node_leaves st (root_margins st.style) (normal_document t st tree).root placed house ∙ (root_same t st tree).leaves in
      let before = directives_order a in
      let within = node_order b in
      let from : AllFrom j (map (λ (w : Doc). w.start) ds) = starts_from more in
      begun_flow d.start j within (free_at u cs sign z.start) z.end from root others laid (stream_bare st false ds (map (normal_document t st) trees)) up (rows_none st (root_margins st.style) (normal_document t st tree).root) (omega (arith, l, before))
      (node.rises (root_margins st.style)) (λ s h. steps_has (node_steps b) (subst (λ w. Has s w) leaves_are h))
      (λ e i m n f. unled refl e i (one_before d.start e.offset (map (λ (w : Doc). w.start) ds) m ∙ ap (λ k. 1 + k) (none_before (later_from (omega (arith, n)) from))) f)
      (λ n m upright. stream_flow u st same false m more upright)
