-- In a layout, what follows the lines of a block scalar is further left, and not part of it.
use Rattle.std.proofs.Common.{◌≡◌, ℕ, ◌+◌, ◌<◌, ◌≤◌, Bool, true, false, ◌&&◌, List, [], ◌∷◌, ◌++◌, map, replicate, Option, Some, None, encode_utf8, true≢false, refl, sym, ap, ◌∙◌, subst, arith, append_assoc}
use Rattle.std.specs.Prelude.{filter, not, if◌then◌else◌, ◌-◌}
use Rattle.yf_comments.specs.Comment.{CommentValue}
use Rattle.yf_comments.specs.GapLines.{AllLeft}
use Rattle.yf_block_scalar.specs.Placed.{Below, nothing_below, line_below, KeptGap}
use Rattle.yf_block_scalar.specs.declared.header.Chomp.TheVariants.{Keep}
use Rattle.yf_events.specs.declared.directive.Directive.{Directive}
use Rattle.yf_events.specs.declared.document.Doc.{Doc}
use Rattle.yf_events.specs.declared.event.ScalarStyle.TheVariants.{Plain, Single, Double, Literal, Folded}
use Rattle.yf_events.specs.declared.lists.Lists.{Lists}
use Rattle.yf_events.specs.Tree.{Node, scalar, alias, sequence, mapping, Items, no_items, item, Pairs, no_pairs, pair, DocumentTree, is_sequence}
use Rattle.yf_forms.specs.declared.style.Style.{Style}
use Rattle.yf_forms.specs.Nodes.BlockLines.{block_lines}
use Rattle.yf_laws.specs.Layouts.RowComments.{CalmBody, Calm}
use Rattle.yf_laws.specs.Layouts.Decorated.{GapLine, remark, Deco, blank_if, remarks_after, ending_after, gap_of, comments_left, decos_of, end_then, lines_then, first, after, row_decos, rows_of}
use Rattle.yf_laws.specs.Layouts.FitDocuments.{FitDocuments}
use Rattle.yf_laws.specs.Layouts.Layout.{Source, precedes_item, may_be_blank_after, own_line_comments, source_of}
use Rattle.yf_forms.specs.Nodes.Lines.{trimmed}
use Rattle.yf_forms.specs.NormalForms.Normal.{LayoutSetting, Margins, inner_margins, key_margins, value_of_implicit, value_entries, value_margins, root_margins, is_implicit, key_comment, setting_of}
use Rattle.yf_forms.specs.NormalForms.BareStart.{is_bare}
use Rattle.yf_print.specs.Layouts.Rows.{Row, Ending, anywhere, one_line, one_line_row, props_row, joined, after_sign, after_key, begins_below, entry_row, colon_row, key_row, explicit_pair, pair_rows, rows, rows_of_items, rows_of_pairs, directive_row, end_rows, start_row, beginning_at, begun_at, all_rows, stream_rows}
use Rattle.yf_forms.specs.Nodes.OneLine.{written, props_text}
use Rattle.yf_laws.proofs.Derived.RowsUtf8.{RowLines, no_rows, row_more, all_lines}
use Rattle.yf_laws.proofs.Derived.TreesMade.{either_pair}
use Rattle.yf_print.specs.Layouts.KeptColumns.{Columns, columns_of, is_bodyless}
use Rattle.yf_laws.proofs.OutputLines.ColumnsHold.{GapHolds, WalkFrom, blank_holds, every, gap_columns, left_walk, none_holds, remark_holds}
use Rattle.yf_laws.proofs.OutputLines.ChainedDocuments.{layout_chain}
use Rattle.yf_laws.proofs.OutputLines.OpenChains.{BodyRight, Chained, chain_row}
use Rattle.yf_print.specs.declared.open_blocks.OpenBlock.{OpenBlock}
use Rattle.yf_laws.proofs.SameReading.CommentsCut.{Each}

-- Columns of rows.

-- the column of the next row, or of what follows the rows
abbrev next_column : ℕ → List Row → ℕ
next_column k [] = k
next_column k (x ∷ xs) = x.column

-- before the lines of a block scalar
abbrev IsLeft : List (List ℕ) → ℕ → ℕ → Type 0
IsLeft [] column lines = Unit {0}
IsLeft (l ∷ ls) column lines = column < lines

-- each row after a block scalar is left of its lines, and so is the end of the rows, at the column k
data Steps (k : ℕ) : List Row → Type 0 where
  no_steps : Steps k []
  one_step : {x : Row} {xs : List Row} → IsLeft x.body (next_column k xs) x.lines → Steps k xs → Steps k (x ∷ xs)

left_all : (body : List (List ℕ)) (column lines : ℕ) → column < lines → IsLeft body column lines
left_all [] column lines l = tt
left_all (x ∷ xs) column lines l = l

left_of : (body : List (List ℕ)) (i j lines : ℕ) → i ≤ j → IsLeft body j lines → IsLeft body i lines
left_of [] i j lines l a = tt
left_of (x ∷ xs) i j lines l a = omega arith

steps_append : {k : ℕ} {ys xs : List Row} → Steps (next_column k ys) xs → Steps k ys → Steps k (xs ++ ys)
steps_append no_steps b = b
steps_append (one_step {xs = []} a more) b = one_step a b
steps_append (one_step {xs = x ∷ xs} a more) b = one_step a (steps_append more b)

-- Rows that are joined.

bare_steps : {k : ℕ} (x : Row) {xs : List Row} → x.body ≡ [] → Steps k xs → Steps k (x ∷ xs)
bare_steps {k} x {xs} e a = one_step (subst (λ b. IsLeft b (next_column k xs) x.lines) (sym e) tt) a

joined_steps : {k : ℕ} (head : Row) {rs : List Row} (n : ℕ) → head.body ≡ [] → Steps k rs → Steps k (joined head n rs)
joined_steps head n e no_steps = bare_steps head e no_steps
joined_steps head n e (one_step a more) = one_step a more

after_key_steps : {k : ℕ} (head : Row) {rs : List Row} (o : Option CommentValue) (below : Bool) → head.body ≡ [] → Steps k rs → Steps k (after_key head o below rs)
after_key_steps head (Some c) below e a = bare_steps _ e a
after_key_steps head None true e a = bare_steps _ e a
after_key_steps head None false e a = joined_steps head 1 e a

one_line_steps : {k : ℕ} (column : ℕ) (x : Node) (w : List ℕ) → Steps k (one_line_row column x w)
one_line_steps column x [] = no_steps
one_line_steps column x (b ∷ w) = one_step tt no_steps

line_steps : (house : Style) {k : ℕ} (margins : Margins) (x : Node) → Steps k (one_line house margins x)
line_steps house margins x = one_line_steps margins.column x (written house x)

props_steps : {k : ℕ} (column : ℕ) (w : List ℕ) {rs : List Row} → Steps k rs → Steps k (props_row column w ++ rs)
props_steps column [] a = a
props_steps column (b ∷ w) a = one_step tt a

-- the first of joined rows is at the column of the row that they are joined to
append_column : (k : ℕ) (xs ys : List Row) → next_column k (xs ++ ys) ≡ next_column (next_column k ys) xs
append_column k [] ys = refl
append_column k (x ∷ xs) ys = refl

joined_column : (k : ℕ) (head : Row) (n : ℕ) (rs : List Row) → next_column k (joined head n rs) ≡ head.column
joined_column k head n [] = refl
joined_column k head n (r ∷ rs) = refl

after_key_column : (k : ℕ) (head : Row) (o : Option CommentValue) (below : Bool) (rs : List Row) → next_column k (after_key head o below rs) ≡ head.column
after_key_column k head (Some c) below rs = refl
after_key_column k head None true rs = refl
after_key_column k head None false rs = joined_column k head 1 rs

-- Trees.

-- the claim for the rows of a node, whatever its margins
record NodeSteps (c : LayoutSetting) (x : Node) : Type 0 where
  steps : (margins : Margins) (k : ℕ) → k < margins.lines → k ≤ margins.entries → Steps k (rows c margins x)

record EntriesSteps (column : ℕ) (rs : List Row) : Type 0 where
  steps : (k : ℕ) → k ≤ column → Steps k rs
  first : (k : ℕ) → k ≤ column → next_column k rs ≤ column

-- an entry and those after it
entries_of : {column : ℕ} {xs ys : List Row} → ((k : ℕ) → k ≤ column → Steps k xs) → ((k : ℕ) → next_column k xs ≡ column) → EntriesSteps column ys
    → EntriesSteps column (xs ++ ys)
entries_of {column} {xs} {ys} f g a = record {
  steps = λ k l. steps_append (f (next_column k ys) (a.first k l)) (a.steps k l);
  first = λ k l. omega (arith, append_column k xs ys, g (next_column k ys));
}

no_entries : (column : ℕ) → EntriesSteps column []
no_entries column = record { steps = λ k l. no_steps; first = λ k l. l }

inner_steps : {c : LayoutSetting} {x : Node} (column k : ℕ) → NodeSteps c x → k ≤ column → Steps k (rows c (inner_margins c.style column) x)
inner_steps {c} column k f l = let wide : 2 ≤ c.style.indent = c.style.indent_from in f.steps (inner_margins c.style column) k (omega (arith, wide)) (omega arith)

entries_right : (s : Style) (column : ℕ) (v : Node) → column ≤ value_entries s column v
entries_right s column v = go (is_sequence v && not s.seq_indent) where
  go : (b : Bool) → column ≤ (if b then column else column + s.indent)
  go true = omega arith
  go false = omega arith

implicit_steps : {c : LayoutSetting} {x : Node} (column k : ℕ) (key : Node) → NodeSteps c x → k ≤ column → Steps k (rows c (value_of_implicit c column key x) x)
implicit_steps {c} {x} column k key f l =
    let wide : 2 ≤ c.style.indent = c.style.indent_from in
    let right : column ≤ value_entries c.style column x = entries_right c.style column x in
    f.steps (value_of_implicit c column key x) k (omega (arith, wide)) (omega (arith, right))

-- a `?` with its key, and the `:` with its value
question_steps : {c : LayoutSetting} {k : Node} (column n : ℕ) → NodeSteps c k → n ≤ column → Steps n (rows c (key_margins c.style column k) k)
question_steps {c} {k} column n f l = let wide : 2 ≤ c.style.indent = c.style.indent_from in f.steps (key_margins c.style column k) n (omega (arith, wide)) (omega arith)

signs_steps : {column n : ℕ} (s : Style) (head last : Row) {rs ls : List Row} → head.body ≡ [] → last.body ≡ [] → head.column ≡ column → last.column ≡ column → Steps column rs → Steps n ls
    → Steps n (after_sign s head rs ++ after_sign s last ls) × ((m : ℕ) → next_column m (after_sign s head rs ++ after_sign s last ls) ≡ column)
signs_steps {column} {n} s head last {rs} {ls} e f g h a b =
    let there : column ≡ next_column n (after_sign s last ls) = sym (joined_column n last (s.indent - 1) ls ∙ h) in (
      steps_append (subst (λ m. Steps m (after_sign s head rs)) there (joined_steps head (s.indent - 1) e a)) (joined_steps last (s.indent - 1) f b),
      λ m. append_column m (after_sign s head rs) (after_sign s last ls) ∙ (joined_column (next_column m (after_sign s last ls)) head (s.indent - 1) rs ∙ g),
    )

pair_steps : {c : LayoutSetting} {k v : Node} (column : ℕ) {ys : List Row} → NodeSteps c k → NodeSteps c v → EntriesSteps column ys
    → EntriesSteps column (pair_rows c column k v (rows c (key_margins c.style column k) k) (rows c (value_margins c column k v) v) ++ ys)
pair_steps {c} {k} {v} column {ys} f g a = go (is_implicit c.style column k) where
  signs : (m : ℕ) → m ≤ column → Steps m (explicit_pair c.style column k (rows c (key_margins c.style column k) k) (rows c (inner_margins c.style column) v))
      × ((n : ℕ) → next_column n (explicit_pair c.style column k (rows c (key_margins c.style column k) k) (rows c (inner_margins c.style column) v)) ≡ column)
  signs m l = signs_steps c.style (entry_row column (63 ∷ []) k) (colon_row column k) refl refl refl refl (question_steps column column f (omega arith)) (inner_steps column m g l)

  go : (b : Bool) → EntriesSteps column (either_pair b c column k v ++ ys)
  go true = entries_of
      (λ m l. after_key_steps (key_row c.style column k) (key_comment c.comments k v) (begins_below v) refl (implicit_steps column m k g l))
      (λ m. after_key_column m (key_row c.style column k) (key_comment c.comments k v) (begins_below v) (rows c (value_of_implicit c column k v) v)) a
  go false = entries_of (λ m l. (signs m l).0) (signs column (omega arith)).1 a

mutual
  node_steps : (c : LayoutSetting) (x : Node) → NodeSteps c x
  node_steps c (scalar at props Plain text lines) = record { steps = λ margins k l m. line_steps c.style margins (scalar at props Plain text lines) }
  node_steps c (scalar at props Single text lines) = record { steps = λ margins k l m. line_steps c.style margins (scalar at props Single text lines) }
  node_steps c (scalar at props Double text lines) = record { steps = λ margins k l m. line_steps c.style margins (scalar at props Double text lines) }
  node_steps c (scalar at props Literal text lines) = record { steps = λ margins k l m. one_step (left_all (block_lines Literal margins.lines text lines) k margins.lines l) no_steps }
  node_steps c (scalar at props Folded text lines) = record { steps = λ margins k l m. one_step (left_all (block_lines Folded margins.lines text lines) k margins.lines l) no_steps }
  node_steps c (alias at name) = record { steps = λ margins k l m. line_steps c.style margins (alias at name) }
  node_steps c (sequence at true props xs) = record { steps = λ margins k l m. line_steps c.style margins (sequence at true props xs) }
  node_steps c (sequence at false props xs) = record { steps = λ margins k l m. props_steps margins.column (props_text props) ((items_steps c margins.entries xs).steps k m) }
  node_steps c (mapping at true props ps) = record { steps = λ margins k l m. line_steps c.style margins (mapping at true props ps) }
  node_steps c (mapping at false props ps) = record { steps = λ margins k l m. props_steps margins.column (props_text props) ((pairs_steps c margins.entries ps).steps k m) }

  items_steps : (c : LayoutSetting) (column : ℕ) (xs : Items) → EntriesSteps column (rows_of_items c column xs)
  items_steps c column no_items = no_entries column
  items_steps c column (item x xs) = entries_of {column = column} {xs = after_sign c.style (entry_row column (45 ∷ []) x) (rows c (inner_margins c.style column) x)}
      (λ k l. joined_steps (entry_row column (45 ∷ []) x) (c.style.indent - 1) refl (inner_steps column k (node_steps c x) l))
      (λ k. joined_column k (entry_row column (45 ∷ []) x) (c.style.indent - 1) (rows c (inner_margins c.style column) x)) (items_steps c column xs)

  pairs_steps : (c : LayoutSetting) (column : ℕ) (ps : Pairs) → EntriesSteps column (rows_of_pairs c column ps)
  pairs_steps c column no_pairs = no_entries column
  pairs_steps c column (pair k v ps) = pair_steps column (node_steps c k) (node_steps c v) (pairs_steps c column ps)

-- Documents.

directive_steps : (k : ℕ) (dirs : List Directive) → Steps k (map directive_row dirs ++ (start_row ∷ []))
directive_steps k [] = one_step tt no_steps
directive_steps k (d ∷ ds) = one_step tt (directive_steps k ds)

head_steps : (is_first : Bool) (start k : ℕ) (dirs : List Directive) → Steps k (beginning_at start (end_rows is_first dirs ++ (map directive_row dirs ++ (start_row ∷ []))))
head_steps true start k [] = one_step tt no_steps
head_steps true start k (d ∷ ds) = one_step tt (directive_steps k ds)
head_steps false start k [] = one_step tt no_steps
head_steps false start k (d ∷ ds) = one_step tt (directive_steps k (d ∷ ds))

head_column : (is_first : Bool) (start k : ℕ) (dirs : List Directive) → next_column k (beginning_at start (end_rows is_first dirs ++ (map directive_row dirs ++ (start_row ∷ [])))) ≡ 0
head_column true start k [] = refl
head_column true start k (d ∷ ds) = refl
head_column false start k [] = refl
head_column false start k (d ∷ ds) = refl

-- for a stream; nothing follows
stream_steps : (c : LayoutSetting) (is_first : Bool) (ds : List Doc) (trees : List DocumentTree) → Steps 0 (stream_rows c is_first ds trees) × (next_column 0 (stream_rows c is_first ds trees) ≡ 0)
stream_steps c is_first [] trees = (no_steps, refl)
stream_steps c is_first (d ∷ ds) [] = (no_steps, refl)
stream_steps c is_first (d ∷ ds) (x ∷ xs) =
    let others = stream_steps c false ds xs in
    let wide : 2 ≤ c.style.indent = c.style.indent_from in
    let heads : List Row = beginning_at d.start (end_rows is_first d.directives ++ (map directive_row d.directives ++ (start_row ∷ []))) in
    let root = (node_steps c x.root).steps (root_margins c.style) 0 (omega (arith, wide)) (omega arith) in
    let tree : List Row = rows c (root_margins c.style) x.root in
    let rest : List Row = stream_rows c false ds xs in
    let first : next_column 0 ((heads ++ tree) ++ rest) ≡ 0 =
    append_column 0 (heads ++ tree) rest ∙ (append_column (next_column 0 rest) heads tree ∙ head_column is_first d.start (next_column (next_column 0 rest) tree) d.directives) in
    let document : Steps 0 (heads ++ tree) = steps_append (head_steps is_first d.start (next_column 0 tree) d.directives) root in
    (steps_append (subst (λ k. Steps k (heads ++ tree)) (sym others.1) document) others.0, first)

begun_steps : {k : ℕ} {xs : List Row} (start : ℕ) → Steps k xs → Steps k (begun_at start xs)
begun_steps start no_steps = no_steps
begun_steps start (one_step l a) = one_step l a

all_steps : (c : LayoutSetting) (bare : Bool) (ds : List Doc) (trees : List DocumentTree) → Steps 0 (all_rows c bare ds trees)
all_steps c false ds trees = (stream_steps c true ds trees).0
all_steps c true [] trees = no_steps
all_steps c true (d ∷ ds) [] = no_steps
all_steps c true (d ∷ ds) (x ∷ xs) =
    let others = stream_steps c false ds xs in
    let wide : 2 ≤ c.style.indent = c.style.indent_from in
    let root = (node_steps c x.root).steps (root_margins c.style) 0 (omega (arith, wide)) (omega arith) in
    steps_append (subst (λ k. Steps k (begun_at d.start (rows c (root_margins c.style) x.root))) (sym others.1) (begun_steps d.start root)) others.0

-- After the lines of a block scalar.

gap_left : {k : ℕ} {gs : List GapLine} → GapHolds (λ c. c < k) gs → AllLeft k gs
gap_left none_holds = tt
gap_left (blank_holds h) = gap_left h
gap_left (remark_holds l h) = (l, gap_left h)

rows_below : {k : ℕ} {rs : List Row} (ds : List Deco) → RowLines rs → next_column 0 rs < k → Below k (lines_then rs ds [])
rows_below ds no_rows l = nothing_below
rows_below {k} ds (row_more {x = x} {xs = xs} a s b more) l =
    let z : List ℕ = end_then (first ds) x.body (lines_then xs (after ds) []) in
    let there : x.text ++ z ≡ encode_utf8 s.char ++ (s.follows ++ z) = ap (λ w. w ++ z) s.is ∙ append_assoc (encode_utf8 s.char) s.follows z in
    subst (λ w. Below k (replicate x.column 32 ++ w)) (sym there) (line_below x.column s.char (s.follows ++ z) l s.ns s.no_hash)

-- no blank line is after the kept tail
no_blank : (m b : Bool) → m ≡ false → blank_if (m && b) ≡ []
no_blank true b e = absurd (true≢false e)
no_blank false b e = refl

after_kept : (g : Columns) (before : Ending) (column : ℕ) (b : Bool) (cs : List CommentValue) → may_be_blank_after before ≡ false
    → KeptGap Keep (remarks_after g before column cs ++ blank_if (may_be_blank_after (ending_after before cs) && b))
after_kept g before column b [] e = subst (λ z. KeptGap Keep z) (sym (no_blank (may_be_blank_after before) b e)) tt
after_kept g before column b (c ∷ cs) e =
    subst (λ z. KeptGap Keep ((z ++ (remark (g c column) (trimmed c.text) ∷ remarks_after g anywhere column cs)) ++ blank_if b)) (sym (no_blank (may_be_blank_after before) c.blank_before e)) tt

gap_kept : (g : Columns) (before : Ending) (cs : List CommentValue) (rs : List Row) → may_be_blank_after before ≡ false → KeptGap Keep (gap_of g before cs rs)
gap_kept g before [] [] e = tt
gap_kept g before (c ∷ cs) [] e =
    subst (λ z. KeptGap Keep (z ++ (remark (g c 0) (trimmed c.text) ∷ remarks_after g anywhere 0 cs))) (sym (no_blank (may_be_blank_after before) c.blank_before e)) tt
gap_kept g before cs (r ∷ rs) e = after_kept g before r.column r.blank_before (filter (precedes_item r) cs) e

first_column : (k : ℕ) (rs : List Row) (row : Row) (others : List Row) → next_column 0 rs < k → rs ≡ row ∷ others → row.column < k
first_column k rs row others l e = subst (λ z. next_column 0 z < k) e l

module _ (t : List ℕ) (s : Style) (g : Columns) where
  calm_body : (body : List (List ℕ)) (lines : ℕ) {rs : List Row} {bs : List OpenBlock} (before : Ending) (cs : List CommentValue) (ds : List Deco) → RowLines rs → IsLeft body (next_column 0 rs) lines → BodyRight body lines bs
      → Each (WalkFrom t s g bs (is_bodyless body) rs) cs → CalmBody body lines before (gap_of g before cs rs) (lines_then rs ds [])
  calm_body [] lines before cs ds a l r w = tt
  calm_body (x ∷ xs) lines {rs = rs} before cs ds a l r w =
      (gap_left (gap_columns (λ c. c < lines) t s before rs w (omega (arith, l)) (λ row others e. first_column lines rs row others l e) r (λ e. absurd (true≢false (sym e)))), (rows_below ds a l, λ e. gap_kept g before cs rs e))

  calm_rows : {rs : List Row} {bs now : List OpenBlock} {may : Bool} (c : Source) (cs : List CommentValue) → RowLines rs → Steps 0 rs → Chained t s.indent bs rs now → Each (WalkFrom t s g bs may rs) cs → Calm rs (decos_of g c cs rs) []
  calm_rows c cs no_rows b chain w = tt
  calm_rows c cs (row_more {x = x} {xs = xs} a e k more) (one_step l b) (chain_row i n r chain) w =
      (calm_body x.body x.lines x.ending (comments_left x cs) (decos_of g c (comments_left x cs) xs) more l r (left_walk w), calm_rows c (comments_left x cs) more b chain (left_walk w))

-- of a layout
pub layout_calm : (t : List ℕ) (m : Lists) (s : Style) (trees : List DocumentTree) → FitDocuments s m.documents trees → Calm (rows_of m s trees) (row_decos (columns_of t s (rows_of m s trees)) m (rows_of m s trees)) []
layout_calm t m s trees fit =
    let c = setting_of m s in
    let own = own_line_comments (source_of m (rows_of m s trees)) (rows_of m s trees) in
    calm_rows t s (columns_of t s (rows_of m s trees)) (source_of m (rows_of m s trees)) own (all_lines c (is_bare m s) fit) (all_steps c (is_bare m s) m.documents trees) (layout_chain t m s trees fit).rows
    (every (λ d. record { is = λ next. refl }) own)
