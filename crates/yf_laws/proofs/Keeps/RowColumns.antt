-- Each row of a layout is at a multiple of the indentation, limited by the number of open collections, and so are the
-- lines of block scalars: those of the trees, in order and each once, below its header.
use Rattle.std.proofs.Common.{◌≡◌, ℕ, ◌+◌, ◌*◌, ◌≤◌, suc, Bool, true, false, true≢false, List, [], ◌∷◌, ◌++◌, map, Option, Some, None, refl, sym, ap, ◌∙◌, subst, arith, flat_map, append_assoc, append-nil, replicate}
use Rattle.std.specs.Prelude.{◌&&◌, ◌-◌, if◌then◌else◌, not, is_some, max}
use Rattle.std.proofs.Math.Nat.{add-mul, le-max_left, le-max_right}
use Rattle.yf_comments.specs.Comment.{CommentValue}
use Rattle.yf_events.specs.Event.{EventInText, document_ends, mapping_ends, sequence_ends}
use Rattle.yf_events.specs.Tree.{DocumentTree, Node, scalar, alias, sequence, mapping, Items, no_items, item, Pairs, no_pairs, pair, flat, flat_items, flat_pairs, flat_document, is_sequence}
use Rattle.yf_events.specs.declared.directive.Directive.{Directive}
use Rattle.yf_events.specs.declared.document.Doc.{Doc}
use Rattle.yf_events.specs.declared.event.ScalarStyle.TheVariants.{Plain, Single, Double, Literal, Folded}
use Rattle.yf_grammar.specs.Productions.TreesOfMeaning.{tall, tall_items, tall_pairs}
use Rattle.yf_forms.specs.declared.style.Style.{Style}
use Rattle.yf_forms.specs.Nodes.BlockLines.{block_lines, header_text}
use Rattle.yf_laws.specs.Layouts.FitDocuments.{FitDocuments, fit_no_documents, fit_document, tall_documents}
use Rattle.yf_laws.specs.Layouts.ReadableTrees.{Fit, FitItems, fit_item, FitPairs, fit_pair}
use Rattle.yf_forms.specs.NormalForms.Normal.{LayoutSetting, Margins, inner_margins, is_implicit, key_comment, key_margins, root_margins, value_column, value_entries, value_of_implicit, value_margins}
use Rattle.yf_forms.specs.Nodes.OneLine.{colon_after, props_text, spaced, width, written}
use Rattle.yf_print.specs.Layouts.Rows.{Row, begins_below, beginning_at, after_key, colon_row, directive_row, document_rows, end_rows, entry_row, explicit_pair, joined, key_row, one_line, one_line_row, pair_rows, props_row, rows, rows_of_items, rows_of_pairs, all_rows, bare_rows, begun_at, stream_rows, Start}
use Rattle.yf_forms.specs.Nodes.Lines.{is_empty_text}
use Rattle.yf_laws.specs.Preservation.TidyLines.{BlockScalar, block_scalars}
use Rattle.yf_laws.proofs.Columns.FlowEvents.{AllFlow}
use Rattle.yf_laws.proofs.ReadAgain.NoteTrees.{inline_flow, items_fit, key_flow, pairs_fit}
use Rattle.yf_laws.proofs.Keeps.ScalarsAmong.{flow_none, scalars_append, scalars_ended}
use Rattle.yf_laws.proofs.Derived.TreesMade.{either_pair}
use Rattle.yf_laws.proofs.OutputLines.ColumnsHold.{StartsHold}

-- Columns.

-- a multiple of the indentation, no greater than the limit
pub record IsStep (indent limit column : ℕ) : Type 0 where
  pub steps : ℕ
  pub is : column ≡ steps * indent
  pub low : steps ≤ limit

pub no_step : {indent limit : ℕ} → IsStep indent limit 0
no_step {indent} = record { steps = 0; is = omega arith; low = omega arith }

one_on : {indent limit column : ℕ} → IsStep indent limit column → IsStep indent (suc limit) (column + indent)
one_on {indent} {limit} {column} a =
    let n : ℕ = a.steps in
    let low : n ≤ limit = a.low in
    let sum : (n + 1) * indent ≡ n * indent + 1 * indent = add-mul n 1 indent in
    let one : 1 * indent ≡ indent = omega arith in
    record { steps = n + 1; is = ap (λ k. k + indent) a.is ∙ sym (sum ∙ ap (λ k. n * indent + k) one); low = omega (arith, low) }

one_step : {indent : ℕ} → IsStep indent 1 indent
one_step {indent} = record { steps = 1; is = omega arith; low = omega arith }

wider : {indent limit column : ℕ} (other : ℕ) → limit ≤ other → IsStep indent limit column → IsStep indent other column
wider {limit = limit} other l a = let low : a.steps ≤ limit = a.low in record { steps = a.steps; is = a.is; low = omega (arith, low, l) }

entries_step : (s : Style) (limit column : ℕ) (v : Node) → IsStep s.indent limit column → IsStep s.indent (suc limit) (value_entries s column v)
entries_step s limit column v a = by (is_sequence v && not s.seq_indent) where
  by : (b : Bool) → IsStep s.indent (suc limit) (if b then column else column + s.indent)
  by true = wider (suc limit) (omega arith) a
  by false = one_on a

-- Rows.

module _ (indent limit : ℕ) where
  -- the entries that begin on a row are at such columns, and so is their content
  abbrev pub StartSteps : List Start → Type 0
  StartSteps ss = StartsHold (λ k. IsStep indent limit k × IsStep indent limit (k + indent)) ss

  starts_append : (xs ys : List Start) → StartSteps xs → StartSteps ys → StartSteps (xs ++ ys)
  starts_append [] ys a b = b
  starts_append (x ∷ xs) ys a b = (a.0, starts_append xs ys a.1 b)

  -- a text ends with the header of a block scalar
  pub record HeaderEnds (b : BlockScalar) (text : List ℕ) : Type 0 where
    pub before : List ℕ
    pub is : text ≡ before ++ header_text b.style indent b.text

  -- no lines of a block scalar, or those of the first of these, with the others left
  pub data StepBody (text : List ℕ) (rest : List BlockScalar) : List BlockScalar → List (List ℕ) → Type 0 where
    bare_body : StepBody text rest rest []
    step_body : {b : BlockScalar} {column : ℕ} → IsStep indent limit column → HeaderEnds b text → StepBody text rest (b ∷ rest) (block_lines b.style column b.text b.lines)

  pub data Stepped : List BlockScalar → List Row → Type 0 where
    none_stepped : Stepped [] []
    row_stepped : {rest bs : List BlockScalar} {x : Row} {xs : List Row} → IsStep indent limit x.column → StartSteps x.starts → StepBody x.text rest bs x.body → Stepped rest xs → Stepped bs (x ∷ xs)

  -- rows with a first one at any column
  data Loose : List BlockScalar → List Row → Type 0 where
    no_loose : Loose [] []
    one_loose : {rest bs : List BlockScalar} {x : Row} {xs : List Row} → StartSteps x.starts → StepBody x.text rest bs x.body → Stepped rest xs → Loose bs (x ∷ xs)

  data FirstStep : List Row → Type 0 where
    no_first : FirstStep []
    one_first : {x : Row} {xs : List Row} → IsStep indent limit x.column → FirstStep (x ∷ xs)

  whole : {bs : List BlockScalar} {xs : List Row} → Loose bs xs → FirstStep xs → Stepped bs xs
  whole no_loose b = none_stepped
  whole (one_loose h a more) (one_first b) = row_stepped b h a more

  loose : {bs : List BlockScalar} {xs : List Row} → Stepped bs xs → Loose bs xs
  loose none_stepped = no_loose
  loose (row_stepped a h b more) = one_loose h b more

  first_of : {bs : List BlockScalar} {xs : List Row} → Stepped bs xs → FirstStep xs
  first_of none_stepped = no_first
  first_of (row_stepped a h b more) = one_first a

  -- with other scalars after them, and with a text before theirs
  body_append : {text : List ℕ} {rest bs : List BlockScalar} {body : List (List ℕ)} (cs : List BlockScalar) → StepBody text rest bs body → StepBody text (rest ++ cs) (bs ++ cs) body
  body_append cs bare_body = bare_body
  body_append cs (step_body a h) = step_body a h

  body_before : {text : List ℕ} {rest bs : List BlockScalar} {body : List (List ℕ)} (w : List ℕ) → StepBody text rest bs body → StepBody (w ++ text) rest bs body
  body_before w bare_body = bare_body
  body_before w (step_body {b = b} a h) =
      step_body a (record { before = w ++ h.before; is = ap (λ z. w ++ z) h.is ∙ sym (append_assoc w h.before (header_text b.style indent b.text)) })

  stepped_append : {bs cs : List BlockScalar} {xs ys : List Row} → Stepped bs xs → Stepped cs ys → Stepped (bs ++ cs) (xs ++ ys)
  stepped_append none_stepped b = b
  stepped_append {cs = cs} (row_stepped a h c more) b = row_stepped a h (body_append cs c) (stepped_append more b)

  joined_stepped : (head : Row) (n : ℕ) {bs : List BlockScalar} {rs : List Row} → IsStep indent limit head.column → StartSteps head.starts → head.body ≡ [] → Loose bs rs → Stepped bs (joined head n rs)
  joined_stepped head n a h e no_loose = row_stepped a h (subst (λ z. StepBody head.text [] [] z) (sym e) bare_body) none_stepped
  joined_stepped head n a h e (one_loose {x = x} i b more) = row_stepped a (starts_append head.starts x.starts h i) (body_before head.text (body_before (replicate n 32) b)) more

  line_loose : (column : ℕ) (x : Node) (w : List ℕ) → Loose [] (one_line_row column x w)
  line_loose column x [] = no_loose
  line_loose column x (b ∷ w) = one_loose tt bare_body none_stepped

  line_first : (column : ℕ) (x : Node) (w : List ℕ) → IsStep indent limit column → FirstStep (one_line_row column x w)
  line_first column x [] a = no_first
  line_first column x (b ∷ w) a = one_first a

  props_loose : (column : ℕ) (w : List ℕ) {bs : List BlockScalar} {rs : List Row} → Stepped bs rs → Loose bs (props_row column w ++ rs)
  props_loose column [] a = loose a
  props_loose column (b ∷ w) a = one_loose tt bare_body a

  props_first : (column : ℕ) (w : List ℕ) {rs : List Row} → IsStep indent limit column → FirstStep rs → FirstStep (props_row column w ++ rs)
  props_first column [] a b = b
  props_first column (c ∷ w) a b = one_first a

  unprefixed : (column : ℕ) (w : List ℕ) {rs : List Row} → is_empty_text w ≡ true → FirstStep rs → FirstStep (props_row column w ++ rs)
  unprefixed column [] e b = b
  unprefixed column (c ∷ w) e b = absurd cc

  -- a header after properties
  header_spaced : (w : List ℕ) (b : BlockScalar) → HeaderEnds b (spaced w (header_text b.style indent b.text))
  header_spaced w b = by w (header_text b.style indent b.text) refl where
    by : (w h : List ℕ) → header_text b.style indent b.text ≡ h → HeaderEnds b (spaced w h)
    by [] h e = record { before = []; is = sym e }
    by (c ∷ w) [] e = record { before = c ∷ w; is = sym (append-nil (c ∷ w)) ∙ ap (λ z. (c ∷ w) ++ z) (sym e) }
    by (c ∷ w) (d ∷ h) e = record { before = (c ∷ w) ++ (32 ∷ []); is = sym (append_assoc (c ∷ w) (32 ∷ []) (d ∷ h)) ∙ ap (λ z. ((c ∷ w) ++ (32 ∷ [])) ++ z) (sym e) }

-- Trees.

-- the limit counts the collections that are open
module _ (c : LayoutSetting) (limit : ℕ) where
  abbrev AreStepped : List BlockScalar → List Row → Type 0
  AreStepped bs rs = Stepped c.style.indent limit bs rs

  abbrev AreLoose : List BlockScalar → List Row → Type 0
  AreLoose bs rs = Loose c.style.indent limit bs rs

  abbrev BeginAtStep : List Row → Type 0
  BeginAtStep rs = FirstStep c.style.indent limit rs

  abbrev AtStep : ℕ → ℕ → Type 0
  AtStep n column = IsStep c.style.indent n column

  -- whatever the column of its entries, at most n steps to the right
  record NodeStepped (n : ℕ) (x : Node) : Type 0 where
    room : suc n ≤ limit
    rows_loose : (margins : Margins) → AtStep n margins.entries → AtStep (suc n) margins.lines → AreLoose (block_scalars (flat x)) (rows c margins x)
    first : (margins : Margins) → AtStep limit margins.column → AtStep n margins.entries → BeginAtStep (rows c margins x)
    below : (margins : Margins) → begins_below x ≡ true → AtStep n margins.entries → BeginAtStep (rows c margins x)

  node_whole : {n : ℕ} {x : Node} (margins : Margins) → NodeStepped n x → AtStep limit margins.column → AtStep n margins.entries → AtStep (suc n) margins.lines → AreStepped (block_scalars (flat x)) (rows c margins x)
  node_whole margins a d e f = whole c.style.indent limit (a.rows_loose margins e f) (a.first margins d e)

  -- its lines are at the column of its entries
  inner_loose : {n : ℕ} {x : Node} (margins : Margins) → NodeStepped n x → AtStep n margins.entries → margins.lines ≡ margins.entries → AreLoose (block_scalars (flat x)) (rows c margins x)
  inner_loose {n} margins a d e = a.rows_loose margins d (subst (λ k. AtStep (suc n) k) (sym e) (wider (suc n) (omega arith) d))

  -- entries at a column of at most n steps, with a sign
  explicit_stepped : {n : ℕ} {k v : Node} (column : ℕ) → NodeStepped (suc n) k → NodeStepped (suc n) v → AtStep n column
      → AreStepped (block_scalars (flat k) ++ block_scalars (flat v)) (explicit_pair c.style column k (rows c (key_margins c.style column k) k) (rows c (inner_margins c.style column) v))
  explicit_stepped {n} {k} {v} column a b d =
      let room : suc (suc n) ≤ limit = a.room in
      let here : AtStep limit column = wider limit (omega (arith, room)) d in
      let start : AtStep limit column × AtStep limit (column + c.style.indent) = (here, wider limit (omega (arith, room)) (one_on d)) in
      stepped_append c.style.indent limit
      (joined_stepped c.style.indent limit (entry_row column (63 ∷ []) k) (c.style.indent - 1) here (start, tt) refl (inner_loose (key_margins c.style column k) a (one_on d) refl))
      (joined_stepped c.style.indent limit (colon_row column k) (c.style.indent - 1) here (start, tt) refl (inner_loose (inner_margins c.style column) b (one_on d) refl))

  -- the value after an implicit key
  value_rows : {n : ℕ} (k : Node) {v : Node} (column : ℕ) → NodeStepped (suc n) v → AtStep n column → (o : Option CommentValue) → key_comment c.comments k v ≡ o → (below : Bool) → begins_below v ≡ below
      → AreStepped (block_scalars (flat v)) (after_key (key_row c.style column k) o below (rows c (value_of_implicit c column k v) v))
  value_rows {n} k {v} column b d o e below f = by o e below f where
    room : suc (suc n) ≤ limit
    room = b.room

    here : AtStep limit column
    here = wider limit (omega (arith, room)) d

    start : AtStep limit column × AtStep limit (column + c.style.indent)
    start = (here, wider limit (omega (arith, room)) (one_on d))

    entries : AtStep (suc n) (value_entries c.style column v)
    entries = entries_step c.style n column v d

    inner : AreLoose (block_scalars (flat v)) (rows c (value_of_implicit c column k v) v)
    inner = b.rows_loose (value_of_implicit c column k v) entries (wider (suc (suc n)) (omega arith) (one_on d))

    by : (o : Option CommentValue) → key_comment c.comments k v ≡ o → (below : Bool) → begins_below v ≡ below
        → AreStepped (block_scalars (flat v)) (after_key (key_row c.style column k) o below (rows c (value_of_implicit c column k v) v))
    by (Some comment) e below f =
        let at : value_column c column k v ≡ column + c.style.indent =
        ap (λ (z : Option CommentValue). if is_some z then column + c.style.indent else column + width (written c.style k) + width (colon_after k) + 1) e in
        row_stepped here (start, tt) bare_body
        (whole c.style.indent limit inner (b.first (value_of_implicit c column k v) (subst (λ z. AtStep limit z) (sym at) (wider limit (omega (arith, room)) (one_on d))) entries))
    by None e true f = row_stepped here (start, tt) bare_body (whole c.style.indent limit inner (b.below (value_of_implicit c column k v) f entries))
    by None e false f = joined_stepped c.style.indent limit (key_row c.style column k) 1 here (start, tt) refl inner

  pair_stepped : {n : ℕ} {k v : Node} (column : ℕ) → Fit c.style k → NodeStepped (suc n) k → NodeStepped (suc n) v → AtStep n column
      → AreStepped (block_scalars (flat k) ++ block_scalars (flat v)) (pair_rows c column k v (rows c (key_margins c.style column k) k) (rows c (value_margins c column k v) v))
  pair_stepped {k = k} {v = v} column fit a b d = by (is_implicit c.style column k) refl where
    by : (p : Bool) → is_implicit c.style column k ≡ p → AreStepped (block_scalars (flat k) ++ block_scalars (flat v)) (either_pair p c column k v)
    by true e = subst (λ z. AreStepped (z ++ block_scalars (flat v)) (either_pair true c column k v)) (sym (flow_none (flat k) (key_flow c column fit e))) (value_rows k column b d (key_comment c.comments k v) refl (begins_below v) refl)
    by false e = explicit_stepped column a b d

  line_stepped : {n : ℕ} {x : Node} → suc n ≤ limit → AllFlow (flat x) → ((margins : Margins) → rows c margins x ≡ one_line c.style margins x) → (begins_below x ≡ true → ⊥) → NodeStepped n x
  line_stepped {x = x} l flow e n = record {
    room = l;
    rows_loose = λ margins a b.
        subst (λ z. AreLoose z (rows c margins x)) (sym (flow_none (flat x) flow)) (subst (λ z. AreLoose [] z) (sym (e margins)) (line_loose c.style.indent limit margins.column x (written c.style x)));
    first = λ margins a b. subst (λ z. BeginAtStep z) (sym (e margins)) (line_first c.style.indent limit margins.column x (written c.style x) a);
    below = λ margins f a. absurd (n f);
  }

  no_below : false ≡ true → ⊥
  no_below e = true≢false (sym e)

  two_less : (n a b : ℕ) → suc (n + max a b) ≤ limit → (suc (n + a) ≤ limit) × (suc (n + b) ≤ limit)
  two_less n a b l =
      let one : a ≤ max a b = le-max_left a b in
      let two : b ≤ max a b = le-max_right a b in
      (omega (arith, one, l), omega (arith, two, l))

  -- two or three nodes in sequence
  two_scalars : (xs ys : List EventInText) {rs : List Row} → AreStepped (block_scalars xs ++ block_scalars ys) rs → AreStepped (block_scalars (xs ++ ys)) rs
  two_scalars xs ys {rs} a = subst (λ z. AreStepped z rs) (sym (scalars_append xs ys)) a

  three_scalars : (xs ys zs : List EventInText) {rs : List Row} → AreStepped ((block_scalars xs ++ block_scalars ys) ++ block_scalars zs) rs → AreStepped (block_scalars (xs ++ (ys ++ zs))) rs
  three_scalars xs ys zs {rs} a =
      two_scalars xs (ys ++ zs) (subst (λ z. AreStepped (block_scalars xs ++ z) rs) (sym (scalars_append ys zs)) (subst (λ z. AreStepped z rs) (append_assoc (block_scalars xs) (block_scalars ys) (block_scalars zs)) a))

  mutual
    node_stepped : (n : ℕ) (x : Node) → suc (n + tall x) ≤ limit → Fit c.style x → NodeStepped n x
    node_stepped n (scalar at props Plain text lines) l fit = line_stepped (omega (arith, l)) (inline_flow c.style fit refl) (λ margins. refl) no_below
    node_stepped n (scalar at props Single text lines) l fit = line_stepped (omega (arith, l)) (inline_flow c.style fit refl) (λ margins. refl) no_below
    node_stepped n (scalar at props Double text lines) l fit = line_stepped (omega (arith, l)) (inline_flow c.style fit refl) (λ margins. refl) no_below
    node_stepped n (scalar at props Literal text lines) l fit = record {
      room = omega (arith, l);
      rows_loose = λ margins a b.
          one_loose tt (step_body {b = record { style = Literal; text = text; lines = lines }} (wider limit (omega (arith, l)) b) (header_spaced c.style.indent limit (props_text props) (record { style = Literal; text = text; lines = lines }))) none_stepped;
      first = λ margins a b. one_first a;
      below = λ margins f a. absurd (no_below f);
    }
    node_stepped n (scalar at props Folded text lines) l fit = record {
      room = omega (arith, l);
      rows_loose = λ margins a b.
          one_loose tt (step_body {b = record { style = Folded; text = text; lines = lines }} (wider limit (omega (arith, l)) b) (header_spaced c.style.indent limit (props_text props) (record { style = Folded; text = text; lines = lines }))) none_stepped;
      first = λ margins a b. one_first a;
      below = λ margins f a. absurd (no_below f);
    }
    node_stepped n (alias at name) l fit = line_stepped (omega (arith, l)) (inline_flow c.style fit refl) (λ margins. refl) no_below
    node_stepped n (sequence at true props no_items) l fit = line_stepped (omega (arith, l)) (inline_flow c.style fit refl) (λ margins. refl) no_below
    node_stepped n (sequence at true props (item x xs)) l fit = line_stepped (omega (arith, l)) (inline_flow c.style fit refl) (λ margins. refl) no_below
    node_stepped n (sequence at false props xs) l fit =
        let less : suc (suc n + tall_items xs) ≤ limit = omega (arith, l) in
        let inside : FitItems c.style xs = items_fit c.style fit in
        record {
          room = omega (arith, l);
          rows_loose = λ margins a b.
              subst (λ z. AreLoose z (rows c margins (sequence at false props xs))) (sym (scalars_ended (flat_items xs) sequence_ends refl))
              (props_loose c.style.indent limit margins.column (props_text props) (items_stepped n margins.entries xs a less inside));
          first = λ margins a b. props_first c.style.indent limit margins.column (props_text props) a (first_of c.style.indent limit (items_stepped n margins.entries xs b less inside));
          below = λ margins f a. unprefixed c.style.indent limit margins.column (props_text props) (below_bare xs f) (first_of c.style.indent limit (items_stepped n margins.entries xs a less inside));
        } where
          below_bare : (xs : Items) → begins_below (sequence at false props xs) ≡ true → is_empty_text (props_text props) ≡ true
          below_bare no_items e = absurd (no_below e)
          below_bare (item x xs) e = e
    node_stepped n (mapping at true props no_pairs) l fit = line_stepped (omega (arith, l)) (inline_flow c.style fit refl) (λ margins. refl) no_below
    node_stepped n (mapping at true props (pair k v ps)) l fit = line_stepped (omega (arith, l)) (inline_flow c.style fit refl) (λ margins. refl) no_below
    node_stepped n (mapping at false props ps) l fit =
        let less : suc (suc n + tall_pairs ps) ≤ limit = omega (arith, l) in
        let inside : FitPairs c.style ps = pairs_fit c.style fit in
        record {
          room = omega (arith, l);
          rows_loose = λ margins a b.
              subst (λ z. AreLoose z (rows c margins (mapping at false props ps))) (sym (scalars_ended (flat_pairs ps) mapping_ends refl))
              (props_loose c.style.indent limit margins.column (props_text props) (pairs_stepped n margins.entries ps a less inside));
          first = λ margins a b. props_first c.style.indent limit margins.column (props_text props) a (first_of c.style.indent limit (pairs_stepped n margins.entries ps b less inside));
          below = λ margins f a. unprefixed c.style.indent limit margins.column (props_text props) (below_bare ps f) (first_of c.style.indent limit (pairs_stepped n margins.entries ps a less inside));
        } where
          below_bare : (ps : Pairs) → begins_below (mapping at false props ps) ≡ true → is_empty_text (props_text props) ≡ true
          below_bare no_pairs e = absurd (no_below e)
          below_bare (pair k v ps) e = e

    items_stepped : (n column : ℕ) (xs : Items) → AtStep n column → suc (suc n + tall_items xs) ≤ limit → FitItems c.style xs → AreStepped (block_scalars (flat_items xs)) (rows_of_items c column xs)
    items_stepped n column no_items a l fit = none_stepped
    items_stepped n column (item x xs) a l (fit_item f fs) =
        let less = two_less (suc n) (tall x) (tall_items xs) l in
        two_scalars (flat x) (flat_items xs)
        (stepped_append c.style.indent limit
        (joined_stepped c.style.indent limit (entry_row column (45 ∷ []) x) (c.style.indent - 1) (wider limit (omega (arith, l)) a) ((wider limit (omega (arith, l)) a, wider limit (omega (arith, l)) (one_on a)), tt) refl
        (inner_loose (inner_margins c.style column) (node_stepped (suc n) x less.0 f) (one_on a) refl))
        (items_stepped n column xs a less.1 fs))

    pairs_stepped : (n column : ℕ) (ps : Pairs) → AtStep n column → suc (suc n + tall_pairs ps) ≤ limit → FitPairs c.style ps → AreStepped (block_scalars (flat_pairs ps)) (rows_of_pairs c column ps)
    pairs_stepped n column no_pairs a l fit = none_stepped
    pairs_stepped n column (pair k v ps) a l (fit_pair f g fs) =
        let less = two_less (suc n) (max (tall k) (tall v)) (tall_pairs ps) l in
        let both = two_less (suc n) (tall k) (tall v) less.0 in
        three_scalars (flat k) (flat v) (flat_pairs ps)
        (stepped_append c.style.indent limit (pair_stepped column f (node_stepped (suc n) k both.0 f) (node_stepped (suc n) v both.1 g) a) (pairs_stepped n column ps a less.1 fs))

  -- Documents.

  beginning_stepped : (start : ℕ) {bs : List BlockScalar} {xs : List Row} → AreStepped bs xs → AreStepped bs (beginning_at start xs)
  beginning_stepped start none_stepped = none_stepped
  beginning_stepped start (row_stepped a h b more) = row_stepped a h b more

  ends_stepped : (b : Bool) (ds : List Directive) → AreStepped [] (end_rows b ds)
  ends_stepped true ds = none_stepped
  ends_stepped false [] = none_stepped
  ends_stepped false (d ∷ ds) = row_stepped no_step tt bare_body none_stepped

  directives_stepped : (ds : List Directive) → AreStepped [] (map directive_row ds)
  directives_stepped [] = none_stepped
  directives_stepped (d ∷ ds) = row_stepped no_step tt bare_body (directives_stepped ds)

  stream_stepped : {ds : List Doc} {xs : List DocumentTree} (b : Bool) → suc (tall_documents xs) ≤ limit → FitDocuments c.style ds xs → AreStepped (block_scalars (flat_map flat_document xs)) (stream_rows c b ds xs)
  stream_stepped b l fit_no_documents = none_stepped
  stream_stepped b l (fit_document {d = d} {ds = ds} {x = x} {xs = xs} directives fit fits) =
      let room : suc (0 + max (tall x.root) (tall_documents xs)) ≤ limit = omega (arith, l) in
      let less = two_less 0 (tall x.root) (tall_documents xs) room in
      let others : suc (0 + tall_documents xs) ≤ limit = less.1 in
      let here : AreStepped (block_scalars (flat x.root)) (document_rows c b d x) =
      stepped_append c.style.indent limit
      (beginning_stepped d.start (stepped_append c.style.indent limit (ends_stepped b d.directives)
      (stepped_append c.style.indent limit (directives_stepped d.directives) (row_stepped no_step tt bare_body none_stepped))))
      (node_whole (root_margins c.style) (node_stepped 0 x.root less.0 fit) no_step no_step one_step) in
      two_scalars (flat_document x) (flat_map flat_document xs)
      (stepped_append c.style.indent limit (subst (λ z. AreStepped z (document_rows c b d x)) (sym (scalars_ended (flat x.root) (document_ends x.closed) refl)) here)
      (stream_stepped false (omega (arith, others)) fits))

  begun_stepped : (start : ℕ) {bs : List BlockScalar} {xs : List Row} → AreStepped bs xs → AreStepped bs (begun_at start xs)
  begun_stepped start none_stepped = none_stepped
  begun_stepped start (row_stepped a h b more) = row_stepped a h b more

  pub all_stepped : {ds : List Doc} {xs : List DocumentTree} (bare : Bool) → suc (tall_documents xs) ≤ limit → FitDocuments c.style ds xs → AreStepped (block_scalars (flat_map flat_document xs)) (all_rows c bare ds xs)
  all_stepped false l fits = stream_stepped true l fits
  all_stepped true l fit_no_documents = none_stepped
  all_stepped true l (fit_document {d = d} {ds = ds} {x = x} {xs = xs} directives fit fits) =
      let room : suc (0 + max (tall x.root) (tall_documents xs)) ≤ limit = omega (arith, l) in
      let less = two_less 0 (tall x.root) (tall_documents xs) room in
      let others : suc (0 + tall_documents xs) ≤ limit = less.1 in
      let here : AreStepped (block_scalars (flat x.root)) (bare_rows c d x) = begun_stepped d.start (node_whole (root_margins c.style) (node_stepped 0 x.root less.0 fit) no_step no_step one_step) in
      two_scalars (flat_document x) (flat_map flat_document xs)
      (stepped_append c.style.indent limit (subst (λ z. AreStepped z (bare_rows c d x)) (sym (scalars_ended (flat x.root) (document_ends x.closed) refl)) here)
      (stream_stepped false (omega (arith, others)) fits))
