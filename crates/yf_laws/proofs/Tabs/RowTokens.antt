-- The text of each row of a layout consists of pieces of its trees, words of its directives, signs and spaces; so it
-- has tabs only in these pieces and words.
use Rattle.std.proofs.Common.{◌≡◌, ℕ, zero, suc, ◌+◌, ◌<◌, Bool, true, false, List, [], ◌∷◌, ◌++◌, map, flat_map, replicate, Option, Some, None, refl, sym, ap, ◌∙◌, subst, arith, append_assoc, append-nil}
use Rattle.std.specs.Prelude.{◌-◌, if◌then◌else◌}
use Rattle.std.proofs.lemmas.Grind.{flat_map-append}
use Rattle.yf_comments.specs.Comment.{CommentValue}
use Rattle.yf_props.specs.Props.{PropsValue}
use Rattle.yf_events.specs.Event.{EventValue, EventInText, alias_node, document_ends, mapping_ends, mapping_starts, scalar_node, sequence_ends, sequence_starts}
use Rattle.yf_events.specs.declared.directive.Directive.{Directive}
use Rattle.yf_events.specs.declared.document.Doc.{Doc}
use Rattle.yf_events.specs.declared.event.ScalarStyle.{ScalarStyle}
use Rattle.yf_events.specs.declared.event.ScalarStyle.TheVariants.{Plain, Single, Double, Literal, Folded}
use Rattle.yf_events.specs.Tree.{DocumentTree, NodeOffsets, Node, scalar, alias, sequence, mapping, Items, no_items, item, Pairs, no_pairs, pair, flat, flat_document, flat_items, flat_pairs, props_of, unplaced}
use Rattle.yf_forms.specs.declared.style.Style.{Style}
use Rattle.yf_forms.specs.Nodes.BlockLines.{begins_with_space, chomping_sign, final_feeds, header_text, style_sign}
use Rattle.yf_forms.specs.NormalForms.Normal.{LayoutSetting, Margins, inner_margins, is_implicit, key_comment, key_margins, root_margins, value_margins}
use Rattle.yf_forms.specs.Nodes.OneLine.{bare, colon_after, colon_after_props, more_items, more_pairs, props_text, scalar_text, spaced, written}
use Rattle.yf_print.specs.Layouts.Rows.{Row, begins_below, beginning_at, after_key, colon_row, directive_row, end_rows, entry_row, explicit_pair, implicit_pair, joined, joined_words, key_row, one_line_row, pair_rows, props_row, rows, rows_of_items, rows_of_pairs, stream_rows, all_rows, begun_at}
use Rattle.yf_laws.specs.Preservation.Tokens.{HasText, first_text, later_text, TabsWithin, at_end, no_tab, a_token}

-- The written pieces of an event: properties, a scalar in its style, the name of an alias.

abbrev pub pieces_of_event : Style → EventValue → List (List ℕ)
pieces_of_event house (scalar_node props style text) = props_text props ∷ scalar_text house style text ∷ []
pieces_of_event house (sequence_starts flow props) = props_text props ∷ []
pieces_of_event house (mapping_starts flow props) = props_text props ∷ []
pieces_of_event house (alias_node name) = name ∷ []
pieces_of_event house e = []

abbrev pub pieces_in : Style → List EventInText → List (List ℕ)
pieces_in house es = flat_map (λ (e : EventInText). pieces_of_event house e.event) es

-- the words of directives
abbrev pub words_in : List Doc → List (List ℕ)
words_in ds = flat_map (λ (d : Doc). flat_map (λ (e : Directive). e.words) d.directives) ds

pub text_left : {w : List ℕ} {xs : List (List ℕ)} (ys : List (List ℕ)) → HasText w xs → HasText w (xs ++ ys)
text_left ys (first_text e) = first_text e
text_left ys (later_text a) = later_text (text_left ys a)

pub text_right : {w : List ℕ} (xs : List (List ℕ)) {ys : List (List ℕ)} → HasText w ys → HasText w (xs ++ ys)
text_right [] a = a
text_right (x ∷ xs) a = later_text (text_right xs a)

pub pieces_append : (house : Style) (es fs : List EventInText) → pieces_in house (es ++ fs) ≡ pieces_in house es ++ pieces_in house fs
pieces_append house es fs = flat_map-append (λ (e : EventInText). pieces_of_event house e.event) es fs

-- before the event that ends the stream
pub pieces_ended : (house : Style) (es : List EventInText) (e : EventValue) → pieces_of_event house e ≡ [] → pieces_in house (es ++ (unplaced e ∷ [])) ≡ pieces_in house es
pieces_ended house es e none = pieces_append house es (unplaced e ∷ []) ∙ (ap (λ z. pieces_in house es ++ (z ++ [])) none ∙ append-nil (pieces_in house es))

module _ (Token : List ℕ → Type 0) where
  abbrev pub Tabs : List ℕ → Type 0
  Tabs x = TabsWithin Token x

  -- these texts have no tab elsewhere
  abbrev pub AreTabless : List (List ℕ) → Type 0
  AreTabless ws = (w : List ℕ) → HasText w ws → Tabs w

  abbrev pub Holds : Style → List EventInText → Type 0
  Holds house es = AreTabless (pieces_in house es)

  left_holds : (house : Style) (es fs : List EventInText) → Holds house (es ++ fs) → Holds house es
  left_holds house es fs h = λ w a. h w (subst (λ z. HasText w z) (sym (pieces_append house es fs)) (text_left (pieces_in house fs) a))

  right_holds : (house : Style) (es fs : List EventInText) → Holds house (es ++ fs) → Holds house fs
  right_holds house es fs h = λ w a. h w (subst (λ z. HasText w z) (sym (pieces_append house es fs)) (text_right (pieces_in house es) a))

  -- Texts.

  pub tabs_append : {x y : List ℕ} → Tabs x → Tabs y → Tabs (x ++ y)
  tabs_append at_end b = b
  tabs_append (no_tab n a) b = no_tab n (tabs_append a b)
  tabs_append {y = y} (a_token {w = w} {x = x} t a) b = subst (λ z. Tabs z) (sym (append_assoc w x y)) (a_token t (tabs_append a b))

  pub sign : (b : ℕ) {x : List ℕ} → 9 < b → Tabs x → Tabs (b ∷ x)
  sign b l a = no_tab (λ e. omega (arith, e, l)) a

  spaces : (n : ℕ) {x : List ℕ} → Tabs x → Tabs (replicate n 32 ++ x)
  spaces zero a = a
  spaces (suc n) a = sign 32 (omega arith) (spaces n a)

  spaced_tabs : (x y : List ℕ) → Tabs x → Tabs y → Tabs (spaced x y)
  spaced_tabs [] y a b = b
  spaced_tabs (c ∷ x) [] a b = a
  spaced_tabs (c ∷ x) (d ∷ y) a b = tabs_append a (sign 32 (omega arith) b)

  -- Nodes on one line.

  props_tabs : (house : Style) (x : Node) → Holds house (flat x) → Tabs (props_text (props_of x))
  props_tabs house (scalar at props style text lines) h = h (props_text props) (first_text refl)
  props_tabs house (alias at name) h = at_end
  props_tabs house (sequence at flow props xs) h = h (props_text props) (first_text refl)
  props_tabs house (mapping at flow props ps) h = h (props_text props) (first_text refl)

  with_props : (house : Style) (x : Node) → Holds house (flat x) → Tabs (bare house x) → Tabs (written house x)
  with_props house x h a = spaced_tabs (props_text (props_of x)) (bare house x) (props_tabs house x h) a

  in_items : (house : Style) (at : NodeOffsets) (flow : Bool) (props : PropsValue) (xs : Items) → Holds house (flat (sequence at flow props xs)) → Holds house (flat_items xs)
  in_items house at flow props xs h = left_holds house (flat_items xs) (unplaced sequence_ends ∷ []) (λ w a. h w (later_text a))

  in_pairs : (house : Style) (at : NodeOffsets) (flow : Bool) (props : PropsValue) (ps : Pairs) → Holds house (flat (mapping at flow props ps)) → Holds house (flat_pairs ps)
  in_pairs house at flow props ps h = left_holds house (flat_pairs ps) (unplaced mapping_ends ∷ []) (λ w a. h w (later_text a))

  apart : (w : List ℕ) → Tabs (colon_after_props w)
  apart [] = sign 58 (omega arith) at_end
  apart (b ∷ w) = sign 32 (omega arith) (sign 58 (omega arith) at_end)

  colon_tabs : (k : Node) → Tabs (colon_after k)
  colon_tabs (scalar at props Plain [] lines) = apart (props_text props)
  colon_tabs (scalar at props Plain (b ∷ text) lines) = sign 58 (omega arith) at_end
  colon_tabs (scalar at props Single text lines) = sign 58 (omega arith) at_end
  colon_tabs (scalar at props Double text lines) = sign 58 (omega arith) at_end
  colon_tabs (scalar at props Literal text lines) = sign 58 (omega arith) at_end
  colon_tabs (scalar at props Folded text lines) = sign 58 (omega arith) at_end
  colon_tabs (alias at name) = sign 32 (omega arith) (sign 58 (omega arith) at_end)
  colon_tabs (sequence at flow props xs) = sign 58 (omega arith) at_end
  colon_tabs (mapping at flow props ps) = sign 58 (omega arith) at_end

  -- a key and its value, and what follows them
  pair_tabs : (house : Style) (k v : Node) {x : List ℕ} → Tabs (written house k) → Tabs (written house v) → Tabs x → Tabs (written house k ++ (colon_after k ++ (32 ∷ (written house v ++ x))))
  pair_tabs house k v a b d = tabs_append a (tabs_append (colon_tabs k) (sign 32 (omega arith) (tabs_append b d)))

  mutual
    bare_tabs : (house : Style) (x : Node) → Holds house (flat x) → Tabs (bare house x)
    bare_tabs house (scalar at props style text lines) h = h (scalar_text house style text) (later_text (first_text refl))
    bare_tabs house (alias at name) h = sign 42 (omega arith) (h name (first_text refl))
    bare_tabs house (sequence at flow props no_items) h = sign 91 (omega arith) (sign 93 (omega arith) at_end)
    bare_tabs house (sequence at flow props (item x xs)) h =
        let inside = in_items house at flow props (item x xs) h in
        let first = left_holds house (flat x) (flat_items xs) inside in
        sign 91 (omega arith) (tabs_append (with_props house x first (bare_tabs house x first)) (tabs_append (items_tabs house xs (right_holds house (flat x) (flat_items xs) inside)) (sign 93 (omega arith) at_end)))
    bare_tabs house (mapping at flow props no_pairs) h = sign 123 (omega arith) (sign 125 (omega arith) at_end)
    bare_tabs house (mapping at flow props (pair k v ps)) h =
        let inside = in_pairs house at flow props (pair k v ps) h in
        let key = left_holds house (flat k) (flat v ++ flat_pairs ps) inside in
        let others = right_holds house (flat k) (flat v ++ flat_pairs ps) inside in
        let value = left_holds house (flat v) (flat_pairs ps) others in
        sign 123 (omega arith)
        (pair_tabs house k v (with_props house k key (bare_tabs house k key)) (with_props house v value (bare_tabs house v value)) (tabs_append (pairs_tabs house ps (right_holds house (flat v) (flat_pairs ps) others)) (sign 125 (omega arith) at_end)))

    items_tabs : (house : Style) (xs : Items) → Holds house (flat_items xs) → Tabs (more_items house xs)
    items_tabs house no_items h = at_end
    items_tabs house (item x xs) h =
        let first = left_holds house (flat x) (flat_items xs) h in
        sign 44 (omega arith) (sign 32 (omega arith) (tabs_append (with_props house x first (bare_tabs house x first)) (items_tabs house xs (right_holds house (flat x) (flat_items xs) h))))

    pairs_tabs : (house : Style) (ps : Pairs) → Holds house (flat_pairs ps) → Tabs (more_pairs house ps)
    pairs_tabs house no_pairs h = at_end
    pairs_tabs house (pair k v ps) h =
        let key = left_holds house (flat k) (flat v ++ flat_pairs ps) h in
        let others = right_holds house (flat k) (flat v ++ flat_pairs ps) h in
        let value = left_holds house (flat v) (flat_pairs ps) others in
        sign 44 (omega arith)
        (sign 32 (omega arith) (pair_tabs house k v (with_props house k key (bare_tabs house k key)) (with_props house v value (bare_tabs house v value)) (pairs_tabs house ps (right_holds house (flat v) (flat_pairs ps) others))))

  written_tabs : (house : Style) (x : Node) → Holds house (flat x) → Tabs (written house x)
  written_tabs house x h = with_props house x h (bare_tabs house x h)

  -- Rows.

  pub data TokenRows : List Row → Type 0 where
    no_token_rows : TokenRows []
    token_row : {x : Row} {xs : List Row} → Tabs x.text → TokenRows xs → TokenRows (x ∷ xs)

  rows_join : {xs ys : List Row} → TokenRows xs → TokenRows ys → TokenRows (xs ++ ys)
  rows_join no_token_rows b = b
  rows_join (token_row a more) b = token_row a (rows_join more b)

  joined_tokens : (head : Row) (n : ℕ) {rs : List Row} → Tabs head.text → TokenRows rs → TokenRows (joined head n rs)
  joined_tokens head n a no_token_rows = token_row a no_token_rows
  joined_tokens head n a (token_row b more) = token_row (tabs_append a (spaces n b)) more

  line_tokens : (column : ℕ) (x : Node) (w : List ℕ) → Tabs w → TokenRows (one_line_row column x w)
  line_tokens column x [] a = no_token_rows
  line_tokens column x (b ∷ w) a = token_row a no_token_rows

  props_tokens : (column : ℕ) (w : List ℕ) {rs : List Row} → Tabs w → TokenRows rs → TokenRows (props_row column w ++ rs)
  props_tokens column [] a b = b
  props_tokens column (c ∷ w) a b = token_row a b

  after_tokens : (house : Style) (column : ℕ) (k : Node) (o : Option CommentValue) (below : Bool) {rs : List Row} → Tabs (written house k ++ colon_after k) → TokenRows rs → TokenRows (after_key (key_row house column k) o below rs)
  after_tokens house column k (Some c) below a b = token_row a b
  after_tokens house column k None true a b = token_row a b
  after_tokens house column k None false a b = joined_tokens (key_row house column k) 1 a b

  header_tabs : (style : ScalarStyle) (indent : ℕ) (text : List ℕ) → Tabs (header_text style indent text)
  header_tabs style indent text = tabs_append (style_tabs style) (tabs_append (digit_tabs (begins_with_space text)) (chomp_tabs (final_feeds text))) where
    style_tabs : (style : ScalarStyle) → Tabs (style_sign style)
    style_tabs Plain = sign 124 (omega arith) at_end
    style_tabs Single = sign 124 (omega arith) at_end
    style_tabs Double = sign 124 (omega arith) at_end
    style_tabs Literal = sign 124 (omega arith) at_end
    style_tabs Folded = sign 62 (omega arith) at_end

    digit_tabs : (b : Bool) → Tabs (if b then (48 + indent) ∷ [] else [])
    digit_tabs true = sign (48 + indent) (omega arith) at_end
    digit_tabs false = at_end

    chomp_tabs : (n : ℕ) → Tabs (chomping_sign n)
    chomp_tabs zero = sign 45 (omega arith) at_end
    chomp_tabs (suc zero) = at_end
    chomp_tabs (suc (suc n)) = sign 43 (omega arith) at_end

  pair_tokens : (c : LayoutSetting) (column : ℕ) (k v : Node) {xs ys : List Row} → Tabs (written c.style k) → TokenRows xs → TokenRows ys → TokenRows (pair_rows c column k v xs ys)
  pair_tokens c column k v {xs} {ys} a b d = by (is_implicit c.style column k) where
    by : (p : Bool) → TokenRows (if p then implicit_pair c column k v ys else explicit_pair c.style column k xs ys)
    by true = after_tokens c.style column k (key_comment c.comments k v) (begins_below v) (tabs_append a (colon_tabs k)) d
    by false =
        rows_join (joined_tokens (entry_row column (63 ∷ []) k) (c.style.indent - 1) (sign 63 (omega arith) at_end) b)
        (joined_tokens (colon_row column k) (c.style.indent - 1) (sign 58 (omega arith) at_end) d)

  mutual
    node_tokens : (c : LayoutSetting) (margins : Margins) (x : Node) → Holds c.style (flat x) → TokenRows (rows c margins x)
    node_tokens c margins (scalar at props Plain text lines) h = line_tokens margins.column (scalar at props Plain text lines) (written c.style (scalar at props Plain text lines)) (written_tabs c.style (scalar at props Plain text lines) h)
    node_tokens c margins (scalar at props Single text lines) h = line_tokens margins.column (scalar at props Single text lines) (written c.style (scalar at props Single text lines)) (written_tabs c.style (scalar at props Single text lines) h)
    node_tokens c margins (scalar at props Double text lines) h = line_tokens margins.column (scalar at props Double text lines) (written c.style (scalar at props Double text lines)) (written_tabs c.style (scalar at props Double text lines) h)
    node_tokens c margins (scalar at props Literal text lines) h =
        token_row (spaced_tabs (props_text props) (header_text Literal c.style.indent text) (props_tabs c.style (scalar at props Literal text lines) h) (header_tabs Literal c.style.indent text)) no_token_rows
    node_tokens c margins (scalar at props Folded text lines) h =
        token_row (spaced_tabs (props_text props) (header_text Folded c.style.indent text) (props_tabs c.style (scalar at props Folded text lines) h) (header_tabs Folded c.style.indent text)) no_token_rows
    node_tokens c margins (alias at name) h = line_tokens margins.column (alias at name) (written c.style (alias at name)) (written_tabs c.style (alias at name) h)
    node_tokens c margins (sequence at true props xs) h = line_tokens margins.column (sequence at true props xs) (written c.style (sequence at true props xs)) (written_tabs c.style (sequence at true props xs) h)
    node_tokens c margins (sequence at false props xs) h =
        props_tokens margins.column (props_text props) (props_tabs c.style (sequence at false props xs) h) (items_tokens c margins.entries xs (in_items c.style at false props xs h))
    node_tokens c margins (mapping at true props ps) h = line_tokens margins.column (mapping at true props ps) (written c.style (mapping at true props ps)) (written_tabs c.style (mapping at true props ps) h)
    node_tokens c margins (mapping at false props ps) h =
        props_tokens margins.column (props_text props) (props_tabs c.style (mapping at false props ps) h) (pairs_tokens c margins.entries ps (in_pairs c.style at false props ps h))

    items_tokens : (c : LayoutSetting) (column : ℕ) (xs : Items) → Holds c.style (flat_items xs) → TokenRows (rows_of_items c column xs)
    items_tokens c column no_items h = no_token_rows
    items_tokens c column (item x xs) h =
        rows_join (joined_tokens (entry_row column (45 ∷ []) x) (c.style.indent - 1) (sign 45 (omega arith) at_end) (node_tokens c (inner_margins c.style column) x (left_holds c.style (flat x) (flat_items xs) h)))
        (items_tokens c column xs (right_holds c.style (flat x) (flat_items xs) h))

    pairs_tokens : (c : LayoutSetting) (column : ℕ) (ps : Pairs) → Holds c.style (flat_pairs ps) → TokenRows (rows_of_pairs c column ps)
    pairs_tokens c column no_pairs h = no_token_rows
    pairs_tokens c column (pair k v ps) h =
        let key = left_holds c.style (flat k) (flat v ++ flat_pairs ps) h in
        let others = right_holds c.style (flat k) (flat v ++ flat_pairs ps) h in
        rows_join (pair_tokens c column k v (written_tabs c.style k key) (node_tokens c (key_margins c.style column k) k key) (node_tokens c (value_margins c column k v) v (left_holds c.style (flat v) (flat_pairs ps) others)))
        (pairs_tokens c column ps (right_holds c.style (flat v) (flat_pairs ps) others))

  -- Documents.

  begun_tokens : (start : ℕ) {xs : List Row} → TokenRows xs → TokenRows (beginning_at start xs)
  begun_tokens start no_token_rows = no_token_rows
  begun_tokens start (token_row a more) = token_row a more

  end_tokens : (b : Bool) (ds : List Directive) → TokenRows (end_rows b ds)
  end_tokens true ds = no_token_rows
  end_tokens false [] = no_token_rows
  end_tokens false (d ∷ ds) = token_row (sign 46 (omega arith) (sign 46 (omega arith) (sign 46 (omega arith) at_end))) no_token_rows

  words_tabs : (ws : List (List ℕ)) → AreTabless ws → Tabs (joined_words ws)
  words_tabs [] h = at_end
  words_tabs (w ∷ []) h = h w (first_text refl)
  words_tabs (w ∷ v ∷ ws) h = tabs_append (h w (first_text refl)) (sign 32 (omega arith) (words_tabs (v ∷ ws) (λ u a. h u (later_text a))))

  directive_tokens : (ds : List Directive) → AreTabless (flat_map (λ (e : Directive). e.words) ds) → TokenRows (map directive_row ds)
  directive_tokens [] h = no_token_rows
  directive_tokens (d ∷ ds) h =
      token_row (sign 37 (omega arith) (words_tabs d.words (λ w a. h w (text_left (flat_map (λ (e : Directive). e.words) ds) a)))) (directive_tokens ds (λ w a. h w (text_right d.words a)))

  stream_tokens : (c : LayoutSetting) (b : Bool) (ds : List Doc) (xs : List DocumentTree) → AreTabless (words_in ds) → Holds c.style (flat_map flat_document xs) → TokenRows (stream_rows c b ds xs)
  stream_tokens c b [] xs g h = no_token_rows
  stream_tokens c b (d ∷ ds) [] g h = no_token_rows
  stream_tokens c b (d ∷ ds) (x ∷ xs) g h =
      let words : List (List ℕ) = flat_map (λ (e : Directive). e.words) d.directives in
      rows_join
      (rows_join
      (begun_tokens d.start
      (rows_join (end_tokens b d.directives)
      (rows_join (directive_tokens d.directives (λ w a. g w (text_left (words_in ds) a))) (token_row (sign 45 (omega arith) (sign 45 (omega arith) (sign 45 (omega arith) at_end))) no_token_rows))))
      (node_tokens c (root_margins c.style) x.root (left_holds c.style (flat x.root) (unplaced (document_ends x.closed) ∷ []) (left_holds c.style (flat_document x) (flat_map flat_document xs) h))))
      (stream_tokens c false ds xs (λ w a. g w (text_right words a)) (right_holds c.style (flat_document x) (flat_map flat_document xs) h))

  -- a first document without `---`
  bare_tokens : (start : ℕ) {xs : List Row} → TokenRows xs → TokenRows (begun_at start xs)
  bare_tokens start no_token_rows = no_token_rows
  bare_tokens start (token_row a more) = token_row a more

  pub laid_tokens : (c : LayoutSetting) (bare : Bool) (ds : List Doc) (xs : List DocumentTree) → AreTabless (words_in ds) → Holds c.style (flat_map flat_document xs) → TokenRows (all_rows c bare ds xs)
  laid_tokens c false ds xs g h = stream_tokens c true ds xs g h
  laid_tokens c true [] xs g h = no_token_rows
  laid_tokens c true (d ∷ ds) [] g h = no_token_rows
  laid_tokens c true (d ∷ ds) (x ∷ xs) g h =
      let words : List (List ℕ) = flat_map (λ (e : Directive). e.words) d.directives in
      rows_join
      (bare_tokens d.start (node_tokens c (root_margins c.style) x.root (left_holds c.style (flat x.root) (unplaced (document_ends x.closed) ∷ []) (left_holds c.style (flat_document x) (flat_map flat_document xs) h))))
      (stream_tokens c false ds xs (λ w a. g w (text_right words a)) (right_holds c.style (flat_document x) (flat_map flat_document xs) h))
