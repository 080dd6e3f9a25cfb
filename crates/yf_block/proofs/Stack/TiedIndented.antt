-- A node awaited at the start of a line begins on that line: its first character, and the columns at which it may be
-- a collection.
use Rattle.std.proofs.Common.{◌≡◌, ◌≢◌, ℕ, ◌+◌, ◌-◌, ◌<◌, ◌≤◌, ℤ, pos, ◌+ℤ◌, ◌≤ℤ◌, true, false, List, [], ◌++◌, length, Option, Some, None, MatchOption, refl, sym, ap, ◌∙◌, subst, arith, append-nil, Bool, ◌⊎◌, inl, inr, ⊎_elim}
use Rattle.std.proofs.lemmas.Bool.{cases_lt, cases_eq}
use Rattle.std.proofs.lemmas.Int.{ints}
use Rattle.yf_chars.specs.declared.context.Ctx.{Ctx}
use Rattle.yf_chars.specs.declared.context.Ctx.TheVariants.{BlockOut, BlockIn, FlowOut, FlowIn, BlockKey, FlowKey}
use Rattle.yf_chars.specs.Text.{code}
use Rattle.yf_chars.specs.Class.{is_white}
use Rattle.yf_chars.specs.Chain.{Many}
use Rattle.yf_chars.specs.Chain.Chain.{done}
use Rattle.yf_chars.proofs.ChainLemmas.{many_unique, chain_append, chain_forward, one_functional}
use Rattle.yf_lines.specs.Basic.{Break, Spaces}
use Rattle.yf_lines.specs.Basic.SeparateInLine.{by_whites}
use Rattle.yf_lines.proofs.BasicLemmas.{break_forward}
use Rattle.yf_comments.specs.Comment.{CommentValue}
use Rattle.yf_comments.specs.Comments.{BreakOrEnd}
use Rattle.yf_comments.specs.Comments.BreakOrEnd.{by_break, by_end}
use Rattle.yf_comments.specs.Comments.LineRest.{nothing, whites}
use Rattle.yf_comments.proofs.LineOrder.{line_end_forward}
use Rattle.yf_comments.proofs.SeparateLemmas.{spaces_whites}
use Rattle.yf_events.specs.declared.part.Part.{Part}
use Rattle.yf_grammar.specs.Productions.Grammar.{least_column}
use Rattle.yf_grammar.specs.Productions.Meaning.{◌⊕◌}
use Rattle.yf_grammar.specs.FlowReader.Parser.{only}
use Rattle.yf_grammar.specs.BlockReader.BlockParser.{DashAt, LinesEnd, text_ends, LineText, Columns, ColumnIf, column_there, column_not, LineColumns, Begins, line_indented, line_first, line_dashed, NoNode, Ahead, Nothing, Indicator, Props, past, with_comments, BlockTask}
use Rattle.yf_grammar.specs.BlockReader.BlockStack.{Layer}
use Rattle.yf_grammar.specs.BlockReader.BlockStates.{AllWithin, outcome_before}
use Rattle.yf_grammar.proofs.BlockOutcomes.BlockClaims.{least_above, line_forward, dash_visible, visible_content}
use Rattle.yf_grammar.proofs.BlockStack.BlockNodeSteps.{node_on_line}
use Rattle.yf_grammar.proofs.FlowReader.ParserLemmas.{Same}
use Rattle.yf_block.specs.declared.frame.Frame.{Frame}
use Rattle.yf_block.specs.declared.frame.BlockCursor.{BlockCursor}
use Rattle.yf_block.specs.declared.properties.PlacedProperties.{PlacedProperties}
use Rattle.yf_block.specs.BlockTied.{ahead_comments, all_written}
use Rattle.yf_block.specs.BlockStepTied.{AheadTied, nothing_held, none_held, props_held}
use Rattle.yf_block.specs.InlineTied.{AtStart, ColumnTied}
use Rattle.yf_block.specs.LineStepTied.{halt_with, AtAlone, AtIndented}
use Rattle.yf_block.proofs.Ends.LineHalts.{chosen_still}
use Rattle.yf_block.proofs.Stack.TiedReads.{read_as}

-- comments before the node belong to its properties, if it has any
past_tied : {a : Ahead} {o : Option PlacedProperties} (es : List CommentValue) → AheadTied a o → AheadTied (past a es) o
unfolding past with_comments
past_tied es nothing_held = nothing_held
past_tied es none_held = none_held
past_tied es (props_held h) = props_held (record { start = h.start; end = h.end; tag = h.tag; props = h.props })

past_nothing : (a : Ahead) (es : List CommentValue) → past a es ≡ Nothing → a ≡ Nothing
unfolding past
past_nothing Nothing es e = refl
past_nothing (Indicator i) es e = absurd (cc)
past_nothing (Props h) es e = absurd (cc)

past_indicator : (a : Ahead) (es : List CommentValue) {i : ℕ} → past a es ≡ Indicator i → a ≡ Indicator i
unfolding past
past_indicator Nothing es e = e
past_indicator (Indicator j) es e = e
past_indicator (Props h) es e = absurd (cc)

past_comments : (a : Ahead) (ds es : List CommentValue) → ds ++ (ahead_comments a ++ es) ≡ (ds ++ outcome_before a es) ++ ahead_comments (past a es)
unfolding past with_comments
past_comments Nothing ds es = sym (append-nil (ds ++ es))
past_comments (Indicator i) ds es = sym (append-nil (ds ++ es))
past_comments (Props h) ds es = ap (λ z. z ++ (h.value.comments ++ es)) (sym (append-nil ds))

same_comments : (ls : List Layer) {cs ds : List CommentValue} → cs ≡ ds → Same (all_written ls ⊕ only cs 0) (all_written ls ⊕ only ds 0)
unfolding ◌⊕◌ only
same_comments ls e = record { events = refl; comments = ap (λ z. (all_written ls).comments ++ z) e; escapes = refl }

-- a column that is present
pub record ColumnIs (k m p : ℕ) (least : ℤ) (column : ℕ) : Type 0 where
  pub is : column ≡ m
  pub place : p ≡ k + m
  pub deep : least ≤ℤ pos m

pub column_is : {k m p : ℕ} {least : ℤ} {o : Option ℕ} {x : ℕ} → ColumnIf k m p least o → o ≡ Some x → ColumnIs k m p least x
column_is (column_there e l) q = record { is = cc; place = e; deep = l }
column_is (column_not n) q = absurd (cc)

-- whether a collection of that kind may begin there is decided
column_decided : (k m p : ℕ) (least : ℤ) → (least ≤ℤ pos m) ⊎ (least ≤ℤ pos m → ⊥) → (o : Option ℕ) × ColumnIf k m p least o
column_decided k m p least c = ⊎_elim
    (λ (e : p ≡ k + m). ⊎_elim (λ (l : least ≤ℤ pos m). (Some m, column_there e l)) (λ (l : least ≤ℤ pos m → ⊥). (None, column_not (λ a b. l b))) c)
    (λ (e : p ≢ k + m). (None, column_not (λ a b. e a)))
    (cases_eq p (k + m))

deep_or_not : {least m : ℕ} (n : ℤ) → pos least ≡ n +ℤ pos 1 → ((n +ℤ pos 1) ≤ℤ pos m) ⊎ ((n +ℤ pos 1) ≤ℤ pos m → ⊥)
deep_or_not {least} {m} n e = ⊎_elim
    (λ (l : m < least). inr (λ q. omega (arith, ints, e, l, q)))
    (λ (l : least ≤ m). inl (let l' : pos least ≤ℤ pos m = omega (arith, ints, l) in subst (λ z. z ≤ℤ pos m) e l'))
    (cases_lt m least)

above_or_not : {least m : ℕ} (n : ℤ) → pos least ≡ n +ℤ pos 1 → (n ≤ℤ pos m) ⊎ (n ≤ℤ pos m → ⊥)
above_or_not {least} {m} n e = ⊎_elim
    (λ (l : m + 1 < least). inr (λ q. omega (arith, ints, e, l, q)))
    (λ (l : least ≤ m + 1). inl (omega (arith, ints, e, l)))
    (cases_lt (m + 1) least)

least_or_not : {least m : ℕ} (n : ℤ) (c : Ctx) → pos least ≡ n +ℤ pos 1 → (least_column true n c ≤ℤ pos m) ⊎ (least_column true n c ≤ℤ pos m → ⊥)
least_or_not n BlockOut e = above_or_not n e
least_or_not n BlockIn e = deep_or_not n e
least_or_not n FlowOut e = deep_or_not n e
least_or_not n FlowIn e = deep_or_not n e
least_or_not n BlockKey e = deep_or_not n e
least_or_not n FlowKey e = deep_or_not n e

module _ {t : List ℕ} {d : ℕ} {root : BlockTask} {before : Part} {frames : List Frame} {p : ℕ} {progress : BlockCursor} {part : Part} (a : AtAlone t d root before frames p progress part) where
  column_tied : (s : Bool) {m q : ℕ} {o : Option ℕ} → p + m ≤ q → ColumnIf p m q (least_column s a.indentation a.context) o → ColumnTied a.layers q o
  column_tied s {m} {q} l c = record {
    shallow = λ x e. let r = (column_is c e).is in omega (arith, r, l);
    within = λ x e. let r = column_is c e in subst (λ (z : ℕ). AllWithin z a.layers) (sym r.is) (a.wanted.within m (least_above s a.indentation a.context m r.deep));
  }

  -- it begins at its first character
  pub begins_there : {m q : ℕ} {cols : Columns} → LineText t p m q → Begins t a.indentation a.context progress.from p m q → LineColumns a.indentation a.context p m q cols
      → AtStart t d root before frames cols q progress part
  begins_there {m} {q} {cols} x b y =
      let far = line_forward x in
      record {
        layers = a.layers;
        room = a.room;
        comments = a.comments ++ outcome_before a.ahead a.told;
        indentation = a.indentation;
        context = a.context;
        ahead = past a.ahead a.told;
        halt = halt_with a.layers a.comments a.halt a.last_alone;
        node = node_on_line a.node a.line x b y a.alone;
        wanted = record {
          least = a.wanted.least;
          out = a.wanted.out;
          outer = past_tied a.told a.wanted.outer;
          entry = a.wanted.entry;
          within = a.wanted.within;
          nested = λ e. a.wanted.nested (past_nothing a.ahead a.told e);
          rooted = λ i e. a.wanted.rooted i (past_indicator a.ahead a.told e);
          narrow = a.wanted.narrow;
        };
        sequence = column_tied true far y.sequence;
        mapping = column_tied false far y.mapping;
        no_white = x.content.no_white;
        past = let v = a.past in let w = line_end_forward a.line.derived in omega (arith, v, w, far);
        stack = a.stack;
        read = read_as a.read (same_comments a.layers (past_comments a.ahead a.comments a.told));
      }

module _ {t : List ℕ} where
  -- a line that begins at k, with spaces up to s
  column_of : {k s m q : ℕ} → k ≤ s → Spaces t k (s - k) → code t s ≢ 32 → LineText t k m q → m ≡ s - k
  column_of {k} {s} {m} l y z x = ⊎_elim
      (λ (b : m < s - k). absurd (x.no_space (y.each m b)))
      (λ (b : s - k ≤ m). ⊎_elim
      (λ (c : s - k < m). let here : k + (s - k) ≡ s = omega (arith, l) in absurd (z (ap (code t) (sym here) ∙ x.spaces.each (s - k) c)))
      (λ (c : m ≤ s - k). omega (arith, b, c))
      (cases_lt (s - k) m))
      (cases_lt m (s - k))

  -- its first other character
  first_of : {k s m q p : ℕ} {w : List ℕ} → k ≤ s → Spaces t k (s - k) → code t s ≢ 32 → Many t is_white s p w → is_white (code t p) ≡ false → LineText t k m q → q ≡ p
  first_of {k} {s} {m} {q} {p} {w} l y z r n x =
      let e = column_of l y z x in
      let here : k + m ≡ s = omega (arith, e, l) in
      sym (many_unique t is_white (subst (λ (i : ℕ). Many t is_white i p w) (sym here) r) n x.run x.content.no_white).0

module _ {t : List ℕ} {d : ℕ} {root : BlockTask} {before : Part} {frames : List Frame} {p start : ℕ} {progress : BlockCursor} {part : Part} (i : AtIndented t d root before frames p start progress part) where
  abbrev a : AtAlone t d root before frames p progress part
  a = i.at

  -- a line that is less deep begins no node
  pub less_deep : start - p < progress.wanted.least → progress.first ≡ false → NoNode t a.indentation a.context progress.from p
  less_deep l f = record { none = λ m q x b. go x b } where
    go : {m q : ℕ} → LineText t p m q → Begins t a.indentation a.context progress.from p m q → ⊥
    go x (line_indented h) =
        let e = column_of i.order i.spaces i.no_space x in
        let n = a.wanted.least in
        omega (arith, ints, e, n, l, h)
    go x (line_first e) = x.goes_on (text_ends (a.not_first f (sym e)))
    go {m} {q} x (line_dashed y e h) =
        let c = column_of i.order i.spaces i.no_space x in
        let o = i.order in
        let here : q ≡ start = omega (arith, e, c, o) in
        i.undashed (subst (λ (k : ℕ). DashAt t k) here y) (subst (λ (k : ℕ). least_column true a.indentation a.context ≤ℤ pos k) c h)

  module _ {place : ℕ} {w : List ℕ} (run : Many t is_white start place w) (no_white : is_white (code t place) ≡ false) where
    -- no line of a node begins at the end of the text or before a comment
    pub text_over : place ≡ length t → (m q : ℕ) → LineText t p m q → ⊥
    text_over e m q x = x.content.no_end q (by_end (first_of i.order i.spaces i.no_space run no_white x ∙ e))

    pub comment_there : code t place ≡ 35 → (m q : ℕ) → LineText t p m q → ⊥
    comment_there e m q x = x.content.no_hash (ap (code t) (first_of i.order i.spaces i.no_space run no_white x) ∙ e)

    here : p + (start - p) ≡ start
    here = let o = i.order in omega (arith, o)

    -- otherwise a line of a node begins there
    row_there : {j : ℕ} → BreakOrEnd t place j → place ≢ length t → ⊥
    row_there (by_end e) n = n e
    row_there {j} (by_break b) n =
        let s = spaces_whites t p (start - p) i.spaces in
        let all = chain_append s.1 (subst (λ (k : ℕ). Many t is_white k place w) (sym here) run) in
        let far = chain_forward (one_functional t is_white) all in
        let later = break_forward b in
        ⊎_elim
        (λ (l : p < place). (chosen_still a.line).none j [] (record { rest = whites (by_whites all l) (by_break b); later = omega (arith, far, later) }))
        (λ (l : place ≤ p).
        let same : place ≡ p = omega (arith, l, far) in
        (chosen_still a.line).none j [] (record { rest = nothing (by_break (subst (λ (k : ℕ). Break t k j) same b)); later = omega (arith, far, later) }))
        (cases_lt p place)

    pub line_there : place ≢ length t → code t place ≢ 35 → LineText t p (start - p) place
    line_there n h = record {
      goes_on = i.goes_on;
      spaces = i.spaces;
      no_space = λ e. i.no_space (ap (code t) (sym here) ∙ e);
      whites = w;
      run = subst (λ (k : ℕ). Many t is_white k place w) (sym here) run;
      content = record { no_white = no_white; no_hash = h; no_end = λ j b. row_there b n };
    }

    pub begins_deep : progress.wanted.least ≤ start - p → Begins t a.indentation a.context progress.from p (start - p) place
    begins_deep l = line_indented (let l' : pos progress.wanted.least ≤ℤ pos (start - p) = omega (arith, ints, l) in subst (λ z. z ≤ℤ pos (start - p)) a.wanted.least l')

    pub begins_first : progress.first ≡ true → Begins t a.indentation a.context progress.from p (start - p) place
    begins_first f = line_first (sym (a.first f))

    pub sequence_column : (o : Option ℕ) × ColumnIf p (start - p) place (least_column true a.indentation a.context) o
    sequence_column = column_decided p (start - p) place _ (least_or_not a.indentation a.context a.wanted.least)

    -- the columns
    pub columns_there : {column : Option ℕ} → ColumnIf p (start - p) place (least_column false a.indentation a.context) column
        → LineColumns a.indentation a.context p (start - p) place (record { sequence = sequence_column.0; mapping = column })
    columns_there m = record { sequence = sequence_column.1; mapping = m }

    pub column_deep : progress.wanted.least ≤ start - p → place ≡ start → ColumnIf p (start - p) place (least_column false a.indentation a.context) (Some (start - p))
    column_deep l e = column_there (e ∙ sym here) (let l' : pos progress.wanted.least ≤ℤ pos (start - p) = omega (arith, ints, l) in subst (λ z. z ≤ℤ pos (start - p)) a.wanted.least l')

    pub column_none : (place ≡ start → progress.wanted.least ≤ start - p → ⊥) → ColumnIf p (start - p) place (least_column false a.indentation a.context) None
    column_none n = column_not (λ e l. n (e ∙ here) (let z = a.wanted.least in omega (arith, ints, l, z)))

    -- no sequence begins there
    pub no_dash_there : (m : ℕ) → sequence_column.0 ≡ Some m → DashAt t place → ⊥
    no_dash_there m e y =
        let c = column_is sequence_column.1 e in
        i.undashed (subst (λ (k : ℕ). DashAt t k) (c.place ∙ here) y) c.deep

-- a sequence begins after the spaces
module _ {t : List ℕ} {d : ℕ} {root : BlockTask} {before : Part} {frames : List Frame} {p start : ℕ} {progress : BlockCursor} {part : Part} (a : AtAlone t d root before frames p progress part) where
  pub dash_begins : (LinesEnd t p → ⊥) → p ≤ start → Spaces t p (start - p) → DashAt t start → least_column true a.indentation a.context ≤ℤ pos (start - p)
      → (cols : Columns) × (cols.sequence ≡ Some (start - p)) × AtStart t d root before frames cols start progress part
  dash_begins g o y h l =
      let here : p + (start - p) ≡ start = omega (arith, o) in
      let v = dash_visible h in
      let x : LineText t p (start - p) start = record {
        goes_on = g;
        spaces = y;
        no_space = λ e. let c = ap (code t) (sym here) ∙ e in let b = h.dash in omega (arith, b, c);
        whites = [];
        run = subst (λ (k : ℕ). Many t is_white k start []) (sym here) done;
        content = visible_content v;
      } in
      let m = column_decided p (start - p) start _ (deep_or_not a.indentation a.wanted.least) in
      (record { sequence = Some (start - p); mapping = m.0 }, refl, begins_there a x (line_dashed h (sym here) l) (record { sequence = column_there (sym here) l; mapping = m.1 }))

-- it begins at that character
module _ {t : List ℕ} {d : ℕ} {root : BlockTask} {before : Part} {frames : List Frame} {p start : ℕ} {progress : BlockCursor} {part : Part} (i : AtIndented t d root before frames p start progress part)
    {place : ℕ} {w : List ℕ} (run : Many t is_white start place w) (no_white : is_white (code t place) ≡ false) where
  line_begins : (progress.wanted.least ≤ start - p) ⊎ (progress.first ≡ true) → Begins t i.at.indentation i.at.context progress.from p (start - p) place
  line_begins b = ⊎_elim (λ (l : progress.wanted.least ≤ start - p). begins_deep i run no_white l) (λ (f : progress.first ≡ true). begins_first i run no_white f) b

  mapping_column : (column : Option ℕ) → MatchOption column (place ≡ start → progress.wanted.least ≤ start - p → ⊥) (λ m. (m ≡ start - p) × (place ≡ start) × (progress.wanted.least ≤ start - p))
      → ColumnIf p (start - p) place (least_column false i.at.indentation i.at.context) column
  mapping_column None n = column_none i run no_white n
  mapping_column (Some m) y =
      subst (λ (z : ℕ). ColumnIf p (start - p) place (least_column false i.at.indentation i.at.context) (Some z)) (sym y.0) (column_deep i run no_white y.2 y.1)

  pub line_starts : place ≢ length t → code t place ≢ 35 → (progress.wanted.least ≤ start - p) ⊎ (progress.first ≡ true) → (column : Option ℕ)
      → MatchOption column (place ≡ start → progress.wanted.least ≤ start - p → ⊥) (λ m. (m ≡ start - p) × (place ≡ start) × (progress.wanted.least ≤ start - p))
      → AtStart t d root before frames (record { sequence = (sequence_column i run no_white).0; mapping = column }) place progress part
  line_starts n h b column m = begins_there i.at (line_there i run no_white n h) (line_begins b) (columns_there i run no_white (mapping_column column m))
