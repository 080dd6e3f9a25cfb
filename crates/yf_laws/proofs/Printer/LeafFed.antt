-- A leaf, or a flow collection on one line, adds its row: on the current line, after spaces, or on a line of its own.
use Rattle.std.proofs.Common.{◌≡◌, ℕ, suc, ◌+◌, ◌-◌, ◌≤◌, ◌<◌, Bool, true, false, ◌&&◌, List, [], ◌∷◌, ◌++◌, length, flat_map, drop, Option, Some, None, refl, sym, ap, ◌∙◌, arith, append_assoc, append-nil, true≢false, drop_at}
use Rattle.yf_props.specs.Props.{PropsValue}
use Rattle.yf_events.specs.Event.{EventInText}
use Rattle.yf_events.specs.Tree.{Node, items_in, leaves}
use Rattle.yf_events.specs.declared.event.ScalarStyle.{ScalarStyle}
use Rattle.yf_events.specs.declared.event.Span.{Span}
use Rattle.yf_forms.specs.declared.form.decide.Form.{Form}
use Rattle.yf_print.specs.declared.printer.Role as Printer
use Rattle.yf_forms.specs.Nodes.BlockLines.{block_lines, final_feeds, header_text, is_kept_tail}
use Rattle.yf_forms.specs.Passes.DecidePass.{further}
use Rattle.yf_print.specs.Passes.Drafts.{Draft, opened, with_blank, with_body, with_key_trail, with_text, without_blank}
use Rattle.yf_laws.specs.Layouts.Layout.{may_be_blank_after}
use Rattle.yf_forms.specs.Nodes.Lines.{ended, is_empty_text}
use Rattle.yf_forms.specs.NormalForms.Normal.{Margins}
use Rattle.yf_forms.specs.Nodes.OneLine.{colon_after, props_text, space_after, spaced, written}
use Rattle.yf_print.specs.Passes.PrintPass as Printing
use Rattle.yf_print.specs.Passes.PrintPass.{before_text, blank_unless, is_leaf, leaf_noted_if, lines_column, with_block, with_node, with_props_before, with_scalar}
use Rattle.yf_print.specs.Passes.PrintWork.{Work, remarks_of}
use Rattle.yf_print.specs.Layouts.Rows.{Row, one_line, one_line_row, plain_row, tail_ending}
use Rattle.yf_forms.proofs.Decide.AmongLemmas.{Among, after_first}
use Rattle.yf_laws.proofs.Printer.ColumnsFed.{leaves_marked}
use Rattle.yf_laws.proofs.Printer.FedLemmas.{all_past, fed, with_row}
use Rattle.yf_laws.proofs.Printer.JoinLemmas.{fed_after, fed_on}
use Rattle.yf_laws.proofs.Printer.NotedLemmas.{Known, EventsPrinted, met, met_more}
use Rattle.yf_forms.proofs.Texts.OneLineRuns.{spaced_filled}
use Rattle.yf_print.proofs.Pass.PrintLemmas.{stopped}
use Rattle.yf_forms.proofs.Decide.FlagLemmas.{and_false}
use Rattle.yf_forms.proofs.Measure.SumLemmas.{true_right}

-- Putting rows.

abbrev pub put_value : Known → Option ℕ → Bool → List Row → Draft → Draft
put_value k None true rows d = fed (remarks_of k.work) k.trail rows (without_blank d)
put_value k None false rows d = fed_after (remarks_of k.work) k.trail 1 rows d
put_value k (Some c) below rows d = fed (remarks_of k.work) k.trail rows (without_blank (with_key_trail k.work.reading.comments (Some c) d))

-- the rows of a node with its margins: the comment that trails its key, if any, and whether the node begins below
abbrev pub put : Known → Option ℕ → Bool → Printer.Role → List Row → Draft → Draft
put k key below Printer.Role.Root rows d = fed (remarks_of k.work) k.trail rows d
put k key below (Printer.Role.After column) rows d = fed_after (remarks_of k.work) k.trail (k.work.style.indent - 1) rows d
put k key below Printer.Role.Key rows d = fed_on (remarks_of k.work) k.trail rows d
put k key below (Printer.Role.Value column) rows d = put_value k key below rows d

-- the `:` after a key
abbrev pub with_colon_of : Node → Printer.Role → Draft → Draft
with_colon_of x Printer.Role.Key d = with_text (colon_after x) d
with_colon_of x Printer.Role.Root d = d
with_colon_of x (Printer.Role.After column) d = d
with_colon_of x (Printer.Role.Value column) d = d

-- if a row begins a line, it is at this column
abbrev pub ColumnAt : ℕ → Option ℕ → Printer.Role → ℕ → Type 0
ColumnAt indent key Printer.Role.Root n = n ≡ 0
ColumnAt indent key (Printer.Role.After column) n = Unit {0}
ColumnAt indent key Printer.Role.Key n = Unit {0}
ColumnAt indent None (Printer.Role.Value column) n = Unit {0}
ColumnAt indent (Some c) (Printer.Role.Value column) n = n ≡ further column indent

begun : (k : Known) (row : Row) (column : ℕ) (d : Draft) → row.blank_before ≡ false → row.column ≡ column
    → with_row (remarks_of k.work) k.trail row (Printing.next_line k.work column d) ≡ fed (remarks_of k.work) k.trail (row ∷ []) d
begun k row column d b c =
    sym (ap (λ w. with_row (remarks_of k.work) k.trail row (with_blank w (opened (remarks_of k.work) row.column d))) b
    ∙ ap (λ n. with_row (remarks_of k.work) k.trail row (opened (remarks_of k.work) n d)) c)

-- one row
pub row_put : (k : Known) (f : Form) (sp : Printer.Role) (row : Row) (d : Draft) → row.blank_before ≡ false → ColumnAt k.work.style.indent f.key_comment sp row.column
    → with_row (remarks_of k.work) k.trail row (before_text k.work f sp d) ≡ put k f.key_comment false sp (row ∷ []) d
row_put k f Printer.Role.Root row d b c = begun k row 0 d b c
row_put k f (Printer.Role.After column) row d b c = refl
row_put k f Printer.Role.Key row d b c = refl
row_put k f (Printer.Role.Value column) row d b c = by f.key_comment c where
  by : (o : Option ℕ) → ColumnAt k.work.style.indent o (Printer.Role.Value column) row.column
      → with_row (remarks_of k.work) k.trail row (Printing.before_value k.work o column d) ≡ put_value k o false (row ∷ []) d
  by None c = refl
  by (Some j) c = begun k row (further column k.work.style.indent) (without_blank (with_key_trail k.work.reading.comments (Some j) d)) b c

-- Additions.

-- past the content of a node, without its own entry
pub within : (k : Known) (i last : ℕ) (e : EventInText) (tail : List EventInText) (is js : List ℕ) (ss rs : List Span) (d : Draft) → Among k.work.reading.events (e ∷ tail) i
    → last + 1 ≡ i + suc (length tail) → leaf_noted_if (is_leaf k.work i) k.work i e.span d ≡ met k is ss d → EventsPrinted k (i + 1) tail js rs
    → Printing.node_noted k.work i last e d ≡ met k (is ++ js) (ss ++ rs) d
within k i last e tail is js ss rs d a l h n =
    let b = after_first e tail a in
    let cut : drop (i + 1) k.work.reading.events ≡ tail ++ b.after =
    ap (drop (i + 1)) b.is ∙ drop_at b.before (tail ++ b.after) (i + 1) b.index in
    let low : i + 1 + length tail ≤ last + 1 = omega (arith, l) in
    let past : last < i + 1 + length tail = omega (arith, l) in
    ap (λ w. Printing.events_noted k.work last (i + 1) w (leaf_noted_if (is_leaf k.work i) k.work i e.span d)) cut
    ∙ (ap (λ w. Printing.events_noted k.work last (i + 1) (tail ++ b.after) w) h
    ∙ (n.noted last b.after (met k is ss d) low
    ∙ (stopped k.work last (i + 1 + length tail) b.after (met k js rs (met k is ss d)) past
    ∙ met_more k is js ss rs d)))

-- a row that has only a text
pub row_met : (k : Known) (column : ℕ) (text : List ℕ) (is : List ℕ) (ss : List Span) (d : Draft)
    → met k is ss (with_text text d) ≡ with_row (remarks_of k.work) k.trail (record (plain_row column text) { items = is; leaves = ss }) d
row_met k column text is ss d =
    let line : List ℕ = d.line ++ text in
    let trails : List ℕ = d.trails ++ flat_map k.trail ss in
    sym (ap (λ w. all_past k.work.reading.comments is (record d { line = d.line ++ w; trails = trails; body = d.body ++ []; may_follow = d.may_follow && true; marks = leaves_marked ss d.marks })) (append-nil text)
    ∙ (ap (λ w. all_past k.work.reading.comments is (record d { line = line; trails = trails; body = w; may_follow = d.may_follow && true; marks = leaves_marked ss d.marks })) (append-nil d.body)
    ∙ ap (λ w. all_past k.work.reading.comments is (record d { line = line; trails = trails; may_follow = w; marks = leaves_marked ss d.marks })) (true_right d.may_follow)))

filled_row : (column : ℕ) (x : Node) (w : List ℕ) → is_empty_text w ≡ false
    → one_line_row column x w ≡ record (plain_row column w) { items = items_in x; leaves = leaves x } ∷ []
filled_row column x [] e = absurd (true≢false e)
filled_row column x (b ∷ w) e = refl

-- a node on one line
pub one_line_put : (k : Known) (f : Form) (sp : Printer.Role) (margins : Margins) (x : Node) (i last : ℕ) (e : EventInText) (d : Draft)
    → ((d : Draft) → with_node k.work i last e sp d ≡ with_text (written k.work.style x) d) → ((d : Draft) → Printing.node_noted k.work i last e d ≡ met k (items_in x) (leaves x) d)
    → is_empty_text (written k.work.style x) ≡ false → ColumnAt k.work.style.indent f.key_comment sp margins.column
    → Printing.node_noted k.work i last e (with_node k.work i last e sp (before_text k.work f sp d)) ≡ put k f.key_comment false sp (one_line k.work.style margins x) d
one_line_put k f sp margins x i last e d t n filled c =
    let row : Row = record (plain_row margins.column (written k.work.style x)) { items = items_in x; leaves = leaves x } in
    ap (Printing.node_noted k.work i last e) (t (before_text k.work f sp d))
    ∙ (n (with_text (written k.work.style x) (before_text k.work f sp d))
    ∙ (row_met k margins.column (written k.work.style x) (items_in x) (leaves x) (before_text k.work f sp d)
    ∙ (row_put k f sp row d refl c ∙ ap (λ w. put k f.key_comment false sp w d) (sym (filled_row margins.column x (written k.work.style x) filled)))))

-- Block scalars.

pub block_met : (k : Known) (margins : Margins) (x : Node) (props : PropsValue) (style : ScalarStyle) (text : List ℕ) (lines : List (List ℕ)) (sp : Printer.Role) (d : Draft)
    → is_empty_text (header_text style k.work.style.indent text) ≡ false → lines_column k.work.style.indent sp ≡ margins.lines
    → met k (items_in x) (leaves x) (with_block k.work.style sp style text lines (with_props_before props d))
    ≡ with_row (remarks_of k.work) k.trail (record (plain_row margins.column (spaced (props_text props) (header_text style k.work.style.indent text))) {
      items = items_in x;
      leaves = leaves x;
      ending = tail_ending (is_kept_tail (final_feeds text));
      body = block_lines style margins.lines text lines;
      lines = margins.lines;
    }) d
block_met k margins x props style text lines sp d h c =
    let header : List ℕ = header_text style k.work.style.indent text in
    let row : List ℕ = spaced (props_text props) header in
    let trails : List ℕ = d.trails ++ flat_map k.trail (leaves x) in
    let body : List ℕ = flat_map ended (block_lines style margins.lines text lines) in
    let line : d.line ++ (row ++ []) ≡ (d.line ++ space_after (props_text props)) ++ header =
    ap (λ w. d.line ++ w) (append-nil row ∙ spaced_filled (props_text props) header h) ∙ sym (append_assoc d.line (space_after (props_text props)) header) in
    let kept : Bool = is_kept_tail (final_feeds text) in
    ap (λ n. met k (items_in x) (leaves x) (with_body (flat_map ended (block_lines style n text lines)) (blank_unless kept (with_text header (with_props_before props d))))) c
    ∙ (by kept
    ∙ sym (ap (λ w. all_past k.work.reading.comments (items_in x) (record d { line = w; trails = trails; body = d.body ++ body; may_follow = d.may_follow && may_be_blank_after (tail_ending kept); marks = leaves_marked (leaves x) d.marks })) line)) where
      by : (b : Bool) → met k (items_in x) (leaves x) (with_body (flat_map ended (block_lines style margins.lines text lines)) (blank_unless b (with_text (header_text style k.work.style.indent text) (with_props_before props d))))
          ≡ all_past k.work.reading.comments (items_in x) (record d {
            line = (d.line ++ space_after (props_text props)) ++ header_text style k.work.style.indent text;
            trails = d.trails ++ flat_map k.trail (leaves x);
            body = d.body ++ flat_map ended (block_lines style margins.lines text lines);
            may_follow = d.may_follow && may_be_blank_after (tail_ending b);
            marks = leaves_marked (leaves x) d.marks;
          })
      by true = ap (λ w. all_past k.work.reading.comments (items_in x) (record d {
        line = (d.line ++ space_after (props_text props)) ++ header_text style k.work.style.indent text;
        trails = d.trails ++ flat_map k.trail (leaves x);
        body = d.body ++ flat_map ended (block_lines style margins.lines text lines);
        may_follow = w;
        marks = leaves_marked (leaves x) d.marks;
      })) (sym (and_false d.may_follow))
      by false = ap (λ w. all_past k.work.reading.comments (items_in x) (record d {
        line = (d.line ++ space_after (props_text props)) ++ header_text style k.work.style.indent text;
        trails = d.trails ++ flat_map k.trail (leaves x);
        body = d.body ++ flat_map ended (block_lines style margins.lines text lines);
        may_follow = w;
        marks = leaves_marked (leaves x) d.marks;
      })) (sym (true_right d.may_follow))
