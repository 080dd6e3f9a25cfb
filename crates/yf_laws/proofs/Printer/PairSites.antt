-- The key and the value of a pair in a block mapping are at their sites.
use Rattle.std.proofs.Common.{◌≡◌, ℕ, ◌+◌, ◌-◌, ◌≤◌, Bool, true, false, not, ◌&&◌, List, [], ◌∷◌, ◌++◌, length, map, Option, Some, None, refl, sym, ap, ◌∙◌, arith, true≢false}
use Rattle.std.specs.Prelude.{◌^◌, ◌*◌, ◌||◌, is_some, if◌then◌else◌}
use Rattle.std.proofs.lemmas.Bool.{and_parts}
use Rattle.yf_chars.proofs.Tests.{none_there}
use Rattle.yf_comments.specs.Comment.{CommentValue}
use Rattle.yf_events.specs.Tree.{Node, scalar, alias, sequence, mapping, no_items, item, Pairs, no_pairs, pair, flat, flat_pairs, is_block_collection, is_filled_flow, is_sequence, is_text, items_in, leaves, spans_of_leaf, standing}
use Rattle.yf_events.specs.declared.event.Entry.{Entry}
use Rattle.yf_events.specs.declared.event.ScalarStyle.TheVariants.{Plain, Single, Double, Literal, Folded}
use Rattle.yf_forms.specs.declared.form.decide.Form.{Form}
use Rattle.yf_print.specs.declared.printer.FrameState.TheVariants.{Key}
use Rattle.yf_print.specs.declared.printer.PrintFrame.{PrintFrame}
use Rattle.yf_forms.specs.declared.style.Style.{Style}
use Rattle.yf_laws.proofs.OfTexts.KeyEntries.{keys_begin, keys_begin_in_pairs, no_entry}
use Rattle.yf_forms.specs.Passes.DecidePass.{further}
use Rattle.yf_forms.specs.NormalForms.Forms.{forms, forms_of_pairs, index_between, is_nothing, is_placed, key_comment_index, key_site, pairs_are_placed, value_site}
use Rattle.yf_forms.specs.NormalForms.Normal as Normal
use Rattle.yf_forms.specs.NormalForms.Normal.{LayoutSetting, inner_margins, is_implicit, settled, value_column, value_of_implicit, value_margins}
use Rattle.yf_forms.specs.Nodes.OneLine.{bare, colon_after, props_text, scalar_text, spaced, width, written}
use Rattle.yf_print.specs.Passes.PrintPass as Printing
use Rattle.yf_print.specs.Passes.PrintPass.{lines_column, role_in, value_awaited}
use Rattle.yf_print.specs.Layouts.Rows.{one_line_row, rows}
use Rattle.yf_forms.specs.Nodes.Lines.{is_empty_text}
use Rattle.yf_forms.proofs.Decide.AmongLemmas.{back, front}
use Rattle.yf_laws.proofs.Printer.EntriesFed.{is_key}
use Rattle.yf_laws.proofs.Printer.LeafFed.{ColumnAt}
use Rattle.yf_laws.proofs.Printer.LeafPrinted.{IsSited, has_lines, same_flag, same_flag_of_map, setting_in, written_filled}
use Rattle.yf_laws.proofs.Printer.NotedLemmas.{Known}
use Rattle.yf_laws.proofs.Printer.PrintNodes.{At, form, nests, pairs_nest}
use Rattle.yf_laws.proofs.Printer.PrintTrees.{PairsAt, level, next_part, pair_parts}
use Rattle.yf_laws.proofs.Printer.Reaching.{front_part}
use Rattle.yf_laws.proofs.NormalForms.StyledTwice.{House}
use Rattle.yf_forms.proofs.Decide.ValueLemmas.{agreed, same_comment}

-- Implicit keys.

no_lines : (s : Style) (column : ℕ) (x : Node) → has_lines x ≡ true → is_implicit s column x ≡ false
no_lines s column (scalar at props Plain text lines) e = absurd (true≢false (sym e))
no_lines s column (scalar at props Single text lines) e = absurd (true≢false (sym e))
no_lines s column (scalar at props Double text lines) e = absurd (true≢false (sym e))
no_lines s column (scalar at props Literal text lines) e = refl
no_lines s column (scalar at props Folded text lines) e = refl
no_lines s column (alias at name) e = absurd (true≢false (sym e))
no_lines s column (sequence at flow props items) e = absurd (true≢false (sym e))
no_lines s column (mapping at flow props pairs) e = absurd (true≢false (sym e))

no_block : (s : Style) (column : ℕ) (x : Node) → is_block_collection x ≡ true → is_implicit s column x ≡ false
no_block s column (scalar at props style text lines) e = absurd (true≢false (sym e))
no_block s column (alias at name) e = absurd (true≢false (sym e))
no_block s column (sequence at flow props no_items) e = absurd (true≢false (sym e))
no_block s column (sequence at true props (item x xs)) e = absurd (true≢false (sym e))
no_block s column (sequence at false props (item x xs)) e = refl
no_block s column (mapping at flow props no_pairs) e = absurd (true≢false (sym e))
no_block s column (mapping at true props (pair k v ps)) e = absurd (true≢false (sym e))
no_block s column (mapping at false props (pair k v ps)) e = refl

-- an implicit key has one row, or none
pub key_rows : (c : LayoutSetting) (margins : Normal.Margins) (column : ℕ) (x : Node) → House c x → is_implicit c.style column x ≡ true
    → rows c margins x ≡ one_line_row margins.column x (written c.style x)
key_rows c margins column (scalar at props Plain text lines) h e = refl
key_rows c margins column (scalar at props Single text lines) h e = refl
key_rows c margins column (scalar at props Double text lines) h e = refl
key_rows c margins column (scalar at props Literal text lines) h e = absurd (true≢false (sym e))
key_rows c margins column (scalar at props Folded text lines) h e = absurd (true≢false (sym e))
key_rows c margins column (alias at name) h e = refl
key_rows c margins column (sequence at true props items) h e = refl
key_rows c margins column (sequence at false props no_items) h e = absurd (true≢false (same_flag h))
key_rows c margins column (sequence at false props (item x xs)) h e = absurd (true≢false (sym e))
key_rows c margins column (mapping at true props pairs) h e = refl
key_rows c margins column (mapping at false props no_pairs) h e = absurd (true≢false (same_flag_of_map h))
key_rows c margins column (mapping at false props (pair k v ps)) h e = absurd (true≢false (sym e))

pub nothing_spaced : (p : List ℕ) → is_empty_text (spaced p []) ≡ true → is_nothing p ≡ true
nothing_spaced [] e = refl
nothing_spaced (b ∷ p) e = absurd (true≢false (sym e))

not_empty : (p y : List ℕ) → is_empty_text y ≡ false → is_empty_text (spaced p y) ≡ true → true ≡ false
not_empty p y f e = sym e ∙ written_filled p y f

pub empty_key : (s : Style) (column : ℕ) (x : Node) → is_placed x ≡ true → is_implicit s column x ≡ true → is_empty_text (written s x) ≡ true
    → (items_in x ≡ []) × (leaves x ≡ [])
empty_key s column (scalar at props Plain [] lines) h b e =
    let none : at.span ≡ None = none_there at.span (agreed _ _ h ∙ ap not (nothing_spaced (props_text props) e)) in
    (ap (λ o. map (λ s. s.start) (spans_of_leaf o)) none, ap spans_of_leaf none)
empty_key s column (scalar at props Plain (c ∷ text) lines) h b e = absurd (true≢false (not_empty (props_text props) (c ∷ text) refl e))
empty_key s column (scalar at props Single text lines) h b e = absurd (true≢false (not_empty (props_text props) (scalar_text s Single text) refl e))
empty_key s column (scalar at props Double text lines) h b e = absurd (true≢false (not_empty (props_text props) (scalar_text s Double text) refl e))
empty_key s column (scalar at props Literal text lines) h b e = absurd (true≢false (sym b))
empty_key s column (scalar at props Folded text lines) h b e = absurd (true≢false (sym b))
empty_key s column (alias at name) h b e = absurd (true≢false (sym e))
empty_key s column (sequence at flow props no_items) h b e = absurd (true≢false (not_empty (props_text props) (bare s (sequence at flow props no_items)) refl e))
empty_key s column (sequence at flow props (item x xs)) h b e = absurd (true≢false (not_empty (props_text props) (bare s (sequence at flow props (item x xs))) refl e))
empty_key s column (mapping at flow props no_pairs) h b e = absurd (true≢false (not_empty (props_text props) (bare s (mapping at flow props no_pairs)) refl e))
empty_key s column (mapping at flow props (pair k v ps)) h b e = absurd (true≢false (not_empty (props_text props) (bare s (mapping at flow props (pair k v ps))) refl e))

-- The key at its site.

cut : (s : Style) (n m : ℕ) → n + 8 * m + 16 ≤ 2 ^ 64 - 1 → further n s.indent ≡ n + s.indent
cut s n m l = let i = s.indent_to in omega (arith, l, i)

key_column : (indent column n : ℕ) (b : Bool) → ColumnAt indent None (Printing.key_role b column) n
key_column indent column n true = tt
key_column indent column n false = tt

pub key_at : (k : Known) (i n column : ℕ) (inline : Bool) (x y : Node) (ps : Pairs) (others : List PrintFrame) → PairsAt k i n column (pair x y ps)
    → At k i n (key_site k.work.style column x) x (level column Key inline ∷ others)
key_at k i n column inline x y ps others a = record {
  laid = record {
    placed = (and_parts (is_placed x) (is_placed y && pairs_are_placed ps) a.are_placed).0;
    begins = (and_parts (keys_begin x) (no_entry (standing y).entry && (keys_begin y && keys_begin_in_pairs ps)) a.begin).0;
    house = (pair_parts a.house).0;
    among = front (flat x) (flat y ++ flat_pairs ps) a.among;
  };
  forms = front_part (forms (setting_in k) (key_site k.work.style column x) x) (forms (setting_in k) (value_site (setting_in k) column x y) y ++ forms_of_pairs (setting_in k) column ps) a.forms;
  settled = (pair_parts a.settled).0;
  sited = record {
    column = key_column k.work.style.indent column _ (is_implicit k.work.style column x);
    lines = λ e. ap (λ b. lines_column k.work.style.indent (Printing.key_role b column)) (no_lines k.work.style column x e) ∙ cut k.work.style column n a.room;
    no_key = λ e f. refl;
  };
  no_key = λ e. ap (λ b. is_key (Printing.key_role b column)) (no_block k.work.style column x e);
  nests = (and_parts (nests n x) (nests n y && pairs_nest n ps) a.nest).0;
  room = let r = a.room in let s = k.work.style.indent_to in omega (arith, r, s);
}

-- The value at its site.

no_comment_of : (cs : List CommentValue) (x y : Node) → is_text y ≡ false → is_filled_flow y ≡ false → key_comment_index cs x y ≡ None
no_comment_of cs x y e f =
    ap (λ b. if b || is_filled_flow y then index_between cs (Normal.key_start x) (leaves y) else None) e
    ∙ ap (λ b. if b then index_between cs (Normal.key_start x) (leaves y) else None) f

value_sited : (k : Known) (column n : ℕ) (x y w : Node) (f : Form) (entry : Option Entry) (b : Bool) → w ≡ y → column + 8 * n + 16 ≤ 2 ^ 64 - 1
    → IsSited k (if b then key_comment_index k.work.reading.comments x w else None) (role_in f column (value_awaited b entry))
    (if b then value_of_implicit (setting_in k) column x y else inner_margins k.work.style column) y
value_sited k column n x y w f entry false e r = record { column = tt; lines = λ h. cut k.work.style column n r; no_key = λ g h. refl }
value_sited k column n x y w f entry true e r = record {
  column = by (key_comment_index cs x w) refl;
  lines = λ h. cut k.work.style column n r;
  no_key = λ g h. ap (key_comment_index cs x) e ∙ no_comment_of cs x y g h;
} where
  cs : List CommentValue
  cs = k.work.reading.comments

  by : (o : Option ℕ) → key_comment_index cs x w ≡ o → ColumnAt k.work.style.indent o (role_in f column (value_awaited true entry)) (value_column (setting_in k) column x y)
  by None q = tt
  by (Some j) q =
      ap (λ b. if b then column + k.work.style.indent else column + width (written k.work.style x) + width (colon_after x) + 1)
      (sym (same_comment cs x y) ∙ ap is_some (ap (key_comment_index cs x) (sym e) ∙ q))
      ∙ sym (cut k.work.style column n r)

value_no_key : (f : Form) (column : ℕ) (b : Bool) (entry : Option Entry) → is_key (role_in f column (value_awaited b entry)) ≡ false
value_no_key f column true entry = refl
value_no_key f column false entry = refl

value_room : (c : LayoutSetting) (column n : ℕ) (x y : Node) (b : Bool) → column + 8 * n + 16 ≤ 2 ^ 64 - 1
    → (if b then value_of_implicit c column x y else inner_margins c.style column).entries + 8 * n + 8 ≤ 2 ^ 64 - 1
value_room c column n x y true r = by (is_sequence y && not c.style.seq_indent) where
  by : (b : Bool) → (if b then column else column + c.style.indent) + 8 * n + 8 ≤ 2 ^ 64 - 1
  by true = omega (arith, r)
  by false = let i = c.style.indent_to in omega (arith, r, i)
value_room c column n x y false r = let i = c.style.indent_to in omega (arith, r, i)

pub value_at : (k : Known) (i n column : ℕ) (x y : Node) (ps : Pairs) (others : List PrintFrame) → PairsAt k i n column (pair x y ps)
    → At k (i + length (flat x)) n (value_site (setting_in k) column x y) y (level column (value_awaited (is_implicit k.work.style column x) (standing x).entry) false ∷ others)
value_at k i n column x y ps others a =
    let b : Bool = is_implicit k.work.style column x in
    let site = value_site (setting_in k) column x y in
    let placed = and_parts (is_placed y) (pairs_are_placed ps) (and_parts (is_placed x) (is_placed y && pairs_are_placed ps) a.are_placed).1 in
    let begins = and_parts (keys_begin y) (keys_begin_in_pairs ps)
    (and_parts (no_entry (standing y).entry) (keys_begin y && keys_begin_in_pairs ps) (and_parts (keys_begin x) (no_entry (standing y).entry && (keys_begin y && keys_begin_in_pairs ps)) a.begin).1).1 in
    record {
      laid = record {
        placed = placed.0;
        begins = begins.0;
        house = (pair_parts a.house).1.0;
        among = front (flat y) (flat_pairs ps) (back (flat x) (flat y ++ flat_pairs ps) a.among);
      };
      forms = front_part (forms (setting_in k) site y) (forms_of_pairs (setting_in k) column ps)
          (next_part k i (i + length (flat x)) (key_site k.work.style column x) x (forms (setting_in k) site y ++ forms_of_pairs (setting_in k) column ps) a.forms refl);
      settled = (pair_parts a.settled).1.0;
      sited = value_sited k column n x y (settled (setting_in k) (value_margins (setting_in k) column x y) y) (form k site y) (standing x).entry b (pair_parts a.settled).1.0 a.room;
      no_key = λ e. value_no_key (form k site y) column b (standing x).entry;
      nests = (and_parts (nests n y) (pairs_nest n ps) (and_parts (nests n x) (nests n y && pairs_nest n ps) a.nest).1).0;
      room = value_room (setting_in k) column n x y b a.room;
    }

pub pairs_after : (k : Known) (i n column : ℕ) (x y : Node) (ps : Pairs) → PairsAt k i n column (pair x y ps) → PairsAt k (i + length (flat x) + length (flat y)) n column ps
pairs_after k i n column x y ps a =
    let j : ℕ = i + length (flat x) in
    record {
      are_placed = (and_parts (is_placed y) (pairs_are_placed ps) (and_parts (is_placed x) (is_placed y && pairs_are_placed ps) a.are_placed).1).1;
      begin = (and_parts (keys_begin y) (keys_begin_in_pairs ps)
          (and_parts (no_entry (standing y).entry) (keys_begin y && keys_begin_in_pairs ps) (and_parts (keys_begin x) (no_entry (standing y).entry && (keys_begin y && keys_begin_in_pairs ps)) a.begin).1).1).1;
      house = (pair_parts a.house).1.1;
      among = back (flat y) (flat_pairs ps) (back (flat x) (flat y ++ flat_pairs ps) a.among);
      forms = next_part k j (j + length (flat y)) (value_site (setting_in k) column x y) y (forms_of_pairs (setting_in k) column ps)
          (next_part k i j (key_site k.work.style column x) x (forms (setting_in k) (value_site (setting_in k) column x y) y ++ forms_of_pairs (setting_in k) column ps) a.forms refl) refl;
      settled = (pair_parts a.settled).1.1;
      nest = (and_parts (nests n y) (pairs_nest n ps) (and_parts (nests n x) (nests n y && pairs_nest n ps) a.nest).1).1;
      room = a.room;
    }
