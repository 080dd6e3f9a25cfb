-- The comments that trail keys in the rows of trees are those of the trees' entries.
use Rattle.std.proofs.Common.{◌≡◌, ℕ, Bool, true, false, List, [], ◌∷◌, ◌++◌, length, map, Option, Some, None, refl, ap, ◌∙◌, arith}
use Rattle.std.specs.Prelude.{◌-◌, if◌then◌else◌, option_to_list}
use Rattle.yf_comments.specs.Comment.{CommentValue}
use Rattle.yf_events.specs.declared.directive.Directive.{Directive}
use Rattle.yf_events.specs.declared.document.Doc.{Doc}
use Rattle.yf_events.specs.declared.event.ScalarStyle.TheVariants.{Plain, Single, Double, Literal, Folded}
use Rattle.yf_events.specs.Tree.{DocumentTree, Node, scalar, alias, sequence, mapping, Items, no_items, item, Pairs, no_pairs, pair}
use Rattle.yf_stream.proofs.TagPass.PassLemmas.{joined as both}
use Rattle.yf_forms.specs.declared.style.Style.{Style}
use Rattle.yf_laws.specs.Preservation.KeyComments.{keyed_in, keyed_in_documents, keyed_in_items, keyed_in_pairs}
use Rattle.yf_laws.proofs.Trails.KeyTrails.{keys_append, keys_joined, keys_line, keys_on}
use Rattle.yf_laws.proofs.Trails.DocumentTrails.{begun_keys}
use Rattle.yf_forms.specs.NormalForms.Normal.{LayoutSetting, Margins, inner_margins, is_implicit, key_comment, key_margins, root_margins, value_margins}
use Rattle.yf_forms.specs.Nodes.OneLine.{props_text, written}
use Rattle.yf_print.specs.Layouts.Rows.{Row, begins_below, beginning_at, after_key, colon_row, directive_row, end_rows, entry_row, explicit_pair, implicit_pair, joined, key_row, pair_rows, props_row, rows, rows_of_items, rows_of_pairs, start_row, stream_rows, all_rows, bare_rows}

-- Rows.

keys_props : (column : ℕ) (w : List ℕ) (xs : List Row) → keys_on (props_row column w ++ xs) ≡ keys_on xs
keys_props column [] xs = refl
keys_props column (b ∷ w) xs = refl

keys_after : (house : Style) (column : ℕ) (k : Node) (o : Option CommentValue) (below : Bool) (xs : List Row) → keys_on (after_key (key_row house column k) o below xs) ≡ option_to_list o ++ keys_on xs
keys_after house column k (Some c) below xs = refl
keys_after house column k None true xs = refl
keys_after house column k None false xs = keys_joined (key_row house column k) 1 xs refl

keys_pair : (c : LayoutSetting) (column : ℕ) (k v : Node) (xs ys : List Row)
    → keys_on (pair_rows c column k v xs ys) ≡ (if is_implicit c.style column k then option_to_list (key_comment c.comments k v) else keys_on xs) ++ keys_on ys
keys_pair c column k v xs ys = by (is_implicit c.style column k) where
  by : (p : Bool) → keys_on (if p then implicit_pair c column k v ys else explicit_pair c.style column k xs ys) ≡ (if p then option_to_list (key_comment c.comments k v) else keys_on xs) ++ keys_on ys
  by true = keys_after c.style column k (key_comment c.comments k v) (begins_below v) ys
  by false =
      keys_append (joined (entry_row column (63 ∷ []) k) (c.style.indent - 1) xs) (joined (colon_row column k) (c.style.indent - 1) ys)
      ∙ both (keys_joined (entry_row column (63 ∷ []) k) (c.style.indent - 1) xs refl) (keys_joined (colon_row column k) (c.style.indent - 1) ys refl)

-- Trees.

mutual
  keys_of_node : (c : LayoutSetting) (margins : Margins) (x : Node) → keys_on (rows c margins x) ≡ keyed_in c margins x
  keys_of_node c margins (scalar at props Plain text lines) = keys_line margins.column (scalar at props Plain text lines) (written c.style (scalar at props Plain text lines))
  keys_of_node c margins (scalar at props Single text lines) = keys_line margins.column (scalar at props Single text lines) (written c.style (scalar at props Single text lines))
  keys_of_node c margins (scalar at props Double text lines) = keys_line margins.column (scalar at props Double text lines) (written c.style (scalar at props Double text lines))
  keys_of_node c margins (scalar at props Literal text lines) = refl
  keys_of_node c margins (scalar at props Folded text lines) = refl
  keys_of_node c margins (alias at name) = keys_line margins.column (alias at name) (written c.style (alias at name))
  keys_of_node c margins (sequence at true props items) = keys_line margins.column (sequence at true props items) (written c.style (sequence at true props items))
  keys_of_node c margins (sequence at false props items) = keys_props margins.column (props_text props) (rows_of_items c margins.entries items) ∙ keys_of_items c margins.entries items
  keys_of_node c margins (mapping at true props pairs) = keys_line margins.column (mapping at true props pairs) (written c.style (mapping at true props pairs))
  keys_of_node c margins (mapping at false props pairs) = keys_props margins.column (props_text props) (rows_of_pairs c margins.entries pairs) ∙ keys_of_pairs c margins.entries pairs

  keys_of_items : (c : LayoutSetting) (column : ℕ) (xs : Items) → keys_on (rows_of_items c column xs) ≡ keyed_in_items c column xs
  keys_of_items c column no_items = refl
  keys_of_items c column (item x xs) =
      let inner : List Row = rows c (inner_margins c.style column) x in
      keys_append (joined (entry_row column (45 ∷ []) x) (c.style.indent - 1) inner) (rows_of_items c column xs)
      ∙ both (keys_joined (entry_row column (45 ∷ []) x) (c.style.indent - 1) inner refl ∙ keys_of_node c (inner_margins c.style column) x) (keys_of_items c column xs)

  keys_of_pairs : (c : LayoutSetting) (column : ℕ) (ps : Pairs) → keys_on (rows_of_pairs c column ps) ≡ keyed_in_pairs c column ps
  keys_of_pairs c column no_pairs = refl
  keys_of_pairs c column (pair k v ps) =
      let key : List Row = rows c (key_margins c.style column k) k in
      let value : List Row = rows c (value_margins c column k v) v in
      keys_append (pair_rows c column k v key value) (rows_of_pairs c column ps)
      ∙ both
      (keys_pair c column k v key value
      ∙ both {A = CommentValue} (ap (λ z. if is_implicit c.style column k then option_to_list (key_comment c.comments k v) else z) (keys_of_node c (key_margins c.style column k) k)) (keys_of_node c (value_margins c column k v) v))
      (keys_of_pairs c column ps)

-- Documents.

keys_begun : (start : ℕ) (xs : List Row) → keys_on (beginning_at start xs) ≡ keys_on xs
keys_begun start [] = refl
keys_begun start (x ∷ xs) = refl

keys_ends : (b : Bool) (ds : List Directive) (xs : List Row) → keys_on (end_rows b ds ++ xs) ≡ keys_on xs
keys_ends true ds xs = refl
keys_ends false [] xs = refl
keys_ends false (d ∷ ds) xs = refl

keys_directives : (ds : List Directive) → keys_on (map directive_row ds ++ (start_row ∷ [])) ≡ []
keys_directives [] = refl
keys_directives (d ∷ ds) = keys_directives ds

-- as many documents as trees
keys_told : (c : LayoutSetting) (b : Bool) (ds : List Doc) (trees : List DocumentTree) → length ds ≡ length trees → keys_on (stream_rows c b ds trees) ≡ keyed_in_documents c trees
keys_told c b [] [] e = refl
keys_told c b [] (x ∷ trees) e = absurd (omega (arith, e))
keys_told c b (d ∷ ds) [] e = absurd (omega (arith, e))
keys_told c b (d ∷ ds) (x ∷ trees) e =
    let head : List Row = beginning_at d.start (end_rows b d.directives ++ (map directive_row d.directives ++ (start_row ∷ []))) in
    let root : List Row = rows c (root_margins c.style) x.root in
    let none : keys_on head ≡ [] =
    keys_begun d.start (end_rows b d.directives ++ (map directive_row d.directives ++ (start_row ∷ []))) ∙ (keys_ends b d.directives (map directive_row d.directives ++ (start_row ∷ [])) ∙ keys_directives d.directives) in
    keys_append (head ++ root) (stream_rows c false ds trees)
    ∙ both (keys_append head root ∙ both none (keys_of_node c (root_margins c.style) x.root)) (keys_told c false ds trees (omega (arith, e)))

pub laid_keys : (c : LayoutSetting) (bare : Bool) (ds : List Doc) (trees : List DocumentTree) → length ds ≡ length trees → keys_on (all_rows c bare ds trees) ≡ keyed_in_documents c trees
laid_keys c false ds trees e = keys_told c true ds trees e
laid_keys c true [] [] e = refl
laid_keys c true [] (x ∷ trees) e = absurd (omega (arith, e))
laid_keys c true (d ∷ ds) [] e = absurd (omega (arith, e))
laid_keys c true (d ∷ ds) (x ∷ trees) e =
    let root : List Row = rows c (root_margins c.style) x.root in
    keys_append (bare_rows c d x) (stream_rows c false ds trees)
    ∙ both (begun_keys d.start root ∙ keys_of_node c (root_margins c.style) x.root) (keys_told c false ds trees (omega (arith, e)))
