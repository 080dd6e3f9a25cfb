-- The rows of documents have at most as many bytes as these are counted with.
use Rattle.std.proofs.Common.{◌≡◌, ℕ, suc, ◌+◌, ◌*◌, ◌≤◌, Bool, true, false, List, [], ◌∷◌, ◌++◌, length, map, max, refl, arith, length-append}
use Rattle.std.proofs.Math.Nat.{le-max_left, le-max_right, mul-le-mul_right}
use Rattle.yf_events.specs.Tree.{DocumentTree}
use Rattle.yf_events.specs.declared.directive.Directive.{Directive}
use Rattle.yf_events.specs.declared.document.Doc.{Doc}
use Rattle.yf_grammar.specs.Productions.TreesOfMeaning.{tall}
use Rattle.yf_forms.specs.declared.style.Style.{Style}
use Rattle.yf_laws.specs.Layouts.FitDocuments.{tall_documents}
use Rattle.yf_forms.specs.NormalForms.Normal.{LayoutSetting, root_margins}
use Rattle.yf_print.specs.Layouts.Rows.{Row, all_rows, bare_rows, beginning_at, begun_at, directive_row, document_rows, end_rows, joined_words, rows, start_row, stream_rows}
use Rattle.yf_laws.proofs.Size.NodeCosts.{Costs}
use Rattle.yf_laws.proofs.Size.RowBytes.{laid_size, node_laid, price, price_add, price_eight, price_more, size, size_append}
use Rattle.yf_laws.proofs.Size.StreamBytes.{directives_weight, words_weight}
use Rattle.yf_laws.proofs.Size.Weights.{remark_low}

-- a byte for each document, in addition to its directives
abbrev pub documents_weight : List Doc → ℕ
documents_weight [] = 0
documents_weight (d ∷ ds) = suc (directives_weight d.directives) + documents_weight ds

pub data TreesCost (house : Style) : ℕ → List DocumentTree → Type 0 where
  no_tree_costs : TreesCost house 0 []
  one_tree_costs : {a m : ℕ} {x : DocumentTree} {xs : List DocumentTree} → Costs house a x.root → TreesCost house m xs → TreesCost house (a + m) (x ∷ xs)

-- Directives.

words_most : (ws : List (List ℕ)) → length (joined_words ws) ≤ words_weight ws + words_weight ws
words_most [] = omega arith
words_most (x ∷ []) = let l = remark_low x in omega (arith, l.1)
words_most (x ∷ y ∷ ws) = let l = remark_low x in let m = words_most (y ∷ ws) in omega (arith, l.0, l.1, m, length-append x (32 ∷ joined_words (y ∷ ws)))

directive_rows_most : (ds : List Directive) → size (map directive_row ds) ≤ 8 * directives_weight ds
directive_rows_most [] = omega arith
directive_rows_most (d ∷ ds) = let l = words_most d.words in let m = directive_rows_most ds in omega (arith, l, m)

-- with the `...` before them and the `---` after them
head_most : (b : Bool) (ds : List Directive) → size (end_rows b ds ++ (map directive_row ds ++ (start_row ∷ []))) ≤ 8 * suc (directives_weight ds)
head_most true ds = let m = directive_rows_most ds in omega (arith, m, size_append (map directive_row ds) (start_row ∷ []))
head_most false [] = omega arith
head_most false (d ∷ ds) = let l = words_most d.words in let m = directive_rows_most ds in omega (arith, l, m, size_append (map directive_row ds) (start_row ∷ []))

beginning_size : (start : ℕ) (xs : List Row) → size (beginning_at start xs) ≡ size xs
beginning_size start [] = refl
beginning_size start (x ∷ xs) = refl

begun_size : (start : ℕ) (xs : List Row) → size (begun_at start xs) ≡ size xs
begun_size start [] = refl
begun_size start (x ∷ xs) = refl

module _ (c : LayoutSetting) (w : ℕ) where
  lower : (a b : ℕ) → max a b * c.style.indent + c.style.indent ≤ w → (a * c.style.indent + c.style.indent ≤ w) × (b * c.style.indent + c.style.indent ≤ w)
  lower a b l =
      let one = mul-le-mul_right c.style.indent (le-max_left a b) in
      let two = mul-le-mul_right c.style.indent (le-max_right a b) in
      (omega (arith, one, l), omega (arith, two, l))

  root_size : {a : ℕ} (x : DocumentTree) → Costs c.style a x.root → tall x.root * c.style.indent + c.style.indent ≤ w → size (rows c (root_margins c.style) x.root) ≤ price w a
  root_size x d l = laid_size c w (omega arith) (node_laid c w d (root_margins c.style) (omega (arith, l)) (omega (arith, l)))

  stream_size : (ds : List Doc) (b : Bool) {m : ℕ} {xs : List DocumentTree} → TreesCost c.style m xs → tall_documents xs * c.style.indent + c.style.indent ≤ w → size (stream_rows c b ds xs) ≤ price w (documents_weight ds + m)
  stream_size [] b d l = omega arith
  stream_size (d ∷ ds) b no_tree_costs l = omega arith
  stream_size (d ∷ ds) b (one_tree_costs {a = a} {m = m} {x = x} {xs = xs} e more) l =
      let two = lower (tall x.root) (tall_documents xs) l in
      let root = root_size x e two.0 in
      let others = stream_size ds false more two.1 in
      let head = head_most b d.directives in
      let lines : List Row = end_rows b d.directives ++ (map directive_row d.directives ++ (start_row ∷ [])) in
      let first = price_eight w (suc (directives_weight d.directives)) in
      let sum = price_more w {a = suc (directives_weight d.directives) + (a + (documents_weight ds + m))} {b = documents_weight (d ∷ ds) + (a + m)} (omega arith) in
      omega (
        arith,
        root,
        others,
        head,
        first,
        sum,
        beginning_size d.start lines,
        size_append (beginning_at d.start lines) (rows c (root_margins c.style) x.root),
        size_append (document_rows c b d x) (stream_rows c false ds xs),
        price_add w (suc (directives_weight d.directives)) (a + (documents_weight ds + m)),
        price_add w a (documents_weight ds + m),
      )

  pub all_size : {m : ℕ} {xs : List DocumentTree} (bare : Bool) (ds : List Doc) → TreesCost c.style m xs → tall_documents xs * c.style.indent + c.style.indent ≤ w → size (all_rows c bare ds xs) ≤ price w (documents_weight ds + m)
  all_size false ds d l = stream_size ds true d l
  all_size true [] d l = omega arith
  all_size true (d ∷ ds) no_tree_costs l = omega arith
  all_size true (d ∷ ds) (one_tree_costs {a = a} {m = m} {x = x} {xs = xs} e more) l =
      let two = lower (tall x.root) (tall_documents xs) l in
      let root = root_size x e two.0 in
      let others = stream_size ds false more two.1 in
      let sum = price_more w {a = a + (documents_weight ds + m)} {b = documents_weight (d ∷ ds) + (a + m)} (omega arith) in
      omega (arith, root, others, sum, begun_size d.start (rows c (root_margins c.style) x.root), size_append (bare_rows c d x) (stream_rows c false ds xs), price_add w a (documents_weight ds + m))
