-- In each reading of a formatted text, the quoted scalars are as they are written.
use Rattle.std.proofs.Common.{◌≡◌, ℕ, zero, suc, Bool, true, false, true≢false, List, [], ◌∷◌, ◌++◌, map, flat_map, Option, Some, None, refl, sym, ap, ◌∙◌, subst}
use Rattle.std.specs.Prelude.{slice_get, slice_range}
use Rattle.std.specs.Str.{IsUtf8}
use Rattle.std.proofs.lemmas.Option.{same_Some}
use Rattle.yf_chars.proofs.Tests.{no_item}
use Rattle.yf_props.specs.Props.{PropsValue}
use Rattle.yf_events.specs.Event.{EventValue, EventInText, scalar_node, document_starts, document_ends}
use Rattle.yf_events.specs.Tree.{DocumentTree, Items, Node, Pairs, flat, flat_document, flat_items, flat_pairs, unplaced}
use Rattle.yf_events.specs.declared.document.Doc.{Doc}
use Rattle.yf_events.specs.declared.event.ScalarStyle.{ScalarStyle}
use Rattle.yf_events.specs.declared.event.ScalarStyle.TheVariants.{Plain, Single, Double, Literal, Folded}
use Rattle.yf_events.specs.declared.event.Span.{Span}
use Rattle.yf_events.specs.declared.lists.Lists.{Lists}
use Rattle.yf_stream.specs.ReadingOf.{ReadingOf}
use Rattle.yf_forms.specs.NormalForms.Normal.{LayoutSetting, Margins}
use Rattle.yf_forms.specs.Nodes.ContentStart.{content_start}
use Rattle.yf_forms.specs.Nodes.OneLine.{scalar_text}
use Rattle.yf_forms.specs.declared.style.Style.{Style}
use Rattle.yf_rule_sets.specs.RuleSets.HiddenCharacters.{is_quoted}
use Rattle.yf_rule_sets.specs.RuleSets.Scalars.{IsScalar}
use Rattle.yf_laws.specs.Format.{IsFormatting}
use Rattle.yf_laws.specs.Layouts.ReadableTrees.{is_block_style}
use Rattle.yf_laws.specs.Layouts.WrittenQuotes.{IsQuoteWritten, QuotesWritten, no_quotes, one_quote}
use Rattle.yf_laws.proofs.RowNodes.BareNodes.{bare_tree, bared, bared_append, flat_bare}
use Rattle.yf_laws.proofs.RowNodes.FoundNodes.{ItemsRows, KeyOn, key_on, NodeRows, PairRows, PairsRows, explicit_rows, implicit_rows, item_rows, line_rows, mapping_after, mapping_rows, no_item_rows, no_pair_rows, no_rows, pair_rows, scalar_rows, sequence_after, sequence_rows}
use Rattle.yf_laws.proofs.RowNodes.FoundTexts.{AllRoots, FoundRoots, bare_root, marked_roots, no_roots, one_root}
use Rattle.yf_laws.proofs.RowNodes.PlacedRows.{PlacedRow}
use Rattle.yf_laws.proofs.RowNodes.QuotesKept.{quotes_bared, quotes_noted}
use Rattle.yf_laws.proofs.SecondRun.FixedLawsHold.{roots_read}
use Rattle.yf_laws.proofs.Writable.WrittenQuotes.{quotes_both}

-- Nodes on their rows.

unquoted : (house : Style) (t : List ℕ) (props : PropsValue) (style : ScalarStyle) (text : List ℕ) (span : Option Span) → is_quoted style ≡ false → IsQuoteWritten house t (scalar_node props style text) span
unquoted house t props style text None e = tt
unquoted house t props style text (Some span) e = λ f. absurd (true≢false (sym f ∙ e))

block_unquoted : (style : ScalarStyle) → is_block_style style ≡ true → is_quoted style ≡ false
block_unquoted Plain e = refl
block_unquoted Single e = absurd (true≢false (sym e))
block_unquoted Double e = absurd (true≢false (sym e))
block_unquoted Literal e = refl
block_unquoted Folded e = refl

key_quotes : {house : Style} {t : List ℕ} {m : ℕ} {k : Node} {hs : List PlacedRow} → KeyOn house t m k hs → QuotesWritten house t (flat k)
key_quotes (key_on st j k e column text some) = text.quoted

mutual
  rows_quotes : {t : List ℕ} {c : LayoutSetting} {margins : Margins} {x y : Node} {ps : List PlacedRow} → NodeRows t c margins x y ps → QuotesWritten c.style t (flat y)
  rows_quotes {t} {c} (no_rows {at = at} e) = one_quote _ (unquoted c.style t _ Plain [] at.span refl) no_quotes
  rows_quotes (line_rows f n g h i st j k e w) = w.quoted
  rows_quotes {t} {c} (scalar_rows {at = at} {props = props} {style = style} {text = text} f n g h i) = one_quote _ (unquoted c.style t props style text at.span (block_unquoted style f)) no_quotes
  rows_quotes (sequence_rows b f r) = one_quote _ tt (quotes_both (items_quotes r) (one_quote _ tt no_quotes))
  rows_quotes (sequence_after b f g h i r) = one_quote _ tt (quotes_both (items_quotes r) (one_quote _ tt no_quotes))
  rows_quotes (mapping_rows b f r) = one_quote _ tt (quotes_both (pairs_quotes r) (one_quote _ tt no_quotes))
  rows_quotes (mapping_after b f g h i r) = one_quote _ tt (quotes_both (pairs_quotes r) (one_quote _ tt no_quotes))

  items_quotes : {t : List ℕ} {c : LayoutSetting} {m : ℕ} {xs ys : Items} {ps : List PlacedRow} → ItemsRows t c m xs ys ps → QuotesWritten c.style t (flat_items ys)
  items_quotes no_item_rows = no_quotes
  items_quotes (item_rows r s more) = quotes_both (rows_quotes r) (items_quotes more)

  pair_quotes : {t : List ℕ} {c : LayoutSetting} {m : ℕ} {k v l w : Node} {ps : List PlacedRow} {es : List EventInText} → PairRows t c m k v l w ps → QuotesWritten c.style t es
      → QuotesWritten c.style t (flat l ++ (flat w ++ es))
  pair_quotes (explicit_rows n r s d f) a = quotes_both (rows_quotes r) (quotes_both (rows_quotes d) a)
  pair_quotes (implicit_rows flag q n on r f) a = quotes_both (key_quotes on) (quotes_both (rows_quotes r) a)

  pairs_quotes : {t : List ℕ} {c : LayoutSetting} {m : ℕ} {xs ys : Pairs} {ps : List PlacedRow} → PairsRows t c m xs ys ps → QuotesWritten c.style t (flat_pairs ys)
  pairs_quotes no_pair_rows = no_quotes
  pairs_quotes (pair_rows r more) = pair_quotes r (pairs_quotes more)

-- Documents.

document_quotes : {house : Style} {t : List ℕ} (d : DocumentTree) → QuotesWritten house t (flat d.root) → QuotesWritten house t (flat_document d)
document_quotes d a = one_quote _ tt (quotes_both a (one_quote _ tt no_quotes))

roots_quotes : {t : List ℕ} {c : LayoutSetting} {is_first : Bool} {ds : List Doc} {xs zs : List DocumentTree} {ps : List PlacedRow} → FoundRoots t c is_first ds xs zs ps → QuotesWritten c.style t (flat_map flat_document zs)
roots_quotes no_roots = no_quotes
roots_quotes (one_root {z = z} heads h a r more) = quotes_both (document_quotes z (rows_quotes r)) (roots_quotes more)

all_roots_quotes : {t : List ℕ} {c : LayoutSetting} {b : Bool} {ds : List Doc} {xs zs : List DocumentTree} {ps : List PlacedRow} → AllRoots t c b ds xs zs ps → QuotesWritten c.style t (flat_map flat_document zs)
all_roots_quotes (marked_roots r) = roots_quotes r
all_roots_quotes (bare_root {z = z} a r more) = quotes_both (document_quotes z (rows_quotes r)) (roots_quotes more)

-- without notes on blank lines
bare_document : (d : DocumentTree) → flat_document (bare_tree d) ≡ bared (flat_document d)
bare_document d =
    ap (λ z. unplaced (document_starts d.marked) ∷ (z ++ (unplaced (document_ends d.closed) ∷ []))) (flat_bare d.root)
    ∙ ap (λ z. unplaced (document_starts d.marked) ∷ z) (sym (bared_append (flat d.root) (unplaced (document_ends d.closed) ∷ [])))

bare_documents : (ds : List DocumentTree) → flat_map flat_document (map bare_tree ds) ≡ bared (flat_map flat_document ds)
bare_documents [] = refl
bare_documents (d ∷ ds) =
    ap (λ z. z ++ flat_map flat_document (map bare_tree ds)) (bare_document d)
    ∙ (ap (λ z. bared (flat_document d) ++ z) (bare_documents ds) ∙ sym (bared_append (flat_document d) (flat_map flat_document ds)))

pub formats_quotes : (t u : List ℕ) (s : Style) (q : Lists) → IsUtf8 t → IsFormatting t s u → ReadingOf u q → QuotesWritten s u q.events
formats_quotes t u s q utf8 f a =
    let read = roots_read t u s utf8 f q a in
    let found : QuotesWritten s u (bared (flat_map flat_document read.found)) = quotes_bared (flat_map flat_document read.found) (all_roots_quotes read.roots) in
    let same : bared (flat_map flat_document read.found) ≡ bared (flat_map flat_document a.trees) =
    sym (bare_documents read.found) ∙ (ap (λ ds. flat_map flat_document ds) read.same ∙ bare_documents a.trees) in
    let there = quotes_noted (flat_map flat_document a.trees) (subst (λ es. QuotesWritten s u es) same found) in
    subst (λ es. QuotesWritten s u es) (sym a.of_reading.events) (one_quote _ tt (quotes_both there (one_quote _ tt no_quotes)))

-- Each of them.

quote_at : {house : Style} {t : List ℕ} (es : List EventInText) (i : ℕ) (v : EventValue) (o : Option Span) → QuotesWritten house t es → slice_get (map (λ (e : EventInText). e.event) es) i ≡ Some v
    → slice_get (map (λ (e : EventInText). e.span) es) i ≡ Some o → IsQuoteWritten house t v o
quote_at [] i v o a e f = absurd (no_item i v e)
quote_at {house} {t} (x ∷ es) zero v o (one_quote y a more) e f = subst (λ w. IsQuoteWritten house t w o) (same_Some _ _ e) (subst (λ w. IsQuoteWritten house t x.event w) (same_Some _ _ f) a)
quote_at (x ∷ es) (suc i) v o (one_quote y a more) e f = quote_at es i v o more e f

pub quote_written : (t u : List ℕ) (s : Style) (q : Lists) → IsUtf8 t → IsFormatting t s u → ReadingOf u q → (i : ℕ) (props : PropsValue) (style : ScalarStyle) (text : List ℕ) (span : Span)
    → IsScalar q i props style text span → is_quoted style ≡ true → IsUtf8 text × (slice_range u (content_start u span props) span.end ≡ scalar_text s style text)
quote_written t u s q utf8 f a i props style text span w e = quote_at q.events i (scalar_node props style text) (Some span) (formats_quotes t u s q utf8 f a) w.event w.part e
