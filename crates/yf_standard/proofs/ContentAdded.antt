-- What each production of breaks, folds and flow scalars adds to content: a clause for each production, and so for all
-- their derivations.
use Rattle.std.proofs.Common.{◌≡◌, ℕ, ◌≤◌, ℤ, pos, true, false, List, [], ◌∷◌, refl}
use Rattle.yf_chars.specs.declared.context.Ctx.{Ctx}
use Rattle.yf_chars.specs.declared.context.Ctx.TheVariants.{BlockOut, BlockIn, FlowOut, FlowIn, BlockKey, FlowKey}
use Rattle.yf_chars.specs.Chain.{Chain}
use Rattle.yf_chars.specs.Escape.{NoLow}
use Rattle.yf_lines.specs.Basic.{Break, Indent, IndentLess, SeparateInLine, FlowPrefix, LinePrefix, Empty, FoldedBreak, FlowFolded, Clear, is_flow}
use Rattle.yf_lines.specs.Basic.LinePrefix.{in_block, in_flow}
use Rattle.yf_plain.specs.Plain.{PlainItem, PlainLine, PlainNext, PlainText, is_plain_first, is_plain_char}
use Rattle.yf_plain.specs.Plain.PlainText.{as_key}
use Rattle.yf_quoted.specs.Quoted.{SingleChar, SingleQuoted, DoubleQuoted}
use Rattle.yf_standard.specs.Characters.{c-escape, c-double-quote, c-single-quote}
use Rattle.yf_standard.specs.Notation.{Form}
use Rattle.yf_standard.specs.Notation.Form.{b-break, b-as-line-feed, b-non-content, c-ns-esc-char, s-indent, s-indent-less-than, s-separate-in-line, s-line-prefix, s-block-line-prefix, s-flow-line-prefix, l-empty, b-l-trimmed, b-as-space, b-l-folded, s-flow-folded}
use Rattle.yf_standard.specs.Notation.Form.{nb-double-char, ns-double-char, c-double-quoted, nb-double-text, nb-double-one-line, s-double-escaped, s-double-break, nb-ns-double-in-line, s-double-next-line, nb-double-multi-line, c-quoted-quote, nb-single-char, ns-single-char, c-single-quoted, nb-single-text, nb-single-one-line, nb-ns-single-in-line, s-single-next-line, nb-single-multi-line, ns-plain-first, ns-plain-char, ns-plain, nb-ns-plain-in-line, ns-plain-one-line, s-ns-plain-next-line, ns-plain-multi-line}
use Rattle.yf_standard.specs.Notation.Form.{c-flow-sequence, c-flow-mapping, ns-flow-pair, l+block-sequence, ns-l-compact-sequence, l+block-mapping, ns-l-compact-mapping}
use Rattle.yf_standard.specs.Productions.{rule}
use Rattle.yf_standard.specs.Rules.{read}
use Rattle.yf_standard.specs.Literal.{Derived, kind}
use Rattle.yf_standard.specs.Literal.Kind.{PRODUCTION, COLLECTION}
use Rattle.yf_standard.specs.Literal.Derived.{by_rule}
use Rattle.yf_standard.specs.Contents.{Mark, one_char, making_content, content_made, pieces}
use Rattle.yf_standard.specs.Contents.Mark.{char}
use Rattle.yf_standard.proofs.Reading.{FormRead, known}
use Rattle.yf_standard.proofs.Standing.{StandsFor}
use Rattle.yf_standard.proofs.Zones.{Zone}
use Rattle.yf_standard.proofs.Closed.{closed, not_opening, is_collection}
use Rattle.yf_standard.proofs.Meant.{FormMeans, Meanings}
use Rattle.yf_standard.proofs.BasicsMeant.{Puts, Quiet, Spells, CharAt, same_spells, chain_spells, flow_prefix_quiet, empty_spells, trimmed_spells, folded_spells, flow_folded_spells}
use Rattle.yf_standard.proofs.BasicsMeant.Puts.{puts}
use Rattle.yf_standard.proofs.BasicsMeant.Spells.{spelled}
use Rattle.yf_standard.proofs.Basics.{Trimmed}
use Rattle.yf_standard.proofs.PlainsMeant.{first_adds, char_adds, item_spells, line_spells, next_spells, multi_spells}
use Rattle.yf_standard.proofs.SinglesMeant.{TwoQuotes, NsSingle, SingleBetween, single_spells, single_item_spells, single_next_spells, single_multi_spells, single_key_spells}
use Rattle.yf_standard.proofs.QuotedRead.{SingleItem, SingleRest, SingleInside, DoubleInside}
use Rattle.yf_standard.proofs.DoublesMeant.{Marked, escape_marked, double_char_marked, backslash_first}
use Rattle.yf_standard.proofs.DoubleLinesMeant.{MarkedItems, NsMarked, GoodBreak, NextMeans, DoubleBetween, items_marked, escaped_spells, break_spells, double_next_means, double_multi_means, double_key_means}
use Rattle.yf_standard.specs.Notation.{Chomping}
use Rattle.yf_standard.specs.Notation.Chomping.{STRIP, CLIP, KEEP}
use Rattle.yf_standard.specs.Notation.Form.{s-indent-less-or-equal, c-b-block-header, b-chomped-last, l-trail-comments, l-strip-empty, l-keep-empty, l-chomped-empty, l-nb-literal-text, b-nb-literal-next, l-literal-content, s-nb-folded-text, l-nb-folded-lines, s-nb-spaced-text, b-l-spaced, l-nb-spaced-lines, l-nb-same-lines, l-nb-diff-lines, l-folded-content}
use Rattle.yf_standard.proofs.Monotone.{forward}
use Rattle.yf_standard.proofs.ScalarsRead.{UpTo}
use Rattle.yf_standard.proofs.LiteralMeant.{LiteralText, NextLiteral, literal_text_means, next_literal_means}
use Rattle.yf_standard.proofs.ScalarContents.{LastMeans, TailMeans, Silent, tail_marks, strip_last, clip_last, keep_last, strip_tail, keep_tail}
use Rattle.yf_standard.proofs.FoldedMeant.{RowAt, Group, SpacedBreak, Groups, folded_row, spaced_row, folded_means, spaced_break_means, spaced_means, same_means, diff_means}
use Rattle.yf_standard.proofs.BlockWhole.{BlockRead, literal_content_means, folded_content_means}
use Rattle.yf_standard.proofs.QuotesMeant.{single_quoted_spells, double_quoted_pieces}

-- what the productions add
unfoldable pub Adds : (t : List ℕ) → ℕ → Form → ℕ → ℕ → List Mark → Type 0
Adds t e b-break i j x = Break t i j
Adds t e b-as-line-feed i j x = Puts (char 10 ∷ []) (Break t) i j x
Adds t e b-non-content i j x = Quiet (Break t) i j x
Adds t e b-as-space i j x = Puts (char 32 ∷ []) (Break t) i j x
Adds t e (s-indent n) i j x = Quiet (Indent t n) i j x
Adds t e (s-indent-less-than n) i j x = Quiet (IndentLess t n) i j x
Adds t e s-separate-in-line i j x = Quiet (SeparateInLine t) i j x
Adds t e (s-line-prefix n c) i j x = Quiet (LinePrefix t n c) i j x
Adds t e (s-block-line-prefix n) i j x = Quiet (Indent t n) i j x
Adds t e (s-flow-line-prefix n) i j x = Quiet (FlowPrefix t n) i j x
Adds t e (l-empty n c) i j x = Spells (Empty t n c) i j x
Adds t e (b-l-trimmed n c) i j x = Spells (Trimmed t n c) i j x
Adds t e (b-l-folded n c) i j x = Spells (FoldedBreak t n c) i j x
Adds t e (s-flow-folded n) i j x = Spells (FlowFolded t n) i j x
Adds t e (ns-plain-first c) i j x = CharAt t (λ i. is_plain_first t c i ≡ true) i j x
Adds t e (ns-plain-char c) i j x = CharAt t (λ i. is_plain_char t c i ≡ true) i j x
Adds t e (nb-ns-plain-in-line c) i j x = Spells (Chain (PlainItem t c)) i j x
Adds t e (ns-plain-one-line c) i j x = Spells (PlainLine t c) i j x
Adds t e (s-ns-plain-next-line n c) i j x = Spells (PlainNext t n c) i j x
Adds t e (ns-plain-multi-line n c) i j x = is_flow c ≡ true → Spells (PlainText t n c) i j x
Adds t e (ns-plain n c) i j x = Spells (PlainText t n c) i j x
Adds t e c-quoted-quote i j x = Puts (char 39 ∷ []) (TwoQuotes t) i j x
Adds t e nb-single-char i j x = Spells (SingleChar t) i j x
Adds t e ns-single-char i j x = NsSingle t i j x
Adds t e nb-single-one-line i j x = Spells (Chain (SingleChar t)) i j x
Adds t e nb-ns-single-in-line i j x = Spells (Chain (SingleItem t)) i j x
Adds t e (s-single-next-line n) i j x = Spells (SingleRest t n) i j x
Adds t e (nb-single-multi-line n) i j x = SingleBetween t n i j x
Adds t e (nb-single-text n c) i j x = Spells (SingleInside t n c) i j x
Adds t e (c-single-quoted n c) i j x = Clear t i j → Spells (SingleQuoted t n c) i j x
Adds t e c-ns-esc-char i j x = Marked t i j x
Adds t e nb-double-char i j x = Marked t i j x
Adds t e ns-double-char i j x = NsMarked t i j x
Adds t e nb-double-one-line i j x = Chain (Marked t) i j x
Adds t e nb-ns-double-in-line i j x = MarkedItems t i j x
Adds t e (s-double-escaped n) i j x = Spells (GoodBreak t n) i j x
Adds t e (s-double-break n) i j x = Spells (GoodBreak t n) i j x
Adds t e (s-double-next-line n) i j x = NextMeans t n i j x
Adds t e (nb-double-multi-line n) i j x = DoubleBetween t n i j x
Adds t e (nb-double-text n c) i j x = NoLow t j → DoubleInside t n c i j (pieces x)
Adds t e (c-double-quoted n c) i j x = Clear t i j → DoubleQuoted t n c i j (pieces x)
Adds t e (s-indent-less-or-equal n) i j x = Quiet (UpTo t n) i j x
Adds t e (c-b-block-header n c) i j x = x ≡ []
Adds t e (b-chomped-last c) i j x = LastMeans t c i j x
Adds t e (l-trail-comments n) i j x = Silent i j x
Adds t e (l-strip-empty n) i j x = (c : Chomping) → ((m : ℕ) → [] ≡ tail_marks c m) → (k : ℕ) → n ≡ pos k → TailMeans t c k i j x
Adds t e (l-keep-empty n) i j x = (k : ℕ) → n ≡ pos k → TailMeans t KEEP k i j x
Adds t e (l-chomped-empty n c) i j x = (k : ℕ) → n ≡ pos k → TailMeans t c k i j x
Adds t e (l-nb-literal-text n) i j x = (k : ℕ) → n ≡ pos k → LiteralText t k i j x
Adds t e (b-nb-literal-next n) i j x = (k : ℕ) → n ≡ pos k → NextLiteral t k i j x
Adds t e (l-literal-content n c) i j x = (k : ℕ) → n ≡ pos k → BlockRead t (LiteralText t k) c k i j x
Adds t e (s-nb-folded-text n) i j x = (k : ℕ) → n ≡ pos k → RowAt t k false i j x
Adds t e (s-nb-spaced-text n) i j x = (k : ℕ) → n ≡ pos k → RowAt t k true i j x
Adds t e (l-nb-folded-lines n) i j x = (k : ℕ) → n ≡ pos k → Group t k i j x
Adds t e (b-l-spaced n) i j x = (k : ℕ) → n ≡ pos k → SpacedBreak t k i j x
Adds t e (l-nb-spaced-lines n) i j x = (k : ℕ) → n ≡ pos k → Group t k i j x
Adds t e (l-nb-same-lines n) i j x = (k : ℕ) → n ≡ pos k → Groups t k i j x
Adds t e (l-nb-diff-lines n) i j x = (k : ℕ) → n ≡ pos k → Groups t k i j x
Adds t e (l-folded-content n c) i j x = (k : ℕ) → n ≡ pos k → BlockRead t (Groups t k) c k i j x
Adds t e f i j x = Unit {0}

prefix_of_block : {t : List ℕ} {n : ℤ} {c : Ctx} {i j : ℕ} {x : List Mark} → (Indent t n i j → LinePrefix t n c i j) → Quiet (Indent t n) i j x → Quiet (LinePrefix t n c) i j x
prefix_of_block f (puts d) = puts (f d)

prefix_of_flow : {t : List ℕ} {n : ℤ} {c : Ctx} {i j : ℕ} {x : List Mark} → (FlowPrefix t n i j → LinePrefix t n c i j) → Quiet (FlowPrefix t n) i j x → Quiet (LinePrefix t n c) i j x
prefix_of_flow f (puts d) = puts (f d)

key_text : {t : List ℕ} {n : ℤ} {c : Ctx} {i j : ℕ} {x : List Mark} → ((u : List ℕ) → PlainLine t c i j u → PlainText t n c i j u) → Spells (PlainLine t c) i j x → Spells (PlainText t n c) i j x
key_text f (spelled {x = u} d) = spelled (f u d)

module _ (t : List ℕ) (z : Zone t false) where
  old : {e : ℕ} (f : Form) {i j : ℕ} → z.low ≤ i → j ≤ z.high → kind f ≡ PRODUCTION → Derived (read t) t e (rule f) i j → FormRead t (read t) (StandsFor t z.low false) e f i j
  old f l h q d = known (closed t false z) l h (by_rule q d)

  adds_by : (e : ℕ) (f : Form) (i j : ℕ) (x : List Mark) → kind f ≡ PRODUCTION → z.low ≤ i → j ≤ z.high → Derived (read t) t e (rule f) i j
      → FormMeans t (read t) one_char (Adds t) e (rule f) i j x → Adds t e f i j (content_made t f i j x)
  unfolding Adds StandsFor rule kind read content_made c-escape c-double-quote c-single-quote
  adds_by e b-break i j x q l h d m = old b-break l h q d
  adds_by e b-as-line-feed i j x q l h d m = puts m
  adds_by e b-non-content i j x q l h d m = puts m
  adds_by e b-as-space i j x q l h d m = puts m
  adds_by e (s-indent n) i j x q l h d m = puts (old (s-indent n) l h q d)
  adds_by e (s-indent-less-than n) i j x q l h d m = puts (old (s-indent-less-than n) l h q d)
  adds_by e s-separate-in-line i j x q l h d m = puts (old s-separate-in-line l h q d)
  adds_by e (s-line-prefix n BlockOut) i j x q l h d m = prefix_of_block (in_block refl) m
  adds_by e (s-line-prefix n BlockIn) i j x q l h d m = prefix_of_block (in_block refl) m
  adds_by e (s-line-prefix n FlowOut) i j x q l h d m = prefix_of_flow (in_flow refl) m
  adds_by e (s-line-prefix n FlowIn) i j x q l h d m = prefix_of_flow (in_flow refl) m
  adds_by e (s-line-prefix n BlockKey) i j x q l h d m = absurd m
  adds_by e (s-line-prefix n FlowKey) i j x q l h d m = absurd m
  adds_by e (s-block-line-prefix n) i j x q l h d m = m
  adds_by e (s-flow-line-prefix n) i j x q l h d m = flow_prefix_quiet m
  adds_by e (l-empty n c) i j x q l h d m = empty_spells m
  adds_by e (b-l-trimmed n c) i j x q l h d m = trimmed_spells m
  adds_by e (b-l-folded n c) i j x q l h d m = folded_spells m
  adds_by e (s-flow-folded n) i j x q l h d m = flow_folded_spells m
  adds_by e (ns-plain-first c) i j x q l h d m = first_adds (old (ns-plain-first c) l h q d) m
  adds_by e (ns-plain-char c) i j x q l h d m = char_adds (old (ns-plain-char c) l h q d) m
  adds_by e (nb-ns-plain-in-line c) i j x q l h d m = chain_spells {S = PlainItem t c} (item_spells t c) m
  adds_by e (ns-plain-one-line c) i j x q l h d m = line_spells m
  adds_by e (s-ns-plain-next-line n c) i j x q l h d m = next_spells m
  adds_by e (ns-plain-multi-line n c) i j x q l h d m = λ f. multi_spells f m
  adds_by e (ns-plain n BlockOut) i j x q l h d m = absurd m
  adds_by e (ns-plain n BlockIn) i j x q l h d m = absurd m
  adds_by e (ns-plain n FlowOut) i j x q l h d m = m refl
  adds_by e (ns-plain n FlowIn) i j x q l h d m = m refl
  adds_by e (ns-plain n BlockKey) i j x q l h d m = key_text (λ u d. as_key refl d) m
  adds_by e (ns-plain n FlowKey) i j x q l h d m = key_text (λ u d. as_key refl d) m
  adds_by e c-quoted-quote i j x q l h d m = puts (old c-quoted-quote l h q d)
  adds_by e nb-single-char i j x q l h d m = single_spells m
  adds_by e ns-single-char i j x q l h d m = m
  adds_by e nb-single-one-line i j x q l h d m = same_spells m
  adds_by e nb-ns-single-in-line i j x q l h d m = chain_spells {S = SingleItem t} (single_item_spells t) m
  adds_by e (s-single-next-line n) i j x q l h d m = single_next_spells m
  adds_by e (nb-single-multi-line n) i j x q l h d m = single_multi_spells m
  adds_by e (nb-single-text n FlowOut) i j x q l h d m = m FlowOut refl
  adds_by e (nb-single-text n FlowIn) i j x q l h d m = m FlowIn refl
  adds_by e (nb-single-text n BlockKey) i j x q l h d m = single_key_spells refl m
  adds_by e (nb-single-text n FlowKey) i j x q l h d m = single_key_spells refl m
  adds_by e (nb-single-text n BlockOut) i j x q l h d m = absurd m
  adds_by e (nb-single-text n BlockIn) i j x q l h d m = absurd m
  adds_by e (c-single-quoted n c) i j x q l h d m = λ w. single_quoted_spells w m
  adds_by e c-ns-esc-char i j x q l h d m = escape_marked (backslash_first m) (old c-ns-esc-char l h q d)
  adds_by e nb-double-char i j x q l h d m = double_char_marked m
  adds_by e ns-double-char i j x q l h d m = m
  adds_by e nb-double-one-line i j x q l h d m = m
  adds_by e nb-ns-double-in-line i j x q l h d m = items_marked m
  adds_by e (s-double-escaped n) i j x q l h d m = escaped_spells m
  adds_by e (s-double-break n) i j x q l h d m = break_spells m
  adds_by e (s-double-next-line n) i j x q l h d m = double_next_means m
  adds_by e (nb-double-multi-line n) i j x q l h d m = double_multi_means m
  adds_by e (nb-double-text n FlowOut) i j x q l h d m = m FlowOut refl
  adds_by e (nb-double-text n FlowIn) i j x q l h d m = m FlowIn refl
  adds_by e (nb-double-text n BlockKey) i j x q l h d m = double_key_means refl m
  adds_by e (nb-double-text n FlowKey) i j x q l h d m = double_key_means refl m
  adds_by e (nb-double-text n BlockOut) i j x q l h d m = absurd m
  adds_by e (nb-double-text n BlockIn) i j x q l h d m = absurd m
  adds_by e (c-double-quoted n c) i j x q l h d m = λ w. double_quoted_pieces w m
  adds_by e (s-indent-less-or-equal n) i j x q l h d m = puts (old (s-indent-less-or-equal n) l h q d)
  adds_by e (c-b-block-header n c) i j x q l h d m = refl
  adds_by e (b-chomped-last STRIP) i j x q l h d m = strip_last m
  adds_by e (b-chomped-last CLIP) i j x q l h d m = clip_last m
  adds_by e (b-chomped-last KEEP) i j x q l h d m = keep_last m
  adds_by e (l-trail-comments n) i j x q l h d m = (forward d, refl)
  adds_by e (l-strip-empty n) i j x q l h d m = λ c f k s. strip_tail c f m k s
  adds_by e (l-keep-empty n) i j x q l h d m = λ k s. keep_tail m k s
  adds_by e (l-chomped-empty n STRIP) i j x q l h d m = m STRIP (λ m. refl)
  adds_by e (l-chomped-empty n CLIP) i j x q l h d m = m CLIP (λ m. refl)
  adds_by e (l-chomped-empty n KEEP) i j x q l h d m = m
  adds_by e (l-nb-literal-text n) i j x q l h d m = λ k s. literal_text_means z.utf m k s
  adds_by e (b-nb-literal-next n) i j x q l h d m = λ k s. next_literal_means m k s
  adds_by e (l-literal-content n c) i j x q l h d m = λ k s. literal_content_means m k s
  adds_by e (s-nb-folded-text n) i j x q l h d m = λ k s. folded_row m k s
  adds_by e (s-nb-spaced-text n) i j x q l h d m = λ k s. spaced_row m k s
  adds_by e (l-nb-folded-lines n) i j x q l h d m = λ k s. folded_means m k s
  adds_by e (b-l-spaced n) i j x q l h d m = λ k s. spaced_break_means m k s
  adds_by e (l-nb-spaced-lines n) i j x q l h d m = λ k s. spaced_means m k s
  adds_by e (l-nb-same-lines n) i j x q l h d m = λ k s. same_means m k s
  adds_by e (l-nb-diff-lines n) i j x q l h d m = λ k s. diff_means m k s
  adds_by e (l-folded-content n c) i j x q l h d m = λ k s. folded_content_means m k s
  adds_by e f i j x q l h d m = tt

  -- no collection adds to this content
  adds_open : (r e : ℕ) (f : Form) (i j : ℕ) (x : List Mark) → kind f ≡ COLLECTION → Adds t e f i j (content_made t f i j x)
  unfolding Adds kind content_made is_collection
  adds_open r e (c-flow-sequence n c) i j x q = tt
  adds_open r e (c-flow-mapping n c) i j x q = tt
  adds_open r e (ns-flow-pair n c) i j x q = tt
  adds_open r e (l+block-sequence n) i j x q = tt
  adds_open r e (ns-l-compact-sequence n) i j x q = tt
  adds_open r e (l+block-mapping n) i j x q = tt
  adds_open r e (ns-l-compact-mapping n) i j x q = tt
  adds_open r e f i j x q = not_opening refl q

  pub contents : Meanings t (read t) z.low z.high one_char (making_content (read t) t) (Adds t)
  contents = record {
    by = λ e f i j x q l h d s m. adds_by e f i j x q l h d m;
    by_open = λ r e f i j x q s l h d m. adds_open r e f i j x q;
  }
