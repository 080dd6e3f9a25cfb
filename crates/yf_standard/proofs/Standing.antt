-- The relation for each production of the standard: a relation of the crates below, or one that the lemmas on it use.
use Rattle.std.proofs.Common.{◌≡◌, ◌≢◌, ℕ, ◌<◌, ◌≤◌, pos, ◌+ℤ◌, Bool, true, false, List, length, ◌⊎◌}
use Rattle.std.specs.Prelude.{⊤}
use Rattle.yf_chars.specs.declared.context.Ctx.{Ctx}
use Rattle.yf_chars.specs.declared.context.Ctx.TheVariants.{BlockOut, BlockIn, BlockKey}
use Rattle.yf_chars.specs.Text.{code, next}
use Rattle.yf_lines.specs.Basic.{Break, Indent, IndentLess, SeparateInLine, FlowPrefix, LinePrefix, Empty, FoldedBreak, FlowFolded}
use Rattle.yf_comments.specs.Comments.{CommentText, BreakOrEnd, LineRest, CommentLine, LineEnd, SeparateLines, Separate}
use Rattle.yf_standard.specs.Notation.{Form}
use Rattle.yf_standard.specs.Notation.Form.{b-break, b-as-line-feed, b-non-content, s-indent, s-indent-less-than, s-separate-in-line, s-line-prefix, s-block-line-prefix, s-flow-line-prefix, l-empty, b-l-trimmed, b-as-space, b-l-folded, s-flow-folded, c-nb-comment-text, b-comment, s-b-comment, l-comment, s-l-comments, s-separate, s-separate-lines, ns-plain, ns-plain-first, ns-plain-char, nb-ns-plain-in-line, ns-plain-one-line, s-ns-plain-next-line, ns-plain-multi-line}
use Rattle.yf_standard.specs.Notation.Form.{c-ns-alias-node, c-ns-properties, e-scalar, e-node, c-single-quoted, c-double-quoted, in-flow, c-flow-sequence, ns-s-flow-seq-entries, ns-flow-seq-entry, c-flow-mapping, ns-s-flow-map-entries, ns-flow-map-entry, ns-flow-map-explicit-entry, ns-flow-map-implicit-entry, ns-flow-map-yaml-key-entry, c-ns-flow-map-empty-key-entry, c-ns-flow-map-separate-value, c-ns-flow-map-json-key-entry, c-ns-flow-map-adjacent-value, ns-flow-pair, ns-flow-pair-entry, ns-flow-pair-yaml-key-entry, c-ns-flow-pair-json-key-entry, ns-s-implicit-yaml-key, c-s-implicit-json-key, ns-flow-yaml-content, c-flow-json-content, ns-flow-content, ns-flow-yaml-node, c-flow-json-node, ns-flow-node}
use Rattle.yf_standard.specs.Notation.Form.{c-l+literal, c-l+folded, l+block-sequence, c-l-block-seq-entry, s-l+block-indented, ns-l-compact-sequence, l+block-mapping, ns-l-block-map-entry, c-l-block-map-explicit-entry, c-l-block-map-explicit-key, l-block-map-explicit-value, ns-l-block-map-implicit-entry, ns-s-block-map-implicit-key, c-l-block-map-implicit-value, ns-l-compact-mapping, s-l+block-node, s-l+flow-in-block, s-l+block-in-block, s-l+block-scalar, s-l+block-collection, seq-space}
use Rattle.yf_chars.specs.Chain.{Chain}
use Rattle.yf_lines.specs.Basic.{is_flow}
use Rattle.yf_plain.specs.Plain.{is_plain_first, is_plain_char, PlainItem, PlainLine, PlainNext, PlainText}
use Rattle.yf_lines.specs.Basic.{is_block}
use Rattle.yf_props.specs.Names.{Alias, Properties, AnchorChar, UriChar, TagChar, Run, Anchor, Handle, VerbatimTag, TagProperty}
use Rattle.yf_chars.specs.Chain.{Stuck}
use Rattle.yf_standard.specs.Characters.{ns-word-char}
use Rattle.yf_standard.specs.Notation.Form.{ns-uri-char, ns-tag-char, c-tag-handle, c-primary-tag-handle, c-secondary-tag-handle, c-named-tag-handle, c-ns-tag-property, c-verbatim-tag, c-ns-shorthand-tag, c-non-specific-tag, c-ns-anchor-property, ns-anchor-name}
use Rattle.yf_standard.proofs.Reading.{Star}
use Rattle.yf_standard.proofs.Flows.{SignOf}
use Rattle.yf_standard.proofs.Basics.{CharOf}
use Rattle.yf_quoted.specs.Quoted.{SingleQuoted, DoubleQuoted}
use Rattle.yf_grammar.specs.Productions.Grammar.{in_flow as flow_within}
use Rattle.yf_grammar.specs.Productions.Grammar.Production.{FlowNode, NodeOf, JsonContent, Entries, Entry, Pair, Explicit, Implicit, ValueOf, KeyOf}
use Rattle.yf_grammar.specs.Productions.BlockScalar.{BlockScalar}
use Rattle.yf_grammar.specs.Productions.Grammar.{least_column}
use Rattle.yf_grammar.specs.Productions.Grammar.Production.{BlockNode, BlockIndented, BlockValue}
use Rattle.yf_standard.proofs.Blocks.{ColumnFrom, EntryAt, EntriesAt, Question, Colon}
use Rattle.yf_standard.proofs.Flows.{SomeNode, ContentOf}
use Rattle.yf_standard.proofs.Basics.{SomeOf, Trimmed}
use Rattle.yf_chars.specs.Class.{is_ns_char}
use Rattle.yf_chars.specs.Escape.{NoLow}
use Rattle.yf_lines.specs.Basic.{ForbiddenLine}
use Rattle.yf_props.specs.Names.{TagPrefix}
use Rattle.yf_quoted.specs.Quoted.{SingleChar, DoubleBreak}
use Rattle.yf_stream.specs.Stream.{Prefixes, Documents, Stream}
use Rattle.yf_standard.specs.Notation.Form.{s-indent-less-or-equal, ns-tag-prefix, c-ns-local-tag-prefix, ns-global-tag-prefix, ns-directive-name, ns-directive-parameter, ns-yaml-version, ns-yaml-directive, ns-tag-directive, ns-reserved-directive, l-directive, ns-esc-8-bit, ns-esc-16-bit, ns-esc-32-bit, c-ns-esc-char, nb-double-char, ns-double-char, nb-double-one-line, nb-ns-double-in-line, s-double-escaped, s-double-break, s-double-next-line, nb-double-multi-line, nb-double-text, c-quoted-quote, nb-single-char, ns-single-char, nb-single-one-line, nb-ns-single-in-line, s-single-next-line, nb-single-multi-line, nb-single-text, c-b-block-header, c-indentation-indicator, c-chomping-indicator, b-chomped-last, l-chomped-empty, l-strip-empty, l-keep-empty, l-trail-comments, l-nb-literal-text, s-nb-folded-text, s-nb-spaced-text, l-nb-folded-lines, l-nb-spaced-lines, l-nb-same-lines, l-nb-diff-lines, b-nb-literal-next, b-l-spaced, l-literal-content, l-folded-content, l-document-prefix, c-directives-end, c-document-end, c-forbidden, l-document-suffix, l-bare-document, l-explicit-document, l-directive-document, l-any-document, l-yaml-stream}
use Rattle.yf_standard.proofs.Blocks.{Smaller}
use Rattle.yf_standard.proofs.Doubles.{Lone}
use Rattle.yf_standard.proofs.QuotedRead.{HexOf, LoneNs, LoneItems, NextRead, DoubleLines, DoubleInside, SingleNs, SingleItem, SingleRest, SingleLines, SingleInside}
use Rattle.yf_standard.proofs.Texts.{Texts}
use Rattle.yf_standard.proofs.ScalarsRead.{AtWidth, UpTo, IndicatorRead, ChompingRead, HeaderRead, SomeEnd, TrailComments, Ending, NextText, BreakEmpties, ContentRead}
use Rattle.yf_standard.proofs.DirectivesRead.{SomeChars, YamlRead, TagRead, ReservedRead}
use Rattle.yf_standard.proofs.PartsRead.{VersionRead, Three}
use Rattle.yf_standard.proofs.StreamsRead.{SomeRoot, SomeExplicit, SomeDirectives, Suffix, Any}

-- within a document's node, and outside of it
abbrev pub On : Bool → Type 0 → Type 0
On true X = X
On false X = ⊤

abbrev pub Off : Bool → Type 0 → Type 0
Off true X = ⊤
Off false X = X

-- the relations of the productions
unfoldable pub StandsFor : (t : List ℕ) (low : ℕ) (s : Bool) → ℕ → Form → ℕ → ℕ → Type 0
StandsFor t low s e b-break i j = Break t i j
StandsFor t low s e b-as-line-feed i j = Break t i j
StandsFor t low s e b-non-content i j = Break t i j
StandsFor t low s e (s-indent n) i j = Indent t n i j
StandsFor t low s e (s-indent-less-than n) i j = IndentLess t n i j
StandsFor t low s e s-separate-in-line i j = SeparateInLine t i j
StandsFor t low s e (s-line-prefix n c) i j = LinePrefix t n c i j
StandsFor t low s e (s-block-line-prefix n) i j = Indent t n i j
StandsFor t low s e (s-flow-line-prefix n) i j = FlowPrefix t n i j
StandsFor t low s e (l-empty n c) i j = SomeOf (Empty t n c) i j
StandsFor t low s e (b-l-trimmed n c) i j = SomeOf (Trimmed t n c) i j
StandsFor t low s e b-as-space i j = Break t i j
StandsFor t low s e (b-l-folded n c) i j = SomeOf (FoldedBreak t n c) i j
StandsFor t low s e (s-flow-folded n) i j = SomeOf (FlowFolded t n) i j
StandsFor t low s e c-nb-comment-text i j = SomeOf (CommentText t) i j
StandsFor t low s e b-comment i j = BreakOrEnd t i j
StandsFor t low s e s-b-comment i j = SomeOf (LineRest t) i j
StandsFor t low s e l-comment i j = SomeOf (CommentLine t) i j
StandsFor t low s e s-l-comments i j = SomeOf (LineEnd t) i j
StandsFor t low s e (s-separate n c) i j = SomeOf (Separate t n c) i j
StandsFor t low s e (s-separate-lines n) i j = SomeOf (SeparateLines t n) i j
StandsFor t low s e (ns-plain-first c) i j = (is_plain_first t c i ≡ true) × (next t i ≡ j)
StandsFor t low s e (ns-plain-char c) i j = (is_plain_char t c i ≡ true) × (next t i ≡ j)
StandsFor t low s e (nb-ns-plain-in-line c) i j = SomeOf (Chain (PlainItem t c)) i j
StandsFor t low s e (ns-plain-one-line c) i j = SomeOf (PlainLine t c) i j
StandsFor t low s e (s-ns-plain-next-line n c) i j = SomeOf (PlainNext t n c) i j
StandsFor t low s e (ns-plain-multi-line n c) i j = is_flow c ≡ true → SomeOf (PlainText t n c) i j
StandsFor t low s e (ns-plain n c) i j = SomeOf (PlainText t n c) i j
StandsFor t low s e ns-uri-char i j = SomeOf (UriChar t) i j
StandsFor t low s e ns-tag-char i j = SomeOf (TagChar t) i j
StandsFor t low s e c-primary-tag-handle i j = SignOf t 33 i j
StandsFor t low s e c-secondary-tag-handle i j = (g : ℕ) × (SignOf t 33 i g × SignOf t 33 g j)
StandsFor t low s e c-named-tag-handle i j = (g : ℕ) × (SignOf t 33 i g × ((k : ℕ) × (((f : ℕ) × (CharOf t ns-word-char g f × Star (CharOf t ns-word-char) f k)) × SignOf t 33 k j)))
StandsFor t low s e c-tag-handle i j = Handle t i j
StandsFor t low s e c-verbatim-tag i j = SomeOf (VerbatimTag t) i j
StandsFor t low s e c-ns-shorthand-tag i j = (h : ℕ) × (Handle t i h × ((k : ℕ) × (((f : ℕ) × (SomeOf (TagChar t) h f × Star (SomeOf (TagChar t)) f k)) × (Stuck (TagChar t k) × (k ≡ j)))))
StandsFor t low s e c-non-specific-tag i j = (g : ℕ) × (SignOf t 33 i g × (Stuck (TagChar t g) × (g ≡ j)))
StandsFor t low s e c-ns-tag-property i j = SomeOf (TagProperty t) i j
StandsFor t low s e ns-anchor-name i j = Run (AnchorChar t) i j
StandsFor t low s e c-ns-anchor-property i j = SomeOf (Anchor t) i j
StandsFor t low s e c-ns-alias-node i j = SomeOf (Alias t) i j
StandsFor t low s e (c-ns-properties n c) i j = SomeOf (Properties t n c) i j
StandsFor t low s e (c-single-quoted n c) i j = On s (SomeOf (SingleQuoted t n c) i j)
StandsFor t low s e (c-double-quoted n c) i j = On s (SomeOf (DoubleQuoted t n c) i j)
StandsFor t low s e e-scalar i j = i ≡ j
StandsFor t low s e e-node i j = i ≡ j
StandsFor t low s e (in-flow n c) i j = On s (is_block c ≡ false → SomeNode t e (Entries true n (flow_within c)) i j)
StandsFor t low s e (c-flow-sequence n c) i j = On s (is_block c ≡ false → SomeNode t e (JsonContent n c) i j)
StandsFor t low s e (ns-s-flow-seq-entries n c) i j = On s (is_block c ≡ false → SomeNode t e (Entries true n c) i j)
StandsFor t low s e (ns-flow-seq-entry n c) i j = On s (is_block c ≡ false → SomeNode t e (Entry true n c) i j)
StandsFor t low s e (c-flow-mapping n c) i j = On s (is_block c ≡ false → SomeNode t e (JsonContent n c) i j)
StandsFor t low s e (ns-s-flow-map-entries n c) i j = On s (is_block c ≡ false → SomeNode t e (Entries false n c) i j)
StandsFor t low s e (ns-flow-map-entry n c) i j = On s (is_block c ≡ false → SomeNode t e (Entry false n c) i j)
StandsFor t low s e (ns-flow-map-explicit-entry n c) i j = On s (is_block c ≡ false → (s : ℕ) → SomeNode t e (Explicit n c s) i j)
StandsFor t low s e (ns-flow-map-implicit-entry n c) i j = On s (is_block c ≡ false → (s : ℕ) → SomeNode t e (Implicit n c s) i j)
StandsFor t low s e (ns-flow-map-yaml-key-entry n c) i j = On s (is_block c ≡ false → (s : ℕ) → SomeNode t e (Implicit n c s) i j)
StandsFor t low s e (c-ns-flow-map-empty-key-entry n c) i j = On s (is_block c ≡ false → SomeNode t e (ValueOf false n c) i j)
StandsFor t low s e (c-ns-flow-map-separate-value n c) i j = On s (is_block c ≡ false → SomeNode t e (ValueOf false n c) i j)
StandsFor t low s e (c-ns-flow-map-json-key-entry n c) i j = On s (is_block c ≡ false → (s : ℕ) → SomeNode t e (Implicit n c s) i j)
StandsFor t low s e (c-ns-flow-map-adjacent-value n c) i j = On s (is_block c ≡ false → SomeNode t e (ValueOf true n c) i j)
StandsFor t low s e (ns-flow-pair n c) i j = On s (is_block c ≡ false → (d : ℕ) × ((d < e) × SomeNode t d (Pair n c) i j))
StandsFor t low s e (ns-flow-pair-entry n c) i j = On s (is_block c ≡ false → SomeNode t e (Pair n c) i j)
StandsFor t low s e (ns-flow-pair-yaml-key-entry n c) i j = On s (is_block c ≡ false → SomeNode t e (Pair n c) i j)
StandsFor t low s e (c-ns-flow-pair-json-key-entry n c) i j = On s (is_block c ≡ false → SomeNode t e (Pair n c) i j)
StandsFor t low s e (ns-s-implicit-yaml-key c) i j = On s (is_block c ≡ false → SomeNode t e (KeyOf false c) i j)
StandsFor t low s e (c-s-implicit-json-key c) i j = On s (is_block c ≡ false → SomeNode t e (KeyOf true c) i j)
StandsFor t low s e (ns-flow-yaml-content n c) i j = SomeOf (PlainText t n c) i j
StandsFor t low s e (c-flow-json-content n c) i j = On s (is_block c ≡ false → SomeNode t e (JsonContent n c) i j)
StandsFor t low s e (ns-flow-content n c) i j = On s (is_block c ≡ false → ContentOf t e n c i j)
StandsFor t low s e (ns-flow-yaml-node n c) i j = On s (is_block c ≡ false → SomeNode t e (NodeOf false n c) i j)
StandsFor t low s e (c-flow-json-node n c) i j = On s (is_block c ≡ false → SomeNode t e (NodeOf true n c) i j)
StandsFor t low s e (ns-flow-node n c) i j = On s (is_block c ≡ false → SomeNode t e (FlowNode n c) i j)
StandsFor t low s e (c-l+literal n) i j = On s (SomeOf (BlockScalar t n) i j)
StandsFor t low s e (c-l+folded n) i j = On s (SomeOf (BlockScalar t n) i j)
StandsFor t low s e (l+block-sequence n) i j = On s (Smaller (λ d. ColumnFrom t d true (n +ℤ pos 1) i j) e)
StandsFor t low s e (l+block-mapping n) i j = On s (Smaller (λ d. ColumnFrom t d false (n +ℤ pos 1) i j) e)
StandsFor t low s e (c-l-block-seq-entry n) i j = On s (EntryAt t e true n i j)
StandsFor t low s e (ns-l-block-map-entry n) i j = On s (EntryAt t e false n i j)
StandsFor t low s e (c-l-block-map-explicit-entry n) i j = On s (EntryAt t e false n i j)
StandsFor t low s e (ns-l-block-map-implicit-entry n) i j = On s (EntryAt t e false n i j)
StandsFor t low s e (s-l+block-indented n BlockOut) i j = On s ((m : ℕ) → n ≡ pos m → SomeNode t e (BlockIndented m BlockOut) i j)
StandsFor t low s e (s-l+block-indented n BlockIn) i j = On s ((m : ℕ) → n ≡ pos m → SomeNode t e (BlockIndented m BlockIn) i j)
StandsFor t low s e (ns-l-compact-sequence n) i j = On s (Smaller (λ d. EntriesAt t d true n i j) e)
StandsFor t low s e (ns-l-compact-mapping n) i j = On s (Smaller (λ d. EntriesAt t d false n i j) e)
StandsFor t low s e (c-l-block-map-explicit-key n) i j = On s (Question t e n i j)
StandsFor t low s e (l-block-map-explicit-value n) i j = On s (Colon t e n i j)
StandsFor t low s e ns-s-block-map-implicit-key i j = On s (SomeNode t e (KeyOf true BlockKey) i j ⊎ SomeNode t e (KeyOf false BlockKey) i j)
StandsFor t low s e (c-l-block-map-implicit-value n) i j = On s ((m : ℕ) → n ≡ pos m → SomeNode t e (BlockValue m) i j)
StandsFor t low s e (s-l+block-node n c) i j = On s (is_block c ≡ true → SomeNode t e (BlockNode n c) i j)
StandsFor t low s e (s-l+flow-in-block n) i j = On s ((c : Ctx) → is_block c ≡ true → SomeNode t e (BlockNode n c) i j)
StandsFor t low s e (s-l+block-in-block n c) i j = On s (is_block c ≡ true → SomeNode t e (BlockNode n c) i j)
StandsFor t low s e (s-l+block-scalar n c) i j = On s (is_block c ≡ true → SomeNode t e (BlockNode n c) i j)
StandsFor t low s e (s-l+block-collection n c) i j = On s (is_block c ≡ true → SomeNode t e (BlockNode n c) i j)
StandsFor t low s e (seq-space n c) i j = On s (is_block c ≡ true → Smaller (λ d. ColumnFrom t d true (least_column true n c) i j) e)
StandsFor t low s e (s-indent-less-or-equal n) i j = UpTo t n i j
StandsFor t low s e ns-tag-prefix i j = SomeOf (TagPrefix t) i j
StandsFor t low s e c-ns-local-tag-prefix i j = SomeOf (TagPrefix t) i j
StandsFor t low s e ns-global-tag-prefix i j = SomeOf (TagPrefix t) i j
StandsFor t low s e ns-directive-name i j = SomeChars t is_ns_char i j
StandsFor t low s e ns-directive-parameter i j = (code t i ≢ 35) × SomeChars t is_ns_char i j
StandsFor t low s e ns-yaml-version i j = VersionRead t i j
StandsFor t low s e ns-yaml-directive i j = YamlRead t i j
StandsFor t low s e ns-tag-directive i j = TagRead t i j
StandsFor t low s e ns-reserved-directive i j = ReservedRead t i j
StandsFor t low s e l-directive i j = SomeDirectives t i j
StandsFor t low s e ns-esc-8-bit i j = HexOf t 120 2 i j
StandsFor t low s e ns-esc-16-bit i j = HexOf t 117 4 i j
StandsFor t low s e ns-esc-32-bit i j = HexOf t 85 8 i j
StandsFor t low s e c-ns-esc-char i j = Lone t i j
StandsFor t low s e nb-double-char i j = Lone t i j
StandsFor t low s e ns-double-char i j = LoneNs t i j
StandsFor t low s e nb-double-one-line i j = Star (Lone t) i j
StandsFor t low s e nb-ns-double-in-line i j = LoneItems t i j
StandsFor t low s e (s-double-escaped n) i j = SomeOf (DoubleBreak t n) i j
StandsFor t low s e (s-double-break n) i j = SomeOf (DoubleBreak t n) i j
StandsFor t low s e (s-double-next-line n) i j = NextRead t n i j
StandsFor t low s e (nb-double-multi-line n) i j = DoubleLines t n i j
StandsFor t low s e (nb-double-text n c) i j = NoLow t j → SomeOf (DoubleInside t n c) i j
StandsFor t low s e c-quoted-quote i j = (g : ℕ) × (SignOf t 39 i g × SignOf t 39 g j)
StandsFor t low s e nb-single-char i j = SomeOf (SingleChar t) i j
StandsFor t low s e ns-single-char i j = SingleNs t i j
StandsFor t low s e nb-single-one-line i j = SomeOf (Chain (SingleChar t)) i j
StandsFor t low s e nb-ns-single-in-line i j = SomeOf (Chain (SingleItem t)) i j
StandsFor t low s e (s-single-next-line n) i j = SomeOf (SingleRest t n) i j
StandsFor t low s e (nb-single-multi-line n) i j = SingleLines t n i j
StandsFor t low s e (nb-single-text n c) i j = SomeOf (SingleInside t n c) i j
StandsFor t low s e (c-b-block-header m c) i j = HeaderRead t m c i j
StandsFor t low s e (c-indentation-indicator m) i j = IndicatorRead t m i j
StandsFor t low s e (c-chomping-indicator c) i j = ChompingRead t c i j
StandsFor t low s e (b-chomped-last c) i j = SomeEnd t i j
StandsFor t low s e (l-chomped-empty n c) i j = AtWidth (Ending t) n i j
StandsFor t low s e (l-strip-empty n) i j = AtWidth (Ending t) n i j
StandsFor t low s e (l-keep-empty n) i j = AtWidth (Ending t) n i j
StandsFor t low s e (l-trail-comments n) i j = AtWidth (TrailComments t) n i j
StandsFor t low s e (l-nb-literal-text n) i j = AtWidth (Texts t) n i j
StandsFor t low s e (s-nb-folded-text n) i j = AtWidth (Texts t) n i j
StandsFor t low s e (s-nb-spaced-text n) i j = AtWidth (Texts t) n i j
StandsFor t low s e (l-nb-folded-lines n) i j = AtWidth (Texts t) n i j
StandsFor t low s e (l-nb-spaced-lines n) i j = AtWidth (Texts t) n i j
StandsFor t low s e (l-nb-same-lines n) i j = AtWidth (Texts t) n i j
StandsFor t low s e (l-nb-diff-lines n) i j = AtWidth (Texts t) n i j
StandsFor t low s e (b-nb-literal-next n) i j = AtWidth (NextText t) n i j
StandsFor t low s e (b-l-spaced n) i j = AtWidth (BreakEmpties t) n i j
StandsFor t low s e (l-literal-content n c) i j = AtWidth (ContentRead t) n i j × (low ≤ i)
StandsFor t low s e (l-folded-content n c) i j = AtWidth (ContentRead t) n i j × (low ≤ i)
StandsFor t low s e l-document-prefix i j = SomeOf (Prefixes t) i j
StandsFor t low s e c-directives-end i j = Three t 45 i j
StandsFor t low s e c-document-end i j = Three t 46 i j
StandsFor t low s e l-document-suffix i j = Suffix t i j
StandsFor t low s e l-bare-document i j = Off s (SomeRoot t e i j)
StandsFor t low s e l-explicit-document i j = Off s (SomeExplicit t e i j)
StandsFor t low s e l-directive-document i j = Off s ((k : ℕ) × (SomeDirectives t i k × SomeExplicit t e k j))
StandsFor t low s e l-any-document i j = Off s (Any t e i j)
StandsFor t low s e l-yaml-stream i j = Off s (i ≡ 0 → j ≡ length t → (h : ℕ) × ((x : Documents) × (Stream t h x × (h ≤ e))))
StandsFor t low s e c-forbidden i j = ForbiddenLine t i
StandsFor t low s e f i j = ⊤
