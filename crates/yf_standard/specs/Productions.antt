-- The productions of YAML 1.2.2, chapters 5 to 9, in the standard's order, with its names and numbers. Those that
-- derive one character of a set are in `Characters`. Text in ⟨ ⟩ is not the standard's own: it is a condition with a
-- name, whose meaning is in `Rules`.
use Rattle.std.specs.Prelude.{zero, suc, ◌+◌, pos, negsuc, ◌-ℤ◌}
use Rattle.yf_chars.specs.declared.context.Ctx.TheVariants.{BlockOut, BlockIn, FlowOut, FlowIn, BlockKey, FlowKey}
use Rattle.yf_standard.specs.Characters.{x, ◌∪◌, ◌∖◌, c-sequence-entry, c-mapping-key, c-mapping-value, c-collect-entry, c-sequence-start, c-sequence-end, c-mapping-start, c-mapping-end, c-comment, c-anchor, c-alias, c-tag, c-literal, c-folded, c-single-quote, c-double-quote, c-directive, c-indicator, c-flow-indicator, b-line-feed, b-carriage-return, b-char, nb-char, nb-json, c-byte-order-mark, s-space, s-white, ns-char, ns-dec-digit, ns-hex-digit, ns-word-char, c-escape, ns-esc-null, ns-esc-bell, ns-esc-backspace, ns-esc-horizontal-tab, ns-esc-line-feed, ns-esc-vertical-tab, ns-esc-form-feed, ns-esc-carriage-return, ns-esc-escape, ns-esc-space, ns-esc-double-quote, ns-esc-slash, ns-esc-backslash, ns-esc-next-line, ns-esc-non-breaking-space, ns-esc-line-separator, ns-esc-paragraph-separator, ns-anchor-char, ns-plain-safe}
use Rattle.yf_standard.specs.Notation.{Form}
use Rattle.yf_standard.specs.Notation.Chomping.{STRIP, CLIP, KEEP}
use Rattle.yf_standard.specs.Notation.Indicator.{GIVEN, DETECTED}
use Rattle.yf_standard.specs.Notation.Condition.{start-of-line, end-of-input, lookahead=, lookahead≠, lookbehind=, not-before-line-feed, not-after-carriage-return, name-ends, tag-ends, reserved-name, no-line, no-comment-line, no-trail, no-folded-line, auto-detect, is-sum, no-value, sign-ends, no-comment}
use Rattle.yf_standard.specs.Notation.Form.{ε, never, ‹◌›, ◌∙◌, ◌∣◌, ◌⁇, ◌⋆, ◌⁺, ◌less◌, ⟨◌⟩, some-m, some-k, at-most, excluding-c-forbidden}
use Rattle.yf_standard.specs.Notation.Form.{b-break, b-as-line-feed, b-non-content, ns-uri-char, ns-tag-char, ns-esc-8-bit, ns-esc-16-bit, ns-esc-32-bit, c-ns-esc-char}
use Rattle.yf_standard.specs.Notation.Form.{s-indent, s-indent-less-than, s-indent-less-or-equal, s-separate-in-line, s-line-prefix, s-block-line-prefix, s-flow-line-prefix, l-empty, b-l-trimmed, b-as-space, b-l-folded, s-flow-folded, c-nb-comment-text, b-comment, s-b-comment, l-comment, s-l-comments, s-separate, s-separate-lines, l-directive, ns-reserved-directive, ns-directive-name, ns-directive-parameter, ns-yaml-directive, ns-yaml-version, ns-tag-directive, c-tag-handle, c-primary-tag-handle, c-secondary-tag-handle, c-named-tag-handle, ns-tag-prefix, c-ns-local-tag-prefix, ns-global-tag-prefix, c-ns-properties, c-ns-tag-property, c-verbatim-tag, c-ns-shorthand-tag, c-non-specific-tag, c-ns-anchor-property, ns-anchor-name}
use Rattle.yf_standard.specs.Notation.Form.{c-ns-alias-node, e-scalar, e-node, nb-double-char, ns-double-char, c-double-quoted, nb-double-text, nb-double-one-line, s-double-escaped, s-double-break, nb-ns-double-in-line, s-double-next-line, nb-double-multi-line, c-quoted-quote, nb-single-char, ns-single-char, c-single-quoted, nb-single-text, nb-single-one-line, nb-ns-single-in-line, s-single-next-line, nb-single-multi-line, ns-plain-first, ns-plain-char, ns-plain, nb-ns-plain-in-line, ns-plain-one-line, s-ns-plain-next-line, ns-plain-multi-line, in-flow, c-flow-sequence, ns-s-flow-seq-entries, ns-flow-seq-entry, c-flow-mapping, ns-s-flow-map-entries, ns-flow-map-entry, ns-flow-map-explicit-entry, ns-flow-map-implicit-entry, ns-flow-map-yaml-key-entry, c-ns-flow-map-empty-key-entry, c-ns-flow-map-separate-value, c-ns-flow-map-json-key-entry, c-ns-flow-map-adjacent-value, ns-flow-pair, ns-flow-pair-entry, ns-flow-pair-yaml-key-entry, c-ns-flow-pair-json-key-entry, ns-s-implicit-yaml-key, c-s-implicit-json-key, ns-flow-yaml-content, c-flow-json-content, ns-flow-content, ns-flow-yaml-node, c-flow-json-node, ns-flow-node}
use Rattle.yf_standard.specs.Notation.Form.{c-b-block-header, c-indentation-indicator, c-chomping-indicator, b-chomped-last, l-chomped-empty, l-strip-empty, l-keep-empty, l-trail-comments, c-l+literal, l-nb-literal-text, b-nb-literal-next, l-literal-content, c-l+folded, s-nb-folded-text, l-nb-folded-lines, s-nb-spaced-text, b-l-spaced, l-nb-spaced-lines, l-nb-same-lines, l-nb-diff-lines, l-folded-content, l+block-sequence, c-l-block-seq-entry, s-l+block-indented, ns-l-compact-sequence, l+block-mapping, ns-l-block-map-entry, c-l-block-map-explicit-entry, c-l-block-map-explicit-key, l-block-map-explicit-value, ns-l-block-map-implicit-entry, ns-s-block-map-implicit-key, c-l-block-map-implicit-value, ns-l-compact-mapping, s-l+block-node, s-l+flow-in-block, s-l+block-in-block, s-l+block-scalar, s-l+block-collection, seq-space}
use Rattle.yf_standard.specs.Notation.Form.{l-document-prefix, c-directives-end, c-document-end, l-document-suffix, c-forbidden, l-bare-document, l-explicit-document, l-directive-document, l-any-document, l-yaml-stream}
pub use Rattle.yf_standard.specs.Notation.{times, plus, some-t, in-flow-context}
unfoldable pub use Rattle.yf_standard.specs.Notation.{digit-of}

unfoldable pub rule : Form → Form
-- 5.4 Line Break Characters
-- [28]
rule b-break = ‹ b-carriage-return › ∙ ‹ b-line-feed › ∣ ‹ b-carriage-return › ∙ ⟨ not-before-line-feed ⟩ ∣ ⟨ not-after-carriage-return ⟩ ∙ ‹ b-line-feed ›
-- [29]
rule b-as-line-feed = b-break
-- [30]
rule b-non-content = b-break
-- 5.6 Miscellaneous Characters
-- [39]
rule ns-uri-char = ‹ x 37 › ∙ times 2 (‹ ns-hex-digit ›) ∣ ‹ ns-word-char ›
    ∣ ‹ x 35 ∪ x 59 ∪ x 47 ∪ x 63 ∪ x 58 ∪ x 64 ∪ x 38 ∪ x 61 ∪ x 43 ∪ x 36 ∪ x 44 ∪ x 95 ∪ x 46 ∪ x 33 ∪ x 126 ∪ x 42 ∪ x 39 ∪ x 40 ∪ x 41 ∪ x 91 ∪ x 93 ›
-- [40]
rule ns-tag-char = ns-uri-char less c-tag less c-flow-indicator
-- 5.7 Escaped Characters
-- [59]
rule ns-esc-8-bit = ‹ x 120 › ∙ times 2 (‹ ns-hex-digit ›)
-- [60]
rule ns-esc-16-bit = ‹ x 117 › ∙ times 4 (‹ ns-hex-digit ›)
-- [61]
rule ns-esc-32-bit = ‹ x 85 › ∙ times 8 (‹ ns-hex-digit ›)
-- [62]
rule c-ns-esc-char = ‹ c-escape › ∙ (‹ ns-esc-null ∪ ns-esc-bell ∪ ns-esc-backspace ∪ ns-esc-horizontal-tab ∪ ns-esc-line-feed ∪ ns-esc-vertical-tab
    ∪ ns-esc-form-feed ∪ ns-esc-carriage-return ∪ ns-esc-escape ∪ ns-esc-space ∪ ns-esc-double-quote ∪ ns-esc-slash ∪ ns-esc-backslash ∪ ns-esc-next-line
    ∪ ns-esc-non-breaking-space ∪ ns-esc-line-separator ∪ ns-esc-paragraph-separator › ∣ ns-esc-8-bit ∣ ns-esc-16-bit ∣ ns-esc-32-bit)
-- 6.1 Indentation Spaces
-- [63]
rule (s-indent (pos zero)) = ε
rule (s-indent (pos (suc n))) = ‹ s-space › ∙ s-indent (pos n)
rule (s-indent (negsuc n)) = never
-- [64]
rule (s-indent-less-than (pos zero)) = never
rule (s-indent-less-than (pos (suc zero))) = ε
rule (s-indent-less-than (pos (suc (suc n)))) = ‹ s-space › ∙ s-indent-less-than (pos (suc n)) ∣ ε
rule (s-indent-less-than (negsuc n)) = never
-- [65]
rule (s-indent-less-or-equal (pos zero)) = ε
rule (s-indent-less-or-equal (pos (suc n))) = ‹ s-space › ∙ s-indent-less-or-equal (pos n) ∣ ε
rule (s-indent-less-or-equal (negsuc n)) = never
-- 6.2 Separation Spaces
-- [66]
rule s-separate-in-line = ‹ s-white › ⁺ ∣ ⟨ start-of-line ⟩
-- 6.3 Line Prefixes
-- [67]
rule (s-line-prefix n BlockOut) = s-block-line-prefix n
rule (s-line-prefix n BlockIn) = s-block-line-prefix n
rule (s-line-prefix n FlowOut) = s-flow-line-prefix n
rule (s-line-prefix n FlowIn) = s-flow-line-prefix n
-- [68]
rule (s-block-line-prefix n) = s-indent n
-- [69]
rule (s-flow-line-prefix n) = s-indent n ∙ s-separate-in-line ⁇
-- 6.4 Empty Lines
-- [70]
rule (l-empty n c) = (s-line-prefix n c ∣ s-indent-less-than n) ∙ b-as-line-feed
-- 6.5 Line Folding
-- [71]
rule (b-l-trimmed n c) = b-non-content ∙ l-empty n c ⁺
-- [72]
rule b-as-space = b-break
-- [73]
rule (b-l-folded n c) = b-l-trimmed n c ∣ b-as-space
-- [74]
rule (s-flow-folded n) = s-separate-in-line ⁇ ∙ b-l-folded n FlowIn ∙ s-flow-line-prefix n
-- 6.6 Comments
-- [75]
rule c-nb-comment-text = ‹ c-comment › ∙ ‹ nb-char › ⋆
-- [76]
rule b-comment = b-non-content ∣ ⟨ end-of-input ⟩
-- [77]
rule s-b-comment = (s-separate-in-line ∙ c-nb-comment-text ⁇) ⁇ ∙ b-comment
-- [78]
rule l-comment = s-separate-in-line ∙ c-nb-comment-text ⁇ ∙ b-comment
-- [79]
rule s-l-comments = (s-b-comment ∣ ⟨ start-of-line ⟩) ∙ l-comment ⋆
-- 6.7 Separation Lines
-- [80]
rule (s-separate n BlockOut) = s-separate-lines n
rule (s-separate n BlockIn) = s-separate-lines n
rule (s-separate n FlowOut) = s-separate-lines n
rule (s-separate n FlowIn) = s-separate-lines n
rule (s-separate n BlockKey) = s-separate-in-line
rule (s-separate n FlowKey) = s-separate-in-line
-- [81]
rule (s-separate-lines n) = s-l-comments ∙ s-flow-line-prefix n ∣ s-separate-in-line
-- 6.8 Directives
-- [82]
rule l-directive = ‹ c-directive › ∙ (ns-yaml-directive ∣ ns-tag-directive ∣ ns-reserved-directive) ∙ s-l-comments
-- [83]
rule ns-reserved-directive = ⟨ reserved-name ⟩ ∙ ns-directive-name ∙ (s-separate-in-line ∙ ns-directive-parameter) ⋆
-- [84]
rule ns-directive-name = ‹ ns-char › ⁺
-- [85]
rule ns-directive-parameter = ⟨ no-comment ⟩ ∙ ‹ ns-char › ⁺
-- [86]
rule ns-yaml-directive = ‹ x 89 › ∙ ‹ x 65 › ∙ ‹ x 77 › ∙ ‹ x 76 › ∙ s-separate-in-line ∙ ns-yaml-version
-- [87]
rule ns-yaml-version = ‹ ns-dec-digit › ⁺ ∙ ‹ x 46 › ∙ ‹ ns-dec-digit › ⁺
-- [88]
rule ns-tag-directive = ‹ x 84 › ∙ ‹ x 65 › ∙ ‹ x 71 › ∙ s-separate-in-line ∙ c-tag-handle ∙ s-separate-in-line ∙ ns-tag-prefix
-- [89]
rule c-tag-handle = c-named-tag-handle ∣ c-secondary-tag-handle ∣ c-primary-tag-handle
-- [90]
rule c-primary-tag-handle = ‹ x 33 ›
-- [91]
rule c-secondary-tag-handle = ‹ x 33 › ∙ ‹ x 33 ›
-- [92]
rule c-named-tag-handle = ‹ c-tag › ∙ ‹ ns-word-char › ⁺ ∙ ‹ c-tag ›
-- [93]
rule ns-tag-prefix = c-ns-local-tag-prefix ∣ ns-global-tag-prefix
-- [94]
rule c-ns-local-tag-prefix = ‹ c-tag › ∙ ns-uri-char ⋆
-- [95]
rule ns-global-tag-prefix = ns-tag-char ∙ ns-uri-char ⋆
-- 6.9 Node Properties
-- [96]
rule (c-ns-properties n c) = c-ns-tag-property ∙ (s-separate n c ∙ c-ns-anchor-property) ⁇ ∣ c-ns-anchor-property ∙ (s-separate n c ∙ c-ns-tag-property) ⁇
-- [97]
rule c-ns-tag-property = c-verbatim-tag ∣ c-ns-shorthand-tag ∣ c-non-specific-tag
-- [98]
rule c-verbatim-tag = ‹ x 33 › ∙ ‹ x 60 › ∙ ns-uri-char ⁺ ∙ ‹ x 62 ›
-- [99]
rule c-ns-shorthand-tag = c-tag-handle ∙ ns-tag-char ⁺ ∙ ⟨ tag-ends ⟩
-- [100]
rule c-non-specific-tag = ‹ x 33 › ∙ ⟨ tag-ends ⟩
-- [101]
rule c-ns-anchor-property = ‹ c-anchor › ∙ ns-anchor-name
-- [103]
rule ns-anchor-name = ‹ ns-anchor-char › ⁺ ∙ ⟨ name-ends ⟩
-- 7.1 Alias Nodes
-- [104]
rule c-ns-alias-node = ‹ c-alias › ∙ ns-anchor-name
-- 7.2 Empty Nodes
-- [105]
rule e-scalar = ε
-- [106]
rule e-node = e-scalar
-- 7.3.1 Double-Quoted Style
-- [107]
rule nb-double-char = c-ns-esc-char ∣ ‹ nb-json ∖ c-escape ∖ c-double-quote ›
-- [108]
rule ns-double-char = nb-double-char less s-white
-- [109]
rule (c-double-quoted n c) = ‹ c-double-quote › ∙ nb-double-text n c ∙ ‹ c-double-quote ›
-- [110]
rule (nb-double-text n FlowOut) = nb-double-multi-line n
rule (nb-double-text n FlowIn) = nb-double-multi-line n
rule (nb-double-text n BlockKey) = nb-double-one-line
rule (nb-double-text n FlowKey) = nb-double-one-line
-- [111]
rule nb-double-one-line = nb-double-char ⋆
-- [112]
rule (s-double-escaped n) = ‹ s-white › ⋆ ∙ ‹ c-escape › ∙ b-non-content ∙ l-empty n FlowIn ⋆ ∙ s-flow-line-prefix n
-- [113]
rule (s-double-break n) = s-double-escaped n ∣ s-flow-folded n
-- [114]
rule nb-ns-double-in-line = (‹ s-white › ⋆ ∙ ns-double-char) ⋆
-- [115]
rule (s-double-next-line n) = s-double-break n ∙ (ns-double-char ∙ nb-ns-double-in-line ∙ (s-double-next-line n ∣ ‹ s-white › ⋆)) ⁇
-- [116]
rule (nb-double-multi-line n) = nb-ns-double-in-line ∙ (s-double-next-line n ∣ ‹ s-white › ⋆)
-- 7.3.2 Single-Quoted Style
-- [117]
rule c-quoted-quote = ‹ x 39 › ∙ ‹ x 39 ›
-- [118]
rule nb-single-char = c-quoted-quote ∣ ‹ nb-json ∖ c-single-quote ›
-- [119]
rule ns-single-char = nb-single-char less s-white
-- [120]
rule (c-single-quoted n c) = ‹ c-single-quote › ∙ nb-single-text n c ∙ ‹ c-single-quote ›
-- [121]
rule (nb-single-text n FlowOut) = nb-single-multi-line n
rule (nb-single-text n FlowIn) = nb-single-multi-line n
rule (nb-single-text n BlockKey) = nb-single-one-line
rule (nb-single-text n FlowKey) = nb-single-one-line
-- [122]
rule nb-single-one-line = nb-single-char ⋆
-- [123]
rule nb-ns-single-in-line = (‹ s-white › ⋆ ∙ ns-single-char) ⋆
-- [124]
rule (s-single-next-line n) = s-flow-folded n ∙ (ns-single-char ∙ nb-ns-single-in-line ∙ (s-single-next-line n ∣ ‹ s-white › ⋆)) ⁇
-- [125]
rule (nb-single-multi-line n) = nb-ns-single-in-line ∙ (s-single-next-line n ∣ ‹ s-white › ⋆)
-- 7.3.3 Plain Style
-- [126]
rule (ns-plain-first c) = ‹ ns-char ∖ c-indicator › ∣ ‹ c-mapping-key ∪ c-mapping-value ∪ c-sequence-entry › ∙ ⟨ lookahead= (ns-plain-safe c) ⟩
-- [130]
rule (ns-plain-char c) = ‹ ns-plain-safe c ∖ c-mapping-value ∖ c-comment › ∣ ⟨ lookbehind= ns-char ⟩ ∙ ‹ c-comment ›
    ∣ ‹ c-mapping-value › ∙ ⟨ lookahead= (ns-plain-safe c) ⟩
-- [131]
rule (ns-plain n FlowOut) = ns-plain-multi-line n FlowOut
rule (ns-plain n FlowIn) = ns-plain-multi-line n FlowIn
rule (ns-plain n BlockKey) = ns-plain-one-line BlockKey
rule (ns-plain n FlowKey) = ns-plain-one-line FlowKey
-- [132]
rule (nb-ns-plain-in-line c) = (‹ s-white › ⋆ ∙ ns-plain-char c) ⋆
-- [133]
rule (ns-plain-one-line c) = ns-plain-first c ∙ nb-ns-plain-in-line c
-- [134]
rule (s-ns-plain-next-line n c) = s-flow-folded n ∙ ns-plain-char c ∙ nb-ns-plain-in-line c
-- [135]
rule (ns-plain-multi-line n c) = ns-plain-one-line c ∙ s-ns-plain-next-line n c ⋆
-- 7.4 Flow Collection Styles
-- [136]
rule (in-flow n FlowOut) = ns-s-flow-seq-entries n FlowIn
rule (in-flow n FlowIn) = ns-s-flow-seq-entries n FlowIn
rule (in-flow n BlockKey) = ns-s-flow-seq-entries n FlowKey
rule (in-flow n FlowKey) = ns-s-flow-seq-entries n FlowKey
-- [137]
rule (c-flow-sequence n c) = ‹ c-sequence-start › ∙ s-separate n c ⁇ ∙ in-flow n c ⁇ ∙ ‹ c-sequence-end ›
-- [138]
rule (ns-s-flow-seq-entries n c) = ns-flow-seq-entry n c ∙ s-separate n c ⁇ ∙ (‹ c-collect-entry › ∙ s-separate n c ⁇ ∙ ns-s-flow-seq-entries n c ⁇) ⁇
-- [139]
rule (ns-flow-seq-entry n c) = ns-flow-pair n c ∣ ns-flow-node n c
-- [140]
rule (c-flow-mapping n c) = ‹ c-mapping-start › ∙ s-separate n c ⁇ ∙ ns-s-flow-map-entries n (in-flow-context c) ⁇ ∙ ‹ c-mapping-end ›
-- [141]
rule (ns-s-flow-map-entries n c) = ns-flow-map-entry n c ∙ s-separate n c ⁇ ∙ (‹ c-collect-entry › ∙ s-separate n c ⁇ ∙ ns-s-flow-map-entries n c ⁇) ⁇
-- [142]
rule (ns-flow-map-entry n c) = ‹ c-mapping-key › ∙ s-separate n c ∙ ns-flow-map-explicit-entry n c ∣ ns-flow-map-implicit-entry n c
-- [143]
rule (ns-flow-map-explicit-entry n c) = ns-flow-map-implicit-entry n c ∣ e-node ∙ e-node
-- [144]
rule (ns-flow-map-implicit-entry n c) = ns-flow-map-yaml-key-entry n c ∣ c-ns-flow-map-empty-key-entry n c ∣ c-ns-flow-map-json-key-entry n c
-- [145]
rule (ns-flow-map-yaml-key-entry n c) = ns-flow-yaml-node n c ∙ (s-separate n c ⁇ ∙ c-ns-flow-map-separate-value n c ∣ e-node)
-- [146]
rule (c-ns-flow-map-empty-key-entry n c) = e-node ∙ c-ns-flow-map-separate-value n c
-- [147]
rule (c-ns-flow-map-separate-value n c) = ‹ c-mapping-value › ∙ ⟨ lookahead≠ (ns-plain-safe c) ⟩ ∙ (s-separate n c ∙ ns-flow-node n c ∣ e-node)
-- [148]
rule (c-ns-flow-map-json-key-entry n c) = c-flow-json-node n c ∙ (s-separate n c ⁇ ∙ c-ns-flow-map-adjacent-value n c ∣ e-node)
-- [149]
rule (c-ns-flow-map-adjacent-value n c) = ‹ c-mapping-value › ∙ (s-separate n c ⁇ ∙ ns-flow-node n c ∣ e-node)
-- [150]
rule (ns-flow-pair n c) = ‹ c-mapping-key › ∙ s-separate n c ∙ ns-flow-map-explicit-entry n c ∣ ns-flow-pair-entry n c
-- [151]
rule (ns-flow-pair-entry n c) = ns-flow-pair-yaml-key-entry n c ∣ c-ns-flow-map-empty-key-entry n c ∣ c-ns-flow-pair-json-key-entry n c
-- [152]
rule (ns-flow-pair-yaml-key-entry n c) = ns-s-implicit-yaml-key FlowKey ∙ c-ns-flow-map-separate-value n c
-- [153]
rule (c-ns-flow-pair-json-key-entry n c) = c-s-implicit-json-key FlowKey ∙ c-ns-flow-map-adjacent-value n c
-- [154]
rule (ns-s-implicit-yaml-key c) = at-most 1024 (ns-flow-yaml-node (pos 0) c ∙ s-separate-in-line ⁇)
-- [155]
rule (c-s-implicit-json-key c) = at-most 1024 (c-flow-json-node (pos 0) c ∙ s-separate-in-line ⁇)
-- 7.5 Flow Nodes
-- [156]
rule (ns-flow-yaml-content n c) = ns-plain n c
-- [157]
rule (c-flow-json-content n c) = c-flow-sequence n c ∣ c-flow-mapping n c ∣ c-single-quoted n c ∣ c-double-quoted n c
-- [158]
rule (ns-flow-content n c) = ns-flow-yaml-content n c ∣ c-flow-json-content n c
-- [159]
rule (ns-flow-yaml-node n c) = c-ns-alias-node ∣ ns-flow-yaml-content n c ∣ c-ns-properties n c ∙ (s-separate n c ∙ ns-flow-yaml-content n c ∣ e-scalar)
-- [160]
rule (c-flow-json-node n c) = (c-ns-properties n c ∙ s-separate n c) ⁇ ∙ c-flow-json-content n c
-- [161]
rule (ns-flow-node n c) = c-ns-alias-node ∣ ns-flow-content n c ∣ c-ns-properties n c ∙ (s-separate n c ∙ ns-flow-content n c ∣ e-scalar)
-- 8.1.1 Block Scalar Headers
-- [162]
rule (c-b-block-header m t) = (c-indentation-indicator m ∙ c-chomping-indicator t ∣ c-chomping-indicator t ∙ c-indentation-indicator m) ∙ s-b-comment
-- [163]
rule (c-indentation-indicator (GIVEN m)) = ‹ digit-of m ›
rule (c-indentation-indicator DETECTED) = ε
-- [164]
rule (c-chomping-indicator STRIP) = ‹ x 45 ›
rule (c-chomping-indicator KEEP) = ‹ x 43 ›
rule (c-chomping-indicator CLIP) = ε
-- [165]
rule (b-chomped-last STRIP) = b-non-content ∣ ⟨ end-of-input ⟩
rule (b-chomped-last CLIP) = b-as-line-feed ∣ ⟨ end-of-input ⟩
rule (b-chomped-last KEEP) = b-as-line-feed ∣ ⟨ end-of-input ⟩
-- [166]
rule (l-chomped-empty n STRIP) = l-strip-empty n
rule (l-chomped-empty n CLIP) = l-strip-empty n
rule (l-chomped-empty n KEEP) = l-keep-empty n
-- [167]
rule (l-strip-empty n) = (s-indent-less-or-equal n ∙ b-non-content) ⋆ ∙ ⟨ no-line n ⟩ ∙ (l-trail-comments n ∣ ⟨ no-trail n ⟩)
-- [168]
rule (l-keep-empty n) = l-empty n BlockIn ⋆ ∙ ⟨ no-line n ⟩ ∙ (l-trail-comments n ∣ ⟨ no-trail n ⟩)
-- [169]
rule (l-trail-comments n) = s-indent-less-than n ∙ c-nb-comment-text ∙ b-comment ∙ l-comment ⋆ ∙ ⟨ no-comment-line ⟩
-- 8.1.2 Literal Style
-- [170]
rule (c-l+literal n) = some-t λ t. some-k λ k. ‹ c-literal ›
    ∙ (some-m (λ m. c-b-block-header (GIVEN m) t ∙ ⟨ is-sum n m k ⟩) ∣ c-b-block-header DETECTED t ∙ ⟨ auto-detect n k ⟩) ∙ l-literal-content k t
-- [171]
rule (l-nb-literal-text n) = l-empty n BlockIn ⋆ ∙ s-indent n ∙ ‹ nb-char › ⁺
-- [172]
rule (b-nb-literal-next n) = b-as-line-feed ∙ l-nb-literal-text n
-- [173]
rule (l-literal-content n t) = (l-nb-literal-text n ∙ b-nb-literal-next n ⋆ ∙ b-chomped-last t) ⁇ ∙ l-chomped-empty n t
-- 8.1.3 Folded Style
-- [174]
rule (c-l+folded n) = some-t λ t. some-k λ k. ‹ c-folded ›
    ∙ (some-m (λ m. c-b-block-header (GIVEN m) t ∙ ⟨ is-sum n m k ⟩) ∣ c-b-block-header DETECTED t ∙ ⟨ auto-detect n k ⟩) ∙ l-folded-content k t
-- [175]
rule (s-nb-folded-text n) = s-indent n ∙ ‹ ns-char › ∙ ‹ nb-char › ⋆
-- [176]
rule (l-nb-folded-lines n) = s-nb-folded-text n ∙ (b-l-folded n BlockIn ∙ s-nb-folded-text n) ⋆ ∙ ⟨ no-folded-line n ⟩
-- [177]
rule (s-nb-spaced-text n) = s-indent n ∙ ‹ s-white › ∙ ‹ nb-char › ⋆
-- [178]
rule (b-l-spaced n) = b-as-line-feed ∙ l-empty n BlockIn ⋆
-- [179]
rule (l-nb-spaced-lines n) = s-nb-spaced-text n ∙ (b-l-spaced n ∙ s-nb-spaced-text n) ⋆
-- [180]
rule (l-nb-same-lines n) = l-empty n BlockIn ⋆ ∙ (l-nb-folded-lines n ∣ l-nb-spaced-lines n)
-- [181]
rule (l-nb-diff-lines n) = l-nb-same-lines n ∙ (b-as-line-feed ∙ l-nb-same-lines n) ⋆
-- [182]
rule (l-folded-content n t) = (l-nb-diff-lines n ∙ b-chomped-last t) ⁇ ∙ l-chomped-empty n t
-- 8.2.1 Block Sequences
-- [183]
rule (l+block-sequence n) = some-m λ m. (s-indent (plus n (1 + m)) ∙ c-l-block-seq-entry (plus n (1 + m))) ⁺
-- [184]
rule (c-l-block-seq-entry n) = ‹ c-sequence-entry › ∙ ⟨ lookahead≠ ns-char ⟩ ∙ s-l+block-indented n BlockIn
-- [185]
rule (s-l+block-indented n c) = some-m (λ m. s-indent (pos m) ∙ (ns-l-compact-sequence (plus n (1 + m)) ∣ ns-l-compact-mapping (plus n (1 + m))))
    ∣ s-l+block-node n c ∣ e-node ∙ s-l-comments
-- [186]
rule (ns-l-compact-sequence n) = c-l-block-seq-entry n ∙ (s-indent n ∙ c-l-block-seq-entry n) ⋆
-- 8.2.2 Block Mappings
-- [187]
rule (l+block-mapping n) = some-m λ m. (s-indent (plus n (1 + m)) ∙ ns-l-block-map-entry (plus n (1 + m))) ⁺
-- [188]
rule (ns-l-block-map-entry n) = c-l-block-map-explicit-entry n ∣ ns-l-block-map-implicit-entry n
-- [189]
rule (c-l-block-map-explicit-entry n) = c-l-block-map-explicit-key n ∙ (l-block-map-explicit-value n ∣ ⟨ no-value n ⟩ ∙ e-node)
-- [190]
rule (c-l-block-map-explicit-key n) = ‹ c-mapping-key › ∙ ⟨ sign-ends ⟩ ∙ s-l+block-indented n BlockOut
-- [191]
rule (l-block-map-explicit-value n) = s-indent n ∙ ‹ c-mapping-value › ∙ ⟨ sign-ends ⟩ ∙ s-l+block-indented n BlockOut
-- [192]
rule (ns-l-block-map-implicit-entry n) = (ns-s-block-map-implicit-key ∣ e-node) ∙ c-l-block-map-implicit-value n
-- [193]
rule ns-s-block-map-implicit-key = c-s-implicit-json-key BlockKey ∣ ns-s-implicit-yaml-key BlockKey
-- [194]
rule (c-l-block-map-implicit-value n) = ‹ c-mapping-value › ∙ (s-l+block-node n BlockOut ∣ e-node ∙ s-l-comments)
-- [195]
rule (ns-l-compact-mapping n) = ns-l-block-map-entry n ∙ (s-indent n ∙ ns-l-block-map-entry n) ⋆
-- 8.2.3 Block Nodes
-- [196]
rule (s-l+block-node n c) = s-l+block-in-block n c ∣ s-l+flow-in-block n
-- [197]
rule (s-l+flow-in-block n) = s-separate (plus n 1) FlowOut ∙ ns-flow-node (plus n 1) FlowOut ∙ s-l-comments
-- [198]
rule (s-l+block-in-block n c) = s-l+block-scalar n c ∣ s-l+block-collection n c
-- [199]
rule (s-l+block-scalar n c) = s-separate (plus n 1) c ∙ (c-ns-properties (plus n 1) c ∙ s-separate (plus n 1) c) ⁇ ∙ (c-l+literal n ∣ c-l+folded n)
-- [200]
rule (s-l+block-collection n c) = (s-separate (plus n 1) c ∙ c-ns-properties (plus n 1) c) ⁇ ∙ s-l-comments ∙ (seq-space n c ∣ l+block-mapping n)
-- [201]
rule (seq-space n BlockOut) = l+block-sequence (n -ℤ pos 1)
rule (seq-space n BlockIn) = l+block-sequence n
-- 9.1 Documents
-- [202]
rule l-document-prefix = ‹ c-byte-order-mark › ⁇ ∙ l-comment ⋆
-- [203]
rule c-directives-end = times 3 (‹ x 45 ›)
-- [204]
rule c-document-end = times 3 (‹ x 46 ›)
-- [205]
rule l-document-suffix = c-document-end ∙ s-l-comments
-- [206]
rule c-forbidden = ⟨ start-of-line ⟩ ∙ (c-directives-end ∣ c-document-end) ∙ (‹ b-char › ∣ ‹ s-white › ∣ ⟨ end-of-input ⟩)
-- [207]
rule l-bare-document = excluding-c-forbidden (s-l+block-node (negsuc 0) BlockIn)
-- [208]
rule l-explicit-document = c-directives-end ∙ (l-bare-document ∣ e-node ∙ s-l-comments)
-- [209]
rule l-directive-document = l-directive ⁺ ∙ l-explicit-document
-- [210]
rule l-any-document = l-directive-document ∣ l-explicit-document ∣ l-bare-document
-- 9.2 Streams
-- [211]
rule l-yaml-stream = l-document-prefix ⋆ ∙ l-any-document ⁇
    ∙ (l-document-suffix ⁺ ∙ l-document-prefix ⋆ ∙ l-any-document ⁇ ∣ ‹ c-byte-order-mark › ∣ l-comment ∣ l-explicit-document) ⋆
-- no production, and a production in a context for which the standard has no line
rule e = never
