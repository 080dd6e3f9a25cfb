-- Forms: the right sides of productions (4.1 of the standard), which are the name of a production or made of other
-- forms. ‹ s › is one character of a set, a ∙ b a then b, a ∣ b either, a ⁇ a or nothing, a ⋆ any number of a, a ⁺ one
-- a or more.
use Rattle.std.specs.Prelude.{ℕ, zero, suc, ◌+◌, ℤ, pos, ◌+ℤ◌, ◌==◌, ◌&&◌}
use Rattle.yf_chars.specs.declared.context.Ctx.{Ctx}
use Rattle.yf_chars.specs.declared.context.Ctx.TheVariants.{BlockOut, BlockIn, FlowOut, FlowIn, BlockKey, FlowKey}
use Rattle.yf_standard.specs.Characters.{Set, ◌to◌}

-- t of 8.1.1.2
pub data Chomping : Type 0 where
  STRIP : Chomping
  CLIP : Chomping
  KEEP : Chomping

-- c-indentation-indicator(m): a digit, or nothing if m is to be detected
pub data Indicator : Type 0 where
  GIVEN : ℕ → Indicator
  DETECTED : Indicator

-- conditions on the text at an offset: the standard's, and the reading rules (docs/STANDARD.md)
pub data Condition : Type 0 where
  start-of-line : Condition
  end-of-input : Condition
  lookahead= : Set → Condition
  lookahead≠ : Set → Condition
  lookbehind= : Set → Condition
  -- one break: CR LF is one, and neither CR nor LF in it is a separate break
  not-before-line-feed : Condition
  not-after-carriage-return : Condition
  -- longest names: no character of the name, or of a tag's suffix, follows
  name-ends : Condition
  tag-ends : Condition
  -- reserved names: the name that begins here is neither YAML nor TAG
  reserved-name : Condition
  -- longest scalars: no further line with that indentation, no comment line with fewer spaces, no further comment line
  -- can be taken
  no-line : ℤ → Condition
  no-trail : ℤ → Condition
  no-comment-line : Condition
  -- longest folded lines: no further folded line of a scalar at n can be taken
  no-folded-line : ℤ → Condition
  -- detected indentation (8.1.1.1): the lines from here on, in a collection at n, are indented by k
  auto-detect : ℤ → ℤ → Condition
  -- indicated indentation: k is n + m; n counts as 0 if it is -1
  is-sum : ℤ → ℕ → ℤ → Condition
  -- explicit values: no `:` of the entry at n follows
  no-value : ℤ → Condition
  -- signs of explicit entries: white space, a break or the end follows
  sign-ends : Condition
  -- words of directives: none begins with a comment's sign
  no-comment : Condition

infixr 40 ◌∣◌
infixr 50 ◌∙◌
infixl 70 ◌⁇
infixl 70 ◌⋆
infixl 70 ◌⁺
infixl 70 ◌less◌
pub data Form : Type 0 where
  ε : Form
  never : Form
  ‹◌› : Set → Form
  ◌∙◌ : Form → Form → Form
  ◌∣◌ : Form → Form → Form
  ◌⁇ : Form → Form
  ◌⋆ : Form → Form
  ◌⁺ : Form → Form
  -- a text that a derives and that does not begin with a character of the set: the standard's -
  ◌less◌ : Form → Set → Form
  ⟨◌⟩ : Condition → Form
  -- for one m, one k
  some-m : (ℕ → Form) → Form
  some-k : (ℤ → Form) → Form
  at-most : ℕ → Form → Form
  excluding-c-forbidden : Form → Form
  -- 5
  b-break : Form
  b-as-line-feed : Form
  b-non-content : Form
  ns-uri-char : Form
  ns-tag-char : Form
  ns-esc-8-bit : Form
  ns-esc-16-bit : Form
  ns-esc-32-bit : Form
  c-ns-esc-char : Form
  -- 6
  s-indent : ℤ → Form
  s-indent-less-than : ℤ → Form
  s-indent-less-or-equal : ℤ → Form
  s-separate-in-line : Form
  s-line-prefix : ℤ → Ctx → Form
  s-block-line-prefix : ℤ → Form
  s-flow-line-prefix : ℤ → Form
  l-empty : ℤ → Ctx → Form
  b-l-trimmed : ℤ → Ctx → Form
  b-as-space : Form
  b-l-folded : ℤ → Ctx → Form
  s-flow-folded : ℤ → Form
  c-nb-comment-text : Form
  b-comment : Form
  s-b-comment : Form
  l-comment : Form
  s-l-comments : Form
  s-separate : ℤ → Ctx → Form
  s-separate-lines : ℤ → Form
  l-directive : Form
  ns-reserved-directive : Form
  ns-directive-name : Form
  ns-directive-parameter : Form
  ns-yaml-directive : Form
  ns-yaml-version : Form
  ns-tag-directive : Form
  c-tag-handle : Form
  c-primary-tag-handle : Form
  c-secondary-tag-handle : Form
  c-named-tag-handle : Form
  ns-tag-prefix : Form
  c-ns-local-tag-prefix : Form
  ns-global-tag-prefix : Form
  c-ns-properties : ℤ → Ctx → Form
  c-ns-tag-property : Form
  c-verbatim-tag : Form
  c-ns-shorthand-tag : Form
  c-non-specific-tag : Form
  c-ns-anchor-property : Form
  ns-anchor-name : Form
  -- 7
  c-ns-alias-node : Form
  e-scalar : Form
  e-node : Form
  nb-double-char : Form
  ns-double-char : Form
  c-double-quoted : ℤ → Ctx → Form
  nb-double-text : ℤ → Ctx → Form
  nb-double-one-line : Form
  s-double-escaped : ℤ → Form
  s-double-break : ℤ → Form
  nb-ns-double-in-line : Form
  s-double-next-line : ℤ → Form
  nb-double-multi-line : ℤ → Form
  c-quoted-quote : Form
  nb-single-char : Form
  ns-single-char : Form
  c-single-quoted : ℤ → Ctx → Form
  nb-single-text : ℤ → Ctx → Form
  nb-single-one-line : Form
  nb-ns-single-in-line : Form
  s-single-next-line : ℤ → Form
  nb-single-multi-line : ℤ → Form
  ns-plain-first : Ctx → Form
  ns-plain-char : Ctx → Form
  ns-plain : ℤ → Ctx → Form
  nb-ns-plain-in-line : Ctx → Form
  ns-plain-one-line : Ctx → Form
  s-ns-plain-next-line : ℤ → Ctx → Form
  ns-plain-multi-line : ℤ → Ctx → Form
  in-flow : ℤ → Ctx → Form
  c-flow-sequence : ℤ → Ctx → Form
  ns-s-flow-seq-entries : ℤ → Ctx → Form
  ns-flow-seq-entry : ℤ → Ctx → Form
  c-flow-mapping : ℤ → Ctx → Form
  ns-s-flow-map-entries : ℤ → Ctx → Form
  ns-flow-map-entry : ℤ → Ctx → Form
  ns-flow-map-explicit-entry : ℤ → Ctx → Form
  ns-flow-map-implicit-entry : ℤ → Ctx → Form
  ns-flow-map-yaml-key-entry : ℤ → Ctx → Form
  c-ns-flow-map-empty-key-entry : ℤ → Ctx → Form
  c-ns-flow-map-separate-value : ℤ → Ctx → Form
  c-ns-flow-map-json-key-entry : ℤ → Ctx → Form
  c-ns-flow-map-adjacent-value : ℤ → Ctx → Form
  ns-flow-pair : ℤ → Ctx → Form
  ns-flow-pair-entry : ℤ → Ctx → Form
  ns-flow-pair-yaml-key-entry : ℤ → Ctx → Form
  c-ns-flow-pair-json-key-entry : ℤ → Ctx → Form
  ns-s-implicit-yaml-key : Ctx → Form
  c-s-implicit-json-key : Ctx → Form
  ns-flow-yaml-content : ℤ → Ctx → Form
  c-flow-json-content : ℤ → Ctx → Form
  ns-flow-content : ℤ → Ctx → Form
  ns-flow-yaml-node : ℤ → Ctx → Form
  c-flow-json-node : ℤ → Ctx → Form
  ns-flow-node : ℤ → Ctx → Form
  -- 8
  c-b-block-header : Indicator → Chomping → Form
  c-indentation-indicator : Indicator → Form
  c-chomping-indicator : Chomping → Form
  b-chomped-last : Chomping → Form
  l-chomped-empty : ℤ → Chomping → Form
  l-strip-empty : ℤ → Form
  l-keep-empty : ℤ → Form
  l-trail-comments : ℤ → Form
  c-l+literal : ℤ → Form
  l-nb-literal-text : ℤ → Form
  b-nb-literal-next : ℤ → Form
  l-literal-content : ℤ → Chomping → Form
  c-l+folded : ℤ → Form
  s-nb-folded-text : ℤ → Form
  l-nb-folded-lines : ℤ → Form
  s-nb-spaced-text : ℤ → Form
  b-l-spaced : ℤ → Form
  l-nb-spaced-lines : ℤ → Form
  l-nb-same-lines : ℤ → Form
  l-nb-diff-lines : ℤ → Form
  l-folded-content : ℤ → Chomping → Form
  l+block-sequence : ℤ → Form
  c-l-block-seq-entry : ℤ → Form
  s-l+block-indented : ℤ → Ctx → Form
  ns-l-compact-sequence : ℤ → Form
  l+block-mapping : ℤ → Form
  ns-l-block-map-entry : ℤ → Form
  c-l-block-map-explicit-entry : ℤ → Form
  c-l-block-map-explicit-key : ℤ → Form
  l-block-map-explicit-value : ℤ → Form
  ns-l-block-map-implicit-entry : ℤ → Form
  ns-s-block-map-implicit-key : Form
  c-l-block-map-implicit-value : ℤ → Form
  ns-l-compact-mapping : ℤ → Form
  s-l+block-node : ℤ → Ctx → Form
  s-l+flow-in-block : ℤ → Form
  s-l+block-in-block : ℤ → Ctx → Form
  s-l+block-scalar : ℤ → Ctx → Form
  s-l+block-collection : ℤ → Ctx → Form
  seq-space : ℤ → Ctx → Form
  -- 9
  l-document-prefix : Form
  c-directives-end : Form
  c-document-end : Form
  l-document-suffix : Form
  c-forbidden : Form
  l-bare-document : Form
  l-explicit-document : Form
  l-directive-document : Form
  l-any-document : Form
  l-yaml-stream : Form

-- a{k}
abbrev pub times : ℕ → Form → Form
times zero a = ε
times (suc k) a = a ∙ times k a

-- n + m, n - 1
abbrev pub plus : ℤ → ℕ → ℤ
plus n m = n +ℤ pos m

-- for one t
abbrev pub some-t : (Chomping → Form) → Form
some-t f = f STRIP ∣ f CLIP ∣ f KEEP

-- in-flow(c) of 140: the context of the parts of 136
abbrev pub in-flow-context : Ctx → Ctx
in-flow-context FlowOut = FlowIn
in-flow-context FlowIn = FlowIn
in-flow-context BlockKey = FlowKey
in-flow-context FlowKey = FlowKey
in-flow-context BlockOut = BlockOut
in-flow-context BlockIn = BlockIn

-- [x31-x39] with the value m
unfoldable pub digit-of : ℕ → Set
digit-of m c = (0x31 to 0x39) c && (c == 48 + m)
