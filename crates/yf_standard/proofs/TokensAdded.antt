-- The comments and names of each production of chapters 6, 7 and 8.1: a clause for each, and so for all their
-- derivations.
use Rattle.std.proofs.Common.{◌≡◌, ℕ, ◌≤◌, pos, false, List, refl}
use Rattle.yf_chars.specs.declared.context.Ctx.TheVariants.{BlockOut, BlockIn, FlowOut, FlowIn, BlockKey, FlowKey}
use Rattle.yf_lines.specs.Basic.{Break, Indent, IndentLess, SeparateInLine, FlowPrefix, Empty}
use Rattle.yf_comments.specs.Comments.{CommentText, BreakOrEnd, LineRest, CommentLine, LineEnd, SeparateLines, Separate}
use Rattle.yf_props.specs.Names.{TagChar}
use Rattle.yf_standard.specs.Notation.{Form}
use Rattle.yf_standard.specs.Notation.Chomping.{STRIP, CLIP, KEEP}
use Rattle.yf_standard.specs.Notation.Indicator.{GIVEN, DETECTED}
use Rattle.yf_standard.specs.Notation.Form.{b-break, b-non-content, s-indent, s-separate-in-line, s-flow-line-prefix, c-nb-comment-text, b-comment, s-b-comment, l-comment, s-l-comments, s-separate, s-separate-lines, ns-tag-char, c-tag-handle, c-ns-properties, c-ns-tag-property, c-verbatim-tag, c-ns-shorthand-tag, c-non-specific-tag, c-ns-anchor-property, c-ns-alias-node}
use Rattle.yf_standard.specs.Notation.Form.{s-indent-less-than, s-indent-less-or-equal, l-empty, c-b-block-header, c-indentation-indicator, c-chomping-indicator, b-chomped-last, l-chomped-empty, l-strip-empty, l-keep-empty, l-trail-comments, l-nb-literal-text, b-nb-literal-next, l-literal-content, l-nb-diff-lines, l-folded-content}
use Rattle.yf_standard.specs.Notation.Form.{c-flow-sequence, c-flow-mapping, ns-flow-pair, l+block-sequence, ns-l-compact-sequence, l+block-mapping, ns-l-compact-mapping}
use Rattle.yf_standard.specs.Productions.{rule}
use Rattle.yf_standard.specs.Rules.{read}
use Rattle.yf_standard.specs.Literal.{Derived, kind}
use Rattle.yf_standard.specs.Literal.Kind.{PRODUCTION, COLLECTION}
use Rattle.yf_standard.specs.Literal.Derived.{by_rule}
use Rattle.yf_standard.specs.Tokens.{Token, no_tokens, making_tokens, tokens_made}
use Rattle.yf_standard.specs.TokenLaws.{PropertiesMean}
use Rattle.yf_standard.proofs.Reading.{FormRead, known}
use Rattle.yf_standard.proofs.Standing.{StandsFor}
use Rattle.yf_standard.proofs.Zones.{Zone}
use Rattle.yf_standard.proofs.Closed.{closed, not_opening, is_collection}
use Rattle.yf_standard.proofs.Meant.{FormMeans, Meanings}
use Rattle.yf_standard.proofs.Meant.Either.{left, right}
use Rattle.yf_standard.proofs.Meant.Empty.{empty}
use Rattle.yf_standard.proofs.Meant.Character.{character}
use Rattle.yf_standard.proofs.Basics.{SomeOf}
use Rattle.yf_standard.proofs.BasicsMeant.Puts.{puts}
use Rattle.yf_standard.proofs.CommentsMeant.{Noted, text_noted, end_quiet, rest_noted, line_noted, end_noted, lines_separate_noted, separate_noted, key_separate_noted}
use Rattle.yf_standard.proofs.BasicsMeant.{Quiet, flow_prefix_quiet}
use Rattle.yf_standard.proofs.NamesMeant.{Anchored, Aliased, Handled, Tagged, anchor_means, alias_means, verbatim_means, shorthand_means, non_specific_means, properties_mean}
use Rattle.yf_standard.proofs.NamesMeant.Handled.{handled}
use Rattle.yf_standard.proofs.Texts.{Texts}
use Rattle.yf_standard.proofs.ScalarsRead.{AtWidth, UpTo, IndicatorRead, ChompingRead, SomeEnd, NextText}
use Rattle.yf_standard.proofs.BlockNoted.{HeaderNoted, TrailNoted, EndNoted, ContentNoted, header_noted, trail_noted, strip_noted, keep_noted, literal_noted, folded_noted}

-- the tokens of the productions
unfoldable pub Has : (t : List ℕ) → ℕ → Form → ℕ → ℕ → List Token → Type 0
Has t e b-break i j x = Quiet (Break t) i j x
Has t e b-non-content i j x = Quiet (Break t) i j x
Has t e (s-indent n) i j x = Quiet (Indent t n) i j x
Has t e s-separate-in-line i j x = Quiet (SeparateInLine t) i j x
Has t e (s-flow-line-prefix n) i j x = Quiet (FlowPrefix t n) i j x
Has t e c-nb-comment-text i j x = Noted (CommentText t) i j x
Has t e b-comment i j x = Quiet (BreakOrEnd t) i j x
Has t e s-b-comment i j x = Noted (LineRest t) i j x
Has t e l-comment i j x = Noted (CommentLine t) i j x
Has t e s-l-comments i j x = Noted (LineEnd t) i j x
Has t e (s-separate n c) i j x = Noted (Separate t n c) i j x
Has t e (s-separate-lines n) i j x = Noted (SeparateLines t n) i j x
Has t e ns-tag-char i j x = SomeOf (TagChar t) i j
Has t e c-tag-handle i j x = Handled t i j x
Has t e c-verbatim-tag i j x = Tagged t i j x
Has t e c-ns-shorthand-tag i j x = Tagged t i j x
Has t e c-non-specific-tag i j x = Tagged t i j x
Has t e c-ns-tag-property i j x = Tagged t i j x
Has t e c-ns-anchor-property i j x = Anchored t i j x
Has t e c-ns-alias-node i j x = Aliased t i j x
Has t e (c-ns-properties n c) i j x = PropertiesMean t n c i j x
Has t e (s-indent-less-than n) i j x = Quiet (IndentLess t n) i j x
Has t e (s-indent-less-or-equal n) i j x = Quiet (UpTo t n) i j x
Has t e (l-empty n c) i j x = Quiet (SomeOf (Empty t n c)) i j x
Has t e (c-b-block-header m c) i j x = HeaderNoted t m c i j x
Has t e (c-indentation-indicator m) i j x = Quiet (IndicatorRead t m) i j x
Has t e (c-chomping-indicator c) i j x = Quiet (ChompingRead t c) i j x
Has t e (b-chomped-last c) i j x = Quiet (SomeEnd t) i j x
Has t e (l-chomped-empty n c) i j x = (k : ℕ) → n ≡ pos k → EndNoted t k i j x
Has t e (l-strip-empty n) i j x = (k : ℕ) → n ≡ pos k → EndNoted t k i j x
Has t e (l-keep-empty n) i j x = (k : ℕ) → n ≡ pos k → EndNoted t k i j x
Has t e (l-trail-comments n) i j x = (k : ℕ) → n ≡ pos k → TrailNoted t k i j x
Has t e (l-nb-literal-text n) i j x = Quiet (AtWidth (Texts t) n) i j x
Has t e (b-nb-literal-next n) i j x = Quiet (AtWidth (NextText t) n) i j x
Has t e (l-nb-diff-lines n) i j x = Quiet (AtWidth (Texts t) n) i j x
Has t e (l-literal-content n c) i j x = (k : ℕ) → n ≡ pos k → ContentNoted t k i j x
Has t e (l-folded-content n c) i j x = (k : ℕ) → n ≡ pos k → ContentNoted t k i j x
Has t e f i j x = Unit {0}

module _ (t : List ℕ) (z : Zone t false) where
  old : {e : ℕ} (f : Form) {i j : ℕ} → z.low ≤ i → j ≤ z.high → kind f ≡ PRODUCTION → Derived (read t) t e (rule f) i j → FormRead t (read t) (StandsFor t z.low false) e f i j
  old f l h q d = known (closed t false z) l h (by_rule q d)

  has_by : (e : ℕ) (f : Form) (i j : ℕ) (x : List Token) → kind f ≡ PRODUCTION → z.low ≤ i → j ≤ z.high → (d : Derived (read t) t e (rule f) i j)
      → FormMeans t (read t) no_tokens (Has t) e (rule f) i j x → Has t e f i j (making_tokens (read t) t e f i j d x)
  unfolding Has StandsFor rule kind read tokens_made
  has_by e b-break i j x q l h d m = puts (old b-break l h q d)
  has_by e b-non-content i j x q l h d m = m
  has_by e (s-indent n) i j x q l h d m = puts (old (s-indent n) l h q d)
  has_by e s-separate-in-line i j x q l h d m = puts (old s-separate-in-line l h q d)
  has_by e (s-flow-line-prefix n) i j x q l h d m = flow_prefix_quiet m
  has_by e c-nb-comment-text i j x q l h d m = text_noted (old c-nb-comment-text l h q d)
  has_by e b-comment i j x q l h d m = end_quiet m
  has_by e s-b-comment i j x q l h d m = rest_noted m
  has_by e l-comment i j x q l h d m = line_noted m
  has_by e s-l-comments i j x q l h d m = end_noted m
  has_by e (s-separate n BlockOut) i j x q l h d m = separate_noted refl m
  has_by e (s-separate n BlockIn) i j x q l h d m = separate_noted refl m
  has_by e (s-separate n FlowOut) i j x q l h d m = separate_noted refl m
  has_by e (s-separate n FlowIn) i j x q l h d m = separate_noted refl m
  has_by e (s-separate n BlockKey) i j x q l h d m = key_separate_noted refl m
  has_by e (s-separate n FlowKey) i j x q l h d m = key_separate_noted refl m
  has_by e (s-separate-lines n) i j x q l h d m = lines_separate_noted m
  has_by e ns-tag-char i j x q l h d m = old ns-tag-char l h q d
  has_by e c-tag-handle i j x q l h d m = handled (old c-tag-handle l h q d)
  has_by e c-verbatim-tag i j x q l h d m = verbatim_means (old c-verbatim-tag l h q d)
  has_by e c-ns-shorthand-tag i j x q l h d m = shorthand_means m
  has_by e c-non-specific-tag i j x q l h d m = non_specific_means (old c-non-specific-tag l h q d)
  has_by e c-ns-tag-property i j x q l h d (left m) = m
  has_by e c-ns-tag-property i j x q l h d (right (left m)) = m
  has_by e c-ns-tag-property i j x q l h d (right (right m)) = m
  has_by e c-ns-anchor-property i j x q l h d m = anchor_means (old c-ns-anchor-property l h q d)
  has_by e c-ns-alias-node i j x q l h d m = alias_means (old c-ns-alias-node l h q d)
  has_by e (c-ns-properties n c) i j x q l h d m = properties_mean m
  has_by e (s-indent-less-than n) i j x q l h d m = puts (old (s-indent-less-than n) l h q d)
  has_by e (s-indent-less-or-equal n) i j x q l h d m = puts (old (s-indent-less-or-equal n) l h q d)
  has_by e (l-empty n c) i j x q l h d m = puts (old (l-empty n c) l h q d)
  has_by e (c-b-block-header k c) i j x q l h d m = header_noted m
  has_by e (c-indentation-indicator (GIVEN k)) i j x q l h d (character s) = puts (old (c-indentation-indicator (GIVEN k)) l h q d)
  has_by e (c-indentation-indicator DETECTED) i j x q l h d empty = puts refl
  has_by e (c-chomping-indicator STRIP) i j x q l h d (character s) = puts (old (c-chomping-indicator STRIP) l h q d)
  has_by e (c-chomping-indicator CLIP) i j x q l h d empty = puts refl
  has_by e (c-chomping-indicator KEEP) i j x q l h d (character s) = puts (old (c-chomping-indicator KEEP) l h q d)
  has_by e (b-chomped-last c) i j x q l h d m = puts (old (b-chomped-last c) l h q d)
  has_by e (l-chomped-empty n STRIP) i j x q l h d m = m
  has_by e (l-chomped-empty n CLIP) i j x q l h d m = m
  has_by e (l-chomped-empty n KEEP) i j x q l h d m = m
  has_by e (l-strip-empty n) i j x q l h d m = λ k s. strip_noted m k s
  has_by e (l-keep-empty n) i j x q l h d m = λ k s. keep_noted m k s
  has_by e (l-trail-comments n) i j x q l h d m = λ k s. trail_noted m k s
  has_by e (l-nb-literal-text n) i j x q l h d m = puts (old (l-nb-literal-text n) l h q d)
  has_by e (b-nb-literal-next n) i j x q l h d m = puts (old (b-nb-literal-next n) l h q d)
  has_by e (l-nb-diff-lines n) i j x q l h d m = puts (old (l-nb-diff-lines n) l h q d)
  has_by e (l-literal-content n c) i j x q l h d m = λ k s. literal_noted m k s
  has_by e (l-folded-content n c) i j x q l h d m = λ k s. folded_noted m k s
  has_by e f i j x q l h d m = tt

  -- collections have no condition
  has_open : (e : ℕ) (f : Form) (i j : ℕ) (x : List Token) → kind f ≡ COLLECTION → Has t e f i j x
  unfolding Has kind is_collection
  has_open e (c-flow-sequence n c) i j x q = tt
  has_open e (c-flow-mapping n c) i j x q = tt
  has_open e (ns-flow-pair n c) i j x q = tt
  has_open e (l+block-sequence n) i j x q = tt
  has_open e (ns-l-compact-sequence n) i j x q = tt
  has_open e (l+block-mapping n) i j x q = tt
  has_open e (ns-l-compact-mapping n) i j x q = tt
  has_open e f i j x q = not_opening refl q

  pub names : Meanings t (read t) z.low z.high no_tokens (making_tokens (read t) t) (Has t)
  names = record {
    by = λ e f i j x q l h d s m. has_by e f i j x q l h d m;
    by_open = λ r e f i j x q s l h d m. has_open e f i j (making_tokens (read t) t r f i j d x) q;
  }
