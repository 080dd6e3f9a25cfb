-- What the tokens of directives, documents and streams (6.8 and 9) state: a clause for each production, and so for all
-- derivations.
use Rattle.std.proofs.Common.{◌≡◌, ℕ, ◌+◌, ◌≤◌, negsuc, false, true, true≢false, List, [], ◌∷◌, ◌++◌, length, refl, sym, ap, ◌∙◌, subst, arith}
use Rattle.std.proofs.lemmas.Bool.{eqb-true}
use Rattle.std.specs.Str.{IsUtf8}
use Rattle.yf_chars.specs.declared.context.Ctx.TheVariants.{BlockIn}
use Rattle.yf_chars.specs.Text.{code, next}
use Rattle.yf_chars.specs.Class.{is_ns_char}
use Rattle.yf_chars.specs.Chain.{Chain}
use Rattle.yf_chars.specs.Chain.Chain.{done, step}
use Rattle.yf_lines.specs.Basic.{SeparateInLine, Clear, is_three}
use Rattle.yf_comments.specs.Comment.{CommentValue}
use Rattle.yf_comments.specs.Comments.{CommentLine, LineEnd}
use Rattle.yf_props.specs.Names.{TagPrefix}
use Rattle.yf_grammar.specs.Productions.Meaning.{Meaning, empty_node, noting}
use Rattle.yf_grammar.specs.Productions.Grammar.Production.{BlockNode}
use Rattle.yf_stream.specs.Stream.{Prefixes, RootNode}
use Rattle.yf_stream.specs.Stream.PrefixPart.{order_mark}
use Rattle.yf_stream.specs.Stream.ExplicitNode.{marked_node, marked_nothing}
use Rattle.yf_standard.specs.Characters.{x, c-directive, c-byte-order-mark}
use Rattle.yf_standard.specs.Notation.{Form}
use Rattle.yf_standard.specs.Notation.Form.{s-separate-in-line, l-comment, s-l-comments, c-tag-handle, e-scalar, e-node, s-l+block-node, l-directive, ns-reserved-directive, ns-directive-name, ns-directive-parameter, ns-yaml-directive, ns-yaml-version, ns-tag-directive, ns-tag-prefix, l-document-prefix, c-directives-end, c-document-end, l-document-suffix, l-bare-document, l-explicit-document, l-directive-document, l-any-document, l-yaml-stream}
use Rattle.yf_standard.specs.Notation.Form.{c-flow-sequence, c-flow-mapping, ns-flow-pair, l+block-sequence, ns-l-compact-sequence, l+block-mapping, ns-l-compact-mapping}
use Rattle.yf_standard.specs.Productions.{rule}
use Rattle.yf_standard.specs.Rules.{read}
use Rattle.yf_standard.specs.Literal.{Derived, kind}
use Rattle.yf_standard.specs.Literal.Kind.{PRODUCTION, COLLECTION}
use Rattle.yf_standard.specs.Literal.Derived.{by_rule, by_collection, clear_of_markers}
use Rattle.yf_standard.specs.Contents.{meant}
use Rattle.yf_standard.specs.Tokens.{Token, notes, tokens, no_tokens, making_tokens, tokens_made, marked_document}
use Rattle.yf_standard.specs.Tokens.Token.{a_scalar, a_document}
use Rattle.yf_standard.proofs.Reading.{FormRead, known, no_operator, no_operator_opens}
use Rattle.yf_standard.proofs.Standing.{StandsFor}
use Rattle.yf_standard.proofs.Zones.{Zone}
use Rattle.yf_standard.proofs.Closed.{closed, not_opening, is_collection}
use Rattle.yf_standard.proofs.Meant.{Then, Either, Perhaps, Character, FormMeans, Meanings, means}
use Rattle.yf_standard.proofs.Meant.Then.{both}
use Rattle.yf_standard.proofs.Meant.Either.{left, right}
use Rattle.yf_standard.proofs.Meant.Perhaps.{missing, given}
use Rattle.yf_standard.proofs.Meant.Character.{character}
use Rattle.yf_standard.proofs.Meant.Empty.{empty}
use Rattle.yf_standard.proofs.Basics.{SomeOf}
use Rattle.yf_standard.proofs.BasicsMeant.{Quiet}
use Rattle.yf_standard.proofs.BasicsMeant.Puts.{puts}
use Rattle.yf_standard.proofs.CommentsMeant.{Noted, lines_noted}
use Rattle.yf_standard.proofs.CommentsMeant.Noted.{noted}
use Rattle.yf_standard.proofs.NamesMeant.{Handled}
use Rattle.yf_standard.proofs.TokensAdded.{Has, names}
use Rattle.yf_standard.proofs.DirectivesRead.{SomeChars}
use Rattle.yf_standard.proofs.PartsRead.{VersionRead, Three}
use Rattle.yf_standard.proofs.StreamsRead.{rows_prefixes}
use Rattle.yf_standard.proofs.SaidParts.{says_same, says_whole, said_noting, node_says, says_empty}
use Rattle.yf_standard.proofs.FlowSaid.{SomeSaid, Unwritten}
use Rattle.yf_standard.proofs.FlowSaid.Unwritten.{unwritten}
use Rattle.yf_standard.proofs.NodesSaid.{Tells, nodes}
use Rattle.yf_standard.proofs.NodeLawsHold.{node_zone}
use Rattle.yf_standard.proofs.DirectivesSaid.{Worded, Parameter, YamlSaid, TagSaid, ReservedSaid, LinesSaid, yaml_means, tag_means, reserved_means, directive_means, all_lines}
use Rattle.yf_standard.proofs.StreamParts.{BareSaid, ExplicitSaid, AnySaid, SuffixOf, StreamIs, stream_is}
use Rattle.yf_standard.proofs.StreamParts.BareSaid.{bare_said}
use Rattle.yf_standard.proofs.StreamParts.ExplicitSaid.{explicit_said}
use Rattle.yf_standard.proofs.StreamParts.SuffixOf.{suffix_of}

-- [202]
prefix_said : {t : List ℕ} {i j : ℕ} {y : List Token} → Then (Perhaps (Character t no_tokens c-byte-order-mark)) (Chain (Noted (CommentLine t))) i j y → Noted (Prefixes t) i j y
unfolding c-byte-order-mark x
prefix_said {t} (both missing r) = go (lines_noted r) where
  go : {i j : ℕ} {y : List Token} → Noted (Chain (CommentLine t)) i j y → Noted (Prefixes t) i j y
  go (noted l) = noted (rows_prefixes l)
prefix_said {t} {i} {j} (both (given (character e)) r) = go (eqb-true (code t i) 0xFEFF e) (lines_noted r) where
  go : {y : List Token} → code t i ≡ 0xFEFF → Noted (Chain (CommentLine t)) (next t i) j y → Noted (Prefixes t) i j y
  go o (noted l) = noted (step (order_mark o) (rows_prefixes l))

-- [205]
suffix_said : {t : List ℕ} {i j : ℕ} {y : List Token} → Then (Quiet (Three t 46)) (Noted (LineEnd t)) i j y → Noted (SuffixOf t) i j y
suffix_said {t} {i} {j} (both (puts h) (noted {x = cs} l)) = noted (suffix_of h.0 (subst (λ z. LineEnd t z j cs) (sym h.1) l))

-- [208]
explicit_means : {t : List ℕ} {e i j : ℕ} {y : List Token} → Then (Quiet (Three t 45)) (Either (BareSaid t e) (Then Unwritten (Noted (LineEnd t)))) i j y → ExplicitSaid t e i j (marked_document y)
unfolding marked_document
explicit_means {t} {e} {i} {j} (both (puts h) (left (bare_said {h = p} {x = m} r o))) = explicit_said (marked_node h.0 (subst (λ z. RootNode t p z j m) (sym h.1) r)) o
explicit_means {t} {e} {i} {j} (both (puts h) (right (both unwritten (noted {x = cs} l)))) =
    subst (λ s. ExplicitSaid t e i j (a_document true s ∷ [])) (sym (says_whole (said_noting (node_says (says_empty (i + 3))) cs)))
    (explicit_said (marked_nothing h.0 (subst (λ z. LineEnd t z j cs) (sym h.1) l)) (omega arith))

-- what the productions of streams state
unfoldable pub Streams : (t : List ℕ) → ℕ → Form → ℕ → ℕ → List Token → Type 0
Streams t e s-separate-in-line i j y = Quiet (SeparateInLine t) i j y
Streams t e l-comment i j y = Noted (CommentLine t) i j y
Streams t e s-l-comments i j y = Noted (LineEnd t) i j y
Streams t e c-tag-handle i j y = Handled t i j y
Streams t e e-scalar i j y = Unwritten i j y
Streams t e e-node i j y = Unwritten i j y
Streams t e ns-directive-name i j y = Worded t (SomeChars t is_ns_char) i j y
Streams t e ns-directive-parameter i j y = Parameter t i j y
Streams t e ns-yaml-version i j y = Worded t (VersionRead t) i j y
Streams t e ns-tag-prefix i j y = Worded t (SomeOf (TagPrefix t)) i j y
Streams t e ns-yaml-directive i j y = YamlSaid t i j y
Streams t e ns-tag-directive i j y = TagSaid t i j y
Streams t e ns-reserved-directive i j y = ReservedSaid t i j y
Streams t e l-directive i j y = LinesSaid t i j y
Streams t e l-document-prefix i j y = Noted (Prefixes t) i j y
Streams t e c-directives-end i j y = Quiet (Three t 45) i j y
Streams t e c-document-end i j y = Quiet (Three t 46) i j y
Streams t e l-document-suffix i j y = Noted (SuffixOf t) i j y
Streams t e l-bare-document i j y = BareSaid t e i j y
Streams t e l-explicit-document i j y = ExplicitSaid t e i j y
Streams t e l-directive-document i j y = Then (LinesSaid t) (ExplicitSaid t e) i j y
Streams t e l-any-document i j y = AnySaid t e i j y
Streams t e l-yaml-stream i j y = i ≡ 0 → j ≡ length t → StreamIs t e y
Streams t e f i j y = Unit {0}

module _ (t : List ℕ) (z : Zone t false) where
  old : {e : ℕ} (f : Form) {i j : ℕ} → z.low ≤ i → j ≤ z.high → kind f ≡ PRODUCTION → Derived (read t) t e (rule f) i j → FormRead t (read t) (StandsFor t z.low false) e f i j
  old f l h q d = known (closed t false z) l h (by_rule q d)

  streams_by : (e : ℕ) (f : Form) (i j : ℕ) (y : List Token) → kind f ≡ PRODUCTION → z.low ≤ i → j ≤ z.high → (d : Derived (read t) t e (rule f) i j)
      → y ≡ tokens d → FormMeans t (read t) no_tokens (Streams t) e (rule f) i j y → Streams t e f i j (making_tokens (read t) t e f i j d y)
  unfolding Streams StandsFor Has Tells rule kind read meant tokens_made c-directive
  streams_by e s-separate-in-line i j y q l h d s m = means {f = s-separate-in-line} (names t z) l h (by_rule q d)
  streams_by e l-comment i j y q l h d s m = subst (λ w. Noted (CommentLine t) i j w) (sym s) (means {f = l-comment} (names t z) l h (by_rule q d))
  streams_by e s-l-comments i j y q l h d s m = subst (λ w. Noted (LineEnd t) i j w) (sym s) (means {f = s-l-comments} (names t z) l h (by_rule q d))
  streams_by e c-tag-handle i j y q l h d s m = means {f = c-tag-handle} (names t z) l h (by_rule q d)
  streams_by e e-scalar i j y q l h d s empty = unwritten
  streams_by e e-node i j y q l h d s m = m
  streams_by e ns-directive-name i j y q l h d s m = puts (old ns-directive-name l h q d)
  streams_by e ns-directive-parameter i j y q l h d s m = puts (old ns-directive-parameter l h q d)
  streams_by e ns-yaml-version i j y q l h d s m = puts (old ns-yaml-version l h q d)
  streams_by e ns-tag-prefix i j y q l h d s m = puts (old ns-tag-prefix l h q d)
  streams_by e ns-yaml-directive i j y q l h d s m = yaml_means m
  streams_by e ns-tag-directive i j y q l h d s m = tag_means m
  streams_by e ns-reserved-directive i j y q l h d s m = reserved_means m
  streams_by e l-directive i j y q l h d s m = directive_means z.utf m
  streams_by e l-document-prefix i j y q l h d s m = prefix_said m
  streams_by e c-directives-end i j y q l h d s (both (character a) (both (character b) (both (character c) empty))) = puts (old c-directives-end l h q d)
  streams_by e c-document-end i j y q l h d s (both (character a) (both (character b) (both (character c) empty))) = puts (old c-document-end l h q d)
  streams_by e l-document-suffix i j y q l h d s m = suffix_said m
  streams_by e l-bare-document i j y q l h (by_rule o d) s m = no_operator o
  streams_by e l-bare-document i j y q l h (by_collection o w d) s m = no_operator_opens o
  streams_by e l-bare-document i j y q l h (clear_of_markers d c) s m =
      let r : SomeSaid t e (BlockNode (negsuc 0) BlockIn) i j (tokens d) = means {f = s-l+block-node (negsuc 0) BlockIn} (nodes t (node_zone t z.utf i j c)) (omega arith) (omega arith) d refl in
      subst (λ s. BareSaid t e i j (a_document false s ∷ [])) (sym (says_whole (says_same (sym s) r.says))) (bare_said (record { derived = r.node; clear = c }) r.fits)
  streams_by e l-explicit-document i j y q l h d s m = explicit_means m
  streams_by e l-directive-document i j y q l h d s (both a n) = both (all_lines a) n
  streams_by e l-any-document i j y q l h d s m = m
  streams_by e l-yaml-stream i j y q l h d s m = λ o p. stream_is z.utf p (subst (λ k. FormMeans t (read t) no_tokens (Streams t) e (rule l-yaml-stream) k j y) o m)
  streams_by e f i j y q l h d s m = tt

  streams_open : (e : ℕ) (f : Form) (i j : ℕ) (y : List Token) → kind f ≡ COLLECTION → Streams t e f i j y
  unfolding Streams kind is_collection
  streams_open e (c-flow-sequence n c) i j y q = tt
  streams_open e (c-flow-mapping n c) i j y q = tt
  streams_open e (ns-flow-pair n c) i j y q = tt
  streams_open e (l+block-sequence n) i j y q = tt
  streams_open e (ns-l-compact-sequence n) i j y q = tt
  streams_open e (l+block-mapping n) i j y q = tt
  streams_open e (ns-l-compact-mapping n) i j y q = tt
  streams_open e f i j y q = not_opening refl q

  pub streams : Meanings t (read t) z.low z.high no_tokens (making_tokens (read t) t) (Streams t)
  streams = record {
    by = λ e f i j y q l h d s m. streams_by e f i j y q l h d s m;
    by_open = λ r e f i j y q w l h d m. streams_open e f i j (making_tokens (read t) t r f i j d y) q;
  }
