-- The standard's productions of chapters 5 and 6 derive, with the reading rules, what the relations of `Basic` and
-- `Comments` derive.
use Rattle.std.proofs.Common.{◌≡◌, ℕ, zero, suc, ◌+◌, ◌<◌, ℤ, pos, negsuc, Bool, true≢false, List, refl, sym, ap, ◌∙◌, subst, arith}
use Rattle.std.proofs.lemmas.Bool.{eq-eqb}
use Rattle.std.proofs.lemmas.Int.{ints}
use Rattle.yf_chars.specs.declared.context.Ctx.{Ctx}
use Rattle.yf_chars.specs.declared.context.Ctx.TheVariants.{BlockOut, BlockIn, FlowOut, FlowIn, BlockKey, FlowKey}
use Rattle.yf_chars.specs.Text.{code}
use Rattle.yf_chars.specs.Chain.{Chain, One, Many}
use Rattle.yf_chars.specs.Chain.Chain.{done, step}
use Rattle.yf_chars.specs.Chain.One.{one}
use Rattle.yf_lines.specs.Basic.{Break, Spaces, Indent, IndentLess, SeparateInLine, FlowPrefix, LinePrefix, Empty, FoldedBreak, FlowFolded}
use Rattle.yf_lines.specs.Basic.Break.{cr_lf, lone_cr, lone_lf}
use Rattle.yf_lines.specs.Basic.Indent.{exactly}
use Rattle.yf_lines.specs.Basic.IndentLess.{fewer}
use Rattle.yf_lines.specs.Basic.SeparateInLine.{by_whites, at_start}
use Rattle.yf_lines.specs.Basic.FlowPrefix.{indented, set_off}
use Rattle.yf_lines.specs.Basic.LinePrefix.{in_block, in_flow}
use Rattle.yf_lines.specs.Basic.Empty.{prefixed, shorter}
use Rattle.yf_lines.specs.Basic.FoldedBreak.{trimmed, as_space}
use Rattle.yf_lines.specs.Basic.FlowFolded.{at_break, past_whites}
use Rattle.yf_comments.specs.Comments.{CommentText, BreakOrEnd, LineRest, CommentLine, LineEnd, SeparateLines, Separate}
use Rattle.yf_comments.specs.Comment.{CommentValue}
use Rattle.yf_comments.specs.Comments.CommentText.{comment_text}
use Rattle.yf_comments.specs.Comments.BreakOrEnd.{by_break, by_end}
use Rattle.yf_comments.specs.Comments.LineRest.{nothing as empty_rest, whites, comment}
use Rattle.yf_comments.specs.Comments.CommentLine.{whites_line, comment_line}
use Rattle.yf_comments.specs.Comments.LineEnd.{past_rest, from_start}
use Rattle.yf_comments.specs.Comments.SeparateLines.{in_line, over_lines}
use Rattle.yf_comments.specs.Comments.Separate.{in_key, in_node}
use Rattle.yf_standard.specs.Characters.{x, s-space, c-comment, b-carriage-return, b-line-feed}
use Rattle.yf_standard.specs.Notation.{Form}
use Rattle.yf_standard.specs.Notation.Form.{‹◌›, ◌⋆, ◌⁺, b-break, b-as-line-feed, b-non-content, s-indent, s-indent-less-than, s-separate-in-line, s-line-prefix, s-flow-line-prefix, l-empty, b-l-folded, s-flow-folded, c-nb-comment-text, b-comment, s-b-comment, l-comment, s-l-comments, s-separate, s-separate-lines}
use Rattle.yf_standard.specs.Productions.{rule}
use Rattle.yf_standard.specs.Rules.{read}
use Rattle.yf_standard.specs.Literal.{Derived, kind}
use Rattle.yf_standard.specs.Literal.Derived.{by_rule, nothing, one_of, one_then, in_left, in_right, absent, present, no_more, one_more, at_least_one, where_holds}
use Rattle.yf_standard.proofs.Sets.{white_is, nb_char_is}
use Rattle.yf_chars.proofs.TextLemmas.{next_ascii}

abbrev pub Read : List ℕ → ℕ → Form → ℕ → ℕ → Type 0
Read t = Derived (read t) t

pub one_char : {room : ℕ} (t : List ℕ) (i d : ℕ) → d < 128 → code t i ≡ d → Read t room (‹ x d ›) i (i + 1)
unfolding x
one_char {room = room} t i d l e = subst (λ k. Read t room (‹ x d ›) i k) (next_ascii t i (omega arith)) (one_of (eq-eqb (code t i) d e))

-- a chain of steps, each derived by a form
pub many_made : {room : ℕ} {A : Type 0} {S : ℕ → ℕ → List A → Type 0} {t : List ℕ} {a : Form} {i j : ℕ} {w : List A}
    → ((i j : ℕ) (w : List A) → S i j w → Read t room a i j) → Chain S i j w → Read t room (a ⋆) i j
many_made {room = room} f done = no_more
many_made {room = room} f (step {i = i} {h = h} {x = y} s c) = one_more (f i h y s) (many_made f c)

pub one_made : {room : ℕ} {t : List ℕ} {s p : ℕ → Bool} → ((c : ℕ) → s c ≡ p c) → (i j : ℕ) (w : List ℕ) → One t p i j w → Read t room (‹ s ›) i j
one_made {room = room} {t = t} e i j w (one {i = k} h) = one_of (e (code t k) ∙ h)

pub chars_made : {room : ℕ} {t : List ℕ} {s p : ℕ → Bool} {i j : ℕ} {w : List ℕ} → ((c : ℕ) → s c ≡ p c) → Many t p i j w → Read t room (‹ s › ⋆) i j
chars_made {room = room} e c = many_made (one_made e) c

pub some_chars_made : {room : ℕ} {t : List ℕ} {s p : ℕ → Bool} {i j : ℕ} {w : List ℕ} → ((c : ℕ) → s c ≡ p c) → Many t p i j w → i < j → Read t room (‹ s › ⁺) i j
some_chars_made {room = room} e done l = absurd (omega arith)
some_chars_made {room = room} e (step {i = i} {h = h} {x = y} s c) l = at_least_one (one_made e i h y s) (chars_made e c)

-- [28]
pub break_made : {room : ℕ} {t : List ℕ} {i j : ℕ} → Break t i j → Read t room b-break i j
unfolding rule kind read b-carriage-return b-line-feed
break_made {room = room} {t = t} (cr_lf {i = i} a b) =
    let two : i + 1 + 1 ≡ i + 2 = omega arith in
    by_rule refl (in_left (one_then (one_char t i 13 (omega arith) a) (subst (λ k. Read t room (‹ x 10 ›) (i + 1) k) two (one_char t (i + 1) 10 (omega arith) b))))
break_made {room = room} {t = t} (lone_cr {i = i} a b) = by_rule refl (in_right (in_left (one_then (one_char t i 13 (omega arith) a) (where_holds b))))
break_made {room = room} {t = t} (lone_lf {i = i} a b) = by_rule refl (in_right (in_right (one_then (where_holds b) (one_char t i 10 (omega arith) a))))

pub feed_made : {room : ℕ} {t : List ℕ} {i j : ℕ} → Break t i j → Read t room b-as-line-feed i j
unfolding rule kind
feed_made {room = room} b = by_rule refl (break_made b)

pub non_content_made : {room : ℕ} {t : List ℕ} {i j : ℕ} → Break t i j → Read t room b-non-content i j
unfolding rule kind
non_content_made {room = room} b = by_rule refl (break_made b)

-- [63] and [64]
spaces_rest : {t : List ℕ} {i k : ℕ} → Spaces t i (suc k) → Spaces t (i + 1) k
spaces_rest {t = t} {i = i} {k = k} s = record { each = λ m l. let q : (i + 1) + m ≡ i + suc m = omega arith in ap (code t) q ∙ s.each (suc m) (omega arith) }

first_space : {room : ℕ} {t : List ℕ} {i k : ℕ} → Spaces t i (suc k) → Read t room (‹ s-space ›) i (i + 1)
unfolding s-space
first_space {room = room} {t = t} {i = i} {k = k} s = let q : i ≡ i + 0 = omega arith in one_char t i 32 (omega arith) (ap (code t) q ∙ s.each 0 (omega arith))

pub indent_made : {room : ℕ} (t : List ℕ) (i k : ℕ) → Spaces t i k → Read t room (s-indent (pos k)) i (i + k)
unfolding rule kind
indent_made {room = room} t i zero s = let q : i ≡ i + 0 = omega arith in subst (λ j. Read t room (s-indent (pos 0)) i j) q (by_rule refl nothing)
indent_made {room = room} t i (suc k) s =
    let q : i + 1 + k ≡ i + suc k = omega arith in
    subst (λ j. Read t room (s-indent (pos (suc k))) i j) q (by_rule refl (one_then (first_space s) (indent_made t (i + 1) k (spaces_rest s))))

pub less_made : {room : ℕ} (t : List ℕ) (i n k : ℕ) → k < suc n → Spaces t i k → Read t room (s-indent-less-than (pos (suc n))) i (i + k)
unfolding rule kind
less_made {room = room} t i zero k l s = let q : i ≡ i + k = omega arith in subst (λ j. Read t room (s-indent-less-than (pos 1)) i j) q (by_rule refl nothing)
less_made {room = room} t i (suc n) zero l s =
    let q : i ≡ i + 0 = omega arith in subst (λ j. Read t room (s-indent-less-than (pos (suc (suc n)))) i j) q (by_rule refl (in_right nothing))
less_made {room = room} t i (suc n) (suc k) l s =
    let q : i + 1 + k ≡ i + suc k = omega arith in
    let r : k < suc n = omega arith in
    subst (λ j. Read t room (s-indent-less-than (pos (suc (suc n)))) i j) q
    (by_rule refl (in_left (one_then (first_space s) (less_made t (i + 1) n k r (spaces_rest s)))))

pub spaces_made : {room : ℕ} {t : List ℕ} {n : ℤ} {i j : ℕ} → Indent t n i j → Read t room (s-indent n) i j
spaces_made {room = room} {t = t} (exactly {i = i} k e s) = subst (λ n. Read t room (s-indent n) i (i + k)) (sym e) (indent_made t i k s)

pub fewer_made : {room : ℕ} {t : List ℕ} {n : ℤ} {i j : ℕ} → IndentLess t n i j → Read t room (s-indent-less-than n) i j
fewer_made {room = room} {t = t} {n = n} d = go n d where
  go : (n : ℤ) {i j : ℕ} → IndentLess t n i j → Read t room (s-indent-less-than n) i j
  go (pos zero) (fewer k l s) = absurd (omega (arith, ints))
  go (pos (suc n)) (fewer {i = i} k l s) = let m : k < suc n = omega (arith, ints) in less_made t i n k m s
  go (negsuc n) (fewer k l s) = absurd (omega (arith, ints))

-- [66] to [74]
pub in_line_made : {room : ℕ} {t : List ℕ} {i j : ℕ} → SeparateInLine t i j → Read t room s-separate-in-line i j
unfolding rule kind read
in_line_made {room = room} (by_whites w l) = by_rule refl (in_left (some_chars_made white_is w l))
in_line_made {room = room} (at_start s) = by_rule refl (in_right (where_holds s))

pub flow_prefix_made : {room : ℕ} {t : List ℕ} {n : ℤ} {i j : ℕ} → FlowPrefix t n i j → Read t room (s-flow-line-prefix n) i j
unfolding rule kind
flow_prefix_made {room = room} (indented d) = by_rule refl (one_then (spaces_made d) absent)
flow_prefix_made {room = room} (set_off d s) = by_rule refl (one_then (spaces_made d) (present (in_line_made s)))

pub line_prefix_made : {room : ℕ} {t : List ℕ} {n : ℤ} {c : Ctx} {i j : ℕ} → LinePrefix t n c i j → Read t room (s-line-prefix n c) i j
unfolding rule kind
line_prefix_made {room = room} {c = BlockOut} (in_block e d) = by_rule refl (by_rule refl (spaces_made d))
line_prefix_made {room = room} {c = BlockIn} (in_block e d) = by_rule refl (by_rule refl (spaces_made d))
line_prefix_made {room = room} {c = FlowOut} (in_block e d) = absurd (true≢false (sym e))
line_prefix_made {room = room} {c = FlowIn} (in_block e d) = absurd (true≢false (sym e))
line_prefix_made {room = room} {c = BlockKey} (in_block e d) = absurd (true≢false (sym e))
line_prefix_made {room = room} {c = FlowKey} (in_block e d) = absurd (true≢false (sym e))
line_prefix_made {room = room} {c = FlowOut} (in_flow e d) = by_rule refl (flow_prefix_made d)
line_prefix_made {room = room} {c = FlowIn} (in_flow e d) = by_rule refl (flow_prefix_made d)
line_prefix_made {room = room} {c = BlockOut} (in_flow e d) = absurd (true≢false (sym e))
line_prefix_made {room = room} {c = BlockIn} (in_flow e d) = absurd (true≢false (sym e))
line_prefix_made {room = room} {c = BlockKey} (in_flow e d) = absurd (true≢false (sym e))
line_prefix_made {room = room} {c = FlowKey} (in_flow e d) = absurd (true≢false (sym e))

pub empty_made : {room : ℕ} {t : List ℕ} {n : ℤ} {c : Ctx} (i j : ℕ) (w : List ℕ) → Empty t n c i j w → Read t room (l-empty n c) i j
unfolding rule kind
empty_made {room = room} i j w (prefixed p b) = by_rule refl (one_then (in_left (line_prefix_made p)) (feed_made b))
empty_made {room = room} i j w (shorter p b) = by_rule refl (one_then (in_right (fewer_made p)) (feed_made b))

pub folded_made : {room : ℕ} {t : List ℕ} {n : ℤ} {c : Ctx} {i j : ℕ} {w : List ℕ} → FoldedBreak t n c i j w → Read t room (b-l-folded n c) i j
unfolding rule kind
folded_made {room = room} (trimmed {h = h} {k = k} {x = y} b e r) =
    by_rule refl (in_left (by_rule refl (one_then (non_content_made b) (at_least_one (empty_made h k y e) (many_made empty_made r)))))
folded_made {room = room} (as_space b) = by_rule refl (in_right (by_rule refl (break_made b)))

pub flow_folded_made : {room : ℕ} {t : List ℕ} {n : ℤ} {i j : ℕ} {w : List ℕ} → FlowFolded t n i j w → Read t room (s-flow-folded n) i j
unfolding rule kind
flow_folded_made {room = room} (at_break f p) = by_rule refl (one_then absent (one_then (folded_made f) (flow_prefix_made p)))
flow_folded_made {room = room} (past_whites s f p) = by_rule refl (one_then (present (in_line_made s)) (one_then (folded_made f) (flow_prefix_made p)))

-- [75] to [81]
pub comment_made : {room : ℕ} {t : List ℕ} {i j : ℕ} {w : List CommentValue} → CommentText t i j w → Read t room c-nb-comment-text i j
unfolding rule kind c-comment
comment_made {room = room} {t = t} (comment_text {i = i} e m b) = by_rule refl (one_then (one_char t i 35 (omega arith) e) (chars_made nb_char_is m))

pub b_comment_made : {room : ℕ} {t : List ℕ} {i j : ℕ} → BreakOrEnd t i j → Read t room b-comment i j
unfolding rule kind read
b_comment_made {room = room} (by_break b) = by_rule refl (in_left (non_content_made b))
b_comment_made {room = room} (by_end e) = by_rule refl (in_right (where_holds e))

pub rest_made : {room : ℕ} {t : List ℕ} {i j : ℕ} {w : List CommentValue} → LineRest t i j w → Read t room s-b-comment i j
unfolding rule kind
rest_made {room = room} (empty_rest b) = by_rule refl (one_then absent (b_comment_made b))
rest_made {room = room} (whites s b) = by_rule refl (one_then (present (one_then (in_line_made s) absent)) (b_comment_made b))
rest_made {room = room} (comment s c b) = by_rule refl (one_then (present (one_then (in_line_made s) (present (comment_made c)))) (b_comment_made b))

pub l_comment_made : {room : ℕ} {t : List ℕ} (i j : ℕ) (w : List CommentValue) → CommentLine t i j w → Read t room l-comment i j
unfolding rule kind
l_comment_made {room = room} i j w (whites_line s b) = by_rule refl (one_then (in_line_made s) (one_then absent (b_comment_made b)))
l_comment_made {room = room} i j w (comment_line s c b) = by_rule refl (one_then (in_line_made s) (one_then (present (comment_made c)) (b_comment_made b)))

pub comments_made : {room : ℕ} {t : List ℕ} {i j : ℕ} {w : List CommentValue} → LineEnd t i j w → Read t room s-l-comments i j
unfolding rule kind read
comments_made {room = room} (past_rest r c) = by_rule refl (one_then (in_left (rest_made r)) (many_made l_comment_made c))
comments_made {room = room} (from_start s c) = by_rule refl (one_then (in_right (where_holds s)) (many_made l_comment_made c))

pub separate_lines_made : {room : ℕ} {t : List ℕ} {n : ℤ} {i j : ℕ} {w : List CommentValue} → SeparateLines t n i j w → Read t room (s-separate-lines n) i j
unfolding rule kind
separate_lines_made {room = room} (in_line s) = by_rule refl (in_right (in_line_made s))
separate_lines_made {room = room} (over_lines e p) = by_rule refl (in_left (one_then (comments_made e) (flow_prefix_made p)))

pub separate_made : {room : ℕ} {t : List ℕ} {n : ℤ} {c : Ctx} {i j : ℕ} {w : List CommentValue} → Separate t n c i j w → Read t room (s-separate n c) i j
unfolding rule kind
separate_made {room = room} {c = BlockKey} (in_key e s) = by_rule refl (in_line_made s)
separate_made {room = room} {c = FlowKey} (in_key e s) = by_rule refl (in_line_made s)
separate_made {room = room} {c = BlockOut} (in_key e s) = absurd (true≢false (sym e))
separate_made {room = room} {c = BlockIn} (in_key e s) = absurd (true≢false (sym e))
separate_made {room = room} {c = FlowOut} (in_key e s) = absurd (true≢false (sym e))
separate_made {room = room} {c = FlowIn} (in_key e s) = absurd (true≢false (sym e))
separate_made {room = room} {c = BlockOut} (in_node e s) = by_rule refl (separate_lines_made s)
separate_made {room = room} {c = BlockIn} (in_node e s) = by_rule refl (separate_lines_made s)
separate_made {room = room} {c = FlowOut} (in_node e s) = by_rule refl (separate_lines_made s)
separate_made {room = room} {c = FlowIn} (in_node e s) = by_rule refl (separate_lines_made s)
separate_made {room = room} {c = BlockKey} (in_node e s) = absurd (true≢false e)
separate_made {room = room} {c = FlowKey} (in_node e s) = absurd (true≢false e)
