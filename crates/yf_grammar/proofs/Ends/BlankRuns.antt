-- Runs of white space and breaks: the starts of separations, and the characters of a plain scalar after such runs.
use Rattle.std.proofs.Common.{◌≡◌, ◌≢◌, ℕ, ℤ, ◌+◌, ◌<◌, ◌≤◌, Bool, true, false, ◌||◌, ◌⊎◌, inl, inr, ⊎_elim, List, [], ◌∷◌, ◌++◌, refl, sym, ap, ◌∙◌, subst, arith, true≢false}
use Rattle.std.proofs.lemmas.Bool.{cases_Bool, cases_eq}
use Rattle.std.proofs.lemmas.Bool.Decides.{nat_tests}
use Rattle.std.specs.Str.{IsUtf8}
use Rattle.yf_chars.specs.declared.context.Ctx.{Ctx}
use Rattle.yf_chars.specs.Text.{code, next, before, CharAt}
use Rattle.yf_chars.specs.Class.{is_white, is_break_char, is_ns_char}
use Rattle.yf_chars.specs.Chain.{Chain, Many}
use Rattle.yf_chars.specs.Chain.Chain.{done, step}
use Rattle.yf_chars.specs.Chain.One.{one}
use Rattle.yf_chars.proofs.TextLemmas.{next_ascii, reads_real, reads_byte}
use Rattle.yf_chars.proofs.ChainLemmas.{chain_append, chain_forward, one_functional, many_unique}
use Rattle.yf_lines.specs.Basic.{Break, LineStart, SeparateInLine, FlowPrefix, LinePrefix, IndentLess, Indent, Empty, FoldedBreak, FlowFolded}
use Rattle.yf_lines.specs.Basic.Break.{cr_lf, lone_cr, lone_lf}
use Rattle.yf_lines.specs.Basic.SeparateInLine.{by_whites, at_start}
use Rattle.yf_lines.specs.Basic.LinePrefix.{in_block, in_flow}
use Rattle.yf_lines.specs.Basic.IndentLess.{fewer}
use Rattle.yf_lines.specs.Basic.FlowPrefix.{indented}
use Rattle.yf_lines.specs.Basic.Empty.{prefixed, shorter}
use Rattle.yf_lines.specs.Basic.FoldedBreak.{trimmed, as_space}
use Rattle.yf_lines.specs.Basic.FlowFolded.{at_break, past_whites}
use Rattle.yf_lines.proofs.ClearLemmas.{line_start_after}
use Rattle.yf_comments.specs.Comment.{CommentValue}
use Rattle.yf_comments.specs.Comments.{BreakOrEnd, LineRest, CommentLine, LineEnd, SeparateLines, Separate}
use Rattle.yf_comments.specs.Comments.BreakOrEnd.{by_break, by_end}
use Rattle.yf_comments.specs.Comments.LineRest.{nothing, whites, comment}
use Rattle.yf_comments.specs.Comments.CommentLine.{whites_line, comment_line}
use Rattle.yf_comments.specs.Comments.LineEnd.{past_rest, from_start}
use Rattle.yf_comments.specs.Comments.SeparateLines.{in_line, over_lines}
use Rattle.yf_comments.specs.Comments.Separate.{in_key, in_node}
use Rattle.yf_comments.proofs.RowLemmas.{separate_whites, text_hash}
use Rattle.yf_comments.proofs.SeparateLemmas.{prefix_whites, spaces_whites}
use Rattle.yf_plain.proofs.PlainLemmas.{ns_cr, white_not_ns}
use Rattle.yf_chars.proofs.CharFacts.{feed_no_ns, mark_no_ns}

-- white space or a character of a break
unfoldable pub is_blank : ℕ → Bool
is_blank c = is_white c || is_break_char c

pub blank_of_white : (c : ℕ) → is_white c ≡ true → is_blank c ≡ true
unfolding is_blank
blank_of_white c e = rw e refl

blank_cr : (c : ℕ) → c ≡ 13 → is_blank c ≡ true
unfolding is_blank is_white is_break_char
blank_cr c e = ap is_blank e

blank_lf : (c : ℕ) → c ≡ 10 → is_blank c ≡ true
unfolding is_blank is_white is_break_char
blank_lf c e = ap is_blank e

pub blank_not_ns : (c : ℕ) → is_blank c ≡ true → is_ns_char c ≡ false
unfolding is_blank is_break_char
blank_not_ns c e = ⊎_elim
    (λ (w : is_white c ≡ true). white_not_ns c w)
    (λ (w : is_white c ≡ false).
    ⊎_elim (λ (f : c ≡ 10). ap is_ns_char f ∙ feed_no_ns) (λ (f : c ≢ 10).
    ⊎_elim (λ (g : c ≡ 13). ap is_ns_char g ∙ ns_cr) (λ (g : c ≢ 13). grind (arith, nat_tests))
    (cases_eq c 13)) (cases_eq c 10))
    (cases_Bool (is_white c))

pub ns_not_blank : (c : ℕ) → is_ns_char c ≡ true → is_blank c ≡ false
ns_not_blank c e = ⊎_elim (λ (b : is_blank c ≡ true). absurd (true≢false (sym e ∙ blank_not_ns c b))) (λ (b : is_blank c ≡ false). b) (cases_Bool (is_blank c))

blank_below : (c : ℕ) → is_blank c ≡ true → c < 128
unfolding is_blank is_white is_break_char
blank_below c e = grind (arith, nat_tests)

-- some run of such characters
abbrev pub Blanks : List ℕ → ℕ → ℕ → Type 0
Blanks t i j = (x : List ℕ) × Many t is_blank i j x

module _ {t : List ℕ} where
  pub no_blanks : {i : ℕ} → Blanks t i i
  no_blanks = ([], done)

  pub blanks_join : {i j k : ℕ} → Blanks t i j → Blanks t j k → Blanks t i k
  blanks_join a b = (a.0 ++ b.0, chain_append a.1 b.1)

  pub blanks_forward : {i j : ℕ} → Blanks t i j → i ≤ j
  blanks_forward a = chain_forward (one_functional t is_blank) a.1

  pub blanks_unique : {i j k : ℕ} → Blanks t i j → is_blank (code t j) ≡ false → Blanks t i k → is_blank (code t k) ≡ false → j ≡ k
  blanks_unique a e b f = (many_unique t is_blank a.1 e b.1 f).0

  pub blanks_of_whites : {i j : ℕ} {x : List ℕ} → Many t is_white i j x → Blanks t i j
  blanks_of_whites done = no_blanks
  blanks_of_whites (step (one {i = i} e) c) = let r = blanks_of_whites c in (_, step (one (blank_of_white (code t i) e)) r.1)

  blank_one : (i : ℕ) → is_blank (code t i) ≡ true → Blanks t i (i + 1)
  blank_one i e =
      let q : next t i ≡ i + 1 = next_ascii t i (blank_below (code t i) e) in
      subst (λ k. Blanks t i k) q (code t i ∷ [], step (one e) done)

  pub blanks_of_break : {i j : ℕ} → Break t i j → Blanks t i j
  blanks_of_break (cr_lf {i = i} a b) =
      let q : (i + 1) + 1 ≡ i + 2 = omega arith in
      subst (λ k. Blanks t i k) q (blanks_join (blank_one i (blank_cr (code t i) a)) (blank_one (i + 1) (blank_lf (code t (i + 1)) b)))
  blanks_of_break (lone_cr {i = i} a b) = blank_one i (blank_cr (code t i) a)
  blanks_of_break (lone_lf {i = i} a b) = blank_one i (blank_lf (code t i) a)

  blanks_of_line : {i j : ℕ} → SeparateInLine t i j → Blanks t i j
  blanks_of_line s = blanks_of_whites (separate_whites s).1

  blanks_of_end : {i j : ℕ} → BreakOrEnd t i j → Blanks t i j
  blanks_of_end (by_break b) = blanks_of_break b
  blanks_of_end (by_end e) = no_blanks

  blanks_of_indent : {n : ℤ} {i j : ℕ} → Indent t n i j → Blanks t i j
  blanks_of_indent d = blanks_of_whites (prefix_whites (indented d)).1

  blanks_of_less : {n : ℤ} {i j : ℕ} → IndentLess t n i j → Blanks t i j
  blanks_of_less (fewer {i = i} k e s) = blanks_of_whites (spaces_whites t i k s).1

  blanks_of_prefix : {n : ℤ} {i j : ℕ} → FlowPrefix t n i j → Blanks t i j
  blanks_of_prefix p = blanks_of_whites (prefix_whites p).1

  blanks_of_line_prefix : {n : ℤ} {c : Ctx} {i j : ℕ} → LinePrefix t n c i j → Blanks t i j
  blanks_of_line_prefix (in_block e d) = blanks_of_indent d
  blanks_of_line_prefix (in_flow e p) = blanks_of_prefix p

  blanks_of_empty : {n : ℤ} {c : Ctx} {i j : ℕ} {x : List ℕ} → Empty t n c i j x → Blanks t i j
  blanks_of_empty (prefixed p b) = blanks_join (blanks_of_line_prefix p) (blanks_of_break b)
  blanks_of_empty (shorter p b) = blanks_join (blanks_of_less p) (blanks_of_break b)

  blanks_of_empties : {n : ℤ} {c : Ctx} {i j : ℕ} {x : List ℕ} → Chain (Empty t n c) i j x → Blanks t i j
  blanks_of_empties done = no_blanks
  blanks_of_empties (step s c) = blanks_join (blanks_of_empty s) (blanks_of_empties c)

  blanks_of_folded : {n : ℤ} {c : Ctx} {i j : ℕ} {x : List ℕ} → FoldedBreak t n c i j x → Blanks t i j
  blanks_of_folded (trimmed b e c) = blanks_join (blanks_of_break b) (blanks_join (blanks_of_empty e) (blanks_of_empties c))
  blanks_of_folded (as_space b) = blanks_of_break b

  pub blanks_of_fold : {n : ℤ} {i j : ℕ} {x : List ℕ} → FlowFolded t n i j x → Blanks t i j
  blanks_of_fold (at_break d p) = blanks_join (blanks_of_folded d) (blanks_of_prefix p)
  blanks_of_fold (past_whites s d p) = blanks_join (blanks_of_line s) (blanks_join (blanks_of_folded d) (blanks_of_prefix p))

-- the start of a separation: it is blank throughout, or a comment follows the first blanks; if there are no blanks, a
-- line begins at the comment
pub data Front (t : List ℕ) (i j : ℕ) : Type 0 where
  all_blank : Blanks t i j → Front t i j
  hash_at : (h : ℕ) → Blanks t i h → code t h ≡ 35 → (i ≡ h → LineStart t i) → Front t i j

module _ {t : List ℕ} where
  line_start_there : {i h : ℕ} → SeparateInLine t i h → i ≡ h → LineStart t i
  line_start_there (by_whites m l) e = absurd (omega arith)
  line_start_there (at_start s) e = s

  front_join : {i h j : ℕ} → Front t i h → Front t h j → Front t i j
  front_join (hash_at k b e s) g = hash_at k b e s
  front_join (all_blank a) (all_blank b) = all_blank (blanks_join a b)
  front_join {i} {h} (all_blank a) (hash_at k b e s) =
      let f = blanks_forward a in
      let g = blanks_forward b in
      hash_at k (blanks_join a b) e (λ q. let same : h ≡ i = omega arith in subst (λ v. LineStart t v) same (s (omega arith)))

  rest_front : {i j : ℕ} {x : List CommentValue} → LineRest t i j x → Front t i j
  rest_front (nothing e) = all_blank (blanks_of_end e)
  rest_front (whites s e) = all_blank (blanks_join (blanks_of_line s) (blanks_of_end e))
  rest_front (comment {h = h} s d e) = hash_at h (blanks_of_line s) (text_hash d) (λ q. line_start_there s q)

  line_front : {i j : ℕ} {x : List CommentValue} → CommentLine t i j x → Front t i j
  line_front (whites_line s e) = all_blank (blanks_join (blanks_of_line s) (blanks_of_end e))
  line_front (comment_line {h = h} s d e) = hash_at h (blanks_of_line s) (text_hash d) (λ q. line_start_there s q)

  lines_front : {i j : ℕ} {x : List CommentValue} → Chain (CommentLine t) i j x → Front t i j
  lines_front done = all_blank no_blanks
  lines_front (step s c) = front_join (line_front s) (lines_front c)

  line_end_front : {i j : ℕ} {x : List CommentValue} → LineEnd t i j x → Front t i j
  line_end_front (past_rest r c) = front_join (rest_front r) (lines_front c)
  line_end_front (from_start s c) = lines_front c

  separate_lines_front : {n : ℤ} {i j : ℕ} {x : List CommentValue} → SeparateLines t n i j x → Front t i j
  separate_lines_front (in_line s) = all_blank (blanks_of_line s)
  separate_lines_front (over_lines d p) = front_join (line_end_front d) (all_blank (blanks_of_prefix p))

  pub separate_front : {n : ℤ} {c : Ctx} {i j : ℕ} {x : List CommentValue} → Separate t n c i j x → Front t i j
  separate_front (in_key e s) = all_blank (blanks_of_line s)
  separate_front (in_node e s) = separate_lines_front s

-- a character of content ends at the offset
pub record ContentBefore (t : List ℕ) (k : ℕ) : Type 0 where
  pub at : ℕ
  pub char : ℕ
  pub reads : CharAt t at char k
  pub ns : is_ns_char char ≡ true

pub after_byte : {t : List ℕ} (i : ℕ) {b : ℕ} → IsUtf8 t → code t i ≡ b → b < 128 → is_ns_char b ≡ true → ContentBefore t (i + 1)
after_byte {t} i {b} u e l n = record { at = i; char = b; reads = reads_byte t i b u e l; ns = n }

-- no line begins after such a character
pub no_start_past : {t : List ℕ} {k : ℕ} → IsUtf8 t → ContentBefore t k → LineStart t k → ⊥
no_start_past {t} {k} u b s =
    let r = b.reads in
    ⊎_elim (λ (z : k ≡ 0). absurd (omega (arith, r.later)))
    (λ (w : (h : ℕ) × (d : ℕ) × CharAt t h d k × ((d ≡ 10) ⊎ ((d ≡ 13) ⊎ (d ≡ 0xFEFF)))).
    let same : b.char ≡ w.1 = sym r.back ∙ w.2.back in
    let n : is_ns_char w.1 ≡ true = ap is_ns_char (sym same) ∙ b.ns in
    ⊎_elim (λ (e : w.1 ≡ 10). true≢false (sym n ∙ ap is_ns_char e ∙ feed_no_ns))
    (λ (o : (w.1 ≡ 13) ⊎ (w.1 ≡ 0xFEFF)).
    ⊎_elim (λ (e : w.1 ≡ 13). true≢false (sym n ∙ ap is_ns_char e ∙ ns_cr))
    (λ (e : w.1 ≡ 0xFEFF). true≢false (sym n ∙ ap is_ns_char e ∙ mark_no_ns)) o) w.3)
    (line_start_after u s)

-- no character of content ends after blanks
pub blanks_after : {t : List ℕ} {i j : ℕ} {x : List ℕ} → IsUtf8 t → Many t is_blank i j x → (i ≡ j) ⊎ (is_ns_char (before t j) ≡ false)
blanks_after u done = inl refl
blanks_after {t} {j = j} u (step (one {i = i} e) c) =
    let low = blank_below (code t i) e in
    let r : CharAt t i (code t i) (next t i) = reads_real t i u (omega arith) in
    ⊎_elim (λ (h : next t i ≡ j). inr (subst (λ k. is_ns_char (before t k) ≡ false) h (ap is_ns_char r.back ∙ blank_not_ns (code t i) e)))
    (λ (h : is_ns_char (before t j) ≡ false). inr h) (blanks_after u c)

pub blank_of_hash : is_blank 35 ≡ false
unfolding is_blank is_white is_break_char
blank_of_hash = refl
