-- White space, line breaks and comments of a separation are passed as they are counted by bytes, up to an offset that
-- isn't within a comment.
use Rattle.std.proofs.Common.{◌≡◌, ◌≢◌, ℕ, ℤ, zero, suc, ◌+◌, ◌-◌, ◌<◌, ◌≤◌, Bool, true, false, List, ◌∷◌, length, take, drop, get_or, min, refl, sym, ◌∙◌, subst, ⊎_elim, arith}
use Rattle.std.proofs.lemmas.Bool.{cases_eq, cases_lt}
use Rattle.std.proofs.lemmas.Bool.Decides.{nat_tests}
use Rattle.std.specs.Str.{IsUtf8}
use Rattle.yf_chars.specs.declared.context.Ctx.{Ctx}
use Rattle.yf_chars.specs.Chain.{Chain, Many}
use Rattle.yf_chars.specs.Chain.Chain.{done, step}
use Rattle.yf_chars.specs.Chain.One.{one}
use Rattle.yf_chars.specs.Class.{is_between, is_break_char, is_nb_char, is_printable, is_white}
use Rattle.yf_chars.specs.Text.{code, next}
use Rattle.yf_chars.proofs.ChainLemmas.{chain_forward, one_functional}
use Rattle.yf_chars.proofs.TextLemmas.{byte_from_code, next_ascii, reads_real}
use Rattle.yf_lines.specs.Basic.{Break, FlowPrefix, SeparateInLine}
use Rattle.yf_lines.specs.Basic.Break.{cr_lf, lone_cr, lone_lf}
use Rattle.yf_lines.specs.Basic.SeparateInLine.{by_whites, at_start}
use Rattle.yf_lines.proofs.BasicLemmas.{break_forward, white_below}
use Rattle.yf_comments.specs.Comment.{CommentValue}
use Rattle.yf_comments.specs.Comments.{BreakOrEnd, CommentLine, CommentText, LineEnd, LineRest, Separate, SeparateLines}
use Rattle.yf_comments.specs.Comments.BreakOrEnd.{by_break, by_end}
use Rattle.yf_comments.specs.Comments.CommentLine.{comment_line, whites_line}
use Rattle.yf_comments.specs.Comments.CommentText.{comment_text}
use Rattle.yf_comments.specs.Comments.LineEnd.{from_start, past_rest}
use Rattle.yf_comments.specs.Comments.LineRest.{comment, nothing, whites}
use Rattle.yf_comments.specs.Comments.Separate.{in_key, in_node}
use Rattle.yf_comments.specs.Comments.SeparateLines.{in_line, over_lines}
use Rattle.yf_comments.proofs.SeparateLemmas.{prefix_whites}
use Rattle.yf_forms.specs.Nodes.ContentStart.{gap_len}
use Rattle.yf_forms.proofs.Texts.GapLemmas.{gap_comment, gap_feed, gap_more, gap_return, gap_sign, gap_space, gap_tab}
use Rattle.yf_laws.proofs.Texts.HighBytes.{high_there}

-- the number of bytes of the gap that are left from an offset on, which is in a comment or not; end: the end of the
-- part of the text
abbrev pub gap_left : List ℕ → ℕ → ℕ → Bool → ℕ
gap_left t end i k = gap_len k (drop i (take (min end (length t)) t))

-- the gap goes on from i to j
abbrev pub Passes : List ℕ → ℕ → ℕ → Bool → ℕ → Bool → Type 0
Passes t end i k j d = (m : ℕ) → m ≡ i + gap_left t end i k → m ≡ j + gap_left t end j d

white_tab : (c : ℕ) → is_white c ≡ true → c ≢ 32 → c ≡ 9
unfolding is_white
white_tab c e n = grind (arith, nat_tests)

no_feed : (c : ℕ) → is_nb_char c ≡ true → c ≢ 10
unfolding is_nb_char is_printable is_between is_break_char
no_feed c e q = grind (arith, nat_tests)

pub no_return : (c : ℕ) → is_nb_char c ≡ true → c ≢ 13
unfolding is_nb_char is_printable is_between is_break_char
no_return c e q = grind (arith, nat_tests)

real : (c : ℕ) → is_nb_char c ≡ true → c < 0x110000
unfolding is_nb_char is_printable is_between is_break_char
real c e = grind (arith, nat_tests)

-- stop: the offset at which it ends
module _ {t : List ℕ} (u : IsUtf8 t) (end stop : ℕ) (low : stop < end) (within : stop < length t) where
  one_byte : (i : ℕ) (k d : Bool) → i < stop → ((bs : List ℕ) → gap_len k (get_or t i 0 ∷ bs) ≡ suc (gap_len d bs)) → Passes t end i k (i + 1) d
  one_byte i k d l f = λ m q. gap_more t end i m k d (omega (arith, l, low, within)) q f

  byte_is : (i c : ℕ) → code t i ≡ c → c < 128 → get_or t i 0 ≡ c
  byte_is i c e l = (byte_from_code t i u (omega (arith, e, l))).1 ∙ e

  -- Whites.

  white_pass : {i : ℕ} → is_white (code t i) ≡ true → i < stop → Passes t end i false (i + 1) false
  white_pass {i} e l = ⊎_elim
      (λ (q : code t i ≡ 32). one_byte i false false l (λ bs. gap_space false (get_or t i 0) bs refl (byte_is i 32 q (omega arith))))
      (λ (q : code t i ≢ 32). one_byte i false false l (λ bs. gap_tab false (get_or t i 0) bs refl (byte_is i 9 (white_tab (code t i) e q) (omega arith))))
      (cases_eq (code t i) 32)

  whites_pass : {i j : ℕ} {x : List ℕ} → Many t is_white i j x → j ≤ stop → Passes t end i false j false
  whites_pass done l = λ m q. q
  whites_pass {j = j} (step (one {i = i} e) c) l =
      let n = next_ascii t i (white_below (code t i) e) in
      let f : next t i ≤ j = chain_forward (one_functional t is_white) c in
      let here : Passes t end i false (next t i) false = subst (λ z. Passes t end i false z false) (sym n) (white_pass e (omega (arith, n, f, l))) in
      λ m q. whites_pass c l m (here m q)

  line_pass : {i j : ℕ} → SeparateInLine t i j → j ≤ stop → Passes t end i false j false
  line_pass (by_whites w n) l = whites_pass w l
  line_pass (at_start s) l = λ m q. q

  -- Breaks.

  return_pass : {i : ℕ} (k : Bool) → code t i ≡ 13 → i < stop → Passes t end i k (i + 1) false
  return_pass {i} k e l = one_byte i k false l (λ bs. gap_return k (get_or t i 0) bs (byte_is i 13 e (omega arith)))

  feed_pass : {i : ℕ} (k : Bool) → code t i ≡ 10 → i < stop → Passes t end i k (i + 1) false
  feed_pass {i} k e l = one_byte i k false l (λ bs. gap_feed k (get_or t i 0) bs (byte_is i 10 e (omega arith)))

  break_pass : {i j : ℕ} (k : Bool) → Break t i j → j ≤ stop → Passes t end i k j false
  break_pass k (cr_lf {i = i} a b) l =
      let two : i + 1 + 1 ≡ i + 2 = omega arith in
      let last : Passes t end (i + 1) false (i + 2) false = subst (λ z. Passes t end (i + 1) false z false) two (feed_pass false b (omega (arith, l))) in
      λ m q. last m (return_pass k a (omega (arith, l)) m q)
  break_pass k (lone_cr a b) l = return_pass k a (omega (arith, l))
  break_pass k (lone_lf a b) l = feed_pass k a (omega (arith, l))

  end_pass : {i j : ℕ} (k : Bool) → BreakOrEnd t i j → j ≤ stop → Passes t end i k j false
  end_pass k (by_break b) l = break_pass k b l
  end_pass k (by_end e) l = absurd (omega (arith, e, l, within))

  break_after : {i j : ℕ} → BreakOrEnd t i j → i ≤ j
  break_after (by_break b) = let f = break_forward b in omega (arith, f)
  break_after (by_end e) = omega arith

  -- Comments.

  bytes_pass : (n i j : ℕ) → j ≡ i + n → j ≤ stop → ((k : ℕ) → k < n → 128 ≤ get_or t (i + k) 0) → Passes t end i true j true
  bytes_pass zero i j e l f = subst (λ z. Passes t end i true z true) (omega (arith, e)) (λ m q. q)
  bytes_pass (suc n) i j e l f =
      let high : 128 ≤ get_or t i 0 = subst (λ z. 128 ≤ get_or t z 0) (omega arith) (f 0 (omega arith)) in
      let here : Passes t end i true (i + 1) true =
      one_byte i true true (omega (arith, e, l)) (λ bs. gap_comment true (get_or t i 0) bs (λ q. absurd (omega (arith, q, high))) (λ q. absurd (omega (arith, q, high))) refl) in
      let rest = bytes_pass n (i + 1) j (omega (arith, e)) l (λ k o. subst (λ z. 128 ≤ get_or t z 0) (omega arith) (f (suc k) (omega (arith, o)))) in
      λ m q. rest m (here m q)

  char_pass : (i : ℕ) → is_nb_char (code t i) ≡ true → next t i ≤ stop → Passes t end i true (next t i) true
  char_pass i e l = ⊎_elim
      (λ (c : code t i < 128).
      let n = next_ascii t i c in
      let at : get_or t i 0 ≡ code t i = byte_is i (code t i) refl c in
      subst (λ z. Passes t end i true z true) (sym n)
      (one_byte i true true (omega (arith, n, l)) (λ bs. gap_comment true (get_or t i 0) bs (λ q. no_feed (code t i) e (sym at ∙ q)) (λ q. no_return (code t i) e (sym at ∙ q)) refl)))
      (λ (c : 128 ≤ code t i).
      let r = reads_real t i u (real (code t i) e) in
      let later : i < next t i = r.later in
      let size : next t i ≡ i + (next t i - i) = omega (arith, later) in
      bytes_pass (next t i - i) i (next t i) size l (λ k o. high_there r c k (omega (arith, o, later))))
      (cases_lt (code t i) 128)

  chars_pass : {i j : ℕ} {x : List ℕ} → Many t is_nb_char i j x → j ≤ stop → Passes t end i true j true
  chars_pass done l = λ m q. q
  chars_pass {j = j} (step (one {i = i} e) c) l =
      let f : next t i ≤ j = chain_forward (one_functional t is_nb_char) c in
      let here = char_pass i e (omega (arith, f, l)) in
      λ m q. chars_pass c l m (here m q)

  text_pass : {i j : ℕ} {x : List CommentValue} → CommentText t i j x → j ≤ stop → Passes t end i false j true
  text_pass (comment_text {i = i} {j = j} e c n) l =
      let f : i + 1 ≤ j = chain_forward (one_functional t is_nb_char) c in
      let here : Passes t end i false (i + 1) true = one_byte i false true (omega (arith, f, l)) (λ bs. gap_sign false (get_or t i 0) bs refl (byte_is i 35 e (omega arith))) in
      λ m q. chars_pass c l m (here m q)

  text_after : {i j : ℕ} {x : List CommentValue} → CommentText t i j x → i ≤ j
  text_after (comment_text e c n) = let f = chain_forward (one_functional t is_nb_char) c in omega (arith, f)

  -- Lines.

  commented_pass : {i h k j : ℕ} {x : List CommentValue} → SeparateInLine t i h → CommentText t h k x → BreakOrEnd t k j → j ≤ stop → Passes t end i false j false
  commented_pass {h = h} {k = k} {j = j} s c b l =
      let f : k ≤ j = break_after b in
      let g : h ≤ k = text_after c in
      λ m q. end_pass true b l m (text_pass c (omega (arith, f, l)) m (line_pass s (omega (arith, f, g, l)) m q))

  blank_pass : {i h j : ℕ} → SeparateInLine t i h → BreakOrEnd t h j → j ≤ stop → Passes t end i false j false
  blank_pass {h = h} {j = j} s b l = let f : h ≤ j = break_after b in λ m q. end_pass false b l m (line_pass s (omega (arith, f, l)) m q)

  rest_pass : {i j : ℕ} {x : List CommentValue} → LineRest t i j x → j ≤ stop → Passes t end i false j false
  rest_pass (nothing b) l = end_pass false b l
  rest_pass (whites s b) l = blank_pass s b l
  rest_pass (comment s c b) l = commented_pass s c b l

  comment_line_pass : {i j : ℕ} {x : List CommentValue} → CommentLine t i j x → j ≤ stop → Passes t end i false j false
  comment_line_pass (whites_line s b) l = blank_pass s b l
  comment_line_pass (comment_line s c b) l = commented_pass s c b l

  line_after : {i j : ℕ} → SeparateInLine t i j → i ≤ j
  line_after (by_whites w n) = omega (arith, n)
  line_after (at_start s) = omega arith

  comment_line_after : {i j : ℕ} {x : List CommentValue} → CommentLine t i j x → i ≤ j
  comment_line_after (whites_line s b) = let f = line_after s in let g = break_after b in omega (arith, f, g)
  comment_line_after (comment_line s c b) = let f = line_after s in let g = text_after c in let h = break_after b in omega (arith, f, g, h)

  lines_after : {i j : ℕ} {x : List CommentValue} → Chain (CommentLine t) i j x → i ≤ j
  lines_after done = omega arith
  lines_after (step s c) = let f = comment_line_after s in let g = lines_after c in omega (arith, f, g)

  lines_pass : {i j : ℕ} {x : List CommentValue} → Chain (CommentLine t) i j x → j ≤ stop → Passes t end i false j false
  lines_pass done l = λ m q. q
  lines_pass (step s c) l = let f = lines_after c in λ m q. lines_pass c l m (comment_line_pass s (omega (arith, f, l)) m q)

  line_end_pass : {i j : ℕ} {x : List CommentValue} → LineEnd t i j x → j ≤ stop → Passes t end i false j false
  line_end_pass (past_rest r c) l = let f = lines_after c in λ m q. lines_pass c l m (rest_pass r (omega (arith, f, l)) m q)
  line_end_pass (from_start s c) l = lines_pass c l

  prefix_pass : {n : ℤ} {i j : ℕ} → FlowPrefix t n i j → j ≤ stop → Passes t end i false j false
  prefix_pass p l = whites_pass (prefix_whites p).1 l

  separate_lines_pass : {n : ℤ} {i j : ℕ} {x : List CommentValue} → SeparateLines t n i j x → j ≤ stop → Passes t end i false j false
  separate_lines_pass (in_line s) l = line_pass s l
  separate_lines_pass (over_lines {h = h} {j = j} d p) l =
      let f : h ≤ j = chain_forward (one_functional t is_white) (prefix_whites p).1 in
      λ m q. prefix_pass p l m (line_end_pass d (omega (arith, f, l)) m q)

  pub separate_pass : {n : ℤ} {c : Ctx} {i j : ℕ} {x : List CommentValue} → Separate t n c i j x → j ≤ stop → Passes t end i false j false
  separate_pass (in_key e s) l = line_pass s l
  separate_pass (in_node e s) l = separate_lines_pass s l
