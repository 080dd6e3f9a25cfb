-- A prefix derives comments, ends of lines and separations as the text does; and two alike texts have the same rests of
-- lines.
use Rattle.std.proofs.Common.{◌≡◌, ℕ, ◌+◌, ◌-◌, ◌<◌, ◌≤◌, ℤ, ⊎_elim, Bool, true, false, true≢false, List, ◌++◌, length, refl, sym, ap, ◌∙◌, subst, arith}
use Rattle.std.proofs.lemmas.Bool.{cases_lt}
use Rattle.std.specs.Str.{IsUtf8}
use Rattle.yf_chars.specs.Text.{code, next, before, no_char}
use Rattle.yf_chars.specs.Chain.{Many, Chosen}
use Rattle.yf_chars.specs.Chain.Chain.{done, step}
use Rattle.yf_chars.specs.Chain.One.{one}
use Rattle.yf_chars.specs.Class.{is_white, is_nb_char, is_printable, is_break_char, is_between}
use Rattle.yf_chars.specs.declared.context.Ctx.{Ctx}
use Rattle.yf_chars.proofs.ChainLemmas.{chain_forward, chain_more, one_functional}
use Rattle.yf_chars.proofs.CharBounds.{nb_below}
use Rattle.yf_chars.proofs.TextLemmas.{reads_real, next_ascii, next_later}
use Rattle.yf_lines.specs.Basic.{by_whites, at_start}
use Rattle.yf_lines.proofs.BasicLemmas.{break_forward, white_below}
use Rattle.yf_lines.proofs.LineLemmas.{break_within}
use Rattle.yf_comments.specs.Comment.{CommentValue}
use Rattle.yf_comments.specs.Comments.{Blank, text_begins, break_ends, white_ends, is_gap, BlankBefore, blank_line, past_gap, HasBlankNote, noted, not_noted, CommentText, comment_text, BreakOrEnd, by_break, by_end, LineRest, nothing, whites, comment, CommentLine, whites_line, comment_line, LineEnd, past_rest, from_start, SeparateLines, in_line, over_lines, Separate, in_key, in_node, Row}
use Rattle.yf_comments.proofs.BlankLemmas.{white_cr}
use Rattle.yf_comments.proofs.LineOrder.{line_end_forward, rest_forward}
use Rattle.yf_comments.proofs.RowLemmas.{break_or_end_forward}
use Rattle.yf_comments.proofs.LineEndLemmas.{line_end_rows, rows_line_end, line_end_chosen}
use Rattle.yf_grammar.proofs.Prefixes.PrefixTexts.{Alike, FeedOrReturn, alike_back, alike_next, alike_slice}
use Rattle.yf_grammar.proofs.Prefixes.PrefixLines.{Carried, chain_order, chain_there, passes_there, char_there, run_there, run_order, break_there, start_there, in_line_there, prefix_there, prefix_order}
use Rattle.yf_chars.proofs.CharFacts.{return_no_nb, feed_no_nb, feed_no_white}

end_within : {t : List ℕ} {i j : ℕ} → BreakOrEnd t i j → j ≤ length t
end_within (by_break b) = break_within b
end_within (by_end e) = omega arith

pub rest_within : {t : List ℕ} {i j : ℕ} {x : List CommentValue} → LineRest t i j x → j ≤ length t
rest_within (nothing e) = end_within e
rest_within (whites d e) = end_within e
rest_within (comment d q e) = end_within e

run_last : {t : List ℕ} (p : ℕ → Bool) {i j : ℕ} {x : List ℕ} → IsUtf8 t → ((c : ℕ) → p c ≡ true → c < no_char) → Many t p i j x → i < j → p (before t j) ≡ true
run_last p u low done l = absurd (omega arith)
run_last {t} p u low (step (one {i = i} e) done) l = ap p (reads_real t i u (low (code t i) e)).back ∙ e
run_last {t} p u low (step o (step (one {i = h} q) m)) l =
    let f = next_later t h in
    let g = chain_forward (one_functional t p) m in
    run_last p u low (step (one q) m) (omega arith)

white_no_break : (c : ℕ) → FeedOrReturn c → is_white c ≡ true → ⊥
white_no_break c l e = ⊎_elim
    (λ (q : c ≡ 10). true≢false (sym (ap is_white (sym q) ∙ e) ∙ feed_no_white))
    (λ (q : c ≡ 13). true≢false (sym (ap is_white (sym q) ∙ e) ∙ white_cr))
    l

nb_no_feed : (c : ℕ) → FeedOrReturn c → is_nb_char c ≡ true → ⊥
nb_no_feed c l e = ⊎_elim
    (λ (q : c ≡ 10). true≢false (sym (ap is_nb_char (sym q) ∙ e) ∙ feed_no_nb))
    (λ (q : c ≡ 13). true≢false (sym (ap is_nb_char (sym q) ∙ e) ∙ return_no_nb))
    l

module _ {t s : List ℕ} {k : ℕ} (a : Alike t s k) where
  -- the character before the offset ends a break
  pub last_of_break : before t k ≡ code t (k - 1)
  last_of_break =
      let f = a.later in
      let low : code t (k - 1) < 128 = ⊎_elim (λ (e : code t (k - 1) ≡ 10). omega arith) (λ (e : code t (k - 1) ≡ 13). omega arith) a.last in
      let r = reads_real t (k - 1) a.utf8 (omega arith) in
      let at : next t (k - 1) ≡ k = next_ascii t (k - 1) low ∙ omega arith in
      ap (before t) (sym at) ∙ r.back

  no_run : {p : ℕ → Bool} {i j : ℕ} {x : List ℕ} → ((c : ℕ) → p c ≡ true → c < no_char) → ((c : ℕ) → FeedOrReturn c → p c ≡ true → ⊥) → Many t p i j x → i < j → j ≡ k → ⊥
  no_run {p} {j = j} low never m l e =
      never (before t j) (subst FeedOrReturn (sym (ap (before t) e ∙ last_of_break)) a.last) (run_last p a.utf8 low m l)

  pub no_whites : {i j : ℕ} {x : List ℕ} → Many t is_white i j x → i < j → j ≡ k → ⊥
  no_whites m l e = no_run (λ c q. let w = white_below c q in omega arith) (λ c q w. white_no_break c q w) m l e

  pub no_nb_run : {i j : ℕ} {x : List ℕ} → Many t is_nb_char i j x → i < j → j ≡ k → ⊥
  no_nb_run m l e = no_run (λ c q. nb_below c q) (λ c q w. nb_no_feed c q w) m l e

  blank_there : {i : ℕ} → Blank t i → i ≤ k → Blank s i
  blank_there text_begins l = text_begins
  blank_there (break_ends b) l = break_ends (break_there a b l)
  blank_there (white_ends {i = i} d e) l =
      let f = next_later t i in
      let m : i < k = omega arith in
      subst (λ j. Blank s j) (sym (alike_next a i m)) (white_ends (blank_there d (omega arith)) (passes_there a is_white i m e))

  pub blank_before_there : {i : ℕ} → BlankBefore t i → i ≤ k → BlankBefore s i
  blank_before_there (blank_line d b) l = let f = break_forward b in blank_line (blank_there d (omega arith)) (break_there a b l)
  blank_before_there (past_gap {i = i} d e) l =
      let f = next_later t i in
      let m : i < k = omega arith in
      subst (λ j. BlankBefore s j) (sym (alike_next a i m)) (past_gap (blank_before_there d (omega arith)) (passes_there a is_gap i m e))

module _ {t s : List ℕ} {k : ℕ} (a : Alike t s k) where
  pub blank_alike : {i : ℕ} → Blank t i → i ≤ k → Blank s i
  blank_alike d l = blank_there a d l

  noted_there : {i : ℕ} {b : Bool} → HasBlankNote t i b → i ≤ k → HasBlankNote s i b
  noted_there (noted d) l = noted (blank_before_there a d l)
  noted_there (not_noted n) l = not_noted (λ d. n (blank_before_there (alike_back a) d l))

  comment_order : {i j : ℕ} {x : List CommentValue} → CommentText t i j x → i < j
  comment_order (comment_text e m n) = let f = run_order a m in omega arith

  comment_there : {i j : ℕ} {x : List CommentValue} → CommentText t i j x → j ≤ k → CommentText s i j x
  comment_there (comment_text {i = i} {j = j} {b = b} e m n) l =
      let f = run_order a m in
      rw (alike_slice a i j l) (comment_text (char_there a i (omega arith) e) (run_there a m l) (noted_there n (omega arith)))

  no_comment_last : {i j : ℕ} {x : List CommentValue} → CommentText t i j x → j ≡ k → ⊥
  no_comment_last (comment_text {i = i} {j = j} e m n) q = ⊎_elim
      (λ (l : i + 1 < j). no_nb_run a m l q)
      (λ (l : j ≤ i + 1).
      let f = run_order a m in
      let z : i ≡ k - 1 = omega arith in
      let y : code t (k - 1) ≡ 35 = ap (code t) (sym z) ∙ e in
      ⊎_elim (λ (w : code t (k - 1) ≡ 10). absurd (omega arith)) (λ (w : code t (k - 1) ≡ 13). absurd (omega arith)) a.last)
      (cases_lt (i + 1) j)

  -- a row that is not empty ends with a break
  pub row_there : {i j : ℕ} {x : List CommentValue} → Row t i j x → j ≤ k → Row s i j x
  row_there {i} {j} {x} r l = record { rest = go r.rest r.later l; later = r.later } where
    go : {i j : ℕ} {x : List CommentValue} → LineRest t i j x → i < j → j ≤ k → LineRest s i j x
    go (nothing (by_break b)) f l = nothing (by_break (break_there a b l))
    go (nothing (by_end e)) f l = absurd (omega arith)
    go (whites d (by_break b)) f l = let g = break_forward b in whites (in_line_there a d (omega arith)) (by_break (break_there a b l))
    go (whites (by_whites m g) (by_end e)) f l = let w = a.within in absurd (no_whites a m g (omega arith))
    go (whites (at_start d) (by_end e)) f l = absurd (omega arith)
    go (comment d c (by_break b)) f l =
        let g = break_forward b in let h = comment_order c in
        comment (in_line_there a d (omega arith)) (comment_there c (omega arith)) (by_break (break_there a b l))
    go (comment d c (by_end e)) f l = let w = a.within in absurd (no_comment_last c (omega arith))

-- a text and its prefix that ends at the offset
pub record PrefixText (t s : List ℕ) (k : ℕ) : Type 0 where
  pub alike : Alike t s k
  pub closed : length s ≡ k

module _ {t s : List ℕ} {k : ℕ} (f : PrefixText t s k) where
  end_in_prefix : {i j : ℕ} → BreakOrEnd t i j → j ≤ k → BreakOrEnd s i j
  end_in_prefix (by_break b) l = by_break (break_there f.alike b l)
  end_in_prefix (by_end e) l = let w = f.alike.within in let c = f.closed in by_end (omega arith)

  pub rest_in_prefix : {i j : ℕ} {x : List CommentValue} → LineRest t i j x → j ≤ k → LineRest s i j x
  rest_in_prefix (nothing e) l = nothing (end_in_prefix e l)
  rest_in_prefix (whites d e) l = let h = break_or_end_forward e in whites (in_line_there f.alike d (omega arith)) (end_in_prefix e l)
  rest_in_prefix (comment d c e) l =
      let h = break_or_end_forward e in let m = comment_order f.alike c in
      comment (in_line_there f.alike d (omega arith)) (comment_there f.alike c (omega arith)) (end_in_prefix e l)

  lines_carried : Carried k (CommentLine t) (CommentLine s)
  lines_carried = record { order = λ i j x d. order d; there = λ i j x d l. there d l } where
    order : {i j : ℕ} {x : List CommentValue} → CommentLine t i j x → i ≤ j
    order (whites_line d e) = rest_forward (whites d e)
    order (comment_line d c e) = rest_forward (comment d c e)

    there : {i j : ℕ} {x : List CommentValue} → CommentLine t i j x → j ≤ k → CommentLine s i j x
    there (whites_line d e) l = let h = break_or_end_forward e in whites_line (in_line_there f.alike d (omega arith)) (end_in_prefix e l)
    there (comment_line d c e) l =
        let h = break_or_end_forward e in let m = comment_order f.alike c in
        comment_line (in_line_there f.alike d (omega arith)) (comment_there f.alike c (omega arith)) (end_in_prefix e l)

  pub line_end_in_prefix : {i j : ℕ} {x : List CommentValue} → LineEnd t i j x → j ≤ k → LineEnd s i j x
  line_end_in_prefix (past_rest r c) l = let h = chain_order lines_carried c in past_rest (rest_in_prefix r (omega arith)) (chain_there lines_carried c l)
  line_end_in_prefix (from_start d c) l = let h = chain_order lines_carried c in from_start (start_there f.alike d (omega arith)) (chain_there lines_carried c l)

  -- the longest end of a line is the longest in the prefix
  pub line_end_chosen_in_prefix : {i j : ℕ} {x : List CommentValue} → Chosen (LineEnd t i) j x → j ≤ k → Chosen (LineEnd s i) j x
  line_end_chosen_in_prefix {i} {j} {x} c l = line_end_chosen (line_end_in_prefix c.derived l) (record { none = λ h y r. more h y r }) where
    more : (h : ℕ) (y : List CommentValue) → Row s j h y → ⊥
    more h y r =
        let w = rest_within r.rest in
        let z = f.closed in
        let m = r.later in
        let back = row_there (alike_back f.alike) r (omega arith) in
        let g = line_end_forward c.derived in
        let long = c.longest h (x ++ y) (rows_line_end (chain_more (line_end_rows c.derived) back) (omega arith)) in
        absurd (omega arith)

  separate_lines_in_prefix : {n : ℤ} {i j : ℕ} {x : List CommentValue} → SeparateLines t n i j x → j ≤ k → SeparateLines s n i j x
  separate_lines_in_prefix (in_line d) l = in_line (in_line_there f.alike d l)
  separate_lines_in_prefix (over_lines e p) l = let h = prefix_order p in over_lines (line_end_in_prefix e (omega arith)) (prefix_there f.alike p l)

  pub separate_in_prefix : {n : ℤ} {c : Ctx} {i j : ℕ} {x : List CommentValue} → Separate t n c i j x → j ≤ k → Separate s n c i j x
  separate_in_prefix (in_key b d) l = in_key b (in_line_there f.alike d l)
  separate_in_prefix (in_node b d) l = in_node b (separate_lines_in_prefix d l)
