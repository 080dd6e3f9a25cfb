-- Lines that continue with a character that begins neither white space nor a comment nor the end of the line.
use Rattle.std.proofs.Common.{◌≡◌, ◌≢◌, ℕ, ℤ, ◌<◌, ◌≤◌, true, false, inl, ⊎_elim, List, [], length, refl, subst, arith}
use Rattle.std.proofs.lemmas.Bool.{cases_lt, cases_Bool}
use Rattle.yf_chars.specs.declared.context.Ctx.{Ctx}
use Rattle.yf_chars.specs.Text.{code}
use Rattle.yf_chars.specs.Class.{is_white}
use Rattle.yf_chars.specs.Chain.{Stuck, Nowhere, Chosen, Farthest, Many}
use Rattle.yf_chars.specs.Chain.Chain.{done}
use Rattle.yf_chars.proofs.ChainLemmas.{chain_forward, one_functional}
use Rattle.yf_lines.specs.Basic.{is_key, SeparateInLine}
use Rattle.yf_lines.specs.Basic.SeparateInLine.{by_whites}
use Rattle.yf_lines.proofs.BasicLemmas.{break_char}
use Rattle.yf_comments.specs.Comments.{BreakOrEnd, LineEnd, LineRest, Separate}
use Rattle.yf_comments.specs.Comments.BreakOrEnd.{by_break, by_end}
use Rattle.yf_comments.specs.Comments.LineRest.{nothing, whites}
use Rattle.yf_comments.proofs.RowLemmas.{separate_whites, stuck_at_solid}
use Rattle.yf_comments.proofs.LineEndLemmas.{kept_none, line_end_from, row_stuck}
use Rattle.yf_comments.proofs.SeparateLemmas.{upto_first, stuck_first, lines_chosen, lines_stuck, alone_chosen, alone_stuck, node_chosen, node_stuck}

module _ {t : List ℕ} where
  -- only white space is left of the line
  pub rest_bare : {i h j : ℕ} {w : List ℕ} → Many t is_white i h w → BreakOrEnd t h j → LineRest t i j []
  rest_bare {i} {h} {j} m e =
      let l = chain_forward (one_functional t is_white) m in
      ⊎_elim (λ (a : i < h). whites (by_whites m a) e)
      (λ (a : h ≤ i). let same : h ≡ i = omega arith in nothing (subst (λ v. BreakOrEnd t v j) same e))
      (cases_lt i h)

  ends_with : {i j : ℕ} → i < length t → code t i ≢ 10 → code t i ≢ 13 → BreakOrEnd t i j → ⊥
  ends_with l n m (by_break b) = ⊎_elim (λ (h : _ ≡ 13). m h) (λ (h : _ ≡ 10). n h) (break_char b)
  ends_with l n m (by_end e) = absurd (omega arith)

  -- neither a break nor the end of the text
  pub no_end : {i : ℕ} → i < length t → code t i ≢ 10 → code t i ≢ 13 → Nowhere (BreakOrEnd t i)
  no_end l n m = record { none = λ j e. ends_with l n m e }

  -- a line ends, and the next one continues with such a character
  pub ended_chosen : {i h e : ℕ} {w : List ℕ} → LineRest t i h [] → Many t is_white h e w → is_white (code t e) ≡ false → code t e ≢ 35
      → Nowhere (BreakOrEnd t e) → Chosen (LineEnd t i) h []
  ended_chosen {h = h} r m s n none = line_end_from refl ([], r, refl) (kept_none t h []) (row_stuck (stuck_at_solid m s n none))

module _ {t : List ℕ} {n : ℤ} {c : Ctx} {i : ℕ} where
  -- only white space, before such a character
  pub solid_chosen : {e : ℕ} → Farthest (SeparateInLine t i) e → is_white (code t e) ≡ false → code t e ≢ 35 → Nowhere (BreakOrEnd t e)
      → Chosen (Separate t n c i) e []
  solid_chosen {e} f w s r =
      let stuck = row_stuck (stuck_at_solid (separate_whites f.derived).1 w s r) in
      ⊎_elim (λ (k : is_key c ≡ true). alone_chosen (inl k) f)
      (λ (k : is_key c ≡ false). node_chosen k (lines_chosen done stuck (upto_first f.derived w)))
      (cases_Bool (is_key c))

  -- nothing, if the line doesn't start there
  pub solid_stuck : Nowhere (SeparateInLine t i) → is_white (code t i) ≡ false → code t i ≢ 35 → Nowhere (BreakOrEnd t i)
      → Stuck (Separate t n c i)
  solid_stuck f w s r =
      let stuck = row_stuck (stuck_at_solid (done {i = i}) w s r) in
      ⊎_elim (λ (k : is_key c ≡ true). alone_stuck (inl k) f)
      (λ (k : is_key c ≡ false). node_stuck k (lines_stuck (done {i = i}) stuck (stuck_first f (λ e. r.none i (by_end e)))))
      (cases_Bool (is_key c))
