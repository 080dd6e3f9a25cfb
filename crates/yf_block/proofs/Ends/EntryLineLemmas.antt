-- The offset on a line at which an entry may begin, and why no line of a node begins there.
use Rattle.std.proofs.Common.{◌≡◌, ◌≢◌, ℕ, ◌+◌, ◌-◌, ◌<◌, ◌≤◌, true, false, List, refl, sym, ap, ◌∙◌, subst, ⊎_elim, arith}
use Rattle.std.proofs.lemmas.Bool.{cases_lt, cases_eq}
use Rattle.yf_chars.specs.Text.{code, next}
use Rattle.yf_chars.specs.Class.{is_white}
use Rattle.yf_chars.specs.Chain.{Many}
use Rattle.yf_chars.specs.Chain.Chain.{done, step}
use Rattle.yf_chars.specs.Chain.One.{one}
use Rattle.yf_chars.proofs.ChainLemmas.{chain_append, chain_forward, one_functional, many_unique}
use Rattle.yf_chars.proofs.TextLemmas.{next_ascii}
use Rattle.yf_lines.specs.Basic.{Spaces}
use Rattle.yf_lines.specs.Basic.Break.{cr_lf, lone_cr, lone_lf}
use Rattle.yf_lines.proofs.BasicLemmas.{break_char, white_cases, white_below}
use Rattle.yf_comments.specs.Comments.{BreakOrEnd}
use Rattle.yf_comments.specs.Comments.BreakOrEnd.{by_break, by_end}
use Rattle.yf_comments.proofs.SeparateLemmas.{spaces_whites}
use Rattle.yf_grammar.specs.BlockReader.BlockParser.{LinesEnd, LineText}
use Rattle.yf_grammar.proofs.BlockOutcomes.BlockClaims.{line_whites}
use Rattle.yf_block.specs.LookTests.{LineEndsAt, text_stops, feed_is_at, return_is_at, hash_is_at, EntryPlace, NotWithinBreak}

pub no_end_here : {t : List ℕ} {p j : ℕ} → (LineEndsAt t true p → ⊥) → BreakOrEnd t p j → ⊥
no_end_here n (by_break b) = ⊎_elim (λ e. n (return_is_at e)) (λ e. n (feed_is_at e)) (break_char b)
no_end_here n (by_end e) = n (text_stops e)

-- the line has content after its spaces
pub entry_line : {t w : List ℕ} {at s p : ℕ} → (LinesEnd t at → ⊥) → at ≤ s → Spaces t at (s - at) → code t s ≢ 32 → Many t is_white s p w → is_white (code t p) ≡ false
    → (LineEndsAt t true p → ⊥) → EntryPlace t at s
entry_line {t} {w} {at} {s} {p} g l y z m f n =
    let e : s ≡ at + (s - at) = omega arith in
    record {
      column = s - at;
      first = p;
      line = record {
        goes_on = g;
        spaces = y;
        no_space = λ q. z (ap (code t) e ∙ q);
        whites = w;
        run = subst (λ k. Many t is_white k p w) e m;
        content = record { no_white = f; no_hash = λ h. n (hash_is_at refl h); no_end = λ j b. no_end_here n b };
      };
      is_there = e;
    }

-- the last of white characters
pub last_white : {t w : List ℕ} {i j : ℕ} → Many t is_white i j w → i < j → is_white (code t (j - 1)) ≡ true
last_white done l = absurd (omega arith)
last_white {t} {j = j} (step {i = i} (one e) r) l =
    let n = next_ascii t i (white_below (code t i) e) in
    ⊎_elim (λ (b : next t i < j). last_white r b)
    (λ (b : j ≤ next t i).
    let f = chain_forward (one_functional t is_white) r in
    let same : j - 1 ≡ i = omega arith in
    ap (λ k. is_white (code t k)) same ∙ e)
    (cases_lt (next t i) j)

-- a line that ends after white space has no content
module _ {t : List ℕ} {at p : ℕ} {w : List ℕ} (m : Many t is_white at p w) (s : NotWithinBreak t at) where
  ends_there : LineEndsAt t true p → code t p ≢ 35 → ((j : ℕ) → BreakOrEnd t p j → ⊥) → ⊥
  ends_there (text_stops e) h n = n p (by_end e)
  ends_there (hash_is_at c e) h n = h e
  ends_there (return_is_at e) h n = ⊎_elim (λ (f : code t (p + 1) ≡ 10). n (p + 2) (by_break (cr_lf e f))) (λ (f : code t (p + 1) ≢ 10). n (p + 1) (by_break (lone_cr e f))) (cases_eq (code t (p + 1)) 10)
  ends_there (feed_is_at e) h n = n (p + 1) (by_break (lone_lf e (⊎_elim
      (λ (l : at < p) (c : code t (p - 1) ≡ 13). ⊎_elim (λ (z : code t (p - 1) ≡ 32). omega (arith, z, c)) (λ (z : code t (p - 1) ≡ 9). omega (arith, z, c)) (white_cases (code t (p - 1)) (last_white m l)))
      (λ (l : p ≤ at) (c : code t (p - 1) ≡ 13).
      let f = chain_forward (one_functional t is_white) m in
      let same : p ≡ at = omega arith in
      s.apart (ap (code t) (sym same) ∙ e) (ap (λ k. code t (k - 1)) (sym same) ∙ c))
      (cases_lt at p))))

  pub no_entry_line : {k q : ℕ} → is_white (code t p) ≡ false → LineEndsAt t true p → LineText t at k q → ⊥
  no_entry_line {q = q} f e l =
      let v = line_whites l in
      let same : q ≡ p = (many_unique t is_white v.1 l.content.no_white m f).0 in
      ends_there e (λ h. l.content.no_hash (ap (code t) same ∙ h)) (λ j b. l.content.no_end j (subst (λ z. BreakOrEnd t z j) (sym same) b))

pub no_line_after_spaces : {t w : List ℕ} {at s p k q : ℕ} → NotWithinBreak t at → at ≤ s → Spaces t at (s - at) → Many t is_white s p w → is_white (code t p) ≡ false
    → LineEndsAt t true p → LineText t at k q → ⊥
no_line_after_spaces {t} {w} {at} {s} {p} b l y m f e v =
    let z = spaces_whites t at (s - at) y in
    let place : at + (s - at) ≡ s = omega arith in
    no_entry_line (chain_append z.1 (subst (λ i. Many t is_white i p w) (sym place) m)) b f e v
