-- Block scalars and their parts end after their start, or at it if they may be empty, and a line begins after a header.
use Rattle.std.proofs.Common.{◌≡◌, ℕ, ℤ, ◌<◌, ◌≤◌, Bool, ⊎_elim, List, Option, length, arith}
use Rattle.yf_chars.proofs.ChainLemmas.{chain_forward}
use Rattle.yf_lines.specs.Basic.{LineStart}
use Rattle.yf_comments.specs.Comment.{CommentValue}
use Rattle.yf_comments.proofs.LineEndLemmas.{rest_next}
use Rattle.yf_comments.proofs.LineOrder.{line_end_forward, rest_forward}
use Rattle.yf_block_scalar.specs.declared.header.Header.{Header}
use Rattle.yf_block_scalar.specs.declared.header.Chomp.{Chomp}
use Rattle.yf_block_scalar.specs.Header.{BlockHeader, HeaderValue, Style, Digit, Sign, Indicators}
use Rattle.yf_block_scalar.specs.Header.BlockHeader.{block_header}
use Rattle.yf_block_scalar.specs.Header.Style.{literal_sign, folded_sign}
use Rattle.yf_block_scalar.specs.Header.Digit.{digit}
use Rattle.yf_block_scalar.specs.Header.Sign.{strip_sign, keep_sign}
use Rattle.yf_block_scalar.specs.Header.Indicators.{neither, digit_alone, sign_alone, digit_sign, sign_digit}
use Rattle.yf_block_scalar.specs.Body.{LinesTaken, Trail, Body, BodyValue}
use Rattle.yf_block_scalar.specs.Body.Trail.{comments, no_comment}
use Rattle.yf_block_scalar.specs.Body.Body.{indicated, detected, without_content}
use Rattle.yf_block_scalar.proofs.BodyLemmas.{bare_functional}
use Rattle.yf_block_scalar.proofs.UniqueLemmas.{line_functional, lines_chain}

module _ {t : List ℕ} where
  pub style_later : {i j : ℕ} {f : Bool} → Style t i j f → i < j
  style_later (literal_sign e) = omega arith
  style_later (folded_sign e) = omega arith

  digit_forward : {i j d : ℕ} → Digit t i j d → i ≤ j
  digit_forward (digit e) = omega arith

  sign_forward : {i j : ℕ} {c : Chomp} → Sign t i j c → i ≤ j
  sign_forward (strip_sign e) = omega arith
  sign_forward (keep_sign e) = omega arith

  pub marks_forward : {i j : ℕ} {d : Option ℕ} {c : Chomp} → Indicators t i j d c → i ≤ j
  marks_forward neither = omega arith
  marks_forward (digit_alone d) = digit_forward d
  marks_forward (sign_alone s) = sign_forward s
  marks_forward (digit_sign d s) = let f = digit_forward d in let g = sign_forward s in omega arith
  marks_forward (sign_digit s d) = let f = sign_forward s in let g = digit_forward d in omega arith

  pub header_later : {i j : ℕ} {h : HeaderValue} → BlockHeader t i j h → i < j
  header_later (block_header s m r) = let f = style_later s in let g = marks_forward m in let h = rest_forward r in omega arith

  pub header_starts : {i j : ℕ} {h : HeaderValue} → BlockHeader t i j h → j < length t → LineStart t j
  header_starts {j = j} (block_header s m r) l = ⊎_elim (λ (e : LineStart t j). e) (λ (e : j ≡ length t). absurd (omega arith)) (rest_next r)

  pub taken_forward : {k i p count : ℕ} {ls : List (List ℕ)} {o : Bool} → LinesTaken t k i ls o count p → i ≤ p
  taken_forward {k} d = let f = chain_forward (line_functional t k) (lines_chain d.lines) in let g = chain_forward (bare_functional t) d.tail.lines in omega arith

  trail_forward : {k i j : ℕ} {x : List CommentValue} → Trail t k i j x → i ≤ j
  trail_forward (comments m l a e c) = line_end_forward c.derived
  trail_forward (no_comment n) = omega arith

  pub body_forward : {n : ℤ} {h : Header} {i j : ℕ} {v : BodyValue} → Body t n h i j v → i ≤ j
  body_forward (indicated e a b) = let f = taken_forward a in let g = trail_forward b in omega arith
  body_forward (detected e d a b) = let f = taken_forward a in let g = trail_forward b in omega arith
  body_forward (without_content e c d b) = let f = chain_forward (bare_functional t) c in let g = trail_forward b in omega arith
