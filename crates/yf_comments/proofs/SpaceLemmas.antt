-- One space separates.
use Rattle.std.proofs.Common.{◌≡◌, ℕ, ◌+◌, ℤ, true, false, List, [], ⊎_elim, subst, sym, arith}
use Rattle.std.proofs.lemmas.Bool.{cases_Bool}
use Rattle.yf_chars.specs.declared.context.Ctx.{Ctx}
use Rattle.yf_chars.specs.Text.{code, next}
use Rattle.yf_chars.specs.Class.{is_white}
use Rattle.yf_chars.specs.Chain.{Many}
use Rattle.yf_chars.specs.Chain.Chain.{done, step}
use Rattle.yf_chars.specs.Chain.One.{one}
use Rattle.yf_chars.proofs.TextLemmas.{next_ascii}
use Rattle.yf_lines.specs.Basic.{SeparateInLine, is_key}
use Rattle.yf_lines.specs.Basic.SeparateInLine.{by_whites}
use Rattle.yf_lines.proofs.BasicLemmas.{white_of_space}
use Rattle.yf_comments.specs.Comments.{Separate}
use Rattle.yf_comments.specs.Comments.Separate.{in_key, in_node}
use Rattle.yf_comments.specs.Comments.SeparateLines.{in_line}

pub space_in_line : {t : List ℕ} (q : ℕ) → code t q ≡ 32 → SeparateInLine t q (q + 1)
space_in_line {t} q e =
    let place : next t q ≡ q + 1 = next_ascii t q (omega arith) in
    by_whites (step (one (white_of_space (code t q) e)) (subst (λ k. Many t is_white k (q + 1) []) (sym place) done)) (omega arith)

pub space_separates : {t : List ℕ} (n : ℤ) (c : Ctx) (q : ℕ) → code t q ≡ 32 → Separate t n c q (q + 1) []
space_separates {t} n c q e =
    ⊎_elim (λ (k : is_key c ≡ true). in_key k (space_in_line q e)) (λ (k : is_key c ≡ false). in_node k (in_line (space_in_line q e)))
    (cases_Bool (is_key c))
