use Rattle.std.proofs.Common.{◌≡◌, ◌+◌, arith, get_or, ap, sym, subst, ◌∙◌, MatchBool, eqb, ◌≢◌}
use Rattle.yf_chars.specs.Text.{code}
use Rattle.yf_chars.proofs.TextLemmas.{bytes_from_mark}
use Rattle.yf_lines.proofs.BasicLemmas.{match_mark}
use Rattle.yf_lines.proofs.basic.is_mark_at.Goals as goal

pub returns-then-bytes-lt3 : goal.returns-then-bytes-lt3
returns-then-bytes-lt3 c = λ e. let b = bytes_from_mark c.args.s.now c.args.at c.utf8.s e in omega (arith, b.0, c.as_bytes-bytes.ensures.len)

pub returns-then-at-bytes : goal.returns-then-at-bytes
returns-then-at-bytes c = λ e. let b = bytes_from_mark c.args.s.now c.args.at c.utf8.s e in omega (arith, b.0, c.as_bytes-bytes.ensures.len)

pub returns-then-bytes-at : goal.returns-then-bytes-at
returns-then-bytes-at c = λ e.
    c.if-bytes-at.true (ap (λ w. get_or w c.args.at 0) c.as_bytes-bytes.ensures.value ∙ (bytes_from_mark c.args.s.now c.args.at c.utf8.s e).1)

pub returns-then-bytes-at-2 : goal.returns-then-bytes-at-2
returns-then-bytes-at-2 c = λ e.
    c.if-bytes-at-2.true (ap (λ w. get_or w (c.args.at + 1) 0) c.as_bytes-bytes.ensures.value ∙ (bytes_from_mark c.args.s.now c.args.at c.utf8.s e).2)

pub returns : goal.returns
returns c =
    let t = c.args.s.now in
    let e = c.as_bytes-bytes.ensures.value in
    let m : MatchBool (eqb (get_or t (c.args.at + 2) 0) 191) (code t c.args.at ≡ 0xFEFF) (code t c.args.at ≢ 0xFEFF) =
    match_mark t c.args.at c.utf8.s (omega (arith, c.as_bytes-bytes.ensures.len))
    (ap (λ w. get_or w c.args.at 0) (sym e) ∙ c.if-bytes-at.false)
    (ap (λ w. get_or w (c.args.at + 1) 0) (sym e) ∙ c.if-bytes-at-2.false) in
    subst (λ w. MatchBool (eqb (get_or w (c.args.at + 2) 0) 191) (code t c.args.at ≡ 0xFEFF) (code t c.args.at ≢ 0xFEFF)) (sym e) m
