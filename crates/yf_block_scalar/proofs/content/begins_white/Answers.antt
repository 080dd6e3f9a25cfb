use Rattle.std.proofs.Common.{◌≡◌, length, get_or, ap, sym, ◌∙◌, eqb, false}
use Rattle.yf_chars.specs.Class.{is_white}
use Rattle.yf_lines.proofs.BasicLemmas.{white_of_space, white_only_tab}
use Rattle.yf_block_scalar.proofs.ContentLemmas.{spaced_first}
use Rattle.yf_block_scalar.proofs.content.begins_white.Goals as goal

pub returns-then-bytes-eq32 : goal.returns-then-bytes-eq32
returns-then-bytes-eq32 c =
    let e = c.as_bytes-bytes.ensures.value in
    let q : eqb (length c.args.line.now) 0 ≡ false = ap (λ w. eqb (length w) 0) (sym e) ∙ sym c.is_empty.ensures ∙ c.if-is_empty.false in
    sym (spaced_first c.args.line.now q ∙ ap (λ w. is_white (get_or w 0 0)) (sym e) ∙ white_of_space _ c.if-bytes-eq32.true)

pub returns : goal.returns
returns c =
    let e = c.as_bytes-bytes.ensures.value in
    let q : eqb (length c.args.line.now) 0 ≡ false = ap (λ w. eqb (length w) 0) (sym e) ∙ sym c.is_empty.ensures ∙ c.if-is_empty.false in
    sym (spaced_first c.args.line.now q ∙ ap (λ w. is_white (get_or w 0 0)) (sym e) ∙ white_only_tab _ c.if-bytes-eq32.false)
