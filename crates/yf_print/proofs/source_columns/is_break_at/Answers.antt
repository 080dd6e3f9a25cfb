use Rattle.std.proofs.Common.{sym, ap, ◌∙◌, ◌≡◌, true, false}
use Rattle.std.specs.Prelude.{◌||◌, ◌==◌}
use Rattle.yf_chars.specs.Class.{is_break_char}
use Rattle.yf_chars.specs.Text.{code}
use Rattle.yf_print.proofs.source_columns.is_break_at.Goals as goal

pub returns-then-is_char_at : goal.returns-then-is_char_at
unfolding is_break_char
returns-then-is_char_at c = let e : true ≡ (code c.args.text.now c.args.at == 10) = sym c.if-is_char_at.true ∙ c.is_char_at.ensures.value in ap (λ b. b || (code c.args.text.now c.args.at == 13)) e

pub returns : goal.returns
unfolding is_break_char
returns c =
    let e : false ≡ (code c.args.text.now c.args.at == 10) = sym c.if-is_char_at.false ∙ c.is_char_at.ensures.value in
    c.is_char_at-2.ensures.value ∙ ap (λ b. b || (code c.args.text.now c.args.at == 13)) e
