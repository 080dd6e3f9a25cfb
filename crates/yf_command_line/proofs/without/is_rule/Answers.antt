use Rattle.std.proofs.Common.{◌∙◌, sym}
use Rattle.std.specs.Str.{bytes_eq}
use Rattle.yf_command_line.proofs.WordLemmas.{some_word}
use Rattle.yf_command_line.proofs.without.is_rule.Goals as goal

pub returns-then-eq : goal.returns-then-eq
returns-then-eq c =
    some_word (λ rule. bytes_eq rule c.args.name.now) c.args.rules.now c.loop-rule.rule-index _ c.loop-rule-test.true
    (sym c.eq.ensures ∙ c.if-eq.true)
