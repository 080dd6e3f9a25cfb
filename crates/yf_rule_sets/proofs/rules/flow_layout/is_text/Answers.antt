use Rattle.std.proofs.Common.{sym, ◌∙◌}
use Rattle.std.specs.Cmp.Lexicographic.{same_text, other_text}
use Rattle.yf_rule_sets.proofs.RuleSets.DisplacedLemmas.{no_text, text_is, text_is_not}
use Rattle.yf_rule_sets.proofs.rules.flow_layout.is_text.Goals as goal

pub returns-then-end-part : goal.returns-then-end-part
returns-then-end-part c =
    no_text c.args.text.now c.as_bytes-bytes.result.now c.args.other.now c.args.part.start c.args.part.end c.min-end.result c.is_empty.result
    c.as_bytes-bytes.ensures.value c.min-end.ensures c.if-end-part.true c.is_empty.ensures

pub returns-then-eq : goal.returns-then-eq
returns-then-eq c =
    text_is c.args.text.now c.as_bytes-bytes.result.now c.args.other.now c.as_bytes.result.now c.args.part.start c.args.part.end c.min-end.result
    c.as_bytes-bytes.ensures.value c.as_bytes.ensures.value c.min-end.ensures (same_text _ _ (sym c.if-eq.true ∙ c.eq.ensures))

pub returns : goal.returns
returns c =
    text_is_not c.args.text.now c.as_bytes-bytes.result.now c.args.other.now c.as_bytes.result.now c.args.part.start c.args.part.end c.min-end.result
    c.as_bytes-bytes.ensures.value c.as_bytes.ensures.value c.min-end.ensures (other_text _ _ (sym c.if-eq.false ∙ c.eq.ensures))
