use Rattle.std.proofs.Common.{sym, subst}
use Rattle.yf_rules.specs.Headline.{Headline}
use Rattle.yf_stream.specs.StreamReader.{for_memory}
use Rattle.yf_parts.proofs.part.format_lines.Goals as goal

pub part_of-requires : goal.part_of-requires
part_of-requires c = subst (λ z. Headline c.args.text.now c.args.style.now z) (sym c.as_str.ensures.value)
    c.in_ok-formatted.ensures.headline

pub returns-clause-refuses : goal.returns-clause-refuses
returns-clause-refuses c = for_memory
