use Rattle.std.proofs.Common.{ap, ◌∙◌}
use Rattle.yf_chars.specs.Class.{is_ns_char}
use Rattle.yf_chars.specs.ClassEnds.{no_ns_char}
use Rattle.yf_block.proofs.look.is_dash_at.Goals as goal

pub returns-in-None-clause-cases : goal.returns-in-None-clause-cases
returns-in-None-clause-cases c = record { dash = c.if-is_char_at.ensures.cases.char; follows = ap is_ns_char c.in-None.ensures.0 ∙ no_ns_char }
