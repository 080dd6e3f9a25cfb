use Rattle.std.proofs.Common.{[], sym}
use Rattle.yf_chars.specs.Chain.Chain.{done}
use Rattle.yf_comments.proofs.lines.past_white.Goals as goal

pub returns-clause-whites : goal.returns-clause-whites
returns-clause-whites c = ([], done)

pub returns-clause-all : goal.returns-clause-all
returns-clause-all c = sym c.if-is_white_at.ensures.value
