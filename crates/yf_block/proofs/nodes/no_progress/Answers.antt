use Rattle.std.proofs.Common.{refl}
use Rattle.std.proofs.lemmas.Str.{IsCharBoundary-start}
use Rattle.yf_block.proofs.nodes.no_progress.Goals as goal

pub returns : goal.returns
returns c =
    let start = IsCharBoundary-start c.args._text.now c.utf8._text in
    record {
      progress = record { floor = start; from = start; halt = tt };
      root = λ n x t e l o. record { text = t; least = e; narrow = l; out = o; compact = refl; entry = refl; outer = refl; last = refl; floor = refl; colons = refl; halt = refl };
    }
