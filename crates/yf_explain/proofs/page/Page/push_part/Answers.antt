use Rattle.std.proofs.Common.{[], refl, sym, rules, arith}
use Rattle.std.proofs.lemmas.List.{append-nil}
use Rattle.yf_chars.specs.Chain.Chain.{done}
use Rattle.yf_explain.proofs.PageLemmas.{part_more}
use Rattle.yf_explain.proofs.page.Page.push_part.Goals as goal

pub loop-end-init : goal.loop-end-init
loop-end-init c = record { characters = []; run = done; added = sym (append-nil _); takes = refl; room = omega arith; within = c.requires.order; boundary = c.requires.boundary }

pub loop-end-preserved : goal.loop-end-preserved
loop-end-preserved c = part_more c.loop-end.invariant c.in-Some.ensures c.in_ok-push.ensures c.columns_of-width.ensures.value (omega arith) (omega arith)
