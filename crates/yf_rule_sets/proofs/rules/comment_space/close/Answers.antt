use Rattle.yf_rule_sets.proofs.Texts.WhitesLemmas.{close_read, open_read}
use Rattle.yf_rule_sets.proofs.rules.comment_space.close.Goals as goal

pub returns-then-is_close : goal.returns-then-is_close
returns-then-is_close c =
    close_read c.args.src.now.text c.text.result.now c.args.reading.now c.comments.result.now c.args.k _ c.text.ensures c.comments.ensures c.requires c.if-is_close.ensures

pub returns : goal.returns
returns c =
    open_read c.args.src.now.text c.text.result.now c.args.reading.now c.comments.result.now c.args.k _ c.text.ensures c.comments.ensures c.requires c.if-is_close.ensures
