use Rattle.yf_grammar.proofs.Ends.SinceWalk.{since_start}
use Rattle.yf_block.proofs.Ends.WalkLemmas.{walks_noted}
use Rattle.yf_block.proofs.look.is_blank_after.Goals as goal

pub returns-then-follows_text : goal.returns-then-follows_text
returns-then-follows_text c = record {
  noted = λ o f. walks_noted c.utf8.text f (since_start c.args.text.now c.args.floor c.args.at o) c.if-follows_text.ensures;
  walks = c.if-follows_text.ensures;
}

pub returns : goal.returns
returns c = record {
  noted = λ o f. walks_noted c.utf8.text f (since_start c.args.text.now c.args.floor c.args.at o) c.walk_back.ensures;
  walks = c.walk_back.ensures;
}
