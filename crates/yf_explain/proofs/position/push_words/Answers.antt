use Rattle.std.proofs.lemmas.Str.{IsCharBoundary-start}
use Rattle.yf_explain.proofs.position.push_words.Goals as goal

pub push_part-requires-clause-boundary : goal.push_part-requires-clause-boundary
push_part-requires-clause-boundary c = IsCharBoundary-start c.args.words.now c.utf8.words
