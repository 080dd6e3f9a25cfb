use Rattle.std.proofs.Common.{arith, sym, ◌∙◌}
use Rattle.yf_chars.specs.Chain.Chain.{done}
use Rattle.yf_quoted.proofs.SimpleLemmas.{no_words, words_more, words_found, whites_more}
use Rattle.yf_quoted.proofs.simple.words_end.Goals as goal

pub returns-then-is_char_at-clause-reads : goal.returns-then-is_char_at-clause-reads
returns-then-is_char_at-clause-reads c = words_found c.requires.0 (no_words c.args.s.now c.args.at)

pub chars-init : goal.chars-init
chars-init c = record { words = no_words c.args.s.now c.args.at; whites = (_, done); boundary = c.requires; next = c.requires; order = omega arith; follows = omega arith }

pub chars-preserved-then-is_white_at : goal.chars-preserved-then-is_white_at
chars-preserved-then-is_white_at c = record {
  words = c.chars.invariant.words;
  whites = whites_more c.chars.invariant.whites c.if-is_white_at.ensures.read (sym c.if-is_white_at.true ∙ c.is_white_at.ensures.value);
  boundary = c.chars.invariant.boundary;
  next = c.if-is_white_at.ensures.read.boundary;
  order = c.chars.invariant.order;
  follows = omega (arith, c.chars.invariant.follows);
}

pub chars-preserved-then-is_simple_at : goal.chars-preserved-then-is_simple_at
chars-preserved-then-is_simple_at c =
    let o = c.is_simple_at.ensures c.if-is_simple_at.true in
    record {
      words = words_more c.utf8.s c.chars.invariant.words c.chars.invariant.whites c.if-is_white_at.ensures.read o;
      whites = (_, done);
      boundary = o.reads.boundary;
      next = o.reads.boundary;
      order = omega (arith, c.chars.invariant.order, c.chars.invariant.follows);
      follows = omega arith;
    }

pub returns-in-None-clause-reads : goal.returns-in-None-clause-reads
returns-in-None-clause-reads c = words_found c.chars.invariant.boundary.0 c.chars.invariant.words

pub chars-preserved : goal.chars-preserved
chars-preserved c = record {
  words = words_more c.utf8.s c.chars.invariant.words c.chars.invariant.whites c.if-is_white_at.ensures.read c.in-Some.ensures.reads;
  whites = (_, done);
  boundary = c.in-Some.ensures.boundary;
  next = c.in-Some.ensures.boundary;
  order = omega (arith, c.chars.invariant.order, c.chars.invariant.follows, c.in-Some.ensures.order);
  follows = omega arith;
}
