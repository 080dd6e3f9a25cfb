use Rattle.yf_problems.proofs.outlines.outline_in.Goals as goal

pub returns : goal.returns
returns c = record {
  reading = c.args.reading.now;
  reads = c.requires;
  are = c.in_ok-parts.ensures;
}
