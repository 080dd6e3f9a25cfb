use Rattle.std.proofs.Common.{◌≡◌, ◌≤◌, ap, subst, rules, arith}
use Rattle.yf_chars.proofs.ChainLemmas.{chain_forward, one_functional}
use Rattle.yf_chars.specs.Chain.{Many}
use Rattle.yf_lines.specs.Lines.{is_char}
use Rattle.yf_explain.proofs.SourceLemmas.{front_unbroken, six_added}
use Rattle.yf_explain.proofs.source.push_line.Goals as goal

pub returns : goal.returns
returns c =
    let t = c.args.text.now in
    let before = c.in_ok-before.ensures in
    let after = c.in_ok-after.ensures in
    let end : c.in_ok-before.before.end ≡ c.args.at = search rules in
    let later : c.args.at ≤ c.in_ok-after.after.end = chain_forward (one_functional t is_char) after.run in
    record {
      start = c.args.start;
      stop = c.in_ok-after.after.end;
      before = before.characters;
      after = after.characters;
      cut = c.args.cut;
      shortened = _;
      left = subst (λ k. Many t is_char c.args.start k before.characters) end before.run;
      right = after.run;
      unbroken = front_unbroken c.in_ok-after.after.end c.requires.line (omega (arith, c.requires.order, later)) after.within;
      added = six_added _ _ _ _ _ _ _ _ _ _ _ _ _ c.in_ok-push_signs.ensures c.in_ok-indent.ensures.added before.added after.added c.in_ok-push_dots.ensures.added c.in_ok-push_break.ensures;
      columns_before = cc (c.in_ok-indent.ensures.count, before.takes);
      room = omega (arith, before.room, after.room, before.takes, after.takes);
    }
