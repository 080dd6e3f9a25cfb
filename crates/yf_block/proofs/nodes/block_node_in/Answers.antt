use Rattle.std.proofs.Common.{◌≡◌, ℕ, pos, ◌≤◌, sym, ap, ◌∙◌, subst, true≢false, to_z-of_z}
use Rattle.yf_block.specs.RunTied.{ReadRoot}
use Rattle.yf_block.proofs.nodes.block_node_in.Goals as goal

pub returns-in-None-clause-tied : goal.returns-in-None-clause-tied
returns-in-None-clause-tied c = λ b i l. absurd (true≢false (sym b ∙ c.in-None.ensures))

pub returns-in_ok-stopped-in-Some-clause-other : goal.returns-in_ok-stopped-in-Some-clause-other
returns-in_ok-stopped-in-Some-clause-other c = λ q. absurd (true≢false (sym c.in-Some.ensures.0 ∙ q))

pub returns-in_err-stopped-in-Some-clause-other : goal.returns-in_err-stopped-in-Some-clause-other
returns-in_err-stopped-in-Some-clause-other c = λ q. absurd (true≢false (sym c.in-Some.ensures.0 ∙ q))

pub returns-in_ok-stopped-in-Some-clause-tied : goal.returns-in_ok-stopped-in-Some-clause-tied
returns-in_ok-stopped-in-Some-clause-tied c = λ b i l.
    let least = rw (to_z-of_z c.ranges.n) at c.least_of.ensures in
    let e : c.least_of.result ≡ i.least = least i.least i.is in
    let root : ReadRoot c.args.text.now (record { at = c.args.at; least = c.least_of.result; out = c.in-Some.out }) c.args.n c.args.ctx = record {
      text = record { utf8 = c.utf8.text; size = l };
      block = b;
      least = ap (λ (z : ℕ). pos z) e ∙ i.is;
      narrow = subst (λ (z : ℕ). z ≤ 1073741825) (sym e) i.narrow;
      out = c.in-Some.ensures.1;
    } in
    c.conclude.ensures.tied c.args.n c.args.ctx c.args.part.now c.ranges.limit.fits root
    (c.in_ok-stopped-in-Some.ensures.tied c.args.n c.args.ctx c.ranges.limit.fits root)
    (c.in_ok-stopped-in-Some.ensures.counted c.utf8.text)
    (record { events = c.of-before.ensures.events; comments = c.of-before.ensures.comments; escapes = c.of-before.ensures.escapes })

pub run_from-requires : goal.run_from-requires
run_from-requires c = record { boundary = c.requires.boundary; escapes = c.requires.escapes }

pub conclude-requires : goal.conclude-requires
conclude-requires c = record { boundary = c.requires.boundary; stopped = c.in_ok-stopped-in-Some.ensures.stopped; escapes = c.in_ok-stopped-in-Some.ensures.escapes }

pub returns-in-None-clause-place : goal.returns-in-None-clause-place
returns-in-None-clause-place c = c.requires.boundary

pub returns-in-None-clause-escapes : goal.returns-in-None-clause-escapes
returns-in-None-clause-escapes c = c.requires.escapes

pub returns-in_ok-stopped-in-Some-clause-place : goal.returns-in_ok-stopped-in-Some-clause-place
returns-in_ok-stopped-in-Some-clause-place c = c.conclude.ensures.place

pub returns-in_ok-stopped-in-Some-clause-escapes : goal.returns-in_ok-stopped-in-Some-clause-escapes
returns-in_ok-stopped-in-Some-clause-escapes c = c.conclude.ensures.escapes
