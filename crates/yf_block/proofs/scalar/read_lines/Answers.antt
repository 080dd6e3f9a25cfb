use Rattle.std.proofs.Common.{rules, ◌≡◌, ℤ, subst, arith, to_z-of_z, SFits, w32}
use Rattle.std.proofs.lemmas.Int.{ints}
use Rattle.yf_chars.specs.Chain.{Stuck, Chosen}
use Rattle.yf_block_scalar.specs.Body.{Body, body_value}
use Rattle.yf_block.proofs.Ends.Forward.{body_forward}
use Rattle.yf_block.proofs.scalar.read_lines.Goals as goal

pub returns-in-Some-clause-place : goal.returns-in-Some-clause-place
returns-in-Some-clause-place c = record {
  boundary = rw c.in-Some.is at c.in_ok-block.ensures.boundary;
  order = body_forward (rw c.in-Some.is at c.in_ok-block.ensures.reads).2.derived;
}

pub returns-in-Some-clause-reads : goal.returns-in-Some-clause-reads
returns-in-Some-clause-reads c = λ l n q.
    let f = c.outer_indentation.ensures.same l in
    let e : c.outer_indentation.result ≡ n = omega (arith, ints, f, q) in
    let fits : SFits w32 c.outer_indentation.result = search rules in
    let r = rw (c.in-Some.is, to_z-of_z fits) at c.in_ok-block.ensures.reads in
    (r.0, subst (λ (m : ℤ). Chosen (Body c.args.scope.text.now m c.args.header c.args.at) c.in-Some.block.next (body_value c.in-Some.block)) e r.2)

pub returns-in-None-clause-reads : goal.returns-in-None-clause-reads
returns-in-None-clause-reads c = λ l n q.
    let f = c.outer_indentation.ensures.same l in
    let e : c.outer_indentation.result ≡ n = omega (arith, ints, f, q) in
    let fits : SFits w32 c.outer_indentation.result = search rules in
    subst (λ (m : ℤ). Stuck (Body c.args.scope.text.now m c.args.header c.args.at)) e (rw (c.in-None.is, to_z-of_z fits) at c.in_ok-block.ensures.reads)
