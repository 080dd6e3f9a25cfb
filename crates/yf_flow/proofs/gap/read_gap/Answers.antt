use Rattle.std.proofs.Common.{refl, rules, to_z-of_z, SFits, w32}
use Rattle.yf_props.proofs.SeparationEnds.{separate_forward}
use Rattle.yf_flow.specs.Leaves.{gap_read, gap_missing}
use Rattle.yf_flow.proofs.gap.read_gap.Goals as goal

pub returns-in_ok-append-in-Some-clause-place : goal.returns-in_ok-append-in-Some-clause-place
returns-in_ok-append-in-Some-clause-place c = record {
  boundary = rw c.in-Some.is at c.in_ok-separation.ensures.boundary;
  order = separate_forward (rw c.in-Some.is at c.in_ok-separation.ensures.reads).derived;
}

pub returns-in_ok-append-in-Some-clause-reads : goal.returns-in_ok-append-in-Some-clause-reads
returns-in_ok-append-in-Some-clause-reads c =
    let fits : SFits w32 c.args.scene.indentation = search rules in
    gap_read (record { comments = _; chosen = rw (to_z-of_z fits, c.in-Some.is) at c.in_ok-separation.ensures.reads; added = c.in_ok-append-in-Some.ensures })

pub returns-in-None-clause-reads : goal.returns-in-None-clause-reads
returns-in-None-clause-reads c =
    let fits : SFits w32 c.args.scene.indentation = search rules in
    gap_missing (record { none = rw (to_z-of_z fits, c.in-None.is) at c.in_ok-separation.ensures.reads; same = refl })
