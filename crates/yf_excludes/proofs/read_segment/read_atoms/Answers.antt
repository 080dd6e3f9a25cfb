use Rattle.yf_excludes.proofs.SegmentLemmas.{atoms_more, atoms_none, atoms_done}
use Rattle.yf_excludes.proofs.read_segment.read_atoms.Goals as goal

pub returns-in-None : goal.returns-in-None
returns-in-None c =
    let never = rw c.in-None.is at c.in_ok-read_atom.ensures in
    atoms_none c.atoms.invariant c.atoms-test.true never

pub atoms-preserved : goal.atoms-preserved
atoms-preserved c =
    let read = rw c.in-Some.is at c.in_ok-read_atom.ensures in
    atoms_more c.atoms.invariant c.atoms-test.true read.0 read.2 c.in_ok-push-in-Some.ensures.items

pub returns : goal.returns
returns c = atoms_done c.atoms.invariant c.atoms-test.false
