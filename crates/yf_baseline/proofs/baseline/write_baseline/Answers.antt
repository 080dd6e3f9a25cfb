use Rattle.std.proofs.Common.{◌≡◌, rules}
use Rattle.yf_baseline.specs.Baselines.{baseline_text}
use Rattle.yf_baseline.proofs.ReadLemmas.{reads_back}
use Rattle.yf_baseline.proofs.baseline.write_baseline.Goals as goal

pub returns-clause-reads_back : goal.returns-clause-reads_back
returns-clause-reads_back c = λ fits.
    let text : c.extend_from_slice-2.new.self.items ≡ baseline_text c.args.entries.now = search rules in
    reads_back c.args.entries.now c.extend_from_slice-2.new.self.items text fits
