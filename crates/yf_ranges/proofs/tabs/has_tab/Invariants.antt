use Rattle.yf_ranges.specs.Details.{HasTab}
use Rattle.yf_ranges.proofs.tabs.has_tab.Given as goal

abbrev pub invariant-loop-at : goal.invariant-loop-at
invariant-loop-at l = HasTab l.text l.start l.at → ⊥
