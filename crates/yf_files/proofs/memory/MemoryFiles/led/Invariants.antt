-- The links that are left lead from the name that was reached to the file to which the first name leads.
use denote.Shadow.{shadow}
use denote.Text.{Utf8}
use Rattle.std.proofs.Common.{◌≡◌}
use Rattle.yf_files.specs.Links.{led, memory_state}
use Rattle.yf_files.specs.declared.memory.TheConstants.{LINKS}
use Rattle.yf_files.proofs.memory.MemoryFiles.led.Given as goal

abbrev pub invariant-loop-target : goal.invariant-loop-target
invariant-loop-target l = record {
  text : shadow (Utf8 l.at);
  leads : led (memory_state l.self) l.left l.at ≡ led (memory_state l.self) LINKS l.name;
}

abbrev pub decreases-loop-target : goal.decreases-loop-target
decreases-loop-target l = l.left
