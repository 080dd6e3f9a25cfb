use Rattle.std.proofs.Common.{ℕ, List, [], Option, length}
use Rattle.yf_excludes.specs.Names.{Leads, texts}
use Rattle.yf_excludes.proofs.path.names_led.Given as goal

abbrev pub invariant-parts : goal.invariant-parts
invariant-parts l = (o : Option (List (List ℕ))) → Leads (texts l.names.items) l.rest o → Leads [] l.path o

abbrev pub decreases-parts : goal.decreases-parts
decreases-parts l = length l.rest
