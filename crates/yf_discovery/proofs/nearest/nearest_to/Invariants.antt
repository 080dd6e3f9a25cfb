use denote.Shadow.{shadow}
use denote.Text.{Utf8}
use Rattle.std.proofs.Common.{length}
use Rattle.yf_discovery.specs.Nearest.{IsNearestTo}
use Rattle.yf_discovery.specs.declared.nearest.Discovery.{Discovery}
use Rattle.yf_discovery.proofs.nearest.nearest_to.Given as goal

abbrev pub invariant-folders : goal.invariant-folders
invariant-folders g l = record {
  text : shadow (Utf8 l.rest);
  leads : (d : Discovery) → IsNearestTo (g.F.Folders.shows l.folders) l.rest d
      → IsNearestTo (g.F.Folders.shows l.folders) l.path d;
}

abbrev pub decreases-folders : goal.decreases-folders
decreases-folders g l = length l.rest
