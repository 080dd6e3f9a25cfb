use Rattle.std.proofs.Common.{◌≡◌, string_bytes}
use Rattle.yf_discovery.specs.Nearest.{PassesFirst, folder}
use Rattle.yf_discovery.proofs.nearest.nearest_settings.Given as goal

abbrev pub invariant-loop-depth : goal.invariant-loop-depth
invariant-loop-depth g l = record {
  name : string_bytes l.folder ≡ folder l._depth;
  passed : PassesFirst (g.F.Folders.shows l.folders) l._depth;
}
