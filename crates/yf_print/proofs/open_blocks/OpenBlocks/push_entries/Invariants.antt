use Rattle.std.proofs.Common.{◌≡◌, drop, reverse}
use Rattle.yf_print.specs.Passes.Drafts.{after_blocks}
use Rattle.yf_print.specs.Passes.HeldBlocks.{IsHeld}
use Rattle.yf_print.proofs.open_blocks.OpenBlocks.push_entries.Given as goal

abbrev pub invariant-loop-entry : goal.invariant-loop-entry
invariant-loop-entry l = record {
  held : IsHeld l.self-inside.all.items l.self-inside.sourced.items;
  same : after_blocks (drop l.entry-index l.entries) (reverse l.self-inside.all.items) ≡ after_blocks l.entries (reverse l.initial.self-inside.all.items);
}
