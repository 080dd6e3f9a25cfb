use Rattle.std.proofs.Common.{sym, ◌∙◌, subst}
use Rattle.yf_print.specs.Passes.HeldBlocks.{IsSourced}
use Rattle.yf_print.proofs.Pass.HeldBlocks.{held_after, held_sources, opened_after}
use Rattle.yf_print.proofs.open_blocks.push_entry.Goals as goal

pub placed_in-requires : goal.placed_in-requires
placed_in-requires c = subst IsSourced (sym c.as_slice.ensures.value) (held_sources _ _ c.end_blocks.ensures.held)

pub returns-clause-held : goal.returns-clause-held
returns-clause-held c =
    held_after c.args.entry c.placed_in.result c.push_block.result c.end_blocks.ensures.held c.end_blocks.ensures.around (sym c.end_blocks.ensures.known ∙ c.if-end_blocks.false) c.as_slice.ensures.value c.placed_in.ensures
    c.push_block.ensures.pushed c.push_block.ensures.kept

pub returns-clause-opens : goal.returns-clause-opens
returns-clause-opens c =
    opened_after c.args.entry _ _ _ c.placed_in.result c.push_block.result c.end_blocks.ensures.held c.end_blocks.ensures.left (sym c.end_blocks.ensures.known ∙ c.if-end_blocks.false) c.as_slice.ensures.value c.placed_in.ensures
    c.push_block.ensures.pushed
