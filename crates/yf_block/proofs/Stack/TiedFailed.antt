-- The text goes wrong.
use Rattle.std.proofs.Common.{◌≡◌, ℕ, List, Option}
use Rattle.yf_grammar.specs.FlowReader.Parser.{ParsedNode}
use Rattle.yf_grammar.specs.BlockReader.BlockParser.{BlockTask}
use Rattle.yf_grammar.specs.BlockReader.BlockStates.{NodeIsBroken}
use Rattle.yf_block.specs.declared.frame.BlockCursor.{BlockCursor}
use Rattle.yf_block.specs.BlockTied.{halt_end}
use Rattle.yf_block.specs.BlockStepTied.{none_found, AtFailed}

pub broken_fails : {t : List ℕ} {d : ℕ} {root : BlockTask} {progress : BlockCursor} {h : Option ParsedNode} → NodeIsBroken t d root h → progress.halt ≡ halt_end h → AtFailed t d root progress
broken_fails {h = h} b e = record { halt = h; unfinished = none_found b.whole; halts = b.halted; halted = e }
