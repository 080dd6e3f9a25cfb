-- An implicit key of a mapping is awaited; the mapping's frame is on the stack again.
use Rattle.std.specs.Prelude.{◌≡◌, ℕ, false, List, ◌∷◌, None}
use Rattle.yf_events.specs.declared.event.Entry as TheEntry
use Rattle.yf_events.specs.declared.part.Part.{Part}
use Rattle.yf_grammar.specs.Productions.ReadParts.{NotedSince}
use Rattle.yf_grammar.specs.BlockReader.BlockParser.{SignAt, BlockTask}
use Rattle.yf_block.specs.declared.frame.Frame.{Frame}
use Rattle.yf_block.specs.declared.frame.CollectionKind.TheVariants.{Mapping}
use Rattle.yf_block.specs.declared.frame.BlockCursor.{BlockCursor}
use Rattle.yf_block.specs.BlockStepTied.{AtEntry}

pub record KeyAwaited (column : ℕ) (entry : TheEntry.Entry) (t : List ℕ) (d : ℕ) (root : BlockTask) (before : Part) (frames : List Frame) (p : ℕ) (progress : BlockCursor) (part : Part) : Type 0 where
  pub outer : List Frame
  pub frame : Frame
  pub at : AtEntry t d root before outer frame p progress part
  pub mapping : frame.kind ≡ Mapping
  pub stack : frames ≡ record frame { awaits_colon = false } ∷ outer
  pub column_there : column ≡ frame.column
  pub note : NotedSince t progress.floor p entry.blank_before
  pub no_colon_yet : entry.colon ≡ None
  pub no_question : SignAt t 63 p → ⊥
  pub no_colon : SignAt t 58 p → ⊥
