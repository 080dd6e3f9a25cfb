-- If the reader of block nodes finds a node at its outermost call, whole or up to its last halt, the node is derived
-- within the limit and covers no forbidden line. So the last halt is the longest part.
use Rattle.std.proofs.Common.{◌≡◌, ℕ, ◌≤◌, ℤ, true, false, List, [], Option, Some, None, refl, sym, true≢false}
use Rattle.std.specs.Str.{IsUtf8}
use Rattle.yf_chars.specs.declared.context.Ctx.{Ctx}
use Rattle.yf_chars.specs.Chain.{Chosen}
use Rattle.yf_lines.specs.Basic.{is_block, Clear}
use Rattle.yf_events.specs.declared.part.Part.{Part}
use Rattle.yf_grammar.specs.Productions.Meaning.{Meaning}
use Rattle.yf_grammar.specs.Productions.Grammar.{BlockNode, Derives}
use Rattle.yf_grammar.specs.Productions.ReadParts.{Noting, BlockNodePart}
use Rattle.yf_grammar.specs.FlowReader.Parser.{ParsedNode}
use Rattle.yf_grammar.specs.BlockReader.BlockParser.{Nothing, Indicator, Awaited, Whole}
use Rattle.yf_grammar.specs.BlockReader.Halts.{Halts}
use Rattle.yf_grammar.proofs.BlockOutcomes.BlockClaims.{nothing_ahead}
use Rattle.yf_grammar.proofs.BlockOutcomes.BlockParts.{halt_is_chosen}
use Rattle.yf_grammar.proofs.BlockReader.BlockSound.{NodeAhead, as_node, as_compact, as_nothing}
use Rattle.yf_grammar.proofs.BlockReader.ClearBlocks.{whole_clear}
use Rattle.yf_grammar.proofs.BlockReader.HaltsClear.{halts_clear}
use Rattle.yf_grammar.proofs.BlockReader.HaltsSound.{halts_sound}
use Rattle.yf_grammar.proofs.BlockReader.SoundSteps.{Width}
use Rattle.yf_grammar.proofs.BlockReader.WholeSound.{whole_sound}

-- the outcome from i on is a block node
pub record NodeFound (t : List ℕ) (e : ℕ) (n : ℤ) (c : Ctx) (i : ℕ) (f : ParsedNode) : Type 0 where
  pub derived : Derives t f.height (BlockNode n c) i f.end f.meaning
  pub within : f.height ≤ e
  pub clear : Clear t i f.end

node_of : {t : List ℕ} {n : ℤ} {c : Ctx} {i h j : ℕ} {y : Meaning} → NodeAhead t false n c Nothing i h j y → Derives t h (BlockNode n c) i j y
node_of (as_node d) = d
node_of (as_compact e q d) = absurd (true≢false (sym q))
node_of (as_nothing e d h m) = absurd (differ e) where
  differ : {k : ℕ} → Nothing ≡ Indicator k → ⊥
  differ e = cc

module _ {t : List ℕ} (u : IsUtf8 t) {e i : ℕ} {n : ℤ} {c : Ctx} {f : ParsedNode} (block : is_block c ≡ true) (wide : Width n) where
  pub whole_is_node : Whole t e (Awaited false n c Nothing i) (Some f) → NodeFound t e n c i f
  whole_is_node r = let s = whole_sound u r refl block wide nothing_ahead in record { derived = node_of s.1; within = s.0; clear = whole_clear u r refl }

  pub halt_is_node : Halts t e [] (Awaited false n c Nothing i) (Some f) → NodeFound t e n c i f
  halt_is_node r = let s = halts_sound u r refl block wide nothing_ahead in record { derived = node_of s.1; within = s.0; clear = halts_clear u r refl }

  -- with the notes of its entries filled in, it is the longest part
  pub last_halt_is_chosen : {part : Part} → Halts t e [] (Awaited false n c Nothing i) (Some f) → Noting t 0 f.meaning.events part.events → part.comments ≡ f.meaning.comments
      → part.escapes ≡ f.meaning.escapes → Chosen (BlockNodePart t e n c i) f.end part
  last_halt_is_chosen r events comments escapes = let d = halt_is_node r in halt_is_chosen u r d.derived d.within d.clear events comments escapes
