-- The laws of the recursive readers, each under a plain sentence: the readers find exactly the parts that the grammar
-- derives. `proofs/LawsHold.antt` proves them, so a change of the readers or of the grammar that breaks one is refused
-- there.
use Rattle.std.specs.Prelude.{◌≡◌, ℕ, ℤ, pos, ◌+ℤ◌, ◌≤ℤ◌, ◌≤◌, true, false, List, [], Option, Some, None}
use Rattle.std.specs.Str.{IsUtf8}
use Rattle.yf_chars.specs.declared.context.Ctx.{Ctx}
use Rattle.yf_chars.specs.Chain.{Stuck, Chosen}
use Rattle.yf_lines.specs.Basic.{is_block, is_flow, Clear}
use Rattle.yf_comments.specs.Comments.{Row}
use Rattle.yf_events.specs.declared.part.Part.{Part}
use Rattle.yf_grammar.specs.Productions.Meaning.{Meaning}
use Rattle.yf_grammar.specs.Productions.Grammar.{BlockNode, Derives}
use Rattle.yf_grammar.specs.Productions.ReadParts.{Noting, FlowNodePart, BlockNodePart, KeyPart}
use Rattle.yf_grammar.specs.FlowReader.Parser.{ParsedNode, found, Task, Parses, ANode}
use Rattle.yf_grammar.specs.BlockReader.BlockParser.{LinesEnd, Nothing, Awaited, Whole}
use Rattle.yf_grammar.specs.BlockReader.Halts.{Halts}

-- the part of a meaning, with the notes of its entries filled in
pub record Fills (t : List ℕ) (x : Meaning) (part : Part) : Type 0 where
  pub events : Noting t 0 x.events part.events
  pub comments : part.comments ≡ x.comments
  pub escapes : part.escapes ≡ x.escapes

-- If the reader of flow nodes finds a node in a flow or key context, it is the longest flow node there that is derived
-- within the limit of open collections and covers no forbidden line, and it has one meaning.
abbrev pub FlowNodesAreChosen : Type 0
FlowNodesAreChosen = (t : List ℕ) (e i : ℕ) (n : ℤ) (c : Ctx) (f : ParsedNode) (part : Part) → IsUtf8 t → is_block c ≡ false → Parses t e (ANode n c i) (Some f)
    → Fills t f.meaning part → Chosen (FlowNodePart t e n c i) f.end part

-- If it finds none, none is derived.
abbrev pub NoFlowNodeIsMissed : Type 0
NoFlowNodeIsMissed = (t : List ℕ) (e i : ℕ) (n : ℤ) (c : Ctx) → IsUtf8 t → is_block c ≡ false → Parses t e (ANode n c i) None → Stuck (FlowNodePart t e n c i)

-- A node that it finds with the indentation 0 is the longest node of an implicit key there, with one meaning. If it
-- finds none, none is derived.
abbrev pub KeysAreChosen : Type 0
KeysAreChosen = (t : List ℕ) (e i : ℕ) (c : Ctx) (f : ParsedNode) (part : Part) → IsUtf8 t → is_block c ≡ false → Parses t e (ANode (pos 0) c i) (Some f)
    → Fills t f.meaning part → Chosen (KeyPart t e c i) f.end part

abbrev pub NoKeyIsMissed : Type 0
NoKeyIsMissed = (t : List ℕ) (e i : ℕ) (c : Ctx) → IsUtf8 t → is_block c ≡ false → Parses t e (ANode (pos 0) c i) None → Stuck (KeyPart t e c i)

-- A task of the reader of flow nodes has one outcome within a limit.
abbrev pub FlowOutcomesAreOne : Type 0
FlowOutcomesAreOne = (t : List ℕ) (e : ℕ) (task : Task) (o p : Option ParsedNode) → Parses t e task o → Parses t e task p → o ≡ p

-- A flow node outside of keys has an outcome at each offset, within each limit: it cannot be that it has none.
abbrev pub FlowNodesHaveOutcomes : Type 0
FlowNodesHaveOutcomes = (t : List ℕ) (e i : ℕ) (n : ℤ) (c : Ctx) → IsUtf8 t → is_flow c ≡ true → ((o : Option ParsedNode) → Parses t e (ANode n c i) o → ⊥) → ⊥

-- If the outermost call of the reader of block nodes finds a node, with an indentation of -1 or more, it is the longest
-- block node there that is derived within the limit of open collections and covers no forbidden line, and it has one
-- meaning.
abbrev pub WholeNodesAreChosen : Type 0
WholeNodesAreChosen = (t : List ℕ) (e i : ℕ) (n : ℤ) (c : Ctx) (f : ParsedNode) (part : Part) → IsUtf8 t → is_block c ≡ true → pos 0 ≤ℤ (n +ℤ pos 1)
    → Whole t e (Awaited false n c Nothing i) (Some f) → Fills t f.meaning part → Chosen (BlockNodePart t e n c i) f.end part

-- If a block node is derived within the limit, covers no forbidden line, and leaves no comment line after it, that
-- reader finds exactly this node before the end of the text, a byte order mark or a forbidden line.
abbrev pub DerivedNodesAreWhole : Type 0
DerivedNodesAreWhole = (t : List ℕ) (h e i j : ℕ) (n : ℤ) (c : Ctx) (x : Meaning) (o : Option ParsedNode) → IsUtf8 t → Derives t h (BlockNode n c) i j x → h ≤ e → Clear t i j
    → Stuck (Row t j) → LinesEnd t j → Whole t e (Awaited false n c Nothing i) o → o ≡ found j h false x

-- The outermost call of that reader has an outcome at each offset, within each limit: it cannot be that it has none.
abbrev pub BlockNodesHaveOutcomes : Type 0
BlockNodesHaveOutcomes = (t : List ℕ) (e i : ℕ) (n : ℤ) (c : Ctx) → IsUtf8 t → ((o : Option ParsedNode) → Whole t e (Awaited false n c Nothing i) o → ⊥) → ⊥

-- The part of a broken node up to the last offset at which it may end is the longest block node there, and has one
-- meaning.
abbrev pub LastHaltsAreChosen : Type 0
LastHaltsAreChosen = (t : List ℕ) (e i : ℕ) (n : ℤ) (c : Ctx) (f : ParsedNode) (part : Part) → IsUtf8 t → is_block c ≡ true → pos 0 ≤ℤ (n +ℤ pos 1)
    → Halts t e [] (Awaited false n c Nothing i) (Some f) → Fills t f.meaning part → Chosen (BlockNodePart t e n c i) f.end part

-- If it may end nowhere, no block node is derived.
abbrev pub NoBlockNodeIsMissed : Type 0
NoBlockNodeIsMissed = (t : List ℕ) (e i : ℕ) (n : ℤ) (c : Ctx) → IsUtf8 t → Halts t e [] (Awaited false n c Nothing i) None → Stuck (BlockNodePart t e n c i)

-- The outermost call has a last offset at which its node may end, or it has none, within each limit: it cannot be that
-- neither is so.
abbrev pub LastHaltsHaveOutcomes : Type 0
LastHaltsHaveOutcomes = (t : List ℕ) (e i : ℕ) (n : ℤ) (c : Ctx) → IsUtf8 t → ((o : Option ParsedNode) → Halts t e [] (Awaited false n c Nothing i) o → ⊥) → ⊥
