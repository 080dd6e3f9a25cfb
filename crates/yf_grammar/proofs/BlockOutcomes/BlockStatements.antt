-- The laws of the reader of block nodes, as the crates above use them: the reader finds the node of a document, and the
-- last halt is the longest derived part.
use Rattle.std.proofs.Common.{◌≡◌, ℕ, ◌<◌, ◌≤◌, ℤ, Bool, false, ◌⊎◌, List, [], Option, Some, None, refl}
use Rattle.std.specs.Str.{IsUtf8}
use Rattle.yf_chars.specs.declared.context.Ctx.{Ctx}
use Rattle.yf_chars.specs.Chain.{Stuck}
use Rattle.yf_lines.specs.Basic.{Clear}
use Rattle.yf_comments.specs.Comments.{Row}
use Rattle.yf_grammar.specs.Productions.Meaning.{Meaning}
use Rattle.yf_grammar.specs.Productions.Grammar.{BlockNode, Derives}
use Rattle.yf_grammar.specs.FlowReader.Parser.{ParsedNode, found}
use Rattle.yf_grammar.specs.BlockReader.BlockParser.{LinesEnd, Ahead, Nothing, Awaited, Whole}
use Rattle.yf_grammar.specs.BlockReader.Halts.{NoColonAt, none_open, Halts}
use Rattle.yf_grammar.proofs.FlowReader.Longest.{Longest}
use Rattle.yf_grammar.proofs.BlockOutcomes.BlockClaims.{LineReading, LineHalting, Follow, Unheld, nothing_ahead}
use Rattle.yf_grammar.proofs.BlockOutcomes.BlockCover.{cover}
use Rattle.yf_grammar.proofs.BlockOutcomes.BlockExtended.{by_scalar}
use Rattle.yf_grammar.proofs.BlockOutcomes.BlockHalts.{WholePlain, may_end_chosen}
use Rattle.yf_grammar.proofs.BlockOutcomes.BlockItems.{longest_far, longest_some}
use Rattle.yf_grammar.proofs.BlockOutcomes.BlockReach.{reach}
use Rattle.yf_grammar.proofs.BlockContent.BlockScalars.{scalar_owed, scalar_halting}
use Rattle.yf_grammar.proofs.BlockContent.FlowReading.{flow_owed, flow_halting}
use Rattle.yf_grammar.proofs.BlockContent.PlainCut.{whole_plain}
use Rattle.yf_grammar.proofs.BlockContent.PropertiedNodes.{scalar_with_owed, scalar_with_halting, collection_with_owed, collection_with_halting}

module _ {t : List ℕ} (u : IsUtf8 t) where
  pub line_reading : LineReading t
  line_reading = record {
    flow = λ b s d g. flow_owed u s d g;
    scalar = λ b s d. scalar_owed u b s d;
    scalar_with = λ b s p q d. scalar_with_owed u b s p q d;
    collection_with = λ b s p g q l d c. collection_with_owed u b s p g q l d c;
  }

  pub line_halting : LineHalting t
  line_halting = record {
    flow = λ b s d g. flow_halting u s d g;
    scalar = λ b s d. scalar_halting u b s d;
    scalar_with = λ b s p q d. scalar_with_halting u b s p q d;
    collection_with = λ b s p g q l d c. collection_with_halting u b s p g q l d c;
  }

  pub plain_is_whole : WholePlain t
  plain_is_whole = record { whole = λ p d a. whole_plain u p (may_end_chosen d a) }

module _ {t : List ℕ} (u : IsUtf8 t) {h e i j : ℕ} {n : ℤ} {c : Ctx} {x : Meaning} (d : Derives t h (BlockNode n c) i j x) (within : h ≤ e) (clear : Clear t i j) where
  -- the reader finds a node before text that can follow it
  pub node_is_found : {b : Bool} {a : Ahead} {o : Option ParsedNode} → Follow t (by_scalar d) n c j → Unheld a → Whole t e (Awaited b n c a i) o → o ≡ found j h false x
  node_is_found {b} {a} {o} f y r = (cover u (line_reading u) d e within clear f b a y o r).is

  -- so also at the end of the text, a mark or a marker, if no comment line of the node is left
  pub node_at_end : {o : Option ParsedNode} → (by_scalar d ≡ false → Stuck (Row t j)) → LinesEnd t j → Whole t e (Awaited false n c Nothing i) o → o ≡ found j h false x
  node_at_end s l r = node_is_found (record { still = s; shallow = λ m p w q. w.goes_on l; no_dash = λ m p w y q k. w.goes_on l }) nothing_ahead r

  node_reached : {b : Bool} {a : Ahead} {ws : List ℕ} {o : Option ParsedNode} → Unheld a → NoColonAt t j ws → Halts t e ws (Awaited b n c a i) o → Longest o j x
  node_reached {b} {a} {ws} {o} y w r = reach u (line_reading u) (plain_is_whole u) (line_halting u) d e within clear b a y ws w o r

  -- the last halt is the longest part, with one meaning
  pub longest_part : {f : ParsedNode} → Halts t e [] (Awaited false n c Nothing i) (Some f) → (j < f.end) ⊎ ((j ≡ f.end) × (x ≡ f.meaning))
  longest_part {f} r = longest_far f (node_reached nothing_ahead none_open r) refl

  pub no_part : Halts t e [] (Awaited false n c Nothing i) None → ⊥
  no_part r = longest_some (node_reached nothing_ahead none_open r) refl
