-- Each outcome of the reader of whole nodes ends at its last halt, and a node that is found has a character.
use Rattle.std.proofs.Common.{◌≡◌, ℕ, ◌<◌, ℤ, true, false, ⊎_elim, List, [], Option, Some, None, refl, arith}
use Rattle.std.specs.Str.{IsUtf8}
use Rattle.yf_chars.specs.declared.context.Ctx.{Ctx}
use Rattle.yf_lines.specs.Basic.{is_block}
use Rattle.yf_grammar.specs.Productions.Meaning.{Meaning}
use Rattle.yf_grammar.specs.FlowReader.Parser.{ParsedNode}
use Rattle.yf_grammar.specs.BlockReader.BlockParser.{Nothing, Awaited, Whole}
use Rattle.yf_grammar.specs.BlockReader.Halts.{none_open, Halts}
use Rattle.yf_grammar.proofs.BlockOutcomes.BlockHalts.{whole_halts}
use Rattle.yf_grammar.proofs.BlockOutcomes.BlockStarts.{block_starts}
use Rattle.yf_grammar.proofs.BlockOutcomes.BlockStatements.{longest_part, no_part, plain_is_whole}
use Rattle.yf_grammar.proofs.Documents.DerivedNodes.{whole_is_node, halt_is_node}
use Rattle.yf_grammar.proofs.BlockReader.SoundSteps.{Width}

-- the last halt is at the end of the outcome
pub record EndsLast (g : ParsedNode) (h : Option ParsedNode) : Type 0 where
  pub last : ParsedNode
  pub is : h ≡ Some last
  pub end : last.end ≡ g.end

module _ {t : List ℕ} (u : IsUtf8 t) {e i : ℕ} {n : ℤ} {c : Ctx} (block : is_block c ≡ true) (wide : Width n) where
  -- all last halts have one end
  pub one_last_end : {f g : ParsedNode} → Halts t e [] (Awaited false n c Nothing i) (Some f) → Halts t e [] (Awaited false n c Nothing i) (Some g) → f.end ≡ g.end
  one_last_end {f} {g} a b =
      let x = halt_is_node u block wide a in
      let y = halt_is_node u block wide b in
      ⊎_elim
      (λ (l : f.end < g.end). ⊎_elim
      (λ (m : g.end < f.end). absurd (omega arith))
      (λ (m : (g.end ≡ f.end) × (g.meaning ≡ f.meaning)). let k = m.0 in omega arith)
      (longest_part u y.derived y.within y.clear a))
      (λ (l : (f.end ≡ g.end) × (f.meaning ≡ g.meaning)). l.0)
      (longest_part u x.derived x.within x.clear b)

  pub whole_ends_last : {g : ParsedNode} {h : Option ParsedNode} → Whole t e (Awaited false n c Nothing i) (Some g) → Halts t e [] (Awaited false n c Nothing i) h → EndsLast g h
  whole_ends_last {h = None} w r = let d = halt_is_node u block wide (whole_halts (plain_is_whole u) w refl none_open) in absurd (no_part u d.derived d.within d.clear r)
  whole_ends_last {h = Some f} w r = record { last = f; is = refl; end = one_last_end r (whole_halts (plain_is_whole u) w refl none_open) }

  -- a node that may end has a character
  pub last_moves : {f : ParsedNode} → Halts t e [] (Awaited false n c Nothing i) (Some f) → i < f.end
  last_moves r = block_starts (halt_is_node u block wide r).derived

  pub whole_moves : {g : ParsedNode} → Whole t e (Awaited false n c Nothing i) (Some g) → i < g.end
  whole_moves w = block_starts (whole_is_node u block wide w).derived
