-- The outcomes of the reader of block nodes, as parts: if it has no last halt, no block node is derived; a last halt
-- that is derived is the longest block node, with one meaning.
use Rattle.std.proofs.Common.{◌≡◌, ℕ, ◌<◌, ◌≤◌, ℤ, false, ⊎_elim, List, [], Some, None, sym, ap, ◌∙◌, subst, arith}
use Rattle.std.specs.Str.{IsUtf8}
use Rattle.yf_chars.specs.declared.context.Ctx.{Ctx}
use Rattle.yf_chars.specs.Chain.{Stuck, Chosen}
use Rattle.yf_lines.specs.Basic.{Clear}
use Rattle.yf_events.specs.declared.part.Part.{Part}
use Rattle.yf_grammar.specs.Productions.Grammar.{BlockNode, Derives}
use Rattle.yf_grammar.specs.FlowReader.Parser.{ParsedNode}
use Rattle.yf_grammar.specs.Productions.ReadParts.{Noting, BlockNodePart}
use Rattle.yf_grammar.specs.BlockReader.BlockParser.{Nothing, Awaited}
use Rattle.yf_grammar.specs.BlockReader.Halts.{Halts}
use Rattle.yf_grammar.proofs.BlockOutcomes.BlockStatements.{longest_part, no_part}
use Rattle.yf_grammar.proofs.Ends.Parts.{part_one, noting_one}

module _ {t : List ℕ} (u : IsUtf8 t) {e i : ℕ} {n : ℤ} {c : Ctx} where
  pub no_block_node : Halts t e [] (Awaited false n c Nothing i) None → Stuck (BlockNodePart t e n c i)
  no_block_node r = record { none = λ k part d. no_part u d.derived d.within d.clear r }

  halt_far : {f : ParsedNode} {k : ℕ} {part : Part} → Halts t e [] (Awaited false n c Nothing i) (Some f) → BlockNodePart t e n c i k part → k ≤ f.end
  halt_far {f} {k} r d = ⊎_elim (λ (q : k < f.end). omega arith) (λ (q : (k ≡ f.end) × (d.meaning ≡ f.meaning)). let s = q.0 in omega arith) (longest_part u d.derived d.within d.clear r)

  halt_only : {f : ParsedNode} {part : Part} → Halts t e [] (Awaited false n c Nothing i) (Some f) → (d : BlockNodePart t e n c i f.end part) → d.meaning ≡ f.meaning
  halt_only {f} r d = ⊎_elim (λ (q : f.end < f.end). absurd (omega arith)) (λ (q : (f.end ≡ f.end) × (d.meaning ≡ f.meaning)). q.1) (longest_part u d.derived d.within d.clear r)

  pub halt_is_chosen : {f : ParsedNode} {part : Part} → Halts t e [] (Awaited false n c Nothing i) (Some f) → Derives t f.height (BlockNode n c) i f.end f.meaning → f.height ≤ e → Clear t i f.end
      → Noting t 0 f.meaning.events part.events → part.comments ≡ f.meaning.comments → part.escapes ≡ f.meaning.escapes → Chosen (BlockNodePart t e n c i) f.end part
  halt_is_chosen {f} {part} r d within clear events comments escapes = record {
    derived = record { height = f.height; meaning = f.meaning; derived = d; within = within; clear = clear; events = events; comments = comments; escapes = escapes };
    longest = λ k y p. halt_far r p;
    only = λ y p.
        let m = halt_only r p in
        let noted : Noting t 0 f.meaning.events y.events = subst (λ x. Noting t 0 x.events y.events) m p.events in
        part_one y part (noting_one noted events) (p.comments ∙ ap (λ x. x.comments) m ∙ sym comments) (p.escapes ∙ ap (λ x. x.escapes) m ∙ sym escapes);
  }
