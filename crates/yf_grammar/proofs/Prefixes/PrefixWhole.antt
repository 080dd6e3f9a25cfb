-- A block node of a text is one of the prefix that ends with it, with the same part; and the reader of whole nodes
-- finds it there. So a reader that has found the last offset at which a node may end may read only the prefix up to
-- that offset.
use Rattle.std.proofs.Common.{◌≡◌, ℕ, ◌≤◌, ℤ, true, false, List, [], length, take, Option, Some, None, sym, ap, ◌∙◌, subst, arith}
use Rattle.std.proofs.lemmas.List.{take_all, length-take-le}
use Rattle.std.proofs.lemmas.Str as S
use Rattle.std.proofs.lemmas.Option.{same_Some}
use Rattle.std.specs.Str.{IsCharBoundary, IsUtf8}
use Rattle.yf_chars.specs.declared.context.Ctx.{Ctx}
use Rattle.yf_chars.specs.Chain.{Chosen}
use Rattle.yf_lines.specs.Basic.{is_block, Clear}
use Rattle.yf_lines.proofs.LineLemmas.{break_boundary}
use Rattle.yf_comments.proofs.LineEndLemmas.{row_stuck_end}
use Rattle.yf_events.specs.Event.{EventInText}
use Rattle.yf_events.specs.declared.part.Part.{Part}
use Rattle.yf_grammar.specs.BlockReader.BlockParser.{text_ends, Nothing, Awaited, Whole}
use Rattle.yf_grammar.specs.Productions.Grammar.{Production, BlockNode, Derives}
use Rattle.yf_grammar.specs.BlockReader.Halts.{Halts}
use Rattle.yf_grammar.proofs.Laws.{Fills}
use Rattle.yf_grammar.specs.Productions.Meaning.{Meaning}
use Rattle.yf_grammar.specs.FlowReader.Parser.{ParsedNode, found}
use Rattle.yf_grammar.specs.Productions.ReadParts.{Noting, BlockNodePart}
use Rattle.yf_grammar.proofs.BlockOutcomes.BlockStatements.{node_at_end}
use Rattle.yf_grammar.proofs.Documents.DerivedNodes.{halt_is_node, last_halt_is_chosen}
use Rattle.yf_grammar.proofs.BlockReader.SoundSteps.{Width}
use Rattle.yf_grammar.proofs.Prefixes.PrefixTexts.{alike_back, prefix, prefix_end}
use Rattle.yf_grammar.proofs.Prefixes.PrefixLines.{clear_there}
use Rattle.yf_grammar.proofs.Prefixes.PrefixComments.{PrefixText}
use Rattle.yf_grammar.proofs.Prefixes.PrefixEnds.{Closed, at_break, at_text, derived_closed}
use Rattle.yf_grammar.proofs.Prefixes.PrefixNodes.{derives_in_prefix}
use Rattle.yf_grammar.proofs.Prefixes.PrefixNotes.{Begun, derived_begun, noting_there}
use Rattle.yf_chars.proofs.Tests.{none_some}

closed_boundary : {t : List ℕ} {k : ℕ} → IsUtf8 t → Closed t k → IsCharBoundary t k
closed_boundary u (at_break b) = break_boundary u b
closed_boundary {t} u (at_text e) = subst (λ j. IsCharBoundary t j) (sym e) (S.IsCharBoundary-end t)

-- a text and its prefix, which is the whole text, or ends with a break of the text
data Cut (t s : List ℕ) (k : ℕ) : Type 0 where
  cut_at_break : PrefixText t s k → Cut t s k
  cut_at_end : s ≡ t → k ≡ length t → Cut t s k

cut : {t : List ℕ} {k : ℕ} → IsUtf8 t → Closed t k → Cut t (take k t) k
cut u (at_break b) = cut_at_break (record { alike = prefix u b; closed = prefix_end u b })
cut {t} {k} u (at_text e) = cut_at_end (take_all k t (omega arith)) e

module _ {t s : List ℕ} {k : ℕ} where
  cut_closed : Cut t s k → k ≡ length s
  cut_closed (cut_at_break f) = sym f.closed
  cut_closed (cut_at_end e l) = l ∙ ap length (sym e)

  cut_utf8 : IsUtf8 t → Cut t s k → IsUtf8 s
  cut_utf8 u (cut_at_break f) = f.alike.utf8_there
  cut_utf8 u (cut_at_end e l) = subst (λ w. IsUtf8 w) (sym e) u

  cut_derives : {h i j : ℕ} {p : Production} {x : Meaning} → Cut t s k → Derives t h p i j x → j ≤ k → Derives s h p i j x
  cut_derives (cut_at_break f) d l = derives_in_prefix f d l
  cut_derives {h} {i} {j} {p} {x} (cut_at_end e q) d l = subst (λ w. Derives w h p i j x) (sym e) d

  cut_clear : {i j : ℕ} → Cut t s k → Clear t i j → j ≤ k → Clear s i j
  cut_clear (cut_at_break f) c l = clear_there f.alike c l
  cut_clear {i} {j} (cut_at_end e q) c l = subst (λ w. Clear w i j) (sym e) c

  -- the notes of a prefix are the text's
  cut_noting : {floor : ℕ} {x y : List EventInText} → Cut t s k → Noting t floor x y → Begun k x → Noting s floor x y
  cut_noting (cut_at_break f) n b = noting_there f.alike n b
  cut_noting {floor} {x} {y} (cut_at_end e q) n b = subst (λ w. Noting w floor x y) (sym e) n

  cut_noting_back : {floor : ℕ} {x y : List EventInText} → Cut t s k → Noting s floor x y → Begun k x → Noting t floor x y
  cut_noting_back (cut_at_break f) n b = noting_there (alike_back f.alike) n b
  cut_noting_back {floor} {x} {y} (cut_at_end e q) n b = subst (λ w. Noting w floor x y) e n

module _ {t : List ℕ} (u : IsUtf8 t) where
  -- a part up to an offset is derived in the prefix up to the end of a break there or later
  pub derived_in_prefix : {h i j k : ℕ} {p : Production} {x : Meaning} → Closed t k → j ≤ k → Derives t h p i j x → Derives (take k t) h p i j x
  derived_in_prefix c l d = cut_derives (cut u c) d l

  -- a block node is one of the prefix that ends with it
  pub node_in_prefix : {h i j : ℕ} {n : ℤ} {c : Ctx} {x : Meaning} → Derives t h (BlockNode n c) i j x → Derives (take j t) h (BlockNode n c) i j x
  node_in_prefix d = derived_in_prefix (derived_closed u d) (omega arith) d

  -- and with the notes of its entries it is the same part
  pub part_in_prefix : {limit i j : ℕ} {n : ℤ} {c : Ctx} {part : Part} → BlockNodePart t limit n c i j part → BlockNodePart (take j t) limit n c i j part
  part_in_prefix {j = j} d =
      let z = cut u (derived_closed u d.derived) in
      let l : j ≤ j = omega arith in
      record {
        height = d.height;
        meaning = d.meaning;
        derived = cut_derives z d.derived l;
        within = d.within;
        clear = cut_clear z d.clear l;
        events = cut_noting z d.events (derived_begun d.derived l).begun;
        comments = d.comments;
        escapes = d.escapes;
      }

  -- The reader of whole nodes finds a block node in the prefix that ends with it.
  pub node_is_whole : {h e i j : ℕ} {n : ℤ} {c : Ctx} {x : Meaning} {o : Option ParsedNode} → Derives t h (BlockNode n c) i j x → h ≤ e → Clear t i j
      → Whole (take j t) e (Awaited false n c Nothing i) o → o ≡ found j h false x
  node_is_whole {j = j} d within clear r =
      let z = cut u (derived_closed u d) in
      let l : j ≤ j = omega arith in
      node_at_end (cut_utf8 u z) (cut_derives z d l) within (cut_clear z clear l) (λ _. row_stuck_end (cut_closed z)) (text_ends (cut_closed z)) r

module _ {t : List ℕ} (u : IsUtf8 t) {e i : ℕ} {n : ℤ} {c : Ctx} {f : ParsedNode} (block : is_block c ≡ true) (wide : Width n) (r : Halts t e [] (Awaited false n c Nothing i) (Some f)) where
  -- The reader of whole nodes finds the part up to the last halt in the prefix that ends there.
  pub prefix_is_whole : {o : Option ParsedNode} → Whole (take f.end t) e (Awaited false n c Nothing i) o → o ≡ found f.end f.height false f.meaning
  prefix_is_whole w = let d = halt_is_node u block wide r in node_is_whole u d.derived d.within d.clear w

  -- and the part that is made of it in the prefix is the longest part of the text
  pub prefix_is_chosen : {part : Part} → Fills (take f.end t) f.meaning part → Chosen (BlockNodePart t e n c i) f.end part
  prefix_is_chosen p =
      let d = halt_is_node u block wide r in
      let b = derived_begun d.derived (omega arith) in
      last_halt_is_chosen u block wide r (cut_noting_back (cut u (derived_closed u d.derived)) p.events b.begun) p.comments p.escapes

  -- The text may be cut there.
  pub prefix_boundary : IsCharBoundary t f.end
  prefix_boundary = let d = halt_is_node u block wide r in closed_boundary u (derived_closed u d.derived)

  pub prefix_utf8 : IsUtf8 (take f.end t)
  prefix_utf8 = S.IsUtf8-take t f.end u prefix_boundary

  pub prefix_length : length (take f.end t) ≡ f.end
  prefix_length = length-take-le f.end t prefix_boundary.0

  -- So each outcome of that reader in the prefix is the longest part of the text, with one meaning, and it finds a node
  -- there.
  pub prefix_reads : {g : ParsedNode} {part : Part} → Whole (take f.end t) e (Awaited false n c Nothing i) (Some g) → Fills (take f.end t) g.meaning part
      → Chosen (BlockNodePart t e n c i) g.end part
  unfolding found
  prefix_reads {g} {part} w p =
      let again : ParsedNode = record { end = f.end; height = f.height; json = false; meaning = f.meaning } in
      let same : g ≡ again = same_Some g again (prefix_is_whole w) in
      subst (λ z. Chosen (BlockNodePart t e n c i) z.end part) (sym same) (prefix_is_chosen (subst (λ z. Fills (take f.end t) z.meaning part) same p))

  pub prefix_reads_some : Whole (take f.end t) e (Awaited false n c Nothing i) None → ⊥
  unfolding found
  prefix_reads_some w = none_some (prefix_is_whole w)
