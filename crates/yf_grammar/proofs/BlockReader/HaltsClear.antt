-- The last halt of the reader of block nodes covers no forbidden line.
use Rattle.std.proofs.Common.{◌≡◌, ◌≢◌, ℕ, ◌+◌, ◌<◌, ◌≤◌, ℤ, true, false, List, [], Option, Some, refl, arith}
use Rattle.std.specs.Str.{IsUtf8}
use Rattle.yf_chars.proofs.Tests.{none_some}
use Rattle.yf_lines.specs.Basic.{Clear}
use Rattle.yf_lines.proofs.BasicLemmas.{clear_join}
use Rattle.yf_lines.proofs.ClearLemmas.{clear_whites}
use Rattle.yf_grammar.specs.Productions.Meaning.{Meaning}
use Rattle.yf_grammar.specs.FlowReader.Parser.{ParsedNode}
use Rattle.yf_grammar.specs.BlockReader.BlockParser.{Ahead, BlockTask, collected, item_found, lone_key, lone_value, pair_found}
use Rattle.yf_grammar.specs.BlockReader.Halts.{Alone, alone_to, alone_nowhere, PlainPart, plain_part, Halts}
use Rattle.yf_grammar.specs.BlockReader.Halts as Halting
use Rattle.yf_grammar.proofs.FlowReader.ClearLemmas.{clear_comments, clear_properties, found_is_clear, clear_mark}
use Rattle.yf_grammar.proofs.BlockOutcomes.BlockClaims.{line_whites}
use Rattle.yf_grammar.proofs.BlockReader.ClearBlocks.{place, clear_to, dash_clear, scalar_clear, spaces_clear, whole_clear}
use Rattle.yf_grammar.proofs.BlockOutcomes.OutcomeEnds.{collected_end, leaf_end, with_plain_end, item_end, lone_key_end, lone_value_end, pair_end, items_end, alone_end, told_of, then_of}
use Rattle.yf_grammar.proofs.BlockReader.WholeSound.{next_spaces}

module _ {t : List ℕ} (u : IsUtf8 t) where
  alone_clear : {i : ℕ} {ws : List ℕ} {a : Ahead} {o : Option ParsedNode} {f : ParsedNode} → Alone t ws a i o → o ≡ Some f → Clear t i f.end
  alone_clear {a = a} {f = f} (alone_to {k = k} {ds = ds} d) e = clear_to f.end k (alone_end a k ds e) (clear_comments u d.derived.line)
  alone_clear (alone_nowhere s) e = absurd (none_some e)

  part_clear : {n : ℤ} {ws : List ℕ} {i j : ℕ} {x : Meaning} → PlainPart t n ws i j x → Clear t i j
  part_clear (plain_part p m) = clear_join p.clear (clear_comments u m.line)

  pub halts_clear : {e : ℕ} {ws : List ℕ} {task : BlockTask} {o : Option ParsedNode} {f : ParsedNode} → Halts t e ws task o → o ≡ Some f → Clear t (place task) f.end
  halts_clear (Halting.halts_below d r) e = halts_clear r e
  halts_clear (Halting.halts_inline d m l w g r) e = clear_join (clear_whites u m) (halts_clear r e)
  halts_clear (Halting.halts_missed d w) e = absurd (none_some e)
  halts_clear (Halting.halts_alone d n y) e = alone_clear y e
  halts_clear {f = v} (Halting.halts_node {a = a} {ds = ds} {f = f} d w b g r) e =
      let y = told_of a ds (Some f) e in
      let z = y.inner in
      clear_to v.end z.end y.end (clear_join (clear_comments u d.derived) (clear_join (clear_whites u (line_whites w).1) (halts_clear r y.is)))
  halts_clear (Halting.halts_before_node d w b g r y) e = alone_clear y e
  halts_clear (Halting.halts_unended d) e = absurd (none_some e)
  halts_clear {f = v} (Halting.halts_sequence {p = p} {a = a} {o = o} q d r) e =
      let s = then_of (collected a true p) o e in let z = s.inner in clear_to v.end z.end (collected_end a true p z s.made) (halts_clear r s.is)
  halts_clear (Halting.halts_sequence_too_deep q d) e = absurd (none_some e)
  halts_clear {f = v} (Halting.halts_mapping {p = p} {a = a} {o = o} n q d r) e =
      let s = then_of (collected a false p) o e in let z = s.inner in clear_to v.end z.end (collected_end a false p z s.made) (halts_clear r s.is)
  halts_clear (Halting.halts_mapping_too_deep n q d) e = absurd (none_some e)
  halts_clear (Halting.halts_properties_below n p d j r) e = clear_join (clear_properties u p.derived) (halts_clear r e)
  halts_clear (Halting.halts_properties_leaf n q p d m l w j r) e = clear_join (clear_properties u p.derived) (clear_join (clear_whites u m) (halts_clear r e))
  halts_clear (Halting.halts_properties_missed n q p d w) e = absurd (none_some e)
  halts_clear (Halting.halts_properties_apart_below n p d a) e = absurd (none_some e)
  halts_clear (Halting.halts_properties_apart n q p d a) e = absurd (none_some e)
  halts_clear (Halting.halts_leaf n q p r) e = halts_clear r e
  halts_clear {f = v} (Halting.halts_scalar {j = j} {a = a} {x = x} d) e = clear_to v.end j (leaf_end a j 0 x [] e) (scalar_clear u d.derived.scalar)
  halts_clear (Halting.halts_scalar_before d s) e = absurd (none_some e)
  halts_clear {f = v} (Halting.halts_plain {j = j} {a = a} {x = x} s m b d) e = clear_to v.end j (with_plain_end a j x e) (part_clear d.derived)
  halts_clear (Halting.halts_plain_missed s m b d) e = absurd (none_some e)
  halts_clear {f = v} (Halting.halts_content {j = j} {a = a} {ds = ds} {f = f} s m b r d) e =
      clear_to v.end j (leaf_end a j f.height f.meaning ds e) (clear_join (found_is_clear u r) (clear_comments u d.derived.line))
  halts_clear (Halting.halts_content_unended s m b r d) e = absurd (none_some e)
  halts_clear (Halting.halts_content_missed s m b r) e = absurd (none_some e)
  halts_clear (Halting.halts_refused s m) e = absurd (none_some e)
  halts_clear (Halting.halts_item r n s) e = halts_clear s e
  halts_clear (Halting.halts_before_item r n s y) e = halts_clear y e
  halts_clear {f = v} (Halting.halts_items {f = f} {g = g} r n s) e =
      clear_to v.end g.end (items_end f g e) (clear_join (whole_clear u r refl) (clear_join (spaces_clear u (next_spaces n)) (halts_clear s refl)))
  halts_clear {f = v} (Halting.halts_dash {i = i} {o = o} d r) e =
      let s = then_of (item_found i) o e in let z = s.inner in clear_to v.end z.end (item_end i z s.made) (clear_join (dash_clear d) (halts_clear r s.is))
  halts_clear (Halting.halts_undashed d) e = absurd (none_some e)
  halts_clear {f = v} (Halting.halts_question {i = i} {o = o} q r n s) e =
      let y = then_of (lone_key i) o e in
      let z = y.inner in
      clear_to v.end z.end (lone_key_end i z y.made) (clear_join (clear_mark q.sign_is_at (λ q. omega arith) (λ q. omega arith)) (halts_clear s y.is))
  halts_clear {f = v} (Halting.halts_before_value {i = i} {o = o} q r c n s) e =
      let y = then_of (lone_key i) o e in
      let z = y.inner in
      clear_to v.end z.end (lone_key_end i z y.made) (clear_join (clear_mark q.sign_is_at (λ q. omega arith) (λ q. omega arith)) (halts_clear s y.is))
  halts_clear {f = v} (Halting.halts_value {m = m} {i = i} {f = f} {g = g} s r c z) e =
      clear_to v.end g.end (pair_end i (f.end + m) f g e)
      (clear_join (clear_mark s.sign_is_at (λ q. omega arith) (λ q. omega arith)) (clear_join (whole_clear u r refl) (clear_join (spaces_clear u c.indent)
      (clear_join (clear_mark c.colon (λ q. omega arith) (λ q. omega arith)) (halts_clear z refl)))))
  halts_clear {f = v} (Halting.halts_colon {i = i} {o = o} q s) e =
      let y = then_of (lone_value i) o e in
      let z = y.inner in
      clear_to v.end z.end (lone_value_end i z y.made) (clear_join (clear_mark q.sign_is_at (λ q. omega arith) (λ q. omega arith)) (halts_clear s y.is))
  halts_clear {f = v} (Halting.halts_key {i = i} {k = k} {f = f} {o = o} a b p l d r) e =
      let y = then_of (pair_found i k f) o e in
      let z = y.inner in
      clear_to v.end z.end (pair_end i k f z y.made)
      (clear_join (found_is_clear u p) (clear_join (clear_whites u d.run) (clear_join (clear_mark d.colon.sign_is_at (λ q. omega arith) (λ q. omega arith)) (halts_clear r y.is))))
  halts_clear (Halting.halts_no_key a b k) e = absurd (none_some e)
  halts_clear (Halting.halts_key_too_deep a b p l d) e = absurd (none_some e)
