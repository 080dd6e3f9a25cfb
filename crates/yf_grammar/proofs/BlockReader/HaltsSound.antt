-- The last halt of the reader of block nodes is derived within the limit, and no `:` of an open `?` entry follows it.
use Rattle.std.proofs.Common.{◌≡◌, ℕ, max, ◌+◌, ◌≤◌, ℤ, pos, ◌+ℤ◌, true, false, List, [], ◌∷◌, Option, Some, None, refl, sym, ap, ◌∙◌, subst, arith}
use Rattle.std.specs.Str.{IsUtf8}
use Rattle.yf_chars.specs.declared.context.Ctx.{Ctx}
use Rattle.yf_chars.specs.declared.context.Ctx.TheVariants.{BlockOut}
use Rattle.yf_chars.proofs.Tests.{none_some}
use Rattle.yf_lines.specs.Basic.{is_block}
use Rattle.yf_lines.specs.Basic.SeparateInLine.{by_whites}
use Rattle.yf_comments.specs.Comments.{LineEnd}
use Rattle.yf_comments.specs.Comments.Separate.{in_node}
use Rattle.yf_comments.specs.Comments.SeparateLines.{in_line}
use Rattle.yf_grammar.specs.Productions.BlockScalar.{BlockScalar}
use Rattle.yf_grammar.specs.Productions.Meaning.{Meaning, ◌⊕◌, noting, empty_node, entering}
use Rattle.yf_grammar.specs.Productions.Grammar.{BlockEntry, ColonLine, Derives}
use Rattle.yf_grammar.specs.Productions.Grammar.Derives.{a_plain, a_last_entry, an_entry_before, a_dash_entry, an_explicit_entry_with, an_explicit_key_alone, a_keyed_entry, an_unkeyed_entry}
use Rattle.yf_grammar.specs.FlowReader.Parser.{ParsedNode}
use Rattle.yf_grammar.specs.BlockReader.BlockParser.{SignAt, Ahead, Indicator, headed, MayLeaf, BlockTask, Awaited, collected, item_found, lone_key, lone_value, pair_found}
use Rattle.yf_grammar.specs.BlockReader.Halts.{NoColonAt, one_open, Alone, alone_to, alone_nowhere, PlainPart, plain_part, with_plain, then_found, Halts}
use Rattle.yf_grammar.specs.BlockReader.Halts as Halting
use Rattle.yf_grammar.proofs.FlowReader.ParserLemmas.{moved}
use Rattle.yf_grammar.proofs.FlowReader.Sound.{found_is_derived}
use Rattle.yf_grammar.proofs.BlockOutcomes.BlockClaims.{indicator_ahead}
use Rattle.yf_grammar.proofs.BlockOutcomes.BlockGaps.{block_no_key}
use Rattle.yf_grammar.proofs.BlockOutcomes.BlockInline.{sequence_column, mapping_column}
use Rattle.yf_grammar.proofs.BlockContent.LeafKeys.{found_keyed}
use Rattle.yf_grammar.proofs.BlockOutcomes.OutcomeEnds.{leaf_is, with_plain_is, item_is, lone_key_is, lone_value_is, pair_is, items_is, collected_end, leaf_end, with_plain_end, item_end, lone_key_end, lone_value_end, pair_end, items_end, alone_end, told_of, then_of}
use Rattle.yf_grammar.proofs.BlockReader.SoundSteps.{parts_of, sits_on_line}
use Rattle.yf_grammar.proofs.BlockReader.BlockSound.{BelowSound, LeafSound, leaf_of_scalar, leaf_of_node, alone_sound, told_is_of}
use Rattle.yf_grammar.proofs.BlockReader.WholeSound.{WholeSound, whole_sound, wide, standing_any, standing_inline, indented_of, value_of, next_spaces, collection_sound, bare_sound, below_sound, line_sound, node_below}
use Rattle.yf_grammar.proofs.WrittenTexts.LeafBack.{noting_nothing}

moved_allowed : {t ws : List ℕ} (j k : ℕ) → j ≡ k → NoColonAt t k ws → NoColonAt t j ws
moved_allowed {t} {ws} j k e a = subst (λ w. NoColonAt t w ws) (sym e) a

pub no_colon_there : {t : List ℕ} {j w : ℕ} {ws : List ℕ} → NoColonAt t j (w ∷ ws) → ColonLine t w j → ⊥
no_colon_there (one_open n a) = n

others_allowed : {t : List ℕ} {j w : ℕ} {ws : List ℕ} → NoColonAt t j (w ∷ ws) → NoColonAt t j ws
others_allowed (one_open n a) = a

module _ {t : List ℕ} where
  alone_allowed : {i : ℕ} {ws : List ℕ} {a : Ahead} {o : Option ParsedNode} {f : ParsedNode} → Alone t ws a i o → o ≡ Some f → NoColonAt t f.end ws
  alone_allowed {a = a} {f = f} (alone_to {k = k} {ds = ds} d) e = moved_allowed f.end k (alone_end a k ds e) d.derived.allowed
  alone_allowed (alone_nowhere s) e = absurd (none_some e)

  part_allowed : {n : ℤ} {ws : List ℕ} {i j : ℕ} {x : Meaning} → PlainPart t n ws i j x → NoColonAt t j ws
  part_allowed (plain_part p m) = m.allowed

  -- all nodes may end at the last halt
  pub halts_allowed : {e : ℕ} {ws : List ℕ} {task : BlockTask} {o : Option ParsedNode} {f : ParsedNode} → Halts t e ws task o → o ≡ Some f → NoColonAt t f.end ws
  halts_allowed (Halting.halts_below d r) e = halts_allowed r e
  halts_allowed (Halting.halts_inline d m l w g r) e = halts_allowed r e
  halts_allowed (Halting.halts_missed d w) e = absurd (none_some e)
  halts_allowed (Halting.halts_alone d n y) e = alone_allowed y e
  halts_allowed {f = v} (Halting.halts_node {a = a} {ds = ds} {f = f} d w b g r) e = let y = told_of a ds (Some f) e in let z = y.inner in moved_allowed v.end z.end y.end (halts_allowed r y.is)
  halts_allowed (Halting.halts_before_node d w b g r y) e = alone_allowed y e
  halts_allowed (Halting.halts_unended d) e = absurd (none_some e)
  halts_allowed {f = v} (Halting.halts_sequence {p = p} {a = a} {o = o} q d r) e =
      let s = then_of (collected a true p) o e in let z = s.inner in moved_allowed v.end z.end (collected_end a true p z s.made) (halts_allowed r s.is)
  halts_allowed (Halting.halts_sequence_too_deep q d) e = absurd (none_some e)
  halts_allowed {f = v} (Halting.halts_mapping {p = p} {a = a} {o = o} n q d r) e =
      let s = then_of (collected a false p) o e in let z = s.inner in moved_allowed v.end z.end (collected_end a false p z s.made) (halts_allowed r s.is)
  halts_allowed (Halting.halts_mapping_too_deep n q d) e = absurd (none_some e)
  halts_allowed (Halting.halts_properties_below n p d j r) e = halts_allowed r e
  halts_allowed (Halting.halts_properties_leaf n q p d m l w j r) e = halts_allowed r e
  halts_allowed (Halting.halts_properties_missed n q p d w) e = absurd (none_some e)
  halts_allowed (Halting.halts_properties_apart_below n p d a) e = absurd (none_some e)
  halts_allowed (Halting.halts_properties_apart n q p d a) e = absurd (none_some e)
  halts_allowed (Halting.halts_leaf n q p r) e = halts_allowed r e
  halts_allowed {f = v} (Halting.halts_scalar {j = j} {a = a} {x = x} d) e = moved_allowed v.end j (leaf_end a j 0 x [] e) d.derived.allowed
  halts_allowed (Halting.halts_scalar_before d s) e = absurd (none_some e)
  halts_allowed {f = v} (Halting.halts_plain {j = j} {a = a} {x = x} s m b d) e = moved_allowed v.end j (with_plain_end a j x e) (part_allowed d.derived)
  halts_allowed (Halting.halts_plain_missed s m b d) e = absurd (none_some e)
  halts_allowed {f = v} (Halting.halts_content {j = j} {a = a} {ds = ds} {f = f} s m b r d) e = moved_allowed v.end j (leaf_end a j f.height f.meaning ds e) d.derived.allowed
  halts_allowed (Halting.halts_content_unended s m b r d) e = absurd (none_some e)
  halts_allowed (Halting.halts_content_missed s m b r) e = absurd (none_some e)
  halts_allowed (Halting.halts_refused s m) e = absurd (none_some e)
  halts_allowed (Halting.halts_item r n s) e = halts_allowed s e
  halts_allowed (Halting.halts_before_item r n s y) e = halts_allowed y e
  halts_allowed {f = v} (Halting.halts_items {f = f} {g = g} r n s) e = moved_allowed v.end g.end (items_end f g e) (halts_allowed s refl)
  halts_allowed {f = v} (Halting.halts_dash {i = i} {o = o} d r) e = let s = then_of (item_found i) o e in let z = s.inner in moved_allowed v.end z.end (item_end i z s.made) (halts_allowed r s.is)
  halts_allowed (Halting.halts_undashed d) e = absurd (none_some e)
  halts_allowed {f = v} (Halting.halts_question {i = i} {o = o} q r n s) e =
      let y = then_of (lone_key i) o e in let z = y.inner in moved_allowed v.end z.end (lone_key_end i z y.made) (others_allowed (halts_allowed s y.is))
  halts_allowed {f = v} (Halting.halts_before_value {i = i} {o = o} q r c n s) e =
      let y = then_of (lone_key i) o e in let z = y.inner in moved_allowed v.end z.end (lone_key_end i z y.made) (others_allowed (halts_allowed s y.is))
  halts_allowed {f = v} (Halting.halts_value {m = m} {i = i} {f = f} {g = g} s r c z) e = moved_allowed v.end g.end (pair_end i (f.end + m) f g e) (halts_allowed z refl)
  halts_allowed {f = v} (Halting.halts_colon {i = i} {o = o} q s) e =
      let y = then_of (lone_value i) o e in let z = y.inner in moved_allowed v.end z.end (lone_value_end i z y.made) (halts_allowed s y.is)
  halts_allowed {f = v} (Halting.halts_key {i = i} {k = k} {f = f} {o = o} a b p l d r) e =
      let y = then_of (pair_found i k f) o e in let z = y.inner in moved_allowed v.end z.end (pair_end i k f z y.made) (halts_allowed r y.is)
  halts_allowed (Halting.halts_no_key a b k) e = absurd (none_some e)
  halts_allowed (Halting.halts_key_too_deep a b p l d) e = absurd (none_some e)

  alone_halts : {e i : ℕ} {ws : List ℕ} {n : ℤ} {c : Ctx} {a : Ahead} {o : Option ParsedNode} {f : ParsedNode} → is_block c ≡ true → Alone t ws a i o → o ≡ Some f → BelowSound t e n c a i f
  alone_halts {a = a} b (alone_to d) e = alone_sound a b d.derived.line e
  alone_halts b (alone_nowhere s) e = absurd (none_some e)

  part_sound : {e p j : ℕ} {ws : List ℕ} {n : ℤ} {a : Ahead} {x : Meaning} {f : ParsedNode} → MayLeaf t a p → PlainPart t (n +ℤ pos 1) ws p j x → with_plain a j x ≡ Some f → LeafSound t e n a p f
  part_sound {a = a} m (plain_part {l = l} {j = j} {x = y} {ds = ds} p d) q =
      let w = parts_of j 0 false (headed a _) (with_plain_is a j _) q in
      let h = w.height in
      leaf_of_node (moved (sym h) refl refl (a_plain p.text)) (omega arith) (subst (λ z. LineEnd t l z ds) (sym w.end) d.line) w.meaning m

module _ {t : List ℕ} (u : IsUtf8 t) where
  -- one entry, with a lone key
  lone_sound : {e i m : ℕ} {o : Option ParsedNode} {f : ParsedNode} → SignAt t 63 i → then_found (lone_key i) o ≡ Some f → (ColonLine t m f.end → ⊥)
      → ((g : ParsedNode) → o ≡ Some g → WholeSound t e (Awaited true (pos m) BlockOut (Indicator (i + 1)) (i + 1)) g) → (f.height ≤ e) × Derives t f.height (BlockEntry false m) i f.end f.meaning
  lone_sound {i = i} {m = m} {o = o} s q n r =
      let y = then_of (lone_key i) o q in
      let f = y.inner in
      let a = r f y.is refl (wide m) indicator_ahead in
      let w = parts_of f.end f.height false (entering i None f.meaning ⊕ empty_node f.meaning.finish) (lone_key_is i f) y.made in
      let h = w.height in
      let l = a.0 in
      let made = an_explicit_key_alone s.sign_is_at s.follows (indented_of refl a.1) (λ c. n (subst (λ z. ColonLine t m z) (sym w.end) c)) in
      (omega arith, moved (sym h) (sym w.end) (sym w.meaning) made)

  pub halts_sound : {e : ℕ} {ws : List ℕ} {task : BlockTask} {o : Option ParsedNode} {f : ParsedNode} → Halts t e ws task o → o ≡ Some f → WholeSound t e task f
  halts_sound (Halting.halts_below d r) q = λ b w y. let s = halts_sound r q b w in (s.within, standing_any (s.free y))
  halts_sound (Halting.halts_inline {i = i} {b = b'} d m l z g r) q = λ b w y. let s = halts_sound r q b w in (s.within, standing_inline (s.free y b' i [] (sits_on_line m l g)))
  halts_sound (Halting.halts_missed d w) q = absurd (none_some q)
  halts_sound (Halting.halts_alone d n y) q = λ b w. alone_halts b y q
  halts_sound (Halting.halts_node {a = a} {ds = ds} {f = f} d l y g r) q = λ b w. node_below d.derived l y g (λ v e. halts_sound r e b w) (told_is_of a ds (Some f) q)
  halts_sound (Halting.halts_before_node d l b' g r y) q = λ b w. alone_halts b y q
  halts_sound (Halting.halts_unended d) q = absurd (none_some q)
  halts_sound (Halting.halts_sequence {p = p} {a = a} {o = o} z d r) q = λ b w.
      let y = then_of (collected a true p) o q in
      let s = halts_sound r y.is in collection_sound y.inner b (sequence_column z) s.0 s.1 y.made
  halts_sound (Halting.halts_sequence_too_deep z d) q = absurd (none_some q)
  halts_sound (Halting.halts_mapping {p = p} {a = a} {o = o} n z d r) q = λ b w.
      let y = then_of (collected a false p) o q in
      let s = halts_sound r y.is in collection_sound y.inner b (mapping_column z) s.0 s.1 y.made
  halts_sound (Halting.halts_mapping_too_deep n z d) q = absurd (none_some q)
  halts_sound (Halting.halts_properties_below n p d j r) q = λ b w. below_sound b w n p.derived j (halts_sound r q b w)
  halts_sound (Halting.halts_properties_leaf {c = c} n k p d m l z j r) q = λ b w. line_sound b w n p.derived (in_node (block_no_key c b) (in_line (by_whites m l))) j (halts_sound r q)
  halts_sound (Halting.halts_properties_missed n k p d w) q = absurd (none_some q)
  halts_sound (Halting.halts_properties_apart_below n p d a) q = absurd (none_some q)
  halts_sound (Halting.halts_properties_apart n k p d a) q = absurd (none_some q)
  halts_sound (Halting.halts_leaf n k p r) q = λ b w. bare_sound b w n (halts_sound r q)
  halts_sound (Halting.halts_scalar {p = p} {j = j} {n = n} {a = a} {x = x} d) q =
      let w = parts_of j 0 false (headed a (noting x [])) (leaf_is a j 0 x []) q in
      leaf_of_scalar (subst (λ v. BlockScalar t n p v x) (sym w.end) d.derived.scalar) w.height (w.meaning ∙ ap (headed a) (noting_nothing x))
  halts_sound (Halting.halts_scalar_before d s) q = absurd (none_some q)
  halts_sound (Halting.halts_plain s m b d) q = part_sound m d.derived q
  halts_sound (Halting.halts_plain_missed s m b d) q = absurd (none_some q)
  halts_sound (Halting.halts_content {e = e} {j = j} {a = a} {ds = ds} {f = g} s m b r d) q =
      let w = parts_of j g.height false (headed a (noting g.meaning ds)) (leaf_is a j g.height g.meaning ds) q in
      let v = found_is_derived refl r in
      let h = w.height in
      let l = v.1 in
      leaf_of_node (moved (sym h) refl refl v.0) (omega arith) (subst (λ z. LineEnd t g.end z ds) (sym w.end) d.derived.line) w.meaning m
  halts_sound (Halting.halts_content_unended s m b r d) q = absurd (none_some q)
  halts_sound (Halting.halts_content_missed s m b r) q = absurd (none_some q)
  halts_sound (Halting.halts_refused s m) q = absurd (none_some q)
  halts_sound (Halting.halts_item r n z) q = let s = halts_sound z q in (s.0, a_last_entry s.1)
  halts_sound (Halting.halts_before_item r n z y) q = let s = halts_sound y q in (s.0, a_last_entry s.1)
  halts_sound {f = v} (Halting.halts_items {f = f} {g = g} r n z) q =
      let a = whole_sound u r refl in
      let b = halts_sound z refl in
      let w = parts_of g.end (max f.height g.height) false (f.meaning ⊕ g.meaning) (items_is f g) q in
      let h = w.height in
      let l = a.0 in
      let m = b.0 in
      (omega arith, moved (sym h) (sym w.end) (sym w.meaning) (an_entry_before a.1 (next_spaces n) b.1))
  halts_sound {f = v} (Halting.halts_dash {m = m} {i = i} {o = o} d r) q =
      let y = then_of (item_found i) o q in
      let f = y.inner in
      let a = halts_sound r y.is refl (wide m) indicator_ahead in
      let w = parts_of f.end f.height false (entering i None f.meaning) (item_is i f) y.made in
      let h = w.height in
      let l = a.0 in
      (omega arith, moved (sym h) (sym w.end) (sym w.meaning) (a_dash_entry d.dash d.follows (indented_of refl a.1)))
  halts_sound (Halting.halts_undashed d) q = absurd (none_some q)
  halts_sound {f = v} (Halting.halts_question {i = i} {o = o} s r n z) q =
      let y = then_of (lone_key i) o q in
      let f = y.inner in
      lone_sound s q (no_colon_there (moved_allowed v.end f.end (lone_key_end i f y.made) (halts_allowed z y.is))) (λ g e. halts_sound z e)
  halts_sound {f = v} (Halting.halts_before_value {i = i} {o = o} s r c n z) q =
      let y = then_of (lone_key i) o q in
      let f = y.inner in
      lone_sound s q (no_colon_there (moved_allowed v.end f.end (lone_key_end i f y.made) (halts_allowed z y.is))) (λ g e. halts_sound z e)
  halts_sound {f = v} (Halting.halts_value {m = m} {i = i} {f = f} {g = g} s r c z) q =
      let a = whole_sound u r refl refl (wide m) indicator_ahead in
      let b = halts_sound z refl refl (wide m) indicator_ahead in
      let w = parts_of g.end (max f.height g.height) false (entering i (Some (f.end + m)) f.meaning ⊕ g.meaning) (pair_is i (f.end + m) f g) q in
      let h = w.height in
      let l = a.0 in
      let k = b.0 in
      let made = an_explicit_entry_with s.sign_is_at s.follows (indented_of refl a.1) c (indented_of refl b.1) in
      (omega arith, moved (sym h) (sym w.end) (sym w.meaning) made)
  halts_sound {f = v} (Halting.halts_colon {m = m} {i = i} {o = o} s r) q =
      let y = then_of (lone_value i) o q in
      let f = y.inner in
      let a = halts_sound r y.is refl (wide m) indicator_ahead in
      let w = parts_of f.end f.height false (entering i (Some i) (empty_node i) ⊕ f.meaning) (lone_value_is i f) y.made in
      let h = w.height in
      let l = a.0 in
      (omega arith, moved (sym h) (sym w.end) (sym w.meaning) (an_unkeyed_entry (value_of s.sign_is_at a.1)))
  halts_sound {f = v} (Halting.halts_key {m = m} {i = i} {k = k} {f = f} {o = o} x z p b d r) q =
      let y = then_of (pair_found i k f) o q in
      let g = y.inner in
      let a = halts_sound r y.is refl (wide m) indicator_ahead in
      let w = parts_of g.end (max f.height g.height) false (entering i (Some k) f.meaning ⊕ g.meaning) (pair_is i k f g) y.made in
      let h = w.height in
      let l = a.0 in
      let made = a_keyed_entry (found_keyed u p d) (value_of d.colon.sign_is_at a.1) in
      (omega arith, moved (sym h) (sym w.end) (sym w.meaning) made)
  halts_sound (Halting.halts_no_key a b k) q = absurd (none_some q)
  halts_sound (Halting.halts_key_too_deep a b p l d) q = absurd (none_some q)
