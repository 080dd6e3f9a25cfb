-- The outcomes of the recursive reader cover no forbidden line.
use Rattle.std.proofs.Common.{◌≡◌, ◌≢◌, ℕ, zero, suc, ◌+◌, ◌-◌, ◌<◌, ◌≤◌, ℤ, Bool, true, false, List, Option, Some, None, refl, sym, ap, ◌∙◌, subst, arith, not, add-zero}
use Rattle.std.proofs.lemmas.Bool.{true≢false, and_parts}
use Rattle.std.specs.Str.{IsUtf8}
use Rattle.yf_chars.specs.declared.context.Ctx.{Ctx}
use Rattle.yf_chars.specs.Text.{code}
use Rattle.yf_chars.specs.Class.{is_nb_char, is_ns_char, is_anchor_char, is_flow_indicator}
use Rattle.yf_chars.specs.Chain.{Chain, Many, done, step, one}
use Rattle.yf_chars.proofs.TextLemmas.{reads_real, reads_byte}
use Rattle.yf_lines.specs.Basic.{ForbiddenLine, Clear, SeparateInLine, by_whites, at_start}
use Rattle.yf_lines.proofs.BasicLemmas.{clear_join, clear_nothing}
use Rattle.yf_lines.proofs.ClearLemmas.{not_forbidden, Quiet, quiet_nothing, quiet_join, quiet_char, clear_quiet, clear_whites, clear_break}
use Rattle.yf_comments.specs.Comment.{CommentValue}
use Rattle.yf_comments.specs.Comments.{BreakOrEnd, CommentText, LineRest, CommentLine, LineEnd, SeparateLines, Separate}
use Rattle.yf_comments.specs.Comments as Comments
use Rattle.yf_comments.proofs.SeparateLemmas.{prefix_whites}
use Rattle.yf_plain.proofs.PlainLemmas.{quiet_ns}
use Rattle.yf_props.specs.Props.{TagValue}
use Rattle.yf_props.specs.Names.{AnchorChar, Alias, asterisk_name, Anchor, ampersand_name, TagProperty, Properties, by_tag, by_anchor, tag_first, anchor_first, PropertiesValue}
use Rattle.yf_props.proofs.TagLemmas.{tag_mark, tag_later}
use Rattle.yf_props.proofs.SolidLemmas.{AllSolid, tag_all_solid}
use Rattle.yf_grammar.specs.Productions.Grammar.{opening, closing}
use Rattle.yf_grammar.specs.FlowReader.Parser.{ParsedNode, Task, Parses, Gap, found, plain_found, propertied, lone_properties, bracketed, joined, paired, pair_entry}
use Rattle.yf_grammar.specs.FlowReader.Parser as Parser
use Rattle.yf_chars.proofs.CharFacts.{return_no_nb, feed_no_nb, mark_no_nb}
use Rattle.yf_chars.proofs.CharBounds.{nb_below}

-- one character that begins no document marker
pub clear_sign : {t : List ℕ} {i : ℕ} → code t i ≢ 45 → code t i ≢ 46 → Clear t i (i + 1)
clear_sign {t} {i} a b = record {
  none = λ h l m f. let same : i ≡ h = omega arith in not_forbidden t i a b (subst (λ k. ForbiddenLine t k) (sym same) f);
}

pub clear_mark : {t : List ℕ} {i c : ℕ} → code t i ≡ c → c ≢ 45 → c ≢ 46 → Clear t i (i + 1)
clear_mark e a b = clear_sign (λ q. a (sym e ∙ q)) (λ q. b (sym e ∙ q))

nb_is_not : (c d : ℕ) → is_nb_char c ≡ true → is_nb_char d ≡ false → c ≢ d
nb_is_not c d e f q = true≢false (sym e ∙ ap is_nb_char q ∙ f)

module _ {t : List ℕ} where
  pub quiet_nb : {i j : ℕ} {x : List ℕ} → IsUtf8 t → Many t is_nb_char i j x → Quiet t i j
  quiet_nb {i} u done = quiet_nothing t i
  quiet_nb u (step (one {i = i} e) c) =
      let low = nb_below (code t i) e in
      quiet_join (quiet_char u (reads_real t i u low) (nb_is_not (code t i) 10 e feed_no_nb) (nb_is_not (code t i) 13 e return_no_nb) (nb_is_not (code t i) 0xFEFF e mark_no_nb))
      (quiet_nb u c)

  -- a visible character of ASCII ends no line
  pub quiet_byte : {i b : ℕ} → IsUtf8 t → code t i ≡ b → 33 ≤ b → b < 128 → Quiet t i (i + 1)
  quiet_byte {i} {b} u e l h = quiet_char u (reads_byte t i b u e h) (λ q. omega arith) (λ q. omega arith) (λ q. omega arith)

  clear_comment : {i j : ℕ} {x : List CommentValue} → IsUtf8 t → CommentText t i j x → Clear t i j
  clear_comment {i} u (Comments.comment_text e m n) =
      clear_quiet (not_forbidden t i (λ q. omega arith) (λ q. omega arith)) (quiet_join (quiet_byte u e (omega arith) (omega arith)) (quiet_nb u m))

  -- separation
  clear_in_line : {i j : ℕ} → IsUtf8 t → SeparateInLine t i j → Clear t i j
  clear_in_line u (by_whites m l) = clear_whites u m
  clear_in_line {i} u (at_start s) = clear_nothing t i

  clear_line_end : {i j : ℕ} → BreakOrEnd t i j → Clear t i j
  clear_line_end (Comments.by_break b) = clear_break b
  clear_line_end {i} (Comments.by_end e) = clear_nothing t i

  pub clear_rest : {i j : ℕ} {x : List CommentValue} → IsUtf8 t → LineRest t i j x → Clear t i j
  clear_rest u (Comments.nothing e) = clear_line_end e
  clear_rest u (Comments.whites s e) = clear_join (clear_in_line u s) (clear_line_end e)
  clear_rest u (Comments.comment s d e) = clear_join (clear_in_line u s) (clear_join (clear_comment u d) (clear_line_end e))

  clear_comment_line : {i j : ℕ} {x : List CommentValue} → IsUtf8 t → CommentLine t i j x → Clear t i j
  clear_comment_line u (Comments.whites_line s e) = clear_join (clear_in_line u s) (clear_line_end e)
  clear_comment_line u (Comments.comment_line s d e) = clear_join (clear_in_line u s) (clear_join (clear_comment u d) (clear_line_end e))

  clear_comment_lines : {i j : ℕ} {x : List CommentValue} → IsUtf8 t → Chain (CommentLine t) i j x → Clear t i j
  clear_comment_lines {i} u done = clear_nothing t i
  clear_comment_lines u (step s c) = clear_join (clear_comment_line u s) (clear_comment_lines u c)

  pub clear_comments : {i j : ℕ} {x : List CommentValue} → IsUtf8 t → LineEnd t i j x → Clear t i j
  clear_comments u (Comments.past_rest r c) = clear_join (clear_rest u r) (clear_comment_lines u c)
  clear_comments u (Comments.from_start s c) = clear_comment_lines u c

  clear_lines : {n : ℤ} {i j : ℕ} {x : List CommentValue} → IsUtf8 t → SeparateLines t n i j x → Clear t i j
  clear_lines u (Comments.in_line s) = clear_in_line u s
  clear_lines u (Comments.over_lines e p) = clear_join (clear_comments u e) (clear_whites u (prefix_whites p).1)

  pub clear_separate : {n : ℤ} {c : Ctx} {i j : ℕ} {x : List CommentValue} → IsUtf8 t → Separate t n c i j x → Clear t i j
  clear_separate u (Comments.in_key e s) = clear_in_line u s
  clear_separate u (Comments.in_node e s) = clear_lines u s

  pub clear_gap : {n : ℤ} {c : Ctx} {i j : ℕ} {x : List CommentValue} → IsUtf8 t → Gap t n c i j x → Clear t i j
  clear_gap u (Parser.longest_gap s) = clear_separate u s.derived
  clear_gap {i = i} u (Parser.no_gap s) = clear_nothing t i

  -- names, tags and properties
  quiet_anchor : {i j : ℕ} {x : List ℕ} → IsUtf8 t → Chain (AnchorChar t) i j x → Quiet t i j
  unfolding is_anchor_char
  quiet_anchor {i} u done = quiet_nothing t i
  quiet_anchor u (step (one {i = i} e) c) =
      quiet_join (quiet_ns u (and_parts (is_ns_char (code t i)) (not (is_flow_indicator (code t i))) e).0) (quiet_anchor u c)

  pub clear_alias : {i j : ℕ} {x : List ℕ} → IsUtf8 t → Alias t i j x → Clear t i j
  clear_alias {i} u (asterisk_name e r) =
      clear_quiet (not_forbidden t i (λ q. omega arith) (λ q. omega arith)) (quiet_join (quiet_byte u e (omega arith) (omega arith)) (quiet_anchor u r.chain))

  clear_anchor : {i j : ℕ} {x : List ℕ} → IsUtf8 t → Anchor t i j x → Clear t i j
  clear_anchor {i} u (ampersand_name e r) =
      clear_quiet (not_forbidden t i (λ q. omega arith) (λ q. omega arith)) (quiet_join (quiet_byte u e (omega arith) (omega arith)) (quiet_anchor u r.chain))

  quiet_solid : {i : ℕ} (k : ℕ) → IsUtf8 t → AllSolid t i (i + k) → Quiet t i (i + k)
  quiet_solid {i} zero u s = rw (add-zero i) (quiet_nothing t i)
  quiet_solid {i} (suc k) u s =
      let here = s.each (i + k) (omega arith) (omega arith) in
      let low = here.low in
      let high = here.high in
      let end : (i + k) + 1 ≡ i + suc k = omega arith in
      let front : AllSolid t i (i + k) = record { each = λ m l h. s.each m l (omega arith) } in
      subst (λ j. Quiet t i j) end (quiet_join (quiet_solid k u front) (quiet_byte u refl low (omega arith)))

  clear_tag : {i j : ℕ} {x : TagValue} → IsUtf8 t → TagProperty t i j x → Clear t i j
  clear_tag {i} {j} u g =
      let e = tag_mark g in
      let l = tag_later g in
      let end : i + (j - i) ≡ j = omega arith in
      let s : AllSolid t i (i + (j - i)) = subst (λ k. AllSolid t i k) (sym end) (tag_all_solid g) in
      clear_quiet (not_forbidden t i (λ q. omega arith) (λ q. omega arith)) (subst (λ k. Quiet t i k) end (quiet_solid (j - i) u s))

  pub clear_properties : {n : ℤ} {c : Ctx} {i j : ℕ} {p : PropertiesValue} → IsUtf8 t → Properties t n c i j p → Clear t i j
  clear_properties u (by_tag g) = clear_tag u g
  clear_properties u (by_anchor a) = clear_anchor u a
  clear_properties u (tag_first g s a) = clear_join (clear_tag u g) (clear_join (clear_separate u s) (clear_anchor u a))
  clear_properties u (anchor_first a s g) = clear_join (clear_anchor u a) (clear_join (clear_separate u s) (clear_tag u g))

  -- brackets
  clear_opening : {i : ℕ} (sequence : Bool) → code t i ≡ opening sequence → Clear t i (i + 1)
  clear_opening true e = clear_mark e (λ q. omega arith) (λ q. omega arith)
  clear_opening false e = clear_mark e (λ q. omega arith) (λ q. omega arith)

  clear_closing : {i : ℕ} (sequence : Bool) → code t i ≡ closing sequence → Clear t i (i + 1)
  clear_closing true e = clear_mark e (λ q. omega arith) (λ q. omega arith)
  clear_closing false e = clear_mark e (λ q. omega arith) (λ q. omega arith)

-- the span of each task's outcome is clear; entries end before their closing bracket
abbrev Covers : List ℕ → Task → Option ParsedNode → Type 0
Covers t task None = Unit {0}
Covers t (Parser.ANode n c i) (Some f) = Clear t i f.end
Covers t (Parser.AContent n c i) (Some f) = Clear t i f.end
Covers t (Parser.TheEntries sequence n c i) (Some f) = Clear t i f.end × (code t f.end ≡ closing sequence)
Covers t (Parser.AnEntry sequence n c i) (Some f) = Clear t i f.end
Covers t (Parser.AnExplicit n c s i) (Some f) = Clear t i f.end
Covers t (Parser.AnImplicit n c s i) (Some f) = Clear t i f.end
Covers t (Parser.AValue json n c i) (Some f) = code t i ≡ 58 → Clear t i f.end

covers : {t : List ℕ} {e : ℕ} {task : Task} {o : Option ParsedNode} → IsUtf8 t → Parses t e task o → Covers t task o
unfolding found plain_found propertied lone_properties bracketed joined paired pair_entry
covers u (Parser.alias_read a) = clear_alias u a.derived
covers u (Parser.alias_missed a s) = tt
covers u (Parser.plain_read a p) = p.derived.clear
covers u (Parser.plain_missed a s) = tt
covers u (Parser.content_read {o = None} a p) = tt
covers u (Parser.content_read {o = Some f} a p) = covers u p
covers u (Parser.properties_missed a s) = tt
covers u (Parser.properties_content g s a p) = clear_join (clear_properties u g.derived) (clear_join (clear_separate u s.derived) (covers u p))
covers u (Parser.properties_plain g s a p) = clear_join (clear_properties u g.derived) (clear_join (clear_separate u s.derived) p.derived.clear)
covers u (Parser.properties_end g s) = clear_properties u g.derived
covers u (Parser.properties_before_broken g s a p) = clear_properties u g.derived
covers u (Parser.properties_before_other g s a p) = clear_properties u g.derived
covers u (Parser.single_read d) = d.derived.clear
covers u (Parser.single_missed a s) = tt
covers u (Parser.double_read d) = d.derived.clear
covers u (Parser.double_missed a s) = tt
covers u (Parser.too_deep sequence a) = tt
covers u (Parser.collection_read sequence a g p) =
    let m = covers u p in
    clear_join (clear_opening sequence a) (clear_join (clear_gap u g) (clear_join m.0 (clear_closing sequence m.1)))
covers u (Parser.collection_missed sequence cs a g p) = tt
covers {t} u (Parser.entries_end {i = i} a) = (clear_nothing t i, a)
covers u (Parser.entry_missed a p) = tt
covers u (Parser.entry_last a p g b) = (clear_join (covers u p) (clear_gap u g), b)
covers u (Parser.entry_then a p g b h r) =
    let m = covers u r in
    (clear_join (covers u p) (clear_join (clear_gap u g) (clear_join (clear_mark b (λ q. omega arith) (λ q. omega arith)) (clear_join (clear_gap u h) m.0))), m.1)
covers u (Parser.entry_then_missed cs ds a p g b h r) = tt
covers u (Parser.entry_unclosed cs a p g b d) = tt
covers u (Parser.mapping_explicit a s p) = clear_join (clear_mark a (λ q. omega arith) (λ q. omega arith)) (clear_join (clear_separate u s.derived) (covers u p))
covers u (Parser.mapping_explicit_missed cs a s p) = tt
covers u (Parser.mapping_sign_alone {o = None} a s p) = tt
covers u (Parser.mapping_sign_alone {o = Some f} a s p) = covers u p
covers u (Parser.mapping_implicit {o = None} a p) = tt
covers u (Parser.mapping_implicit {o = Some f} a p) = covers u p
covers {t} u (Parser.explicit_nothing {i = i} a) = clear_nothing t i
covers u (Parser.explicit_something {o = None} a p) = tt
covers u (Parser.explicit_something {o = Some f} a p) = covers u p
covers u (Parser.lone_value a p) = covers u p a.colon
covers u (Parser.key_missed a p) = tt
covers u (Parser.key_with_value a p g b r) = clear_join (covers u p) (clear_join (clear_gap u g) (covers u r b.colon))
covers u (Parser.key_without_value cs a p g b) = covers u p
covers u (Parser.pair_explicit a s p) = clear_join (clear_mark a (λ q. omega arith) (λ q. omega arith)) (clear_join (clear_separate u s.derived) (covers u p))
covers u (Parser.pair_explicit_missed cs a s p) = tt
covers u (Parser.pair_explicit_too_deep cs a s) = tt
covers u (Parser.pair_of_value a p) = covers u p a.colon
covers u (Parser.pair_of_value_too_deep a) = tt
covers u (Parser.item_missed a b p) = tt
covers u (Parser.pair_of_key a b p key l r) = clear_join (covers u p) (clear_join (clear_whites u key.run) (covers u r key.colon.colon))
covers u (Parser.pair_too_deep a b p key l) = tt
covers u (Parser.item_read a b p key) = covers u p
covers u (Parser.value_read s p) = λ q. clear_join (clear_mark q (λ v. omega arith) (λ v. omega arith)) (clear_join (clear_separate u s.derived) (covers u p))
covers u (Parser.value_empty cs s p) = λ q. clear_mark q (λ v. omega arith) (λ v. omega arith)
covers u (Parser.value_adjacent s p) = λ q. clear_join (clear_mark q (λ v. omega arith) (λ v. omega arith)) (covers u p)
covers u (Parser.value_adjacent_empty s p) = λ q. clear_mark q (λ v. omega arith) (λ v. omega arith)
covers u (Parser.value_missing s) = λ q. clear_mark q (λ v. omega arith) (λ v. omega arith)

-- a flow node that was found covers no forbidden line
pub found_is_clear : {t : List ℕ} {e i : ℕ} {n : ℤ} {c : Ctx} {f : ParsedNode} → IsUtf8 t → Parses t e (Parser.ANode n c i) (Some f) → Clear t i f.end
found_is_clear u p = covers u p
