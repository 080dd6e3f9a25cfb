-- The text of one word: each derivation of it is the stream of that word, so it has one shape.
use Rattle.std.proofs.Common.{◌≡◌, ◌≢◌, ℕ, zero, suc, ℤ, pos, ◌-ℤ◌, ◌<◌, ◌≤◌, Bool, true, false, List, [], ◌∷◌, ◌++◌, codes, refl, sym, ap, ◌∙◌, ◌⊎◌, inl, inr, ⊎_elim, arith, subst}
use Rattle.std.proofs.lemmas.Bool.{true≢false}
use Rattle.std.specs.Str.{chars}
use Rattle.yf_chars.specs.declared.context.Ctx.{Ctx}
use Rattle.yf_chars.specs.Text.{begins, code, next, no_char}
use Rattle.yf_chars.specs.Class.{is_between, is_printable, is_break_char, is_nb_char, is_ns_char, is_white, is_indicator, is_flow_indicator, is_white_or_end}
use Rattle.yf_chars.specs.Chain.{Chain, Many}
use Rattle.yf_chars.specs.Chain.Chain.{done, step}
use Rattle.yf_chars.specs.Chain.One.{one}
use Rattle.yf_chars.proofs.TextLemmas.{code-past}
use Rattle.yf_lines.specs.Basic.{Break, FlowFolded, FlowPrefix, SeparateInLine, Spaces, is_marker, is_three}
use Rattle.yf_lines.specs.Basic.Break.{cr_lf, lone_cr, lone_lf}
use Rattle.yf_lines.specs.Basic.FoldedBreak.{as_space, trimmed}
use Rattle.yf_lines.specs.Basic.FlowFolded.{at_break, past_whites}
use Rattle.yf_lines.specs.Basic.FlowPrefix.{indented, set_off as after_indentation}
use Rattle.yf_lines.specs.Basic.Indent.{exactly}
use Rattle.yf_lines.specs.Basic.LineStart.{at_text}
use Rattle.yf_lines.specs.Basic.SeparateInLine.{at_start, by_whites}
use Rattle.yf_comments.specs.Comment.{CommentValue}
use Rattle.yf_comments.specs.Comments.{BreakOrEnd, CommentLine, CommentText, LineEnd, LineRest, Separate}
use Rattle.yf_comments.specs.Comments.BreakOrEnd.{by_break, by_end}
use Rattle.yf_comments.specs.Comments.CommentLine.{comment_line, whites_line}
use Rattle.yf_comments.specs.Comments.CommentText.{comment_text}
use Rattle.yf_comments.specs.Comments.LineEnd.{from_start, past_rest}
use Rattle.yf_comments.specs.Comments.LineRest.{comment, nothing, whites}
use Rattle.yf_comments.specs.Comments.Separate.{in_key, in_node}
use Rattle.yf_comments.specs.Comments.SeparateLines.{in_line, over_lines}
use Rattle.yf_plain.specs.Plain.{PlainItem, PlainLine, PlainNext, PlainText, is_plain_char, is_plain_first}
use Rattle.yf_plain.specs.Plain.PlainItem.{set_off}
use Rattle.yf_plain.specs.Plain.PlainLine.{one_line}
use Rattle.yf_plain.specs.Plain.PlainNext.{next_line}
use Rattle.yf_plain.specs.Plain.PlainText.{as_key, as_lines}
use Rattle.yf_plain.proofs.PlainLemmas.{safe_at_end}
use Rattle.yf_events.specs.declared.event.ScalarStyle.TheVariants.{Plain}
use Rattle.yf_grammar.specs.Productions.Grammar.{BlockNode, Derives, FlowNode, NodeOf}
use Rattle.yf_grammar.specs.Productions.Grammar.Derives.{flow_node, an_alias, a_plain, a_plain_with, properties_alone, a_json, a_json_with, a_block_scalar, a_block_scalar_with, a_block_collection, a_block_collection_with, flow_in_block}
use Rattle.yf_grammar.specs.Productions.Meaning.{Meaning, meaning_after, noting, plain_event, scalar}
use Rattle.yf_stream.specs.Stream.{AnyDocument, Document, Documents, PrefixPart, Prefixes, Stream, StreamRest, document_of, only_comments, with_comments, with_document}
use Rattle.yf_stream.specs.Stream.AnyDocument.{bare_document, directive_document, explicit_document}
use Rattle.yf_stream.specs.Stream.ContentAt.{content_at}
use Rattle.yf_stream.specs.Stream.PrefixPart.{order_mark, prefix_comment}
use Rattle.yf_stream.specs.Stream.Stream.{begins_with_document, without_document}
use Rattle.yf_stream.specs.Stream.StreamRest.{past_explicit, past_prefix, past_suffixes, past_suffixes_and_document, stream_ended}
use Rattle.yf_stream.proofs.Shown.ShownParts.{clear_one}
use Rattle.yf_stream.proofs.Shown.ShownPlain.{is_sign, no_alias, no_block_scalar, no_directive, no_entries, no_explicit, no_json, no_properties, no_suffix}
use Rattle.yf_stream.specs.WellFormed.{ReadsWithoutBreach, Shapes}

abbrev word : List ℕ
word = codes "a"

-- its only character is the word
after_word : (i : ℕ) → 1 ≤ i → code word i ≡ no_char
after_word i l = code-past word i l

code_at : (i : ℕ) → (code word i ≡ 97) ⊎ (code word i ≡ no_char)
unfolding code begins chars
code_at zero = inl refl
code_at (suc i) = inr (after_word (suc i) (omega arith))

not_char : (i c : ℕ) → c ≢ 97 → c < no_char → code word i ≡ c → ⊥
not_char i c n l e = ⊎_elim (λ (a : code word i ≡ 97). n (sym e ∙ a)) (λ (a : code word i ≡ no_char). omega arith) (code_at i)

no_white : (i : ℕ) → is_white (code word i) ≡ true → ⊥
unfolding is_white
no_white i e = ⊎_elim (λ (a : code word i ≡ 97). true≢false (sym e ∙ ap is_white a)) (λ (a : code word i ≡ no_char). true≢false (sym e ∙ ap is_white a)) (code_at i)

no_sign : (i c : ℕ) → is_sign c ≡ true → code word i ≡ c → ⊥
unfolding is_sign
no_sign i c s e = ⊎_elim (λ (a : code word i ≡ 97). true≢false (sym s ∙ ap is_sign (sym e ∙ a))) (λ (a : code word i ≡ no_char). true≢false (sym s ∙ ap is_sign (sym e ∙ a))) (code_at i)

no_dash : (i : ℕ) → code word i ≢ 45
no_dash i e = not_char i 45 (λ f. omega arith) (omega arith) e

no_break : {i j : ℕ} → Break word i j → ⊥
no_break (cr_lf p q) = not_char _ 13 (λ e. omega arith) (omega arith) p
no_break (lone_cr p q) = not_char _ 13 (λ e. omega arith) (omega arith) p
no_break (lone_lf p q) = not_char _ 10 (λ e. omega arith) (omega arith) p

no_text : {i j : ℕ} {x : List CommentValue} → CommentText word i j x → ⊥
no_text (comment_text p c n) = not_char _ 35 (λ e. omega arith) (omega arith) p

whites_stay : {i j : ℕ} {x : List ℕ} → Many word is_white i j x → j ≡ i
whites_stay done = refl
whites_stay (step (one e) c) = absurd (no_white _ e)

separation_stays : {i j : ℕ} → SeparateInLine word i j → j ≡ i
separation_stays (at_start l) = refl
separation_stays (by_whites w l) = whites_stay w

no_spaces : (i k : ℕ) → Spaces word i k → k ≡ 0
no_spaces i zero s = refl
no_spaces i (suc k) s = absurd (not_char _ 32 (λ e. omega arith) (omega arith) (s.each 0 (omega arith)))

-- ends of lines and separations take nothing
record Stays (i j : ℕ) (cs : List CommentValue) : Type 0 where
  end : j ≡ i
  none : cs ≡ []

-- a line ends only at the end
record Ends (i j : ℕ) (cs : List CommentValue) : Type 0 where
  stays : Stays i j cs
  there : i ≡ 1

end_there : {i j : ℕ} → BreakOrEnd word i j → (j ≡ i) × (i ≡ 1)
end_there (by_break b) = absurd (no_break b)
end_there (by_end e) = (refl, e)

line_ends : {i j : ℕ} {cs : List CommentValue} → CommentLine word i j cs → Ends i j cs
line_ends (whites_line s e) =
    let a = separation_stays s in let b = end_there e in record { stays = record { end = b.0 ∙ a; none = refl }; there = sym a ∙ b.1 }
line_ends (comment_line s c e) = absurd (no_text c)

rest_ends : {i j : ℕ} {cs : List CommentValue} → LineRest word i j cs → Ends i j cs
rest_ends (nothing e) = let b = end_there e in record { stays = record { end = b.0; none = refl }; there = b.1 }
rest_ends (whites s e) =
    let a = separation_stays s in let b = end_there e in record { stays = record { end = b.0 ∙ a; none = refl }; there = sym a ∙ b.1 }
rest_ends (comment s c e) = absurd (no_text c)

lines_stay : {i j : ℕ} {cs : List CommentValue} → Chain (CommentLine word) i j cs → Stays i j cs
lines_stay done = record { end = refl; none = refl }
lines_stay (step {y = y} p c) =
    let a = (line_ends p).stays in let b = lines_stay c in record { end = b.end ∙ a.end; none = ap (λ w. w ++ y) a.none ∙ b.none }

end_stays : {i j : ℕ} {cs : List CommentValue} → LineEnd word i j cs → Stays i j cs
end_stays (past_rest {y = y} r c) =
    let a = (rest_ends r).stays in let b = lines_stay c in record { end = b.end ∙ a.end; none = ap (λ w. w ++ y) a.none ∙ b.none }
end_stays (from_start l c) = lines_stay c

prefix_flow_stays : {n : ℤ} {i j : ℕ} → FlowPrefix word n i j → j ≡ i
prefix_flow_stays (indented (exactly {i = i} k e s)) = let z = no_spaces i k s in omega arith
prefix_flow_stays (after_indentation (exactly {i = i} k e s) l) = let z = no_spaces i k s in separation_stays l ∙ omega arith

separate_stays : {n : ℤ} {c : Ctx} {i j : ℕ} {cs : List CommentValue} → Separate word n c i j cs → Stays i j cs
separate_stays (in_key k s) = record { end = separation_stays s; none = refl }
separate_stays (in_node k (in_line s)) = record { end = separation_stays s; none = refl }
separate_stays (in_node k (over_lines l p)) = let a = end_stays l in record { end = prefix_flow_stays p ∙ a.end; none = a.none }

-- the plain scalar
plain_char_after : (c : Ctx) (i : ℕ) → 1 ≤ i → is_plain_char word c i ≡ false
unfolding is_plain_char
plain_char_after c i l = rw (after_word i l, safe_at_end c) refl

items_stay : {c : Ctx} {i j : ℕ} {x : List ℕ} → 1 ≤ i → Chain (PlainItem word c) i j x → (j ≡ i) × (x ≡ [])
items_stay l done = (refl, refl)
items_stay {c} l (step (set_off {h = h} w e) r) =
    let a = whites_stay w in absurd (true≢false (sym e ∙ plain_char_after c h (omega arith)))

no_fold : {n : ℤ} {i j : ℕ} {x : List ℕ} → FlowFolded word n i j x → ⊥
no_fold (at_break (trimmed b e c) p) = no_break b
no_fold (at_break (as_space b) p) = no_break b
no_fold (past_whites s (trimmed b e c) p) = no_break b
no_fold (past_whites s (as_space b) p) = no_break b

next_lines_stay : {n : ℤ} {c : Ctx} {i j : ℕ} {x : List ℕ} → Chain (PlainNext word n c) i j x → (j ≡ i) × (x ≡ [])
next_lines_stay done = (refl, refl)
next_lines_stay (step (next_line f e r) c) = absurd (no_fold f)

line_is : {c : Ctx} {i j : ℕ} {x : List ℕ} → i ≡ 0 → PlainLine word c i j x → (j ≡ 1) × (x ≡ 97 ∷ [])
unfolding code begins chars next
line_is {c} {j = j} z (one_line {x = x} f r) =
    let from : Chain (PlainItem word c) (next word 0) j x = subst (λ k. Chain (PlainItem word c) (next word k) j x) z r in
    let a = items_stay (omega arith) from in
    (a.0, rw (z, a.1) refl)

abbrev word_scalar : Meaning
word_scalar = scalar Plain (codes "a") [] 0 1

text_is : {n : ℤ} {c : Ctx} {i j : ℕ} {x : List ℕ} → i ≡ 0 → PlainText word n c i j x → (j ≡ 1) × (x ≡ 97 ∷ [])
text_is z (as_key k l) = line_is z l
text_is z (as_lines {x = x} {y = y} f l r) =
    let a = line_is z l in let b = next_lines_stay r in (b.0 ∙ a.0, rw (a.1, b.1) refl)

-- the node
record Word (j : ℕ) (x : Meaning) : Type 0 where
  end : j ≡ 1
  means : x ≡ word_scalar

node_is : {h i j : ℕ} {json : Bool} {n : ℤ} {c : Ctx} {x : Meaning} → i ≡ 0 → Derives word h (NodeOf json n c) i j x → Word j x
unfolding lib.Utf8.encode
node_is z (an_alias b d) = absurd (no_alias word no_sign d)
node_is z (a_plain p) = let a = text_is z p in record { end = a.0; means = rw (a.0, a.1, z) refl }
node_is z (a_plain_with p s x) = absurd (no_properties word no_sign p)
node_is z (properties_alone b p) = absurd (no_properties word no_sign p)
node_is z (a_json d) = absurd (no_json word no_sign d)
node_is z (a_json_with p s d) = absurd (no_properties word no_sign p)

flow_is : {h i j : ℕ} {n : ℤ} {c : Ctx} {x : Meaning} → i ≡ 0 → Derives word h (FlowNode n c) i j x → Word j x
flow_is z (flow_node d) = node_is z d

block_is : {h i j : ℕ} {n : ℤ} {c : Ctx} {x : Meaning} → i ≡ 0 → Derives word h (BlockNode n c) i j x → Word j x
unfolding meaning_after noting scalar
block_is z (a_block_scalar b s d) = absurd (no_block_scalar word no_sign d)
block_is z (a_block_scalar_with b s p r d) = absurd (no_properties word no_sign p)
block_is z (a_block_collection b l s m d) = absurd (no_entries word no_sign no_dash d)
block_is z (a_block_collection_with b s p l k m d) = absurd (no_properties word no_sign p)
block_is z (flow_in_block {cs = cs} {ds = ds} {x = x} b s d l) =
    let a = separate_stays s in let e = end_stays l in let w = flow_is (a.end ∙ z) d in
    record { end = e.end ∙ w.end; means = rw (a.none, e.none, w.means) refl }

-- document prefixes
part_stays : {i j : ℕ} {cs : List CommentValue} → PrefixPart word i j cs → Ends i j cs
part_stays (order_mark e) = absurd (not_char _ 0xFEFF (λ e. omega arith) (omega arith) e)
part_stays (prefix_comment c) = line_ends c

prefix_stays : {i j : ℕ} {cs : List CommentValue} → Prefixes word i j cs → Stays i j cs
prefix_stays done = record { end = refl; none = refl }
prefix_stays (step {y = y} p c) =
    let a = (part_stays p).stays in let b = prefix_stays c in record { end = b.end ∙ a.end; none = ap (λ w. w ++ y) a.none ∙ b.none }

-- the document
record Whole (j : ℕ) (d : Document) (cs : List CommentValue) : Type 0 where
  end : j ≡ 1
  is : d ≡ document_of 0 false [] word_scalar
  none : cs ≡ []

document_is : {h i j : ℕ} {d : Document} {cs : List CommentValue} → i ≡ 0 → AnyDocument word h i j d cs → Whole j d cs
unfolding document_of scalar
document_is z (bare_document {x = x} b (content_at {k = k} s n c)) =
    let a = block_is z b.derived in let k0 : k ≡ 0 = separation_stays s ∙ z in record { end = a.end; is = rw (k0, a.means) refl; none = ap (λ m. m.comments) a.means }
document_is z (explicit_document e) = absurd (no_explicit word no_sign no_dash e)
document_is z (directive_document d e) = absurd (no_directive word no_sign d)

-- the rest of the stream, at the end; nothing else follows the start
rest_is : {h i : ℕ} {x : Documents} → StreamRest word h i x → (i ≡ 1) × (x ≡ only_comments [])
unfolding with_comments
rest_is stream_ended = (refl, refl)
rest_is (past_prefix {x = x} p r) = let a = part_stays p in (a.there, ap (λ cs. with_comments cs x) a.stays.none ∙ (rest_is r).1)
rest_is (past_suffixes s p r) = absurd (no_suffix word no_sign s)
rest_is (past_suffixes_and_document s p d r) = absurd (no_suffix word no_sign s)
rest_is (past_explicit e r) = absurd (no_explicit word no_sign no_dash e)

abbrev word_stream : Documents
word_stream = record { documents = document_of 0 false [] word_scalar ∷ []; comments = [] }

word_stream_only : (h : ℕ) (x : Documents) → Stream word h x → x ≡ word_stream
unfolding with_document
word_stream_only h x (begins_with_document {cs = cs} {ds = ds} {d = d} {x = rest} p a r) =
    let b = prefix_stays p in let w = document_is b.end a in rw (b.none, w.is, w.none, (rest_is r).1) refl
word_stream_only h x (without_document p r) = let b = prefix_stays p in let e = (rest_is r).0 in absurd (omega (arith, b.end))

word_stream_read : Stream word 0 word_stream
unfolding code begins chars next is_marker is_three is_white_or_end is_plain_first is_ns_char is_nb_char is_printable is_break_char is_between is_white is_indicator is_flow_indicator lib.Utf8.encode noting meaning_after scalar document_of with_document
word_stream_read =
    let text = flow_node {json = false} (a_plain (as_lines refl (one_line refl done) done)) in
    let node = flow_in_block {n = pos 0 -ℤ pos 1} refl (in_node refl (in_line (at_start at_text))) text (past_rest (nothing (by_end refl)) done) in
    begins_with_document done (bare_document (record { derived = node; clear = clear_one word 0 refl }) (content_at (at_start at_text) refl (λ e. omega (arith, e)))) stream_ended

word_shape : Shapes word word_stream
word_shape = record { height = 0; derived = word_stream_read; within = omega arith; only = λ h x d l. word_stream_only h x d }

word_reading : ReadsWithoutBreach word word_stream
unfolding document_of scalar plain_event
word_reading = record { shapes = word_shape; well_formed = refl }
