-- The empty text: each derivation of it is the stream without documents and comments, so it has one shape.
use Rattle.std.proofs.Common.{◌≡◌, ℕ, ◌<◌, true, List, [], ◌++◌, refl, sym, ap, ◌∙◌, arith}
use Rattle.std.proofs.lemmas.Bool.{true≢false}
use Rattle.yf_chars.specs.Text.{code, no_char}
use Rattle.yf_chars.proofs.TextLemmas.{code-past}
use Rattle.yf_lines.proofs.BasicLemmas.{three_first}
use Rattle.yf_chars.specs.Class.{is_between, is_printable, is_break_char, is_nb_char, is_ns_char, is_white}
use Rattle.yf_chars.specs.Chain.{Many}
use Rattle.yf_chars.specs.Chain.Chain.{done, step}
use Rattle.yf_chars.specs.Chain.One.{one}
use Rattle.yf_lines.specs.Basic.{Break, SeparateInLine, is_three}
use Rattle.yf_lines.specs.Basic.Break.{cr_lf, lone_cr, lone_lf}
use Rattle.yf_lines.specs.Basic.SeparateInLine.{at_start, by_whites}
use Rattle.yf_comments.specs.Comment.{CommentValue}
use Rattle.yf_comments.specs.Comments.{BreakOrEnd, CommentLine, CommentText}
use Rattle.yf_comments.specs.Comments.BreakOrEnd.{by_break, by_end}
use Rattle.yf_comments.specs.Comments.CommentLine.{comment_line, whites_line}
use Rattle.yf_comments.specs.Comments.CommentText.{comment_text}
use Rattle.yf_stream.specs.Stream.{AnyDocument, DirectiveLines, Documents, ExplicitNode, PrefixPart, Prefixes, Stream, StreamRest, Suffixes, with_comments}
use Rattle.yf_stream.specs.Stream.AnyDocument.{bare_document, directive_document, explicit_document}
use Rattle.yf_stream.specs.Stream.ContentAt.{content_at}
use Rattle.yf_stream.specs.Stream.DirectiveLines.{last_directive, more_directives}
use Rattle.yf_stream.specs.Stream.ExplicitNode.{marked_node, marked_nothing}
use Rattle.yf_stream.specs.Stream.PrefixPart.{order_mark, prefix_comment}
use Rattle.yf_stream.specs.Stream.Stream.{begins_with_document, without_document}
use Rattle.yf_stream.specs.Stream.StreamRest.{past_explicit, past_prefix, past_suffixes, past_suffixes_and_document, stream_ended}
use Rattle.yf_stream.specs.Stream.Suffixes.{last_suffix, more_suffixes}
use Rattle.yf_stream.specs.WellFormed.{ReadsWithoutBreach, Shapes}

-- the text has no character
no_code : (i : ℕ) → code [] i ≡ no_char
no_code i = code-past [] i (omega arith)

not_char : (i c : ℕ) → c < no_char → code [] i ≡ c → ⊥
not_char i c l e = let n = no_code i in omega arith

no_white : (i : ℕ) → is_white (code [] i) ≡ true → ⊥
unfolding is_white
no_white i e = true≢false (sym e ∙ ap is_white (no_code i))

no_content : (i : ℕ) → is_ns_char (code [] i) ≡ true → ⊥
unfolding is_ns_char is_nb_char is_printable is_between is_break_char is_white
no_content i e = true≢false (sym e ∙ ap is_ns_char (no_code i))

no_three : (i c : ℕ) → c < no_char → is_three [] i c ≡ true → ⊥
no_three i c l e = true≢false (sym e ∙ three_first [] i c (not_char i c l))

no_break : {i j : ℕ} → Break [] i j → ⊥
no_break (cr_lf p q) = not_char _ 13 (omega arith) p
no_break (lone_cr p q) = not_char _ 13 (omega arith) p
no_break (lone_lf p q) = not_char _ 10 (omega arith) p

separation_stays : {i j : ℕ} → SeparateInLine [] i j → j ≡ i
separation_stays (at_start l) = refl
separation_stays (by_whites w l) = go w l where
  go : {i j : ℕ} {x : List ℕ} → Many [] is_white i j x → i < j → j ≡ i
  go done l = refl
  go (step (one e) c) l = absurd (no_white _ e)

end_stays : {i j : ℕ} → BreakOrEnd [] i j → j ≡ i
end_stays (by_break b) = absurd (no_break b)
end_stays (by_end e) = refl

no_text : {i j : ℕ} {x : List CommentValue} → CommentText [] i j x → ⊥
no_text (comment_text p c n) = not_char _ 35 (omega arith) p

-- document prefixes are empty
record Stays (i j : ℕ) (cs : List CommentValue) : Type 0 where
  end : j ≡ i
  none : cs ≡ []

line_stays : {i j : ℕ} {cs : List CommentValue} → CommentLine [] i j cs → Stays i j cs
line_stays (whites_line s e) = record { end = end_stays e ∙ separation_stays s; none = refl }
line_stays (comment_line s c e) = absurd (no_text c)

part_stays : {i j : ℕ} {cs : List CommentValue} → PrefixPart [] i j cs → Stays i j cs
part_stays (order_mark e) = absurd (not_char _ 0xFEFF (omega arith) e)
part_stays (prefix_comment c) = line_stays c

prefix_stays : {i j : ℕ} {cs : List CommentValue} → Prefixes [] i j cs → Stays i j cs
prefix_stays done = record { end = refl; none = refl }
prefix_stays (step {x = x} {y = y} p c) =
    let a = part_stays p in let b = prefix_stays c in
    record { end = b.end ∙ a.end; none = ap (λ w. w ++ y) a.none ∙ b.none }

-- neither documents nor ends of documents are derived
no_explicit : {h i j : ℕ} {x : _} → ExplicitNode [] h i j x → ⊥
no_explicit (marked_node m b) = no_three _ 45 (omega arith) m
no_explicit (marked_nothing m e) = no_three _ 45 (omega arith) m

no_directive : {i j : ℕ} {x : _} → DirectiveLines [] i j x → ⊥
no_directive (last_directive p n ps e) = not_char _ 37 (omega arith) p
no_directive (more_directives a b) = no_directive a

no_document : {h i j : ℕ} {d : _} {cs : List CommentValue} → AnyDocument [] h i j d cs → ⊥
no_document (bare_document b (content_at s n c)) = no_content _ n
no_document (explicit_document e) = no_explicit e
no_document (directive_document d e) = no_directive d

no_suffix : {i j : ℕ} {cs : List CommentValue} → Suffixes [] i j cs → ⊥
no_suffix (last_suffix m e) = no_three _ 46 (omega arith) m
no_suffix (more_suffixes m e s) = no_three _ 46 (omega arith) m

abbrev empty_stream : Documents
empty_stream = record { documents = []; comments = [] }

rest_is : {h i : ℕ} {x : Documents} → StreamRest [] h i x → x ≡ empty_stream
unfolding with_comments
rest_is stream_ended = refl
rest_is (past_prefix {x = x} p r) = let a = part_stays p in ap (λ cs. with_comments cs x) a.none ∙ rest_is r
rest_is (past_suffixes s p r) = absurd (no_suffix s)
rest_is (past_suffixes_and_document s p d r) = absurd (no_suffix s)
rest_is (past_explicit e r) = absurd (no_explicit e)

empty_stream_read : Stream [] 0 empty_stream
unfolding with_comments
empty_stream_read = without_document done stream_ended

empty_stream_only : (h : ℕ) (x : Documents) → Stream [] h x → x ≡ empty_stream
unfolding with_comments
empty_stream_only h x (begins_with_document p d r) = absurd (no_document d)
empty_stream_only h x (without_document {x = rest} p r) = let a = prefix_stays p in ap (λ cs. with_comments cs rest) a.none ∙ rest_is r

empty_shape : Shapes [] empty_stream
empty_shape = record { height = 0; derived = empty_stream_read; within = omega arith; only = λ h x d l. empty_stream_only h x d }

empty_reading : ReadsWithoutBreach [] empty_stream
empty_reading = record { shapes = empty_shape; well_formed = refl }
