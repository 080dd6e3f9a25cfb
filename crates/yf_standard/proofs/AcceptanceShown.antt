-- Small example texts: one that is accepted, and one that the standard derives but that breaks another rule, so it
-- isn't accepted.
use Rattle.std.proofs.Common.{◌≡◌, ◌≤◌, ℕ, pos, ◌-ℤ◌, Bool, true, false, List, [], ◌∷◌, codes, refl, sym, ap, ◌∙◌, arith, true≢false}
use Rattle.std.specs.Str.{IsUtf8, chars}
use lib.Utf8.{encode}
use Rattle.yf_chars.specs.Text.{begins, code, next}
use Rattle.yf_chars.specs.Class.{is_ns_char, is_nb_char, is_printable, is_between, is_break_char, is_white, is_white_or_end, is_anchor_char, is_flow_indicator}
use Rattle.yf_chars.specs.Chain.Chain.{done, step}
use Rattle.yf_chars.specs.Chain.One.{one}
use Rattle.yf_chars.specs.declared.context.Ctx.TheVariants.{BlockIn}
use Rattle.yf_lines.specs.Basic.{Clear, is_marker, is_three}
use Rattle.yf_lines.specs.Basic.LineStart.{at_text}
use Rattle.yf_lines.specs.Basic.SeparateInLine.{at_start}
use Rattle.yf_lines.proofs.BasicLemmas.{clear_join}
use Rattle.yf_comments.specs.Comments.LineEnd.{past_rest}
use Rattle.yf_comments.specs.Comments.LineRest.{nothing}
use Rattle.yf_comments.specs.Comments.BreakOrEnd.{by_end}
use Rattle.yf_comments.specs.Comments.Separate.{in_node}
use Rattle.yf_comments.specs.Comments.SeparateLines.{in_line}
use Rattle.yf_props.specs.Names.{Alias, AnchorChar, asterisk_name}
use Rattle.yf_events.specs.declared.reading.TheConstants.{DEPTH}
use Rattle.yf_grammar.specs.Productions.Grammar.{BlockNode, Derives, flow_in_block, flow_node, an_alias}
use Rattle.yf_grammar.specs.Productions.Meaning.{Meaning, alias_to, meaning_after, from_to, noting, plain_event}
use Rattle.yf_grammar.proofs.Shown.ShownParts.{clear_place, differs}
use Rattle.yf_stream.specs.Stream.{Documents, Stream, with_comments, with_document, document_of, only_comments, content_at, bare_document, stream_ended, begins_with_document, without_document}
use Rattle.yf_stream.specs.WellFormed.{breaches}
use Rattle.yf_stream.proofs.LawsHold.{streams_are_one}
use Rattle.yf_standard.specs.Acceptance.{IsStandardText}
use Rattle.yf_standard.specs.Laws.{IsStandardStream}
use Rattle.yf_standard.proofs.LawsHold.{streams_are_standard}

-- a stream that breaks no rule
is_text : {t : List ℕ} {h : ℕ} {x : Documents} → IsUtf8 t → Stream t h x → h ≤ DEPTH → breaches x.documents ≡ [] → IsStandardText t
is_text {t} {h} {x} u d l none = record {
  utf8 = u;
  stream = streams_are_standard t h x u d l;
  well_formed = λ g y e m. ap (λ (w : Documents). breaches w.documents) (streams_are_one t h g x y u d l e m) ∙ none;
}

-- the empty text
nothing_derived : Stream [] 0 (only_comments [])
unfolding with_comments
nothing_derived = without_document done stream_ended

nothing_is_text : IsStandardText []
nothing_is_text = is_text ([], (refl, refl)) nothing_derived (omega arith) refl

-- *a
abbrev alias : List ℕ
alias = codes "*a"

alias_utf8 : IsUtf8 alias
unfolding encode
alias_utf8 = (codes "*a", (refl, refl))

alias_clear : Clear alias 0 2
unfolding code begins chars is_marker is_three is_white_or_end is_white is_break_char
alias_clear = clear_join (clear_place {i = 0} refl) (clear_place {i = 1} refl)

no_more : {j : ℕ} {x : List ℕ} → AnchorChar alias 2 j x → ⊥
unfolding code begins chars is_anchor_char is_ns_char is_nb_char is_printable is_between is_break_char is_white is_flow_indicator
no_more (one e) = true≢false (sym e)

alias_named : Alias alias 0 2 (codes "a")
unfolding code begins chars next is_anchor_char is_ns_char is_nb_char is_printable is_between is_break_char is_white is_flow_indicator
alias_named = asterisk_name refl (record {
  characters = codes "a";
  chain = step (one refl) done;
  some = omega arith;
  all = record { none = λ j x d. no_more d };
})

abbrev alias_node : Meaning
alias_node = meaning_after [] (noting (alias_to (codes "a") 0 2) [])

alias_block : Derives alias 0 (BlockNode (pos 0 -ℤ pos 1) BlockIn) 0 2 alias_node
alias_block = flow_in_block refl (in_node refl (in_line (at_start at_text))) (flow_node (an_alias refl alias_named)) (past_rest (nothing (by_end refl)) done)

abbrev alias_documents : Documents
alias_documents = with_document alias_node.comments (document_of 0 false [] alias_node) (only_comments [])

alias_derived : Stream alias 0 alias_documents
unfolding code begins chars is_ns_char is_nb_char is_printable is_between is_break_char is_white meaning_after noting alias_to with_document document_of
alias_derived = begins_with_document done (bare_document (record { derived = alias_block; clear = alias_clear }) (content_at (at_start at_text) refl (differs refl))) stream_ended

-- the standard derives it
alias_is_stream : IsStandardStream alias
alias_is_stream = streams_are_standard alias 0 alias_documents alias_utf8 alias_derived (omega arith)

-- but no anchor of that name is before it
abbrev has_any : {A : Type 0} → List A → Bool
has_any [] = false
has_any (a ∷ more) = true

alias_breaches : has_any (breaches alias_documents.documents) ≡ true
unfolding meaning_after noting alias_to with_document document_of plain_event from_to
alias_breaches = refl

alias_is_no_text : IsStandardText alias → ⊥
alias_is_no_text s = true≢false (sym alias_breaches ∙ ap has_any (s.well_formed 0 alias_documents alias_derived (omega arith)))
