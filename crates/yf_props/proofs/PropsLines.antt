-- Names, tags and properties are on one line.
use Rattle.std.proofs.Common.{◌≡◌, ℕ, Bool, true, Option, Some, None, List, [], ◌∷◌, ◌++◌, refl, arith, subst, append-nil}
use Rattle.std.proofs.lemmas.Bool.{and_parts}
use Rattle.std.proofs.Common.{not, ◌&&◌}
use Rattle.yf_chars.specs.Class.{is_anchor_char, is_ns_char, is_nb_char, is_white, is_word_char, is_flow_indicator}
use Rattle.yf_lines.specs.LineText.{AllNb, IsLineText}
use Rattle.yf_lines.proofs.RestLemmas.{line_append, line_nothing}
use Rattle.yf_lines.proofs.VisibleLines.{visible_line}
use Rattle.yf_props.specs.Props.{PropsValue, TagValue}
use Rattle.yf_props.specs.Written.{AllOf, IsName, IsSpelled, nothing_spelled, itself_spelled, escape_spelled, IsHandle, primary_form, secondary_form, named_form, IsTag, verbatim_form, short_form, lone_form, IsProps, alias_bytes, anchor_bytes, tag_bytes, parts_bytes, props_bytes}
use Rattle.yf_props.proofs.SeparationEnds.{Solid}
use Rattle.yf_props.proofs.SolidLemmas.{uri_solid, word_solid, tag_solid, hex_solid}

-- characters
pub solid : (c : ℕ) {x : List ℕ} → Solid c → IsLineText x → IsLineText (c ∷ x)
solid c s x = let l = s.low in let h = s.high in visible_line c (omega arith) (omega arith) x

anchor_nb : (c : ℕ) → is_anchor_char c ≡ true → is_nb_char c ≡ true
unfolding is_anchor_char is_ns_char
anchor_nb c e = (and_parts (is_nb_char c) (not (is_white c)) (and_parts (is_nb_char c && not (is_white c)) (not (is_flow_indicator c)) e).0).0

-- texts
names_nb : (cs : List ℕ) → AllOf is_anchor_char cs → AllNb cs
names_nb [] a = tt
names_nb (c ∷ cs) a = (anchor_nb c a.0, names_nb cs a.1)

name_line : {x : List ℕ} → IsName x → IsLineText x
name_line n = record { chars = n.chars; bytes = n.bytes; each = names_nb n.chars n.each }

pub spelled_line : {p : ℕ → Bool} {x y : List ℕ} → ((c : ℕ) → p c ≡ true → Solid c) → IsSpelled p x → IsLineText y → IsLineText (x ++ y)
spelled_line S nothing_spelled y = y
spelled_line S (itself_spelled {c = c} e k) y = solid c (S c e) (spelled_line S k y)
spelled_line S (escape_spelled {a = a} {b = b} e f k) y = visible_line 37 (omega arith) (omega arith) (solid a (hex_solid a e) (solid b (hex_solid b f) (spelled_line S k y)))

words_line : (x : List ℕ) {y : List ℕ} → AllOf is_word_char x → IsLineText y → IsLineText (x ++ y)
words_line [] a y = y
words_line (c ∷ x) a y = solid c (word_solid c a.0) (words_line x a.1 y)

pub mark_line : {x : List ℕ} → IsLineText x → IsLineText (33 ∷ x)
mark_line x = visible_line 33 (omega arith) (omega arith) x

pub handle_line : {h : List ℕ} → IsHandle h → IsLineText h
handle_line primary_form = mark_line line_nothing
handle_line secondary_form = mark_line (mark_line line_nothing)
handle_line (named_form {x = x} a n) = mark_line (words_line x a (mark_line line_nothing))

tag_line : {v : TagValue} → IsTag v → IsLineText (tag_bytes v)
tag_line (verbatim_form k n) =
    mark_line (visible_line 60 (omega arith) (omega arith) (spelled_line uri_solid k (visible_line 62 (omega arith) (omega arith) line_nothing)))
tag_line (short_form {h = h} {x = x} a k n) = line_append (handle_line a) (subst (λ w. IsLineText w) (append-nil x) (spelled_line tag_solid k line_nothing))
tag_line lone_form = mark_line line_nothing

pub alias_line_text : {name : List ℕ} → IsName name → IsLineText (alias_bytes name)
alias_line_text n = visible_line 42 (omega arith) (omega arith) (name_line n)

anchor_line : {name : List ℕ} → IsName name → IsLineText (anchor_bytes name)
anchor_line n = visible_line 38 (omega arith) (omega arith) (name_line n)

pub props_line_text : {p : PropsValue} → IsProps p → IsLineText (props_bytes p)
props_line_text {p} k = go p.anchor p.tag refl refl where
  go : (a : Option (List ℕ)) (v : Option TagValue) → p.anchor ≡ a → p.tag ≡ v → IsLineText (parts_bytes a v)
  go None None e g = line_nothing
  go None (Some v) e g = tag_line (k.tag v g)
  go (Some a) None e g = anchor_line (k.anchor a e)
  go (Some a) (Some v) e g = line_append (anchor_line (k.anchor a e)) (visible_line 32 (omega arith) (omega arith) (tag_line (k.tag v g)))
