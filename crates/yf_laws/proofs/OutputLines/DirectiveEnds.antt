-- A directive ends with a visible character.
use Rattle.std.proofs.Common.{◌≡◌, ℕ, ◌+◌, ◌<◌, ◌≤◌, Bool, true, List, refl, subst, arith}
use Rattle.std.proofs.lemmas.Bool.Decides.{nat_tests}
use Rattle.std.specs.Str.{IsUtf8}
use Rattle.yf_chars.specs.Chain.{Chain, One}
use Rattle.yf_chars.specs.Chain.Chain.{done, step}
use Rattle.yf_chars.specs.Chain.One.{one}
use Rattle.yf_chars.specs.Class.{is_between, is_digit, is_ns_char}
use Rattle.yf_chars.specs.Text.{code, next}
use Rattle.yf_chars.proofs.TextLemmas.{reads_real}
use Rattle.yf_plain.proofs.PlainLemmas.{ns_below}
use Rattle.yf_props.specs.Names.{SpelledChar, TagPrefix, UriChar}
use Rattle.yf_props.specs.Names.SpelledChar.{as_itself, as_escape}
use Rattle.yf_props.specs.Names.TagPrefix.{local_prefix, global_prefix}
use Rattle.yf_props.proofs.SeparationEnds.{Solid}
use Rattle.yf_props.proofs.SolidLemmas.{hex_solid, tag_solid, uri_solid}
use Rattle.yf_grammar.proofs.Ends.BlankRuns.{ContentBefore, after_byte}
use Rattle.yf_grammar.proofs.BlockOutcomes.NodesAfter.{solid_ns}
use Rattle.yf_stream.specs.Stream.{Parameters, ReservedParameter}
use Rattle.yf_stream.specs.Stream.Parameters.{version_parameter, tag_parameters, reserved_parameters}
use Rattle.yf_stream.specs.Stream.ReservedParameter.{reserved_parameter}
use Rattle.yf_laws.specs.Layouts.FitDocuments.{DirectiveAt}
use Rattle.yf_stream.proofs.Uniqueness.OneDirective.{digit_ns, ascii_ns}

bounds : (c : ℕ) → is_digit c ≡ true → (48 ≤ c) × (c ≤ 57)
unfolding is_digit is_between
bounds c e = grind (arith, nat_tests)

module _ {t : List ℕ} (u : IsUtf8 t) where
  char_seen : (i : ℕ) → is_ns_char (code t i) ≡ true → ContentBefore t (next t i)
  char_seen i n = record { at = i; char = code t i; reads = reads_real t i u (ns_below (code t i) n); ns = n }

  chars_seen : {p : ℕ → Bool} {i j : ℕ} {x : List ℕ} → ((c : ℕ) → p c ≡ true → is_ns_char c ≡ true) → Chain (One t p) i j x → i < j → ContentBefore t j
  chars_seen f done l = absurd (omega (arith, l))
  chars_seen f (step (one {i = i} e) c) l = later f (char_seen i (f (code t i) e)) c where
    later : {p : ℕ → Bool} {i j : ℕ} {x : List ℕ} → ((c : ℕ) → p c ≡ true → is_ns_char c ≡ true) → ContentBefore t i → Chain (One t p) i j x → ContentBefore t j
    later f b done = b
    later f b (step (one {i = i} e) c) = later f (char_seen i (f (code t i) e)) c

  spelled_seen : {p : ℕ → Bool} {i j : ℕ} {x : List ℕ} → ((c : ℕ) → p c ≡ true → Solid c) → SpelledChar t p i j x → ContentBefore t j
  spelled_seen f (as_itself {i = i} e) = char_seen i (solid_ns (code t i) (f (code t i) e))
  spelled_seen f (as_escape {i = i} a b c) =
      let s = hex_solid (code t (i + 2)) c in
      let high = s.high in
      let place : i + 2 + 1 ≡ i + 3 = omega arith in
      subst (λ k. ContentBefore t k) place (after_byte (i + 2) u refl (omega (arith, high)) (solid_ns (code t (i + 2)) s))

  uris_seen : {i j : ℕ} {x : List ℕ} → ContentBefore t i → Chain (UriChar t) i j x → ContentBefore t j
  uris_seen b done = b
  uris_seen b (step s c) = uris_seen (spelled_seen uri_solid s) c

  prefix_seen : {i j : ℕ} {x : List ℕ} → TagPrefix t i j x → ContentBefore t j
  prefix_seen (local_prefix {i = i} e c) = uris_seen (after_byte i u e (omega arith) (ascii_ns 33 (omega arith) (omega arith))) c
  prefix_seen (global_prefix s c) = uris_seen (spelled_seen tag_solid s) c

  reserved_seen : {i j : ℕ} {x : List (List ℕ)} → ContentBefore t i → Chain (ReservedParameter t) i j x → ContentBefore t j
  reserved_seen b done = b
  reserved_seen b (step (reserved_parameter s n r) c) = reserved_seen (chars_seen (λ c e. e) r.chain r.some) c

  parameters_seen : {name : List ℕ} {i j : ℕ} {x : List (List ℕ)} → ContentBefore t i → Parameters t name i j x → ContentBefore t j
  parameters_seen b (version_parameter e s r dot q) = chars_seen digit_ns q.chain q.some
  parameters_seen b (tag_parameters e s h p q) = prefix_seen q
  parameters_seen b (reserved_parameters n m c) = reserved_seen b c

  pub directive_seen : {q l : ℕ} {words : List (List ℕ)} → DirectiveAt t q l words → ContentBefore t l
  directive_seen a = parameters_seen (chars_seen (λ c e. e) a.name.chain a.name.some) a.parameters
