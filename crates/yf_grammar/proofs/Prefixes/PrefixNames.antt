-- A prefix derives aliases, anchors, tags and properties as the text does.
use Rattle.std.proofs.Common.{◌≡◌, ℕ, ◌+◌, ◌<◌, ◌≤◌, ℤ, ⊎_elim, Bool, true, false, true≢false, List, refl, sym, ap, ◌∙◌, arith}
use Rattle.std.proofs.lemmas.Bool.{cases_lt}
use Rattle.yf_chars.specs.Text.{code, no_char}
use Rattle.yf_chars.specs.Chain.{One}
use Rattle.yf_chars.specs.Chain.One.{one}
use Rattle.yf_chars.specs.Class.{is_anchor_char, is_between, is_digit, is_flow_indicator, is_hex_digit, is_tag_char, is_uri_char, is_word_char}
use Rattle.yf_chars.specs.ClassEnds.{no_anchor_char, no_word_char}
use Rattle.yf_chars.specs.declared.context.Ctx.{Ctx}
use Rattle.yf_chars.proofs.TextLemmas.{next_later, code-past}
use Rattle.yf_props.specs.Names.{SpelledChar, as_itself, as_escape, Run, Anchor, ampersand_name, Alias, asterisk_name, Handle, primary_handle, secondary_handle, named_handle, VerbatimTag, in_brackets, ShorthandTag, handle_suffix, TagProperty, verbatim_tag, shorthand_tag, non_specific_tag, Properties, PropertiesValue, by_tag, by_anchor, tag_first, anchor_first}
use Rattle.yf_props.specs.Props.{TagValue}
use Rattle.yf_props.proofs.NameOrder.{anchor_forward}
use Rattle.yf_props.proofs.SeparationEnds.{separate_forward}
use Rattle.yf_props.proofs.TagLemmas.{tag_later}
use Rattle.yf_grammar.proofs.Prefixes.PrefixTexts.{alike_back, alike_next, alike_slice}
use Rattle.yf_grammar.proofs.Prefixes.PrefixLines.{Carried, chain_there, one_carried, passes_there, char_there}
use Rattle.yf_grammar.proofs.Prefixes.PrefixComments.{PrefixText, separate_in_prefix}
use Rattle.yf_chars.proofs.CharFacts.{end_no_tag, end_no_uri}

no_hex_digit : is_hex_digit no_char ≡ false
unfolding is_hex_digit is_digit is_between
no_hex_digit = refl

module _ {t s : List ℕ} {k : ℕ} (f : PrefixText t s k) where
  -- no character of the prefix is at the offset or after it
  pub inside : (p : ℕ → Bool) → p no_char ≡ false → (i : ℕ) → p (code s i) ≡ true → i < k
  inside p n i e = ⊎_elim
      (λ (l : i < k). l)
      (λ (l : k ≤ i).
      let c = f.closed in
      absurd (true≢false (sym e ∙ ap p (code-past s i (omega arith)) ∙ n)))
      (cases_lt i k)

  pub one_back : (p : ℕ → Bool) → p no_char ≡ false → {i j : ℕ} {x : List ℕ} → One s p i j x → One t p i j x
  one_back p n (one {i = i} e) =
      let l = inside p n i e in
      let b = alike_back f.alike in
      rw (alike_next b i l, b.codes i l) (one (passes_there b p i l e))

  spelled_carried : (p : ℕ → Bool) → Carried k (SpelledChar t p) (SpelledChar s p)
  spelled_carried p = record { order = λ i j x d. order d; there = λ i j x d l. there d l } where
    order : {i j : ℕ} {x : List ℕ} → SpelledChar t p i j x → i ≤ j
    order (as_itself {i = i} e) = let g = next_later t i in omega arith
    order (as_escape e d h) = omega arith

    there : {i j : ℕ} {x : List ℕ} → SpelledChar t p i j x → j ≤ k → SpelledChar s p i j x
    there (as_itself {i = i} e) l =
        let g = next_later t i in
        let m : i < k = omega arith in
        rw (alike_next f.alike i m, f.alike.codes i m) (as_itself (passes_there f.alike p i m e))
    there (as_escape {i = i} e d h) l =
        let m : i + 1 < k = omega arith in
        let n : i + 2 < k = omega arith in
        rw (f.alike.codes (i + 1) m, f.alike.codes (i + 2) n)
        (as_escape (char_there f.alike i (omega arith) e) (passes_there f.alike is_hex_digit (i + 1) m d) (passes_there f.alike is_hex_digit (i + 2) n h))

  spelled_back : (p : ℕ → Bool) → p no_char ≡ false → {i j : ℕ} {x : List ℕ} → SpelledChar s p i j x → SpelledChar t p i j x
  spelled_back p n (as_itself {i = i} e) =
      let l = inside p n i e in
      let b = alike_back f.alike in
      rw (alike_next b i l, b.codes i l) (as_itself (passes_there b p i l e))
  spelled_back p n (as_escape {i = i} e d h) =
      let l = inside is_hex_digit no_hex_digit (i + 2) h in
      let m : i + 1 < k = omega arith in
      let b = alike_back f.alike in
      rw (b.codes (i + 1) m, b.codes (i + 2) l)
      (as_escape (char_there b i (omega arith) e) (passes_there b is_hex_digit (i + 1) m d) (passes_there b is_hex_digit (i + 2) l h))

  one_run : (p : ℕ → Bool) → p no_char ≡ false → {i j : ℕ} → Run (One t p) i j → j ≤ k → Run (One s p) i j
  one_run p n {i} {j} r l = record {
    characters = r.characters;
    chain = chain_there (one_carried f.alike p) r.chain l;
    some = r.some;
    all = record { none = λ h x o. r.all.none h x (one_back p n o) };
  }

  spelled_run : (p : ℕ → Bool) → p no_char ≡ false → {i j : ℕ} → Run (SpelledChar t p) i j → j ≤ k → Run (SpelledChar s p) i j
  spelled_run p n {i} {j} r l = record {
    characters = r.characters;
    chain = chain_there (spelled_carried p) r.chain l;
    some = r.some;
    all = record { none = λ h x o. r.all.none h x (spelled_back p n o) };
  }

  anchor_in_prefix : {i j : ℕ} {x : List ℕ} → Anchor t i j x → j ≤ k → Anchor s i j x
  anchor_in_prefix (ampersand_name {i = i} {j = j} e r) l =
      let g = r.some in
      rw (alike_slice f.alike (i + 1) j l) (ampersand_name (char_there f.alike i (omega arith) e) (one_run is_anchor_char no_anchor_char r l))

  pub alias_in_prefix : {i j : ℕ} {x : List ℕ} → Alias t i j x → j ≤ k → Alias s i j x
  alias_in_prefix (asterisk_name {i = i} {j = j} e r) l =
      let g = r.some in
      rw (alike_slice f.alike (i + 1) j l) (asterisk_name (char_there f.alike i (omega arith) e) (one_run is_anchor_char no_anchor_char r l))

  handle_in_prefix : {i j : ℕ} → Handle t i j → j ≤ k → Handle s i j
  handle_in_prefix (primary_handle {i = i} e) l = primary_handle (char_there f.alike i (omega arith) e)
  handle_in_prefix (secondary_handle {i = i} e d) l = secondary_handle (char_there f.alike i (omega arith) e) (char_there f.alike (i + 1) (omega arith) d)
  handle_in_prefix (named_handle {i = i} {j = j} e r d) l =
      let g = r.some in
      named_handle (char_there f.alike i (omega arith) e) (one_run is_word_char no_word_char r (omega arith)) (char_there f.alike j (omega arith) d)

  verbatim_in_prefix : {i j : ℕ} {x : List ℕ} → VerbatimTag t i j x → j ≤ k → VerbatimTag s i j x
  verbatim_in_prefix (in_brackets {i = i} {j = j} e d r c) l =
      let g = r.some in
      rw (alike_slice f.alike (i + 2) j (omega arith))
      (in_brackets (char_there f.alike i (omega arith) e) (char_there f.alike (i + 1) (omega arith) d) (spelled_run is_uri_char end_no_uri r (omega arith)) (char_there f.alike j (omega arith) c))

  shorthand_in_prefix : {i j : ℕ} {x : TagValue} → ShorthandTag t i j x → j ≤ k → ShorthandTag s i j x
  shorthand_in_prefix (handle_suffix {i = i} {h = h} {j = j} d r) l =
      let g = r.some in
      rw (alike_slice f.alike i h (omega arith), alike_slice f.alike h j l)
      (handle_suffix (handle_in_prefix d (omega arith)) (spelled_run is_tag_char end_no_tag r l))

  tag_in_prefix : {i j : ℕ} {x : TagValue} → TagProperty t i j x → j ≤ k → TagProperty s i j x
  tag_in_prefix (verbatim_tag d) l = verbatim_tag (verbatim_in_prefix d l)
  tag_in_prefix (shorthand_tag d) l = shorthand_tag (shorthand_in_prefix d l)
  tag_in_prefix (non_specific_tag {i = i} e n) l =
      non_specific_tag (char_there f.alike i (omega arith) e) (record { none = λ h x o. n.none h x (spelled_back is_tag_char end_no_tag o) })

  pub properties_in_prefix : {n : ℤ} {c : Ctx} {i j : ℕ} {p : PropertiesValue} → Properties t n c i j p → j ≤ k → Properties s n c i j p
  properties_in_prefix (by_tag d) l = by_tag (tag_in_prefix d l)
  properties_in_prefix (by_anchor d) l = by_anchor (anchor_in_prefix d l)
  properties_in_prefix (tag_first d e g) l =
      let m = separate_forward e in let h = anchor_forward g in
      tag_first (tag_in_prefix d (omega arith)) (separate_in_prefix f e (omega arith)) (anchor_in_prefix g l)
  properties_in_prefix (anchor_first d e g) l =
      let m = separate_forward e in let h = tag_later g in
      anchor_first (anchor_in_prefix d (omega arith)) (separate_in_prefix f e (omega arith)) (tag_in_prefix g l)
